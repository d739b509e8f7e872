-- The names and numbers of a tree that was read are fine.
use Rattle.std.proofs.Common.{◌≡◌, ℕ, suc, true, List, [], ◌∷◌, ◌++◌, map, Some, refl, subst}
use Rattle.std.specs.Prelude.{encode_utf8_all}
use Rattle.std.specs.Str.{all_scalars}
use Rattle.std.proofs.lemmas.Bool.{and_parts, and_from}
use Rattle.pcf_reader.proofs.Lists.{WritesNarrow, each_left, each_right}
use Rattle.pcf_reader.specs.Tokens.{Token, Close, Colon, Dot, Comma, Sign, Then, Else, Name, Placed}
use Rattle.pcf_reader.specs.Grammar.{Expr, binding, choice, only_sum, Sum, only_product, summed, Product, only_app, multiplied, App}
use Rattle.pcf_reader.specs.Grammar.{only_atom, applied, Atom, numeral, variable, parens, pairing, prefixed, expr_part, sum_part}
use Rattle.pcf_reader.specs.Grammar.{product_part, app_part_of, atom_part, Written, placed, plain, marked, type_text, expr_text, sum_text}
use Rattle.pcf_reader.specs.Grammar.{product_text, app_text, atom_text}
use Rattle.pcf_reader.specs.Spelling.{sign_of, word_of, Spells, sign, arrow, digits, word, Splits, ends, blank, comment, token, junk}
use Rattle.pcf_reader.specs.Text.{IsNarrow, Each}
use Rattle.pcf_reader.proofs.Spelled.{sign_token, word_token}
use Rattle.pcf_reader.proofs.Shown.{IsName, Fine}

-- a name among the tokens is one
abbrev pub IsFineToken : Token → Type 0
IsFineToken (Name x) = IsName x
IsFineToken _ = Unit {0}

-- each token of a list is
abbrev pub AreFine : List Placed → Type 0
AreFine [] = Unit {0}
AreFine (p ∷ ps) = IsFineToken p.token × AreFine ps

-- both parts of a text of scalar values are of scalar values
scalars_left : (u v : List ℕ) → all_scalars (u ++ v) ≡ true → all_scalars u ≡ true
scalars_left [] v h = refl
scalars_left (c ∷ u) v h = and_from _ (all_scalars u) (and_parts _ (all_scalars (u ++ v)) h).0
    (scalars_left u v (and_parts _ (all_scalars (u ++ v)) h).1)

scalars_right : (u v : List ℕ) → all_scalars (u ++ v) ≡ true → all_scalars v ≡ true
scalars_right [] v h = h
scalars_right (c ∷ u) v h = scalars_right u v (and_parts _ (all_scalars (u ++ v)) h).1

-- a word is a keyword or a name
word_fine : (w : List ℕ) → (word_of w ≡ Name w → IsName w) → IsFineToken (word_of w)
word_fine w h =
    word_token (λ r. word_of w ≡ r → IsFineToken r) w (λ _. tt) (λ _. tt) (λ _. tt) (λ _. tt) (λ _. tt) (λ _. tt) (λ _. tt)
    (λ _ _. tt) (λ _. tt) (λ e. h e) refl

-- a sign is no name
sign_fine : (c : ℕ) (x : Token) → sign_of c ≡ Some x → IsFineToken x
sign_fine c x h = sign_token IsFineToken c x tt tt tt tt tt (λ _. tt) h

-- what characters spell
spells_fine : (cs : List ℕ) (x : Token) → all_scalars cs ≡ true → Spells cs x → IsFineToken x
spells_fine cs x s (sign c y e) = sign_fine c y e
spells_fine cs x s arrow = tt
spells_fine cs x s (digits c ds all) = tt
spells_fine cs x s (word c ds start all) =
    word_fine (encode_utf8_all (c ∷ ds)) (λ e.
    record { first = c; more = ds; spelled = refl; starts = start; goes_on = all; scalars = s; no_keyword = e })

-- and so each token of a text
pub splits_fine : (at : ℕ) (cs : List ℕ) (items : List Placed) → all_scalars cs ≡ true → Splits at cs items → AreFine items
splits_fine at cs items s (ends i) = (tt, tt)
splits_fine at cs items s (blank i c ds xs e h) = splits_fine _ ds xs (and_parts _ (all_scalars ds) s).1 h
splits_fine at cs items s (comment i text ds rest xs e all line h) =
    splits_fine _ rest xs (scalars_right (35 ∷ ds) rest (subst (λ z. all_scalars z ≡ true) e s)) h
splits_fine at cs items s (token i text ds rest x xs e spells long h) = (
  spells_fine ds x (scalars_left ds rest (subst (λ z. all_scalars z ≡ true) e s)) spells,
  splits_fine _ rest xs (scalars_right ds rest (subst (λ z. all_scalars z ≡ true) e s)) h,
)
splits_fine at cs items s (junk i c ds nb nc none) = (tt, tt)

-- a written token is fine and narrow, and each of a list is
abbrev pub IsGood : Written → Type 0
IsGood w = IsFineToken w.token × IsNarrow w.token

-- each of a list is
abbrev pub Good : List Written → Type 0
Good ws = Each IsGood ws

-- the tokens of a text that are narrow are good
pub good_from : (ws : List Written) → AreFine (map placed ws) → Each WritesNarrow ws → Good ws
good_from [] h k = tt
good_from (w ∷ ws) h k = ((h.0, k.0), good_from ws h.1 k.1)

-- a phrase of such tokens has a fine tree
mutual
  pub fine_expr : (o : ℕ) (e : Expr) → Good (expr_text o e) → Fine (expr_part e).tree
  fine_expr o (binding at b xat x colon t dot e) h =
      let name : Good (plain xat (Name x) ∷ plain colon Colon ∷ (type_text (suc o) t ++ plain dot Dot ∷ expr_text (suc o) e)) = h.1 in
      let types : Good (type_text (suc o) t ++ plain dot Dot ∷ expr_text (suc o) e) = name.1.1 in
      let body : Good (plain dot Dot ∷ expr_text (suc o) e) =
      each_right IsGood (type_text (suc o) t) (plain dot Dot ∷ expr_text (suc o) e) types in
      (name.0.0, fine_expr (suc o) e body.1)
  fine_expr o (choice at c i p j q) h =
      let third : List Written = plain j Else ∷ expr_text (suc o) q in
      let second : List Written = plain i Then ∷ (expr_text (suc o) p ++ third) in
      let all : Good (expr_text (suc o) c ++ second) = h.1 in
      let behind : Good second = each_right IsGood (expr_text (suc o) c) second all in
      let last : Good third = each_right IsGood (expr_text (suc o) p) third behind.1 in (
        fine_expr (suc o) c (each_left IsGood (expr_text (suc o) c) second all),
        fine_expr (suc o) p (each_left IsGood (expr_text (suc o) p) third behind.1),
        fine_expr (suc o) q last.1,
      )
  fine_expr o (only_sum s) h = fine_sum o s h

  pub fine_sum : (o : ℕ) (s : Sum) → Good (sum_text o s) → Fine (sum_part s).tree
  fine_sum o (only_product p) h = fine_product o p h
  fine_sum o (summed s at op _ p) h =
      let more : List Written = marked at (Sign op) (sum_part s).height 1 ∷ product_text o p in
      let behind : Good more = each_right IsGood (sum_text o s) more h in
      (fine_sum o s (each_left IsGood (sum_text o s) more h), fine_product o p behind.1)

  pub fine_product : (o : ℕ) (p : Product) → Good (product_text o p) → Fine (product_part p).tree
  fine_product o (only_app f) h = fine_app o f h
  fine_product o (multiplied m at op _ f) h =
      let more : List Written = marked at (Sign op) (product_part m).height 1 ∷ app_text o f in
      let behind : Good more = each_right IsGood (product_text o m) more h in
      (fine_product o m (each_left IsGood (product_text o m) more h), fine_app o f behind.1)

  pub fine_app : (o : ℕ) (f : App) → Good (app_text o f) → Fine (app_part_of f).tree
  fine_app o (only_atom a) h = fine_atom o 0 0 a h
  fine_app o (applied f a) h =
      let more : List Written = atom_text o (app_part_of f).height 1 a in (
        fine_app o f (each_left IsGood (app_text o f) more h),
        fine_atom o (app_part_of f).height 1 a (each_right IsGood (app_text o f) more h),
      )

  pub fine_atom : (o left extra : ℕ) (a : Atom) → Good (atom_text o left extra a) → Fine (atom_part a).tree
  fine_atom o left extra (numeral at n) h = h.0.1
  fine_atom o left extra (variable at x) h = h.0.0
  fine_atom o left extra (parens at e close) h = fine_expr (suc o) e (each_left IsGood (expr_text (suc o) e) (plain close Close ∷ []) h.1)
  fine_atom o left extra (pairing at a comma b close) h =
      let more : List Written = marked comma Comma 0 1 ∷ (expr_text (suc o) b ++ plain close Close ∷ []) in
      let all : Good (expr_text (suc o) a ++ more) = h.1 in
      let behind : Good more = each_right IsGood (expr_text (suc o) a) more all in (
        fine_expr (suc o) a (each_left IsGood (expr_text (suc o) a) more all),
        fine_expr (suc o) b (each_left IsGood (expr_text (suc o) b) (plain close Close ∷ []) behind.1),
      )
  fine_atom o left extra (prefixed at w a) h = fine_atom (suc o) 0 0 a h.1
