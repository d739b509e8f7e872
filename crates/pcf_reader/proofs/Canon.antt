-- Each tree has a phrase for what is printed of it, on each level of the grammar.
use Rattle.std.proofs.Common.{◌≡◌, ℕ, suc, ◌+◌, ◌<◌, List, [], ◌∷◌, ◌++◌, map, length, get_or, Some, refl, sym, ap, ◌∙◌}
use Rattle.std.proofs.Common.{subst, arith, append_assoc, length-append}
use Rattle.std.specs.Prelude.{codes}
use Rattle.std.specs.Char.{len_utf8}
use Rattle.pcf_values.specs.Most.{most_open}
use Rattle.pcf_values.specs.Terms.{TyTree, nat, arrow, product}
use Rattle.pcf_values.specs.declared.operator.Operator.{Operator}
use Rattle.pcf_values.specs.declared.side.Side.TheVariants.{Left, Right}
use Rattle.pcf_values.specs.Named.{Word, the_succ, the_pred, the_part, Binder, the_fun, the_fix}
use Rattle.pcf_reader.specs.Tokens.{Token, Open, Close, Colon, Dot, Comma, Sign, Arrow, Ifz, Then, Else, Nat, Bind, Before, star, Placed}
use Rattle.pcf_reader.specs.Grammar.{Type_, only_ptype, arrow_type, PType, only_tatom, times_type, TAtom, nat_type, paren_type, type_ty}
use Rattle.pcf_reader.specs.Grammar.{ptype_ty, tatom_ty, Written, placed, plain, marked, type_text, ptype_text, tatom_text}
use Rattle.pcf_reader.specs.Spelling.{sign_of, word_of, Splits, token, arrow as arrow_spelled}
use Rattle.pcf_reader.specs.Printed.{fitted, ty_level, ty_text, word_text, binder_text, op_text}
use Rattle.pcf_reader.specs.Text.{IsShallow, Each}
use Rattle.pcf_reader.proofs.Lists.{each_append, map-append}
use Rattle.pcf_reader.proofs.Shown.{fit_onto, fit_shallow, ty_onto, ty_shallow}
use Rattle.pcf_reader.proofs.Pieces.{Clear, clear_by, place_at, blank_piece, sign_piece, keyword_piece}
use Rattle.pcf_reader.proofs.Lexed.{at_place, arrow_longest}
use Rattle.pcf_values.proofs.Operators.{for_each}

-- the tokens of two parts, one behind the other
pub both_parts : (at : ℕ) (cs : List ℕ) (u v : List Written) (items : List Placed) →
    Splits at cs (map placed u ++ (map placed v ++ items)) → Splits at cs (map placed (u ++ v) ++ items)
both_parts at cs u v items h =
    subst (λ z. Splits at cs z) (sym (append_assoc (map placed u) (map placed v) items) ∙ ap (λ z. z ++ items) (sym (map-append u v))) h

-- what begins with a blank or one of these signs goes on with no word and no number
pub space : (cs : List ℕ) → Clear (32 ∷ cs)
space cs = clear_by 32 cs (omega arith) refl refl

pub closes : (cs : List ℕ) → Clear (41 ∷ cs)
closes cs = clear_by 41 cs (omega arith) refl refl

pub comma_clear : (cs : List ℕ) → Clear (44 ∷ cs)
comma_clear cs = clear_by 44 cs (omega arith) refl refl

pub colon_clear : (cs : List ℕ) → Clear (58 ∷ cs)
colon_clear cs = clear_by 58 cs (omega arith) refl refl

pub dot_clear : (cs : List ℕ) → Clear (46 ∷ cs)
dot_clear cs = clear_by 46 cs (omega arith) refl refl

-- nothing left of a token is below the limit
pub some_left : 0 < most_open
some_left = omega arith

-- signs without blanks around them
pub open_piece : (at : ℕ) (rest : List ℕ) (items : List Placed) → Splits (at + 1) rest items →
    Splits at (40 ∷ rest) (at_place at Open ∷ items)
open_piece at rest items h = sign_piece 40 Open at rest items refl refl (λ e. let z : ⊥ = omega (arith, e) in absurd z) h

pub close_piece : (at : ℕ) (rest : List ℕ) (items : List Placed) → Splits (at + 1) rest items →
    Splits at (41 ∷ rest) (at_place at Close ∷ items)
close_piece at rest items h = sign_piece 41 Close at rest items refl refl (λ e. let z : ⊥ = omega (arith, e) in absurd z) h

pub comma_piece : (at : ℕ) (rest : List ℕ) (items : List Placed) → Splits (at + 1) rest items →
    Splits at (44 ∷ rest) (at_place at Comma ∷ items)
comma_piece at rest items h = sign_piece 44 Comma at rest items refl refl (λ e. let z : ⊥ = omega (arith, e) in absurd z) h

pub colon_piece : (at : ℕ) (rest : List ℕ) (items : List Placed) → Splits (at + 1) rest items →
    Splits at (58 ∷ rest) (at_place at Colon ∷ items)
colon_piece at rest items h = sign_piece 58 Colon at rest items refl refl (λ e. let z : ⊥ = omega (arith, e) in absurd z) h

pub dot_piece : (at : ℕ) (rest : List ℕ) (items : List Placed) → Splits (at + 1) rest items →
    Splits at (46 ∷ rest) (at_place at Dot ∷ items)
dot_piece at rest items h = sign_piece 46 Dot at rest items refl refl (λ e. let z : ⊥ = omega (arith, e) in absurd z) h

-- a sign between blanks
pub spaced_piece : (c : ℕ) (x : Token) (at : ℕ) (rest : List ℕ) (items : List Placed) → sign_of c ≡ Some x → len_utf8 c ≡ 1 →
    Splits (at + 3) rest items → Splits at (32 ∷ c ∷ 32 ∷ rest) (at_place (at + 1) x ∷ items)
spaced_piece c x at rest items is one h =
    blank_piece at (c ∷ 32 ∷ rest) (at_place (at + 1) x ∷ items)
    (sign_piece c x (at + 1) (32 ∷ rest) items is one (λ e. refl)
    (blank_piece ((at + 1) + 1) rest items (place_at (at + 3) (((at + 1) + 1) + 1) rest items (omega arith) h)))

-- an operator's sign, which is one character of one byte, stands between blanks
abbrev op_code : Operator → ℕ
op_code op = get_or (op_text op) 1 0

op_chars : (op : Operator) → op_text op ≡ 32 ∷ op_code op ∷ 32 ∷ []
op_chars = for_each _ _ refl

op_sign : (op : Operator) → sign_of (op_code op) ≡ Some (Sign op)
op_sign = for_each _ _ refl

op_byte : (op : Operator) → len_utf8 (op_code op) ≡ 1
op_byte = for_each _ _ refl

pub op_piece : (op : Operator) (at : ℕ) (rest : List ℕ) (items : List Placed) → Splits (at + length (op_text op)) rest items →
    Splits at (op_text op ++ rest) (at_place (at + 1) (Sign op) ∷ items)
op_piece op at rest items h =
    subst (λ s. Splits at (s ++ rest) (at_place (at + 1) (Sign op) ∷ items)) (sym (op_chars op))
    (spaced_piece (op_code op) (Sign op) at rest items (op_sign op) (op_byte op)
    (subst (λ s. Splits (at + length s) rest items) (op_chars op) h))

pub op_clear : (op : Operator) (rest : List ℕ) → Clear (op_text op ++ rest)
op_clear op rest = subst (λ s. Clear (s ++ rest)) (sym (op_chars op)) (space (op_code op ∷ 32 ∷ rest))

-- the arrow between blanks, which is one sign of two characters
pub arrow_piece : (at : ℕ) (rest : List ℕ) (items : List Placed) → Splits (at + 4) rest items →
    Splits at (32 ∷ 45 ∷ 62 ∷ 32 ∷ rest) (at_place (at + 1) Arrow ∷ items)
arrow_piece at rest items h =
    blank_piece at (45 ∷ 62 ∷ 32 ∷ rest) (at_place (at + 1) Arrow ∷ items)
    (token (at + 1) (45 ∷ 62 ∷ 32 ∷ rest) (45 ∷ 62 ∷ []) (32 ∷ rest) Arrow items refl arrow_spelled
    (arrow_longest (32 ∷ rest))
    (blank_piece ((at + 1) + 2) rest items (place_at (at + 4) (((at + 1) + 2) + 1) rest items (omega arith) h)))

-- a keyword and the blank behind it
pub word_splits : (w : Word) (at : ℕ) (rest : List ℕ) (items : List Placed) → Splits (at + length (word_text w)) rest items →
    Splits at (word_text w ++ rest) (at_place at (Before w) ∷ items)
unfolding word_of
word_splits the_succ at rest items h =
    keyword_piece 115 (117 ∷ 99 ∷ 99 ∷ []) (Before the_succ) 4 at (32 ∷
    rest) items refl refl refl (space rest) (blank_piece (at + 4) rest items
    (place_at (at + 5) ((at + 4) + 1) rest items (omega arith) h))
word_splits the_pred at rest items h =
    keyword_piece 112 (114 ∷ 101 ∷ 100 ∷ []) (Before the_pred) 4 at (32 ∷
    rest) items refl refl refl (space rest) (blank_piece (at + 4) rest items
    (place_at (at + 5) ((at + 4) + 1) rest items (omega arith) h))
word_splits (the_part Left) at rest items h =
    keyword_piece 102 (115 ∷ 116 ∷ []) (Before (the_part Left)) 3 at (32 ∷ rest) items refl refl refl (space rest)
    (blank_piece (at + 3) rest items (place_at (at + 4) ((at + 3) + 1) rest items (omega arith) h))
word_splits (the_part Right) at rest items h =
    keyword_piece 115 (110 ∷ 100 ∷ []) (Before (the_part Right)) 3 at (32 ∷ rest) items refl refl refl (space rest)
    (blank_piece (at + 3) rest items (place_at (at + 4) ((at + 3) + 1) rest items (omega arith) h))

-- the word of a binder and the blank behind it
pub binder_splits : (b : Binder) (at : ℕ) (rest : List ℕ) (items : List Placed) → Splits (at + 4) rest items →
    Splits at (binder_text b ++ rest) (at_place at (Bind b) ∷ items)
unfolding word_of
binder_splits the_fun at rest items h =
    keyword_piece 102 (117 ∷ 110 ∷ []) (Bind the_fun) 3 at (32 ∷ rest) items refl refl refl (space rest)
    (blank_piece (at + 3) rest items (place_at (at + 4) ((at + 3) + 1) rest items (omega arith) h))
binder_splits the_fix at rest items h =
    keyword_piece 102 (105 ∷ 120 ∷ []) (Bind the_fix) 3 at (32 ∷ rest) items refl refl refl (space rest)
    (blank_piece (at + 3) rest items (place_at (at + 4) ((at + 3) + 1) rest items (omega arith) h))

-- `ifz` and the blank behind it; `then` and `else` between blanks
pub ifz_piece : (at : ℕ) (rest : List ℕ) (items : List Placed) → Splits (at + 4) rest items →
    Splits at (105 ∷ 102 ∷ 122 ∷ 32 ∷ rest) (at_place at Ifz ∷ items)
unfolding word_of
ifz_piece at rest items h =
    keyword_piece 105 (102 ∷ 122 ∷ []) Ifz 3 at (32 ∷ rest) items refl refl refl (space rest)
    (blank_piece (at + 3) rest items (place_at (at + 4) ((at + 3) + 1) rest items (omega arith) h))

pub then_piece : (at : ℕ) (rest : List ℕ) (items : List Placed) → Splits (at + 6) rest items →
    Splits at (32 ∷ 116 ∷ 104 ∷ 101 ∷ 110 ∷ 32 ∷ rest) (at_place (at + 1) Then ∷ items)
unfolding word_of
then_piece at rest items h =
    blank_piece at (116 ∷ 104 ∷ 101 ∷ 110 ∷ 32 ∷ rest) (at_place (at + 1) Then ∷ items)
    (keyword_piece 116 (104 ∷ 101 ∷ 110 ∷ []) Then 4 (at + 1) (32 ∷ rest) items refl refl refl (space rest)
    (blank_piece ((at + 1) + 4) rest items (place_at (at + 6) (((at + 1) + 4) + 1) rest items (omega arith) h)))

pub else_piece : (at : ℕ) (rest : List ℕ) (items : List Placed) → Splits (at + 6) rest items →
    Splits at (32 ∷ 101 ∷ 108 ∷ 115 ∷ 101 ∷ 32 ∷ rest) (at_place (at + 1) Else ∷ items)
unfolding word_of
else_piece at rest items h =
    blank_piece at (101 ∷ 108 ∷ 115 ∷ 101 ∷ 32 ∷ rest) (at_place (at + 1) Else ∷ items)
    (keyword_piece 101 (108 ∷ 115 ∷ 101 ∷ []) Else 4 (at + 1) (32 ∷ rest) items refl refl refl (space rest)
    (blank_piece ((at + 1) + 4) rest items (place_at (at + 6) (((at + 1) + 4) + 1) rest items (omega arith) h)))

-- `nat`, which no blank follows
pub nat_piece : (at : ℕ) (rest : List ℕ) (items : List Placed) → Clear rest → Splits (at + 3) rest items →
    Splits at (110 ∷ 97 ∷ 116 ∷ rest) (at_place at Nat ∷ items)
unfolding word_of
nat_piece at rest items clear h = keyword_piece 110 (97 ∷ 116 ∷ []) Nat 3 at rest items refl refl refl clear h

-- a phrase for these bytes, which stand before others from a place on
pub record TyWrites (X : Type 0) (ty : X → TyTree) (text : ℕ → X → List Written) (bytes : List ℕ) (onto : List ℕ →
    List ℕ) (t : TyTree) (S : ℕ → Type 0) (at : ℕ) : Type 0 where
  pub phrase : X
  pub same : ty phrase ≡ t
  pub shallow : (o : ℕ) → S o → Each IsShallow (text o phrase)
  pub splits : (o : ℕ) (rest : List ℕ) (items : List Placed) → Clear rest → Splits (at + length bytes) rest items →
      Splits at (onto rest) (map placed (text o phrase) ++ items)

module _ (bytes : List ℕ) (onto : List ℕ → List ℕ) (t : TyTree) (S : ℕ → Type 0) where
  -- a phrase is one of the next level too, and of the lowest where it stands in parentheses
  tatom_in_ptype : (at : ℕ) → TyWrites TAtom tatom_ty tatom_text bytes onto t S at →
      TyWrites PType ptype_ty ptype_text bytes onto t S at
  tatom_in_ptype at w = record {
    phrase = only_tatom w.phrase;
    same = w.same;
    shallow = λ o s. w.shallow o s;
    splits =
        λ o rest items c h. w.splits o rest items c h;
  }

  ptype_in_type : (at : ℕ) → TyWrites PType ptype_ty ptype_text bytes onto t S at → TyWrites Type_ type_ty type_text bytes onto t S at
  ptype_in_type at w = record {
    phrase = only_ptype w.phrase;
    same = w.same;
    shallow = λ o s. w.shallow o s;
    splits =
        λ o rest items c h. w.splits o rest items c h;
  }

  type_in_parens : (at : ℕ) → TyWrites Type_ type_ty type_text bytes onto t S (at + 1)
      → TyWrites TAtom tatom_ty tatom_text (codes "(" ++ bytes ++ codes ")") (λ r. 40 ∷ onto (41 ∷ r)) t (λ o. (o < most_open) ×
      S (suc o)) at
  type_in_parens at w =
      let close : ℕ = (at + 1) + length bytes in
      record {
        phrase = paren_type at w.phrase close;
        same = w.same;
        shallow = λ o s. (
          s.0,
          each_append IsShallow (type_text (suc o) w.phrase) (plain close Close ∷
              []) (w.shallow (suc o) s.1) (some_left, tt),
        );
        splits = λ o rest items c h.
            open_piece at (onto (41 ∷ rest)) (map placed (type_text (suc o) w.phrase ++ plain close Close ∷ []) ++ items)
            (both_parts (at + 1) (onto (41 ∷ rest)) (type_text (suc o) w.phrase) (plain close Close ∷ []) items
            (w.splits (suc o) (41 ∷ rest) (at_place close Close ∷ items) (closes rest)
            (close_piece close rest items (place_at (at + length (codes "(" ++ bytes ++ codes ")")) (close + 1) rest items
            (omega (arith, length-append bytes (codes ")"))) h))));
      }

pub record TyForms (lvl : ℕ) (bytes : List ℕ) (onto : List ℕ → List ℕ) (t : TyTree) (S : ℕ → Type 0) : Type 0 where
  pub as_type : (at : ℕ) → TyWrites Type_ type_ty type_text bytes onto t S at
  pub as_ptype : (at : ℕ) → TyWrites PType ptype_ty ptype_text (fitted 1 lvl bytes) (λ r. fit_onto 1 lvl onto r) t
      (λ o. fit_shallow 1 lvl S o) at
  pub as_tatom : (at : ℕ) → TyWrites TAtom tatom_ty tatom_text (fitted 0 lvl bytes) (λ r. fit_onto 0 lvl onto r) t
      (λ o. fit_shallow 0 lvl S o) at

module _ (bytes : List ℕ) (onto : List ℕ → List ℕ) (t : TyTree) (S : ℕ → Type 0) where
  -- a type has a phrase on each level of the grammar, where it has one on its own
  from_tatom : ((at : ℕ) → TyWrites TAtom tatom_ty tatom_text bytes onto t S at) → TyForms 0 bytes onto t S
  from_tatom w =
      record {
        as_type = λ at. ptype_in_type bytes onto t S at (tatom_in_ptype bytes onto t S at (w at));
        as_ptype = λ at. tatom_in_ptype bytes onto t S at (w at);
        as_tatom = w;
      }

  from_ptype : ((at : ℕ) → TyWrites PType ptype_ty ptype_text bytes onto t S at) → TyForms 1 bytes onto t S
  from_ptype w =
      record {
        as_type = λ at. ptype_in_type bytes onto t S at (w at);
        as_ptype = w;
        as_tatom = λ at. type_in_parens bytes onto t S at (ptype_in_type bytes onto t S (at + 1) (w (at + 1)));
      }

  from_type : ((at : ℕ) → TyWrites Type_ type_ty type_text bytes onto t S at) → TyForms 2 bytes onto t S
  from_type w =
      record {
        as_type = w;
        as_ptype = λ at. tatom_in_ptype _ _ t _ at (type_in_parens bytes onto t S at (w (at + 1)));
        as_tatom = λ at. type_in_parens bytes onto t S at (w (at + 1));
      }

-- each type has its phrases
pub ty_forms : (t : TyTree) → TyForms (ty_level t) (ty_text t) (λ r. ty_onto t r) t (λ o. ty_shallow t o)
ty_forms nat =
    from_tatom (ty_text nat) (λ r. ty_onto nat r) nat (λ o. ty_shallow nat o)
    (λ at. record {
      phrase = nat_type at;
      same = refl;
      shallow = λ o s. (some_left, tt);
      splits =
          λ o rest items c h. nat_piece at rest items c h;
    })
ty_forms (arrow a b) =
    from_type (ty_text (arrow a b)) (λ r. ty_onto (arrow a b) r) (arrow a b) (λ o. ty_shallow (arrow a b) o)
    (λ at.
    let left : List ℕ = fitted 1 (ty_level a) (ty_text a) in
    let mid : ℕ = at + length left in
    let p = (ty_forms a).as_ptype at in
    let q = (ty_forms b).as_type (mid + 4) in
    record {
      phrase = arrow_type p.phrase (mid + 1) q.phrase;
      same = λ k. arrow (p.same k) (q.same k);
      shallow = λ o s. each_append IsShallow (ptype_text o p.phrase) (marked (mid + 1) Arrow o 0 ∷
          type_text (suc o) q.phrase) (p.shallow o s.0) (s.1, q.shallow (suc o) s.2);
      splits = λ o rest items c h.
          both_parts at (ty_onto (arrow a b) rest) (ptype_text o p.phrase) (marked (mid + 1) Arrow o 0 ∷ type_text (suc o) q.phrase) items
          (p.splits o (32 ∷ 45 ∷ 62 ∷ 32 ∷ ty_onto b rest) (at_place (mid + 1) Arrow ∷
          (map placed (type_text (suc o) q.phrase) ++ items)) (space (45 ∷ 62 ∷ 32 ∷ ty_onto b rest))
          (arrow_piece mid (ty_onto b rest) (map placed (type_text (suc o) q.phrase) ++ items)
          (q.splits (suc o) rest items c
          (place_at (at + length (left ++ codes " -> " ++ ty_text b)) ((mid + 4) + length (ty_text b)) rest items
          (omega (arith, length-append (left ++ codes " -> ") (ty_text b), length-append left (codes " -> "))) h))));
    })
ty_forms (product a b) =
    from_ptype (ty_text (product a b)) (λ r. ty_onto (product a b) r) (product a b) (λ o. ty_shallow (product a b) o)
    (λ at.
    let left : List ℕ = fitted 0 (ty_level a) (ty_text a) in
    let right : List ℕ = fitted 1 (ty_level b) (ty_text b) in
    let right_onto : List ℕ → List ℕ = λ r. fit_onto 1 (ty_level b) (λ r. ty_onto b r) r in
    let mid : ℕ = at + length left in
    let p = (ty_forms a).as_tatom at in
    let q = (ty_forms b).as_ptype (mid + 3) in
    record {
      phrase = times_type p.phrase (mid + 1) q.phrase;
      same = λ k. product (p.same k) (q.same k);
      shallow = λ o s. each_append IsShallow (tatom_text o p.phrase) (marked (mid + 1) star o 0 ∷
          ptype_text (suc o) q.phrase) (p.shallow o s.0) (s.1, q.shallow (suc o) s.2);
      splits = λ o rest items c h.
          both_parts at (ty_onto (product a b) rest) (tatom_text o p.phrase) (marked (mid + 1) star o 0 ∷
          ptype_text (suc o) q.phrase) items
          (p.splits o (32 ∷ 42 ∷ 32 ∷ right_onto rest) (at_place (mid + 1) star ∷
          (map placed (ptype_text (suc o) q.phrase) ++ items)) (space (42 ∷ 32 ∷ right_onto rest))
          (spaced_piece 42 star mid (right_onto rest) (map placed (ptype_text (suc o) q.phrase) ++ items) refl refl
          (q.splits (suc o) rest items c
          (place_at (at + length (left ++ codes " * " ++ right)) ((mid + 3) + length right) rest items
          (omega (arith, length-append (left ++ codes " * ") right, length-append left (codes " * "))) h))));
    })
