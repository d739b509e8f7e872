-- The end of a text, or what is no token, stands last and alone.
use Rattle.std.proofs.Common.{◌≡◌, ◌⊎◌, ℕ, ◌+◌, List, [], ◌∷◌, ◌++◌, map, Some, Ok, Err, refl, sym, ap}
use Rattle.std.proofs.Common.{◌∙◌, subst, inl, inr}
use Rattle.pcf_values.specs.Terms.{TyTree, arrow as arrow_ty, product}
use Rattle.pcf_values.specs.Named.{NamedTree, bind_at}
use Rattle.pcf_reader.specs.Tokens.{Token, End, Junk, Placed}
use Rattle.pcf_reader.specs.Grammar.{Part, higher, binary, choice_part, placed, expr_text, plain}
use Rattle.pcf_reader.specs.Machine.{ExprK, whole, in_parens, in_second, in_body, in_test, in_then, in_else, ProductK, first_product}
use Rattle.pcf_reader.specs.Machine.{right_of_sum, AppK, first_app, right_of_product, PTypeK, first_ptype, right_of_cross}
use Rattle.pcf_reader.specs.Machine.{TypeK, of_binder, right_of_arrow, in_type_parens, State, want_expr, want_atom, after_atom, want_name}
use Rattle.pcf_reader.specs.Machine.{want_colon, want_tatom, after_tatom, Step, refuse, go, finish, step, after_expr, end_product, end_app}
use Rattle.pcf_reader.specs.Machine.{end_type, end_ptype}
use Rattle.pcf_reader.specs.Spelling.{sign_of, word_of, Spells, sign, arrow, digits, word, Splits, ends, blank, comment, token, junk}
use Rattle.pcf_reader.specs.Text.{Derives}
use Rattle.pcf_reader.specs.Scan.{TreeOrFault, checked, proper, scan}
use Rattle.pcf_reader.specs.declared.fault.ReadFault.TheVariants.{NoMemory}
use Rattle.pcf_reader.proofs.Lists.{map-append}
use Rattle.pcf_reader.proofs.Judge.{proper_cases, within_cases}
use Rattle.pcf_reader.proofs.Spelled.{sign_token, word_token}

-- the last token and no other is the end, or no token
abbrev pub Ended : List Placed → Type 0
Ended [] = ⊥
Ended (x ∷ []) = (x.token ≡ End) ⊎ (x.token ≡ Junk)
Ended (x ∷ y ∷ ys) = (x.token ≡ End → ⊥) × Ended (y ∷ ys)

-- a list that ends, behind a token that is not the end
cons_ended : (x : Placed) (xs : List Placed) → (x.token ≡ End → ⊥) → Ended xs → Ended (x ∷ xs)
cons_ended x [] n h = absurd h
cons_ended x (y ∷ ys) n h = (n, h)

-- no word is the end, and no sign
pub word_not_end : (cs : List ℕ) → word_of cs ≡ End → ⊥
word_not_end cs = word_token (λ x. x ≡ End → ⊥) cs (λ e. cc) (λ e. cc) (λ e. cc) (λ e. cc) (λ e. cc) (λ e. cc) (λ e. cc)
    (λ s e. cc) (λ e. cc) (λ e. cc)

pub sign_not_end : (c : ℕ) (x : Token) → sign_of c ≡ Some x → x ≡ End → ⊥
sign_not_end c x h =
    sign_token (λ x. x ≡ End → ⊥) c x (λ e. cc) (λ e. cc) (λ e. cc) (λ e. cc) (λ e. cc) (λ o e. cc) h

-- what characters spell is not the end
spells_not_end : (cs : List ℕ) (x : Token) → Spells cs x → x ≡ End → ⊥
spells_not_end cs x (sign c y h) e = sign_not_end c y h e
spells_not_end cs x arrow e = cc
spells_not_end cs x (digits c ds all) e = cc
spells_not_end cs x (word c ds first all) e = word_not_end _ e

-- the tokens of a text end
pub splits_ended : (at : ℕ) (cs : List ℕ) (items : List Placed) → Splits at cs items → Ended items
splits_ended at cs items (ends i) = inl refl
splits_ended at cs items (blank i c ds xs e h) = splits_ended _ _ _ h
splits_ended at cs items (comment i text ds rest xs e all line h) = splits_ended _ _ _ h
splits_ended at cs items (token i text ds rest x xs e spells long h) =
    cons_ended (record { at = i; token = x }) xs (spells_not_end ds x spells) (splits_ended _ _ _ h)
splits_ended at cs items (junk i c ds nb nc none) = inr refl

-- behind the end nothing stands
last_alone : (us : List Placed) (x : Placed) (xs : List Placed) → Ended (us ++ x ∷ xs) → x.token ≡ End → xs ≡ []
last_alone [] x [] h e = refl
last_alone [] x (y ∷ ys) h e = absurd (h.0 e)
last_alone (u ∷ []) x xs h e = last_alone [] x xs h.1 e
last_alone (u ∷ v ∷ us) x xs h e = last_alone (v ∷ us) x xs h.1 e

-- a prefix of the tokens of a text that is a program is all of them
pub program_is_all : (front xs : List Placed) (t : NamedTree) → Ended (front ++ xs) → Derives front t → xs ≡ []
program_is_all front xs t h d =
    let us : List Placed = map placed (expr_text 0 d.program.expr) in
    let last : Placed = record { at = d.program.end; token = End } in
    let is : front ≡ us ++ last ∷ [] = sym d.written ∙ map-append (expr_text 0 d.program.expr) (plain d.program.end End ∷ []) in
    last_alone us last xs (subst (λ z. Ended z) (ap (λ z. z ++ xs) is ∙ assoc us last xs) h) refl
  where
    assoc : (us : List Placed) (x : Placed) (xs : List Placed) → (us ++ x ∷ []) ++ xs ≡ us ++ x ∷ xs
    assoc [] x xs = refl
    assoc (u ∷ us) x xs = ap (λ z. u ∷ z) (assoc us x xs)

-- no step goes on behind the end of a text
abbrev pub IsLast : Step → Type 0
IsLast refuse = Unit {0}
IsLast (go d c t) = ⊥
IsLast (finish p) = Unit {0}

-- by what is open around a term
end_expr : (k : ExprK) (e : Part) (at : ℕ) → IsLast (after_expr k e at End)
end_expr whole e at = tt
end_expr (in_parens o k) e at = tt
end_expr (in_second o a k) e at = tt
end_expr (in_body o b x t k) e at = end_expr k (higher (bind_at o b x t) e) at
end_expr (in_test o k) e at = tt
end_expr (in_then o c k) e at = tt
end_expr (in_else o c p k) e at = end_expr k (choice_part o c p e) at

ends_product : (k : ProductK) (m : Part) (at : ℕ) → IsLast (end_product k m at End)
ends_product (first_product k) m at = end_expr k m at
ends_product (right_of_sum s op k) m at = end_expr k (binary op s m) at

ends_app : (k : AppK) (f : Part) (at : ℕ) → IsLast (end_app k f at End)
ends_app (first_app k) f at = ends_product k f at
ends_app (right_of_product m op k) f at = ends_product k (binary op m f) at

-- and around a type
ends_type : (k : TypeK) (t : TyTree) (at : ℕ) → IsLast (end_type k t at End)
ends_type (of_binder o b x k) t at = tt
ends_type (right_of_arrow a k) t at = ends_type k (arrow_ty a t) at
ends_type (in_type_parens k) t at = tt

ends_ptype : (k : PTypeK) (t : TyTree) (at : ℕ) → IsLast (end_ptype k t at End)
ends_ptype (first_ptype k) t at = ends_type k t at
ends_ptype (right_of_cross a k) t at = ends_ptype k (product a t) at

-- in each state
end_last : (s : State) (at : ℕ) → IsLast (step s at End)
end_last (want_expr k) at = tt
end_last (want_atom k) at = tt
end_last (after_atom k f) at = ends_app k f at
end_last (want_name o b k) at = tt
end_last (want_colon o b x k) at = tt
end_last (want_tatom k) at = tt
end_last (after_tatom k t) at = ends_ptype k t at

-- an answer that is not want of memory
abbrev pub IsAnswer : TreeOrFault → Type 0
IsAnswer (Ok t) = Unit {0}
IsAnswer (Err NoMemory) = ⊥
IsAnswer (Err _) = Unit {0}

-- a step that is the last answers
last_answers : (next : State → ℕ → TreeOrFault) (n at : ℕ) (st : Step) → IsLast st → IsAnswer (checked next n at st)
last_answers next n at refuse h = tt
last_answers next n at (go d c t) h = absurd h
last_answers next n at (finish p) h = tt

-- and so does a step that goes on to what answers
checked_answers : (next : State → ℕ → TreeOrFault) (n at : ℕ) (st : Step) → ((t : State) (m : ℕ) → IsAnswer (next t m)) →
    IsAnswer (checked next n at st)
checked_answers next n at refuse h = tt
checked_answers next n at (go d c t) h = within_cases IsAnswer at d (n + c) (next t (n + c)) (λ _. tt) (λ _ _. tt) (λ _ _. h t (n + c))
checked_answers next n at (finish p) h = tt

-- a list that ends has an answer
pub ended_answers : (items : List Placed) (s : State) (n : ℕ) → Ended items → IsAnswer (scan items s n)
ended_answers [] s n h = absurd h
ended_answers (x ∷ []) s n (inl e) = subst (λ t. IsAnswer (proper x.at t (checked (scan []) n x.at (step s x.at t)))) (sym e)
    (last_answers (scan []) n x.at (step s x.at End) (end_last s x.at))
ended_answers (x ∷ []) s n (inr e) = subst (λ t. IsAnswer (proper x.at t (checked (scan []) n x.at (step s x.at t)))) (sym e) tt
ended_answers (x ∷ y ∷ ys) s n h =
    let next : State → ℕ → TreeOrFault = scan (y ∷ ys) in
    proper_cases IsAnswer x.at x.token (checked next n x.at (step s x.at x.token)) (λ _. tt) (λ _ _ _. tt)
    (λ _ _. checked_answers next n x.at (step s x.at x.token) (λ t m. ended_answers (y ∷ ys) t m h.1))
