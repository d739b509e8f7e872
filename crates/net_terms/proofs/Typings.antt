-- The type that is found is the term's, and the term's type is found.
use Rattle.std.proofs.Common.{◌≡◌, ◌^◌, Bool, true, false, List, [], ◌∷◌, Option, Some, None, refl, sym, ap, ◌∙◌, subst, inl, inr}
use Rattle.std.specs.Prelude.{nat_lt, if◌then◌else◌}
use Rattle.std.specs.Prelude.{◌↔◌}
use Rattle.std.proofs.lemmas.Bool.{lt-ltb, ltb-true, cases_Bool, cases_from_iff, iff_false, MatchBool-at_true}
use Rattle.pcf_values.specs.Terms.{at_side, TyTree, nat, arrow, product, TermTree, num, var, succ_of, pred_of, binary, ifz, lam, fix}
use Rattle.pcf_values.specs.declared.side.Side.{Side}
use Rattle.pcf_values.specs.Terms.{app, pair, proj, same_type}
use Rattle.pcf_values.specs.Typing.{HasType}
use Rattle.net_terms.specs.Typable.{if_number, function_to, if_same, fixed, applied, paired, part_type, type_of}
use Rattle.pcf_values.proofs.Types.{same_refl, same_is}

-- the definitions' steps, taken apart
number_parts : (o r : Option TyTree) (t : TyTree) → if_number o r ≡ Some t → (o ≡ Some nat) × (r ≡ Some t)
number_parts None r t h = cc
number_parts (Some nat) r t h = (refl, h)
number_parts (Some (arrow a b)) r t h = cc
number_parts (Some (product a b)) r t h = cc

-- what is there is that
some_is : (s t : TyTree) → Some s ≡ Some t → t ≡ s
some_is s t h = cc

-- a function's type comes from its body's
body_parts : (a t : TyTree) (o : Option TyTree) → function_to a o ≡ Some t → (b : TyTree) × (o ≡ Some b) × (t ≡ arrow a b)
body_parts a t None h = cc
body_parts a t (Some b) h = (b, refl, some_is (arrow a b) t h)

-- which way a test went
chosen : (b : Bool) (s t : TyTree) → (if b then Some s else None) ≡ Some t → (b ≡ true) × (t ≡ s)
chosen true s t h = (refl, some_is s t h)
chosen false s t h = cc

-- a recursive value's type comes from its body's
fixed_parts : (a t : TyTree) (o : Option TyTree) → fixed a o ≡ Some t → (o ≡ Some a) × (t ≡ a)
fixed_parts a t None h = cc
fixed_parts a t (Some b) h = let (e, f) = chosen (same_type a b) a t h in (ap Some (sym (same_is a b e)), f)

-- an application's type comes from its parts'
applied_parts : (t : TyTree) (o p : Option TyTree) → applied o p ≡ Some t → (a : TyTree) × (o ≡ Some (arrow a t)) × (p ≡ Some a)
applied_parts t None p h = cc
applied_parts t (Some nat) p h = cc
applied_parts t (Some (product a b)) p h = cc
applied_parts t (Some (arrow a b)) None h = cc
applied_parts t (Some (arrow a b)) (Some c) h = let (e, f) =
    chosen (same_type a c) b t h in (a, ap (λ b. Some (arrow a b)) (sym f), ap Some (sym (same_is a c e)))

-- a pair's type comes from its parts'
paired_parts : (t : TyTree) (o p : Option TyTree) → paired o p ≡ Some t
    → (a : TyTree) × (b : TyTree) × (o ≡ Some a) × (p ≡ Some b) × (t ≡ product a b)
paired_parts t None p h = cc
paired_parts t (Some a) None h = cc
paired_parts t (Some a) (Some b) h = (a, b, refl, refl, some_is (product a b) t h)

-- the type of a part of a pair comes from the pair's
side_parts : (s : Side) (t : TyTree) (o : Option TyTree) → part_type s o ≡ Some t
    → (a : TyTree) × (b : TyTree) × (o ≡ Some (product a b)) × (t ≡ at_side s a b)
side_parts s t None h = cc
side_parts s t (Some nat) h = cc
side_parts s t (Some (arrow a b)) h = cc
side_parts s t (Some (product a b)) h = (a, b, refl, some_is (at_side s a b) t h)

-- A type that is found is the term's.
pub typed : (g : List TyTree) (m : TermTree) (t : TyTree) → type_of g m ≡ Some t → HasType g m t
typed g (num n) t h = let (e, f) = chosen (nat_lt n (2 ^ 64)) nat t h in (ltb-true n (2 ^ 64) e, f)
typed g (var i) t h = h
typed g (succ_of m) t h = let (e, f) = number_parts (type_of g m) (Some nat) t h in (typed g m nat e, some_is nat t f)
typed g (pred_of m) t h = let (e, f) = number_parts (type_of g m) (Some nat) t h in (typed g m nat e, some_is nat t f)
typed g (binary o m l) t h =
    let (e, f) = number_parts (type_of g m) (if_number (type_of g l) (Some nat)) t h in
    let (e', f') = number_parts (type_of g l) (Some nat) t f in
    (typed g m nat e, typed g l nat e', some_is nat t f')
typed g (ifz i m l) t h =
    let (e, f) = number_parts (type_of g i) (if_number (type_of g m) (if_number (type_of g l) (Some nat))) t h in
    let (e', f') = number_parts (type_of g m) (if_number (type_of g l) (Some nat)) t f in
    let (e'', f'') = number_parts (type_of g l) (Some nat) t f' in
    (typed g i nat e, typed g m nat e', typed g l nat e'', some_is nat t f'')
typed g (lam a m) t h = let (b, e, f) = body_parts a t (type_of (a ∷ g) m) h in (b, typed (a ∷ g) m b e, f)
typed g (fix a m) t h = let (e, f) = fixed_parts a t (type_of (a ∷ g) m) h in (typed (a ∷ g) m a e, f)
typed g (app m l) t h = let (a, e, f) = applied_parts t (type_of g m) (type_of g l) h in (a, typed g m (arrow a t) e, typed g l a f)
typed g (pair m l) t h = let (a, b, e, f, k) = paired_parts t (type_of g m) (type_of g l) h in (a, b, typed g m a e, typed g l b f, k)
typed g (proj s m) t h = let (a, b, e, f) = side_parts s t (type_of g m) h in (a, b, typed g m (product a b) e, f)

-- one type is found
same_found : (a b t : TyTree) → a ≡ b → if_same a b t ≡ Some t
same_found a b t e = ap (λ b. if_same a b t) (sym e) ∙ ap (λ c. if c then Some t else None) (same_refl a)

-- The term's type is found.
pub found : (g : List TyTree) (m : TermTree) (t : TyTree) → HasType g m t → type_of g m ≡ Some t
found g (num n) t h = ap (λ b. if b then Some nat else None) (lt-ltb n (2 ^ 64) h.0) ∙ ap Some (sym h.1)
found g (var i) t h = h
found g (succ_of m) t h = ap (λ o. if_number o (Some nat)) (found g m nat h.0) ∙ ap Some (sym h.1)
found g (pred_of m) t h = ap (λ o. if_number o (Some nat)) (found g m nat h.0) ∙ ap Some (sym h.1)
found g (binary o m l) t h =
    ap (λ o. if_number o (if_number (type_of g l) (Some nat))) (found g m nat h.0) ∙ ap (λ o. if_number o (Some nat)) (found g l nat h.1)
    ∙ ap Some (sym h.2)
found g (ifz i m l) t h =
    ap (λ o. if_number o (if_number (type_of g m) (if_number (type_of g l) (Some nat)))) (found g i nat h.0)
    ∙ ap (λ o. if_number o (if_number (type_of g l) (Some nat))) (found g m nat h.1) ∙ ap (λ o. if_number o (Some nat)) (found g l nat h.2)
    ∙ ap Some (sym h.3)
found g (lam a m) t h = ap (function_to a) (found (a ∷ g) m h.0 h.1) ∙ ap Some (sym h.2)
found g (fix a m) t h = ap (fixed a) (found (a ∷ g) m a h.0) ∙ same_found a a a refl ∙ ap Some (sym h.1)
found g (app m l) t h =
    ap (λ o. applied o (type_of g l)) (found g m (arrow h.0 t) h.1) ∙ ap (applied (Some (arrow h.0 t))) (found g l h.0 h.2)
    ∙ same_found h.0 h.0 t refl
found g (pair m l) t h =
    ap (λ o. paired o (type_of g l)) (found g m h.0 h.2) ∙ ap (paired (Some h.0)) (found g l h.1 h.3) ∙ ap Some (sym h.4)
found g (proj s m) t h = ap (part_type s) (found g m (product h.0 h.1) h.2) ∙ ap Some (sym h.3)

-- a test that says whether two types are one is the definition's
pub same_decides : (b : Bool) (s t : TyTree) → ((b ≡ true) ↔ (s ≡ t)) → b ≡ same_type s t
same_decides b s t h = elim (cases_Bool b) [
  | inl e ↦ e ∙ sym (subst (λ t. same_type s t ≡ true) (MatchBool-at_true (s ≡ t) (s ≡ t → ⊥) e (cases_from_iff h)) (same_refl s))
  | inr e ↦ elim (cases_Bool (same_type s t)) [ inl f ↦ absurd (iff_false h e (same_is s t f)) | inr f ↦ e ∙ sym f ]
]

-- the test of a program's type
tested : (b : Bool) (o : Option TyTree) → ((r : Option TyTree) → if_number o r ≡ (if b then r else None)) → b ≡ true → o ≡ Some nat
tested b None h e = let f : None ≡ Some nat = h (Some nat) ∙ ap (λ b. if b then Some nat else None) e in cc
tested b (Some nat) h e = refl
tested b (Some (arrow x y)) h e = let f : None ≡ Some nat = h (Some nat) ∙ ap (λ b. if b then Some nat else None) e in cc
tested b (Some (product x y)) h e = let f : None ≡ Some nat = h (Some nat) ∙ ap (λ b. if b then Some nat else None) e in cc

-- the test of a number holds
holds : (b : Bool) → Some nat ≡ (if b then Some nat else None) → b ≡ true
holds true h = refl
holds false h = cc

-- The test of a program tells programs.
pub program_test : (b : Bool) (m : TermTree) → ((r : Option TyTree) → if_number (type_of [] m) r ≡ (if b then r else None))
    → (b ≡ true) ↔ HasType [] m nat
program_test b m h = (
  λ e. typed [] m nat (tested b (type_of [] m) h e),
  λ t. holds b (ap (λ o. if_number o (Some nat)) (sym (found [] m nat t)) ∙ h (Some nat)),
)
