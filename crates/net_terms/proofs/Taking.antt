-- Uses that come first, one after another.
use Rattle.std.proofs.Common.{◌≡◌, Bool, true, false, List, [], ◌∷◌, ◌++◌, append-nil, append_assoc, refl, sym, ap, ◌∙◌}
use Rattle.std.specs.Prelude.{◌↔◌}
use Rattle.pcf_values.specs.declared.ty.Ty.{Ty}
use Rattle.pcf_values.specs.Terms.{TyTree, TermTree}
use Rattle.net_terms.specs.Typable.{context_of}
use Rattle.net_terms.specs.Uses.{ComeFirst, used_types}

-- equal fronts leave equal rests
cancel : (x a b : List TyTree) → x ++ a ≡ x ++ b → a ≡ b
cancel [] a b e = e
cancel (t ∷ x) a b e = cancel x a b (behind_first t (x ++ a) (x ++ b) e)
  where
    behind_first : (t : TyTree) (a b : List TyTree) → t ∷ a ≡ t ∷ b → a ≡ b
    behind_first t a b e = cc

-- the first come, and then the others do or don't
pub first_then : (r : Bool) (before x mid y after : List TyTree) → ComeFirst true before x mid → ComeFirst r mid y after
    → ComeFirst r before (x ++ y) after
first_then true before x mid y after h i = h ∙ ap (λ t. x ++ t) i ∙ sym (append_assoc x y after)
first_then false before x mid y after h i = λ rest e. i rest (cancel x mid (y ++ rest) (sym h ∙ e ∙ append_assoc x y rest))

-- the first don't
pub first_fail : (before x mid y after : List TyTree) → ComeFirst false before x mid → ComeFirst false before (x ++ y) after
first_fail before x mid y after h = λ rest e. h (y ++ rest) (e ∙ append_assoc x y rest)

-- one use
pub one_use : (b : Bool) (t u : TyTree) (before after : List TyTree) → before ≡ t ∷ after → ((b ≡ true) ↔ (t ≡ u))
    → ComeFirst b before (u ∷ []) after
one_use true t u before after h i = h ∙ ap (λ t. t ∷ after) (i.0 refl)
one_use false t u before after h i = λ rest e. differ (i.1 (same t u after rest (sym h ∙ e)))
  where
    differ : false ≡ true → ⊥
    differ h = cc

    same : (t u : TyTree) (a b : List TyTree) → t ∷ a ≡ u ∷ b → t ≡ u
    same t u a b e = cc

-- there is no use
pub no_use : (u : TyTree) (before after : List TyTree) → before ≡ [] → ComeFirst false before (u ∷ []) after
no_use u before after h = λ rest e. none u rest (sym h ∙ e)
  where
    none : (u : TyTree) (rest : List TyTree) → [] ≡ (u ∷ []) ++ rest → ⊥
    none u rest e = cc

-- where they don't come first, they are not all
pub not_all : (b : Bool) (before uses after : List TyTree) → ComeFirst b before uses after → b ≡ false → before ≡ uses → ⊥
not_all true before uses after h f e = no f
  where
    no : true ≡ false → ⊥
    no h = cc
not_all false before uses after h f e = h [] (e ∙ sym (append-nil uses))

-- the same of a closed term
pub not_used : (b : Bool) (before after : List TyTree) (xs : List Ty) (m : TermTree) → xs ≡ []
    → ComeFirst b before (used_types (context_of xs) m) after → b ≡ false → before ≡ used_types [] m → ⊥
not_used b before after xs m h k f e =
    not_all b before (used_types (context_of xs) m) after k f (e ∙ ap (λ xs. used_types (context_of xs) m) (sym h))
