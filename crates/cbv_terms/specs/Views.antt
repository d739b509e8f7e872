-- What private contracts see of the translation while it is made: the binders around a term as a context and a map, and the type of what
-- is known of one.
use Rattle.std.specs.Prelude.{◌≡◌, ◌+◌, ◌-◌, ◌<◌, ℕ, zero, suc, List, [], ◌∷◌, map, reverse}
use Rattle.pcf_values.specs.declared.term.Term.{Term}
use Rattle.pcf_values.specs.Terms.{TyTree, nat, arrow, TermTree, succ_of, pred_of, lam}
use Rattle.pcf_values.specs.Typing.{HasType}
use Rattle.pcf_values.specs.Views.{ty_of, term_of}
use Rattle.cbv_terms.specs.declared.binder.Binder.{Binder}
use Rattle.cbv_terms.specs.declared.forms.Unary.{Unary}
use Rattle.cbv_terms.specs.declared.forms.Unary.TheVariants.{Succ, Pred}
use Rattle.cbv_terms.specs.declared.known.Known.{Known}
use Rattle.cbv_terms.specs.declared.known.Known.TheVariants.{Nat, Written, Function'}
use Rattle.cbv_terms.specs.declared.made.Made.{Made}
use Rattle.cbv_terms.specs.Translation.{type_in, value_type, under, cps}
use Rattle.cbv_terms.specs.Accepted.{HasTranslation}

abbrev pub known_of : Known → TyTree
known_of Nat = nat
known_of (Written t) = ty_of t.now
known_of (Function' t p b) = arrow (ty_of t.now) (known_of b)

abbrev pub unary_of : Unary → TermTree → TermTree
unary_of Succ = succ_of
unary_of Pred = pred_of

-- the binders' types, the nearest first
abbrev pub context_of : List Binder → List TyTree
context_of bs = map (λ b. ty_of b.ty.now) (reverse bs)

-- at which index the variable of each binder stands under d binders, where the nearest one comes first
abbrev pub places : ℕ → List Binder → ℕ → ℕ
places d [] i = i + d
places d (b ∷ bs) zero = d - suc b.level
places d (b ∷ bs) (suc i) = places d bs i

abbrev pub map_of : ℕ → List Binder → ℕ → ℕ
map_of d bs = places d (reverse bs)

-- each of the binders stands under fewer than d others
abbrev pub AreAround : ℕ → List Binder → Type 0
AreAround d [] = Unit {0}
AreAround d (b ∷ bs) = (b.level < d) × AreAround d bs

-- the term has a type in the context
abbrev pub IsTyped : List TyTree → TermTree → Type 0
IsTyped g m = (t : TyTree) × HasType g m t

-- under these binders, at depth d, a term with this context can be translated
pub record IsReady (bs : List Binder) (d : ℕ) (g : List TyTree) (m : TermTree) : Type 0 where
  pub taken : HasTranslation m
  pub typed : IsTyped g m
  pub around : AreAround d (reverse bs)

-- the translation of a term with this context by this map was made, with its type, and the binders are as before
pub record Makes (old new : List Binder) (g : List TyTree) (e : ℕ → ℕ) (m : TermTree) (made : Made) : Type 0 where
  pub term : term_of made.term.value ≡ cps g e m
  pub typed : known_of made.ty ≡ type_in g m
  pub binders : new ≡ old

-- the `fun` inside the translation of a `fix` of this type was made, and the binders are as before
pub record MakesFunction (old new : List Binder) (d : ℕ) (f a : TyTree) (m : TermTree) (made : Term) : Type 0 where
  pub term : term_of made ≡ lam (value_type a) (cps (a ∷ f ∷ context_of old) (under (under (map_of d old))) m)
  pub binders : new ≡ old
