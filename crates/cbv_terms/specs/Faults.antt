-- Why a program is refused by value, and which fault is told where there are several.
-- A program that is too deep is refused for that alone. Else the fault at the least place is told, and at one place a `fix` before a
-- pair. Places are those of the program's text.
use Rattle.std.specs.Prelude.{◌≡◌, ◌⊎◌, ◌<◌, ◌≤◌, ℕ, Bool, true, false}
use Rattle.pcf_values.specs.Terms.{TyTree, arrow}
use Rattle.pcf_values.specs.Named.{the_succ, the_pred, the_part, the_fun, the_fix, NamedTree, number_at, name_at, word_at}
use Rattle.pcf_values.specs.Named.{binary_at, pair_at, ifz_at, bind_at, apply_at, named_height}
use Rattle.cbv_terms.specs.declared.fault.ByValueFault.{ByValueFault}
use Rattle.cbv_terms.specs.declared.fault.ByValueFault.TheVariants.{NoMemory, ByValueFix, ByValuePair, ByValueDeep}
use Rattle.cbv_terms.specs.declared.limit.TheConstants.{BY_VALUE_HEIGHT}
use Rattle.cbv_terms.specs.Translation.{has_product}

-- whether a `fix` of this type with this body is of a function's type and of a `fun`
abbrev pub is_of_fun : TyTree → NamedTree → Bool
is_of_fun (arrow a b) (bind_at at the_fun x t m) = true
is_of_fun _ _ = false

-- at this place stands a binder whose type has a product
abbrev pub BinderFault : ℕ → TyTree → ByValueFault → Type 0
BinderFault at t f = (has_product t ≡ true) × (f ≡ ByValuePair at)

-- at this place stands a `fix` that isn't of a function's type and of a `fun`
abbrev pub FixFault : ℕ → TyTree → NamedTree → ByValueFault → Type 0
FixFault at t m f = (is_of_fun t m ≡ false) × (f ≡ ByValueFix at)

-- some node of the tree has the fault
abbrev pub HasFault : NamedTree → ByValueFault → Type 0
HasFault (number_at at n) f = ⊥
HasFault (name_at at x) f = ⊥
HasFault (word_at at the_succ a) f = HasFault a f
HasFault (word_at at the_pred a) f = HasFault a f
HasFault (word_at at (the_part s) a) f = (f ≡ ByValuePair at) ⊎ HasFault a f
HasFault (binary_at at o a b) f = HasFault a f ⊎ HasFault b f
HasFault (pair_at at a b) f = (f ≡ ByValuePair at) ⊎ (HasFault a f ⊎ HasFault b f)
HasFault (ifz_at at c p q) f = HasFault c f ⊎ (HasFault p f ⊎ HasFault q f)
HasFault (bind_at at the_fun x t m) f = BinderFault at t f ⊎ HasFault m f
HasFault (bind_at at the_fix x t m) f = FixFault at t m f ⊎ (BinderFault at t f ⊎ HasFault m f)
HasFault (apply_at at g a) f = HasFault g f ⊎ HasFault a f

-- the program is refused by value for this; want of memory is no fault of a program
abbrev pub IsFault : NamedTree → ByValueFault → Type 0
IsFault tree NoMemory = ⊥
IsFault tree (ByValueFix at) = HasFault tree (ByValueFix at)
IsFault tree (ByValuePair at) = HasFault tree (ByValuePair at)
IsFault tree ByValueDeep = BY_VALUE_HEIGHT < named_height tree

-- the first fault is told where the program has both, or they are one
abbrev pub NoLater : ByValueFault → ByValueFault → Type 0
NoLater ByValueDeep g = Unit {0}
NoLater (ByValueFix a) (ByValueFix b) = a ≤ b
NoLater (ByValueFix a) (ByValuePair b) = a ≤ b
NoLater (ByValuePair a) (ByValueFix b) = a < b
NoLater (ByValuePair a) (ByValuePair b) = a ≤ b
NoLater _ _ = ⊥

-- the fault that is told of the program
pub record IsFirstFault (tree : NamedTree) (f : ByValueFault) : Type 0 where
  pub fault : IsFault tree f
  pub first : (g : ByValueFault) → IsFault tree g → NoLater f g

-- the program has no fault
abbrev pub IsFaultless : NamedTree → Type 0
IsFaultless tree = (f : ByValueFault) → IsFault tree f → ⊥
