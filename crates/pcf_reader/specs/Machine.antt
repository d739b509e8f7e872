-- The states of a reading from left to right, one token a step.
-- This is the middle between the grammar and the descent; only contracts inside the crate speak of it. A state is what is open around
-- the next token, inside out: what has been read of each open phrase, and what it waits for. Each step says how deep its token stands
-- and how many nodes it counts, as the grammar does.
use Rattle.std.specs.Prelude.{ℕ, suc, ◌+◌, max, Bool, true, false, List, if◌then◌else◌}
use Rattle.pcf_values.specs.declared.operator.Operator.{Operator}
use Rattle.pcf_values.specs.Terms.{TyTree, nat, arrow, product}
use Rattle.pcf_values.specs.Named.{Word, Binder, number_at, name_at, word_at, pair_at, bind_at}
use Rattle.pcf_reader.specs.Tokens.{Token, Open, Close, Colon, Dot, Comma, Sign, Arrow, Ifz, Then, Else, Nat, Bind, Before}
use Rattle.pcf_reader.specs.Tokens.{Number, Name, End, is_sum}
use Rattle.pcf_reader.specs.Grammar.{Part, join, binary, app_part, higher, choice_part}
use Rattle.pcf_values.specs.declared.operator.Operator.TheVariants.{Times}

-- a token is the sign between the types of a pair's parts
abbrev pub is_star : Token → Bool
is_star (Sign Times) = true
is_star _ = false

-- what is open around a term: around an expr, a product, an app and an atom
mutual
  pub data ExprK : Type 0 where
    whole : ExprK
    in_parens : ℕ → AtomK → ExprK
    in_second : ℕ → Part → AtomK → ExprK
    in_body : ℕ → Binder → List ℕ → TyTree → ExprK → ExprK
    in_test : ℕ → ExprK → ExprK
    in_then : ℕ → Part → ExprK → ExprK
    in_else : ℕ → Part → Part → ExprK → ExprK

  pub data ProductK : Type 0 where
    first_product : ExprK → ProductK
    right_of_sum : Part → Operator → ExprK → ProductK

  pub data AppK : Type 0 where
    first_app : ProductK → AppK
    right_of_product : Part → Operator → ProductK → AppK

  pub data AtomK : Type 0 where
    first_atom : AppK → AtomK
    argument : Part → AppK → AtomK
    under : ℕ → Word → AtomK → AtomK

-- what is open around a type and a ptype
mutual
  pub data TypeK : Type 0 where
    of_binder : ℕ → Binder → List ℕ → ExprK → TypeK
    right_of_arrow : TyTree → TypeK → TypeK
    in_type_parens : PTypeK → TypeK

  pub data PTypeK : Type 0 where
    first_ptype : TypeK → PTypeK
    right_of_cross : TyTree → PTypeK → PTypeK

-- how many phrases are open
abbrev mutual
  pub expr_open : ExprK → ℕ
  expr_open whole = 0
  expr_open (in_parens _ k) = suc (atom_open k)
  expr_open (in_second _ _ k) = suc (atom_open k)
  expr_open (in_body _ _ _ _ k) = suc (expr_open k)
  expr_open (in_test _ k) = suc (expr_open k)
  expr_open (in_then _ _ k) = suc (expr_open k)
  expr_open (in_else _ _ _ k) = suc (expr_open k)

  pub product_open : ProductK → ℕ
  product_open (first_product k) = expr_open k
  product_open (right_of_sum _ _ k) = expr_open k

  pub app_open : AppK → ℕ
  app_open (first_app k) = product_open k
  app_open (right_of_product _ _ k) = product_open k

  pub atom_open : AtomK → ℕ
  atom_open (first_atom k) = app_open k
  atom_open (argument _ k) = app_open k
  atom_open (under _ _ k) = suc (atom_open k)

abbrev mutual
  pub type_open : TypeK → ℕ
  type_open (of_binder _ _ _ k) = suc (expr_open k)
  type_open (right_of_arrow _ k) = suc (type_open k)
  type_open (in_type_parens k) = suc (ptype_open k)

  pub ptype_open : PTypeK → ℕ
  ptype_open (first_ptype k) = type_open k
  ptype_open (right_of_cross _ k) = suc (ptype_open k)

-- what stands left of the first token of an atom, and what it counts for that
abbrev pub left_of : AtomK → ℕ
left_of (first_atom _) = 0
left_of (argument f _) = f.height
left_of (under _ _ _) = 0

abbrev pub extra_of : AtomK → ℕ
extra_of (first_atom _) = 0
extra_of (argument _ _) = 1
extra_of (under _ _ _) = 0

pub data State : Type 0 where
  want_expr : ExprK → State
  want_atom : AtomK → State
  after_atom : AppK → Part → State
  want_name : ℕ → Binder → ExprK → State
  want_colon : ℕ → Binder → List ℕ → ExprK → State
  want_tatom : PTypeK → State
  after_tatom : PTypeK → TyTree → State

-- a token can't follow, or is taken with its depth and count, or ends the program
pub data Step : Type 0 where
  refuse : Step
  go : ℕ → ℕ → State → Step
  finish : Part → Step

abbrev pub starts_atom : Token → Bool
starts_atom Open = true
starts_atom (Before _) = true
starts_atom (Number _) = true
starts_atom (Name _) = true
starts_atom _ = false

abbrev pub got_atom : AtomK → Part → State
got_atom (first_atom k) a = after_atom k a
got_atom (argument f k) a = after_atom k (app_part f a)
got_atom (under at w k) a = got_atom k (higher (word_at at w) a)

abbrev pub number_part : ℕ → ℕ → Part
number_part at n = record { tree = number_at at n; height = 1 }

abbrev pub name_part : ℕ → List ℕ → Part
name_part at x = record { tree = name_at at x; height = 1 }

abbrev pub begin_atom : AtomK → ℕ → Token → Step
begin_atom k at (Number n) = go (left_of k) (1 + extra_of k) (got_atom k (number_part at n))
begin_atom k at (Name x) = go (left_of k) (1 + extra_of k) (got_atom k (name_part at x))
begin_atom k at Open = go (max (left_of k) (atom_open k)) (extra_of k) (want_expr (in_parens at k))
begin_atom k at (Before w) = go (max (left_of k) (atom_open k)) (1 + extra_of k) (want_atom (under at w k))
begin_atom k at _ = refuse

abbrev pub begin_expr : ExprK → ℕ → Token → Step
begin_expr k at (Bind b) = go (expr_open k) 1 (want_name at b k)
begin_expr k at Ifz = go (expr_open k) 1 (want_expr (in_test at k))
begin_expr k at x = begin_atom (first_atom (first_app (first_product k))) at x

abbrev pub after_expr : ExprK → Part → ℕ → Token → Step
after_expr whole e at End = finish e
after_expr whole e at _ = refuse
after_expr (in_parens o k) e at Close = go 0 0 (got_atom k (higher (λ t. t) e))
after_expr (in_parens o k) e at Comma = go 0 1 (want_expr (in_second o e k))
after_expr (in_parens o k) e at _ = refuse
after_expr (in_second o a k) e at Close = go 0 0 (got_atom k (join (pair_at o) a e))
after_expr (in_second o a k) e at _ = refuse
after_expr (in_body o b x t k) e at y = after_expr k (higher (bind_at o b x t) e) at y
after_expr (in_test o k) e at Then = go 0 0 (want_expr (in_then o e k))
after_expr (in_test o k) e at _ = refuse
after_expr (in_then o c k) e at Else = go 0 0 (want_expr (in_else o c e k))
after_expr (in_then o c k) e at _ = refuse
after_expr (in_else o c p k) e at y = after_expr k (choice_part o c p e) at y

abbrev pub after_sum : ExprK → Part → ℕ → Token → Step
after_sum k s at (Sign op) =
    if is_sum op then go s.height 1 (want_atom (first_atom (first_app (right_of_sum s op k)))) else after_expr k s at (Sign op)
after_sum k s at x = after_expr k s at x

abbrev pub end_product : ProductK → Part → ℕ → Token → Step
end_product (first_product k) m at x = after_sum k m at x
end_product (right_of_sum s op k) m at x = after_sum k (binary op s m) at x

abbrev pub after_product : ProductK → Part → ℕ → Token → Step
after_product k m at (Sign op) =
    if is_sum op then end_product k m at (Sign op) else go m.height 1 (want_atom (first_atom (right_of_product m op k)))
after_product k m at x = end_product k m at x

abbrev pub end_app : AppK → Part → ℕ → Token → Step
end_app (first_app k) f at x = after_product k f at x
end_app (right_of_product m op k) f at x = after_product k (binary op m f) at x

abbrev pub after_app : AppK → Part → ℕ → Token → Step
after_app k f at x = if starts_atom x then begin_atom (argument f k) at x else end_app k f at x

abbrev pub begin_tatom : PTypeK → ℕ → Token → Step
begin_tatom k at Nat = go 0 1 (after_tatom k nat)
begin_tatom k at Open = go (ptype_open k) 0 (want_tatom (first_ptype (in_type_parens k)))
begin_tatom k at _ = refuse

abbrev pub end_type : TypeK → TyTree → ℕ → Token → Step
end_type (of_binder o b x k) t at Dot = go 0 0 (want_expr (in_body o b x t k))
end_type (of_binder o b x k) t at _ = refuse
end_type (right_of_arrow a k) t at x = end_type k (arrow a t) at x
end_type (in_type_parens k) t at Close = go 0 0 (after_tatom k t)
end_type (in_type_parens k) t at _ = refuse

abbrev pub after_ptype : TypeK → TyTree → ℕ → Token → Step
after_ptype k t at Arrow = go (type_open k) 0 (want_tatom (first_ptype (right_of_arrow t k)))
after_ptype k t at x = end_type k t at x

abbrev pub end_ptype : PTypeK → TyTree → ℕ → Token → Step
end_ptype (first_ptype k) t at x = after_ptype k t at x
end_ptype (right_of_cross a k) t at x = end_ptype k (product a t) at x

abbrev pub after_type_atom : PTypeK → TyTree → ℕ → Token → Step
after_type_atom k t at x = if is_star x then go (ptype_open k) 0 (want_tatom (right_of_cross t k)) else end_ptype k t at x

abbrev pub step : State → ℕ → Token → Step
step (want_expr k) at x = begin_expr k at x
step (want_atom k) at x = begin_atom k at x
step (after_atom k f) at x = after_app k f at x
step (want_name o b k) at (Name x) = go 0 0 (want_colon o b x k)
step (want_name o b k) at _ = refuse
step (want_colon o b x k) at Colon = go 0 0 (want_tatom (first_ptype (of_binder o b x k)))
step (want_colon o b x k) at _ = refuse
step (want_tatom k) at x = begin_tatom k at x
step (after_tatom k t) at x = after_type_atom k t at x
