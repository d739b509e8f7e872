-- The grammar of programs.
-- A phrase is a concrete derivation: a value of one of these types, whose constructors are the rows of the grammar's table, with the
-- place of each token in them. What a phrase stands for, how high it is as written, and which tokens it is written with are recursions
-- on it; `a text is in the grammar` is then `some phrase is written with its tokens`. Sums, products and applications are grouped to
-- the left, and the types of functions and pairs to the right. Heights count parentheses, which trees do not keep.
-- What the limits speak of is kept with each written token: how deep it stands and how many nodes it counts. Thus the limits are
-- facts about a list of tokens, and no rule of the grammar speaks of them.
use Rattle.std.specs.Prelude.{ℕ, suc, ◌+◌, max, IsTrue, IsFalse, List, [], ◌∷◌, ◌++◌}
use Rattle.pcf_values.specs.declared.operator.Operator.{Operator}
use Rattle.pcf_values.specs.Terms.{TyTree, nat, arrow, product}
use Rattle.pcf_values.specs.Named.{Word, Binder, NamedTree, number_at, name_at, word_at, binary_at, pair_at, ifz_at, bind_at, apply_at}
use Rattle.pcf_values.specs.Named.{place_of}
use Rattle.pcf_reader.specs.Tokens.{Token, Open, Close, Colon, Dot, Comma, Sign, Arrow, Ifz, Then, Else, Nat, Bind, Before}
use Rattle.pcf_reader.specs.Tokens.{Number, Name, End, is_sum, star, Placed}

-- type: ptype, or ptype -> type; ptype: tatom, or tatom * ptype; tatom: nat, or ( type )
mutual
  pub data Type_ : Type 0 where
    only_ptype : PType → Type_
    arrow_type : PType → ℕ → Type_ → Type_

  pub data PType : Type 0 where
    only_tatom : TAtom → PType
    times_type : TAtom → ℕ → PType → PType

  pub data TAtom : Type 0 where
    nat_type : ℕ → TAtom
    paren_type : ℕ → Type_ → ℕ → TAtom

mutual
  pub data Expr : Type 0 where
    -- fun id : type . expr, and fix
    binding : ℕ → Binder → ℕ → List ℕ → ℕ → Type_ → ℕ → Expr → Expr
    -- ifz expr then expr else expr
    choice : ℕ → Expr → ℕ → Expr → ℕ → Expr → Expr
    only_sum : Sum → Expr

  -- sums are grouped to the left
  pub data Sum : Type 0 where
    only_product : Product → Sum
    summed : Sum → ℕ → (op : Operator) → IsTrue (is_sum op) → Product → Sum

  pub data Product : Type 0 where
    only_app : App → Product
    multiplied : Product → ℕ → (op : Operator) → IsFalse (is_sum op) → App → Product

  pub data App : Type 0 where
    only_atom : Atom → App
    applied : App → Atom → App

  pub data Atom : Type 0 where
    numeral : ℕ → ℕ → Atom
    variable : ℕ → List ℕ → Atom
    parens : ℕ → Expr → ℕ → Atom
    pairing : ℕ → Expr → ℕ → Expr → ℕ → Atom
    prefixed : ℕ → Word → Atom → Atom

-- the type that a phrase stands for
abbrev mutual
  pub type_ty : Type_ → TyTree
  type_ty (only_ptype p) = ptype_ty p
  type_ty (arrow_type p _ t) = arrow (ptype_ty p) (type_ty t)

  pub ptype_ty : PType → TyTree
  ptype_ty (only_tatom a) = tatom_ty a
  ptype_ty (times_type a _ p) = product (tatom_ty a) (ptype_ty p)

  pub tatom_ty : TAtom → TyTree
  tatom_ty (nat_type _) = nat
  tatom_ty (paren_type _ t _) = type_ty t

-- the tree of a phrase, and its height as written
pub record Part : Type 0 where
  pub tree : NamedTree
  pub height : ℕ

abbrev pub join : (NamedTree → NamedTree → NamedTree) → Part → Part → Part
join f a b = record { tree = f a.tree b.tree; height = suc (max a.height b.height) }

abbrev pub binary : Operator → Part → Part → Part
binary op a b = join (binary_at (place_of a.tree) op) a b

abbrev pub app_part : Part → Part → Part
app_part f a = join (apply_at (place_of f.tree)) f a

abbrev pub higher : (NamedTree → NamedTree) → Part → Part
higher f a = record { tree = f a.tree; height = suc a.height }

abbrev pub choice_part : ℕ → Part → Part → Part → Part
choice_part at c p q = record { tree = ifz_at at c.tree p.tree q.tree; height = suc (max c.height (max p.height q.height)) }

abbrev mutual
  pub expr_part : Expr → Part
  expr_part (binding at b _ x _ t _ e) = higher (bind_at at b x (type_ty t)) (expr_part e)
  expr_part (choice at c _ p _ q) = choice_part at (expr_part c) (expr_part p) (expr_part q)
  expr_part (only_sum s) = sum_part s

  pub sum_part : Sum → Part
  sum_part (only_product p) = product_part p
  sum_part (summed s _ op _ p) = binary op (sum_part s) (product_part p)

  pub product_part : Product → Part
  product_part (only_app f) = app_part_of f
  product_part (multiplied m _ op _ f) = binary op (product_part m) (app_part_of f)

  pub app_part_of : App → Part
  app_part_of (only_atom a) = atom_part a
  app_part_of (applied f a) = app_part (app_part_of f) (atom_part a)

  pub atom_part : Atom → Part
  atom_part (numeral at n) = record { tree = number_at at n; height = 1 }
  atom_part (variable at x) = record { tree = name_at at x; height = 1 }
  atom_part (parens _ e _) = higher (λ t. t) (expr_part e)
  atom_part (pairing at a _ b _) = join (pair_at at) (expr_part a) (expr_part b)
  atom_part (prefixed at w a) = higher (word_at at w) (atom_part a)

-- A token as a phrase writes it. Its depth, which must stay below the limit, is the number of open phrases where it opens one,
-- and the height of what stands left of it where it is an operator or begins an argument; count is how many nodes it adds.
pub record Written : Type 0 where
  pub at : ℕ
  pub token : Token
  pub depth : ℕ
  pub count : ℕ

abbrev pub placed : Written → Placed
placed w = record { at = w.at; token = w.token }

abbrev pub plain : ℕ → Token → Written
plain at x = record { at = at; token = x; depth = 0; count = 0 }

abbrev pub marked : ℕ → Token → ℕ → ℕ → Written
marked at x depth count = record { at = at; token = x; depth = depth; count = count }

-- the tokens of a type, while so many phrases are open
abbrev mutual
  pub type_text : ℕ → Type_ → List Written
  type_text o (only_ptype p) = ptype_text o p
  type_text o (arrow_type p at t) = ptype_text o p ++ marked at Arrow o 0 ∷ type_text (suc o) t

  pub ptype_text : ℕ → PType → List Written
  ptype_text o (only_tatom a) = tatom_text o a
  ptype_text o (times_type a at p) = tatom_text o a ++ marked at star o 0 ∷ ptype_text (suc o) p

  pub tatom_text : ℕ → TAtom → List Written
  tatom_text o (nat_type at) = marked at Nat 0 1 ∷ []
  tatom_text o (paren_type at t close) = marked at Open o 0 ∷ (type_text (suc o) t ++ plain close Close ∷ [])

-- The tokens of a term, while so many phrases are open. The first token of an argument has a height left of it, and counts one more.
abbrev mutual
  pub expr_text : ℕ → Expr → List Written
  expr_text o (binding at b xat x colon t dot e) =
      marked at (Bind b) o 1 ∷ plain xat (Name x) ∷ plain colon Colon ∷ (type_text (suc o) t ++ plain dot Dot ∷ expr_text (suc o) e)
  expr_text o (choice at c at_then p at_else q) =
      marked at Ifz o 1 ∷ (expr_text (suc o) c ++ plain at_then Then ∷
      (expr_text (suc o) p ++ plain at_else Else ∷ expr_text (suc o) q))
  expr_text o (only_sum s) = sum_text o s

  pub sum_text : ℕ → Sum → List Written
  sum_text o (only_product p) = product_text o p
  sum_text o (summed s at op _ p) = sum_text o s ++ marked at (Sign op) (sum_part s).height 1 ∷ product_text o p

  pub product_text : ℕ → Product → List Written
  product_text o (only_app f) = app_text o f
  product_text o (multiplied m at op _ f) = product_text o m ++ marked at (Sign op) (product_part m).height 1 ∷ app_text o f

  pub app_text : ℕ → App → List Written
  app_text o (only_atom a) = atom_text o 0 0 a
  app_text o (applied f a) = app_text o f ++ atom_text o (app_part_of f).height 1 a

  pub atom_text : ℕ → ℕ → ℕ → Atom → List Written
  atom_text o left extra (numeral at n) = marked at (Number n) left (1 + extra) ∷ []
  atom_text o left extra (variable at x) = marked at (Name x) left (1 + extra) ∷ []
  atom_text o left extra (parens at e close) = marked at Open (max left o) extra ∷ (expr_text (suc o) e ++ plain close Close ∷ [])
  atom_text o left extra (pairing at a comma b close) =
      marked at Open (max left o) extra ∷ (expr_text (suc o) a ++ marked comma Comma 0 1 ∷
      (expr_text (suc o) b ++ plain close Close ∷ []))
  atom_text o left extra (prefixed at w a) = marked at (Before w) (max left o) (1 + extra) ∷ atom_text (suc o) 0 0 a

-- a program ends where the text ends
pub record Program : Type 0 where
  pub expr : Expr
  pub end : ℕ

abbrev pub program_text : Program → List Written
program_text p = expr_text 0 p.expr ++ plain p.end End ∷ []
