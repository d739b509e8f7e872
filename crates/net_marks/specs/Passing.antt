-- What the nodes between a term and its operands do to the marks of variable wires.
-- Each variable wire is marked at the node below it, which the walk meets before the node above it: with its variable's binder, and
-- with the box in which it stands.
use Rattle.std.specs.Prelude.{ℕ, suc, List, ◌∷◌, nat_eq, if◌then◌else◌, slice_index_or, slice_set}
use Rattle.net_build.specs.declared.node.Node.{Node}
use Rattle.net_build.specs.declared.node.Node.TheVariants.{Const, Succ, Pred, Ifz, Der, Con, Weak, Lam, App, BoxNode, Binary, Proj}
use Rattle.net_build.specs.declared.node.Node.TheVariants.{Door, FixBox, Root, Pair}
use Rattle.net_marks.specs.declared.walk.Mark.{Mark}

-- a mark of these parts
abbrev pub mark : ℕ → ℕ → Mark
mark l e = record { level = l; place = e }

-- the mark of a wire
abbrev pub mark_at : List Mark → ℕ → Mark
mark_at ms w = slice_index_or ms w (mark 0 0)

-- a contraction hands on its wire's mark
abbrev pub shared : ℕ → ℕ → ℕ → List Mark → List Mark
shared l r w ms = slice_set (slice_set ms l (mark_at ms w)) r (mark_at ms w)

-- a door leads one box further in, and only from the box around
abbrev pub entered : ℕ → ℕ → ℕ → ℕ → List Mark → List Mark
entered around place i o ms = if nat_eq (mark_at ms o).place around then slice_set ms i (mark (mark_at ms o).level place) else ms

-- the nodes that are left, with the marks, the box in which the walk stands, and the value wire of the term that is to come
pub record Rest : Type 0 where
  pub nodes : List Node
  pub marks : List Mark
  pub place : ℕ
  pub want : ℕ

-- what is left, of these parts
abbrev pub rest : ℕ → ℕ → List Node → List Mark → Rest
rest place want ns ms = record { nodes = ns; marks = ms; place = place; want = want }

-- past the nodes that stand between a term and its operands; a box is passed where its wire is the one that is to come
abbrev pub pass : ℕ → ℕ → ℕ → List Node → List Mark → Rest
pass around place want (Con l r w ∷ ns) ms = pass around place want ns (shared l r w ms)
pass around place want (Weak x ∷ ns) ms = pass around place want ns ms
pass around place want (Door i o ∷ ns) ms = pass around place want ns (entered around place i o ms)
pass around place want (BoxNode i o ∷ ns) ms = if nat_eq o want then pass place (suc o) i ns ms else rest place want (BoxNode i o ∷ ns) ms
pass around place want ns ms = rest place want ns ms

-- the value wire of a term's own node, and the last wire of any other
abbrev pub value_of : Node → ℕ
value_of (Const v w) = w
value_of (Succ a w) = w
value_of (Pred a w) = w
value_of (Binary o a b w) = w
value_of (Ifz c p q w) = w
value_of (Der w x) = w
value_of (Con l r w) = w
value_of (Weak x) = x
value_of (Lam b x w) = w
value_of (App f a w) = w
value_of (BoxNode i o) = o
value_of (Door i o) = o
value_of (FixBox b x w) = w
value_of (Root w) = w
value_of (Pair a b w) = w
value_of (Proj side a w) = w
