-- What was read: a term, with the nodes and the marks that are left. The one term that a mark alone tells is a variable.
use Rattle.std.specs.Prelude.{◌≡◌, ℕ, suc, ◌-◌, List, Option, Some, None, nat_eq, nat_lt, if◌then◌else◌}
use Rattle.pcf_values.specs.Terms.{TermTree, var}
use Rattle.net_build.specs.declared.node.Node.{Node}
use Rattle.net_marks.specs.declared.walk.Mark.{Mark}

-- a term, with the nodes that are left and the marks
pub record Read : Type 0 where
  pub term : TermTree
  pub nodes : List Node
  pub marks : List Mark

-- what was read, of these parts
abbrev pub read : TermTree → List Node → List Mark → Read
read t ns ms = record { term = t; nodes = ns; marks = ms }

-- the variable of this mark, under k binders in this box
abbrev pub variable : ℕ → ℕ → Mark → List Node → List Mark → Option Read
variable k place m ns ms =
    if nat_eq m.place place then (if nat_lt m.level k then Some (read (var (k - suc m.level)) ns ms) else None) else None

-- What was answered is what the definition reads, with the nodes and marks that are left; None: it reads nothing.
abbrev pub Gives : {X : Type 0} → (X → TermTree) → Option X → Option Read → List Node → List Mark → Type 0
Gives view None r ns ms = r ≡ None
Gives view (Some t) r ns ms = r ≡ Some (read (view t) ns ms)
