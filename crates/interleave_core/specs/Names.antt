-- What a step is called: by the move of the ticket's token, and at a join by what its entry keeps.
-- The names tell what a step did to the live tickets. It is none just where the step is none because the ticket isn't live, its token has
-- no
-- move, or a join finds no entry.
use Rattle.std.specs.Prelude.{ℕ, Option, Some, None}
use Rattle.std.specs.FinMap.{get}
use Rattle.pcf_values.specs.declared.val.Val.{Val}
use Rattle.net_build.specs.Nets.{NetTree}
use Rattle.fork_join.specs.Entries.{Entry, pending, has_left, has_right}
use Rattle.move_rules.specs.Places.{TokenTree}
use Rattle.move_rules.specs.Moves.{Move, solo, fork, join, answer, stay, move}
use Rattle.interleave_core.specs.declared.stepped.Stepped.{Stepped}
use Rattle.interleave_core.specs.declared.stepped.Stepped.TheVariants.{Went, Forked, Kept, Joined, Answered}
use Rattle.interleave_laws.specs.Maps.{MapState}

-- at a join to which v came: the first answer of an entry is kept, and the second one goes on; it tells the left and the right value
abbrev pub name_at : Option Entry → Val → Option Stepped
name_at None v = None
name_at (Some pending) v = Some Kept
name_at (Some (has_left w)) v = Some (Joined w v)
name_at (Some (has_right w)) v = Some (Joined v w)

-- the name of a move in a state; a fork tells its new ticket
abbrev pub name_of : Move → MapState → Option Stepped
name_of (solo n x) S = Some Went
name_of (fork n l r t) S = Some (Forked S.next)
name_of (join n o s v w t) S = name_at (get S.entries (n, t)) v
name_of (answer v) S = Some (Answered v)
name_of stay S = None

-- the name of the move of this token, if there is one
abbrev pub name_on : NetTree → Option TokenTree → MapState → Option Stepped
name_on net None S = None
name_on net (Some x) S = name_of (move net x) S

-- the name of the ticket's step
abbrev pub step_name : NetTree → MapState → ℕ → Option Stepped
step_name net S i = name_on net (get S.tokens i) S

-- the steps that may take memory: a solo move and a fork. A join and the answer take none.
abbrev pub MayTake : Option Stepped → Type 0
MayTake None = ⊥
MayTake (Some Went) = Unit {0}
MayTake (Some (Forked n)) = Unit {0}
MayTake (Some Kept) = ⊥
MayTake (Some (Joined v w)) = ⊥
MayTake (Some (Answered v)) = ⊥
