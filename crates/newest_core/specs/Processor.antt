-- The processor that walks the newest question first: the current token, and the open forks as a stack.
-- At a fork the token goes on with the left question, and the right one waits with the fork. The left question's answer is kept there, and
-- the right question is walked. Its answer finds the left one, closes the fork and goes on with what both come to. An answer looks at the
-- innermost fork alone, and asks neither which fork that is nor which operand it answers: that these are always right is a law. So
-- questions wait in no queue, no fork has a number, and nothing is searched. Tickets stand here beside the tokens only so that a law can
-- compare the processor with the machine.
use Rattle.std.specs.Prelude.{ℕ, zero, suc, Bool, false, true, List, [], ◌∷◌, Option, Some, None, nat_eq, if◌then◌else◌}
use Rattle.pcf_values.specs.declared.val.Val.{Val}
use Rattle.pcf_values.specs.Values.{val_op}
use Rattle.pcf_values.specs.declared.operator.Operator.{Operator}
use Rattle.token_stacks.specs.Signatures.{Boxes}
use Rattle.net_build.specs.Nets.{NetTree}
use Rattle.fork_join.specs.Entries.{Entry, pending, has_left, same_key}
use Rattle.move_rules.specs.Places.{Place, down, TokenTree, ask, ans}
use Rattle.move_rules.specs.Moves.{Move, solo, fork, join, answer, stay}
use Rattle.interleave_laws.specs.Start.{start_of}
use Rattle.net_rows.specs.RowMoves.{by_rows}

-- what an open fork has: its right question, which waits with its ticket, or its left question's answer
pub data Half : Type 0 where
  waits : (ticket : ℕ) → Place → Half
  came : Val → Half

-- an open fork: its node and box stack, and what it has
pub record OpenFork : Type 0 where
  pub node : ℕ
  pub boxes : Boxes
  pub half : Half

pub record Registers : Type 0 where
  -- the current token with its ticket; none after the answer
  pub live : Option (ℕ × TokenTree)
  -- the open forks, the innermost first
  pub forks : List OpenFork
  -- the next ticket
  pub next : ℕ
  pub result : Option Val
  -- something came that a net that runs never does
  pub full : Bool
  pub moves : ℕ

-- an answer at the innermost fork: the right question goes on, or what both come to does
abbrev pub meets_half : Half → OpenFork → List OpenFork → ℕ → Operator → Val → ℕ → Boxes → Registers → Registers
meets_half (waits j p) f fs i o v w t R =
    record R { live = Some (j, ask p); forks = record f { half = came v } ∷ fs }
meets_half (came u) f fs i o v w t R =
    record R { live = Some (i, ans (val_op o u v) (down w [] t)); forks = fs }

-- an answer at the innermost fork, if there is one
abbrev pub meets : List OpenFork → ℕ → Operator → Val → ℕ → Boxes → Registers → Registers
meets [] i o v w t R = record R { full = true }
meets (f ∷ fs) i o v w t R = meets_half f.half f fs i o v w t R

-- the registers after a move of the current token, whose ticket is i
abbrev pub does : Move → ℕ → Registers → Registers
does (solo n x) i R = record R { live = Some (i, x) }
does (fork n l r t) i R = record R {
  live = Some (i, ask l);
  forks = record { node = n; boxes = t; half = waits R.next r } ∷ R.forks;
  next = suc R.next;
}
does (join n o s v w t) i R = meets R.forks i o v w t R
does (answer v) i R = record R { live = None; result = Some v }
does stay i R = record R { full = true }

-- the registers with one move more
abbrev pub counted : Registers → Registers
counted R = record R { moves = suc R.moves }

-- one cycle, with the current token if there is one
abbrev pub tick_on : NetTree → Option (ℕ × TokenTree) → Registers → Registers
tick_on net None R = R
tick_on net (Some c) R = does (by_rows net c.1) c.0 (counted R)

-- one cycle
abbrev pub tick : NetTree → Registers → Registers
tick net R = if R.full then R else tick_on net R.live R

-- so many cycles
abbrev pub ticks : NetTree → ℕ → Registers → Registers
ticks net zero R = R
ticks net (suc k) R = ticks net k (tick net R)

-- the registers at reset
abbrev pub reset : NetTree → Registers
reset net = record { live = Some (0, ask (start_of net)); forks = []; next = 1; result = None; full = false; moves = 0 }

-- the ticket that moves, where there is a current token, and what follows
abbrev pub on_live : Option (ℕ × TokenTree) → List ℕ → List ℕ
on_live None log = []
on_live (Some c) log = c.0 ∷ log

-- the tickets that move in so many cycles
abbrev pub fired : NetTree → ℕ → Registers → List ℕ
fired net zero R = []
fired net (suc k) R = on_live R.live (fired net k (tick net R))

-- the schedule: the tickets of the first k moves, the newest question first
abbrev pub newest : NetTree → ℕ → List ℕ
newest net k = fired net k (reset net)

-- the token of a ticket that waits with this fork, or with one around it
abbrev pub half_at : Half → Option TokenTree → ℕ → Option TokenTree
half_at (waits i p) o j = if nat_eq j i then Some (ask p) else o
half_at (came v) o j = o

-- the token of a ticket that waits with a fork
abbrev pub waiting_at : List OpenFork → ℕ → Option TokenTree
waiting_at [] j = None
waiting_at (f ∷ fs) j = half_at f.half (waiting_at fs j) j

-- the token of a ticket
abbrev pub token_at : Option (ℕ × TokenTree) → List OpenFork → ℕ → Option TokenTree
token_at None forks j = waiting_at forks j
token_at (Some c) forks j = if nat_eq j c.0 then Some c.1 else waiting_at forks j

-- what the machine has at the fork: nothing yet, or the left answer
abbrev pub entry_of : Half → Entry
entry_of (waits j p) = pending
entry_of (came v) = has_left v

-- what the machine has at the fork of a node and box stack
abbrev pub fork_at : List OpenFork → ℕ → Boxes → Option Entry
fork_at [] n t = None
fork_at (f ∷ fs) n t = if same_key n t f.node f.boxes then Some (entry_of f.half) else fork_at fs n t
