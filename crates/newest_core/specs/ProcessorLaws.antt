-- The processor makes a run of the machine, in which forks nest: the statements of `law_newest`.
use Rattle.std.specs.Prelude.{◌≡◌, ℕ, false, List, [], ◌∷◌, length, Some, None}
use Rattle.pcf_values.specs.declared.operator.Operator.{Operator}
use Rattle.pcf_values.specs.declared.side.Side.{Side}
use Rattle.pcf_values.specs.declared.side.Side.TheVariants.{Left, Right}
use Rattle.pcf_values.specs.declared.val.Val.{Val}
use Rattle.token_stacks.specs.Signatures.{Boxes}
use Rattle.net_build.specs.Nets.{NetTree}
use Rattle.move_rules.specs.Places.{TokenTree}
use Rattle.move_rules.specs.Moves.{join, move}
use Rattle.interleave_laws.specs.States.{State}
use Rattle.interleave_laws.specs.Runs.{LeadsTo, Runs}
use Rattle.interleave_laws.specs.Finished.{Finished}
use Rattle.net_rows.specs.RowMoves.{by_rows}
use Rattle.newest_core.specs.Processor.{Half, waits, came, OpenFork, Registers, fork_at, ticks, reset, newest, token_at}

-- the registers have the tokens, the entries, the next ticket and the answer of the state: each live token is the current one, or waits
-- with an open fork
pub record Shows (R : Registers) (S : State) : Type 0 where
  pub tokens : (j : ℕ) → S.tokens j ≡ token_at R.live R.forks j
  pub entries : (n : ℕ) (t : Boxes) → S.entries n t ≡ fork_at R.forks n t
  pub next : S.next ≡ R.next
  pub answered : S.answered ≡ R.result

-- after k cycles: the schedule leads to a state that the registers show, and it is k moves long, or has answered
pub record Follows (net : NetTree) (k : ℕ) : Type 0 where
  pub state : State
  pub leads : LeadsTo net (newest net k) state
  pub shows : Shows (ticks net k (reset net)) state
  pub ready : (ticks net k (reset net)).full ≡ false
  pub moves : (ticks net k (reset net)).moves ≡ length (newest net k)
  pub finished : Finished state.answered (newest net k) k

-- on a net that runs the processor shows a state to which its own moves lead
abbrev pub NewestFollows : Type 0
NewestFollows = (net : NetTree) → Runs net → (k : ℕ) → Follows net k

-- an answer's operand is the one that the fork waits for
abbrev pub Waits : Side → Half → Type 0
Waits Left (waits j p) = Unit {0}
Waits Left (came v) = ⊥
Waits Right (waits j p) = ⊥
Waits Right (came v) = Unit {0}

-- the innermost fork has this node and box stack, and waits for this operand
abbrev pub IsInnermost : List OpenFork → ℕ → Boxes → Side → Type 0
IsInnermost [] n t s = ⊥
IsInnermost (f ∷ fs) n t s = (f.node ≡ n) × (f.boxes ≡ t) × Waits s f.half

-- an answer of the current token that joins comes to the innermost fork, and answers what that waits for
abbrev pub MeetsInnermost : NetTree → Registers → Type 0
MeetsInnermost net R = (i : ℕ) (x : TokenTree) → R.live ≡ Some (i, x) → (n : ℕ) (o : Operator) (s : Side) (v : Val) (w : ℕ) (t : Boxes) →
    by_rows net x ≡ join n o s v w t → IsInnermost R.forks n t s

-- forks nest: an answer that comes to a fork comes to the innermost one, and answers the operand that it waits for
abbrev pub ForksNest : Type 0
ForksNest = (net : NetTree) → Runs net → (k i : ℕ) (x : TokenTree) → (ticks net k (reset net)).live ≡ Some (i, x) →
    (n : ℕ) (o : Operator) (s : Side) (v : Val) (w : ℕ) (t : Boxes) → move net x ≡ join n o s v w t →
    IsInnermost (ticks net k (reset net)).forks n t s

-- and at the answer none is open
abbrev pub AllClosed : Type 0
AllClosed = (net : NetTree) → Runs net → (k : ℕ) → (ticks net k (reset net)).live ≡ None → (ticks net k (reset net)).forks ≡ []
