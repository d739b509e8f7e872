-- A token that runs by itself, with all that it forks: what a machine can do that knows no other token and no other entry.
-- Its answer and its joins with what it didn't fork are left to whoever knows more.
use Rattle.std.specs.Prelude.{◌≡◌, ◌≤◌, ◌⊎◌, ℕ, List, length, Some, None}
use Rattle.std.specs.Option.{IsSome}
use Rattle.std.specs.FinMap.{get, insert}
use Rattle.pcf_values.specs.declared.val.Val.{Val}
use Rattle.pcf_values.specs.declared.operator.Operator.{Operator}
use Rattle.pcf_values.specs.declared.side.Side.{Side}
use Rattle.token_stacks.specs.Signatures.{Boxes}
use Rattle.net_build.specs.Nets.{NetTree}
use Rattle.move_rules.specs.Places.{TokenTree}
use Rattle.move_rules.specs.Moves.{Move, solo, fork, join, answer, stay, move}
use Rattle.move_rules.specs.AtNode.{NotSolo}
use Rattle.move_rules.specs.Walks.{Walks}
use Rattle.interleave_laws.specs.Maps.{MapState, step_map}

-- n solo moves of the ticket lead from S to T, at most so many, and fewer only where its next move is no solo move
pub record GoesAlone (net : NetTree) (S : MapState) (i most n : ℕ) (T : MapState) : Type 0 where
  pub before : TokenTree
  pub after : TokenTree
  pub trail : List ℕ
  pub live : get S.tokens i ≡ Some before
  pub walks : Walks net before trail after
  pub many : length trail ≡ n
  pub few : n ≤ most
  pub ends : (n ≡ most) ⊎ NotSolo (move net after)
  pub state : T ≡ record S { tokens = insert S.tokens i after }

-- the entry of each join of this token is there
abbrev pub JoinsOwn : NetTree → MapState → TokenTree → Type 0
JoinsOwn net S x = (n : ℕ) (o : Operator) (s : Side) (v : Val) (w : ℕ) (t : Boxes) → move net x ≡ join n o s v w t →
    IsSome (get S.entries (n, t))

-- the ticket has its step where its token doesn't join, and where its entry is there
abbrev pub OwnAble : NetTree → MapState → ℕ → Type 0
OwnAble net S i = (x : TokenTree) → get S.tokens i ≡ Some x → JoinsOwn net S x → IsSome (step_map net S i)

-- the move is the answer, or a join whose entry isn't there
abbrev pub IsForeign : Move → MapState → Type 0
IsForeign (solo n x) S = ⊥
IsForeign (fork n l r t) S = ⊥
IsForeign (join n o s v w t) S = get S.entries (n, t) ≡ None
IsForeign (answer v) S = Unit {0}
IsForeign stay S = ⊥

-- the ticket stands before such a move
abbrev pub StandsForeign : NetTree → MapState → ℕ → Type 0
StandsForeign net S i = (x : TokenTree) × (get S.tokens i ≡ Some x) × IsForeign (move net x) S

-- the ticket makes its step, and no answer comes
abbrev pub StepsOwn : NetTree → MapState → ℕ → MapState → Type 0
StepsOwn net S i T = (step_map net S i ≡ Some T) × (T.answered ≡ S.answered)
