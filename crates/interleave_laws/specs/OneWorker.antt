-- The run of one worker: always the least live ticket, up to the answer or to a number of moves.
-- It is a recursion on the number of moves that gives the log itself, so that a running worker's list of tickets can be compared
-- with it entry by entry. The tickets of a state are below its next one, so the search for the least ends there.
use Rattle.std.specs.Prelude.{ℕ, zero, suc, List, [], ◌∷◌, Option, Some, None}
use Rattle.net_build.specs.Nets.{NetTree}
use Rattle.move_rules.specs.Places.{TokenTree}
use Rattle.interleave_laws.specs.Start.{start_of}
use Rattle.interleave_laws.specs.States.{Tokens, State, start, step}

-- k where its token is there, and else the other ticket
abbrev pub or_next : Option TokenTree → ℕ → Option ℕ → Option ℕ
or_next None k o = o
or_next (Some x) k o = Some k

-- the first of n tickets from k on that is live
abbrev pub least_from : Tokens → ℕ → ℕ → Option ℕ
least_from f k zero = None
least_from f k (suc n) = or_next (f k) k (least_from f (suc k) n)

-- the least live ticket
abbrev pub least_live : State → Option ℕ
least_live S = least_from S.tokens 0 S.next

-- the ticket and what follows, where it has a step
abbrev pub on_step : ℕ → Option State → (State → List ℕ) → List ℕ
on_step i None f = []
on_step i (Some S) f = i ∷ f S

-- what follows a least ticket, where there is one
abbrev pub on_least : Option ℕ → (ℕ → List ℕ) → List ℕ
on_least None f = []
on_least (Some i) f = f i

-- the one worker's log from a state, of at most so many moves
abbrev pub one_from : NetTree → State → ℕ → List ℕ
one_from net S zero = []
one_from net S (suc b) = on_least (least_live S) (λ i. on_step i (step net S i) (λ T. one_from net T b))

-- the one worker's log from the net's start
abbrev pub one : NetTree → ℕ → List ℕ
one net b = one_from net (start (start_of net)) b
