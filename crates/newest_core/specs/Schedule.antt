-- The schedule told of the machine alone: the tickets that may go on are a stack. The statement of `law_newest_schedule`.
-- The first ticket moves. At a fork the new ticket, the right question's, stands behind it; where a ticket ends, since its answer was kept
-- or is the run's, the next one goes on.
use Rattle.std.specs.Prelude.{◌≡◌, ℕ, zero, suc, List, [], ◌∷◌, Option, Some, None, nat_eq, if◌then◌else◌}
use Rattle.net_build.specs.Nets.{NetTree}
use Rattle.move_rules.specs.Places.{TokenTree}
use Rattle.interleave_laws.specs.Start.{start_of}
use Rattle.interleave_laws.specs.States.{State, start, step}
use Rattle.interleave_laws.specs.Runs.{Runs}
use Rattle.interleave_laws.specs.OneWorker.{on_step}
use Rattle.newest_core.specs.Processor.{newest}

-- the ticket on top, if it still has a token
abbrev pub on_top : Option TokenTree → ℕ → List ℕ → List ℕ
on_top None i tickets = tickets
on_top (Some x) i tickets = i ∷ tickets

-- the stack after a step of ticket i, from one state to the next, where these are the tickets below it
abbrev pub behind : State → State → ℕ → List ℕ → List ℕ
behind S T i tickets = if nat_eq T.next S.next then on_top (T.tokens i) i tickets else i ∷ S.next ∷ tickets

-- what follows the ticket on top, where there is one
abbrev pub on_first : List ℕ → (ℕ → List ℕ → List ℕ) → List ℕ
on_first [] f = []
on_first (i ∷ tickets) f = f i tickets

-- the log of at most so many moves, from a state with this stack of tickets
abbrev pub stack_from : NetTree → State → List ℕ → ℕ → List ℕ
stack_from net S tickets zero = []
stack_from net S tickets (suc k) =
    on_first tickets (λ i below. on_step i (step net S i) (λ T. stack_from net T (behind S T i below) k))

-- the processor's schedule is that of the stack
abbrev pub NewestIsStack : Type 0
NewestIsStack = (net : NetTree) → Runs net → (k : ℕ) → newest net k ≡ stack_from net (start (start_of net)) (0 ∷ []) k
