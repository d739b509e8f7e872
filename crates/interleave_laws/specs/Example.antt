-- Runs of the net of `(fun x:nat. x + x) 3`: by one worker, and with the second ticket first. The prover computes them.
use Rattle.std.specs.Prelude.{◌≡◌, ℕ, zero, suc, List, [], ◌∷◌, Option, Some, None}
use Rattle.pcf_values.specs.declared.val.Val.{Val}
use Rattle.pcf_values.specs.declared.val.Val.TheVariants.{Number}
use Rattle.net_build.specs.Example.{doubled_net}
use Rattle.interleave_laws.specs.Start.{start_of}
use Rattle.interleave_laws.specs.States.{State, start, run}
use Rattle.interleave_laws.specs.OneWorker.{one}

-- so many moves of a ticket, and then a log
abbrev pub times : ℕ → ℕ → List ℕ → List ℕ
times zero i log = log
times (suc n) i log = i ∷ times n i log

-- the answer of a state, where there is one
abbrev pub answer_of : Option State → Option Val
answer_of None = None
answer_of (Some S) = S.answered

-- what the log answers from the start
abbrev pub answer_by : List ℕ → Option Val
answer_by log = answer_of (run doubled_net (start (start_of doubled_net)) log)

-- the one worker makes fifteen moves of ticket 0 and then fifteen of ticket 1
abbrev pub ExampleOne : Type 0
ExampleOne = one doubled_net 40 ≡ times 15 0 (times 15 1 [])

-- and answers 6
abbrev pub ExampleAnswer : Type 0
ExampleAnswer = answer_by (times 15 0 (times 15 1 [])) ≡ Some (Number 6)

-- so does the run in which ticket 1 goes first, as soon as it is there
abbrev pub ExampleOther : Type 0
ExampleOther = answer_by (times 3 0 (times 12 1 (times 15 0 []))) ≡ Some (Number 6)
