-- Branches on the net of `(fun x:nat. x + x) 3`. The prover computes them.
use Rattle.std.specs.Prelude.{◌≡◌, ℕ, List, [], ◌∷◌, ◌++◌, map, Option, Some, None}
use Rattle.std.specs.Option.{IsSome}
use Rattle.pcf_values.specs.declared.val.Val.TheVariants.{Number}
use Rattle.pcf_values.specs.declared.operator.Operator.TheVariants.{Plus}
use Rattle.pcf_values.specs.Terms.{num, binary}
use Rattle.net_build.specs.Nets.{NetTree}
use Rattle.net_build.specs.NetOf.{net_of}
use Rattle.net_build.specs.Example.{doubled_net}
use Rattle.move_rules.specs.Places.{TokenTree, ask}
use Rattle.interleave_laws.specs.Start.{start_of}
use Rattle.interleave_laws.specs.States.{State, start, run}
use Rattle.interleave_laws.specs.Example.{times, answer_of}
use Rattle.branch_laws.specs.Branches.{start_at, name}

-- the whole run up to its answer
abbrev pub ExampleWhole : Type 0
ExampleWhole = IsSome (run doubled_net (start_at (ask (start_of doubled_net))) (times 15 0 (times 14 1 [])))

-- so many moves of the branch on the second ticket's token, from where it was forked
abbrev pub played_alone : Option TokenTree → ℕ → Option State
played_alone None n = None
played_alone (Some x) n = run doubled_net (start_at x) (times n 0 [])

abbrev pub token_at : Option State → ℕ → Option TokenTree
token_at None i = None
token_at (Some S) i = S.tokens i

abbrev pub second : Option TokenTree
second = token_at (run doubled_net (start (start_of doubled_net)) (times 3 0 [])) 1

-- it makes eleven moves
abbrev pub ExampleStands : Type 0
ExampleStands = IsSome (played_alone second 11)

-- and has no twelfth, since the entry isn't its own
abbrev pub ExampleStops : Type 0
ExampleStops = played_alone second 12 ≡ None

-- the net of `(1 + 2) + (3 + 4)`
abbrev pub halves_net : NetTree
halves_net = net_of (binary Plus (binary Plus (num 1) (num 2)) (binary Plus (num 3) (num 4)))

-- a half alone: it forks, its left operand comes and is kept, and its right one comes and goes on
abbrev pub half : List ℕ
half = 0 ∷ 0 ∷ 0 ∷ 1 ∷ 1 ∷ []

-- the run: a fork, the right half and then the left one as branches of tickets 1 and 0, and their answers' three moves
abbrev pub halves_log : List ℕ
halves_log = 0 ∷ (map (name 1 2) half ++ (map (name 0 3) half ++ 2 ∷ 3 ∷ 3 ∷ []))

abbrev pub ExampleHalves : Type 0
ExampleHalves = answer_of (run halves_net (start (start_of halves_net)) halves_log) ≡ Some (Number 10)
