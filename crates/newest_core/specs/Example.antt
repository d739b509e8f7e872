-- Worked runs, newest question first: a sum of two sums, and a recursion. The prover computes them.
use Rattle.std.specs.Prelude.{◌≡◌, ℕ, [], ◌∷◌, Some}
use Rattle.pcf_values.specs.declared.val.Val.TheVariants.{Number}
use Rattle.pcf_values.specs.declared.operator.Operator.TheVariants.{Plus}
use Rattle.pcf_values.specs.Terms.{nat, arrow, num, var, pred_of, binary, ifz, lam, fix, app}
use Rattle.net_build.specs.Nets.{NetTree}
use Rattle.net_build.specs.NetOf.{net_of}
use Rattle.newest_core.specs.Processor.{ticks, reset, newest}

-- the net of `(1 + 2) + (3 + 4)`
abbrev pub sums_net : NetTree
sums_net = net_of (binary Plus (binary Plus (num 1) (num 2)) (binary Plus (num 3) (num 4)))

-- each half of the sum is walked to its end before the other begins
abbrev pub ExampleSums : Type 0
ExampleSums =
    (newest sums_net 20 ≡ 0 ∷ 0 ∷ 0 ∷ 0 ∷ 2 ∷ 2 ∷ 2 ∷ 1 ∷ 1 ∷ 1 ∷ 3 ∷ 3 ∷ 3 ∷ 3 ∷ [])
    × ((ticks sums_net 14 (reset sums_net)).result ≡ Some (Number 10))

-- the numbers up to n summed by recursion: `(fix sum:nat->nat. fun x:nat. ifz x then 0 else x + sum (pred x)) n`
abbrev pub recursive_net : ℕ → NetTree
recursive_net n = net_of (app (fix (arrow nat nat) (lam nat (ifz (var 0) (num 0) (binary Plus (var 0) (app (var 1) (pred_of (var 0)))))))
    (num n))

-- its answer comes with the last of 188 moves
abbrev pub ExampleRecursive : Type 0
ExampleRecursive =
    ((ticks (recursive_net 2) 200 (reset (recursive_net 2))).result ≡ Some (Number 3))
    × ((ticks (recursive_net 2) 200 (reset (recursive_net 2))).moves ≡ 188)
