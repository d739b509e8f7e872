-- The net of a program within the limits, or of its translation, has fewer than 2 ^ 32 wires and nodes.
use Rattle.std.proofs.Common.{length, ◌+◌, ◌*◌, ◌^◌, ◌<◌, ◌≤◌, arith}
use Rattle.std.proofs.Math.Nat.{mul-le-mul_right}
use Rattle.pcf_values.specs.Terms.{TermTree, size, height}
use Rattle.net_build.specs.NetOf.{net_of}
use Rattle.net_build.specs.Laws.{NetSize}

module _ (bound : NetSize) (m : TermTree) (small : size m ≤ 10 * 32768 + 3) (low : height m ≤ 2600) where
  most : size m * (2 * height m + 4) < 2 ^ 32
  most =
      let k = 2 * height m + 4 in
      let a : size m * k ≤ 327683 * k = mul-le-mul_right k (omega (arith, small)) in
      omega arith

  pub few_wires : length (net_of m).wires < 2 ^ 32
  few_wires = omega (arith, most, (bound m).0)

  pub few_nodes : length (net_of m).nodes < 2 ^ 32
  few_nodes = omega (arith, most, (bound m).1)
