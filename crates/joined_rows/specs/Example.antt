-- A worked joined row: `(fun x:nat. x + x) 3`. The prover computes it.
use Rattle.std.specs.Prelude.{◌≡◌, [], Some}
use Rattle.pcf_values.specs.declared.val.Val.TheVariants.{Number}
use Rattle.pcf_values.specs.declared.operator.Operator.TheVariants.{Plus}
use Rattle.net_build.specs.Example.{doubled_net}
use Rattle.net_rows.specs.Rows.{rises, falls}
use Rattle.joined_rows.specs.Open.{known, both, spot, asks, says}
use Rattle.joined_rows.specs.Ticks.{named_ticks}

-- all of its moves but the root's are one joined row, with a fork and both joins in it, and no name
abbrev pub ExampleDouble : Type 0
ExampleDouble =
    named_ticks doubled_net 29 (record { live = asks (spot (rises 9) [] []); forks = [] })
    ≡ Some (record { live = says (both Plus (known (Number 3)) (known (Number 3))) (spot (falls 9) [] []); forks = [] })
