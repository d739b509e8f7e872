-- What holds of the first faults of nets.
use Rattle.std.specs.Prelude.{◌≡◌}
use Rattle.net_build.specs.Nets.{NetTree}
use Rattle.net_build.specs.Sound.{Sound}
use Rattle.net_check.specs.declared.fault.NetFault.{NetFault}
use Rattle.net_check.specs.Faults.{FirstFault}

-- a net has one first fault at most
abbrev pub OneFault : Type 0
OneFault = (net : NetTree) (e f : NetFault) → FirstFault net e → FirstFault net f → e ≡ f

-- and a sound net has none
abbrev pub NoFault : Type 0
NoFault = (net : NetTree) (e : NetFault) → FirstFault net e → Sound net → ⊥
