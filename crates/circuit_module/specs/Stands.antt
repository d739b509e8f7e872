-- What registers hold of values.
use Rattle.std.specs.Prelude.{◌<◌, ℕ, ◌^◌}
use Rattle.pcf_values.specs.declared.val.Val.{Val}
use Rattle.pcf_values.specs.declared.val.Val.TheVariants.{Number, Overflow}
use Rattle.net_build.specs.declared.node.Node.TheVariants.{Const}
use Rattle.net_build.specs.Nets.{NetTree}
use Rattle.net_build.specs.Sound.{In}

-- a value in 65 bits
abbrev pub value_number : Val → ℕ
value_number (Number n) = n
value_number Overflow = 2 ^ 64

-- a number is below 2 ^ 64
abbrev pub Small : Val → Type 0
Small (Number n) = n < 2 ^ 64
Small Overflow = Unit {0}

-- the constants of a net are such numbers
abbrev pub SmallConstants : NetTree → Type 0
SmallConstants net = (n w : ℕ) → In (Const n w) net.nodes → n < 2 ^ 64
