-- The fault that `read_program` answers, which is the first one of the bytes, or that memory ran out.
use Rattle.std.specs.Prelude.{◌≡◌, ℕ, List}
use Rattle.pcf_reader.specs.declared.fault.ReadFault.{ReadFault}
use Rattle.pcf_reader.specs.declared.fault.ReadFault.TheVariants.{NoMemory}
use Rattle.pcf_reader.specs.Correct.{FirstFault}

-- a fault that may be answered: the first one, or that memory ran out
abbrev pub Faults : List ℕ → ReadFault → Type 0
Faults bytes NoMemory = Unit {0}
Faults bytes f = FirstFault bytes f

-- the answer where f is the first fault: f, unless memory ran out
abbrev pub IsOnlyFault : ReadFault → ReadFault → Type 0
IsOnlyFault f NoMemory = Unit {0}
IsOnlyFault f g = g ≡ f
