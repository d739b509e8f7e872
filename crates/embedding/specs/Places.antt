-- The place of a fault in its text, if it has one.
use Rattle.std.specs.Prelude.{ℕ, Option, Some, None}
use Rattle.pcf_reader.specs.declared.fault.ReadFault.{ReadFault}
use Rattle.pcf_reader.specs.declared.fault.ReadFault.TheVariants as read
use Rattle.pcf_types.specs.declared.fault.TypeFault.{TypeFault}
use Rattle.pcf_types.specs.declared.fault.TypeFault.TheVariants as typing
use Rattle.cbv_terms.specs.declared.fault.ByValueFault.{ByValueFault}
use Rattle.cbv_terms.specs.declared.fault.ByValueFault.TheVariants as by_value
use Rattle.program_runs.specs.declared.fault.ProgramFault.{ProgramFault}
use Rattle.program_runs.specs.declared.fault.ProgramFault.TheVariants as program

abbrev pub read_place : ReadFault → Option ℕ
read_place read.NoMemory = None
read_place (read.NotText at) = Some at
read_place (read.BadToken at) = Some at
read_place (read.NumberTooWide at) = Some at
read_place (read.Unexpected at) = Some at
read_place (read.TooDeep at) = Some at
read_place (read.TooLarge at) = Some at
read_place read.TooLong = None

abbrev pub type_place : TypeFault → Option ℕ
type_place typing.NoMemory = None
type_place (typing.Unbound at) = Some at
type_place (typing.FunctionWanted at) = Some at
type_place (typing.ArgumentMismatch at) = Some at
type_place (typing.NatWanted at) = Some at
type_place (typing.FixMismatch at) = Some at
type_place (typing.PairWanted at) = Some at

abbrev pub by_value_place : ByValueFault → Option ℕ
by_value_place by_value.NoMemory = None
by_value_place (by_value.ByValueFix at) = Some at
by_value_place (by_value.ByValuePair at) = Some at
by_value_place by_value.ByValueDeep = None

abbrev pub place_of : ProgramFault → Option ℕ
place_of (program.Read f) = read_place f
place_of (program.Typing f) = type_place f
place_of program.NotGround = None
place_of (program.ByValue f) = by_value_place f
