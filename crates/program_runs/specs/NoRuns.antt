-- Why a text has no run: memory ran out, which may come at any time, or the text has a fault.
use Rattle.pcf_reader.specs.declared.fault.ReadFault.{ReadFault}
use Rattle.pcf_reader.specs.declared.fault.ReadFault.TheVariants as read
use Rattle.pcf_types.specs.declared.fault.TypeFault.{TypeFault}
use Rattle.pcf_types.specs.declared.fault.TypeFault.TheVariants as typing
use Rattle.cbv_terms.specs.declared.fault.ByValueFault.{ByValueFault}
use Rattle.cbv_terms.specs.declared.fault.ByValueFault.TheVariants as by_value
use Rattle.program_runs.specs.declared.fault.ProgramFault.{ProgramFault}
use Rattle.program_runs.specs.declared.fault.ProgramFault.TheVariants.{Read, Typing, ByValue}
use Rattle.program_runs.specs.declared.no_run.NoRun.{NoRun}
use Rattle.program_runs.specs.declared.no_run.NoRun.TheVariants.{Memory, Fault}

-- a fault of which this holds, or memory ran out
abbrev pub NoRunFor : (ProgramFault → Type 0) → NoRun → Type 0
NoRunFor P Memory = Unit {0}
NoRunFor P (Fault f) = P f

-- what the answers of the crates below stand for
abbrev pub no_run_of_read : ReadFault → NoRun
no_run_of_read read.NoMemory = Memory
no_run_of_read f = Fault (Read f)

abbrev pub no_run_of_type : TypeFault → NoRun
no_run_of_type typing.NoMemory = Memory
no_run_of_type f = Fault (Typing f)

abbrev pub no_run_of_by_value : ByValueFault → NoRun
no_run_of_by_value by_value.NoMemory = Memory
no_run_of_by_value f = Fault (ByValue f)
