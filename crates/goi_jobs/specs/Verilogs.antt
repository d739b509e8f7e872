-- The ranges of what is printed of a text's circuit.
use Rattle.goi_jobs.specs.Ranges.{IsBudget, IsCells, IsForks}
use Rattle.goi_jobs.specs.declared.verilog.Verilog.{Verilog}
use Rattle.goi_jobs.specs.declared.verilog.Verilog.TheVariants.{Circuit, Run, Waves, Bench, Needs, Schedule}

-- its numbers are in the ranges in which it can be printed
abbrev pub IsPrinted : Verilog → Type 0
IsPrinted (Circuit cells forks handshake) = IsCells cells × IsForks forks
IsPrinted (Run cells forks budget) = IsBudget budget × IsCells cells × IsForks forks
IsPrinted (Waves cells forks budget) = IsBudget budget × IsCells cells × IsForks forks
IsPrinted (Bench budget) = IsBudget budget
IsPrinted (Needs budget) = IsBudget budget
IsPrinted (Schedule budget) = IsBudget budget
