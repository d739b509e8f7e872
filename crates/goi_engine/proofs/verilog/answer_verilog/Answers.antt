use Rattle.std.proofs.Common.{List, ℕ, subst}
use Rattle.pcf_values.specs.Most.{most_program_bytes}
use Rattle.goi_world.specs.Seen.{holding}
use Rattle.goi_engine.specs.Answers.{Says}
use Rattle.goi_tasks.specs.Verilogs.{ReportsVerilog, FaultyVerilog}
use Rattle.goi_engine.proofs.LoadedFiles.{answers_file, verilog_goes, verilog_fault_goes}
use Rattle.goi_engine.proofs.verilog.answer_verilog.Goals as goal

pub returns-in-Ok-clause-answers : goal.returns-in-Ok-clause-answers
returns-in-Ok-clause-answers g c = λ told fits.
    let name = c.args.name.now in
    let v = c.args.verilog in
    let old = holding told (g.F.Files.seen c.args.files.now) in
    let new = holding told (g.F.Files.seen c.load.new.files) in
    answers_file most_program_bytes (ReportsVerilog name v) (FaultyVerilog v) (verilog_goes name v) (verilog_fault_goes v) c.args.file.now
    old new c.in-Ok.bytes.items c.print_verilog.result c.in-Ok.ensures.ok (λ h. let k = c.in-Ok.ensures.lacked h in cc)
    (c.in-Ok.ensures.bytes told fits)
    (subst (λ (b : List ℕ). Says (ReportsVerilog name v b) (FaultyVerilog v b) c.print_verilog.result) c.deref.ensures.value
    c.print_verilog.ensures)
