use Rattle.std.proofs.Common.{ℕ, List, IfOk, IfErr, subst}
use Rattle.goi_engine.specs.Answers.{Says}
use Rattle.program_runs.specs.declared.calling.Calling.TheVariants.{ByName}
use Rattle.program_runs.specs.Nets.{IsNetFor}
use Rattle.program_runs.specs.Programs.{number}
use Rattle.goi_tasks.specs.Programs.{FaultyText}
use Rattle.goi_engine.proofs.LoadedFiles.{whatever_net, whatever_none}
use Rattle.goi_engine.proofs.answer.load_net.Goals as goal

pub returns-in-Ok-clause-net : goal.returns-in-Ok-clause-net
returns-in-Ok-clause-net g c =
    whatever_net g.F.Files.seen g.F.Files.fits c.args.file.now c.args.files.now c.load.new.files c.in-Ok.bytes.items c.make_net.result
    c.in-Ok.ensures.ok (λ h. let k = c.in-Ok.ensures.lacked h in cc) c.in-Ok.ensures.bytes
    (subst (λ (b : List ℕ). IfOk c.make_net.result (λ net. IsNetFor ByName b net)) c.deref.ensures.value c.make_net.ensures.net)

pub returns-in-Ok-clause-none : goal.returns-in-Ok-clause-none
returns-in-Ok-clause-none g c =
    whatever_none g.F.Files.seen g.F.Files.fits c.args.file.now c.args.files.now c.load.new.files c.in-Ok.bytes.items c.make_net.result
    c.in-Ok.ensures.ok (λ h. let k = c.in-Ok.ensures.lacked h in cc) c.in-Ok.ensures.bytes
    (subst (λ (b : List ℕ). IfErr c.make_net.result (λ a. Says (λ o. ⊥) (FaultyText number b) a)) c.deref.ensures.value
    c.make_net.ensures.none)
