use Rattle.std.proofs.Common.{List, inr, subst}
use Rattle.batch_lists.specs.declared.line.BatchLine.{BatchLine}
use Rattle.goi_world.specs.Seen.{holding}
use Rattle.goi_engine.specs.Answers.{AnswersLines}
use Rattle.goi_engine.specs.ListsSeen.{LoadedEach}
use Rattle.goi_engine.proofs.Lists.{lines_job, none_job}
use Rattle.goi_engine.proofs.batching.answer_list.Goals as goal

pub returns-in-Ok-clause-answers : goal.returns-in-Ok-clause-answers
returns-in-Ok-clause-answers g c = λ told fits.
    let old = holding told (g.F.Files.seen c.args.files.now) in
    let new = holding told (g.F.Files.seen c.answer_lines.new.files) in
    lines_job c.args.bytes.now c.args.workers old new c.in-Ok.lines.items c.in-Ok.ensures.list c.answer_lines.result
    (subst (λ (ls : List BatchLine). AnswersLines c.args.workers ls old new c.answer_lines.result) c.deref.ensures.value
    (c.answer_lines.ensures.answers told fits))

pub returns-in-Ok-clause-reads : goal.returns-in-Ok-clause-reads
returns-in-Ok-clause-reads g c =
    inr (
      c.in-Ok.lines.items,
      c.in-Ok.ensures.list,
      subst
          (λ (ls : List BatchLine). LoadedEach g.F.Files.reads ls c.args.files.now c.answer_lines.new.files) c.deref.ensures.value
          c.answer_lines.ensures.reads,
    )

pub returns-in-Err-clause-answers : goal.returns-in-Err-clause-answers
returns-in-Err-clause-answers g c = λ told fits.
    none_job c.args.bytes.now c.args.workers (holding told (g.F.Files.seen c.args.files.now)) c.in-Err.answer c.in-Err.ensures.none
