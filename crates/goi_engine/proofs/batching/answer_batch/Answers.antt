use Rattle.std.proofs.Common.{ℕ, List, subst}
use Rattle.goi_world.specs.Seen.{holding}
use Rattle.goi_engine.specs.Answers.{AnswersList, LoadedLines}
use Rattle.goi_engine.proofs.Lists.{list_job, list_reads, only_list, text_fit_before}
use Rattle.goi_engine.proofs.Loading.{kept_holding}
use Rattle.goi_engine.proofs.batching.answer_batch.Goals as goal

pub returns-in-Ok-clause-answers : goal.returns-in-Ok-clause-answers
returns-in-Ok-clause-answers g c = λ told fits.
    let old = g.F.Files.seen c.args.files.now in
    let mid = g.F.Files.seen c.load.new.files in
    let new = g.F.Files.seen c.answer_list.new.files in
    let is = c.answer_list.ensures in
    let earlier = text_fit_before g.F.Files.reads g.F.Files.fits g.met.F.Files.fits_each told _ c.load.new.files c.answer_list.new.files
    is.reads fits in
    list_job c.args.file.now c.args.workers (holding told old) c.in-Ok.bytes.items (λ h. let k = c.in-Ok.ensures.lacked h in cc)
    (c.in-Ok.ensures.bytes told earlier) (holding told mid) (holding told new) c.answer_list.result
    (kept_holding told old mid c.in-Ok.ensures.kept) c.in-Ok.ensures.ok
    (subst (λ (b : List ℕ). AnswersList c.args.workers b (holding told mid) (holding told new) c.answer_list.result) c.deref.ensures.value
    (is.answers told fits))

pub returns-in-Ok-clause-reads : goal.returns-in-Ok-clause-reads
returns-in-Ok-clause-reads g c = λ told fits.
    let old = g.F.Files.seen c.args.files.now in
    let is = c.answer_list.ensures in
    let earlier = text_fit_before g.F.Files.reads g.F.Files.fits g.met.F.Files.fits_each told _ c.load.new.files c.answer_list.new.files
    is.reads fits in
    list_reads c.args.file.now c.args.workers (holding told old) c.in-Ok.bytes.items (λ h. let k = c.in-Ok.ensures.lacked h in cc)
    (c.in-Ok.ensures.bytes told earlier) g.F.Files.reads c.args.files.now c.load.new.files c.answer_list.new.files c.in-Ok.ensures.reads
    (subst (λ (b : List ℕ). LoadedLines g.F.Files.reads b c.load.new.files c.answer_list.new.files) c.deref.ensures.value is.reads)

pub returns-in-Err-clause-reads : goal.returns-in-Err-clause-reads
returns-in-Err-clause-reads g c = λ told fits.
    only_list g.F.Files.reads (told c.args.file.now) c.args.file.now c.args.files.now c.load.new.files c.in-Err.ensures.reads
