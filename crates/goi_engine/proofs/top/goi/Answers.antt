use Rattle.std.proofs.Common.{ℕ, List, map, string_bytes}
use Rattle.goi_words.specs.Asked.{job}
use Rattle.goi_world.specs.Seen.{holding}
use Rattle.goi_engine.proofs.Kept.{kept}
use Rattle.goi_engine.proofs.Loading.{kept_holding}
use Rattle.goi_engine.proofs.Lists.{read_fits}
use Rattle.goi_tasks.proofs.Outcomes.{Known}
use Rattle.goi_engine.proofs.top.goi.Goals as goal

pub returns : goal.returns
returns g c =
    let known : Known = record {
      one_program = c.law_one_program.ensures;
      one_listing = c.law_one_listing.ensures;
      one_answer = c.law_log_one_answer.ensures;
      one_replay = c.law_one_replay.ensures;
      one_list = c.law_one_list.ensures;
      one_function = c.law_one_function.ensures;
    } in
    let asked = job (map string_bytes c.args.words.now) in
    let answer = c.answer_to-answer in
    let (outs, came_out, (errs, came_err, delivered)) = c.deliver.ensures in
    let old = g.F.Files.seen c.args.files.now in
    let new = g.F.Files.seen c.answer_to-answer.new.files in
    record {
      promise = (
        outs,
        came_out,
        (
          errs,
          came_err,
          λ told fits.
              let before = read_fits g.F.Files.reads g.F.Files.fits g.met.F.Files.fits_each told asked c.args.files.now
              c.answer_to-answer.new.files (answer.ensures.reads told fits) fits in
              let untold = λ (name : List ℕ). g.met.F.Files.lacked_untold c.args.files.now told name before in
              kept known c.law_one_function.ensures _ answer.result asked c.deliver.result (kept_holding told old new answer.ensures.kept)
              untold (answer.ensures.answers told fits) delivered,
        ),
      );
      reads = answer.ensures.reads;
    }
