use Rattle.std.proofs.Common.{map, string_bytes}
use Rattle.goi_engine.proofs.Systems.{system_runs, system_calls}
use Rattle.goi_cli.proofs.answer.Goals as goal

pub returns : goal.returns
returns g c =
    let words = map string_bytes c.args.words.now in
    let needs = c.requires in
    record {
      runs = system_runs words c.args.files.now c.goi.new.files c.args.out.now c.goi.new.out c.args.err.now c.goi.new.err c.goi.result
          needs.files needs.out needs.err c.goi.ensures.reads c.goi.ensures.promise;
      calls = system_calls words c.args.files.now c.goi.new.files c.args.out.now c.goi.new.out c.args.err.now c.goi.new.err c.goi.result
          needs.files needs.out needs.err c.goi.ensures.reads c.goi.ensures.promise;
    }
