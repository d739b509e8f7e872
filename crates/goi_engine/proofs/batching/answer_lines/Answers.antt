use Rattle.std.proofs.Common.{arith}
use Rattle.goi_world.specs.Seen.{holding}
use Rattle.goi_engine.proofs.Lists.{all_judged, choose, programs_job}
use Rattle.goi_engine.proofs.batching.answer_lines.Goals as goal

pub answer_programs-requires-clause-judged : goal.answer_programs-requires-clause-judged
answer_programs-requires-clause-judged g c κs within =
    let told = (g.F.Files.seen c.load_programs.new.files).told in
    let old = holding told (g.F.Files.seen c.args.files.now) in
    let js = c.load_programs.new.programs.items in
    let (more, are, judged) = c.in-Ok.ensures.judged in
    let k = choose old c.args.workers c.args.lines.now js
    (all_judged old c.args.lines.now c.new-programs.result.items js c.new-programs.ensures.items
    (more, are, judged told (g.met.F.Files.told_fits c.load_programs.new.files))) in
    (k.texts, k.judged)

pub answer_programs-requires-clause-few : goal.answer_programs-requires-clause-few
answer_programs-requires-clause-few g c κs within =
    let told = (g.F.Files.seen c.load_programs.new.files).told in
    let old = holding told (g.F.Files.seen c.args.files.now) in
    let js = c.load_programs.new.programs.items in
    let (more, are, judged) = c.in-Ok.ensures.judged in
    let k = choose old c.args.workers c.args.lines.now js
    (all_judged old c.args.lines.now c.new-programs.result.items js c.new-programs.ensures.items
    (more, are, judged told (g.met.F.Files.told_fits c.load_programs.new.files))) in
    omega (arith, k.count, c.requires.fit.few)

pub returns-in-Ok-clause-answers : goal.returns-in-Ok-clause-answers
returns-in-Ok-clause-answers g c = λ told fits.
    let old = holding told (g.F.Files.seen c.args.files.now) in
    let js = c.load_programs.new.programs.items in
    let (more, are, judged) = c.in-Ok.ensures.judged in
    programs_job old (holding told (g.F.Files.seen c.load_programs.new.files)) c.args.workers c.args.lines.now js c.in-Ok.ensures.quiet
    (all_judged old c.args.lines.now c.new-programs.result.items js c.new-programs.ensures.items (more, are, judged told fits))
    c.answer_programs.result c.answer_programs.ensures
