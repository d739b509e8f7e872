use Rattle.goi_engine.proofs.Lists.{read_one, read_more, not_more, judged_more}
use Rattle.goi_engine.proofs.batching.+load_programs.Goals as goal

pub returns-in_ok-add_program-in-len1-up-clause-judged :
    goal.returns-in_ok-add_program-in-len1-up-clause-judged
returns-in_ok-add_program-in-len1-up-clause-judged g t c =
    let is = c.in_ok-add_program-in-len1-up.ensures in
    let (j, added, judged) = is.judged in
    judged_more g.F.Files.seen g.F.Files.reads g.F.Files.fits g.met.F.Files.fits_each c.args.lines.now c.line-item.result
    c.in-len1-up.len_at_least c.line-item.is c.args.files.now c.add_program.new.files c.load_programs.new.files is.kept is.quiet j
    c.args.programs.now.items c.add_program.new.programs.items c.load_programs.new.programs.items judged
    added c.load_programs.result c.load_programs.ensures.reads c.load_programs.ensures.judged

pub returns-in_ok-add_program-in-len1-up-clause-not_loaded :
    goal.returns-in_ok-add_program-in-len1-up-clause-not_loaded
returns-in_ok-add_program-in-len1-up-clause-not_loaded g t c =
    let is = c.in_ok-add_program-in-len1-up.ensures in
    not_more c.args.lines.now c.line-item.result c.in-len1-up.len_at_least c.line-item.is (g.F.Files.seen c.args.files.now)
    (g.F.Files.seen c.add_program.new.files) is.kept is.quiet (g.F.Files.seen c.load_programs.new.files) c.load_programs.result
    c.load_programs.ensures.not_loaded

pub returns-in_ok-add_program-in-len1-up-clause-reads :
    goal.returns-in_ok-add_program-in-len1-up-clause-reads
returns-in_ok-add_program-in-len1-up-clause-reads g t c =
    read_more c.args.lines.now c.line-item.result c.in-len1-up.len_at_least c.line-item.is g.F.Files.reads c.args.files.now
    c.add_program.new.files c.load_programs.new.files c.in_ok-add_program-in-len1-up.ensures.reads c.load_programs.ensures.reads

pub returns-in_err-add_program-in-len1-up-clause-reads :
    goal.returns-in_err-add_program-in-len1-up-clause-reads
returns-in_err-add_program-in-len1-up-clause-reads g t c =
    read_one c.args.lines.now c.line-item.result c.in-len1-up.len_at_least c.line-item.is g.F.Files.reads c.args.files.now
    c.add_program.new.files c.in_err-add_program-in-len1-up.ensures.reads
