use Rattle.std.proofs.Common.{rules, ◌≡◌}
use Rattle.pcf_reader.specs.Machine.{AtomK, in_parens, in_second, begin_expr}
use Rattle.pcf_reader.specs.Rest.{resume}
use Rattle.pcf_reader.specs.Seen.{part_of}
use Rattle.pcf_reader.proofs.Gives.{gives_from}
use Rattle.pcf_reader.proofs.descent.+terms.Goals as goal

pub parens-returns-in_ok-take-in-Comma-clause-goes :
    goal.parens-returns-in_ok-take-in-Comma-clause-goes
parens-returns-in_ok-take-in-Comma-clause-goes t c =
    λ (k : AtomK) e.
    let behind : resume (begin_expr (in_parens c.args.at k)) c.args.reader.now ≡ resume
    (begin_expr (in_second c.args.at (part_of c.in_ok-first.first) k)) c.take-in-Comma.new.self = search rules in
    gives_from _ _ _ c.second_of.result behind (c.second_of.ensures.goes k e)

pub application-returns-in_err-argument-clause-goes : goal.application-returns-in_err-argument-clause-goes
application-returns-in_err-argument-clause-goes t c = search rules

pub application-loop-alloc-preserved : goal.application-loop-alloc-preserved
application-loop-alloc-preserved t c = search rules
