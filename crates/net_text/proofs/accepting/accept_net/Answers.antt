use Rattle.std.proofs.Common.{Ok, Err}
use Rattle.net_build.specs.NetOf.{net_of}
use Rattle.net_text.proofs.OneAnswers.{fault_first, program_text, sorted_accepts, sorted_takes, sorted_with_net}
use Rattle.net_text.proofs.accepting.accept_net.Goals as goal

pub returns-in-Ok-program_of-clause-answer : goal.returns-in-Ok-program_of-clause-answer
returns-in-Ok-program_of-clause-answer c =
    sorted_with_net c.args.bytes.now c.in-Ok.net c.in-Ok-program_of.program c.in-Ok.ensures.answer c.in-Ok-program_of.ensures

pub returns-in-Ok-program_of-clause-accepted : goal.returns-in-Ok-program_of-clause-accepted
returns-in-Ok-program_of-clause-accepted c =
    λ m l. sorted_takes c.law_net_one_fault.ensures.none c.args.bytes.now c.in-Ok.net (Ok c.in-Ok-program_of.program) m
    c.in-Ok.ensures.answer c.in-Ok-program_of.ensures l

pub returns-in-Err-program_of-clause-answer : goal.returns-in-Err-program_of-clause-answer
returns-in-Err-program_of-clause-answer c =
    sorted_accepts c.args.bytes.now c.in-Ok.net (Err c.in-Err-program_of.fault) c.in-Ok.ensures.answer c.in-Err-program_of.ensures

pub returns-in-Err-program_of-clause-accepted : goal.returns-in-Err-program_of-clause-accepted
returns-in-Err-program_of-clause-accepted c =
    λ m l. sorted_takes c.law_net_one_fault.ensures.none c.args.bytes.now c.in-Ok.net (Err c.in-Err-program_of.fault) m
    c.in-Ok.ensures.answer c.in-Err-program_of.ensures l

pub returns-in-Err-clause-answer : goal.returns-in-Err-clause-answer
returns-in-Err-clause-answer c = fault_first c.args.bytes.now c.in-Err.fault c.in-Err.ensures.answer

pub returns-in-Err-clause-accepted : goal.returns-in-Err-clause-accepted
returns-in-Err-clause-accepted c = λ m l. c.in-Err.ensures.listed (net_of m) (program_text c.args.bytes.now m l)
