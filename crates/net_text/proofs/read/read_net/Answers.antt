use Rattle.std.proofs.Common.{length}
use Rattle.std.proofs.lemmas.Bool.{iff_false}
use Rattle.net_text.specs.Limits.{most_text_bytes}
use Rattle.net_text.proofs.OneAnswers.{read_listed}
use Rattle.net_text.proofs.TextsRead.{bytes_read, not_more}
use Rattle.net_text.proofs.read.read_net.Goals as goal

pub returns-clause-answer : goal.returns-clause-answer
returns-clause-answer c =
    bytes_read c.args.bytes.now c.read_lines.result
    (not_more most_text_bytes (length c.args.bytes.now) (iff_false c.is_too_long.ensures c.if-is_too_long.false))
    c.read_lines.ensures.net c.read_lines.ensures.fault

pub returns-clause-listed : goal.returns-clause-listed
returns-clause-listed c = λ net t. read_listed c.args.bytes.now net c.read_lines.result (returns-clause-answer c) t
