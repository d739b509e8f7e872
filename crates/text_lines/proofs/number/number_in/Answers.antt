use Rattle.std.proofs.Common.{◌∙◌}
use Rattle.text_lines.proofs.Counts.{number_at, behind_at}
use Rattle.text_lines.proofs.number.number_in.Goals as goal

pub returns-clause-value : goal.returns-clause-value
returns-clause-value c = number_at c.args.bytes.now c.digit_count.result c.split_at.result.0.now c.capped_number.result
    c.digit_count.ensures.value c.split_at.ensures.front c.capped_number.ensures

pub returns-clause-rest : goal.returns-clause-rest
returns-clause-rest c = c.split_at.ensures.back ∙ behind_at c.args.bytes.now c.digit_count.result c.digit_count.ensures.value
