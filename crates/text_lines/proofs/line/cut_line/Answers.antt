use Rattle.std.proofs.Common.{arith}
use Rattle.text_lines.proofs.Scans.{first_cut, first_shorter}
use Rattle.text_lines.proofs.line.cut_line.Goals as goal

pub returns-clause-first : goal.returns-clause-first
returns-clause-first c = first_cut c.args.bytes.now _ _ c.line_length.result c.requires c.line_length.ensures.value
    c.split_at.ensures.front c.split_at.ensures.back

pub returns-clause-shorter : goal.returns-clause-shorter
returns-clause-shorter c = grind (
  arith,
  first_shorter c.args.bytes.now c.requires,
  c.line_length.ensures.value,
  c.split_at.ensures.back_len,
)
