use Rattle.joined_numbers.proofs.Exchanged.{rows_at_ports}
use Rattle.joined_numbers.proofs.laws.law_rows_at_ports.Goals as goal

pub returns : goal.returns
returns c = rows_at_ports
