use Rattle.std.proofs.Common.{◌+◌, ◌*◌}
use Rattle.net_text.proofs.types.+types.Given as goal

abbrev pub decreases-read_type : goal.decreases-read_type
decreases-read_type l = 6 * l.height

abbrev pub decreases-read_unit : goal.decreases-read_unit
decreases-read_unit l = 6 * l.height + 1

abbrev pub decreases-read_right : goal.decreases-read_right
decreases-read_right l = 6 * l.height + 3

abbrev pub decreases-read_factor : goal.decreases-read_factor
decreases-read_factor l = 6 * l.height + 4
