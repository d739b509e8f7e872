use Rattle.std.proofs.Common.{◌+◌, ◌*◌}
use Rattle.net_terms.proofs.rebuild.+read.Given as goal

abbrev pub decreases-read : goal.decreases-read
decreases-read l = 6 * l.height

abbrev pub decreases-read_operand : goal.decreases-read_operand
decreases-read_operand l = 6 * l.scope.height + 1

abbrev pub decreases-begin : goal.decreases-begin
decreases-begin l = 6 * l.height + 5

abbrev pub decreases-read_one : goal.decreases-read_one
decreases-read_one l = 6 * l.scope.height + 3

abbrev pub decreases-read_two : goal.decreases-read_two
decreases-read_two l = 6 * l.scope.height + 3

abbrev pub decreases-read_ifz : goal.decreases-read_ifz
decreases-read_ifz l = 6 * l.scope.height + 3

abbrev pub decreases-read_fun : goal.decreases-read_fun
decreases-read_fun l = 6 * l.scope.height + 3

abbrev pub decreases-read_fix : goal.decreases-read_fix
decreases-read_fix l = 6 * l.scope.height + 3

abbrev pub decreases-read_body : goal.decreases-read_body
decreases-read_body l = 6 * l.scope.height + 2

abbrev pub decreases-start : goal.decreases-start
decreases-start l = 6 * l.scope.height + 4
