use Rattle.std.proofs.Common.{suc, ◌+◌, ◌-◌, ◌*◌}
use Rattle.pcf_values.specs.Most.{most_open}
use Rattle.pcf_reader.proofs.types.+types.Given as goal

abbrev pub decreases-type_of : goal.decreases-type_of
decreases-type_of l = 4 * (suc most_open - l.depth) + 2

abbrev pub decreases-product_of : goal.decreases-product_of
decreases-product_of l = 4 * (suc most_open - l.depth) + 1

abbrev pub decreases-atom_of : goal.decreases-atom_of
decreases-atom_of l = 4 * (suc most_open - l.depth)
