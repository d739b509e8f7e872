use Rattle.std.proofs.Common.{suc, ◌≡◌, ◌+◌, ◌-◌, ◌*◌, ◌<◌, ◌≤◌, length}
use Rattle.pcf_values.specs.Most.{most_open}
use Rattle.pcf_reader.specs.Machine.{AppK, ProductK, ExprK, app_open, product_open, expr_open, begin_atom, first_atom, first_app}
use Rattle.pcf_reader.specs.Machine.{first_product, after_app, after_product, after_sum}
use Rattle.pcf_reader.specs.Rest.{resume}
use Rattle.pcf_reader.specs.Seen.{part_of}
use Rattle.pcf_reader.specs.Sizes.{most_read_height}
use Rattle.pcf_reader.proofs.descent.+terms.Given as goal

abbrev pub decreases-parens : goal.decreases-parens
decreases-parens l = 9 * (suc most_open - l.depth) + 8

abbrev pub decreases-branches : goal.decreases-branches
decreases-branches l = 9 * (suc most_open - l.depth) + 6

abbrev pub decreases-second_of : goal.decreases-second_of
decreases-second_of l = 9 * (suc most_open - l.depth) + 6

abbrev pub decreases-expr : goal.decreases-expr
decreases-expr l = 9 * (suc most_open - l.depth) + 5

abbrev pub decreases-binding : goal.decreases-binding
decreases-binding l = 9 * (suc most_open - l.depth)

abbrev pub decreases-choice : goal.decreases-choice
decreases-choice l = 9 * (suc most_open - l.depth)

abbrev pub decreases-sum : goal.decreases-sum
decreases-sum l = 9 * (suc most_open - l.depth) + 4

abbrev pub decreases-product : goal.decreases-product
decreases-product l = 9 * (suc most_open - l.depth) + 3

abbrev pub decreases-application : goal.decreases-application
decreases-application l = 9 * (suc most_open - l.depth) + 2

abbrev pub decreases-atom : goal.decreases-atom
decreases-atom l = 9 * (suc most_open - l.depth) + 1

abbrev pub invariant-application-loop-alloc : goal.invariant-application-loop-alloc
invariant-application-loop-alloc l = record {
  goes : (k : AppK) → app_open k ≡ l.depth → resume (begin_atom (first_atom k)) l.fn.reader ≡ resume
      (after_app k (part_of l.function)) l.reader;
  shorter : length l.reader.after < length l.fn.reader.after;
  low : l.function.height + 4 * l.depth + 2 ≤ most_read_height;
}

abbrev pub decreases-application-loop-alloc : goal.decreases-application-loop-alloc
decreases-application-loop-alloc l = length l.reader.after

abbrev pub invariant-product-loop-operator : goal.invariant-product-loop-operator
invariant-product-loop-operator l = record {
  goes : (k : ProductK) → product_open k ≡ l.depth →
      resume (begin_atom (first_atom (first_app k))) l.fn.reader ≡ resume (after_product k (part_of l.product)) l.reader;
  shorter : length l.reader.after < length l.fn.reader.after;
  low : l.product.height + 4 * l.depth + 1 ≤ most_read_height;
}

abbrev pub decreases-product-loop-operator : goal.decreases-product-loop-operator
decreases-product-loop-operator l = length l.reader.after

abbrev pub invariant-sum-loop-operator : goal.invariant-sum-loop-operator
invariant-sum-loop-operator l = record {
  goes : (k : ExprK) → expr_open k ≡ l.depth → resume (begin_atom (first_atom (first_app (first_product k)))) l.fn.reader ≡ resume
      (after_sum k (part_of l.sum)) l.reader;
  shorter : length l.reader.after < length l.fn.reader.after;
  low : l.sum.height + 4 * l.depth ≤ most_read_height;
}

abbrev pub decreases-sum-loop-operator : goal.decreases-sum-loop-operator
decreases-sum-loop-operator l = length l.reader.after
