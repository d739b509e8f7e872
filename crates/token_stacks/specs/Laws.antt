-- What holds of stacks, their words and their order, whatever code keeps them.
use Rattle.std.specs.Prelude.{◌≡◌}
use Rattle.std.specs.Bool.{Decides}
use Rattle.std.specs.Cmp.{IsTotalOrder}
use Rattle.std.specs.Ordering.{is_eq}
use Rattle.token_stacks.specs.Signatures.{Work, Boxes}
use Rattle.token_stacks.specs.Words.{box_words}
use Rattle.token_stacks.specs.WorkWords.{work_words}
use Rattle.token_stacks.specs.Order.{box_eq, box_cmp}

-- no two stacks have the same words
pub record WordsTell : Type 0 where
  pub work : (m n : Work) → work_words m ≡ work_words n → m ≡ n
  pub boxes : (t u : Boxes) → box_words t ≡ box_words u → t ≡ u

-- box stacks are in a total order, in which two are equal, or tie, exactly where they are the same list of signatures
pub record BoxesInOrder : Type 0 where
  pub total : IsTotalOrder box_cmp
  pub equal : (t u : Boxes) → Decides (box_eq t u) (t ≡ u)
  pub tie : (t u : Boxes) → Decides (is_eq (box_cmp t u)) (t ≡ u)
