-- Both stacks of a token in one value, as contracts see them.
use Rattle.token_stacks.specs.Signatures.{Work, Boxes}

-- both stacks of a token
pub record Load : Type 0 where
  pub work : Work
  pub boxes : Boxes

abbrev pub load : Work → Boxes → Load
load m t = record { work = m; boxes = t }
