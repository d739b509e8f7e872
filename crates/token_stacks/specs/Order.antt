-- Box stacks in order: as their words from the bottom, compared as texts are. A comparison goes over two lists of numbers and never into
-- a tree. It tells box stacks apart as trees.
use Rattle.std.specs.Prelude.{Bool, nat_eq}
use Rattle.std.specs.declared.cmp.Ordering.{Ordering}
use Rattle.std.specs.Ordering.{nat_cmp, on}
use Rattle.std.specs.Cmp.Lexicographic.{slice_cmp, pointwise}
use Rattle.token_stacks.specs.Signatures.{Boxes}
use Rattle.token_stacks.specs.Words.{box_words}

abbrev pub box_eq : Boxes → Boxes → Bool
box_eq = on box_words (pointwise nat_eq)

abbrev pub box_cmp : Boxes → Boxes → Ordering
box_cmp = on box_words (slice_cmp nat_cmp)
