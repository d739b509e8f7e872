-- What is always true of what is told of a program.
use Rattle.std.specs.Prelude.{◌≡◌, ℕ}
use Rattle.goi_batches.specs.Sections.{Listed, Section, IsSection}

-- What is told of a program is settled by its text and its budget: it is the same whatever the number of workers.
abbrev pub OneSection : Type 0
OneSection = (p : Listed) (workers others : ℕ) (s t : Section) → IsSection workers p s → IsSection others p t → s ≡ t
