-- What holds of the text of a reduction: statements over every term, each the contract of a function.
use Rattle.std.specs.Prelude.{◌≡◌, ◌<◌, ◌⊎◌, ℕ, [], Some, None}
use Rattle.pcf_values.specs.declared.val.Val.{Val}
use Rattle.pcf_values.specs.Terms.{nat, TermTree}
use Rattle.pcf_values.specs.Typing.{HasType}
use Rattle.pcf_values.specs.Named.{NamedTree}
use Rattle.pcf_values.specs.NamedSize.{named_size}
use Rattle.pcf_types.specs.Resolution.{Resolves}
use Rattle.cbn_meaning.specs.Meaning.{Means}
use Rattle.step_text.specs.Courses.{course, course_value}

-- The value that is told is the one that the program means.
abbrev pub ToldIsMeant : Type 0
ToldIsMeant = (from most room budget : ℕ) (t : NamedTree) (m : TermTree) (v : Val) → Resolves [] t m →
    course_value (course from most room budget t) ≡ Some v → Means m v

-- A program of type nat for which none is told has used its whole budget, or has come to a term with more nodes than there is room for.
abbrev pub NoneIsLimit : Type 0
NoneIsLimit = (from most room budget : ℕ) (t : NamedTree) (m : TermTree) → Resolves [] t m → HasType [] m nat →
    course_value (course from most room budget t) ≡ None →
    ((course from most room budget t).steps ≡ budget) ⊎ (room < named_size (course from most room budget t).last)
