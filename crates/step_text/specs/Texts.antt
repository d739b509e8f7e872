-- The text of a term's reduction.
use Rattle.std.specs.Prelude.{ℕ, List}
use Rattle.pcf_values.specs.Named.{NamedTree}
use Rattle.step_text.specs.Courses.{course, course_text}

-- the text of a term's reduction
abbrev pub steps_text : (from most room budget : ℕ) → NamedTree → List ℕ
steps_text from most room budget t = course_text room (course from most room budget t)
