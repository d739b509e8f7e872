-- How far a reduction goes within its limits, and its text.
use Rattle.std.specs.Prelude.{ℕ, zero, suc, nat_le, List, [], ◌++◌, Option, None, Some, codes, decimal, if◌then◌else◌}
use Rattle.pcf_values.specs.declared.val.Val.{Val}
use Rattle.pcf_values.specs.declared.val.Val.TheVariants.{Number, Overflow}
use Rattle.pcf_values.specs.Named.{NamedTree}
use Rattle.pcf_values.specs.NamedSize.{named_size}
use Rattle.pcf_reader.specs.Printed.{term_text}
use Rattle.term_steps.specs.Names.{named_spelled, named_step}
use Rattle.step_text.specs.Lines.{spaced, line_in}

-- the term after one step, where the term has no more nodes than there is room for
abbrev pub next_term : (room : ℕ) → NamedTree → Option NamedTree
next_term room t = if nat_le (named_size t) room then named_step t else None

-- a reduction as far as it went: how many steps were made, the term that was come to, and the lines of the steps that were asked for
pub record Course : Type 0 where
  pub steps : ℕ
  pub last : NamedTree
  pub lines : List ℕ

abbrev pub on_next : {A : Type 0} → Option NamedTree → A → (NamedTree → A) → A
on_next None a f = a
on_next (Some t) a f = f t

-- how a reduction goes on from step k, behind the lines so far, with so many steps left in its budget
abbrev pub goes_on : (from most room left k : ℕ) → List ℕ → NamedTree → Course
goes_on from most room zero k lines t = record { steps = k; last = t; lines = lines }
goes_on from most room (suc b) k lines t = on_next (next_term room t) (record { steps = k; last = t; lines = lines })
    (λ n. goes_on from most room b (suc k) (lines ++ line_in from most k t) n)

-- the reduction of a term, of which at most so many steps are asked for, from a place on
abbrev pub course : (from most room budget : ℕ) → NamedTree → Course
course from most room budget t = goes_on from most room budget 0 [] t

-- the value of the term that was come to
abbrev pub course_value : Course → Option Val
course_value c = named_spelled c.last

-- ---- the text

abbrev pub value_text : Option Val → List ℕ
value_text (Some (Number n)) = codes "value " ++ (decimal n ++ codes "\n")
value_text (Some Overflow) = codes "value overflow\n"
value_text None = codes "no value\n"

-- what stopped a reduction: its budget of steps, or a term of more nodes than there is room for
abbrev pub why_text : (room : ℕ) → NamedTree → List ℕ
why_text room t = if nat_le (named_size t) room then codes "budget" else codes "nodes"

-- the last line: the term that spells the value, or what stopped the reduction
abbrev pub end_text : (room : ℕ) → Course → Option Val → List ℕ
end_text room c (Some v) = codes "end " ++ (spaced c.steps ++ (term_text c.last ++ codes "\n"))
end_text room c None = codes "stop " ++ (spaced c.steps ++ (why_text room c.last ++ codes "\n"))

abbrev pub course_text : (room : ℕ) → Course → List ℕ
course_text room c = value_text (course_value c) ++ (codes "steps " ++ (decimal c.steps ++ (codes "\n" ++
    (c.lines ++ end_text room c (course_value c)))))
