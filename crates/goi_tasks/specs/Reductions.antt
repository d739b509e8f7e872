-- The reduction of a program as an output, and what it says of the program.
use Rattle.std.specs.Prelude.{◌≡◌, ◌⊎◌, ◌<◌, ℕ, [], None, Some}
use Rattle.pcf_values.specs.declared.val.Val.{Val}
use Rattle.pcf_values.specs.Terms.{TermTree}
use Rattle.pcf_values.specs.Named.{NamedTree}
use Rattle.pcf_values.specs.NamedSize.{named_size}
use Rattle.cbn_meaning.specs.Meaning.{Means}
use Rattle.net_build.specs.NetOf.{net_of}
use Rattle.adequacy_laws.specs.Questions.{Length}
use Rattle.step_text.specs.Courses.{Course, course, course_value, course_text}
use Rattle.goi_jobs.specs.declared.window.Window.{Window}
use Rattle.goi_tasks.specs.Outputs.{Output, output}
use Rattle.goi_tasks.specs.Replaying.{replay_status}

-- the most nodes of a term that is rewritten
abbrev pub most_step_nodes : ℕ
most_step_nodes = 4096

-- the reduction of a tree within so many steps, with the lines of this part of them
abbrev pub reduction : ℕ → Window → NamedTree → Course
reduction budget window tree = course window.from window.most most_step_nodes budget tree

-- its output: the status is 0 where it came to a value, and 5 where it didn't
abbrev pub reduction_output : ℕ → Window → NamedTree → Output
reduction_output budget window tree =
    output (replay_status (course_value (reduction budget window tree))) (course_text most_step_nodes (reduction budget window tree)) []

-- The output of the reduction of a program's tree, which is this term. The value that it tells is the one that the program means by
-- name, and the one that its net has with a length, so that `run` tells it within a budget of so many moves. Where it tells none, the
-- budget was used, or a term was too large.
pub record ReportsSteps (budget : ℕ) (window : Window) (tree : NamedTree) (t : TermTree) (o : Output) : Type 0 where
  pub output_is : o ≡ reduction_output budget window tree
  pub meant : (v : Val) → course_value (reduction budget window tree) ≡ Some v → Means t v
  pub lasts : (v : Val) → course_value (reduction budget window tree) ≡ Some v → (moves : ℕ) × Length (net_of t) v moves
  pub stopped : course_value (reduction budget window tree) ≡ None →
      ((reduction budget window tree).steps ≡ budget) ⊎ (most_step_nodes < named_size (reduction budget window tree).last)
