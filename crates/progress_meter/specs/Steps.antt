-- Which steps the ends of a meter make, and that each of them keeps the rule.
-- A step is told in the words of a ruled cell: `Forks` cuts the view of a seat in two, `Turns` takes a seat's view and the word on to new
-- ones and tells the seat of it, and `Merges` puts two views together.
use Rattle.std.specs.Prelude.{ℕ, ◌≤◌, [], ◌∷◌}
use Rattle.crossbeam_utils.specs.Register.{Turns, Forks, Merges}
use Rattle.progress_meter.specs.declared.rule.View.{View}
use Rattle.progress_meter.specs.declared.rule.View.TheVariants.{Spent}
use Rattle.progress_meter.specs.Last.{last_of}
use Rattle.progress_meter.specs.Rule.{new_writer, new_reader, published_of, IsWriter, IsReader, Kept}
use Rattle.progress_meter.specs.Rule.{Loaded, Stored, Compared, with_readings}

-- the rule holds of a new meter, and each kind of step keeps it
pub record StepsKeep : Type 0 where
  -- a new meter has the writer's view alone, with the word 0
  pub make : Kept (0 ∷ []) (new_writer ∷ [])
  -- a first reader comes from the writer
  pub first : (seat : ℕ) (v : View) → IsWriter v → Forks Kept seat v v new_reader
  -- a second reader comes from a reader
  pub second : (seat : ℕ) (v : View) → IsReader v → Forks Kept seat v v v
  -- a reader's whole view moves to a new seat
  pub moves : (seat : ℕ) (v : View) → IsReader v → Forks Kept seat v Spent v
  -- a reader loads the word
  pub load : (seat : ℕ) (v : View) → IsReader v → Turns Kept seat v (λ words. words) Loaded
  -- the writer loads the word
  pub compare : (seat : ℕ) (v : View) → IsWriter v → Turns Kept seat v (λ words. words) Compared
  -- the writer stores a number that isn't below the last one
  pub store : (seat : ℕ) (v : View) (n : ℕ) → IsWriter v → last_of (published_of v) ≤ n →
      Turns Kept seat v (λ _. n ∷ []) Stored
  -- the writer takes in a reader's view
  pub join : (seat : ℕ) (v : View) (other : ℕ) (w : View) → IsWriter v → IsReader w →
      Merges Kept seat v other w (with_readings v w) Spent
