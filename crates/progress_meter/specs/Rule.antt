-- The rule of a meter's word, over the word and the views of all ends, and what each step tells the end that makes it.
--
-- Of the views that aren't spent, one is the writer's. What the writer published begins with 0, never goes down, and ends with the word.
-- The readings of each reader that isn't spent, and of each that was settled, never go down, and each of them is among what the writer
-- published.
--
-- A meter is made with the writer's view. A split gives a new end: a reader of 0 alone from the writer, one with the same readings from a
-- reader, and a reader's whole view from that reader, which is spent then. A load adds the word to a reader's readings; it tells the
-- writer that the rule holds of all that it has. A store adds the new word to what the writer published. A join puts a reader's readings
-- beside what the writer published, and the reader's view is spent. `Steps` says of each of these that it keeps the rule.
--
-- Left out is that a load finds the newest word: it finds the word at some moment between its call and its return.
use Rattle.std.specs.Prelude.{◌≡◌, ℕ, ◌≤◌, List, [], ◌∷◌, ◌++◌, slice_index, All}
use mathlib.Core.Option.{some}
use lib.ListN.{get_elem?}
use Rattle.atomic_table.specs.Seated.{TableId}
use Rattle.progress_meter.specs.Meters.{Publisher, Listener, RisesFromZero, AreReadingsOf}
use Rattle.progress_meter.specs.Last.{last_of}
use Rattle.progress_meter.specs.declared.rule.View.{View}
use Rattle.progress_meter.specs.declared.rule.View.TheVariants.{Publishes, Reads, Spent}

-- the writer of a new meter
abbrev pub new_writer : View
new_writer = Publishes (0 ∷ []) []

-- the first reader of a meter
abbrev pub new_reader : View
new_reader = Reads (0 ∷ [])

-- what this end published
abbrev pub published_of : View → List ℕ
published_of (Publishes published settled) = published
published_of (Reads readings) = []
published_of Spent = []

-- the readings of the readers that this end settled
abbrev pub settled_of : View → List (List ℕ)
settled_of (Publishes published settled) = settled
settled_of (Reads readings) = []
settled_of Spent = []

-- what this end read
abbrev pub readings_of : View → List ℕ
readings_of (Publishes published settled) = []
readings_of (Reads readings) = readings
readings_of Spent = []

-- this view is a writer's
abbrev pub IsWriter : View → Type 0
IsWriter v = v ≡ Publishes (published_of v) (settled_of v)

-- this view is a reader's
abbrev pub IsReader : View → Type 0
IsReader v = v ≡ Reads (readings_of v)

-- what the rule says of the view at one seat: a writer's view is the writer's, at its seat; and all readings are of what was published
abbrev pub Fits : ℕ → List ℕ → ℕ → View → Type 0
Fits writer log seat (Publishes published settled) = (seat ≡ writer) × (published ≡ log) × All (AreReadingsOf log) settled
Fits writer log seat (Reads readings) = AreReadingsOf log readings
Fits writer log seat Spent = Unit {0}

-- the rule: one view is the writer's, what it published rises from 0 and ends with the word, and each view fits
pub record Kept (words : List ℕ) (views : List View) : Type 0 where
  pub writer : ℕ
  pub log : List ℕ
  pub settled : List (List ℕ)
  pub is_there : get_elem? views writer ≡ some (Publishes log settled)
  pub rises : RisesFromZero log
  pub ends : last_of log ≡ slice_index words 0
  pub each : (seat : ℕ) (v : View) → get_elem? views seat ≡ some v → Fits writer log seat v

-- after a reader's load its readings have grown by the word, which isn't below the last of them
abbrev pub Loaded : View → List ℕ → List ℕ → View → Type 0
Loaded v before after w = (w ≡ Reads (readings_of v ++ slice_index after 0 ∷ [])) × (last_of (readings_of v) ≤ slice_index after 0)

-- after the writer's store what it published has grown by the new word
abbrev pub Stored : View → List ℕ → List ℕ → View → Type 0
Stored v before after w = w ≡ Publishes (published_of v ++ slice_index after 0 ∷ []) (settled_of v)

-- the writer's view with the readings of a reader beside what it published
abbrev pub with_readings : View → View → View
with_readings v w = Publishes (published_of v) (settled_of v ++ readings_of w ∷ [])

-- after the writer's load all stays, and all readings that it has are of what it published
abbrev pub Compared : View → List ℕ → List ℕ → View → Type 0
Compared v before after w = (w ≡ v) × All (AreReadingsOf (published_of v)) (settled_of v)

-- what is seen of a writer with this view
abbrev pub publisher_of : TableId → View → Publisher
publisher_of meter v = record { meter = meter; published = published_of v; settled = settled_of v }

-- what is seen of a reader with this view
abbrev pub listener_of : TableId → View → Listener
listener_of meter v = record { meter = meter; readings = readings_of v }

-- what a writer keeps: its view is a writer's, it remembers the number published last, what it published rises from 0, and of it are the
-- readings that it settled
pub record Writes (v : View) (last : ℕ) : Type 0 where
  pub is_writer : IsWriter v
  pub last_is : last ≡ last_of (published_of v)
  pub rises : RisesFromZero (published_of v)
  pub settled : All (AreReadingsOf (published_of v)) (settled_of v)

-- what a reader keeps: its view is a reader's, it remembers its last reading, and its readings rise from 0
pub record Listens (v : View) (last : ℕ) : Type 0 where
  pub is_reader : IsReader v
  pub last_is : last ≡ last_of (readings_of v)
  pub rises : RisesFromZero (readings_of v)
