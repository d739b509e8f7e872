-- What the files say of the programs of a list: what is told of each, how each ends, whether one is lacked, and which reads are made.
-- The programs are read in the list's order, once the list stands. Two lines may name one file, and a line may name the list itself.
use Rattle.std.specs.Prelude.{◌≡◌, ◌≢◌, ◌⊎◌, ℕ, IsTrue, List, [], ◌∷◌, Option, Err}
use Rattle.goi_world.specs.Outside.{Reading}
use Rattle.pcf_values.specs.Most.{most_program_bytes}
use Rattle.batch_lists.specs.declared.fault.BatchFault.{BatchFault}
use Rattle.batch_lists.specs.declared.fault.BatchFault.TheVariants as list
use Rattle.batch_lists.specs.declared.line.BatchLine.{BatchLine}
use Rattle.batch_lists.specs.Limits.{most_list_bytes}
use Rattle.batch_lists.specs.Lists.{IsList, ReadAsList}
use Rattle.goi_tasks.specs.declared.fault.Fault.{Fault}
use Rattle.goi_tasks.specs.declared.fault.Fault.TheVariants.{Batch}
use Rattle.goi_tasks.specs.Outputs.{Output, output}
use Rattle.goi_batches.specs.Sections.{listed, Section, IsSection, statuses_of, batch_status, batch_report, EndsListed}
use Rattle.goi_world.specs.Seen.{FilesState}
use Rattle.goi_engine.specs.FilesSeen.{Possibly, OfFile, OfTold, LoadedBy}

-- the bytes are a list, and this is so of its lines
abbrev pub OfList : List ℕ → (List BatchLine → Type 0) → Type 0
OfList bytes P = (lines : List BatchLine) × IsList bytes lines × P lines

-- the bytes are refused as a list for this fault, which is their first; want of memory is none
pub data FaultyList (bytes : List ℕ) : Fault → Type 0 where
  unlisted : (f : BatchFault) → f ≢ list.NoMemory → ReadAsList bytes (Err f) → FaultyList bytes (Batch f)

-- each line's file is there, and this is what is told of its program
abbrev pub AreSectionsIn : FilesState → ℕ → List BatchLine → List Section → Type 0
AreSectionsIn files workers [] [] = Unit {0}
AreSectionsIn files workers [] (s ∷ ss) = ⊥
AreSectionsIn files workers (l ∷ ls) [] = ⊥
AreSectionsIn files workers (l ∷ ls) (s ∷ ss) =
    OfFile files l.file (λ bytes. IsSection workers (listed l.budget bytes) s) × AreSectionsIn files workers ls ss

-- the output for the programs of these lines
pub record ReportsLines (files : FilesState) (workers : ℕ) (lines : List BatchLine) (o : Output) : Type 0 where
  pub sections : List Section
  pub are : AreSectionsIn files workers lines sections
  pub output_is : o ≡ output (batch_status (statuses_of sections)) (batch_report sections) []

-- each line's file is told, and its program ends so
abbrev pub EndEachIn : FilesState → List BatchLine → List ℕ → Type 0
EndEachIn files [] [] = Unit {0}
EndEachIn files [] (e ∷ es) = ⊥
EndEachIn files (l ∷ ls) [] = ⊥
EndEachIn files (l ∷ ls) (e ∷ es) =
    OfTold files l.file (λ bytes. EndsListed (listed l.budget bytes) e) × EndEachIn files ls es

-- and with which status they end together
abbrev pub EndLines : FilesState → List BatchLine → ℕ → Type 0
EndLines files lines status = (ends : List ℕ) × EndEachIn files lines ends × (status ≡ batch_status ends)

-- the file of one of these lines is lacked
abbrev pub LacksOne : FilesState → List BatchLine → Type 0
LacksOne files [] = ⊥
LacksOne files (l ∷ ls) = IsTrue (files.lacks l.file) ⊎ LacksOne files ls

-- the files of these lines were loaded one after another, as far as it came, each up to its limit
abbrev pub LoadedEach : {S : Type 0} → (S → Reading → S → Type 0) → List BatchLine → S → S → Type 0
LoadedEach one [] old new = new ≡ old
LoadedEach {S = S} one (l ∷ ls) old new =
    (new ≡ old) ⊎ ((mid : S) × LoadedBy one l.file most_program_bytes old mid × LoadedEach one ls mid new)

-- the list's file was loaded, and then those of its lines, or nothing more was read; where the list's bytes are told, the lines are theirs
pub record LoadedList {S : Type 0} (one : S → Reading → S → Type 0) (told : Option (List ℕ)) (file : List ℕ) (old new : S) : Type 0 where
  pub mid : S
  pub list : LoadedBy one file most_list_bytes old mid
  pub programs : (new ≡ mid) ⊎ ((lines : List BatchLine) × Possibly told (λ bytes. IsList bytes lines) × LoadedEach one lines mid new)
