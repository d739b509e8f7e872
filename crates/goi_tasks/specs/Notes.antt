-- What is told on the error output behind a report: nothing, or how many moves were counted while the run went on.
use Rattle.std.specs.Prelude.{◌≡◌, ℕ, Bool, true, false, List, [], ◌∷◌, ◌++◌, codes, decimal}
use Rattle.metered_pool.specs.Progress.{IsProgress}

-- the line of a count
abbrev pub progress_line : ℕ → List ℕ
progress_line n = codes "progress " ++ (decimal n ++ codes "\n")

-- the lines of several, in turn
abbrev pub progress_lines : List ℕ → List ℕ
progress_lines [] = []
progress_lines (n ∷ ns) = progress_line n ++ progress_lines ns

-- the notes of a run of so many moves: the lines of its progress where that is asked for, and else none
abbrev pub NotesOf : Bool → ℕ → List ℕ → Type 0
NotesOf false moves notes = notes ≡ []
NotesOf true moves notes = (numbers : List ℕ) × IsProgress moves numbers × (notes ≡ progress_lines numbers)
