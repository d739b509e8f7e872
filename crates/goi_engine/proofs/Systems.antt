-- Over the files of the system the bytes that were read of a file fit what was read, and so the promise speaks of them.
use Rattle.std.proofs.Common.{◌≡◌, ◌⊎◌, ℕ, suc, ◌+◌, ◌-◌, ◌<◌, ◌≤◌, List, [], ◌∷◌, ◌++◌, append_assoc, append-nil, length, take, drop}
use Rattle.std.proofs.Common.{length-append, Option, Some, None, IfSome, All, refl, sym, ap, ◌∙◌, subst, inl, inr, ⊎_elim, arith}
use Rattle.std.specs.Prelude.{if◌then◌else◌}
use Rattle.std.specs.Str.{bytes_eq}
use Rattle.std.proofs.lemmas.List.{take_at, drop_at}
use Rattle.std.proofs.lemmas.List.Elements.{All-head, All-tail}
use Rattle.std.proofs.lemmas.Slice.Eq.{bytes_eq-Decides}
use Rattle.goi_world.specs.Outside.{Reading, Writing, CameBy, given, with_given, handed}
use Rattle.goi_world.specs.FilesOnDisk.{FilesOnDisk, unread_files, one_read, disk_files_seen, fits_none}
use Rattle.goi_world.specs.SinkOfWriter.{SinkOfWriter, unwritten, one_write, writer_sink_seen}
use Rattle.goi_world.specs.Told.{IsPiece, Fits, AllFit}
use Rattle.goi_words.specs.Asked.{job}
use Rattle.goi_jobs.specs.Jobs.{JobTree}
use Rattle.goi_engine.specs.Calls.{call as call_of}
use Rattle.goi_engine.specs.FilesSeen.{Whatever, ReadsWithin, Onwards, Joined, LoadedBy}
use Rattle.goi_engine.specs.Headline.{Outcome}
use Rattle.goi_engine.specs.CallHeadline.{CallOutcome}
use Rattle.goi_engine.specs.OnSystem.{SystemRuns, SystemCalls}
use Rattle.goi_engine.specs.Promise.{Promise}
use Rattle.goi_engine.specs.Verdicts.{ReadFor}
use Rattle.goi_engine.specs.Writes.{sink_turn, ByWrites, Wrote}
use Rattle.goi_engine.proofs.Coming.{of_told}

-- files of which one alone is told
abbrev pub only : List ℕ → List ℕ → List ℕ → Option (List ℕ)
only file bytes name = if bytes_eq name file then Some bytes else None

only_same : (file bytes : List ℕ) → only file bytes file ≡ Some bytes
only_same file bytes = rw ((bytes_eq-Decides file file).1 refl) refl

-- Below, a file was read, and all that the reads gave is told of it.
module _ (file full : List ℕ) (limit : ℕ) where
  -- a piece that a read gave stands there
  piece_is : (before piece rest : List ℕ) (room : ℕ) → full ≡ before ++ (piece ++ rest) → (length piece ≡ 0 → rest ≡ []) →
      IsPiece full (length before) room piece
  piece_is before piece rest room e ends =
      let behind : drop (length before) full ≡ piece ++ rest =
      ap (drop (length before)) e ∙ drop_at before (piece ++ rest) (length before) refl in
      let long : length full ≡ length before + (length piece + length rest) =
      ap length e ∙ length-append before (piece ++ rest) ∙ ap (λ (n : ℕ). length before + n) (length-append piece rest) in
      record {
        same = sym (ap (take (length piece)) behind ∙ take_at piece rest (length piece) refl);
        within = omega (arith, long);
        end = λ zero some. let none : length rest ≡ 0 = ap length (ends zero) in omega (arith, long, zero, none);
      }

  abbrev FitsAs : ℕ → Option (List ℕ) → List ℕ → ℕ → Type 0
  FitsAs room gave name at = IfSome gave (λ piece. IfSome (only file full name) (λ bytes. IsPiece bytes at room piece))

  one_fits : (r : Reading) (before piece rest : List ℕ) → r.name ≡ file → r.at ≡ length before → r.gave ≡ Some piece →
      full ≡ before ++ (piece ++ rest) → (length piece ≡ 0 → rest ≡ []) → Fits (only file full) r
  one_fits r before piece rest named here gave e ends =
      let base : FitsAs r.room (Some piece) file (length before) =
      subst (λ (o : Option (List ℕ)). IfSome o (λ bytes. IsPiece bytes (length before) r.room piece)) (sym (only_same file full))
      (piece_is before piece rest r.room e ends) in
      subst (λ (g : Option (List ℕ)). FitsAs r.room g r.name r.at) (sym gave)
      (subst (λ (n : List ℕ). FitsAs r.room (Some piece) n r.at) (sym named)
      (subst (λ (i : ℕ). FitsAs r.room (Some piece) file i) (sym here) base))

  none_fits : (r : Reading) → r.gave ≡ None → Fits (only file full) r
  none_fits r gave = subst (λ (g : Option (List ℕ)). FitsAs r.room g r.name r.at) (sym gave) tt

  all_fit : (next : ℕ) (log : List Reading) (rest : List ℕ) → All (ReadsWithin file limit) log → Onwards next log → Joined log →
      full ≡ given log ++ rest → (rest ≡ []) ⊎ (next ≡ length (given log)) → AllFit (only file full) log
  all_fit next [] rest each on joined e last = tt
  all_fit next (r ∷ log) rest each (before, on) (here, joined) e last =
      let named : r.name ≡ file = (All-head (ReadsWithin file limit) r log each).named in
      let others = All-tail (ReadsWithin file limit) r log each in
      by_gave named (λ rest is. all_fit r.at log rest others on joined is (inr here)) r.gave refl where
        by_gave : r.name ≡ file → ((more : List ℕ) → full ≡ given log ++ more → AllFit (only file full) log) → (gave : Option (List ℕ)) →
            r.gave ≡ gave → Fits (only file full) r × AllFit (only file full) log
        by_gave named more None is = (none_fits r is, more rest (e ∙ ap (λ (g : Option (List ℕ)). with_given (given log) g ++ rest) is))
        by_gave named more (Some piece) is =
            let split : full ≡ given log ++ (piece ++ rest) =
            e ∙ ap (λ (g : Option (List ℕ)). with_given (given log) g ++ rest) is ∙ append_assoc (given log) piece rest in
            let long : length (with_given (given log) r.gave) ≡ length (given log) + length piece =
            ap (λ (g : Option (List ℕ)). length (with_given (given log) g)) is ∙ length-append (given log) piece in
            let ends : length piece ≡ 0 → rest ≡ [] =
            λ zero. ⊎_elim (λ (x : rest ≡ []). x) (λ n. absurd (omega (arith, before, here, n, zero, long))) last in
            (one_fits r (given log) piece rest named here is split ends, more (piece ++ rest) split)

-- what was read of a file that was loaded fits all that was read of it
loaded_fit : (file : List ℕ) (limit : ℕ) (log : List Reading) → All (ReadsWithin file limit) log → Onwards (limit + 1) log → Joined log →
    AllFit (only file (given log)) log
loaded_fit file limit log each on joined =
    all_fit file (given log) limit (limit + 1) log [] each on joined (sym (append-nil (given log))) (inl refl)

-- the reads that were made are those of which the files' model speaks
abbrev Reads : FilesOnDisk → Reading → FilesOnDisk → Type 0
Reads before r now = now ≡ one_read before r

came_past : (log : List Reading) (now : FilesOnDisk) → CameBy Reads unread_files log now → now.past ≡ log
came_past [] now e = ap (λ (f : FilesOnDisk). f.past) e
came_past (r ∷ log) now (mid, came, e) = ap (λ (f : FilesOnDisk). f.past) e ∙ ap (λ (l : List Reading). r ∷ l) (came_past log mid came)

-- so the bytes that were read of one file fit
pub read_fit : (file : List ℕ) (limit : ℕ) (now : FilesOnDisk) → LoadedBy Reads file limit unread_files now →
    AllFit (only file (given now.past)) now.past
read_fit file limit now l =
    subst (λ (log : List Reading). AllFit (only file (given log)) log) (sym (came_past l.log now l.came))
    (loaded_fit file limit l.log l.each l.onwards l.joined)

-- what was written whole is what a writer took
pub took : (text : List ℕ) (now : SinkOfWriter) (log : List Writing) →
    Wrote text (sink_turn (writer_sink_seen unwritten) (writer_sink_seen now) log) → handed now.past ≡ text
took text now log w = let e : Some (handed now.past) ≡ Some text = w.written in cc

-- ---- what the writers took

abbrev Writes : SinkOfWriter → Writing → SinkOfWriter → Type 0
Writes before w now = now ≡ one_write before w

abbrev FitsDisk : FilesOnDisk → (List ℕ → Option (List ℕ)) → Type 0
FitsDisk files told = AllFit told files.past

-- what the top call promises over the files of the system and two writers
abbrev Kept : List (List ℕ) → FilesOnDisk → FilesOnDisk → SinkOfWriter → SinkOfWriter → SinkOfWriter → SinkOfWriter → ℕ → Type 0
Kept words first files no_out out no_err err status =
    ByWrites writer_sink_seen Writes no_out out (λ o. ByWrites writer_sink_seen Writes no_err err (λ e.
    Whatever disk_files_seen FitsDisk first files (λ x y. Promise (job words) (call_of x y o e) status)))

-- and which reads it makes
abbrev Read : List (List ℕ) → FilesOnDisk → FilesOnDisk → Type 0
Read words first files = (told : List ℕ → Option (List ℕ)) → FitsDisk files told → ReadFor Reads told (job words) first files

-- Below, it was made where nothing had been read or written before.
module _ (words : List (List ℕ)) (first files : FilesOnDisk) (no_out out no_err err : SinkOfWriter) (status : ℕ)
    (unread : first ≡ unread_files) (none : no_out ≡ unwritten) (nothing : no_err ≡ unwritten) (reads : Read words first files)
    (promise : Kept words first files no_out out no_err err status) where
  kept : Kept words unread_files files unwritten out unwritten err status
  kept =
      subst (λ (s : FilesOnDisk). Kept words s files unwritten out unwritten err status) unread
      (subst (λ (o : SinkOfWriter). Kept words first files o out unwritten err status) none
      (subst (λ (e : SinkOfWriter). Kept words first files no_out out e err status) nothing promise))

  -- the reads that the job makes
  made : (asked : Option JobTree) → job words ≡ asked → ReadFor Reads (λ name. None) asked unread_files files
  made asked e =
      subst (λ (j : Option JobTree). ReadFor Reads (λ name. None) j unread_files files) e
      (subst (λ (s : FilesOnDisk). Read words s files) unread reads (λ name. None) (fits_none files.past))

  pub system_runs : SystemRuns words files out err status
  system_runs file workers budget asked ended =
      let bytes = given files.past in
      let (outs, came_out, (errs, came_err, promised)) = kept in
      let fit = read_fit file _ files (made _ asked) in
      let (report, line, of_file, wrote, told) = ((promised (only file bytes) fit).run file workers budget asked).right ended in
      let outcome = of_told (only file bytes file) bytes (λ (b : List ℕ). Outcome b budget status report line) (only_same file bytes)
      of_file.1 in
      subst (λ (r : List ℕ). Outcome bytes budget status r (handed err.past)) (sym (took report out outs wrote))
      (subst (λ (l : List ℕ). Outcome bytes budget status report l) (sym (took line err errs told)) outcome)

  pub system_calls : SystemCalls words files out err status
  system_calls file numbers workers budget asked ended =
      let bytes = given files.past in
      let (outs, came_out, (errs, came_err, promised)) = kept in
      let fit = read_fit file _ files (made _ asked) in
      let (report, line, of_file, wrote, told) = ((promised (only file bytes) fit).call file numbers workers budget asked).right ended in
      let outcome = of_told (only file bytes file) bytes (λ (b : List ℕ). CallOutcome b numbers budget status report line)
      (only_same file bytes) of_file.1 in
      subst (λ (r : List ℕ). CallOutcome bytes numbers budget status r (handed err.past)) (sym (took report out outs wrote))
      (subst (λ (l : List ℕ). CallOutcome bytes numbers budget status report l) (sym (took line err errs told)) outcome)
