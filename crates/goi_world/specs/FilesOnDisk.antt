-- What is known of the files of the system: the reads that were made of them, with the bytes that each gave, and a count of faults, which
-- stands still at its last number.
use Rattle.std.specs.Prelude.{◌≡◌, ℕ, List, [], ◌∷◌, Option, None, Some, IfSome, false}
use Rattle.std.proofs.Common.{refl, ap, sym, subst}
use Rattle.goi_world.specs.Outside.{Reading, count_after}
use Rattle.goi_world.specs.Seen.{FilesState}
use Rattle.goi_world.specs.Told.{files_seen, Fits, AllFit}

-- the reads, the last of them first, and how many failed
pub record FilesOnDisk : Type 0 where
  pub past : List Reading
  pub faults : ℕ

-- before the first read
abbrev pub unread_files : FilesOnDisk
unread_files = record { past = []; faults = 0 }

-- the count of faults after a read that gave these bytes, or failed
abbrev pub faults_after : ℕ → Option (List ℕ) → ℕ
faults_after faults (Some bytes) = faults
faults_after faults None = count_after faults

-- a read more
abbrev pub one_read : FilesOnDisk → Reading → FilesOnDisk
one_read files r = record { past = r ∷ files.past; faults = faults_after files.faults r.gave }

-- what is seen of them: no bytes are known before they are read, no name is known to be lacked, and no read is certain
abbrev pub disk_files_seen : FilesOnDisk → FilesState
disk_files_seen files = files_seen (λ name. None) (λ name. false) files.faults false

-- what fits all reads fits those before the last, and the last
pub fits_behind : (old : FilesOnDisk) (r : Reading) (new : FilesOnDisk) (told : List ℕ → Option (List ℕ)) → new ≡ one_read old r →
    AllFit told new.past → AllFit told old.past × Fits told r
fits_behind old r new told e h =
    let (one, all) = subst (λ (log : List Reading). AllFit told log) (ap (λ (f : FilesOnDisk). f.past) e) h in (all, one)

one_fits_none : (gave : Option (List ℕ)) (r : Reading) → r.gave ≡ gave → Fits (λ name. None) r
one_fits_none None r e = subst (λ (g : Option (List ℕ)). IfSome g (λ piece. Unit {0})) (sym e) tt
one_fits_none (Some piece) r e = subst (λ (g : Option (List ℕ)). IfSome g (λ piece. Unit {0})) (sym e) tt

-- where nothing is told, every read fits
pub fits_none : (log : List Reading) → AllFit (λ name. None) log
fits_none [] = tt
fits_none (r ∷ log) = (one_fits_none r.gave r refl, fits_none log)
