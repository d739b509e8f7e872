-- Files in memory, and what a read of them gives.
--
-- They are a list of names with bytes, of which nothing ever changes, beside the numbers of the calls that fail and two
-- counts. A call on a name that no file has fails in any case: it counts as a call, but never as a fault.
use Rattle.std.specs.Prelude.{◌≡◌, ℕ, ◌-◌, min, Bool, IsTrue, ◌&&◌, ◌||◌, List, ◌++◌, length, map, take, drop, Option, is_none, is_some}
use Rattle.std.specs.Prelude.{Vec, [], ◌∷◌, None, Some, if◌then◌else◌}
use Rattle.std.specs.declared.alloc.Global.{Global}
use Rattle.std.proofs.Common.{sym, subst}
use Rattle.goi_world.specs.Outside.{Reading, count_after}
use Rattle.goi_world.specs.Failing.{listed, none_listed}
use Rattle.goi_world.specs.Seen.{FilesState}
use Rattle.goi_world.specs.Told.{files_seen, Fits, untold}
use Rattle.std.specs.Str.{bytes_eq}

-- the files, how many bytes a read gives at most, which calls fail, and how many calls and faults there were
pub record FilesInMemory : Type 0 where
  pub files : List (List ℕ × List ℕ)
  pub most : ℕ
  pub fails : List ℕ
  pub calls : ℕ
  pub faults : ℕ

-- the bytes of the first file with this name, in a list of names with their bytes
abbrev pub bytes_of : List (List ℕ × List ℕ) → List ℕ → Option (List ℕ)
bytes_of [] name = None
bytes_of (file ∷ files) name = if bytes_eq file.0 name then Some file.1 else bytes_of files name

-- names with bytes, seen without where the bytes lie in memory
abbrev pub files_of : List (List ℕ × Vec ℕ Global) → List (List ℕ × List ℕ)
files_of files = map (λ file. (file.0, file.1.items)) files

-- the files before the first call
abbrev pub new_files : List (List ℕ × List ℕ) → ℕ → List ℕ → FilesInMemory
new_files files most fails = record { files = files; most = most; fails = fails; calls = 0; faults = 0 }

-- the bytes of a file, where there is one of this name
abbrev pub told_by : FilesInMemory → List ℕ → Option (List ℕ)
told_by m name = bytes_of m.files name

-- no file has this name
abbrev pub lacked_by : FilesInMemory → List ℕ → Bool
lacked_by m name = is_none (bytes_of m.files name)

-- the next call is listed to fail
abbrev pub next_fails : FilesInMemory → Bool
next_fails m = listed m.fails (count_after m.calls)

-- a read of this name fails
abbrev pub read_fails : FilesInMemory → List ℕ → Bool
read_fails m name = lacked_by m name || next_fails m

-- how many bytes a read gives of these: as many as are left, as there is room for and as a read gives at most
abbrev pub read_length : FilesInMemory → List ℕ → ℕ → List ℕ → ℕ
read_length m bytes at buf = min (length bytes - at) (min (length buf) m.most)

-- the buffer after a read of these bytes: what was read, and behind it what stood there before
abbrev pub read_into : FilesInMemory → List ℕ → ℕ → List ℕ → List ℕ
read_into m bytes at buf = let n = read_length m bytes at buf in take n (drop at bytes) ++ drop n buf

-- the files after a read of this name: a call more, and a fault more exactly where it was listed and the name is there
abbrev pub after_read : FilesInMemory → List ℕ → FilesInMemory
after_read m name = record m {
  calls = count_after m.calls;
  faults = if next_fails m && is_some (bytes_of m.files name) then count_after m.faults else m.faults;
}

-- what is seen of them: each read is certain where no call is listed to fail
abbrev pub memory_files_seen : FilesInMemory → FilesState
memory_files_seen m = files_seen (told_by m) (lacked_by m) m.faults (none_listed m.fails)

-- one state became another by this read, which gave what stands in the file
pub record ReadOnce (m : FilesInMemory) (r : Reading) (now : FilesInMemory) : Type 0 where
  pub after : now ≡ after_read m r.name
  pub fits : Fits (told_by m) r

-- files in memory hold the same before a read and after it
pub fits_once : (old : FilesInMemory) (r : Reading) (new : FilesInMemory) (told : List ℕ → Option (List ℕ)) → ReadOnce old r new →
    told ≡ told_by new → (told ≡ told_by old) × Fits told r
fits_once old r new told h e =
    let same : told ≡ told_by old = subst (λ (m : FilesInMemory). told ≡ told_by m) h.after e in
    (same, subst (λ (t : List ℕ → Option (List ℕ)). Fits t r) (sym same) h.fits)

-- a name that no file has isn't told
pub lacked_untold : (m : FilesInMemory) (told : List ℕ → Option (List ℕ)) (name : List ℕ) → told ≡ told_by m → IsTrue (lacked_by m name) →
    told name ≡ None
lacked_untold m told name e h = subst (λ (t : List ℕ → Option (List ℕ)). t name ≡ None) (sym e) (untold (told_by m name) h)
