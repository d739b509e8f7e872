-- What a look-up of files by name gives, told without the way in which it goes through the list.
use Rattle.std.specs.Prelude.{◌≡◌, ◌≢◌, ◌↔◌, ℕ, List, [], ◌∷◌, ◌++◌, ⊤, IsTrue, Some}
use Rattle.goi_world.specs.FilesInMemory.{FilesInMemory, told_by, lacked_by}

-- no file of the list has this name
abbrev pub NoneNamed : List ℕ → List (List ℕ × List ℕ) → Type 0
NoneNamed name [] = ⊤
NoneNamed name (file ∷ files) = (file.0 ≢ name) × NoneNamed name files

-- of the files with one name the first counts
abbrev pub FirstCounts : Type 0
FirstCounts =
    (m : FilesInMemory) (before after : List (List ℕ × List ℕ)) (name bytes : List ℕ) → m.files ≡ before ++ (name, bytes) ∷ after →
    NoneNamed name before → told_by m name ≡ Some bytes

-- exactly the names that no file has are lacked
abbrev pub LacksExactly : Type 0
LacksExactly = (m : FilesInMemory) (name : List ℕ) → IsTrue (lacked_by m name) ↔ NoneNamed name m.files
