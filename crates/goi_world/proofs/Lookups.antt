-- Looking up the first file with a name, by cases on the first file of the list.
use Rattle.std.proofs.Common.{◌≡◌, ℕ, List, [], ◌∷◌, ◌++◌, Bool, true, false, Some, refl}
use Rattle.std.specs.Prelude.{IsTrue, is_none, if◌then◌else◌}
use Rattle.std.specs.Str.{bytes_eq}
use Rattle.std.proofs.lemmas.Bool.{false≢true}
use Rattle.std.proofs.lemmas.Slice.Eq.{bytes_eq-Decides}
use Rattle.goi_world.specs.FilesInMemory.{bytes_of}
use Rattle.goi_world.specs.NamedFiles.{NoneNamed}
use Rattle.pcf_values.proofs.Plain.{told_apart}

-- a name is its own
same : (name : List ℕ) → bytes_eq name name ≡ true
same name = (bytes_eq-Decides name name).1 refl

-- files before it that have other names don't hide a file
pub first_counts : (before after : List (List ℕ × List ℕ)) (name bytes : List ℕ) → NoneNamed name before →
    bytes_of (before ++ (name, bytes) ∷ after) name ≡ Some bytes
first_counts [] after name bytes none = rw (same name) refl
first_counts (file ∷ before) after name bytes none = rw (told_apart file.0 name none.0) (first_counts before after name bytes none.1)

-- where nothing is found, no file has the name
pub lacked_none_named : (files : List (List ℕ × List ℕ)) (name : List ℕ) → IsTrue (is_none (bytes_of files name)) → NoneNamed name files
lacked_none_named [] name lacked = tt
lacked_none_named (file ∷ files) name lacked =
    first (lacked_none_named files name) (bytes_eq file.0 name) (bytes_eq-Decides file.0 name).1 lacked where
      first : (IsTrue (is_none (bytes_of files name)) → NoneNamed name files) → (b : Bool) → (file.0 ≡ name → b ≡ true) →
          IsTrue (is_none (if b then Some file.1 else bytes_of files name)) → NoneNamed name (file ∷ files)
      first rest true hits absent = cc
      first rest false hits absent = ((λ e. false≢true (hits e)), rest absent)

-- where no file has the name, nothing is found
pub none_named_lacked : (files : List (List ℕ × List ℕ)) (name : List ℕ) → NoneNamed name files → IsTrue (is_none (bytes_of files name))
none_named_lacked [] name none = refl
none_named_lacked (file ∷ files) name none = rw (told_apart file.0 name none.0) (none_named_lacked files name none.1)
