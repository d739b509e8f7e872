-- A joined row with forks and joins, over compound cells: the statement of `law_compound_ticks`.
-- V is the store in which the row makes its cell: the circuit's, or at a fork's answer the one with as many cells in use as when that fork
-- was opened. So what is asked of the pointers is that they don't need any cell that is given back.
use Rattle.std.specs.Prelude.{◌≡◌, ℕ, ◌+◌, List, [], ◌∷◌, Some}
use Rattle.pcf_values.specs.declared.val.Val.{Val}
use Rattle.net_build.specs.Nets.{NetTree}
use Rattle.newest_core.specs.Processor.{OpenFork, Registers, ticks}
use Rattle.joined_rows.specs.Open.{Filling, work_of, boxes_of, spot_of}
use Rattle.joined_rows.specs.Compound.{Pointer, Store, Account, read, Low, Right, with_cell, account_with, AllRead, Lists, ListsShow}
use Rattle.joined_rows.specs.Compound.{put_on}
use Rattle.joined_rows.specs.Ticks.{Names, of_names, NamedFork, Named, named_ticks, IsNamed}

-- nothing is below what has names
abbrev pub none : Lists
none = record { sigs = []; boxes = [] }

-- names stand for what these pointers stand for
abbrev pub names_of : Account → (ℕ → Pointer) → (ℕ → Val) → Names
names_of M g vs = record { sigs = λ i. read M (g i); vals = vs }

-- the pointers of each fork's boxes stand for them
abbrev pub ForksRead : Store → Account → (ℕ → Pointer) → ℕ → Filling → List NamedFork → Type 0
ForksRead V M g n F [] = Unit {0}
ForksRead V M g n F (f ∷ fs) = AllRead V.top M (put_on g n [] f.boxes none).boxes (boxes_of F f.boxes) × ForksRead V M g n F fs

-- after n cycles of the processor its registers are Y's, and the lists and forks that the row puts on stand for these
pub record GoesOn (net : NetTree) (n : ℕ) (Y : Named) (V : Store) (M : Account) (g : ℕ → Pointer) (vs : ℕ → Val) (around : List OpenFork)
    (R : Registers) : Type 0 where
  pub named : IsNamed (of_names (names_of M g vs)) around Y (ticks net n R)
  pub moves : (ticks net n R).moves ≡ R.moves + n
  pub result : (ticks net n R).result ≡ R.result
  pub right : Right (with_cell V g) (account_with M V.top g)
  pub lists : ListsShow (with_cell V g) (account_with M V.top g) (put_on g V.top (spot_of Y.live).work (spot_of Y.live).boxes none)
      (work_of (of_names (names_of M g vs)) (spot_of Y.live).work) (boxes_of (of_names (names_of M g vs)) (spot_of Y.live).boxes)
  pub forks : ForksRead (with_cell V g) (account_with M V.top g) g V.top (of_names (names_of M g vs)) Y.forks

-- so it is for each joined row
abbrev pub CompoundTicks : Type 0
CompoundTicks = (net : NetTree) (n : ℕ) (X Y : Named) → named_ticks net n X ≡ Some Y → (V : Store) (M : Account) → Right V M →
    (g : ℕ → Pointer) → ((i : ℕ) → Low V.top (g i)) → (vs : ℕ → Val) (around : List OpenFork) (R : Registers) →
    IsNamed (of_names (names_of M g vs)) around X R → GoesOn net n Y V M g vs around R
