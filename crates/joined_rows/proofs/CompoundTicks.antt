-- A joined row with forks and joins, over compound cells.
use Rattle.std.proofs.Common.{ℕ, List, [], ◌∷◌}
use Rattle.pcf_values.specs.declared.val.Val.{Val}
use Rattle.joined_rows.specs.Open.{Filling, spot_of}
use Rattle.joined_rows.specs.Compound.{Pointer, Store, Account, Low, with_cell, account_with}
use Rattle.joined_rows.specs.Ticks.{of_names, NamedFork}
use Rattle.joined_rows.specs.CompoundTicks.{names_of, ForksRead, CompoundTicks}
use Rattle.joined_rows.proofs.Compound.{cell_right, sigs_read, boxes_read}
use Rattle.joined_rows.proofs.Ticks.{joined_ticks}

module _ (V : Store) (M : Account) (g : ℕ → Pointer) (lows : (i : ℕ) → Low V.top (g i)) (vs : ℕ → Val) where
  abbrev F : Filling
  F = of_names (names_of M g vs)

  pub forks_read : (fs : List NamedFork) → ForksRead (with_cell V g) (account_with M V.top g) g V.top F fs
  forks_read [] = tt
  forks_read (f ∷ fs) = (boxes_read V M g lows F f.boxes [] tt, forks_read fs)

-- what the names stand for, so many cycles make, and the new cell's pointers stand for what comes
pub compound_ticks : CompoundTicks
compound_ticks net n X Y leads V M right g lows vs around R named =
    let t = joined_ticks net n X Y leads (names_of M g vs) around R named in
    let F : Filling = of_names (names_of M g vs) in
    record {
      named = t.0;
      moves = t.1;
      result = t.2;
      right = cell_right V M right g lows;
      lists = record {
        sigs = sigs_read V M g lows F (spot_of Y.live).work [] tt;
        boxes = boxes_read V M g lows F (spot_of Y.live).boxes [] tt;
      };
      forks = forks_read V M g lows vs Y.forks;
    }
