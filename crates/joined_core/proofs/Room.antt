-- What a circuit of some room does is what the rows do, as far as there is room.
use Rattle.std.proofs.Common.{◌≡◌, ◌≤◌, ℕ, zero, suc, Bool, true, false, cond, ◌||◌, length, refl, sym, ap, ◌∙◌, arith}
use Rattle.std.specs.Prelude.{nat_lt}
use Rattle.std.proofs.lemmas.Bool.{ltb-false, le-ltb}
use Rattle.net_rows.proofs.Small.{not_full}
use Rattle.joined_core.specs.Rows.{Table}
use Rattle.joined_core.specs.Circuit.{JoinedCircuit, stuck, row_on, a_row, Room, no_room, joined_clock, joined_clocks, joined_powered}
use Rattle.joined_core.specs.Room.{many_rows, most_cells, most_forks, RoomExactly, RoomSame}

module _ (T : Table) (z : Room) where
  -- once full, it stays so
  pub full_stays : (k : ℕ) (C : JoinedCircuit) → C.full ≡ true → (joined_clocks T z k C).full ≡ true
  full_stays zero C e = e
  full_stays (suc k) C e = full_stays k (joined_clock T z C) (go (no_room z (a_row T C)))
    where
      go : (b : Bool) → (cond b (stuck C) (a_row T C)).full ≡ true
      go true = refl
      go false = ap (λ b. (cond b C (row_on T C.live C)).full) e ∙ e

  -- there is room
  pub record Fits (C : JoinedCircuit) : Type 0 where
    pub cells : C.store.top ≤ z.cells
    pub forks : length C.forks ≤ z.forks

  room_told : (C : JoinedCircuit) → no_room z C ≡ false → Fits C
  room_told C e = record {
    cells = ltb-false z.cells C.store.top (first (nat_lt z.cells C.store.top) (nat_lt z.forks (length C.forks)) e);
    forks = ltb-false z.forks (length C.forks) (second (nat_lt z.cells C.store.top) (nat_lt z.forks (length C.forks)) e);
  }
    where
      first : (a b : Bool) → (a || b) ≡ false → a ≡ false
      first true b e = absurd cc
      first false b e = refl

      second : (a b : Bool) → (a || b) ≡ false → b ≡ false
      second true b e = absurd cc
      second false b e = e

  room_there : (C : JoinedCircuit) → Fits C → no_room z C ≡ false
  room_there C f =
      ap (λ b. b || nat_lt z.forks (length C.forks)) (le-ltb z.cells C.store.top f.cells) ∙ le-ltb z.forks (length C.forks) f.forks

  pub first_cells : (k : ℕ) (C : JoinedCircuit) → C.store.top ≤ most_cells T k C
  first_cells zero C = omega arith
  first_cells (suc k) C = omega arith

  pub first_forks : (k : ℕ) (C : JoinedCircuit) → length C.forks ≤ most_forks T k C
  first_forks zero C = omega arith
  first_forks (suc k) C = omega arith

  -- no more cells and forks than there are in so many rows, of which each is there
  pub record Enough (k : ℕ) (C : JoinedCircuit) : Type 0 where
    pub ready : (many_rows T k C).full ≡ false
    pub cells : most_cells T k C ≤ z.cells
    pub forks : most_forks T k C ≤ z.forks

  pub enough_told : (k : ℕ) (C : JoinedCircuit) → Fits C → (joined_clocks T z k C).full ≡ false → Enough k C
  enough_told zero C f e = record { ready = e; cells = f.cells; forks = f.forks }
  enough_told (suc k) C f e = go (λ g h. enough_told k (a_row T C) g h) (no_room z (a_row T C)) refl e
    where
      go : (Fits (a_row T C) → (joined_clocks T z k (a_row T C)).full ≡ false → Enough k (a_row T C)) → (b : Bool) →
          no_room z (a_row T C) ≡ b → (joined_clocks T z k (cond b (stuck C) (a_row T C))).full ≡ false → Enough (suc k) C
      go rest true q e = not_full (sym (full_stays k (stuck C) refl) ∙ e)
      go rest false q e =
          let r = rest (room_told (a_row T C) q) e in
          let a = f.cells in
          let b = f.forks in
          let c = r.cells in
          let d = r.forks in
          record { ready = r.ready; cells = omega arith; forks = omega arith }

  pub clocks_same : (k : ℕ) (C : JoinedCircuit) → Enough k C → joined_clocks T z k C ≡ many_rows T k C
  clocks_same zero C h = refl
  clocks_same (suc k) C h =
      let a = h.cells in
      let b = h.forks in
      let c = first_cells k (a_row T C) in
      let d = first_forks k (a_row T C) in
      let room : no_room z (a_row T C) ≡ false = room_there (a_row T C) (record { cells = omega arith; forks = omega arith }) in
      ap (λ b. joined_clocks T z k (cond b (stuck C) (a_row T C))) room
      ∙ clocks_same k (a_row T C) (record { ready = h.ready; cells = omega arith; forks = omega arith })

  pub power_fits : (net : _) (mem : _) → Fits (joined_powered net mem)
  power_fits net mem = record { cells = omega arith; forks = omega arith }

pub room_exactly : RoomExactly
room_exactly net T z mem k = (there, back)
  where
    C : JoinedCircuit
    C = joined_powered net mem

    there : (joined_clocks T z k C).full ≡ false →
        ((many_rows T k C).full ≡ false) × (most_cells T k C ≤ z.cells) × (most_forks T k C ≤ z.forks)
    there e = let h = enough_told T z k C (power_fits T z net mem) e in (h.ready, h.cells, h.forks)

    back : ((many_rows T k C).full ≡ false) × (most_cells T k C ≤ z.cells) × (most_forks T k C ≤ z.forks) →
        (joined_clocks T z k C).full ≡ false
    back h = ap (λ (D : JoinedCircuit). D.full) (clocks_same T z k C (record { ready = h.0; cells = h.1; forks = h.2 })) ∙ h.0

pub room_same : RoomSame
room_same net T z mem k e =
    clocks_same T z k (joined_powered net mem) (enough_told T z k (joined_powered net mem) (power_fits T z net mem) e)
