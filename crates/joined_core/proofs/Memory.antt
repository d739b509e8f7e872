-- What the memory has at reset doesn't matter: no row reads a cell that wasn't made.
use Rattle.std.proofs.Common.{◌≡◌, ◌⊎◌, ◌≤◌, ◌<◌, ℕ, zero, suc, ◌+◌, max, Bool, true, false, cond, List, [], ◌∷◌, length, Option, Some}
use Rattle.std.proofs.Common.{None}
use Rattle.std.proofs.Common.{refl, sym, ap, ◌∙◌, subst, inl, inr, arith}
use Rattle.std.specs.Prelude.{nat_eq}
use Rattle.std.proofs.Math.Path.{fun_ext}
use Rattle.std.proofs.lemmas.Bool.{eqb-false}
use Rattle.pcf_values.specs.declared.val.Val.{Val}
use Rattle.net_build.specs.Nets.{NetTree}
use Rattle.interleave_laws.specs.Runs.{Runs}
use Rattle.move_rules.specs.Places.{TokenTree, ask, ans, place_of}
use Rattle.move_rules.specs.Stacks.{work_at, boxes_at}
use Rattle.newest_core.specs.Processor.{OpenFork, ticks, reset}
use Rattle.joined_rows.specs.Open.{Amount}
use Rattle.joined_rows.specs.Ticks.{Named}
use Rattle.joined_rows.specs.Compound.{Pointer, Store, Account, back_to, Lists, signs_of}
use Rattle.joined_core.specs.Rows.{Site, nowhere, Seen, nothing, Source, a_sig, a_box, a_word, a_part, given_at, Way}
use Rattle.joined_core.specs.Rows.{onwards, answers_run, answers_fork, JoinedRow, Table, row_moves}
use Rattle.joined_core.specs.Right.{IsTable}
use Rattle.joined_core.specs.Circuit.{JoinedToken, JoinedFork, JoinedCircuit, looked_at, seen_at, source_of, row_names, makes_cell}
use Rattle.joined_core.specs.Circuit.{value_of}
use Rattle.joined_core.specs.Circuit.{amount_of, two_words, stored, lands, two_values, fork_lists, fork_names, meets_fork, ends, row_found}
use Rattle.joined_core.specs.Circuit.{row_on, a_row, joined_powered}
use Rattle.joined_core.specs.Room.{many_rows, most_cells, most_forks, one_more, rows_made, RoomAlone}
use Rattle.joined_core.specs.Laws.{StandsAt, IsToken, IsLive, IsStack, Keeps}
use Rattle.joined_core.proofs.Told.{SourceFits, SourcesFit, WayRuns, RowRuns, given_fits, row_runs}
use Rattle.joined_core.proofs.Fits.{seen_low}
use Rattle.joined_core.proofs.Follow.{at_power, row_keeps}

-- the same with other words
abbrev pub change : Store → (ℕ → ℕ → Pointer) → Store
change V ws = record V { words = ws }

abbrev pub other : JoinedCircuit → (ℕ → ℕ → Pointer) → JoinedCircuit
other C ws = record C { store = change C.store ws }

-- of which those in use are the same
abbrev pub AgreeBelow : Store → (ℕ → ℕ → Pointer) → Type 0
AgreeBelow V ws = (j i : ℕ) → j < V.top → V.words j i ≡ ws j i

stored_other : (b : Bool) (V : Store) (ws : ℕ → ℕ → Pointer) (g : ℕ → Pointer) →
    stored b (change V ws) g ≡ change (stored b V g) (stored b (change V ws) g).words
stored_other true V ws g = refl
stored_other false V ws g = refl

stored_agree : (b : Bool) (V : Store) (ws : ℕ → ℕ → Pointer) (g : ℕ → Pointer) → AgreeBelow V ws →
    AgreeBelow (stored b V g) (stored b (change V ws) g).words
stored_agree false V ws g h = h
stored_agree true V ws g h = λ j i l. go j i l (nat_eq j V.top) refl
  where
    go : (j i : ℕ) → j < suc V.top → (b : Bool) → nat_eq j V.top ≡ b → cond b (two_words g) (V.words j) i ≡ cond b (two_words g) (ws j) i
    go j i l true e = refl
    go j i l false e = let n = eqb-false j V.top e in h j i (omega arith)

-- names have the same pointers, where a word is read of a cell in use alone
names_same : (V : Store) (ws : ℕ → ℕ → Pointer) → AgreeBelow V ws → (w : Site) (k : Lists) (gs : List Source) →
    ((n i : ℕ) → given_at gs n ≡ a_word i → (looked_at w k).place < V.top) → row_names (change V ws) w k gs ≡ row_names V w k gs
names_same V ws h w k gs low = fun_ext (λ n. go n (given_at gs n) refl)
  where
    go : (n : ℕ) (s : Source) → given_at gs n ≡ s → source_of (change V ws) (looked_at w k) k s ≡ source_of V (looked_at w k) k s
    go n (a_sig i) e = refl
    go n (a_box i) e = refl
    go n (a_word i) e = sym (h (looked_at w k).place i (low n i e))
    go n (a_part x) e = refl

-- a step of both
pub record Both (D E : JoinedCircuit) : Type 0 where
  pub words : ℕ → ℕ → Pointer
  pub same : E ≡ other D words
  pub agree : AgreeBelow D.store words

lands_both : (Y : Named) (V : Store) (ws : ℕ → ℕ → Pointer) (g : ℕ → Pointer) (u : Val) (v : Amount → Val) (around : List JoinedFork)
    (C : JoinedCircuit) (us : ℕ → ℕ → Pointer) → AgreeBelow V ws →
    Both (lands Y V g u v around C) (lands Y (change V ws) g u v around (other C us))
lands_both Y V ws g u v around C us h = record {
  words = (stored (makes_cell Y) (change V ws) g).words;
  same = ap (λ W. record (lands Y V g u v around C) { store = W }) (stored_other (makes_cell Y) V ws g);
  agree = stored_agree (makes_cell Y) V ws g h;
}

-- the innermost fork was opened with no more cells in use
abbrev pub FirstLow : ℕ → List JoinedFork → Type 0
FirstLow n [] = Unit {0}
FirstLow n (f ∷ fs) = f.top ≤ n

no_word : {A : Type 0} (gs : List Source) → SourcesFit nothing gs → (n i : ℕ) → given_at gs n ≡ a_word i → A
no_word gs h n i e = let no : false ≡ true = subst (SourceFits nothing) e (given_fits nothing gs h n) in absurd cc

-- how a row ends is the same over both
ends_both : (net : NetTree) (way : Way) (Y : Named) (g : ℕ → Pointer) (u : Val) (v : Amount → Val) (D : JoinedCircuit) (ws : ℕ → ℕ →
    Pointer) →
    WayRuns net Y way → FirstLow D.store.top D.forks → AgreeBelow D.store ws →
    Both (ends way Y g u v D) (ends way Y g u v (other D ws))
ends_both net onwards Y g u v D ws w low h = lands_both Y D.store ws g u v D.forks D ws h
ends_both net answers_run Y g u v D ws w low h = record { words = ws; same = refl; agree = h }
ends_both net (answers_fork q) Y g u v D ws w low h = go D.forks low
  where
    go : (fs : List JoinedFork) → FirstLow D.store.top fs →
        Both (meets_fork fs q u (value_of u v Y.live) D) (meets_fork fs q u (value_of u v Y.live) (other D ws))
    go [] l = record { words = ws; same = refl; agree = h }
    go (f ∷ fs) l =
        let V : Store = back_to D.store f.top in
        let below : AgreeBelow V ws = λ j i m. h j i (omega arith) in
        let vs : Amount → Val = amount_of (two_values (value_of u v Y.live) f.answered) in
        subst (λ g. Both (lands q.to V (fork_names V q f) u vs fs D) (lands q.to (change V ws) g u vs fs (other D ws)))
        (sym (names_same V ws below nowhere (fork_lists f) q.given (λ n i e. no_word q.given w.2.fits.1 n i e)))
        (lands_both q.to V ws (fork_names V q f) u vs fs D ws below)

module _ (net : NetTree) (T : Table) (table : IsTable net T) (C : JoinedCircuit) (h : Keeps net C) (ws : ℕ → ℕ → Pointer)
    (agree : AgreeBelow C.store ws) where
  abbrev M : Account
  M = h.account

  abbrev x : Option (ℕ × TokenTree)
  x = (ticks net C.moves (reset net)).live

  stack_low : (n : ℕ) (os : List OpenFork) (fs : List JoinedFork) → IsStack n M os fs → FirstLow n fs
  stack_low n [] [] s = tt
  stack_low n [] (f ∷ fs) s = elim s [ ]
  stack_low n (o ∷ os) [] s = elim s [ ]
  stack_low n (o ∷ os) (f ∷ fs) s = s.0.low

  stands : (x : TokenTree) (k : JoinedToken) → IsToken C.store.top M x k → StandsAt C.store.top M (place_of x) k
  stands (ask p) k t = t.1
  stands (ans v p) k t = t.2

  module _ (k : JoinedToken) (c : TokenTree) (t : IsToken C.store.top M c k) where
    abbrev w : Site
    w = T.site k.key

    abbrev e : Seen
    e = seen_at w k

    found_both : (o : Option JoinedRow) → T.row k.key e ≡ o → Both (row_found w e o k C) (row_found w e o k (other C ws))
    found_both None q = record { words = ws; same = refl; agree = agree }
    found_both (Some r) q =
        let runs : RowRuns net w k.key e r = row_runs net w k.key e r (table k.key e r q) in
        let st = stands c k t in
        let D : JoinedCircuit = record C { moves = C.moves + row_moves e r } in
        let vs : Amount → Val = amount_of (λ n. k.value) in
        let names : row_names (change C.store ws) w k.lists r.given ≡ row_names C.store w k.lists r.given =
        names_same C.store ws agree w k.lists r.given (λ n i z.
        seen_low C.store M h.right w k r (signs_of (work_at (place_of c))) (boxes_at (place_of c)) st.sigs st.boxes
        (subst (SourceFits e) z (given_fits e r.given runs.sources n))) in
        subst (λ g. Both (ends r.way r.to (row_names C.store w k.lists r.given) k.value vs D) (ends r.way r.to g k.value vs (other D ws)))
        (sym names)
        (ends_both net r.way r.to (row_names C.store w k.lists r.given) k.value vs D ws runs.way
        (stack_low C.store.top (ticks net C.moves (reset net)).forks C.forks h.forks) agree)

  on_both : (c : Option (ℕ × TokenTree)) (d : Option JoinedToken) → IsLive C.store.top M c d → Both (row_on T d C) (row_on T d (other C ws))
  on_both None None l = record { words = ws; same = refl; agree = agree }
  on_both None (Some k) l = elim l [ ]
  on_both (Some c) None l = elim l [ ]
  on_both (Some c) (Some k) l = found_both k c.1 l (T.row k.key (seen_at (T.site k.key) k)) refl

  row_both : Both (a_row T C) (a_row T (other C ws))
  row_both = go C.full
    where
      go : (b : Bool) → Both (cond b C (row_on T C.live C)) (cond b (other C ws) (row_on T C.live (other C ws)))
      go true = record { words = ws; same = refl; agree = agree }
      go false = on_both x C.live h.live

-- the rows want as much, and take as long
pub record Alike (T : Table) (k : ℕ) (C D : JoinedCircuit) : Type 0 where
  pub full : (many_rows T k D).full ≡ (many_rows T k C).full
  pub cells : most_cells T k D ≡ most_cells T k C
  pub forks : most_forks T k D ≡ most_forks T k C
  pub rows : rows_made T k D ≡ rows_made T k C

module _ (net : NetTree) (runs : Runs net) (T : Table) (table : IsTable net T) where
  full_row : (C : JoinedCircuit) → C.full ≡ true → a_row T C ≡ C
  full_row C e = ap (λ b. cond b C (row_on T C.live C)) e

  next_both : (C : JoinedCircuit) (ws : ℕ → ℕ → Pointer) → AgreeBelow C.store ws → (C.full ≡ true) ⊎ Keeps net C →
      Both (a_row T C) (a_row T (other C ws))
  next_both C ws h (inl e) =
      subst (λ D. Both D (a_row T (other C ws))) (sym (full_row C e))
      (record { words = ws; same = full_row (other C ws) e; agree = h })
  next_both C ws h (inr g) = row_both net T table C g ws h

  next_keeps : (C : JoinedCircuit) → (C.full ≡ true) ⊎ Keeps net C → ((a_row T C).full ≡ true) ⊎ Keeps net (a_row T C)
  next_keeps C (inl e) = inl (ap (λ (D : JoinedCircuit). D.full) (full_row C e) ∙ e)
  next_keeps C (inr g) = row_keeps net runs T table C g

  alike : (k : ℕ) (C : JoinedCircuit) (ws : ℕ → ℕ → Pointer) → AgreeBelow C.store ws → (C.full ≡ true) ⊎ Keeps net C →
      Alike T k C (other C ws)
  alike zero C ws h g = record { full = refl; cells = refl; forks = refl; rows = refl }
  alike (suc k) C ws h g =
      let b = next_both C ws h g in
      let r : Alike T k (a_row T C) (a_row T (other C ws)) =
      subst (Alike T k (a_row T C)) (sym b.same) (alike k (a_row T C) b.words b.agree (next_keeps C g)) in
      record {
        full = r.full;
        cells = ap (max C.store.top) r.cells;
        forks = ap (max (length C.forks)) r.forks;
        rows = ap (one_more C.live) r.rows;
      }

pub room_alone : RoomAlone
room_alone net runs T table mem ws k =
    let a = alike net runs T table k (joined_powered net mem) ws (λ j i l. let no : ⊥ = omega arith in absurd no)
    (inr (at_power net mem)) in
    (a.full, a.cells, a.forks, a.rows)
