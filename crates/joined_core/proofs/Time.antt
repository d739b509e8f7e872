-- Each row makes a move, and a circuit has its answer once the rows up to it are made.
use Rattle.std.proofs.Common.{◌≡◌, ◌↔◌, ◌≤◌, ◌<◌, ℕ, zero, suc, ◌+◌, Bool, true, false, cond, List, [], ◌∷◌, Option, Some, None}
use Rattle.std.proofs.Common.{refl, sym, ap, ◌∙◌, subst, ⊎_elim, arith, ◌-◌, length}
use Rattle.std.proofs.lemmas.Bool.{ltb-true, cases_lt}
use Rattle.std.proofs.lemmas.Option.{none-some}
use Rattle.pcf_values.specs.declared.val.Val.{Val}
use Rattle.pcf_values.specs.Terms.{TermTree, nat}
use Rattle.pcf_values.specs.Typing.{HasType}
use Rattle.net_build.specs.Nets.{NetTree}
use Rattle.net_build.specs.NetOf.{net_of}
use Rattle.net_build.specs.Sound.{Sound}
use Rattle.interleave_laws.specs.Runs.{Runs}
use Rattle.adequacy_laws.specs.Questions.{in_turn, Length}
use Rattle.adequacy_laws.proofs.Agreeing.{built_runs}
use Rattle.adequacy_laws.proofs.Counting.{one_count}
use Rattle.net_rows.proofs.Small.{not_full}
use Rattle.newest_core.specs.Meaning.{Tells}
use Rattle.joined_rows.specs.Open.{Amount}
use Rattle.joined_rows.specs.Compound.{Pointer}
use Rattle.joined_rows.specs.Ticks.{Named}
use Rattle.joined_core.specs.Rows.{Site, Seen, Way, onwards, answers_run, answers_fork, JoinedRow, Table, row_moves}
use Rattle.joined_core.specs.Right.{IsTable}
use Rattle.joined_core.specs.Circuit.{JoinedToken, JoinedFork, JoinedCircuit, seen_at, row_names, value_of, amount_of, meets_fork, ends}
use Rattle.joined_core.specs.Circuit.{row_found, row_on, a_row, Room, joined_powered, joined_circuit}
use Rattle.joined_core.specs.Room.{many_rows, most_cells, most_forks, row_run, one_more, rows_made}
use Rattle.joined_core.specs.Time.{RowsMove}
use Rattle.joined_core.proofs.Told.{RowRuns, row_runs}
use Rattle.joined_core.proofs.Step.{ends_moves}
use Rattle.joined_core.proofs.Room.{first_cells, first_forks, room_exactly, room_same}
use Rattle.joined_core.proofs.Follow.{at_power, clocks_keep, keeps_tells}

-- there is a token, or an answer
abbrev pub Asked : Option JoinedToken → Option Val → Type 0
Asked None r = (v : Val) × (r ≡ Some v)
Asked (Some k) r = r ≡ None

ends_asked : (way : Way) (Y : Named) (g : ℕ → Pointer) (u : Val) (v : Amount → Val) (D : JoinedCircuit) → D.result ≡ None →
    Asked D.live D.result → Asked (ends way Y g u v D).live (ends way Y g u v D).result
ends_asked onwards Y g u v D r a = r
ends_asked answers_run Y g u v D r a = (value_of u v Y.live, refl)
ends_asked (answers_fork q) Y g u v D r a = go D.forks
  where
    go : (fs : List JoinedFork) →
        Asked (meets_fork fs q u (value_of u v Y.live) D).live (meets_fork fs q u (value_of u v Y.live) D).result
    go [] = a
    go (f ∷ fs) = r

module _ (T : Table) where
  pub row_asked : (C : JoinedCircuit) → Asked C.live C.result → Asked (a_row T C).live (a_row T C).result
  row_asked C h = go C.full
    where
      found : (w : Site) (e : Seen) (o : Option JoinedRow) (k : JoinedToken) → C.live ≡ Some k →
          Asked (row_found w e o k C).live (row_found w e o k C).result
      found w e None k l = h
      found w e (Some r) k l =
          ends_asked r.way r.to (row_names C.store w k.lists r.given) k.value (amount_of (λ n. k.value))
          (record C { moves = C.moves + row_moves e r }) (subst (λ l. Asked l C.result) l h) h

      on : (l : Option JoinedToken) → C.live ≡ l → Asked (row_on T l C).live (row_on T l C).result
      on None e = h
      on (Some k) e = found (T.site k.key) (seen_at (T.site k.key) k) (T.row k.key (seen_at (T.site k.key) k)) k e

      go : (b : Bool) → Asked (cond b C (row_on T C.live C)).live (cond b C (row_on T C.live C)).result
      go true = h
      go false = on C.live refl

  pub many_asked : (k : ℕ) (C : JoinedCircuit) → Asked C.live C.result → Asked (many_rows T k C).live (many_rows T k C).result
  many_asked zero C h = h
  many_asked (suc k) C h = many_asked k (a_row T C) (row_asked C h)

  pub full_rows : (k : ℕ) (C : JoinedCircuit) → C.full ≡ true → (many_rows T k C).full ≡ true
  full_rows zero C e = e
  full_rows (suc k) C e = full_rows k (a_row T C) (ap (λ b. (cond b C (row_on T C.live C)).full) e ∙ e)

  -- without a token nothing goes on
  pub rests : (k : ℕ) (C : JoinedCircuit) → C.live ≡ None → many_rows T k C ≡ C
  rests zero C e = refl
  rests (suc k) C e = ap (many_rows T k) same ∙ rests k C e
    where
      go : (b : Bool) → cond b C (row_on T C.live C) ≡ C
      go true = refl
      go false = ap (λ l. row_on T l C) e

      same : a_row T C ≡ C
      same = go C.full

  -- so a token that is there was there
  was_there : {A : Type 0} (k : ℕ) (C : JoinedCircuit) (l : JoinedToken) → (many_rows T k C).live ≡ Some l → C.live ≡ None → A
  was_there k C l e f =
      let no : None ≡ Some l = sym f ∙ ap (λ (D : JoinedCircuit). D.live) (sym (rests k C f)) ∙ e in
      absurd cc

  -- the rows up to an answer
  pub made_more : (k n : ℕ) (C : JoinedCircuit) (l : JoinedToken) → (many_rows T k C).live ≡ Some l → k < n → k < rows_made T n C
  made_more k zero C l e h = let no : ⊥ = omega arith in absurd no
  made_more zero (suc n) C l e h = let m = ap (λ l. one_more l (rows_made T n (a_row T C))) e in omega arith
  made_more (suc k) (suc n) C l e h = go (made_more k n (a_row T C) l e (omega arith)) C.live refl
    where
      go : k < rows_made T n (a_row T C) → (o : Option JoinedToken) → C.live ≡ o → suc k < one_more C.live (rows_made T n (a_row T C))
      go i None f = was_there (suc k) C l e f
      go i (Some c) f = let m = ap (λ l. one_more l (rows_made T n (a_row T C))) f in omega arith

  pub made_less : (k n : ℕ) (C : JoinedCircuit) → (many_rows T k C).live ≡ None → rows_made T n C ≤ k
  made_less k zero C e = omega arith
  made_less zero (suc n) C e = let m = ap (λ l. one_more l (rows_made T n (a_row T C))) e in omega arith
  made_less (suc k) (suc n) C e = go (made_less k n (a_row T C) e) C.live refl
    where
      go : rows_made T n (a_row T C) ≤ k → (o : Option JoinedToken) → C.live ≡ o → one_more C.live (rows_made T n (a_row T C)) ≤ suc k
      go i None f = let m = ap (λ l. one_more l (rows_made T n (a_row T C))) f in omega arith
      go i (Some c) f = let m = ap (λ l. one_more l (rows_made T n (a_row T C))) f in omega arith

  module _ (net : NetTree) (table : IsTable net T) where
    -- a row makes a move
    row_more : (C : JoinedCircuit) (c : JoinedToken) → C.live ≡ Some c → (a_row T C).full ≡ false → suc C.moves ≤ (a_row T C).moves
    row_more C c e h = go C.full refl h
      where
        w : Site
        w = T.site c.key

        s : Seen
        s = seen_at w c

        found : (o : Option JoinedRow) → T.row c.key s ≡ o → (row_found w s o c C).full ≡ false → suc C.moves ≤ (row_found w s o c C).moves
        found None q h = not_full h
        found (Some r) q h =
            let runs : RowRuns net w c.key s r = row_runs net w c.key s r (table c.key s r q) in
            let goes : 0 < row_moves s r = ltb-true 0 (row_moves s r) runs.goes in
            let m = ends_moves r.way r.to (row_names C.store w c.lists r.given) c.value (amount_of (λ n. c.value))
            (record C { moves = C.moves + row_moves s r }) in
            omega arith

        go : (b : Bool) → C.full ≡ b → (cond b C (row_on T C.live C)).full ≡ false → suc C.moves ≤ (cond b C (row_on T C.live C)).moves
        go true q h = not_full (sym q ∙ h)
        go false q h = subst (λ l. suc C.moves ≤ (row_on T l C).moves) (sym e)
            (found (T.row c.key s) refl (ap (λ l. (row_on T l C).full) (sym e) ∙ h))

    -- so do as many
    pub moved : (k : ℕ) (C : JoinedCircuit) (l : JoinedToken) → (many_rows T k C).full ≡ false → (many_rows T k C).live ≡ Some l →
        C.moves + k ≤ (many_rows T k C).moves
    moved zero C l h e = omega arith
    moved (suc k) C l h e = go (moved k (a_row T C) l h e) C.live refl (a_row T C).full refl
      where
        go : (a_row T C).moves + k ≤ (many_rows T k (a_row T C)).moves → (o : Option JoinedToken) → C.live ≡ o → (b : Bool) →
            (a_row T C).full ≡ b → C.moves + suc k ≤ (many_rows T k (a_row T C)).moves
        go i None f b g = was_there (suc k) C l e f
        go i (Some c) f true g = not_full (sym (full_rows k (a_row T C) g) ∙ h)
        go i (Some c) f false g = let a = row_more C c f g in omega arith

pub rows_move : RowsMove
rows_move net runs T table z mem k l ready live =
    let same = room_same net T z mem k ready in
    let m = moved T net table k (joined_powered net mem) l (ap (λ (D : JoinedCircuit). D.full) (sym same) ∙ ready)
    (ap (λ (D : JoinedCircuit). D.live) (sym same) ∙ live) in
    let n = ap (λ (D : JoinedCircuit). D.moves) same in
    omega arith

-- while there is a token the program's length isn't reached, and without one there is the answer
pub rows_answer : (m : TermTree) (typed : HasType [] m nat) (sound : Sound (net_of m)) (T : Table) → IsTable (net_of m) T →
    (v : Val) (n : ℕ) → Length (net_of m) v n → (z : Room) (mem : ℕ → ℕ → Pointer) (k : ℕ) →
    (joined_circuit (net_of m) T z mem k).full ≡ false →
    ((joined_circuit (net_of m) T z mem k).result ≡ Some v) ↔ (rows_made T n (joined_powered (net_of m) mem) ≤ k)
rows_answer m typed sound T table v n long z mem k ready =
    ⊎_elim (λ e. not_full (sym e ∙ ready)) (λ h. go C.live refl (asked) (keeps_tells m typed sound C h))
    (clocks_keep (net_of m) runs T table z k (joined_powered (net_of m) mem) (at_power (net_of m) mem))
  where
    C : JoinedCircuit
    C = joined_circuit (net_of m) T z mem k

    runs : Runs (net_of m)
    runs = built_runs m typed sound

    same : C ≡ many_rows T k (joined_powered (net_of m) mem)
    same = room_same (net_of m) T z mem k ready

    asked : Asked C.live C.result
    asked = subst (λ (D : JoinedCircuit). Asked D.live D.result) (sym same) (many_asked T k (joined_powered (net_of m) mem) refl)

    go : (o : Option JoinedToken) → C.live ≡ o → Asked C.live C.result → Tells m C.moves C.result C.moves →
        (C.result ≡ Some v) ↔ (rows_made T n (joined_powered (net_of m) mem) ≤ k)
    go (Some l) e a t =
        let none : C.result ≡ None = subst (λ l. Asked l C.result) e a in
        let beyond : C.moves < n = t.waits.0 none v n long in
        let fast : k ≤ C.moves = rows_move (net_of m) runs T table z mem k l ready e in
        let more : k < rows_made T n (joined_powered (net_of m) mem) = made_more T k n (joined_powered (net_of m) mem) l
        (ap (λ (D : JoinedCircuit). D.live) (sym same) ∙ e) (omega arith) in
        (λ q. absurd (none-some v (sym none ∙ q)), λ q. let no : ⊥ = omega arith in absurd no)
    go None e a t =
        let answer = subst (λ l. Asked l C.result) e a in
        let one = one_count in_turn (net_of m) answer.0 v C.moves n (t.as_long answer.0 answer.1) long in (
          λ q. made_less T k n (joined_powered (net_of m) mem) (ap (λ (D : JoinedCircuit). D.live) (sym same) ∙ e),
          λ q. answer.1 ∙ ap Some one.0,
        )

module _ (T : Table) where
  -- more rows want as much at least
  cells_more : (k n : ℕ) (C : JoinedCircuit) → k ≤ n → most_cells T k C ≤ most_cells T n C
  cells_more zero n C h = first_cells T (record { cells = 0; forks = 0 }) n C
  cells_more (suc k) zero C h = let no : ⊥ = omega arith in absurd no
  cells_more (suc k) (suc n) C h = let i = cells_more k n (a_row T C) (omega arith) in omega arith

  forks_more : (k n : ℕ) (C : JoinedCircuit) → k ≤ n → most_forks T k C ≤ most_forks T n C
  forks_more zero n C h = first_forks T (record { cells = 0; forks = 0 }) n C
  forks_more (suc k) zero C h = let no : ⊥ = omega arith in absurd no
  forks_more (suc k) (suc n) C h = let i = forks_more k n (a_row T C) (omega arith) in omega arith

  -- and a pair that lacks its row is met again
  full_more : (k n : ℕ) (C : JoinedCircuit) → k ≤ n → (many_rows T n C).full ≡ false → (many_rows T k C).full ≡ false
  full_more zero n C h e = go C.full refl
    where
      go : (b : Bool) → C.full ≡ b → C.full ≡ false
      go true q = not_full (sym (full_rows T n C q) ∙ e)
      go false q = q
  full_more (suc k) zero C h e = let no : ⊥ = omega arith in absurd no
  full_more (suc k) (suc n) C h e = full_more k n (a_row T C) (omega arith) e

  many_more : (n k : ℕ) (C : JoinedCircuit) → many_rows T (n + k) C ≡ many_rows T k (many_rows T n C)
  many_more zero k C = let e : 0 + k ≡ k = omega arith in ap (λ j. many_rows T j C) e
  many_more (suc n) k C =
      let e : suc n + k ≡ suc (n + k) = omega arith in
      ap (λ j. many_rows T j C) e ∙ many_more n k (a_row T C)

  -- what rests wants no more
  cells_rest : (n k : ℕ) (C : JoinedCircuit) → (many_rows T n C).live ≡ None → most_cells T (n + k) C ≤ most_cells T n C
  cells_rest zero k C e = let z : 0 + k ≡ k = omega arith in subst (λ j. most_cells T j C ≤ C.store.top) (sym z) (go k C e)
    where
      go : (k : ℕ) (C : JoinedCircuit) → C.live ≡ None → most_cells T k C ≤ C.store.top
      go zero C e = omega arith
      go (suc k) C e =
          let i : most_cells T k (a_row T C) ≤ C.store.top =
          subst (λ D. most_cells T k D ≤ C.store.top) (sym (rests T 1 C e)) (go k C e) in
          omega arith
  cells_rest (suc n) k C e =
      let z : suc n + k ≡ suc (n + k) = omega arith in
      let i = cells_rest n k (a_row T C) e in
      let m : most_cells T (suc (n + k)) C ≤ most_cells T (suc n) C = omega arith in
      subst (λ j. most_cells T j C ≤ most_cells T (suc n) C) (sym z) m

  forks_rest : (n k : ℕ) (C : JoinedCircuit) → (many_rows T n C).live ≡ None → most_forks T (n + k) C ≤ most_forks T n C
  forks_rest zero k C e = let z : 0 + k ≡ k = omega arith in subst (λ j. most_forks T j C ≤ length C.forks) (sym z) (go k C e)
    where
      go : (k : ℕ) (C : JoinedCircuit) → C.live ≡ None → most_forks T k C ≤ length C.forks
      go zero C e = omega arith
      go (suc k) C e =
          let i : most_forks T k (a_row T C) ≤ length C.forks =
          subst (λ D. most_forks T k D ≤ length C.forks) (sym (rests T 1 C e)) (go k C e) in
          omega arith
  forks_rest (suc n) k C e =
      let z : suc n + k ≡ suc (n + k) = omega arith in
      let i = forks_rest n k (a_row T C) e in
      let m : most_forks T (suc (n + k)) C ≤ most_forks T (suc n) C = omega arith in
      subst (λ j. most_forks T j C ≤ most_forks T (suc n) C) (sym z) m

  made_within : (n : ℕ) (C : JoinedCircuit) → rows_made T n C ≤ n
  made_within zero C = omega arith
  made_within (suc n) C = go C.live (made_within n (a_row T C))
    where
      go : (o : Option JoinedToken) → rows_made T n (a_row T C) ≤ n → one_more o (rows_made T n (a_row T C)) ≤ suc n
      go None i = omega arith
      go (Some c) i = omega arith

-- what is enough up to the program's length is enough for ever, and there the answer is
pub rows_compute : (m : TermTree) (typed : HasType [] m nat) (sound : Sound (net_of m)) (T : Table) → IsTable (net_of m) T →
    (v : Val) (n : ℕ) → Length (net_of m) v n → (z : Room) (mem : ℕ → ℕ → Pointer) → (row_run (net_of m) T mem n).full ≡ false →
    most_cells T n (joined_powered (net_of m) mem) ≤ z.cells → most_forks T n (joined_powered (net_of m) mem) ≤ z.forks →
    (k : ℕ) → rows_made T n (joined_powered (net_of m) mem) ≤ k →
    ((joined_circuit (net_of m) T z mem k).full ≡ false) × ((joined_circuit (net_of m) T z mem k).result ≡ Some v)
rows_compute m typed sound T table v n long z mem ready cells forks k late =
    (there, (rows_answer m typed sound T table v n long z mem k there).1 late)
  where
    P : JoinedCircuit
    P = joined_powered (net_of m) mem

    -- at the program's length
    at_end : (joined_circuit (net_of m) T z mem n).full ≡ false
    at_end = (room_exactly (net_of m) T z mem n).1 (ready, cells, forks)

    done : (many_rows T n P).result ≡ Some v
    done = ap (λ (D : JoinedCircuit). D.result) (sym (room_same (net_of m) T z mem n at_end))
        ∙ (rows_answer m typed sound T table v n long z mem n at_end).1 (made_within T n P)

    none : (many_rows T n P).live ≡ None
    none = go (many_rows T n P).live refl (many_asked T n P refl)
      where
        go : (o : Option JoinedToken) → (many_rows T n P).live ≡ o → Asked (many_rows T n P).live (many_rows T n P).result →
            (many_rows T n P).live ≡ None
        go None e a = e
        go (Some l) e a = absurd (none-some v (sym (subst (λ l. Asked l (many_rows T n P).result) e a) ∙ done))

    -- before it, and behind it
    before : k ≤ n → (joined_circuit (net_of m) T z mem k).full ≡ false
    before l =
        let a = cells_more T k n P l in
        let b = forks_more T k n P l in
        (room_exactly (net_of m) T z mem k).1 (full_more T k n P l ready, omega arith, omega arith)

    behind : (j : ℕ) → n + j ≡ k → (joined_circuit (net_of m) T z mem k).full ≡ false
    behind j e =
        let a = cells_rest T n j P none in
        let b = forks_rest T n j P none in
        let same : many_rows T (n + j) P ≡ many_rows T n P = many_more T n j P ∙ rests T j (many_rows T n P) none in
        subst (λ k. (joined_circuit (net_of m) T z mem k).full ≡ false) e
        ((room_exactly (net_of m) T z mem (n + j)).1 (ap (λ (D : JoinedCircuit). D.full) same ∙ ready, omega arith, omega arith))

    there : (joined_circuit (net_of m) T z mem k).full ≡ false
    there = ⊎_elim (λ l. before (omega arith)) (λ l. behind (k - n) (omega arith)) (cases_lt k n)
