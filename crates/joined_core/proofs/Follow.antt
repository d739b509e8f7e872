-- So many cycles of the circuit, from reset on.
use Rattle.std.proofs.Common.{◌≡◌, ◌⊎◌, ℕ, zero, suc, ◌+◌, Bool, true, false, cond, [], refl, sym, ◌∙◌, subst, ⊎_elim, inl, inr, arith}
use Rattle.token_stacks.specs.Signatures.{star}
use Rattle.pcf_values.specs.Terms.{TermTree, nat}
use Rattle.pcf_values.specs.Typing.{HasType}
use Rattle.net_build.specs.Nets.{NetTree}
use Rattle.net_build.specs.NetOf.{net_of}
use Rattle.net_build.specs.Sound.{Sound}
use Rattle.interleave_laws.specs.Runs.{Runs}
use Rattle.adequacy_laws.proofs.Agreeing.{built_runs}
use Rattle.newest_core.specs.Processor.{Registers, ticks, reset}
use Rattle.newest_core.specs.Meaning.{Tells}
use Rattle.newest_core.proofs.Processor.{follows, forks_nest, row_moves}
use Rattle.newest_core.proofs.Meaning.{newest_means}
use Rattle.joined_rows.specs.Compound.{Pointer}
use Rattle.joined_core.specs.Rows.{Table}
use Rattle.joined_core.specs.Right.{IsTable}
use Rattle.joined_core.specs.Circuit.{JoinedCircuit, stuck, a_row, Room, no_room, joined_clock, joined_clocks, joined_powered}
use Rattle.joined_core.specs.Circuit.{joined_circuit}
use Rattle.joined_core.specs.Laws.{JoinedHas, Keeps, JoinedGoes, JoinedStep, JoinedFollow}
use Rattle.joined_core.proofs.Waits.{live_placed, forks_wait}
use Rattle.joined_core.proofs.Step.{ticks_add, Meets, a_row_has}
use Rattle.joined_core.proofs.Room.{full_stays}

pub at_power : (net : NetTree) (mem : ℕ → ℕ → Pointer) → Keeps net (joined_powered net mem)
at_power net mem = record {
  account = λ j i. star;
  right = record { says = λ j i l. let x : ⊥ = omega arith in absurd x; low = λ j i l. let x : ⊥ = omega arith in absurd x };
  live = (refl, record { channel = refl; marks = refl; sigs = tt; boxes = tt });
  forks = tt;
  result = refl;
  moves = refl;
  ready = refl;
}

pub run_meets : (net : NetTree) → Runs net → (n : ℕ) → Meets net (ticks net n (reset net))
run_meets net runs n = record {
  ready = (follows net runs n).ready;
  innermost = λ i x l m o s v w t e. forks_nest net runs n i x l m o s v w t (row_moves net runs n i x l ∙ e);
  placed = live_placed net runs n;
  waits = forks_wait net n;
}

module _ (net : NetTree) (runs : Runs net) (T : Table) (table : IsTable net T) where
  -- a row is as many moves
  pub row_keeps : (C : JoinedCircuit) → Keeps net C → ((a_row T C).full ≡ true) ⊎ Keeps net (a_row T C)
  row_keeps C h =
      let R : Registers = ticks net C.moves (reset net) in
      let D : JoinedCircuit = a_row T C in
      ⊎_elim inl
      (λ a. inr (subst (λ n. JoinedHas (ticks net n (reset net)) D) (sym a.counts)
      (subst (λ S. JoinedHas S D) (sym (ticks_add net C.moves a.moves (reset net))) a.has)))
      (a_row_has net T table R C h
      (λ j. subst (Meets net) (ticks_add net C.moves j (reset net)) (run_meets net runs (C.moves + j))))

  module _ (z : Room) where
    pub clock_keeps : (C : JoinedCircuit) → Keeps net C → ((joined_clock T z C).full ≡ true) ⊎ Keeps net (joined_clock T z C)
    clock_keeps C h = go (no_room z (a_row T C))
      where
        go : (b : Bool) → ((cond b (stuck C) (a_row T C)).full ≡ true) ⊎ Keeps net (cond b (stuck C) (a_row T C))
        go true = inl refl
        go false = row_keeps C h

    pub clocks_keep : (k : ℕ) (C : JoinedCircuit) → Keeps net C → ((joined_clocks T z k C).full ≡ true) ⊎ Keeps net (joined_clocks T z k C)
    clocks_keep zero C h = inr h
    clocks_keep (suc k) C h =
        ⊎_elim (λ e. inl (full_stays T z k (joined_clock T z C) e)) (λ d. clocks_keep k (joined_clock T z C) d) (clock_keeps C h)

pub joined_step : JoinedStep
joined_step net runs T table z C h = clock_keeps net runs T table z C h

-- what the circuit has is what the processor has, and that shows a state of the machine
pub joined_follow : JoinedFollow
joined_follow net runs T table k z mem =
    ⊎_elim inl (λ h. inr (goes (joined_circuit net T z mem k) h))
    (clocks_keep net runs T table z k (joined_powered net mem) (at_power net mem))
  where
    goes : (C : JoinedCircuit) → Keeps net C → JoinedGoes net C
    goes C h =
        let f = follows net runs C.moves in
        record {
          state = f.state;
          leads = f.leads;
          registers = ticks net C.moves (reset net);
          shows = f.shows;
          has = h;
          moves = h.moves ∙ f.moves;
          result = h.result ∙ sym f.shows.answered;
        }

-- it tells what the processor tells
pub keeps_tells : (m : TermTree) (typed : HasType [] m nat) (sound : Sound (net_of m)) (C : JoinedCircuit) → Keeps (net_of m) C →
    Tells m C.moves C.result C.moves
keeps_tells m typed sound C h =
    subst (λ a. Tells m C.moves a C.moves) (sym h.result)
    (subst (λ j. Tells m C.moves (ticks (net_of m) C.moves (reset (net_of m))).result j) (sym h.moves) (newest_means m typed sound C.moves))

pub joined_means : (m : TermTree) (typed : HasType [] m nat) (sound : Sound (net_of m)) (T : Table) → IsTable (net_of m) T →
    (k : ℕ) (z : Room) (mem : ℕ → ℕ → Pointer) →
    let C = joined_circuit (net_of m) T z mem k in (C.full ≡ true) ⊎ Tells m C.moves C.result C.moves
joined_means m typed sound T table k z mem =
    ⊎_elim inl (λ h. inr (keeps_tells m typed sound (joined_circuit (net_of m) T z mem k) h))
    (clocks_keep (net_of m) (built_runs m typed sound) T table z k (joined_powered (net_of m) mem) (at_power (net_of m) mem))
