-- One edge more, and the end.
use Rattle.std.proofs.Common.{◌≡◌, ◌⊎◌, ◌<◌, ◌+◌, ℕ, suc, length}
use Rattle.std.proofs.Common.{sym, ap, ◌∙◌, subst, inl, inr, arith}
use Rattle.std.specs.Prelude.{max, min}
use Rattle.std.proofs.lemmas.Bool.{cases_order}
use Rattle.joined_module.specs.Module.{ModuleTable}
use Rattle.joined_edges.specs.Timed.{Timed}
use Rattle.joined_needs.specs.Views.{timed_of}
use Rattle.joined_needs.specs.Edges.{an_edge, edge_run, edge_cells, edge_forks}
use Rattle.joined_needs.specs.Told.{GoesOn, EndsSo, NeedsTold}
use Rattle.joined_needs.specs.Counting.{IsCounted}
use Rattle.joined_needs.specs.declared.needs.Counting.{Counting}
use Rattle.joined_needs.specs.declared.needs.Ending.{Ending}

-- one edge more
pub counted_more : (ps : ℕ → ℕ) (T : ModuleTable) (old new : Counting) → GoesOn (timed_of old.walk) →
    timed_of new.walk ≡ an_edge ps T.rows (timed_of old.walk) → new.cycles ≡ old.cycles + 1 →
    new.cells ≡ max old.cells (timed_of new.walk).circuit.top → new.forks ≡ max old.forks (length (timed_of new.walk).circuit.forks) →
    IsCounted ps T old → IsCounted ps T new
counted_more ps T old new goes edge n cells forks c =
    let s : new.cycles ≡ suc old.cycles = omega (arith, n) in
    let run : timed_of new.walk ≡ edge_run ps T (suc old.cycles) = edge ∙ ap (an_edge ps T.rows) c.run in
    record {
      run = run ∙ ap (edge_run ps T) (sym s);
      cells = cells ∙ ap (λ m. max m (timed_of new.walk).circuit.top) c.cells
          ∙ ap (λ (t : Timed). max (edge_cells ps T old.cycles) t.circuit.top) run ∙ ap (edge_cells ps T) (sym s);
      forks = forks ∙ ap (λ m. max m (length (timed_of new.walk).circuit.forks)) c.forks
          ∙ ap (λ (t : Timed). max (edge_forks ps T old.cycles) (length t.circuit.forks)) run ∙ ap (edge_forks ps T) (sym s);
      before = λ j l. go j (cases_order j old.cycles) (omega (arith, l, s));
    }
  where
    go : (j : ℕ) → (j ≡ old.cycles) ⊎ ((j < old.cycles) ⊎ (old.cycles < j)) → j < suc old.cycles → GoesOn (edge_run ps T j)
    go j (inl e) l = subst (λ k. GoesOn (edge_run ps T k)) (sym e) (subst GoesOn c.run goes)
    go j (inr (inl h)) l = c.before j h
    go j (inr (inr h)) l = absurd (omega (arith, h, l))

-- what is told of a run that was counted
pub told_of : (ps : ℕ → ℕ) (T : ModuleTable) (budget : ℕ) (c : Counting) (ending : Ending) (moves : ℕ) → IsCounted ps T c →
    moves ≡ min (timed_of c.walk).circuit.moves budget → EndsSo budget c.cycles (timed_of c.walk) ending →
    NeedsTold ps T budget (record { ending = ending; moves = moves; cycles = c.cycles; cells = c.cells; forks = c.forks })
told_of ps T budget c ending moves k m e = record {
  cells = k.cells;
  forks = k.forks;
  before = k.before;
  moves = m ∙ ap (λ (t : Timed). min t.circuit.moves budget) k.run;
  ends = subst (λ t. EndsSo budget c.cycles t ending) k.run e;
}
