-- The states of a dump and of a run are the same, and so both end at the first edge behind which `done` or `full` is up.
use Rattle.std.proofs.Common.{◌≡◌, ◌<◌, ◌≤◌, ◌⊎◌, inl, inr, ℕ, zero, suc, List, refl, sym, ap, subst, ◌∙◌, arith}
use Rattle.std.proofs.lemmas.Bool.{cases_order}
use Rattle.verilog_tree.specs.Tree.{Item}
use Rattle.verilog_tree.specs.Meaning.{Store, edge, set_vec}
use Rattle.verilog_run.specs.Held.{nothing}
use Rattle.verilog_waves.specs.Course as shown
use Rattle.circuit_runs.specs.Running as run
use Rattle.circuit_runs.specs.declared.outcome.Outcome.{Outcome}
use Rattle.circuit_runs.specs.declared.outcome.Outcome.TheVariants.{Ended, Full, Odd, Waits}
use Rattle.circuit_runs.specs.Waves.{edges_of}

-- the last edge of one more
run_more : (is : List Item) (k : ℕ) (S : Store) → run.run_from is (suc k) S ≡ edge is (set_vec "rst" 0 (run.run_from is k S))
run_more is zero S = refl
run_more is (suc k) S = run_more is k (edge is (set_vec "rst" 0 S))

pub same_states : (is : List Item) (k : ℕ) → shown.after is k ≡ run.after is k
same_states is zero = refl
same_states is (suc k) =
    ap (λ S. edge is (set_vec "rst" 0 S)) (same_states is k) ∙ sym (run_more is k (edge is (set_vec "rst" 1 nothing)))

-- where a run goes on, so does the dump, and back
there : (is : List Item) (k : ℕ) → run.Goes (run.after is k) → shown.Goes (shown.after is k)
there is k g = subst shown.Goes (sym (same_states is k)) g

back : (is : List Item) (k : ℕ) → shown.Goes (shown.after is k) → run.Goes (run.after is k)
back is k g = subst run.Goes (same_states is k) g

-- two first edges behind which neither goes on are one
module _ (is : List Item) (K k : ℕ) (last : shown.IsLast is K k) where
  not_later : (j : ℕ) → ((i : ℕ) → i < j → run.Goes (run.after is i)) → j ≤ K → k < j → ⊥
  not_later j g l h = go last.2
    where
      go : (shown.Goes (shown.after is k) → ⊥) ⊎ (k ≡ K) → ⊥
      go (inl stops) = stops (there is k (g k h))
      go (inr e) = omega arith

  not_earlier : (j : ℕ) → (run.Goes (run.after is j) → ⊥) → j < k → ⊥
  not_earlier j stops h = stops (back is j (last.1 j h))

  -- a run that ended
  ended : (j : ℕ) → j ≤ K → ((i : ℕ) → i < j → run.Goes (run.after is i)) → (run.Goes (run.after is j) → ⊥) → j ≡ k
  ended j l g stops = go (cases_order j k)
    where
      go : (j ≡ k) ⊎ ((j < k) ⊎ (k < j)) → j ≡ k
      go (inl e) = e
      go (inr (inl h)) = absurd (not_earlier j stops h)
      go (inr (inr h)) = absurd (not_later j g l h)

  -- a run that didn't
  waited : ((i : ℕ) → i ≤ K → run.Goes (run.after is i)) → K ≡ k
  waited g = go last.2
    where
      go : (shown.Goes (shown.after is k) → ⊥) ⊎ (k ≡ K) → K ≡ k
      go (inl stops) = absurd (stops (there is k (g k last.0)))
      go (inr e) = sym e

  same : (o : Outcome) → run.ComesOf is K o → edges_of K o ≡ k
  same (Ended v m j) c =
      let s = c.3 in
      s.0 ∙ ended c.0 c.1 c.2 (λ g. s.1.0 g.0)
  same (Full j) c =
      let s = c.3 in
      s.0 ∙ ended c.0 c.1 c.2 (λ g. s.1 g.1)
  same (Odd j) c =
      let s = c.3 in
      s.0 ∙ ended c.0 c.1 c.2 (λ g. s.1.0 g.0)
  same Waits c = waited c

pub same_end : (is : List Item) (K k : ℕ) (o : Outcome) → shown.IsLast is K k → run.ComesOf is K o → edges_of K o ≡ k
same_end is K k o last c = same is K k last o c
