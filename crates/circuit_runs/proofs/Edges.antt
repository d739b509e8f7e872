-- One edge more, and what comes of a run where it ends.
use Rattle.std.proofs.Common.{◌≡◌, ◌∙◌, ◌≤◌, ◌<◌, ◌+◌, ℕ, zero, suc, List, refl, sym, ap, subst, arith, add-one}
use Rattle.std.specs.Prelude.{Option, None, IfNone}
use Rattle.verilog_tree.specs.Tree.{Item}
use Rattle.verilog_tree.specs.Meaning.{Store, edge, set_vec}
use Rattle.circuit_runs.specs.Running.{run_from, after, Goes, Shows, ShowsLast, ComesOf}
use Rattle.circuit_runs.specs.declared.outcome.Outcome.{Outcome}
use Rattle.circuit_runs.specs.declared.outcome.Outcome.TheVariants.{Ended, Full, Odd, Waits}
use Rattle.verilog_run.specs.Held.{nothing}

-- the last edge of one more
run_more : (is : List Item) (k : ℕ) (S : Store) → run_from is (suc k) S ≡ edge is (set_vec "rst" 0 (run_from is k S))
run_more is zero S = refl
run_more is (suc k) S = run_more is k (edge is (set_vec "rst" 0 S))

-- the registers after one more
pub one_more : (is : List Item) (k : ℕ) (old new : Store) → old ≡ after is k → new ≡ edge is (set_vec "rst" 0 old) →
    new ≡ after is (k + 1)
one_more is k old new e f =
    f ∙ ap (λ T. edge is (set_vec "rst" 0 T)) e ∙ sym (run_more is k (edge is (set_vec "rst" 1 nothing)))
    ∙ ap (λ n. after is n) (sym (add-one k))

-- before the last, or the last
data Case (j k : ℕ) : Type 0 where
  earlier : j < k → Case j k
  last : j ≡ k → Case j k

-- where neither flag was up before, and none is now, none was up before the next edge
pub goes_more : (is : List Item) (k : ℕ) (old : Store) → old ≡ after is k → ((j : ℕ) → j < k → Goes (after is j)) → Goes old →
    (j : ℕ) → j < k + 1 → Goes (after is j)
goes_more is k old e before now j h = go (nat_cases j k h)
  where
    up : (j k : ℕ) → Case j k → Case (suc j) (suc k)
    up j k (earlier l) = earlier (omega arith)
    up j k (last e) = last (ap suc e)

    nat_cases : (j k : ℕ) → j < k + 1 → Case j k
    nat_cases zero zero h = last refl
    nat_cases zero (suc k) h = earlier (omega arith)
    nat_cases (suc j) zero h = absurd (omega arith)
    nat_cases (suc j) (suc k) h = up j k (nat_cases j k (omega arith))

    go : Case j k → Goes (after is j)
    go (earlier l) = before j l
    go (last q) = subst (λ n. Goes (after is n)) (sym q) (subst Goes e now)

-- a run that ends within so many edges
pub comes : (is : List Item) (K k : ℕ) (old : Store) (o : Outcome) → k ≤ K → old ≡ after is k →
    ((j : ℕ) → j < k → Goes (after is j)) → Shows old k o → ComesOf is K o
comes is K k old (Ended v m j) h e before s = (k, h, before, subst (λ T. Shows T k (Ended v m j)) e s)
comes is K k old (Full j) h e before s = (k, h, before, subst (λ T. Shows T k (Full j)) e s)
comes is K k old (Odd j) h e before s = (k, h, before, subst (λ T. Shows T k (Odd j)) e s)
comes is K k old Waits h e before s = absurd s

-- a run that was made to its end
pub comes_last : (is : List Item) (K k : ℕ) (old : Store) (o : Outcome) → k ≤ K → K ≤ k → old ≡ after is k →
    ((j : ℕ) → j < k → Goes (after is j)) → ShowsLast old K o → ComesOf is K o
comes_last is K k old o h l e before s = go o s
  where
    same : K ≡ k
    same = omega arith

    go : (o : Outcome) → ShowsLast old K o → ComesOf is K o
    go (Ended v m j) s = comes is K k old (Ended v m j) h e before (subst (λ n. Shows old n (Ended v m j)) same s)
    go (Full j) s = comes is K k old (Full j) h e before (subst (λ n. Shows old n (Full j)) same s)
    go (Odd j) s = comes is K k old (Odd j) h e before (subst (λ n. Shows old n (Odd j)) same s)
    go Waits s = λ j b. goes_more is k old e before s j (omega arith)

-- at the reset no edge was made
pub begins : (is : List Item) (old : Store) → old ≡ after is 0 → (old ≡ after is 0) × ((j : ℕ) → j < 0 → Goes (after is j))
begins is old e = (e, λ j h. absurd (omega arith))

-- and where neither flag is up there is one more
pub goes_on : (is : List Item) (k : ℕ) (old new : Store) → old ≡ after is k → ((j : ℕ) → j < k → Goes (after is j)) → Goes old →
    new ≡ edge is (set_vec "rst" 0 old) → (new ≡ after is (k + 1)) × ((j : ℕ) → j < k + 1 → Goes (after is j))
goes_on is k old new e before now f = (one_more is k old new e f, goes_more is k old e before now)

-- where nothing is shown neither is up
pub none_goes : (o : Option Outcome) (T : Store) → IfNone o (Goes T) → o ≡ None → Goes T
none_goes o T h e = subst (λ p. IfNone p (Goes T)) e h

-- what is shown last, where something is, or nothing
pub last_some : (T : Store) (k : ℕ) (o : Outcome) → Shows T k o → ShowsLast T k o
last_some T k (Ended v m j) s = s
last_some T k (Full j) s = s
last_some T k (Odd j) s = s
last_some T k Waits s = absurd s
