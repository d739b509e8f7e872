-- Edges of a run, and where it ends.
use Rattle.std.proofs.Common.{◌≡◌, ℕ, zero, suc, ◌+◌, ◌<◌, ◌≤◌, inl, Bool, true, false, nat_eq, List, ◌++◌}
use Rattle.std.proofs.Common.{refl, sym, ap, ◌∙◌, subst, arith, eqb-true, eq-eqb, append_assoc}
use Rattle.verilog_tree.specs.Tree.{Item}
use Rattle.verilog_tree.specs.Meaning.{Store}
use Rattle.verilog_run.proofs.Putting.{and_parts}
use Rattle.verilog_waves.specs.Course.{after, before, behind, Goes, IsLast}
use Rattle.verilog_waves.specs.Dump.{edges_text, shown_edge}
use Rattle.verilog_waves.specs.Parts.{goes}
use Rattle.verilog_waves.specs.Shown.{Shown}

-- what is behind an edge that isn't the reset's
pub behind_later : (is : List Item) (k : ℕ) → 0 < k → before is (suc k) ≡ behind is k
behind_later is zero l = absurd (omega arith)
behind_later is (suc k) l = refl

-- whether the run goes on
goes_so : (S : Store) → goes S ≡ true → Goes S
goes_so S h =
    let p = and_parts (nat_eq (S.vec "done") 0) (nat_eq (S.vec "full") 0) h in
    (eqb-true (S.vec "done") 0 p.0, eqb-true (S.vec "full") 0 p.1)

stops_so : (S : Store) → goes S ≡ false → Goes S → ⊥
stops_so S h g =
    let e : goes S ≡ true = rw (eq-eqb (S.vec "done") 0 g.0, eq-eqb (S.vec "full") 0 g.1) refl in
    cc

-- before the last, or the last
data Case (j k : ℕ) : Type 0 where
  earlier : j < k → Case j k
  last : j ≡ k → Case j k

up : (j k : ℕ) → Case j k → Case (suc j) (suc k)
up j k (earlier l) = earlier (omega arith)
up j k (last e) = last (ap suc e)

case_of : (j k : ℕ) → j < suc k → Case j k
case_of zero zero h = last refl
case_of zero (suc k) h = earlier (omega arith)
case_of (suc j) zero h = absurd (omega arith)
case_of (suc j) (suc k) h = up j k (case_of j k (omega arith))

-- a run that goes on
pub goes_more : (is : List Item) (k : ℕ) (b : Bool) → b ≡ goes (after is k) → b ≡ true → ((j : ℕ) → j < k → Goes (after is j)) →
    (j : ℕ) → j < k + 1 → Goes (after is j)
goes_more is k b f t old j l = go (case_of j k (omega arith))
  where
    go : Case j k → Goes (after is j)
    go (earlier h) = old j h
    go (last q) = subst (λ n. Goes (after is n)) (sym q) (goes_so (after is k) (sym f ∙ t))

-- a run that ends
pub ends_here : (is : List Item) (K k : ℕ) (b : Bool) → k ≤ K → b ≡ goes (after is k) → b ≡ false →
    ((j : ℕ) → j < k → Goes (after is j)) → IsLast is K k
ends_here is K k b l f t old = (l, old, inl (λ g. stops_so (after is k) (sym f ∙ t) g))

-- the text of one edge more
pub text_more : (vs : List Shown) (is : List Item) (k : ℕ) (t u v : List ℕ) → u ≡ t ++ edges_text vs is k →
    v ≡ u ++ shown_edge vs is k → v ≡ t ++ edges_text vs is (suc k)
text_more vs is k t u v f g =
    g ∙ ap (λ x. x ++ shown_edge vs is k) f ∙ append_assoc t (edges_text vs is k) (shown_edge vs is k)
