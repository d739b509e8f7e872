-- What a run of a program's module tells: from what a circuit is to what comes of its run.
use Rattle.std.proofs.Common.{◌≡◌, ◌⊎◌, ◌↔◌, ◌<◌, ◌≤◌, ◌*◌, ◌%◌, ◌^◌, ℕ, zero, suc, List, [], length}
use Rattle.std.proofs.Common.{refl, sym, ap, ◌∙◌, subst, arith, inl, inr, ⊎_elim}
use Rattle.std.proofs.lemmas.Bool.{cases_order}
use Rattle.std.proofs.lemmas.Nat.{mod_below}
use Prim.Native.String.{String}
use Rattle.pcf_values.specs.declared.val.Val.{Val}
use Rattle.pcf_values.specs.declared.val.Val.TheVariants.{Number, Overflow}
use Rattle.pcf_values.specs.Terms.{TermTree, nat}
use Rattle.pcf_values.specs.Typing.{HasType}
use Rattle.cbn_meaning.specs.Meaning.{Means, value}
use Rattle.cbn_meaning.specs.Laws.{ResultHasType}
use Rattle.cbn_meaning.proofs.Keeps.{result_keeps_type}
use Rattle.net_build.specs.NetOf.{net_of}
use Rattle.adequacy_laws.specs.Questions.{Length}
use Rattle.verilog_tree.specs.Tree.{Item}
use Rattle.verilog_tree.specs.Meaning.{Store, edge, set_vec}
use Rattle.verilog_run.specs.Held.{nothing}
use Rattle.circuit_module.specs.Stands.{Small, value_number}
use Rattle.joined_module.specs.Ports.{port_edges}
use Rattle.joined_means.specs.Laws.{AtPorts, Ended as End, RunTells, no_arguments}
use Rattle.circuit_meaning.specs.Circuit.{Circuit, HasRoom}
use Rattle.circuit_runs.specs.Running.{run_from, after, Goes, IsDone, Shows, ComesOf}
use Rattle.circuit_runs.specs.Laws.{RunSays, ProgramRuns}
use Rattle.circuit_runs.specs.declared.outcome.Outcome.{Outcome}
use Rattle.circuit_runs.specs.declared.outcome.Outcome.TheVariants.{Ended, Full, Odd, Waits}

-- a value of a program is below 2 ^ 64, or overflow
small_of : (v : Val) → ResultHasType (value v) nat → Small v
small_of (Number n) h = h.0
small_of Overflow h = tt

-- such values with one number are one
same_value : (v u : Val) → Small v → Small u → value_number v ≡ value_number u → v ≡ u
same_value (Number m) (Number n) h k e = ap Number e
same_value Overflow Overflow h k e = refl
same_value (Number m) Overflow h k e = absurd (omega arith)
same_value Overflow (Number n) h k e = absurd (omega arith)

-- what each edge of a run reads past ends
abbrev strays : List Item → Store → ℕ → String → ℕ → ℕ
strays is S n = (run_from is n S).stray

-- so many edges with nothing at ports
none_given : (k : ℕ) → (length (no_arguments k) ≡ k) × AtPorts 0 (no_arguments k)
none_given zero = (refl, tt)
none_given (suc k) = let g = none_given k in (ap suc g.0, (refl, g.1))

-- the edges of a run are those with nothing at ports
edges_same : (is : List Item) (k : ℕ) (S : Store) → port_edges is (strays is S) (no_arguments k) S ≡ run_from is k S
edges_same is zero S = refl
edges_same is (suc k) S = edges_same is k (edge is (set_vec "rst" 0 S))

not_both : (n : ℕ) → n ≡ 1 → n ≡ 0 → ⊥
not_both n u e = omega arith

below : (a b : ℕ) → (b ≤ a → ⊥) → a < b
below a b f = go (cases_order a b)
  where
    go : (a ≡ b) ⊎ ((a < b) ⊎ (b < a)) → a < b
    go (inl e) = absurd (f (omega arith))
    go (inr (inl h)) = h
    go (inr (inr h)) = absurd (f (omega arith))

-- registers after so many edges, of which all is so that is so of a circuit
module _ (m : TermTree) (typed : HasType [] m nat) (C : Circuit) (cells forks : ℕ) (at : ℕ → Store)
    (says : (k : ℕ) → ((at k).vec "full" ≡ 1) ⊎ (((at k).vec "full" ≡ 0) × RunTells m k (at k)))
    (full : (k : ℕ) → ((at k).vec "full" ≡ 0) ↔ HasRoom (C.needs [] k) cells forks) where
  -- the first ones that show this
  abbrev First : ℕ → Outcome → Type 0
  First K o = (k : ℕ) × (k ≤ K) × ((j : ℕ) → j < k → Goes (at j)) × Shows (at k) k o

  -- where `full` is down they tell
  tells_down : (k : ℕ) → (at k).vec "full" ≡ 0 → RunTells m k (at k)
  tells_down k e = ⊎_elim (λ u. absurd (not_both ((at k).vec "full") u e)) (λ t. t.1) (says k)

  done_up : (k : ℕ) → IsDone (at k) → (at k).vec "done" ≡ 1
  done_up k d = ⊎_elim (λ u. absurd (d.0 u)) (λ u. u) (tells_down k d.1).done

  -- the value of the program that ends
  small : (k : ℕ) (e : End m (at k)) → Small e.value
  small k e = small_of e.value (result_keeps_type e.means.0 m nat (value e.value) typed e.means.1)

  -- neither is up so late
  late : (k : ℕ) (v : Val) (l : ℕ) → Length (net_of m) v l → Goes (at k) → k < 133 * suc l
  late k v l is g = below k (133 * suc l) (λ h. not_both ((at k).vec "done") ((tells_down k g.1).comes v l is h).0 g.0)

  on_ended : (K : ℕ) (v : Val) (moves j : ℕ) → First K (Ended v moves j) → RunSays m C cells forks K (Ended v moves j)
  on_ended K v moves j h =
      let k = h.0 in
      let shows = h.3 in
      let e = (tells_down k shows.1.1).ends (done_up k shows.1) in
      let is : e.value ≡ v = same_value e.value v (small k e) shows.2 (sym e.result ∙ shows.3) in
      let long : Length (net_of m) v e.length = subst (λ w. Length (net_of m) w e.length) is e.is_length in (
        subst (λ w. Means m w) is e.means,
        (e.length, long, sym shows.4 ∙ e.moves, subst (λ n. n ≤ 133 * suc e.length) (sym shows.0) (first k v e.length long h.2)),
      )
    where
      first : (k : ℕ) (v : Val) (l : ℕ) → Length (net_of m) v l → ((j : ℕ) → j < k → Goes (at j)) → k ≤ 133 * suc l
      first zero v l is g = omega arith
      first (suc k) v l is g = late k v l is (g k (omega arith))

  on_full : (K j : ℕ) → First K (Full j) → RunSays m C cells forks K (Full j)
  on_full K j h = (
    λ r. h.3.1 ((full h.0).1 (subst (λ n. HasRoom (C.needs [] n) cells forks) h.3.0 r)),
    λ i l. (full i).0 (h.2 i (subst (λ n. i < n) h.3.0 l)).1,
  )

  on_odd : (K j : ℕ) → First K (Odd j) → ⊥
  on_odd K j h =
      let e = (tells_down h.0 h.3.1.1).ends (done_up h.0 h.3.1) in
      h.3.2 e.value (e.length % 2 ^ 64) (small h.0 e) (mod_below e.length (2 ^ 64) (omega arith)) e.result e.moves

-- the law
pub program_runs : ProgramRuns
program_runs m typed C is cells forks c f K o comes = told o comes
  where
    js : List Item
    js = C.items cells forks

    reset : Store
    reset = edge js (set_vec "rst" 1 nothing)

    at : ℕ → Store
    at k = after js k

    says : (k : ℕ) → ((at k).vec "full" ≡ 1) ⊎ (((at k).vec "full" ≡ 0) × RunTells m k (at k))
    says k =
        subst (λ (S : Store). (S.vec "full" ≡ 1) ⊎ ((S.vec "full" ≡ 0) × RunTells m k S)) (edges_same js k reset)
        (subst (λ n. let S = port_edges js (strays js reset) (no_arguments k) reset in
        (S.vec "full" ≡ 1) ⊎ ((S.vec "full" ≡ 0) × RunTells m n S)) (none_given k).0
        (is.tells [] refl tt cells forks c f nothing (strays js reset) (no_arguments k) (none_given k).1))

    full : (k : ℕ) → ((at k).vec "full" ≡ 0) ↔ HasRoom (C.needs [] k) cells forks
    full k =
        subst (λ (S : Store). (S.vec "full" ≡ 0) ↔ HasRoom (C.needs [] k) cells forks) (edges_same js k reset)
        (subst (λ n. ((port_edges js (strays js reset) (no_arguments k) reset).vec "full" ≡ 0) ↔ HasRoom (C.needs [] n) cells forks)
        (none_given k).0 (is.full [] refl tt cells forks c f nothing (strays js reset) (no_arguments k) (none_given k).1))

    told : (o : Outcome) → ComesOf js K o → RunSays m C cells forks K o
    told (Ended v moves j) d = on_ended m typed C cells forks at says full K v moves j d
    told (Full j) d = on_full m typed C cells forks at says full K j d
    told (Odd j) d = on_odd m typed C cells forks at says full K j d
    told Waits d = λ v l is. late m typed C cells forks at says full K v l is (d K (omega arith))
