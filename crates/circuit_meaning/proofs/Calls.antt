-- A call of a table's circuit: what it tells, when it is full, and what is counted of it.
use Rattle.std.proofs.Common.{◌≡◌, ◌⊎◌, ◌↔◌, ◌<◌, ◌≤◌, ◌^◌, ℕ, zero, suc, Bool, true, false, List, [], length}
use Rattle.std.proofs.Common.{Some, refl, sym, ap, ◌∙◌, subst, inl, inr, arith}
use Rattle.std.proofs.lemmas.Bool.{cases_order}
use Prim.Native.String.{String}
use Rattle.pcf_values.specs.declared.val.Val.{Val}
use Rattle.pcf_values.specs.Terms.{TermTree}
use Rattle.pcf_values.specs.Typing.{HasType}
use Rattle.net_build.specs.NetOf.{net_of}
use Rattle.open_net_laws.specs.Applied.{applied, numeric}
use Rattle.open_net_laws.specs.Arguments.{AreNumbers}
use Rattle.open_net_laws.specs.Numbers.{places}
use Rattle.open_net_laws.proofs.Parts.{has}
use Rattle.verilog_tree.specs.Meaning.{Store, flag, nonzero}
use Rattle.joined_core.specs.Rows.{Site}
use Rattle.joined_core.specs.Listed.{Entry}
use Rattle.joined_core.specs.Circuit.{Room}
use Rattle.joined_module.specs.Module.{ModuleTable, joined_module}
use Rattle.joined_edges.specs.Timed.{Timed, timed_edges, timed_start}
use Rattle.joined_edges.proofs.Flags.{by_flag}
use Rattle.joined_numbers.specs.At.{number_at}
use Rattle.joined_numbers.specs.Runs.{table_of, module_runs}
use Rattle.joined_means.specs.Laws.{AtPorts, RunTells, RunTimes, timed_run}
use Rattle.joined_means.proofs.Tells.{function_tells, function_times}
use Rattle.joined_needs.specs.Edges.{blank, edge_run, edge_cells, edge_forks}
use Rattle.joined_needs.specs.Told.{EndsSo, NeedsTold}
use Rattle.joined_needs.specs.declared.needs.Ending.{Ending}
use Rattle.joined_needs.specs.declared.needs.Ending.TheVariants.{Answered, NoRow, Beyond}
use Rattle.joined_needs.specs.declared.needs.Needs.{Needs}
use Rattle.joined_needs.proofs.Exact.{needs_same, needs_exact}
use Rattle.circuit_meaning.specs.Circuit.{HasRoom, registers_after}
use Rattle.circuit_meaning.specs.Counts.{told_needs}
use Rattle.circuit_meaning.specs.Laws.{room, most_room, needed}
use Rattle.circuit_meaning.proofs.Smaller.{runs_less}
use Rattle.circuit_meaning.proofs.Counted.{none, none_is}

-- more edges need no less
up : (f : ℕ → ℕ) → ((k : ℕ) → f k ≤ f (suc k)) → (j k : ℕ) → j ≤ k → f j ≤ f k
up f s j zero l = let e : j ≡ 0 = omega (arith, l) in subst (λ i. f i ≤ f 0) (sym e) (omega arith)
up f s j (suc k) l = go (cases_order j (suc k)) (λ h. up f s j k h)
  where
    go : (j ≡ suc k) ⊎ ((j < suc k) ⊎ (suc k < j)) → (j ≤ k → f j ≤ f k) → f j ≤ f (suc k)
    go (inl e) i = subst (λ i. f j ≤ f i) e (omega arith)
    go (inr (inl h)) i = let a = i (omega (arith, h)) in let b = s k in omega (arith, a, b)
    go (inr (inr h)) i = absurd (omega (arith, l, h))

-- ---- its module

-- the numbers that are needed, by what was told
needed_are : (full : Bool) (c f x y : ℕ) → full ≡ false → x ≡ c → y ≡ f → needed full c f ≡ Some (x, y)
needed_are true c f x y e p q = absurd cc
needed_are false c f x y e p q = ap (λ k. Some (k, f)) (sym p) ∙ ap (λ k. Some (x, k)) (sym q)

module _ (m : TermTree) (us vs : List ℕ) (h : HasType [] m (numeric (length vs))) (e : length us ≡ length vs) (a : AreNumbers us)
    (b : AreNumbers vs) (sites : List (ℕ × Site)) (entries : List Entry)
    (runs : module_runs (net_of (applied m us)) (places m (length vs)) sites entries most_room ≡ true) where
  abbrev pub ps : ℕ → ℕ
  ps = number_at vs

  abbrev pub B : ModuleTable
  B = table_of (net_of (applied m us)) sites entries

  module _ (cells forks : ℕ) (c : cells < 2 ^ 31) (f : forks < 2 ^ 31) where
    abbrev z : Room
    z = room cells forks

    runs_so : module_runs (net_of (applied m us)) (places m (length vs)) sites entries z ≡ true
    runs_so = runs_less (net_of (applied m us)) (places m (length vs)) sites entries most_room z (omega (arith, c)) (omega (arith, f)) runs

    module _ (S : Store) (strays : ℕ → String → ℕ → ℕ) (more : List (List ℕ)) (p : AtPorts (length vs) more) where
      abbrev call : Store
      call = registers_after (joined_module B z (length vs)) vs S strays more

      abbrev k : ℕ
      k = length more

      times : RunTimes ps z (net_of (applied m us)) sites entries k call
      times = function_times m us vs h e a b sites entries z runs_so S strays more p

      run_is : timed_run ps z (net_of (applied m us)) sites entries (none entries) k ≡ timed_edges ps z B.rows k (timed_start B blank)
      run_is = ap (λ M. timed_edges ps z B.rows k (timed_start B M)) (none_is sites entries)

      full_is : call.vec "full" ≡ flag (timed_edges ps z B.rows k (timed_start B blank)).circuit.full
      full_is = times.full (none entries) ∙ ap (λ (t : Timed). flag t.circuit.full) run_is

      done_is : call.vec "done" ≡ flag (timed_edges ps z B.rows k (timed_start B blank)).done
      done_is = times.done (none entries) ∙ ap (λ (t : Timed). flag t.done) run_is

      pub call_tells : (call.vec "full" ≡ 1) ⊎ ((call.vec "full" ≡ 0) × RunTells (applied m vs) k call)
      call_tells = function_tells m us vs h e a b sites entries z runs_so S strays more p

      pub call_full : (call.vec "full" ≡ 0)
          ↔ HasRoom (needed (edge_run ps B k).circuit.full (edge_cells ps B k) (edge_forks ps B k)) cells forks
      call_full = (there, back)
        where
          exact : ((timed_edges ps z B.rows k (timed_start B blank)).circuit.full ≡ false) ↔ (((edge_run ps B k).circuit.full ≡ false)
              × (edge_cells ps B k ≤ cells) × (edge_forks ps B k ≤ forks))
          exact = needs_exact ps B z k

          has : (full : Bool) → full ≡ false → (edge_cells ps B k ≤ cells) × (edge_forks ps B k ≤ forks) →
              HasRoom (needed full (edge_cells ps B k) (edge_forks ps B k)) cells forks
          has true e q = absurd cc
          has false e q = q

          had : (full : Bool) → HasRoom (needed full (edge_cells ps B k) (edge_forks ps B k)) cells forks →
              (full ≡ false) × (edge_cells ps B k ≤ cells) × (edge_forks ps B k ≤ forks)
          had true q = absurd q
          had false q = (refl, q.0, q.1)

          there : call.vec "full" ≡ 0 → HasRoom (needed (edge_run ps B k).circuit.full (edge_cells ps B k) (edge_forks ps B k)) cells forks
          there q =
              let x = exact.0 (sym (by_flag (call.vec "full") _ full_is) ∙ ap nonzero q) in
              has (edge_run ps B k).circuit.full x.0 (x.1, x.2)

          back : HasRoom (needed (edge_run ps B k).circuit.full (edge_cells ps B k) (edge_forks ps B k)) cells forks → call.vec "full" ≡ 0
          back q = full_is ∙ ap flag (exact.1 (had (edge_run ps B k).circuit.full q))

      -- and by what is counted
      module _ (budget : ℕ) (n : Needs) (told : NeedsTold ps B budget n) (enough : n.cells ≤ cells) (few : n.forks ≤ forks) where
        pub call_earlier : k < n.cycles → call.vec "done" ≡ 0
        call_earlier l =
            let x = up (edge_cells ps B) (λ k. omega arith) k n.cycles (omega (arith, l)) in
            let y = up (edge_forks ps B) (λ k. omega arith) k n.cycles (omega (arith, l)) in
            let i = told.cells in
            let j = told.forks in
            done_is ∙ ap (λ (t : Timed). flag t.done) (needs_same ps B z k (omega (arith, x, enough, i)) (omega (arith, y, few, j)))
            ∙ ap flag (told.before k l).0

        pub call_done : (v : Val) → n.ending ≡ Answered v → k ≡ n.cycles → call.vec "done" ≡ 1
        call_done v o l =
            done_is ∙ ap (λ k. flag (timed_edges ps z B.rows k (timed_start B blank)).done) l
            ∙ ap (λ (t : Timed). flag t.done)
            (needs_same ps B z n.cycles (subst (λ k. k ≤ cells) told.cells enough) (subst (λ k. k ≤ forks) told.forks few))
            ∙ ap flag (subst (EndsSo budget n.cycles (edge_run ps B n.cycles)) o told.ends).0

  pub needs_are : (budget : ℕ) (n : Needs) → NeedsTold ps B budget n →
      needed (edge_run ps B n.cycles).circuit.full (edge_cells ps B n.cycles) (edge_forks ps B n.cycles)
      ≡ told_needs n.ending n.cells n.forks
  needs_are budget n told = go n.ending told.ends
    where
      go : (o : Ending) → EndsSo budget n.cycles (edge_run ps B n.cycles) o →
          needed (edge_run ps B n.cycles).circuit.full (edge_cells ps B n.cycles) (edge_forks ps B n.cycles) ≡ told_needs o n.cells n.forks
      go (Answered v) s = needed_are (edge_run ps B n.cycles).circuit.full _ _ n.cells n.forks s.1.0 told.cells told.forks
      go NoRow s = ap (λ b. needed b (edge_cells ps B n.cycles) (edge_forks ps B n.cycles)) s
      go Beyond s = needed_are (edge_run ps B n.cycles).circuit.full _ _ n.cells n.forks s.0 told.cells told.forks
