-- The module's edges after a reset are those of its rows with their waits.
use Rattle.std.proofs.Common.{◌≡◌, ◌<◌, ℕ, zero, suc, ◌+◌, ◌^◌, false, List, [], ◌∷◌, length, refl, sym, ap, ◌∙◌}
use Rattle.std.proofs.Common.{subst, arith}
use Prim.Native.String.{String}
use lib.Text.{eqt}
use Rattle.verilog_tree.specs.Meaning.{Store, chosen, set_vec}
use Rattle.verilog_tree.proofs.Own.{apart_names, same_name}
use Rattle.open_net_laws.specs.Arguments.{AreNumbers}
use Rattle.joined_core.specs.Circuit.{Room}
use Rattle.joined_module.specs.Names.{arg_name}
use Rattle.joined_module.specs.Ports.{set_args, port_reset, port_edge, port_edges}
use Rattle.joined_module.specs.Module.{ModuleTable, joined_module}
use Rattle.joined_module.specs.Machine.{Tagged}
use Rattle.joined_module_fits.proofs.Names.{foreign_own, args}
use Rattle.joined_edges.specs.Timed.{Timed, timed_edges, timed_start}
use Rattle.joined_edges.specs.Stands.{Stands}
use Rattle.joined_timed.specs.Laws.{TableGoes}
use Rattle.joined_timed.proofs.Bound.{edges_last}
use Rattle.joined_timed.proofs.Runs.{timed_along}
use Rattle.joined_steps.specs.Laws.{TableFits}
use Rattle.joined_steps.proofs.SameStands.{stands_kept}
use Rattle.joined_steps.proofs.Starts.{edge_starts}
use Rattle.joined_steps.proofs.Step.{edge_goes}
use Rattle.joined_numbers.specs.At.{number_at}
use Rattle.joined_means.specs.Laws.{AtPorts, after_call}

-- ---- what is at the ports

rst_apart : (i : ℕ) → eqt (arg_name i) "rst" ≡ false
rst_apart i = foreign_own (arg_name i) "rst" refl refl

args_apart : (i j : ℕ) → i < 2 ^ 64 → j < 2 ^ 64 → (i ≡ j → ⊥) → eqt (arg_name i) (arg_name j) ≡ false
args_apart i j p q d = apart_names (arg_name i) (arg_name j) (λ e. d (args.tells i j p q e))

rst_kept : (i : ℕ) (vs : List ℕ) (S : Store) → (set_args i vs S).vec "rst" ≡ S.vec "rst"
rst_kept i [] S = refl
rst_kept i (v ∷ vs) S =
    rst_kept (suc i) vs (set_vec (arg_name i) v S) ∙ ap (λ b. chosen b v (S.vec "rst")) (rst_apart i)

arg_kept : (i : ℕ) (vs : List ℕ) (S : Store) (k : ℕ) → k < i → i + length vs < 2 ^ 64 →
    (set_args i vs S).vec (arg_name k) ≡ S.vec (arg_name k)
arg_kept i [] S k l h = refl
arg_kept i (v ∷ vs) S k l h =
    arg_kept (suc i) vs (set_vec (arg_name i) v S) k (omega (arith, l)) (omega (arith, h))
    ∙ ap (λ b. chosen b v (S.vec (arg_name k)))
    (args_apart i k (omega (arith, h)) (omega (arith, l, h)) (λ e. let no : ⊥ = omega (arith, e, l) in no))

-- each port of an argument has its number
arg_set : (i : ℕ) (vs : List ℕ) (S : Store) (j : ℕ) → j < length vs → i + length vs < 2 ^ 64 →
    (set_args i vs S).vec (arg_name (i + j)) ≡ number_at vs j
arg_set i [] S j l h = absurd (omega (arith, l))
arg_set i (v ∷ vs) S zero l h =
    let z : i + 0 ≡ i = omega arith in
    ap (λ k. (set_args (suc i) vs (set_vec (arg_name i) v S)).vec (arg_name k)) z
    ∙ arg_kept (suc i) vs (set_vec (arg_name i) v S) i (omega arith) (omega (arith, h))
    ∙ ap (λ b. chosen b v (S.vec (arg_name i))) (same_name (arg_name i))
arg_set i (v ∷ vs) S (suc j) l h =
    let z : i + suc j ≡ suc i + j = omega arith in
    ap (λ k. (set_args (suc i) vs (set_vec (arg_name i) v S)).vec (arg_name k)) z
    ∙ arg_set (suc i) vs (set_vec (arg_name i) v S) j (omega (arith, l)) (omega (arith, h))

pub numbers_small : (vs : List ℕ) → AreNumbers vs → (i : ℕ) → number_at vs i < 2 ^ 64
numbers_small [] a i = omega arith
numbers_small (v ∷ vs) a zero = a.0
numbers_small (v ∷ vs) a (suc i) = numbers_small vs a.1 i

-- ---- edges

module _ (T : ModuleTable) (z : Room) (vs : List ℕ) (fits : TableFits T z (length vs)) (small : AreNumbers vs) (few : length vs < 2 ^ 64)
    (mem : ℕ → ℕ → Tagged) (g : TableGoes (number_at vs) z T mem) where
  abbrev ps : ℕ → ℕ
  ps = number_at vs

  abbrev t0 : Timed
  t0 = timed_start T mem

  begins : (S : Store) → Stands T z (length vs) ps t0 (port_reset (joined_module T z (length vs)) vs S)
  begins S =
      edge_starts T z (length vs) fits ps (λ i l. numbers_small vs small i) mem (set_args 0 vs (set_vec "rst" 1 S))
      (rst_kept 0 vs (set_vec "rst" 1 S) ∙ refl)
      (λ i l. let e : 0 + i ≡ i = omega arith in
      ap (λ k. (set_args 0 vs (set_vec "rst" 1 S)).vec (arg_name k)) (sym e) ∙ arg_set 0 vs (set_vec "rst" 1 S) i l (omega (arith, few)))

  edges : (k : ℕ) (more : List (List ℕ)) (strays : ℕ → String → ℕ → ℕ) (S : Store) → AtPorts (length vs) more →
      Stands T z (length vs) ps (timed_edges ps z T.rows k t0) S →
      Stands T z (length vs) ps (timed_edges ps z T.rows (k + length more) t0)
      (port_edges (joined_module T z (length vs)) strays more S)
  edges k [] strays S a h =
      let e : k + 0 ≡ k = omega arith in
      subst (λ k. Stands T z (length vs) ps (timed_edges ps z T.rows k t0) S) (sym e) h
  edges k (ws ∷ more) strays S a h =
      let e : k + suc (length more) ≡ suc k + length more = omega arith in
      let t : Timed = timed_edges ps z T.rows k t0 in
      let R : Store = set_args 0 ws (set_vec "rst" 0 (record S { stray = strays 0 })) in
      let r : R.vec "rst" ≡ 0 = rst_kept 0 ws (set_vec "rst" 0 (record S { stray = strays 0 })) ∙ refl in
      let x = edge_goes T z (length vs) fits ps (λ i l. numbers_small vs small i) t R r
      (stands_kept T z (length vs) fits ps t S h (strays 0) ws a.0 0) (timed_along ps z T mem g k).right in
      subst (λ n. Stands T z (length vs) ps (timed_edges ps z T.rows n t0)
      (port_edges (joined_module T z (length vs)) (λ n. strays (suc n)) more (port_edge (joined_module T z (length vs)) ws
      (record S { stray = strays 0 }))))
      (sym e)
      (edges (suc k) more (λ n. strays (suc n)) (port_edge (joined_module T z (length vs)) ws (record S { stray = strays 0 })) a.1
      (subst (λ t. Stands T z (length vs) ps t (port_edge (joined_module T z (length vs)) ws (record S { stray = strays 0 })))
      (sym (edges_last ps z T.rows k t0)) x))

  pub called : (S : Store) (strays : ℕ → String → ℕ → ℕ) (more : List (List ℕ)) → AtPorts (length vs) more →
      Stands T z (length vs) ps (timed_edges ps z T.rows (length more) t0) (after_call T z vs S strays more)
  called S strays more a =
      let e : 0 + length more ≡ length more = omega arith in
      subst (λ n. Stands T z (length vs) ps (timed_edges ps z T.rows n t0) (after_call T z vs S strays more)) e
      (edges 0 more strays (port_reset (joined_module T z (length vs)) vs S) a (begins S))
