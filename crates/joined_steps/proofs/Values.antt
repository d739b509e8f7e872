-- What is known of every edge without a start: its value, its count of moves, and what is held.
use Rattle.std.proofs.Common.{◌≡◌, ◌<◌, ℕ, true, ◌&&◌}
use Rattle.std.proofs.Common.{refl, ◌∙◌, arith}
use Rattle.verilog_tree.specs.Tree.{one, reg}
use Rattle.verilog_tree.specs.Meaning.{Scope, Store, flag, nonzero}
use Rattle.verilog_tree.specs.WellFormed.{WellFormed}
use Rattle.late_unit.specs.Works.{UnitRests}
use Rattle.joined_core.specs.Circuit.{Room}
use Rattle.joined_module.specs.Names.{held_name}
use Rattle.joined_module.specs.Module.{ModuleTable, joined_module}
use Rattle.joined_clock.proofs.Registers.{after, result_is, nonzero_is, changed_is}
use Rattle.joined_clock.proofs.Fetched.{held_is}
use Rattle.joined_edges.proofs.Units.{unit_rests}
use Rattle.joined_edges.proofs.Worth.{ValueEdge}
use Rattle.joined_steps.proofs.Module.{P, W, fs, b, settles, declares, ok}
use Rattle.joined_steps.proofs.Says.{starts_wire}
use Rattle.joined_edges.proofs.Reset.{upto_at}
use Rattle.joined_steps.proofs.Edge.{Q, G, rst_is, low, store_wide}

module _ (T : ModuleTable) (z : Room) (n : ℕ) (right : WellFormed (joined_module T z n) ≡ true) (S : Store) (start : S.vec "rst" ≡ 0) where
  abbrev Q' : Store
  Q' = Q T z n right S start

  abbrev G' : Store
  G' = G T z n right S start

  abbrev P' : Scope
  P' = P T z n

  pub unit : UnitRests P' (b T z n) Q'
  unit = unit_rests T z n (declares T z n right) S Q' (settles T z n right S)

  pub value_edge : ValueEdge P' (b T z n) Q' G'
  value_edge = record {
    unit = unit;
    after = after P' (W T z n) (fs T z n) n (b T z n) Q' (ok T z n right) (low T z n right S start);
    rst = rst_is T z n right S start;
    nonzero_wide = store_wide T z n right S start 19 (reg one "nonzero") refl "nonzero" refl;
    changed_wide = store_wide T z n right S start 18 (reg one "changed") refl "changed" refl;
    result = result_is P' (W T z n) (fs T z n) n (b T z n) Q' (ok T z n right) (low T z n right S start);
    nonzero = nonzero_is P' (W T z n) (fs T z n) n (b T z n) Q' (ok T z n right) (low T z n right S start);
    changed = changed_is P' (W T z n) (fs T z n) n (b T z n) Q' (ok T z n right) (low T z n right S start);
  }

  pub held_old : (ps : ℕ → ℕ) → ((i : ℕ) → i < n → Q'.vec (held_name i) ≡ ps i) → (i : ℕ) → i < n → G'.vec (held_name i) ≡ ps i
  held_old ps h i l =
      upto_at (λ k. G'.vec (held_name k) ≡ Q'.vec (held_name k)) 0 n i
      (held_is P' (W T z n) (fs T z n) n (b T z n) Q' (ok T z n right) (low T z n right S start)) (omega arith) (omega arith) ∙ h i l

  pub no_start : Q'.vec "acts" ≡ 0 → Q'.vec "starts" ≡ 0
  no_start a = starts_wire T z n right S ∙ (λ i. flag (nonzero (a i) && nonzero (Q'.vec "computes")))
