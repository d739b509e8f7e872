-- An edge without a start: what is kept where no row is made, and what is told of the end.
use Rattle.std.proofs.Common.{◌≡◌, ℕ, Bool, true, false, not, ◌&&◌, ◌||◌, Some, refl, ap}
use Rattle.std.proofs.Common.{◌∙◌}
use Rattle.std.proofs.Common.{nat_eq}
use Prim.Native.String.{String}
use Rattle.verilog_tree.specs.Tree.{Item, one, output, name, num, logic, none, both}
use Rattle.verilog_tree.specs.Meaning.{Scope, Store, chosen, flag, fit, nonzero, holds, fire}
use Rattle.verilog_tree.specs.WellFormed.{WellFormed}
use Rattle.verilog_tree.proofs.Lists.{stands_at}
use Rattle.joined_core.specs.Circuit.{Room}
use Rattle.joined_module.specs.Module.{ModuleTable, joined_ports, store_registers, act_stmt, joined_module}
use Rattle.joined_clock.specs.Laws.{now_stmt}
use Rattle.joined_clock.proofs.Clock.{E}
use Rattle.joined_clock.proofs.Registers.{top_is, ended_is, full_is, done_is, cells_are}
use Rattle.joined_clock.proofs.Fetched.{fetches}
use Rattle.joined_edges.proofs.Items.{in_ports, in_store}
use Rattle.joined_steps.proofs.Module.{P, rows, W, fs, b, settles, declares, ok}
use Rattle.joined_edges.proofs.Flags.{by_flag}
use Rattle.joined_steps.proofs.Says.{R}

-- what is told of the one that is chosen
pub chosen_at : {A : Type 0} (f : A → ℕ) (c : Bool) (x y : A) → f (chosen c x y) ≡ chosen c (f x) (f y)
chosen_at f true x y = refl
chosen_at f false x y = refl

module _ (T : ModuleTable) (z : Room) (n : ℕ) (right : WellFormed (joined_module T z n) ≡ true) (S : Store) (start : S.vec "rst" ≡ 0) where
  abbrev pub Q : Store
  Q = R T z n right S

  abbrev pub PP : Scope
  PP = P T z n

  abbrev pub G : Store
  G = E PP (W T z n) (fs T z n) n (b T z n) Q

  pub rst_is : Q.vec "rst" ≡ 0
  rst_is =
      (settles T z n right S).inputs one "rst" (in_ports (rows T z n) z T.start n (b T z n) _ (stands_at joined_ports 1 _ refl)) ∙ start

  pub low : nonzero (Q.vec "rst") ≡ false
  low = ap nonzero rst_is

  -- a port's width, and one of the store
  pub port_wide : (k : ℕ) (i : Item) → Rattle.verilog_tree.proofs.Lists.item_at joined_ports k ≡ Some i → (x : String) →
      Rattle.verilog_tree.specs.Items.item_name i ≡ Some x → PP.width x ≡ Rattle.verilog_tree.specs.Items.item_wide PP.param i
  port_wide k i e x g = (declares T z n right).width i (in_ports (rows T z n) z T.start n (b T z n) i (stands_at joined_ports k i e)) x g

  pub store_wide : (k : ℕ) (i : Item) → Rattle.verilog_tree.proofs.Lists.item_at (store_registers (W T z n)) k ≡ Some i → (x : String) →
      Rattle.verilog_tree.specs.Items.item_name i ≡ Some x → PP.width x ≡ Rattle.verilog_tree.specs.Items.item_wide PP.param i
  store_wide k i e x g = (declares T z n right).width i
      (in_store (rows T z n) z T.start n (b T z n) i (stands_at (store_registers (W T z n)) k i e)) x g

  -- ---- where no row is made

  module _ (rests : Q.vec "acts" ≡ 0) where
    no_act : (fire PP Q (now_stmt (W T z n)) Q) ≡ Q
    no_act = ap (λ m. chosen (nonzero m) (fire PP Q (act_stmt (W T z n)) Q) Q) rests

    pub top_old : G.vec "top" ≡ Q.vec "top"
    top_old = top_is PP (W T z n) (fs T z n) n (b T z n) Q (ok T z n right) low ∙ ap (λ (X : Store). X.vec "top") no_act

    pub ended_old : G.vec "ended" ≡ Q.vec "ended"
    ended_old = ended_is PP (W T z n) (fs T z n) n (b T z n) Q (ok T z n right) low ∙ ap (λ (X : Store). X.vec "ended") no_act

    pub full_old : G.vec "full" ≡ Q.vec "full"
    full_old = full_is PP (W T z n) (fs T z n) n (b T z n) Q (ok T z n right) low ∙ ap (λ (X : Store). X.vec "full") no_act

    pub cells_old : G.mem "cells" ≡ Q.mem "cells"
    cells_old = cells_are PP (W T z n) (fs T z n) n (b T z n) Q (ok T z n right) low ∙ ap (λ (X : Store). X.mem "cells") no_act

  -- ---- the end

  done_bit : (e y d : Bool) → chosen (nonzero (flag (e && nonzero (flag (nat_eq (flag y) 0))))) (fit 1 1) (flag d) ≡ flag (d || (e && not
      y))
  done_bit true true true = refl
  done_bit true true false = refl
  done_bit true false true = refl
  done_bit true false false = refl
  done_bit false true true = refl
  done_bit false true false = refl
  done_bit false false true = refl
  done_bit false false false = refl

  pub done_now : (e y d : Bool) → Q.vec "ended" ≡ flag e → Q.vec "busy" ≡ flag y → Q.vec "done" ≡ flag d →
      G.vec "done" ≡ flag (d || (e && not y))
  done_now e y d he hy hd =
      let w : PP.width "done" ≡ 1 = port_wide 2 (output one "done") refl "done" refl in
      done_is PP (W T z n) (fs T z n) n (b T z n) Q (ok T z n right) low
      ∙ chosen_at (λ (X : Store). X.vec "done") (holds PP Q (logic both (name "ended") (none (name "busy"))))
      (fire PP Q (Rattle.circuit_module.specs.Fixed.set "done" (num 1)) Q) Q
      ∙ (λ i. chosen (nonzero (flag (by_flag (Q.vec "ended") e he i && nonzero (flag (nat_eq (hy i) 0))))) (fit (w i) 1) (hd i))
      ∙ done_bit e y d

  -- where it hasn't ended, nothing is told
  pub done_old : Q.vec "ended" ≡ 0 → G.vec "done" ≡ Q.vec "done"
  done_old he =
      done_is PP (W T z n) (fs T z n) n (b T z n) Q (ok T z n right) low
      ∙ chosen_at (λ (X : Store). X.vec "done") (holds PP Q (logic both (name "ended") (none (name "busy"))))
      (fire PP Q (Rattle.circuit_module.specs.Fixed.set "done" (num 1)) Q) Q
      ∙ (λ i. chosen (nonzero (flag (nonzero (he i) && nonzero (flag (nat_eq (Q.vec "busy") 0))))) (fit (PP.width "done") 1) (Q.vec "done"))

  -- ---- whether a row is fetched

  pub fetches_is : (c : Bool) → Q.vec "rests" ≡ flag c → fetches PP (W T z n) (fs T z n) Q ≡ not c
  fetches_is c h =
      (λ i. nonzero (flag (low i || nonzero (flag (nat_eq (h i) 0))))) ∙ go c
    where
      go : (c : Bool) → nonzero (flag (false || nonzero (flag (nat_eq (flag c) 0)))) ≡ not c
      go true = refl
      go false = refl
