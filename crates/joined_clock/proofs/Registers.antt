-- Each register of the module behind an edge without a start, and each memory, by the part of the clock's block that writes it.
use Rattle.std.proofs.Common.{◌≡◌, ℕ, Bool, true, false, ◌&&◌, List, refl}
use Rattle.std.proofs.lemmas.Bool.{and_from}
use Prim.Native.String.{String}
use Rattle.verilog_tree.specs.Meaning.{Scope, Store, nonzero, fire}
use Rattle.circuit_module.specs.Fixed.{block}
use Rattle.verilog_tree.proofs.Leaves.{spares, fire_spares}
use Rattle.late_unit.specs.Works.{unit_names, After}
use Rattle.joined_module.specs.Fields.{Field}
use Rattle.joined_module.specs.Module.{Widths, field_registers, head_items, zero_stmt_of, fetch_sets}
use Rattle.joined_module.specs.Module.{fetch_stmt, fork_stmt, value_stmt, count_stmt}
use Rattle.joined_clock.specs.Laws.{now_stmt, ended_stmt}
use Rattle.joined_clock.proofs.Fires.{but, block_spares}
use Rattle.joined_clock.proofs.Offs.{Ok, off, every_name, among_names, unit_named}
use Rattle.joined_clock.proofs.Groups.{Fixed, Apart, sig_regs, box_regs, fetch_spared, act_tail, port, store, unit}
use Rattle.joined_clock.proofs.Clock.{E, free, spare, by_part, by_part_apart, by_none, memory_by_part}

module _ (P : Scope) (W : Widths) (fs : List Field) (n : ℕ) (b : Bool) (R : Store) (ok : Ok (head_items W fs n b))
    (low : nonzero (R.vec "rst") ≡ false) where
  abbrev G : Store
  G = E P W fs n b R

  pub top_is : G.vec "top" ≡ (fire P R (now_stmt W) R).vec "top"
  top_is = by_part P W fs n b R low "top" (store W fs n b ok "top" refl) 6 refl

  pub cell_has_is : G.vec "cell_has" ≡ (fire P R (fetch_stmt W fs) R).vec "cell_has"
  cell_has_is = by_part P W fs n b R low "cell_has" (store W fs n b ok "cell_has" refl) 2 refl

  pub depth_is : G.vec "depth" ≡ (fire P R (fork_stmt W) R).vec "depth"
  depth_is = by_part P W fs n b R low "depth" (store W fs n b ok "depth" refl) 3 refl

  pub fork_has_is : G.vec "fork_has" ≡ (fire P R (fork_stmt W) R).vec "fork_has"
  fork_has_is = by_part P W fs n b R low "fork_has" (store W fs n b ok "fork_has" refl) 3 refl

  pub kept_is : G.vec "kept" ≡ (fire P R (fork_stmt W) R).vec "kept"
  kept_is = by_part P W fs n b R low "kept" (store W fs n b ok "kept" refl) 3 refl

  pub fresh_is : G.vec "fresh" ≡ (fire P R (fork_stmt W) R).vec "fresh"
  fresh_is = by_part P W fs n b R low "fresh" (store W fs n b ok "fresh" refl) 3 refl

  pub ended_is : G.vec "ended" ≡ (fire P R (now_stmt W) R).vec "ended"
  ended_is = by_part P W fs n b R low "ended" (store W fs n b ok "ended" refl) 6 refl

  pub changed_is : G.vec "changed" ≡ (fire P R (zero_stmt_of b) R).vec "changed"
  changed_is = by_part P W fs n b R low "changed" (store W fs n b ok "changed" refl) 1 refl

  pub nonzero_is : G.vec "nonzero" ≡ (fire P R (zero_stmt_of b) R).vec "nonzero"
  nonzero_is = by_part P W fs n b R low "nonzero" (store W fs n b ok "nonzero" refl) 1 refl

  pub carried_is : G.vec "carried" ≡ (fire P R count_stmt R).vec "carried"
  carried_is = by_part P W fs n b R low "carried" (store W fs n b ok "carried" refl) 5 refl

  pub done_is : G.vec "done" ≡ (fire P R ended_stmt R).vec "done"
  done_is = by_part P W fs n b R low "done" (port W fs n b ok "done" refl) 7 refl

  pub result_is : G.vec "result" ≡ (fire P R (value_stmt b) R).vec "result"
  result_is = by_part P W fs n b R low "result" (port W fs n b ok "result" refl) 4 refl

  pub full_is : G.vec "full" ≡ (fire P R (now_stmt W) R).vec "full"
  full_is = by_part P W fs n b R low "full" (port W fs n b ok "full" refl) 6 refl

  pub moves_is : G.vec "moves" ≡ (fire P R count_stmt R).vec "moves"
  moves_is = by_part P W fs n b R low "moves" (port W fs n b ok "moves" refl) 5 refl

  -- the unit of numbers
  unit_free : (c : Bool) → every_name (λ x. but (free P W fs n b R x) 0) (unit_names c) ≡ true
  unit_free false = refl
  unit_free true = refl

  pub after : After P b R G
  after x m =
      by_part P W fs n b R low x (unit W fs n b ok x (unit_named b x m)) 0
      (among_names (λ x. but (free P W fs n b R x) 0) (unit_names b) (unit_free b) x m)

  -- sets of fields keep the cell that was read
  pub cell_kept : (S : Store) → (fire P R (block (fetch_sets fs)) S).vec "cell_has" ≡ S.vec "cell_has"
  cell_kept S =
      let h : Fixed W fs n b "cell_has" = store W fs n b ok "cell_has" refl in
      fire_spares P R "cell_has" (block (fetch_sets fs)) (block_spares P R "cell_has" (fetch_sets fs) (fetch_spared P R "cell_has" fs
      h.fields)) S

  -- ---- memories

  pub cells_are : G.mem "cells" ≡ (fire P R (now_stmt W) R).mem "cells"
  cells_are = memory_by_part P W fs n b R low "cells" 6 refl

  pub forks_are : G.mem "forks" ≡ (fire P R (fork_stmt W) R).mem "forks"
  forks_are = memory_by_part P W fs n b R low "forks" 3 refl

  pub answers_are : G.mem "answers" ≡ (fire P R (fork_stmt W) R).mem "answers"
  answers_are = memory_by_part P W fs n b R low "answers" 3 refl

  -- ---- names that the table has

  module _ (x : String) (h : Apart W fs n b x) where
    pub spare_tail : spares x (act_tail W) ≡ true
    spare_tail = spare P W fs n b R x h (act_tail W) refl

    lists_off : off x (sig_regs W fs n b) ≡ true → off x (box_regs W fs n b) ≡ true →
        ((off x (sig_regs W fs n b) && off x (box_regs W fs n b)) && true) ≡ true
    lists_off o q =
        and_from (off x (sig_regs W fs n b) && off x (box_regs W fs n b)) true
        (and_from (off x (sig_regs W fs n b)) (off x (box_regs W fs n b)) o q) refl

    pub field_fetched : off x (sig_regs W fs n b) ≡ true → off x (box_regs W fs n b) ≡ true → G.vec x ≡ (fire P R (fetch_stmt W fs) R).vec x
    field_fetched o q = by_part_apart P W fs n b R low x h 2 (lists_off o q)

    pub list_acted : off x (field_registers fs) ≡ true → G.vec x ≡ (fire P R (now_stmt W) R).vec x
    list_acted o = by_part_apart P W fs n b R low x h 6 (and_from (off x (field_registers fs)) true o refl)

    pub held_kept : off x (field_registers fs) ≡ true → off x (sig_regs W fs n b) ≡ true → off x (box_regs W fs n b) ≡ true →
        G.vec x ≡ R.vec x
    held_kept o p q =
        by_none P W fs n b R low x h
        (and_from (off x (field_registers fs)) ((off x (sig_regs W fs n b) && off x (box_regs W fs n b)) && true) o (lists_off p q))
