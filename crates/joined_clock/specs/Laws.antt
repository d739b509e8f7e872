-- Behind an edge without a start each register holds what one part of the clock's block writes, as if that part stood alone: the statement
-- of `law_clock_parts`.
use Rattle.std.specs.Prelude.{◌≡◌, ℕ, Bool, true, false, List, []}
use Rattle.verilog_tree.specs.Tree.{both, Stmt, num, name, logic, none, branch, skip}
use Rattle.verilog_tree.specs.Meaning.{Scope, Store, nonzero, fire}
use Rattle.verilog_tree.specs.WellFormed.{items_ok}
use Rattle.circuit_module.specs.Fixed.{set}
use Rattle.late_unit.specs.Works.{After}
use Rattle.joined_module.specs.Fields.{Field}
use Rattle.joined_module.specs.Module.{Widths, head_items, zero_stmt_of, fetch_stmt, fork_stmt, value_stmt, count_stmt, act_stmt}
use Rattle.joined_module.specs.Module.{joined_clock_stmt}

-- the part of a row that is made now, and that of a run that has ended
abbrev pub now_stmt : Widths → Stmt
now_stmt W = branch (name "acts") (act_stmt W) skip

abbrev pub ended_stmt : Stmt
ended_stmt = branch (logic both (name "ended") (none (name "busy"))) (set "done" (num 1)) skip

-- the registers and memories that each module has
pub record ClockParts (P : Scope) (W : Widths) (fs : List Field) (b : Bool) (R E : Store) : Type 0 where
  pub unit : After P b R E
  pub nonzero : E.vec "nonzero" ≡ (fire P R (zero_stmt_of b) R).vec "nonzero"
  pub changed : E.vec "changed" ≡ (fire P R (zero_stmt_of b) R).vec "changed"
  pub cell_has : E.vec "cell_has" ≡ (fire P R (fetch_stmt W fs) R).vec "cell_has"
  pub depth : E.vec "depth" ≡ (fire P R (fork_stmt W) R).vec "depth"
  pub fork_has : E.vec "fork_has" ≡ (fire P R (fork_stmt W) R).vec "fork_has"
  pub kept : E.vec "kept" ≡ (fire P R (fork_stmt W) R).vec "kept"
  pub fresh : E.vec "fresh" ≡ (fire P R (fork_stmt W) R).vec "fresh"
  pub forks : E.mem "forks" ≡ (fire P R (fork_stmt W) R).mem "forks"
  pub answers : E.mem "answers" ≡ (fire P R (fork_stmt W) R).mem "answers"
  pub result : E.vec "result" ≡ (fire P R (value_stmt b) R).vec "result"
  pub moves : E.vec "moves" ≡ (fire P R count_stmt R).vec "moves"
  pub carried : E.vec "carried" ≡ (fire P R count_stmt R).vec "carried"
  pub top : E.vec "top" ≡ (fire P R (now_stmt W) R).vec "top"
  pub ended : E.vec "ended" ≡ (fire P R (now_stmt W) R).vec "ended"
  pub full : E.vec "full" ≡ (fire P R (now_stmt W) R).vec "full"
  pub cells : E.mem "cells" ≡ (fire P R (now_stmt W) R).mem "cells"
  pub done : E.vec "done" ≡ (fire P R ended_stmt R).vec "done"

-- where what is declared in front is in order
abbrev pub ClockByParts : Type 0
ClockByParts = (P : Scope) (W : Widths) (fs : List Field) (n : ℕ) (b : Bool) → items_ok [] [] (head_items W fs n b) ≡ true → (R : Store) →
    nonzero (R.vec "rst") ≡ false → ClockParts P W fs b R (fire P R (joined_clock_stmt W fs n b) R)
