use Rattle.std.proofs.Common.{◌≤◌, length, drop, map}
use Rattle.verilog_tree.specs.Meaning.{words_in}
use Rattle.verilog_tree.specs.Views.{item_of}
use Rattle.verilog_run.specs.Entries.{rows}
use Rattle.verilog_run.specs.Scopes.{told, Tells}
use Rattle.verilog_run.proofs.scene.note_all_words.Given as goal

abbrev pub invariant-loop-i : goal.invariant-loop-i
invariant-loop-i l = (l.i ≤ length l.items) × Tells (rows l.table) (words_in (told (rows l.params)) (map item_of (drop l.i l.items)))

abbrev pub decreases-loop-i : goal.decreases-loop-i
decreases-loop-i l = l.i
