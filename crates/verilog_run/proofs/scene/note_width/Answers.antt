use Rattle.std.proofs.Common.{◌∷◌}
use Rattle.verilog_tree.specs.Meaning.{width_in}
use Rattle.verilog_tree.specs.Names.{text_of}
use Rattle.verilog_tree.specs.Views.{item_of}
use Rattle.verilog_run.specs.Entries.{rows}
use Rattle.verilog_run.specs.Scopes.{told}
use Rattle.verilog_run.proofs.Noting.{noted, not_noted}
use Rattle.verilog_run.proofs.scene.note_width.Goals as goal

pub returns-in_ok-note-in-Some : goal.returns-in_ok-note-in-Some
returns-in_ok-note-in-Some c =
    λ is. noted _ (rows c.args.table.now) (text_of c.in-Some.d.0.now) c.in_ok-n-in-Some.n _ (width_in (told (rows c.args.params.now)) is)
    (width_in (told (rows c.args.params.now)) (item_of c.args.item.now ∷ is)) c.in_ok-note-in-Some.ensures
    c.in_ok-n-in-Some.ensures (c.in-Some.ensures.some (told (rows c.args.params.now)) is)

pub returns-in-None : goal.returns-in-None
returns-in-None c =
    λ is. not_noted (rows c.args.table.now) (width_in (told (rows c.args.params.now)) is)
    (width_in (told (rows c.args.params.now)) (item_of c.args.item.now ∷ is))
    (c.in-None.ensures.none (told (rows c.args.params.now)) is)
