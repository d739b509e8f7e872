-- An edge with `rst` at 1 is the start.
use Rattle.std.proofs.Common.{sym, subst}
use Rattle.std.proofs.lemmas.Bool.{ltb-true}
use Rattle.verilog_tree.specs.Meaning.{settled}
use Rattle.joined_edges.specs.Timed.{timed_start}
use Rattle.joined_edges.specs.Stands.{Stands}
use Rattle.joined_edges.proofs.Finding.{ok_of}
use Rattle.joined_edges.proofs.Reset.{reset_stands}
use Rattle.joined_steps.specs.Laws.{EdgeStarts}
use Rattle.joined_steps.proofs.Module.{is, P, settles, declares, edge_is}
use Rattle.joined_steps.proofs.Wait.{start_low}

pub edge_starts : EdgeStarts
edge_starts T z n fits ps small mem S high args =
    subst (Stands T z n ps (timed_start T mem)) (sym (edge_is T z n S))
    (reset_stands T z n S (settled (P T z n) (is T z n) S) (declares T z n fits.well) (settles T z n fits.well S) (ok_of (is T z n)
    fits.well)
    high ps args small fits.keyed fits.starts (ltb-true T.start _ (start_low T z n fits.fits)) mem)
