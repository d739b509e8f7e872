use Rattle.token_stacks.proofs.Stacking.{sig_on_top}
use Rattle.token_stacks.proofs.print.top_symbol.Goals as goal

pub returns : goal.returns
returns c x m e =
    let t = sig_on_top x m c.args.words.now e c.if-last-eq-SYMBOL_R.false c.if-last-eq-SYMBOL_L.false in ((t.sig, t.is, t.body), t.rest)
