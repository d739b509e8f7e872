use Rattle.std.proofs.Common.{sym}
use Rattle.token_stacks.proofs.Stacking.{boxed, takes_signature}
use Rattle.std.proofs.Common.{subst}
use Rattle.token_stacks.specs.Printing.{IsTop}
use Rattle.token_stacks.proofs.print.top.Goals as goal

pub top_signature-requires : goal.top_signature-requires
top_signature-requires c =
    let b = boxed c.args.form c.requires.0 c.requires.1 c.args.words.now c.in-Signatures.is c.requires.2 in
    (b.sig, b.boxes, b.words)

pub returns-in-Signatures-clause-top : goal.returns-in-Signatures-clause-top
returns-in-Signatures-clause-top c x m e =
    let b = boxed c.args.form x m c.args.words.now c.in-Signatures.is e in
    subst (IsTop c.top_signature.result.0) (sym b.top) (c.top_signature.ensures b.sig b.boxes b.words).0

pub returns-in-Signatures-clause-rest : goal.returns-in-Signatures-clause-rest
returns-in-Signatures-clause-rest c x m e =
    let b = boxed c.args.form x m c.args.words.now c.in-Signatures.is e in
    takes_signature c.args.form x m c.args.words.now _ c.in-Signatures.is b (c.top_signature.ensures b.sig b.boxes b.words).1
