use Rattle.std.proofs.Common.{◌++◌, ap, subst, sym}
use Rattle.token_stacks.specs.Printing.{AreParts}
use Rattle.token_stacks.proofs.Pieces.{parts_append, parts_last, parts_front, one_piece, turned, less_work}
use Rattle.token_stacks.proofs.print.push_sig.Goals as goal

pub loop-piece-init : goal.loop-piece-init
loop-piece-init c = record {
  parts = parts_append c.args.todo.now.items _ (subst AreParts (sym c.requires.nothing) tt) (c.requires.body, tt);
  text = λ s e. ap (λ z. c.args.text.now.items ++ z) (one_piece c.args.words c.args.deep s _ c.requires.nothing e);
}

pub push_piece-requires : goal.push_piece-requires
push_piece-requires c = parts_last _ _ (subst AreParts c.in-Some.ensures c.loop-piece.invariant.parts)

pub loop-piece-smaller : goal.loop-piece-smaller
loop-piece-smaller c = less_work _ _ _ _ _ _ c.in-Some.ensures c.in_ok-hand.ensures

pub loop-piece-preserved : goal.loop-piece-preserved
loop-piece-preserved c = record {
  parts = c.in_ok-hand.ensures.parts (parts_front _ _ (subst AreParts c.in-Some.ensures c.loop-piece.invariant.parts));
  text = λ s e. turned _ _ _ _ _ _ _ c.in-Some.ensures (c.loop-piece.invariant.text s e) c.in_ok-hand.ensures;
}
