use Rattle.std.proofs.Common.{◌≡◌, ◌<◌, ◌≤◌, ◌++◌, ◌+◌, ◌-◌, ℕ, List, ap, ◌∙◌, arith, append_assoc}
use Rattle.std.specs.Prelude.{replicate}
use Rattle.std.proofs.lemmas.List.{replicate-append-replicate}
use Rattle.schedule_log.specs.declared.entry.Entry.{Entry}
use Rattle.schedule_log.specs.KeptRuns.{spread}
use Rattle.schedule_log.proofs.runs.add.Goals as goal

pieces : (n l r : ℕ) → r < l → l ≤ n → (n - l) + (l - r) ≡ n - r
pieces n l r u w = omega (arith, u, w)

-- one piece more
piece_more : (es : List Entry) (e : Entry) (n l r : ℕ) → r < l → l ≤ n →
    (es ++ replicate (n - l) e) ++ replicate (l - r) e ≡ es ++ replicate (n - r) e
piece_more es e n l r u w =
    append_assoc es (replicate (n - l) e) (replicate (l - r) e)
    ∙ ap (λ (fs : List Entry). es ++ fs) (replicate-append-replicate (n - l) (l - r) e
    ∙ ap (λ (m : ℕ). replicate m e) (pieces n l r u w))

pub loop-left-preserved : goal.loop-left-preserved
loop-left-preserved c =
    let e : Entry = record { ticket = c.args.ticket; worker = c.args.worker } in
    record {
      left = omega (arith, c.add_piece-left.ensures.less, c.loop-left.invariant.left);
      moves = c.add_piece-left.ensures.moves
          ∙ ap (λ (es : List Entry). es ++ replicate (c.loop-left.left - c.add_piece-left.result) e) c.loop-left.invariant.moves
          ∙ piece_more (spread c.args.runs.now.items) e c.args.count c.loop-left.left c.add_piece-left.result
          c.add_piece-left.ensures.less c.loop-left.invariant.left;
      capacity = c.add_piece-left.ensures.capacity ∙ c.loop-left.invariant.capacity;
      each = c.add_piece-left.ensures.each;
      apart = c.add_piece-left.ensures.apart;
      small = c.add_piece-left.ensures.small;
    }
