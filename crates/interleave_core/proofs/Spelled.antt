-- Runs that are spelled, with one more behind them.
use Rattle.std.proofs.Common.{◌≡◌, List, [], ◌∷◌, ◌++◌, sym, ap, ◌∙◌, append-nil, append_assoc}
use Rattle.std.specs.Prelude.{replicate}
use Rattle.interleave_core.specs.declared.tickets.Run.{Run}
use Rattle.interleave_core.specs.Tickets.{spelled}

pub spelled_more : (rs : List Run) (r : Run) → spelled (rs ++ r ∷ []) ≡ spelled rs ++ replicate r.count r.ticket
spelled_more [] r = append-nil (replicate r.count r.ticket)
spelled_more (q ∷ rs) r =
    ap (λ l. replicate q.count q.ticket ++ l) (spelled_more rs r)
    ∙ sym (append_assoc (replicate q.count q.ticket) (spelled rs) (replicate r.count r.ticket))
