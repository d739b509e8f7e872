-- A list of tickets as runs of one ticket.
use Rattle.std.specs.Prelude.{ℕ, List, [], ◌∷◌, ◌++◌, replicate}
use Rattle.interleave_core.specs.declared.tickets.Run.{Run}

-- the tickets of runs, one for each move
abbrev pub spelled : List Run → List ℕ
spelled [] = []
spelled (r ∷ rs) = replicate r.count r.ticket ++ spelled rs
