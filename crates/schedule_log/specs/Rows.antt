-- Texts with what they are read as.
use Rattle.std.specs.Prelude.{◌≡◌, ℕ, List, [], ◌∷◌, take, Result, Ok, Err, codes}
use Rattle.schedule_log.specs.declared.fault.ScheduleFault.{ScheduleFault}
use Rattle.schedule_log.specs.declared.fault.ScheduleFault.TheVariants.{BadHeader, BadLine, TicketTooWide, NoEnd, TooLong}
use Rattle.schedule_log.specs.Reading.{tickets_in}
use Rattle.schedule_log.specs.Runs.{schedule_text}

-- the text is read as these tickets, or has this fault
abbrev pub Gives : List ℕ → Result (List ℕ) ScheduleFault → Type 0
Gives bytes r = tickets_in bytes ≡ r

-- thirty moves, fifteen of either ticket
abbrev pub thirty : List ℕ
thirty = codes "schedule 1\n0\n0\n0\n0\n0\n0\n0\n0\n0\n0\n0\n0\n0\n0\n0\n1\n1\n1\n1\n1\n1\n1\n1\n1\n1\n1\n1\n1\n1\n1\nend\n"

-- texts of version 1
pub record RowsOfVersionOne : Type 0 where
  pub two : Gives (codes "schedule 1\n0\n1\nend\n") (Ok (0 ∷ 1 ∷ []))
  pub none : Gives (codes "schedule 1\nend\n") (Ok [])
  pub cut_10 : Gives (take 10 thirty) (Err BadHeader)
  pub cut_11 : Gives (take 11 thirty) (Err NoEnd)
  pub cut_12 : Gives (take 12 thirty) (Err (BadLine 2))
  pub cut_70 : Gives (take 70 thirty) (Err (BadLine 31))
  pub cut_71 : Gives (take 71 thirty) (Err NoEnd)
  pub cut_72 : Gives (take 72 thirty) (Err (BadLine 32))
  pub cut_74 : Gives (take 74 thirty) (Err (BadLine 32))
  pub whole : Gives (take 75 thirty) (Ok
      (0 ∷ 0 ∷ 0 ∷ 0 ∷ 0 ∷ 0 ∷ 0 ∷ 0 ∷ 0 ∷ 0 ∷ 0 ∷ 0 ∷ 0 ∷ 0 ∷ 0 ∷ 1 ∷ 1 ∷ 1 ∷ 1 ∷ 1 ∷ 1 ∷ 1 ∷
      1 ∷ 1 ∷
      1 ∷ 1 ∷ 1 ∷ 1 ∷ 1 ∷ 1 ∷ []))
  pub widest : Gives (codes "schedule 1\n4294967295\nend\n") (Ok (4294967295 ∷ []))
  pub no_text : Gives [] (Err BadHeader)
  pub third_version : Gives (codes "schedule 3\nend\n") (Err BadHeader)
  pub header_without_feed : Gives (codes "schedule 1") (Err BadHeader)
  pub header_alone : Gives (codes "schedule 1\n") (Err NoEnd)
  pub no_end : Gives (codes "schedule 1\n0\n1\n") (Err NoEnd)
  pub end_without_feed : Gives (codes "schedule 1\n0\nend") (Err (BadLine 3))
  pub leading_zero : Gives (codes "schedule 1\n00\nend\n") (Err (BadLine 2))
  pub empty_line : Gives (codes "schedule 1\n\nend\n") (Err (BadLine 2))
  pub signed : Gives (codes "schedule 1\n+1\nend\n") (Err (BadLine 2))
  pub count : Gives (codes "schedule 1\n0 3\nend\n") (Err (BadLine 2))
  pub behind : Gives (codes "schedule 1\n0\nend\n0\n") (Err (BadLine 4))
  pub behind_none : Gives (codes "schedule 1\nend\n0\n") (Err (BadLine 3))
  pub wide : Gives (codes "schedule 1\n4294967296\nend\n") (Err (TicketTooWide 2))
  pub wider : Gives (codes "schedule 1\n99999999999999999999999999\nend\n") (Err (TicketTooWide 2))

-- texts of version 2, and what is printed
pub record RowsOfVersionTwo : Type 0 where
  pub two : Gives (codes "schedule 2\n0 3\n1 3\nend\n") (Ok (0 ∷ 0 ∷ 0 ∷ 1 ∷ 1 ∷ 1 ∷ []))
  pub three : Gives (codes "schedule 2\n0 1\n1 2\n0 3\nend\n") (Ok (0 ∷ 1 ∷ 1 ∷ 0 ∷ 0 ∷ 0 ∷ []))
  pub same_ticket : Gives (codes "schedule 2\n0 1\n0 2\nend\n") (Err (BadLine 3))
  pub no_move : Gives (codes "schedule 2\n0 0\nend\n") (Err (BadLine 2))
  pub no_count : Gives (codes "schedule 2\n0\nend\n") (Err (BadLine 2))
  pub two_spaces : Gives (codes "schedule 2\n0  1\nend\n") (Err (BadLine 2))
  pub wide : Gives (codes "schedule 2\n4294967296 1\nend\n") (Err (TicketTooWide 2))
  pub much : Gives (codes "schedule 2\n0 10000001\nend\n") (Err (TooLong 2))
  pub one_more : Gives (codes "schedule 2\n0 10000000\n1 1\nend\n") (Err (TooLong 3))
  pub wide_and_much : Gives (codes "schedule 2\n4294967296 10000001\nend\n") (Err (TicketTooWide 2))
  pub very_much : Gives (codes "schedule 2\n0 99999999999999999999999999\nend\n") (Err (TooLong 2))
  pub behind : Gives (codes "schedule 2\n0 1\nend\n\n") (Err (BadLine 4))
  pub printed : schedule_text (0 ∷ 0 ∷ 0 ∷ 1 ∷ 1 ∷ 1 ∷ []) ≡ codes "schedule 2\n0 3\n1 3\nend\n"
  pub printed_empty : schedule_text [] ≡ codes "schedule 2\nend\n"
