-- Reports with their texts: each kind, with and without what may be asked for.
use Rattle.std.specs.Prelude.{◌≡◌, ℕ, true, false, List, [], ◌∷◌, Some, None, codes}
use Rattle.pcf_values.specs.declared.val.Val.TheVariants.{Number, Overflow}
use Rattle.pcf_values.specs.Terms.{nat, arrow}
use Rattle.pcf_values.specs.Named.{number_at}
use Rattle.schedule_log.specs.declared.entry.Entry.{Entry}
use Rattle.goi_reports.specs.Reports.{run_report, replay_report, demo_report, check_report}

abbrev move : ℕ → ℕ → Entry
move ticket worker = record { ticket = ticket; worker = worker }

-- the run of `1 + 2` by one worker: three moves of either ticket
abbrev pub one_worker : List Entry
one_worker = move 0 0 ∷ move 0 0 ∷ move 0 0 ∷ move 1 0 ∷ move 1 0 ∷ move 1 0 ∷ []

-- the same by two workers, whose last two moves the finisher booked
abbrev pub two_workers : List Entry
two_workers = move 0 0 ∷ move 1 1 ∷ move 0 0 ∷ move 1 1 ∷ move 0 2 ∷ move 1 2 ∷ []

pub record Rows : Type 0 where
  pub plain : run_report (Some (Number 3)) one_worker 1 false false ≡ codes "value 3\nmoves 6\n"
  pub scheduled : run_report (Some (Number 3)) one_worker 1 true false ≡ codes "value 3\nmoves 6\nschedule 2\n0 3\n1 3\nend\n"
  pub tallied : run_report (Some (Number 3)) one_worker 1 false true ≡ codes "value 3\nmoves 6\nworker 0 6\nfinisher 0\n"
  pub both : run_report (Some (Number 3)) one_worker 1 true true
      ≡ codes "value 3\nmoves 6\nschedule 2\n0 3\n1 3\nend\nworker 0 6\nfinisher 0\n"
  pub two : run_report (Some (Number 3)) two_workers 2 false true
      ≡ codes "value 3\nmoves 6\nworker 0 2\nworker 1 2\nfinisher 2\n"
  pub idle : run_report None two_workers 3 false true
      ≡ codes "no value\nmoves 6\nworker 0 2\nworker 1 2\nworker 2 2\nfinisher 0\n"
  pub none : run_report None [] 1 true true ≡ codes "no value\nmoves 0\nschedule 2\nend\nworker 0 0\nfinisher 0\n"
  pub over : run_report (Some Overflow) one_worker 1 false false ≡ codes "value overflow\nmoves 6\n"
  pub replayed : replay_report (Some (Number 3)) 6 ≡ codes "value 3\nmoves 6\n"
  pub replayed_part : replay_report None 1 ≡ codes "no value\nmoves 1\n"
  pub generated : demo_report 0 9 (Some (Number 2)) 4 ≡ codes "demo 0\nnodes 9\nvalue 2\nmoves 4\n"
  pub typed : check_report (arrow nat nat) false (number_at 0 7) ≡ codes "type nat -> nat\n"
  pub typed_term : check_report nat true (number_at 0 7) ≡ codes "type nat\nterm 7\n"
