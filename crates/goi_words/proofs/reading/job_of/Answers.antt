use Rattle.std.proofs.Common.{◌≡◌, ◌∙◌, ap, map, string_bytes, Some, None, Err}
use Rattle.std.proofs.lemmas.Result.{IfOk-weaker}
use Rattle.clap.specs.Words.{found_of, rows_of}
use Rattle.goi_words.specs.Asked.{job, job_on}
use Rattle.goi_jobs.specs.Jobs.{job_of}
use Rattle.goi_words.proofs.Entering.{entered_job, name_and_rows, no_rows, not_taken, passed_up}
use Rattle.goi_words.proofs.TakenJobs.{why_refused, within_limits}
use Rattle.goi_words.proofs.reading.job_of.Goals as goal

pub returns-in_err-matches-clause-none : goal.returns-in_err-matches-clause-none
returns-in_err-matches-clause-none c refused =
    not_taken (map string_bytes c.args.words.now)
    (c.in_err-matches.ensures.refused (ap Err (passed_up _ _ _ c.from_residual.ensures.1 refused)))

pub returns-in_err-matches-clause-refused : goal.returns-in_err-matches-clause-refused
returns-in_err-matches-clause-refused c refused =
    let words = map string_bytes c.args.words.now in
    why_refused words (not_taken words (c.in_err-matches.ensures.refused (ap Err (passed_up _ _ _ c.from_residual.ensures.1 refused))))

pub returns-in-Some : goal.returns-in-Some
returns-in-Some c =
    let words = map string_bytes c.args.words.now in
    let entered : job words ≡ job_on c.in-Some.name.now (rows_of (found_of c.in-Some.found.now)) =
    entered_job words (Some (c.in-Some.name.now, rows_of (found_of c.in-Some.found.now))) c.in_ok-matches.ensures.taken
    (name_and_rows _ _ _ c.in-Some.ensures.name c.in-Some.ensures.rows ∙ c.in_ok-matches.ensures.found) in
    record {
      ok = IfOk-weaker c.job_on.result _ _ (λ done is. entered ∙ is) c.job_on.ensures.ok;
      within = IfOk-weaker c.job_on.result _ _ (λ done is. within_limits words (job_of done) (entered ∙ is)) c.job_on.ensures.ok;
      none = λ refused. entered ∙ c.job_on.ensures.refused refused;
      refused = λ refused. why_refused words (entered ∙ c.job_on.ensures.refused refused);
    }

pub returns-clause-none : goal.returns-clause-none
returns-clause-none c refused =
    entered_job (map string_bytes c.args.words.now) None c.in_ok-matches.ensures.taken
    (no_rows _ c.in-None.ensures.variant ∙ c.in_ok-matches.ensures.found)

pub returns-clause-refused : goal.returns-clause-refused
returns-clause-refused c refused =
    let words = map string_bytes c.args.words.now in
    why_refused words
    (entered_job words None c.in_ok-matches.ensures.taken (no_rows _ c.in-None.ensures.variant ∙ c.in_ok-matches.ensures.found))
