-- The jobs and the marks of programs, one program after another.
use Rattle.std.proofs.Common.{◌≡◌, ◌∙◌, List, [], ◌∷◌, ◌++◌, append_assoc, refl, sym, ap}
use Rattle.goi_batches.specs.declared.judged.Judged.{Judged}
use Rattle.goi_batches.specs.declared.judged.Judged.TheVariants.{Runs, Refused}
use Rattle.batch_pool.specs.declared.job.BatchJob.{BatchJob}
use Rattle.goi_batches.specs.Telling.{Mark, jobs_of, marks_of}

first_mark : (j : Judged) (js : List Judged) → marks_of (j ∷ js) ≡ marks_of (j ∷ []) ++ marks_of js
first_mark (Runs job) js = refl
first_mark (Refused line) js = refl

first_job : (j : Judged) (js : List Judged) → jobs_of (j ∷ js) ≡ jobs_of (j ∷ []) ++ jobs_of js
first_job (Runs job) js = refl
first_job (Refused line) js = refl

-- the first of what is left was sorted
pub mark_sorted : (all old new : List Mark) (js rest : List Judged) (j : Judged) → old ++ marks_of js ≡ all → js ≡ j ∷ rest →
    new ≡ old ++ marks_of (j ∷ []) → new ++ marks_of rest ≡ all
mark_sorted all old new js rest j before is put =
    ap (λ (ms : List Mark). ms ++ marks_of rest) put ∙ append_assoc old (marks_of (j ∷ [])) (marks_of rest)
    ∙ ap (λ (ms : List Mark). old ++ ms) (sym (first_mark j rest)) ∙ ap (λ (ks : List Judged). old ++ marks_of ks) (sym is) ∙ before

pub job_sorted : (all old new : List BatchJob) (js rest : List Judged) (j : Judged) → old ++ jobs_of js ≡ all → js ≡ j ∷ rest →
    new ≡ old ++ jobs_of (j ∷ []) → new ++ jobs_of rest ≡ all
job_sorted all old new js rest j before is put =
    ap (λ (ks : List BatchJob). ks ++ jobs_of rest) put ∙ append_assoc old (jobs_of (j ∷ [])) (jobs_of rest)
    ∙ ap (λ (ks : List BatchJob). old ++ ks) (sym (first_job j rest)) ∙ ap (λ (ks : List Judged). old ++ jobs_of ks) (sym is) ∙ before
