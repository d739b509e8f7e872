-- `run` and `steps` of one text come to one value.
use Rattle.std.proofs.Common.{◌≡◌, ◌∙◌, ◌++◌, ℕ, Option, Some, None, List, length, sym, ap, refl, subst, append_assoc, codes}
use Rattle.std.specs.Prelude.{decimal}
use Rattle.pcf_values.specs.declared.val.Val.{Val}
use Rattle.pcf_values.specs.declared.val.Val.TheVariants.{Number, Overflow}
use Rattle.pcf_values.specs.Terms.{TermTree}
use Rattle.cbn_meaning.specs.Meaning.{Means}
use Rattle.cbn_meaning.specs.Laws.{OneValue}
use Rattle.net_build.specs.Nets.{NetTree}
use Rattle.step_text.specs.Courses.{Course, course_value, course_text, end_text, value_text}
use Rattle.program_runs.specs.declared.calling.Calling.TheVariants.{ByName}
use Rattle.program_runs.specs.Laws.{OneProgram}
use Rattle.program_runs.specs.Programs.{number}
use Rattle.program_runs.specs.Runs.{net_run, Tells}
use Rattle.goi_reports.specs.Lines.{value_line, moves_line, result_lines}
use Rattle.goi_reports.specs.Reports.{asked_lines}
use Rattle.goi_tasks.specs.Agreement.{TellsFirst, RunAndStepsAgree}
use Rattle.goi_tasks.specs.Outputs.{Output}
use Rattle.goi_tasks.specs.Reductions.{most_step_nodes, reduction}
use Rattle.goi_tasks.specs.Replaying.{replay_status}

-- status 0 has a value
has_value : (answer : Option Val) (status : ℕ) → status ≡ replay_status answer → status ≡ 0 → (v : Val) × (answer ≡ Some v)
has_value (Some v) status e z = (v, refl)
has_value None status e z = let x : 5 ≡ 0 = sym e ∙ z in cc

-- what a run with a value tells of the program
told : (means : Val → Type 0) (net : NetTree) (budget moves : ℕ) (answer : Option Val) (v : Val) → answer ≡ Some v →
    Tells means net budget answer moves → means v
told means net budget moves answer v e h = (subst (λ o. Tells means net budget o moves) e h).0

-- the report of a run with a value begins with the value's line
first_line : (answer : Option Val) (v : Val) (moves : ℕ) (rest : List ℕ) → answer ≡ Some v →
    TellsFirst v (result_lines answer moves ++ rest)
first_line answer v moves rest e =
    subst (λ (o : Option Val). TellsFirst v (result_lines o moves ++ rest)) (sym e)
    (moves_line moves ++ rest, append_assoc (value_line (Some v)) (moves_line moves) rest)

-- both commands have one line for a value
one_line : (v : Val) → value_text (Some v) ≡ value_line (Some v)
one_line (Number n) = refl
one_line Overflow = refl

-- the text of a reduction behind its first line
abbrev behind_value : Course → Option Val → List ℕ
behind_value c o = codes "steps " ++ (decimal c.steps ++ (codes "\n" ++ (c.lines ++ end_text most_step_nodes c o)))

-- the text of a reduction to a value begins with the value's line
begins : (c : Course) (v : Val) → course_value c ≡ Some v → TellsFirst v (course_text most_step_nodes c)
begins c v e =
    subst (λ (o : Option Val). TellsFirst v (value_text o ++ behind_value c o)) (sym e)
    (behind_value c (Some v), ap (λ (line : List ℕ). line ++ behind_value c (Some v)) (one_line v))

-- Both are of one program; the run's answer is what it means, and so is what the steps tell; and it has one value. The reports are their
-- definitions, which begin with the line of the value.
pub run_and_steps_agree : OneProgram → OneValue → RunAndStepsAgree
run_and_steps_agree one_program one_value bytes workers budget shown o others most window p h k z y =
    let same : h.term ≡ k.term = one_program.one_term number number bytes h.tree k.tree h.term k.term h.type k.type h.is k.is in
    let course = reduction most window k.tree in
    let (v, left) = has_value h.so.answer o.status h.so.ends z in
    let (w, right) = has_value (course_value course) p.status (ap (λ (x : Output). x.status) k.so.output_is) y in
    let meant : Means h.term v = told (Means h.term) (net_run ByName h.term) budget (length h.so.log) h.so.answer v left h.so.run.tells in
    let one : w ≡ v = one_value k.term w v (k.so.meant w right) (subst (λ (t : TermTree). Means t v) same meant) in
    let run_first : TellsFirst v o.report =
    subst (TellsFirst v) (sym h.so.report_is)
    (first_line h.so.answer v (length h.so.log) (asked_lines h.so.log workers shown.schedule shown.tally) left) in
    let steps_first : TellsFirst w p.report =
    subst (TellsFirst w) (sym (ap (λ (x : Output). x.report) k.so.output_is)) (begins course w right) in
    (v, run_first, subst (λ (x : Val). TellsFirst x p.report) one steps_first)
