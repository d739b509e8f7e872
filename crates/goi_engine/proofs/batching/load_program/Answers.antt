use Rattle.std.proofs.Common.{◌≡◌, ◌+◌, ℕ, List, Option, take, IfOk, IfSome, IsTrue, sym, subst}
use Rattle.pcf_values.specs.Most.{most_program_bytes}
use Rattle.goi_batches.specs.Judging.{IsJudged}
use Rattle.goi_batches.specs.Sections.{listed}
use Rattle.goi_engine.proofs.Lists.{whatever_judged, only_memory}
use Rattle.goi_engine.proofs.batching.load_program.Goals as goal

pub returns-in-Ok-clause-judged : goal.returns-in-Ok-clause-judged
returns-in-Ok-clause-judged g c =
    let line = c.args.line.now in
    whatever_judged g.F.Files.seen g.F.Files.fits line.file line.budget c.args.files.now c.load.new.files c.in-Ok.bytes.items
    (λ h. let k = c.in-Ok.ensures.lacked
    (subst (λ (n : List ℕ). IsTrue ((g.F.Files.seen c.args.files.now).lacks n)) (sym c.as_str.ensures) h) in cc)
    (λ told fits. subst
    (λ (n : List ℕ). IfSome (told n) (λ bytes. c.in-Ok.bytes.items ≡ take (most_program_bytes + 1) bytes))
    c.as_str.ensures (c.in-Ok.ensures.bytes told fits))
    c.judge_loaded.result
    (subst (λ (b : List ℕ). IfOk c.judge_loaded.result (IsJudged (listed line.budget b))) c.deref.ensures.value
    c.judge_loaded.ensures.judged)

pub returns-in-Ok-clause-not_loaded : goal.returns-in-Ok-clause-not_loaded
returns-in-Ok-clause-not_loaded g c =
    only_memory (IsTrue ((g.F.Files.seen c.args.files.now).lacks c.args.line.now.file)) (g.F.Files.seen c.args.files.now)
    (g.F.Files.seen c.load.new.files) c.judge_loaded.result c.in-Ok.ensures.ok c.judge_loaded.ensures.memory
