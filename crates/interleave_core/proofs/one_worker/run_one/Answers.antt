use Rattle.std.proofs.Common.{arith}
use Rattle.interleave_core.specs.Parts.{state_of}
use Rattle.interleave_core.proofs.AloneRuns.{full, idle}
use Rattle.interleave_core.proofs.one_worker.run_one.Goals.{else-loop-parts-test, then-loop-parts-test+in-None}
use Rattle.interleave_core.proofs.one_worker.run_one.Goals as goal

pub returns-clause-tickets : goal.returns-clause-tickets
returns-clause-tickets c =
    let log = c.loop-parts.tickets in
    let S = state_of c.loop-parts.parts in
    let i = c.loop-parts.invariant in
    elim c.loop-parts-test.branch [
      | else-loop-parts-test w ↦ full c.args.net.now c.requires.runs log S i.0 c.args.budget i.1 (λ t. let l = c.len.ensures in
          let f = w.loop-parts-test in absurd (omega (arith, l, f, t)))
      | then-loop-parts-test+in-None w ↦ idle c.args.net.now c.requires.runs log S i.0 c.args.budget i.1 w.in-None.ensures
    ]
