-- Why what a pool hands out, which replays on the net, is a run of its workers.
use Rattle.std.proofs.Common.{ℕ}
use Rattle.net_build.specs.Nets.{NetTree}
use Rattle.interleave_laws.specs.Maps.{seen}
use Rattle.interleave_laws.proofs.MapLaws.{seen_leads}
use Rattle.schedule_log.specs.Logs.{tickets_in_log}
use Rattle.token_pool.specs.declared.ending.Ended.{Ended}
use Rattle.token_pool.specs.Ending.{Replays}
use Rattle.net_runs.specs.IsRun.{IsRun}

-- its moves lead to a state of maps, so they lead to what that state answers
pub replayed : (net : NetTree) (budget workers : ℕ) (e : Ended) → Replays net budget workers e →
    IsRun net workers budget e.answer e.log.entries
replayed net budget workers e r =
    let (S, leads, answers) = r.answers in
    record {
      state = seen S;
      led = seen_leads net (tickets_in_log e.log.entries) S leads;
      answers = answers;
      finished = r.ends;
      booked = r.makers;
      alone = r.alone;
    }
