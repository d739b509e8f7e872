use Rattle.std.proofs.Common.{◌≡◌, ◌++◌, ◌+◌, ◌<◌, ◌≤◌, ◌^◌, drop, length}
use Rattle.schedule_log.specs.KeptRuns.{spread}
use Rattle.schedule_log.proofs.Printing.{unwritten}
use Rattle.schedule_log.proofs.print.push_from.Given as goal

abbrev pub invariant-loop-run : goal.invariant-loop-run
invariant-loop-run l = record {
  some : 1 ≤ l.count;
  few : l.count + length (spread (drop l.run-index l.rest)) < 2 ^ 32;
  text : l.text.items ++ unwritten l.ticket l.count (drop l.run-index l.rest) ≡
      l.initial.text.items ++ unwritten l.initial.ticket l.initial.count l.rest;
}
