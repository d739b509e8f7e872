use Rattle.std.proofs.Common.{◌≡◌, ◌++◌, length}
use Rattle.goi_batches.specs.Telling.{jobs_of, marks_of}
use Rattle.goi_batches.proofs.sorting.sort.Given as goal

abbrev pub invariant-loop-programs : goal.invariant-loop-programs
invariant-loop-programs l = record {
  marks : l.marks.items ++ marks_of l.programs.items ≡ marks_of l.fn.programs.items;
  jobs : l.jobs.items ++ jobs_of l.programs.items ≡ jobs_of l.fn.programs.items;
}

abbrev pub decreases-loop-programs : goal.decreases-loop-programs
decreases-loop-programs l = length l.programs.items
