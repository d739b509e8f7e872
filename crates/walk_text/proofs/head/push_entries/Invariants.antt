use Rattle.std.proofs.Common.{◌≡◌, ◌++◌, map, drop}
use Rattle.fork_join.specs.Listed.{open_of}
use Rattle.walk_text.specs.Traces.{open_lines}
use Rattle.walk_text.proofs.head.push_entries.Given as goal

abbrev pub invariant-loop-entry : goal.invariant-loop-entry
invariant-loop-entry l =
    l.text.items ++ open_lines (map open_of (drop l.entry-index l.list)) ≡ l.initial.text.items ++ open_lines (map open_of l.list)
