-- The lines of a whole log, and which logs lead to a state.
use Rattle.std.specs.Prelude.{ℕ, List}
use Rattle.net_build.specs.Nets.{NetTree}
use Rattle.interleave_laws.specs.Start.{start_of}
use Rattle.interleave_laws.specs.States.{start}
use Rattle.interleave_laws.specs.Maps.{MapState, LeadsToMap}
use Rattle.schedule_log.specs.declared.entry.Entry.{Entry as Moved}
use Rattle.schedule_log.specs.Logs.{tickets_in_log}
use Rattle.walk_text.specs.Traces.{lines_from}

-- the lines of the moves of a log, from the net's start
abbrev pub move_lines : NetTree → List Moved → List (List ℕ)
move_lines net log = lines_from net (start (start_of net)) 0 log

-- the log leads to a state
abbrev pub LeadsSomewhere : NetTree → List Moved → Type 0
LeadsSomewhere net log = (S : MapState) × LeadsToMap net (tickets_in_log log) S
