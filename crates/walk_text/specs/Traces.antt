-- The trace of a log on a net: the tokens that are live and the entries that are open where it begins, a line for each move, and `end`.
-- A trace may begin anywhere in a log, so that a piece of a long run can be looked at. Its lines are the lines of the moves in the states
-- that the log leads to, and nothing else. Live tokens are told in the order of their tickets, and open entries in the order of keys: by
-- their nodes, and by their box stacks at one node. All tickets of a state are below its next one, so the search for live ones ends there.
use Rattle.std.specs.Prelude.{ℕ, zero, suc, List, [], ◌∷◌, ◌++◌, take, drop, Option, Some, None, codes, decimal}
use Rattle.std.specs.List.{concat}
use Rattle.std.specs.FinMap as map
use Rattle.net_build.specs.Nets.{NetTree}
use Rattle.token_stacks.specs.Texts.{key_text}
use Rattle.fork_join.specs.Entries.{Entry, pending, has_left, has_right, Key}
use Rattle.move_rules.specs.Places.{TokenTree}
use Rattle.interleave_laws.specs.Start.{start_of}
use Rattle.interleave_laws.specs.States.{Tokens, State, step}
use Rattle.interleave_laws.specs.Maps.{MapState, start_map, run_map, seen}
use Rattle.schedule_log.specs.declared.entry.Entry.{Entry as Moved}
use Rattle.schedule_log.specs.Logs.{tickets_in_log}
use Rattle.walk_text.specs.Lines.{then_word, val_text, token_text, move_line}

-- ---- moves

-- the lines of what follows a state, where there is one
abbrev pub on_state : Option State → (State → List (List ℕ)) → List (List ℕ)
on_state None f = []
on_state (Some S) f = f S

-- the lines of the moves of a log, from a state on; the first is entry k
abbrev pub lines_from : NetTree → State → ℕ → List Moved → List (List ℕ)
lines_from net S k [] = []
lines_from net S k (e ∷ es) = move_line net S k e.worker e.ticket ∷ on_state (step net S e.ticket) (λ T. lines_from net T (suc k) es)

-- ---- where a trace begins

-- the line of a live token
abbrev pub live_line : ℕ → Option TokenTree → List ℕ
live_line i None = []
live_line i (Some x) = codes "live " ++ (then_word (decimal i) (token_text key_text x) ++ codes "\n")

-- the lines of the live ones of n tickets from i on
abbrev pub live_lines : Tokens → ℕ → ℕ → List ℕ
live_lines f i zero = []
live_lines f i (suc n) = live_line i (f i) ++ live_lines f (suc i) n

-- the values that are kept in an entry, the left operand's first; `-` is none
abbrev pub sides_text : Entry → List ℕ
sides_text pending = codes "- -"
sides_text (has_left v) = val_text v ++ codes " -"
sides_text (has_right v) = codes "- " ++ val_text v

-- the line of an open entry
abbrev pub open_line : Key → Entry → List ℕ
open_line key e = codes "open " ++ (then_word (decimal key.0) (then_word (key_text key.1) (sides_text e)) ++ codes "\n")

abbrev pub open_lines : List (Key × Entry) → List ℕ
open_lines [] = []
open_lines (p ∷ ps) = open_line p.0 p.1 ++ open_lines ps

-- the live tokens and the open entries of a state
abbrev pub head_text : MapState → List ℕ
head_text S = live_lines (seen S).tokens 0 S.next ++ open_lines (map.entries S.entries)

-- ---- the trace

-- the state to which a log leads, if it leads to one
abbrev pub state_at : NetTree → List Moved → Option MapState
state_at net log = run_map net (start_map (start_of net)) (tickets_in_log log)

-- what is told from a state on, of these moves, of which the first is entry k
abbrev pub window_text : NetTree → MapState → ℕ → List Moved → List ℕ
window_text net S k es = head_text S ++ concat (lines_from net (seen S) k es)

abbrev pub window_at : NetTree → Option MapState → ℕ → List Moved → List ℕ
window_at net None k es = []
window_at net (Some S) k es = window_text net S k es

-- The trace of a log from entry `from` on, of at most so many moves. Behind the end of the log it tells the state to which the log leads.
abbrev pub trace_text : NetTree → List Moved → (from most : ℕ) → List ℕ
trace_text net log from most =
    codes "trace 1\n" ++ (window_at net (state_at net (take from log)) from (take most (drop from log)) ++ codes "end\n")
