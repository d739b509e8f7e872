-- What a worker is given that plays branches, and what is booked of them.
-- It is told what any other worker is told, but what is set aside for a free ticket is more: enough that a branch pays for the two visits
-- and the copies of its token. Booking a branch is as many moves of a run as the branch has, each under the ticket that its own ticket
-- is called in the pool's state. What isn't taken over is one step of the held ticket.
use Rattle.std.specs.Prelude.{◌≡◌, ◌≤◌, ◌⊎◌, ℕ, ◌<◌, ◌+◌, ◌-◌, ◌/◌, min, max, nat_eq, nat_lt, ◌||◌, ◌&&◌, not, if◌then◌else◌}
use Rattle.std.specs.Prelude.{Bool, true, false}
use Rattle.std.specs.Prelude.{List, [], ◌∷◌, ◌++◌, length, map, set, Option, Some, None, is_some}
use Rattle.std.specs.FinMap.{get, len}
use Rattle.pcf_values.specs.Most.{most_budget}
use Rattle.token_stacks.specs.Words.{box_words}
use Rattle.token_stacks.specs.WorkWords.{work_words}
use Rattle.net_build.specs.Nets.{NetTree}
use Rattle.move_rules.specs.Places.{TokenTree, place_of}
use Rattle.move_rules.specs.Stacks.{work_at, boxes_at}
use Rattle.move_rules.specs.Views.{token_of}
use Rattle.interleave_laws.specs.Maps.{MapState, run_map, LeadsToMap}
use Rattle.branch_laws.specs.Branches.{name}
use Rattle.branch_laws.specs.Laws.{Occurs}
use Rattle.branch_runs.specs.Branching.{Grown}
use Rattle.interleave_laws.specs.Tickets.{IsLive}
use Rattle.interleave_core.specs.Names.{step_name, MayTake}
use Rattle.interleave_core.specs.Newest.{IsNewestLive}
use Rattle.schedule_log.specs.declared.entry.Entry.{Entry}
use Rattle.schedule_log.specs.Logs.{by}
use Rattle.token_pool.specs.declared.entries.Held.{Held}
use Rattle.token_pool.specs.declared.entries.Booked.{Booked}
use Rattle.token_pool.specs.declared.entries.Booked.TheVariants.{Done, NothingHeld}
use Rattle.token_pool.specs.declared.entries.Reply.{Reply}
use Rattle.token_pool.specs.declared.entries.Reply.TheVariants as told
use Rattle.token_pool.specs.declared.pieces.Taken.{Taken}
use Rattle.token_pool.specs.declared.pieces.Taken.TheVariants as taken
use Rattle.token_pool.specs.Pools.{Pool, Holds}
use Rattle.token_pool.specs.Turns.{turn, held_after, own, spent, count_free, is_held}

-- how many words both stacks of a token have
abbrev pub words_of : TokenTree → ℕ
words_of x = length (work_words (work_at (place_of x))) + length (box_words (boxes_at (place_of x)))

abbrev pub words_in : Option TokenTree → ℕ
words_in None = 0
words_in (Some x) = words_of x

-- What is set aside for a branch. Where no other token is live, all that is left: nobody else has anything to move. Else a worker's part of
-- what is left, at least 1, and at most 8,192; and as many moves as the token has words, as far as they are left.
abbrev pub branch_allowance : ℕ → ℕ → ℕ → ℕ → ℕ
branch_allowance left workers live words =
    if nat_eq live 1 then left else max (min (max 1 (left / workers)) 8192) (min left words)

-- a free ticket with a branch's allowance
abbrev pub for_branch : Pool → Held → Held
for_branch p h = record {
  ticket = h.ticket;
  allowance = branch_allowance (p.budget - spent p) p.workers (len p.state.tokens) (words_in (get p.state.tokens h.ticket));
}

-- the entry that stands last, and o where there is none
abbrev pub last_entry : Option Entry → List Entry → Option Entry
last_entry o [] = o
last_entry o (e ∷ log) = last_entry (Some e) log

-- its ticket, if it is the worker's
abbrev pub ticket_by : ℕ → Option Entry → Option ℕ
ticket_by w None = None
ticket_by w (Some e) = if nat_eq e.worker w then Some e.ticket else None

-- the ticket that moved last, if this worker made the move
abbrev pub last_by : ℕ → List Entry → Option ℕ
last_by w log = ticket_by w (last_entry None log)

-- the ticket, if it is free, and else another
abbrev pub free_or : MapState → List (Option Held) → ℕ → ℕ → ℕ
free_or S held other i = if is_some (get S.tokens i) && not (is_held held i) then i else other

-- the ticket that was given out last, or the one that moved last, if there is one, or another: the first of them that is free
abbrev pub newest_or : MapState → List (Option Held) → ℕ → Option ℕ → ℕ
newest_or S held other None = other
newest_or S held other (Some i) = free_or S held (free_or S held other i) (S.next - 1)

-- Own first: of the free tickets, a worker that made the last move is given the one that was given out last, and if that isn't free the one
-- that it moved; any other, and where neither is free, the least. Where there is one worker it is the least.
abbrev pub own_first : MapState → List (Option Held) → List Entry → ℕ → ℕ → ℕ → ℕ
own_first S held log workers w least = if nat_lt workers 2 then least else newest_or S held least (last_by w log)

-- the ticket is live, and nobody holds it
pub record IsFree (p : Pool) (i : ℕ) : Type 0 where
  pub live : IsLive p.state i
  pub unheld : is_held p.held i ≡ false

-- the worker made the last move, with this ticket, and there are two workers or more
pub record MovedLast (p : Pool) (w i : ℕ) : Type 0 where
  pub many : 2 ≤ p.workers
  pub moved : last_by w p.log ≡ Some i

-- what a worker is told that holds nothing, with its own ticket first
abbrev pub preferred : Pool → ℕ → Reply → Reply
preferred p w (told.Token h) =
    told.Token (record { ticket = own_first p.state p.held p.log p.workers w h.ticket; allowance = h.allowance })
preferred p w told.Stopped = told.Stopped
preferred p w told.Ended = told.Ended
preferred p w told.Idle = told.Idle
preferred p w told.Reserved = told.Reserved

abbrev pub widened : Pool → Reply → Reply
widened p (told.Token h) = told.Token (for_branch p h)
widened p told.Stopped = told.Stopped
widened p told.Ended = told.Ended
widened p told.Idle = told.Idle
widened p told.Reserved = told.Reserved

-- what a worker that plays branches is told: what it holds, if it holds something, and else what any other is told, with its own ticket
-- first, for a branch
abbrev pub branch_turn : Pool → ℕ → Reply
branch_turn p w = if is_some (own p.held w) then turn p w else widened p (preferred p w (turn p w))

-- the worker holds what it was given, and all else stays
abbrev pub branch_taken : Pool → ℕ → Pool
branch_taken p w = record p { held = held_after (branch_turn p w) p.held w }

-- what is handed out is a token of the net's runs, and as many moves as a run may have are enough for it
abbrev pub HandsSeed : NetTree → Taken → Type 0
HandsSeed net (taken.Token k) = Occurs net (token_of k.token) × (k.allowance ≤ most_budget)
HandsSeed net taken.Idle = Unit {0}
HandsSeed net taken.Reserved = Unit {0}
HandsSeed net taken.Ended = Unit {0}
HandsSeed net taken.Stopped = Unit {0}

-- whether branches are to be plain: where there is one worker, and while fewer tickets are free than there are workers, so that each fork
-- is booked at once, and others can take what it forked
abbrev pub plays_plain : Pool → Bool
plays_plain p = nat_eq p.workers 1 || nat_lt (count_free p) p.workers

-- the branch is taken over: it is one of the held ticket's token, with at least one move and no more than are set aside, and plain
-- where there is one worker
pub record TakesOver (S : MapState) (workers : ℕ) (h : Held) (b : Grown) : Type 0 where
  pub token : get S.tokens h.ticket ≡ Some b.before
  pub some : 1 ≤ length b.log
  pub few : length b.log ≤ h.allowance
  pub plain : workers ≡ 1 → b.plain ≡ true

-- The branch stopped before a move of this ticket, which is its newest live one as the state calls it; the allowance has one move more,
-- and there are two workers or more.
pub record StopsAt (h : Held) (next workers : ℕ) (b : Grown) (i : ℕ) : Type 0 where
  pub many : 2 ≤ workers
  pub more : length b.log < h.allowance
  pub own : ℕ
  pub newest : IsNewestLive b.after own
  pub called : i ≡ name h.ticket next own

-- No move is made behind the branch: there is none to make, or its step may take memory, which lacked. A branch that is played as far as
-- it goes stops before a join or the answer, and these take none.
pub record LeavesOut (net : NetTree) (S : MapState) (workers : ℕ) (h : Held) (b : Grown) : Type 0 where
  pub after : MapState
  pub steps : run_map net S (map (name h.ticket S.next) b.log) ≡ Some after
  pub taking : (i : ℕ) → StopsAt h S.next workers b i → MayTake (step_name net after i)

-- the tickets that move where a branch is taken over: the branch's, as they are called in the state, and behind them the one before whose
-- move it stopped, if it isn't left out
abbrev pub TakenMoves : NetTree → MapState → ℕ → Held → Grown → List ℕ → Type 0
TakenMoves net S workers h b tickets =
    ((tickets ≡ map (name h.ticket S.next) b.log) × LeavesOut net S workers h b) ⊎
    ((i : ℕ) × StopsAt h S.next workers b i × (tickets ≡ map (name h.ticket S.next) b.log ++ i ∷ []))

-- the tickets that move: those of a branch that is taken over, and else the held one, once
abbrev pub BranchMoves : NetTree → MapState → ℕ → Held → Grown → List ℕ → Type 0
BranchMoves net S workers h b tickets =
    (TakesOver S workers h b × TakenMoves net S workers h b tickets) ⊎
    ((TakesOver S workers h b → ⊥) × (tickets ≡ h.ticket ∷ []))

-- moves of these tickets lead from p to q, where worker w holds nothing
pub record BooksAll (p q : Pool) (w : ℕ) (tickets : List ℕ) : Type 0 where
  pub steps : run_map p.net p.state tickets ≡ Some q.state
  pub rest : q ≡ record p { state = q.state; log = p.log ++ by w tickets; held = set p.held w None }

-- what a worker that hands in a branch is told: that it holds nothing, or after how many moves its own were booked
abbrev pub BookedBranch : Pool → Pool → ℕ → Grown → Booked → Type 0
BookedBranch p q w b NothingHeld = (own p.held w ≡ None) × (q ≡ p)
BookedBranch p q w b (Done k) = (h : Held) × (tickets : List ℕ) × Holds p.held w h × (k ≡ length p.log) ×
    BranchMoves p.net p.state p.workers h b tickets × BooksAll p q w tickets

-- the tickets that move, of a branch's own ones, where it was taken over
abbrev pub made_tickets : ℕ → ℕ → Option (List ℕ) → List ℕ
made_tickets i next None = i ∷ []
made_tickets i next (Some own) = map (name i next) own

-- and behind them the one more that did, if one did
abbrev pub one_more : Option ℕ → List ℕ
one_more None = []
one_more (Some i) = i ∷ []

abbrev pub all_made : ℕ → ℕ → Option (List ℕ) → Option ℕ → List ℕ
all_made i next own last = made_tickets i next own ++ one_more last

-- a log leads to the state, and so many moves more are no more than a run may have
abbrev pub HasRoom : NetTree → MapState → ℕ → Type 0
HasRoom net S n = (log : List ℕ) × LeadsToMap net log S × (length log + n ≤ most_budget)
