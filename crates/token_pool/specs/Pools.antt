-- The state that workers share, and what is true of it whenever nobody is inside a call.
-- What each worker holds is a list with a place for each worker. The log of the moves made is all that a run may choose: the machine's
-- state is the one that its tickets lead to. The allowance of a held ticket is the number of moves that are set aside for it, so that
-- moves made elsewhere can be booked later within the budget.
use Rattle.std.specs.Prelude.{◌≡◌, ◌≤◌, ◌+◌, ℕ, suc, Bool, false, List, [], ◌∷◌, length, replicate, Option, Some}
use Rattle.std.specs.Prelude.{None, slice_get}
use Rattle.pcf_values.specs.Most.{most_budget, most_workers}
use Rattle.net_build.specs.Nets.{NetTree}
use Rattle.interleave_laws.specs.Start.{start_of}
use Rattle.interleave_laws.specs.Runs.{Runs}
use Rattle.interleave_laws.specs.OneWorkerLaws.{IsOneWorkers}
use Rattle.interleave_laws.specs.Maps.{MapState, start_map, LeadsToMap}
use Rattle.interleave_laws.specs.Tickets.{IsLive, IsLeastLive}
use Rattle.schedule_log.specs.declared.entry.Entry.{Entry}
use Rattle.schedule_log.specs.Logs.{IsMadeBy, tickets_in_log}
use Rattle.token_pool.specs.declared.entries.Held.{Held}

-- what workers share
pub record Pool : Type 0 where
  pub net : NetTree
  pub budget : ℕ
  pub workers : ℕ
  pub state : MapState
  -- the moves made, in turn, each with its ticket and its worker
  pub log : List Entry
  -- what each worker holds
  pub held : List (Option Held)
  pub stopped : Bool

-- worker w holds h
abbrev pub Holds : List (Option Held) → ℕ → Held → Type 0
Holds held w h = slice_get held w ≡ Some (Some h)

-- what is set aside for one worker
abbrev pub allowance_of : Option Held → ℕ
allowance_of None = 0
allowance_of (Some h) = h.allowance

-- and for all of them
abbrev pub allowances : List (Option Held) → ℕ
allowances [] = 0
allowances (o ∷ held) = allowance_of o + allowances held

-- how many tickets are held
abbrev pub count_held : List (Option Held) → ℕ
count_held [] = 0
count_held (None ∷ held) = count_held held
count_held (Some h ∷ held) = suc (count_held held)

-- how many moves a run may be allowed, and how many workers it may have
pub record InLimits (budget workers : ℕ) : Type 0 where
  pub some_moves : 1 ≤ budget
  pub few_moves : budget ≤ most_budget
  pub some_workers : 1 ≤ workers
  pub few_workers : workers ≤ most_workers

-- where one worker runs alone, the moves made are the one worker's, and what is held is the least live ticket
pub record Alone (p : Pool) : Type 0 where
  pub ours : IsOneWorkers p.net (tickets_in_log p.log)
  pub least : (w : ℕ) (h : Held) → Holds p.held w h → IsLeastLive p.state h.ticket

-- what is true of every pool
pub record Good (p : Pool) : Type 0 where
  pub runs : Runs p.net
  pub limits : InLimits p.budget p.workers
  -- there is a place for each worker
  pub places : length p.held ≡ p.workers
  -- the state is the one that the log leads to
  pub leads : LeadsToMap p.net (tickets_in_log p.log) p.state
  -- every held ticket is live, and held by one worker alone
  pub live : (w : ℕ) (h : Held) → Holds p.held w h → IsLive p.state h.ticket
  pub apart : (v w : ℕ) (g h : Held) → Holds p.held v g → Holds p.held w h → g.ticket ≡ h.ticket → v ≡ w
  -- something is set aside for it, and with all of that the log stays within the budget
  pub allowed : (w : ℕ) (h : Held) → Holds p.held w h → 1 ≤ h.allowance
  pub within : length p.log + allowances p.held ≤ p.budget
  pub makers : IsMadeBy p.workers p.log
  pub alone : p.workers ≡ 1 → Alone p

-- nobody holds anything
abbrev pub none_held_by : ℕ → List (Option Held)
none_held_by n = replicate n None

-- the pool in which a run begins
abbrev pub started : NetTree → ℕ → ℕ → Pool
started net budget workers = record {
  net = net;
  budget = budget;
  workers = workers;
  state = start_map (start_of net);
  log = [];
  held = none_held_by workers;
  stopped = false;
}
