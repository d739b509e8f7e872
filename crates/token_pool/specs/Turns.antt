-- What a worker is given, by the first of six lines that holds, and what the pool is afterwards.
-- A token that is free is a live one whose ticket nobody holds. Where none is free, somebody holds one: a run that has no live token
-- has its answer. Where a token is free but all of the budget is made or set aside, something is set aside for somebody.
use Rattle.std.specs.Prelude.{◌≡◌, ◌<◌, ◌+◌, ◌-◌, ◌/◌, ℕ, min, max, ◌&&◌, ◌||◌, ◌∷◌, nat_eq}
use Rattle.std.specs.Prelude.{if◌then◌else◌}
use Rattle.std.specs.Prelude.{Bool, true, false, not, List, [], length, set, Option, Some, None, is_some, slice_get}
use Rattle.std.specs.Ordering.{nat_cmp}
use Rattle.std.specs.FinMap.{FinMap, get, retain_keys, len}
use Rattle.pcf_values.specs.declared.val.Val.{Val}
use Rattle.move_rules.specs.Places.{TokenTree}
use Rattle.interleave_laws.specs.OneWorker.{least_from}
use Rattle.interleave_laws.specs.Maps.{MapState}
use Rattle.interleave_laws.specs.Tickets.{IsLive}
use Rattle.token_pool.specs.declared.entries.Held.{Held}
use Rattle.token_pool.specs.declared.entries.Reply.{Reply}
use Rattle.token_pool.specs.declared.entries.Reply.TheVariants.{Stopped, Token, Ended, Idle, Reserved}
use Rattle.token_pool.specs.Pools.{Pool, allowances}

-- whether a worker holds the ticket
abbrev pub has_ticket : ℕ → Option Held → Bool
has_ticket i None = false
has_ticket i (Some h) = nat_eq h.ticket i

-- whether some worker does
abbrev pub is_held : List (Option Held) → ℕ → Bool
is_held [] i = false
is_held (o ∷ held) i = has_ticket i o || is_held held i

-- whether nobody holds anything
abbrev pub none_held : List (Option Held) → Bool
none_held [] = true
none_held (None ∷ held) = none_held held
none_held (Some h ∷ held) = false

-- the live tokens whose tickets nobody holds
abbrev pub free_in : FinMap nat_cmp TokenTree → List (Option Held) → FinMap nat_cmp TokenTree
free_in tokens held = retain_keys tokens (λ i. not (is_held held i))

abbrev pub free : Pool → FinMap nat_cmp TokenTree
free p = free_in p.state.tokens p.held

-- the least free ticket
abbrev pub least_free_of : MapState → List (Option Held) → Option ℕ
least_free_of S held = least_from (λ i. get (free_in S.tokens held) i) 0 S.next

abbrev pub least_free : Pool → Option ℕ
least_free p = least_free_of p.state p.held

-- the ticket is free, and none below it is
pub record IsLeastFree (p : Pool) (i : ℕ) : Type 0 where
  pub live : IsLive p.state i
  pub unheld : is_held p.held i ≡ false
  pub below : (j : ℕ) → j < i → get (free p) j ≡ None

-- how many tickets are free
abbrev pub count_free : Pool → ℕ
count_free p = len (free p)

-- how many moves are made or set aside
abbrev pub spent : Pool → ℕ
spent p = length p.log + allowances p.held

-- how many pieces are worth a worker's waking: one for each free ticket, and none where the whole budget is made or set aside
abbrev pub spare_pieces : Pool → ℕ
spare_pieces p = if nat_eq (spent p) p.budget then 0 else count_free p

-- what is set aside for a ticket that is given out: a worker's part of what is left, at least 1 and at most 64
abbrev pub allowance : ℕ → ℕ → ℕ
allowance left workers = min 64 (max 1 (left / workers))

-- a free ticket is given out, unless the whole budget is made or set aside
abbrev pub offered : ℕ → ℕ → ℕ → ℕ → Reply
offered made budget workers i =
    if nat_eq made budget then Reserved else
    Token (record { ticket = i; allowance = allowance (budget - made) workers })

-- whether there is an answer, or the whole budget is made and nothing is held
abbrev pub ends : Option Val → ℕ → ℕ → List (Option Held) → Bool
ends answered made budget held = is_some answered || (nat_eq made budget && none_held held)

abbrev pub is_ended : Pool → Bool
is_ended p = ends p.state.answered (length p.log) p.budget p.held

-- what a place of the list holds, where there is such a place
abbrev pub flat : Option (Option Held) → Option Held
flat None = None
flat (Some o) = o

-- what a worker holds
abbrev pub own : List (Option Held) → ℕ → Option Held
own held w = flat (slice_get held w)

-- what the worker holds, if it holds something, and else the next lines
abbrev pub on_own : Option Held → Reply → Reply
on_own None t = t
on_own (Some h) t = Token h

-- nothing to do where no token is free, and else the next lines
abbrev pub on_free : Option ℕ → (ℕ → Reply) → Reply
on_free None f = Idle
on_free (Some i) f = f i

-- what a worker is told that holds nothing, after so many moves
abbrev pub next_lines : MapState → ℕ → List (Option Held) → ℕ → ℕ → Reply
next_lines S made held budget workers =
    if ends S.answered made budget held then Ended else
    on_free (least_free_of S held) (offered (made + allowances held) budget workers)

-- what worker w is told
abbrev pub turn : Pool → ℕ → Reply
turn p w = if p.stopped then Stopped else on_own (own p.held w) (next_lines p.state (length p.log) p.held p.budget p.workers)

-- the worker holds what it was given, and all else stays
abbrev pub held_after : Reply → List (Option Held) → ℕ → List (Option Held)
held_after (Token h) held w = set held w (Some h)
held_after Stopped held w = held
held_after Ended held w = held
held_after Idle held w = held
held_after Reserved held w = held

abbrev pub taken : Pool → ℕ → Pool
taken p w = record p { held = held_after (turn p w) p.held w }
