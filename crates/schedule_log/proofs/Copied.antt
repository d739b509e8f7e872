-- How a log is copied, one run after the other.
use Rattle.std.proofs.Common.{◌≡◌, ℕ, ◌+◌, ◌<◌, ◌≤◌, List, ◌++◌, length, get_or, take, sym, ap, ◌∙◌, arith}
use Rattle.std.proofs.Common.{append_assoc}
use Rattle.std.specs.Prelude.{replicate}
use Rattle.std.proofs.lemmas.List.{length-append, take_more}
use Rattle.schedule_log.specs.KeptRuns.{MovesSeen, spread, move_of}
use Rattle.schedule_log.specs.declared.entry.Entry.{Entry}
use Rattle.schedule_log.specs.LogsSeen.{LogSeen, with_entries}
use Rattle.schedule_log.proofs.Spread.{spread_more}
use Rattle.schedule_log.proofs.Counted.{take_within}
use Rattle.schedule_log.proofs.Holding.{longer}

-- there is room for the next run
pub room_for : (l k : LogSeen) (rs : List MovesSeen) (i : ℕ) (d : MovesSeen) → i < length rs → l ≡ with_entries k (spread (take i rs)) →
    length k.entries + length (spread rs) ≤ k.room → length l.entries + (get_or rs i d).count ≤ l.room
room_for l k rs i d u e h =
    let a = longer rs i d u in
    let b = take_within rs (i + 1) in
    let f : length l.entries ≡ length (k.entries ++ spread (take i rs)) = ap (λ (l : LogSeen). length l.entries) e in
    let g = length-append k.entries (spread (take i rs)) in
    let r : l.room ≡ k.room = ap (λ (l : LogSeen). l.room) e in omega (arith, a, b, f, g, r, h)

-- the next run is added
pub one_run_more : (m l k : LogSeen) (rs : List MovesSeen) (i : ℕ) (d : MovesSeen) → i < length rs →
    m ≡ with_entries l (replicate (get_or rs i d).count (move_of (get_or rs i d))) → l ≡ with_entries k (spread (take i rs)) →
    m ≡ with_entries k (spread (take (i + 1) rs))
one_run_more m l k rs i d u g e =
    let x : List Entry = replicate (get_or rs i d).count (move_of (get_or rs i d)) in
    g ∙ ap (λ (l : LogSeen). with_entries l x) e
    ∙ ap (λ (es : List Entry). (let s : LogSeen = record { entries = es; room = k.room } in s))
    (append_assoc k.entries (spread (take i rs)) x)
    ∙ ap (with_entries k) (sym (ap spread (take_more rs i d u) ∙ spread_more (take i rs) (get_or rs i d)))
