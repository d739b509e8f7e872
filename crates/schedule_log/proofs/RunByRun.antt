-- Runs that are met one after the other: the tickets, the tally and the moves of one run more.
use Rattle.std.proofs.Common.{◌≡◌, ℕ, zero, suc, ◌+◌, ◌<◌, ◌≤◌, Bool, true, false, List, [], ◌∷◌, ◌++◌, length, get_or, take, drop}
use Rattle.std.proofs.Common.{refl, ap, ◌∙◌, arith}
use Rattle.std.specs.Prelude.{All, cond, nat_eq, replicate}
use Rattle.std.proofs.lemmas.List.{take_more}
use Rattle.std.proofs.lemmas.List.Elements.{All-head, All-tail}
use Rattle.schedule_log.specs.declared.entry.Entry.{Entry}
use Rattle.schedule_log.specs.KeptRuns.{Each, MovesSeen, move_of, spread}
use Rattle.schedule_log.specs.Logs.{tickets_in_log}
use Rattle.schedule_log.specs.Tally.{tally_of}
use Rattle.schedule_log.proofs.Counted.{next, tally_no, tally_yes}
use Rattle.schedule_log.proofs.Holding.{split}
use Rattle.schedule_log.proofs.Spread.{spread_append, spread_more}

pub tickets_both : (es fs : List Entry) → tickets_in_log (es ++ fs) ≡ tickets_in_log es ++ tickets_in_log fs
tickets_both [] fs = refl
tickets_both (e ∷ es) fs = ap (λ ts. e.ticket ∷ ts) (tickets_both es fs)

tickets_equal : (n : ℕ) (e : Entry) → tickets_in_log (replicate n e) ≡ replicate n e.ticket
tickets_equal zero e = refl
tickets_equal (suc n) e = ap (λ ts. e.ticket ∷ ts) (tickets_equal n e)

-- The tickets of one run more are its ticket, so often.
pub tickets_run_more : (rs : List MovesSeen) (i : ℕ) (d : MovesSeen) → i < length rs →
    tickets_in_log (spread (take (i + 1) rs)) ≡
    tickets_in_log (spread (take i rs)) ++ replicate (get_or rs i d).count (get_or rs i d).ticket
tickets_run_more rs i d u =
    let r : MovesSeen = get_or rs i d in
    let es : List Entry = spread (take i rs) in
    ap (λ (l : List MovesSeen). tickets_in_log (spread l)) (take_more rs i d u)
    ∙ ap tickets_in_log (spread_more (take i rs) r)
    ∙ tickets_both es (replicate r.count (move_of r))
    ∙ ap (λ ts. tickets_in_log es ++ ts) (tickets_equal r.count (move_of r))

-- The tickets are those up to a run, those of the run, and those behind it.
pub tickets_split_run : (rs : List MovesSeen) (i : ℕ) (d : MovesSeen) → i < length rs →
    tickets_in_log (spread rs) ≡ tickets_in_log (spread (take i rs)) ++
    (replicate (get_or rs i d).count (get_or rs i d).ticket ++ tickets_in_log (spread (drop (suc i) rs)))
tickets_split_run rs i d u =
    let r : MovesSeen = get_or rs i d in
    let es : List Entry = spread (take i rs) in
    let fs : List Entry = spread (drop (suc i) rs) in
    ap (λ (l : List MovesSeen). tickets_in_log (spread l)) (split rs i d u)
    ∙ ap tickets_in_log (spread_append (take i rs) (r ∷ drop (suc i) rs))
    ∙ tickets_both es (replicate r.count (move_of r) ++ fs)
    ∙ ap (λ ts. tickets_in_log es ++ ts) (tickets_both (replicate r.count (move_of r)) fs
    ∙ ap (λ ts. ts ++ tickets_in_log fs) (tickets_equal r.count (move_of r)))

-- One run more adds its count to its worker's, and nothing to another's.
pub tally_run_more : (rs : List MovesSeen) (i : ℕ) (d : MovesSeen) (w : ℕ) → i < length rs →
    tally_of (spread (take (i + 1) rs)) w ≡
    tally_of (spread (take i rs)) w + cond (nat_eq (get_or rs i d).worker w) (get_or rs i d).count 0
tally_run_more rs i d w u = next rs i d w u ∙ ap (λ n. tally_of (spread (take i rs)) w + n) (go (nat_eq (get_or rs i d).worker w) refl)
  where
    go : (b : Bool) → nat_eq (get_or rs i d).worker w ≡ b →
        tally_of (replicate (get_or rs i d).count (move_of (get_or rs i d))) w ≡ cond b (get_or rs i d).count 0
    go true h = tally_yes (get_or rs i d).count (move_of (get_or rs i d)) w h
    go false h = tally_no (get_or rs i d).count (move_of (get_or rs i d)) w h

all_first : (P : Entry → Type 0) (n : ℕ) (e : Entry) (es : List Entry) → 1 ≤ n → All P (replicate n e ++ es) → P e
all_first P zero e es u h = absurd (omega (arith, u))
all_first P (suc n) e es u h = All-head P e (replicate n e ++ es) h

all_behind : (P : Entry → Type 0) (n : ℕ) (e : Entry) (es : List Entry) → All P (replicate n e ++ es) → All P es
all_behind P zero e es h = h
all_behind P (suc n) e es h = all_behind P n e es (All-tail P e (replicate n e ++ es) h)

-- What holds of all moves holds of the move that a run is of.
pub run_has : (P : Entry → Type 0) (rs : List MovesSeen) (i : ℕ) (d : MovesSeen) → i < length rs → Each rs → All P (spread rs) →
    P (move_of (get_or rs i d))
run_has P [] i d u h a = absurd (omega (arith, u))
run_has P (r ∷ rs) zero d u h a = all_first P r.count (move_of r) (spread rs) h.0.0 a
run_has P (r ∷ rs) (suc i) d u h a = run_has P rs i d (omega (arith, u)) h.1 (all_behind P r.count (move_of r) (spread rs) a)

entry_among : (es : List Entry) (n : ℕ) (e : Entry) (fs : List Entry) (p : ℕ) (x : Entry) → length es ≤ p → p < length es + n →
    get_or (es ++ (replicate n e ++ fs)) p x ≡ e
entry_among [] zero e fs p x u w = absurd (omega (arith, w))
entry_among [] (suc n) e fs zero x u w = refl
entry_among [] (suc n) e fs (suc p) x u w = entry_among [] n e fs p x (omega arith) (omega (arith, w))
entry_among (d ∷ es) n e fs zero x u w = absurd (omega (arith, u))
entry_among (d ∷ es) n e fs (suc p) x u w = entry_among es n e fs p x (omega (arith, u)) (omega (arith, w))

-- The move at a place is that of the run that holds the place.
pub move_there : (rs : List MovesSeen) (i : ℕ) (d : MovesSeen) (p : ℕ) (x : Entry) → i < length rs →
    length (spread (take i rs)) ≤ p → p < length (spread (take i rs)) + (get_or rs i d).count →
    get_or (spread rs) p x ≡ move_of (get_or rs i d)
move_there rs i d p x u from below =
    let r : MovesSeen = get_or rs i d in
    ap (λ (l : List MovesSeen). get_or (spread l) p x) (split rs i d u)
    ∙ ap (λ (l : List Entry). get_or l p x) (spread_append (take i rs) (r ∷ drop (suc i) rs))
    ∙ entry_among (spread (take i rs)) r.count (move_of r) (spread (drop (suc i) rs)) p x from below
