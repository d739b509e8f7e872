-- How often a worker stands in runs.
use Rattle.std.proofs.Common.{◌≡◌, ℕ, zero, suc, ◌+◌, ◌<◌, ◌≤◌, List, [], ◌∷◌, length, get_or, take, refl, ap, ◌∙◌, arith}
use Rattle.std.specs.Prelude.{Bool, true, false, cond, nat_eq, replicate}
use Rattle.std.proofs.lemmas.Bool.{ne_eqb, eq-eqb}
use Rattle.std.proofs.lemmas.List.{length-append, take_more}
use Rattle.std.proofs.lemmas.List.Sums.{sum_by-cons, sum_by-append, count_by-le-length}
use Rattle.schedule_log.specs.KeptRuns.{MovesSeen, spread, move_of}
use Rattle.schedule_log.specs.declared.entry.Entry.{Entry}
use Rattle.schedule_log.specs.Tally.{tally_of}
use Rattle.schedule_log.proofs.Spread.{spread_more}

-- 1 for an entry of the worker, else 0
abbrev one_of : ℕ → Entry → ℕ
one_of w e = cond (nat_eq e.worker w) 1 0

pub tally_yes : (n : ℕ) (e : Entry) (w : ℕ) → nat_eq e.worker w ≡ true → tally_of (replicate n e) w ≡ n
tally_yes zero e w h = refl
tally_yes (suc n) e w h =
    let a = sum_by-cons (one_of w) e (replicate n e) in
    let b : one_of w e ≡ 1 = ap (λ (b : Bool). cond b 1 0) h in
    let c = tally_yes n e w h in omega (arith, a, b, c)

pub tally_no : (n : ℕ) (e : Entry) (w : ℕ) → nat_eq e.worker w ≡ false → tally_of (replicate n e) w ≡ 0
tally_no zero e w h = refl
tally_no (suc n) e w h =
    let a = sum_by-cons (one_of w) e (replicate n e) in
    let b : one_of w e ≡ 0 = ap (λ (b : Bool). cond b 1 0) h in
    let c = tally_no n e w h in omega (arith, a, b, c)

-- one run more is counted
pub next : (rs : List MovesSeen) (i : ℕ) (d : MovesSeen) (w : ℕ) → i < length rs →
    tally_of (spread (take (i + 1) rs)) w ≡
    tally_of (spread (take i rs)) w + tally_of (replicate (get_or rs i d).count (move_of (get_or rs i d))) w
next rs i d w u =
    ap (λ (l : List MovesSeen). tally_of (spread l) w) (take_more rs i d u)
    ∙ ap (λ (l : List Entry). tally_of l w) (spread_more (take i rs) (get_or rs i d))
    ∙ sum_by-append (one_of w) (spread (take i rs)) (replicate (get_or rs i d).count (move_of (get_or rs i d)))

-- it is of the worker
pub counts_it : (rs : List MovesSeen) (i : ℕ) (d : MovesSeen) (w k : ℕ) → i < length rs → (get_or rs i d).worker ≡ w →
    k ≡ tally_of (spread (take i rs)) w → k + (get_or rs i d).count ≡ tally_of (spread (take (i + 1) rs)) w
counts_it rs i d w k u h e =
    let a = next rs i d w u in
    let b = tally_yes (get_or rs i d).count (move_of (get_or rs i d)) w (eq-eqb (get_or rs i d).worker w h) in omega (arith, a, b, e)

-- it isn't
pub passes_it : (rs : List MovesSeen) (i : ℕ) (d : MovesSeen) (w k : ℕ) → i < length rs → ((get_or rs i d).worker ≡ w → ⊥) →
    k ≡ tally_of (spread (take i rs)) w → k ≡ tally_of (spread (take (i + 1) rs)) w
passes_it rs i d w k u h e =
    let a = next rs i d w u in
    let b = tally_no (get_or rs i d).count (move_of (get_or rs i d)) w (ne_eqb (get_or rs i d).worker w h) in omega (arith, a, b, e)

-- the first runs have no more moves than all
pub take_within : (rs : List MovesSeen) (n : ℕ) → length (spread (take n rs)) ≤ length (spread rs)
take_within rs zero = omega arith
take_within [] (suc n) = omega arith
take_within (r ∷ rs) (suc n) =
    let h = take_within rs n in
    let a = length-append (replicate r.count (move_of r)) (spread (take n rs)) in
    let b = length-append (replicate r.count (move_of r)) (spread rs) in omega (arith, h, a, b)

-- what is counted are moves of the log
pub count_fits : (rs : List MovesSeen) (i : ℕ) (d : MovesSeen) (w k : ℕ) → i < length rs → (get_or rs i d).worker ≡ w →
    k ≡ tally_of (spread (take i rs)) w → k + (get_or rs i d).count ≤ length (spread rs)
count_fits rs i d w k u h e =
    let a = counts_it rs i d w k u h e in
    let b = count_by-le-length (λ (x : Entry). nat_eq x.worker w) (spread (take (i + 1) rs)) in
    let c = take_within rs (i + 1) in omega (arith, a, b, c)
