-- How the longest runs of one ticket grow, one run of equal moves after the other.
use Rattle.std.proofs.Common.{◌≡◌, ℕ, zero, suc, ◌+◌, ◌-◌, ◌<◌, ◌≤◌, Bool, true, false, List, [], ◌∷◌, ◌++◌}
use Rattle.std.proofs.Common.{length, get_or, take, drop, drop-cons}
use Rattle.std.proofs.Common.{append_assoc, refl, sym, ap, ◌∙◌, arith}
use Rattle.std.proofs.Math.ListN.{drop_of_length-le}
use Rattle.std.specs.Prelude.{nat_eq, replicate, if◌then◌else◌}
use Rattle.std.proofs.lemmas.Bool.{eqb-true, ne_eqb, eq-eqb}
use Rattle.std.proofs.lemmas.List.{length-append, length-replicate, take_all}
use Rattle.schedule_log.specs.KeptRuns.{MovesSeen, spread, move_of, Each}
use Rattle.schedule_log.specs.declared.entry.Entry.{Entry}
use Rattle.schedule_log.specs.Logs.{tickets_in_log}
use Rattle.schedule_log.specs.Schedules.{Run, again}
use Rattle.schedule_log.specs.Runs.{with_ticket, runs_of, run_line, run_lines}
use Rattle.text_lines.specs.Lines.{joined}
use Rattle.schedule_log.proofs.Spread.{each_at}

-- so many moves of one ticket
abbrev run : ℕ → ℕ → Run
run t n = record { ticket = t; count = n }

-- one more move of a ticket in front of a run, by whether the ticket is the same
abbrev joined_to : Bool → ℕ → Run → List Run → List Run
joined_to b t r rs = if b then record { ticket = r.ticket; count = suc r.count } ∷ rs else run t 1 ∷ (r ∷ rs)

behind_joined : (b : Bool) (t u : ℕ) (r : Run) (rs : List Run) → nat_eq u r.ticket ≡ b → (t ≡ u → ⊥) →
    with_ticket t (joined_to b u r rs) ≡ run t 1 ∷ joined_to b u r rs
behind_joined true t u r rs e q = ap (λ b. joined_to b t (record { ticket = r.ticket; count = suc r.count }) rs)
    (ne_eqb t r.ticket (λ g. q (g ∙ sym (eqb-true u r.ticket e))))
behind_joined false t u r rs e q = ap (λ b. joined_to b t (run u 1) (r ∷ rs)) (ne_eqb t u q)

behind_other : (t u : ℕ) (rs : List Run) → (t ≡ u → ⊥) → with_ticket t (with_ticket u rs) ≡ run t 1 ∷ with_ticket u rs
behind_other t u [] q = ap (λ b. joined_to b t (run u 1) []) (ne_eqb t u q)
behind_other t u (r ∷ rs) q = behind_joined (nat_eq u r.ticket) t u r rs refl q

one_more : (t n : ℕ) (rs : List Run) → with_ticket t (run t n ∷ rs) ≡ run t (suc n) ∷ rs
one_more t n rs = ap (λ b. joined_to b t (run t n) rs) (eq-eqb t t refl)

run_ends : (t n u : ℕ) (ts : List ℕ) → (t ≡ u → ⊥) → runs_of (again t (suc n) (u ∷ ts)) ≡ run t (suc n) ∷ runs_of (u ∷ ts)
run_ends t zero u ts q = behind_other t u (runs_of ts) q
run_ends t (suc n) u ts q = ap (with_ticket t) (run_ends t n u ts q) ∙ one_more t (suc n) (runs_of (u ∷ ts))

last_run : (t n : ℕ) → runs_of (again t (suc n) []) ≡ run t (suc n) ∷ []
last_run t zero = refl
last_run t (suc n) = ap (with_ticket t) (last_run t n) ∙ one_more t (suc n) []

-- a run's tickets in front of others
tickets_run : (n : ℕ) (e : Entry) (es : List Entry) → tickets_in_log (replicate n e ++ es) ≡ again e.ticket n (tickets_in_log es)
tickets_run zero e es = refl
tickets_run (suc n) e es = ap (λ ts. e.ticket ∷ ts) (tickets_run n e es)

again_add : (t n m k : ℕ) (ts : List ℕ) → k ≡ n + m → again t n (again t m ts) ≡ again t k ts
again_add t zero m k ts h = let g : m ≡ k = omega (arith, h) in ap (λ j. again t j ts) g
again_add t (suc n) m zero ts h = absurd (omega (arith, h))
again_add t (suc n) m (suc k) ts h = ap (λ us. t ∷ us) (again_add t n m k ts (omega (arith, h)))

-- the bytes of runs, with the last line
abbrev pub bytes_of : List Run → List ℕ
bytes_of rs = joined (run_lines rs)

-- what is still to be written, behind n moves of a ticket that are not written yet
abbrev pub unwritten : ℕ → ℕ → List MovesSeen → List ℕ
unwritten t n rs = bytes_of (runs_of (again t n (tickets_in_log (spread rs))))

-- The next run is of the same ticket.
same_ticket : (t n m : ℕ) (r : MovesSeen) (rs : List MovesSeen) → r.ticket ≡ t → m ≡ n + r.count → unwritten t n (r ∷ rs) ≡ unwritten t m rs
same_ticket t n m r rs g h =
    ap (λ ts. bytes_of (runs_of (again t n ts))) (tickets_run r.count (move_of r) (spread rs))
    ∙ ap (λ u. bytes_of (runs_of (again t n (again u r.count (tickets_in_log (spread rs)))))) g
    ∙ ap (λ ts. bytes_of (runs_of ts)) (again_add t n r.count m (tickets_in_log (spread rs)) h)

-- It is of another ticket.
other_again : (t n u c : ℕ) (ts : List ℕ) → 1 ≤ n → 1 ≤ c → (t ≡ u → ⊥) →
    runs_of (again t n (again u c ts)) ≡ run t n ∷ runs_of (again u c ts)
other_again t zero u c ts a b q = absurd (omega (arith, a))
other_again t (suc n) u zero ts a b q = absurd (omega (arith, b))
other_again t (suc n) u (suc c) ts a b q = run_ends t n u (again u c ts) q

other_ticket : (t n : ℕ) (r : MovesSeen) (rs : List MovesSeen) → 1 ≤ n → 1 ≤ r.count → (r.ticket ≡ t → ⊥) →
    unwritten t n (r ∷ rs) ≡ run_line (run t n) ++ unwritten r.ticket r.count rs
other_ticket t n r rs a b q =
    ap (λ ts. bytes_of (runs_of (again t n ts))) (tickets_run r.count (move_of r) (spread rs))
    ∙ ap bytes_of (other_again t n r.ticket r.count (tickets_in_log (spread rs)) a b (λ g. q (sym g)))

no_more : (t n : ℕ) → 1 ≤ n → unwritten t n [] ≡ bytes_of (run t n ∷ [])
no_more t zero u = absurd (omega (arith, u))
no_more t (suc n) u = ap bytes_of (last_run t n)

-- One turn of the printing, behind which x is written: the next run is of the same ticket.
pub goes_on : (x y : List ℕ) (t n m i : ℕ) (rest : List MovesSeen) (d : MovesSeen) → i < length rest → (get_or rest i d).ticket ≡ t →
    m ≡ n + (get_or rest i d).count → x ++ unwritten t n (drop i rest) ≡ y → x ++ unwritten t m (drop (i + 1) rest) ≡ y
goes_on x y t n m i rest d k h f g =
    let s : i + 1 ≡ suc i = omega arith in
    ap (λ j. x ++ unwritten t m (drop j rest)) s
    ∙ ap (λ l. x ++ l) (sym (ap (unwritten t n) (drop-cons rest i d k) ∙ same_ticket t n m (get_or rest i d) (drop (suc i) rest) h f))
    ∙ g

-- It is of another ticket, and the line of the run is written.
pub ends_run : (before after y : List ℕ) (t n i : ℕ) (rest : List MovesSeen) (d : MovesSeen) → i < length rest →
    ((get_or rest i d).ticket ≡ t → ⊥) → 1 ≤ n → Each rest → after ≡ before ++ run_line (record { ticket = t; count = n }) →
    before ++ unwritten t n (drop i rest) ≡ y →
    after ++ unwritten (get_or rest i d).ticket (get_or rest i d).count (drop (i + 1) rest) ≡ y
ends_run before after y t n i rest d inside other some each line whole =
    let s : i + 1 ≡ suc i = omega arith in
    let r : MovesSeen = get_or rest i d in
    ap (λ l. l ++ unwritten r.ticket r.count (drop (i + 1) rest)) line
    ∙ ap (λ j. (before ++ run_line (run t n)) ++ unwritten r.ticket r.count (drop j rest)) s
    ∙ append_assoc before (run_line (run t n)) (unwritten r.ticket r.count (drop (suc i) rest))
    ∙ ap (λ l. before ++ l) (sym (ap (unwritten t n) (drop-cons rest i d inside)
    ∙ other_ticket t n r (drop (suc i) rest) some (each_at rest i d each inside).0 other))
    ∙ whole

-- All runs are met: what is written at last.
pub all_written : (x z y : List ℕ) (t n i : ℕ) (rest : List MovesSeen) → length rest ≤ i → 1 ≤ n →
    z ≡ x ++ bytes_of (record { ticket = t; count = n } ∷ []) → x ++ unwritten t n (drop i rest) ≡ y → z ≡ y
all_written x z y t n i rest k a w g = w ∙ ap (λ l. x ++ l) (sym (ap (unwritten t n) (drop_of_length-le rest k) ∙ no_more t n a)) ∙ g

-- A first run stands in front of the others.
pub first_run : (r : MovesSeen) (rs : List MovesSeen) →
    unwritten r.ticket r.count rs ≡ bytes_of (runs_of (tickets_in_log (spread (r ∷ rs))))
first_run r rs = sym (ap (λ ts. bytes_of (runs_of ts)) (tickets_run r.count (move_of r) (spread rs)))

-- The same, where the first run was read off a list.
pub first_of : (rs : List MovesSeen) (d : MovesSeen) → 1 ≤ length rs →
    unwritten (get_or rs 0 d).ticket (get_or rs 0 d).count (take (length rs - 1) (drop 1 rs)) ≡
    bytes_of (runs_of (tickets_in_log (spread rs)))
first_of [] d u = absurd (omega (arith, u))
first_of (r ∷ rs) d u = ap (unwritten r.ticket r.count) (take_all (length (r ∷ rs) - 1) rs (omega arith)) ∙ first_run r rs

-- How many moves are left behind a run.
pub fewer : (rest : List MovesSeen) (i : ℕ) (d : MovesSeen) → i < length rest →
    length (spread (drop i rest)) ≡ (get_or rest i d).count + length (spread (drop (i + 1) rest))
fewer rest i d k =
    let r : MovesSeen = get_or rest i d in
    let s : i + 1 ≡ suc i = omega arith in
    let a = length-append (replicate r.count (move_of r)) (spread (drop (suc i) rest)) in
    let b = length-replicate r.count (move_of r) in
    let c = ap (λ l. length (spread l)) (drop-cons rest i d k) in
    let e = ap (λ j. length (spread (drop j rest))) s in omega (arith, a, b, c, e)
