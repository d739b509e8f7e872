-- One turn of the reading: a line is judged, and the lines behind it follow.
use Rattle.std.proofs.Common.{◌≡◌, ℕ, suc, ◌+◌, ◌^◌, ◌<◌, Bool, true, false, ◌&&◌, List, [], ◌∷◌, length}
use Rattle.std.proofs.Common.{Option, Some, Ok, Err, refl, sym}
use Rattle.std.proofs.Common.{ap, ◌∙◌, arith}
use Rattle.std.specs.Prelude.{Result, nat_lt, nat_le, if◌then◌else◌}
use Rattle.schedule_log.specs.declared.fault.ScheduleFault.{ScheduleFault}
use Rattle.schedule_log.specs.declared.fault.ScheduleFault.TheVariants.{BadLine, TicketTooWide, NoEnd, TooLong}
use Rattle.schedule_log.specs.declared.version.Version.{Version}
use Rattle.text_lines.specs.Lines.{end_line, lines}
use Rattle.schedule_log.specs.Schedules.{Run, moves}
use Rattle.schedule_log.specs.Reading.{is_move_line, may_follow, run_in, ended, with_run, judged, judged_line, runs_from, counted}
use Rattle.text_lines.proofs.Scans.{first_line}
use Rattle.pcf_values.specs.Most.{most_moves}
use Rattle.schedule_log.proofs.OneWay.{not_same, end_told}

-- what is judged of a line, by its three tests
record Judged (b t c : Bool) (n : ℕ) (a r : Run) (s : Result (List Run) ScheduleFault) : Type 0 where
  whole : (if b then (if t then (if c then with_run a s else Err (TooLong n)) else Err (TicketTooWide n))
      else Err (BadLine n)) ≡ with_run a s
  run : a ≡ r

judged_is : (b t c : Bool) (n : ℕ) (a r : Run) (s : Result (List Run) ScheduleFault) →
    (if b then (if t then (if c then Ok a else Err (TooLong n)) else Err (TicketTooWide n)) else Err (BadLine n)) ≡ Ok r →
    Judged b t c n a r s
judged_is true true true n a r s h = record { whole = refl; run = cc }
judged_is true true false n a r s h = cc
judged_is true false c n a r s h = cc
judged_is false t c n a r s h = cc

refused_is : (b t c : Bool) (n : ℕ) (a : Run) (f : ScheduleFault) (s : Result (List Run) ScheduleFault) →
    (let w : Result Run ScheduleFault = if b then (if t then (if c then Ok a else Err (TooLong n)) else Err (TicketTooWide n))
    else Err (BadLine n) in w ≡ Err f) →
    (if b then (if t then (if c then with_run a s else Err (TooLong n)) else Err (TicketTooWide n)) else Err (BadLine n)) ≡ Err f
refused_is true true true n a f s h = cc
refused_is true true false n a f s h = cc
refused_is true false c n a f s h = cc
refused_is false t c n a f s h = cc

-- A line that is judged to be a run is it, and the lines behind it follow.
pub run_goes : (v : Version) (p : Option ℕ) (m n : ℕ) (l : List ℕ) (ls : List (List ℕ)) (r : Run) → (l ≡ end_line → ⊥) →
    judged_line v p m n l ≡ Ok r → runs_from v p m n (l ∷ ls) ≡ with_run r (runs_from v (Some r.ticket) (m + r.count) (suc n) ls)
run_goes v p m n l ls r q h =
    let a = run_in v l in
    let s = runs_from v (Some a.ticket) (m + a.count) (suc n) ls in
    let j = judged_is (is_move_line v l && may_follow v p a.ticket) (nat_lt a.ticket (2 ^ 32)) (nat_le (m + a.count) most_moves) n a r s
    h in
    ap (λ e. if e then ended n ls else judged (is_move_line v l && may_follow v p a.ticket) m n a s) (not_same l end_line q) ∙ j.whole
    ∙ ap (λ (r : Run). with_run r (runs_from v (Some r.ticket) (m + r.count) (suc n) ls)) j.run

-- A line that is judged to have a fault ends the reading with it.
pub run_fails : (v : Version) (p : Option ℕ) (m n : ℕ) (l : List ℕ) (ls : List (List ℕ)) (f : ScheduleFault) →
    (l ≡ end_line → ⊥) →
    judged_line v p m n l ≡ Err f → runs_from v p m n (l ∷ ls) ≡ Err f
run_fails v p m n l ls f q h =
    let a = run_in v l in
    let s = runs_from v (Some a.ticket) (m + a.count) (suc n) ls in
    ap (λ e. if e then ended n ls else judged (is_move_line v l && may_follow v p a.ticket) m n a s) (not_same l end_line q)
    ∙ refused_is (is_move_line v l && may_follow v p a.ticket) (nat_lt a.ticket (2 ^ 32)) (nat_le (m + a.count) most_moves) n a f s h

counted_more : (m : ℕ) (r : Run) (s : Result (List Run) ScheduleFault) → counted m (with_run r s) ≡ counted (m + r.count) s
counted_more m r (Ok rs) = let e : m + (r.count + moves rs) ≡ m + r.count + moves rs = omega arith in λ i. Ok (e i)
counted_more m r (Err f) = refl

-- One turn of the counting.
pub count_goes : (v : Version) (p : Option ℕ) (m n j : ℕ) (rest line more : List ℕ) (r : Run) (t : Result ℕ ScheduleFault) →
    lines rest ≡ line ∷ lines more → (line ≡ end_line → ⊥) → judged_line v p m n line ≡ Ok r → j ≡ n + 1 →
    counted m (runs_from v p m n (lines rest)) ≡ t →
    counted (m + r.count) (runs_from v (Some r.ticket) (m + r.count) j (lines more)) ≡ t
count_goes v p m n j rest line more r t e q h w g =
    let j' : j ≡ suc n = omega (arith, w) in
    ap (λ j. counted (m + r.count) (runs_from v (Some r.ticket) (m + r.count) j (lines more))) j'
    ∙ sym (ap (λ ls. counted m (runs_from v p m n ls)) e ∙ ap (counted m) (run_goes v p m n line (lines more) r q h)
    ∙ counted_more m r (runs_from v (Some r.ticket) (m + r.count) (suc n) (lines more)))
    ∙ g

-- The counting ends with the fault of a line.
pub count_fails : (v : Version) (p : Option ℕ) (m n : ℕ) (rest line more : List ℕ) (f : ScheduleFault) (t : Result ℕ ScheduleFault)
    →
    lines rest ≡ line ∷ lines more → (line ≡ end_line → ⊥) → judged_line v p m n line ≡ Err f →
    counted m (runs_from v p m n (lines rest)) ≡ t → t ≡ Err f
count_fails v p m n rest line more f t e q h g = sym g ∙ ap (λ ls. counted m (runs_from v p m n ls)) e
    ∙ ap (counted m) (run_fails v p m n line (lines more) f q h)

-- It ends at the last line.
pub count_ends : (v : Version) (p : Option ℕ) (m n : ℕ) (rest line more : List ℕ) (t : Result ℕ ScheduleFault) →
    lines rest ≡ line ∷ lines more → line ≡ end_line → length more ≡ 0 →
    counted m (runs_from v p m n (lines rest)) ≡ t → t ≡ Ok m
count_ends v p m n rest line [] t e q u g =
    let w : m + 0 ≡ m = omega arith in
    sym g ∙ ap (λ ls. counted m (runs_from v p m n ls)) e ∙ ap (counted m) (end_told v p m n line [] q) ∙ (λ i. Ok (w i))
count_ends v p m n rest line (b ∷ more) t e q u g = absurd (omega (arith, u))

ended_late : (n : ℕ) (more : List ℕ) → 0 < length more → ended n (lines more) ≡ Err (BadLine (suc n))
ended_late n more u = ap (ended n) (first_line more u)

-- It ends with a fault where bytes stand behind the last line.
pub count_late : (v : Version) (p : Option ℕ) (m n j : ℕ) (rest line more : List ℕ) (t : Result ℕ ScheduleFault) →
    lines rest ≡ line ∷ lines more → line ≡ end_line → 0 < length more → j ≡ n + 1 →
    counted m (runs_from v p m n (lines rest)) ≡ t → t ≡ Err (BadLine j)
count_late v p m n j rest line more t e q u w g =
    let j' : suc n ≡ j = omega (arith, w) in
    sym g ∙ ap (λ ls. counted m (runs_from v p m n ls)) e ∙
    ap (counted m) (end_told v p m n line (lines more) q ∙ ended_late n more u)
    ∙ (λ i. Err (BadLine (j' i)))

-- It ends with a fault where no line is left.
pub count_stops : (v : Version) (p : Option ℕ) (m n : ℕ) (rest : List ℕ) (t : Result ℕ ScheduleFault) → length rest ≡ 0 →
    counted m (runs_from v p m n (lines rest)) ≡ t → t ≡ Err NoEnd
count_stops v p m n [] t u g = sym g
count_stops v p m n (b ∷ rest) t u g = absurd (omega (arith, u))
