-- What is printed of tickets is a schedule text of them, and how long it is.
use Rattle.std.proofs.Common.{◌≡◌, ℕ, zero, suc, ◌+◌, ◌*◌, ◌%◌, ◌^◌, ◌<◌, ◌≤◌, Bool, true, false}
use Rattle.std.proofs.Common.{List, [], ◌∷◌, ◌++◌, length}
use Rattle.std.proofs.Common.{get_or, Option, Some, None, Ok, Err, refl, sym, ap, ◌∙◌, arith}
use Rattle.schedule_log.specs.declared.fault.ScheduleFault.{ScheduleFault}
use Rattle.schedule_log.specs.declared.fault.ScheduleFault.TheVariants.{NoMemory}
use Rattle.std.specs.Prelude.{Result, codes, decimal, nat_eq, if◌then◌else◌}
use Rattle.std.specs.Str.{all_ascii_digits}
use Rattle.std.specs.Str.Parse.{digits_value}
use Rattle.std.proofs.lemmas.Bool.{eqb-true, eqb-false}
use Rattle.std.proofs.lemmas.List.{length-append}
use Rattle.std.proofs.lemmas.Fmt.{decimal_by_steps, decimal_digit, decimal_nonempty, first_decimal, digits_decimal, digits_value-decimal}
use Rattle.std.proofs.lemmas.Fmt.{length-decimal-le}
use Rattle.std.proofs.lemmas.Str.Parse.{IsNumeralModel, numerals_by_value, tells_all_ascii_digits}
use Rattle.pcf_values.specs.Most.{most_moves}
use Rattle.schedule_log.specs.declared.version.Version.TheVariants.{Two}
use Rattle.text_lines.specs.Numbers.{Spells}
use Rattle.text_lines.specs.Lines.{end_line}
use Rattle.schedule_log.specs.Schedules.{Run, again, moves, tickets_of, header, MayFollow, Stand, TicketsFit, IsSchedule}
use Rattle.text_lines.specs.Lines.{joined}
use Rattle.schedule_log.specs.Runs.{with_ticket, runs_of, run_line, run_lines, schedule_text}
use Rattle.schedule_log.specs.Laws.{IsReadBack}
use Rattle.schedule_log.specs.LogsSeen.{Small}
use Rattle.schedule_log.proofs.OneWay.{one_answer}
use Rattle.text_lines.proofs.Lines.{AreLines, IsLine, feed_line, joined_lines, line_front, no_feed_decimal}
use Rattle.schedule_log.proofs.Found.{header_is_line}

own : IsNumeralModel (λ ds. all_ascii_digits ds ≡ true) (digits_value 10)
own = numerals_by_value (λ ds. all_ascii_digits ds ≡ true) tells_all_ascii_digits

zero_plain : (n : ℕ) → n ≡ 0 → length (decimal n) ≡ 1
zero_plain n e = ap (λ n. length (decimal n)) e ∙ ap length (decimal_digit 0 (omega arith))

decimal_plain : (n : ℕ) → n < 2 ^ 64 → get_or (decimal n) 0 0 ≡ 48 → length (decimal n) ≡ 1
decimal_plain zero u e = zero_plain 0 refl
decimal_plain (suc n) u e = let f = first_decimal (suc n) (omega arith) u in absurd (omega (arith, f, e))

-- A number in decimal is spelled.
pub decimal_spells : (n : ℕ) → n < 2 ^ 64 → Spells (decimal n) n
decimal_spells n u = record {
  some = decimal_nonempty n u;
  digits = digits_decimal own n u;
  plain = decimal_plain n u;
  value = digits_value-decimal own n u;
}

run_is_line : (r : Run) → r.ticket < 2 ^ 64 → r.count < 2 ^ 64 → IsLine (run_line r)
run_is_line r u w =
    line_front (decimal r.ticket) (codes " " ++ (decimal r.count ++ codes "\n")) (no_feed_decimal r.ticket u)
    (line_front (codes " ") (decimal r.count ++ codes "\n") refl
    (line_front (decimal r.count) (codes "\n") (no_feed_decimal r.count w) feed_line))

-- runs of which each is another ticket than that before it, and moves
abbrev Alternate : Option ℕ → List Run → Type 0
Alternate p [] = Unit {0}
Alternate p (r ∷ rs) = MayFollow Two p r.ticket × (1 ≤ r.count) × Alternate (Some r.ticket) rs

joins : (b : Bool) (t : ℕ) (r : Run) (rs : List Run) → nat_eq t r.ticket ≡ b → Alternate None (r ∷ rs) →
    Alternate None (if b then record { ticket = r.ticket; count = suc r.count } ∷ rs else record { ticket = t; count = 1 } ∷ (r ∷ rs))
joins true t r rs e a = (tt, omega arith, a.2)
joins false t r rs e a = (tt, omega arith, (λ g. eqb-false t r.ticket e (sym g), a.1, a.2))

with_alternate : (t : ℕ) (rs : List Run) → Alternate None rs → Alternate None (with_ticket t rs)
with_alternate t [] a = (tt, omega arith, tt)
with_alternate t (r ∷ rs) a = joins (nat_eq t r.ticket) t r rs refl a

alternate : (ts : List ℕ) → Alternate None (runs_of ts)
alternate [] = tt
alternate (t ∷ ts) = with_alternate t (runs_of ts) (alternate ts)

join_tickets : (b : Bool) (t : ℕ) (r : Run) (rs : List Run) → nat_eq t r.ticket ≡ b →
    tickets_of (if b then record { ticket = r.ticket; count = suc r.count } ∷ rs
    else record { ticket = t; count = 1 } ∷ (r ∷ rs)) ≡ t ∷ tickets_of (r ∷ rs)
join_tickets true t r rs e = λ i. sym (eqb-true t r.ticket e) i ∷ again r.ticket r.count (tickets_of rs)
join_tickets false t r rs e = refl

with_tickets : (t : ℕ) (rs : List Run) → tickets_of (with_ticket t rs) ≡ t ∷ tickets_of rs
with_tickets t [] = refl
with_tickets t (r ∷ rs) = join_tickets (nat_eq t r.ticket) t r rs refl

-- The runs of tickets stand for these tickets.
pub runs_tickets : (ts : List ℕ) → tickets_of (runs_of ts) ≡ ts
runs_tickets [] = refl
runs_tickets (t ∷ ts) = with_tickets t (runs_of ts) ∙ ap (λ ts. t ∷ ts) (runs_tickets ts)

join_moves : (b : Bool) (t : ℕ) (r : Run) (rs : List Run) →
    moves (if b then record { ticket = r.ticket; count = suc r.count } ∷ rs
    else record { ticket = t; count = 1 } ∷ (r ∷ rs)) ≡ suc (moves (r ∷ rs))
join_moves true t r rs = omega arith
join_moves false t r rs = omega arith

with_moves : (t : ℕ) (rs : List Run) → moves (with_ticket t rs) ≡ suc (moves rs)
with_moves t [] = omega arith
with_moves t (r ∷ rs) = join_moves (nat_eq t r.ticket) t r rs

-- Runs stand for as many moves as there are tickets.
pub runs_moves : (ts : List ℕ) → moves (runs_of ts) ≡ length ts
runs_moves [] = refl
runs_moves (t ∷ ts) = with_moves t (runs_of ts) ∙ ap suc (runs_moves ts)

join_fit : (b : Bool) (t : ℕ) (r : Run) (rs : List Run) → t < 2 ^ 32 → TicketsFit (r ∷ rs) →
    TicketsFit (if b then record { ticket = r.ticket; count = suc r.count } ∷ rs else record { ticket = t; count = 1 } ∷ (r ∷ rs))
join_fit true t r rs u f = f
join_fit false t r rs u f = (u, f)

with_fit : (t : ℕ) (rs : List Run) → t < 2 ^ 32 → TicketsFit rs → TicketsFit (with_ticket t rs)
with_fit t [] u f = (u, tt)
with_fit t (r ∷ rs) u f = join_fit (nat_eq t r.ticket) t r rs u f

runs_fit : (ts : List ℕ) → Small ts → TicketsFit (runs_of ts)
runs_fit [] s = tt
runs_fit (t ∷ ts) s = with_fit t (runs_of ts) s.0 (runs_fit ts s.1)

-- the lines of runs alone
abbrev only_lines : List Run → List (List ℕ)
only_lines [] = []
only_lines (r ∷ rs) = run_line r ∷ only_lines rs

lines_end : (rs : List Run) → run_lines rs ≡ only_lines rs ++ end_line ∷ []
lines_end [] = refl
lines_end (r ∷ rs) = ap (λ ls. run_line r ∷ ls) (lines_end rs)

-- The lines of runs stand for them, where no two neighbours have one ticket.
stand : (p : Option ℕ) (rs : List Run) → Alternate p rs → TicketsFit rs → moves rs ≤ most_moves → Stand Two p (only_lines rs) rs
stand p [] a f u = tt
stand p (r ∷ rs) a f u = (
  record {
    digits = decimal r.ticket;
    more = decimal r.count;
    ticket = decimal_spells r.ticket (omega (arith, f.0));
    count = decimal_spells r.count (omega (arith, u));
    some = a.1;
    line = refl;
  },
  a.0,
  stand (Some r.ticket) rs a.2 f.1 (omega (arith, u)),
)

are_lines : (rs : List Run) → TicketsFit rs → moves rs ≤ most_moves → AreLines (run_lines rs)
are_lines [] f u = (record { bytes = codes "end"; fine = refl; is = refl }, tt)
are_lines (r ∷ rs) f u = (run_is_line r (omega (arith, f.0)) (omega (arith, u)), are_lines rs f.1 (omega (arith, u)))

-- the text of so many tickets is short
abbrev Few : ℕ → List ℕ → Type 0
Few n ds = 1 ≤ n → length ds ≤ n

-- A number of 1 or more has at most so many digits.
digits_few : (n : ℕ) → n < 2 ^ 64 → 1 ≤ n → length (decimal n) ≤ n
digits_few n h = decimal_by_steps Few (λ n u w. w) (λ n ds u p w. let e = length-append ds ((48 + n % 10) ∷ []) in
    let q = p (omega (arith, u)) in omega (arith, e, q, u)) n h

run_length : (r : Run) → r.ticket < 2 ^ 32 → 1 ≤ r.count → r.count ≤ most_moves → length (run_line r) ≤ 13 * r.count
run_length r u a w =
    let t = length-decimal-le 10 r.ticket (omega arith) (omega (arith, u)) (omega (arith, u)) in
    let n = digits_few r.count (omega (arith, w)) a in
    let e = length-append (decimal r.ticket) (codes " " ++ (decimal r.count ++ codes "\n")) in
    let g = length-append (decimal r.count) (codes "\n") in
    omega (arith, t, n, e, g, a)

runs_length : (p : Option ℕ) (rs : List Run) → Alternate p rs → TicketsFit rs → moves rs ≤ most_moves →
    length (joined (run_lines rs)) ≤ 13 * moves rs + 4
runs_length p [] a f u = omega arith
runs_length p (r ∷ rs) a f u =
    let l = run_length r f.0 a.1 (omega (arith, u)) in
    let m = runs_length (Some r.ticket) rs a.2 f.1 (omega (arith, u)) in
    let e = length-append (run_line r) (joined (run_lines rs)) in
    omega (arith, l, m, e)

-- The text of n moves has at most 13 n + 15 bytes.
pub printed_is_short : (tickets : List ℕ) → Small tickets → length tickets ≤ most_moves →
    length (schedule_text tickets) ≤ 13 * length tickets + 15
printed_is_short tickets s u =
    let e = runs_moves tickets in
    let m = runs_length None (runs_of tickets) (alternate tickets) (runs_fit tickets s) (omega (arith, e, u)) in
    omega (arith, m, e)

-- What is printed is the text of these tickets.
pub printed_is_read : (tickets : List ℕ) → Small tickets → length tickets ≤ most_moves →
    IsSchedule (schedule_text tickets) tickets
printed_is_read tickets s u =
    let rs = runs_of tickets in
    let e = runs_moves tickets in
    let f = runs_fit tickets s in
    let few : moves rs ≤ most_moves = omega (arith, e, u) in
    let short = printed_is_short tickets s u in
    record {
      version = Two;
      more = run_lines rs;
      runs = rs;
      short = omega (arith, short, u);
      lines_are = joined_lines (header Two ∷ run_lines rs) (header_is_line Two, are_lines rs f few);
      whole = record {
        before = only_lines rs;
        are = lines_end rs;
        stand = stand None rs (alternate tickets) f few;
        tickets = f;
        few = omega (arith, few);
      };
      tickets_are = sym (runs_tickets tickets);
    }

-- What is printed is read as its tickets, and as nothing else.
pub read_back : (tickets : List ℕ) → Small tickets → length tickets ≤ most_moves → IsReadBack tickets
read_back tickets s u =
    let x = printed_is_read tickets s u in
    record {
      text = x;
      only = λ r q y. sym (one_answer (schedule_text tickets) r q y)
          ∙ one_answer (schedule_text tickets) (Ok tickets) ok_is_no_fault x;
    }
  where
    ok_is_no_fault : (let r : Result (List ℕ) ScheduleFault = Ok tickets in r ≡ Err NoMemory) → ⊥
    ok_is_no_fault h = cc
