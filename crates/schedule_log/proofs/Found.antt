-- What the reading answers is the first fault, or what the whole text stands for.
use Rattle.std.proofs.Common.{◌≡◌, ℕ, zero, suc, ◌+◌, ◌^◌, ◌<◌, ◌≤◌, Bool, true, false, ◌&&◌, List, []}
use Rattle.std.proofs.Common.{◌∷◌, length, Option, Some, None, Ok}
use Rattle.std.proofs.Common.{Err, refl, sym, ap, ◌∙◌, subst, inl, inr, arith}
use Rattle.std.specs.Prelude.{Result, codes, nat_lt, nat_le, if◌then◌else◌}
use Rattle.std.specs.Str.{bytes_eq}
use Rattle.std.proofs.lemmas.Bool.{ltb-true, ltb-false, leb-true, leb-false, and_parts, and_from, both_ways}
use Rattle.pcf_values.specs.Most.{most_moves, most_schedule_bytes}
use Rattle.schedule_log.specs.declared.fault.ScheduleFault.{ScheduleFault}
use Rattle.schedule_log.specs.declared.fault.ScheduleFault.TheVariants.{NoMemory, BadHeader, BadLine, TicketTooWide, NoEnd, TooLong}
use Rattle.schedule_log.specs.declared.version.Version.{Version}
use Rattle.schedule_log.specs.declared.version.Version.TheVariants.{One, Two}
use Rattle.text_lines.specs.Lines.{end_line, lines}
use Rattle.schedule_log.specs.Schedules.{Run, moves, header, IsMoveLine, MayFollow, last_ticket, FaultHere, FirstFault, Whole, LacksHeader}
use Rattle.schedule_log.specs.Schedules.{HasFault, ReadAs}
use Rattle.schedule_log.specs.Reading.{run_in, is_move_line, may_follow, ended, with_run, judged, runs_from, only_tickets, behind_header}
use Rattle.schedule_log.specs.Reading.{tickets_in}
use Rattle.text_lines.proofs.Lines.{IsLine, line_split}
use Rattle.text_lines.proofs.Firsts.{first_is, no_first}
use Rattle.text_lines.proofs.Numbers.{is_same, same_is}
use Rattle.schedule_log.proofs.Numbers.{line_is, is_line, follows_is, is_follows}

-- what lines from line n on are read as
abbrev pub RunsRead : Version → Option ℕ → ℕ → ℕ → List (List ℕ) → Result (List Run) ScheduleFault → Type 0
RunsRead v p m n ls (Ok rs) = Whole v p m ls rs
RunsRead v p m n ls (Err f) = FirstFault v p m n ls f

moved : (v : Version) (p : Option ℕ) (m k n j : ℕ) (ls : List (List ℕ)) (f : ScheduleFault) → m ≡ k → n ≡ j →
    FaultHere v p m n ls f →
    FaultHere v p k j ls f
moved v p m k n j ls f e g h = subst (λ k. FaultHere v p k j ls f) e (subst (λ j. FaultHere v p m j ls f) g h)

-- The first line has the fault.
here : (v : Version) (p : Option ℕ) (m n : ℕ) (ls : List (List ℕ)) (f : ScheduleFault) → m ≤ most_moves →
    FaultHere v p m n ls f →
    FirstFault v p m n ls f
here v p m n ls f u h = record {
  before = [];
  rest = ls;
  runs = [];
  are = refl;
  stand = tt;
  tickets = tt;
  few = omega (arith, u);
  fault = moved v p m (m + 0) n (n + 0) ls f (omega arith) (omega arith) h;
}

-- A later line has it.
later : (v : Version) (p : Option ℕ) (m n : ℕ) (l : List ℕ) (ls : List (List ℕ)) (r : Run) (f : ScheduleFault) →
    IsMoveLine v l r →
    MayFollow v p r.ticket → r.ticket < 2 ^ 32 → FirstFault v (Some r.ticket) (m + r.count) (suc n) ls f →
    FirstFault v p m n (l ∷ ls) f
later v p m n l ls r f line follows fits found = record {
  before = l ∷ found.before;
  rest = found.rest;
  runs = r ∷ found.runs;
  are = λ i. l ∷ found.are i;
  stand = (line, follows, found.stand);
  tickets = (fits, found.tickets);
  few = omega (arith, found.few);
  fault = moved v (last_ticket (Some r.ticket) found.runs) (m + r.count + moves found.runs) (m + (r.count + moves found.runs))
      (suc n + length found.before) (n + suc (length found.before)) found.rest f (omega arith) (omega arith) found.fault;
}

later_whole : (v : Version) (p : Option ℕ) (m : ℕ) (l : List ℕ) (ls : List (List ℕ)) (r : Run) (rs : List Run) →
    IsMoveLine v l r →
    MayFollow v p r.ticket → r.ticket < 2 ^ 32 → Whole v (Some r.ticket) (m + r.count) ls rs → Whole v p m (l ∷ ls) (r ∷ rs)
later_whole v p m l ls r rs a b c x = record {
  before = l ∷ x.before;
  are = λ i. l ∷ x.are i;
  stand = (a, b, x.stand);
  tickets = (c, x.tickets);
  few = omega (arith, x.few);
}

-- A move line within the limits stands before what the lines behind it are read as.
with_read : (v : Version) (p : Option ℕ) (m n : ℕ) (l : List ℕ) (ls : List (List ℕ)) (r : Run) (s : Result (List Run) ScheduleFault)
    →
    IsMoveLine v l r → MayFollow v p r.ticket → r.ticket < 2 ^ 32 → RunsRead v (Some r.ticket) (m + r.count) (suc n) ls s →
    RunsRead v p m n (l ∷ ls) (with_run r s)
with_read v p m n l ls r (Ok rs) a b c x = later_whole v p m l ls r rs a b c x
with_read v p m n l ls r (Err f) a b c x = later v p m n l ls r f a b c x

-- A move line is read as its run, or as the limit that it passes, by the two tests of the limits.
fits_read : (v : Version) (p : Option ℕ) (m n : ℕ) (l : List ℕ) (ls : List (List ℕ)) (r : Run) (s : Result (List Run) ScheduleFault)
    (t c : Bool) → nat_lt r.ticket (2 ^ 32) ≡ t → nat_le (m + r.count) most_moves ≡ c →
    IsMoveLine v l r → MayFollow v p r.ticket → m ≤ most_moves →
    (m + r.count ≤ most_moves → RunsRead v (Some r.ticket) (m + r.count) (suc n) ls s) →
    RunsRead v p m n (l ∷ ls) (if t then (if c then with_run r s else Err (TooLong n)) else Err (TicketTooWide n))
fits_read v p m n l ls r s true true narrow few line follows within rest =
    with_read v p m n l ls r s line follows (ltb-true r.ticket (2 ^ 32) narrow)
    (rest (leb-true (m + r.count) most_moves few))
fits_read v p m n l ls r s true false narrow few line follows within rest =
    here v p m n (l ∷ ls) (TooLong n) within (
      refl,
      record {
        run = r;
        is = line;
        follows = follows;
        fits = ltb-true r.ticket (2 ^ 32) narrow;
        much = leb-false (m + r.count) most_moves few;
      },
    )
fits_read v p m n l ls r s false c narrow few line follows within rest =
    here v p m n (l ∷ ls) (TicketTooWide n) within (
      refl,
      record { run = r; is = line; follows = follows; wide = ltb-false r.ticket (2 ^ 32) narrow },
    )

-- a line that is told to be no move line, or not to follow
pub no_line : (v : Version) (p : Option ℕ) (l : List ℕ) → (is_move_line v l && may_follow v p (run_in v l).ticket) ≡ false →
    (r : Run) →
    IsMoveLine v l r → MayFollow v p r.ticket → ⊥
no_line v p l e r a b =
    let t = is_line v l r a in
    let g : may_follow v p (run_in v l).ticket ≡ true = ap (λ (r : Run). may_follow v p r.ticket) t.run ∙ is_follows v p r.ticket b in
    both_ways (is_move_line v l && may_follow v p (run_in v l).ticket) e
    (and_from (is_move_line v l) (may_follow v p (run_in v l).ticket) t.is g)

judged_read : (v : Version) (p : Option ℕ) (m n : ℕ) (l : List ℕ) (ls : List (List ℕ)) (s : Result (List Run) ScheduleFault)
    (b : Bool) →
    (is_move_line v l && may_follow v p (run_in v l).ticket) ≡ b → (l ≡ end_line → ⊥) → m ≤ most_moves →
    (m + (run_in v l).count ≤ most_moves → RunsRead v (Some (run_in v l).ticket) (m + (run_in v l).count) (suc n) ls s) →
    RunsRead v p m n (l ∷ ls) (judged b m n (run_in v l) s)
judged_read v p m n l ls s true e q u x =
    let (a, b) = and_parts (is_move_line v l) (may_follow v p (run_in v l).ticket) e in
    fits_read v p m n l ls (run_in v l) s (nat_lt (run_in v l).ticket (2 ^ 32)) (nat_le (m + (run_in v l).count) most_moves) refl refl
    (line_is v l a) (follows_is v p (run_in v l).ticket b) u x
judged_read v p m n l ls s false e q u x = here v p m n (l ∷ ls) (BadLine n) u (inl (refl, record { other = q; none = no_line v p l e }))

ended_read : (v : Version) (p : Option ℕ) (m n : ℕ) (l : List ℕ) (ls : List (List ℕ)) → l ≡ end_line → m ≤ most_moves →
    RunsRead v p m n (l ∷ ls) (ended n ls)
ended_read v p m n l [] e u = record { before = []; are = λ i. e i ∷ []; stand = tt; tickets = tt; few = omega (arith, u) }
ended_read v p m n l (k ∷ ls) e u = here v p m n (l ∷ k ∷ ls) (BadLine (suc n)) u
    (inr (refl, record { end = e; behind = omega arith }))

chosen_read : (v : Version) (p : Option ℕ) (m n : ℕ) (l : List ℕ) (ls : List (List ℕ)) (s : Result (List Run) ScheduleFault)
    (e : Bool) →
    bytes_eq l end_line ≡ e → m ≤ most_moves → ((l ≡ end_line → ⊥) → RunsRead v p m n (l ∷ ls) s) →
    RunsRead v p m n (l ∷ ls) (if e then ended n ls else s)
chosen_read v p m n l ls s true e u x = ended_read v p m n l ls (same_is l end_line e) u
chosen_read v p m n l ls s false e u x = x (λ g. both_ways (bytes_eq l end_line) e (is_same l end_line g))

-- What is answered of lines is their first fault, or the runs for which all stand.
pub runs_read : (v : Version) (p : Option ℕ) (m n : ℕ) (ls : List (List ℕ)) → m ≤ most_moves →
    RunsRead v p m n ls (runs_from v p m n ls)
runs_read v p m n [] u = here v p m n [] NoEnd u refl
runs_read v p m n (l ∷ ls) u =
    chosen_read v p m n l ls (judged (is_move_line v l && may_follow v p (run_in v l).ticket) m n (run_in v l)
    (runs_from v (Some (run_in v l).ticket) (m + (run_in v l).count) (suc n) ls)) (bytes_eq l end_line) refl u
    (λ q. judged_read v p m n l ls (runs_from v (Some (run_in v l).ticket) (m + (run_in v l).count) (suc n) ls)
    (is_move_line v l && may_follow v p (run_in v l).ticket) refl q u
    (λ w. runs_read v (Some (run_in v l).ticket) (m + (run_in v l).count) (suc n) ls w))

-- A header is a line.
pub header_is_line : (v : Version) → IsLine (header v)
header_is_line One = record { bytes = codes "schedule 1"; fine = refl; is = refl }
header_is_line Two = record { bytes = codes "schedule 2"; fine = refl; is = refl }

-- No line behind the header has one of the faults of the whole text.
no_bad_header : (v : Version) (p : Option ℕ) (m n : ℕ) (ls : List (List ℕ)) → FaultHere v p m n ls BadHeader → ⊥
no_bad_header v p m n [] h = bad_is_no h
  where
    bad_is_no : (let f : ScheduleFault = BadHeader in f ≡ NoEnd) → ⊥
    bad_is_no h = cc
no_bad_header v p m n (l ∷ ls) h = h

no_line_zero : (v : Version) (p : Option ℕ) (m n : ℕ) (ls : List (List ℕ)) → 2 ≤ n → FaultHere v p m n ls (TooLong zero) → ⊥
no_line_zero v p m n [] u h = long_is_no h
  where
    long_is_no : (let f : ScheduleFault = TooLong zero in f ≡ NoEnd) → ⊥
    long_is_no h = cc
no_line_zero v p m n (l ∷ ls) u h = omega (arith, u, h.0)

fault_read : (bytes : List ℕ) (f : ScheduleFault) → HasFault bytes f → ReadAs bytes (Err f)
fault_read bytes NoMemory h = tt
fault_read bytes BadHeader h = absurd (no_bad_header h.version (last_ticket None h.first.runs) (0 + moves h.first.runs)
    (2 + length h.first.before) h.first.rest h.first.fault)
fault_read bytes (BadLine n) h = h
fault_read bytes (TicketTooWide n) h = h
fault_read bytes NoEnd h = h
fault_read bytes (TooLong zero) h = absurd (no_line_zero h.version (last_ticket None h.first.runs) (0 + moves h.first.runs)
    (2 + length h.first.before) h.first.rest (omega arith) h.first.fault)
fault_read bytes (TooLong (suc n)) h = h

-- what a text is read as whose first line is a header
body_read : (bytes : List ℕ) (v : Version) (more : List (List ℕ)) (s : Result (List Run) ScheduleFault) →
    length bytes ≤ most_schedule_bytes → lines bytes ≡ header v ∷ more → RunsRead v None 0 2 more s →
    ReadAs bytes (only_tickets s)
body_read bytes v more (Ok rs) u e x = record {
  version = v;
  more = more;
  runs = rs;
  short = u;
  lines_are = e;
  whole = x;
  tickets_are = refl;
}
body_read bytes v more (Err f) u e x = fault_read bytes f (record { version = v; more = more; short = u; lines_are = e; first = x })

-- A text whose first line is no header begins with none.
lacks : (bytes l : List ℕ) (ls : List (List ℕ)) → length bytes ≤ most_schedule_bytes → lines bytes ≡ l ∷ ls →
    (l ≡ header Two → ⊥) →
    (l ≡ header One → ⊥) → LacksHeader bytes
lacks bytes l ls u e a b = record {
  short = u;
  none = λ v rest h. other v (first_is l (header v) ls (lines rest) (sym e ∙ ap lines h
      ∙ line_split (header v) rest (header_is_line v)));
}
  where
    other : (v : Version) → l ≡ header v → ⊥
    other One h = b h
    other Two h = a h

-- bytes are read by their first line: as runs behind the header of a version, or as a text that lacks a header
header_read : (bytes l : List ℕ) (ls : List (List ℕ)) (t o : Bool) → bytes_eq l (header Two) ≡ t →
    bytes_eq l (header One) ≡ o →
    length bytes ≤ most_schedule_bytes → lines bytes ≡ l ∷ ls →
    ReadAs bytes (only_tickets (if t then runs_from Two None 0 2 ls else if o then runs_from One None 0 2 ls else Err BadHeader))
header_read bytes l ls true o g h u e = body_read bytes Two ls (runs_from Two None 0 2 ls) u (e
    ∙ ap (λ l. l ∷ ls) (same_is l (header Two) g)) (runs_read Two None 0 2 ls (omega arith))
header_read bytes l ls false true g h u e = body_read bytes One ls (runs_from One None 0 2 ls) u (e
    ∙ ap (λ l. l ∷ ls) (same_is l (header One) h)) (runs_read One None 0 2 ls (omega arith))
header_read bytes l ls false false g h u e =
    lacks bytes l ls u e (λ i. both_ways (bytes_eq l (header Two)) g (is_same l (header Two) i))
    (λ i. both_ways (bytes_eq l (header One)) h (is_same l (header One) i))

lines_read : (bytes : List ℕ) (ls : List (List ℕ)) → length bytes ≤ most_schedule_bytes → lines bytes ≡ ls →
    ReadAs bytes (only_tickets (behind_header ls))
lines_read bytes [] u e = record {
  short = u;
  none = λ v rest h. no_first (header v) (lines rest) (sym e ∙ ap lines h
      ∙ line_split (header v) rest (header_is_line v));
}
lines_read bytes (l ∷ ls) u e = header_read bytes l ls (bytes_eq l (header Two)) (bytes_eq l (header One)) refl refl u e

short_read : (bytes : List ℕ) (b : Bool) → nat_le (length bytes) most_schedule_bytes ≡ b →
    ReadAs bytes (if b then only_tickets (behind_header (lines bytes)) else Err (TooLong 0))
short_read bytes true e = lines_read bytes (lines bytes) (leb-true (length bytes) most_schedule_bytes e) refl
short_read bytes false e = leb-false (length bytes) most_schedule_bytes e

-- What is answered of any bytes is what they are read as.
pub first_fault_found : (bytes : List ℕ) → ReadAs bytes (tickets_in bytes)
first_fault_found bytes = short_read bytes (nat_le (length bytes) most_schedule_bytes) refl

-- the runs that were read, or a fault other than want of memory
abbrev Tells : Result (List Run) ScheduleFault → Type 0
Tells s = s ≡ Err NoMemory → ⊥

with_tells : (r : Run) (s : Result (List Run) ScheduleFault) → Tells s → Tells (with_run r s)
with_tells r (Ok rs) h e = cc
with_tells r (Err f) h e = h e

ended_tells : (n : ℕ) (ls : List (List ℕ)) → Tells (ended n ls)
ended_tells n [] e = cc
ended_tells n (l ∷ ls) e = cc

-- a line by its three tests
line_tells : (b t c : Bool) (n : ℕ) (r : Run) (s : Result (List Run) ScheduleFault) → Tells s →
    Tells (if b then (if t then (if c then with_run r s else Err (TooLong n)) else Err (TicketTooWide n)) else Err (BadLine n))
line_tells true true true n r s h e = with_tells r s h e
line_tells true true false n r s h e = cc
line_tells true false c n r s h e = cc
line_tells false t c n r s h e = cc

-- of the lines behind a header each list gives runs or a fault
runs_tell : (v : Version) (p : Option ℕ) (m n : ℕ) (ls : List (List ℕ)) → Tells (runs_from v p m n ls)
runs_tell v p m n [] = λ e. cc
runs_tell v p m n (l ∷ ls) =
    go (bytes_eq l end_line) (runs_from v (Some (run_in v l).ticket) (m + (run_in v l).count) (suc n) ls)
    (runs_tell v (Some (run_in v l).ticket) (m + (run_in v l).count) (suc n) ls)
  where
    go : (b : Bool) (s : Result (List Run) ScheduleFault) → Tells s →
        Tells (if b then ended n ls else judged (is_move_line v l && may_follow v p (run_in v l).ticket) m n (run_in v l) s)
    go true s h = ended_tells n ls
    go false s h = line_tells (is_move_line v l && may_follow v p (run_in v l).ticket) (nat_lt (run_in v l).ticket (2 ^ 32))
        (nat_le (m + (run_in v l).count) most_moves) n (run_in v l) s h

header_tells : (ls : List (List ℕ)) → Tells (behind_header ls)
header_tells [] = λ e. cc
header_tells (l ∷ ls) = go (bytes_eq l (header Two)) (bytes_eq l (header One))
  where
    go : (t o : Bool) → Tells (if t then runs_from Two None 0 2 ls else if o then runs_from One None 0 2 ls else Err BadHeader)
    go true o = runs_tell Two None 0 2 ls
    go false true = runs_tell One None 0 2 ls
    go false false = λ e. cc

tickets_tell : (s : Result (List Run) ScheduleFault) → Tells s → only_tickets s ≡ Err NoMemory → ⊥
tickets_tell (Ok rs) h e = cc
tickets_tell (Err f) h e = let same : f ≡ NoMemory = cc in h (ap Err same)

-- No bytes are answered by want of memory.
pub memory_not_wanted : (bytes : List ℕ) → tickets_in bytes ≡ Err NoMemory → ⊥
memory_not_wanted bytes = go (nat_le (length bytes) most_schedule_bytes)
  where
    go : (b : Bool) → (if b then only_tickets (behind_header (lines bytes)) else Err (TooLong 0)) ≡ Err NoMemory → ⊥
    go true e = tickets_tell (behind_header (lines bytes)) (header_tells (lines bytes)) e
    go false e = cc
