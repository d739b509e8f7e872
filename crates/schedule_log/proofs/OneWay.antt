-- What bytes are read as is what the reading answers, so there is one such answer at most.
use Rattle.std.proofs.Common.{◌≡◌, ℕ, zero, suc, ◌+◌, ◌^◌, ◌<◌, ◌≤◌, true, false, ◌&&◌, List, [], ◌∷◌}
use Rattle.std.proofs.Common.{◌++◌, length, Option, Some, None, Ok}
use Rattle.std.proofs.Common.{Err, refl, sym, ap, ◌∙◌, inl, inr, arith}
use Rattle.std.specs.Prelude.{Result, nat_le, if◌then◌else◌}
use Rattle.std.specs.Str.{bytes_eq}
use Rattle.std.proofs.lemmas.Bool.{lt-ltb, le-ltb, le-leb, lt-leb, and_parts, and_from, both_ways, cases_Bool}
use Rattle.pcf_values.specs.Most.{most_moves, most_schedule_bytes}
use Rattle.schedule_log.specs.declared.fault.ScheduleFault.{ScheduleFault}
use Rattle.schedule_log.specs.declared.fault.ScheduleFault.TheVariants.{NoMemory, BadHeader, BadLine, TicketTooWide, NoEnd, TooLong}
use Rattle.schedule_log.specs.declared.version.Version.{Version}
use Rattle.schedule_log.specs.declared.version.Version.TheVariants.{One, Two}
use Rattle.text_lines.specs.Lines.{IsEarly, end_line, lines}
use Rattle.schedule_log.specs.Schedules.{Run, moves, header, IsMoveLine, MayFollow, Stand, TicketsFit, last_ticket, IsNoLine, IsWide}
use Rattle.schedule_log.specs.Schedules.{IsMuch, FaultHere, FirstFault, Whole, IsSchedule, LacksHeader, HasFault, ReadAs}
use Rattle.text_lines.specs.Lines.{joined}
use Rattle.schedule_log.specs.Reading.{run_in, is_move_line, may_follow, ended, with_run, judged, runs_from, only_tickets, behind_header}
use Rattle.schedule_log.specs.Reading.{tickets_in}
use Rattle.text_lines.proofs.Lines.{lines_joined}
use Rattle.text_lines.proofs.Numbers.{is_same, same_is}
use Rattle.schedule_log.proofs.Numbers.{line_is, is_line, follows_is, is_follows}

-- Bytes that differ are told to.
pub not_same : (a b : List ℕ) → (a ≡ b → ⊥) → bytes_eq a b ≡ false
not_same a b q = elim (cases_Bool (bytes_eq a b)) [ inl e ↦ absurd (q (same_is a b e)) | inr e ↦ e ]

end_is_no_move : (v : Version) → is_move_line v end_line ≡ false
end_is_no_move One = refl
end_is_no_move Two = refl

move_is_not_end : (v : Version) (l : List ℕ) (r : Run) → IsMoveLine v l r → l ≡ end_line → ⊥
move_is_not_end v l r a e = both_ways (is_move_line v end_line) (end_is_no_move v) (ap (is_move_line v) (sym e) ∙ (is_line v l r a).is)

-- the lines from line n on, of which the first is a move line that may stand there
abbrev after : Version → ℕ → ℕ → List (List ℕ) → Run → Result (List Run) ScheduleFault
after v m n ls r = judged true m n r (runs_from v (Some r.ticket) (m + r.count) (suc n) ls)

move_told : (v : Version) (p : Option ℕ) (m n : ℕ) (l : List ℕ) (ls : List (List ℕ)) (r : Run) → IsMoveLine v l r →
    MayFollow v p r.ticket → runs_from v p m n (l ∷ ls) ≡ after v m n ls r
move_told v p m n l ls r a b =
    let t = is_line v l r a in
    let s = runs_from v (Some (run_in v l).ticket) (m + (run_in v l).count) (suc n) ls in
    let may = may_follow v p (run_in v l).ticket in
    let g : may ≡ true = ap (λ (r : Run). may_follow v p r.ticket) t.run ∙ is_follows v p r.ticket b in
    ap (λ e. if e then ended n ls else judged (is_move_line v l && may) m n (run_in v l) s) (not_same l end_line (move_is_not_end v l r a))
    ∙ ap (λ b. judged b m n (run_in v l) s) (and_from (is_move_line v l) may t.is g)
    ∙ ap (after v m n ls) t.run

-- A move line within the limits is read as its run.
pub stands_told : (v : Version) (p : Option ℕ) (m n : ℕ) (l : List ℕ) (ls : List (List ℕ)) (r : Run) → IsMoveLine v l r →
    MayFollow v p r.ticket → r.ticket < 2 ^ 32 → m + r.count ≤ most_moves →
    runs_from v p m n (l ∷ ls) ≡ with_run r (runs_from v (Some r.ticket) (m + r.count) (suc n) ls)
stands_told v p m n l ls r a b c d =
    let s = runs_from v (Some r.ticket) (m + r.count) (suc n) ls in
    move_told v p m n l ls r a b
    ∙ ap (λ t. if t then (if nat_le (m + r.count) most_moves then with_run r s else Err (TooLong n))
    else Err (TicketTooWide n)) (lt-ltb r.ticket (2 ^ 32) c)
    ∙ ap (λ t. if t then with_run r s else Err (TooLong n)) (le-leb (m + r.count) most_moves d)

wide_told : (v : Version) (p : Option ℕ) (m n : ℕ) (l : List ℕ) (ls : List (List ℕ)) → IsWide v p l →
    runs_from v p m n (l ∷ ls) ≡ Err (TicketTooWide n)
wide_told v p m n l ls w =
    let r = w.run in
    let s = runs_from v (Some r.ticket) (m + r.count) (suc n) ls in
    move_told v p m n l ls r w.is w.follows
    ∙ ap (λ t. if t then (if nat_le (m + r.count) most_moves then with_run r s else Err (TooLong n))
    else Err (TicketTooWide n)) (le-ltb r.ticket (2 ^ 32) w.wide)

much_told : (v : Version) (p : Option ℕ) (m n : ℕ) (l : List ℕ) (ls : List (List ℕ)) → IsMuch v p m l →
    runs_from v p m n (l ∷ ls) ≡ Err (TooLong n)
much_told v p m n l ls w =
    let r = w.run in
    let s = runs_from v (Some r.ticket) (m + r.count) (suc n) ls in
    move_told v p m n l ls r w.is w.follows
    ∙ ap (λ t. if t then (if nat_le (m + r.count) most_moves then with_run r s else Err (TooLong n))
    else Err (TicketTooWide n)) (lt-ltb r.ticket (2 ^ 32) w.fits)
    ∙ ap (λ t. if t then with_run r s else Err (TooLong n)) (lt-leb (m + r.count) most_moves w.much)

-- a line that is told to be a move line, and to follow
told_line : (v : Version) (p : Option ℕ) (l : List ℕ) → IsNoLine v p l →
    (is_move_line v l && may_follow v p (run_in v l).ticket) ≡ true → ⊥
told_line v p l q e = let (a, b) = and_parts (is_move_line v l) (may_follow v p (run_in v l).ticket) e in
    q.none (run_in v l) (line_is v l a) (follows_is v p (run_in v l).ticket b)

no_line_told : (v : Version) (p : Option ℕ) (m n : ℕ) (l : List ℕ) (ls : List (List ℕ)) → IsNoLine v p l →
    runs_from v p m n (l ∷ ls) ≡ Err (BadLine n)
no_line_told v p m n l ls q =
    let s = runs_from v (Some (run_in v l).ticket) (m + (run_in v l).count) (suc n) ls in
    let b = is_move_line v l && may_follow v p (run_in v l).ticket in
    let no : b ≡ false = elim (cases_Bool b) [ inl e ↦ absurd (told_line v p l q e) | inr e ↦ e ] in
    ap (λ e. if e then ended n ls else judged b m n (run_in v l) s) (not_same l end_line q.other) ∙
    ap (λ b. judged b m n (run_in v l) s) no

-- The line `end` is read as the last.
pub end_told : (v : Version) (p : Option ℕ) (m n : ℕ) (l : List ℕ) (ls : List (List ℕ)) → l ≡ end_line →
    runs_from v p m n (l ∷ ls) ≡ ended n ls
end_told v p m n l ls e =
    ap (λ e. if e then ended n ls
    else judged (is_move_line v l && may_follow v p (run_in v l).ticket) m n (run_in v l)
    (runs_from v (Some (run_in v l).ticket) (m + (run_in v l).count) (suc n) ls)) (is_same l end_line e)

early_told : (v : Version) (p : Option ℕ) (m n : ℕ) (l : List ℕ) (ls : List (List ℕ)) → IsEarly l ls →
    runs_from v p m n (l ∷ ls) ≡ Err (BadLine (suc n))
early_told v p m n l [] w = absurd (omega (arith, w.behind))
early_told v p m n l (k ∷ ls) w = end_told v p m n l (k ∷ ls) w.end

-- The fault of the first line is answered.
fault_told : (v : Version) (p : Option ℕ) (m n : ℕ) (ls : List (List ℕ)) (f : ScheduleFault) → FaultHere v p m n ls f →
    runs_from v p m n ls ≡ Err f
fault_told v p m n [] f h = λ i. Err (sym h i)
fault_told v p m n (l ∷ ls) (BadLine k) (inl h) = no_line_told v p m n l ls h.1 ∙ (λ i. Err (BadLine (sym h.0 i)))
fault_told v p m n (l ∷ ls) (BadLine k) (inr h) = early_told v p m n l ls h.1 ∙ (λ i. Err (BadLine (sym h.0 i)))
fault_told v p m n (l ∷ ls) (TicketTooWide k) h = wide_told v p m n l ls h.1 ∙ (λ i. Err (TicketTooWide (sym h.0 i)))
fault_told v p m n (l ∷ ls) (TooLong k) h = much_told v p m n l ls h.1 ∙ (λ i. Err (TooLong (sym h.0 i)))
fault_told v p m n (l ∷ ls) NoMemory h = absurd h
fault_told v p m n (l ∷ ls) BadHeader h = absurd h
fault_told v p m n (l ∷ ls) NoEnd h = absurd h

-- runs in front of what the lines behind them are read as
abbrev pub with_runs : List Run → Result (List Run) ScheduleFault → Result (List Run) ScheduleFault
with_runs [] s = s
with_runs (r ∷ rs) s = with_run r (with_runs rs s)

runs_err : (rs : List Run) (f : ScheduleFault) → with_runs rs (Err f) ≡ Err f
runs_err [] f = refl
runs_err (r ∷ rs) f = ap (with_run r) (runs_err rs f)

runs_ok : (rs : List Run) → with_runs rs (Ok []) ≡ Ok rs
runs_ok [] = refl
runs_ok (r ∷ rs) = ap (with_run r) (runs_ok rs)

-- Lines that stand are read, and those behind them follow.
before_told : (v : Version) (p : Option ℕ) (m n : ℕ) (before rest : List (List ℕ)) (rs : List Run) → Stand v p before rs →
    TicketsFit rs →
    m + moves rs ≤ most_moves →
    runs_from v p m n (before ++ rest) ≡ with_runs rs (runs_from v (last_ticket p rs) (m + moves rs) (n + length before) rest)
before_told v p m n [] rest [] a b u = let e : m ≡ m + 0 = omega arith in let g : n ≡ n + 0 = omega arith in
    ap (λ m. runs_from v p m n rest) e ∙ ap (λ n. runs_from v p (m + 0) n rest) g
before_told v p m n [] rest (r ∷ rs) a b u = absurd a
before_told v p m n (l ∷ before) rest [] a b u = absurd a
before_told v p m n (l ∷ before) rest (r ∷ rs) a b u =
    let e : m + r.count + moves rs ≡ m + (r.count + moves rs) = omega arith in
    let g : suc n + length before ≡ n + suc (length before) = omega arith in
    let last = last_ticket (Some r.ticket) rs in
    stands_told v p m n l (before ++ rest) r a.0 a.1 b.0 (omega (arith, u))
    ∙ ap (with_run r) (before_told v (Some r.ticket) (m + r.count) (suc n) before rest rs a.2 b.1 (omega (arith, u))
    ∙ ap (λ m. with_runs rs (runs_from v last m (suc n + length before) rest)) e
    ∙ ap (λ n. with_runs rs (runs_from v last (m + (r.count + moves rs)) n rest)) g)

-- Lines with a first fault are read as it.
pub first_told : (v : Version) (p : Option ℕ) (m n : ℕ) (ls : List (List ℕ)) (f : ScheduleFault) → FirstFault v p m n ls f →
    runs_from v p m n ls ≡ Err f
first_told v p m n ls f x =
    ap (runs_from v p m n) x.are ∙ before_told v p m n x.before x.rest x.runs x.stand x.tickets x.few
    ∙ ap (with_runs x.runs) (fault_told v (last_ticket p x.runs) (m + moves x.runs) (n + length x.before) x.rest f x.fault)
    ∙ runs_err x.runs f

-- Lines that all stand are read as their runs.
pub whole_told : (v : Version) (p : Option ℕ) (m n : ℕ) (ls : List (List ℕ)) (rs : List Run) → Whole v p m ls rs →
    runs_from v p m n ls ≡ Ok rs
whole_told v p m n ls rs x =
    ap (runs_from v p m n) x.are ∙ before_told v p m n x.before (end_line ∷ []) rs x.stand x.tickets x.few
    ∙ ap (with_runs rs) (end_told v (last_ticket p rs) (m + moves rs) (n + length x.before) end_line [] refl) ∙ runs_ok rs

-- The lines behind a header are read in its version.
pub header_told : (v : Version) (more : List (List ℕ)) → behind_header (header v ∷ more) ≡ runs_from v None 0 2 more
header_told One more = refl
header_told Two more = refl

-- A text that is not too long is read by its lines.
pub short_told : (bytes : List ℕ) → length bytes ≤ most_schedule_bytes →
    tickets_in bytes ≡ only_tickets (behind_header (lines bytes))
short_told bytes u = ap (λ b. if b then only_tickets (behind_header (lines bytes))
    else Err (TooLong 0)) (le-leb (length bytes) most_schedule_bytes u)

schedule_told : (bytes tickets : List ℕ) → IsSchedule bytes tickets → tickets_in bytes ≡ Ok tickets
schedule_told bytes tickets x =
    short_told bytes x.short ∙ ap (λ ls. only_tickets (behind_header ls)) x.lines_are ∙ ap only_tickets (header_told x.version x.more)
    ∙ ap only_tickets (whole_told x.version None 0 2 x.more x.runs x.whole) ∙ (λ i. Ok (sym x.tickets_are i))

has_told : (bytes : List ℕ) (f : ScheduleFault) → HasFault bytes f → tickets_in bytes ≡ Err f
has_told bytes f x =
    short_told bytes x.short ∙ ap (λ ls. only_tickets (behind_header ls)) x.lines_are ∙ ap only_tickets (header_told x.version x.more)
    ∙ ap only_tickets (first_told x.version None 0 2 x.more f x.first)

-- A first line that is no header is a fault.
pub other_header : (l : List ℕ) (ls : List (List ℕ)) → (l ≡ header Two → ⊥) → (l ≡ header One → ⊥) →
    behind_header (l ∷ ls) ≡ Err BadHeader
other_header l ls a b =
    ap (λ t. if t then runs_from Two None 0 2 ls else if bytes_eq l (header One) then runs_from One None 0 2 ls
    else Err BadHeader) (not_same l (header Two) a)
    ∙ ap (λ t. if t then runs_from One None 0 2 ls else Err BadHeader) (not_same l (header One) b)

lacking_told : (bytes : List ℕ) (ls : List (List ℕ)) → lines bytes ≡ ls → LacksHeader bytes → behind_header ls ≡ Err BadHeader
lacking_told bytes [] e x = refl
lacking_told bytes (l ∷ ls) e x = other_header l ls (none Two) (none One)
  where
    none : (v : Version) → l ≡ header v → ⊥
    none v h = x.none v (joined ls) (sym (lines_joined bytes) ∙ ap joined e ∙ ap (λ l. l ++ joined ls) h)

lacks_told : (bytes : List ℕ) → LacksHeader bytes → tickets_in bytes ≡ Err BadHeader
lacks_told bytes x = short_told bytes x.short ∙ ap only_tickets (lacking_told bytes (lines bytes) refl x)

-- A text that is too long is a fault.
pub long_told : (bytes : List ℕ) → most_schedule_bytes < length bytes → tickets_in bytes ≡ Err (TooLong 0)
long_told bytes u = ap (λ b. if b then only_tickets (behind_header (lines bytes))
    else Err (TooLong 0)) (lt-leb (length bytes) most_schedule_bytes u)

-- What bytes are read as, want of memory aside, is what is answered.
pub one_answer : (bytes : List ℕ) (r : Result (List ℕ) ScheduleFault) → (r ≡ Err NoMemory → ⊥) → ReadAs bytes r →
    tickets_in bytes ≡ r
one_answer bytes (Ok tickets) q x = schedule_told bytes tickets x
one_answer bytes (Err NoMemory) q x = absurd (q refl)
one_answer bytes (Err BadHeader) q x = lacks_told bytes x
one_answer bytes (Err (BadLine n)) q x = has_told bytes (BadLine n) x
one_answer bytes (Err (TicketTooWide n)) q x = has_told bytes (TicketTooWide n) x
one_answer bytes (Err NoEnd) q x = has_told bytes NoEnd x
one_answer bytes (Err (TooLong zero)) q x = long_told bytes x
one_answer bytes (Err (TooLong (suc n))) q x = has_told bytes (TooLong (suc n)) x

-- So no two answers differ.
pub same_answer : (bytes : List ℕ) (r s : Result (List ℕ) ScheduleFault) → (r ≡ Err NoMemory → ⊥) →
    (s ≡ Err NoMemory → ⊥) →
    ReadAs bytes r → ReadAs bytes s → r ≡ s
same_answer bytes r s p q x y = sym (one_answer bytes r p x) ∙ one_answer bytes s q y
