-- What is answered of a text is what it is read as.
use Rattle.std.proofs.Common.{Bool, false, ◌≡◌, ◌⊎◌, ℕ, zero, suc, ◌+◌, ◌<◌, ◌≤◌, List, [], ◌∷◌, length}
use Rattle.std.proofs.Common.{None, Ok, Err, refl, sym, ap, ◌∙◌}
use Rattle.std.proofs.Common.{subst, inl, inr, arith}
use Rattle.std.specs.Prelude.{◌↔◌, IsTrue, Result}
use Rattle.std.proofs.lemmas.Bool.{both_ways}
use Rattle.pcf_values.specs.Most.{most_schedule_bytes}
use Rattle.schedule_log.specs.declared.fault.ScheduleFault.{ScheduleFault}
use Rattle.schedule_log.specs.declared.fault.ScheduleFault.TheVariants.{NoMemory}
use Rattle.schedule_log.specs.declared.version.Version.{Version}
use Rattle.text_lines.specs.Lines.{lines}
use Rattle.schedule_log.specs.Schedules.{Run, again, moves, tickets_of, header, ReadAs}
use Rattle.schedule_log.specs.Logs.{read_entries, tickets_in_log}
use Rattle.schedule_log.specs.LogsSeen.{LogSeen, empty_log, read_log}
use Rattle.schedule_log.specs.Reading.{counted, only_tickets, runs_from, runs_or_none, behind_header, tickets_in}
use Rattle.schedule_log.proofs.Found.{first_fault_found}
use Rattle.schedule_log.proofs.Filling.{ok_eq, err_not}
use Rattle.schedule_log.proofs.OneWay.{header_told, short_told}

-- The tickets of entries that were read are the tickets.
pub read_back : (ts : List ℕ) → tickets_in_log (read_entries ts) ≡ ts
read_back [] = refl
read_back (t ∷ ts) = ap (λ ts. t ∷ ts) (read_back ts)

again_length : (t n : ℕ) (ts : List ℕ) → length (again t n ts) ≡ n + length ts
again_length t zero ts = omega arith
again_length t (suc n) ts = let e = again_length t n ts in omega (arith, e)

-- There are as many tickets as moves.
pub tickets_length : (rs : List Run) → length (tickets_of rs) ≡ moves rs
tickets_length [] = refl
tickets_length (r ∷ rs) = let e = again_length r.ticket r.count (tickets_of rs) in let g = tickets_length rs in omega (arith, e, g)

-- the log that is filled
pub record Filled (s : Result (List Run) ScheduleFault) (l : LogSeen) : Type 0 where
  pub answer : only_tickets s ≡ Ok (tickets_in_log l.entries)
  pub log : l ≡ read_log (tickets_in_log l.entries)

own_filled : (rs : List Run) (room : ℕ) → 0 + moves rs ≡ room →
    Filled (Ok rs) (record { entries = read_entries (tickets_of rs); room = room })
own_filled rs room e =
    let b : tickets_in_log (read_entries (tickets_of rs)) ≡ tickets_of rs = read_back (tickets_of rs) in
    let t = tickets_length rs in
    let n : room ≡ length (tickets_of rs) = omega (arith, e, t) in
    record { answer = λ i. Ok (sym b i); log = λ i. record { entries = read_entries (sym b i); room = (n ∙ ap length (sym b)) i } }

is_filled : (s : Result (List Run) ScheduleFault) (room : ℕ) (l : LogSeen) → counted 0 s ≡ Ok room →
    l ≡ record { entries = read_entries (tickets_of (runs_or_none s)); room = room } → Filled s l
is_filled (Ok rs) room l c e = subst (Filled (Ok rs)) (sym e) (own_filled rs room (ok_eq (0 + moves rs) room c))
is_filled (Err f) room l c e = absurd (err_not f room c)

-- A log made empty with the room that was counted is filled.
pub log_filled : (s : Result (List Run) ScheduleFault) (moves : ℕ) (k l : LogSeen) → counted 0 s ≡ Ok moves →
    k ≡ empty_log moves →
    l.entries ≡ read_entries (tickets_of (runs_or_none s)) → l.room ≡ k.room → Filled s l
log_filled s moves k l c e f g =
    let h : l.room ≡ moves = g ∙ ap (λ (k : LogSeen). k.room) e in
    is_filled s moves l c (λ i. record { entries = f i; room = h i })

-- A fault of the counting is that of the reading.
pub fault_is : (s : Result (List Run) ScheduleFault) (f : ScheduleFault) → counted 0 s ≡ Err f → only_tickets s ≡ Err f
fault_is (Ok rs) f h = absurd (ok_not (0 + moves rs) f h)
  where
    ok_not : (n : ℕ) (f : ScheduleFault) → (let a : Result ℕ ScheduleFault = Ok n in a ≡ Err f) → ⊥
    ok_not n f h = cc
fault_is (Err g) f h = fault_eq g f h
  where
    fault_eq : (g f : ScheduleFault) → (let a : Result ℕ ScheduleFault = Err g in a ≡ Err f) →
        (let a : Result (List ℕ) ScheduleFault = Err g in a ≡ Err f)
    fault_eq g f h = cc

answered : (bytes : List ℕ) (r t : Result (List ℕ) ScheduleFault) → tickets_in bytes ≡ t →
    ((r ≡ Err NoMemory) ⊎ (t ≡ r)) → ReadAs bytes r
answered bytes r t e (inl h) = subst (ReadAs bytes) (sym h) tt
answered bytes r t e (inr h) = subst (ReadAs bytes) (e ∙ h) (first_fault_found bytes)

-- The lines behind a header are read.
pub body_answered : (bytes line rest : List ℕ) (v : Version) (r : Result (List ℕ) ScheduleFault) →
    length bytes ≤ most_schedule_bytes →
    lines bytes ≡ line ∷ lines rest → line ≡ header v →
    ((r ≡ Err NoMemory) ⊎ (only_tickets (runs_from v None 0 2 (lines rest)) ≡ r)) → ReadAs bytes r
body_answered bytes line rest v r u e h a =
    answered bytes r (only_tickets (runs_from v None 0 2 (lines rest)))
    (short_told bytes u ∙ ap (λ ls. only_tickets (behind_header ls)) (e ∙ ap (λ l. l ∷ lines rest) h)
    ∙ ap only_tickets (header_told v (lines rest))) a

-- A text that is told not to be too long isn't.
pub not_long : (b : Bool) (n : ℕ) → (IsTrue b ↔ (most_schedule_bytes < n)) → b ≡ false → n ≤ most_schedule_bytes
not_long b n d e = let h : most_schedule_bytes < n → ⊥ = (λ w. both_ways b e (d.1 w)) in omega (arith, h)
