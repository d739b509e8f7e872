-- How a log is filled with the runs of a text that was counted.
use Rattle.std.proofs.Common.{◌≡◌, ℕ, zero, suc, ◌+◌, ◌≤◌, List, [], ◌∷◌, ◌++◌, append_assoc, replicate, length}
use Rattle.std.proofs.Common.{Option, Some, Ok, Err}
use Rattle.std.proofs.Common.{refl, sym, ap, ◌∙◌, subst, arith}
use Rattle.std.specs.Prelude.{Result}
use Rattle.std.proofs.lemmas.List.{length-append}
use Rattle.schedule_log.specs.declared.entry.Entry.{Entry}
use Rattle.schedule_log.specs.declared.fault.ScheduleFault.{ScheduleFault}
use Rattle.schedule_log.specs.declared.version.Version.{Version}
use Rattle.schedule_log.specs.Logs.{read_entries}
use Rattle.schedule_log.specs.LogsSeen.{LogSeen, with_entries}
use Rattle.text_lines.specs.Lines.{end_line, lines}
use Rattle.schedule_log.specs.Schedules.{Run, again, moves, tickets_of}
use Rattle.schedule_log.specs.Reading.{with_run, ended, runs_from, judged_line, counted, runs_or_none}
use Rattle.schedule_log.proofs.Turns.{run_goes, run_fails}
use Rattle.schedule_log.proofs.OneWay.{end_told}

entry : ℕ → Entry
entry t = record { ticket = t; worker = 0 }

-- so many entries of one ticket
abbrev pub times : ℕ → ℕ → List Entry
times t n = replicate n (record { ticket = t; worker = 0 })

-- So many entries are that many.
pub times_length : (t n : ℕ) → length (times t n) ≡ n
times_length t zero = refl
times_length t (suc n) = ap suc (times_length t n)

times_behind : (t n : ℕ) (ts : List ℕ) → times t n ++ read_entries ts ≡ read_entries (again t n ts)
times_behind t zero ts = refl
times_behind t (suc n) ts = ap (λ es. record { ticket = t; worker = 0 } ∷ es) (times_behind t n ts)

append_none : (es : List Entry) → es ++ [] ≡ es
append_none [] = refl
append_none (e ∷ es) = ap (λ es. e ∷ es) (append_none es)

-- what is told while a log is filled: s is what the lines left are read as, behind m moves, and target is all
pub record Fills (l : LogSeen) (m : ℕ) (s : Result (List Run) ScheduleFault) (room : ℕ) (target : List Entry) : Type 0 where
  pub room_is : l.room ≡ room
  pub count : counted m s ≡ Ok room
  pub length_is : length l.entries ≡ m
  pub entries : l.entries ++ read_entries (tickets_of (runs_or_none s)) ≡ target

pub ok_eq : (a b : ℕ) → (let r : Result ℕ ScheduleFault = Ok a in r ≡ Ok b) → a ≡ b
ok_eq a b h = cc

pub err_not : (f : ScheduleFault) (n : ℕ) → (let a : Result ℕ ScheduleFault = Err f in a ≡ Ok n) → ⊥
err_not f n h = cc

run_room : (m room : ℕ) (r : Run) (s : Result (List Run) ScheduleFault) → counted m (with_run r s) ≡ Ok room → m + r.count ≤ room
run_room m room r (Ok rs) h = let e = ok_eq (m + (r.count + moves rs)) room h in omega (arith, e)
run_room m room r (Err f) h = cc

-- With the entries of the first run added, the lines behind it are left.
more_fills : (l : LogSeen) (m room : ℕ) (target : List Entry) (r : Run) (t : Result (List Run) ScheduleFault) →
    Fills l m (with_run r t) room target → Fills (with_entries l (times r.ticket r.count)) (m + r.count) t room target
more_fills l m room target r (Err f) x = absurd (err_not f room x.count)
more_fills l m room target r (Ok rs) x = record {
  room_is = x.room_is;
  count = let e : m + r.count + moves rs ≡ m + (r.count + moves rs) = omega arith in (λ j. Ok (e j)) ∙ x.count;
  length_is = let a = length-append l.entries (times r.ticket r.count) in let b = times_length r.ticket r.count in
      omega (arith, a, b, x.length_is);
  entries = append_assoc l.entries (times r.ticket r.count) (read_entries (tickets_of rs))
      ∙ ap (λ es. l.entries ++ es) (times_behind r.ticket r.count (tickets_of rs)) ∙ x.entries;
}

-- what one turn of the filling needs and gives: room for the run, and the lines behind it are left once the run is added
pub record Turn (l : LogSeen) (m room : ℕ) (target : List Entry) (r : Run) (t : Result (List Run) ScheduleFault) : Type 0 where
  pub room_left : length l.entries + r.count ≤ l.room
  pub goes_on : (k : LogSeen) → k ≡ with_entries l (times r.ticket r.count) → Fills k (m + r.count) t room target

-- What is left begins with a run.
pub fills_turn : (l : LogSeen) (m room : ℕ) (target : List Entry) (r : Run) (s t : Result (List Run) ScheduleFault) →
    s ≡ with_run r t →
    Fills l m s room target → Turn l m room target r t
fills_turn l m room target r s t e f = record {
  room_left = let u = run_room m room r t (sym (ap (counted m) e) ∙ f.count) in omega (arith, u, f.room_is, f.length_is);
  goes_on = λ k g. subst (λ k. Fills k (m + r.count) t room target) (sym g)
      (more_fills l m room target r t (subst (λ s. Fills l m s room target) e f));
}

-- Nothing is left.
pub filled : (l : LogSeen) (m room : ℕ) (target : List Entry) (s : Result (List Run) ScheduleFault) →
    runs_or_none s ≡ [] → Fills l m s room target → l.entries ≡ target
filled l m room target s e f =
    sym (append_none l.entries) ∙ ap (λ rs. l.entries ++ read_entries (tickets_of rs)) (sym e) ∙ f.entries

-- The last line leaves nothing.
pub end_leaves : (v : Version) (p : Option ℕ) (m n : ℕ) (rest line more : List ℕ) → lines rest ≡ line ∷ lines more →
    line ≡ end_line →
    runs_or_none (runs_from v p m n (lines rest)) ≡ []
end_leaves v p m n rest line more e q = ap (λ ls. runs_or_none (runs_from v p m n ls)) e
    ∙ ap runs_or_none (end_told v p m n line (lines more) q) ∙ none (lines more)
  where
    none : (ls : List (List ℕ)) → runs_or_none (ended n ls) ≡ []
    none [] = refl
    none (l ∷ ls) = refl

-- A line with a fault leaves nothing.
pub fault_leaves : (v : Version) (p : Option ℕ) (m n : ℕ) (rest line more : List ℕ) (f : ScheduleFault) → lines rest ≡ line ∷
    lines more →
    (line ≡ end_line → ⊥) → judged_line v p m n line ≡ Err f → runs_or_none (runs_from v p m n (lines rest)) ≡ []
fault_leaves v p m n rest line more f e q h = ap (λ ls. runs_or_none (runs_from v p m n ls)) e
    ∙ ap runs_or_none (run_fails v p m n line (lines more) f q h)

-- Where no line is left, nothing is.
pub nothing_leaves : (v : Version) (p : Option ℕ) (m n : ℕ) (rest : List ℕ) → length rest ≡ 0 →
    runs_or_none (runs_from v p m n (lines rest)) ≡ []
nothing_leaves v p m n [] u = refl
nothing_leaves v p m n (b ∷ rest) u = absurd (omega (arith, u))

-- What is left begins with the run of the first line.
pub run_left : (v : Version) (p : Option ℕ) (m n j : ℕ) (rest line more : List ℕ) (r : Run) → lines rest ≡ line ∷ lines more →
    (line ≡ end_line → ⊥) → judged_line v p m n line ≡ Ok r → j ≡ n + 1 →
    runs_from v p m n (lines rest) ≡ with_run r (runs_from v (Some r.ticket) (m + r.count) j (lines more))
run_left v p m n j rest line more r e q h w =
    let j' : suc n ≡ j = omega (arith, w) in
    ap (runs_from v p m n) e ∙ run_goes v p m n line (lines more) r q h
    ∙ ap (λ j. with_run r (runs_from v (Some r.ticket) (m + r.count) j (lines more))) j'

-- An empty log is filled with all.
pub fills_first : (l : LogSeen) (s : Result (List Run) ScheduleFault) → l.entries ≡ [] → counted 0 s ≡ Ok l.room →
    Fills l 0 s l.room (read_entries (tickets_of (runs_or_none s)))
fills_first l s e c = record {
  room_is = refl;
  count = c;
  length_is = ap length e;
  entries = ap (λ es. es ++ read_entries (tickets_of (runs_or_none s))) e;
}
