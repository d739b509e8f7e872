-- How the log of a list of tickets grows, one run after the other.
use Rattle.std.proofs.Common.{◌≡◌, ℕ, zero, suc, ◌+◌, ◌<◌, ◌≤◌, List, [], ◌∷◌, ◌++◌, length, replicate, take, get_or}
use Rattle.std.proofs.Common.{refl, sym, ap, ◌∙◌, arith}
use Rattle.std.proofs.lemmas.List.{length-append, length-replicate, take_all, take_more}
use Rattle.schedule_log.specs.declared.entry.Entry.{Entry}
use Rattle.schedule_log.specs.Logs.{by}
use Rattle.schedule_log.specs.LogsSeen.{LogSeen, with_entries}
use Rattle.interleave_core.specs.declared.tickets.Run.{Run}
use Rattle.interleave_core.specs.Tickets.{spelled}
use Rattle.interleave_core.proofs.Spelled.{spelled_more}

spelled_next : (rs : List Run) (i : ℕ) (d : Run) → i < length rs →
    spelled (take (i + 1) rs) ≡ spelled (take i rs) ++ replicate (get_or rs i d).count (get_or rs i d).ticket
spelled_next rs i d u = ap spelled (take_more rs i d u) ∙ spelled_more (take i rs) (get_or rs i d)

spelled_within : (rs : List Run) (n : ℕ) → length (spelled (take n rs)) ≤ length (spelled rs)
spelled_within rs zero = omega arith
spelled_within [] (suc n) = omega arith
spelled_within (r ∷ rs) (suc n) =
    let h = spelled_within rs n in
    let a = length-append (replicate r.count r.ticket) (spelled (take n rs)) in
    let b = length-append (replicate r.count r.ticket) (spelled rs) in omega (arith, h, a, b)

by_both : (w : ℕ) (ts us : List ℕ) → by w (ts ++ us) ≡ by w ts ++ by w us
by_both w [] us = refl
by_both w (t ∷ ts) us = ap (λ (l : List Entry). record { ticket = t; worker = w } ∷ l) (by_both w ts us)

by_run : (w n t : ℕ) → by w (replicate n t) ≡ replicate n (record { ticket = t; worker = w })
by_run w zero t = refl
by_run w (suc n) t = ap (λ (l : List Entry). record { ticket = t; worker = w } ∷ l) (by_run w n t)

by_length : (w : ℕ) (ts : List ℕ) → length (by w ts) ≡ length ts
by_length w [] = refl
by_length w (t ∷ ts) = ap suc (by_length w ts)

-- the log of the first runs, with so much room
abbrev pub log_so_far : ℕ → List Run → ℕ → ℕ → LogSeen
log_so_far w rs i room = record { entries = by w (spelled (take i rs)); room = room }

module _ (w : ℕ) (rs : List Run) (i room : ℕ) (d : Run) (inside : i < length rs) (l : LogSeen) (is : l ≡ log_so_far w rs i room) where
  -- there is room for the next run
  pub run_room : length (spelled rs) ≤ room → length l.entries + (get_or rs i d).count ≤ l.room
  run_room few =
      let a = ap length (spelled_next rs i d inside) in
      let b = length-append (spelled (take i rs)) (replicate (get_or rs i d).count (get_or rs i d).ticket) in
      let c : length (replicate (get_or rs i d).count (get_or rs i d).ticket) ≡ (get_or rs i d).count =
      length-replicate (get_or rs i d).count (get_or rs i d).ticket in
      let e = spelled_within rs (i + 1) in
      let f : length l.entries ≡ length (by w (spelled (take i rs))) = ap (λ (l : LogSeen). length l.entries) is in
      let g = by_length w (spelled (take i rs)) in
      let r : l.room ≡ room = ap (λ (l : LogSeen). l.room) is in
      omega (arith, a, b, c, e, f, g, r, few)

  -- and then it is added
  pub run_added : (k : LogSeen) →
      k ≡ with_entries l (replicate (get_or rs i d).count (record { ticket = (get_or rs i d).ticket; worker = w })) →
      k ≡ log_so_far w rs (i + 1) room
  run_added k e =
      let n = (get_or rs i d).count in
      let t = (get_or rs i d).ticket in
      let before = spelled (take i rs) in
      e ∙ ap (λ (l : LogSeen). with_entries l (replicate n (record { ticket = t; worker = w }))) is
      ∙ ap (λ (es : List Entry). (let s : LogSeen = record { entries = es; room = room } in s))
      (ap (λ es. by w before ++ es) (sym (by_run w n t)) ∙ sym (by_both w before (replicate n t))
      ∙ ap (by w) (sym (spelled_next rs i d inside)))

-- All runs are added.
pub all_added : (w : ℕ) (rs : List Run) (n room : ℕ) (tickets : List ℕ) (l : LogSeen) → l ≡ log_so_far w rs n room → length rs ≤ n →
    spelled rs ≡ tickets → l.entries ≡ by w tickets
all_added w rs n room tickets l is all same =
    ap (λ (l : LogSeen). l.entries) is ∙ ap (λ rs. by w (spelled rs)) (take_all n rs all) ∙ ap (by w) same
