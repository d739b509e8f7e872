-- A branch's moves, written down: run by run, each under the name that its ticket has in the state.
use Rattle.std.proofs.Common.{◌≡◌, ◌<◌, ◌≤◌, ◌+◌, ◌-◌, ◌^◌, ℕ, zero, suc, List, [], ◌∷◌, ◌++◌, length, replicate, take, drop, get_or, refl}
use Rattle.std.proofs.Common.{sym, ap, ◌∙◌, subst, append_assoc, append-nil, length-append, arith}
use Rattle.std.specs.Prelude.{All, map}
use Rattle.std.proofs.lemmas.List.{length-replicate}
use Rattle.std.proofs.Math.Seq.{take-length}
use Rattle.std.proofs.lemmas.List.Elements.{All-head, All-tail}
use Rattle.schedule_log.specs.declared.entry.Entry.{Entry}
use Rattle.schedule_log.specs.Logs.{by}
use Rattle.schedule_log.specs.LogsSeen.{LogSeen, with_entries}
use Rattle.branch_laws.specs.Branches.{name}
use Rattle.interleave_core.specs.declared.tickets.Run.{Run}
use Rattle.interleave_core.specs.Tickets.{spelled}

-- the entries of a branch's own tickets
abbrev pub written : ℕ → ℕ → ℕ → List ℕ → List Entry
written w i n own = by w (map (name i n) own)

pub written_run : (w i n c k : ℕ) → written w i n (replicate c k) ≡ replicate c (record { ticket = name i n k; worker = w })
written_run w i n zero k = refl
written_run w i n (suc c) k = ap (λ (l : List Entry). record { ticket = name i n k; worker = w } ∷ l) (written_run w i n c k)

pub written_both : (w i n : ℕ) (own more : List ℕ) → written w i n (own ++ more) ≡ written w i n own ++ written w i n more
written_both w i n [] more = refl
written_both w i n (k ∷ own) more = ap (λ (l : List Entry). record { ticket = name i n k; worker = w } ∷ l) (written_both w i n own more)

-- no entries more
pub nothing_more : (l : LogSeen) → with_entries l [] ≡ l
nothing_more l = ap (λ es. record { entries = es; room = l.room }) (append-nil l.entries)

-- some, and then others
pub more_both : (l : LogSeen) (es fs : List Entry) → with_entries (with_entries l es) fs ≡ with_entries l (es ++ fs)
more_both l es fs = ap (λ es. record { entries = es; room = l.room }) (append_assoc l.entries es fs)

-- where the writer of a branch's runs stands: these are left, they have names and there is room, and with them all is written
pub record Writes (w i n : ℕ) (whole now : LogSeen) (left : List Run) : Type 0 where
  pub all : with_entries now (written w i n (spelled left)) ≡ whole
  pub fit : All (λ k. n + (k - 1) < 2 ^ 32) (spelled left)
  pub room : length now.entries + length (spelled left) ≤ now.room

written_length : (w i n : ℕ) (own : List ℕ) → length (written w i n own) ≡ length own
written_length w i n [] = refl
written_length w i n (k ∷ own) = ap suc (written_length w i n own)

-- what holds of all of a run and others holds of the run, if it has a move, and of the others
first_fits : (P : ℕ → Type 0) (c k : ℕ) (own : List ℕ) → All P (replicate c k ++ own) → 1 ≤ c → P k
first_fits P zero k own all some = absurd (omega (arith, some))
first_fits P (suc c) k own all some = All-head P k (replicate c k ++ own) all

rest_fits : (P : ℕ → Type 0) (c k : ℕ) (own : List ℕ) → All P (replicate c k ++ own) → All P own
rest_fits P zero k own all = all
rest_fits P (suc c) k own all = rest_fits P c k own (All-tail P k (replicate c k ++ own) all)

module _ (w i n : ℕ) (whole now : LogSeen) (r : Run) (rest : List Run) (at : Writes w i n whole now (r ∷ rest)) where
  pub run_fits : 1 ≤ r.count → n + (r.ticket - 1) < 2 ^ 32
  run_fits = first_fits (λ k. n + (k - 1) < 2 ^ 32) r.count r.ticket (spelled rest) at.fit

  counted : length (spelled (r ∷ rest)) ≡ r.count + length (spelled rest)
  counted =
      let a = length-append (replicate r.count r.ticket) (spelled rest) in
      let b : length (replicate r.count r.ticket) ≡ r.count = length-replicate r.count r.ticket in
      omega (arith, a, b)

  pub run_room : length now.entries + r.count ≤ now.room
  run_room = let a = at.room in let b = counted in omega (arith, a, b)

  pub writes_on : (now' : LogSeen) → now' ≡ with_entries now (written w i n (replicate r.count r.ticket)) → Writes w i n whole now' rest
  writes_on now' e =
      let run = written w i n (replicate r.count r.ticket) in
      let a = at.room in
      let b = counted in
      let c = length-append now.entries run in
      let d = written_length w i n (replicate r.count r.ticket) in
      let f : length (replicate r.count r.ticket) ≡ r.count = length-replicate r.count r.ticket in
      let g = ap (λ (l : LogSeen). length l.entries) e in
      let k = ap (λ (l : LogSeen). l.room) e in
      record {
        all = ap (λ l. with_entries l (written w i n (spelled rest))) e ∙ more_both now run (written w i n (spelled rest)) ∙
            ap (with_entries now) (sym (written_both w i n (replicate r.count r.ticket) (spelled rest))) ∙ at.all;
        fit = rest_fits (λ k. n + (k - 1) < 2 ^ 32) r.count r.ticket (spelled rest) at.fit;
        room = omega (arith, a, b, c, d, f, g, k);
      }

-- the first run is written, and all but it are left
pub writes_next : (w i n : ℕ) (whole now now' : LogSeen) (left : List Run) (d : Run) → 1 ≤ length left → Writes w i n whole now left →
    now' ≡ with_entries now (written w i n (replicate (get_or left 0 d).count (get_or left 0 d).ticket)) →
    Writes w i n whole now' (take (length left - 1) (drop 1 left))
writes_next w i n whole now now' [] d some at e = absurd (omega (arith, some))
writes_next w i n whole now now' (r ∷ rest) d some at e =
    let one : length (r ∷ rest) - 1 ≡ length rest = omega arith in
    subst (Writes w i n whole now') (sym (ap (λ k. take k rest) one ∙ take-length rest)) (writes_on w i n whole now r rest at now' e)

-- it begins with all, and where none is left all is written
pub writes_begin : (w i n : ℕ) (now : LogSeen) (runs : List Run) (own : List ℕ) → spelled runs ≡ own →
    length now.entries + length own ≤ now.room → All (λ k. n + (k - 1) < 2 ^ 32) own →
    Writes w i n (with_entries now (written w i n own)) now runs
writes_begin w i n now runs own e room fit = record {
  all = ap (λ own. with_entries now (written w i n own)) e;
  fit = subst (All (λ k. n + (k - 1) < 2 ^ 32)) (sym e) fit;
  room = let k = ap length e in omega (arith, k, room);
}

pub writes_end : (w i n : ℕ) (whole now : LogSeen) → Writes w i n whole now [] → now ≡ whole
writes_end w i n whole now at = sym (nothing_more now) ∙ at.all

-- a run of no move writes nothing
pub no_run : (w i n : ℕ) (now : LogSeen) (c k : ℕ) → c ≡ 0 → now ≡ with_entries now (written w i n (replicate c k))
no_run w i n now c k e = sym (ap (λ c. with_entries now (written w i n (replicate c k))) e ∙ nothing_more now)

pub one_run : (w i n : ℕ) (old now : LogSeen) (c k t : ℕ) → t ≡ name i n k →
    now ≡ with_entries old (replicate c (record { ticket = t; worker = w })) → now ≡ with_entries old (written w i n (replicate c k))
one_run w i n old now c k t q e =
    e ∙ ap (λ t. with_entries old (replicate c (record { ticket = t; worker = w }))) q ∙ ap (with_entries old) (sym (written_run w i n c k))
