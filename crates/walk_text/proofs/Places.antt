-- Where the moves of a log stand in its runs, one after the other.
use Rattle.std.proofs.Common.{◌≡◌, ℕ, zero, suc, ◌+◌, ◌<◌, ◌≤◌, List, [], ◌∷◌, length, take, get_or, refl, sym, ap, arith, ⊎_elim}
use Rattle.std.proofs.lemmas.Bool.{cases_lt}
use Rattle.std.proofs.lemmas.List.{take_all}
use Rattle.schedule_log.specs.declared.entry.Entry.{Entry}
use Rattle.schedule_log.specs.KeptRuns.{Each, MovesSeen, move_of, spread}
use Rattle.schedule_log.proofs.Holding.{longer}
use Rattle.schedule_log.proofs.RunByRun.{move_there}
use Rattle.schedule_log.proofs.Spread.{each_at}
use Rattle.walk_text.specs.Standing.{StandsAt}

-- what is read at a place of a list doesn't rest on what is read past its end
same_run : (rs : List MovesSeen) (j : ℕ) (d e : MovesSeen) → j < length rs → get_or rs j d ≡ get_or rs j e
same_run [] j d e u = absurd (omega (arith, u))
same_run (r ∷ rs) zero d e u = refl
same_run (r ∷ rs) (suc j) d e u = same_run rs j d e (omega (arith, u))

-- the move of a run, by its ticket and its worker
pub entry_is : (t w : ℕ) (r : MovesSeen) → t ≡ r.ticket → w ≡ r.worker →
    (let e : Entry = record { ticket = t; worker = w } in e) ≡ move_of r
entry_is t w r a b = λ k. record { ticket = a k; worker = b k }

-- where runs end, so do their moves
ended : (rs : List MovesSeen) (j : ℕ) → length rs ≤ j → length (spread (take j rs)) ≡ length (spread rs)
ended rs j u = ap (λ (l : List MovesSeen). length (spread l)) (take_all j rs u)

-- The place at which a run begins is one of its moves.
run_begins : (rs : List MovesSeen) (j b : ℕ) → Each rs → b ≡ length (spread (take j rs)) → StandsAt rs j b b
run_begins rs j b each is = record {
  begins = is;
  from = omega arith;
  there = there;
  below = λ d u. let e = (each_at rs j d each (there u)).0 in omega (arith, e);
}
  where
    there : b < length (spread rs) → j < length rs
    there u = ⊎_elim (λ (l : j < length rs). l) (λ m. absurd (let e = ended rs j (omega (arith, m)) in omega (arith, e, is, u)))
        (cases_lt j (length rs))

-- The first move stands in the first run.
pub first_stands : (rs : List MovesSeen) → Each rs → StandsAt rs 0 0 0
first_stands rs each = run_begins rs 0 0 each refl

module _ (rs : List MovesSeen) (j b p : ℕ) (d : MovesSeen) (at : StandsAt rs j b p) (inside : p < length (spread rs)) where
  -- The next move stands in the same run, where that has more.
  pub next_stands : p + 1 < b + (get_or rs j d).count → StandsAt rs j b (p + 1)
  next_stands more =
      let from = at.from in
      record {
        begins = at.begins;
        from = omega (arith, from);
        there = λ u. at.there inside;
        below = λ e u. let k = ap (λ (r : MovesSeen). r.count) (same_run rs j d e (at.there inside)) in omega (arith, more, k);
      }

  -- And else it is the first of the next run.
  pub run_ends : b + (get_or rs j d).count ≤ p + 1 → Each rs → StandsAt rs (j + 1) (b + (get_or rs j d).count) (p + 1)
  run_ends few each =
      let below = at.below d inside in
      let place : p + 1 ≡ b + (get_or rs j d).count = omega (arith, few, below) in
      let long = longer rs j d (at.there inside) in
      let begins = at.begins in
      let it = run_begins rs (j + 1) (b + (get_or rs j d).count) each (omega (arith, long, begins)) in
      record {
        begins = it.begins;
        from = omega (arith, few);
        there = λ u. it.there (omega (arith, u, place));
        below = λ e u. let k = it.below e (omega (arith, u, place)) in omega (arith, k, place);
      }

  -- The move is the one that its run is of.
  pub move_is : (x : Entry) → move_of (get_or rs j d) ≡ get_or (spread rs) p x
  move_is x =
      let begins = at.begins in
      let from = at.from in
      let below = at.below d inside in
      sym (move_there rs j d p x (at.there inside) (omega (arith, begins, from)) (omega (arith, begins, below)))
