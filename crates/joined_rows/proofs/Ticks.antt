-- So many cycles of the processor, with names.
use Rattle.std.proofs.Common.{◌≡◌, ℕ, zero, suc, ◌+◌, false, cond, List, [], ◌∷◌, Option, Some, None, refl, sym, ap, ◌∙◌, subst, arith}
use Rattle.pcf_values.specs.declared.operator.Operator.{Operator}
use Rattle.pcf_values.specs.declared.side.Side.{Side}
use Rattle.pcf_values.specs.Values.{val_op}
use Rattle.net_build.specs.Nets.{NetTree}
use Rattle.move_rules.specs.Places.{TokenTree, ask, ans, down}
use Rattle.net_rows.specs.Rows.{Row, FORK, JOIN}
use Rattle.net_rows.specs.Rows.{Channel, falls, row_of}
use Rattle.net_rows.specs.RowMoves.{by_found, by_row, by_rows}
use Rattle.newest_core.specs.Processor.{Half, waits, came, OpenFork, Registers, meets_half, meets, does, counted, tick_on, tick, ticks}
use Rattle.joined_rows.specs.Open.{Term, Mark, Amount, both, Spot, spot, Walker, asks, says, Filling, val_of, boxes_of, token_in}
use Rattle.joined_rows.specs.Open.{row_walks, spot_of}
use Rattle.joined_rows.specs.Ticks.{Names, of_names, NamedHalf, waiting, left, NamedFork, Named, goes_on, named_fork, named_half}
use Rattle.joined_rows.specs.Ticks.{named_join}
use Rattle.joined_rows.specs.Ticks.{named_question, named_answer, named_row, named_found, named_tick, then_named, named_ticks, HalfIs}
use Rattle.joined_rows.specs.Ticks.{ForksAre, IsNamed, JoinedTicks}
use Rattle.joined_rows.proofs.Rows.{row_joins, by_asks, by_says}
use Rattle.joined_rows.proofs.Runs.{token_channel}

module _ (N : Names) (around : List OpenFork) where
  abbrev F : Filling
  F = of_names N

  -- the registers that a move leads to
  record Led (Y : Named) (R T : Registers) : Type 0 where
    named : IsNamed F around Y T
    moves : T.moves ≡ R.moves
    result : T.result ≡ R.result

  -- the token goes on
  solos : (r : Row) (k i : ℕ) (x : Walker) (fs : List NamedFork) (Y : Named) (R : Registers) → goes_on fs (row_walks r x) ≡ Some Y →
      ForksAre F around fs R.forks → R.full ≡ false → Led Y R (does (by_row k r (token_in F x)) i R)
  solos r k i x fs Y R e f g = go (row_walks r x) refl e
    where
      go : (o : Option Walker) → row_walks r x ≡ o → goes_on fs o ≡ Some Y → Led Y R (does (by_row k r (token_in F x)) i R)
      go None h e = absurd cc
      go (Some y) h e =
          let same : record { live = y; forks = fs } ≡ Y = cc in
          subst (λ Y. Led Y R (does (by_row k r (token_in F x)) i R)) same
          (subst (λ m. Led (record { live = y; forks = fs }) R (does m i R)) (sym (row_joins k r x y h F))
          (record { named = record { ticket = i; live = refl; forks = f; ready = g }; moves = refl; result = refl }))

  -- a fork is opened
  forked : (c d h : Channel) (k i : ℕ) (m : List Mark) (t : List Term) (fs : List NamedFork) (Y : Named) (R : Registers) →
      named_fork k c d m t fs ≡ Some Y → ForksAre F around fs R.forks → R.full ≡ false →
      Led Y R (does (by_row k (FORK c d) (token_in F (asks (spot h m t)))) i R)
  forked c d h k i [] t fs Y R e f g =
      let X : Named = record {
        live = asks (spot c [] t);
        forks = record { node = k; boxes = t; half = waiting (spot d [] t) } ∷ fs;
      } in
      let same : X ≡ Y = cc in
      subst (λ Y. Led Y R (does (by_row k (FORK c d) (token_in F (asks (spot h [] t)))) i R)) same
      (subst (λ m. Led X R (does m i R)) (sym (by_asks k (FORK c d) h [] (boxes_of F t)))
      (record {
        named = record {
          ticket = i;
          live = refl;
          forks = (record { node = refl; boxes = refl; half = refl }, f);
          ready = g;
        };
        moves = refl;
        result = refl;
      }))
  forked c d h k i (x ∷ m) t fs Y R e f g = absurd cc

  -- what an answer does at the innermost fork
  halves : (o : Operator) (w i : ℕ) (a : Amount) (t : List Term) (q : NamedFork) (hq : NamedHalf) (fs : List NamedFork) (Y : Named)
      (R : Registers) (p : OpenFork) (hp : Half) (ps : List OpenFork) → named_half hq q fs o w a t ≡ Some Y → HalfIs F hq hp →
      p.node ≡ q.node → p.boxes ≡ boxes_of F q.boxes → ForksAre F around fs ps → R.full ≡ false →
      Led Y R (meets_half hp p ps i o (val_of F a) w (boxes_of F t) R)
  halves o w i a t q (waiting s) fs Y R p (waits j l) ps e h n b f g =
      let X : Named = record { live = asks s; forks = record q { half = left a } ∷ fs } in
      let same : X ≡ Y = cc in
      subst (λ Y. Led Y R (meets_half (waits j l) p ps i o (val_of F a) w (boxes_of F t) R)) same
      (record {
        named = record {
          ticket = j;
          live = ap (λ l. Some (j, ask l)) h;
          forks = (record { node = n; boxes = b; half = refl }, f);
          ready = g;
        };
        moves = refl;
        result = refl;
      })
  halves o w i a t q (waiting s) fs Y R p (came v) ps e h n b f g = elim h [ ]
  halves o w i a t q (left u) fs Y R p (waits j l) ps e h n b f g = elim h [ ]
  halves o w i a t q (left u) fs Y R p (came v) ps e h n b f g =
      let X : Named = record { live = says (both o u a) (spot (falls w) [] t); forks = fs } in
      let same : X ≡ Y = cc in
      subst (λ Y. Led Y R (meets_half (came v) p ps i o (val_of F a) w (boxes_of F t) R)) same
      (record {
        named = record {
          ticket = i;
          live = ap (λ v. Some (i, ans (val_op o v (val_of F a)) (down w [] (boxes_of F t)))) h;
          forks = f;
          ready = g;
        };
        moves = refl;
        result = refl;
      })

  meet_at : (o : Operator) (w i : ℕ) (a : Amount) (m : List Mark) (t : List Term) (fs : List NamedFork) (Y : Named) (R : Registers)
      (ps : List OpenFork) → named_join fs o w a m t ≡ Some Y → ForksAre F around fs ps → R.full ≡ false →
      Led Y R (meets ps i o (val_of F a) w (boxes_of F t) R)
  meet_at o w i a m t [] Y R ps e f g = absurd cc
  meet_at o w i a m t (q ∷ fs) Y R [] e f g = elim f [ ]
  meet_at o w i a (x ∷ m) t (q ∷ fs) Y R (p ∷ ps) e f g = absurd cc
  meet_at o w i a [] t (q ∷ fs) Y R (p ∷ ps) e f g =
      halves o w i a t q q.half fs Y R p p.half ps e f.0.half f.0.node f.0.boxes f.1 g

  joins : (o : Operator) (s : Side) (w k i : ℕ) (h : Channel) (a : Amount) (m : List Mark) (t : List Term) (fs : List NamedFork) (Y : Named)
      (R : Registers) → named_join fs o w a m t ≡ Some Y → ForksAre F around fs R.forks → R.full ≡ false →
      Led Y R (does (by_row k (JOIN o s w) (token_in F (says a (spot h m t)))) i R)
  joins o s w k i h a (x ∷ m) t [] Y R e f g = absurd cc
  joins o s w k i h a (x ∷ m) t (q ∷ fs) Y R e f g = absurd cc
  joins o s w k i h a [] t fs Y R e f g =
      subst (λ m. Led Y R (does m i R)) (sym (by_says k (JOIN o s w) (val_of F a) h [] (boxes_of F t)))
      (meet_at o w i a [] t fs Y R R.forks e f g)

  -- a row
  questions : (r : Row) (k i : ℕ) (s : Spot) (fs : List NamedFork) (Y : Named) (R : Registers) → named_question k r s fs ≡ Some Y →
      ForksAre F around fs R.forks → R.full ≡ false → Led Y R (does (by_row k r (token_in F (asks s))) i R)
  questions (FORK c d) k i s fs Y R e f g = forked c d s.channel k i s.work s.boxes fs Y R e f g
  questions r k i s fs Y R e f g = solos r k i (asks s) fs Y R e f g

  answers : (r : Row) (k i : ℕ) (a : Amount) (s : Spot) (fs : List NamedFork) (Y : Named) (R : Registers) →
      named_answer k r a s fs ≡ Some Y → ForksAre F around fs R.forks → R.full ≡ false →
      Led Y R (does (by_row k r (token_in F (says a s))) i R)
  answers (JOIN o e w) k i a s fs Y R h f g = joins o e w k i s.channel a s.work s.boxes fs Y R h f g
  answers r k i a s fs Y R e f g = solos r k i (says a s) fs Y R e f g

  rows : (r : Row) (k i : ℕ) (x : Walker) (fs : List NamedFork) (Y : Named) (R : Registers) → named_row k r x fs ≡ Some Y →
      ForksAre F around fs R.forks → R.full ≡ false → Led Y R (does (by_row k r (token_in F x)) i R)
  rows r k i (asks s) fs Y R e f g = questions r k i s fs Y R e f g
  rows r k i (says a s) fs Y R e f g = answers r k i a s fs Y R e f g

  found : (o : Option (ℕ × Row)) (i : ℕ) (X Y : Named) (R : Registers) → named_found o X ≡ Some Y → ForksAre F around X.forks R.forks →
      R.full ≡ false → Led Y R (does (by_found o (token_in F X.live)) i R)
  found None i X Y R e f g = absurd cc
  found (Some r) i X Y R e f g = rows r.1 r.0 i X.live X.forks Y R e f g

  -- a cycle
  one : (net : NetTree) (X Y : Named) (R : Registers) → named_tick net X ≡ Some Y → IsNamed F around X R →
      Led Y (record R { moves = suc R.moves }) (tick net R)
  one net X Y R e n =
      let x : TokenTree = token_in F X.live in
      let led = found (row_of net (spot_of X.live).channel) n.ticket X Y (counted R) e n.forks n.ready in
      let way : by_rows net x ≡ by_found (row_of net (spot_of X.live).channel) x =
      ap (λ c. by_found (row_of net c) x) (token_channel F X.live) in
      let cycle : tick net R ≡ does (by_rows net x) n.ticket (counted R) =
      ap (λ b. cond b R (tick_on net R.live R)) n.ready ∙ ap (λ l. tick_on net l R) n.live in
      let same : does (by_found (row_of net (spot_of X.live).channel) x) n.ticket (counted R) ≡ tick net R =
      ap (λ m. does m n.ticket (counted R)) (sym way) ∙ sym cycle in
      subst (Led Y (record R { moves = suc R.moves })) same (record { named = led.named; moves = led.moves; result = led.result })

  -- so many
  record Reached (n : ℕ) (Y : Named) (R T : Registers) : Type 0 where
    named : IsNamed F around Y T
    moves : T.moves ≡ R.moves + n
    result : T.result ≡ R.result

  first : (net : NetTree) (n : ℕ) (X Y : Named) (R : Registers) (o : Option Named) → named_tick net X ≡ o → IsNamed F around X R →
      ((Z : Named) (T : Registers) → named_ticks net n Z ≡ Some Y → IsNamed F around Z T → Reached n Y T (ticks net n T)) →
      then_named o (named_ticks net n) ≡ Some Y → Reached (suc n) Y R (ticks net n (tick net R))
  first net n X Y R None h a go e = absurd cc
  first net n X Y R (Some Z) h a go e =
      let l = one net X Z R h a in
      let r = go Z (tick net R) e l.named in
      let m = l.moves in
      let k = r.moves in
      record { named = r.named; moves = omega arith; result = r.result ∙ l.result }

  many : (net : NetTree) (n : ℕ) (X Y : Named) (R : Registers) → named_ticks net n X ≡ Some Y → IsNamed F around X R →
      Reached n Y R (ticks net n R)
  many net zero X Y R e a =
      let same : X ≡ Y = cc in
      record { named = subst (λ Y. IsNamed F around Y R) same a; moves = omega arith; result = refl }
  many net (suc n) X Y R e a = first net n X Y R (named_tick net X) refl a (λ Z T h b. many net n Z Y T h b) e

pub joined_ticks : JoinedTicks
joined_ticks net n X Y e N around R a = let r = many N around net n X Y R e a in (r.named, r.moves, r.result)
