-- A row that begins with the name of one value alone has no other at its end.
use Rattle.std.proofs.Common.{◌≡◌, ℕ, zero, suc, List, [], ◌∷◌, Option, Some, None, refl, subst}
use Rattle.pcf_values.specs.declared.operator.Operator.{Operator}
use Rattle.net_build.specs.Nets.{NetTree}
use Rattle.net_rows.specs.Rows.{Row, TEST, FORK, JOIN, ANSWER, CONST, SUCC, PRED, STAR, UNSTAR, LEFT, RIGHT, CON, GO, PUSHR, PUSHL}
use Rattle.net_rows.specs.Rows.{SELECT, POP}
use Rattle.net_rows.specs.Rows.{BOXIN, BOXOUT, DOOROUT, DOORIN, FIXIN, FIXOUT, FIXVAR, DEAD, Channel, row_of}
use Rattle.joined_rows.specs.Open.{Term, Mark, Amount, some, known, more_than, less_than, both, Spot, Walker, asks, says, spot_of}
use Rattle.joined_rows.specs.Open.{row_of_names, then_at, tested, question_names, answer_names}
use Rattle.joined_rows.specs.Ticks.{NamedHalf, waiting, left, NamedFork, Named, goes_on, named_fork, named_half, named_join, named_question}
use Rattle.joined_rows.specs.Ticks.{named_answer, named_row, named_found, named_tick, then_named, named_ticks}

-- its one name is the first
abbrev pub OneIn : Amount → Type 0
OneIn (some zero) = Unit {0}
OneIn (some (suc n)) = ⊥
OneIn (known v) = Unit {0}
OneIn (more_than a) = OneIn a
OneIn (less_than a) = OneIn a
OneIn (both o a b) = OneIn a × OneIn b

abbrev pub OneAt : Walker → Type 0
OneAt (asks s) = Unit {0}
OneAt (says a s) = OneIn a

abbrev pub OneHalf : NamedHalf → Type 0
OneHalf (waiting q) = Unit {0}
OneHalf (left a) = OneIn a

abbrev pub OneForks : List NamedFork → Type 0
OneForks [] = Unit {0}
OneForks (f ∷ fs) = OneHalf f.half × OneForks fs

abbrev pub OneValue : Named → Type 0
OneValue X = OneAt X.live × OneForks X.forks

of_some : {A : Type 0} (P : A → Type 0) (x y : A) → P x → Some x ≡ Some y → P y
of_some P x y h e = let same : x ≡ y = cc in subst P same h

asked : (o : Option Spot) (y : Walker) → then_at o asks ≡ Some y → OneAt y
asked None y e = absurd cc
asked (Some s) y e = let same : asks s ≡ y = cc in subst OneAt same tt

said : (a : Amount) → OneIn a → (o : Option Spot) (y : Walker) → then_at o (says a) ≡ Some y → OneAt y
said a h None y e = absurd cc
said a h (Some s) y e = let same : says a s ≡ y = cc in subst OneAt same h

tests : (a : Amount) (c d : Channel) (m : List Mark) (t : List Term) (y : Walker) → tested a c d m t ≡ Some y → OneAt y
tests (known v) c d m t y e = of_some OneAt (asks _) y tt e
tests (some n) c d m t y e = absurd cc
tests (more_than a) c d m t y e = absurd cc
tests (less_than a) c d m t y e = absurd cc
tests (both o a b) c d m t y e = absurd cc

-- a question that goes on to a row says no value but its own one
question_one : (r : Row) (m : List Mark) (t : List Term) (y : Walker) → question_names r m t ≡ Some y → OneAt y
question_one (CONST n c) m t y e = of_some OneAt (says _ _) y tt e
question_one (FORK c d) m t y e = absurd cc
question_one (SUCC c) m t y e = asked (row_of_names (SUCC c) m t) y e
question_one (PRED c) m t y e = asked (row_of_names (PRED c) m t) y e
question_one (TEST c d) m t y e = asked (row_of_names (TEST c d) m t) y e
question_one (JOIN o s w) m t y e = asked (row_of_names (JOIN o s w) m t) y e
question_one ANSWER m t y e = asked (row_of_names ANSWER m t) y e
question_one (GO c) m t y e = asked (row_of_names (GO c) m t) y e
question_one (STAR c) m t y e = asked (row_of_names (STAR c) m t) y e
question_one (UNSTAR c) m t y e = asked (row_of_names (UNSTAR c) m t) y e
question_one (LEFT c) m t y e = asked (row_of_names (LEFT c) m t) y e
question_one (RIGHT c) m t y e = asked (row_of_names (RIGHT c) m t) y e
question_one (CON c d) m t y e = asked (row_of_names (CON c d) m t) y e
question_one (PUSHR c) m t y e = asked (row_of_names (PUSHR c) m t) y e
question_one (PUSHL c) m t y e = asked (row_of_names (PUSHL c) m t) y e
question_one (SELECT c d) m t y e = asked (row_of_names (SELECT c d) m t) y e
question_one (POP c) m t y e = asked (row_of_names (POP c) m t) y e
question_one (BOXIN c) m t y e = asked (row_of_names (BOXIN c) m t) y e
question_one (BOXOUT c) m t y e = asked (row_of_names (BOXOUT c) m t) y e
question_one (DOOROUT c) m t y e = asked (row_of_names (DOOROUT c) m t) y e
question_one (DOORIN c) m t y e = asked (row_of_names (DOORIN c) m t) y e
question_one (FIXIN c) m t y e = asked (row_of_names (FIXIN c) m t) y e
question_one (FIXOUT c d) m t y e = asked (row_of_names (FIXOUT c d) m t) y e
question_one (FIXVAR c) m t y e = asked (row_of_names (FIXVAR c) m t) y e
question_one DEAD m t y e = asked (row_of_names DEAD m t) y e

-- nor does an answer that goes on
answer_one : (r : Row) (a : Amount) (m : List Mark) (t : List Term) (y : Walker) → OneIn a → answer_names r a m t ≡ Some y → OneAt y
answer_one (SUCC c) a m t y h e = of_some OneAt (says (more_than a) _) y h e
answer_one (PRED c) a m t y h e = of_some OneAt (says (less_than a) _) y h e
answer_one (TEST c d) a m t y h e = tests a c d m t y e
answer_one (JOIN o s w) a m t y h e = absurd cc
answer_one ANSWER a m t y h e = absurd cc
answer_one (GO c) a m t y h e = said a h (row_of_names (GO c) m t) y e
answer_one (STAR c) a m t y h e = said a h (row_of_names (STAR c) m t) y e
answer_one (UNSTAR c) a m t y h e = said a h (row_of_names (UNSTAR c) m t) y e
answer_one (LEFT c) a m t y h e = said a h (row_of_names (LEFT c) m t) y e
answer_one (RIGHT c) a m t y h e = said a h (row_of_names (RIGHT c) m t) y e
answer_one (CON c d) a m t y h e = said a h (row_of_names (CON c d) m t) y e
answer_one (PUSHR c) a m t y h e = said a h (row_of_names (PUSHR c) m t) y e
answer_one (PUSHL c) a m t y h e = said a h (row_of_names (PUSHL c) m t) y e
answer_one (SELECT c d) a m t y h e = said a h (row_of_names (SELECT c d) m t) y e
answer_one (POP c) a m t y h e = said a h (row_of_names (POP c) m t) y e
answer_one (BOXIN c) a m t y h e = said a h (row_of_names (BOXIN c) m t) y e
answer_one (BOXOUT c) a m t y h e = said a h (row_of_names (BOXOUT c) m t) y e
answer_one (DOOROUT c) a m t y h e = said a h (row_of_names (DOOROUT c) m t) y e
answer_one (DOORIN c) a m t y h e = said a h (row_of_names (DOORIN c) m t) y e
answer_one (FIXIN c) a m t y h e = said a h (row_of_names (FIXIN c) m t) y e
answer_one (FIXOUT c d) a m t y h e = said a h (row_of_names (FIXOUT c d) m t) y e
answer_one (FIXVAR c) a m t y h e = said a h (row_of_names (FIXVAR c) m t) y e
answer_one DEAD a m t y h e = said a h (row_of_names DEAD m t) y e
answer_one (CONST n c) a m t y h e = said a h (row_of_names (CONST n c) m t) y e
answer_one (FORK c d) a m t y h e = said a h (row_of_names (FORK c d) m t) y e

on_one : (fs : List NamedFork) → OneForks fs → (o : Option Walker) (Y : Named) → ((y : Walker) → o ≡ Some y → OneAt y) →
    goes_on fs o ≡ Some Y → OneValue Y
on_one fs h None Y f e = absurd cc
on_one fs h (Some y) Y f e =
    let Z : Named = record { live = y; forks = fs } in
    let same : Z ≡ Y = cc in
    subst OneValue same (f y refl, h)

forks_one : (i : ℕ) (c d : Channel) (m : List Mark) (t : List Term) (fs : List NamedFork) (Y : Named) → OneForks fs →
    named_fork i c d m t fs ≡ Some Y → OneValue Y
forks_one i c d [] t fs Y h e =
    let Z : Named = record {
      live = asks (record { channel = c; work = []; boxes = t });
      forks = record { node = i; boxes = t; half = waiting (record { channel = d; work = []; boxes = t }) } ∷ fs;
    } in
    let same : Z ≡ Y = cc in
    subst OneValue same (tt, (tt, h))
forks_one i c d (x ∷ m) t fs Y h e = absurd cc

half_one : (g : NamedHalf) (f : NamedFork) (fs : List NamedFork) (o : Operator) (w : ℕ) (a : Amount) (t : List Term) (Y : Named) →
    OneHalf g → OneForks fs → OneIn a → named_half g f fs o w a t ≡ Some Y → OneValue Y
half_one (waiting q) f fs o w a t Y g h l e =
    let Z : Named = record { live = asks q; forks = record f { half = left a } ∷ fs } in
    let same : Z ≡ Y = cc in
    subst OneValue same (tt, (l, h))
half_one (left u) f fs o w a t Y g h l e =
    of_some OneValue (record { live = says (both o u a) _; forks = fs }) Y ((g, l), h) e

join_one : (fs : List NamedFork) (o : Operator) (w : ℕ) (a : Amount) (m : List Mark) (t : List Term) (Y : Named) → OneForks fs → OneIn a →
    named_join fs o w a m t ≡ Some Y → OneValue Y
join_one [] o w a m t Y h l e = absurd cc
join_one (f ∷ fs) o w a [] t Y h l e = half_one f.half f fs o w a t Y h.0 h.1 l e
join_one (f ∷ fs) o w a (x ∷ m) t Y h l e = absurd cc

-- of one name everywhere stays what a row makes of a question, with its forks
asks_one : (i : ℕ) (r : Row) (s : Spot) (fs : List NamedFork) (Y : Named) → OneForks fs → named_question i r s fs ≡ Some Y → OneValue Y
asks_one i (FORK c d) s fs Y h e = forks_one i c d s.work s.boxes fs Y h e
asks_one i (SUCC c) q fs Y h e = on_one fs h (question_names (SUCC c) q.work q.boxes) Y (question_one (SUCC c) q.work q.boxes) e
asks_one i (PRED c) q fs Y h e = on_one fs h (question_names (PRED c) q.work q.boxes) Y (question_one (PRED c) q.work q.boxes) e
asks_one i (TEST c d) q fs Y h e = on_one fs h (question_names (TEST c d) q.work q.boxes) Y (question_one (TEST c d) q.work q.boxes) e
asks_one i (JOIN o s w) q fs Y h e = on_one fs h (question_names (JOIN o s w) q.work q.boxes) Y (question_one (JOIN o s w) q.work q.boxes) e
asks_one i ANSWER q fs Y h e = on_one fs h (question_names ANSWER q.work q.boxes) Y (question_one ANSWER q.work q.boxes) e
asks_one i (GO c) q fs Y h e = on_one fs h (question_names (GO c) q.work q.boxes) Y (question_one (GO c) q.work q.boxes) e
asks_one i (STAR c) q fs Y h e = on_one fs h (question_names (STAR c) q.work q.boxes) Y (question_one (STAR c) q.work q.boxes) e
asks_one i (UNSTAR c) q fs Y h e = on_one fs h (question_names (UNSTAR c) q.work q.boxes) Y (question_one (UNSTAR c) q.work q.boxes) e
asks_one i (LEFT c) q fs Y h e = on_one fs h (question_names (LEFT c) q.work q.boxes) Y (question_one (LEFT c) q.work q.boxes) e
asks_one i (RIGHT c) q fs Y h e = on_one fs h (question_names (RIGHT c) q.work q.boxes) Y (question_one (RIGHT c) q.work q.boxes) e
asks_one i (CON c d) q fs Y h e = on_one fs h (question_names (CON c d) q.work q.boxes) Y (question_one (CON c d) q.work q.boxes) e
asks_one i (PUSHR c) q fs Y h e = on_one fs h (question_names (PUSHR c) q.work q.boxes) Y (question_one (PUSHR c) q.work q.boxes) e
asks_one i (PUSHL c) q fs Y h e = on_one fs h (question_names (PUSHL c) q.work q.boxes) Y (question_one (PUSHL c) q.work q.boxes) e
asks_one i (SELECT c d) q fs Y h e = on_one fs h (question_names (SELECT c d) q.work q.boxes) Y (question_one (SELECT c d) q.work q.boxes) e
asks_one i (POP c) q fs Y h e = on_one fs h (question_names (POP c) q.work q.boxes) Y (question_one (POP c) q.work q.boxes) e
asks_one i (BOXIN c) q fs Y h e = on_one fs h (question_names (BOXIN c) q.work q.boxes) Y (question_one (BOXIN c) q.work q.boxes) e
asks_one i (BOXOUT c) q fs Y h e = on_one fs h (question_names (BOXOUT c) q.work q.boxes) Y (question_one (BOXOUT c) q.work q.boxes) e
asks_one i (DOOROUT c) q fs Y h e = on_one fs h (question_names (DOOROUT c) q.work q.boxes) Y (question_one (DOOROUT c) q.work q.boxes) e
asks_one i (DOORIN c) q fs Y h e = on_one fs h (question_names (DOORIN c) q.work q.boxes) Y (question_one (DOORIN c) q.work q.boxes) e
asks_one i (FIXIN c) q fs Y h e = on_one fs h (question_names (FIXIN c) q.work q.boxes) Y (question_one (FIXIN c) q.work q.boxes) e
asks_one i (FIXOUT c d) q fs Y h e = on_one fs h (question_names (FIXOUT c d) q.work q.boxes) Y (question_one (FIXOUT c d) q.work q.boxes) e
asks_one i (FIXVAR c) q fs Y h e = on_one fs h (question_names (FIXVAR c) q.work q.boxes) Y (question_one (FIXVAR c) q.work q.boxes) e
asks_one i DEAD q fs Y h e = on_one fs h (question_names DEAD q.work q.boxes) Y (question_one DEAD q.work q.boxes) e
asks_one i (CONST n c) q fs Y h e = on_one fs h (question_names (CONST n c) q.work q.boxes) Y (question_one (CONST n c) q.work q.boxes) e

-- and what a row makes of an answer
says_one : (i : ℕ) (r : Row) (a : Amount) (spot : Spot) (fs : List NamedFork) (Y : Named) → OneForks fs → OneIn a →
    named_answer i r a spot fs ≡ Some Y → OneValue Y
says_one i (JOIN o s w) a spot fs Y ones one e = join_one fs o w a spot.work spot.boxes Y ones one e
says_one i (SUCC c) a spot fs Y ones one e =
    on_one fs ones (answer_names (SUCC c) a spot.work spot.boxes) Y (λ y. answer_one (SUCC c) a spot.work spot.boxes y one) e
says_one i (PRED c) a spot fs Y ones one e =
    on_one fs ones (answer_names (PRED c) a spot.work spot.boxes) Y (λ y. answer_one (PRED c) a spot.work spot.boxes y one) e
says_one i (TEST c d) a spot fs Y ones one e =
    on_one fs ones (answer_names (TEST c d) a spot.work spot.boxes) Y (λ y. answer_one (TEST c d) a spot.work spot.boxes y one) e
says_one i ANSWER a spot fs Y ones one e =
    on_one fs ones (answer_names ANSWER a spot.work spot.boxes) Y (λ y. answer_one ANSWER a spot.work spot.boxes y one) e
says_one i (GO c) a spot fs Y ones one e =
    on_one fs ones (answer_names (GO c) a spot.work spot.boxes) Y (λ y. answer_one (GO c) a spot.work spot.boxes y one) e
says_one i (STAR c) a spot fs Y ones one e =
    on_one fs ones (answer_names (STAR c) a spot.work spot.boxes) Y (λ y. answer_one (STAR c) a spot.work spot.boxes y one) e
says_one i (UNSTAR c) a spot fs Y ones one e =
    on_one fs ones (answer_names (UNSTAR c) a spot.work spot.boxes) Y (λ y. answer_one (UNSTAR c) a spot.work spot.boxes y one) e
says_one i (LEFT c) a spot fs Y ones one e =
    on_one fs ones (answer_names (LEFT c) a spot.work spot.boxes) Y (λ y. answer_one (LEFT c) a spot.work spot.boxes y one) e
says_one i (RIGHT c) a spot fs Y ones one e =
    on_one fs ones (answer_names (RIGHT c) a spot.work spot.boxes) Y (λ y. answer_one (RIGHT c) a spot.work spot.boxes y one) e
says_one i (CON c d) a spot fs Y ones one e =
    on_one fs ones (answer_names (CON c d) a spot.work spot.boxes) Y (λ y. answer_one (CON c d) a spot.work spot.boxes y one) e
says_one i (PUSHR c) a spot fs Y ones one e =
    on_one fs ones (answer_names (PUSHR c) a spot.work spot.boxes) Y (λ y. answer_one (PUSHR c) a spot.work spot.boxes y one) e
says_one i (PUSHL c) a spot fs Y ones one e =
    on_one fs ones (answer_names (PUSHL c) a spot.work spot.boxes) Y (λ y. answer_one (PUSHL c) a spot.work spot.boxes y one) e
says_one i (SELECT c d) a spot fs Y ones one e =
    on_one fs ones (answer_names (SELECT c d) a spot.work spot.boxes) Y (λ y. answer_one (SELECT c d) a spot.work spot.boxes y one) e
says_one i (POP c) a spot fs Y ones one e =
    on_one fs ones (answer_names (POP c) a spot.work spot.boxes) Y (λ y. answer_one (POP c) a spot.work spot.boxes y one) e
says_one i (BOXIN c) a spot fs Y ones one e =
    on_one fs ones (answer_names (BOXIN c) a spot.work spot.boxes) Y (λ y. answer_one (BOXIN c) a spot.work spot.boxes y one) e
says_one i (BOXOUT c) a spot fs Y ones one e =
    on_one fs ones (answer_names (BOXOUT c) a spot.work spot.boxes) Y (λ y. answer_one (BOXOUT c) a spot.work spot.boxes y one) e
says_one i (DOOROUT c) a spot fs Y ones one e =
    on_one fs ones (answer_names (DOOROUT c) a spot.work spot.boxes) Y (λ y. answer_one (DOOROUT c) a spot.work spot.boxes y one) e
says_one i (DOORIN c) a spot fs Y ones one e =
    on_one fs ones (answer_names (DOORIN c) a spot.work spot.boxes) Y (λ y. answer_one (DOORIN c) a spot.work spot.boxes y one) e
says_one i (FIXIN c) a spot fs Y ones one e =
    on_one fs ones (answer_names (FIXIN c) a spot.work spot.boxes) Y (λ y. answer_one (FIXIN c) a spot.work spot.boxes y one) e
says_one i (FIXOUT c d) a spot fs Y ones one e =
    on_one fs ones (answer_names (FIXOUT c d) a spot.work spot.boxes) Y (λ y. answer_one (FIXOUT c d) a spot.work spot.boxes y one) e
says_one i (FIXVAR c) a spot fs Y ones one e =
    on_one fs ones (answer_names (FIXVAR c) a spot.work spot.boxes) Y (λ y. answer_one (FIXVAR c) a spot.work spot.boxes y one) e
says_one i DEAD a spot fs Y ones one e =
    on_one fs ones (answer_names DEAD a spot.work spot.boxes) Y (λ y. answer_one DEAD a spot.work spot.boxes y one) e
says_one i (CONST n c) a spot fs Y ones one e =
    on_one fs ones (answer_names (CONST n c) a spot.work spot.boxes) Y (λ y. answer_one (CONST n c) a spot.work spot.boxes y one) e
says_one i (FORK c d) a spot fs Y ones one e =
    on_one fs ones (answer_names (FORK c d) a spot.work spot.boxes) Y (λ y. answer_one (FORK c d) a spot.work spot.boxes y one) e

row_one : (i : ℕ) (r : Row) (x : Walker) (fs : List NamedFork) (Y : Named) → OneAt x → OneForks fs → named_row i r x fs ≡ Some Y →
    OneValue Y
row_one i r (asks s) fs Y l h e = asks_one i r s fs Y h e
row_one i r (says a s) fs Y l h e = says_one i r a s fs Y h l e

found_one : (o : Option (ℕ × Row)) (X Y : Named) → OneValue X → named_found o X ≡ Some Y → OneValue Y
found_one None X Y h e = absurd cc
found_one (Some r) X Y h e = row_one r.0 r.1 X.live X.forks Y h.0 h.1 e

pub ticks_one : (net : NetTree) (n : ℕ) (X Y : Named) → named_ticks net n X ≡ Some Y → OneValue X → OneValue Y
ticks_one net zero X Y e h = let same : X ≡ Y = cc in subst OneValue same h
ticks_one net (suc n) X Y e h =
    go (named_tick net X) (found_one (row_of net (spot_of X.live).channel) X) (λ Z. ticks_one net n Z Y) e
  where
    go : (o : Option Named) → ((Z : Named) → OneValue X → o ≡ Some Z → OneValue Z) →
        ((Z : Named) → named_ticks net n Z ≡ Some Y → OneValue Z → OneValue Y) → then_named o (named_ticks net n) ≡ Some Y → OneValue Y
    go None one rest e = absurd cc
    go (Some Z) one rest e = rest Z e (one Z h refl)
