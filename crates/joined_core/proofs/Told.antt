-- What a check of a row tells, part by part.
use Rattle.std.proofs.Common.{◌≡◌, ℕ, zero, suc, Bool, true, false, cond, List, [], ◌∷◌, length, Option, Some, None, refl, ap}
use Rattle.std.specs.Prelude.{◌&&◌, nat_eq, nat_lt}
use Rattle.std.proofs.lemmas.Bool.{eqb-true, and_parts}
use Rattle.net_build.specs.Nets.{NetTree}
use Rattle.net_rows.specs.Rows.{Row, ANSWER, row_of}
use Rattle.joined_rows.specs.Open.{Term, named, a_star, a_left, a_right, a_pair, an_again, Mark, some, Spot, Walker, asks, says, spot_of}
use Rattle.joined_rows.specs.Compound.{has_name, terms_of}
use Rattle.joined_rows.specs.Ticks.{NamedFork, Named}
use Rattle.joined_core.specs.Rows.{Key, key_of, Site, Seen, nothing, Source, a_sig, a_box, a_word, a_part, given_at, Second, Way}
use Rattle.joined_core.specs.Rows.{onwards, answers_run, answers_fork, JoinedRow, row_moves}
use Rattle.joined_core.specs.Same.{same_key}
use Rattle.joined_core.specs.Right.{begins, plain_ticks, alone, lead_to, leads, found_join, few, few_or_name, all_few, forks_few, landed}
use Rattle.joined_core.specs.Right.{no_marks, is_answer, shape_in, is_shape, fits_at, list_fits, on_sigs_seen, on_boxes_seen, seen_cell}
use Rattle.joined_core.specs.Right.{source_fits, all_fit, second_right, answers_on, found_answers, way_right, value_named, deep}
use Rattle.joined_core.specs.Right.{first_right, row_right}
use Rattle.joined_core.proofs.Same.{key_is, term_is, source_is, named_is}

-- names in new shapes are words of the cell, and a name has its own pointer
abbrev pub FewTerm : Term → Type 0
FewTerm (named n) = Unit {0}
FewTerm x = few x ≡ true

abbrev pub FewAt : List Term → Type 0
FewAt [] = Unit {0}
FewAt (x ∷ xs) = FewTerm x × FewAt xs

abbrev pub FewForks : List NamedFork → Type 0
FewForks [] = Unit {0}
FewForks (f ∷ fs) = FewAt f.boxes × FewForks fs

pub record Landed (Y : Named) : Type 0 where
  pub sigs : FewAt (terms_of (spot_of Y.live).work)
  pub boxes : FewAt (spot_of Y.live).boxes
  pub forks : FewForks Y.forks

few_told : (x : Term) → few_or_name x ≡ true → FewTerm x
few_told (named n) e = tt
few_told a_star e = e
few_told (a_left x) e = e
few_told (a_right x) e = e
few_told (a_pair x y) e = e
few_told (an_again x y) e = e

all_told : (xs : List Term) → all_few xs ≡ true → FewAt xs
all_told [] e = tt
all_told (x ∷ xs) e = let p = and_parts (few_or_name x) (all_few xs) e in (few_told x p.0, all_told xs p.1)

forks_told : (fs : List NamedFork) → forks_few fs ≡ true → FewForks fs
forks_told [] e = tt
forks_told (f ∷ fs) e = let p = and_parts (all_few f.boxes) (forks_few fs) e in (all_told f.boxes p.0, forks_told fs p.1)

landed_told : (Y : Named) → landed Y ≡ true → Landed Y
landed_told Y e =
    let p = and_parts (all_few (terms_of (spot_of Y.live).work)) (all_few (spot_of Y.live).boxes && forks_few Y.forks) e in
    let q = and_parts (all_few (spot_of Y.live).boxes) (forks_few Y.forks) p.1 in
    record {
      sigs = all_told (terms_of (spot_of Y.live).work) p.0;
      boxes = all_told (spot_of Y.live).boxes q.0;
      forks = forks_told Y.forks q.1;
    }

-- what stands at the places of a list
abbrev pub FitsAt : (ℕ → Source) → Source → Option Term → Term → Type 0
FitsAt g s None (named n) = g n ≡ s
FitsAt g s None x = ⊥
FitsAt g s (Some y) x = shape_in g x ≡ Some y

abbrev pub ListFits : (ℕ → Source) → (ℕ → Source) → Option Term → ℕ → List Term → Type 0
ListFits g s seen i [] = Unit {0}
ListFits g s seen i (x ∷ xs) = FitsAt g (s i) seen x × ListFits g s None (suc i) xs

shape_told : (o : Option Term) (y : Term) → is_shape o y ≡ true → o ≡ Some y
shape_told None y e = absurd cc
shape_told (Some x) y e = ap Some (term_is x y e)

fits_told : (g : ℕ → Source) (s : Source) (seen : Option Term) (x : Term) → fits_at g s seen x ≡ true → FitsAt g s seen x
fits_told g s None (named n) e = source_is (g n) s e
fits_told g s None a_star e = absurd cc
fits_told g s None (a_left x) e = absurd cc
fits_told g s None (a_right x) e = absurd cc
fits_told g s None (a_pair x y) e = absurd cc
fits_told g s None (an_again x y) e = absurd cc
fits_told g s (Some y) x e = shape_told (shape_in g x) y e

list_told : (g s : ℕ → Source) (seen : Option Term) (i : ℕ) (xs : List Term) → list_fits g s seen i xs ≡ true → ListFits g s seen i xs
list_told g s seen i [] e = tt
list_told g s seen i (x ∷ xs) e =
    let p = and_parts (fits_at g (s i) seen x) (list_fits g s None (suc i) xs) e in
    (fits_told g (s i) seen x p.0, list_told g s None (suc i) xs p.1)

-- a word is read, or a part taken, of a cell alone
abbrev pub SourceFits : Seen → Source → Type 0
SourceFits e (a_sig i) = Unit {0}
SourceFits e (a_box i) = Unit {0}
SourceFits e (a_word i) = seen_cell e ≡ true
SourceFits e (a_part x) = has_name x ≡ true → seen_cell e ≡ true

abbrev pub SourcesFit : Seen → List Source → Type 0
SourcesFit e [] = Unit {0}
SourcesFit e (s ∷ ss) = SourceFits e s × SourcesFit e ss

part_told : (b c : Bool) → cond b c true ≡ true → b ≡ true → c ≡ true
part_told true c e h = e
part_told false c e h = absurd cc

source_told : (e : Seen) (s : Source) → source_fits e s ≡ true → SourceFits e s
source_told e (a_sig i) h = tt
source_told e (a_box i) h = tt
source_told e (a_word i) h = h
source_told e (a_part x) h = part_told (has_name x) (seen_cell e) h

sources_told : (e : Seen) (ss : List Source) → all_fit e ss ≡ true → SourcesFit e ss
sources_told e [] h = tt
sources_told e (s ∷ ss) h = let p = and_parts (source_fits e s) (all_fit e ss) h in (source_told e s p.0, sources_told e ss p.1)

pub given_fits : (e : Seen) (ss : List Source) → SourcesFit e ss → (n : ℕ) → SourceFits e (given_at ss n)
given_fits e [] h n = λ q. absurd cc
given_fits e (s ∷ ss) h zero = h.0
given_fits e (s ∷ ss) h (suc n) = given_fits e ss h.1 n

-- each box of the fork has a name whose pointer it is
abbrev pub SecondFits : Second → Type 0
SecondFits q = ListFits (given_at q.given) a_box None 0 q.boxes × SourcesFit nothing q.given

-- so many moves lead there from somewhere
pub record Led (net : NetTree) (n : ℕ) (o : Option Named) (Y : Named) : Type 0 where
  pub start : Named
  pub starts : o ≡ Some start
  pub leads : plain_ticks net n start ≡ Some Y

end_told : (o : Option Named) (Y : Named) → lead_to o Y ≡ true → o ≡ Some Y
end_told None Y e = absurd cc
end_told (Some X) Y e = ap Some (named_is X Y e)

led_told : (net : NetTree) (n : ℕ) (o : Option Named) (Y : Named) → leads net n o Y ≡ true → Led net n o Y
led_told net n None Y e = absurd cc
led_told net n (Some X) Y e = record { start = X; starts = refl; leads = end_told (plain_ticks net n X) Y e }

-- the second part of a row
pub record Met (net : NetTree) (s : Spot) (q : Second) : Type 0 where
  pub long : length q.boxes ≡ length s.boxes
  pub led : Led net q.moves (found_join net (row_of net s.channel) q.boxes) q.to
  pub landed : Landed q.to
  pub fits : SecondFits q

-- what a check of it tells
met_told : (net : NetTree) (s : Spot) (q : Second) → second_right net s q ≡ true → Met net s q
met_told net s q e =
    let fit : Bool = list_fits (given_at q.given) a_box None 0 q.boxes in
    let from : Bool = all_fit nothing q.given in
    let lead : Bool = leads net q.moves (found_join net (row_of net s.channel) q.boxes) q.to in
    let a = and_parts (nat_eq (length q.boxes) (length s.boxes)) (lead && (landed q.to && (fit && from))) e in
    let b = and_parts lead (landed q.to && (fit && from)) a.1 in
    let c = and_parts (landed q.to) (fit && from) b.1 in
    let d = and_parts fit from c.1 in
    record {
      long = eqb-true (length q.boxes) (length s.boxes) a.0;
      led = led_told net q.moves (found_join net (row_of net s.channel) q.boxes) q.to b.0;
      landed = landed_told q.to c.0;
      fits = (list_told (given_at q.given) a_box None 0 q.boxes d.0, sources_told nothing q.given d.1);
    }

-- an answer without marks
abbrev pub Answers : Walker → Type 0
Answers (asks s) = ⊥
Answers (says a s) = s.work ≡ []

abbrev pub WayRuns : NetTree → Named → Way → Type 0
WayRuns net Y onwards = Landed Y
WayRuns net Y answers_run =
    Answers Y.live × (Y.forks ≡ []) × ((i : ℕ) × (row_of net (spot_of Y.live).channel ≡ Some (i, ANSWER)))
WayRuns net Y (answers_fork q) = Answers Y.live × (Y.forks ≡ []) × Met net (spot_of Y.live) q

marks_told : (m : List Mark) → no_marks m ≡ true → m ≡ []
marks_told [] e = refl
marks_told (x ∷ m) e = absurd cc

answer_told : (x : Walker) (fs : List NamedFork) → is_answer x fs ≡ true → Answers x × (fs ≡ [])
answer_told (asks s) [] e = absurd cc
answer_told (asks s) (f ∷ fs) e = absurd cc
answer_told (says a s) [] e = (marks_told s.work e, refl)
answer_told (says a s) (f ∷ fs) e = absurd cc

row_told : (r : Row) → answers_on r ≡ true → r ≡ ANSWER
row_told ANSWER e = refl
row_told r e = absurd cc

found_told : (o : Option (ℕ × Row)) → found_answers o ≡ true → (i : ℕ) × (o ≡ Some (i, ANSWER))
found_told None e = absurd cc
found_told (Some r) e = (r.0, ap (λ q. Some (r.0, q)) (row_told r.1 e))

-- what a check of the way tells
way_told : (net : NetTree) (Y : Named) (way : Way) → way_right net Y way ≡ true → WayRuns net Y way
way_told net Y onwards e = landed_told Y e
way_told net Y answers_run e =
    let p = and_parts (is_answer Y.live Y.forks) (found_answers (row_of net (spot_of Y.live).channel)) e in
    let q = answer_told Y.live Y.forks p.0 in
    (q.0, q.1, found_told (row_of net (spot_of Y.live).channel) p.1)
way_told net Y (answers_fork q) e =
    let p = and_parts (is_answer Y.live Y.forks) (second_right net (spot_of Y.live) q) e in
    let a = answer_told Y.live Y.forks p.0 in
    (a.0, a.1, met_told net (spot_of Y.live) q p.1)

-- an answer's value has a name
abbrev pub ValueNamed : Walker → Type 0
ValueNamed (asks s) = Unit {0}
ValueNamed (says (some n) s) = Unit {0}
ValueNamed (says a s) = ⊥

value_told : (x : Walker) → value_named x ≡ true → ValueNamed x
value_told (asks s) e = tt
value_told (says (some n) s) e = tt
value_told (says a s) e = absurd cc

-- a row is right at a key and what is seen there
pub record RowRuns (net : NetTree) (w : Site) (k : Key) (e : Seen) (r : JoinedRow) : Type 0 where
  pub place : key_of r.from ≡ k
  pub value : ValueNamed r.from
  pub deep : deep net (spot_of r.from) ≡ true
  pub sigs : ListFits (given_at r.given) a_sig (on_sigs_seen w e) 0 (terms_of (spot_of r.from).work)
  pub boxes : ListFits (given_at r.given) a_box (on_boxes_seen w e) 0 (spot_of r.from).boxes
  pub sources : SourcesFit e r.given
  pub start : Walker
  pub starts : begins net e r.from ≡ Some start
  pub leads : plain_ticks net r.moves (alone start) ≡ Some r.to
  pub way : WayRuns net r.to r.way
  pub goes : nat_lt 0 (row_moves e r) ≡ true

-- where the first part begins, and that it leads where it says
first_told : (net : NetTree) (e : Seen) (r : JoinedRow) (o : Option Walker) → first_right net e r o ≡ true →
    (x : Walker) × (o ≡ Some x) × (plain_ticks net r.moves (alone x) ≡ Some r.to)
first_told net e r None h = absurd cc
first_told net e r (Some x) h = (x, refl, end_told (plain_ticks net r.moves (alone x)) r.to h)

-- what a check of the row tells
pub row_runs : (net : NetTree) (w : Site) (k : Key) (e : Seen) (r : JoinedRow) → row_right net w k e r ≡ true → RowRuns net w k e r
row_runs net w k e r h =
    let g : ℕ → Source = given_at r.given in
    let sigs : Bool = list_fits g a_sig (on_sigs_seen w e) 0 (terms_of (spot_of r.from).work) in
    let boxes : Bool = list_fits g a_box (on_boxes_seen w e) 0 (spot_of r.from).boxes in
    let first : Bool = first_right net e r (begins net e r.from) in
    let way : Bool = way_right net r.to r.way in
    let goes : Bool = nat_lt 0 (row_moves e r) in
    let rest : Bool = all_fit e r.given && (first && (way && goes)) in
    let a = and_parts (same_key (key_of r.from) k)
    (value_named r.from && (deep net (spot_of r.from) && (sigs && (boxes && rest)))) h in
    let b = and_parts (value_named r.from) (deep net (spot_of r.from) && (sigs && (boxes && rest))) a.1 in
    let c = and_parts (deep net (spot_of r.from)) (sigs && (boxes && rest)) b.1 in
    let d = and_parts sigs (boxes && rest) c.1 in
    let i = and_parts boxes rest d.1 in
    let j = and_parts (all_fit e r.given) (first && (way && goes)) i.1 in
    let l = and_parts first (way && goes) j.1 in
    let m = and_parts way goes l.1 in
    let f = first_told net e r (begins net e r.from) l.0 in
    record {
      place = key_is (key_of r.from) k a.0;
      value = value_told r.from b.0;
      deep = c.0;
      sigs = list_told g a_sig (on_sigs_seen w e) 0 (terms_of (spot_of r.from).work) d.0;
      boxes = list_told g a_box (on_boxes_seen w e) 0 (spot_of r.from).boxes i.0;
      sources = sources_told e r.given j.0;
      start = f.0;
      starts = f.1;
      leads = f.2;
      way = way_told net r.to r.way m.0;
      goes = m.1;
    }
