-- Rows that are joined, one after another.
use Rattle.std.proofs.Common.{◌≡◌, ℕ, zero, suc, ◌+◌, Option, Some, None, refl, sym, ap, ◌∙◌, subst, arith}
use Rattle.net_build.specs.Nets.{NetTree}
use Rattle.move_rules.specs.Places.{place_of}
use Rattle.move_rules.specs.Moves.{solo}
use Rattle.net_rows.specs.Rows.{Row, Channel, rises, falls, row_of, channel_of}
use Rattle.net_rows.specs.RowMoves.{at, by_found, by_rows}
use Rattle.token_stacks.specs.Signatures.{Work, Boxes}
use Rattle.joined_rows.specs.Open.{Walker, asks, says, Filling, token_in, work_of, boxes_of, spot_of, found_walks, walks}
use Rattle.joined_rows.specs.Joined.{then_walks, walks_on, on_solo, moves_on}
use Rattle.joined_rows.specs.Laws.{JoinedRuns, JoinedPairs, JoinedOne}
use Rattle.joined_rows.proofs.Rows.{row_joins}

channel_at : (c : Channel) (m : Work) (t : Boxes) → channel_of (at c m t) ≡ c
channel_at (rises w) m t = refl
channel_at (falls w) m t = refl

pub token_channel : (F : Filling) (x : Walker) → channel_of (place_of (token_in F x)) ≡ (spot_of x).channel
token_channel F (asks s) = channel_at s.channel (work_of F s.work) (boxes_of F s.boxes)
token_channel F (says a s) = channel_at s.channel (work_of F s.work) (boxes_of F s.boxes)

-- the row that was found
found_joins : (o : Option (ℕ × Row)) (x y : Walker) (F : Filling) → found_walks o x ≡ Some y →
    (i : ℕ) × (by_found o (token_in F x) ≡ solo i (token_in F y))
found_joins None x y F e = absurd cc
found_joins (Some r) x y F e = (r.0, row_joins r.0 r.1 x y e F)

walk_joins : (net : NetTree) (x y : Walker) (F : Filling) → walks net x ≡ Some y →
    (i : ℕ) × (by_rows net (token_in F x) ≡ solo i (token_in F y))
walk_joins net x y F e =
    let f = found_joins (row_of net (spot_of x).channel) x y F e in
    (f.0, ap (λ c. by_found (row_of net c) (token_in F x)) (token_channel F x) ∙ f.1)

-- where the first of them leads, if the others go through from there
runs_first : (net : NetTree) (n : ℕ) (x y : Walker) (F : Filling) (o : Option Walker) → walks net x ≡ o →
    ((z : Walker) → walks_on net n z ≡ Some y → moves_on net n (token_in F z) ≡ Some (token_in F y)) →
    then_walks o (walks_on net n) ≡ Some y → moves_on net (suc n) (token_in F x) ≡ Some (token_in F y)
runs_first net n x y F None h go e = absurd cc
runs_first net n x y F (Some z) h go e =
    let w = walk_joins net x z F h in
    ap (λ b. on_solo b (moves_on net n)) w.1 ∙ go z e

runs_from : (net : NetTree) (n : ℕ) (x y : Walker) (F : Filling) → walks_on net n x ≡ Some y →
    moves_on net n (token_in F x) ≡ Some (token_in F y)
runs_from net zero x y F e = let same : x ≡ y = cc in ap (λ x. Some (token_in F x)) same
runs_from net (suc n) x y F e = runs_first net n x y F (walks net x) refl (λ z h. runs_from net n z y F h) e

pub joined_runs : JoinedRuns
joined_runs net x y n j F = runs_from net n x y F j.leads

pub joined_one : JoinedOne
joined_one net x y e = record { leads = ap (λ o. then_walks o (walks_on net 0)) e }

pairs_first : (net : NetTree) (n k : ℕ) (o : Option Walker) (y z : Walker) →
    ((u : Walker) → walks_on net n u ≡ Some y → walks_on net (n + k) u ≡ Some z) → then_walks o (walks_on net n) ≡ Some y →
    then_walks o (walks_on net (n + k)) ≡ Some z
pairs_first net n k None y z go e = absurd cc
pairs_first net n k (Some u) y z go e = go u e

pairs_from : (net : NetTree) (n k : ℕ) (x y z : Walker) → walks_on net k y ≡ Some z → walks_on net n x ≡ Some y →
    walks_on net (n + k) x ≡ Some z
pairs_from net zero k x y z f e =
    let same : x ≡ y = cc in
    let none : 0 + k ≡ k = omega arith in
    subst (λ j. walks_on net j x ≡ Some z) (sym none) (subst (λ x. walks_on net k x ≡ Some z) (sym same) f)
pairs_from net (suc n) k x y z f e =
    let next : suc n + k ≡ suc (n + k) = omega arith in
    subst (λ j. walks_on net j x ≡ Some z) (sym next) (pairs_first net n k (walks net x) y z (λ u h. pairs_from net n k u y z f h) e)

pub joined_pairs : JoinedPairs
joined_pairs net x y z n k i j = record { leads = pairs_from net n k x y z j.leads i.leads }
