-- A walk, move by move.
use Rattle.std.proofs.Common.{◌≡◌, ◌⊎◌, ℕ, ◌+◌, ◌-◌, ◌<◌, ◌≤◌, Bool, true, false, cond, List, [], ◌∷◌}
use Rattle.std.proofs.Common.{◌++◌, length, Option, Some, None}
use Rattle.std.proofs.Common.{Result, Ok, Err, refl, sym, ap, ◌∙◌, subst, inl, inr, arith}
use Rattle.std.specs.List.{All}
use Rattle.std.specs.Result.{IfOk}
use Rattle.std.proofs.lemmas.List.{length-append}
use Rattle.std.proofs.lemmas.List.Elements.{All-nil, All-push, All-head}
use Rattle.token_stacks.specs.Signatures.{Work, Boxes}
use Rattle.token_stacks.specs.Loads.{load}
use Rattle.net_build.specs.Nets.{NetTree}
use Rattle.move_rules.specs.declared.token.Kind.{Kind}
use Rattle.move_rules.specs.declared.token.Kind.TheVariants.{Ask, Ans}
use Rattle.move_rules.specs.declared.token.Token.{Token}
use Rattle.move_rules.specs.declared.token.Seen.{Seen}
use Rattle.move_rules.specs.Places.{TokenTree, place_of}
use Rattle.move_rules.specs.Moves.{Move, solo, fork, join, answer, stay, move}
use Rattle.move_rules.specs.AtNode.{move_at, NotSolo}
use Rattle.move_rules.specs.Views.{place_at, of_kind, token_of}
use Rattle.move_rules.specs.Walks.{Walks, numbers, Stands, faces, on_solo, through, SoloMove, Passage, Reached, Walked, MadeIfSolo}

-- one move more behind a walk
walks_more : (net : NetTree) (trail : List Seen) (s : Seen) (x y z : TokenTree) → Walks net x (numbers trail) y →
    move net y ≡ solo s.at z
    → Walks net x (numbers (trail ++ s ∷ [])) z
walks_more net [] s x y z w h = (z, ap (move net) w ∙ h, refl)
walks_more net (a ∷ trail) s x y z (u, m, w) h = (u, m, walks_more net trail s u y z w h)

-- what follows a test and a solo move
abbrev then_through : Bool → Move → (TokenTree → Option TokenTree) → Option TokenTree
then_through b m f = cond b (on_solo m f) None

then_more : (trail : List Seen) (s : Seen) (y z : TokenTree) (b : Bool) (m : Move)
    → ((u : TokenTree) → through trail u ≡ Some y → through (trail ++ s ∷ []) u ≡ Some z)
    → then_through b m (through trail) ≡ Some y → then_through b m (through (trail ++ s ∷ [])) ≡ Some z
then_more trail s y z true (solo i u) go h = go u h
then_more trail s y z true (fork i l r t) go h = cc
then_more trail s y z true (join i o d v w t) go h = cc
then_more trail s y z true (answer v) go h = cc
then_more trail s y z true stay go h = cc
then_more trail s y z false m go h = cc

through_more : (trail : List Seen) (s : Seen) (x y z : TokenTree) → through trail x ≡ Some y → through (s ∷ []) y ≡ Some z
    → through (trail ++ s ∷ []) x ≡ Some z
through_more [] s x y z h e = let q : x ≡ y = cc in ap (through (s ∷ [])) q ∙ e
through_more (a ∷ trail) s x y z h e =
    then_more trail s y z (faces a.node (place_of x)) (move_at a.at a.node x) (λ u g. through_more trail s u y z g e) h

-- one more on the trail, and one fewer left
longer : (trail trail' : List Seen) (s : Seen) (left most : ℕ) → length trail + left ≡ most → 0 < left → trail' ≡ trail ++ s ∷
    []
    → length trail' + (left - 1) ≡ most
longer trail trail' s left most c p t =
    let l : length (trail ++ s ∷ []) ≡ length trail + 1 = length-append trail (s ∷ []) in
    let k : length trail' ≡ length (trail ++ s ∷ []) = ap length t in
    omega (arith, l, k, c, p)

-- a walk on its way
pub record Walking (net : NetTree) (token before after : Token) (trail : List Seen) (left most : ℕ) : Type 0 where
  pub same : before ≡ token
  pub passed : through trail (token_of before) ≡ Some (token_of after)
  pub moves : Walks net (token_of before) (numbers trail) (token_of after)
  pub nodes : All (Stands net) trail
  pub count : length trail + left ≡ most

pub begins : (net : NetTree) (token before : Token) (trail : List Seen) (most : ℕ) → before ≡ token → trail ≡ []
    → Walking net token before token trail most most
begins net token before trail most e t = record {
  same = e;
  passed = ap (λ r. through r (token_of before)) t ∙ ap (λ k. Some (token_of k)) e;
  moves = subst (λ r. Walks net (token_of before) (numbers r) (token_of token)) (sym t) (ap token_of e);
  nodes = subst (All (Stands net)) (sym t) (All-nil (Stands net));
  count = let l : length trail ≡ 0 = ap length t in omega (arith, l);
}

-- one solo move more keeps what a walk on its way is: the trail has the move's node behind it, and one move fewer is left
pub goes_on : (net : NetTree) (token before after after' : Token) (trail trail' : List Seen) (s : Seen) (left most : ℕ)
    → Walking net token before after trail left most → 0 < left → SoloMove net after s after' → trail' ≡ trail ++ s ∷ []
    → Walking net token before after' trail' (left - 1) most
goes_on net token before after after' trail trail' s left most w p e t = record {
  same = w.same;
  passed = ap (λ r. through r (token_of before)) t
      ∙ through_more trail s (token_of before) (token_of after) (token_of after') w.passed e.passes;
  moves =
      subst (λ r. Walks net (token_of before) (numbers r) (token_of after')) (sym t)
      (walks_more net trail s (token_of before) (token_of after) (token_of after') w.moves e.moves);
  nodes = subst (All (Stands net)) (sym t) (All-push (Stands net) trail s w.nodes e.stands);
  count = longer trail trail' s left most w.count p t;
}

pub ends_zero : (net : NetTree) (token before after : Token) (trail : List Seen) (left most : ℕ)
    → Walking net token before after trail left most → left ≡ 0 →
    Walked net most (record { before = before; after = after; trail = trail })
ends_zero net token before after trail left most w e =
    let c = w.count in
    record { moves = w.moves; nodes = w.nodes; at_most = omega (arith, c); ends = inl (omega (arith, c, e)) }

-- the end of a walk before a move that is no solo move, with what the last step gave
pub ends_still : (net : NetTree) (token before after last : Token) (trail : List Seen) (left most : ℕ)
    → Walking net token before after trail left most → NotSolo (move net (token_of after)) × (last ≡ after)
    → Walked net most (record { before = before; after = last; trail = trail })
ends_still net token before after last trail left most w (n, e) =
    let c = w.count in
    subst (λ k. Walked net most (record { before = before; after = k; trail = trail })) (sym e)
    (record { moves = w.moves; nodes = w.nodes; at_most = omega (arith, c); ends = inr n })

pub reached_still : (net : NetTree) (token before after last : Token) (trail : List Seen) (left most : ℕ)
    → Walking net token before after trail left most → NotSolo (move net (token_of after)) × (last ≡ after)
    → Reached (record { before = before; after = last; trail = trail })
reached_still net token before after last trail left most w (n, e) = w.passed ∙ ap (λ k. Some (token_of k)) (sym e)

-- tokens that are seen alike are alike
pub token_is : (k k' : Token) → token_of k ≡ token_of k' → k ≡ k'
token_is k k' h = go k.wire k'.wire k.up k'.up k.kind k'.kind k.stacks.work k'.stacks.work k.stacks.boxes k'.stacks.boxes h
  where
    go : (w w' : ℕ) (b b' : Bool) (q q' : Kind) (m m' : Work) (t t' : Boxes)
        → of_kind q (place_at w b (load m t)) ≡ of_kind q' (place_at w' b' (load m' t'))
        → ◌≡◌ {A = Token} (record { wire = w; up = b; kind = q; stacks = load m t })
        (record { wire = w'; up = b'; kind = q'; stacks = load m' t' })
    go w w' true true Ask Ask m m' t t' h = cc
    go w w' true true Ask (Ans v) m m' t t' h = cc
    go w w' true true (Ans u) Ask m m' t t' h = cc
    go w w' true true (Ans u) (Ans v) m m' t t' h = cc
    go w w' true false Ask Ask m m' t t' h = cc
    go w w' true false Ask (Ans v) m m' t t' h = cc
    go w w' true false (Ans u) Ask m m' t t' h = cc
    go w w' true false (Ans u) (Ans v) m m' t t' h = cc
    go w w' false true Ask Ask m m' t t' h = cc
    go w w' false true Ask (Ans v) m m' t t' h = cc
    go w w' false true (Ans u) Ask m m' t t' h = cc
    go w w' false true (Ans u) (Ans v) m m' t t' h = cc
    go w w' false false Ask Ask m m' t t' h = cc
    go w w' false false Ask (Ans v) m m' t t' h = cc
    go w w' false false (Ans u) Ask m m' t t' h = cc
    go w w' false false (Ans u) (Ans v) m m' t t' h = cc

-- where the next move is no solo move, none was made
stays : (net : NetTree) (m : Passage) (v : Move) → NotSolo v → m.trail ≡ [] → m.after ≡ m.before → MadeIfSolo net m v
stays net m (solo i x) n t e = elim n [ ]
stays net m (fork i l r b) n t e = (t, e)
stays net m (join i o d v w b) n t e = (t, e)
stays net m (answer v) n t e = (t, e)
stays net m stay n t e = (t, e)

-- a walk of at most one move
pub once : (net : NetTree) (m : Passage) → Walked net 1 m → MadeIfSolo net m (move net (token_of m.before))
once net m w = go m.trail refl w.moves w.nodes w.at_most w.ends
  where
    go : (trail : List Seen) → m.trail ≡ trail → Walks net (token_of m.before) (numbers trail) (token_of m.after) →
        All (Stands net) trail
        → length trail ≤ 1
        → (length trail ≡ 1) ⊎ NotSolo (move net (token_of m.after)) → MadeIfSolo net m (move net (token_of m.before))
    go [] t w a l (inl e) = cc
    go [] t w a l (inr n) =
        let e : m.after ≡ m.before = token_is m.after m.before (sym w) in
        stays net m (move net (token_of m.before)) (subst (λ k. NotSolo (move net (token_of k))) e n) t e
    go (s ∷ []) t (z, h, q) a l e =
        subst (MadeIfSolo net m) (sym h) (s.node, All-head (Stands net) s [] a, t, sym q)
    go (s ∷ r ∷ trail) t w a l e = absurd (omega arith)

pub once_ok : {E : Type 0} (net : NetTree) (token : Token) (r : Result Passage E) → IfOk r (λ m. m.before ≡ token) →
    IfOk r (Walked net 1)
    → IfOk r (λ m. MadeIfSolo net m (move net (token_of token)))
once_ok net token (Ok m) e w = subst (λ k. MadeIfSolo net m (move net (token_of k))) e (once net m w)
once_ok net token (Err x) e w = tt
