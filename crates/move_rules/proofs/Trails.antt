-- Trails of a net's own nodes, and that a token has one walk.
use Rattle.std.proofs.Common.{◌≡◌, ◌⊎◌, ℕ, zero, suc, ◌≤◌, Bool, true, false, cond, List, [], ◌∷◌, length, Option}
use Rattle.std.proofs.Common.{Some, None, refl, sym}
use Rattle.std.proofs.Common.{ap, ◌∙◌, subst, inl, inr, arith}
use Rattle.std.specs.Prelude.{slice_get}
use Rattle.std.specs.List.{All}
use Rattle.std.proofs.lemmas.List.Elements.{All-head, All-tail}
use Rattle.net_build.specs.declared.node.Node.{Node}
use Rattle.net_build.specs.Nets.{NetTree}
use Rattle.net_build.specs.Sound.{Sound}
use Rattle.move_rules.specs.declared.token.Seen.{Seen}
use Rattle.move_rules.specs.Places.{TokenTree, place_of}
use Rattle.move_rules.specs.Table.{on_found}
use Rattle.move_rules.specs.Moves.{Move, solo, fork, join, answer, stay, move}
use Rattle.move_rules.specs.AtNode.{move_at, NotSolo}
use Rattle.move_rules.specs.Views.{token_of}
use Rattle.move_rules.specs.Walks.{Walks, numbers, Stands, faces, on_solo, through, Passage, Walked}
use Rattle.move_rules.proofs.Facing.{faced_there, move_faced}
use Rattle.move_rules.proofs.Numbers.{MoveAt, move_is}
use Rattle.move_rules.proofs.Walking.{token_is}

-- the first of a trail is a solo move of a node that is faced
first_step : (b : Bool) (m : Move) (f : TokenTree → Option TokenTree) (y : TokenTree) → cond b (on_solo m f) None ≡ Some y
    → (b ≡ true) × ((i : ℕ) × (z : TokenTree) × (m ≡ solo i z) × (f z ≡ Some y))
first_step true (solo i z) f y h = (refl, (i, z, refl, h))
first_step true (fork i l r t) f y h = cc
first_step true (join i o d v w t) f y h = cc
first_step true (answer v) f y h = cc
first_step true stay f y h = cc
first_step false m f y h = cc

-- nodes of a sound net through which one plain move after another leads are a walk from the first place to the last
pub trail_walks : (net : NetTree) → Sound net → (trail : List Seen) → All (Stands net) trail → (x y : TokenTree) →
    through trail x ≡ Some y
    → Walks net x (numbers trail) y
trail_walks net sound [] a x y h = cc
trail_walks net sound (s ∷ trail) a x y h =
    let (f, (i, z, m, g)) = first_step (faces s.node (place_of x)) (move_at s.at s.node x) (through trail) y h in
    let faced = faced_there net sound (place_of x) s.at s.node (All-head (Stands net) s trail a) f in
    let e : i ≡ s.at = subst (MoveAt s.at) m (move_is s.at s.node x) in
    let one : move net x ≡ solo s.at z =
    move_faced net x ∙ ap (λ o. on_found o stay (λ i n. move_at i n x)) faced ∙ m ∙ ap (λ i. solo i z) e in
    (z, one, trail_walks net sound trail (All-tail (Stands net) s trail a) z y g)

same_solo : (i j : ℕ) (x y : TokenTree) → solo i x ≡ solo j y → (i ≡ j) × (x ≡ y)
same_solo i j x y h = (cc, cc)

same_node : (n n' : Node) → Some n ≡ Some n' → n ≡ n'
same_node n n' h = cc

seen_is : (s s' : Seen) → s.at ≡ s'.at → s.node ≡ s'.node → s ≡ s'
seen_is s s' e h = λ k. record { at = e k; node = h k }

end_of : (net : NetTree) (n most : ℕ) (y : TokenTree) → (suc n ≡ suc most) ⊎ NotSolo (move net y) → (n ≡ most) ⊎
    NotSolo (move net y)
end_of net n most y (inl e) = inl (omega (arith, e))
end_of net n most y (inr e) = inr e

same_cons : (s s' : Seen) (t t' : List Seen) → s ≡ s' → t ≡ t' → s ∷ t ≡ s' ∷ t'
same_cons s s' t t' e h = λ k. e k ∷ h k

passage_is : (m m' : Passage) → m.before ≡ m'.before → m.after ≡ m'.after → m.trail ≡ m'.trail → m ≡ m'
passage_is m m' b a t = λ k. record { before = b k; after = a k; trail = t k }

-- Two walks of one token agree move by move: where both go on, the move is one and the same, and neither ends where the other goes on.
one_walk_from : (net : NetTree) (most : ℕ) (t t' : List Seen) (x y y' : TokenTree)
    → (walks : Walks net x (numbers t) y) → (walks' : Walks net x (numbers t') y')
    → (nodes : All (Stands net) t) → (nodes' : All (Stands net) t')
    → (at_most : length t ≤ most) → (at_most' : length t' ≤ most)
    → (ends : (length t ≡ most) ⊎ NotSolo (move net y)) → (ends' : (length t' ≡ most) ⊎ NotSolo (move net y'))
    → (t ≡ t') × (y ≡ y')
one_walk_from net most [] [] x y y' walks walks' nodes nodes' at_most at_most' ends ends' = (refl, sym walks ∙ walks')
one_walk_from net most [] (s ∷ t') x y y' walks walks' nodes nodes' at_most at_most' (inl e) ends' = absurd (omega arith)
one_walk_from net most [] (s ∷ t') x y y' walks (z, m, w') nodes nodes' at_most at_most' (inr e) ends' =
    elim (subst NotSolo (ap (move net) (sym walks) ∙ m) e) [ ]
one_walk_from net most (s ∷ t) [] x y y' walks walks' nodes nodes' at_most at_most' ends (inl e') = absurd (omega arith)
one_walk_from net most (s ∷ t) [] x y y' (z, m, w) walks' nodes nodes' at_most at_most' ends (inr e') =
    elim (subst NotSolo (ap (move net) (sym walks') ∙ m) e') [ ]
one_walk_from net zero (s ∷ t) (s' ∷ t') x y y' walks walks' nodes nodes' at_most at_most' ends ends' = absurd (omega arith)
one_walk_from net (suc most) (s ∷ t) (s' ∷ t') x y y' (z, m, w) (z', m', w') nodes nodes' at_most at_most' ends ends' =
    let (i, q) = same_solo s.at s'.at z z' (sym m ∙ m') in
    let n : s.node ≡ s'.node =
    same_node s.node s'.node (sym (All-head (Stands net) s t nodes) ∙ ap (slice_get net.nodes) i ∙ All-head (Stands net) s' t' nodes') in
    let (r, k) =
    one_walk_from net most t t' z y y' w (subst (λ u. Walks net u (numbers t') y') (sym q) w') (All-tail (Stands net) s t nodes)
    (All-tail (Stands net) s' t' nodes')
    (omega arith) (omega arith) (end_of net (length t) most y ends) (end_of net (length t') most y' ends') in
    (same_cons s s' t t' (seen_is s s' i n) r, k)

pub one_walk : (net : NetTree) (most : ℕ) (m m' : Passage) → m.before ≡ m'.before → Walked net most m → Walked net most m' →
    m ≡ m'
one_walk net most m m' b w w' =
    let moves : Walks net (token_of m.before) (numbers m'.trail) (token_of m'.after) =
    subst (λ k. Walks net (token_of k) (numbers m'.trail) (token_of m'.after)) (sym b) w'.moves in
    let (t, y) = one_walk_from net most m.trail m'.trail (token_of m.before) (token_of m.after) (token_of m'.after) w.moves moves w.nodes
    w'.nodes w.at_most w'.at_most w.ends w'.ends in
    passage_is m m' b (token_is m.after m'.after y) t
