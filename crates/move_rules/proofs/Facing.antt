-- The node that a token faces, and its move there.
use Rattle.std.proofs.Common.{◌≡◌, ℕ, zero, true, cond, List, length, Option, Some, None, refl, sym, ap, ◌∙◌, arith}
use Rattle.std.specs.Prelude.{nat_lt, slice_get}
use Rattle.std.proofs.lemmas.Option.{same_Some}
use Rattle.net_build.specs.declared.node.Node.{Node}
use Rattle.net_build.specs.Nets.{NetTree, premises, conclusions}
use Rattle.net_build.specs.Faces.{least, node_above, node_below}
use Rattle.net_build.specs.Found.{number_of}
use Rattle.move_rules.specs.Places.{Place, up, down, TokenTree, ask, ans, place_of}
use Rattle.move_rules.specs.Table.{on_found, facing}
use Rattle.move_rules.specs.Moves.{Look, dead, ask_move, stay, move}
use Rattle.move_rules.specs.AtNode.{move_at}
use Rattle.move_rules.specs.Walks.{faces}
use Rattle.move_rules.specs.Steps.{node_of}
use Rattle.net_build.specs.Sound.{Sound}
use Rattle.move_rules.proofs.Faces.{Among, among_has, has_among, let_through, least_in, faced_at, faced_at-at}

-- what is faced stands in the net, and the token faces it
pub record Met (net : NetTree) (p : Place) (i : ℕ) (n : Node) : Type 0 where
  pub stands : slice_get net.nodes i ≡ Some n
  pub faced : faces n p ≡ true

side_met : (side : Node → List ℕ) (net : NetTree) (w i : ℕ) (n : Node)
    → cond (nat_lt w (length net.wires)) (least side zero net.nodes w) None ≡ Some (i, n)
    → (slice_get net.nodes i ≡ Some n) × Among w (side n)
side_met side net w i n h =
    let (j, e, q, a) = least_in side net.nodes zero w i n (let_through (nat_lt w (length net.wires)) _ _ h) in
    let z : i ≡ j = omega arith in
    (ap (slice_get net.nodes) z ∙ q, a)

pub met : (net : NetTree) (p : Place) (i : ℕ) (n : Node) → facing net p ≡ Some (i, n) → Met net p i n
met net (up w m t) i n h = let (s, a) = side_met conclusions net w i n h in record { stands = s; faced = among_has (conclusions n) w a }
met net (down w m t) i n h = let (s, a) = side_met premises net w i n h in record { stands = s; faced = among_has (premises n) w a }

-- the node of the number that was found
node_met : (net : NetTree) (p : Place) (i : ℕ) → Some i ≡ number_of (facing net p)
    → (n : Node) × (slice_get net.nodes i ≡ Some n) × (facing net p ≡ Some (i, n))
node_met net p i h = go (facing net p) refl h
  where
    go : (f : Option (ℕ × Node)) → facing net p ≡ f → Some i ≡ number_of f
        → (n : Node) × (slice_get net.nodes i ≡ Some n) × (facing net p ≡ Some (i, n))
    go None q h = absurd (cc)
    go (Some (j, n)) q h =
        let z : i ≡ j = cc in
        (n, ap (slice_get net.nodes) z ∙ (met net p j n q).stands, q ∙ ap (λ k. Some (k, n)) (sym z))

pub found_is : (net : NetTree) (p : Place) (i : ℕ) (n : Node) (f : Option ℕ) (o : Option Node) → f ≡ number_of (facing net p) →
    f ≡ Some i
    → o ≡ slice_get net.nodes i → o ≡ Some n
    → Some (i, n) ≡ facing net p
found_is net p i n f o h e g q =
    let (m, s, r) = node_met net p i (sym e ∙ h) in
    ap (λ m. Some (i, m)) (same_Some n m (sym q ∙ g ∙ s)) ∙ sym r

pub found_none : (net : NetTree) (p : Place) (i : ℕ) (f : Option ℕ) (o : Option Node) → f ≡ number_of (facing net p) →
    f ≡ Some i
    → o ≡ slice_get net.nodes i → o ≡ None
    → None ≡ facing net p
found_none net p i f o h e g q =
    let (m, s, r) = node_met net p i (sym e ∙ h) in
    let same : None ≡ Some m = sym q ∙ g ∙ s in
    absurd (cc)

-- the node that lies at the number that was found is the one that is faced
pub node_found : (net : NetTree) (p : Place) (i : ℕ) (f : Option ℕ) (o : Option Node)
    → f ≡ number_of (facing net p) → f ≡ Some i → o ≡ slice_get net.nodes i → o ≡ node_of (facing net p)
node_found net p i f o h e g =
    let (m, s, r) = node_met net p i (sym e ∙ h) in
    g ∙ s ∙ ap node_of (sym r)

asked_found : (o : Option (ℕ × Node)) (f : ℕ → Node → Look) (p : Place)
    → ask_move (on_found o dead f) p ≡ on_found o stay (λ i n. ask_move (f i n) p)
asked_found None f p = refl
asked_found (Some q) f p = refl

-- the move of a token is its move at the node that it faces
pub move_faced : (net : NetTree) (x : TokenTree) → move net x ≡ on_found (facing net (place_of x)) stay (λ i n. move_at i n x)
move_faced net (ask (up w m t)) = asked_found (node_above net w) _ _
move_faced net (ask (down w m t)) = asked_found (node_below net w) _ _
move_faced net (ans v (up w m t)) = refl
move_faced net (ans v (down w m t)) = refl

-- a node of a sound net is the one that its wires' tokens face
pub faced_there : (net : NetTree) → Sound net → (p : Place) (i : ℕ) (n : Node) → slice_get net.nodes i ≡ Some n →
    faces n p ≡ true
    → facing net p ≡ Some (i, n)
faced_there net sound (up w m t) i n h f =
    (faced_at net sound i n h).ups w (has_among (conclusions n) w f) ∙ ap (λ k. Some (k, n)) (faced_at-at net sound i n h)
faced_there net sound (down w m t) i n h f =
    (faced_at net sound i n h).downs w (has_among (premises n) w f) ∙ ap (λ k. Some (k, n)) (faced_at-at net sound i n h)
