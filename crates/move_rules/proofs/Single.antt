-- One solo move in place is the table's move of the token.
use Rattle.std.proofs.Common.{◌≡◌, ℕ, Bool, true, false, cond, [], Option, Some, None, refl, sym, ap, ◌∙◌, subst}
use Rattle.std.specs.Option.{option_map}
use Rattle.pcf_values.specs.declared.val.Val.{Val}
use Rattle.token_stacks.specs.Signatures.{Work, Boxes}
use Rattle.net_build.specs.declared.node.Node.{Node}
use Rattle.net_build.specs.declared.node.Node.TheVariants as node
use Rattle.net_build.specs.Nets.{NetTree}
use Rattle.move_rules.specs.declared.token.Kind.{Kind}
use Rattle.move_rules.specs.declared.token.Kind.TheVariants.{Ask, Ans}
use Rattle.move_rules.specs.declared.token.Token.{Token}
use Rattle.move_rules.specs.declared.token.Seen.{Seen}
use Rattle.move_rules.specs.Places.{Place, up, down, TokenTree, ask, ans, place_of}
use Rattle.move_rules.specs.Table.{plain_up, plain_down, on_found, facing}
use Rattle.move_rules.specs.Moves.{pass_at, look_up, ask_move, solo_at, ans_down, solo, stay, move}
use Rattle.move_rules.specs.AtNode.{move_at, NotSolo, Unaided}
use Rattle.move_rules.specs.Views.{place_at, of_kind, token_of, numbered}
use Rattle.move_rules.specs.Walks.{faces, on_solo, through, SoloMove, SoloStep}
use Rattle.move_rules.specs.Steps.{Passes, IsPlain, node_of}
use Rattle.move_rules.proofs.Facing.{Met, met, move_faced}
use Rattle.net_build.specs.declared.node.Node.TheVariants.{Binary, Proj}

-- where a token stands, whatever its kind
pub placed : (k : Kind) (p : Place) → place_of (of_kind k p) ≡ p
placed Ask p = refl
placed (Ans v) p = refl

-- the move of a token at what it was found to face
pub at_met : (net : NetTree) (k : Token) (i : ℕ) (n : Node) → facing net (place_at k.wire k.up k.stacks) ≡ Some (i, n)
    → move net (token_of k) ≡ move_at i n (token_of k)
at_met net k i n h =
    move_faced net (token_of k)
    ∙ ap (λ p. on_found (facing net p) stay (λ i n. move_at i n (token_of k))) (placed k.kind (place_at k.wire k.up k.stacks))
    ∙ ap (λ o. on_found o stay (λ i n. move_at i n (token_of k))) h

pub not_faced : (net : NetTree) (k : Token) (o : Option Seen) → option_map numbered o ≡ facing net (place_at k.wire k.up k.stacks)
    → o ≡ None → NotSolo (move net (token_of k))
not_faced net k o h e =
    let q : move net (token_of k) ≡ stay =
    move_faced net (token_of k)
    ∙ ap (λ p. on_found (facing net p) stay (λ i n. move_at i n (token_of k))) (placed k.kind (place_at k.wire k.up k.stacks))
    ∙ ap (λ f. on_found f stay (λ i n. move_at i n (token_of k))) (sym h ∙ ap (option_map numbered) e) in
    subst NotSolo (sym q) tt

-- The node that was found is the net's, its move is the net's move of the token, and a walk through it alone gives the token after.
pub made : (net : NetTree) (k k' : Token) (o : Option Seen) (s : Seen) (b : Bool)
    → option_map numbered o ≡ facing net (place_at k.wire k.up k.stacks) → o ≡ Some s
    → Passes s.node k b k' → b ≡ true → SoloMove net k s k'
made net k k' o s b faced found passing passed =
    let f : facing net (place_at k.wire k.up k.stacks) ≡ Some (s.at, s.node) = sym faced ∙ ap (option_map numbered) found in
    let m : Met net (place_at k.wire k.up k.stacks) s.at s.node = met net _ s.at s.node f in
    let q : move_at s.at s.node (token_of k) ≡ solo s.at (token_of k') = subst (λ b. Passes s.node k b k') passed passing s.at in
    record {
      stands = m.stands;
      moves = at_met net k s.at s.node f ∙ q;
      passes =
          ap (λ b. cond b (on_solo (move_at s.at s.node (token_of k)) (through [])) None)
          (ap (faces s.node) (placed k.kind (place_at k.wire k.up k.stacks)) ∙ m.faced)
          ∙ ap (λ z. on_solo z (through [])) q;
    }

pub not_made : (net : NetTree) (k k' : Token) (o : Option Seen) (s : Seen) (b : Bool)
    → option_map numbered o ≡ facing net (place_at k.wire k.up k.stacks) → o ≡ Some s
    → Passes s.node k b k' → b ≡ false → NotSolo (move net (token_of k)) × (k' ≡ k)
not_made net k k' o s b h e p t =
    let f : facing net (place_at k.wire k.up k.stacks) ≡ Some (s.at, s.node) = sym h ∙ ap (option_map numbered) e in
    let (n, same) = subst (λ b. Passes s.node k b k') t p s.at in
    (subst NotSolo (sym (at_met net k s.at s.node f)) n, same)

-- What was done at the node that the token faces is its step on the net, made or not: the node's own move there is the net's.
pub step_made : (net : NetTree) (k k' : Token) (n : Node) (b : Bool)
    → (found : Some n ≡ node_of (facing net (place_at k.wire k.up k.stacks)))
    → (passed : Passes n k b k')
    → SoloStep net b k k'
step_made net k k' n b found passed = go (facing net (place_at k.wire k.up k.stacks)) refl found
  where
    there : (i : ℕ) → facing net (place_at k.wire k.up k.stacks) ≡ Some (i, n) → (c : Bool) → Passes n k c k' →
        SoloStep net c k k'
    there i h true p = (i, at_met net k i n h ∙ p i)
    there i h false p = (subst NotSolo (sym (at_met net k i n h)) (p i).0, (p i).1)

    go : (f : Option (ℕ × Node)) → facing net (place_at k.wire k.up k.stacks) ≡ f → Some n ≡ node_of f → SoloStep net b k k'
    go None h e = absurd (cc)
    go (Some (i, m)) h e =
        let same : m ≡ n = cc in
        there i (h ∙ ap (λ z. Some (i, z)) same) b passed

-- a question that follows a plain rule needs nothing but its token
asks_alone : (i : ℕ) (o : Option Place) (p : Place) → Unaided (ask_move (pass_at i o) p)
asks_alone i None p = tt
asks_alone i (Some q) p = tt

-- and neither does an answer
answers_alone : (i : ℕ) (o : Option Place) (f : Place → TokenTree) → Unaided (solo_at i o f)
answers_alone i None f = tt
answers_alone i (Some q) f = tt

-- so it is with a question that comes up to a node whose rules are all plain
asks_up : (i : ℕ) (n : Node) (w : ℕ) (m : Work) (t : Boxes) → IsPlain n → Unaided (ask_move (look_up i n w m t) (up w m t))
asks_up i (node.Der a x) w m t h = asks_alone i (plain_up (node.Der a x) w m t) (up w m t)
asks_up i (node.Con l r c) w m t h = asks_alone i (plain_up (node.Con l r c) w m t) (up w m t)
asks_up i (node.Lam b x c) w m t h = asks_alone i (plain_up (node.Lam b x c) w m t) (up w m t)
asks_up i (node.App f a c) w m t h = asks_alone i (plain_up (node.App f a c) w m t) (up w m t)
asks_up i (node.BoxNode b o) w m t h = asks_alone i (plain_up (node.BoxNode b o) w m t) (up w m t)
asks_up i (node.Door b o) w m t h = asks_alone i (plain_up (node.Door b o) w m t) (up w m t)
asks_up i (node.FixBox b x c) w m t h = asks_alone i (plain_up (node.FixBox b x c) w m t) (up w m t)
asks_up i (node.Pair a b c) w m t h = asks_alone i (plain_up (node.Pair a b c) w m t) (up w m t)
asks_up i (Proj d a c) w m t h = asks_alone i (plain_up (Proj d a c) w m t) (up w m t)
asks_up i (node.Const n c) w m t h = absurd h
asks_up i (node.Succ a c) w m t h = absurd h
asks_up i (node.Pred a c) w m t h = absurd h
asks_up i (Binary o a b c) w m t h = absurd h
asks_up i (node.Ifz b p q c) w m t h = absurd h
asks_up i (node.Weak x) w m t h = absurd h
asks_up i (node.Root c) w m t h = absurd h

-- with an answer that comes down to one
answers_down : (i : ℕ) (n : Node) (v : Val) (w : ℕ) (m : Work) (t : Boxes) → IsPlain n → Unaided (ans_down i n v w m t)
answers_down i (node.Der a x) v w m t h = answers_alone i (plain_down (node.Der a x) w m t) (ans v)
answers_down i (node.Con l r c) v w m t h = answers_alone i (plain_down (node.Con l r c) w m t) (ans v)
answers_down i (node.Lam b x c) v w m t h = answers_alone i (plain_down (node.Lam b x c) w m t) (ans v)
answers_down i (node.App f a c) v w m t h = answers_alone i (plain_down (node.App f a c) w m t) (ans v)
answers_down i (node.BoxNode b o) v w m t h = answers_alone i (plain_down (node.BoxNode b o) w m t) (ans v)
answers_down i (node.Door b o) v w m t h = answers_alone i (plain_down (node.Door b o) w m t) (ans v)
answers_down i (node.FixBox b x c) v w m t h = answers_alone i (plain_down (node.FixBox b x c) w m t) (ans v)
answers_down i (node.Pair a b c) v w m t h = answers_alone i (plain_down (node.Pair a b c) w m t) (ans v)
answers_down i (Proj d a c) v w m t h = answers_alone i (plain_down (Proj d a c) w m t) (ans v)
answers_down i (node.Const n c) v w m t h = absurd h
answers_down i (node.Succ a c) v w m t h = absurd h
answers_down i (node.Pred a c) v w m t h = absurd h
answers_down i (Binary o a b c) v w m t h = absurd h
answers_down i (node.Ifz b p q c) v w m t h = absurd h
answers_down i (node.Weak x) v w m t h = absurd h
answers_down i (node.Root c) v w m t h = absurd h

-- and with every token there
plain_alone : (i : ℕ) (n : Node) (x : TokenTree) → IsPlain n → Unaided (move_at i n x)
plain_alone i n (ask (up w m t)) h = asks_up i n w m t h
plain_alone i n (ask (down w m t)) h = asks_alone i (plain_down n w m t) (down w m t)
plain_alone i n (ans v (up w m t)) h = answers_alone i (plain_up n w m t) (ans v)
plain_alone i n (ans v (down w m t)) h = answers_down i n v w m t h

-- where memory was wanting at such a node, the token's move needs nothing else
pub lacking : (net : NetTree) (k : Token) (o : Option Seen) (s : Seen) →
    option_map numbered o ≡ facing net (place_at k.wire k.up k.stacks)
    → o ≡ Some s → IsPlain s.node
    → Unaided (move net (token_of k))
lacking net k o s h e p =
    subst Unaided (sym (at_met net k s.at s.node (sym h ∙ ap (option_map numbered) e))) (plain_alone s.at s.node (token_of k) p)
