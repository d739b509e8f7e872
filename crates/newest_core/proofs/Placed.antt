-- Each token of a run has the stacks of its wire.
use Rattle.std.proofs.Common.{◌≡◌, ℕ, Bool, true, false, cond, List, [], ◌∷◌, Option, Some, None, refl, sym}
use Rattle.std.proofs.Common.{subst}
use Rattle.std.specs.Prelude.{nat_eq}
use Rattle.std.proofs.lemmas.Option.{same_Some, none-some}
use Rattle.pcf_values.specs.declared.val.Val.{Val}
use Rattle.pcf_values.specs.declared.operator.Operator.{Operator}
use Rattle.pcf_values.specs.Terms.{nat}
use Rattle.pcf_values.specs.declared.side.Side.{Side}
use Rattle.token_stacks.specs.Signatures.{Boxes}
use Rattle.net_build.specs.declared.node.Node.TheVariants.{Root}
use Rattle.net_build.specs.Nets.{value_wire, NetTree}
use Rattle.net_build.specs.Sound.{Sound}
use Rattle.net_build.proofs.Entries.{in_at}
use Rattle.fork_join.specs.Entries.{Entry, pending, has_left, has_right}
use Rattle.move_rules.specs.Places.{Place, down, TokenTree, ask, ans, place_of}
use Rattle.move_rules.specs.Moves.{Move, solo, fork, join, answer, stay, move}
use Rattle.interleave_laws.specs.Start.{start_of}
use Rattle.interleave_laws.specs.States.{State, Tokens, start, set_token, other, fork_on, last_on, join_on, act, step_on, step, then_run}
use Rattle.interleave_laws.specs.States.{run}
use Rattle.interleave_laws.specs.Runs.{LeadsTo}
use Rattle.interleave_laws.proofs.Running.{starts_of}
use Rattle.newest_core.specs.Placed.{Placed, MoveKeeps}
use Rattle.newest_core.proofs.Typed.{moves_keep}

module _ (net : NetTree) where
  abbrev AllPlaced : Tokens → Type 0
  AllPlaced f = (i : ℕ) (x : TokenTree) → f i ≡ Some x → Placed net (place_of x)

  abbrev IfPlaced : Option TokenTree → Type 0
  IfPlaced o = (x : TokenTree) → o ≡ Some x → Placed net (place_of x)

  some_placed : (x : TokenTree) → Placed net (place_of x) → IfPlaced (Some x)
  some_placed x p y h = subst (λ x. Placed net (place_of x)) (same_Some x y h) p

  none_placed : IfPlaced None
  none_placed y h = absurd (none-some y h)

  set_placed : (f : Tokens) (i : ℕ) (o : Option TokenTree) → AllPlaced f → IfPlaced o → AllPlaced (set_token f i o)
  set_placed f i o all p j x h = go (nat_eq j i) h
    where
      go : (b : Bool) → cond b o (f j) ≡ Some x → Placed net (place_of x)
      go true h = p x h
      go false h = all j x h

  last_placed : (o : Option Val) (S : State) (i n w : ℕ) (t : Boxes) (T : State) → AllPlaced S.tokens → Placed net (down w [] t) →
      last_on o S i n w t ≡ Some T → AllPlaced T.tokens
  last_placed None S i n w t T all p h = absurd (none-some T h)
  last_placed (Some u) S i n w t T all p h =
      subst (λ (T : State). AllPlaced T.tokens) (same_Some _ T h)
      (set_placed S.tokens i (Some (ans u (down w [] t))) all (some_placed (ans u (down w [] t)) p))

  join_placed : (e : Option Entry) (S : State) (i n : ℕ) (o : Operator) (s : Side) (v : Val) (w : ℕ) (t : Boxes) (T : State) →
      AllPlaced S.tokens → Placed net (down w [] t) → join_on e S i n o s v w t ≡ Some T → AllPlaced T.tokens
  join_placed None S i n o s v w t T all p h = absurd (none-some T h)
  join_placed (Some pending) S i n o s v w t T all p h =
      subst (λ (T : State). AllPlaced T.tokens) (same_Some _ T h) (set_placed S.tokens i None all none_placed)
  join_placed (Some (has_left u)) S i n o s v w t T all p h = last_placed (other o (has_left u) s v) S i n w t T all p h
  join_placed (Some (has_right u)) S i n o s v w t T all p h = last_placed (other o (has_right u) s v) S i n w t T all p h

  fork_placed : (e : Option Entry) (S : State) (i n : ℕ) (l r : Place) (t : Boxes) (T : State) → AllPlaced S.tokens →
      Placed net l → Placed net r → fork_on e S i n l r t ≡ Some T → AllPlaced T.tokens
  fork_placed (Some e) S i n l r t T all p q h = absurd (none-some T h)
  fork_placed None S i n l r t T all p q h =
      subst (λ (T : State). AllPlaced T.tokens) (same_Some _ T h)
      (set_placed (set_token S.tokens i (Some (ask l))) S.next (Some (ask r))
      (set_placed S.tokens i (Some (ask l)) all (some_placed (ask l) p)) (some_placed (ask r) q))

  act_placed : (m : Move) (S : State) (i : ℕ) (T : State) → AllPlaced S.tokens → MoveKeeps net m → act m S i ≡ Some T →
      AllPlaced T.tokens
  act_placed (solo n x) S i T all k h =
      subst (λ (T : State). AllPlaced T.tokens) (same_Some _ T h) (set_placed S.tokens i (Some x) all (some_placed x k))
  act_placed (fork n l r t) S i T all k h = fork_placed (S.entries n t) S i n l r t T all k.0 k.1 h
  act_placed (join n o s v w t) S i T all k h = join_placed (S.entries n t) S i n o s v w t T all k h
  act_placed (answer v) S i T all k h =
      subst (λ (T : State). AllPlaced T.tokens) (same_Some _ T h) (set_placed S.tokens i None all none_placed)
  act_placed stay S i T all k h = absurd (none-some T h)

  module _ (sound : Sound net) where
    step_placed : (S : State) (i : ℕ) (T : State) → AllPlaced S.tokens → (o : Option TokenTree) → S.tokens i ≡ o →
        step_on net o S i ≡ Some T → AllPlaced T.tokens
    step_placed S i T all None e h = absurd (none-some T h)
    step_placed S i T all (Some x) e h = act_placed (move net x) S i T all (moves_keep net sound x (all i x e)) h

    log_placed : (log : List ℕ) (S T : State) → AllPlaced S.tokens → run net S log ≡ Some T → AllPlaced T.tokens
    log_placed [] S T all h = subst (λ (T : State). AllPlaced T.tokens) (same_Some S T h) all
    log_placed (i ∷ log) S T all h = go (step net S i) refl h (log_placed log)
      where
        go : (o : Option State) → step net S i ≡ o → then_run o (λ S. run net S log) ≡ Some T →
            ((S T : State) → AllPlaced S.tokens → run net S log ≡ Some T → AllPlaced T.tokens) → AllPlaced T.tokens
        go None e h ih = absurd (none-some T h)
        go (Some U) e h ih = ih U T (step_placed S i U all (S.tokens i) refl e) h

    start_placed : Placed net (start_of net)
    start_placed =
        let s = starts_of net sound in
        let i = sound.rows (Root s.out) (in_at (Root s.out) net.nodes s.at s.root) in
        subst (Placed net) (sym s.is) (value_wire 0 nat, i, (refl, tt))

pub run_placed : (net : NetTree) → Sound net → (log : List ℕ) (S : State) → LeadsTo net log S → (i : ℕ) (x : TokenTree) →
    S.tokens i ≡ Some x → Placed net (place_of x)
run_placed net sound log S h i x e =
    log_placed net sound log (start (start_of net)) S
    (set_placed net (λ j. None) 0 (Some (ask (start_of net))) (λ j. none_placed net)
    (some_placed net (ask (start_of net)) (start_placed net sound))) h i x e
