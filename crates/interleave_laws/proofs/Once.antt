-- No place is asked twice: what a move asks was not visited by the tree before it.
use Rattle.std.proofs.Common.{◌≡◌, ◌⊎◌, ℕ, zero, suc, List, [], ◌∷◌, ◌++◌, Option, Some, None, refl, sym, ap}
use Rattle.std.proofs.Common.{◌∙◌, subst, ⊎_elim, inl, inr}
use Rattle.net_build.specs.Nets.{NetTree}
use Rattle.net_build.specs.Sound.{Sound}
use Rattle.move_rules.specs.Places.{Place, TokenTree, ask, ans}
use Rattle.move_rules.specs.Moves.{solo, fork, move, ask_move}
use Rattle.interleave_laws.specs.States.{Entries, State, start, step, step_on, act, set_token}
use Rattle.interleave_laws.specs.Start.{start_of}
use Rattle.interleave_laws.specs.Asked.{asked_by, asked_of, asked_on, asked_in, Member, Once}
use Rattle.interleave_laws.proofs.Tree.{Tree, asking, Visited, AsksPlace, Differ, Effect, turn, opens, keeps, closes}
use Rattle.interleave_laws.proofs.Below.{Does}
use Rattle.interleave_laws.proofs.Effects.{Outcome}
use Rattle.interleave_laws.proofs.Reached.{Starts, ends, made_of, does_step, Live, out_of, live_after, start_live, over_after}
use Rattle.interleave_laws.proofs.Running.{starts_of}

-- what stands in two lists one after the other stands in one of them
pub member_parts : {A : Type 0} (q : A) (a b : List A) → Member q (a ++ b) → Member q a ⊎ Member q b
member_parts q [] b h = inr h
member_parts q (r ∷ a) b (inl e) = inl (inl e)
member_parts q (r ∷ a) b (inr h) = ⊎_elim (λ p. inl (inr p)) (λ p. inr p) (member_parts q a b h)

-- two lists one after the other, with nothing in common
once_append : (a b : List Place) → Once a → Once b → ((q : Place) → Member q a → Member q b → ⊥) → Once (a ++ b)
once_append [] b h g d = g
once_append (q ∷ a) b h g d = ((λ m. ⊎_elim h.0 (d q (inl refl)) (member_parts q a b m)), once_append a b h.1 g (λ r m. d r (inr m)))

-- what is asked is what the effect asks
asked_effect : (net : NetTree) (E : Entries) (x : TokenTree) (e : Effect) (q : Place) → Does net E x e →
    Member q (asked_by (move net x)) → AsksPlace e q
asked_effect net E x (turn (ask r)) q (k, h) m = let m' : Member q (asked_by (solo k (ask r))) = subst (λ m. Member q (asked_by m)) h m in
    ⊎_elim (λ e. e) (λ z. absurd z) m'
asked_effect net E x (turn (ans v r)) q (k, h) m = subst (λ m. Member q (asked_by m)) h m
asked_effect net E x (opens n s l r) q (h, g) m = let m' : Member q (asked_by (fork n l r s)) = subst (λ m. Member q (asked_by m)) h m in
    ⊎_elim (λ e. inl e) (λ z. ⊎_elim (λ e. inr e) (λ z. absurd z) z) m'
asked_effect net E x (keeps n s e) q (op, d, v, w, h, g, z) m = subst (λ m. Member q (asked_by m)) h m
asked_effect net E x (closes n s y) q (op, d, v, w, e, u, h, g, z, z') m = subst (λ m. Member q (asked_by m)) h m

-- what an effect asks stands once
once_effect : (net : NetTree) (E : Entries) (x : TokenTree) (e : Effect) → Does net E x e → Differ e → Once (asked_by (move net x))
once_effect net E x (turn (ask r)) (k, h) d = subst (λ m. Once (asked_by m)) (sym h) ((λ z. z), tt)
once_effect net E x (turn (ans v r)) (k, h) d = subst (λ m. Once (asked_by m)) (sym h) tt
once_effect net E x (opens n s l r) (h, g) d = subst (λ m. Once (asked_by m)) (sym h) ((λ z. ⊎_elim d (λ z. z) z), ((λ z. z), tt))
once_effect net E x (keeps n s e) (op, a, v, w, h, g, z) d = subst (λ m. Once (asked_by m)) (sym h) tt
once_effect net E x (closes n s y) (op, a, v, w, e, u, h, g, z, z') d = subst (λ m. Once (asked_by m)) (sym h) tt

module _ (net : NetTree) (sound : Sound net) where
  starts : Starts net (start_of net)
  starts = starts_of net sound

  -- nothing is asked from where no token is live
  idle_asks : (log : List ℕ) (S : State) → ((j : ℕ) → S.tokens j ≡ None) → (q : Place) → Member q (asked_in net S log) → ⊥
  idle_asks [] S h q m = m
  idle_asks (i ∷ log) S h q m =
      let one : asked_of net (S.tokens i) ≡ [] = ap (asked_of net) (h i) in
      let two : asked_on (step net S i) (λ T. asked_in net T log) ≡ [] =
      ap (λ o. asked_on (step_on net o S i) (λ T. asked_in net T log)) (h i) in
      let all : asked_in net S (i ∷ log) ≡ [] = ap (λ a. a ++ asked_on (step net S i) (λ T. asked_in net T log)) one ∙ two in
      subst (Member q) all m

  -- nothing that was visited is asked again
  abbrev Fresh : Tree → List Place → Type 0
  Fresh t qs = Once qs × ((q : Place) → Member q qs → Visited net t (start_of net) q → ⊥)

  -- what a log asks is fresh
  fresh : (log : List ℕ) (n : ℕ) (S : State) (t : Tree) → Live net (start_of net) n S t → Fresh t (asked_in net S log)
  fresh [] n S t live = (tt, λ q m. absurd m)
  fresh (i ∷ log) n S t live = go (fresh log) (S.tokens i) refl
    where
      go : ((n : ℕ) (S : State) (t : Tree) → Live net (start_of net) n S t → Fresh t (asked_in net S log)) →
          (o : Option TokenTree) → S.tokens i ≡ o →
          Fresh t (asked_of net o ++ asked_on (step_on net o S i) (λ T. asked_in net T log))
      go ih None e = (tt, λ q m. absurd m)
      go ih (Some x) e = end (out_of net sound (start_of net) starts n i S x t live e)
        where
          none_asked : (qs : List Place) → ((q : Place) → Member q qs → ⊥) → Fresh t qs
          none_asked [] h = (tt, λ q m. absurd m)
          none_asked (q ∷ qs) h = absurd (h q (inl refl))

          end : Outcome net S.entries i S.next x t (start_of net) →
              Fresh t (asked_by (move net x) ++ asked_on (act (move net x) S i) (λ T. asked_in net T log))
          end (inl (v, k, q, z)) =
              let over = over_after net sound (start_of net) starts n i k S v (subst (Live net (start_of net) n S) q live) in
              subst (λ m. Fresh t (asked_by m ++ asked_on (act m S i) (λ T. asked_in net T log)))
              (sym (ap (move net) z ∙ ends net sound (start_of net) starts v))
              (none_asked _ (idle_asks log (record S { tokens = set_token S.tokens i None; answered = Some v }) over.no_tokens))
          end (inr (inl (q, z, l))) = subst (λ m. Fresh t (asked_by m ++ asked_on (act m S i) (λ T. asked_in net T log)))
              (sym (ap (move net) z ∙ ap (λ l. ask_move l q) l)) (tt, λ q m. absurd m)
          end (inr (inr g)) =
              let live' = live_after net (start_of net) n i S x t live g in
              let (once, unseen) = ih (suc n) (made_of g.effect S i) g.tree live' in
              let both : Fresh t (asked_by (move net x) ++ asked_in net (made_of g.effect S i) log) = (
                once_append _ _ (once_effect net S.entries x g.effect g.does g.differ) once
                    (λ q m m'. unseen q m' (g.new q (asked_effect net S.entries x g.effect q g.does m)).0),
                λ q m. ⊎_elim (λ a. (g.new q (asked_effect net S.entries x g.effect q g.does a)).1) (λ b s. unseen q b (g.visited q s))
                    (member_parts q _ _ m),
              ) in
              subst (λ o. Fresh t (asked_by (move net x) ++ asked_on o (λ T. asked_in net T log)))
              (sym (does_step net S i x g.effect g.does)) both

  -- no place is asked twice in a log
  pub asked_once : (log : List ℕ) → Once (start_of net ∷ asked_in net (start (start_of net)) log)
  asked_once log =
      let (once, unseen) = fresh log zero (start (start_of net)) (asking zero) (start_live net sound (start_of net) starts) in
      ((λ m. unseen (start_of net) m refl), once)
