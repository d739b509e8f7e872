-- Each live ticket has its step: where its token has a move, the tree goes on by an effect, and the step does just that.
use Rattle.std.proofs.Common.{◌≡◌, ℕ, List, length, Some, None, sym, ap, ◌∙◌, inl, inr}
use Rattle.net_build.specs.Nets.{NetTree}
use Rattle.net_build.specs.Sound.{Sound}
use Rattle.move_rules.specs.Places.{TokenTree}
use Rattle.move_rules.specs.Moves.{stay, move, ask_move}
use Rattle.interleave_laws.specs.States.{Entries, State, step, step_on, act}
use Rattle.interleave_laws.specs.Runs.{Runs, LeadsTo}
use Rattle.interleave_laws.specs.Start.{start_of}
use Rattle.interleave_laws.proofs.Tree.{Effect, turn, opens, keeps, closes}
use Rattle.interleave_laws.proofs.Below.{Does}
use Rattle.interleave_laws.proofs.Effects.{Outcome}
use Rattle.interleave_laws.proofs.Reached.{Starts, ends, made_of, does_step, Accounted, out_of, reached}

module _ (net : NetTree) where
  -- an effect is that of a move
  pub effect_moves : (E : Entries) (x : TokenTree) (e : Effect) → Does net E x e → move net x ≡ stay → ⊥
  effect_moves E x (turn y) (k, h) z = cc
  effect_moves E x (opens n s l r) (h, g) z = cc
  effect_moves E x (keeps n s e) (op, d, v, w, h, g, g2) z = cc
  effect_moves E x (closes n s y) (op, d, v, w, e, u, h, g, g2, g3) z = cc

module _ (net : NetTree) (sound : Sound net) (starts : Starts net (start_of net)) where
  -- a live ticket whose token has a move has its step, whatever other tokens have
  pub moving_steps : (log : List ℕ) (S : State) → LeadsTo net log S → (i : ℕ) (x : TokenTree) → S.tokens i ≡ Some x →
      (move net x ≡ stay → ⊥) → (S' : State) × (step net S i ≡ Some S')
  moving_steps log S h i x e moving = go (reached net sound (start_of net) starts log S h)
    where
      go : Accounted net (start_of net) (length log) S → (S' : State) × (step net S i ≡ Some S')
      go (inr o) = let bad : None ≡ Some x = sym (o.no_tokens i) ∙ e in absurd cc
      go (inl (t, live)) = end (out_of net sound (start_of net) starts (length log) i S x t live e)
        where
          end : Outcome net S.entries i S.next x t (start_of net) → (S' : State) × (step net S i ≡ Some S')
          end (inl (v, m, _, q)) =
              (_, ap (λ o. step_on net o S i) e ∙ ap (λ m. act m S i) (ap (move net) q ∙ ends net sound (start_of net) starts v))
          end (inr (inl (q, y, l))) = absurd (moving (ap (move net) y ∙ ap (λ l. ask_move l q) l))
          end (inr (inr y)) = (made_of y.effect S i, ap (λ o. step_on net o S i) e ∙ does_step net S i x y.effect y.does)

  -- so each live ticket has its step
  pub progress : Runs net → (log : List ℕ) (S : State) → LeadsTo net log S → (i : ℕ) (x : TokenTree) → S.tokens i ≡ Some x →
      (S' : State) × (step net S i ≡ Some S')
  progress runs log S h i x e = moving_steps log S h i x e (runs.moves log S h i x e)
