-- A walk that is taken over is as many steps of its ticket.
use Rattle.std.proofs.Common.{◌≡◌, ℕ, List, [], ◌∷◌, Option, Some, None, length, refl, sym, ap, ◌∙◌, subst}
use Rattle.std.specs.Prelude.{map, replicate, ◌↔◌, IfSome, IfNone}
use Rattle.std.specs.Option.{IsSome}
use Rattle.std.specs.Ordering.{nat_cmp}
use Rattle.std.specs.FinMap.{FinMap, insert}
use Rattle.pcf_values.specs.declared.val.Val.{Val}
use Rattle.fork_join.specs.Entries.{Entry, key_cmp}
use Rattle.net_build.specs.Nets.{NetTree}
use Rattle.net_build.specs.Sound.{Sound}
use Rattle.move_rules.specs.declared.token.Seen.{Seen}
use Rattle.move_rules.specs.Places.{TokenTree}
use Rattle.move_rules.specs.Views.{token_of}
use Rattle.move_rules.specs.Walks.{Passage, Reached}
use Rattle.interleave_laws.specs.Maps.{MapState, run_map}
use Rattle.interleave_core.specs.Adopting.{AcceptsIn, Accepts, adopted}
use Rattle.interleave_core.specs.Parts.{state}
use Rattle.interleave_laws.proofs.TrailSteps.{trail_map}
use Rattle.interleave_laws.proofs.Few.{Few, adopted_few}

-- a ticket for each node of a trail
as_often : (i : ℕ) (trail : List Seen) → replicate (length trail) i ≡ map (λ (s : Seen). i) trail
as_often i [] = refl
as_often i (s ∷ trail) = ap (λ l. i ∷ l) (as_often i trail)

-- as many steps of the ticket as the trail is long
adopted_steps : (net : NetTree) → Sound net → (S : MapState) (i : ℕ) (m : Passage) (most n : ℕ) → Reached m →
    Accepts net S i m most → n ≡ length m.trail → run_map net S (replicate n i) ≡ Some (adopted S i m)
adopted_steps net sound S i m most n r a e = ap (λ n. run_map net S (replicate n i)) e ∙ ap (run_map net S) (as_often i m.trail) ∙
    trail_map net sound m r a.3 S i a.0

module _ (net : NetTree) (f f' : FinMap nat_cmp TokenTree) (g : FinMap key_cmp Entry) (n : ℕ) (v : Option Val) (i : ℕ) (m : Passage)
    (most : ℕ) where
  -- where it is taken over, these are its steps
  pub adopted_moves : Sound net → (S : MapState) → state f g n v ≡ S → (r : Option ℕ) →
      (IsSome r ↔ AcceptsIn net f i m most) → Reached m → IfSome r (λ k. k ≡ length m.trail) →
      IfSome r (λ k. f' ≡ insert f i (token_of m.after))
      → IfSome r (λ k. run_map net S (replicate k i) ≡ Some (state f' g n v))
  adopted_moves sound S view None a r e h = tt
  adopted_moves sound S view (Some k) a r e h =
      ap (λ S. run_map net S (replicate k i)) (sym view) ∙ adopted_steps net sound (state f g n v) i m most k r (a.0 refl) e ∙
      ap (λ f. Some (state f g n v)) (sym h)

  -- and no more tickets are live than before
  pub adopted_counts : (r : Option ℕ) → (IsSome r ↔ AcceptsIn net f i m most) →
      IfSome r (λ k. f' ≡ insert f i (token_of m.after)) → IfNone r (f' ≡ f) → Few (state f g n v) → Few (state f' g n v)
  adopted_counts None a h s few = subst (λ f. Few (state f g n v)) (sym s) few
  adopted_counts (Some k) a h s few = subst (λ f. Few (state f g n v)) (sym h)
      (adopted_few (state f g n v) i (token_of m.before) (token_of m.after) (a.0 refl).0 few)
