-- What a state that a log leads to gives the step of a live ticket: there is one, and its fork has a new ticket to give out.
use Rattle.std.proofs.Common.{◌≡◌, ℕ, ◌+◌, ◌<◌, ◌^◌, Option, Some, None, refl, sym, subst, arith}
use Rattle.std.specs.Option.{IsSome}
use Rattle.std.specs.FinMap.{get}
use Rattle.pcf_values.specs.Most.{most_budget}
use Rattle.net_build.specs.Nets.{NetTree}
use Rattle.move_rules.specs.Places.{TokenTree}
use Rattle.interleave_laws.specs.Runs.{Runs}
use Rattle.interleave_laws.specs.Maps.{MapState, step_map}
use Rattle.interleave_laws.specs.MapRuns.{IsReachedWithin}
use Rattle.interleave_laws.proofs.MapLaws.{tickets_most, map_low, map_step}

-- what is there
pub the_some : {A : Type 0} (o : Option A) → IsSome o → (x : A) × (o ≡ Some x)
the_some None h = cc
the_some (Some x) h = (x, refl)

module _ (net : NetTree) (runs : Runs net) (S : MapState) (r : IsReachedWithin net most_budget S) where
  -- each live ticket has its step
  pub able : (i : ℕ) → IsSome (get S.tokens i) → IsSome (step_map net S i)
  able i h = let (x, e) = the_some (get S.tokens i) h in let (T, s) = map_step net runs r.0 S r.1 i x e in subst IsSome (sym s) refl

  -- the next ticket isn't live
  pub fresh : get S.tokens S.next ≡ None
  fresh = go (get S.tokens S.next) refl
    where
      go : (o : Option TokenTree) → get S.tokens S.next ≡ o → get S.tokens S.next ≡ None
      go None e = e
      go (Some x) e = let l = map_low net runs.sound r.0 S r.1 S.next x e in absurd (omega arith)

  -- and has one behind it
  pub room : S.next + 1 < 2 ^ 32
  room = let m = tickets_most net r.0 S r.1 in let l = r.2 in omega (arith, m, l)
