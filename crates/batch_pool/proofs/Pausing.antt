-- Why a worker that is told to pause isn't alone.
use Rattle.std.proofs.Common.{◌≡◌, ◌⊎◌, ◌+◌, ◌-◌, ℕ, zero, suc, Bool, true, false, nat_eq, if◌then◌else◌, List}
use Rattle.std.proofs.Common.{[], ◌∷◌, length, Option, Some, None, refl, sym, ap, ◌∙◌, inl, inr}
use Rattle.token_pool.specs.declared.entries.Held.{Held}
use Rattle.token_pool.specs.declared.entries.Reply.TheVariants.{Token, Ended, Idle, Reserved}
use Rattle.token_pool.specs.Pools.{Pool, Holds, allowances}
use Rattle.token_pool.specs.Turns.{turn, is_ended, on_free, offered, allowance, least_free}
use Rattle.token_pool.specs.Laws.{IdleHolds, ReservedHolds}
use Rattle.batch_pool.specs.declared.pieces.BatchTaken.TheVariants as answer
use Rattle.batch_pool.specs.Batches.{Batch, IsPool, HoldsIn, BatchGood}
use Rattle.batch_pool.specs.Asking.{AllOver, GivesToken, Takes}
use Rattle.batch_pool.proofs.Asked.{told_next}

-- all jobs are over, or some job isn't
some_open : (pools : List Pool) → AllOver pools ⊎ ((j : ℕ) × (p : Pool) × IsPool pools j p × (is_ended p ≡ false))
some_open [] = inl (λ j p at. absurd cc)
some_open (p ∷ pools) = go (is_ended p) refl (some_open pools)
  where
    go : (b : Bool) → is_ended p ≡ b → AllOver pools ⊎ ((j : ℕ) × (p : Pool) × IsPool pools j p × (is_ended p ≡ false)) →
        AllOver (p ∷ pools) ⊎ ((j : ℕ) × (q : Pool) × IsPool (p ∷ pools) j q × (is_ended q ≡ false))
    go false e rest = inr (0, p, refl, e)
    go true e (inr (j, q, at, f)) = inr (suc j, q, at, f)
    go true e (inl all) = inl each
      where
        first : (q : Pool) → Some p ≡ Some q → is_ended q ≡ true
        first q at = let same : p ≡ q = cc in ap is_ended (sym same) ∙ e

        each : AllOver (p ∷ pools)
        each zero q at = first q at
        each (suc j) q at = all j q at

-- a pool that isn't over, and gives a worker that holds nothing no ticket, has nothing free, or nothing left to set aside
waits : (p : Pool) (w : ℕ) → p.stopped ≡ false → ((h : Held) → Holds p.held w h → ⊥) → is_ended p ≡ false →
    (GivesToken p w → ⊥) → (turn p w ≡ Idle) ⊎ (turn p w ≡ Reserved)
waits p w running free undone none =
    go (least_free p) (told_next p w running free ∙
    ap (λ b. if b then Ended else on_free (least_free p) (offered (length p.log + allowances p.held) p.budget p.workers)) undone)
  where
    offer : (i : ℕ) (b : Bool) →
        turn p w ≡ (if b then Reserved else Token
        (record { ticket = i; allowance = allowance (p.budget - (length p.log + allowances p.held)) p.workers })) →
        (turn p w ≡ Idle) ⊎
        (turn p w ≡ Reserved)
    offer i true e = inr e
    offer i false e = absurd (none
        (record { ticket = i; allowance = allowance (p.budget - (length p.log + allowances p.held)) p.workers }, e))

    go : (o : Option ℕ) → turn p w ≡ on_free o (offered (length p.log + allowances p.held) p.budget p.workers) →
        (turn p w ≡ Idle) ⊎ (turn p w ≡ Reserved)
    go None e = inl e
    go (Some i) e = offer i (nat_eq (length p.log + allowances p.held) p.budget) e

-- where a worker is told to pause, some worker holds a ticket
pub pause_holds : IdleHolds → ReservedHolds → (b c : Batch) (w : ℕ) → BatchGood b → Takes b w answer.Pause c → (v : ℕ) ×
    (j : ℕ) × (h : Held) × HoldsIn b.pools v j h
pause_holds idle reserved b c w good ((running, free), undone, none, same) = go (some_open b.pools)
  where
    held : (j : ℕ) (p : Pool) → IsPool b.pools j p → (turn p w ≡ Idle) ⊎ (turn p w ≡ Reserved) → (v : ℕ) × (j : ℕ) ×
        (h : Held) × HoldsIn b.pools v j h
    held j p at (inl e) = let (v, h, holds) = idle p w (good.good j p at) e in (v, j, h, (p, at, holds))
    held j p at (inr e) = let (v, h, holds) = reserved p w (good.good j p at) e in (v, j, h, (p, at, holds))

    go : AllOver b.pools ⊎ ((j : ℕ) × (p : Pool) × IsPool b.pools j p × (is_ended p ≡ false)) → (v : ℕ) × (j : ℕ) ×
        (h : Held) × HoldsIn b.pools v j h
    go (inl all) = absurd (undone all)
    go (inr (j, p, at, e)) = held j p at (waits p w (good.running j p at) (λ h holds. free j h (p, at, holds)) e (λ g. none j p at g))
