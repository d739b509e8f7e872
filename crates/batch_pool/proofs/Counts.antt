-- The numbers that are kept of a batch, and what they are where one job goes on.
use Rattle.std.proofs.Common.{◌≡◌, ℕ, zero, suc, ◌+◌, ◌-◌, ◌*◌, ◌<◌, ◌≤◌, ◌^◌, List, [], ◌∷◌, length, set, length-set}
use Rattle.std.proofs.Common.{refl, sym, ap, ◌∙◌, subst, ⊎_elim, arith, min}
use Rattle.batch_lists.specs.Limits.{most_jobs}
use Rattle.token_pool.specs.Pools.{Pool}
use Rattle.token_pool.specs.Turns.{spare_pieces}
use Rattle.batch_pool.specs.Batches.{IsPool}
use Rattle.batch_pool.specs.Benches.{spare_in}
use Rattle.batch_pool.specs.Keeping.{ArePassed, SpareAt, Spared, Counted}
use Rattle.batch_pool.proofs.Pools.{got_after_set, put_there}

-- what is spare in one job is a part of the whole
part_of : (pools : List Pool) (j : ℕ) (p : Pool) → IsPool pools j p → spare_pieces p ≤ spare_in pools
part_of [] j p at = absurd cc
part_of (r ∷ pools) zero p at = let e : r ≡ p = cc in let s = ap spare_pieces e in omega (arith, s)
part_of (r ∷ pools) (suc j) p at = let ih = part_of pools j p at in omega (arith, ih)

-- the whole changes by what the job's part does
sum_after_set : (pools : List Pool) (j : ℕ) (p q : Pool) → IsPool pools j p →
    spare_in (set pools j q) + spare_pieces p ≡ spare_in pools + spare_pieces q
sum_after_set [] j p q at = absurd cc
sum_after_set (r ∷ pools) zero p q at = let e : r ≡ p = cc in let s = ap spare_pieces e in omega (arith, s)
sum_after_set (r ∷ pools) (suc j) p q at = let ih = sum_after_set pools j p q at in omega (arith, ih)

-- and is a number of 64 bits
most_spare : (pools : List Pool) → ((j : ℕ) (p : Pool) → IsPool pools j p → spare_pieces p < 2 ^ 32) →
    spare_in pools ≤ length pools * 4294967295
most_spare [] small = omega arith
most_spare (p ∷ pools) small =
    let first : spare_pieces p < 2 ^ 32 = small 0 p refl in
    let ih = most_spare pools (λ j q at. small (suc j) q at) in
    omega (arith, first, ih)

pub spared_small : (pools : List Pool) (n : ℕ) → Spared pools n → n ≤ length pools * 4294967295
spared_small pools n x = let m = most_spare pools x.small in let s = x.sum in omega (arith, m, s)

-- no job
pub spared_none : Spared [] 0
spared_none = record { sum = refl; few = omega arith; small = λ j p at. absurd cc }

-- one job more in front
pub spared_more : (p : Pool) (pools : List Pool) (k n : ℕ) → k ≡ spare_pieces p → k < 2 ^ 32 → suc (length pools) ≤ most_jobs →
    Spared pools n → Spared (p ∷ pools) (k + n)
spared_more p pools k n e small few x = record {
  sum = let s = x.sum in omega (arith, e, s);
  few = few;
  small = go;
}
  where
    go : (j : ℕ) (q : Pool) → IsPool (p ∷ pools) j q → spare_pieces q < 2 ^ 32
    go zero q at = let f : p ≡ q = cc in let s = ap spare_pieces f in omega (arith, s, e, small)
    go (suc j) q at = x.small j q at

-- where so many spare pieces of one job became so many
pub record Changes (after : List Pool) (spare before now : ℕ) : Type 0 where
  pub part : before ≤ spare
  pub small : spare - before + now < 2 ^ 64
  pub spared : Spared after (spare - before + now)

module _ (pools : List Pool) (j : ℕ) (p q : Pool) (spare before now : ℕ) (x : Spared pools spare) (at : IsPool pools j p)
    (b : SpareAt pools j before) (a : SpareAt (set pools j q) j now) where
  before_is : spare_pieces p ≡ before
  before_is = b.here p at

  now_is : spare_pieces q ≡ now
  now_is = a.here q (put_there pools j q p at)

  small_after : (i : ℕ) (r : Pool) → IsPool (set pools j q) i r → spare_pieces r < 2 ^ 32
  small_after i r there = ⊎_elim
      (λ e. let s = ap spare_pieces e.1 in let n = now_is in let m = a.small in omega (arith, s, n, m))
      (λ e. x.small i r e.1) (got_after_set pools j i q r there)

  spared_after : Spared (set pools j q) (spare - before + now)
  spared_after = record {
    sum = let s = sum_after_set pools j p q at in let k = part_of pools j p at in let n = x.sum in let e = before_is in let f = now_is in
        omega (arith, s, k, n, e, f);
    few = let l = length-set pools j q in let m = x.few in omega (arith, l, m);
    small = small_after;
  }

  changes_set : Changes (set pools j q) spare before now
  changes_set = record {
    part = let k = part_of pools j p at in let n = x.sum in let e = before_is in omega (arith, k, n, e);
    small = let m = spared_small (set pools j q) (spare - before + now) spared_after in let f = spared_after.few in omega (arith, m, f);
    spared = spared_after;
  }

-- what is so where the job was looked at before and after
pub changes : (pools after seen then : List Pool) (j : ℕ) (p q : Pool) (spare before now : ℕ) → Spared pools spare → IsPool pools j p →
    after ≡ set pools j q → seen ≡ pools → SpareAt seen j before → then ≡ after → SpareAt then j now → Changes after spare before now
changes pools after seen then j p q spare before now x at e f b g a = subst (λ (ps : List Pool). Changes ps spare before now) (sym e)
    (changes_set pools j p q spare before now x at (subst (λ (ps : List Pool). SpareAt ps j before) f b)
    (subst (λ (ps : List Pool). SpareAt ps j now) (g ∙ e) a))

-- the jobs are the same
pub counted_same : (pools after : List Pool) (passed spare n : ℕ) → Counted pools passed spare → after ≡ pools → Spared after n →
    Counted after passed n
counted_same pools after passed spare n x e s = record {
  over = subst (λ (ps : List Pool). ArePassed ps passed) (sym e) x.over;
  spared = s;
}

-- where a job goes on, those before it stay over
passed_after : (pools : List Pool) (j passed : ℕ) (q : Pool) → ArePassed pools passed → ArePassed (set pools j q) (min passed j)
passed_after pools j passed q x i p l at = ⊎_elim (λ e. absurd (let i = e.0 in omega (arith, i, l)))
    (λ e. x i p (omega (arith, l)) e.1) (got_after_set pools j i q p at)

pub counted_booked : (pools after : List Pool) (j passed spare k n : ℕ) (q : Pool) → Counted pools passed spare → after ≡ set pools j q →
    k ≡ min passed j → Spared after n → Counted after k n
counted_booked pools after j passed spare k n q x e f s = record {
  over = subst (ArePassed after) (sym f)
      (subst (λ (ps : List Pool). ArePassed ps (min passed j)) (sym e) (passed_after pools j passed q x.over));
  spared = s;
}

-- at the start no job is known to be over
pub start_counted : (pools seen : List Pool) (n : ℕ) → seen ≡ pools → Spared seen n → Counted pools 0 n
start_counted pools seen n e s = record {
  over = λ j p l at. absurd (omega arith);
  spared = subst (λ (ps : List Pool). Spared ps n) e s;
}
