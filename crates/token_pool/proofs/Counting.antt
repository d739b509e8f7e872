-- The numbers that are kept beside the list of what workers hold, and what they are after a change at one place.
use Rattle.std.proofs.Common.{◌≡◌, ℕ, zero, suc, ◌+◌, ◌-◌, ◌<◌, ◌≤◌, ◌^◌, List, [], ◌∷◌, length, set}
use Rattle.std.proofs.Common.{replicate, slice_get, nat_eq, Option, Some, None, refl, sym, ap, ◌∙◌, arith, length-set}
use Rattle.std.proofs.lemmas.Bool.{ne_eqb}
use Rattle.std.proofs.lemmas.List.{length-replicate}
use Rattle.token_pool.specs.declared.entries.Held.{Held}
use Rattle.token_pool.specs.Pools.{allowance_of, allowances, count_held}
use Rattle.token_pool.specs.Counts.{holder, CountsOf}
use Rattle.token_pool.specs.Turns.{none_held, own}
use Rattle.token_pool.proofs.Holding.{no_sum, sum_after_set}

-- the first place counts or doesn't, beside the others
count_first : (o : Option Held) (held : List (Option Held)) → count_held (o ∷ held) ≡ holder o + count_held held
count_first None held = omega arith
count_first (Some h) held = omega arith

-- no more tickets are held than there are places
pub count_few : (held : List (Option Held)) → count_held held ≤ length held
count_few [] = omega arith
count_few (None ∷ held) = let ih = count_few held in omega (arith, ih)
count_few (Some h ∷ held) = let ih = count_few held in omega (arith, ih)

-- none is held where nobody holds anything
count_none : (n : ℕ) → count_held (replicate n None) ≡ 0
count_none zero = refl
count_none (suc n) = count_none n

-- the numbers at the start
pub counts_none : (n : ℕ) (held : List (Option Held)) → n < 2 ^ 32 → held ≡ replicate n None → CountsOf held 0 0
counts_none n held small e = record {
  count = sym (ap count_held e ∙ count_none n);
  sum = sym (ap allowances e ∙ no_sum n);
  short = let l : length held ≡ n = ap length e ∙ length-replicate n None in omega (arith, l, small);
}

-- nobody holds a ticket exactly where their number is 0
pub none_by_count : (held : List (Option Held)) (n : ℕ) → n ≡ count_held held → nat_eq n 0 ≡ none_held held
none_by_count held n e = ap (λ n. nat_eq n 0) e ∙ go held
  where
    go : (held : List (Option Held)) → nat_eq (count_held held) 0 ≡ none_held held
    go [] = refl
    go (None ∷ held) = go held
    go (Some h ∷ held) = ne_eqb (suc (count_held held)) 0 (λ e. omega arith)

-- the number of held tickets changes by what is put in the place of what was there
count_after_set : (held : List (Option Held)) (w : ℕ) (a o : Option Held) → slice_get held w ≡ Some a
    → count_held (set held w o) + holder a ≡ count_held held + holder o
count_after_set [] w a o h = absurd cc
count_after_set (x ∷ xs) zero a o h =
    let e : x ≡ a = cc in
    let s = ap holder e in
    let before = count_first x xs in
    let after = count_first o xs in
    omega (arith, s, before, after)
count_after_set (x ∷ xs) (suc w) a o h =
    let ih = count_after_set xs w a o h in
    let before = count_first x xs in
    let after = count_first x (set xs w o) in
    omega (arith, ih, before, after)

-- a worker's place is there
place_there : (held : List (Option Held)) (w : ℕ) → w < length held → slice_get held w ≡ Some (own held w)
place_there [] w l = absurd (omega arith)
place_there (x ∷ xs) zero l = refl
place_there (x ∷ xs) (suc w) l = place_there xs w (omega arith)

-- one worker's part is in either number
holder_in : (held : List (Option Held)) (w : ℕ) (a : Option Held) → slice_get held w ≡ Some a → holder a ≤ count_held held
holder_in [] w a h = absurd cc
holder_in (x ∷ xs) zero a h = let e : x ≡ a = cc in let s = ap holder e in let all = count_first x xs in omega (arith, s, all)
holder_in (x ∷ xs) (suc w) a h = let ih = holder_in xs w a h in let all = count_first x xs in omega (arith, ih, all)

allowance_in : (held : List (Option Held)) (w : ℕ) (a : Option Held) → slice_get held w ≡ Some a →
    allowance_of a ≤ allowances held
allowance_in [] w a h = absurd cc
allowance_in (x ∷ xs) zero a h = let e : x ≡ a = cc in let s = ap allowance_of e in omega (arith, s)
allowance_in (x ∷ xs) (suc w) a h = let ih = allowance_in xs w a h in omega (arith, ih)

-- what both numbers are before and after a change at worker w's place, where they are counted at first
pub record Puts (held : List (Option Held)) (w : ℕ) (a o : Option Held) (holders aside : ℕ) : Type 0 where
  pub holders_in : holder a ≤ holders
  pub aside_in : allowance_of a ≤ aside
  pub holders_small : holders + holder o < 2 ^ 32 + 1
  pub aside_small : aside - allowance_of a + allowance_of o < 2 ^ 32
  pub counts : CountsOf (set held w o) (holders - holder a + holder o) (aside - allowance_of a + allowance_of o)

-- after a change at worker w's place both numbers are counted anew from what was there and what is
pub puts : (held seen : List (Option Held)) (w : ℕ) (a o : Option Held) (holders aside : ℕ) → held ≡ seen → w < length seen
    → a ≡ own held w → CountsOf held holders aside → allowances (set seen w o) < 2 ^ 32 → Puts held w a o holders aside
puts held seen w a o holders aside e l f at small =
    let there = ap length e in
    let here = place_there held w (omega (arith, there, l)) ∙ ap Some (sym f) in
    let count = count_after_set held w a o here in
    let sum = sum_after_set held w a o here in
    let one = holder_in held w a here in
    let part = allowance_in held w a here in
    let few = count_few held in
    let most = ap (λ k. allowances (set k w o)) e in
    let counted = at.count in
    let summed = at.sum in
    let short = at.short in
    let ones = holder_one o in
    let longer = length-set held w o in
    record {
      holders_in = omega (arith, one, counted);
      aside_in = omega (arith, part, summed);
      holders_small = omega (arith, few, short, counted, ones);
      aside_small = omega (arith, sum, part, summed, most, small);
      counts = record {
        count = omega (arith, count, counted, one);
        sum = omega (arith, sum, summed, part);
        short = omega (arith, longer, short);
      };
    }
  where
    holder_one : (o : Option Held) → holder o ≤ 1
    holder_one None = omega arith
    holder_one (Some h) = omega arith
