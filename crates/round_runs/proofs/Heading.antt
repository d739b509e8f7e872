-- The list of the live tickets from one ticket on: tickets without tokens are passed over.
use Rattle.std.proofs.Common.{◌≡◌, ℕ, zero, suc, ◌+◌, ◌-◌, ◌<◌, ◌≤◌, [], ◌∷◌, Some, None, refl, ap, ◌∙◌, arith}
use Rattle.move_rules.specs.Places.{TokenTree}
use Rattle.interleave_laws.specs.States.{Tokens}
use Rattle.round_laws.specs.Rounds.{if_live, live_from}

-- tickets without tokens are in no list
skip_dead : (f : Tokens) (d n i : ℕ) → ((q : ℕ) → i ≤ q → q < i + d → f q ≡ None) → live_from f i (d + n) ≡ live_from f (i + d) n
skip_dead f zero n i dead = let a : 0 + n ≡ n = omega arith in let b : i ≡ i + 0 = omega arith in λ j. live_from f (b j) (a j)
skip_dead f (suc d) n i dead =
    let b : suc i + d ≡ i + suc d = omega arith in
    let more : suc d + n ≡ suc (d + n) = omega arith in
    ap (λ k. live_from f i k) more
    ∙ ap (λ o. if_live o i (live_from f (suc i) (d + n))) (dead i (omega arith) (omega arith))
    ∙ skip_dead f d n (suc i) (λ q u w. dead q (omega (arith, u)) (omega (arith, w)))
    ∙ ap (λ k. live_from f k n) b

-- up to the next ticket nothing is live from there on
pub none_from : (f : Tokens) (next i : ℕ) → ((q : ℕ) → i ≤ q → q < next → f q ≡ None) → live_from f i (next - i) ≡ []
none_from f next i dead = go (next - i) i (λ q u w. dead q u (omega (arith, u, w)))
  where
    go : (n i : ℕ) → ((q : ℕ) → i ≤ q → q < i + n → f q ≡ None) → live_from f i n ≡ []
    go zero i dead = refl
    go (suc n) i dead =
        ap (λ o. if_live o i (live_from f (suc i) n)) (dead i (omega arith) (omega arith)) ∙
        go n (suc i) (λ q u w. dead q (omega (arith, u)) (omega (arith, w)))

-- from one ticket to the first live one
up_to_live : (f : Tokens) (next i j : ℕ) → i ≤ j → j < next → ((q : ℕ) → i ≤ q → q < j → f q ≡ None) →
    live_from f i (next - i) ≡ live_from f j (next - j)
up_to_live f next i j u w dead =
    let long : next - i ≡ (j - i) + (next - j) = omega (arith, u, w) in
    let at : i + (j - i) ≡ j = omega (arith, u) in
    ap (λ n. live_from f i n) long ∙ skip_dead f (j - i) (next - j) i (λ q a b. dead q a (omega (arith, u, b)))
    ∙ ap (λ k. live_from f k (next - j)) at

-- the first live ticket, and the list behind it
pub first_live : (f : Tokens) (next i j : ℕ) (x : TokenTree) → f j ≡ Some x → i ≤ j → j < next →
    ((q : ℕ) → i ≤ q → q < j → f q ≡ None) → live_from f i (next - i) ≡ j ∷ live_from f (suc j) (next - suc j)
first_live f next i j x h u w dead =
    let one : next - j ≡ suc (next - suc j) = omega (arith, w) in
    up_to_live f next i j u w dead ∙ ap (live_from f j) one ∙ ap (λ o. if_live o j (live_from f (suc j) (next - suc j))) h
