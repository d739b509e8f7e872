-- The generated program is within the limits: how long its text is, how deep its tokens stand, and how many nodes they count.
use Rattle.std.proofs.Common.{◌≡◌, ℕ, zero, suc, ◌+◌, ◌*◌, ◌^◌, ◌<◌, ◌≤◌, true, nat_lt, max}
use Rattle.std.proofs.Common.{List, [], ◌∷◌, ◌++◌, length, refl}
use Rattle.std.proofs.Common.{ap, ◌∙◌, arith, length-append}
use Rattle.std.specs.Prelude.{codes, encode_utf8_all}
use Rattle.std.specs.Str.{all_scalars}
use Rattle.std.proofs.Math.Nat.{pow-le-pow_right}
use Rattle.std.proofs.lemmas.Bool.{and_from, and_parts}
use Rattle.std.proofs.lemmas.Grind.{pow_more}
use Rattle.pcf_values.specs.Most.{most_demo}
use Rattle.pcf_reader.specs.Grammar.{Written, plain, marked, expr_part, expr_text, program_text}
use Rattle.pcf_reader.specs.Tokens.{Close, End, Open, Sign}
use Rattle.pcf_reader.specs.Sizes.{node_count}
use Rattle.pcf_reader.specs.Text.{Each, IsShallow, count_of}
use Rattle.pcf_reader.proofs.Bounds.{program_count}
use Rattle.pcf_reader.proofs.Lists.{WritesNarrow, each_append}
use Rattle.pcf_reader.proofs.Shows.{all_low, low_bytes, low_scalars}
use Rattle.demo_text.specs.Demo.{demo_operator}
use Rattle.demo_text.specs.Text.{demo_text, sum_text}
use Rattle.demo_text.proofs.Phrases.{demo_end, demo_program, right_of, sum_end, sum_phrase, sum_tokens, sum_width, tail_tokens}

-- ---- numbers

-- twice a power of two is the next one
pub twice : (k : ℕ) → 2 ^ (suc k) ≡ 2 ^ k + 2 ^ k
twice k = ap (λ i. 2 ^ i) (omega arith) ∙ pow_more 2 k ∙ omega arith

-- the largest program has 4096 leaves
pub most_leaves : (n : ℕ) → n ≤ most_demo → 2 ^ n ≤ 4096
most_leaves n h = pow-le-pow_right {n = 2} (omega arith) {i = n} {j = 12} h

-- the length of a sum by its leaves
width_leaves : (k : ℕ) → sum_width k + 7 ≡ 10 * 2 ^ k
width_leaves zero = refl
width_leaves (suc k) = omega (arith, width_leaves k, twice k)

-- ---- the text

-- its length
sum_length : (k : ℕ) → length (sum_text k) ≡ sum_width k
sum_length zero = refl
sum_length (suc k) =
    omega (
      arith,
      length-append (sum_text k) (codes ") + (" ++ (sum_text k ++ codes ")")),
      length-append (sum_text k)
          (codes ")"),
      sum_length k,
    )

-- the text is short enough to be read
pub demo_short : (n : ℕ) → n ≤ most_demo → length (demo_text n) ≤ 1048576
demo_short n h =
    omega (arith, length-append (sum_text n) (codes ") (fun x:nat. x + x)\n"), sum_length n, width_leaves n, most_leaves n h)

-- it is ASCII, so that its characters are its bytes: two ASCII texts, one behind the other
low_join : (u v : List ℕ) → all_low u ≡ true → all_low v ≡ true → all_low (u ++ v) ≡ true
low_join [] v h k = k
low_join (c ∷ u) v h k =
    and_from (nat_lt c 128) (all_low (u ++ v)) (and_parts (nat_lt c 128) (all_low u) h).0
    (low_join u v (and_parts (nat_lt c 128) (all_low u) h).1 k)

-- a sum is ASCII
sum_low : (k : ℕ) → all_low (sum_text k) ≡ true
sum_low zero = refl
sum_low (suc k) =
    low_join (sum_text k) (codes ") + (" ++ (sum_text k ++ codes ")")) (sum_low k) (low_join (sum_text k) (codes ")") (sum_low k) refl)

-- the whole text is ASCII
demo_low : (n : ℕ) → all_low (demo_text n) ≡ true
demo_low n = low_join (sum_text n) (codes ") (fun x:nat. x + x)\n") (sum_low n) refl

-- the bytes of the text are its characters
pub demo_bytes : (n : ℕ) → encode_utf8_all (demo_text n) ≡ demo_text n
demo_bytes n = low_bytes (demo_text n) (demo_low n)

-- all of them are characters
pub demo_scalars : (n : ℕ) → all_scalars (demo_text n) ≡ true
demo_scalars n = low_scalars (demo_text n) (demo_low n)

-- ---- how deep the tokens stand

-- the height of a sum
sum_height : (k at : ℕ) → (expr_part (sum_phrase k at)).height ≡ k + k + 2
sum_height zero at = refl
sum_height (suc k) at = omega (arith, sum_height k (at + 1), sum_height k (right_of k at))

-- the tokens of a sum stand shallow
sum_shallow : (k o at : ℕ) → o + k < 100 → Each IsShallow (expr_text o (sum_phrase k at))
sum_shallow zero o at small = (omega arith, (omega arith, tt))
sum_shallow (suc k) o at small =
    let first : List Written = expr_text (suc o) (sum_phrase k (at + 1)) in
    let second : List Written = expr_text (suc o) (sum_phrase k (right_of k at)) in
    let close : Written = plain ((at + 1) + sum_width k) Close in
    let close_2 : Written = plain (right_of k at + sum_width k) Close in
    let here : max 0 o < 500 = omega (arith, small) in
    let more : List Written =
    marked ((close.at + 1) + 1) (Sign demo_operator) (suc (expr_part (sum_phrase k (at + 1))).height) 1 ∷
    marked ((close.at + 1) + 3) Open (max 0 o) 0
    ∷ (second ++ close_2 ∷ []) in
    let plus : suc (expr_part (sum_phrase k (at + 1))).height < 500 = omega (arith, small, sum_height k (at + 1)) in (
      here,
      each_append IsShallow (first ++ close ∷ []) more
          (each_append IsShallow first (close ∷ []) (sum_shallow k (suc o) (at + 1) (omega (arith, small))) (omega arith, tt)) (
            plus,
            (
              here,
              each_append IsShallow second (close_2 ∷ []) (sum_shallow k (suc o) (right_of k at) (omega (arith, small)))
                  (omega arith, tt),
            ),
          ),
    )

-- depths of zero and one are below the limit
zero_left : 0 < 500
zero_left = omega arith

one_left : 1 < 500
one_left = omega arith

-- all tokens stand shallow
pub demo_shallow : (n : ℕ) → n ≤ most_demo → Each IsShallow (program_text (demo_program n))
demo_shallow n h =
    let close : Written = plain (sum_end n) Close in
    let deep : max (suc (suc (expr_part (sum_phrase n 17)).height)) 0 < 500 = omega (arith, h, sum_height n 17) in
    let tail : Each IsShallow (tail_tokens n) =
    (deep, (one_left, (zero_left, (zero_left, (zero_left, (zero_left, (zero_left, (one_left, (zero_left, (zero_left, tt)))))))))) in
    let rest : Each IsShallow (((sum_tokens n ++ close ∷ []) ++ tail_tokens n) ++ plain (demo_end n) End ∷ []) =
    each_append IsShallow ((sum_tokens n ++ close ∷ []) ++ tail_tokens n) (plain (demo_end n) End ∷ [])
    (each_append IsShallow (sum_tokens n ++ close ∷ []) (tail_tokens n)
    (each_append IsShallow (sum_tokens n) (close ∷ []) (sum_shallow n 2 17 (omega (arith, h))) (zero_left, tt)) tail) (zero_left, tt) in
    (zero_left, (one_left, (zero_left, (zero_left, (zero_left, (omega arith, (zero_left, (zero_left, rest))))))))

-- ---- its numbers are narrow

-- the numbers of a sum are narrow
sum_narrow : (k o at : ℕ) → Each WritesNarrow (expr_text o (sum_phrase k at))
sum_narrow zero o at = (tt, (omega arith, tt))
sum_narrow (suc k) o at =
    let first : List Written = expr_text (suc o) (sum_phrase k (at + 1)) in
    let second : List Written = expr_text (suc o) (sum_phrase k (right_of k at)) in
    let close : Written = plain ((at + 1) + sum_width k) Close in
    let close_2 : Written = plain (right_of k at + sum_width k) Close in
    let more : List Written =
    marked ((close.at + 1) + 1) (Sign demo_operator) (suc (expr_part (sum_phrase k (at + 1))).height) 1 ∷
    marked ((close.at + 1) + 3) Open (max 0 o) 0
    ∷ (second ++ close_2 ∷ []) in (
      tt,
      each_append WritesNarrow (first ++ close ∷ []) more
          (each_append WritesNarrow first (close ∷ []) (sum_narrow k (suc o) (at + 1)) (tt, tt))
          (tt, (tt, each_append WritesNarrow second (close_2 ∷ []) (sum_narrow k (suc o) (right_of k at)) (tt, tt))),
    )

-- all numbers are narrow
pub demo_narrow : (n : ℕ) → Each WritesNarrow (program_text (demo_program n))
demo_narrow n =
    let close : Written = plain (sum_end n) Close in
    let tail : Each WritesNarrow (tail_tokens n) = (tt, (tt, (tt, (tt, (tt, (tt, (tt, (tt, (tt, (tt, tt)))))))))) in
    let rest : Each WritesNarrow (((sum_tokens n ++ close ∷ []) ++ tail_tokens n) ++ plain (demo_end n) End ∷ []) =
    each_append WritesNarrow ((sum_tokens n ++ close ∷ []) ++ tail_tokens n) (plain (demo_end n) End ∷ [])
    (each_append WritesNarrow (sum_tokens n ++ close ∷ []) (tail_tokens n)
    (each_append WritesNarrow (sum_tokens n) (close ∷ []) (sum_narrow n 2 17) (tt, tt)) tail) (tt, tt) in
    (tt, (tt, (tt, (tt, (tt, (tt, (tt, (tt, rest))))))))

-- ---- how many nodes it counts

-- how many nodes a sum counts
sum_count : (k at : ℕ) → node_count (expr_part (sum_phrase k at)).tree + 1 ≡ 4 * 2 ^ k
sum_count zero at = refl
sum_count (suc k) at = omega (arith, sum_count k (at + 1), sum_count k (right_of k at), twice k)

-- the program counts few enough nodes
pub demo_small : (n : ℕ) → n ≤ most_demo → count_of (program_text (demo_program n)) ≤ 32768
demo_small n h = omega (arith, program_count (demo_program n), sum_count n 17, most_leaves n h)
