-- The text of the generated program splits into the tokens of its phrase.
use Rattle.std.proofs.Common.{◌≡◌, ℕ, zero, suc, ◌+◌, max, List, [], ◌∷◌, ◌++◌, map, refl, sym, ap, ◌∙◌, subst}
use Rattle.std.proofs.Common.{arith, append_assoc}
use Rattle.std.specs.Prelude.{codes}
use Rattle.std.proofs.lemmas.List.{map-append}
use Rattle.pcf_values.specs.Named.{the_fun}
use Rattle.pcf_reader.specs.Tokens.{Open, Close, Colon, Dot, Sign, Arrow, Nat, Bind, Number, Name, End, Placed}
use Rattle.pcf_reader.specs.Grammar.{Written, placed, plain, marked, expr_part, expr_text, program_text}
use Rattle.pcf_reader.specs.Spelling.{word_of, Splits, digits, token, blank, ends, arrow as arrow_spelled}
use Rattle.pcf_reader.proofs.Pieces.{Clear, clear_by, place_at, blank_piece, keyword_piece}
use Rattle.pcf_reader.proofs.Lexed.{at_place, arrow_longest, longest_number}
use Rattle.pcf_reader.proofs.Canon.{space, closes, colon_clear, dot_clear, open_piece, close_piece, colon_piece, dot_piece, op_piece}
use Rattle.pcf_reader.proofs.Canon.{nat_piece, binder_splits}
use Rattle.demo_text.specs.Demo.{demo_operator}
use Rattle.demo_text.specs.Text.{demo_text, sum_text}
use Rattle.demo_text.proofs.Phrases.{close_at, demo_end, demo_program, doubler_phrase, left_at, open_at, right_at, right_of, sum_end}
use Rattle.demo_text.proofs.Phrases.{sum_phrase, sum_tokens, sum_width, tail_tokens}

-- ---- the pieces

-- a place under another sum
to : (j i : ℕ) (cs : List ℕ) (items : List Placed) → i ≡ j → Splits j cs items → Splits i cs items
to j i cs items e h = place_at j i cs items (sym e) h

-- names of one letter
d_piece : (at : ℕ) (rest : List ℕ) (items : List Placed) → Clear rest → Splits (at + 1) rest items
    → Splits at (100 ∷ rest) (at_place at (Name (codes "d")) ∷ items)
unfolding word_of
d_piece at rest items clear h = keyword_piece 100 [] (Name (codes "d")) 1 at rest items refl refl refl clear h

-- the name `x`
x_piece : (at : ℕ) (rest : List ℕ) (items : List Placed) → Clear rest → Splits (at + 1) rest items
    → Splits at (120 ∷ rest) (at_place at (Name (codes "x")) ∷ items)
unfolding word_of
x_piece at rest items clear h = keyword_piece 120 [] (Name (codes "x")) 1 at rest items refl refl refl clear h

-- an arrow
arrow_piece : (at : ℕ) (rest : List ℕ) (items : List Placed) → Splits (at + 2) rest items
    → Splits at (45 ∷ 62 ∷ rest) (at_place at Arrow ∷ items)
arrow_piece at rest items h = token at (45 ∷ 62 ∷ rest) (45 ∷ 62 ∷ []) rest Arrow items refl arrow_spelled (arrow_longest rest) h

-- a one before a parenthesis
one_piece : (at : ℕ) (rest : List ℕ) (items : List Placed) → Splits (at + 1) (41 ∷ rest) items
    → Splits at (49 ∷ 41 ∷ rest) (at_place at (Number 1) ∷ items)
one_piece at rest items h =
    token at (49 ∷ 41 ∷ rest) (49 ∷ []) (41 ∷ rest) (Number 1) items refl (digits 49 [] (refl, tt))
    (longest_number 49 [] (41 ∷ rest) refl refl) h

-- ---- a sum

-- a part with a token behind it, before more tokens
then_more : (u : List Written) (a : Written) (w : List Written) (items : List Placed)
    → map placed ((u ++ a ∷ []) ++ w) ++ items ≡ map placed u ++ (placed a ∷ (map placed w ++ items))
then_more [] a w items = refl
then_more (x ∷ u) a w items = ap (λ z. placed x ∷ z) (then_more u a w items)

-- a part with a token behind it, before other tokens
then_none : (u : List Written) (a : Written) (items : List Placed) → map placed (u ++ a ∷ []) ++ items ≡ map placed u ++
    (placed a ∷ items)
then_none [] a items = refl
then_none (x ∷ u) a items = ap (λ z. placed x ∷ z) (then_none u a items)

-- the text of a sum before a rest
doubled_before : (s rest : List ℕ)
    → (s ++ (codes ") + (" ++ (s ++ codes ")"))) ++ rest ≡ s ++ (codes ") + (" ++ (s ++ (41 ∷ rest)))
doubled_before s rest =
    append_assoc s (codes ") + (" ++ (s ++ codes ")")) rest ∙ ap (λ z. s ++ (codes ") + (" ++ z)) (append_assoc s (codes ")") rest)

-- a sum before a parenthesis, while so many phrases are open
pub sum_splits : (depth o at : ℕ) (rest : List ℕ) (items : List Placed) → Splits (at + sum_width depth) (41 ∷ rest) items
    → Splits at (sum_text depth ++ (41 ∷ rest)) (map placed (expr_text o (sum_phrase depth at)) ++ items)
sum_splits zero o at rest items h =
    d_piece at _ _ (space (codes "1)" ++ rest))
    (blank_piece (at + 1) _ _ (to (at + 2) ((at + 1) + 1) _ _ (omega arith) (one_piece (at + 2) rest items
    (to (at + 3) ((at + 2) + 1) _ _ (omega arith) h))))
sum_splits (suc depth) o at rest items h =
    let w : ℕ = sum_width depth in
    let close : ℕ = (at + 1) + w in
    let right : ℕ = right_of depth at in
    let s : List ℕ = sum_text depth in
    let first : List Written = expr_text (suc o) (sum_phrase depth (at + 1)) in
    let second : List Written = expr_text (suc o) (sum_phrase depth right) in
    let more : List Written =
    marked ((close + 1) + 1) (Sign demo_operator) (suc (expr_part (sum_phrase depth (at + 1))).height) 1 ∷
    marked ((close + 1) + 3) Open (max 0 o) 0 ∷
    (second ++ plain (right + w) Close ∷ []) in
    let tokens : map placed ((first ++ plain close Close ∷ []) ++ more) ++ items
    ≡ map placed first ++ (at_place close Close ∷ at_place ((close + 1) + 1) (Sign demo_operator) ∷ at_place ((close + 1) + 3) Open
    ∷ (map placed second ++ (at_place (right + w) Close ∷ items))) =
    then_more first (plain close Close) more items
    ∙ ap (λ z. map placed first ++ (at_place close Close ∷ at_place ((close + 1) + 1) (Sign demo_operator) ∷
    at_place ((close + 1) + 3) Open ∷ z))
    (then_none second (plain (right + w) Close) items) in
    subst (λ z. Splits at (40 ∷ z) (map placed (expr_text o (sum_phrase (suc depth) at)) ++ items))
    (sym (doubled_before s (41 ∷ rest)))
    (subst (λ z. Splits at (40 ∷ (s ++ (codes ") + (" ++ (s ++ (41 ∷ 41 ∷ rest))))) (at_place at Open ∷ z)) (sym tokens)
    (open_piece at _ _ (sum_splits depth (suc o) (at + 1) (codes " + (" ++ (s ++ (41 ∷ 41 ∷ rest))) _ (close_piece close _ _
    (op_piece demo_operator (close + 1) _ _ (open_piece ((close + 1) + 3) _ _
    (sum_splits depth (suc o) right (41 ∷ rest) _ (close_piece (right + w) _ _
    (to (at + (w + w + 7)) ((right + w) + 1) _ _ (omega arith) h)))))))))

-- ---- the program

-- `fun x:nat. x + x` before a parenthesis
doubler_splits : (o at : ℕ) (rest : List ℕ) (items : List Placed) → Splits (right_at at + 1) (41 ∷ rest) items
    → Splits at (codes "fun x:nat. x + x)" ++ rest) (map placed (expr_text o (doubler_phrase at)) ++ items)
doubler_splits o at rest items h =
    binder_splits the_fun at _ _ (x_piece (at + 4) _ _ (colon_clear (codes "nat. x + x)" ++ rest)) (colon_piece ((at + 4) + 1) _ _
    (nat_piece (((at + 4) + 1) + 1) _ _ (dot_clear (codes " x + x)" ++ rest)) (dot_piece ((((at + 4) + 1) + 1) + 3) _ _
    (blank_piece (((((at + 4) + 1) + 1) + 3) + 1) _ _
    (x_piece (left_at at) _ _ (space (codes "+ x)" ++ rest)) (op_piece demo_operator (left_at at + 1) _ _
    (x_piece (right_at at) _ _ (closes rest) h))))))))

-- a dash ends a word
dash_clear : (cs : List ℕ) → Clear (45 ∷ cs)
dash_clear cs = clear_by 45 cs (omega arith) refl refl

-- what stands behind the sum
abbrev tail : List ℕ
tail = codes " (fun x:nat. x + x)\n"

-- the text of the program and its tokens
pub demo_splits : (n : ℕ) → Splits 0 (demo_text n) (map placed (program_text (demo_program n)))
demo_splits n =
    let c : ℕ = sum_end n in
    let s : List ℕ = sum_text n ++ (41 ∷ tail) in
    let sum : List Written = sum_tokens n in
    let close : Written = plain c Close in
    let end : Written = plain (demo_end n) End in
    let tokens : map placed (((sum ++ close ∷ []) ++ tail_tokens n) ++ end ∷ [])
    ≡ map placed sum ++ (placed close ∷ (map placed (tail_tokens n) ++ placed end ∷ [])) =
    map-append placed ((sum ++ close ∷ []) ++ tail_tokens n) (end ∷ []) ∙ then_more sum close (tail_tokens n) (placed end ∷ []) in
    subst (λ z. Splits 0 (demo_text n)
    (at_place 0 Open ∷ at_place 1 (Bind the_fun) ∷ at_place 5
    (Name (codes "d")) ∷ at_place 6 Colon ∷ at_place 7 Nat ∷ at_place 10 Arrow ∷ at_place 12 Nat ∷ at_place 15 Dot ∷ z))
    (sym tokens)
    (open_piece 0 _ _ (binder_splits the_fun 1 _ _ (d_piece 5 _ _ (colon_clear (codes "nat->nat. " ++ s)) (colon_piece 6 _ _
    (nat_piece 7 _ _ (dash_clear (codes ">nat. " ++ s))
    (arrow_piece 10 _ _ (nat_piece 12 _ _ (dot_clear (32 ∷ s)) (dot_piece 15 _ _ (blank_piece 16 _ _
    (sum_splits n 2 17 tail _ (close_piece c _ _ (blank_piece (c + 1) _ _ (open_piece (open_at n) _ _
    (doubler_splits 1 (open_at n + 1) (10 ∷ []) _
    (close_piece (close_at n) _ _ (blank (close_at n + 1) 10 [] _ refl (ends (demo_end n))))))))))))))))))
