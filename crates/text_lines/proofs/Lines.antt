-- The lines of a text joined are the text, and lines joined are split again.
use Rattle.std.proofs.Common.{◌≡◌, ℕ, ◌+◌, ◌%◌, ◌^◌, ◌<◌, Bool, true, false, not, ◌&&◌, List, [], ◌∷◌, ◌++◌, append_assoc, refl, sym, ap}
use Rattle.std.proofs.Common.{◌∙◌, arith}
use Rattle.std.specs.Prelude.{codes, decimal, nat_eq, if◌then◌else◌}
use Rattle.std.proofs.lemmas.Bool.{and_parts, and_from, ne_eqb, not-true}
use Rattle.std.proofs.lemmas.Fmt.{decimal_by_steps}
use Rattle.text_lines.specs.Lines.{in_front, lines}
use Rattle.text_lines.specs.Lines.{joined}

-- one more byte in front of the first line
front_joined : (b : ℕ) (ls : List (List ℕ)) → joined (in_front b ls) ≡ b ∷ joined ls
front_joined b [] = refl
front_joined b (l ∷ ls) = refl

-- the same where that byte may be a line feed
feed_joined : (c : Bool) (b : ℕ) (bs : List ℕ) → joined (lines bs) ≡ bs →
    joined (if c then (b ∷ []) ∷ lines bs else in_front b (lines bs)) ≡ b ∷ bs
feed_joined true b bs h = ap (λ t. b ∷ t) h
feed_joined false b bs h = front_joined b (lines bs) ∙ ap (λ t. b ∷ t) h

-- The lines of a text, joined, are the text.
pub lines_joined : (bs : List ℕ) → joined (lines bs) ≡ bs
lines_joined [] = refl
lines_joined (b ∷ bs) = feed_joined (nat_eq b 10) b bs (lines_joined bs)

-- bytes without a line feed
abbrev pub no_feed : List ℕ → Bool
no_feed [] = true
no_feed (b ∷ bs) = not (nat_eq b 10) && no_feed bs

-- Bytes without a line feed, joined, have none.
pub no_feed_append : (a b : List ℕ) → no_feed a ≡ true → no_feed b ≡ true → no_feed (a ++ b) ≡ true
no_feed_append [] b h k = k
no_feed_append (c ∷ a) b h k = let (p, q) = and_parts (not (nat_eq c 10)) (no_feed a) h in
    and_from (not (nat_eq c 10)) (no_feed (a ++ b)) p (no_feed_append a b q k)

-- a digit is none
no_feed_digit : (n : ℕ) → no_feed ((48 + n) ∷ []) ≡ true
no_feed_digit n = ap (λ b. not b && true) (ne_eqb (48 + n) 10 (λ e. omega (arith, e)))

-- these digits have no line feed
abbrev Fine : ℕ → List ℕ → Type 0
Fine n ds = no_feed ds ≡ true

-- A number is spelled without one.
pub no_feed_decimal : (n : ℕ) → n < 2 ^ 64 → no_feed (decimal n) ≡ true
no_feed_decimal n h =
    decimal_by_steps Fine (λ n u. no_feed_digit n) (λ n ds u p. no_feed_append ds ((48 + n % 10) ∷ []) p (no_feed_digit (n % 10))) n h

-- a line: bytes without a line feed, and a line feed
pub record IsLine (l : List ℕ) : Type 0 where
  pub bytes : List ℕ
  pub fine : no_feed bytes ≡ true
  pub is : l ≡ bytes ++ 10 ∷ []

-- A line feed alone is a line.
pub feed_line : IsLine (codes "\n")
feed_line = record { bytes = []; fine = refl; is = refl }

-- Bytes without a line feed before a line are a line with it.
pub line_front : (x l : List ℕ) → no_feed x ≡ true → IsLine l → IsLine (x ++ l)
line_front x l h i = record {
  bytes = x ++ i.bytes;
  fine = no_feed_append x i.bytes h i.fine;
  is = ap (λ l. x ++ l) i.is
      ∙ sym (append_assoc x i.bytes (10 ∷ []));
}

-- all of these are lines
abbrev pub AreLines : List (List ℕ) → Type 0
AreLines [] = Unit {0}
AreLines (l ∷ ls) = IsLine l × AreLines ls

-- A text is cut at its first line feed.
pub first_split : (a rest : List ℕ) → no_feed a ≡ true → lines (a ++ 10 ∷ rest) ≡ (a ++ 10 ∷ []) ∷ lines rest
first_split [] rest h = refl
first_split (b ∷ a) rest h =
    let (p, q) = and_parts (not (nat_eq b 10)) (no_feed a) h in
    ap (λ c. if c then (b ∷ []) ∷ lines (a ++ 10 ∷ rest) else in_front b (lines (a ++ 10 ∷ rest))) (not-true (nat_eq b 10) p)
    ∙ ap (in_front b) (first_split a rest q)

-- A text that begins with a line has it as its first.
pub line_split : (l rest : List ℕ) → IsLine l → lines (l ++ rest) ≡ l ∷ lines rest
line_split l rest i =
    ap (λ l. lines (l ++ rest)) i.is ∙ ap lines (append_assoc i.bytes (10 ∷ []) rest) ∙ first_split i.bytes rest i.fine
    ∙ ap (λ t. t ∷ lines rest) (sym i.is)

-- Lines that are joined are its lines again.
pub joined_lines : (ls : List (List ℕ)) → AreLines ls → lines (joined ls) ≡ ls
joined_lines [] h = refl
joined_lines (l ∷ ls) h = line_split l (joined ls) h.0 ∙ ap (λ t. l ∷ t) (joined_lines ls h.1)
