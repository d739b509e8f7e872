-- The first line of a text, by its length.
use Rattle.std.proofs.Common.{◌≡◌, ℕ, suc, ◌<◌, ◌≤◌, Bool, true, false, List, [], ◌∷◌, length, take, drop, refl}
use Rattle.std.proofs.Common.{sym, ap, ◌∙◌, arith}
use Rattle.std.specs.Prelude.{nat_eq, if◌then◌else◌}
use Rattle.text_lines.specs.Lines.{in_front, lines}
use Rattle.text_lines.specs.Scanning.{first_length}

-- one byte more in front
line_at : (c : Bool) (b : ℕ) (bs : List ℕ) → (0 < length bs → lines bs ≡ take (first_length bs) bs ∷
    lines (drop (first_length bs) bs)) →
    (if c then (b ∷ []) ∷ lines bs else in_front b (lines bs)) ≡ take (if c then 1
    else suc (first_length bs)) (b ∷ bs) ∷ lines (drop (if c then 1 else suc (first_length bs)) (b ∷ bs))
line_at true b bs h = refl
line_at false b [] h = refl
line_at false b (d ∷ bs) h = ap (in_front b) (h (omega arith))

-- The first line of a text, by its length.
pub first_line : (bs : List ℕ) → 0 < length bs → lines bs ≡ take (first_length bs) bs ∷ lines (drop (first_length bs) bs)
first_line [] u = absurd (omega (arith, u))
first_line (b ∷ bs) u = line_at (nat_eq b 10) b bs (first_line bs)

-- A text is cut behind its first line.
pub first_cut : (bytes line rest : List ℕ) (k : ℕ) → 0 < length bytes → k ≡ first_length bytes → line ≡ take k bytes →
    rest ≡ drop k bytes → lines bytes ≡ line ∷ lines rest
first_cut bytes line rest k u e f g =
    let h : take k bytes ≡ take (first_length bytes) bytes = ap (λ k. take k bytes) e in
    let i : drop k bytes ≡ drop (first_length bytes) bytes = ap (λ k. drop k bytes) e in
    first_line bytes u ∙ (λ j. sym (f ∙ h) j ∷ lines (sym (g ∙ i) j))

-- a first line of one byte or more
step_some : (c : Bool) (n : ℕ) → 1 ≤ (if c then 1 else suc n)
step_some true n = omega arith
step_some false n = omega arith

-- A first line has a byte.
pub first_shorter : (bs : List ℕ) → 0 < length bs → 1 ≤ first_length bs
first_shorter [] u = absurd (omega (arith, u))
first_shorter (b ∷ bs) u = step_some (nat_eq b 10) (first_length bs)
