-- Pointers of names that aren't given, and numbers that are ports.
use Rattle.std.proofs.Common.{◌≡◌, ◌∙◌, ◌<◌, ◌≤◌, ◌+◌, ◌-◌, ◌^◌, ℕ, refl, ap, arith}
use Rattle.std.specs.Prelude.{if◌then◌else◌}
use Rattle.std.proofs.lemmas.Bool.{lt-ltb, le-ltb}
use Rattle.joined_rows.specs.Open.{Term, a_star}
use Rattle.joined_core.specs.Rows.{Site, nowhere, on_sigs, on_boxes, on_value, a_part}
use Rattle.joined_module.specs.Rows.{from_none, first_from, number_operand, a_literal, a_port}

-- `*` has no cell, wherever it is looked for
pub star_part : (tag : Term → ℕ) (w : Site) → first_from tag w (a_part a_star) ≡ from_none (tag a_star)
star_part tag nowhere = refl
star_part tag on_sigs = refl
star_part tag on_boxes = refl
star_part tag on_value = refl

-- a number of 64 bits is a number
pub literal_operand : (n : ℕ) → n < 2 ^ 64 → number_operand n ≡ a_literal n
literal_operand n h = ap (λ b. if b then a_literal n else a_port (n - 2 ^ 64)) (lt-ltb n (2 ^ 64) h)

-- and one above them is a port's
pub port_operand : (i : ℕ) → number_operand (2 ^ 64 + i) ≡ a_port i
port_operand i =
    let least : 2 ^ 64 ≤ 2 ^ 64 + i = omega arith in
    let same : 2 ^ 64 + i - 2 ^ 64 ≡ i = omega arith in
    ap (λ b. if b then a_literal (2 ^ 64 + i) else a_port (2 ^ 64 + i - 2 ^ 64)) (le-ltb (2 ^ 64 + i) (2 ^ 64) least) ∙ ap a_port same
