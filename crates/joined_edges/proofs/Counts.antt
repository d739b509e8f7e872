-- The count of moves: its lower half at an edge, and a carry into its upper half at the next one.
use Rattle.std.proofs.Common.{◌≡◌, ◌<◌, ◌≤◌, ℕ, zero, suc, ◌+◌, ◌*◌, ◌/◌, ◌%◌, ◌^◌, max, Bool, true, false, cond, ◌&&◌, List, [], ◌∷◌}
use Rattle.std.proofs.Common.{refl, ap, sym}
use Rattle.std.proofs.Common.{◌∙◌, subst, arith}
use Rattle.verilog_tree.specs.Tree.{count, plus, num, sized, name, bit, part, cat, two, Item, output, reg, wire}
use Rattle.verilog_tree.specs.Tree.{one, upto}
use Rattle.verilog_tree.specs.Meaning.{Store, Scope, flag, fit, nonzero, chosen, fire}
use Rattle.verilog_tree.specs.Laws.{Rests}
use Rattle.verilog_tree.proofs.Numbers.{fits_twice}
use Rattle.late_unit.specs.Works.{Declared}
use Rattle.late_unit.proofs.Over.{over, over_is}
use Rattle.joined_module.specs.Module.{count_stmt}
use Rattle.joined_edges.proofs.Flags.{by_flag}

-- the wires of the count
abbrev pub moves_wires : List Item
moves_wires =
    wire (upto (count 8)) "moves_low" (two plus (cat (sized 1 0) (part "moves" (count 7) (count 0))) (name "counts")) ∷
    wire (upto (count 24)) "moves_middle"
    (two plus (cat (sized 1 0) (part "moves" (count 31) (count 8))) (cat (sized 24 0) (bit "moves_low" (num 8)))) ∷
    wire (upto (count 31)) "moves_high" (two plus (part "moves" (count 63) (count 32)) (cat (sized 31 0) (name "carried"))) ∷ []

abbrev pub moves_items : List Item
moves_items = output (upto (count 63)) "moves" ∷ reg one "carried" ∷ moves_wires

-- ---- numbers

-- the upper half, with a carry
high_half : (n k : ℕ) → fit 32 (fit 32 (fit 32 (n / 2 ^ 32) + (0 * 2 ^ 1 + k))) ≡ (n / 2 ^ 32 + k) % 2 ^ 32
high_half n k = omega arith

bit_flag : (n : ℕ) → n < 2 → fit 1 (flag (nonzero n)) ≡ n
bit_flag zero l = refl
bit_flag (suc zero) l = refl
bit_flag (suc (suc n)) l = absurd (omega arith)

-- the lower half with the row's moves, and the carry out of it
low_middle : (m c : ℕ) → c < 256 →
    let l : ℕ = m % 2 ^ 8 + c in
    let d : ℕ = m / 2 ^ 8 % 2 ^ 24 + l / 2 ^ 8 % 2 in
    d % 2 ^ 24 * 2 ^ 8 + l % 2 ^ 8 + 2 ^ 32 * (d / 2 ^ 24 % 2) ≡ m % 2 ^ 32 + c
low_middle m c h = omega arith

-- both halves
both_halves : (m k h l c d : ℕ) → m < 2 ^ 64 → h ≡ (m / 2 ^ 32 + k) % 2 ^ 32 → l + 2 ^ 32 * d ≡ m % 2 ^ 32 + c → l < 2 ^ 32 →
    (h * 2 ^ 32 + l + 2 ^ 32 * d) % 2 ^ 64 ≡ (m + 2 ^ 32 * k + c) % 2 ^ 64
both_halves m k h l c d s e f g = omega arith

more : (a b c : ℕ) → a % 2 ^ 64 ≡ b % 2 ^ 64 → (a + c) % 2 ^ 64 ≡ (b + c) % 2 ^ 64
more a b c e = omega arith

-- ---- an edge

module _ (P0 : Scope) (R : Store) (α : Bool) (c : ℕ) (acts : R.vec "acts" ≡ flag α) (counts : R.vec "counts" ≡ c) (few : c < 256)
    (low : R.vec "moves" < 2 ^ 64) where
  abbrev P : Scope
  P = over moves_items P0

  abbrev m : ℕ
  m = R.vec "moves"

  abbrev k : ℕ
  k = R.vec "carried"

  abbrev lower : ℕ
  lower = m % 2 ^ 8 + c

  abbrev middle : ℕ
  middle = m / 2 ^ 8 % 2 ^ 24 + lower / 2 ^ 8 % 2

  abbrev E : Store
  E = fire P R count_stmt R

  module _ (r : Rests P moves_wires R) where
    lower_is : R.vec "moves_low" ≡ lower
    lower_is =
        r.0 ∙ (λ i. fit 9 (fit (max 9 (max 9 (P.width "counts"))) (0 * 2 ^ 8 + fit 8 (m / 2 ^ 0) + counts i)))
        ∙ cut (max 9 (max 9 (P.width "counts"))) (omega arith)
      where
        small : (n c : ℕ) → c < 256 → 0 * 2 ^ 8 + fit 8 (n / 2 ^ 0) + c < 2 ^ 9
        small n c l = omega arith

        same : (n c : ℕ) → 0 * 2 ^ 8 + fit 8 (n / 2 ^ 0) + c ≡ n % 2 ^ 8 + c
        same n c = omega arith

        cut : (w : ℕ) → 9 ≤ w → fit 9 (fit w (0 * 2 ^ 8 + fit 8 (m / 2 ^ 0) + c)) ≡ lower
        cut w l = fits_twice 9 w (0 * 2 ^ 8 + fit 8 (m / 2 ^ 0) + c) (small m c few) l ∙ same m c

    middle_is : R.vec "moves_middle" ≡ middle
    middle_is =
        let e = lower_is in
        r.1.0 ∙ (λ i. fit 25 (fit 25 (0 * 2 ^ 24 + fit 24 (m / 2 ^ 8) + (0 * 2 ^ 1 + e i / 2 ^ 8 % 2)))) ∙ small m lower
      where
        small : (n l : ℕ) → fit 25 (fit 25 (0 * 2 ^ 24 + fit 24 (n / 2 ^ 8) + (0 * 2 ^ 1 + l / 2 ^ 8 % 2))) ≡
            n / 2 ^ 8 % 2 ^ 24 + l / 2 ^ 8 % 2
        small n l = omega arith

    higher_is : R.vec "moves_high" ≡ (m / 2 ^ 32 + k) % 2 ^ 32
    higher_is = r.1.1.0 ∙ high_half m k

    carried_is : E.vec "carried" ≡ fit 1 (flag (α && nonzero (middle / 2 ^ 24 % 2)))
    carried_is =
        let e = middle_is in
        let a = by_flag (R.vec "acts") α acts in λ i. fit 1 (flag (a i && nonzero (e i / 2 ^ 24 % 2)))

    moves_is : E.vec "moves" ≡
        fit 64 ((m / 2 ^ 32 + k) % 2 ^ 32 * 2 ^ 32 + cond α (fit 24 (middle / 2 ^ 0) * 2 ^ 8 + fit 8 (lower / 2 ^ 0)) (fit 32 (m / 2 ^ 0)))
    moves_is =
        let l = lower_is in
        let d = middle_is in
        let h = higher_is in
        (λ i. fit 64 (h i * 2 ^ 32 + chosen (nonzero (acts i)) (fit 24 (d i / 2 ^ 0) * 2 ^ 8 + fit 8 (l i / 2 ^ 0)) (fit 32 (m / 2 ^ 0))))
        ∙ go α
      where
        go : (b : Bool) → fit 64 ((m / 2 ^ 32 + k) % 2 ^ 32 * 2 ^ 32 + chosen (nonzero (flag b))
            (fit 24 (middle / 2 ^ 0) * 2 ^ 8 + fit 8 (lower / 2 ^ 0)) (fit 32 (m / 2 ^ 0))) ≡
            fit 64 ((m / 2 ^ 32 + k) % 2 ^ 32 * 2 ^ 32 + cond b (fit 24 (middle / 2 ^ 0) * 2 ^ 8 + fit 8 (lower / 2 ^ 0))
            (fit 32 (m / 2 ^ 0)))
        go true = refl
        go false = refl

-- the count behind the edge
pub record Counted (d : ℕ) (T : Store) : Type 0 where
  pub moves : (T.vec "moves" + 2 ^ 32 * T.vec "carried") % 2 ^ 64 ≡ d % 2 ^ 64
  pub low : T.vec "moves" < 2 ^ 64
  pub carried : T.vec "carried" ≤ 1

abbrev counted_by : Bool → ℕ → ℕ
counted_by b c = cond b c 0

carry_low : (n : ℕ) → n % 2 < 2
carry_low n = omega arith

flag_low : (b : Bool) → fit 1 (flag b) ≤ 1
flag_low true = omega arith
flag_low false = omega arith

-- the register and its carry make the count and the row's moves, where a row is made
moves_on : (α : Bool) (m k c d e : ℕ) → m < 2 ^ 64 → c < 256 → (m + 2 ^ 32 * k) % 2 ^ 64 ≡ d % 2 ^ 64 →
    let l : ℕ = m % 2 ^ 8 + c in
    let q : ℕ = m / 2 ^ 8 % 2 ^ 24 + l / 2 ^ 8 % 2 in
    e ≡ fit 1 (flag (α && nonzero (q / 2 ^ 24 % 2))) →
    (fit 64 ((m / 2 ^ 32 + k) % 2 ^ 32 * 2 ^ 32 + cond α (fit 24 (q / 2 ^ 0) * 2 ^ 8 + fit 8 (l / 2 ^ 0)) (fit 32 (m / 2 ^ 0)))
    + 2 ^ 32 * e) % 2 ^ 64 ≡ (d + counted_by α c) % 2 ^ 64
moves_on false m k c d e low few counted carry = omega arith
moves_on true m k c d e low few counted carry =
    let l : ℕ = m % 2 ^ 8 + c in
    let q : ℕ = m / 2 ^ 8 % 2 ^ 24 + l / 2 ^ 8 % 2 in
    let x = bit_flag (q / 2 ^ 24 % 2) (carry_low (q / 2 ^ 24)) in
    plain (q % 2 ^ 24 * 2 ^ 8 + l % 2 ^ 8) (q / 2 ^ 24 % 2) e ((m / 2 ^ 32 + k) % 2 ^ 32) (low_middle m c few) (carry ∙ x) (small q l)
    (cut q l)
    ∙ both_halves m k ((m / 2 ^ 32 + k) % 2 ^ 32) (q % 2 ^ 24 * 2 ^ 8 + l % 2 ^ 8) c (q / 2 ^ 24 % 2) low refl (low_middle m c few)
    (small q l)
    ∙ more (m + 2 ^ 32 * k) d c counted
  where
    small : (q l : ℕ) → q % 2 ^ 24 * 2 ^ 8 + l % 2 ^ 8 < 2 ^ 32
    small q l = omega arith

    cut : (q l : ℕ) → fit 24 (q / 2 ^ 0) * 2 ^ 8 + fit 8 (l / 2 ^ 0) ≡ q % 2 ^ 24 * 2 ^ 8 + l % 2 ^ 8
    cut q l = omega arith

    plain : (n y e h : ℕ) → n + 2 ^ 32 * y ≡ m % 2 ^ 32 + c → e ≡ y → n < 2 ^ 32 →
        fit 24 ((m / 2 ^ 8 % 2 ^ 24 + (m % 2 ^ 8 + c) / 2 ^ 8 % 2) / 2 ^ 0) * 2 ^ 8 + fit 8 ((m % 2 ^ 8 + c) / 2 ^ 0) ≡ n →
        (fit 64 (h * 2 ^ 32 + (fit 24 ((m / 2 ^ 8 % 2 ^ 24 + (m % 2 ^ 8 + c) / 2 ^ 8 % 2) / 2 ^ 0) * 2 ^ 8
        + fit 8 ((m % 2 ^ 8 + c) / 2 ^ 0))) + 2 ^ 32 * e) % 2 ^ 64 ≡ (h * 2 ^ 32 + n + 2 ^ 32 * y) % 2 ^ 64
    plain n y e h a b s z =
        (λ i. (fit 64 (h * 2 ^ 32 + z i) + 2 ^ 32 * b i) % 2 ^ 64) ∙ last n y h
      where
        last : (n y h : ℕ) → (fit 64 (h * 2 ^ 32 + n) + 2 ^ 32 * y) % 2 ^ 64 ≡ (h * 2 ^ 32 + n + 2 ^ 32 * y) % 2 ^ 64
        last n y h = omega arith

-- with the row's moves, where it is made
pub counts_on : (P : Scope) (R T : Store) (α : Bool) (c d : ℕ) → Declared P moves_items → Rests P moves_wires R → R.vec "acts" ≡ flag α →
    R.vec "counts" ≡ c → c < 256 → R.vec "moves" < 2 ^ 64 → (R.vec "moves" + 2 ^ 32 * R.vec "carried") % 2 ^ 64 ≡ d % 2 ^ 64 →
    T.vec "moves" ≡ (fire P R count_stmt R).vec "moves" → T.vec "carried" ≡ (fire P R count_stmt R).vec "carried" →
    Counted (d + counted_by α c) T × (α ≡ false → T.vec "carried" ≡ 0)
counts_on P R T α c d declared rests acts counts few low h em ec = (
  record {
    moves = ap (λ n. (n + 2 ^ 32 * T.vec "carried") % 2 ^ 64) e
        ∙ moves_on α (R.vec "moves") (R.vec "carried") c d (T.vec "carried") low few h g;
    low = subst (λ n. n < 2 ^ 64) (sym e) (small _);
    carried = subst (λ n. n ≤ 1) (sym g) (flag_low _);
  },
  λ z. g ∙ ap (λ b. fit 1 (flag (b && nonzero
      ((R.vec "moves" / 2 ^ 8 % 2 ^ 24 + (R.vec "moves" % 2 ^ 8 + c) / 2 ^ 8 % 2) / 2 ^ 24 % 2)))) z,
)
  where
    same : over moves_items P ≡ P
    same = over_is P moves_items declared

    r : Rests (over moves_items P) moves_wires R
    r = subst (λ X. Rests X moves_wires R) (sym same) rests

    e : T.vec "moves" ≡ fit 64 ((R.vec "moves" / 2 ^ 32 + R.vec "carried") % 2 ^ 32 * 2 ^ 32 + cond α
        (fit 24 ((R.vec "moves" / 2 ^ 8 % 2 ^ 24 + (R.vec "moves" % 2 ^ 8 + c) / 2 ^ 8 % 2) / 2 ^ 0) * 2 ^ 8
        + fit 8 ((R.vec "moves" % 2 ^ 8 + c) / 2 ^ 0)) (fit 32 (R.vec "moves" / 2 ^ 0)))
    e = em ∙ ap (λ X. (fire X R count_stmt R).vec "moves") (sym same) ∙ moves_is P R α c acts counts few low r

    g : T.vec "carried" ≡
        fit 1 (flag (α && nonzero ((R.vec "moves" / 2 ^ 8 % 2 ^ 24 + (R.vec "moves" % 2 ^ 8 + c) / 2 ^ 8 % 2) / 2 ^ 24 % 2)))
    g = ec ∙ ap (λ X. (fire X R count_stmt R).vec "carried") (sym same) ∙ carried_is P R α c acts counts few low r

    small : (n : ℕ) → fit 64 n < 2 ^ 64
    small n = omega arith

-- where no row is made it stays, whatever the row's registers are
pub counts_off : (P : Scope) (R T : Store) (d : ℕ) → Declared P moves_items → Rests P moves_wires R → R.vec "acts" ≡ 0 →
    R.vec "moves" < 2 ^ 64 → (R.vec "moves" + 2 ^ 32 * R.vec "carried") % 2 ^ 64 ≡ d % 2 ^ 64 →
    T.vec "moves" ≡ (fire P R count_stmt R).vec "moves" → T.vec "carried" ≡ (fire P R count_stmt R).vec "carried" →
    Counted d T × (T.vec "carried" ≡ 0)
counts_off P R T d declared rests acts low h em ec = (
  record {
    moves = (λ i. (e i + 2 ^ 32 * g i) % 2 ^ 64) ∙ stays (R.vec "moves") (R.vec "carried") low h;
    low = subst (λ n. n < 2 ^ 64) (sym e)
        (small ((R.vec "moves" / 2 ^ 32 + R.vec "carried") % 2 ^ 32 * 2 ^ 32 + fit 32 (R.vec "moves" / 2 ^ 0)));
    carried = subst (λ n. n ≤ 1) (sym g) (omega arith);
  },
  g,
)
  where
    same : over moves_items P ≡ P
    same = over_is P moves_items declared

    r : Rests (over moves_items P) moves_wires R
    r = subst (λ X. Rests X moves_wires R) (sym same) rests

    high : R.vec "moves_high" ≡ (R.vec "moves" / 2 ^ 32 + R.vec "carried") % 2 ^ 32
    high = r.1.1.0 ∙ high_half (R.vec "moves") (R.vec "carried")

    e : T.vec "moves" ≡ fit 64 ((R.vec "moves" / 2 ^ 32 + R.vec "carried") % 2 ^ 32 * 2 ^ 32 + fit 32 (R.vec "moves" / 2 ^ 0))
    e = em ∙ ap (λ X. (fire X R count_stmt R).vec "moves") (sym same)
        ∙ (λ i. fit 64 (high i * 2 ^ 32 + chosen (nonzero (acts i))
        (fit 24 (R.vec "moves_middle" / 2 ^ 0) * 2 ^ 8 + fit 8 (R.vec "moves_low" / 2 ^ 0)) (fit 32 (R.vec "moves" / 2 ^ 0))))

    g : T.vec "carried" ≡ 0
    g = ec ∙ ap (λ X. (fire X R count_stmt R).vec "carried") (sym same)
        ∙ (λ i. fit 1 (flag (nonzero (acts i) && nonzero (R.vec "moves_middle" / 2 ^ 24 % 2))))

    stays : (m k : ℕ) → m < 2 ^ 64 → (m + 2 ^ 32 * k) % 2 ^ 64 ≡ d % 2 ^ 64 →
        (fit 64 ((m / 2 ^ 32 + k) % 2 ^ 32 * 2 ^ 32 + fit 32 (m / 2 ^ 0)) + 2 ^ 32 * 0) % 2 ^ 64 ≡ d % 2 ^ 64
    stays m k s f = omega arith

    small : (n : ℕ) → fit 64 n < 2 ^ 64
    small n = omega arith
