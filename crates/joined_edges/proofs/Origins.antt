-- What a row's sources are read from: the registers of both lists, the words of the cell that was read, the innermost fork's boxes, and the
-- place of the new cell.
use Rattle.std.proofs.Common.{◌≡◌, ◌<◌, ◌≤◌, ℕ, zero, suc, ◌+◌, ◌-◌, ◌*◌, ◌/◌, ◌%◌, ◌^◌, max, Bool, true, false, cond, List, [], ◌∷◌}
use Rattle.std.proofs.Common.{length}
use Rattle.std.proofs.Common.{refl, sym, ap, subst, ◌∙◌, arith, nat_lt}
use Rattle.std.proofs.lemmas.Bool.{lt-ltb, ltb-true, and_parts}
use Rattle.std.proofs.lemmas.Nat.{mod_below, pow_pos, mul-le}
use Prim.Native.String.{String}
use Rattle.verilog_tree.specs.Tree.{plus, count, sized, name, part, pick, two}
use Rattle.verilog_tree.specs.Meaning.{Scope, Store, fit, flag, nonzero, chosen, assigned}
use Rattle.verilog_tree.proofs.Numbers.{fits, fits_twice}
use Rattle.joined_module.specs.Rows.{ForkDeed, no_fork, opens, keeps, closes, ModuleRow}
use Rattle.joined_module.specs.Names.{sig_name, box_name, word_name, fork_box_name}
use Rattle.joined_module.specs.Fields.{answers_in}
use Rattle.joined_module.specs.Module.{Widths, cell_width, fork_width}
use Rattle.joined_module.specs.Machine.{Tagged, tagged_at, RowCircuit, RowFork, innermost, base_of, answers_deed, has_cell, looked_place}
use Rattle.joined_edges.specs.Timed.{Timed}
use Rattle.joined_edges.specs.Stands.{pointer_width, pointer_number, PointerFits, InRegisters, InVector, InCell, ForkIs, Going}
use Rattle.joined_edges.proofs.Flags.{Flags}
use Rattle.joined_edges.proofs.Sources.{Reads, Wide, Origins}
pub use Rattle.joined_edges.specs.Row.{RowReads}

-- ---- lists in registers and in vectors

pub in_register : (W : Widths) (R : Store) (x : ℕ → String) (i : ℕ) (ps : List Tagged) → InRegisters W R x i ps → (j : ℕ) → j < length ps →
    Reads W R (x (i + j)) (tagged_at ps j)
in_register W R x i [] h j l = absurd (omega arith)
in_register W R x i (p ∷ ps) h zero l =
    subst (λ k. Reads W R (x k) p) (let e : i ≡ i + 0 = omega arith in e) (record { is = h.0; fit = h.1.0 })
in_register W R x i (p ∷ ps) h (suc j) l =
    subst (λ k. Reads W R (x k) (tagged_at ps j)) (let e : suc i + j ≡ i + suc j = omega arith in e)
    (in_register W R x (suc i) ps h.1.1 j (omega arith))

pub from_register : (W : Widths) (R : Store) (x : ℕ → String) (ps : List Tagged) → InRegisters W R x 0 ps → (j : ℕ) → j < length ps →
    Reads W R (x j) (tagged_at ps j)
from_register W R x ps h j l =
    subst (λ k. Reads W R (x k) (tagged_at ps j)) (let e : 0 + j ≡ j = omega arith in e) (in_register W R x 0 ps h j l)

one_more : (w j : ℕ) → w * suc j ≡ w + w * j
one_more w j = omega arith

-- each pointer of a list stands in the vector at its place, and fits
pub in_vector : (W : Widths) (v l : ℕ) (ps : List Tagged) → InVector W v l ps → (j : ℕ) → j < length ps →
    (v / 2 ^ (l + pointer_width W * j) % 2 ^ pointer_width W ≡ pointer_number W (tagged_at ps j)) × PointerFits W (tagged_at ps j)
in_vector W v l [] h j k = absurd (omega arith)
in_vector W v l (p ∷ ps) h zero k = (
  (let e : l + pointer_width W * 0 ≡ l = omega arith in ap (λ n. v / 2 ^ n % 2 ^ pointer_width W) e) ∙ h.0,
  h.1.0,
)
in_vector W v l (p ∷ ps) h (suc j) k =
    let a = in_vector W v (l + pointer_width W) ps h.1.1 j (omega arith) in (
      (let m = one_more (pointer_width W) j in
          let e : l + pointer_width W * suc j ≡ l + pointer_width W + pointer_width W * j = omega arith in
          ap (λ n. v / 2 ^ n % 2 ^ pointer_width W) e) ∙ a.0,
      a.1,
    )

-- ---- wires

-- the wires of what was read, and those of the new cell's place
pub record PlaceWires (W : Widths) (P : Scope) (R : Store) : Type 0 where
  pub words : (i : ℕ) → i < W.words → R.vec (word_name i) ≡
      assigned P R (pointer_width W) (part "cell_has" (count (pointer_width W * i + pointer_width W - 1)) (count (pointer_width W * i)))
  pub boxes : (i : ℕ) → i < W.saved → R.vec (fork_box_name i) ≡
      assigned P R (pointer_width W) (part "fork_has" (count (W.place + pointer_width W * i + pointer_width W - 1))
      (count (W.place + pointer_width W * i)))
  pub fork_top : R.vec "fork_top" ≡ assigned P R W.place (part "fork_has" (count (W.place - 1)) (count 0))
  pub base : R.vec "base" ≡ assigned P R W.place (pick (name "touches") (name "fork_top") (name "top"))
  pub next_top : R.vec "next_top" ≡ assigned P R W.place (pick (name "makes") (two plus (name "base") (sized 1 1)) (name "base"))
  pub cell_wide : P.width "cell_has" ≡ cell_width W
  pub fork_wide : P.width "fork_has" ≡ fork_width W

module _ (W : Widths) (enough : Wide W) (P : Scope) (R : Store) where
  abbrev w : ℕ
  w = pointer_width W

  some : 1 ≤ w
  some = let a = enough.some_place in omega arith

  -- a part of so many bits
  pub part_is : (x : String) (n l : ℕ) → 1 ≤ n → l + n - 1 < P.width x →
      assigned P R n (part x (count (l + n - 1)) (count l)) ≡ R.vec x / 2 ^ l % 2 ^ n
  part_is x n l o k =
      ap (λ c. fit n (chosen c (fit (suc (l + n - 1 - l)) (R.vec x / 2 ^ l)) (R.stray x (l + n - 1)))) (lt-ltb (l + n - 1) (P.width x) k)
      ∙ (let e : suc (l + n - 1 - l) ≡ n = omega arith in ap (λ m. fit n (fit m (R.vec x / 2 ^ l))) e)
      ∙ fits n (R.vec x / 2 ^ l % 2 ^ n) (mod_below (R.vec x / 2 ^ l) (2 ^ n) (pow_pos n))

  module _ (wires : PlaceWires W P R) where
    pub word_is : (f : ℕ → Tagged) → InCell W (R.vec "cell_has") f → (i : ℕ) → i < W.words → Reads W R (word_name i) (f i)
    word_is f h i l = record {
      is = wires.words i l ∙ part_is "cell_has" w (w * i) some room ∙ h.words i l;
      fit = h.fit i l;
    }
      where
        room : w * i + w - 1 < P.width "cell_has"
        room =
            let m = one_more w i in
            let k : w * suc i ≤ w * W.words = mul-le w (suc i) w W.words (omega arith) l in
            let o = some in
            let c = wires.cell_wide in
            omega arith

    pub box_is : (ps : List Tagged) → InVector W (R.vec "fork_has") W.place ps → (i : ℕ) → i < W.saved → i < length ps →
        Reads W R (fork_box_name i) (tagged_at ps i)
    box_is ps h i l k =
        let a = in_vector W (R.vec "fork_has") W.place ps h i k in
        record { is = wires.boxes i l ∙ part_is "fork_has" w (W.place + w * i) some room ∙ a.0; fit = a.1 }
      where
        room : W.place + w * i + w - 1 < P.width "fork_has"
        room =
            let m = one_more w i in
            let k : w * suc i ≤ w * W.saved = mul-le w (suc i) w W.saved (omega arith) l in
            let o = some in
            let c = wires.fork_wide in
            omega arith

    pub fork_top_is : (f : RowFork) (a : ℕ) → ForkIs W (R.vec "fork_has") a f → R.vec "fork_top" ≡ f.top
    fork_top_is f a h =
        wires.fork_top ∙ (let e : W.place - 1 ≡ 0 + W.place - 1 = omega arith in
        ap (λ n. assigned P R W.place (part "fork_has" (count n) (count 0))) e)
        ∙ part_is "fork_has" W.place 0 enough.some_place (let c = wires.fork_wide in let o = enough.some_place in omega arith)
        ∙ (let e : R.vec "fork_has" / 2 ^ 0 ≡ R.vec "fork_has" = omega arith in ap (λ n. n % 2 ^ W.place) e) ∙ h.top

    module _ (r : ModuleRow) (D : RowCircuit) (touches : R.vec "touches" ≡ flag (answers_in r.fork)) (top : R.vec "top" ≡ D.top)
        (few : D.top ≤ W.cells)
        (fork : answers_in r.fork ≡ true → (R.vec "fork_top" ≡ (innermost D.forks).top) × ((innermost D.forks).top ≤ W.cells)) where
      same_answers : (d : ForkDeed) → answers_deed d ≡ answers_in d
      same_answers no_fork = refl
      same_answers (opens l b k) = refl
      same_answers (keeps x) = refl
      same_answers closes = refl

      low : (n : ℕ) → n ≤ W.cells → n < 2 ^ W.place
      low n l = let a = enough.place in omega arith

      picks : (b : Bool) → answers_in r.fork ≡ b →
          fit W.place (chosen (nonzero (flag b)) (R.vec "fork_top") (R.vec "top")) ≡ cond b (innermost D.forks).top D.top
      picks true e = let f = fork e in ap (fit W.place) f.0 ∙ fits W.place (innermost D.forks).top (low (innermost D.forks).top f.1)
      picks false e = ap (fit W.place) top ∙ fits W.place D.top (low D.top few)

      pub base_is : R.vec "base" ≡ base_of r D
      base_is =
          wires.base ∙ ap (λ n. fit W.place (chosen (nonzero n) (R.vec "fork_top") (R.vec "top"))) touches
          ∙ picks (answers_in r.fork) refl ∙ ap (λ b. cond b (innermost D.forks).top D.top) (sym (same_answers r.fork))

      base_by : (b : Bool) → answers_in r.fork ≡ b → cond b (innermost D.forks).top D.top ≤ W.cells
      base_by true e = (fork e).1
      base_by false e = few

      pub base_low : base_of r D ≤ W.cells
      base_low = subst (λ b. cond b (innermost D.forks).top D.top ≤ W.cells) (sym (same_answers r.fork)) (base_by (answers_in r.fork) refl)

      -- the cells in use after the row, where there is room for its cell
      pub next_top_is : R.vec "makes" ≡ flag r.makes → base_of r D + flag r.makes ≤ W.cells → R.vec "next_top" ≡ base_of r D + flag r.makes
      next_top_is m l =
          let b = base_is in
          wires.next_top
          ∙ (λ i. fit W.place (chosen (nonzero (m i)) (fit wide (b i + 1)) (b i)))
          ∙ go r.makes l
        where
          wide : ℕ
          wide = max W.place (max (max (P.width "base") 1) (P.width "base"))

          go : (c : Bool) → base_of r D + flag c ≤ W.cells →
              fit W.place (chosen (nonzero (flag c)) (fit wide (base_of r D + 1)) (base_of r D)) ≡ base_of r D + flag c
          go true k = fits_twice W.place wide (base_of r D + 1) (low (base_of r D + 1) k) (omega arith)
          go false k = fits W.place (base_of r D) (low (base_of r D) (omega (arith, k))) ∙ none_more (base_of r D)
            where
              none_more : (n : ℕ) → n ≡ n + 0
              none_more n = omega arith

-- ---- of a run that goes on

module _ (rows : List ModuleRow) (W : Widths) (enough : Wide W) (P : Scope) (R : Store) (wires : PlaceWires W P R) (t : Timed)
    (r : ModuleRow)
    (going : Going rows W t R) (reads : RowReads W t r) (flags : Flags R r) where
  abbrev D : RowCircuit
  D = t.circuit

  pub innermost_is : answers_in r.fork ≡ true → ForkIs W (R.vec "fork_has") (R.vec "kept") (innermost D.forks)
  innermost_is a = let f = reads.fork a in going.innermost f.0 f.1

  top_is : answers_in r.fork ≡ true → (R.vec "fork_top" ≡ (innermost D.forks).top) × ((innermost D.forks).top ≤ W.cells)
  top_is a =
      let i = innermost_is a in (fork_top_is W enough P R wires (innermost D.forks) (R.vec "kept") i, i.low)

  pub base : R.vec "base" ≡ base_of r D
  base = base_is W enough P R wires r D flags.touches_is going.top going.few top_is

  pub base_few : base_of r D ≤ W.cells
  base_few = base_low W enough P R wires r D flags.touches_is going.top going.few top_is

  pub next_top : base_of r D + flag r.makes ≤ W.cells → R.vec "next_top" ≡ base_of r D + flag r.makes
  next_top l = next_top_is W enough P R wires r D flags.touches_is going.top going.few top_is flags.makes_is l

  pub origins : (0 < length D.sigs → P.width (sig_name 0) ≡ pointer_width W) →
      (0 < length D.boxes → P.width (box_name 0) ≡ pointer_width W) →
      Origins W r D P R
  origins sw bw = record {
    sig = from_register W R sig_name D.sigs going.sigs;
    box = from_register W R box_name D.boxes going.boxes;
    fork = λ a i l. let f = innermost_is a in box_is W enough P R wires (innermost D.forks).boxes f.boxes i
        (let k = f.short in omega arith) l;
    word = λ takes i l there.
        let (a, b) = and_parts (has_cell D.site) (nat_lt (looked_place D.site D.sigs D.boxes) D.top) there in
        word_is W enough P R wires D.read
        (going.read (reads.cell takes) a (ltb-true (looked_place D.site D.sigs D.boxes) D.top b)) i l;
    base = base;
    base_low = base_few;
    sig_wide = sw;
    box_wide = bw;
  }
