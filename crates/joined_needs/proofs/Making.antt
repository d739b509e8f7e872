-- What a row makes.
use Rattle.std.proofs.Common.{◌≡◌, ◌≤◌, ◌+◌, ◌^◌, ℕ, zero, suc, Bool, true, false, ◌&&◌, List, refl, sym, ap, ◌∙◌, arith, Vec}
use Rattle.std.specs.Prelude.{max, nat_eq, if◌then◌else◌}
use Rattle.std.proofs.Math.Path.{fun_ext}
use Rattle.std.specs.declared.alloc.Global.{Global}
use Rattle.pcf_values.specs.declared.val.Val.{Val}
use Rattle.verilog_tree.specs.Meaning.{flag}
use Rattle.circuit_module.specs.Sizes.{bits_for}
use Rattle.circuit_module.proofs.Sizes.{enough_bits}
use Rattle.joined_module.specs.Rows.{ModuleRow}
use Rattle.joined_module.specs.Machine.{Tagged, tagged_at, RowFork, RowCircuit, looked_place, base_of, pointers_from}
use Rattle.joined_module.specs.Machine.{worth_value, forks_after, cells_after, row_makes}
use Rattle.joined_needs.specs.Views.{pointers_of, cell_at, words_of, forks_of, cells_of, held_of}
use Rattle.joined_needs.specs.Making.{forked, Makes}
use Rattle.joined_needs.specs.declared.walk.Pointer.{Pointer}
use Rattle.joined_needs.specs.declared.walk.Held.{Held}
use Rattle.joined_needs.specs.declared.makes.Made.{Made}

-- ---- the bits of a number that isn't 0

pub some_bits : (n : ℕ) → (n ≡ 0 → ⊥) → max 1 (bits_for (suc n)) ≡ bits_for (suc n)
some_bits n h = go (bits_for (suc n)) (enough_bits (suc n))
  where
    go : (b : ℕ) → suc n ≤ 2 ^ b → max 1 b ≡ b
    go zero l = absurd (h (omega (arith, l)))
    go (suc b) l = omega arith

-- ---- the circuit after a row

abbrev put : ModuleRow → RowCircuit → Val → List Tagged → List Tagged → (ℕ → ℕ → Tagged) → ℕ → List RowFork → RowCircuit
put r D v ss bs cells n fs = record {
  key = r.to;
  site = r.site;
  value = v;
  sigs = ss;
  boxes = bs;
  read = cells (looked_place r.site ss bs);
  cells = cells;
  top = n;
  forks = fs;
  ended = r.ends;
  full = D.full;
  moves = D.moves + r.moves;
}

pub is_put : (ps : ℕ → ℕ) (r : ModuleRow) (D : RowCircuit) (v : Val) (ss bs : List Tagged) (cells : ℕ → ℕ → Tagged) (n : ℕ)
    (fs : List RowFork) → v ≡ worth_value ps D r.worth → ss ≡ pointers_from r D r.sigs → bs ≡ pointers_from r D r.boxes →
    cells ≡ cells_after r D → n ≡ base_of r D + flag r.makes → fs ≡ forks_after ps r D r.fork →
    put r D v ss bs cells n fs ≡ row_makes ps r D
is_put ps r D v ss bs cells n fs a b c d e f = rw (a, b, c, d, e, f) refl

-- the words of its cell
pub cells_put : (r : ModuleRow) (D : RowCircuit) (words : Vec Pointer Global) (base : ℕ) (old new : List (List Tagged)) →
    D.cells ≡ words_of old → pointers_of words ≡ pointers_from r D r.words → base ≡ base_of r D →
    ((j : ℕ) → cell_at new j ≡ (if r.makes && nat_eq j base then pointers_of words else cell_at old j)) →
    words_of new ≡ cells_after r D
cells_put r D words base old new was is at e = fun_ext (λ j. ap tagged_at (e j) ∙ go j (r.makes && nat_eq j base) refl)
  where
    go : (j : ℕ) (b : Bool) → (r.makes && nat_eq j base) ≡ b →
        tagged_at (if b then pointers_of words else cell_at old j) ≡ cells_after r D j
    go j b q =
        pick b ∙ ap (λ c. if c then tagged_at (pointers_from r D r.words) else D.cells j)
        (sym q ∙ ap (λ n. r.makes && nat_eq j n) at)
      where
        pick : (b : Bool) → tagged_at (if b then pointers_of words else cell_at old j)
            ≡ (if b then tagged_at (pointers_from r D r.words) else D.cells j)
        pick true = ap tagged_at is
        pick false = ap (λ f. f j) (sym was)

-- what a row makes, put into the circuit
pub made_put : (ps : ℕ → ℕ) (r : ModuleRow) (h : Held) (m : Made) → Makes ps r (held_of h) m → (top : ℕ) → top ≡ m.base + flag r.makes →
    (new : List (List Tagged)) →
    ((j : ℕ) → cell_at new j ≡ (if r.makes && nat_eq j m.base then pointers_of m.words else cell_at (cells_of h.cells.items) j)) →
    (forks : List RowFork) → forks ≡ forked m.forking m.base top (forks_of h.forks.items) →
    put r (held_of h) m.value (pointers_of m.sigs) (pointers_of m.boxes) (words_of new) top forks ≡ row_makes ps r (held_of h)
made_put ps r h m k top t new c forks f =
    let D = held_of h in
    let n : top ≡ base_of r D + flag r.makes = t ∙ ap (λ b. b + flag r.makes) k.base in
    is_put ps r D m.value (pointers_of m.sigs) (pointers_of m.boxes) (words_of new) top forks k.value k.sigs k.boxes
    (cells_put r D m.words m.base (cells_of h.cells.items) new refl k.words k.base c) n
    (f ∙ ap (λ b. forked m.forking b top D.forks) k.base ∙ ap (λ n. forked m.forking (base_of r D) n D.forks) n ∙ k.forks)
