-- The memory of cells after a row, and the cell that is read for the next one.
use Rattle.std.proofs.Common.{◌≡◌, ◌<◌, ◌≤◌, ℕ, zero, suc, ◌+◌, ◌-◌, ◌*◌, ◌/◌, ◌%◌, ◌^◌, max, Bool, true, false, cond, ◌&&◌}
use Rattle.std.proofs.Common.{refl, sym, ap, subst, ◌∙◌, arith, nat_eq, nat_lt, ◌⊎◌, inl, inr, ⊎_elim}
use Rattle.std.proofs.lemmas.Bool.{lt-ltb, eq-eqb, ne_eqb, cases_eq, cases_lt}
use Rattle.std.proofs.lemmas.Nat.{mul-le}
use Prim.Native.String.{String}
use Rattle.verilog_tree.specs.Tree.{Expr, count, num, name, part, word, word_at, Stmt, skip, put, branch}
use Rattle.verilog_tree.specs.Meaning.{Scope, Store, fit, flag, nonzero, chosen, bits, value, assigned, fire, set_word}
use Rattle.verilog_tree.proofs.Numbers.{fits}
use Rattle.circuit_module.specs.Fixed.{set, block}
use Rattle.joined_module.specs.Rows.{ModuleRow}
use Rattle.joined_module.specs.Names.{sig_name, next_sig_name, box_name, next_box_name, new_word_name}
use Rattle.joined_module.specs.Module.{Widths, cell_width, pointers_above, pointers_vector, list_sets, no_room_expr, act_stmt}
use Rattle.joined_module.specs.Machine.{Tagged, tagged_at, RowCircuit, base_of, cells_after, pointers_from}
use Rattle.joined_clock.proofs.Fires.{keeps_memory, memory_same, memory_kept}
use Rattle.joined_edges.specs.Stands.{pointer_width, pointer_number, InCell}
use Rattle.joined_edges.proofs.Sources.{Wide, Reads, place_is}
use Rattle.joined_edges.proofs.Vectors.{one_more_of, Vector, vector_of, lower_bits}

-- ---- what the memory has

sets_keep : (m : String) (x y : ℕ → String) (i n : ℕ) → keeps_memory m (block (list_sets x y i n)) ≡ true
sets_keep m x y i zero = refl
sets_keep m x y i (suc zero) = refl
sets_keep m x y i (suc (suc n)) = sets_keep m x y (suc i) (suc n)

abbrev pub make_stmt : Widths → Stmt
make_stmt W = branch (name "makes") (put (word_at "cells" (name "base")) (pointers_vector new_word_name W.words)) skip

module _ (W : Widths) (P : Scope) (R : Store) where
  abbrev lists1 : Stmt
  lists1 = block (list_sets sig_name next_sig_name 0 W.sigs)

  abbrev lists2 : Stmt
  lists2 = block (list_sets box_name next_box_name 0 W.boxes)

  abbrev X3 : Store
  X3 = fire P R (set "top" (name "next_top")) (fire P R lists2 (fire P R lists1 R))

  abbrev ends_stmt : Stmt
  ends_stmt = branch (name "ends") (set "ended" (num 1)) skip

  abbrev full_stmt : Stmt
  full_stmt = branch (no_room_expr W) (set "full" (num 1)) skip

  made : (fire P R (act_stmt W) R).mem "cells" ≡ (fire P R (make_stmt W) R).mem "cells"
  made =
      memory_kept P R "cells" full_stmt refl (fire P R ends_stmt (fire P R (make_stmt W) X3))
      ∙ memory_kept P R "cells" ends_stmt refl (fire P R (make_stmt W) X3)
      ∙ memory_same P R "cells" (make_stmt W) X3 R
      (memory_kept P R "cells" lists2 (sets_keep "cells" box_name next_box_name 0 W.boxes) (fire P R lists1 R)
      ∙ memory_kept P R "cells" lists1 (sets_keep "cells" sig_name next_sig_name 0 W.sigs) R)

  abbrev pub act_now : Stmt
  act_now = branch (name "acts") (act_stmt W) skip

  pub cells_acted : R.vec "acts" ≡ 1 → (fire P R act_now R).mem "cells" ≡ (fire P R (make_stmt W) R).mem "cells"
  cells_acted e = ap (λ n. (chosen (nonzero n) (fire P R (act_stmt W) R) R).mem "cells") e ∙ made

  -- ---- the new cell

  -- wires of the new cell's words, and the memory as it is declared
  pub record CellWires : Type 0 where
    pub names : (i : ℕ) → i < W.words → (P.width (new_word_name i) ≡ pointer_width W) × (R.vec (new_word_name i) < 2 ^ pointer_width W)
    pub cells : P.width "cells" ≡ cell_width W
    pub words : P.words "cells" ≡ max 1 W.cells

  module _ (enough : Wide W) (wires : CellWires) where
    abbrev w : ℕ
    w = pointer_width W

    some : 1 ≤ w
    some = let a = enough.some_place in omega arith

    vector_cell : (n : ℕ) → ((i : ℕ) → i < n → (P.width (new_word_name i) ≡ w) × (R.vec (new_word_name i) < 2 ^ w)) →
        (f : ℕ → Tagged) → ((i : ℕ) → i < n → Reads W R (new_word_name i) (f i)) →
        (i : ℕ) → i < n →
        assigned P R (max 1 (w * n)) (pointers_vector new_word_name n) / 2 ^ (w * i) % 2 ^ w ≡ pointer_number W (f i)
    vector_cell zero names f h i l = absurd (omega arith)
    vector_cell (suc n) names f h i l =
        let a = names 0 (omega arith) in
        let u : ℕ = max (max 1 (w * suc n)) (bits P (pointers_above new_word_name 1 n (name (new_word_name 0)))) in
        let v : Vector P R w new_word_name (value P R u (pointers_above new_word_name 1 n (name (new_word_name 0)))) w
        (R.vec (new_word_name 0)) 1 n =
        vector_of P R w new_word_name n 1 w (R.vec (new_word_name 0)) (name (new_word_name 0)) a.0 a.1 (λ u. refl)
        (λ j k. names (1 + j) (omega arith)) u in
        let V : ℕ = value P R u (pointers_above new_word_name 1 n (name (new_word_name 0))) in
        let whole : fit (max 1 (w * suc n)) V ≡ V = fits (max 1 (w * suc n)) V
        (let m = one_more_of w n in let s = some in let z : w + w * n ≡ max 1 (w * suc n) = omega arith in subst
        (λ k. V < 2 ^ k) z v.low) in
        ap (λ m. m / 2 ^ (w * i) % 2 ^ w) whole ∙ at V n i l v ∙ (h i l).is
      where
        at : (V n i : ℕ) → i < suc n → Vector P R w new_word_name V w (R.vec (new_word_name 0)) 1 n →
            V / 2 ^ (w * i) % 2 ^ w ≡ R.vec (new_word_name i)
        at V n zero l v =
            (let z : w * 0 ≡ 0 = omega arith in ap (λ k. V / 2 ^ k % 2 ^ w) z)
            ∙ (let z : V / 2 ^ 0 ≡ V = omega arith in ap (λ k. k % 2 ^ w) z) ∙ v.below
        at V n (suc j) l v =
            (let m = one_more_of w j in ap (λ k. V / 2 ^ k % 2 ^ w) m) ∙ v.at j (omega arith)
            ∙ (let z : 1 + j ≡ suc j = omega arith in ap (λ k. R.vec (new_word_name k)) z)

    module _ (r : ModuleRow) (D : RowCircuit) (makes : R.vec "makes" ≡ flag r.makes) (base : R.vec "base" ≡ base_of r D)
        (below : base_of r D ≤ D.top) (room : base_of r D + flag r.makes ≤ W.cells)
        (cells : (i : ℕ) → i < D.top → InCell W (R.mem "cells" i) (D.cells i))
        (new : r.makes ≡ true → (i : ℕ) → i < W.words → Reads W R (new_word_name i) (tagged_at (pointers_from r D r.words) i)) where
      abbrev e : Expr
      e = pointers_vector new_word_name W.words

      abbrev M : ℕ → ℕ
      M = (fire P R (make_stmt W) R).mem "cells"

      new_cell : r.makes ≡ true → InCell W (assigned P R (P.width "cells") e) (tagged_at (pointers_from r D r.words))
      new_cell m = record {
        words = λ i l. ap (λ k. assigned P R k e / 2 ^ (w * i) % 2 ^ w) wires.cells
            ∙ vector_cell W.words wires.names (tagged_at (pointers_from r D r.words)) (new m) i l;
        fit = λ i l. (new m i l).fit;
      }

      -- the word at a place
      memory_at : (c : Bool) → r.makes ≡ c → (i : ℕ) → M i ≡ chosen (c && (nat_eq (base_of r D) i && nat_lt (base_of r D) (max 1 W.cells)))
          (assigned P R (P.width "cells") e) (R.mem "cells" i)
      memory_at true q i =
          ap (λ n. (chosen (nonzero n) (set_word "cells" (P.words "cells") (R.vec "base")
          (assigned P R (P.width "cells") e) R) R).mem "cells" i)
          (makes ∙ ap flag q)
          ∙ (λ p. chosen (nat_eq (base p) i && nat_lt (base p) (wires.words p)) (assigned P R (P.width "cells") e) (R.mem "cells" i))
      memory_at false q i =
          ap (λ n. (chosen (nonzero n) (set_word "cells" (P.words "cells") (R.vec "base")
          (assigned P R (P.width "cells") e) R) R).mem "cells" i)
          (makes ∙ ap flag q)

      pub cells_are : (i : ℕ) → i < base_of r D + flag r.makes → InCell W (M i) (cells_after r D i)
      cells_are i l = go r.makes refl
        where
          here : (k : ℕ) → k < base_of r D → InCell W (R.mem "cells" k) (D.cells k)
          here k h = cells k (omega arith)

          go : (c : Bool) → r.makes ≡ c → InCell W (M i) (cells_after r D i)
          go false q =
              let h : i < base_of r D = (let z : flag r.makes ≡ 0 = ap flag q in omega arith) in
              subst (λ f. InCell W (M i) f) (sym
              (ap (λ c. cond (c && nat_eq i (base_of r D)) (tagged_at (pointers_from r D r.words)) (D.cells i)) q))
              (subst (λ m. InCell W m (D.cells i)) (sym (memory_at false q i)) (here i h))
          go true q = by (cases_eq i (base_of r D))
            where
              by : (i ≡ base_of r D) ⊎ (i ≡ base_of r D → ⊥) → InCell W (M i) (cells_after r D i)
              by (inl z) =
                  let f = ap (λ c. cond (c && nat_eq i (base_of r D)) (tagged_at (pointers_from r D r.words)) (D.cells i)) q
                  ∙ ap (λ c. cond c (tagged_at (pointers_from r D r.words)) (D.cells i)) (eq-eqb i (base_of r D) z) in
                  let low : base_of r D < max 1 W.cells = (let y : flag r.makes ≡ 1 = ap flag q in omega arith) in
                  let m = memory_at true q i
                  ∙ ap (λ c. chosen (c && nat_lt (base_of r D) (max 1 W.cells)) (assigned P R (P.width "cells") e) (R.mem "cells" i))
                  (eq-eqb (base_of r D) i (sym z))
                  ∙ ap (λ c. chosen c (assigned P R (P.width "cells") e) (R.mem "cells" i)) (lt-ltb (base_of r D) (max 1 W.cells) low) in
                  subst (λ g. InCell W (M i) g) (sym f)
                  (subst (λ v. InCell W v (tagged_at (pointers_from r D r.words))) (sym m) (new_cell q))
              by (inr d) =
                  let f = ap (λ c. cond (c && nat_eq i (base_of r D)) (tagged_at (pointers_from r D r.words)) (D.cells i)) q
                  ∙ ap (λ c. cond c (tagged_at (pointers_from r D r.words)) (D.cells i)) (ne_eqb i (base_of r D) d) in
                  let m = memory_at true q i
                  ∙ ap (λ c. chosen (c && nat_lt (base_of r D) (max 1 W.cells)) (assigned P R (P.width "cells") e) (R.mem "cells" i))
                  (ne_eqb (base_of r D) i (λ z. d (sym z))) in
                  let h : i < base_of r D = (let y : flag r.makes ≡ 1 = ap flag q in less d) in
                  subst (λ g. InCell W (M i) g) (sym f) (subst (λ v. InCell W v (D.cells i)) (sym m) (here i h))
                where
                  less : (i ≡ base_of r D → ⊥) → i < base_of r D
                  less d = ⊎_elim (λ z. z) (λ z. absurd (d (let y : flag r.makes ≡ 1 = ap flag q in omega arith)))
                      (cases_lt i (base_of r D))

    -- ---- the cell that is read

    cell_cut : (v : ℕ) (f : ℕ → Tagged) → InCell W v f → InCell W (v % 2 ^ cell_width W) f
    cell_cut v f h = record {
      words = λ i l. lower_bits v (cell_width W) (w * i) w
          (let m = one_more_of w i in let k : w * suc i ≤ w * W.words = mul-le w (suc i) w W.words (omega arith) l in omega arith)
          ∙ h.words i l;
      fit = h.fit;
    }

    -- what is looked at is read, where it is a cell in use
    pub cell_read : P.width "looked" ≡ w → P.width "cell_has" ≡ cell_width W → (q : Tagged) → Reads W R "looked" q → (f : ℕ → Tagged) →
        q.place < W.cells → InCell W (R.mem "cells" q.place) f →
        InCell W (assigned P R (P.width "cell_has") (word "cells" (part "looked" (count (W.place + W.tag - 1)) (count W.tag)))) f
    cell_read lw cw q h f l c =
        let i : Expr = part "looked" (count (W.place + W.tag - 1)) (count W.tag) in
        let at = place_is W enough P R "looked" q (bits P i) h lw in
        let whole : assigned P R (P.width "cell_has") (word "cells" i) ≡ R.mem "cells" q.place % 2 ^ cell_width W =
        (λ p. fit (cw p) (chosen (nat_lt (at p) (wires.words p)) (R.mem "cells" (at p)) (R.stray "cells" (at p))))
        ∙ ap (λ b. fit (cell_width W) (chosen b (R.mem "cells" q.place) (R.stray "cells" q.place)))
        (lt-ltb q.place (max 1 W.cells) (omega arith)) in
        subst (λ v. InCell W v f) (sym whole) (cell_cut (R.mem "cells" q.place) f c)
