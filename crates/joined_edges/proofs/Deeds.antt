-- The open forks after an edge: their memories, how many there are, and what was read of the innermost one.
use Rattle.std.proofs.Common.{◌≡◌, ◌<◌, ◌≤◌, ℕ, suc, ◌+◌, ◌-◌, ◌*◌, ◌^◌, max, Bool, true, false, not, ◌&&◌, ◌||◌, List, [], ◌∷◌}
use Rattle.std.proofs.Common.{if◌then◌else◌, length, Option, Some, None, refl, sym, ap, subst, ◌∙◌, arith, nat_eq, nat_lt}
use Rattle.std.proofs.lemmas.Bool.{and_right, lt-ltb, eq-eqb, ne_eqb}
use Rattle.std.proofs.lemmas.Nat.{mod_low, mul-le}
use Rattle.std.proofs.Math.Nat.{pow-le-pow_right}
use Prim.Native.String.{String}
use Rattle.pcf_values.specs.declared.val.Val.{Val}
use Rattle.verilog_tree.specs.Tree.{plus, minus, both, one_of, whole, word_at, Expr, sized, name, word, two, pick, logic, none}
use Rattle.verilog_tree.specs.Meaning.{Scope, Store, fit, flag, nonzero, chosen, bits, value, assigned, write, fire}
use Rattle.verilog_tree.proofs.Numbers.{fits}
use Rattle.circuit_module.specs.Stands.{value_number, Small}
use Rattle.circuit_module.proofs.Values.{value_low}
use Rattle.joined_module.specs.Rows.{From, Operand, opens, ModuleRow}
use Rattle.joined_module.specs.Names.{open_box_name}
use Rattle.joined_module.specs.Fields.{opens_fork, opens_above, is_kept, kept_operand, closes_fork}
use Rattle.joined_module.specs.Module.{Widths, fork_width, pointers_above, open_stmt, fork_stmt}
use Rattle.joined_module.specs.Machine.{RowCircuit, RowFork, innermost, around, base_of, pointers_from, operand_value}
use Rattle.joined_module.specs.Machine.{operand_option, is_open}
use Rattle.joined_edges.specs.Stands.{pointer_width, InRegisters, InVector, ForkIs, InForks}
use Rattle.joined_edges.proofs.Sources.{Wide}
use Rattle.joined_edges.proofs.Flags.{Flags}
use Rattle.joined_edges.proofs.Origins.{from_register}
use Rattle.joined_edges.proofs.Vectors.{Vector, vector_of, in_vector_of, lowest_bits, vector_cut}

-- ---- numbers

two_at_least : (w : ℕ) → 1 ≤ w → 2 ≤ 2 ^ w
two_at_least w l = let up : 2 ^ 1 ≤ 2 ^ w = pow-le-pow_right (omega arith) l in omega arith

-- one less, of so many bits
minus_one : (w d : ℕ) → 1 ≤ w → 1 ≤ d → d < 2 ^ w → fit w (2 ^ w + d - fit w 1) ≡ d - 1
minus_one w d s l k =
    let h = two_at_least w s in
    ap (λ n. fit w (2 ^ w + d - n)) (fits w 1 (omega arith))
    ∙ (let z : 2 ^ w + d - 1 ≡ 1 * 2 ^ w + (d - 1) = omega arith in ap (fit w) z) ∙ mod_low 1 w (d - 1) (omega arith)

plus_one : (w d : ℕ) → 1 ≤ w → suc d < 2 ^ w → fit w (d + fit w 1) ≡ suc d
plus_one w d s k =
    let h = two_at_least w s in
    ap (λ n. fit w (d + n)) (fits w 1 (omega arith)) ∙ (let z : d + 1 ≡ suc d = omega arith in ap (fit w) z) ∙ fits w (suc d) k

-- ---- wires

pub record ForkWires (W : Widths) (P : Scope) (R : Store) : Type 0 where
  pub innermost : R.vec "innermost" ≡ assigned P R W.depth (two minus (name "depth") (sized W.depth 1))
  pub around : R.vec "around" ≡ assigned P R W.depth (two minus (name "innermost") (sized W.depth 1))
  pub reads_fork : R.vec "reads_fork" ≡
      assigned P R W.depth (pick (logic both (name "closes") (none (name "fresh"))) (name "around") (name "innermost"))
  pub keeps_at : R.vec "keeps_at" ≡ assigned P R W.depth (pick (name "opens") (name "depth") (name "innermost"))
  pub saved_top : R.vec "saved_top" ≡ assigned P R W.place (pick (name "above") (name "next_top") (name "base"))
  pub depth_wide : P.width "depth" ≡ W.depth
  pub innermost_wide : P.width "innermost" ≡ W.depth
  pub saved_wide : P.width "saved_top" ≡ W.place
  pub fork_wide : P.width "fork_has" ≡ fork_width W
  pub kept_wide : P.width "kept" ≡ 65
  pub fresh_wide : P.width "fresh" ≡ 1
  pub forks : (P.width "forks" ≡ fork_width W) × (P.words "forks" ≡ max 1 W.forks)
  pub answers : (P.width "answers" ≡ 65) × (P.words "answers" ≡ max 1 W.forks)
  pub boxes : (i : ℕ) → i < W.saved → (P.width (open_box_name i) ≡ pointer_width W) × (R.vec (open_box_name i) < 2 ^ pointer_width W)

-- the count of forks fits
pub record WideForks (W : Widths) : Type 0 where
  pub depth : W.forks < 2 ^ W.depth
  pub some_depth : 1 ≤ W.depth

max_same : (a : ℕ) → max a (max a a) ≡ a
max_same a = omega arith

module _ (W : Widths) (enough : Wide W) (deep : WideForks W) (P : Scope) (R : Store) (wires : ForkWires W P R) where
  -- ---- places of forks

  pub innermost_at : (d : ℕ) → R.vec "depth" ≡ d → 1 ≤ d → d ≤ W.forks → R.vec "innermost" ≡ d - 1
  innermost_at d e l k =
      let low = deep.depth in
      wires.innermost
      ∙ (λ p. fit W.depth (fit (max W.depth (max (wires.depth_wide p) W.depth))
      (2 ^ max W.depth (max (wires.depth_wide p) W.depth) + e p - fit W.depth 1)))
      ∙ (let z = max_same W.depth in ap (λ m. fit W.depth (fit m (2 ^ m + d - fit W.depth 1))) z)
      ∙ ap (fit W.depth) (minus_one W.depth d deep.some_depth l (omega arith)) ∙ fits W.depth (d - 1) (omega arith)

  pub around_at : (d : ℕ) → R.vec "depth" ≡ d → 2 ≤ d → d ≤ W.forks → R.vec "around" ≡ d - 2
  around_at d e l k =
      let low = deep.depth in
      let i = innermost_at d e (omega arith) k in
      wires.around
      ∙ (λ p. fit W.depth (fit (max W.depth (max (wires.innermost_wide p) W.depth))
      (2 ^ max W.depth (max (wires.innermost_wide p) W.depth) + i p - fit W.depth 1)))
      ∙ (let z = max_same W.depth in ap (λ m. fit W.depth (fit m (2 ^ m + (d - 1) - fit W.depth 1))) z)
      ∙ ap (fit W.depth) (minus_one W.depth (d - 1) deep.some_depth (omega arith) (omega arith))
      ∙ fits W.depth (d - 1 - 1) (omega arith) ∙ (let z : d - 1 - 1 ≡ d - 2 = omega arith in z)

  pub reads_innermost : (b c : Bool) → R.vec "closes" ≡ flag b → R.vec "fresh" ≡ flag c → (b && not c) ≡ false → (d : ℕ) →
      R.vec "depth" ≡ d →
      1 ≤ d → d ≤ W.forks → R.vec "reads_fork" ≡ d - 1
  reads_innermost b c eb ec h d e l k =
      let i = innermost_at d e l k in
      let low = deep.depth in
      wires.reads_fork
      ∙ (λ p. fit W.depth (chosen (nonzero (flag (nonzero (eb p) && nonzero (flag (nat_eq (ec p) 0))))) (R.vec "around") (i p)))
      ∙ go b c h ∙ fits W.depth (d - 1) (omega arith)
    where
      go : (b c : Bool) → (b && not c) ≡ false →
          fit W.depth (chosen (nonzero (flag (nonzero (flag b) && nonzero (flag (nat_eq (flag c) 0))))) (R.vec "around")
          (d - 1)) ≡ fit W.depth (d - 1)
      go true true h = refl
      go true false h = absurd cc
      go false true h = refl
      go false false h = refl

  pub reads_around : R.vec "closes" ≡ 1 → R.vec "fresh" ≡ 0 → (d : ℕ) → R.vec "depth" ≡ d → 2 ≤ d → d ≤ W.forks → R.vec "reads_fork" ≡ d - 2
  reads_around eb ec d e l k =
      let a = around_at d e l k in
      let low = deep.depth in
      wires.reads_fork
      ∙ (λ p. fit W.depth (chosen (nonzero (flag (nonzero (eb p) && nonzero (flag (nat_eq (ec p) 0))))) (a p) (R.vec "innermost")))
      ∙ fits W.depth (d - 2) (omega arith)

  pub keeps_depth : R.vec "opens" ≡ 1 → (d : ℕ) → R.vec "depth" ≡ d → d < 2 ^ W.depth → R.vec "keeps_at" ≡ d
  keeps_depth o d e l =
      wires.keeps_at ∙ (λ p. fit W.depth (chosen (nonzero (o p)) (e p) (R.vec "innermost"))) ∙ fits W.depth d l

  pub keeps_innermost : R.vec "opens" ≡ 0 → (d : ℕ) → R.vec "depth" ≡ d → 1 ≤ d → d ≤ W.forks → R.vec "keeps_at" ≡ d - 1
  keeps_innermost o d e l k =
      let i = innermost_at d e l k in
      let low = deep.depth in
      wires.keeps_at ∙ (λ p. fit W.depth (chosen (nonzero (o p)) (R.vec "depth") (i p))) ∙ fits W.depth (d - 1) (omega arith)

  -- ---- memories of forks

  -- what is told at the places below
  in_forks_same : (m k : String → ℕ → ℕ) (fs : List RowFork) → ((j : ℕ) → j < length fs → m "forks" j ≡ k "forks" j) →
      ((j : ℕ) → j < length fs → m "answers" j ≡ k "answers" j) → InForks W k fs → InForks W m fs
  in_forks_same m k [] f g h = tt
  in_forks_same m k (x ∷ fs) f g h = (
    subst (λ v. ForkIs W v (m "answers" (length fs)) x) (sym (f (length fs) (omega arith)))
        (subst (λ v. ForkIs W (k "forks" (length fs)) v x) (sym (g (length fs) (omega arith))) h.0),
    in_forks_same m k fs (λ j l. f j (omega arith)) (λ j l. g j (omega arith)) h.1,
  )

  -- a word that is read
  fork_word : (d : ℕ) → d < W.forks → R.vec "reads_fork" ≡ d →
      assigned P R (P.width "fork_has") (word "forks" (name "reads_fork")) ≡ fit (fork_width W) (R.mem "forks" d)
  fork_word d l e =
      (λ p. fit (wires.fork_wide p) (chosen (nat_lt (e p) (wires.forks.1 p)) (R.mem "forks" (e p)) (R.stray "forks" (e p))))
      ∙ ap (λ b. fit (fork_width W) (chosen b (R.mem "forks" d) (R.stray "forks" d))) (lt-ltb d (max 1 W.forks) (omega arith))

  answer_word : (d : ℕ) → d < W.forks → R.vec "reads_fork" ≡ d →
      assigned P R (P.width "kept") (word "answers" (name "reads_fork")) ≡ fit 65 (R.mem "answers" d)
  answer_word d l e =
      (λ p. fit (wires.kept_wide p) (chosen (nat_lt (e p) (wires.answers.1 p)) (R.mem "answers" (e p)) (R.stray "answers" (e p))))
      ∙ ap (λ b. fit 65 (chosen b (R.mem "answers" d) (R.stray "answers" d))) (lt-ltb d (max 1 W.forks) (omega arith))

  -- a fork whose words were cut
  fork_cut : (v a : ℕ) (f : RowFork) → ForkIs W v a f → ForkIs W (fit (fork_width W) v) (fit 65 a) f
  fork_cut v a f h = record {
    top = lowest_bits v (fork_width W) W.place (omega arith) ∙ h.top;
    low = h.low;
    boxes = vector_cut W v (fork_width W) W.place f.boxes
        (let k : pointer_width W * length f.boxes ≤ pointer_width W * W.saved =
        mul-le (pointer_width W) (length f.boxes) (pointer_width W) W.saved (omega arith) h.short in omega arith) h.boxes;
    short = h.short;
    answered = λ u e. let q = h.answered u e in (ap (fit 65) q.0 ∙ fits 65 (value_number u) (value_low u q.1), q.1);
  }

  -- the innermost fork is read
  read_is : (f : RowFork) (fs : List RowFork) → InForks W R.mem (f ∷ fs) → length fs < W.forks → R.vec "reads_fork" ≡ length fs →
      ForkIs W (assigned P R (P.width "fork_has") (word "forks" (name "reads_fork")))
      (assigned P R (P.width "kept") (word "answers" (name "reads_fork"))) f
  read_is f fs h l e =
      subst (λ v. ForkIs W v (assigned P R (P.width "kept") (word "answers" (name "reads_fork"))) f) (sym (fork_word (length fs) l e))
      (subst (λ v. ForkIs W (fit (fork_width W) (R.mem "forks" (length fs))) v f) (sym (answer_word (length fs) l e))
      (fork_cut (R.mem "forks" (length fs)) (R.mem "answers" (length fs)) f h.0))

  -- ---- the statement, by what the row says

  abbrev reads : ℕ → ℕ → String → String → Store → Store
  reads a f x m S = chosen (nonzero (flag (nonzero a || nonzero f))) (write P R (whole x) (word m (name "reads_fork")) S) S

  abbrev first_store : ℕ → ℕ → ℕ → Store
  first_store a f o = chosen (nonzero (flag (nonzero a && nonzero o))) (fire P R (open_stmt W) R) (reads a f "fork_has" "forks" R)

  abbrev second_store : ℕ → ℕ → ℕ → Store → Store
  second_store a f k S =
      chosen (nonzero (flag (nonzero a && nonzero k))) (write P R (word_at "answers" (name "keeps_at")) (name "second") S)
      (reads a f "kept" "answers" S)

  abbrev third_store : ℕ → ℕ → Store → Store
  third_store a c S = chosen (nonzero (flag (nonzero a && nonzero c))) (write P R (whole "depth") (name "innermost") S) S

  abbrev fresh_expr : Expr
  fresh_expr = logic both (name "acts") (logic one_of (name "opens") (name "keeps"))

  abbrev after : ℕ → ℕ → ℕ → ℕ → ℕ → Store
  after a f o k c = write P R (whole "fresh") fresh_expr (third_store a c (second_store a f k (first_store a f o)))

  abbrev pub X : Store
  X = fire P R (fork_stmt W) R

  -- what is told of the forks behind an edge
  pub record ForksNow (Y : Store) (forks : List RowFork) (new : Bool) : Type 0 where
    pub in_memory : InForks W Y.mem forks
    pub depth : Y.vec "depth" ≡ length forks
    pub fresh : Y.vec "fresh" ≡ flag new
    pub innermost : new ≡ false → is_open forks ≡ true → ForkIs W (Y.vec "fork_has") (Y.vec "kept") (innermost forks)

  fresh_is : (a o k : Bool) → R.vec "acts" ≡ flag a → R.vec "opens" ≡ flag o → R.vec "keeps" ≡ flag k →
      assigned P R (P.width "fresh") fresh_expr ≡ flag (a && (o || k))
  fresh_is a o k ea eo ek =
      (λ p. fit (wires.fresh_wide p) (flag (nonzero (ea p) && nonzero (flag (nonzero (eo p) || nonzero (ek p)))))) ∙ go a o k
    where
      go : (a o k : Bool) → fit 1 (flag (nonzero (flag a) && nonzero (flag (nonzero (flag o) || nonzero (flag k))))) ≡ flag (a && (o || k))
      go true true true = refl
      go true true false = refl
      go true false true = refl
      go true false false = refl
      go false true true = refl
      go false true false = refl
      go false false true = refl
      go false false false = refl

  -- ---- an edge at which nothing acts

  module _ (D : RowCircuit) (held : InForks W R.mem D.forks) (depth : R.vec "depth" ≡ length D.forks) (few : length D.forks ≤ W.forks)
      (fresh : Bool) (fresh_now : R.vec "fresh" ≡ flag fresh)
      (was : fresh ≡ false → is_open D.forks ≡ true → ForkIs W (R.vec "fork_has") (R.vec "kept") (innermost D.forks)) where
    -- what was read where it is read again
    read_again : (fs : List RowFork) → InForks W R.mem fs → length fs ≤ W.forks → is_open fs ≡ true →
        ((n : ℕ) → n ≡ length fs → 1 ≤ n → R.vec "reads_fork" ≡ n - 1) →
        ForkIs W (assigned P R (P.width "fork_has") (word "forks" (name "reads_fork")))
        (assigned P R (P.width "kept") (word "answers" (name "reads_fork"))) (innermost fs)
    read_again [] h l o e = absurd cc
    read_again (f ∷ fs) h l o e =
        read_is f fs h (omega arith)
        (e (suc (length fs)) refl (omega arith) ∙ (let z : suc (length fs) - 1 ≡ length fs = omega arith in z))

    pub quiet : (c : Bool) → R.vec "acts" ≡ 0 → R.vec "closes" ≡ flag c → ForksNow X D.forks false
    quiet c ea ec = record {
      in_memory = subst (λ (Y : Store). InForks W Y.mem D.forks) (sym told) (mem_is fresh);
      depth = ap (λ (Y : Store). Y.vec "depth") told ∙ depth_is fresh;
      fresh = ap (λ (Y : Store). Y.vec "fresh") told ∙ fresh_quiet;
      innermost = λ e o. subst (λ (Y : Store). ForkIs W (Y.vec "fork_has") (Y.vec "kept") (innermost D.forks)) (sym told)
          (inner fresh refl o);
    }
      where
        told : X ≡ after 0 (flag fresh) (R.vec "opens") (R.vec "keeps") (R.vec "closes")
        told = λ p. after (ea p) (fresh_now p) (R.vec "opens") (R.vec "keeps") (R.vec "closes")

        mem_is : (b : Bool) → InForks W (after 0 (flag b) (R.vec "opens") (R.vec "keeps") (R.vec "closes")).mem D.forks
        mem_is true = held
        mem_is false = held

        depth_is : (b : Bool) → (after 0 (flag b) (R.vec "opens") (R.vec "keeps") (R.vec "closes")).vec "depth" ≡ length D.forks
        depth_is true = depth
        depth_is false = depth

        fresh_quiet : assigned P R (P.width "fresh") fresh_expr ≡ 0
        fresh_quiet =
            (λ p. fit (wires.fresh_wide p) (flag (nonzero (ea p) && nonzero (flag (nonzero (R.vec "opens") || nonzero (R.vec "keeps"))))))

        inner : (b : Bool) → fresh ≡ b → is_open D.forks ≡ true →
            ForkIs W ((after 0 (flag b) (R.vec "opens") (R.vec "keeps") (R.vec "closes")).vec "fork_has")
            ((after 0 (flag b) (R.vec "opens") (R.vec "keeps") (R.vec "closes")).vec "kept") (innermost D.forks)
        inner true q o =
            read_again D.forks held few o
            (λ n e l. reads_innermost c true ec (fresh_now ∙ ap flag q) (and_right c false refl) n (depth ∙ sym e) l (omega arith))
        inner false q o = was q o

    -- ---- an edge at which the row is made

    module _ (acts : R.vec "acts" ≡ 1) (r : ModuleRow) (ps : ℕ → ℕ) (flags : Flags R r) where
      told_by : (o k c : Bool) → R.vec "opens" ≡ flag o → R.vec "keeps" ≡ flag k → R.vec "closes" ≡ flag c →
          X ≡ after 1 (R.vec "fresh") (flag o) (flag k) (flag c)
      told_by o k c eo ek ec = λ p. after (acts p) (R.vec "fresh") (eo p) (ek p) (ec p)

      -- no fork is touched
      pub acts_none : R.vec "opens" ≡ 0 → R.vec "keeps" ≡ 0 → R.vec "closes" ≡ 0 → ForksNow X D.forks false
      acts_none eo ek ec = record {
        in_memory = subst (λ (Y : Store). InForks W Y.mem D.forks) (sym told) held;
        depth = ap (λ (Y : Store). Y.vec "depth") told ∙ depth;
        fresh = ap (λ (Y : Store). Y.vec "fresh") told ∙ fresh_is true false false acts eo ek;
        innermost = λ e o. subst (λ (Y : Store). ForkIs W (Y.vec "fork_has") (Y.vec "kept") (innermost D.forks)) (sym told)
            (read_again D.forks held few o (λ n e l. reads_innermost false fresh ec fresh_now refl n (depth ∙ sym e) l (omega arith)));
      }
        where
          told : X ≡ after 1 (R.vec "fresh") 0 0 0
          told = told_by false false false eo ek ec

      -- the innermost one is closed
      pub acts_closes : R.vec "opens" ≡ 0 → R.vec "keeps" ≡ 0 → R.vec "closes" ≡ 1 → fresh ≡ false → is_open D.forks ≡ true →
          ForksNow X (around D.forks) false
      acts_closes eo ek ec ef op = by D.forks held depth few op
        where
          told : X ≡ after 1 (R.vec "fresh") 0 0 1
          told = told_by false false true eo ek ec

          by : (fs : List RowFork) → InForks W R.mem fs → R.vec "depth" ≡ length fs → length fs ≤ W.forks → is_open fs ≡ true →
              ForksNow X (around fs) false
          by [] h d l o = absurd cc
          by (f ∷ fs) h d l o = record {
            in_memory = subst (λ (Y : Store). InForks W Y.mem fs) (sym told) h.1;
            depth = ap (λ (Y : Store). Y.vec "depth") told ∙ less;
            fresh = ap (λ (Y : Store). Y.vec "fresh") told ∙ fresh_is true false false acts eo ek;
            innermost = λ e o. subst (λ (Y : Store). ForkIs W (Y.vec "fork_has") (Y.vec "kept") (innermost fs)) (sym told)
                (read_again fs h.1 (omega arith) o (λ n e l. at_around n e l));
          }
            where
              less : assigned P R (P.width "depth") (name "innermost") ≡ length fs
              less =
                  let i = innermost_at (suc (length fs)) d (omega arith) l in
                  let z : suc (length fs) - 1 ≡ length fs = omega arith in
                  let low = deep.depth in
                  (λ p. fit (wires.depth_wide p) (i p)) ∙ ap (fit W.depth) z ∙ fits W.depth (length fs) (omega arith)

              at_around : (n : ℕ) → n ≡ length fs → 1 ≤ n → R.vec "reads_fork" ≡ n - 1
              at_around n e k =
                  reads_around ec (fresh_now ∙ ap flag ef) (suc n) (d ∙ ap suc (sym e)) (omega arith) (omega arith)
                  ∙ (let z : suc n - 2 ≡ n - 1 = omega arith in z)

      -- it gets its left answer
      pub acts_keeps : (v : Val) → R.vec "opens" ≡ 0 → R.vec "keeps" ≡ 1 → R.vec "closes" ≡ 0 → is_open D.forks ≡ true →
          R.vec "second" ≡ value_number v → Small v →
          ForksNow X (record (innermost D.forks) { answered = Some v } ∷ around D.forks) true
      acts_keeps v eo ek ec op second small = by D.forks held depth few op
        where
          told : X ≡ after 1 (R.vec "fresh") 0 1 0
          told = told_by false true false eo ek ec

          by : (fs : List RowFork) → InForks W R.mem fs → R.vec "depth" ≡ length fs → length fs ≤ W.forks → is_open fs ≡ true →
              ForksNow X (record (innermost fs) { answered = Some v } ∷ around fs) true
          by [] h d l o = absurd cc
          by (f ∷ fs) h d l o = record {
            in_memory = (
              subst (λ a. ForkIs W (X.mem "forks" (length fs)) a (record f { answered = Some v })) (sym here)
                  (subst (λ a. ForkIs W a (value_number v) (record f { answered = Some v })) (sym (mem_forks (length fs))) (record {
                    top = h.0.top;
                    low = h.0.low;
                    boxes = h.0.boxes;
                    short = h.0.short;
                    answered = λ u e. let q : v ≡ u = cc in (ap value_number q, subst Small q small);
                  })),
              in_forks_same X.mem R.mem fs (λ j k. mem_forks j) (λ j k. there j k) h.1,
            );
            depth = ap (λ (Y : Store). Y.vec "depth") told ∙ d;
            fresh = ap (λ (Y : Store). Y.vec "fresh") told ∙ fresh_is true false true acts eo ek;
            innermost = λ e o. absurd cc;
          }
            where
              at : R.vec "keeps_at" ≡ length fs
              at = keeps_innermost eo (suc (length fs)) d (omega arith) l ∙ (let z : suc (length fs) - 1 ≡ length fs = omega arith in z)

              mem_forks : (j : ℕ) → X.mem "forks" j ≡ R.mem "forks" j
              mem_forks j = ap (λ (Y : Store). Y.mem "forks" j) told

              mem_answers : (j : ℕ) → X.mem "answers" j ≡
                  chosen (nat_eq (length fs) j && nat_lt (length fs) (max 1 W.forks)) (fit 65 (value_number v)) (R.mem "answers" j)
              mem_answers j = ap (λ (Y : Store). Y.mem "answers" j) told
                  ∙ (λ p. chosen (nat_eq (at p) j && nat_lt (at p) (wires.answers.1 p)) (fit (wires.answers.0 p) (second p))
                  (R.mem "answers" j))

              here : X.mem "answers" (length fs) ≡ value_number v
              here =
                  mem_answers (length fs)
                  ∙ ap (λ b. chosen (b && nat_lt (length fs) (max 1 W.forks)) (fit 65 (value_number v)) (R.mem "answers" (length fs)))
                  (eq-eqb (length fs) (length fs) refl)
                  ∙ ap (λ b. chosen b (fit 65 (value_number v)) (R.mem "answers" (length fs)))
                  (lt-ltb (length fs) (max 1 W.forks) (omega arith))
                  ∙ fits 65 (value_number v) (value_low v small)

              there : (j : ℕ) → j < length fs → X.mem "answers" j ≡ R.mem "answers" j
              there j k =
                  mem_answers j
                  ∙ ap (λ b. chosen (b && nat_lt (length fs) (max 1 W.forks)) (fit 65 (value_number v)) (R.mem "answers" j))
                  (ne_eqb (length fs) j (λ z. omega arith))

      -- one is opened
      module _ (l : List From) (b : Bool) (k : Option Operand) (is_opens : r.fork ≡ opens l b k)
          (room : base_of r D + flag r.makes ≤ W.cells) (room_fork : suc (length D.forks) ≤ W.forks)
          (base : R.vec "base" ≡ base_of r D) (next_top : R.vec "next_top" ≡ base_of r D + flag r.makes)
          (names : InRegisters W R open_box_name 0 (pointers_from r D l)) (short : length (pointers_from r D l) ≤ W.saved)
          (second : (x : Operand) → k ≡ Some x → (R.vec "second" ≡ value_number (operand_value ps D x)) × Small
          (operand_value ps D x)) where
        abbrev new : RowFork
        new = record {
          boxes = pointers_from r D l;
          answered = operand_option ps D k;
          top = base_of r D + (if b then flag r.makes else 0);
        }

        saved : R.vec "saved_top" ≡ new.top
        saved = wires.saved_top
            ∙ (λ p. fit W.place (chosen (nonzero ((flags.above_is ∙ ap (λ d. flag (opens_above d)) is_opens) p)) (next_top p) (base p)))
            ∙ go b
          where
            low : (n : ℕ) → n ≤ W.cells → n < 2 ^ W.place
            low n q = let a = enough.place in omega arith

            go : (b : Bool) → fit W.place (chosen (nonzero (flag b)) (base_of r D + flag r.makes) (base_of r D))
                ≡ base_of r D + (if b then flag r.makes else 0)
            go true = fits W.place (base_of r D + flag r.makes) (low (base_of r D + flag r.makes) room)
            go false = fits W.place (base_of r D) (low (base_of r D) (omega arith)) ∙
                (let z : base_of r D ≡ base_of r D + 0 = omega arith in z)

        new_low : new.top ≤ W.cells
        new_low = go b
          where
            go : (b : Bool) → base_of r D + (if b then flag r.makes else 0) ≤ W.cells
            go true = room
            go false = omega arith

        abbrev e : Expr
        e = pointers_above open_box_name 0 W.saved (name "saved_top")

        vector_is : (u : ℕ) → Vector P R (pointer_width W) open_box_name (value P R u e) W.place (R.vec "saved_top") 0 W.saved
        vector_is u =
            vector_of P R (pointer_width W) open_box_name W.saved 0 W.place (R.vec "saved_top") (name "saved_top") wires.saved_wide
            (let s = saved in let a = enough.place in let z = new_low in omega arith) (λ u. refl)
            (λ j q. wires.boxes (0 + j) (omega arith)) u

        abbrev u : ℕ
        u = max (fork_width W) (bits P e)

        abbrev V : ℕ
        V = value P R u e

        written : assigned P R (P.width "forks") e ≡ V
        written =
            ap (λ m. assigned P R m e) wires.forks.0 ∙ fits (fork_width W) V (vector_is u).low

        boxes_in : InVector W V W.place (pointers_from r D l)
        boxes_in =
            in_vector_of W V W.place (pointers_from r D l) (λ j q.
            let n = from_register W R open_box_name (pointers_from r D l) names j q in (
              (vector_is u).at j (omega arith) ∙ (let z : 0 + j ≡ j = omega arith in ap (λ i. R.vec (open_box_name i)) z) ∙ n.is,
              n.fit,
            ))

        opens_at : R.vec "opens" ≡ 1
        opens_at = flags.opens_is ∙ ap (λ d. flag (opens_fork d)) is_opens

        closes_at : R.vec "closes" ≡ 0
        closes_at = flags.closes_is ∙ ap (λ d. flag (closes_fork d)) is_opens

        keeps_flag : R.vec "keeps" ≡ flag (is_kept k)
        keeps_flag = flags.keeps_is ∙ ap (λ d. flag (is_kept (kept_operand d))) is_opens

        told_opens : (c : Bool) → R.vec "keeps" ≡ flag c → X ≡ after 1 (R.vec "fresh") 1 (flag c) 0
        told_opens c ek = told_by true c false opens_at ek closes_at

        forks_at : (c : Bool) (j : ℕ) → (after 1 (R.vec "fresh") 1 (flag c) 0).mem "forks" j ≡
            chosen (nat_eq (length D.forks) j && nat_lt (length D.forks) (max 1 W.forks)) V (R.mem "forks" j)
        forks_at true j = λ p. chosen (nat_eq (depth p) j && nat_lt (depth p) (wires.forks.1 p)) (written p) (R.mem "forks" j)
        forks_at false j =
            (λ p. (reads 1 (fresh_now p) "kept" "answers" (fire P R (open_stmt W) R)).mem "forks" j)
            ∙ (λ p. chosen (nat_eq (depth p) j && nat_lt (depth p) (wires.forks.1 p)) (written p) (R.mem "forks" j))

        depth_at : (c : Bool) → (after 1 (R.vec "fresh") 1 (flag c) 0).vec "depth" ≡ suc (length D.forks)
        depth_at c = go c
          where
            more : assigned P R (P.width "depth") (two plus (name "depth") (sized W.depth 1)) ≡ suc (length D.forks)
            more =
                let low = deep.depth in
                (λ p. fit (wires.depth_wide p) (fit (max (wires.depth_wide p) (max (wires.depth_wide p) W.depth))
                (depth p + fit W.depth 1)))
                ∙ (let z = max_same W.depth in ap (λ m. fit W.depth (fit m (length D.forks + fit W.depth 1))) z)
                ∙ ap (fit W.depth) (plus_one W.depth (length D.forks) deep.some_depth (omega arith))
                ∙ fits W.depth (suc (length D.forks)) (omega arith)

            go : (c : Bool) → (after 1 (R.vec "fresh") 1 (flag c) 0).vec "depth" ≡ suc (length D.forks)
            go true = more
            go false = more

        answers_kept : (v : Val) → R.vec "keeps" ≡ 1 → R.vec "second" ≡ value_number v → (j : ℕ) →
            X.mem "answers" j ≡ chosen (nat_eq (length D.forks) j && nat_lt (length D.forks) (max 1 W.forks)) (fit 65 (value_number v))
            (R.mem "answers" j)
        answers_kept v ek s j =
            let low = deep.depth in
            let at = keeps_depth opens_at (length D.forks) depth (omega arith) in
            ap (λ (Y : Store). Y.mem "answers" j) (told_opens true ek)
            ∙ (λ p. chosen (nat_eq (at p) j && nat_lt (at p) (wires.answers.1 p)) (fit (wires.answers.0 p) (s p)) (R.mem "answers" j))

        answers_free : R.vec "keeps" ≡ 0 → (j : ℕ) → X.mem "answers" j ≡ R.mem "answers" j
        answers_free ek j = ap (λ (Y : Store). Y.mem "answers" j) (told_opens false ek)

        forks_here : (c : Bool) → R.vec "keeps" ≡ flag c → X.mem "forks" (length D.forks) ≡ V
        forks_here c ek =
            ap (λ (Y : Store). Y.mem "forks" (length D.forks)) (told_opens c ek) ∙ forks_at c (length D.forks)
            ∙ ap (λ b. chosen (b && nat_lt (length D.forks) (max 1 W.forks)) V (R.mem "forks" (length D.forks)))
            (eq-eqb (length D.forks) (length D.forks) refl)
            ∙ ap (λ b. chosen b V (R.mem "forks" (length D.forks))) (lt-ltb (length D.forks) (max 1 W.forks) (omega arith))

        forks_there : (c : Bool) → R.vec "keeps" ≡ flag c → (j : ℕ) → j < length D.forks → X.mem "forks" j ≡ R.mem "forks" j
        forks_there c ek j q =
            ap (λ (Y : Store). Y.mem "forks" j) (told_opens c ek) ∙ forks_at c j
            ∙ ap (λ b. chosen (b && nat_lt (length D.forks) (max 1 W.forks)) V (R.mem "forks" j))
            (ne_eqb (length D.forks) j (λ z. omega arith))

        new_is : (a : ℕ) → ((w : Val) → new.answered ≡ Some w → (a ≡ value_number w) × Small w) → ForkIs W V a new
        new_is a h = record {
          top = (vector_is u).below ∙ saved;
          low = new_low;
          boxes = boxes_in;
          short = short;
          answered = h;
        }

        pub acts_opens : ForksNow X (new ∷ D.forks) true
        acts_opens = by k refl
          where
            by : (o : Option Operand) → k ≡ o → ForksNow X (new ∷ D.forks) true
            by None q =
                let ek : R.vec "keeps" ≡ flag false = keeps_flag ∙ ap (λ o. flag (is_kept o)) q in
                record {
                  in_memory = (
                    subst (λ v. ForkIs W v (X.mem "answers" (length D.forks)) new) (sym (forks_here false ek))
                        (new_is (X.mem "answers" (length D.forks)) (λ w e.
                        let z : operand_option ps D k ≡ None = ap (operand_option ps D) q in absurd cc)),
                    in_forks_same X.mem R.mem D.forks (λ j m. forks_there false ek j m) (λ j m. answers_free ek j) held,
                  );
                  depth = ap (λ (Y : Store). Y.vec "depth") (told_opens false ek) ∙ depth_at false;
                  fresh = ap (λ (Y : Store). Y.vec "fresh") (told_opens false ek) ∙ fresh_is true true false acts opens_at ek;
                  innermost = λ e o. absurd cc;
                }
            by (Some x) q =
                let ek : R.vec "keeps" ≡ flag true = keeps_flag ∙ ap (λ o. flag (is_kept o)) q in
                let s = second x q in
                let v : Val = operand_value ps D x in
                let mem = answers_kept v ek s.0 in
                let here : X.mem "answers" (length D.forks) ≡ value_number v =
                mem (length D.forks)
                ∙ ap (λ b. chosen (b && nat_lt (length D.forks) (max 1 W.forks)) (fit 65 (value_number v))
                (R.mem "answers" (length D.forks)))
                (eq-eqb (length D.forks) (length D.forks) refl)
                ∙ ap (λ b. chosen b (fit 65 (value_number v)) (R.mem "answers" (length D.forks)))
                (lt-ltb (length D.forks) (max 1 W.forks) (omega arith))
                ∙ fits 65 (value_number v) (value_low v s.1) in
                record {
                  in_memory = (
                    subst (λ w. ForkIs W w (X.mem "answers" (length D.forks)) new) (sym (forks_here true ek))
                        (new_is (X.mem "answers" (length D.forks)) (λ w e.
                        let z : operand_option ps D k ≡ Some v = ap (operand_option ps D) q in
                        let y : v ≡ w = cc in (here ∙ ap value_number y, subst Small y s.1))),
                    in_forks_same X.mem R.mem D.forks (λ j m. forks_there true ek j m) (λ j m.
                        mem j ∙ ap (λ b. chosen (b && nat_lt (length D.forks) (max 1 W.forks)) (fit 65 (value_number v))
                        (R.mem "answers" j))
                        (ne_eqb (length D.forks) j (λ z. omega arith))) held,
                  );
                  depth = ap (λ (Y : Store). Y.vec "depth") (told_opens true ek) ∙ depth_at true;
                  fresh = ap (λ (Y : Store). Y.vec "fresh") (told_opens true ek) ∙ fresh_is true true true acts opens_at ek;
                  innermost = λ e o. absurd cc;
                }
