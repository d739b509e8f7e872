-- Where all has settled, each register is what it was.
use Rattle.std.proofs.Common.{◌≡◌, ℕ, zero, suc, ◌+◌, ◌-◌, Bool, true, false, ◌||◌, List, [], ◌∷◌, refl}
use Rattle.std.proofs.Common.{ap, sym, subst, ◌∙◌}
use Prim.Native.String.{String}
use lib.Text.{eqt}
use Rattle.verilog_tree.specs.Tree.{whole, word_at, Stmt, skip, put, seq, branch, cases, Item, clocked, one_of, logic, none}
use Rattle.verilog_tree.specs.Tree.{word, part, count, name}
use Rattle.verilog_tree.specs.Meaning.{Store}
use Rattle.verilog_tree.proofs.Own.{one_name}
use Rattle.circuit_module.specs.Fixed.{set, block}
use Rattle.verilog_tree.specs.Items.{Has, Sets, assigns, in_first, in_second, in_then, in_else}
use Rattle.verilog_tree.specs.Laws.{Settles}
use Rattle.late_unit.specs.Works.{unit_names, UnitSame}
use Rattle.joined_module.specs.Names.{arg_name, held_name, sig_name, box_name, next_sig_name, next_box_name, found}
use Rattle.joined_module.specs.Fields.{Field}
use Rattle.joined_module.specs.Ports.{held_sets}
use Rattle.joined_module.specs.Unit.{unit_stmt}
use Rattle.joined_module.specs.Module.{Widths, zero_stmt_of, fetch_sets, fetch_stmt, list_sets, fork_stmt, value_stmt, count_stmt, act_stmt}
use Rattle.joined_module.specs.Module.{go_stmt, reset_stmt, joined_clock_stmt}
use Rattle.joined_found.specs.Found.{Each}
use Rattle.joined_found.proofs.Eaches.{each_map}
use Rattle.joined_clock.proofs.Fetched.{Upto, upto_map}
use Rattle.joined_clock.specs.Laws.{now_stmt, ended_stmt}
use Rattle.joined_clock.proofs.Offs.{every_name, among_names}
use Rattle.joined_clock.proofs.Groups.{act_tail}

-- all registers of both are the same
pub record Regs (W : Widths) (fs : List Field) (n : ℕ) (b : Bool) (S R : Store) : Type 0 where
  pub fields : Each (λ f. R.vec f.title ≡ S.vec f.title) fs
  pub sigs : Upto (λ k. R.vec (sig_name k) ≡ S.vec (sig_name k)) 0 W.sigs
  pub boxes : Upto (λ k. R.vec (box_name k) ≡ S.vec (box_name k)) 0 W.boxes
  pub held : Upto (λ k. R.vec (held_name k) ≡ S.vec (held_name k)) 0 n
  pub unit : UnitSame b S R
  pub top : R.vec "top" ≡ S.vec "top"
  pub cell_has : R.vec "cell_has" ≡ S.vec "cell_has"
  pub depth : R.vec "depth" ≡ S.vec "depth"
  pub fork_has : R.vec "fork_has" ≡ S.vec "fork_has"
  pub kept : R.vec "kept" ≡ S.vec "kept"
  pub fresh : R.vec "fresh" ≡ S.vec "fresh"
  pub ended : R.vec "ended" ≡ S.vec "ended"
  pub changed : R.vec "changed" ≡ S.vec "changed"
  pub nonzero : R.vec "nonzero" ≡ S.vec "nonzero"
  pub carried : R.vec "carried" ≡ S.vec "carried"
  pub done : R.vec "done" ≡ S.vec "done"
  pub result : R.vec "result" ≡ S.vec "result"
  pub full : R.vec "full" ≡ S.vec "full"
  pub moves : R.vec "moves" ≡ S.vec "moves"
  pub mem : R.mem ≡ S.mem

-- ---- a statement assigns to a name, by computing

abbrev sets_it : String → Stmt → Bool
sets_it x skip = false
sets_it x (put (whole y) e) = eqt y x
sets_it x (put (word_at m i) e) = false
sets_it x (seq s t) = sets_it x s || sets_it x t
sets_it x (branch e s t) = sets_it x s || sets_it x t
sets_it x (cases e arms) = false

-- what is said to assign to a name does
sets_of : (x : String) (s : Stmt) → sets_it x s ≡ true → Sets x s
sets_of x skip h = absurd cc
sets_of x (put (whole y) e) h = subst (λ z. Sets x (put (whole z) e)) (sym (one_name y x h)) (assigns e)
sets_of x (put (word_at m i) e) h = absurd cc
sets_of x (seq s t) h = go (sets_it x s) refl (sets_of x s) (sets_of x t)
  where
    go : (b : Bool) → sets_it x s ≡ b → (sets_it x s ≡ true → Sets x s) → (sets_it x t ≡ true → Sets x t) → Sets x (seq s t)
    go true e f g = in_first s t (f e)
    go false e f g = in_second s t (g (ap (λ b. b || sets_it x t) (sym e) ∙ h))
sets_of x (branch c s t) h = go (sets_it x s) refl (sets_of x s) (sets_of x t)
  where
    go : (b : Bool) → sets_it x s ≡ b → (sets_it x s ≡ true → Sets x s) → (sets_it x t ≡ true → Sets x t) → Sets x (branch c s t)
    go true e f g = in_then c s t (f e)
    go false e f g = in_else c s t (g (ap (λ b. b || sets_it x t) (sym e) ∙ h))
sets_of x (cases e arms) h = absurd cc

-- one of some does
data SomeSets (x : String) : List Stmt → Type 0 where
  this : (s : Stmt) (ss : List Stmt) → Sets x s → SomeSets x (s ∷ ss)
  later : (s : Stmt) (ss : List Stmt) → SomeSets x ss → SomeSets x (s ∷ ss)

block_sets : (x : String) (ss : List Stmt) → SomeSets x ss → Sets x (block ss)
block_sets x [] h = elim h [ ]
block_sets x (s ∷ []) (this s' ss' h) = h
block_sets x (s ∷ []) (later s' ss' h) = elim h [ ]
block_sets x (s ∷ t ∷ ss) (this s' ss' h) = in_first s (block (t ∷ ss)) h
block_sets x (s ∷ t ∷ ss) (later s' ss' h) = in_second s (block (t ∷ ss)) (block_sets x (t ∷ ss) h)

each_set : (fs : List Field) → Each (λ f. SomeSets f.title (fetch_sets fs)) fs
each_set [] = tt
each_set (f ∷ fs) = (
  this (set f.title (name (found f.title))) (fetch_sets fs) (assigns (name (found f.title))),
  each_map (λ g. SomeSets g.title (fetch_sets fs)) (λ g. SomeSets g.title (fetch_sets (f ∷ fs)))
      (λ g h. later (set f.title (name (found f.title))) (fetch_sets fs) h) fs (each_set fs),
)

list_set : (y z : ℕ → String) (i n : ℕ) → Upto (λ k. SomeSets (y k) (list_sets y z i n)) i n
list_set y z i zero = tt
list_set y z i (suc n) = (
  this (set (y i) (name (z i))) (list_sets y z (suc i) n) (assigns (name (z i))),
  upto_map (λ k. SomeSets (y k) (list_sets y z (suc i) n)) (λ k. SomeSets (y k) (list_sets y z i (suc n)))
      (λ k h. later (set (y i) (name (z i))) (list_sets y z (suc i) n) h) (suc i) n (list_set y z (suc i) n),
)

held_set : (i n : ℕ) → Upto (λ k. SomeSets (held_name k) (held_sets i n)) i n
held_set i zero = tt
held_set i (suc n) = (
  this (set (held_name i) (name (arg_name i))) (held_sets (suc i) n) (assigns (name (arg_name i))),
  upto_map (λ k. SomeSets (held_name k) (held_sets (suc i) n)) (λ k. SomeSets (held_name k) (held_sets i (suc n)))
      (λ k h. later (set (held_name i) (name (arg_name i))) (held_sets (suc i) n) h) (suc i) n (held_set (suc i) n),
)

-- ---- the parts of the clock's block

module _ (W : Widths) (fs : List Field) (n : ℕ) (b : Bool) (x : String) where
  abbrev clock : Stmt
  clock = joined_clock_stmt W fs n b

  abbrev last_part : Stmt
  last_part = branch (name "rst") (reset_stmt n) (go_stmt W b)

  in_unit : Sets x (unit_stmt b) → Sets x clock
  in_unit h = in_first (unit_stmt b) (seq (zero_stmt_of b) (seq (fetch_stmt W fs) last_part)) h

  in_zero : Sets x (zero_stmt_of b) → Sets x clock
  in_zero h =
      in_second (unit_stmt b) (seq (zero_stmt_of b) (seq (fetch_stmt W fs) last_part))
      (in_first (zero_stmt_of b) (seq (fetch_stmt W fs) last_part) h)

  in_fetch : Sets x (fetch_stmt W fs) → Sets x clock
  in_fetch h =
      in_second (unit_stmt b) (seq (zero_stmt_of b) (seq (fetch_stmt W fs) last_part))
      (in_second (zero_stmt_of b) (seq (fetch_stmt W fs) last_part) (in_first (fetch_stmt W fs) last_part h))

  in_last : Sets x last_part → Sets x clock
  in_last h =
      in_second (unit_stmt b) (seq (zero_stmt_of b) (seq (fetch_stmt W fs) last_part))
      (in_second (zero_stmt_of b) (seq (fetch_stmt W fs) last_part) (in_second (fetch_stmt W fs) last_part h))

  in_reset : Sets x (reset_stmt n) → Sets x clock
  in_reset h = in_last (in_then (name "rst") (reset_stmt n) (go_stmt W b) h)

  in_fork : Sets x (fork_stmt W) → Sets x clock
  in_fork h =
      in_last (in_else (name "rst") (reset_stmt n) (go_stmt W b)
      (in_first (fork_stmt W) (seq (value_stmt b) (seq count_stmt (seq (now_stmt W) ended_stmt))) h))

  in_act : Sets x (act_stmt W) → Sets x clock
  in_act h =
      in_last (in_else (name "rst") (reset_stmt n) (go_stmt W b)
      (in_second (fork_stmt W) (seq (value_stmt b) (seq count_stmt (seq (now_stmt W) ended_stmt)))
      (in_second (value_stmt b) (seq count_stmt (seq (now_stmt W) ended_stmt))
      (in_second count_stmt (seq (now_stmt W) ended_stmt) (in_first (now_stmt W) ended_stmt (in_then (name "acts") (act_stmt W) skip h))))))

  in_field : SomeSets x (fetch_sets fs) → Sets x clock
  in_field h =
      in_fetch (in_then (logic one_of (name "rst") (none (name "rests")))
      (seq (set "cell_has" (word "cells" (part "looked" (count (W.place + W.tag - 1)) (count W.tag)))) (block (fetch_sets fs))) skip
      (in_second (set "cell_has" (word "cells" (part "looked" (count (W.place + W.tag - 1)) (count W.tag)))) (block (fetch_sets fs))
      (block_sets x (fetch_sets fs) h)))

  in_sig : SomeSets x (list_sets sig_name next_sig_name 0 W.sigs) → Sets x clock
  in_sig h =
      in_act (in_first (block (list_sets sig_name next_sig_name 0 W.sigs))
      (seq (block (list_sets box_name next_box_name 0 W.boxes)) (act_tail W)) (block_sets x (list_sets sig_name next_sig_name 0 W.sigs) h))

  in_box : SomeSets x (list_sets box_name next_box_name 0 W.boxes) → Sets x clock
  in_box h =
      in_act (in_second (block (list_sets sig_name next_sig_name 0 W.sigs))
      (seq (block (list_sets box_name next_box_name 0 W.boxes)) (act_tail W))
      (in_first (block (list_sets box_name next_box_name 0 W.boxes)) (act_tail W)
      (block_sets x (list_sets box_name next_box_name 0 W.boxes) h)))

  -- the last statement of a start sets what is held
  in_held : SomeSets x (held_sets 0 n) → Sets x clock
  in_held h = in_reset (go (block_sets x (held_sets 0 n) h))
    where
      go : Sets x (block (held_sets 0 n)) → Sets x (reset_stmt n)
      go h =
          in_second _ _ (in_second _ _ (in_second _ _ (in_second _ _ (in_second _ _ (in_second _ _ (in_second _ _ (in_second _ _
          (in_second _ _ h))))))))

-- ---- each register

module _ (W : Widths) (fs : List Field) (n : ℕ) (b : Bool) (is : List Item) (S R : Store) (h : Settles is S R)
    (stands : Has (clocked (joined_clock_stmt W fs n b)) is) where
  of : (x : String) → Sets x (joined_clock_stmt W fs n b) → R.vec x ≡ S.vec x
  of x s = h.registers x (joined_clock_stmt W fs n b) s stands

  at_zero : (x : String) → sets_it x (zero_stmt_of b) ≡ true → R.vec x ≡ S.vec x
  at_zero x e = of x (in_zero W fs n b x (sets_of x (zero_stmt_of b) e))

  at_fork : (x : String) → sets_it x (fork_stmt W) ≡ true → R.vec x ≡ S.vec x
  at_fork x e = of x (in_fork W fs n b x (sets_of x (fork_stmt W) e))

  at_reset : (x : String) → sets_it x (reset_stmt n) ≡ true → R.vec x ≡ S.vec x
  at_reset x e = of x (in_reset W fs n b x (sets_of x (reset_stmt n) e))

  unit_sets : (c : Bool) → every_name (λ x. sets_it x (unit_stmt c)) (unit_names c) ≡ true
  unit_sets false = refl
  unit_sets true = refl

  pub kept : Regs W fs n b S R
  kept = record {
    fields =
        each_map (λ f. SomeSets f.title (fetch_sets fs)) (λ f. R.vec f.title ≡ S.vec f.title)
        (λ f g. of f.title (in_field W fs n b f.title g)) fs (each_set fs);
    sigs =
        upto_map (λ k. SomeSets (sig_name k) (list_sets sig_name next_sig_name 0 W.sigs)) (λ k. R.vec (sig_name k) ≡ S.vec (sig_name k))
        (λ k g. of (sig_name k) (in_sig W fs n b (sig_name k) g)) 0 W.sigs (list_set sig_name next_sig_name 0 W.sigs);
    boxes =
        upto_map (λ k. SomeSets (box_name k) (list_sets box_name next_box_name 0 W.boxes)) (λ k. R.vec (box_name k) ≡ S.vec (box_name k))
        (λ k g. of (box_name k) (in_box W fs n b (box_name k) g)) 0 W.boxes (list_set box_name next_box_name 0 W.boxes);
    held =
        upto_map (λ k. SomeSets (held_name k) (held_sets 0 n)) (λ k. R.vec (held_name k) ≡ S.vec (held_name k))
        (λ k g. of (held_name k) (in_held W fs n b (held_name k) g)) 0 n (held_set 0 n);
    unit = λ x m. of x (in_unit W fs n b x (sets_of x (unit_stmt b)
        (among_names (λ y. sets_it y (unit_stmt b)) (unit_names b) (unit_sets b) x m)));
    top = at_reset "top" refl;
    cell_has =
        of "cell_has" (in_fetch W fs n b "cell_has" (in_then (logic one_of (name "rst") (none (name "rests")))
        (seq (set "cell_has" (word "cells" (part "looked" (count (W.place + W.tag - 1)) (count W.tag)))) (block (fetch_sets fs))) skip
        (in_first (set "cell_has" (word "cells" (part "looked" (count (W.place + W.tag - 1)) (count W.tag)))) (block (fetch_sets fs))
        (assigns (word "cells" (part "looked" (count (W.place + W.tag - 1)) (count W.tag)))))));
    depth = at_reset "depth" refl;
    fork_has = at_fork "fork_has" refl;
    kept = at_fork "kept" refl;
    fresh = at_reset "fresh" refl;
    ended = at_reset "ended" refl;
    changed = at_zero "changed" refl;
    nonzero = at_zero "nonzero" refl;
    carried = at_reset "carried" refl;
    done = at_reset "done" refl;
    result = at_reset "result" refl;
    full = at_reset "full" refl;
    moves = at_reset "moves" refl;
    mem = h.memories;
  }
