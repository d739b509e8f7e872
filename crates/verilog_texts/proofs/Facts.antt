-- What a module that is well formed has: names that are declared, and numbers that their text tells.
use Rattle.std.proofs.Common.{◌≡◌, ℕ, suc, ◌+◌, ◌^◌, ◌<◌, Bool, true, List, [], ◌∷◌, refl, arith}
use Rattle.std.specs.Prelude.{not, ◌&&◌}
use Rattle.std.proofs.lemmas.Bool.{and_parts, ltb-true}
use Prim.Native.String.{String}
use Rattle.verilog_tree.specs.Tree.{Size, count, named, more, less, Expr, num, sized, const, name, bit, part, word, cat, inverse, two}
use Rattle.verilog_tree.specs.Tree.{shift, test, logic, none, any, every, pick, Target, whole, word_at, Stmt, skip, put, seq, branch, cases}
use Rattle.verilog_tree.specs.Tree.{Arms, otherwise, arm, Width, one, upto, wide, Item, note, gap, size, constant, input, output, reg}
use Rattle.verilog_tree.specs.Tree.{memory, wire, settles, clocked}
use Rattle.verilog_tree.specs.Meaning.{Scope, amount}
use Rattle.verilog_tree.specs.Print.{bits_text, parts_text}
use Rattle.verilog_tree.specs.WellFormed.{Entry, of_kind, register, is_memory, is_clock, member, identifier, said_ok, taken, new}
use Rattle.verilog_tree.specs.WellFormed.{size_ok, width_ok, expr_ok, exprs_ok, sets_first, first_reads, apart, target_ok, stmt_ok, arms_ok}
use Rattle.verilog_tree.specs.WellFormed.{targets, declared, driven, number_width, item_ok, items_ok, small, told, size_fits, limits_of}
use Rattle.verilog_tree.specs.WellFormed.{Limits, width_fits, expr_fits, plain, labels_fit, target_fits, stmt_fits, arms_fit, item_fits}
use Rattle.verilog_tree.specs.WellFormed.{items_fit}
use Rattle.verilog_texts.specs.Small.{names_ok, SmallSize, Small}
use Rattle.verilog_texts.proofs.Pieces.{all, digit, digits_of, declared_word}
use Rattle.verilog_texts.proofs.Printed.{Told, ToldTarget, ToldLabels, ToldStmt, ToldArms}
use Rattle.verilog_texts.proofs.Whole.{ToldSize, ToldWidth, ToldItem, ToldItems, names_more}

told_number : (n : ℕ) → told n ≡ true → n < 10 ^ 64
told_number n h = ltb-true n (10 ^ 64) h

small_number : (n : ℕ) → small n ≡ true → n < 2 ^ 31
small_number n h = ltb-true n (2 ^ 31) h

small_told : (n : ℕ) → small n ≡ true → n < 10 ^ 64
small_told n h = let l = small_number n h in omega (arith, l)

small_size : (p : String → ℕ) (s : Size) → size_fits p s ≡ true → SmallSize s
small_size p (count n) h = small_told n h
small_size p (named x) h = tt
small_size p (more a b) h =
    let q = and_parts (size_fits p a) (size_fits p b) (and_parts (small (amount p a + amount p b)) (size_fits p a && size_fits p b) h).1 in
    (small_size p a q.0, small_size p b q.1)
small_size p (less a b) h =
    let q = and_parts (size_fits p a) (size_fits p b) (and_parts _ (size_fits p a && size_fits p b) h).1 in
    (small_size p a q.0, small_size p b q.1)

module _ (P : Scope) (q : String → Bool) where
  abbrev L : Limits
  L = limits_of P q

  small_expr : (e : Expr) → expr_fits L e ≡ true → Small e
  small_expr (num n) h = small_told n h
  small_expr (sized v n) h = let u = and_parts (small v) (told n) h in (small_told v u.0, told_number n u.1)
  small_expr (const x) h = tt
  small_expr (name x) h = tt
  small_expr (bit x e) h = small_expr e (and_parts (L.at_bit x e) (expr_fits L e) h).1
  small_expr (part x i j) h =
      let b = and_parts (size_fits P.param i) (size_fits P.param j) (and_parts _ (size_fits P.param i && size_fits P.param j) h).1 in
      (small_size P.param i b.0, small_size P.param j b.1)
  small_expr (word m e) h = small_expr e (and_parts (L.at_word m e) (expr_fits L e) h).1
  small_expr (cat a b) h =
      let u = and_parts (expr_fits L a) (expr_fits L b) (and_parts _ (expr_fits L a && expr_fits L b) h).1 in
      (small_expr a u.0, small_expr b u.1)
  small_expr (inverse a) h = small_expr a h
  small_expr (two o a b) h =
      let u = and_parts (expr_fits L a) (expr_fits L b) h in
      (small_expr a u.0, small_expr b u.1)
  small_expr (shift o a b) h =
      let u = and_parts (expr_fits L a) (expr_fits L b) h in
      (small_expr a u.0, small_expr b u.1)
  small_expr (test o a b) h =
      let u = and_parts (expr_fits L a) (expr_fits L b) (and_parts _ (expr_fits L a && expr_fits L b) h).1 in
      (small_expr a u.0, small_expr b u.1)
  small_expr (logic o a b) h =
      let u = and_parts (expr_fits L a) (expr_fits L b) h in
      (small_expr a u.0, small_expr b u.1)
  small_expr (none a) h = small_expr a h
  small_expr (any a) h = small_expr a h
  small_expr (every a) h = small_expr a h
  small_expr (pick c a b) h =
      let u = and_parts (expr_fits L c) (expr_fits L a && expr_fits L b) h in
      let x = and_parts (expr_fits L a) (expr_fits L b) u.1 in
      (small_expr c u.0, small_expr a x.0, small_expr b x.1)

  module _ (env : List Entry) (names : names_ok env ≡ true) where
    told_expr : (e : Expr) → expr_ok env e ≡ true → expr_fits L e ≡ true → Told env e
    told_expr e o f = (o, small_expr e f)

    told_target : (mine : List String) (t : Target) → target_ok env mine t ≡ true → target_fits L t ≡ true →
        ToldTarget env t
    told_target mine (whole x) o f =
        declared_word register env x names (and_parts (of_kind register env x) (member x mine) o).0
    told_target mine (word_at m e) o f =
        let u = and_parts (of_kind is_memory env m) (member m mine && expr_ok env e) o in
        (declared_word is_memory env m names u.0, told_expr e (and_parts (member m mine) (expr_ok env e) u.1).1 f)

    told_labels : (e : Expr) (es : List Expr) → exprs_ok env (e ∷ es) ≡ true → labels_fit L (e ∷ es) ≡ true →
        Told env e × ToldLabels env es
    told_labels e [] o f =
        (told_expr e (and_parts (expr_ok env e) true o).0 f, tt)
    told_labels e (d ∷ es) o f =
        let a = and_parts (expr_ok env e) (exprs_ok env (d ∷ es)) o in
        let b = and_parts (expr_fits L e) (labels_fit L (d ∷ es)) f in
        (told_expr e a.0 b.0, told_labels d es a.1 b.1)

    mutual
      pub told_stmt : (mine : List String) (s : Stmt) → stmt_ok env mine s ≡ true → stmt_fits L s ≡ true →
          ToldStmt env s
      told_stmt mine skip o f = tt
      told_stmt mine (put t e) o f =
          let a = and_parts (target_ok env mine t) (expr_ok env e) o in
          let b = and_parts (target_fits L t) (expr_fits L e) f in
          (told_target mine t a.0 b.0, told_expr e a.1 b.1)
      told_stmt mine (seq s t) o f =
          let a = and_parts (stmt_ok env mine s) (stmt_ok env mine t) o in
          let b = and_parts (stmt_fits L s) (stmt_fits L t) f in
          (told_stmt mine s a.0 b.0, told_stmt mine t a.1 b.1)
      told_stmt mine (branch e s t) o f =
          let a = and_parts (expr_ok env e) (stmt_ok env mine s && stmt_ok env mine t) o in
          let b = and_parts (expr_fits L e) (stmt_fits L s && stmt_fits L t) f in
          let x = and_parts (stmt_ok env mine s) (stmt_ok env mine t) a.1 in
          let y = and_parts (stmt_fits L s) (stmt_fits L t) b.1 in
          (told_expr e a.0 b.0, told_stmt mine s x.0 y.0, told_stmt mine t x.1 y.1)
      told_stmt mine (cases e arms) o f =
          let a = and_parts (expr_ok env e) (arms_ok env mine arms) o in
          let b = and_parts (expr_fits L e) (arms_fit L arms) f in
          (told_expr e a.0 b.0, told_arms mine arms a.1 b.1)

      told_arms : (mine : List String) (arms : Arms) → arms_ok env mine arms ≡ true → arms_fit L arms ≡ true →
          ToldArms env arms
      told_arms mine (otherwise s) o f = told_stmt mine s o f
      told_arms mine (arm [] s c arms) o f = absurd cc
      told_arms mine (arm (e ∷ es) s c arms) o f =
          let a = and_parts (exprs_ok env (e ∷ es) && (stmt_ok env mine s && said_ok c)) (arms_ok env mine arms) o in
          let d = and_parts (exprs_ok env (e ∷ es)) (stmt_ok env mine s && said_ok c) a.0 in
          let g = and_parts (stmt_ok env mine s) (said_ok c) d.1 in
          let b = and_parts (labels_fit L (e ∷ es) && plain (parts_text c)) (stmt_fits L s && arms_fit L arms) f in
          let x = and_parts (stmt_fits L s) (arms_fit L arms) b.1 in
          let l = told_labels e es d.0 (and_parts (labels_fit L (e ∷ es)) (plain (parts_text c)) b.0).0 in
          (l.0, l.1, told_stmt mine s g.0 x.0, g.1, told_arms mine arms a.1 x.1)

    told_size : (s : Size) → size_ok env s ≡ true → size_fits P.param s ≡ true → ToldSize env s
    told_size s o f = (o, small_size P.param s f)

    told_width : (w : Width) → width_ok env w ≡ true → width_fits L w ≡ true → ToldWidth env w
    told_width one o f = tt
    told_width (upto h) o f = told_size h o f
    told_width (wide k) o f = told_size k o (and_parts _ (size_fits P.param k) f).1

    number_told : (w : Width) → number_width w ≡ true → width_fits L w ≡ true → ToldWidth env w
    number_told one o f = tt
    number_told (upto (count n)) o f = told_size (count n) refl f
    number_told (wide (count n)) o f = told_size (count n) refl (and_parts _ (size_fits P.param (count n)) f).1
    number_told (upto (named x)) o f = absurd cc
    number_told (upto (more a b)) o f = absurd cc
    number_told (upto (less a b)) o f = absurd cc
    number_told (wide (named x)) o f = absurd cc
    number_told (wide (more a b)) o f = absurd cc
    number_told (wide (less a b)) o f = absurd cc

    number_digits : (w : Width) → number_width w ≡ true → width_fits L w ≡ true → all digit (bits_text w) ≡ true
    number_digits one o f = refl
    number_digits (upto (count n)) o f = let l = small_number n f in (digits_of (suc n) (omega (arith, l))).each
    number_digits (wide (count n)) o f = (digits_of n (small_told n (and_parts _ (size_fits P.param (count n)) f).1)).each
    number_digits (upto (named x)) o f = absurd cc
    number_digits (upto (more a b)) o f = absurd cc
    number_digits (upto (less a b)) o f = absurd cc
    number_digits (wide (named x)) o f = absurd cc
    number_digits (wide (more a b)) o f = absurd cc
    number_digits (wide (less a b)) o f = absurd cc

    new_name : (x : String) → new env x ≡ true → identifier x ≡ true
    new_name x h = (and_parts (identifier x) (not (taken env x)) h).0

    told_item : (ds : List String) (i : Item) → item_ok env ds i ≡ true → item_fits L i ≡ true → ToldItem env i
    told_item ds (note s) o f = o
    told_item ds gap o f = tt
    told_item ds (size x n) o f = (new_name x o, small_told n f)
    told_item ds (constant v x n) o f =
        let a = and_parts (new env x) (number_width v) o in
        let b = and_parts (width_fits L v) (told n) f in
        (new_name x a.0, number_told v a.1 b.0, number_digits v a.1 b.0, told_number n b.1)
    told_item ds (input v x) o f = let a = and_parts (new env x) (width_ok env v) o in (new_name x a.0, told_width v a.1 f)
    told_item ds (output v x) o f = let a = and_parts (new env x) (width_ok env v) o in (new_name x a.0, told_width v a.1 f)
    told_item ds (reg v x) o f = let a = and_parts (new env x) (width_ok env v) o in (new_name x a.0, told_width v a.1 f)
    told_item ds (memory v x k) o f =
        let a = and_parts (new env x) (width_ok env v && size_ok env k) o in
        let c = and_parts (width_ok env v) (size_ok env k) a.1 in
        let b = and_parts (width_fits L v) (L.positive k) f in
        (new_name x a.0, told_width v c.0 b.0, told_size k c.1 (and_parts _ (size_fits P.param k) b.1).1)
    told_item ds (wire v x e) o f =
        let a = and_parts (new env x) (width_ok env v && expr_ok env e) o in
        let c = and_parts (width_ok env v) (expr_ok env e) a.1 in
        let b = and_parts (width_fits L v) (expr_fits L e) f in
        (new_name x a.0, told_width v c.0 b.0, told_expr e c.1 b.1)
    told_item ds (settles s) o f =
        told_stmt (sets_first s) s (and_parts (apart (sets_first s) ds && first_reads (sets_first s) s) (stmt_ok env (sets_first s) s)
        o).1 f
    told_item ds (clocked s) o f =
        told_stmt (targets s) s (and_parts (of_kind is_clock env "clk" && apart (targets s) ds) (stmt_ok env (targets s) s) o).1 f

  pub told_items : (is : List Item) (env : List Entry) (ds : List String) → names_ok env ≡ true → items_ok env ds is ≡ true →
      items_fit L is ≡ true → ToldItems env is
  told_items [] env ds n o f = tt
  told_items (i ∷ is) env ds n o f =
      let a = and_parts (item_ok env ds i) (items_ok (declared env i) (driven ds i) is) o in
      let b = and_parts (item_fits L i) (items_fit L is) f in
      let h = told_item env n ds i a.0 b.0 in
      (h, told_items is (declared env i) (driven ds i) (names_more env i n h) a.1 b.1)
