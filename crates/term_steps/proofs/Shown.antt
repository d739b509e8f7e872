-- The part that is rewritten next stands where it is said to stand.
use Rattle.std.proofs.Common.{ℕ, Bool, true, false, cond, List, [], ◌++◌, Option, Some, None, sym, ap, ◌∙◌}
use Rattle.std.proofs.lemmas.List.{append_assoc, append-nil}
use Rattle.std.specs.Prelude.{nat_le, codes}
use Rattle.pcf_values.specs.declared.val.Val.{Val}
use Rattle.pcf_values.specs.Named.{the_succ, the_pred, the_part, the_fun, the_fix, NamedTree, number_at, name_at, word_at}
use Rattle.pcf_values.specs.Named.{binary_at, pair_at, ifz_at, bind_at, apply_at}
use Rattle.pcf_reader.specs.Printed.{fitted, word_text, op_text, op_level, right_level, level, term_text}
use Rattle.term_steps.specs.Spelled.{on_spelled}
use Rattle.term_steps.specs.Names.{named_spelled}
use Rattle.term_steps.specs.Redex.{behind, inside, redex}
use Rattle.term_steps.specs.Laws.{StandsBehind, Shows}
use Rattle.pcf_values.specs.declared.side.Side.TheVariants.{Left, Right}

here : (x : List ℕ) → StandsBehind [] x x
here x = ([], sym (append-nil x))

shows_behind : (z y : List ℕ) (o : Option (List ℕ × NamedTree)) → Shows o y → Shows (behind z o) (z ++ y)
shows_behind z y None h = h
shows_behind z y (Some r) (a, e) = (a, ap (λ y. z ++ y) e ∙ sym (append_assoc z r.0 (term_text r.1 ++ a)))

shows_before : (z y : List ℕ) (o : Option (List ℕ × NamedTree)) → Shows o y → Shows o (y ++ z)
shows_before z y None h = h
shows_before z y (Some r) (a, e) =
    (a ++ z, ap (λ y. y ++ z) e ∙ append_assoc r.0 (term_text r.1 ++ a) z ∙ ap (λ y. r.0 ++ y) (append_assoc (term_text r.1) a z))

shows_inside : (most lev : ℕ) (y : List ℕ) (o : Option (List ℕ × NamedTree)) → Shows o y → Shows (inside most lev o) (fitted most lev y)
shows_inside most lev y o h = go (nat_le lev most)
  where
    go : (t : Bool) → Shows (cond t o (behind (codes "(") o)) (cond t y (codes "(" ++ y ++ codes ")"))
    go true = h
    go false = shows_before (codes ")") (codes "(" ++ y) (behind (codes "(") o) (shows_behind (codes "(") y o h)

shows_spelled : (v : Option Val) (f : Val → Option (List ℕ × NamedTree)) (o : Option (List ℕ × NamedTree)) (y : List ℕ) →
    ((w : Val) → Shows (f w) y) → Shows o y → Shows (on_spelled v f o) y
shows_spelled None f o y h g = g
shows_spelled (Some w) f o y h g = h w

-- the part that is rewritten next stands in the printed term where it is said to stand
pub redex_shows : (t : NamedTree) → Shows (redex t) (term_text t)
redex_shows (number_at at n) = record {}
redex_shows (name_at at x) = record {}
redex_shows (word_at at the_succ a) = shows_spelled (named_spelled (word_at at the_succ a)) (λ v. None)
    (on_spelled (named_spelled a) (λ v. Some ([], word_at at the_succ a)) (behind (word_text the_succ) (inside 0 (level a) (redex a))))
    (term_text (word_at at the_succ a)) (λ v. record {})
    (shows_spelled (named_spelled a) (λ v. Some ([], word_at at the_succ a)) (behind (word_text the_succ) (inside 0 (level a) (redex a)))
    (term_text (word_at at the_succ a)) (λ v. here (term_text (word_at at the_succ a)))
    (shows_behind (word_text the_succ) (fitted 0 (level a) (term_text a)) (inside 0 (level a) (redex a))
    (shows_inside 0 (level a) (term_text a) (redex a) (redex_shows a))))
redex_shows (word_at at the_pred a) =
    shows_spelled (named_spelled a) (λ v. Some ([], word_at at the_pred a)) (behind (word_text the_pred) (inside 0 (level a) (redex a)))
    (term_text (word_at at the_pred a)) (λ v. here (term_text (word_at at the_pred a)))
    (shows_behind (word_text the_pred) (fitted 0 (level a) (term_text a)) (inside 0 (level a) (redex a))
    (shows_inside 0 (level a) (term_text a) (redex a) (redex_shows a)))
redex_shows (word_at at (the_part s) (pair_at i a b)) = here (term_text (word_at at (the_part s) (pair_at i a b)))
redex_shows (word_at at (the_part Left) a) = shows_behind (word_text (the_part Left)) (fitted 0 (level a) (term_text a))
    (inside 0 (level a) (redex a)) (shows_inside 0 (level a) (term_text a) (redex a) (redex_shows a))
redex_shows (word_at at (the_part Right) a) = shows_behind (word_text (the_part Right)) (fitted 0 (level a) (term_text a))
    (inside 0 (level a) (redex a)) (shows_inside 0 (level a) (term_text a) (redex a) (redex_shows a))
redex_shows (binary_at at o a b) =
    let x = fitted (op_level o) (level a) (term_text a) in
    let y = fitted (right_level o) (level b) (term_text b) in
    shows_spelled (named_spelled a)
    (λ v. on_spelled (named_spelled b) (λ w. Some ([], binary_at at o a b)) (behind (x ++ op_text o)
    (inside (right_level o) (level b) (redex b))))
    (inside (op_level o) (level a) (redex a)) (term_text (binary_at at o a b))
    (λ v. shows_spelled (named_spelled b) (λ w. Some ([], binary_at at o a b)) (behind (x ++ op_text o)
    (inside (right_level o) (level b) (redex b))) (term_text (binary_at at o a b))
    (λ w. here (term_text (binary_at at o a b)))
    (shows_behind (x ++ op_text o) y (inside (right_level o) (level b) (redex b))
    (shows_inside (right_level o) (level b) (term_text b) (redex b) (redex_shows b))))
    (shows_before y (x ++ op_text o) (inside (op_level o) (level a) (redex a))
    (shows_before (op_text o) x (inside (op_level o) (level a) (redex a))
    (shows_inside (op_level o) (level a) (term_text a) (redex a) (redex_shows a))))
redex_shows (pair_at at a b) = record {}
redex_shows (ifz_at at c p q) =
    shows_spelled (named_spelled c) (λ v. Some ([], ifz_at at c p q)) (behind (codes "ifz ") (redex c)) (term_text (ifz_at at c p q))
    (λ v. here (term_text (ifz_at at c p q)))
    (shows_before (term_text q) (codes "ifz " ++ term_text c ++ codes " then " ++ term_text p ++ codes " else ")
    (behind (codes "ifz ") (redex c))
    (shows_before (codes " else ") (codes "ifz " ++ term_text c ++ codes " then " ++ term_text p) (behind (codes "ifz ") (redex c))
    (shows_before (term_text p) (codes "ifz " ++ term_text c ++ codes " then ") (behind (codes "ifz ") (redex c))
    (shows_before (codes " then ") (codes "ifz " ++ term_text c) (behind (codes "ifz ") (redex c))
    (shows_behind (codes "ifz ") (term_text c) (redex c) (redex_shows c))))))
redex_shows (bind_at at the_fun x t m) = record {}
redex_shows (bind_at at the_fix x t m) = here (term_text (bind_at at the_fix x t m))
redex_shows (apply_at at (bind_at i the_fun x t m) a) = here (term_text (apply_at at (bind_at i the_fun x t m) a))
redex_shows (apply_at at f a) = shows_before (fitted 0 (level a) (term_text a)) (fitted 1 (level f) (term_text f) ++ codes " ")
    (inside 1 (level f) (redex f)) (shows_before (codes " ") (fitted 1 (level f) (term_text f)) (inside 1 (level f) (redex f))
    (shows_inside 1 (level f) (term_text f) (redex f) (redex_shows f)))
