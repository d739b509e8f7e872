-- The part that is rewritten next, and where it begins in the printed term: behind which of its bytes.
use Rattle.std.specs.Prelude.{ℕ, nat_le, List, [], ◌++◌, codes, Option, Some, None, if◌then◌else◌}
use Rattle.pcf_values.specs.Named.{the_succ, the_pred, the_part, the_fun, the_fix, NamedTree, number_at, name_at, word_at}
use Rattle.pcf_values.specs.Named.{binary_at, pair_at, ifz_at, bind_at, apply_at}
use Rattle.pcf_reader.specs.Printed.{fitted, word_text, op_text, op_level, right_level, level, term_text}
use Rattle.term_steps.specs.Spelled.{on_spelled}
use Rattle.term_steps.specs.Names.{named_spelled}

-- with this text in front
abbrev pub behind : List ℕ → Option (List ℕ × NamedTree) → Option (List ℕ × NamedTree)
behind z None = None
behind z (Some r) = Some (z ++ r.0, r.1)

-- within what `fitted` puts in parentheses
abbrev pub inside : ℕ → ℕ → Option (List ℕ × NamedTree) → Option (List ℕ × NamedTree)
inside most level o = if nat_le level most then o else behind (codes "(") o

-- the part that is rewritten next, and the text that stands before it in the printed term
abbrev pub redex : NamedTree → Option (List ℕ × NamedTree)
redex (number_at _ _) = None
redex (name_at _ _) = None
redex (word_at at the_succ a) = on_spelled (named_spelled (word_at at the_succ a)) (λ v. None)
    (on_spelled (named_spelled a) (λ v. Some ([], word_at at the_succ a)) (behind (word_text the_succ) (inside 0 (level a) (redex a))))
redex (word_at at the_pred a) = on_spelled (named_spelled a) (λ v. Some ([], word_at at the_pred a))
    (behind (word_text the_pred) (inside 0 (level a) (redex a)))
redex (word_at at (the_part s) (pair_at i a b)) = Some ([], word_at at (the_part s) (pair_at i a b))
redex (word_at at (the_part s) a) = behind (word_text (the_part s)) (inside 0 (level a) (redex a))
redex (binary_at at o a b) = on_spelled (named_spelled a)
    (λ v. on_spelled (named_spelled b) (λ w. Some ([], binary_at at o a b))
    (behind (fitted (op_level o) (level a) (term_text a) ++ op_text o) (inside (right_level o) (level b) (redex b))))
    (inside (op_level o) (level a) (redex a))
redex (pair_at _ _ _) = None
redex (ifz_at at c p q) = on_spelled (named_spelled c) (λ v. Some ([], ifz_at at c p q)) (behind (codes "ifz ") (redex c))
redex (bind_at at the_fun x t m) = None
redex (bind_at at the_fix x t m) = Some ([], bind_at at the_fix x t m)
redex (apply_at at (bind_at i the_fun x t m) a) = Some ([], apply_at at (bind_at i the_fun x t m) a)
redex (apply_at at f a) = inside 1 (level f) (redex f)
