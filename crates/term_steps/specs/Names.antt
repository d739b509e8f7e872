-- The step on terms with names, as they are read and printed. It is the step of the term with indexes that the tree stands for
-- (`NamesAgree` in `Laws`), and it keeps each name that was written: what is put is closed, so that no binder can catch a name of it.
-- A node that was written keeps its place in the text, wherever it comes to stand; what is computed stands where its operation stood.
use Rattle.std.specs.Prelude.{ℕ, ◌-◌, ◌^◌, List, Option, Some, None, if◌then◌else◌}
use Rattle.std.specs.Option.{option_map}
use Rattle.std.specs.Str.{bytes_eq}
use Rattle.pcf_values.specs.declared.val.Val.{Val}
use Rattle.pcf_values.specs.declared.val.Val.TheVariants.{Number, Overflow}
use Rattle.pcf_values.specs.Values.{val_succ, val_pred, val_op, at_zero}
use Rattle.pcf_values.specs.Terms.{at_side}
use Rattle.pcf_values.specs.Named.{the_succ, the_pred, the_part, the_fun, the_fix, NamedTree, number_at, name_at, word_at}
use Rattle.pcf_values.specs.Named.{binary_at, pair_at, ifz_at, bind_at, apply_at}
use Rattle.term_steps.specs.Spelled.{past, on_spelled}

-- the value that the tree spells
abbrev pub named_spelled : NamedTree → Option Val
named_spelled (number_at _ n) = Some (Number n)
named_spelled (word_at _ the_succ (number_at _ n)) = past (val_succ (Number n))
named_spelled _ = None

-- a tree at this place that spells the value
abbrev pub named_spell : ℕ → Val → NamedTree
named_spell at (Number n) = number_at at n
named_spell at Overflow = word_at at the_succ (number_at at (2 ^ 64 - 1))

-- the closed tree n put for the name x, where no binder inside binds the name again
abbrev pub put : List ℕ → NamedTree → NamedTree → NamedTree
put x n (number_at at k) = number_at at k
put x n (name_at at y) = if bytes_eq x y then n else name_at at y
put x n (word_at at w a) = word_at at w (put x n a)
put x n (binary_at at o a b) = binary_at at o (put x n a) (put x n b)
put x n (pair_at at a b) = pair_at at (put x n a) (put x n b)
put x n (ifz_at at c p q) = ifz_at at (put x n c) (put x n p) (put x n q)
put x n (bind_at at b y t m) = bind_at at b y t (if bytes_eq x y then m else put x n m)
put x n (apply_at at f a) = apply_at at (put x n f) (put x n a)

-- the tree after one step, by the rules of `step`
abbrev pub named_step : NamedTree → Option NamedTree
named_step (number_at _ _) = None
named_step (name_at _ _) = None
named_step (word_at at the_succ a) = on_spelled (named_spelled (word_at at the_succ a)) (λ v. None)
    (on_spelled (named_spelled a) (λ v. Some (named_spell at (val_succ v))) (option_map (λ b. word_at at the_succ b) (named_step a)))
named_step (word_at at the_pred a) = on_spelled (named_spelled a) (λ v. Some (named_spell at (val_pred v)))
    (option_map (λ b. word_at at the_pred b) (named_step a))
named_step (word_at at (the_part s) (pair_at _ a b)) = Some (at_side s a b)
named_step (word_at at (the_part s) a) = option_map (λ b. word_at at (the_part s) b) (named_step a)
named_step (binary_at at o a b) = on_spelled (named_spelled a)
    (λ v. on_spelled (named_spelled b) (λ w. Some (named_spell at (val_op o v w))) (option_map (λ c. binary_at at o a c) (named_step b)))
    (option_map (λ c. binary_at at o c b) (named_step a))
named_step (pair_at _ _ _) = None
named_step (ifz_at at c p q) = on_spelled (named_spelled c) (λ v. Some (at_zero v p q)) (option_map (λ b. ifz_at at b p q) (named_step c))
named_step (bind_at at the_fun x t m) = None
named_step (bind_at at the_fix x t m) = Some (put x (bind_at at the_fix x t m) m)
named_step (apply_at at (bind_at _ the_fun x t m) a) = Some (put x a m)
named_step (apply_at at f a) = option_map (λ g. apply_at at g a) (named_step f)
