-- A part to rewrite is there exactly where a step is: both are made by the same clauses.
use Rattle.std.proofs.Common.{◌≡◌, ℕ, Bool, true, false, cond, List, [], Option, Some, None, refl, ◌∙◌}
use Rattle.std.specs.Prelude.{is_some, nat_le, codes, ◌++◌}
use Rattle.std.specs.Option.{option_map}
use Rattle.pcf_values.specs.declared.val.Val.{Val}
use Rattle.pcf_values.specs.Values.{val_succ, val_pred, val_op, at_zero}
use Rattle.pcf_values.specs.Named.{the_succ, the_pred, the_part, the_fun, the_fix, NamedTree, number_at, name_at, word_at}
use Rattle.pcf_values.specs.Named.{binary_at, pair_at, ifz_at, bind_at, apply_at}
use Rattle.pcf_reader.specs.Printed.{fitted, word_text, op_text, op_level, right_level, level, term_text}
use Rattle.term_steps.specs.Spelled.{on_spelled}
use Rattle.term_steps.specs.Names.{named_spelled, named_spell, named_step}
use Rattle.term_steps.specs.Redex.{behind, inside, redex}

there_behind : (z : List ℕ) (o : Option (List ℕ × NamedTree)) → is_some (behind z o) ≡ is_some o
there_behind z None = refl
there_behind z (Some r) = refl

there_inside : (most lev : ℕ) (o : Option (List ℕ × NamedTree)) → is_some (inside most lev o) ≡ is_some o
there_inside most lev o = go (nat_le lev most)
  where
    go : (t : Bool) → is_some (cond t o (behind (codes "(") o)) ≡ is_some o
    go true = refl
    go false = there_behind (codes "(") o

there_map : (f : NamedTree → NamedTree) (o : Option NamedTree) → is_some o ≡ is_some (option_map f o)
there_map f None = refl
there_map f (Some t) = refl

-- a part that moves within a whole
there_on : (z : List ℕ) (most lev : ℕ) (f : NamedTree → NamedTree) (o : Option (List ℕ × NamedTree)) (p : Option NamedTree) →
    is_some o ≡ is_some p → is_some (behind z (inside most lev o)) ≡ is_some (option_map f p)
there_on z most lev f o p e = there_behind z (inside most lev o) ∙ there_inside most lev o ∙ e ∙ there_map f p

there_spelled : (v : Option Val) (f : Val → Option (List ℕ × NamedTree)) (g : Val → Option NamedTree) (o : Option (List ℕ × NamedTree))
    (p : Option NamedTree) → ((w : Val) → is_some (f w) ≡ is_some (g w)) → is_some o ≡ is_some p →
    is_some (on_spelled v f o) ≡ is_some (on_spelled v g p)
there_spelled None f g o p h e = e
there_spelled (Some w) f g o p h e = h w

-- a part that is rewritten next is there exactly where a step is
pub redex_there : (t : NamedTree) → is_some (redex t) ≡ is_some (named_step t)
redex_there (number_at at n) = refl
redex_there (name_at at x) = refl
redex_there (word_at at the_succ a) = there_spelled (named_spelled (word_at at the_succ a)) (λ v. None) (λ v. None)
    (on_spelled (named_spelled a) (λ v. Some ([], word_at at the_succ a)) (behind (word_text the_succ) (inside 0 (level a) (redex a))))
    (on_spelled (named_spelled a) (λ v. Some (named_spell at (val_succ v))) (option_map (λ b. word_at at the_succ b) (named_step a)))
    (λ v. refl)
    (there_spelled (named_spelled a) (λ v. Some ([], word_at at the_succ a)) (λ v. Some (named_spell at (val_succ v)))
    (behind (word_text the_succ) (inside 0 (level a) (redex a))) (option_map (λ b. word_at at the_succ b) (named_step a))
    (λ v. refl) (there_on (word_text the_succ) 0 (level a) (λ b. word_at at the_succ b) (redex a) (named_step a) (redex_there a)))
redex_there (word_at at the_pred a) =
    there_spelled (named_spelled a) (λ v. Some ([], word_at at the_pred a)) (λ v. Some (named_spell at (val_pred v)))
    (behind (word_text the_pred) (inside 0 (level a) (redex a))) (option_map (λ b. word_at at the_pred b) (named_step a))
    (λ v. refl) (there_on (word_text the_pred) 0 (level a) (λ b. word_at at the_pred b) (redex a) (named_step a) (redex_there a))
redex_there (word_at at (the_part s) (pair_at i a b)) = refl
redex_there (word_at at (the_part s) a) =
    there_on (word_text (the_part s)) 0 (level a) (λ b. word_at at (the_part s) b) (redex a) (named_step a) (redex_there a)
redex_there (binary_at at o a b) =
    let z = fitted (op_level o) (level a) (term_text a) ++ op_text o in
    there_spelled (named_spelled a)
    (λ v. on_spelled (named_spelled b) (λ w. Some ([], binary_at at o a b)) (behind z (inside (right_level o) (level b) (redex b))))
    (λ v. on_spelled (named_spelled b) (λ w. Some (named_spell at (val_op o v w))) (option_map (λ c. binary_at at o a c) (named_step b)))
    (inside (op_level o) (level a) (redex a)) (option_map (λ c. binary_at at o c b) (named_step a))
    (λ v. there_spelled (named_spelled b) (λ w. Some ([], binary_at at o a b)) (λ w. Some (named_spell at (val_op o v w)))
    (behind z (inside (right_level o) (level b) (redex b))) (option_map (λ c. binary_at at o a c) (named_step b))
    (λ w. refl) (there_on z (right_level o) (level b) (λ c. binary_at at o a c) (redex b) (named_step b) (redex_there b)))
    (there_inside (op_level o) (level a) (redex a) ∙ redex_there a ∙ there_map (λ c. binary_at at o c b) (named_step a))
redex_there (pair_at at a b) = refl
redex_there (ifz_at at c p q) =
    there_spelled (named_spelled c) (λ v. Some ([], ifz_at at c p q)) (λ v. Some (at_zero v p q))
    (behind (codes "ifz ") (redex c)) (option_map (λ b. ifz_at at b p q) (named_step c))
    (λ v. refl) (there_behind (codes "ifz ") (redex c) ∙ redex_there c ∙ there_map (λ b. ifz_at at b p q) (named_step c))
redex_there (bind_at at the_fun x t m) = refl
redex_there (bind_at at the_fix x t m) = refl
redex_there (apply_at at (bind_at i the_fun x t m) a) = refl
redex_there (apply_at at f a) =
    there_inside 1 (level f) (redex f) ∙ redex_there f ∙ there_map (λ g. apply_at at g a) (named_step f)
