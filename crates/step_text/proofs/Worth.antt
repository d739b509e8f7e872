-- What the value that is told is worth.
use Rattle.std.proofs.Common.{◌≡◌, ◌+◌, ◌<◌, ◌⊎◌, ℕ, zero, suc, Bool, true, false, cond, List, [], ◌++◌, Option, Some, None, refl, sym}
use Rattle.std.proofs.Common.{◌∙◌, subst, inl, inr, arith}
use Rattle.std.proofs.lemmas.Bool.{leb-false}
use Rattle.std.specs.Prelude.{nat_le}
use Rattle.pcf_values.specs.declared.val.Val.{Val}
use Rattle.pcf_values.specs.Named.{NamedTree}
use Rattle.pcf_values.specs.NamedSize.{named_size}
use Rattle.pcf_values.specs.Terms.{TermTree, nat}
use Rattle.pcf_values.specs.Typing.{HasType}
use Rattle.pcf_types.specs.Resolution.{Resolves}
use Rattle.cbn_meaning.specs.Meaning.{Means}
use Rattle.term_steps.specs.Steps.{spelled, step}
use Rattle.term_steps.specs.Names.{named_spelled, named_step}
use Rattle.term_steps.specs.Laws.{Agree}
use Rattle.term_steps.proofs.Agree.{step_agrees, spelled_agrees}
use Rattle.term_steps.proofs.Ending.{spelled_means}
use Rattle.term_steps.proofs.Keeps.{step_means}
use Rattle.term_steps.proofs.Typed.{step_typed, nat_goes}
use Rattle.step_text.specs.Lines.{line_in}
use Rattle.step_text.specs.Courses.{next_term, Course, on_next, goes_on, course, course_value}

-- the step of the tree, where there is room for it
step_from : (room : ℕ) (t n : NamedTree) → next_term room t ≡ Some n → named_step t ≡ Some n
step_from room t n = go (nat_le (named_size t) room)
  where
    go : (b : Bool) → cond b (named_step t) None ≡ Some n → named_step t ≡ Some n
    go true e = e
    go false e = cc

-- the term for which the next tree stands
next_stands : (t n : NamedTree) (m : TermTree) → Resolves [] t m → named_step t ≡ Some n →
    (p : TermTree) × (step m ≡ Some p) × Resolves [] n p
next_stands t n m r e = go (step m) refl (subst (λ o. Agree o (step m)) e (step_agrees t m r))
  where
    go : (o : Option TermTree) → step m ≡ o → Agree (Some n) (step m) → (p : TermTree) × (step m ≡ Some p) × Resolves [] n p
    go None f a = elim (subst (λ o. Agree (Some n) o) f a) [ ]
    go (Some p) f a = (p, f, subst (λ o. Agree (Some n) o) f a)

spelled_meant : (t : NamedTree) (m : TermTree) (v : Val) → Resolves [] t m → named_spelled t ≡ Some v → Means m v
spelled_meant t m v r e = spelled_means m v (sym (spelled_agrees t m r) ∙ e)

-- how a reduction goes on by the next term, if there is one
abbrev after : (from most room b k : ℕ) → List ℕ → NamedTree → Option NamedTree → Course
after from most room b k lines t o = on_next o (record { steps = k; last = t; lines = lines })
    (λ n. goes_on from most room b (suc k) (lines ++ line_in from most k t) n)

-- the value that is told is meant
meant : (from most room b k : ℕ) (lines : List ℕ) (t : NamedTree) (m : TermTree) (v : Val) → Resolves [] t m →
    course_value (goes_on from most room b k lines t) ≡ Some v → Means m v
meant from most room zero k lines t m v r e = spelled_meant t m v r e
meant from most room (suc b) k lines t m v r e =
    go (next_term room t) refl (λ n p. meant from most room b (suc k) (lines ++ line_in from most k t) n p v) e
  where
    go : (o : Option NamedTree) → next_term room t ≡ o → ((n : NamedTree) (p : TermTree) → Resolves [] n p →
        course_value (goes_on from most room b (suc k) (lines ++ line_in from most k t) n) ≡ Some v → Means p v) →
        course_value (after from most room b k lines t o) ≡ Some v → Means m v
    go None f later e = spelled_meant t m v r e
    go (Some n) f later e =
        let (p, g, s) = next_stands t n m r (step_from room t n f) in
        (step_means m p g v).1 (later n p s e)

pub told_is_meant : (from most room budget : ℕ) (t : NamedTree) (m : TermTree) (v : Val) → Resolves [] t m →
    course_value (course from most room budget t) ≡ Some v → Means m v
told_is_meant from most room budget t m v r e = meant from most room budget 0 [] t m v r e

-- a term of type nat that spells no value and has no step that there is room for has too many nodes
too_large : (room : ℕ) (t : NamedTree) (m : TermTree) → Resolves [] t m → HasType [] m nat → next_term room t ≡ None →
    named_spelled t ≡ None → room < named_size t
too_large room t m r h f e = go (nat_le (named_size t) room) refl f (nat_goes m h)
  where
    go : (b : Bool) → nat_le (named_size t) room ≡ b → cond b (named_step t) None ≡ None →
        ((v : Val) × (spelled m ≡ Some v)) ⊎ ((n : TermTree) × (step m ≡ Some n)) → room < named_size t
    go false l g moves = leb-false (named_size t) room l
    go true l g (inl (v, s)) = let z : None ≡ Some v = sym e ∙ (spelled_agrees t m r ∙ s) in cc
    go true l g (inr (n, s)) = elim (subst (λ o. Agree None o) s (subst (λ o. Agree o (step m)) g (step_agrees t m r))) [ ]

none : (from most room b k : ℕ) (lines : List ℕ) (t : NamedTree) (m : TermTree) → Resolves [] t m → HasType [] m nat →
    course_value (goes_on from most room b k lines t) ≡ None →
    ((goes_on from most room b k lines t).steps ≡ k + b) ⊎ (room < named_size (goes_on from most room b k lines t).last)
none from most room zero k lines t m r h e = inl (omega arith)
none from most room (suc b) k lines t m r h e =
    go (next_term room t) refl (λ n p. none from most room b (suc k) (lines ++ line_in from most k t) n p) e
  where
    one_less : (c : Course) → (c.steps ≡ suc k + b) ⊎ (room < named_size c.last) → (c.steps ≡ k + suc b) ⊎ (room < named_size c.last)
    one_less c (inl x) = inl (omega (arith, x))
    one_less c (inr y) = inr y

    go : (o : Option NamedTree) → next_term room t ≡ o → ((n : NamedTree) (p : TermTree) → Resolves [] n p → HasType [] p nat →
        course_value (goes_on from most room b (suc k) (lines ++ line_in from most k t) n) ≡ None →
        ((goes_on from most room b (suc k) (lines ++ line_in from most k t) n).steps ≡ suc k + b)
        ⊎ (room < named_size (goes_on from most room b (suc k) (lines ++ line_in from most k t) n).last)) →
        course_value (after from most room b k lines t o) ≡ None →
        ((after from most room b k lines t o).steps ≡ k + suc b) ⊎ (room < named_size (after from most room b k lines t o).last)
    go None f later e = inr (too_large room t m r h f e)
    go (Some n) f later e =
        let (p, g, s) = next_stands t n m r (step_from room t n f) in
        one_less (goes_on from most room b (suc k) (lines ++ line_in from most k t) n) (later n p s (step_typed m p nat h g) e)

pub none_is_limit : (from most room budget : ℕ) (t : NamedTree) (m : TermTree) → Resolves [] t m → HasType [] m nat →
    course_value (course from most room budget t) ≡ None →
    ((course from most room budget t).steps ≡ budget) ⊎ (room < named_size (course from most room budget t).last)
none_is_limit from most room budget t m r h e = go (none from most room budget 0 [] t m r h e)
  where
    go : ((course from most room budget t).steps ≡ 0 + budget) ⊎ (room < named_size (course from most room budget t).last) →
        ((course from most room budget t).steps ≡ budget) ⊎ (room < named_size (course from most room budget t).last)
    go (inl x) = inl (omega (arith, x))
    go (inr y) = inr y
