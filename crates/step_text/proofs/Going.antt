-- One step more of a reduction.
use Rattle.std.proofs.Common.{◌≡◌, ◌+◌, ◌<◌, ◌-◌, ℕ, zero, suc, List, ◌++◌, Some, None, refl, sym, ap, ◌∙◌, subst, arith}
use Rattle.pcf_values.specs.Named.{NamedTree}
use Rattle.step_text.specs.Lines.{line_in}
use Rattle.step_text.specs.Courses.{next_term, Course, on_next, goes_on}

one_more : (from most room b k : ℕ) (lines : List ℕ) (t n : NamedTree) → next_term room t ≡ Some n →
    goes_on from most room (suc b) k lines t ≡ goes_on from most room b (suc k) (lines ++ line_in from most k t) n
one_more from most room b k lines t n e =
    ap (λ o. on_next o (record { steps = k; last = t; lines = lines })
    (λ n. goes_on from most room b (suc k) (lines ++ line_in from most k t) n)) e

-- where a step is made and its line is written, what goes on from there is what goes on from before
moves_on : (from most room budget k : ℕ) (lines new : List ℕ) (t n : NamedTree) (c : Course) → k < budget →
    next_term room t ≡ Some n → new ≡ lines ++ line_in from most k t → goes_on from most room (budget - k) k lines t ≡ c →
    goes_on from most room (budget - suc k) (suc k) new n ≡ c
moves_on from most room budget k lines new t n c below stepped printed ends =
    ap (λ z. goes_on from most room (budget - suc k) (suc k) z n) printed
    ∙ sym (one_more from most room (budget - suc k) k lines t n stepped)
    ∙ ap (λ b. goes_on from most room b k lines t) left
    ∙ ends
  where
    left : suc (budget - suc k) ≡ budget - k
    left = omega (arith, below)

next_place : (k : ℕ) → suc k ≡ k + 1
next_place k = omega arith

-- a step that there is, within the budget
pub goes : (from most room budget k : ℕ) (lines new : List ℕ) (t n : NamedTree) (c : Course) → k < budget →
    next_term room t ≡ Some n → new ≡ lines ++ line_in from most k t → goes_on from most room (budget - k) k lines t ≡ c →
    goes_on from most room (budget - (k + 1)) (k + 1) new n ≡ c
goes from most room budget k lines new t n c l e f h =
    subst (λ j. goes_on from most room (budget - j) j new n ≡ c) (next_place k) (moves_on from most room budget k lines new t n c l e f h)

-- no step that there is
pub stays : (from most room b k : ℕ) (lines : List ℕ) (t : NamedTree) → next_term room t ≡ None →
    goes_on from most room b k lines t ≡ record { steps = k; last = t; lines = lines }
stays from most room zero k lines t e = refl
stays from most room (suc b) k lines t e =
    ap (λ o. on_next o (record { steps = k; last = t; lines = lines })
    (λ n. goes_on from most room b (suc k) (lines ++ line_in from most k t) n)) e
