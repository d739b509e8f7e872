-- What is accepted is the term that the tree stands for, with a type that it has.
use Rattle.std.proofs.Common.{◌≡◌, ℕ, List, ◌∷◌, Option, Some, None, Ok, refl, subst}
use Rattle.pcf_values.specs.Terms.{TyTree, nat, arrow, product, at_side, TermTree, num, var, succ_of, pred_of, binary, ifz}
use Rattle.pcf_values.specs.Terms.{lam, fix, app, pair, proj}
use Rattle.pcf_values.specs.Typing.{HasType}
use Rattle.pcf_values.specs.Named.{the_succ, the_pred, the_part, the_fun, the_fix, NamedTree, number_at, name_at, word_at}
use Rattle.pcf_values.specs.Named.{binary_at, pair_at, ifz_at, bind_at, apply_at, place_of}
use Rattle.pcf_types.specs.declared.fault.TypeFault.TheVariants.{FixMismatch, ArgumentMismatch}
use Rattle.pcf_types.specs.Checking.{Context, number, numbers, function, both, of_type, variable, nearest, type_of}
use Rattle.pcf_types.specs.Numbers.{NumbersFit}
use Rattle.pcf_types.specs.Resolution.{Resolves}
use Rattle.pcf_types.specs.Correct.{names_in, types_in}
use Rattle.pcf_types.proofs.Steps.{ok_is, from_go_on, from_number, from_numbers, from_function, from_both, from_of_type}
use Rattle.pcf_types.proofs.Nearest.{nearest_found}

-- the term is the one that the tree stands for, and where each number of the tree is a value it has the type
abbrev pub Good : Context → NamedTree → TermTree × TyTree → Type 0
Good g tree p = Resolves (names_in g) tree p.0 × (NumbersFit tree → HasType (types_in g) p.0 p.1)

-- what is found for a name is good
variable_good : (at : ℕ) (x : List ℕ) (g : Context) (o : Option (ℕ × TyTree)) (p : TermTree × TyTree) → nearest x g ≡ o →
    variable at o ≡ Ok p → Good g (name_at at x) p
variable_good at x g None p e h = cc
variable_good at x g (Some f) p e h =
    let (d, t) = nearest_found x g f e in
    subst (Good g (name_at at x)) (ok_is (var f.0, f.1) p h) ((f.0, d, refl), λ n. t)

-- each tree that is accepted: by recursion on the tree, from what each step of the definition was made of
pub good : (tree : NamedTree) (g : Context) (p : TermTree × TyTree) → type_of g tree ≡ Ok p → Good g tree p
good (number_at at n) g p h = subst (Good g (number_at at n)) (ok_is (num n, nat) p h) (refl, λ l. (l, refl))
good (name_at at x) g p h = variable_good at x g (nearest x g) p refl h
good (word_at at the_succ a) g p h =
    let (m, e, k) = from_go_on (number (place_of a) (type_of g a)) (λ m. Ok (succ_of m, nat)) p h in
    let (r, t) = good a g (m, nat) (from_number (place_of a) (type_of g a) m e) in
    subst (Good g (word_at at the_succ a)) (ok_is (succ_of m, nat) p k) ((m, r, refl), λ l. (t l, refl))
good (word_at at the_pred a) g p h =
    let (m, e, k) = from_go_on (number (place_of a) (type_of g a)) (λ m. Ok (pred_of m, nat)) p h in
    let (r, t) = good a g (m, nat) (from_number (place_of a) (type_of g a) m e) in
    subst (Good g (word_at at the_pred a)) (ok_is (pred_of m, nat) p k) ((m, r, refl), λ l. (t l, refl))
good (word_at at (the_part s) a) g p h =
    let (q, e, k) = from_go_on (both (place_of a) (type_of g a)) (λ p. Ok (proj s p.0, at_side s p.1 p.2)) p h in
    let (r, t) = good a g (q.0, product q.1 q.2) (from_both (place_of a) (type_of g a) q e) in
    subst (Good g (word_at at (the_part s) a)) (ok_is (proj s q.0, at_side s q.1 q.2) p k)
    ((q.0, r, refl), λ l. (q.1, q.2, t l, refl))
good (binary_at at o a b) g p h =
    let ra = number (place_of a) (type_of g a) in
    let rb = number (place_of b) (type_of g b) in
    let (q, e, k) = from_go_on (numbers ra rb) (λ p. Ok (binary o p.0 p.1, nat)) p h in
    let (x, y) = from_numbers ra rb q e in
    let (r, t) = good a g (q.0, nat) (from_number (place_of a) (type_of g a) q.0 x) in
    let (s, u) = good b g (q.1, nat) (from_number (place_of b) (type_of g b) q.1 y) in
    subst (Good g (binary_at at o a b)) (ok_is (binary o q.0 q.1, nat) p k) ((q.0, q.1, r, s, refl), λ l. (t l.0, u l.1, refl))
good (pair_at at a b) g p h =
    let (i, e, k) = from_go_on (type_of g a) _ p h in
    let (j, e', k') = from_go_on (type_of g b) (λ k. Ok (pair i.0 k.0, product i.1 k.1)) p k in
    let (r, t) = good a g i e in
    let (s, u) = good b g j e' in
    subst (Good g (pair_at at a b)) (ok_is (pair i.0 j.0, product i.1 j.1) p k') (
      (i.0, j.0, r, s, refl),
      λ l. (i.1, j.1, t l.0, u l.1, refl),
    )
good (ifz_at at c a b) g p h =
    let ra = number (place_of a) (type_of g a) in
    let rb = number (place_of b) (type_of g b) in
    let (m, e, k) = from_go_on (number (place_of c) (type_of g c)) _ p h in
    let (q, e', k') = from_go_on (numbers ra rb) (λ p. Ok (ifz m p.0 p.1, nat)) p k in
    let (x, y) = from_numbers ra rb q e' in
    let (z, w) = good c g (m, nat) (from_number (place_of c) (type_of g c) m e) in
    let (r, t) = good a g (q.0, nat) (from_number (place_of a) (type_of g a) q.0 x) in
    let (s, u) = good b g (q.1, nat) (from_number (place_of b) (type_of g b) q.1 y) in
    subst (Good g (ifz_at at c a b)) (ok_is (ifz m q.0 q.1, nat) p k') ((m, q.0, q.1, z, r, s, refl), λ l. (w l.0, t l.1, u l.2, refl))
good (bind_at at the_fun x a m) g p h =
    let (j, e, k) = from_go_on (type_of ((x, a) ∷ g) m) (λ j. Ok (lam a j.0, arrow a j.1)) p h in
    let (r, t) = good m ((x, a) ∷ g) j e in
    subst (Good g (bind_at at the_fun x a m)) (ok_is (lam a j.0, arrow a j.1) p k) ((j.0, r, refl), λ l. (j.1, t l, refl))
good (bind_at at the_fix x a m) g p h =
    let (n, e, k) = from_go_on (of_type a (FixMismatch (place_of m)) (type_of ((x, a) ∷ g) m)) (λ n. Ok (fix a n, a)) p h in
    let (r, t) = good m ((x, a) ∷ g) (n, a) (from_of_type a (FixMismatch (place_of m)) (type_of ((x, a) ∷ g) m) n e) in
    subst (Good g (bind_at at the_fix x a m)) (ok_is (fix a n, a) p k) ((n, r, refl), λ l. (t l, refl))
good (apply_at at f a) g p h =
    let (q, e, k) = from_go_on (function (place_of f) (type_of g f)) _ p h in
    let (n, e', k') = from_go_on (of_type q.1 (ArgumentMismatch (place_of a)) (type_of g a)) (λ n. Ok (app q.0 n, q.2)) p k in
    let (r, t) = good f g (q.0, arrow q.1 q.2) (from_function (place_of f) (type_of g f) q e) in
    let (s, u) = good a g (n, q.1) (from_of_type q.1 (ArgumentMismatch (place_of a)) (type_of g a) n e') in
    subst (Good g (apply_at at f a)) (ok_is (app q.0 n, q.2) p k') ((q.0, n, r, s, refl), λ l. (q.1, t l.0, u l.1))
