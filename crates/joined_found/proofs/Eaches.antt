-- What holds of each.
use Rattle.std.proofs.Common.{◌≡◌, Bool, true, List, [], ◌∷◌, ◌++◌}
use Rattle.std.proofs.lemmas.Bool.{and_parts}
use Rattle.joined_module.specs.Rows.{ModuleRow}
use Rattle.joined_found.specs.Found.{Each, each_row}

pub each_map : {A : Type 0} (p q : A → Type 0) → ((x : A) → p x → q x) → (xs : List A) → Each p xs → Each q xs
each_map p q f [] h = tt
each_map p q f (x ∷ xs) h = (f x h.0, each_map p q f xs h.1)

pub each_both : {A : Type 0} (p q s : A → Type 0) → ((x : A) → p x → q x → s x) → (xs : List A) → Each p xs → Each q xs → Each s xs
each_both p q s f [] h g = tt
each_both p q s f (x ∷ xs) h g = (f x h.0 g.0, each_both p q s f xs h.1 g.1)

pub each_of : {A : Type 0} (p : A → Type 0) → ((x : A) → p x) → (xs : List A) → Each p xs
each_of p f [] = tt
each_of p f (x ∷ xs) = (f x, each_of p f xs)

pub each_append : {A : Type 0} (p : A → Type 0) (xs ys : List A) → Each p xs → Each p ys → Each p (xs ++ ys)
each_append p [] ys h g = g
each_append p (x ∷ xs) ys h g = (h.0, each_append p xs ys h.1 g)

-- the same as a test
pub each_told : (f : ModuleRow → Bool) (rows : List ModuleRow) → each_row f rows ≡ true → Each (λ r. f r ≡ true) rows
each_told f [] h = tt
each_told f (r ∷ rs) h = let (a, b) = and_parts (f r) (each_row f rs) h in (a, each_told f rs b)

-- of each row for each field, and of each field for each row
pub each_turned : {A B : Type 0} (p : A → B → Type 0) (xs : List A) (ys : List B) → Each (λ x. Each (p x) ys) xs →
    Each (λ y. Each (λ x. p x y) xs) ys
each_turned p xs [] h = tt
each_turned p xs (y ∷ ys) h = (
  each_map (λ x. Each (p x) (y ∷ ys)) (λ x. p x y) (λ x g. g.0) xs h,
  each_turned p xs ys (each_map (λ x. Each (p x) (y ∷ ys)) (λ x. Each (p x) ys) (λ x g. g.1) xs h),
)
