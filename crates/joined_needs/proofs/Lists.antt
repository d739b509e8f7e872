-- Lists of pointers, cells and forks.
use Rattle.std.proofs.Common.{◌≡◌, ◌<◌, ◌≤◌, ◌-◌, ℕ, zero, suc, List, [], ◌∷◌, ◌++◌, length, get_or, slice_set, take, Vec}
use Rattle.std.proofs.Common.{refl, sym, ap, ◌∙◌, ⊎_elim, arith}
use Rattle.std.specs.Prelude.{nat_eq, if◌then◌else◌}
use Rattle.std.proofs.lemmas.Bool.{cases_eq, eq-eqb, ne_eqb}
use Rattle.std.proofs.lemmas.List.{length-append}
use Rattle.std.specs.declared.alloc.Global.{Global}
use Rattle.joined_module.specs.Machine.{RowFork, innermost, around}
use Rattle.joined_needs.specs.Views.{pointers_of, cell_at, cells_of, open_of, forks_of}
use Rattle.joined_needs.specs.Making.{Taken}
use Rattle.joined_needs.specs.declared.walk.Pointer.{Pointer}
use Rattle.joined_needs.specs.declared.walk.Open.{Open}

-- ---- cells

-- one that is there
pub cell_there : (cs : List (Vec Pointer Global)) (c : Vec Pointer Global) (n : ℕ) → n < length cs → c ≡ get_or cs n c →
    pointers_of c ≡ cell_at (cells_of cs) n
cell_there [] c n l e = absurd (omega arith)
cell_there (x ∷ cs) c zero l e = ap pointers_of e
cell_there (x ∷ cs) c (suc n) l e = cell_there cs c n (omega arith) e

-- and one that isn't
pub cell_none : (cs : List (Vec Pointer Global)) (n : ℕ) → length cs ≤ n → [] ≡ cell_at (cells_of cs) n
cell_none [] n l = refl
cell_none (x ∷ cs) zero l = absurd (omega arith)
cell_none (x ∷ cs) (suc n) l = cell_none cs n (omega arith)

-- one more without words
pub cell_more : (cs : List (Vec Pointer Global)) (c : Vec Pointer Global) (n : ℕ) → pointers_of c ≡ [] →
    cell_at (cells_of (cs ++ c ∷ [])) n ≡ cell_at (cells_of cs) n
cell_more [] c zero e = e
cell_more [] c (suc n) e = refl
cell_more (x ∷ cs) c zero e = refl
cell_more (x ∷ cs) c (suc n) e = cell_more cs c n e

-- another one at a place
pub cell_put : (cs : List (Vec Pointer Global)) (c : Vec Pointer Global) (n j : ℕ) → n < length cs →
    cell_at (cells_of (slice_set cs n c)) j ≡ (if nat_eq j n then pointers_of c else cell_at (cells_of cs) j)
cell_put [] c n j l = absurd (omega (arith, l))
cell_put (x ∷ cs) c zero zero l = refl
cell_put (x ∷ cs) c zero (suc j) l = rw (ne_eqb (suc j) 0 (λ e. omega (arith, e))) refl
cell_put (x ∷ cs) c (suc n) zero l = rw (ne_eqb 0 (suc n) (λ e. omega (arith, e))) refl
cell_put (x ∷ cs) c (suc n) (suc j) l = rw step (cell_put cs c n j (omega (arith, l)))
  where
    step : nat_eq (suc j) (suc n) ≡ nat_eq j n
    step = ⊎_elim (λ e. eq-eqb (suc j) (suc n) (ap suc e) ∙ sym (eq-eqb j n e))
        (λ h. ne_eqb (suc j) (suc n) (λ e. h (omega (arith, e))) ∙ sym (ne_eqb j n h)) (cases_eq j n)

-- ---- forks

-- the innermost stands last
pub forks_back : (fs : List Open) (f : Open) → forks_of (fs ++ f ∷ []) ≡ open_of f ∷ forks_of fs
forks_back [] f = refl
forks_back (g ∷ fs) f = ap (λ xs. xs ++ open_of g ∷ []) (forks_back fs f)

-- as many
pub forks_long : (fs : List Open) → length (forks_of fs) ≡ length fs
forks_long [] = refl
forks_long (f ∷ fs) = let h = length-append (forks_of fs) (open_of f ∷ []) in let i = forks_long fs in omega (arith, h, i)

-- the last one of a list
last_is : (fs : List Open) (f : Open) (n : ℕ) → length fs ≡ suc n → f ≡ get_or fs n f → fs ≡ take n fs ++ f ∷ []
last_is [] f n l e = absurd (omega (arith, l))
last_is (g ∷ []) f zero l e = ap (λ x. x ∷ []) (sym e)
last_is (g ∷ h ∷ fs) f zero l e = absurd (omega (arith, l))
last_is (g ∷ fs) f (suc n) l e = ap (λ xs. g ∷ xs) (last_is fs f n (omega (arith, l)) e)

pub innermost_is : (fs : List Open) (f : Open) → 0 < length fs → f ≡ get_or fs (length fs - 1) f → innermost (forks_of fs) ≡ open_of f
innermost_is fs f l e =
    let n : ℕ = length fs - 1 in
    ap (λ gs. innermost (forks_of gs)) (last_is fs f n (omega (arith, l)) e) ∙ ap innermost (forks_back (take n fs) f)

-- what is left where the innermost was taken off, and what was taken
pub taken_some : (old new : List Open) (f : Open) → old ≡ new ++ f ∷ [] → Taken old new (open_of f)
taken_some old new f e = record {
  innermost = sym (ap (λ fs. innermost (forks_of fs)) e ∙ ap innermost (forks_back new f));
  around = sym (ap (λ fs. around (forks_of fs)) e ∙ ap around (forks_back new f));
}

pub taken_none : (old new : List Open) (f : RowFork) → old ≡ new ++ [] → length old ≡ 0 → f ≡ innermost [] → Taken old new f
taken_none [] [] f e l is = record { innermost = is; around = refl }
taken_none [] (g ∷ fs) f e l is = absurd cc
taken_none (g ∷ fs) new f e l is = absurd (omega (arith, l))
