-- What a row's statement sets: each found field to the row's number, where all were idle, and nothing else.
use Rattle.std.proofs.Common.{◌≡◌, ◌<◌, ℕ, ◌^◌, Bool, true, false, not, List, [], ◌∷◌, Option, Some, None, refl, sym, ap, ◌∙◌}
use Rattle.std.proofs.Common.{nat_eq, subst}
use Rattle.std.proofs.lemmas.Bool.{and_parts, not-true, eqb-true}
use Prim.Native.String.{String}
use lib.Text.{eqt}
use Rattle.verilog_tree.specs.Tree.{Stmt, skip, sized, whole}
use Rattle.verilog_tree.specs.Meaning.{Scope, Store, fit, chosen, run, write}
use Rattle.verilog_tree.proofs.Numbers.{fits}
use Rattle.verilog_tree.proofs.Own.{same_name, one_name}
use Rattle.verilog_tree.proofs.Frames.{other_name}
use Rattle.circuit_module.specs.Fixed.{set, block}
use Rattle.joined_module.specs.Rows.{ModuleRow}
use Rattle.joined_module.specs.Fields.{Field}
use Rattle.joined_module.specs.Names.{found}
use Rattle.joined_module.specs.Module.{idle_sets, field_set, field_sets, row_stmt_of}
use Rattle.joined_found.specs.Found.{Each, next_field, no_found, fields_apart}

-- the statement of a row that was found
abbrev pub found_stmt : List Field → Option ModuleRow → Stmt
found_stmt fs None = skip
found_stmt fs (Some r) = row_stmt_of fs r

-- two names, told the other way
turn : (x y : String) → not (eqt y x) ≡ true → not (eqt x y) ≡ true
turn x y h = go (eqt x y) refl
  where
    go : (b : Bool) → eqt x y ≡ b → not b ≡ true
    go false e = refl
    go true e =
        let z : eqt y x ≡ true = subst (λ u. eqt u x ≡ true) (one_name x y e) (same_name x) in
        let no : true ≡ false = sym z ∙ not-true (eqt y x) h in
        absurd cc

module _ (P : Scope) where
  -- the first statement of a block, and then the others
  pub run_first : (s : Stmt) (ss : List Stmt) (S : Store) → run P (block (s ∷ ss)) S ≡ run P (block ss) (run P s S)
  run_first s [] S = refl
  run_first s (t ∷ ss) S = refl

  -- a register that is set to a number
  abbrev pub put_in : String → ℕ → ℕ → Store → Store
  put_in x b n S = write P S (whole x) (sized b n) S

  put_is : (x : String) (b n : ℕ) (S : Store) → P.width x ≡ b → n < 2 ^ b → (put_in x b n S).vec x ≡ n
  put_is x b n S w l =
      ap (λ c. chosen c (fit (P.width x) (fit b n)) (S.vec x)) (same_name x) ∙ ap (λ v. fit v (fit b n)) w ∙ ap (fit b) (fits b n l)
      ∙ fits b n l

  put_leaves : (x y : String) (b n : ℕ) (S : Store) → not (eqt x y) ≡ true → (put_in x b n S).vec y ≡ S.vec y
  put_leaves x y b n S h = other_name (eqt x y) (fit (P.width x) (fit b n)) (S.vec y) h

  -- ---- where no row is found yet

  pub idle_leaves : (fs : List Field) (x : String) → no_found fs x ≡ true → (S : Store) → (run P (block (idle_sets fs)) S).vec x ≡ S.vec x
  idle_leaves [] x h S = refl
  idle_leaves (f ∷ fs) x h S =
      let (a, b) = and_parts (not (eqt (found f.title) x)) (no_found fs x) h in
      ap (λ (T : Store). T.vec x) (run_first (set (found f.title) (sized f.bits f.idle)) (idle_sets fs) S)
      ∙ idle_leaves fs x b (put_in (found f.title) f.bits f.idle S) ∙ put_leaves (found f.title) x f.bits f.idle S a

  pub idle_calm : (fs : List Field) (S : Store) → (run P (block (idle_sets fs)) S).mem ≡ S.mem
  idle_calm [] S = refl
  idle_calm (f ∷ fs) S =
      ap (λ (T : Store). T.mem) (run_first (set (found f.title) (sized f.bits f.idle)) (idle_sets fs) S)
      ∙ idle_calm fs (put_in (found f.title) f.bits f.idle S)

  pub idle_is : (fs : List Field) → fields_apart fs ≡ true → Each (λ f. P.width (found f.title) ≡ f.bits) fs →
      Each (λ f. f.idle < 2 ^ f.bits) fs → (S : Store) → Each (λ f. (run P (block (idle_sets fs)) S).vec (found f.title) ≡ f.idle) fs
  idle_is [] a w l S = tt
  idle_is (f ∷ fs) a w l S =
      let (b, c) = and_parts (no_found fs (found f.title)) (fields_apart fs) a in
      let first = run_first (set (found f.title) (sized f.bits f.idle)) (idle_sets fs) S in
      let rest = idle_is fs c w.1 l.1 (put_in (found f.title) f.bits f.idle S) in (
        ap (λ (T : Store). T.vec (found f.title)) first ∙ idle_leaves fs (found f.title) b (put_in (found f.title) f.bits f.idle S)
            ∙ put_is (found f.title) f.bits f.idle S w.0 l.0,
        subst (λ (T : Store). Each (λ g. T.vec (found g.title) ≡ g.idle) fs) (sym first) rest,
      )

  -- ---- a row's statement

  abbrev after_first : Bool → Field → ℕ → Store → Store
  after_first true f n S = S
  after_first false f n S = put_in (found f.title) f.bits n S

  set_first : (b : Bool) (f : Field) (n : ℕ) (ss : List Stmt) (S : Store) →
      run P (block (field_set b f n ss)) S ≡ run P (block ss) (after_first b f n S)
  set_first true f n ss S = refl
  set_first false f n ss S = run_first (set (found f.title) (sized f.bits n)) ss S

  first_leaves : (b : Bool) (f : Field) (n : ℕ) (x : String) (S : Store) → not (eqt (found f.title) x) ≡ true →
      (after_first b f n S).vec x ≡ S.vec x
  first_leaves true f n x S h = refl
  first_leaves false f n x S h = put_leaves (found f.title) x f.bits n S h

  first_calm : (b : Bool) (f : Field) (n : ℕ) (S : Store) → (after_first b f n S).mem ≡ S.mem
  first_calm true f n S = refl
  first_calm false f n S = refl

  first_is : (b : Bool) (f : Field) (n : ℕ) (S : Store) → nat_eq n f.idle ≡ b → S.vec (found f.title) ≡ f.idle →
      P.width (found f.title) ≡ f.bits → n < 2 ^ f.bits → (after_first b f n S).vec (found f.title) ≡ n
  first_is true f n S e i w l = i ∙ sym (eqb-true n f.idle e)
  first_is false f n S e i w l = put_is (found f.title) f.bits n S w l

  pub sets_leave : (r : ModuleRow) (fs : List Field) (x : String) → no_found fs x ≡ true → (S : Store) →
      (run P (block (field_sets fs r)) S).vec x ≡ S.vec x
  sets_leave r [] x h S = refl
  sets_leave r (f ∷ fs) x h S =
      let (a, b) = and_parts (not (eqt (found f.title) x)) (no_found fs x) h in
      ap (λ (T : Store). T.vec x) (set_first (nat_eq (f.at r) f.idle) f (f.at r) (field_sets fs r) S)
      ∙ sets_leave r fs x b (after_first (nat_eq (f.at r) f.idle) f (f.at r) S)
      ∙ first_leaves (nat_eq (f.at r) f.idle) f (f.at r) x S a

  sets_calm : (r : ModuleRow) (fs : List Field) (S : Store) → (run P (block (field_sets fs r)) S).mem ≡ S.mem
  sets_calm r [] S = refl
  sets_calm r (f ∷ fs) S =
      ap (λ (T : Store). T.mem) (set_first (nat_eq (f.at r) f.idle) f (f.at r) (field_sets fs r) S)
      ∙ sets_calm r fs (after_first (nat_eq (f.at r) f.idle) f (f.at r) S) ∙ first_calm (nat_eq (f.at r) f.idle) f (f.at r) S

  -- the others are idle still
  idle_still : (b : Bool) (f : Field) (n : ℕ) (fs : List Field) (S : Store) → no_found fs (found f.title) ≡ true →
      Each (λ g. S.vec (found g.title) ≡ g.idle) fs → Each (λ g. (after_first b f n S).vec (found g.title) ≡ g.idle) fs
  idle_still b f n [] S h i = tt
  idle_still b f n (g ∷ fs) S h i =
      let (a, c) = and_parts (not (eqt (found g.title) (found f.title))) (no_found fs (found f.title)) h in
      (first_leaves b f n (found g.title) S (turn (found f.title) (found g.title) a) ∙ i.0, idle_still b f n fs S c i.1)

  sets_are : (r : ModuleRow) (fs : List Field) → fields_apart fs ≡ true → Each (λ f. P.width (found f.title) ≡ f.bits) fs →
      Each (λ f. f.at r < 2 ^ f.bits) fs → (S : Store) → Each (λ f. S.vec (found f.title) ≡ f.idle) fs →
      Each (λ f. (run P (block (field_sets fs r)) S).vec (found f.title) ≡ f.at r) fs
  sets_are r [] a w l S i = tt
  sets_are r (f ∷ fs) a w l S i =
      let (b, c) = and_parts (no_found fs (found f.title)) (fields_apart fs) a in
      let t : Bool = nat_eq (f.at r) f.idle in
      let first = set_first t f (f.at r) (field_sets fs r) S in
      let rest = sets_are r fs c w.1 l.1 (after_first t f (f.at r) S) (idle_still t f (f.at r) fs S b i.1) in (
        ap (λ (T : Store). T.vec (found f.title)) first ∙ sets_leave r fs (found f.title) b (after_first t f (f.at r) S)
            ∙ first_is t f (f.at r) S refl i.0 w.0 l.0,
        subst (λ (T : Store). Each (λ g. T.vec (found g.title) ≡ g.at r) fs) (sym first) rest,
      )

  -- ---- of the row that was found

  pub found_leaves : (fs : List Field) (o : Option ModuleRow) (x : String) → no_found fs x ≡ true → (S : Store) →
      (run P (found_stmt fs o) S).vec x ≡ S.vec x
  found_leaves fs None x h S = refl
  found_leaves fs (Some r) x h S = sets_leave r fs x h S

  pub found_calm : (fs : List Field) (o : Option ModuleRow) (S : Store) → (run P (found_stmt fs o) S).mem ≡ S.mem
  found_calm fs None S = refl
  found_calm fs (Some r) S = sets_calm r fs S

  -- each field has room for its number
  abbrev pub RowFits : List Field → Option ModuleRow → Type 0
  RowFits fs None = Unit {0}
  RowFits fs (Some r) = Each (λ f. f.at r < 2 ^ f.bits) fs

  pub found_is : (fs : List Field) (o : Option ModuleRow) → fields_apart fs ≡ true → Each (λ f. P.width (found f.title) ≡ f.bits) fs →
      RowFits fs o → (S : Store) → Each (λ f. S.vec (found f.title) ≡ f.idle) fs →
      Each (λ f. (run P (found_stmt fs o) S).vec (found f.title) ≡ next_field f o) fs
  found_is fs None a w l S i = i
  found_is fs (Some r) a w l S i = sets_are r fs a w l S i
