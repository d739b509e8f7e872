-- The row of what is seen at a key, where each row there sees what the site shows.
use Rattle.std.proofs.Common.{◌≡◌, ◌<◌, ◌≤◌, ℕ, suc, ◌-◌, ◌/◌, ◌^◌, Bool, true, false, not, ◌||◌, cond, List, [], ◌∷◌, Option}
use Rattle.std.proofs.Common.{Some, None, refl, ap, ◌∙◌, arith, ◌⊎◌, inl, inr, nat_eq}
use Rattle.std.proofs.lemmas.Bool.{lt-ltb, eq-eqb, ne_eqb, cases_eq}
use Rattle.joined_core.specs.Rows.{Site, nowhere, on_sigs, on_boxes, on_value}
use Rattle.verilog_tree.specs.Tree.{count, part, name, Stmt, cases, branch}
use Rattle.verilog_tree.specs.Meaning.{Scope, Store, fit, flag, nonzero, chosen, bits, value, widest_arm, run, run_arms}
use Rattle.verilog_tree.proofs.Numbers.{fits}
use Rattle.joined_module.specs.Rows.{Sees, sees_nothing, sees_tag, sees_zero, ModuleRow}
use Rattle.joined_module.specs.Fields.{Field, tag_seen, seen_tag}
use Rattle.joined_module.specs.Module.{row_stmt_of, same_flag, tag_arm, tag_arms, sees_zero_is, zero_stmt, seen_stmt, key_stmt}
use Rattle.joined_module.specs.Machine.{same_bit, same_sees}
use Rattle.joined_found.specs.Found.{Each, sees_at, SeenIn}
use Rattle.joined_found.proofs.Sets.{found_stmt}

-- the first of the rows at a key that sees this
abbrev pub find_seen : List ModuleRow → Sees → Option ModuleRow
find_seen [] e = None
find_seen (r ∷ rs) e = cond (same_sees r.sees e) (Some r) (find_seen rs e)

module _ (P : Scope) (t : ℕ) (fs : List Field) (S : Store) where
  -- what is done of the row that was found
  abbrev does : Option ModuleRow → Store
  does o = run P (found_stmt fs o) S

  either_stmt : (b : Bool) (r : ModuleRow) (s : Stmt) (o : Option ModuleRow) → run P s S ≡ does o →
      run P (cond b (row_stmt_of fs r) s) S ≡ does (cond b (Some r) o)
  either_stmt true r s o e = refl
  either_stmt false r s o e = e

  -- ---- by a tag

  turned : (m n : ℕ) → nat_eq n m ≡ nat_eq m n
  turned m n = go (cases_eq m n)
    where
      go : (m ≡ n) ⊎ (m ≡ n → ⊥) → nat_eq n m ≡ nat_eq m n
      go (inl e) = eq-eqb n m (omega arith) ∙ (let h = eq-eqb m n e in cc)
      go (inr e) = ne_eqb n m (λ z. e (omega arith)) ∙ (let h = ne_eqb m n e in cc)

  tag_is : (w n m : ℕ) (r : ModuleRow) (o : Option ModuleRow) (T : Store) → m < 2 ^ t → T ≡ does o →
      chosen (nat_eq n (fit t m) || false) (run P (row_stmt_of fs r) S) T ≡ does (cond (nat_eq m n) (Some r) o)
  tag_is w n m r o T l e =
      ap (λ k. chosen (nat_eq n k || false) (run P (row_stmt_of fs r) S) T) (fits t m l) ∙ go (nat_eq n m) (nat_eq m n) (turned m n)
    where
      go : (b c : Bool) → b ≡ c → chosen (b || false) (run P (row_stmt_of fs r) S) T ≡ does (cond c (Some r) o)
      go true true h = refl
      go true false h = absurd cc
      go false true h = absurd cc
      go false false h = e

  tag_finds : (w n : ℕ) (rs : List ModuleRow) → Each (λ r. seen_tag r < 2 ^ t) rs →
      run_arms P w n (tag_arms t fs rs) S ≡ does (find_seen rs (sees_tag n))
  tag_finds w n [] l = refl
  tag_finds w n (r ∷ rs) l = go (tag_finds w n rs l.1) r.sees l.0
    where
      go : run_arms P w n (tag_arms t fs rs) S ≡ does (find_seen rs (sees_tag n)) → (e : Sees) → tag_seen e < 2 ^ t →
          run_arms P w n (tag_arm t fs e r (tag_arms t fs rs)) S
          ≡ does (cond (same_sees e (sees_tag n)) (Some r) (find_seen rs (sees_tag n)))
      go ih sees_nothing h = ih
      go ih (sees_zero b) h = ih
      go ih (sees_tag m) h = tag_is w n m r (find_seen rs (sees_tag n)) (run_arms P w n (tag_arms t fs rs) S) h ih

  -- ---- by whether the value is 0

  bit_turned : (b c : Bool) → same_flag b c ≡ same_bit c b
  bit_turned true true = refl
  bit_turned true false = refl
  bit_turned false true = refl
  bit_turned false false = refl

  zero_finds : (c : Bool) (rs : List ModuleRow) → run P (zero_stmt c fs rs) S ≡ does (find_seen rs (sees_zero c))
  zero_finds c [] = refl
  zero_finds c (r ∷ rs) = go (zero_finds c rs) r.sees
    where
      go : run P (zero_stmt c fs rs) S ≡ does (find_seen rs (sees_zero c)) → (e : Sees) →
          run P (cond (sees_zero_is c e) (row_stmt_of fs r) (zero_stmt c fs rs)) S
          ≡ does (cond (same_sees e (sees_zero c)) (Some r) (find_seen rs (sees_zero c)))
      go ih sees_nothing = ih
      go ih (sees_tag m) = ih
      go ih (sees_zero b) =
          ap (λ d. run P (cond d (row_stmt_of fs r) (zero_stmt c fs rs)) S) (bit_turned c b)
          ∙ either_stmt (same_bit b c) r (zero_stmt c fs rs) (find_seen rs (sees_zero c)) ih

  -- ---- by either

  module _ (low : 1 ≤ t) (wide : t ≤ P.width "looked") where
    looked_is : (w n : ℕ) → fit t (S.vec "looked") ≡ n → value P S w (part "looked" (count (t - 1)) (count 0)) ≡ n
    looked_is w n e =
        ap (λ b. chosen b (fit (suc (t - 1 - 0)) (S.vec "looked" / 2 ^ 0)) (S.stray "looked" (t - 1)))
        (lt-ltb (t - 1) (P.width "looked") (omega arith))
        ∙ (let a : suc (t - 1 - 0) ≡ t = omega arith in ap (λ v. fit v (S.vec "looked" / 2 ^ 0)) a)
        ∙ (let b : S.vec "looked" / 2 ^ 0 ≡ S.vec "looked" = omega arith in ap (fit t) b) ∙ e

    tags_find : (n : ℕ) (rs : List ModuleRow) → Each (λ r. seen_tag r < 2 ^ t) rs → fit t (S.vec "looked") ≡ n →
        run P (cases (part "looked" (count (t - 1)) (count 0)) (tag_arms t fs rs)) S ≡ does (find_seen rs (sees_tag n))
    tags_find n rs l e =
        let w : ℕ = widest_arm P (bits P (part "looked" (count (t - 1)) (count 0))) (tag_arms t fs rs) in
        ap (λ m. run_arms P w m (tag_arms t fs rs) S) (looked_is w n e) ∙ tag_finds w n rs l

    zeros_find : (c : Bool) (rs : List ModuleRow) → S.vec "nonzero" ≡ flag (not c) →
        run P (branch (name "nonzero") (zero_stmt false fs rs) (zero_stmt true fs rs)) S ≡ does (find_seen rs (sees_zero c))
    zeros_find c rs e =
        ap (λ n. chosen (nonzero n) (run P (zero_stmt false fs rs) S) (run P (zero_stmt true fs rs) S)) e ∙ go c
      where
        go : (c : Bool) → chosen (nonzero (flag (not c))) (run P (zero_stmt false fs rs) S) (run P (zero_stmt true fs rs) S)
            ≡ does (find_seen rs (sees_zero c))
        go true = zero_finds true rs
        go false = zero_finds false rs

    -- where the first row sees what the site shows
    seen_finds : (v : Site) (e d : Sees) → sees_at v e ≡ true → sees_at v d ≡ true → SeenIn t S e → (r : ModuleRow) (rs : List ModuleRow) →
        r.sees ≡ d → Each (λ r. seen_tag r < 2 ^ t) (r ∷ rs) →
        run P (seen_stmt t fs d r rs) S ≡ does (find_seen (r ∷ rs) e)
    seen_finds nowhere sees_nothing sees_nothing a b s r rs q l =
        ap (λ d. does (cond (same_sees d sees_nothing) (Some r) (find_seen rs sees_nothing))) (sym_of q)
      where
        sym_of : r.sees ≡ sees_nothing → sees_nothing ≡ r.sees
        sym_of h = cc
    seen_finds on_sigs (sees_tag n) (sees_tag m) a b s r rs q l = tags_find n (r ∷ rs) l s
    seen_finds on_boxes (sees_tag n) (sees_tag m) a b s r rs q l = tags_find n (r ∷ rs) l s
    seen_finds on_value (sees_zero c) (sees_zero b') a b s r rs q l = zeros_find c (r ∷ rs) s
    seen_finds nowhere sees_nothing (sees_tag m) a b s r rs q l = absurd cc
    seen_finds nowhere sees_nothing (sees_zero c) a b s r rs q l = absurd cc
    seen_finds nowhere (sees_tag m) d a b s r rs q l = absurd cc
    seen_finds nowhere (sees_zero c) d a b s r rs q l = absurd cc
    seen_finds on_sigs sees_nothing d a b s r rs q l = absurd cc
    seen_finds on_sigs (sees_zero c) d a b s r rs q l = absurd cc
    seen_finds on_sigs (sees_tag n) sees_nothing a b s r rs q l = absurd cc
    seen_finds on_sigs (sees_tag n) (sees_zero c) a b s r rs q l = absurd cc
    seen_finds on_boxes sees_nothing d a b s r rs q l = absurd cc
    seen_finds on_boxes (sees_zero c) d a b s r rs q l = absurd cc
    seen_finds on_boxes (sees_tag n) sees_nothing a b s r rs q l = absurd cc
    seen_finds on_boxes (sees_tag n) (sees_zero c) a b s r rs q l = absurd cc
    seen_finds on_value sees_nothing d a b s r rs q l = absurd cc
    seen_finds on_value (sees_tag n) d a b s r rs q l = absurd cc
    seen_finds on_value (sees_zero c) sees_nothing a b s r rs q l = absurd cc
    seen_finds on_value (sees_zero c) (sees_tag n) a b s r rs q l = absurd cc

    pub key_finds : (v : Site) (e : Sees) → sees_at v e ≡ true → SeenIn t S e → (rs : List ModuleRow) →
        Each (λ r. sees_at v r.sees ≡ true) rs → Each (λ r. seen_tag r < 2 ^ t) rs →
        run P (key_stmt t fs rs) S ≡ does (find_seen rs e)
    key_finds v e a s [] h l = refl
    key_finds v e a s (r ∷ rs) h l = seen_finds v e r.sees a h.0 s r rs refl l
