-- The relation between results by value and closed terms of the translation, and between terms by value and what takes a continuation:
-- a logical relation, by recursion on the type (Tait's method), with an index that counts down.
use Rattle.std.proofs.Common.{◌≡◌, ℕ, zero, ◌+◌, ◌<◌, ◌≤◌, refl, sym, subst, arith}
use Rattle.pcf_values.specs.declared.val.Val.{Val}
use Rattle.pcf_values.specs.declared.val.Val.TheVariants.{Number, Overflow}
use Rattle.pcf_values.specs.Terms.{TyTree, nat, arrow, product, TermTree, var, lam, app}
use Rattle.cbn_meaning.specs.Substitution.{subst_at}
use Rattle.cbn_meaning.specs.Environments.{Closed, Env, cons, AllClosed, close}
use Rattle.cbn_meaning.specs.Meaning.{Res, value, closure}
use Rattle.cbn_meaning.specs.Derivations.{Ev, HasEv, Steps}
use Rattle.cbn_meaning.proofs.Head.{beta, app_steps}
use Rattle.cbn_meaning.proofs.Close.{close_subst}
use Rattle.cbv_terms.specs.ByValue.{quote}
use Rattle.cbv_terms.proofs.Derived.{EvByValue, by_num, by_lam, by_succ, HasEvByValue, one_result}

-- a term that comes to value_type by value of a kind, and the term that hands such value_type to each continuation, up to an index:
-- what each result_type's terms lead to is what the whole leads to, and what the whole leads to is what some result_type's term leads to,
-- later
pub record Hands (P : ℕ → Res → TermTree → Type 0) (n : ℕ) (m c : TermTree) : Type 0 where
  pub forth : (i k : ℕ) (w : Res) → i + k ≤ n → EvByValue i m w → (x : TermTree) → Closed x → (a : Val) →
      ((y : TermTree) → P k w y → HasEv (app x y) (value a)) → HasEv (app c x) (value a)
  pub back : (i : ℕ) → i ≤ n → (x : TermTree) → Closed x → (a : Val) → Ev i (app c x) (value a) → (w : Res) ×
      (y : TermTree) × (j : ℕ) × HasEvByValue m w × P j w y × (j < i) × Ev j (app x y) (value a)

-- a result_type and a closed term that stands for it, up to an index
abbrev pub Stands : TyTree → ℕ → Res → TermTree → Type 0
Stands nat n w y = Closed y × ((v : Val) × (w ≡ value v) × HasEv y (value v))
Stands (arrow a b) n w y =
    Closed y × ((t : TyTree) × (m : TermTree) × (w ≡ closure t m) × Closed (lam t m)
    × ((j : ℕ) → j < n → (x : Res) (z : TermTree) → Stands a j x z →
    Hands (λ k u o. Stands b k u o) j (subst_at m zero (quote x)) (app y z)))
Stands (product a b) n w y = ⊥

pub stands_less : (a : TyTree) (n k : ℕ) (w : Res) (y : TermTree) → k ≤ n → Stands a n w y → Stands a k w y
stands_less nat n k w y l h = h
stands_less (arrow a b) n k w y l (c, (t, m, e, cl, f)) = (c, (t, m, e, cl, (λ j i. f j (omega arith))))
stands_less (product a b) n k w y l h = elim h [ ]

pub stands_closed : (a : TyTree) (n : ℕ) (w : Res) (y : TermTree) → Stands a n w y → Closed y
stands_closed nat n w y h = h.0
stands_closed (arrow a b) n w y h = h.0
stands_closed (product a b) n w y h = elim h [ ]

quote_val_closed : (v : Val) → Closed (quote (value v))
quote_val_closed (Number n) k p = refl
quote_val_closed Overflow k p = refl

pub quote_closed : (a : TyTree) (n : ℕ) (w : Res) (y : TermTree) → Stands a n w y → Closed (quote w)
quote_closed nat n w y (c, (v, e, h)) = subst (λ w. Closed (quote w)) (sym e) (quote_val_closed v)
quote_closed (arrow a b) n w y (c, (t, m, e, cl, f)) = subst (λ w. Closed (quote w)) (sym e) cl
quote_closed (product a b) n w y h = elim h [ ]

quote_val_derived : (v : Val) → HasEvByValue (quote (value v)) (value v)
quote_val_derived (Number n) = (1, by_num)
quote_val_derived Overflow = (2, by_succ by_num)

-- what stands for a result_type has it
pub quote_derived : (a : TyTree) (n : ℕ) (w : Res) (y : TermTree) → Stands a n w y → HasEvByValue (quote w) w
quote_derived nat n w y (c, (v, e, h)) = subst (λ w. HasEvByValue (quote w) w) (sym e) (quote_val_derived v)
quote_derived (arrow a b) n w y (c, (t, m, e, cl, f)) = subst (λ w. HasEvByValue (quote w) w) (sym e) (1, by_lam)
quote_derived (product a b) n w y h = elim h [ ]

-- steps
pub fwd : (m m' : TermTree) (x : Res) → Steps m m' → HasEv m' x → HasEv m x
fwd m m' x s (i, h) = s.forth i x h

pub then_steps : (a b c : TermTree) → Steps a b → Steps b c → Steps a c
then_steps a b c s t = record {
  forth = λ i x h. let (j, g) = t.forth i x h in s.forth j x g;
  back = λ i x h. let (j, l, g) = s.back i x h in let (k, l', g') = t.back j x g in (k, omega arith, g');
}

-- a fun of the translation is entered
pub enter : (t : TyTree) (s : Env) (b k : TermTree) → AllClosed s → Steps (app (close zero s (lam t b)) k) (close zero (cons k s) b)
enter t s b k h = subst (Steps (app (lam t (close 1 s b)) k)) (close_subst b zero s k h) (beta t (close 1 s b) k)

pub hands_step : (P : ℕ → Res → TermTree → Type 0) (n : ℕ) (m c c' : TermTree) → Steps c c' → Hands P n m c' → Hands P n m c
hands_step P n m c c' s h = record {
  forth = λ i k w l d x cx a f. fwd (app c x) (app c' x) (value a) (app_steps c c' x s) (h.forth i k w l d x cx a f);
  back = λ i l x cx a d.
      let (z, q, g) = (app_steps c c' x s).back i (value a) d in
      let (w, y, j, e, p, r, o) = h.back z (omega arith) x cx a g in
      (w, y, j, e, p, omega arith, o);
}

-- a term that is its result_type at once
pub hands_value : (P : ℕ → Res → TermTree → Type 0) (n : ℕ) (m : TermTree) (s : Env) (t : TyTree) (v : TermTree) (w : Res) →
    AllClosed s → HasEvByValue m w → ((x : TermTree) → Closed x → (k : ℕ) → k ≤ n → P k w (close zero (cons x s) v)) →
    Hands P n m (close zero s (lam t (app (var 0) v)))
hands_value P n m s t v w cs (z, e) stands = record {
  forth = λ i k u l d x cx a f.
      let q : w ≡ u = one_result e d in
      fwd (app (close zero s (lam t (app (var 0) v))) x) (app x (close zero (cons x s) v)) (value a) (enter t s (app (var 0) v) x cs)
      (f (close zero (cons x s) v) (subst (λ u. P k u (close zero (cons x s) v)) q (stands x cx k (omega arith))));
  back = λ i l x cx a d.
      let (j, q, g) = (enter t s (app (var 0) v) x cs).back i (value a) d in
      (w, close zero (cons x s) v, j, (z, e), stands x cx j (omega arith), q, g);
}
