-- Programs without `fix` have a value, by a predicate on closed terms by recursion on the type (Tait 1967).
-- At `nat` it is that the term comes to a value; a function keeps it; and of a pair both parts have it. It goes back along head steps, and
-- each term has it when what is put for its variables has.
use Rattle.std.proofs.Common.{◌≡◌, ℕ, zero, suc, ◌+◌, List, [], ◌∷◌, Some, refl, sym, subst}
use Rattle.std.specs.Prelude.{slice_get}
use Rattle.pcf_values.specs.declared.val.Val.{Val}
use Rattle.pcf_values.specs.declared.val.Val.TheVariants.{Number, Overflow}
use Rattle.pcf_values.specs.Values.{val_succ, val_pred, val_op, at_zero}
use Rattle.pcf_values.specs.declared.side.Side.{Side}
use Rattle.pcf_values.specs.declared.side.Side.TheVariants.{Left, Right}
use Rattle.pcf_values.specs.Terms.{TyTree, nat, arrow, product, at_side, TermTree, num, var, succ_of, pred_of, binary, ifz, lam, fix}
use Rattle.pcf_values.specs.Terms.{app, pair, proj}
use Rattle.pcf_values.specs.Typing.{HasType}
use Rattle.cbn_meaning.specs.Substitution.{subst_at}
use Rattle.cbn_meaning.specs.Meaning.{value, Means}
use Rattle.cbn_meaning.specs.Derivations.{Ev, HasEv, Steps, ev_num, ev_succ, ev_pred, ev_binary, ev_ifz}
use Rattle.cbn_meaning.specs.Environments.{Closed, Env, cons, AllClosed, close}
use Rattle.cbn_meaning.proofs.Close.{close_subst, close_closed, close_var_zero, cons_closed, close_same}
use Rattle.cbn_meaning.proofs.Derived.{ev_eval}
use Rattle.cbn_meaning.proofs.Head.{beta, take_part, app_steps, proj_steps}
use Rattle.meaning_laws.specs.NoFix.{NoFix}

-- the predicate
abbrev Comes : TyTree → TermTree → Type 0
Comes nat m = (v : Val) × HasEv m (value v)
Comes (arrow a b) m = (n : TermTree) → Closed n → Comes a n → Comes b (app m n)
Comes (product a b) m = Comes a (proj Left m) × Comes b (proj Right m)

-- it goes back along a head step
comes_back : (a : TyTree) (m n : TermTree) → Steps m n → Comes a n → Comes a m
comes_back nat m n s (v, (z, h)) = (v, s.forth z (value v) h)
comes_back (arrow a b) m n s h = λ x c g. comes_back b (app m x) (app n x) (app_steps m n x s) (h x c g)
comes_back (product a b) m n s h = (
  comes_back a (proj Left m) (proj Left n) (proj_steps Left m n s) h.0,
  comes_back b (proj Right m) (proj Right n) (proj_steps Right m n s) h.1,
)

-- a branch has it where both have
branch_comes : (v : Val) (p q : TermTree) → Comes nat p → Comes nat q → Comes nat (at_zero v p q)
branch_comes (Number zero) p q g h = g
branch_comes (Number (suc n)) p q g h = h
branch_comes Overflow p q g h = h

ifz_comes : (c p q : TermTree) → Comes nat c → Comes nat p → Comes nat q → Comes nat (ifz c p q)
ifz_comes c p q (v, (s, h)) g k =
    let (w, (r, f)) = branch_comes v p q g k in
    (w, (suc (s + r), ev_ifz h f))

part_comes : (s : Side) (a b : TyTree) (m : TermTree) → Comes (product a b) m → Comes (at_side s a b) (proj s m)
part_comes Left a b m h = h.0
part_comes Right a b m h = h.1

-- what is put for the variables of these types has it
abbrev AllCome : List TyTree → Env → Type 0
AllCome g e = (i : ℕ) (t : TyTree) → slice_get g i ≡ Some t → Comes t (e i)

cons_come : (g : List TyTree) (e : Env) (a : TyTree) (n : TermTree) → Comes a n → AllCome g e → AllCome (a ∷ g) (cons n e)
cons_come g e a n h k zero t q = let z : a ≡ t = cc in subst (λ t. Comes t n) z h
cons_come g e a n h k (suc i) t q = k i t q

-- at an equal type
at_type : (a b : TyTree) (m : TermTree) → a ≡ b → Comes b m → Comes a m
at_type a b m e h = subst (λ a. Comes a m) (sym e) h

-- each term has it, closed by terms that have
comes : (m : TermTree) (g : List TyTree) (t : TyTree) (e : Env) → HasType g m t → NoFix m → AllClosed e → AllCome g e →
    Comes t (close zero e m)
comes (num v) g t e h f c k = at_type t nat (num v) h.1 (Number v, (1, ev_num))
comes (var i) g t e h f c k = subst (Comes t) (sym (close_var_zero e i)) (k i t h)
comes (succ_of a) g t e h f c k =
    let (v, (s, d)) = comes a g nat e h.0 f c k in at_type t nat (close zero e (succ_of a)) h.1 (val_succ v, (suc s, ev_succ d))
comes (pred_of a) g t e h f c k =
    let (v, (s, d)) = comes a g nat e h.0 f c k in at_type t nat (close zero e (pred_of a)) h.1 (val_pred v, (suc s, ev_pred d))
comes (binary o a b) g t e h f c k =
    let (v, (s, d)) = comes a g nat e h.0 f.0 c k in
    let (w, (r, i)) = comes b g nat e h.1 f.1 c k in
    at_type t nat (close zero e (binary o a b)) h.2 (val_op o v w, (suc (s + r), ev_binary d i))
comes (ifz i p q) g t e h f c k =
    at_type t nat (close zero e (ifz i p q)) h.3
    (ifz_comes (close zero e i) (close zero e p) (close zero e q) (comes i g nat e h.0 f.0 c k) (comes p g nat e h.1 f.1 c k)
    (comes q g nat e h.2 f.2 c k))
comes (lam a m) g t e h f c k =
    at_type t (arrow a h.0) (close zero e (lam a m)) h.2 (λ n d i.
    comes_back h.0 (app (lam a (close 1 e m)) n) (subst_at (close 1 e m) zero n) (beta a (close 1 e m) n)
    (subst (Comes h.0) (sym (close_subst m zero e n c))
    (comes m (a ∷ g) h.0 (cons n e) h.1 f (cons_closed n e d c) (cons_come g e a n i k))))
comes (fix a m) g t e h f c k = absurd f
comes (app m x) g t e h f c k =
    comes m g (arrow h.0 t) e h.1 f.0 c k (close zero e x) (close_closed x e c) (comes x g h.0 e h.2 f.1 c k)
comes (pair a b) g t e h f c k =
    let m = close zero e a in
    let n = close zero e b in
    at_type t (product h.0 h.1) (pair m n) h.4 (
      comes_back h.0 (proj Left (pair m n)) m (take_part Left m n) (comes a g h.0 e h.2 f.0 c k),
      comes_back h.1 (proj Right (pair m n)) n (take_part Right m n) (comes b g h.1 e h.3 f.1 c k),
    )
comes (proj s a) g t e h f c k =
    at_type t (at_side s h.0 h.1) (proj s (close zero e a)) h.3 (part_comes s h.0 h.1 (close zero e a)
    (comes a g (product h.0 h.1) e h.2 f c k))

-- so a program without `fix` means a value; nothing has to be put for its variables, since it has none
pub no_fix_value : (m : TermTree) → HasType [] m nat → NoFix m → (v : Val) × Means m v
no_fix_value m h f =
    let e : Env = λ i. num zero in
    let (v, (s, d)) = comes m [] nat e h f (λ i k p. refl) (λ i t q. cc) in
    (v, (s, ev_eval (subst (λ m. Ev s m (value v)) (close_same m [] nat e h) d)))
