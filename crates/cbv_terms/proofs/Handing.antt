-- Each form of the translation hands on the results of its form of term.
use Rattle.std.proofs.Common.{◌≡◌, ℕ, zero, suc, ◌+◌, ◌<◌, ◌≤◌, refl, sym, ap, ◌∙◌, subst, arith}
use Rattle.pcf_values.specs.declared.val.Val.{Val}
use Rattle.pcf_values.specs.declared.val.Val.TheVariants.{Number, Overflow}
use Rattle.pcf_values.specs.Values.{val_succ, val_pred, val_op, at_zero}
use Rattle.pcf_values.specs.declared.operator.Operator.{Operator}
use Rattle.pcf_values.specs.Terms.{TyTree, nat, arrow, TermTree, var, succ_of, pred_of, binary, ifz, lam, app}
use Rattle.cbn_meaning.specs.Substitution.{subst_at}
use Rattle.cbn_meaning.specs.Environments.{Closed, Env, cons, AllClosed, close}
use Rattle.cbn_meaning.specs.Meaning.{Res, value, closure}
use Rattle.cbn_meaning.specs.Derivations.{Ev, ev_succ, ev_pred, ev_binary, ev_ifz, HasEv}
use Rattle.cbn_meaning.proofs.Derived.{ifz_inv, ev_eval}
use Rattle.cbn_meaning.proofs.Head.{one_value}
use Rattle.cbn_meaning.proofs.Close.{close_closed, cons_closed}
use Rattle.cbv_terms.specs.ByValue.{quote}
use Rattle.cbv_terms.proofs.Derived.{EvByValue, by_succ, by_pred, by_binary, by_ifz, by_app, by_succ_inv, by_pred_inv, by_binary_inv}
use Rattle.cbv_terms.proofs.Derived.{by_ifz_inv, by_app_inv, HasEvByValue}
use Rattle.cbv_terms.proofs.Relation.{Hands, Stands, stands_less, fwd, enter}

abbrev pub Good : TyTree → ℕ → TermTree → TermTree → Type 0
Good a n m c = Hands (λ k u o. Stands a k u o) n m c

-- a term of type nat has the value that it stands for
stands_ev : (n : ℕ) (w : Res) (y : TermTree) → Stands nat n w y → HasEv y w
stands_ev n w y (c, (v, e, h)) = subst (HasEv y) (sym e) h

succ_closed : (y : TermTree) → Closed y → Closed (succ_of y)
succ_closed y c k p = ap succ_of (c k p)

pred_closed : (y : TermTree) → Closed y → Closed (pred_of y)
pred_closed y c k p = ap pred_of (c k p)

binary_closed : (o : Operator) (y z : TermTree) → Closed y → Closed z → Closed (binary o y z)
binary_closed o y z c d k p = let a = c k p in let b = d k p in cc

succ_stands : (n : ℕ) (v : Val) (y : TermTree) → Stands nat n (value v) y → Stands nat n (value (val_succ v)) (succ_of y)
succ_stands n v y g = let (s, e) = stands_ev n (value v) y g in (succ_closed y g.0, (val_succ v, refl, (suc s, ev_succ e)))

pred_stands : (n : ℕ) (v : Val) (y : TermTree) → Stands nat n (value v) y → Stands nat n (value (val_pred v)) (pred_of y)
pred_stands n v y g = let (s, e) = stands_ev n (value v) y g in (pred_closed y g.0, (val_pred v, refl, (suc s, ev_pred e)))

binary_stands : (n : ℕ) (o : Operator) (v u : Val) (y z : TermTree) → Stands nat n (value v) y → Stands nat n (value u) z →
    Stands nat n (value (val_op o v u)) (binary o y z)
binary_stands n o v u y z g h =
    let (s, e) = stands_ev n (value v) y g in
    let (r, d) = stands_ev n (value u) z h in
    (binary_closed o y z g.0 h.0, (val_op o v u, refl, (suc (s + r), ev_binary {s = s} {r = r} {v = v} {w = u} e d)))

-- value_type of forms, from those of their parts
succ_result : (k : ℕ) (m : TermTree) (w : Res) (y : TermTree) → HasEvByValue m w → Stands nat k w y → (u : Res) ×
    HasEvByValue (succ_of m) u × Stands nat k u (succ_of y)
succ_result k m w y (r, d) (c, (v, e, h)) = (
  value (val_succ v),
  (suc r, by_succ (subst (EvByValue r m) e d)),
  succ_stands k v y (c, (v, refl, h)),
)

pred_result : (k : ℕ) (m : TermTree) (w : Res) (y : TermTree) → HasEvByValue m w → Stands nat k w y → (u : Res) ×
    HasEvByValue (pred_of m) u × Stands nat k u (pred_of y)
pred_result k m w y (r, d) (c, (v, e, h)) = (
  value (val_pred v),
  (suc r, by_pred (subst (EvByValue r m) e d)),
  pred_stands k v y (c, (v, refl, h)),
)

binary_result : (k : ℕ) (o : Operator) (m m' : TermTree) (w w' : Res) (y y' : TermTree) → HasEvByValue m w → HasEvByValue m' w' →
    Stands nat k w y → Stands nat k w' y' → (u : Res) × HasEvByValue (binary o m m') u × Stands nat k u (binary o y y')
binary_result k o m m' w w' y y' (r, d) (r', d') (c, (v, e, h)) (c', (v', e', h')) = (
  value (val_op o v v'),
  (suc (r + r'), by_binary (subst (EvByValue r m) e d) (subst (EvByValue r' m') e' d')),
  binary_stands k o v v' y y' (c, (v, refl, h)) (c', (v', refl, h')),
)

ifz_result : (k : ℕ) (m p q : TermTree) (w : Res) (y : TermTree) (v : Val) (u : Res) → HasEvByValue m w → Stands nat k w y →
    HasEv y (value v) → HasEvByValue (at_zero v p q) u → HasEvByValue (ifz m p q) u
ifz_result k m p q w y v u (r, d) (c, (v', e, (i, h))) (j, g) (r', b) =
    let same : v' ≡ v = one_value y v' v (i, ev_eval h) (j, ev_eval g) in
    (suc (r + r'), by_ifz {v = v} (subst (EvByValue r m) (e ∙ ap value same) d) b)

app_result : (t : TyTree) (m m' b : TermTree) (w u : Res) → HasEvByValue m (closure t b) → HasEvByValue m' w →
    HasEvByValue (subst_at b zero (quote w)) u → HasEvByValue (app m m') u
app_result t m m' b w u (r, d) (r', d') (k, e) = (suc (r + r' + k), by_app d d' e)

ifz_ev : (y p q : TermTree) (v : Val) (x : Res) → HasEv y (value v) → HasEv (at_zero v p q) x → HasEv (ifz y p q) x
ifz_ev y p q v x (i, d) (j, e) = (suc (i + j), ev_ifz {v = v} d e)

-- what is left to do at each form
abbrev succ_k : TermTree
succ_k = app (var 1) (succ_of (var 0))

abbrev pred_k : TermTree
pred_k = app (var 1) (pred_of (var 0))

abbrev op_k : Operator → TermTree
op_k o = app (var 2) (binary o (var 1) (var 0))

abbrev ifz_k : TermTree → TermTree → TermTree
ifz_k p q = ifz (var 0) (app p (var 1)) (app q (var 1))

abbrev app_k : TermTree
app_k = app (app (var 1) (var 0)) (var 2)

-- a sum of parts of a depth is within the bound that the depth is within
one_within : (i k n r : ℕ) → i + k ≤ n → i ≡ suc r → r + k ≤ n
one_within i k n r l q = omega arith

-- and of two parts
two_within : (i k n r b : ℕ) → i + k ≤ n → i ≡ suc (r + b) → r + (b + k) ≤ n
two_within i k n r b l q = omega arith

-- the second of two parts alone
rest_within : (i k n r b : ℕ) → i + k ≤ n → i ≡ suc (r + b) → b + k ≤ n
rest_within i k n r b l q = omega arith

-- and of three parts
three_within : (i k n r b j : ℕ) → i + k ≤ n → i ≡ suc (r + b + j) → r + suc (b + j + k) ≤ n
three_within i k n r b j l q = omega arith

-- the second and the third of three parts alone
last_within : (i k n r b j : ℕ) → i + k ≤ n → i ≡ suc (r + b + j) → b + (j + k) ≤ n
last_within i k n r b j l q = omega arith

-- a sum's last part is at most the sum
last_most : (b k : ℕ) → k ≤ b + k
last_most b k = omega arith

-- and the last two of three parts are less than what is left after the first
last_less : (b j k : ℕ) → j + k < suc (b + j + k)
last_less b j k = omega arith

-- what falls from a bound stays within it
under_within : (z i n : ℕ) → z < i → i ≤ n → z ≤ n
under_within z i n q l = omega arith

-- a number is at most itself
itself : (a : ℕ) → a ≤ a
itself a = omega arith

-- what is less is at most as much
less_most : (a b : ℕ) → a < b → a ≤ b
less_most a b l = omega arith

-- a part is less than what it is a part of
part_below : (z i j : ℕ) → z ≡ suc (i + j) → j < z
part_below z i j q = omega arith

-- two steps that fall, after one another
falls_twice : (a b c : ℕ) → c < b → b < a → c < a
falls_twice a b c q p = omega arith

-- three steps
falls_once_more : (a b c d : ℕ) → d < c → c < b → b < a → d < a
falls_once_more a b c d r q p = falls_twice a b d (falls_twice b c d r q) p

-- the translation of a successor hands on what it comes to, if that of its operand does
pub succ_hands : (t : TyTree) (n : ℕ) (m : TermTree) (s : Env) (c : TermTree) → AllClosed s →
    ((x : TermTree) → Closed x → Good nat n m (close zero (cons x s) c)) →
    Good nat n (succ_of m) (close zero s (lam t (app c (lam nat succ_k))))
succ_hands t n m s c cs h = record {
  forth = λ i k w l d x cx a f.
      let (r, v, dm, q, e) = by_succ_inv d in
      fwd (app (close zero s (lam t (app c (lam nat succ_k)))) x) (app (close zero (cons x s) c) (close zero (cons x s) (lam nat succ_k)))
      (value a) (enter t s (app c (lam nat succ_k)) x cs)
      ((h x cx).forth r k (value v) (one_within i k n r l q) dm (close zero (cons x s) (lam nat succ_k))
      (close_closed (lam nat succ_k) (cons x s) (cons_closed x s cx cs)) a
      (λ y g. fwd (app (close zero (cons x s) (lam nat succ_k)) y) (app x (succ_of y)) (value a)
      (enter nat (cons x s) succ_k y (cons_closed x s cx cs))
      (f (succ_of y) (subst (λ w. Stands nat k w (succ_of y)) (sym e) (succ_stands k v y g)))));
  back = λ i l x cx a d.
      let (z, q, d1) = (enter t s (app c (lam nat succ_k)) x cs).back i (value a) d in
      let (w, y, j, hm, g, q1, d2) = (h x cx).back z (under_within z i n q l) (close zero (cons x s) (lam nat succ_k))
      (close_closed (lam nat succ_k) (cons x s) (cons_closed x s cx cs)) a d1 in
      let (z2, q2, d3) = (enter nat (cons x s) succ_k y (cons_closed x s cx cs)).back j (value a) d2 in
      let (u, hu, gu) = succ_result z2 m w y hm g in
      (u, succ_of y, z2, hu, gu, falls_twice i j z2 q2 (falls_twice i z j q1 q), d3);
}

-- the translation of a predecessor hands on what it comes to, if that of its operand does
pub pred_hands : (t : TyTree) (n : ℕ) (m : TermTree) (s : Env) (c : TermTree) → AllClosed s →
    ((x : TermTree) → Closed x → Good nat n m (close zero (cons x s) c)) →
    Good nat n (pred_of m) (close zero s (lam t (app c (lam nat pred_k))))
pred_hands t n m s c cs h = record {
  forth = λ i k w l d x cx a f.
      let (r, v, dm, q, e) = by_pred_inv d in
      fwd (app (close zero s (lam t (app c (lam nat pred_k)))) x) (app (close zero (cons x s) c) (close zero (cons x s) (lam nat pred_k)))
      (value a) (enter t s (app c (lam nat pred_k)) x cs)
      ((h x cx).forth r k (value v) (one_within i k n r l q) dm (close zero (cons x s) (lam nat pred_k))
      (close_closed (lam nat pred_k) (cons x s) (cons_closed x s cx cs)) a
      (λ y g. fwd (app (close zero (cons x s) (lam nat pred_k)) y) (app x (pred_of y)) (value a)
      (enter nat (cons x s) pred_k y (cons_closed x s cx cs))
      (f (pred_of y) (subst (λ w. Stands nat k w (pred_of y)) (sym e) (pred_stands k v y g)))));
  back = λ i l x cx a d.
      let (z, q, d1) = (enter t s (app c (lam nat pred_k)) x cs).back i (value a) d in
      let (w, y, j, hm, g, q1, d2) = (h x cx).back z (under_within z i n q l) (close zero (cons x s) (lam nat pred_k))
      (close_closed (lam nat pred_k) (cons x s) (cons_closed x s cx cs)) a d1 in
      let (z2, q2, d3) = (enter nat (cons x s) pred_k y (cons_closed x s cx cs)).back j (value a) d2 in
      let (u, hu, gu) = pred_result z2 m w y hm g in
      (u, pred_of y, z2, hu, gu, falls_twice i j z2 q2 (falls_twice i z j q1 q), d3);
}

-- an operator hands its value on: the translation asks both operands, the left one first, and hands on what the operator comes to
pub binary_hands : (o : Operator) (continuation : TyTree) (n : ℕ) (m m' : TermTree) (s : Env) (c c' : TermTree) → AllClosed s
    → ((x : TermTree) → Closed x → Good nat n m (close zero (cons x s) c))
    → ((x y : TermTree) → Closed x → Closed y → Good nat n m' (close zero (cons y (cons x s)) c'))
    → Good nat n (binary o m m') (close zero s (lam continuation (app c (lam nat (app c' (lam nat (op_k o)))))))
binary_hands o continuation n m m' s c c' cs first second = record {
  forth = λ i k w l d x cx a f.
      let (r, b, v, u, dm, dn, q, e) = by_binary_inv d in
      let k1 = lam nat (app c' (lam nat (op_k o))) in
      let s1 = cons x s in
      let c1 = cons_closed x s cx cs in
      fwd (app (close zero s (lam continuation (app c k1))) x) (app (close zero s1 c) (close zero s1 k1)) (value a)
      (enter continuation s (app c k1) x cs)
      ((first x cx).forth r (b + k) (value v) (two_within i k n r b l q) dm (close zero s1 k1) (close_closed k1 s1 c1) a
      (λ y g.
      let s2 = cons y s1 in
      let c2 = cons_closed y s1 g.0 c1 in
      let k2 = lam nat (op_k o) in
      fwd (app (close zero s1 k1) y) (app (close zero s2 c') (close zero s2 k2)) (value a) (enter nat s1 (app c' k2) y c1)
      ((second x y cx g.0).forth b k (value u) (rest_within i k n r b l q) dn (close zero s2 k2) (close_closed k2 s2 c2) a
      (λ z g'.
      fwd (app (close zero s2 k2) z) (app x (binary o y z)) (value a) (enter nat s2 (op_k o) z c2)
      (f (binary o y z) (subst (λ w. Stands nat k w (binary o y z)) (sym e)
      (binary_stands k o v u y z (stands_less nat (b + k) k (value v) y (last_most b k) g) g')))))));
  back = λ i l x cx a d.
      let k1 = lam nat (app c' (lam nat (op_k o))) in
      let k2 = lam nat (op_k o) in
      let s1 = cons x s in
      let c1 = cons_closed x s cx cs in
      let (z, q, d1) = (enter continuation s (app c k1) x cs).back i (value a) d in
      let (w, y, j, hm, g, q1, d2) = (first x cx).back z (under_within z i n q l) (close zero s1 k1) (close_closed k1 s1 c1) a d1 in
      let s2 = cons y s1 in
      let c2 = cons_closed y s1 g.0 c1 in
      let (z2, q2, d3) = (enter nat s1 (app c' k2) y c1).back j (value a) d2 in
      let f : z2 < i = falls_once_more i z j z2 q2 q1 q in
      let w2 : z2 ≤ n = under_within z2 i n f l in
      let (w', y', j', hm', g', q3, d4) = (second x y cx g.0).back z2 w2 (close zero s2 k2) (close_closed k2 s2 c2) a d3 in
      let (z3, q4, d5) = (enter nat s2 (op_k o) y' c2).back j' (value a) d4 in
      let (u, hu, gu) = binary_result z3 o m m' w w' y y' hm hm' g g' in
      (u, binary o y y', z3, hu, gu, falls_once_more i z2 j' z3 q4 q3 f, d5);
}

at_app : (v : Val) (p q x : TermTree) → at_zero v (app p x) (app q x) ≡ app (at_zero v p q) x
at_app (Number zero) p q x = refl
at_app (Number (suc n)) p q x = refl
at_app Overflow p q x = refl

at_good : (v : Val) (n : ℕ) (m m' c c' : TermTree) → Good nat n m c → Good nat n m' c' →
    Good nat n (at_zero v m m') (at_zero v c c')
at_good (Number zero) n m m' c c' h g = h
at_good (Number (suc k)) n m m' c c' h g = g
at_good Overflow n m m' c c' h g = g

-- the translation of an `ifz` hands on what it comes to, if those of its test and of both branches do
pub ifz_hands : (t : TyTree) (n : ℕ) (m p q : TermTree) (s : Env) (c cp cq : TermTree) → AllClosed s
    → ((x : TermTree) → Closed x → Good nat n m (close zero (cons x s) c))
    → ((x y : TermTree) → Closed x → Closed y → Good nat n p (close zero (cons y (cons x s)) cp))
    → ((x y : TermTree) → Closed x → Closed y → Good nat n q (close zero (cons y (cons x s)) cq))
    → Good nat n (ifz m p q) (close zero s (lam t (app c (lam nat (ifz_k cp cq)))))
ifz_hands t n m p q s c cp cq cs test then else = record {
  forth = λ i k w l d x cx a f.
      let (r, b, v, dm, dn, e) = by_ifz_inv d in
      let k1 = lam nat (ifz_k cp cq) in
      let s1 = cons x s in
      let c1 = cons_closed x s cx cs in
      fwd (app (close zero s (lam t (app c k1))) x) (app (close zero s1 c) (close zero s1 k1)) (value a) (enter t s (app c k1) x cs)
      ((test x cx).forth r (b + k) (value v) (two_within i k n r b l e) dm (close zero s1 k1) (close_closed k1 s1 c1) a
      (λ y g.
      let s2 = cons y s1 in
      let pc = close zero s2 cp in
      let qc = close zero s2 cq in
      let left = (at_good v n p q pc qc (then x y cx g.0) (else x y cx g.0)).forth b k w (rest_within i k n r b l e) dn x cx a f in
      fwd (app (close zero s1 k1) y) (ifz y (app pc x) (app qc x)) (value a) (enter nat s1 (ifz_k cp cq) y c1)
      (ifz_ev y (app pc x) (app qc x) v (value a) (stands_ev (b + k) (value v) y g)
      (subst (λ o. HasEv o (value a)) (sym (at_app v pc qc x)) left))));
  back = λ i l x cx a d.
      let k1 = lam nat (ifz_k cp cq) in
      let s1 = cons x s in
      let c1 = cons_closed x s cx cs in
      let (z, l1, d1) = (enter t s (app c k1) x cs).back i (value a) d in
      let (w, y, j, hm, g, l2, d2) = (test x cx).back z (under_within z i n l1 l) (close zero s1 k1) (close_closed k1 s1 c1) a d1 in
      let s2 = cons y s1 in
      let pc = close zero s2 cp in
      let qc = close zero s2 cq in
      let (z2, l3, d3) = (enter nat s1 (ifz_k cp cq) y c1).back j (value a) d2 in
      let (i1, i2, v, dy, db, l4) = ifz_inv d3 in
      let db' = subst (λ o. Ev i2 o (value a)) (at_app v pc qc x) db in
      let f : i2 < i = falls_twice i z2 i2 (part_below z2 i1 i2 l4) (falls_once_more i z j z2 l3 l2 l1) in
      let good = at_good v n p q pc qc (then x y cx g.0) (else x y cx g.0) in
      let (w', y', j', hb, g', l5, d4) = good.back i2 (under_within i2 i n f l) x cx a db' in
      (w', y', j', ifz_result j m p q w y v w' hm g (i1, dy) hb, g', falls_twice i i2 j' l5 f, d4);
}

-- equal closures have equal bodies
same_body : (t t' : TyTree) (m m' : TermTree) → closure t m ≡ closure t' m' → m' ≡ m
same_body t t' m m' e = cc

-- the body of a result_type of arrow type
stands_body : (a b : TyTree) (n : ℕ) (t : TyTree) (m : TermTree) (y : TermTree) → Stands (arrow a b) n (closure t m) y → (j : ℕ) →
    j < n → (x : Res) (z : TermTree) → Stands a j x z → Good b j (subst_at m zero (quote x)) (app y z)
stands_body a b n t m y (c, (t', m', e, cl, f)) j l x z h =
    subst (λ m. Good b j (subst_at m zero (quote x)) (app y z)) (same_body t t' m m' e) (f j l x z h)

-- a result of arrow type is a closure, and what stands for it leads to the body
stands_fun : (a b : TyTree) (n : ℕ) (w : Res) (y : TermTree) → Stands (arrow a b) n w y → (t : TyTree) × (m : TermTree) ×
    (w ≡ closure t m) × ((j : ℕ) → j < n → (x : Res) (z : TermTree) → Stands a j x z →
    Good b j (subst_at m zero (quote x)) (app y z))
stands_fun a b n w y (c, (t', m', e, cl, f)) = (t', m', e, f)

-- what a term comes to, and what stands for it and leads a continuation on, after fewer steps
abbrev Led : TyTree → ℕ → TermTree → TermTree → Val → Type 0
Led b j m x v = (w : Res) × (y : TermTree) × (i : ℕ) × HasEvByValue m w × Stands b i w y × (i < j) × Ev i (app x y) (value v)

-- an application whose function and argument are at hand
app_rest : (a b t2 : TyTree) (s : Env) (j z2 j1 : ℕ) (m m' : TermTree) (w w1 : Res) (x y y1 : TermTree) (v : Val) →
    AllClosed (cons y (cons x s)) → Closed x → HasEvByValue m w → Stands (arrow a b) j w y → HasEvByValue m' w1 → Stands a j1 w1 y1
    → z2 < j → j1 < z2 → Ev j1 (app (close zero (cons y (cons x s)) (lam t2 app_k)) y1) (value v) → Led b j (app m m') x v
app_rest a b t2 s j z2 j1 m m' w w1 x y y1 v c2 cx hm g hm1 g1 l3 l4 d =
    let (z3, l5, d5) = (enter t2 (cons y (cons x s)) app_k y1 c2).back j1 (value v) d in
    let (t', mb, e, step) = stands_fun a b j w y g in
    let f : z3 < j = falls_once_more j z2 j1 z3 l5 l4 l3 in
    let body = step z3 f w1 y1 (stands_less a j1 z3 w1 y1 (less_most z3 j1 l5) g1) in
    let (w2, y2, j2, hm2, g2, l6, d6) = body.back z3 (itself z3) x cx v d5 in
    (w2, y2, j2, app_result t' m m' mb w1 w2 (subst (HasEvByValue m) e hm) hm1 hm2, g2, falls_twice j z3 j2 l6 f, d6)

-- an application whose function is at hand
app_argument : (a b t1 t2 : TyTree) (n : ℕ) (s : Env) (m m' code : TermTree) (j : ℕ) (function : Res) (continuation standing : TermTree)
    (answer : Val) →
    AllClosed (cons continuation s) → Closed continuation → ((x y : TermTree) → Closed x → Closed y →
    Good a n m' (close zero (cons y (cons x s)) code))
    → j ≤ n → HasEvByValue m function → Stands (arrow a b) j function standing
    → Ev j (app (close zero (cons continuation s) (lam t1 (app code (lam t2 app_k)))) standing) (value answer) →
    Led b j (app m m') continuation answer
app_argument a b t1 t2 n s m m' code j function continuation standing answer c1 cx argument within evaluates stands runs =
    let s1 = cons continuation s in
    let s2 = cons standing s1 in
    let c2 = cons_closed standing s1 stands.0 c1 in
    let k2 = lam t2 app_k in
    let (z2, l3, d3) = (enter t1 s1 (app code k2) standing c1).back j (value answer) runs in
    let q : z2 ≤ n = under_within z2 j n l3 within in
    let (w1, y1, j1, hm1, g1, l4, d4) = (argument continuation standing cx stands.0).back z2 q (close zero s2 k2)
    (close_closed k2 s2 c2) answer d3 in
    app_rest a b t2 s j z2 j1 m m' function w1 continuation standing y1 answer c2 cx evaluates stands hm1 g1 l3 l4 d4

-- the translation of an application hands on what it comes to, if those of the function and of the argument do
pub app_hands : (a b : TyTree) (continuation t1 t2 : TyTree) (n : ℕ) (m m' : TermTree) (s : Env) (code code' : TermTree) → AllClosed s
    → ((x : TermTree) → Closed x → Good (arrow a b) n m (close zero (cons x s) code))
    → ((x y : TermTree) → Closed x → Closed y → Good a n m' (close zero (cons y (cons x s)) code'))
    → Good b n (app m m') (close zero s (lam continuation (app code (lam t1 (app code' (lam t2 app_k))))))
app_hands a b continuation t1 t2 n m m' s code code' cs function argument = record {
  forth = λ i k w l d x cx v f.
      let (i1, i2, i3, t', mb, w1, df, dx, db, e) = by_app_inv d in
      let k1 = lam t1 (app code' (lam t2 app_k)) in
      let s1 = cons x s in
      let c1 = cons_closed x s cx cs in
      fwd (app (close zero s (lam continuation (app code k1))) x) (app (close zero s1 code) (close zero s1 k1)) (value v)
      (enter continuation s (app code k1) x cs)
      ((function x cx).forth i1 (suc (i2 + i3 + k)) (closure t' mb) (three_within i k n i1 i2 i3 l e) df (close zero s1 k1)
      (close_closed k1 s1 c1) v
      (λ y g.
      let cy = g.0 in
      let s2 = cons y s1 in
      let c2 = cons_closed y s1 cy c1 in
      let k2 = lam t2 app_k in
      fwd (app (close zero s1 k1) y) (app (close zero s2 code') (close zero s2 k2)) (value v) (enter t1 s1 (app code' k2) y c1)
      ((argument x y cx cy).forth i2 (i3 + k) w1 (last_within i k n i1 i2 i3 l e) dx (close zero s2 k2) (close_closed k2 s2 c2) v
      (λ z g'.
      fwd (app (close zero s2 k2) z) (app (app y z) x) (value v) (enter t2 s2 app_k z c2)
      ((stands_body a b (suc (i2 + i3 + k)) t' mb y g (i3 + k) (last_less i2 i3 k) w1 z g').forth i3 k w (itself (i3 + k)) db x cx v
      f)))));
  back = λ i l x cx v d.
      let k1 = lam t1 (app code' (lam t2 app_k)) in
      let s1 = cons x s in
      let c1 = cons_closed x s cx cs in
      let (z, l1, d1) = (enter continuation s (app code k1) x cs).back i (value v) d in
      let (w, y, j, hm, g, l2, d2) = (function x cx).back z (under_within z i n l1 l) (close zero s1 k1) (close_closed k1 s1 c1) v d1 in
      let f : j < i = falls_twice i z j l2 l1 in
      let (w2, y2, j2, hm2, g2, l3, d3) = app_argument a b t1 t2 n s m m' code' j w x y v c1 cx argument (under_within j i n f l) hm g d2 in
      (w2, y2, j2, hm2, g2, falls_twice i j j2 l3 f, d3);
}
