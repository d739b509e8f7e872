-- The translation of each term hands on the results of the term, and so does that of the whole program.
use Rattle.std.proofs.Common.{◌≡◌, ℕ, zero, suc, ◌<◌, ◌≤◌, List, [], ◌∷◌, Some, refl, sym, ap, ◌∙◌, subst}
use Rattle.std.proofs.Common.{arith}
use Rattle.std.proofs.Math.Nat.{le_refl}
use Rattle.std.specs.Prelude.{slice_get}
use Rattle.pcf_values.specs.declared.val.Val.{Val}
use Rattle.pcf_values.specs.declared.val.Val.TheVariants.{Number}
use Rattle.pcf_values.specs.Terms.{TyTree, nat, arrow, TermTree, num, var, succ_of, pred_of, binary, ifz, lam, fix, app, pair, proj}
use Rattle.pcf_values.specs.Typing.{HasType}
use Rattle.cbn_meaning.specs.Substitution.{subst_at}
use Rattle.cbn_meaning.specs.Environments.{Closed, Env, cons, AllClosed, close}
use Rattle.cbn_meaning.specs.Meaning.{Res, value, closure, Means}
use Rattle.cbn_meaning.specs.Derivations.{ev_num, HasEv, Steps}
use Rattle.cbn_meaning.proofs.Derived.{ev_eval, eval_ev}
use Rattle.cbn_meaning.proofs.Head.{unfold_fix, app_steps, one_value}
use Rattle.cbn_meaning.proofs.Close.{close_subst, close_closed, close_var_zero, cons_closed, close_same}
use Rattle.cbv_terms.specs.ByValue.{quote, MeansByValue}
use Rattle.cbv_terms.specs.Translation.{type_at, argument_type, result_type, type_in, value_type, continuation_type, beside}
use Rattle.cbv_terms.specs.Accepted.{HasTranslation}
use Rattle.cbv_terms.specs.Translation.{under, cps, translated}
use Rattle.cbv_terms.proofs.Derived.{EvByValue, by_num, by_lam, by_fix, HasEvByValue, derived_evaluates, evaluates_derived}
use Rattle.cbv_terms.proofs.Typed.{cps_typed}
use Rattle.cbv_terms.proofs.Relation.{Stands, stands_less, stands_closed, quote_closed, quote_derived, fwd, then_steps, enter, hands_step}
use Rattle.cbv_terms.proofs.Relation.{hands_value}
use Rattle.cbv_terms.proofs.Handing.{Good, succ_hands, pred_hands, binary_hands, ifz_hands, app_hands}

-- a variable's term has a result_type by value, for which its term of the translation stands
abbrev pub Entry : ℕ → TyTree → TermTree → TermTree → Type 0
Entry n a m y = (w : Res) × HasEvByValue m w × Stands a n w y

abbrev pub Entries : ℕ → List TyTree → Env → (ℕ → ℕ) → Env → Type 0
Entries n g r e s = (i : ℕ) (a : TyTree) → slice_get g i ≡ Some a → Entry n a (r i) (s (e i))

entry_less : (n k : ℕ) (a : TyTree) (m y : TermTree) → k ≤ n → Entry n a m y → Entry k a m y
entry_less n k a m y l (w, h, g) = (w, h, stands_less a n k w y l g)

num_closed : (v : ℕ) → Closed (num v)
num_closed v k p = refl

num_hands : (n v : ℕ) (s : Env) (t : TyTree) → AllClosed s → Good nat n (num v) (close zero s (lam t (app (var 0) (num v))))
num_hands n v s t cs = hands_value (λ k u o. Stands nat k u o) n (num v) s t (num v) (value (Number v)) cs (
  1,
  by_num,
) (λ x cx k l. (num_closed v, (Number v, refl, (1, ev_num))))

var_hands : (a : TyTree) (n : ℕ) (m : TermTree) (s : Env) (t : TyTree) (j : ℕ) → AllClosed s → Entry n a m (s j) →
    Good a n m (close zero s (lam t (app (var 0) (var (suc j)))))
var_hands a n m s t j cs (w, h, g) =
    hands_value (λ k u o. Stands a k u o) n m s t (var (suc j)) w cs h
    (λ x cx k l. subst (Stands a k w) (sym (close_var_zero (cons x s) (suc j))) (stands_less a n k w (s j) l g))

-- a `fun` hands on its closure, if its body hands on what it comes to for each argument that is a result
lam_hands : (a b : TyTree) (n : ℕ) (m : TermTree) (r s : Env) (continuation argument : TyTree) (c : TermTree) → AllClosed r → AllClosed s
    → ((j : ℕ) → j < n → (x : TermTree) → Closed x → (u : Res) (z : TermTree) → Stands a j u z →
    Good b j (close zero (cons (quote u) r) m) (close zero (cons z (cons x s)) c))
    → Good (arrow a b) n (lam a (close 1 r m)) (close zero s (lam continuation (app (var 0) (lam argument c))))
lam_hands a b n m r s continuation argument c cr cs body =
    hands_value (λ k u o. Stands (arrow a b) k u o) n (lam a (close 1 r m)) s continuation (lam argument c) (closure a (close 1 r m)) cs
    (1, by_lam)
    (λ x cx k l.
    let s1 = cons x s in
    let c1 = cons_closed x s cx cs in (
      close_closed (lam argument c) s1 c1,
      (
        a,
        close 1 r m,
        refl,
        close_closed (lam a m) r cr,
        (λ j i u z g.
            hands_step (λ k u o. Stands b k u o) j (subst_at (close 1 r m) zero (quote u)) (app (close zero s1 (lam argument c)) z)
            (close zero (cons z s1) c) (enter argument s1 c z c1)
            (subst (λ y. Good b j y (close zero (cons z s1) c)) (sym (close_subst m zero r (quote u) cr))
            (body j (omega arith) x cx u z g))),
      ),
    ))

-- a fix, and what stands for it at one continuation
module _ (f a b : TyTree) (m : TermTree) (r s : Env) (t t' : TyTree) (c : TermTree) (cr : AllClosed r) (cs : AllClosed s) where
  abbrev Whole : TermTree
  Whole = fix f (lam a (close 2 r m))

  abbrev There : TermTree
  There = close zero s (fix t (lam t' c))

  whole_closed : Closed Whole
  whole_closed = close_closed (fix f (lam a m)) r cr

  there_closed : Closed There
  there_closed = close_closed (fix t (lam t' c)) s cs

  unfolds : (z : TermTree) → Steps (app There z) (close zero (cons z (cons There s)) c)
  unfolds z =
      then_steps (app There z) (app (close zero (cons There s) (lam t' c)) z) (close zero (cons z (cons There s)) c)
      (app_steps There (close zero (cons There s) (lam t' c)) z
      (subst (Steps There) (close_subst (lam t' c) zero s There cs) (unfold_fix t (close 1 s (lam t' c)))))
      (enter t' (cons There s) c z (cons_closed There s there_closed cs))

  abbrev Unfolded : TermTree
  Unfolded = subst_at (close 2 r m) 1 Whole

  unfolded_same : Unfolded ≡ close 1 (cons Whole r) m
  unfolded_same = close_subst m 1 r Whole cr

  unfolded_closed : Closed (lam a Unfolded)
  unfolded_closed = subst (λ y. Closed (lam a y)) (sym unfolded_same)
      (close_closed (lam a m) (cons Whole r) (cons_closed Whole r whole_closed cr))

  called_same : (q : TermTree) → subst_at Unfolded zero q ≡ close zero (cons q (cons Whole r)) m
  called_same q = ap (λ y. subst_at y zero q) unfolded_same ∙ close_subst m zero (cons Whole r) q (cons_closed Whole r whole_closed cr)

  whole_derived : HasEvByValue Whole (closure a Unfolded)
  whole_derived = (1, by_fix)

  abbrev BodyHands : ℕ → Type 0
  BodyHands n = (j : ℕ) → j < n → (u : Res) (z : TermTree) → Stands a j u z → Entry j (arrow a b) Whole There →
      Good b j (close zero (cons (quote u) (cons Whole r)) m) (close zero (cons z (cons There s)) c)

  -- by induction on the index
  fix_stands : (k n : ℕ) → BodyHands n → k ≤ n → Stands (arrow a b) k (closure a Unfolded) There
  fix_stands zero n h l = (there_closed, (a, Unfolded, refl, unfolded_closed, (λ j i u z g. absurd (omega arith))))
  fix_stands (suc k) n h l =
      let before = fix_stands k n h (omega arith) in (
        there_closed,
        (
          a,
          Unfolded,
          refl,
          unfolded_closed,
          (λ j i u z g.
              hands_step (λ k u o. Stands b k u o) j (subst_at Unfolded zero (quote u)) (app There z)
              (close zero (cons z (cons There s)) c) (unfolds z)
              (subst (λ y. Good b j y (close zero (cons z (cons There s)) c)) (sym (called_same (quote u)))
              (h j (omega arith) u z g (
                closure a Unfolded,
                whole_derived,
                stands_less (arrow a b) k j (closure a Unfolded) There (omega arith) before,
              )))),
        ),
      )

fix_hands : (f a b : TyTree) (n : ℕ) (m : TermTree) (r s : Env) (t t1 t2 : TyTree) (c : TermTree) (cr : AllClosed r) (cs : AllClosed s)
    → ((x : TermTree) (cx : Closed x) → BodyHands f a b m r (cons x s) t1 t2 c cr (cons_closed x s cx cs) n)
    → Good (arrow a b) n (fix f (lam a (close 2 r m))) (close zero s (lam t (app (var 0) (fix t1 (lam t2 c)))))
fix_hands f a b n m r s t t1 t2 c cr cs h =
    hands_value (λ k u o. Stands (arrow a b) k u o) n (fix f (lam a (close 2 r m))) s t (fix t1 (lam t2 c))
    (closure a (subst_at (close 2 r m) 1 (fix f (lam a (close 2 r m))))) cs (1, by_fix)
    (λ x cx k l. fix_stands f a b m r (cons x s) t1 t2 c cr (cons_closed x s cx cs) k n (h x cx) l)

-- one more variable on both sides
entries_under : (n : ℕ) (a : TyTree) (g : List TyTree) (m : TermTree) (r : Env) (e : ℕ → ℕ) (s : Env) (y : TermTree) →
    Entry n a m y → Entries n g r e s → Entries n (a ∷ g) (cons m r) (under e) (cons y s)
entries_under n a g m r e s y h k zero b q = let p : a ≡ b = cc in subst (λ b. Entry n b m y) p h
entries_under n a g m r e s y h k (suc i) b q = k i b q

-- the translation of a typed term hands on what the term comes to, by induction on the term
pub term_hands : (m : TermTree) (g : List TyTree) (t : TyTree) (e : ℕ → ℕ) (r s : Env) (n : ℕ) → HasTranslation m →
    HasType g m t → AllClosed r → AllClosed s → Entries n g r e s → Good t n (close zero r m) (close zero s (cps g e m))
term_hands (num v) g t e r s n accepted typed cr cs en = subst (λ t. Good t n (num v) (close zero s (cps g e (num v)))) (sym typed.1)
    (num_hands n v s (continuation_type nat) cs)
term_hands (var i) g t e r s n accepted typed cr cs en =
    subst (λ y. Good t n y (close zero s (cps g e (var i)))) (sym (close_var_zero r i))
    (var_hands t n (r i) s (continuation_type (type_at g i)) (e i) cs (en i t typed))
term_hands (succ_of m) g t e r s n accepted typed cr cs en =
    subst (λ t. Good t n (close zero r (succ_of m)) (close zero s (cps g e (succ_of m)))) (sym typed.1)
    (succ_hands (continuation_type nat) n (close zero r m) s (cps g (beside e) m) cs
    (λ x cx. term_hands m g nat (beside e) r (cons x s) n accepted typed.0 cr (cons_closed x s cx cs) en))
term_hands (pred_of m) g t e r s n accepted typed cr cs en =
    subst (λ t. Good t n (close zero r (pred_of m)) (close zero s (cps g e (pred_of m)))) (sym typed.1)
    (pred_hands (continuation_type nat) n (close zero r m) s (cps g (beside e) m) cs
    (λ x cx. term_hands m g nat (beside e) r (cons x s) n accepted typed.0 cr (cons_closed x s cx cs) en))
term_hands (binary o a b) g t e r s n accepted typed cr cs en =
    subst (λ t. Good t n (close zero r (binary o a b)) (close zero s (cps g e (binary o a b)))) (sym typed.2)
    (binary_hands o (continuation_type nat) n (close zero r a) (close zero r b) s (cps g (beside e) a) (cps g (beside (beside e)) b) cs
    (λ x cx. term_hands a g nat (beside e) r (cons x s) n accepted.0 typed.0 cr (cons_closed x s cx cs) en)
    (λ x y cx cy. term_hands b g nat (beside (beside e)) r (cons y (cons x s)) n accepted.1 typed.1 cr
    (cons_closed y (cons x s) cy (cons_closed x s cx cs)) en))
term_hands (ifz c p q) g t e r s n accepted typed cr cs en =
    subst (λ t. Good t n (close zero r (ifz c p q)) (close zero s (cps g e (ifz c p q)))) (sym typed.3)
    (ifz_hands (continuation_type nat) n (close zero r c) (close zero r p) (close zero r q) s (cps g (beside e) c)
    (cps g (beside (beside e)) p) (cps g (beside (beside e)) q) cs
    (λ x cx. term_hands c g nat (beside e) r (cons x s) n accepted.0 typed.0 cr (cons_closed x s cx cs) en)
    (λ x y cx cy. term_hands p g nat (beside (beside e)) r (cons y (cons x s)) n accepted.1 typed.1 cr
    (cons_closed y (cons x s) cy (cons_closed x s cx cs)) en)
    (λ x y cx cy. term_hands q g nat (beside (beside e)) r (cons y (cons x s)) n accepted.2 typed.2 cr
    (cons_closed y (cons x s) cy (cons_closed x s cx cs)) en))
term_hands (lam a m) g t e r s n accepted typed cr cs en =
    subst (λ t. Good t n (close zero r (lam a m)) (close zero s (cps g e (lam a m)))) (sym typed.2)
    (lam_hands a typed.0 n m r s (continuation_type (type_in g (lam a m))) (value_type a) (cps (a ∷ g) (under (beside e)) m) cr cs
    (λ j l x cx u z w.
    term_hands m (a ∷ g) typed.0 (under (beside e)) (cons (quote u) r) (cons z (cons x s)) j accepted.1 typed.1
    (cons_closed (quote u) r (quote_closed a j u z w) cr) (cons_closed z (cons x s) (stands_closed a j u z w) (cons_closed x s cx cs))
    (entries_under j a g (quote u) r (beside e) (cons x s) z (
      u,
      quote_derived a j u z w,
      w,
    ) (λ i b q. entry_less n j b (r i) (s (e i)) (omega arith) (en i b q)))))
term_hands (fix (arrow f f') (lam a m)) g t e r s n accepted typed cr cs en =
    let (b, hm, q) = typed.0 in
    subst (λ t. Good t n (close zero r (fix (arrow f f') (lam a m))) (close zero s (cps g e (fix (arrow f f') (lam a m)))))
    (sym (typed.1 ∙ q))
    (fix_hands (arrow f f') a b n m r s (continuation_type (arrow f f')) (value_type (arrow f f')) (value_type a)
    (cps (a ∷ arrow f f' ∷ g) (under (under (beside e))) m) cr cs
    (λ x cx j l u z w own.
    let whole = fix (arrow f f') (lam a (close 2 r m)) in
    let there = close zero (cons x s) (fix (value_type (arrow f f'))
    (lam (value_type a) (cps (a ∷ arrow f f' ∷ g) (under (under (beside e))) m))) in
    let c1 = cons_closed x s cx cs in
    let ct : Closed there =
    close_closed (fix (value_type (arrow f f')) (lam (value_type a) (cps (a ∷ arrow f f' ∷ g) (under (under (beside e))) m)))
    (cons x s) c1 in
    let cw : Closed whole = close_closed (fix (arrow f f') (lam a m)) r cr in
    let own' : Entry j (arrow f f') whole there = subst (λ t. Entry j t whole there) (sym q) own in
    term_hands m (a ∷ arrow f f' ∷ g) b (under (under (beside e))) (cons (quote u) (cons whole r)) (cons z (cons there (cons x s))) j
    accepted.2 hm
    (cons_closed (quote u) (cons whole r) (quote_closed a j u z w) (cons_closed whole r cw cr))
    (cons_closed z (cons there (cons x s)) (stands_closed a j u z w) (cons_closed there (cons x s) ct c1))
    (entries_under j a (arrow f f' ∷ g) (quote u) (cons whole r) (under (beside e)) (cons there (cons x s)) z (
      u,
      quote_derived a j u z w,
      w,
    )
    (entries_under j (arrow f f') g whole r (beside e) (cons x s) there own'
    (λ i b q. entry_less n j b (r i) (s (e i)) (omega arith) (en i b q))))))
term_hands (fix a m) g t e r s n accepted typed cr cs en = elim accepted [ ]
term_hands (app f y) g t e r s n accepted typed cr cs en =
    app_hands typed.0 t (continuation_type (result_type (type_in g f))) (value_type (type_in g f))
    (value_type (argument_type (type_in g f))) n
    (close zero r f) (close zero r y) s (cps g (beside e) f) (cps g (beside (beside e)) y) cs
    (λ x cx. term_hands f g (arrow typed.0 t) (beside e) r (cons x s) n accepted.0 typed.1 cr (cons_closed x s cx cs) en)
    (λ x z cx cz. term_hands y g typed.0 (beside (beside e)) r (cons z (cons x s)) n accepted.1 typed.2 cr
    (cons_closed z (cons x s) cz (cons_closed x s cx cs)) en)
term_hands (pair a b) g t e r s n accepted typed cr cs en = elim accepted [ ]
term_hands (proj d a) g t e r s n accepted typed cr cs en = elim accepted [ ]

module _ (m : TermTree) (typed : HasType [] m nat) (taken : HasTranslation m) where
  abbrev Blank : Env
  Blank i = num zero

  blank_closed : AllClosed Blank
  blank_closed i = num_closed zero

  whole : (n : ℕ) → Good nat n m (cps [] (λ i. i) m)
  whole n =
      let same = close_same m [] nat Blank typed in
      let there = close_same (cps [] (λ i. i) m) [] (arrow (continuation_type nat) nat) Blank
      (cps_typed m [] [] nat (λ i. i) taken typed (λ i b q. cc)) in
      subst (λ c. Good nat n m c) there
      (subst (λ o. Good nat n o (close zero Blank (cps [] (λ i. i) m))) same
      (term_hands m [] nat (λ i. i) Blank Blank n taken typed blank_closed blank_closed (λ i b q. cc)))

  abbrev Last : TermTree
  Last = lam nat (var 0)

  last_closed : Closed Last
  last_closed k p = close_closed (lam nat (var 0)) Blank blank_closed k p

  last_steps : (y : TermTree) → Steps (app Last y) y
  last_steps y = enter nat Blank (var 0) y blank_closed

  pub from_by_value : (v : Val) → MeansByValue m v → Means (translated m) v
  from_by_value v (d, h) =
      let (i, e) = evaluates_derived d m (value v) h in
      let (z, f) = (whole i).forth i zero (value v) (omega arith) e Last last_closed v
      (λ y (c, (w, q, g)). fwd (app Last y) y (value v) (last_steps y) (subst (HasEv y) (sym q) g)) in
      (z, ev_eval f)

  pub to_by_value : (v : Val) → Means (translated m) v → MeansByValue m v
  to_by_value v (d, h) =
      let (i, e) = eval_ev d (translated m) (value v) h in
      let (w, y, j, (z, f), (c, (u, q, (k, g))), l, o) = (whole i).back i (le_refl i) Last last_closed v e in
      let (a, b, o') = (last_steps y).back j (value v) o in
      let same : u ≡ v = one_value y u v (k, ev_eval g) (a, ev_eval o') in
      (z, derived_evaluates (subst (EvByValue z m) (q ∙ ap value same) f))
