-- What the code of each form makes is what the definition says of the form, at the binders and the depth at hand.
use Rattle.std.proofs.Common.{◌≡◌, ℕ, suc, ◌+◌, ◌-◌, ◌*◌, ◌^◌, ◌<◌, List, [], ◌∷◌, ◌++◌, reverse, Some, Result, Ok, Err, refl, add-zero}
use Rattle.std.proofs.Common.{sym, ap, ◌∙◌, subst, arith}
use Rattle.std.specs.Prelude.{slice_get, IfOk}
use Rattle.pcf_values.specs.declared.term.Term.{Term}
use Rattle.pcf_values.specs.declared.operator.Operator.{Operator}
use Rattle.pcf_values.specs.Terms.{TyTree, nat, arrow, product, TermTree, num, var, succ_of, pred_of, binary, ifz, lam, fix, app, height}
use Rattle.pcf_values.specs.Terms.{size}
use Rattle.pcf_values.specs.Typing.{HasType}
use Rattle.pcf_values.specs.Views.{ty_of, term_of}
use Rattle.cbv_terms.specs.declared.binder.Binder.{Binder}
use Rattle.cbv_terms.specs.declared.forms.Unary.{Unary}
use Rattle.cbv_terms.specs.declared.forms.Unary.TheVariants.{Succ, Pred}
use Rattle.cbv_terms.specs.declared.made.Made.{Made}
use Rattle.cbv_terms.specs.Translation.{argument_type, result_type, type_in, value_type, continuation_type, beside, under}
use Rattle.cbv_terms.specs.Accepted.{HasTranslation}
use Rattle.cbv_terms.specs.Translation.{cps, translated}
use Rattle.cbv_terms.specs.Views.{known_of, unary_of, context_of, map_of, AreAround, IsTyped, IsReady, Makes, MakesFunction}
use Rattle.cbv_terms.proofs.Typed.{typed_in}
use Rattle.cbv_terms.proofs.Placing.{around_beside, around_beside_twice, map_beside, map_beside_twice, around_pushed, context_pushed}
use Rattle.cbv_terms.proofs.Placing.{map_pushed, variable_place, variable_type}

-- what was made at other binders that are the same
moved : (s old new : List Binder) (d : ℕ) (m : TermTree) (made : Made) → s ≡ old →
    Makes s new (context_of s) (map_of d s) m made → Makes old new (context_of old) (map_of d old) m made
moved s old new d m made e h = subst (λ s. Makes s new (context_of s) (map_of d s) m made) e h

-- a term said by its parts as they are at hand
pub one_part : (f : TermTree → TermTree) (m a x : Term) → term_of m ≡ f (term_of a) → x ≡ a → term_of m ≡ f (term_of x)
one_part f m a x e p = e ∙ ap (λ x. f (term_of x)) (sym p)

-- and by two parts
pub two_parts : (f : TermTree → TermTree → TermTree) (m a b x y : Term) → term_of m ≡ f (term_of a) (term_of b) → x ≡ a → y ≡ b →
    term_of m ≡ f (term_of x) (term_of y)
two_parts f m a b x y e p q = one_part (λ t. f t (term_of y)) m a x (one_part (f (term_of a)) m b y e q) p

-- and by three parts
pub three_parts : (f : TermTree → TermTree → TermTree → TermTree) (m a b c x y z : Term) →
    term_of m ≡ f (term_of a) (term_of b) (term_of c) → x ≡ a → y ≡ b → z ≡ c → term_of m ≡ f (term_of x) (term_of y) (term_of z)
three_parts f m a b c x y z e p q r = one_part (λ t. f t (term_of y) (term_of z)) m a x (two_parts (f (term_of a)) m b c y z e q r) p

-- what is left of a term is smaller by the cycle's measure
less_left : (t s k : ℕ) → 3 * s ≡ t → s ≡ suc k → 3 * k + 2 < t
less_left t s k e q = omega arith

-- at a part of a term that is said in other words
pub part_falls : (t k : ℕ) (m m' : TermTree) → m ≡ m' → 3 * size m ≡ t → size m' ≡ suc k → 3 * k + 2 < t
part_falls t k m m' e h q = less_left t (size m) k h (ap size e ∙ q)

-- what is asked of a term is asked of the same term in other words
pub asked_of : (bs : List Binder) (d : ℕ) (m m' : TermTree) → m ≡ m' → IsReady bs d (context_of bs) m → d + 5 * height m < 2 ^ 32 →
    IsReady bs d (context_of bs) m' × (d + 5 * height m' < 2 ^ 32)
asked_of bs d m m' e h r = (subst (IsReady bs d (context_of bs)) e h, subst (λ m. d + 5 * height m < 2 ^ 32) e r)

-- and what is told of the one is told of the other
pub made_of : {E : Type 0} (r : Result Made E) (old new : List Binder) (d : ℕ) (m m' : TermTree) → m ≡ m' →
    IfOk r (Makes old new (context_of old) (map_of d old) m') → IfOk r (Makes old new (context_of old) (map_of d old) m)
made_of r old new d m m' e h = subst (λ m. IfOk r (Makes old new (context_of old) (map_of d old) m)) (sym e) h

-- a part that is translated under one or two binders more
once : (d : ℕ) (old new : List Binder) (m : TermTree) (made : Made) → AreAround d (reverse old) →
    Makes old new (context_of old) (map_of (d + 1) old) m made →
    term_of made.term.value ≡ cps (context_of old) (beside (map_of d old)) m
once d old new m made r h = h.term ∙ ap (λ e. cps (context_of old) e m) (map_beside d old r)

twice : (d : ℕ) (old new : List Binder) (m : TermTree) (made : Made) → AreAround d (reverse old) →
    Makes old new (context_of old) (map_of (d + 2) old) m made →
    term_of made.term.value ≡ cps (context_of old) (beside (beside (map_of d old))) m
twice d old new m made r h = h.term ∙ ap (λ e. cps (context_of old) e m) (map_beside_twice d old r)

-- a part is ready where its whole is
deeper : (bs : List Binder) (d : ℕ) (m : TermTree) → HasTranslation m → IsTyped (context_of bs) m → AreAround d (reverse bs) →
    IsReady bs (d + 1) (context_of bs) m
deeper bs d m t h r = record { taken = t; typed = h; around = around_beside d bs r }

pub ready_at : (s old : List Binder) (d : ℕ) (m : TermTree) → s ≡ old → IsReady old d (context_of old) m →
    IsReady s d (context_of s) m
ready_at s old d m e h = subst (λ s. IsReady s d (context_of s) m) (sym e) h

deeper_twice : (bs : List Binder) (d : ℕ) (m : TermTree) → HasTranslation m → IsTyped (context_of bs) m →
    AreAround d (reverse bs) → IsReady bs (d + 2) (context_of bs) m
deeper_twice bs d m t h r = record { taken = t; typed = h; around = around_beside_twice d bs r }

pub unary_ready : (form : Unary) (bs : List Binder) (d : ℕ) (a : TermTree) → IsReady bs d (context_of bs) (unary_of form a) →
    IsReady bs (d + 1) (context_of bs) a
unary_ready Succ bs d a h = let (t, g) = h.typed in deeper bs d a h.taken (nat, g.0) h.around
unary_ready Pred bs d a h = let (t, g) = h.typed in deeper bs d a h.taken (nat, g.0) h.around

pub left_ready : (o : Operator) (bs : List Binder) (d : ℕ) (a b : TermTree) → IsReady bs d (context_of bs) (binary o a b) →
    IsReady bs (d + 1) (context_of bs) a
left_ready o bs d a b h = let (t, g) = h.typed in deeper bs d a h.taken.0 (nat, g.0) h.around

pub right_ready : (o : Operator) (bs : List Binder) (d : ℕ) (a b : TermTree) → IsReady bs d (context_of bs) (binary o a b) →
    IsReady bs (d + 2) (context_of bs) b
right_ready o bs d a b h = let (t, g) = h.typed in deeper_twice bs d b h.taken.1 (nat, g.1) h.around

pub test_ready : (bs : List Binder) (d : ℕ) (c p q : TermTree) → IsReady bs d (context_of bs) (ifz c p q) →
    IsReady bs (d + 1) (context_of bs) c
test_ready bs d c p q h = let (t, g) = h.typed in deeper bs d c h.taken.0 (nat, g.0) h.around

pub then_ready : (bs : List Binder) (d : ℕ) (c p q : TermTree) → IsReady bs d (context_of bs) (ifz c p q) →
    IsReady bs (d + 2) (context_of bs) p
then_ready bs d c p q h = let (t, g) = h.typed in deeper_twice bs d p h.taken.1 (nat, g.1) h.around

pub else_ready : (bs : List Binder) (d : ℕ) (c p q : TermTree) → IsReady bs d (context_of bs) (ifz c p q) →
    IsReady bs (d + 2) (context_of bs) q
else_ready bs d c p q h = let (t, g) = h.typed in deeper_twice bs d q h.taken.2 (nat, g.2) h.around

pub function_ready : (bs : List Binder) (d : ℕ) (f a : TermTree) → IsReady bs d (context_of bs) (app f a) →
    IsReady bs (d + 1) (context_of bs) f
function_ready bs d f a h = let (t, (b, hf, ha)) = h.typed in deeper bs d f h.taken.0 (arrow b t, hf) h.around

pub argument_ready : (bs : List Binder) (d : ℕ) (f a : TermTree) → IsReady bs d (context_of bs) (app f a) →
    IsReady bs (d + 2) (context_of bs) a
argument_ready bs d f a h = let (t, (b, hf, ha)) = h.typed in deeper_twice bs d a h.taken.1 (b, ha) h.around

pub fun_ready : (bs : List Binder) (d : ℕ) (a : TyTree) (m : TermTree) → IsReady bs d (context_of bs) (lam a m) →
    IsReady bs (d + 1) (a ∷ context_of bs) m
fun_ready bs d a m h = let (t, (b, hm, e)) = h.typed in record { taken = h.taken.1; typed = (b, hm); around = around_beside d bs h.around }

fix_taken : (f a : TyTree) (m : TermTree) → HasTranslation (fix f (lam a m)) → HasTranslation m
fix_taken nat a m h = elim h [ ]
fix_taken (arrow b c) a m h = h.2
fix_taken (product b c) a m h = elim h [ ]

fix_ready_of : (bs : List Binder) (d : ℕ) (f a : TyTree) (m : TermTree) → IsReady bs d (context_of bs) (fix f (lam a m)) →
    IsReady bs (d + 1) (a ∷ f ∷ context_of bs) m
fix_ready_of bs d f a m h = let (t, ((b, hm, e), q)) = h.typed in
    record { taken = fix_taken f a m h.taken; typed = (b, hm); around = around_beside d bs h.around }

pub fix_ready : (bs : List Binder) (d : ℕ) (f a : TyTree) (m whole : TermTree) → whole ≡ lam a m →
    IsReady bs d (context_of bs) (fix f whole) → IsReady bs (d + 1) (a ∷ f ∷ context_of bs) m
fix_ready bs d f a m whole e h = fix_ready_of bs d f a m (subst (λ w. IsReady bs d (context_of bs) (fix f w)) e h)

-- the binder is there: the body's context is that of the binders
pub body_ready : (bs s : List Binder) (b : Binder) (d : ℕ) (m : TermTree) → s ≡ bs ++ b ∷ [] → b.level ≡ d →
    IsReady bs d (ty_of b.ty.now ∷ context_of bs) m → IsReady s (d + 1) (context_of s) m
body_ready bs s b d m e l h = subst (λ s. IsReady s (d + 1) (context_of s) m) (sym e) (record {
  taken = h.taken;
  typed = subst (λ g. IsTyped g m) (sym (context_pushed bs b)) h.typed;
  around = around_pushed d bs b l h.around;
})

pub inner_ready : (bs s : List Binder) (b : Binder) (d : ℕ) (a : TyTree) (m : TermTree) → s ≡ bs ++ b ∷ [] → b.level ≡ d →
    IsReady bs d (a ∷ ty_of b.ty.now ∷ context_of bs) m → IsReady s (d + 1) (a ∷ context_of s) m
inner_ready bs s b d a m e l h = subst (λ s. IsReady s (d + 1) (a ∷ context_of s) m) (sym e) (record {
  taken = h.taken;
  typed = subst (λ g. IsTyped (a ∷ g) m) (sym (context_pushed bs b)) h.typed;
  around = around_pushed d bs b l h.around;
})

-- what is made
pub number_makes : (bs : List Binder) (d n : ℕ) (m : TermTree) (made : Made) → m ≡ num n
    → term_of made.term.value ≡ lam (continuation_type nat) (app (var 0) (num n)) → known_of made.ty ≡ nat
    → Makes bs bs (context_of bs) (map_of d bs) m made
number_makes bs d n m made e h q =
    subst (λ m. Makes bs bs (context_of bs) (map_of d bs) m made) (sym e) (record { term = h; typed = q; binders = refl })

pub variable_makes : (bs : List Binder) (d i : ℕ) (b : Binder) (made : Made) → AreAround d (reverse bs) →
    slice_get (reverse bs) i ≡ Some b
    → term_of made.term.value ≡ lam (continuation_type (ty_of b.ty.now)) (app (var 0) (var (d - b.level)))
    → known_of made.ty ≡ ty_of b.ty.now
    → Makes bs bs (context_of bs) (map_of d bs) (var i) made
variable_makes bs d i b made r h e q =
    let t = variable_type bs i b h in
    let p = variable_place d bs i b r h in
    record { term = e ∙ (λ k. lam (continuation_type (sym t k)) (app (var 0) (var (p k)))); typed = q ∙ sym t; binders = refl }

-- a successor or a predecessor that is built around its operand's translation is the definition's
pub unary_makes : (form : Unary) (old new : List Binder) (d : ℕ) (a : TermTree) (part made : Made) → AreAround d (reverse old)
    → Makes old new (context_of old) (map_of (d + 1) old) a part
    → term_of made.term.value ≡ lam (continuation_type nat)
    (app (term_of part.term.value) (lam nat (app (var 1) (unary_of form (var 0)))))
    → known_of made.ty ≡ nat
    → Makes old new (context_of old) (map_of d old) (unary_of form a) made
unary_makes Succ old new d a part made r h e q =
    let x = once d old new a part r h in
    record {
      term = e ∙ (λ k. lam (continuation_type nat) (app (x k) (lam nat (app (var 1) (succ_of (var 0))))));
      typed = q;
      binders =
          h.binders;
    }
unary_makes Pred old new d a part made r h e q =
    let x = once d old new a part r h in
    record {
      term = e ∙ (λ k. lam (continuation_type nat) (app (x k) (lam nat (app (var 1) (pred_of (var 0))))));
      typed = q;
      binders =
          h.binders;
    }

-- what the code makes of an operator, of what it made of both operands, is the translation of the whole
pub binary_makes : (o : Operator) (old s new : List Binder) (d : ℕ) (a b : TermTree) (left right made : Made) → AreAround d (reverse old)
    → Makes old s (context_of old) (map_of (d + 1) old) a left
    → Makes s new (context_of s) (map_of (d + 2) s) b right
    → term_of made.term.value ≡ lam (continuation_type nat)
    (app (term_of left.term.value) (lam nat (app (term_of right.term.value) (lam nat (app (var 2) (binary o (var 1) (var 0)))))))
    → known_of made.ty ≡ nat
    → Makes old new (context_of old) (map_of d old) (binary o a b) made
binary_makes o old s new d a b left right made around first second built typed =
    let second' = moved s old new (d + 2) b right first.binders second in
    let x = once d old s a left around first in
    let y = twice d old new b right around second' in
    record {
      term = built ∙ (λ j. lam (continuation_type nat)
          (app (x j) (lam nat (app (y j) (lam nat (app (var 2) (binary o (var 1) (var 0))))))));
      typed = typed;
      binders = second'.binders;
    }

-- an `ifz` that is built around the translations of its three parts is the definition's
pub ifz_makes : (old s1 s2 new : List Binder) (d : ℕ) (c p q : TermTree) (test then else made : Made) → AreAround d (reverse old)
    → Makes old s1 (context_of old) (map_of (d + 1) old) c test
    → Makes s1 s2 (context_of s1) (map_of (d + 2) s1) p then
    → Makes s2 new (context_of s2) (map_of (d + 2) s2) q else
    → term_of made.term.value ≡ lam (continuation_type nat)
    (app (term_of test.term.value) (lam nat
    (ifz (var 0) (app (term_of then.term.value) (var 1)) (app (term_of else.term.value) (var 1)))))
    → known_of made.ty ≡ nat
    → Makes old new (context_of old) (map_of d old) (ifz c p q) made
ifz_makes old s1 s2 new d c p q test then else made around tested first second built typed =
    let first' = moved s1 old s2 (d + 2) p then tested.binders first in
    let second' = moved s2 old new (d + 2) q else first'.binders second in
    let x = once d old s1 c test around tested in
    let y = twice d old s2 p then around first' in
    let z = twice d old new q else around second' in
    record {
      term = built ∙ (λ k. lam (continuation_type nat) (app (x k) (lam nat (ifz (var 0) (app (y k) (var 1)) (app (z k) (var 1))))));
      typed = typed;
      binders = second'.binders;
    }

pub function_arrow : (bs new : List Binder) (d : ℕ) (f a : TermTree) (made : Made) → IsReady bs d (context_of bs) (app f a)
    → Makes bs new (context_of bs) (map_of (d + 1) bs) f made → (x y : TyTree) × (known_of made.ty ≡ arrow x y)
function_arrow bs new d f a made r h =
    let (t, (b, hf, ha)) = r.typed in
    (b, t, h.typed ∙ sym (typed_in f (context_of bs) (arrow b t) r.taken.0 hf))

-- an application that is built around the translations of the function and of the argument is the definition's
pub app_makes : (old s new : List Binder) (d : ℕ) (f a : TermTree) (function argument made : Made) → AreAround d (reverse old)
    → Makes old s (context_of old) (map_of (d + 1) old) f function
    → Makes s new (context_of s) (map_of (d + 2) s) a argument
    → term_of made.term.value ≡ lam (continuation_type (result_type (known_of function.ty)))
    (app (term_of function.term.value) (lam (value_type (known_of function.ty))
    (app (term_of argument.term.value) (lam (value_type (argument_type (known_of function.ty))) (app (app (var 1) (var 0)) (var 2))))))
    → known_of made.ty ≡ result_type (known_of function.ty)
    → Makes old new (context_of old) (map_of d old) (app f a) made
app_makes old s new d f a function argument made around called handed built typed =
    let handed' = moved s old new (d + 2) a argument called.binders handed in
    let x = once d old s f function around called in
    let y = twice d old new a argument around handed' in
    let t = called.typed in
    record {
      term = built ∙ (λ j. lam (continuation_type (result_type (t j)))
          (app (x j) (lam (value_type (t j)) (app (y j) (lam (value_type (argument_type (t j))) (app (app (var 1) (var 0)) (var 2)))))));
      typed = typed ∙ ap result_type t;
      binders = handed'.binders;
    }

-- the body under a binder that was pushed and taken off again
pub body_makes : (bs s mid new : List Binder) (b : Binder) (d : ℕ) (m : TermTree) (made : Made) → s ≡ bs ++ b ∷ [] →
    b.level ≡ d → AreAround d (reverse bs)
    → Makes s mid (context_of s) (map_of (d + 1) s) m made → new ≡ bs
    → Makes bs new (ty_of b.ty.now ∷ context_of bs) (under (map_of d bs)) m made
body_makes bs s mid new b d m made e l r h n =
    let g = ap context_of e ∙ context_pushed bs b in
    let f = ap (map_of (d + 1)) e ∙ map_pushed d bs b l r in
    record { term = h.term ∙ (λ k. cps (g k) (f k) m); typed = h.typed ∙ ap (λ g. type_in g m) g; binders = n }

-- the `fun` inside a `fix` that is built around its body's translation is the definition's
pub function_makes : (bs s mid new : List Binder) (b : Binder) (d : ℕ) (a : TyTree) (m : TermTree) (body : Made) (made : Term) →
    s ≡ bs ++ b ∷ [] → b.level ≡ d → AreAround d (reverse bs)
    → Makes s mid (a ∷ context_of s) (under (map_of (d + 1) s)) m body → new ≡ bs
    → term_of made ≡ lam (value_type a) (term_of body.term.value)
    → MakesFunction bs new d (ty_of b.ty.now) a m made
function_makes bs s mid new b d a m body made ends level around inner same built =
    let g = ap context_of ends ∙ context_pushed bs b in
    let f = ap (map_of (d + 1)) ends ∙ map_pushed d bs b level around in
    let x : term_of body.term.value ≡ cps (a ∷ ty_of b.ty.now ∷ context_of bs) (under (under (map_of d bs))) m = inner.term ∙
    (λ k. cps (a ∷ g k) (under (f k)) m) in
    record { term = built ∙ ap (lam (value_type a)) x; binders = same }

-- a `fun` that is built around its body's translation is the definition's
pub fun_makes : (old new : List Binder) (d : ℕ) (a : TyTree) (m : TermTree) (body made : Made) → AreAround d (reverse old)
    → Makes old new (a ∷ context_of old) (under (map_of (d + 1) old)) m body
    → term_of made.term.value ≡ lam (continuation_type (arrow a (known_of body.ty)))
    (app (var 0) (lam (value_type a) (term_of body.term.value)))
    → known_of made.ty ≡ arrow a (known_of body.ty)
    → Makes old new (context_of old) (map_of d old) (lam a m) made
fun_makes old new d a m body made r h e q =
    let x : term_of body.term.value ≡ cps (a ∷ context_of old) (under (beside (map_of d old))) m = h.term ∙
    ap (λ f. cps (a ∷ context_of old) (under f) m) (map_beside d old r) in
    let t = h.typed in
    record {
      term = e ∙ (λ k. lam (continuation_type (arrow a (t k))) (app (var 0) (lam (value_type a) (x k))));
      typed = q ∙
          ap (arrow a) t;
      binders = h.binders;
    }

fix_makes_of : (old new : List Binder) (d : ℕ) (f a : TyTree) (m : TermTree) (function : Term) (made : Made) → AreAround d (reverse old)
    → MakesFunction old new (d + 1) f a m function
    → term_of made.term.value ≡ lam (continuation_type f) (app (var 0) (fix (value_type f) (term_of function)))
    → known_of made.ty ≡ f
    → Makes old new (context_of old) (map_of d old) (fix f (lam a m)) made
fix_makes_of old new d f a m function made r h e q =
    let x : term_of function ≡ lam (value_type a) (cps (a ∷ f ∷ context_of old) (under (under (beside (map_of d old)))) m) =
    h.term ∙ ap (λ p. lam (value_type a) (cps (a ∷ f ∷ context_of old) (under (under p)) m)) (map_beside d old r) in
    record { term = e ∙ ap (λ t. lam (continuation_type f) (app (var 0) (fix (value_type f) t))) x; typed = q; binders = h.binders }

pub fix_makes : (old new : List Binder) (d : ℕ) (f a : TyTree) (m whole : TermTree) (function : Term) (made : Made) →
    whole ≡ lam a m → AreAround d (reverse old)
    → MakesFunction old new (d + 1) f a m function
    → term_of made.term.value ≡ lam (continuation_type f) (app (var 0) (fix (value_type f) (term_of function)))
    → known_of made.ty ≡ f
    → Makes old new (context_of old) (map_of d old) (fix f whole) made
fix_makes old new d f a m whole function made w r h e q =
    subst (λ w. Makes old new (context_of old) (map_of d old) (fix f w) made) (sym w) (fix_makes_of old new d f a m function made r h e q)

pub unary_height : (form : Unary) (a : TermTree) → height (unary_of form a) ≡ suc (height a)
unary_height Succ a = refl
unary_height Pred a = refl

-- of two facts on what is answered, a third
pub both_ok : {A E : Type 0} (r : Result A E) (P Q R : A → Type 0) → ((a : A) → P a → Q a → R a) → IfOk r P → IfOk r Q →
    IfOk r R
both_ok (Ok a) P Q R f p q = f a p q
both_ok (Err e) P Q R f p q = p

-- the whole program, under no binders
pub start_ready : (bs : List Binder) (m : TermTree) → bs ≡ [] → HasType [] m nat → HasTranslation m →
    IsReady bs 0 (context_of bs) m
start_ready bs m e h t = subst (λ s. IsReady s 0 (context_of s) m) (sym e) (record { taken = t; typed = (nat, h); around = tt })

start_map : map_of 0 [] ≡ (λ i. i)
start_map = λ k i. add-zero i k

pub start_makes : (bs new : List Binder) (m : TermTree) (made : Made) (whole : Term) → bs ≡ [] →
    Makes bs new (context_of bs) (map_of 0 bs) m made
    → term_of whole ≡ app (term_of made.term.value) (lam nat (var 0)) → term_of whole ≡ translated m
start_makes bs new m made whole e h q =
    let h' = subst (λ s. Makes s new (context_of s) (map_of 0 s) m made) e h in
    let x : term_of made.term.value ≡ cps [] (λ i. i) m = h'.term ∙ ap (λ f. cps [] f m) start_map in
    q ∙ ap (λ t. app t (lam nat (var 0))) x
