-- What statements and items do, by what their parts do.
use Rattle.std.proofs.Common.{◌≡◌, ◌∙◌, ◌≤◌, ◌-◌, ℕ, suc, Bool, true, false, List}
use Rattle.std.proofs.Common.{[], ◌∷◌, ◌++◌, map, length, take, drop, get_or, refl, sym, ap, arith}
use Rattle.verilog_tree.specs.Tree.{Expr, Stmt, Said, Arms, arm, cases, Item}
use Rattle.verilog_tree.specs.Meaning.{Scope, Store, chosen, bits, value, labelled, widest_arm, run, run_arms, fire, fire_arms}
use Rattle.verilog_tree.specs.Meaning.{settled, clocked_in}
use Rattle.verilog_run.specs.Writes.{after_all, after_one}
use Rattle.verilog_run.specs.declared.writes.Write.{Write}

-- the first arm has the number
pub run_taken : (P : Scope) (S new : Store) (w n : ℕ) (es : List Expr) (s : Stmt) (c : List Said) (rest arms : Arms) (b : Bool) →
    arms ≡ arm es s c rest → b ≡ labelled P S w n es → b ≡ true → new ≡ run P s S → new ≡ run_arms P w n arms S
run_taken P S new w n es s c rest arms b e l h f =
    f ∙ sym (ap (λ a. run_arms P w n a S) e ∙ ap (λ b. chosen b (run P s S) (run_arms P w n rest S)) (sym l ∙ h))

-- it hasn't
pub run_passed : (P : Scope) (S new : Store) (w n : ℕ) (es : List Expr) (s : Stmt) (c : List Said) (rest arms : Arms) (b : Bool) →
    arms ≡ arm es s c rest → b ≡ labelled P S w n es → b ≡ false → new ≡ run_arms P w n rest S → new ≡ run_arms P w n arms S
run_passed P S new w n es s c rest arms b e l h f =
    f ∙ sym (ap (λ a. run_arms P w n a S) e ∙ ap (λ b. chosen b (run P s S) (run_arms P w n rest S)) (sym l ∙ h))

-- a case, at the widest of its labels
pub run_case_is : (P : Scope) (S new : Store) (e : Expr) (arms : Arms) (w n : ℕ) → w ≡ widest_arm P (bits P e) arms →
    n ≡ value P S w e → new ≡ run_arms P w n arms S → new ≡ run P (cases e arms) S
run_case_is P S new e arms w n a b h = h ∙ ap (λ m. run_arms P w m arms S) b ∙ ap (λ v. run_arms P v (value P S v e) arms S) a

-- the same in the clock's block: the first arm has the number
pub fire_taken : (P : Scope) (R : Store) (old new : List Write) (w n : ℕ) (es : List Expr) (s : Stmt) (c : List Said) (rest arms : Arms)
    (b : Bool) → arms ≡ arm es s c rest → b ≡ labelled P R w n es → b ≡ true →
    ((S : Store) → after_all new S ≡ fire P R s (after_all old S)) →
    (S : Store) → after_all new S ≡ fire_arms P R w n arms (after_all old S)
fire_taken P R old new w n es s c rest arms b e l h f S =
    f S ∙ sym (ap (λ a. fire_arms P R w n a (after_all old S)) e
    ∙ ap (λ b. chosen b (fire P R s (after_all old S)) (fire_arms P R w n rest (after_all old S))) (sym l ∙ h))

-- it hasn't
pub fire_passed : (P : Scope) (R : Store) (old new : List Write) (w n : ℕ) (es : List Expr) (s : Stmt) (c : List Said) (rest arms : Arms)
    (b : Bool) → arms ≡ arm es s c rest → b ≡ labelled P R w n es → b ≡ false →
    ((S : Store) → after_all new S ≡ fire_arms P R w n rest (after_all old S)) →
    (S : Store) → after_all new S ≡ fire_arms P R w n arms (after_all old S)
fire_passed P R old new w n es s c rest arms b e l h f S =
    f S ∙ sym (ap (λ a. fire_arms P R w n a (after_all old S)) e
    ∙ ap (λ b. chosen b (fire P R s (after_all old S)) (fire_arms P R w n rest (after_all old S))) (sym l ∙ h))

-- a case
pub fire_case_is : (P : Scope) (R : Store) (old new : List Write) (e : Expr) (arms : Arms) (w n : ℕ) → w ≡ widest_arm P (bits P e) arms →
    n ≡ value P R w e → ((S : Store) → after_all new S ≡ fire_arms P R w n arms (after_all old S)) →
    (S : Store) → after_all new S ≡ fire P R (cases e arms) (after_all old S)
fire_case_is P R old new e arms w n a b h S =
    h S ∙ ap (λ m. fire_arms P R w m arms (after_all old S)) b ∙ ap (λ v. fire_arms P R v (value P R v e) arms (after_all old S)) a

-- a list by its first and the rest
split : {A : Type 0} (xs : List A) (x : A) → 1 ≤ length xs → x ≡ get_or xs 0 x → xs ≡ x ∷ take (length xs - 1) (drop 1 xs)
split [] x l e = absurd (omega arith)
split (y ∷ ys) x l e =
    let m : suc (length ys) - 1 ≡ length ys = omega arith in
    ap (λ z. z ∷ ys) (sym e) ∙ ap (λ r. x ∷ r) (sym (ap (λ n. take n ys) m ∙ take_whole ys))
  where
    take_whole : {A : Type 0} (ys : List A) → take (length ys) ys ≡ ys
    take_whole [] = refl
    take_whole (y ∷ ys) = ap (λ r. y ∷ r) (take_whole ys)

-- the first item settles, and then the rest
pub settle_more : {A : Type 0} (f : A → Item) (P : Scope) (xs : List A) (x : A) (S mid new : Store) → 1 ≤ length xs → x ≡ get_or xs 0 x →
    ((is : List Item) → settled P is mid ≡ settled P (f x ∷ is) S) → new ≡ settled P (map f (take (length xs - 1) (drop 1 xs))) mid →
    new ≡ settled P (map f xs) S
settle_more f P xs x S mid new l e one rest =
    rest ∙ one (map f (take (length xs - 1) (drop 1 xs))) ∙ sym (ap (λ ys. settled P (map f ys) S) (split xs x l e))

-- the first block of the clock writes, and then the rest
pub clock_more : {A : Type 0} (f : A → Item) (P : Scope) (xs : List A) (x : A) (R : Store) (old mid new : List Write) → 1 ≤ length xs →
    x ≡ get_or xs 0 x →
    ((is : List Item) (S : Store) → clocked_in P is R (after_all mid S) ≡ clocked_in P (f x ∷ is) R (after_all old S)) →
    ((S : Store) → after_all new S ≡ clocked_in P (map f (take (length xs - 1) (drop 1 xs))) R (after_all mid S)) →
    (S : Store) → after_all new S ≡ clocked_in P (map f xs) R (after_all old S)
clock_more f P xs x R old mid new l e one rest S =
    rest S ∙ one (map f (take (length xs - 1) (drop 1 xs))) S
    ∙ sym (ap (λ ys. clocked_in P (map f ys) R (after_all old S)) (split xs x l e))

-- one write behind the others
pub after_push : (ws : List Write) (w : Write) (S : Store) → after_all (ws ++ w ∷ []) S ≡ after_one w (after_all ws S)
after_push [] w S = refl
after_push (v ∷ vs) w S = after_push vs w (after_one v S)
