-- What tables say of the names that items declare.
use Rattle.std.proofs.Common.{◌≡◌, ◌∙◌, ◌≤◌, ◌<◌, ◌-◌, ℕ, zero, suc, Bool, true, false, ◌&&◌, List, [], ◌∷◌}
use Rattle.std.proofs.Common.{map, length, drop, get_or, refl, sym, ap, subst, arith}
use Rattle.std.proofs.Math.Path.{fun_ext}
use Prim.Native.String.{String}
use lib.Text.{eqt}
use Rattle.verilog_tree.specs.Tree as tree
use Rattle.verilog_tree.specs.Meaning.{Scope, chosen, named_here, param_in, width_in, words_in, scope}
use Rattle.verilog_run.specs.Entries.{Entry, TableHolds}
use Rattle.verilog_run.specs.Scopes.{told, Tells}

-- what is told where a number was put under a name
pub put_told : (new old : List (List Entry)) (y : String) (n : ℕ) → TableHolds new old y 0 n →
    (x : String) → told new x ≡ named_here y x n (told old x)
put_told new old y n h x = h x 0 ∙ go (eqt y x)
  where
    go : (b : Bool) → chosen (b && true) n (told old x) ≡ elim b [ true ↦ n | false ↦ told old x ]
    go true = refl
    go false = refl

-- an item that declares the name
pub noted : (new old : List (List Entry)) (y : String) (n m : ℕ) (f g : String → ℕ) →
    ((x : String) → told new x ≡ named_here y x n (told old x)) → n ≡ m → ((x : String) → g x ≡ named_here y x m (f x)) →
    Tells old f → Tells new g
noted new old y n m f g h e k t x =
    h x ∙ ap (λ i. named_here y x i (told old x)) e ∙ ap (λ i. named_here y x m i) (t x) ∙ sym (k x)

-- one that declares none
pub not_noted : (old : List (List Entry)) (f g : String → ℕ) → ((x : String) → g x ≡ f x) → Tells old f → Tells old g
not_noted old f g k t x = t x ∙ sym (k x)

-- a list from a place on
pub drop_more : {A : Type 0} (xs : List A) (i : ℕ) (x : A) → i < length xs → x ≡ get_or xs i x → drop i xs ≡ x ∷ drop (suc i) xs
drop_more [] i x l e = absurd (omega arith)
drop_more (y ∷ ys) zero x l e = ap (λ z. z ∷ ys) (sym e)
drop_more (y ∷ ys) (suc i) x l e = drop_more ys i x (omega arith) e

drop_all : {A : Type 0} (xs : List A) → drop (length xs) xs ≡ []
drop_all [] = refl
drop_all (x ∷ xs) = drop_all xs

-- at first no item is noted
pub begins : {A : Type 0} (g : A → tree.Item) (f : List tree.Item → String → ℕ) (ls : List (List Entry)) (xs : List A) → ls ≡ [] →
    ((x : String) → f [] x ≡ 0) → Tells ls (f (map g (drop (length xs) xs)))
begins g f ls xs e z x =
    ap (λ l. told l x) e ∙ sym (z x) ∙ sym (ap (λ l. f (map g l) x) (drop_all xs))

-- then one more
pub goes_on : {A : Type 0} (g : A → tree.Item) (f : List tree.Item → String → ℕ) (old new : List (List Entry)) (xs : List A) (i : ℕ)
    (x : A) → 0 < i → i ≤ length xs → x ≡ get_or xs (i - 1) x →
    ((is : List tree.Item) → Tells old (f is) → Tells new (f (g x ∷ is))) → Tells old (f (map g (drop i xs))) →
    Tells new (f (map g (drop (i - 1) xs)))
goes_on g f old new xs i x p l e one t =
    let m : suc (i - 1) ≡ i = omega arith in
    subst (λ ys. Tells new (f (map g ys))) (sym (drop_more xs (i - 1) x (omega arith) e))
    (one (map g (drop (suc (i - 1)) xs)) (subst (λ n. Tells old (f (map g (drop n xs)))) (sym m) t))

-- and at last all are
pub ends : {A : Type 0} (g : A → tree.Item) (f : List tree.Item → String → ℕ) (ls : List (List Entry)) (xs : List A) (i : ℕ) → i ≤ 0 →
    Tells ls (f (map g (drop i xs))) → Tells ls (f (map g xs))
ends g f ls xs zero l t = t
ends g f ls xs (suc i) l t = absurd (omega arith)

-- three tables are a scope
pub scope_is : (is : List tree.Item) (ws ks ps : List (List Entry)) → Tells ps (param_in is) → Tells ws (width_in (told ps) is) →
    Tells ks (words_in (told ps) is) → record { width = told ws; words = told ks; param = told ps } ≡ scope is
scope_is is ws ks ps hp hw hk =
    let p : told ps ≡ param_in is = fun_ext hp in
    let w : told ws ≡ width_in (param_in is) is = fun_ext hw ∙ ap (λ f. width_in f is) p in
    let k : told ks ≡ words_in (param_in is) is = fun_ext hk ∙ ap (λ f. words_in f is) p in
    ap (λ f. with_all f (told ks) (told ps)) w ∙ ap (λ f. with_all (width_in (param_in is) is) f (told ps)) k
    ∙ ap (λ f. with_all (width_in (param_in is) is) (words_in (param_in is) is) f) p
  where
    with_all : (String → ℕ) → (String → ℕ) → (String → ℕ) → Scope
    with_all a b c = record { width = a; words = b; param = c }
