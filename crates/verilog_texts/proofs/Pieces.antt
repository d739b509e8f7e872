-- Pieces of a text: what is taken from its front, digits, names.
use Rattle.std.proofs.Common.{sym, ◌≡◌, ℕ, ◌+◌, ◌/◌, ◌%◌, ◌^◌, ◌<◌, ◌≤◌, Bool, true, false, cond, List, []}
use Rattle.std.proofs.Common.{◌∷◌, ◌++◌, Option, Some, None, refl, ap, ◌∙◌, subst, codes, arith}
use Rattle.std.specs.Prelude.{not, ◌&&◌, ◌||◌, nat_eq, nat_le, decimal}
use Rattle.std.proofs.lemmas.Bool.{and_parts, and_from, or_left, le-leb, lt-leb, leb-true, ne_eqb}
use Rattle.std.proofs.lemmas.Fmt.{decimal_by_steps_wide}
use Prim.Native.String.{String}
use lib.Dec.{T}
use lib.Text.{eqt, eqt→eq}
use Rattle.verilog_tree.specs.Meaning.{chosen}
use Rattle.verilog_tree.specs.WellFormed.{Kind, Entry, of_kind, letter, letters, spelt, identifier, keywords, member}
use Rattle.verilog_texts.specs.Small.{names_ok}

-- what is taken while the test holds, and what is left
abbrev pub front : (ℕ → Bool) → List ℕ → List ℕ
front p [] = []
front p (c ∷ cs) = cond (p c) (c ∷ front p cs) []

abbrev pub rest : (ℕ → Bool) → List ℕ → List ℕ
rest p [] = []
rest p (c ∷ cs) = cond (p c) (rest p cs) (c ∷ cs)

-- the first passes the test
abbrev pub starts : (ℕ → Bool) → List ℕ → Bool
starts p [] = false
starts p (c ∷ cs) = p c

-- all pass it
abbrev pub all : (ℕ → Bool) → List ℕ → Bool
all p [] = true
all p (c ∷ cs) = p c && all p cs

pub front_of : (p : ℕ → Bool) (w r : List ℕ) → all p w ≡ true → starts p r ≡ false → front p (w ++ r) ≡ w
front_of p [] [] h e = refl
front_of p [] (c ∷ r) h e = ap (λ b. cond b (c ∷ front p r) []) e
front_of p (c ∷ w) r h e =
    ap (λ b. cond b (c ∷ front p (w ++ r)) []) (and_parts (p c) (all p w) h).0
    ∙ ap (λ l. c ∷ l) (front_of p w r (and_parts (p c) (all p w) h).1 e)

pub rest_of : (p : ℕ → Bool) (w r : List ℕ) → all p w ≡ true → starts p r ≡ false → rest p (w ++ r) ≡ r
rest_of p [] [] h e = refl
rest_of p [] (c ∷ r) h e = ap (λ b. cond b (rest p r) (c ∷ r)) e
rest_of p (c ∷ w) r h e =
    ap (λ b. cond b (rest p (w ++ r)) (c ∷ (w ++ r))) (and_parts (p c) (all p w) h).0 ∙ rest_of p w r (and_parts (p c) (all p w) h).1 e

-- these stand at the front: what is behind them
abbrev pub behind : List ℕ → List ℕ → Option (List ℕ)
behind [] cs = Some cs
behind (p ∷ ps) [] = None
behind (p ∷ ps) (c ∷ cs) = cond (nat_eq p c) (behind ps cs) None

pub behind_not : (p : ℕ) (ps r : List ℕ) → starts (nat_eq p) r ≡ false → behind (p ∷ ps) r ≡ None
behind_not p ps [] e = refl
behind_not p ps (c ∷ r) e = ap (λ b. cond b (behind ps r) None) e

-- digits
abbrev pub digit : ℕ → Bool
digit c = nat_le 48 c && nat_le c 57

all_more : (p : ℕ → Bool) (ds : List ℕ) (c : ℕ) → all p ds ≡ true → p c ≡ true → all p (ds ++ c ∷ []) ≡ true
all_more p [] c h e = and_from (p c) true e refl
all_more p (d ∷ ds) c h e = and_from (p d) (all p (ds ++ c ∷ [])) (and_parts (p d) (all p ds) h).0
    (all_more p ds c (and_parts (p d) (all p ds) h).1 e)

digit_is : (d : ℕ) → d < 10 → digit (48 + d) ≡ true
digit_is d h = and_from _ _ (le-leb 48 (48 + d) (omega arith)) (le-leb (48 + d) 57 (omega (arith, h)))

pub starts_more : (p : ℕ → Bool) (ds r : List ℕ) → starts p ds ≡ true → starts p (ds ++ r) ≡ true
starts_more p [] r e = cc
starts_more p (d ∷ ds) r e = e

-- what a number is written with
pub record Digits (n : ℕ) (ds : List ℕ) : Type 0 where
  pub some : starts digit ds ≡ true
  pub each : all digit ds ≡ true

one_digit : (n : ℕ) → n < 10 → Digits n ((48 + n) ∷ [])
one_digit n h = record { some = digit_is n h; each = and_from (digit (48 + n)) true (digit_is n h) refl }

more_digits : (n : ℕ) (ds : List ℕ) → 10 ≤ n → Digits (n / 10) ds → Digits n (ds ++ ((48 + n % 10) ∷ []))
more_digits n ds h k = record {
  some = starts_more digit ds ((48 + n % 10) ∷ []) k.some;
  each = all_more digit ds (48 + n % 10) k.each (digit_is (n % 10) (omega arith));
}

pub digits_of : (n : ℕ) → n < 10 ^ 64 → Digits n (decimal n)
digits_of n h = decimal_by_steps_wide Digits one_digit more_digits n h

-- no digit is a letter
no_letter : (c : ℕ) → c ≤ 57 → letter c ≡ false
no_letter c h =
    ap (λ b. (b && nat_le c 90) || ((nat_le 97 c && nat_le c 122) || nat_eq c 95)) (lt-leb 65 c (omega (arith, h)))
    ∙ ap (λ b. (b && nat_le c 122) || nat_eq c 95) (lt-leb 97 c (omega (arith, h)))
    ∙ ne_eqb c 95 (λ e. omega (arith, h, e))

pub digit_no_letter : (cs : List ℕ) → starts digit cs ≡ true → starts letter cs ≡ false
digit_no_letter [] e = cc
digit_no_letter (c ∷ cs) e = no_letter c (leb-true c 57 (and_parts (nat_le 48 c) (nat_le c 57) e).1)

-- what a name goes on with
abbrev pub in_name : ℕ → Bool
in_name c = letter c || (nat_le 48 c && nat_le c 57)

letters_all : (cs : List ℕ) → letters cs ≡ true → all in_name cs ≡ true
letters_all [] e = refl
letters_all (c ∷ cs) e =
    let p = and_parts (in_name c) (letters cs) e in
    and_from (in_name c) (all in_name cs) p.0 (letters_all cs p.1)

pub spelt_starts : (cs : List ℕ) → spelt cs ≡ true → starts letter cs ≡ true
spelt_starts [] e = cc
spelt_starts (c ∷ cs) e = (and_parts (letter c) (letters cs) e).0

pub spelt_all : (cs : List ℕ) → spelt cs ≡ true → all in_name cs ≡ true
spelt_all [] e = cc
spelt_all (c ∷ cs) e =
    let p = and_parts (letter c) (letters cs) e in
    and_from (in_name c) (all in_name cs) (or_left (letter c) (nat_le 48 c && nat_le c 57) p.0) (letters_all cs p.1)

-- a name that is declared is an identifier
pub declared_word : (p : Kind → Bool) (env : List Entry) (x : String) → names_ok env ≡ true → of_kind p env x ≡ true →
    identifier x ≡ true
declared_word p [] x h e = cc
declared_word p (y ∷ env) x h e =
    go (declared_word p env x (and_parts (identifier y.name) (names_ok env) h).1) (eqt y.name x) refl e
  where
    go : (of_kind p env x ≡ true → identifier x ≡ true) → (b : Bool) → eqt y.name x ≡ b →
        chosen b (p y.kind) (of_kind p env x) ≡ true → identifier x ≡ true
    go ih true q k =
        subst (λ z. identifier z ≡ true) (eqt→eq y.name x (subst T (sym q) tt)) (and_parts (identifier y.name) (names_ok env) h).0
    go ih false q k = ih k

-- so it is spelt as one
pub declared_name : (p : Kind → Bool) (env : List Entry) (x : String) → names_ok env ≡ true → of_kind p env x ≡ true →
    spelt (codes x) ≡ true
declared_name p env x h e =
    (and_parts (spelt (codes x)) (not (member x keywords)) (declared_word p env x h e)).0

-- a name is declared as one thing
pub one_kind : (p q : Kind → Bool) → ((k : Kind) → p k ≡ true → q k ≡ false) → (env : List Entry) (x : String) →
    of_kind p env x ≡ true → of_kind q env x ≡ false
one_kind p q h [] x e = cc
one_kind p q h (y ∷ env) x e = go (one_kind p q h env x) (eqt y.name x) e
  where
    go : (of_kind p env x ≡ true → of_kind q env x ≡ false) → (b : Bool) → chosen b (p y.kind) (of_kind p env x) ≡ true →
        chosen b (q y.kind) (of_kind q env x) ≡ false
    go ih true k = h y.kind k
    go ih false k = ih k
