-- The names of the module in classes: those that stand once have class 0, and each group of names with numbers has a class of its own,
-- in the order in which they are declared. So a name isn't one of another class, and names of a class are different where their numbers
-- are.
use Rattle.std.proofs.Common.{◌≡◌, ◌<◌, ◌+◌, ◌%◌, ◌^◌, ◌++◌, ℕ, suc, Bool, true, false, not, ◌&&◌, ◌||◌, List, [], ◌∷◌, codes, decimal}
use Rattle.std.proofs.Common.{drop, refl, ap, subst, sym, ◌∙◌, arith}
use Rattle.std.specs.Prelude.{nat_le, nat_eq, if◌then◌else◌}
use Rattle.std.proofs.lemmas.Bool.{and_parts, and_from, le-leb, leb-true, eqb-true, or_right}
use Rattle.std.proofs.lemmas.Fmt.{decimal_injective, decimal_by_steps}
use Prim.Native.String.{String}
use lib.Text.{eqt}
use lib.Chars.{text_codes}
use lib.Chars as chars
use Rattle.verilog_tree.specs.Names.{text_of}
use Rattle.verilog_tree.specs.WellFormed.{begins, member, letter, letters, spelt, keywords, identifier}
use Rattle.verilog_tree.proofs.Names.{codes_more}
use Rattle.verilog_tree.proofs.Own.{apart_names, foreign, turned}
use Rattle.joined_module.specs.Names.{arg_name, held_name, sig_name, box_name, word_name, fork_box_name, next_sig_name, next_box_name}
use Rattle.joined_module.specs.Names.{open_box_name, new_word_name, by_name, tag_name, number_name, found}

-- the fronts of names with numbers
abbrev fronts : List String
fronts = "arg" ∷ "by_" ∷ "number_" ∷ "tag_" ∷ "signa" ∷ "box" ∷ "held" ∷ "word" ∷ "fork_box" ∷ "next_s" ∷ "next_b" ∷ "open_" ∷ "new_" ∷
    "looked" ∷ "found_" ∷ []

abbrev class_among : List String → ℕ → List ℕ → ℕ
class_among [] n cs = 0
class_among (x ∷ xs) n cs = if begins (codes x) cs then n else class_among xs (suc n) cs

abbrev pub class : String → ℕ
class x = class_among fronts 1 (codes x)

-- a name that stands once
abbrev pub own : String → Bool
own x = nat_eq (class x) 0

-- a name of the one kind isn't one of the other
pub foreign_own : (x y : String) → own x ≡ false → own y ≡ true → eqt x y ≡ false
foreign_own = turned own

pub own_foreign : (x y : String) → own x ≡ true → own y ≡ false → eqt x y ≡ false
own_foreign = foreign own

pub class_apart : (x y : String) → (class x ≡ class y → ⊥) → eqt x y ≡ false
class_apart x y h = apart_names x y (λ e. h (ap class e))

-- names are the same where their codes are
pub codes_same : (x y : String) → codes x ≡ codes y → x ≡ y
codes_same x y e = sym (text_codes x) ∙ ap chars.text_of e ∙ text_codes y

-- ---- conjunctions, part by part

pub and_on : {a b c d : Bool} → (a && b) ≡ true → (a ≡ true → c ≡ true) → (b ≡ true → d ≡ true) → (c && d) ≡ true
and_on {a} {b} {c} {d} h f g = let (p, q) = and_parts a b h in and_from c d (f p) (g q)

pub and_same : {a b c d e f : Bool} → (a && b) ≡ true → (a ≡ true → c ≡ d) → (b ≡ true → e ≡ f) → (c && e) ≡ (d && f)
and_same {a} {b} h f g = let (p, q) = and_parts a b h in let y = f p in let z = g q in λ i. y i && z i

-- ---- texts of letters and digits

-- what follows from each follows from one of them
pub either : (A : Type 0) (a b : Bool) → (a || b) ≡ true → (a ≡ true → A) → (b ≡ true → A) → A
either A true b h f g = f refl
either A false b h f g = g h

-- a letter's code is that of a character
small_letter : (c : ℕ) → (letter c || (nat_le 48 c && nat_le c 57)) ≡ true → c < 55296
small_letter c h =
    either (c < 55296) (letter c) (nat_le 48 c && nat_le c 57) h (λ k. either (c < 55296) (nat_le 65 c && nat_le c 90) _ k
    (within 65 90 refl)
    (λ k. either (c < 55296) (nat_le 97 c && nat_le c 122) (nat_eq c 95) k (within 97 122 refl)
    (λ k. let l = eqb-true c 95 k in omega (arith, l)))) (within 48 57 refl)
  where
    within : (l m : ℕ) → nat_le m 200 ≡ true → (nat_le l c && nat_le c m) ≡ true → c < 55296
    within l m e h = let k = leb-true c m (and_parts (nat_le l c) (nat_le c m) h).1 in let j = leb-true m 200 e in omega (arith, k, j)

-- so the text of such codes has these codes
pub letter_codes : (cs : List ℕ) → letters cs ≡ true → codes (text_of cs) ≡ cs
letter_codes [] h = refl
letter_codes (c ∷ cs) h =
    let (a, b) = and_parts _ _ h in
    codes_more c cs (small_letter c a) ∙ ap (λ l. c ∷ l) (letter_codes cs b)

pub letters_append : (a b : List ℕ) → letters a ≡ true → letters b ≡ true → letters (a ++ b) ≡ true
letters_append [] b h k = k
letters_append (c ∷ a) b h k =
    let (p, q) = and_parts _ _ h in
    and_from _ _ p (letters_append a b q k)

-- ---- numbers

one_digit : (n : ℕ) → n < 10 → letters ((48 + n) ∷ []) ≡ true
one_digit n h = and_from _ _ (or_right (letter (48 + n)) (nat_le 48 (48 + n) && nat_le (48 + n) 57)
    (and_from _ _ (le-leb 48 (48 + n) (omega arith)) (le-leb (48 + n) 57 (omega arith)))) refl

abbrev OfLetters : ℕ → List ℕ → Type 0
OfLetters n ds = letters ds ≡ true

pub decimal_letters : (n : ℕ) → n < 2 ^ 64 → letters (decimal n) ≡ true
decimal_letters n h =
    decimal_by_steps OfLetters one_digit (λ n ds u p. letters_append ds ((48 + n % 10) ∷ []) p (one_digit (n % 10) (omega arith))) n h

abbrev tail : ℕ → List ℕ
tail i = codes (text_of (decimal i))

pub tail_codes : (i : ℕ) → i < 2 ^ 64 → codes (text_of (decimal i)) ≡ decimal i
tail_codes i h = letter_codes (decimal i) (decimal_letters i h)

pub tail_letters : (i : ℕ) → i < 2 ^ 64 → letters (codes (text_of (decimal i))) ≡ true
tail_letters i h = subst (λ cs. letters cs ≡ true) (sym (tail_codes i h)) (decimal_letters i h)

-- numbers are the same where their texts are
pub same_tail : (i j : ℕ) → i < 2 ^ 64 → j < 2 ^ 64 → codes (text_of (decimal i)) ≡ codes (text_of (decimal j)) → i ≡ j
same_tail i j p q e = decimal_injective i j p q (sym (tail_codes i p) ∙ e ∙ tail_codes j q)

-- ---- groups of names by number: each has a class, is an identifier, and tells its number
pub record Group (nm : ℕ → String) (c : ℕ) : Type 0 where
  pub class_is : (i : ℕ) → class (nm i) ≡ c
  pub named : (i : ℕ) → i < 2 ^ 64 → letters (codes (nm i)) ≡ true
  pub begun : (i : ℕ) → i < 2 ^ 64 → spelt (codes (nm i)) ≡ true
  pub tells : (i j : ℕ) → i < 2 ^ 64 → j < 2 ^ 64 → nm i ≡ nm j → i ≡ j

by_number : (nm : ℕ → String) (c k : ℕ) → ((i : ℕ) → class (nm i) ≡ c) → ((i : ℕ) → letters (codes (nm i)) ≡ letters (tail i)) →
    ((i : ℕ) → spelt (codes (nm i)) ≡ letters (tail i)) → ((i : ℕ) → drop k (codes (nm i)) ≡ tail i) → Group nm c
by_number nm c k is l s d = record {
  class_is = is;
  named = λ i h. l i ∙ tail_letters i h;
  begun = λ i h. s i ∙ tail_letters i h;
  tells = λ i j p q e. same_tail i j p q (sym (d i) ∙ ap (λ x. drop k (codes x)) e ∙ d j);
}

pub args : Group arg_name 1
args = by_number arg_name 1 3 (λ i. refl) (λ i. refl) (λ i. refl) (λ i. refl)

pub helds : Group held_name 7
helds = by_number held_name 7 4 (λ i. refl) (λ i. refl) (λ i. refl) (λ i. refl)

pub sigs : Group sig_name 5
sigs = by_number sig_name 5 9 (λ i. refl) (λ i. refl) (λ i. refl) (λ i. refl)

pub boxes : Group box_name 6
boxes = by_number box_name 6 3 (λ i. refl) (λ i. refl) (λ i. refl) (λ i. refl)

pub words : Group word_name 8
words = by_number word_name 8 4 (λ i. refl) (λ i. refl) (λ i. refl) (λ i. refl)

pub fork_boxes : Group fork_box_name 9
fork_boxes = by_number fork_box_name 9 8 (λ i. refl) (λ i. refl) (λ i. refl) (λ i. refl)

pub next_sigs : Group next_sig_name 10
next_sigs = by_number next_sig_name 10 14 (λ i. refl) (λ i. refl) (λ i. refl) (λ i. refl)

pub next_boxes : Group next_box_name 11
next_boxes = by_number next_box_name 11 8 (λ i. refl) (λ i. refl) (λ i. refl) (λ i. refl)

pub open_boxes : Group open_box_name 12
open_boxes = by_number open_box_name 12 8 (λ i. refl) (λ i. refl) (λ i. refl) (λ i. refl)

pub new_words : Group new_word_name 13
new_words = by_number new_word_name 13 8 (λ i. refl) (λ i. refl) (λ i. refl) (λ i. refl)

-- ---- names in front of names

pub same_behind : (x y : String) → letters (codes x) ≡ true → letters (codes y) ≡ true →
    codes (text_of (codes x)) ≡ codes (text_of (codes y)) → x ≡ y
same_behind x y h k e = codes_same x y (sym (letter_codes (codes x) h) ∙ e ∙ letter_codes (codes y) k)

pub record Front (nm : String → String) (c : ℕ) : Type 0 where
  pub class_is : (x : String) → class (nm x) ≡ c
  pub named : (x : String) → letters (codes x) ≡ true → letters (codes (nm x)) ≡ true
  pub begun : (x : String) → letters (codes x) ≡ true → spelt (codes (nm x)) ≡ true
  pub tells : (x y : String) → letters (codes x) ≡ true → letters (codes y) ≡ true → nm x ≡ nm y → x ≡ y

behind_letters : (x : String) → letters (codes x) ≡ true → letters (codes (text_of (codes x))) ≡ true
behind_letters x h = subst (λ cs. letters cs ≡ true) (sym (letter_codes (codes x) h)) h

in_front : (nm : String → String) (c k : ℕ) → ((x : String) → class (nm x) ≡ c) →
    ((x : String) → letters (codes (nm x)) ≡ letters (codes (text_of (codes x)))) →
    ((x : String) → spelt (codes (nm x)) ≡ letters (codes (text_of (codes x)))) →
    ((x : String) → drop k (codes (nm x)) ≡ codes (text_of (codes x))) → Front nm c
in_front nm c k is l s d = record {
  class_is = is;
  named = λ x h. l x ∙ behind_letters x h;
  begun = λ x h. s x ∙ behind_letters x h;
  tells = λ x y h i e. same_behind x y h i (sym (d x) ∙ ap (λ z. drop k (codes z)) e ∙ d y);
}

pub bys : Front by_name 2
bys = in_front by_name 2 3 (λ x. refl) (λ x. refl) (λ x. refl) (λ x. refl)

pub numbers : Front number_name 3
numbers = in_front number_name 3 7 (λ x. refl) (λ x. refl) (λ x. refl) (λ x. refl)

pub tags : Front tag_name 4
tags = in_front tag_name 4 4 (λ x. refl) (λ x. refl) (λ x. refl) (λ x. refl)

pub founds : Front found 15
founds = in_front found 15 6 (λ x. refl) (λ x. refl) (λ x. refl) (λ x. refl)

-- ---- no name with a class is a keyword

abbrev pub all_own : List String → Bool
all_own [] = true
all_own (x ∷ xs) = own x && all_own xs

pub none_of_own : (y : String) → own y ≡ false → (xs : List String) → all_own xs ≡ true → member y xs ≡ false
none_of_own y h [] g = refl
none_of_own y h (x ∷ xs) g =
    let (a, b) = and_parts _ _ g in
    ap (λ t. t || member y xs) (apart_names x y (λ e. let z : true ≡ false = sym a ∙ ap own e ∙ h in absurd cc)) ∙ none_of_own y h xs b

pub is_identifier : (x : String) → own x ≡ false → spelt (codes x) ≡ true → identifier x ≡ true
is_identifier x o h = and_from _ _ h (ap not (none_of_own x o keywords refl))
