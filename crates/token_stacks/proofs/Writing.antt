-- A stack that is written part by part, and one that is written whole.
use Rattle.std.proofs.Common.{◌≡◌, ℕ, zero, suc, ◌+◌, ◌-◌, ◌≤◌, List, [], ◌∷◌, ◌++◌, append_assoc, length}
use Rattle.std.proofs.Common.{map, codes, decimal, refl, sym}
use Rattle.std.proofs.Common.{ap, ◌∙◌, arith, length-append}
use Rattle.std.proofs.lemmas.List.{append-nil}
use Rattle.token_stacks.specs.Signatures.{Sig, star, left_of, right_of, pair_of, again, Sym, S, Work, Boxes}
use Rattle.token_stacks.specs.Words.{body, entry, box_words}
use Rattle.token_stacks.specs.Texts.{most_deep, most_parts, sig_text, whole_sig_text, sym_text, dots, dotted, first_parts, boxes_text}
use Rattle.token_stacks.specs.Texts.{key_text}
use Rattle.token_stacks.specs.declared.print.Form.{Form}
use Rattle.token_stacks.specs.Printing.{IsStack, TakesTop}
use Rattle.token_stacks.proofs.Stacking.{Topped}

-- ---- part by part

-- The words that are left stand for what is still to be written.
pub record StandsFor (f : Form) (rest : List ℕ) (left deep : ℕ) (text goal : List ℕ) : Type 0 where
  pub symbols : Work
  pub stack : IsStack f rest symbols
  pub is : text ++ dots (first_parts left (map (sym_text deep) symbols)) ≡ goal

none_parts : (n : ℕ) → first_parts n [] ≡ []
none_parts zero = refl
none_parts (suc n) = refl

map_length : (g : Sym → List ℕ) (m : Work) → length (map g m) ≡ length m
map_length g [] = refl
map_length g (x ∷ m) = ap suc (map_length g m)

-- the parts of a stack that has a top, where some may be written, and where none may
some_parts : (left deep : ℕ) (x : Sym) (m : Work) → (left ≡ 0 → ⊥) →
    first_parts left (map (sym_text deep) (x ∷ m)) ≡ sym_text deep x ∷ first_parts (left - 1) (map (sym_text deep) m)
some_parts zero deep x m n = absurd (n refl)
some_parts (suc left) deep x m n = ap (λ k. sym_text deep x ∷ first_parts k (map (sym_text deep) m)) (omega arith)

no_parts : (left deep : ℕ) (x : Sym) (m : Work) → left ≡ 0 →
    first_parts left (map (sym_text deep) (x ∷ m)) ≡ (codes "+" ++ decimal (length (x ∷ m))) ∷ []
no_parts zero deep x m e = ap (λ k. (codes "+" ++ decimal (suc k)) ∷ []) (map_length (sym_text deep) m)
no_parts (suc left) deep x m e = absurd (omega (arith, e))

-- One part more is written.
pub next_part : (f : Form) (ws rest : List ℕ) (left deep : ℕ) (text new goal : List ℕ) (s : StandsFor f ws left deep text goal) →
    (t : Topped f ws s.symbols) → (left ≡ 0 → ⊥) → new ≡ (text ++ codes ".") ++ sym_text deep t.top →
    TakesTop f ws rest t.rest →
    StandsFor f rest (left - 1) deep new goal
next_part f ws rest left deep text new goal s t some e take =
    let x : List ℕ = sym_text deep t.top in
    let more : List ℕ = dots (first_parts (left - 1) (map (sym_text deep) t.rest)) in
    record {
      symbols = t.rest;
      stack = take.stack;
      is = ap (λ z. z ++ more) e
          ∙ append_assoc (text ++ codes ".") x more
          ∙ append_assoc text (codes ".") (x ++ more)
          ∙ ap (λ z. text ++ dots z)
          (sym (ap (λ m. first_parts left (map (sym_text deep) m)) t.are ∙ some_parts left deep t.top t.rest some))
          ∙ s.is;
    }

-- No part more is written, but how many are left.
pub left_out : (f : Form) (ws : List ℕ) (left deep n : ℕ) (text new goal : List ℕ) (s : StandsFor f ws left deep text goal) →
    (t : Topped f ws s.symbols) → left ≡ 0 → n ≡ length s.symbols → new ≡ (text ++ codes ".") ++ (codes "+" ++ decimal n) →
    new ≡ goal
left_out f ws left deep n text new goal s t none count e =
    let x : List ℕ = codes "+" ++ decimal (length (t.top ∷ t.rest)) in
    e
    ∙ ap (λ k. (text ++ codes ".") ++ (codes "+" ++ decimal k)) (count ∙ ap length t.are)
    ∙ append_assoc text (codes ".") x
    ∙ ap (λ z. text ++ (codes "." ++ z)) (sym (append-nil x))
    ∙ ap (λ z. text ++ dots z) (sym (ap (λ m. first_parts left (map (sym_text deep) m)) t.are ∙ no_parts left deep t.top t.rest none))
    ∙ s.is

-- All parts are written.
pub all_written : (f : Form) (ws : List ℕ) (left deep : ℕ) (text goal : List ℕ) (s : StandsFor f ws left deep text goal) →
    s.symbols ≡ [] → text ≡ goal
all_written f ws left deep text goal s none =
    sym (append-nil text)
    ∙ ap (λ z. text ++ dots z) (sym (ap (λ m. first_parts left (map (sym_text deep) m)) none ∙ none_parts left))
    ∙ s.is

-- A stack without symbols.
pub empty_text : (old new : List ℕ) (most deep : ℕ) (m : Work) → m ≡ [] → new ≡ old ++ codes "-" →
    new ≡ old ++ dotted (first_parts most (map (sym_text deep) m))
empty_text old new most deep m none e =
    e ∙ ap (λ z. old ++ dotted z) (sym (ap (λ m. first_parts most (map (sym_text deep) m)) none ∙ none_parts most))

-- The top of a stack, and what stands below it.
pub top_and_rest : (f : Form) (ws old mid new : List ℕ) (most deep : ℕ) (m : Work) (t : Topped f ws m) → 1 ≤ most →
    mid ≡ old ++ sym_text deep t.top → new ≡ mid ++ dots (first_parts (most - 1) (map (sym_text deep) t.rest)) →
    new ≡ old ++ dotted (first_parts most (map (sym_text deep) m))
top_and_rest f ws old mid new most deep m t some e g =
    let x : List ℕ = sym_text deep t.top in
    let more : List ℕ = dots (first_parts (most - 1) (map (sym_text deep) t.rest)) in
    g ∙ ap (λ z. z ++ more) e ∙ append_assoc old x more
    ∙ ap (λ z. old ++ dotted z)
    (sym (ap (λ m. first_parts most (map (sym_text deep) m)) t.are ∙ some_parts most deep t.top t.rest (λ z. omega (arith, some, z))))

-- ---- box stacks

-- a box stack as symbols
pub symbols_text : (d : ℕ) (t : Boxes) → map (sym_text d) (map S t) ≡ map (sig_text d) t
symbols_text d [] = refl
symbols_text d (s ∷ t) = ap (λ z. sig_text d s ∷ z) (symbols_text d t)

pub boxes_said : (old new : List ℕ) (t : Boxes) →
    new ≡ old ++ dotted (first_parts most_parts (map (sym_text most_deep) (map S t))) → new ≡ old ++ boxes_text t
boxes_said old new t e = e ∙ ap (λ z. old ++ dotted (first_parts most_parts z)) (symbols_text most_deep t)

-- a signature is whole where it may be written as deep as it has words
deep_enough : (s : Sig) (d : ℕ) → length (body s) ≤ d → sig_text d s ≡ whole_sig_text s
deep_enough star zero h = refl
deep_enough star (suc d) h = refl
deep_enough (left_of s) zero h = let l = length-append (body s) (1 ∷ []) in absurd (omega (arith, l, h))
deep_enough (left_of s) (suc d) h =
    let l = length-append (body s) (1 ∷ []) in ap (λ z. codes "l" ++ z) (deep_enough s d (omega (arith, l, h)))
deep_enough (right_of s) zero h = let l = length-append (body s) (2 ∷ []) in absurd (omega (arith, l, h))
deep_enough (right_of s) (suc d) h =
    let l = length-append (body s) (2 ∷ []) in ap (λ z. codes "r" ++ z) (deep_enough s d (omega (arith, l, h)))
deep_enough (pair_of s u) zero h =
    let l = length-append (body s) (body u ++ length (body u) ∷ 3 ∷ []) in
    let m = length-append (body u) (length (body u) ∷ 3 ∷ []) in absurd (omega (arith, l, m, h))
deep_enough (pair_of s u) (suc d) h =
    let l = length-append (body s) (body u ++ length (body u) ∷ 3 ∷ []) in
    let m = length-append (body u) (length (body u) ∷ 3 ∷ []) in
    λ i. codes "<" ++ (deep_enough s d (omega (arith, l, m, h)) i
    ++ (codes "," ++ (deep_enough u d (omega (arith, l, m, h)) i ++ codes ">")))
deep_enough (again s u) zero h =
    let l = length-append (body s) (body u ++ length (body u) ∷ 4 ∷ []) in
    let m = length-append (body u) (length (body u) ∷ 4 ∷ []) in absurd (omega (arith, l, m, h))
deep_enough (again s u) (suc d) h =
    let l = length-append (body s) (body u ++ length (body u) ∷ 4 ∷ []) in
    let m = length-append (body u) (length (body u) ∷ 4 ∷ []) in
    λ i. codes "y(" ++ (deep_enough s d (omega (arith, l, m, h)) i
    ++ (codes "," ++ (deep_enough u d (omega (arith, l, m, h)) i ++ codes ")")))

-- and so is each of a box stack
whole_parts : (t : Boxes) (d : ℕ) → length (box_words t) ≤ d → map (sig_text d) t ≡ map whole_sig_text t
whole_parts [] d h = refl
whole_parts (s ∷ t) d h =
    let l = length-append (box_words t) (entry s) in
    let m = length-append (body s) (length (body s) ∷ []) in
    λ i. deep_enough s d (omega (arith, l, m, h)) i ∷ whole_parts t d (omega (arith, l, m, h)) i

-- all parts are written where as many may be
all_parts : (n : ℕ) (xs : List (List ℕ)) → length xs ≤ n → first_parts n xs ≡ xs
all_parts zero [] h = refl
all_parts (suc n) [] h = refl
all_parts zero (x ∷ xs) h = absurd (omega (arith, h))
all_parts (suc n) (x ∷ xs) h = ap (λ z. x ∷ z) (all_parts n xs (omega (arith, h)))

few_parts : (t : Boxes) → length (map whole_sig_text t) ≤ length (box_words t)
few_parts [] = omega arith
few_parts (s ∷ t) =
    let l = length-append (box_words t) (entry s) in
    let m = length-append (body s) (length (body s) ∷ []) in
    let f = few_parts t in omega (arith, l, m, f)

-- A box stack that may be written as deep and as far as it has words is written whole.
pub key_said : (old new : List ℕ) (t : Boxes) (n : ℕ) → n ≡ length (box_words t) →
    new ≡ old ++ dotted (first_parts (n + 1) (map (sym_text n) (map S t))) → new ≡ old ++ key_text t
key_said old new t n e g =
    let f = few_parts t in
    g ∙ ap (λ z. old ++ dotted (first_parts (n + 1) z)) (symbols_text n t ∙ whole_parts t n (omega (arith, e)))
    ∙ ap (λ z. old ++ dotted z) (all_parts (n + 1) (map whole_sig_text t) (omega (arith, e, f)))
