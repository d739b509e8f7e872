-- What stands on top of a stack, by its last words.
use Rattle.std.proofs.Common.{◌≡◌, ℕ, zero, suc, true, false, ◌+◌, ◌-◌, ◌<◌, List, [], ◌∷◌, ◌++◌}
use Rattle.std.proofs.Common.{append_assoc, length, get_or, take}
use Rattle.std.proofs.Common.{drop, map, refl, sym, ap, ◌∙◌, arith, length-append}
use Rattle.std.specs.Bool.{◌==◌}
use Rattle.std.proofs.lemmas.Bool.{eqb-true}
use Rattle.std.proofs.lemmas.List.{get_or_at}
use Rattle.token_stacks.specs.Signatures.{Sig, Sym, R, L, S, Work, Boxes}
use Rattle.token_stacks.specs.Words.{body, entry, box_words}
use Rattle.token_stacks.specs.WorkWords.{symbol, work_words}
use Rattle.token_stacks.specs.declared.print.Form.{Form}
use Rattle.token_stacks.specs.declared.print.Form.TheVariants.{Symbols, Signatures}
use Rattle.token_stacks.specs.Printing.{IsStack, TakesTop}
use Rattle.token_stacks.proofs.Ends.{take_after, piece_at}
use Rattle.token_stacks.proofs.Laid.{symbol_long}

-- the last word of a list, with one more word behind it
last_is : (f : List ℕ) (x : ℕ) (ws : List ℕ) → ws ≡ f ++ x ∷ [] → get_or ws (length ws - 1) 0 ≡ x
last_is f x ws e =
    let long = ap length e ∙ length-append f (x ∷ []) in
    ap (λ z. get_or z (length ws - 1) 0) e ∙ get_or_at f x [] 0 (length ws - 1) (omega (arith, long))

-- the parts of a signature on top of a work stack, by its length
pub record OnTop (ws : List ℕ) (k : ℕ) (x : Sym) (m : Work) : Type 0 where
  pub sig : Sig
  pub is : x ≡ S sig
  pub body : take (length ws - 2 - (length ws - 2 - k)) (drop (length ws - 2 - k) ws) ≡ body sig
  pub rest : take (length ws - 2 - k) ws ≡ work_words m

-- Where the last word is neither that of `R` nor that of `L`, a signature is on top.
pub sig_on_top : (x : Sym) (m : Work) (ws : List ℕ) → ws ≡ work_words m ++ symbol x →
    (get_or ws (length ws - 1) 0 ≡ 5 → ⊥) →
    (get_or ws (length ws - 1) 0 ≡ 6 → ⊥) → OnTop ws (get_or ws (length ws - 2) 0) x m
sig_on_top R m ws e r l = absurd (r (last_is (work_words m) 5 ws e))
sig_on_top L m ws e r l = absurd (l (last_is (work_words m) 6 ws e))
sig_on_top (S s) m ws e r l =
    let f : List ℕ = work_words m in
    let b : List ℕ = body s in
    let two : List ℕ = length b ∷ 7 ∷ [] in
    let long = ap length e ∙ length-append f (b ++ two) in
    let longer = length-append b two in
    let front = length-append f b in
    let all : ws ≡ (f ++ b) ++ two = e ∙ sym (append_assoc f b two) in
    let size : get_or ws (length ws - 2) 0 ≡ length b =
    ap (λ z. get_or z (length ws - 2) 0) all
    ∙ get_or_at (f ++ b) (length b) (7 ∷ []) 0 (length ws - 2) (omega (arith, long, longer, front)) in
    record {
      sig = s;
      is = refl;
      body = piece_at f b two ws (length ws - 2 - get_or ws (length ws - 2) 0)
          (length ws - 2 - (length ws - 2 - get_or ws (length ws - 2) 0)) e
          (omega (arith, long, longer, size)) (omega (arith, long, longer, size));
      rest = take_after f (b ++ two) ws (length ws - 2 - get_or ws (length ws - 2) 0) e (omega (arith, long, longer, size));
    }

-- what is left of a work stack, and of a box stack
pub takes_symbol : (f : Form) (x : Sym) (m : Work) (ws rest : List ℕ) → f ≡ Symbols → IsStack f ws (x ∷ m) →
    rest ≡ work_words m → TakesTop f ws rest m
takes_symbol Symbols x m ws rest e stack r = record {
  stack = r;
  less = let long = ap length stack ∙ length-append (work_words m) (symbol x) in
      let some = symbol_long x in
      let left = ap length r in omega (arith, long, some, left);
}
takes_symbol Signatures x m ws rest e stack r = absurd (no_form e)
  where
    no_form : (Signatures ≡ Symbols) → ⊥
    no_form e = cc

-- a box stack whose symbols are not none is not empty
pub record Boxed (ws : List ℕ) (x : Sym) (m : Work) : Type 0 where
  pub sig : Sig
  pub boxes : Boxes
  pub words : ws ≡ box_words (sig ∷ boxes)
  pub top : x ≡ S sig
  pub rest : m ≡ map S boxes

-- a box stack with a symbol on top is one with a signature on top
pub boxed : (f : Form) (x : Sym) (m : Work) (ws : List ℕ) → f ≡ Signatures → IsStack f ws (x ∷ m) → Boxed ws x m
boxed Signatures x m ws e stack = go stack.0 stack.1 stack.2
  where
    go : (t : Boxes) → ws ≡ box_words t → x ∷ m ≡ map S t → Boxed ws x m
    go [] w p = absurd (none p)
      where
        none : (x ∷ m ≡ []) → ⊥
        none p = cc
    go (s ∷ t) w p = record { sig = s; boxes = t; words = w; top = head p; rest = tail p }
      where
        head : x ∷ m ≡ S s ∷ map S t → x ≡ S s
        head p = cc

        tail : x ∷ m ≡ S s ∷ map S t → m ≡ map S t
        tail p = cc
boxed Symbols x m ws e stack = absurd (no_form e)
  where
    no_form : (Symbols ≡ Signatures) → ⊥
    no_form e = cc

-- the words of the rest of a box stack are fewer than those of the whole
pub takes_signature : (f : Form) (x : Sym) (m : Work) (ws rest : List ℕ) → f ≡ Signatures → (b : Boxed ws x m) →
    rest ≡ box_words b.boxes → TakesTop f ws rest m
takes_signature Signatures x m ws rest e b r = record {
  stack = (b.boxes, r, b.rest);
  less = let long = ap length b.words ∙ length-append (box_words b.boxes) (entry b.sig) in
      let some = length-append (body b.sig) (length (body b.sig) ∷ []) in
      let left = ap length r in omega (arith, long, some, left);
}
takes_signature Symbols x m ws rest e b r = absurd (no_form e)
  where
    no_form : (Symbols ≡ Signatures) → ⊥
    no_form e = cc

-- a list without words is a stack without symbols
pub no_symbols : (f : Form) (ws : List ℕ) (m : Work) → IsStack f ws m → length ws ≡ 0 → m ≡ []
no_symbols f ws [] e n = refl
no_symbols Symbols ws (x ∷ m) e n =
    let long = ap length e ∙ length-append (work_words m) (symbol x) in let some = symbol_long x in absurd (omega (arith, long, some))
no_symbols Signatures ws (x ∷ m) e n =
    let b = boxed Signatures x m ws refl e in
    let long = ap length b.words ∙ length-append (box_words b.boxes) (entry b.sig) in
    let some = length-append (body b.sig) (length (body b.sig) ∷ []) in absurd (omega (arith, long, some))

-- and a list with words is one with symbols
pub record Topped (f : Form) (ws : List ℕ) (m : Work) : Type 0 where
  pub top : Sym
  pub rest : Work
  pub are : m ≡ top ∷ rest
  pub is : IsStack f ws (top ∷ rest)

-- a stack that has words has a symbol on top
pub topped : (f : Form) (ws : List ℕ) (m : Work) → IsStack f ws m → 0 < length ws → Topped f ws m
topped f ws (x ∷ m) e n = record { top = x; rest = m; are = refl; is = e }
topped Symbols ws [] e n = let long = ap length e in absurd (omega (arith, long))
topped Signatures ws [] e n = absurd (go e.0 e.1 e.2)
  where
    go : (t : Boxes) → ws ≡ box_words t → [] ≡ map S t → ⊥
    go [] w p = let long = ap length w in omega (arith, long)
    go (s ∷ t) w p = none p
      where
        none : ([] ≡ S s ∷ map S t) → ⊥
        none p = cc

-- the tests of the code
pub some_words_left : (n : ℕ) → false ≡ (n == 0) → 0 < n
some_words_left zero e = absurd (no_bool e)
  where
    no_bool : (false ≡ true) → ⊥
    no_bool e = cc
some_words_left (suc n) e = omega arith

pub no_words_left : (n : ℕ) → true ≡ (n == 0) → n ≡ 0
no_words_left zero e = refl
no_words_left (suc n) e = let none : suc n ≡ 0 = eqb-true (suc n) 0 (sym e) in absurd (omega (arith, none))

-- one symbol more is counted
pub counted : (f : Form) (ws rest : List ℕ) (n total : ℕ) (k : Work) (t : Topped f ws k) → TakesTop f ws rest t.rest →
    n + length k ≡ total → (j : Work) × IsStack f rest j × (n + 1 + length j ≡ total)
counted f ws rest n total k t take e = let long = ap length t.are in (t.rest, take.stack, omega (arith, long, e))

-- all are counted
pub all_counted : (n total : ℕ) (k : Work) → n + length k ≡ total → k ≡ [] → n ≡ total
all_counted n total k e none = let long = ap length none in omega (arith, long, e)
