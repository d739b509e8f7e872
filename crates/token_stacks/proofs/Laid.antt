-- Both stacks in one list of words: what a model's value says of the words, and words that stand for other stacks.
use Rattle.std.proofs.Common.{◌≡◌, ℕ, ◌+◌, ◌<◌, ◌≤◌, List, [], ◌∷◌, ◌++◌}
use Rattle.std.proofs.Common.{length, take, drop, refl, sym}
use Rattle.std.proofs.Common.{◌∙◌, ap, arith, length-append, Option, Some, Bool, eq-eqb}
use Rattle.std.proofs.lemmas.List.{append_assoc, take-append-drop, length-take-le}
use Rattle.std.specs.Prelude.{◌==◌, ◌↔◌, IsTrue, nat_eq}
use Rattle.std.specs.Cmp.Lexicographic.{pointwise, bytes_decides}
use Rattle.std.proofs.lemmas.Bool.{eqb-true}
use Rattle.token_stacks.specs.Signatures.{Sig, Sym, R, L, S, Work, Boxes}
use Rattle.token_stacks.specs.Loads.{Load, load}
use Rattle.token_stacks.specs.Words.{body, entry, box_words}
use Rattle.token_stacks.specs.WorkWords.{symbol, work_words}
use Rattle.token_stacks.specs.Reading.{work_of, work_of-words, boxes_of, boxes_of-words, load_of}
use Rattle.token_stacks.specs.Tops.{IsHeld, Lies}
use Rattle.token_stacks.proofs.Ends.{take_after, drop_after, length_both}

-- the words of a value that is known
pub lies : (a : Load) (ws : List ℕ) (b : ℕ) → load_of ws b ≡ a → IsHeld ws b → Lies ws b a.work a.boxes
lies a ws b v h =
    let front : take b ws ≡ box_words a.boxes = sym h.front.boxes ∙ ap (λ (z : Load). box_words z.boxes) v in
    let behind : drop b ws ≡ work_words a.work = sym h.work ∙ ap (λ (z : Load). work_words z.work) v in
    record {
      words = sym (take-append-drop b ws) ∙ ap (λ (z : List ℕ). z ++ drop b ws) front ∙ ap (λ (z : List ℕ). box_words a.boxes ++ z) behind;
      ends = sym (length-take-le b ws h.front.within) ∙ ap length front;
    }

-- the same of words alone
pub lies_so : (ws : List ℕ) (b : ℕ) → IsHeld ws b → Lies ws b (work_of (drop b ws)) (boxes_of (take b ws))
lies_so ws b h = lies (load_of ws b) ws b refl h

front_is : (m : Work) (t : Boxes) (ws : List ℕ) (b : ℕ) → Lies ws b m t → take b ws ≡ box_words t
front_is m t ws b l = take_after (box_words t) (work_words m) ws b l.words l.ends

behind_is : (m : Work) (t : Boxes) (ws : List ℕ) (b : ℕ) → Lies ws b m t → drop b ws ≡ work_words m
behind_is m t ws b l = drop_after (box_words t) (work_words m) ws b l.words l.ends

-- words of stacks keep what a model promises of its words
pub stands : (m : Work) (t : Boxes) (ws : List ℕ) (b : ℕ) → Lies ws b m t → IsHeld ws b
stands m t ws b l =
    let f = front_is m t ws b l in
    let g = behind_is m t ws b l in
    record {
      front = record {
        within = let n = length_both (box_words t) (work_words m) ws l.words in let e = l.ends in omega (arith, n, e);
        boxes = ap (λ (z : List ℕ). box_words (boxes_of z)) f ∙ ap box_words (boxes_of-words t) ∙ sym f;
      };
      work = ap (λ (z : List ℕ). work_words (work_of z)) g ∙ ap work_words (work_of-words m) ∙ sym g;
    }

pub reads : (m : Work) (t : Boxes) (ws : List ℕ) (b : ℕ) → Lies ws b m t → load_of ws b ≡ load m t
reads m t ws b l =
    ap (λ (z : List ℕ). load (work_of z) (boxes_of (take b ws))) (behind_is m t ws b l)
    ∙ ap (λ (z : List ℕ). load (work_of (work_words m)) (boxes_of z)) (front_is m t ws b l)
    ∙ ap (λ (z : Work). load z (boxes_of (box_words t))) (work_of-words m)
    ∙ ap (λ (z : Boxes). load m z) (boxes_of-words t)

-- the words and the border after a step that leaves these stacks
pub record Turns (after : Option Load) (ws : List ℕ) (b : ℕ) : Type 0 where
  pub work : Work
  pub boxes : Boxes
  pub is : after ≡ Some (load work boxes)
  pub lies : Lies ws b work boxes

pub turns_stands : {o : Option Load} {ws : List ℕ} {b : ℕ} → Turns o ws b → IsHeld ws b
turns_stands {ws = ws} {b = b} t = stands t.work t.boxes ws b t.lies

pub turns_seen : {o : Option Load} {ws : List ℕ} {b : ℕ} → Turns o ws b → o ≡ Some (load_of ws b)
turns_seen {ws = ws} {b = b} t = t.is ∙ ap (λ (z : Load). Some z) (sym (reads t.work t.boxes ws b t.lies))

-- the words with the top of the work stack apart
pub topped : (x : Sym) (m : Work) (t : Boxes) (ws : List ℕ) (b : ℕ) → Lies ws b (x ∷ m) t → ws ≡ (box_words t ++ work_words m) ++ symbol x
topped x m t ws b l = l.words ∙ sym (append_assoc (box_words t) (work_words m) (symbol x))

-- without words behind the border there is no symbol, and with some there is
pub long_work : (m : Work) (t : Boxes) (ws : List ℕ) (b : ℕ) → Lies ws b m t → length ws ≡ b + length (work_words m)
long_work m t ws b l = let n = length_both (box_words t) (work_words m) ws l.words in let e = l.ends in omega (arith, n, e)

-- a symbol has a word
pub symbol_long : (x : Sym) → 0 < length (symbol x)
symbol_long R = omega arith
symbol_long L = omega arith
symbol_long (S s) = let l = length-append (body s) (length (body s) ∷ 7 ∷ []) in omega (arith, l)

pub work_long : (x : Sym) (m : Work) → 1 ≤ length (work_words (x ∷ m))
work_long x m = let l = length-append (work_words m) (symbol x) in let k = symbol_long x in omega (arith, l, k)

pub box_long : (s : Sig) (t : Boxes) → length (box_words (s ∷ t)) ≡ length (box_words t) + length (body s) + 1
box_long s t =
    let l = length-append (box_words t) (entry s) in
    let k = length-append (body s) (length (body s) ∷ []) in omega (arith, l, k)

-- what goes on top of the work stack
pub pushed : (x : Sym) (m : Work) (t : Boxes) (ws vs : List ℕ) (b : ℕ) → Lies ws b m t → vs ≡ ws ++ symbol x → Lies vs b (x ∷ m) t
pushed x m t ws vs b l v = record {
  words = v ∙ ap (λ (z : List ℕ). z ++ symbol x) l.words ∙ append_assoc (box_words t) (work_words m) (symbol x);
  ends = l.ends;
}

-- what goes off it
pub popped : (x : Sym) (m : Work) (t : Boxes) (ws vs : List ℕ) (b n : ℕ) → Lies ws b (x ∷ m) t → n + length (symbol x) ≡ length ws →
    vs ≡ take n ws → Lies vs b m t
popped x m t ws vs b n l h v =
    let e = topped x m t ws b l in
    let k = length_both (box_words t ++ work_words m) (symbol x) ws e in
    record { words = v ∙ take_after (box_words t ++ work_words m) (symbol x) ws n e (omega (arith, k, h)); ends = l.ends }

-- words with a border stand for one pair of stacks
pub same_lies : (m m' : Work) (t t' : Boxes) (ws : List ℕ) (b : ℕ) → Lies ws b m t → Lies ws b m' t' → load m t ≡ load m' t'
same_lies m m' t t' ws b l l' = sym (reads m t ws b l) ∙ reads m' t' ws b l'

-- words and borders are the same exactly where the stacks are
pub same_test : (a a' : Load) (ws ws' : List ℕ) (b b' : ℕ) (r : Bool) → load_of ws b ≡ a → IsHeld ws b → load_of ws' b' ≡ a'
    → IsHeld ws' b' →
    b ≡ b' → r ≡ pointwise nat_eq ws ws' → (IsTrue r → a ≡ a') × (a ≡ a' → IsTrue r)
same_test a a' ws ws' b b' r v h v' h' e q =
    let d = bytes_decides ws ws' in
    let l = lies a ws b v h in
    let l' = lies a' ws' b' v' h' in (
      λ p. sym v ∙ ap (λ (z : List ℕ). load_of z b) (d.0 (sym q ∙ p)) ∙ ap (λ (z : ℕ). load_of ws' z) e ∙ v',
      λ s. q ∙ d.1 (l.words ∙ ap (λ (z : Load). box_words z.boxes ++ work_words z.work) s ∙ sym l'.words),
    )

pub other_test : (a a' : Load) (ws ws' : List ℕ) (b b' : ℕ) → load_of ws b ≡ a → IsHeld ws b → load_of ws' b' ≡ a' → IsHeld ws' b' →
    (b ≡ b' → ⊥) → (IsTrue (nat_eq b b') → a ≡ a') × (a ≡ a' → IsTrue (nat_eq b b'))
other_test a a' ws ws' b b' v h v' h' e =
    let l = lies a ws b v h in
    let l' = lies a' ws' b' v' h' in (
      λ p. absurd (e (eqb-true b b' p)),
      λ s. absurd (e (l.ends ∙ ap (λ (z : Load). length (box_words z.boxes)) s ∙ sym l'.ends)),
    )

-- there is a symbol exactly where words stand behind the border
pub empty_test : (m : Work) (t : Boxes) (ws : List ℕ) (b n : ℕ) (a : Bool) → Lies ws b m t → n ≡ length ws → a ≡ (n == b)
    → IsTrue a ↔ (m ≡ [])
empty_test [] t ws b n a l h q =
    let k = long_work [] t ws b l in
    let z : n ≡ b = omega (arith, k, h) in
    (λ _. refl, λ _. q ∙ eq-eqb n b z)
empty_test (x ∷ m) t ws b n a l h q =
    let k = long_work (x ∷ m) t ws b l in
    let y = work_long x m in
    (λ p. absurd (let w : n ≡ b = eqb-true n b (sym q ∙ p) in omega (arith, k, h, y, w)), λ p. absurd (no_cons p))
  where
    no_cons : (x ∷ m ≡ [] → ⊥)
    no_cons p = cc
