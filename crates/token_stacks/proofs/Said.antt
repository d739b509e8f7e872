-- What the last word of a signature says of its text: how the text begins, and what is put down behind it.
use Rattle.std.proofs.Common.{◌≡◌, ℕ, zero, suc, ◌+◌, ◌-◌, ◌*◌, ◌<◌, ◌≤◌, List, [], ◌∷◌, ◌++◌}
use Rattle.std.proofs.Common.{append_assoc, length, get_or, take, drop}
use Rattle.std.proofs.Common.{codes, Result, Ok, Err, OnOk, IfOk, is_ok, Option, if◌then◌else◌}
use Rattle.std.proofs.Common.{refl, sym, ap, ◌∙◌, arith, length-append}
use Rattle.std.proofs.lemmas.List.{get_or_at}
use Rattle.token_stacks.specs.Signatures.{Sig, star, left_of, right_of, pair_of, again}
use Rattle.token_stacks.specs.Words.{body}
use Rattle.token_stacks.specs.Texts.{sig_text}
use Rattle.token_stacks.specs.declared.print.Piece.{Piece}
use Rattle.token_stacks.specs.Printing.{held, pieces_text, Writes}
use Rattle.token_stacks.proofs.Ends.{stem, tag, body_ends, length_on, take_after, drop_after}

pub ok_map : {A E P Q : Type 0} (r : Result A E) → (P → Q) → OnOk r P → OnOk r Q
ok_map (Ok a) f p = f p
ok_map (Err e) f p = p

pub if_map : {A E : Type 0} {P Q : A → Type 0} (r : Result A E) → ((a : A) → P a → Q a) → IfOk r P → IfOk r Q
if_map (Ok a) f p = f a p
if_map (Err e) f p = p

-- a list that is shorter than 1
pub nothing : (xs : List ℕ) → length xs < 1 → xs ≡ []
nothing [] h = refl
nothing (x ∷ xs) h = absurd (omega arith)

pub from_if : {A E : Type 0} (r : Result A E) (x a b : List ℕ) → x ≡ (if is_ok r then a else b) → OnOk r (x ≡ a)
from_if (Ok v) x a b e = e
from_if (Err z) x a b e = tt

-- nothing ends in nothing
pub some_words : (s : Sig) → [] ≡ body s → ⊥
some_words s e = let long : 0 ≡ length (stem s) + 1 = ap length (e ∙ body_ends s) ∙ length_on (stem s) (tag s) in absurd (omega arith)

-- the words before the last one, and the last
pub record Parts (rest : List ℕ) (w : ℕ) (s : Sig) : Type 0 where
  pub front : rest ≡ stem s
  pub last : w ≡ tag s

-- a list of words with one more behind it is a signature's body only as its stem and its tag
pub parts : (rest : List ℕ) (w : ℕ) (s : Sig) → rest ++ w ∷ [] ≡ body s → Parts rest w s
parts rest w s e =
    let both : rest ++ w ∷ [] ≡ stem s ++ tag s ∷ [] = e ∙ body_ends s in
    let long : length rest + 1 ≡ length (stem s) + 1 = sym (length_on rest w) ∙ ap length both ∙ length_on (stem s) (tag s) in
    let same : length rest ≡ length (stem s) = omega arith in
    let ends : w ∷ [] ≡ tag s ∷ [] =
    sym (drop_after rest (w ∷ []) (rest ++ w ∷ []) (length rest) refl refl)
    ∙ drop_after (stem s) (tag s ∷ []) (rest ++ w ∷ []) (length rest) both same in
    record {
      front = sym (take_after rest (w ∷ []) (rest ++ w ∷ []) (length rest) refl refl)
          ∙ take_after (stem s) (tag s ∷ []) (rest ++ w ∷ []) (length rest) both same;
      last = cc;
    }

-- ---- at depth 0

pub flat : (s : Sig) (d : ℕ) → d ≡ 0 → (tag s ≡ 0 → ⊥) → sig_text d s ≡ codes "~"
flat s zero e n = at_zero s n
  where
    at_zero : (s : Sig) → (tag s ≡ 0 → ⊥) → sig_text zero s ≡ codes "~"
    at_zero star n = absurd (n refl)
    at_zero (left_of s) n = refl
    at_zero (right_of s) n = refl
    at_zero (pair_of s u) n = refl
    at_zero (again s u) n = refl
flat s (suc d) e n = absurd (omega arith)

-- ---- a star

pub star_text : (s : Sig) (d : ℕ) → tag s ≡ 0 → sig_text d s ≡ codes "*"
star_text star zero e = refl
star_text star (suc d) e = refl
star_text (left_of s) d e = absurd (omega arith)
star_text (right_of s) d e = absurd (omega arith)
star_text (pair_of s u) d e = absurd (omega arith)
star_text (again s u) d e = absurd (omega arith)

-- ---- deeper

pub deeper_left : (d : ℕ) (s : Sig) → (d ≡ 0 → ⊥) → codes "l" ++ sig_text (d - 1) s ≡ sig_text d (left_of s)
deeper_left zero s n = absurd (n refl)
deeper_left (suc d) s n = ap (λ k. codes "l" ++ sig_text k s) (omega arith)

pub deeper_right : (d : ℕ) (s : Sig) → (d ≡ 0 → ⊥) → codes "r" ++ sig_text (d - 1) s ≡ sig_text d (right_of s)
deeper_right zero s n = absurd (n refl)
deeper_right (suc d) s n = ap (λ k. codes "r" ++ sig_text k s) (omega arith)

-- the text of both parts, between what opens and what closes them
abbrev pub two : List ℕ → List ℕ → ℕ → Sig → Sig → List ℕ
two a z d s u = a ++ (sig_text d s ++ (codes "," ++ (sig_text d u ++ z)))

pub deeper_pair : (d : ℕ) (s u : Sig) → (d ≡ 0 → ⊥) → two (codes "<") (codes ">") (d - 1) s u ≡ sig_text d (pair_of s u)
deeper_pair zero s u n = absurd (n refl)
deeper_pair (suc d) s u n = ap (λ k. two (codes "<") (codes ">") k s u) (omega arith)

pub deeper_again : (d : ℕ) (s u : Sig) → (d ≡ 0 → ⊥) → two (codes "y(") (codes ")") (d - 1) s u ≡ sig_text d (again s u)
deeper_again zero s u n = absurd (n refl)
deeper_again (suc d) s u n = ap (λ k. two (codes "y(") (codes ")") k s u) (omega arith)

-- ---- what each arm has written

no_tag : (a b : ℕ) → a ≡ b → (a ≡ b → ⊥) → ⊥
no_tag a b e n = n e

-- the same text in other words, with more to do
pub writes_as : {old new : List ℕ} {before after : List Piece} (x y : List ℕ) (m n : ℕ) → x ≡ y → m ≤ n →
    Writes old new before after x m →
    Writes old new before after y n
writes_as {old} {new} {before} {after} x y m n e h w = record {
  text = w.text ∙ ap (λ z. old ++ (z ++ pieces_text before)) e;
  parts = w.parts;
  less = omega (arith, w.less, h);
}

-- what is written at once
pub writes_now : (old new : List ℕ) (before : List Piece) (x : List ℕ) (n : ℕ) → 1 ≤ n → new ≡ old ++ x →
    Writes old new before before x n
writes_now old new before x n h e = record {
  text = ap (λ z. z ++ pieces_text before) e ∙ append_assoc old x (pieces_text before);
  parts = λ p. p;
  less = omega (arith, h);
}

-- the same behind what is written first
pub writes_behind : (old mid new x : List ℕ) (before after : List Piece) (y : List ℕ) (n : ℕ) → mid ≡ old ++ x →
    Writes mid new before after y n → Writes old new before after (x ++ y) n
writes_behind old mid new x before after y n e w = record {
  text = w.text
      ∙ ap (λ z. z ++ (y ++ pieces_text before)) e
      ∙ append_assoc old x (y ++ pieces_text before)
      ∙ ap (λ z. old ++ z) (sym (append_assoc x y (pieces_text before)));
  parts = w.parts;
  less = w.less;
}

-- a mark with one signature behind it
pub left_said : {E : Type 0} (r : Result (Option Piece) E) (s : Sig) (w d : ℕ) (rest old new : List ℕ)
    (before after : List Piece) (m n : ℕ) →
    w ≡ 1 → (d ≡ 0 → ⊥) → m ≤ n → rest ++ w ∷ [] ≡ body s →
    ((t : Sig) → rest ≡ body t → IfOk r (λ h. Writes old new before (after ++ held h) (108 ∷ sig_text (d - 1) t) m)) →
    IfOk r (λ h. Writes old new before (after ++ held h) (sig_text d s) n)
left_said r s w d rest old new before after m n one deep more e said = go s (parts rest w s e)
  where
    go : (s : Sig) → Parts rest w s → IfOk r (λ h. Writes old new before (after ++ held h) (sig_text d s) n)
    go (left_of t) p = if_map r (λ h. writes_as _ _ m n (deeper_left d t deep) more) (said t p.front)
    go star p = absurd (no_tag 1 0 (sym one ∙ p.last) (omega arith))
    go (right_of t) p = absurd (no_tag 1 2 (sym one ∙ p.last) (omega arith))
    go (pair_of t u) p = absurd (no_tag 1 3 (sym one ∙ p.last) (omega arith))
    go (again t u) p = absurd (no_tag 1 4 (sym one ∙ p.last) (omega arith))

-- the same with the mark of the right side
pub right_said : {E : Type 0} (r : Result (Option Piece) E) (s : Sig) (w d : ℕ) (rest old new : List ℕ)
    (before after : List Piece) (m n : ℕ) →
    w ≡ 2 → (d ≡ 0 → ⊥) → m ≤ n → rest ++ w ∷ [] ≡ body s →
    ((t : Sig) → rest ≡ body t → IfOk r (λ h. Writes old new before (after ++ held h) (114 ∷ sig_text (d - 1) t) m)) →
    IfOk r (λ h. Writes old new before (after ++ held h) (sig_text d s) n)
right_said r s w d rest old new before after m n one deep more e said = go s (parts rest w s e)
  where
    go : (s : Sig) → Parts rest w s → IfOk r (λ h. Writes old new before (after ++ held h) (sig_text d s) n)
    go (right_of t) p = if_map r (λ h. writes_as _ _ m n (deeper_right d t deep) more) (said t p.front)
    go star p = absurd (no_tag 2 0 (sym one ∙ p.last) (omega arith))
    go (left_of t) p = absurd (no_tag 2 1 (sym one ∙ p.last) (omega arith))
    go (pair_of t u) p = absurd (no_tag 2 3 (sym one ∙ p.last) (omega arith))
    go (again t u) p = absurd (no_tag 2 4 (sym one ∙ p.last) (omega arith))

-- two signatures
pub pair_said : {E : Type 0} (r : Result (Option Piece) E) (s : Sig) (w d : ℕ) (rest old new : List ℕ)
    (before after : List Piece) (m n : ℕ) →
    w ≡ 3 → (d ≡ 0 → ⊥) → m ≤ n → rest ++ w ∷ [] ≡ body s →
    ((t u : Sig) → rest ≡ body t ++ (body u ++ length (body u) ∷ []) →
    IfOk r (λ h. Writes old new before (after ++ held h) (two (codes "<") (codes ">") (d - 1) t u) m)) →
    IfOk r (λ h. Writes old new before (after ++ held h) (sig_text d s) n)
pair_said r s w d rest old new before after m n one deep more e said = go s (parts rest w s e)
  where
    go : (s : Sig) → Parts rest w s → IfOk r (λ h. Writes old new before (after ++ held h) (sig_text d s) n)
    go (pair_of t u) p = if_map r (λ h. writes_as _ _ m n (deeper_pair d t u deep) more) (said t u p.front)
    go star p = absurd (no_tag 3 0 (sym one ∙ p.last) (omega arith))
    go (left_of t) p = absurd (no_tag 3 1 (sym one ∙ p.last) (omega arith))
    go (right_of t) p = absurd (no_tag 3 2 (sym one ∙ p.last) (omega arith))
    go (again t u) p = absurd (no_tag 3 4 (sym one ∙ p.last) (omega arith))

-- and the form that is left
pub again_said : {E : Type 0} (r : Result (Option Piece) E) (s : Sig) (w d : ℕ) (rest old new : List ℕ)
    (before after : List Piece) (m n : ℕ) →
    (w ≡ 0 → ⊥) → (w ≡ 1 → ⊥) → (w ≡ 2 → ⊥) → (w ≡ 3 → ⊥) → (d ≡ 0 → ⊥) → m ≤ n → rest ++ w ∷
    [] ≡ body s →
    ((t u : Sig) → rest ≡ body t ++ (body u ++ length (body u) ∷ []) →
    IfOk r (λ h. Writes old new before (after ++ held h) (two (codes "y(") (codes ")") (d - 1) t u) m)) →
    IfOk r (λ h. Writes old new before (after ++ held h) (sig_text d s) n)
again_said r s w d rest old new before after m n n0 n1 n2 n3 deep more e said = go s (parts rest w s e)
  where
    go : (s : Sig) → Parts rest w s → IfOk r (λ h. Writes old new before (after ++ held h) (sig_text d s) n)
    go (again t u) p = if_map r (λ h. writes_as _ _ m n (deeper_again d t u deep) more) (said t u p.front)
    go star p = absurd (n0 p.last)
    go (left_of t) p = absurd (n1 p.last)
    go (right_of t) p = absurd (n2 p.last)
    go (pair_of t u) p = absurd (n3 p.last)

-- ---- two parts, the second with its length behind it

-- the words of both
pub record Halves (rest first second : List ℕ) (s u : Sig) : Type 0 where
  pub front : first ≡ body s
  pub back : second ≡ body u
  pub few : 3 * length first + 3 * length second + 3 ≤ 3 * length rest + 3

-- a pair's words are cut into those of its two signatures by the length that stands last
pub halves : (rest : List ℕ) (s u : Sig) → rest ≡ body s ++ (body u ++ length (body u) ∷ []) →
    (first second : List ℕ) →
    first ≡ take (length (take (length rest - 1) rest) - get_or rest (length rest - 1) 0) (take (length rest - 1) rest) →
    second ≡ drop (length (take (length rest - 1) rest) - get_or rest (length rest - 1) 0) (take (length rest - 1) rest) →
    Halves rest first second s u
halves rest s u e first second f g =
    let a : List ℕ = body s in
    let b : List ℕ = body u in
    let all : rest ≡ (a ++ b) ++ length b ∷ [] = e ∙ sym (append_assoc a b (length b ∷ [])) in
    let long = ap length all ∙ length_on (a ++ b) (length b) in
    let both = length-append a b in
    let front : take (length rest - 1) rest ≡ a ++ b =
    take_after (a ++ b) (length b ∷ []) rest (length rest - 1) all (omega (arith, long)) in
    let count : get_or rest (length rest - 1) 0 ≡ length b =
    ap (λ z. get_or z (length rest - 1) 0) all ∙ get_or_at (a ++ b) (length b) [] 0 (length rest - 1) (omega (arith, long)) in
    let longer = ap length front in
    let at : length (take (length rest - 1) rest) - get_or rest (length rest - 1) 0 ≡ length a = omega (arith, longer, both, count) in
    let first_is : first ≡ a = f ∙ take_after a b (take (length rest - 1) rest) _ front at in
    let second_is : second ≡ b = g ∙ drop_after a b (take (length rest - 1) rest) _ front at in
    let l = ap length first_is in
    let m = ap length second_is in
    record { front = first_is; back = second_is; few = omega (arith, l, m, long, both) }
