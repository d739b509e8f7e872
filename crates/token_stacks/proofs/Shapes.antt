-- What the words on top of each stack tell of it.
use Rattle.std.proofs.Common.{◌≡◌, ℕ, ◌+◌, ◌-◌, ◌<◌, ◌≤◌, List, [], ◌∷◌, ◌++◌}
use Rattle.std.proofs.Common.{length, get_or, take, drop, refl, sym}
use Rattle.std.proofs.Common.{◌∙◌, ap, arith, length-append, None}
use Rattle.std.proofs.lemmas.List.{append_assoc}
use Rattle.token_stacks.specs.Signatures.{Sig, star, left_of, right_of, pair_of, again, Sym, R, L, S, Work, Boxes}
use Rattle.token_stacks.specs.Loads.{Load}
use Rattle.token_stacks.specs.Words.{body, entry, box_words}
use Rattle.token_stacks.specs.WorkWords.{symbol, work_words}
use Rattle.token_stacks.specs.Reading.{work_of, boxes_of}
use Rattle.token_stacks.specs.Tops.{Lies, HasTop, HasBox, HasPair, HasAgain, top_sig, box_sig, top_pair, box_again}
use Rattle.token_stacks.proofs.Ends.{stem, tag, body_ends, body_long, length_pair, length_again, word_at, length_both}
use Rattle.token_stacks.proofs.Laid.{topped, reads, long_work, box_long}

-- a symbol's words without the last one, and that one
abbrev pub sym_stem : Sym → List ℕ
sym_stem R = []
sym_stem L = []
sym_stem (S s) = body s ++ length (body s) ∷ []

abbrev pub sym_tag : Sym → ℕ
sym_tag R = 5
sym_tag L = 6
sym_tag (S s) = 7

pub symbol_ends : (x : Sym) → symbol x ≡ sym_stem x ++ sym_tag x ∷ []
symbol_ends R = refl
symbol_ends L = refl
symbol_ends (S s) = sym (append_assoc (body s) (length (body s) ∷ []) (7 ∷ []))

pub last_word : (p : List ℕ) (x : Sym) (ws : List ℕ) (n a : ℕ) → ws ≡ p ++ symbol x → n ≡ length ws → a ≡ get_or ws (n - 1) a →
    a ≡ sym_tag x
last_word p x ws n a e h r =
    let f = p ++ sym_stem x in
    let e' : ws ≡ f ++ sym_tag x ∷ [] =
    e ∙ ap (λ (z : List ℕ). p ++ z) (symbol_ends x) ∙ sym (append_assoc p (sym_stem x) (sym_tag x ∷ [])) in
    let k = length_both f (sym_tag x ∷ []) ws e' in
    word_at f (sym_tag x) [] ws (n - 1) a e' (omega (arith, h, k)) r

-- the words of a signature on top, its size and its mark apart
sig_words : (s : Sig) (p ws : List ℕ) → ws ≡ p ++ symbol (S s) → ws ≡ (p ++ body s) ++ length (body s) ∷ 7 ∷ []
sig_words s p ws e = e ∙ sym (append_assoc p (body s) (length (body s) ∷ 7 ∷ []))

pub sig_length : (s : Sig) (p ws : List ℕ) → ws ≡ p ++ symbol (S s) → length ws ≡ length p + length (body s) + 2
sig_length s p ws e =
    let k = length_both (p ++ body s) (length (body s) ∷ 7 ∷ []) ws (sig_words s p ws e) in
    let j = length-append p (body s) in omega (arith, k, j)

size_word : (s : Sig) (p ws : List ℕ) (n k : ℕ) → ws ≡ p ++ symbol (S s) → n ≡ length ws → k ≡ get_or ws (n - 2) k → k ≡ length (body s)
size_word s p ws n k e h r =
    let l = sig_length s p ws e in
    let j = length-append p (body s) in
    word_at (p ++ body s) (length (body s)) (7 ∷ []) ws (n - 2) k (sig_words s p ws e) (omega (arith, l, j, h)) r

pub tag_words : (s : Sig) (p ws : List ℕ) → ws ≡ p ++ symbol (S s) → ws ≡ (p ++ stem s) ++ tag s ∷ length (body s) ∷ 7 ∷ []
tag_words s p ws e =
    e ∙ ap (λ (z : List ℕ). p ++ (z ++ length (body s) ∷ 7 ∷ [])) (body_ends s)
    ∙ ap (λ (z : List ℕ). p ++ z) (append_assoc (stem s) (tag s ∷ []) (length (body s) ∷ 7 ∷ []))
    ∙ sym (append_assoc p (stem s) (tag s ∷ length (body s) ∷ 7 ∷ []))

pub tag_word : (s : Sig) (p ws : List ℕ) (n a : ℕ) → ws ≡ p ++ symbol (S s) → n ≡ length ws → a ≡ get_or ws (n - 3) a → a ≡ tag s
tag_word s p ws n a e h r =
    let l = sig_length s p ws e in
    let j = length-append p (stem s) in
    let k = body_long s in
    word_at (p ++ stem s) (tag s) (length (body s) ∷ 7 ∷ []) ws (n - 3) a (tag_words s p ws e) (omega (arith, l, j, k, h)) r

-- ---- a signature on top of the work stack

-- where a signature's mark stands last, a signature is on top, and its size stands before the mark
pub has_top : (m : Work) (t : Boxes) (ws : List ℕ) (b n a k : ℕ) → (lie : Lies ws b m t) → (long : n ≡ length ws) → (some : b < n)
    → (last : a ≡ get_or ws (n - 1) a) → (found : a ≡ 7) → (size : k ≡ get_or ws (n - 2) k) → HasTop ws b k
has_top [] t ws b n a k lie long some last found size = absurd (let l = long_work [] t ws b lie in omega (arith, l, long, some))
has_top (R ∷ m) t ws b n a k lie long some last found size =
    absurd (let w = last_word (box_words t ++ work_words m) R ws n a (topped R m t ws b lie) long last in omega (arith, w, found))
has_top (L ∷ m) t ws b n a k lie long some last found size =
    absurd (let w = last_word (box_words t ++ work_words m) L ws n a (topped L m t ws b lie) long last in omega (arith, w, found))
has_top (S s ∷ m) t ws b n a k lie long some last found size = record {
  sig = s;
  rest = m;
  boxes = t;
  sized = size_word s (box_words t ++ work_words m) ws n k (topped (S s) m t ws b lie) long size;
  lies = lie;
}

pub top_length : (ws : List ℕ) (b k : ℕ) → (h : HasTop ws b k) → length ws ≡ b + length (work_words h.rest) + k + 2
top_length ws b k h =
    let l = sig_length h.sig (box_words h.boxes ++ work_words h.rest) ws (topped (S h.sig) h.rest h.boxes ws b h.lies) in
    let j = length-append (box_words h.boxes) (work_words h.rest) in
    let e = h.lies.ends in
    let z = h.sized in omega (arith, l, j, e, z)

pub top_fits : (ws : List ℕ) (b k : ℕ) → HasTop ws b k → (b + k + 2 ≤ length ws) × (1 ≤ k)
top_fits ws b k h =
    let l = top_length ws b k h in
    let z = h.sized in
    let y = body_long h.sig in (omega (arith, l), omega (arith, z, y))

pub no_top : (m : Work) (t : Boxes) (ws : List ℕ) (b n : ℕ) → Lies ws b m t → n ≡ length ws → n - b < 3 → top_sig m ≡ None
no_top [] t ws b n l h p = refl
no_top (R ∷ m) t ws b n l h p = refl
no_top (L ∷ m) t ws b n l h p = refl
no_top (S s ∷ m) t ws b n l h p =
    absurd (let k = sig_length s (box_words t ++ work_words m) ws (topped (S s) m t ws b l) in
    let j = length-append (box_words t) (work_words m) in
    let e = l.ends in
    let y = body_long s in omega (arith, k, j, e, y, h, p))

pub other_top : (m : Work) (t : Boxes) (ws : List ℕ) (b n a : ℕ) → Lies ws b m t → n ≡ length ws → a ≡ get_or ws (n - 1) a → (a ≡ 7 → ⊥)
    → top_sig m ≡ None
other_top [] t ws b n a l h r p = refl
other_top (R ∷ m) t ws b n a l h r p = refl
other_top (L ∷ m) t ws b n a l h r p = refl
other_top (S s ∷ m) t ws b n a l h r p = absurd (p (last_word (box_words t ++ work_words m) (S s) ws n a (topped (S s) m t ws b l) h r))

-- ---- a signature on top of the box stack

box_topped : (s : Sig) (t : Boxes) (m : Work) (ws : List ℕ) (b : ℕ) → Lies ws b m (s ∷ t) →
    ws ≡ (box_words t ++ body s) ++ length (body s) ∷ work_words m
box_topped s t m ws b l =
    l.words ∙ append_assoc (box_words t) (entry s) (work_words m)
    ∙ ap (λ (z : List ℕ). box_words t ++ z) (append_assoc (body s) (length (body s) ∷ []) (work_words m))
    ∙ sym (append_assoc (box_words t) (body s) (length (body s) ∷ work_words m))

-- where the border is not 0, a signature is on top, and its size stands before the border
pub has_box : (m : Work) (t : Boxes) (ws : List ℕ) (b k : ℕ) → (lie : Lies ws b m t) → (some : (b ≡ 0 → ⊥))
    → (size : k ≡ get_or ws (b - 1) k)
    → HasBox ws b k
has_box m [] ws b k lie some size = absurd (some (lie.ends))
has_box m (s ∷ t) ws b k lie some size = record {
  sig = s;
  rest = t;
  work = m;
  sized =
      let l = box_long s t in
      let j = length-append (box_words t) (body s) in
      let e = lie.ends in
      word_at (box_words t ++ body s) (length (body s)) (work_words m) ws (b - 1) k (box_topped s t m ws b lie) (omega (
        arith,
        l,
        j,
        e,
      )) size;
  lies = lie;
}

pub box_length : (ws : List ℕ) (b k : ℕ) → (h : HasBox ws b k) → b ≡ length (box_words h.rest) + k + 1
box_length ws b k h = let l = box_long h.sig h.rest in let e = h.lies.ends in let z = h.sized in omega (arith, l, e, z)

pub box_fits : (ws : List ℕ) (b k : ℕ) → HasBox ws b k → (k + 1 ≤ b) × (1 ≤ k)
box_fits ws b k h = let l = box_length ws b k h in let z = h.sized in let y = body_long h.sig in (omega (arith, l), omega (arith, z, y))

pub no_box : (m : Work) (t : Boxes) (ws : List ℕ) (b : ℕ) → Lies ws b m t → b ≡ 0 → box_sig t ≡ None
no_box m [] ws b l h = refl
no_box m (s ∷ t) ws b l h = absurd (let k = box_long s t in let e = l.ends in omega (arith, k, e, h))

-- ---- a pair on top of the work stack

-- what is known of the pair's parts by their sizes
pub record PairAt (ws : List ℕ) (b l k : ℕ) : Type 0 where
  pub pair : HasPair ws b (l - 2 - k) k
  pub less : k ≤ l - 2
  pub fits : b + (l - 2 - k) + k + 4 ≤ length ws

-- a pair's body has its parts, a size and a mark
pub pair_long : (ws : List ℕ) (b n l a : ℕ) → HasTop ws b l → n ≡ length ws → a ≡ get_or ws (n - 3) a → a ≡ 3 → 4 ≤ l
pair_long ws b n l a h long read found = go h.sig h.sized
    (sym (tag_word h.sig (box_words h.boxes ++ work_words h.rest) ws n a (topped (S h.sig) h.rest h.boxes ws b h.lies) long read) ∙ found)
  where
    go : (s : Sig) → l ≡ length (body s) → tag s ≡ 3 → 4 ≤ l
    go star z e = absurd (omega (arith, e))
    go (left_of s) z e = absurd (omega (arith, e))
    go (right_of s) z e = absurd (omega (arith, e))
    go (pair_of s u) z e =
        let p = length_pair s u in let x = body_long s in let y = body_long u in omega (arith, p, x, y, z)
    go (again s u) z e = absurd (omega (arith, e))

-- the size of the second part stands before the pair's mark
pair_second : (s u : Sig) (p ws : List ℕ) (n k : ℕ) → ws ≡ p ++ symbol (S (pair_of s u)) → n ≡ length ws → k ≡ get_or ws (n - 4) k →
    k ≡ length (body u)
pair_second s u p ws n k held long read =
    let b : List ℕ = body s in
    let c : List ℕ = body u in
    let z : ℕ = length (body (pair_of s u)) in
    let w : ws ≡ (p ++ (b ++ c)) ++ length c ∷ 3 ∷ z ∷ 7 ∷ [] =
    held ∙ ap (λ (y : List ℕ). p ++ y) (append_assoc b (c ++ length c ∷ 3 ∷ []) (z ∷ 7 ∷ [])
    ∙ ap (λ (y : List ℕ). b ++ y) (append_assoc c (length c ∷ 3 ∷ []) (z ∷ 7 ∷ []))
    ∙ sym (append_assoc b c (length c ∷ 3 ∷ z ∷ 7 ∷ []))) ∙ sym (append_assoc p (b ++ c) (length c ∷ 3 ∷ z ∷ 7 ∷ [])) in
    let i = length_both (p ++ (b ++ c)) (length c ∷ 3 ∷ z ∷ 7 ∷ []) ws w in
    word_at (p ++ (b ++ c)) (length c) (3 ∷ z ∷ 7 ∷ []) ws (n - 4) k w (omega (arith, i, long)) read

-- so a pair is found by its mark, and its parts by their sizes
pub pair_at : (ws : List ℕ) (b n l a k : ℕ) → (h : HasTop ws b l) → n ≡ length ws → a ≡ get_or ws (n - 3) a → a ≡ 3 →
    k ≡ get_or ws (n - 4) k → PairAt ws b l k
pair_at ws b n l a k h long read found second = go h.sig h.sized h.lies
    (sym (tag_word h.sig (box_words h.boxes ++ work_words h.rest) ws n a (topped (S h.sig) h.rest h.boxes ws b h.lies) long read) ∙ found)
  where
    go : (s : Sig) → l ≡ length (body s) → Lies ws b (S s ∷ h.rest) h.boxes → tag s ≡ 3 → PairAt ws b l k
    go star z lie e = absurd (omega (arith, e))
    go (left_of s) z lie e = absurd (omega (arith, e))
    go (right_of s) z lie e = absurd (omega (arith, e))
    go (pair_of s u) z lie e =
        let p = length_pair s u in
        let w = topped (S (pair_of s u)) h.rest h.boxes ws b lie in
        let y = pair_second s u (box_words h.boxes ++ work_words h.rest) ws n k w long second in
        let i = top_length ws b l h in
        record {
          pair = record {
            one = s;
            two = u;
            rest = h.rest;
            boxes = h.boxes;
            first_sized = omega (arith, p, y, z);
            second_sized = y;
            lies = lie;
          };
          less = omega (arith, p, y, z);
          fits = omega (arith, p, y, z, i);
        }
    go (again s u) z lie e = absurd (omega (arith, e))

-- without a pair's mark there is no pair
pub other_pair : (ws : List ℕ) (b n l a : ℕ) → HasTop ws b l → n ≡ length ws → a ≡ get_or ws (n - 3) a → (a ≡ 3 → ⊥) →
    top_pair (work_of (drop b ws)) ≡ None
other_pair ws b n l a h long read other =
    ap (λ (z : Load). top_pair z.work) (reads (S h.sig ∷ h.rest) h.boxes ws b h.lies) ∙ go h.sig
    (λ e. other (tag_word h.sig (box_words h.boxes ++ work_words h.rest) ws n a (topped (S h.sig) h.rest h.boxes ws b h.lies) long read
    ∙ e))
  where
    go : (s : Sig) → (tag s ≡ 3 → ⊥) → top_pair (S s ∷ h.rest) ≡ None
    go star e = refl
    go (left_of s) e = refl
    go (right_of s) e = refl
    go (pair_of s u) e = absurd (e refl)
    go (again s u) e = refl

pub no_pair : (m : Work) → top_sig m ≡ None → top_pair m ≡ None
no_pair [] e = refl
no_pair (R ∷ m) e = refl
no_pair (L ∷ m) e = refl
no_pair (S s ∷ m) e = cc

-- ---- a `y` on top of the box stack

-- the mark of a signature's form stands before its size
box_tag : (s : Sig) (t : Boxes) (m : Work) (ws : List ℕ) (b a : ℕ) → Lies ws b m (s ∷ t) → a ≡ get_or ws (b - 2) a → a ≡ tag s
box_tag s t m ws b a l r =
    let e : ws ≡ (box_words t ++ stem s) ++ tag s ∷ length (body s) ∷ work_words m =
    box_topped s t m ws b l ∙ ap (λ (z : List ℕ). (box_words t ++ z) ++ length (body s) ∷ work_words m) (body_ends s)
    ∙ ap (λ (z : List ℕ). z ++ length (body s) ∷ work_words m) (sym (append_assoc (box_words t) (stem s) (tag s ∷ [])))
    ∙ append_assoc (box_words t ++ stem s) (tag s ∷ []) (length (body s) ∷ work_words m) in
    let i = box_long s t in
    let j = length-append (box_words t) (stem s) in
    let k = body_long s in
    let h = l.ends in
    word_at (box_words t ++ stem s) (tag s) (length (body s) ∷ work_words m) ws (b - 2) a e (omega (arith, i, j, k, h)) r

pub again_long : (ws : List ℕ) (b l a : ℕ) → HasBox ws b l → a ≡ get_or ws (b - 2) a → a ≡ 4 → 4 ≤ l
again_long ws b l a h read found = go h.sig h.sized (sym (box_tag h.sig h.rest h.work ws b a h.lies read) ∙ found)
  where
    go : (s : Sig) → l ≡ length (body s) → tag s ≡ 4 → 4 ≤ l
    go star z e = absurd (omega (arith, e))
    go (left_of s) z e = absurd (omega (arith, e))
    go (right_of s) z e = absurd (omega (arith, e))
    go (pair_of s u) z e = absurd (omega (arith, e))
    go (again s u) z e =
        let p = length_again s u in let x = body_long s in let y = body_long u in omega (arith, p, x, y, z)

-- the words of a stack with a `y` on top, part by part
pub again_words : (s u : Sig) (t : Boxes) (m : Work) (ws : List ℕ) (b : ℕ) → Lies ws b m (again s u ∷ t) →
    ws ≡ (box_words t ++ body s) ++ (body u ++ length (body u) ∷ 4 ∷ length (body (again s u)) ∷ work_words m)
again_words s u t m ws b l =
    let p : List ℕ = box_words t in
    let c : List ℕ = body u in
    let z : ℕ = length (body (again s u)) in
    box_topped (again s u) t m ws b l
    ∙ append_assoc p (body s ++ (c ++ length c ∷ 4 ∷ [])) (z ∷ work_words m)
    ∙ ap (λ (y : List ℕ). p ++ y) (append_assoc (body s) (c ++ length c ∷ 4 ∷ []) (z ∷ work_words m)
    ∙ ap (λ (y : List ℕ). body s ++ y) (append_assoc c (length c ∷ 4 ∷ []) (z ∷ work_words m)))
    ∙ sym (append_assoc p (body s) (c ++ length c ∷ 4 ∷ z ∷ work_words m))

-- the size of the second part stands before the mark of the `y`
again_second : (s u : Sig) (t : Boxes) (m : Work) (ws : List ℕ) (b k : ℕ) → Lies ws b m (again s u ∷ t) → k ≡ get_or ws (b - 3) k →
    k ≡ length (body u)
again_second s u t m ws b k lie read =
    let f : List ℕ = (box_words t ++ body s) ++ body u in
    let g : List ℕ = 4 ∷ length (body (again s u)) ∷ work_words m in
    let e : ws ≡ f ++ length (body u) ∷ g =
    again_words s u t m ws b lie ∙ sym (append_assoc (box_words t ++ body s) (body u) (length (body u) ∷ g)) in
    let i = length-append (box_words t ++ body s) (body u) in
    let j = length-append (box_words t) (body s) in
    let p = length_again s u in
    let q = box_long (again s u) t in
    let h = lie.ends in
    word_at f (length (body u)) g ws (b - 3) k e (omega (arith, i, j, p, q, h)) read

-- what is known of the parts of a `y` by their sizes
pub record AgainAt (ws : List ℕ) (b l k : ℕ) : Type 0 where
  pub y : HasAgain ws b (l - 2 - k) k
  pub less : k ≤ l - 2
  pub fits : l - 2 - k + k + 3 ≤ b

-- so a `y` is found by its mark, and its parts by their sizes
pub again_at : (ws : List ℕ) (b l a k : ℕ) → (h : HasBox ws b l) → a ≡ get_or ws (b - 2) a → a ≡ 4 → k ≡ get_or ws (b - 3) k →
    AgainAt ws b l k
again_at ws b l a k h read found second = go h.sig h.sized h.lies (sym (box_tag h.sig h.rest h.work ws b a h.lies read) ∙ found)
  where
    go : (s : Sig) → l ≡ length (body s) → Lies ws b h.work (s ∷ h.rest) → tag s ≡ 4 → AgainAt ws b l k
    go star z lie e = absurd (omega (arith, e))
    go (left_of s) z lie e = absurd (omega (arith, e))
    go (right_of s) z lie e = absurd (omega (arith, e))
    go (pair_of s u) z lie e = absurd (omega (arith, e))
    go (again s u) z lie e =
        let p = length_again s u in
        let w = again_second s u h.rest h.work ws b k lie second in
        let i = box_length ws b l h in
        record {
          y = record {
            one = s;
            two = u;
            rest = h.rest;
            work = h.work;
            first_sized = omega (arith, p, w, z);
            second_sized = w;
            lies = lie;
          };
          less = omega (arith, p, w, z);
          fits = omega (arith, p, w, z, i);
        }

-- without the mark of a `y` there is none
pub other_again : (ws : List ℕ) (b l a : ℕ) → HasBox ws b l → a ≡ get_or ws (b - 2) a → (a ≡ 4 → ⊥) →
    box_again (boxes_of (take b ws)) ≡ None
other_again ws b l a h read other =
    ap (λ (z : Load). box_again z.boxes) (reads h.work (h.sig ∷ h.rest) ws b h.lies) ∙ go h.sig
    (λ e. other (box_tag h.sig h.rest h.work ws b a h.lies read ∙ e))
  where
    go : (s : Sig) → (tag s ≡ 4 → ⊥) → box_again (s ∷ h.rest) ≡ None
    go star e = refl
    go (left_of s) e = refl
    go (right_of s) e = refl
    go (pair_of s u) e = refl
    go (again s u) e = absurd (e refl)

pub no_again : (t : Boxes) → box_sig t ≡ None → box_again t ≡ None
no_again [] e = refl
no_again (s ∷ t) e = cc
