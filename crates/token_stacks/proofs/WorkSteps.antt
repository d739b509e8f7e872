-- Each call on the work stack alone: its words afterwards are those of the row's stack, or its tests say that the row wants another shape.
use Rattle.std.proofs.Common.{◌≡◌, ℕ, ◌+◌, ◌-◌, ◌<◌, ◌≤◌, ◌⊎◌, inl, inr, List, [], ◌∷◌, ◌++◌}
use Rattle.std.proofs.Common.{length, get_or, set, take, refl, sym}
use Rattle.std.proofs.Common.{◌∙◌, ap, subst, arith, length-append, Option, None}
use Rattle.std.proofs.lemmas.List.{append_assoc}
use Rattle.token_stacks.specs.Signatures.{Sig, star, left_of, right_of, pair_of, again, Sym, R, L, S, Work, Boxes}
use Rattle.token_stacks.specs.Loads.{Load}
use Rattle.token_stacks.specs.Words.{body, box_words}
use Rattle.token_stacks.specs.WorkWords.{symbol, work_words}
use Rattle.token_stacks.specs.Reading.{load_of}
use Rattle.token_stacks.specs.Rows.{star_popped, into_argument, out_of_argument}
use Rattle.token_stacks.specs.Tops.{Lies, HasTop, top_sig, symbol_popped, wrapped, unwrapped, marked}
use Rattle.token_stacks.proofs.Ends.{tag, star_short, word_at, one_on, length_on, set_after, take_after, length_both}
use Rattle.token_stacks.proofs.Laid.{Turns, topped, popped, pushed, long_work, work_long}
use Rattle.token_stacks.proofs.Shapes.{sym_stem, sym_tag, symbol_ends, last_word, sig_length, tag_words, tag_word, top_length}
use Rattle.token_stacks.proofs.BothSteps.{shaped}

-- ---- `R` and `L`

-- the last word is that of the symbol, and goes
pub pops_symbol : (w : ℕ) (m : Work) (t : Boxes) (ws vs : List ℕ) (b n a : ℕ) → (lie : Lies ws b m t) → (marks : (w ≡ 5) ⊎ (w ≡ 6))
    → (long : n ≡ length ws) → (some : (n ≡ b → ⊥)) → (read : a ≡ get_or ws (n - 1) a) → (found : a ≡ w) → (cut : vs ≡ take (n - 1) ws)
    → Turns (symbol_popped w m t) vs b
pops_symbol w [] t ws vs b n a lie marks long some read found cut =
    absurd (some (let l = long_work [] t ws b lie in omega (arith, l, long)))
pops_symbol w (R ∷ m) t ws vs b n a lie marks long some read found cut =
    let l = long_work (R ∷ m) t ws b lie in
    let y = work_long R m in
    let w5 : 5 ≡ w = sym (last_word (box_words t ++ work_words m) R ws n a (topped R m t ws b lie) long read) ∙ found in
    let P : ℕ → Type 0 = λ x. Turns (symbol_popped x (R ∷ m) t) vs b in
    subst P w5 (record { work = m; boxes = t; is = refl; lies = popped R m t ws vs b (n - 1) lie (omega (arith, l, y, long)) cut })
pops_symbol w (L ∷ m) t ws vs b n a lie marks long some read found cut =
    let l = long_work (L ∷ m) t ws b lie in
    let y = work_long L m in
    let w6 : 6 ≡ w = sym (last_word (box_words t ++ work_words m) L ws n a (topped L m t ws b lie) long read) ∙ found in
    let P : ℕ → Type 0 = λ x. Turns (symbol_popped x (L ∷ m) t) vs b in
    subst P w6 (record { work = m; boxes = t; is = refl; lies = popped L m t ws vs b (n - 1) lie (omega (arith, l, y, long)) cut })
pops_symbol w (S s ∷ m) t ws vs b n a lie marks long some read found cut =
    absurd (let q = last_word (box_words t ++ work_words m) (S s) ws n a (topped (S s) m t ws b lie) long read in
    elim marks [ inl x ↦ omega (arith, q, x, found) | inr x ↦ omega (arith, q, x, found) ])

pub no_symbol_empty : (w : ℕ) (m : Work) (t : Boxes) (ws : List ℕ) (b n : ℕ) → Lies ws b m t → n ≡ length ws → n ≡ b
    → symbol_popped w m t ≡ None
no_symbol_empty w [] t ws b n l h e = refl
no_symbol_empty w (x ∷ m) t ws b n l h e =
    absurd (let k = long_work (x ∷ m) t ws b l in let y = work_long x m in omega (arith, k, y, h, e))

-- another last word is no such symbol
pub no_symbol_other : (w : ℕ) (m : Work) (t : Boxes) (ws : List ℕ) (b n a : ℕ) → (w ≡ 5) ⊎ (w ≡ 6) → Lies ws b m t → n ≡ length ws →
    a ≡ get_or ws (n - 1) a → (a ≡ w → ⊥) → symbol_popped w m t ≡ None
no_symbol_other w [] t ws b n a marks lie long read other = refl
no_symbol_other w (R ∷ m) t ws b n a marks lie long read other =
    let q = last_word (box_words t ++ work_words m) R ws n a (topped R m t ws b lie) long read in
    let P : ℕ → Type 0 = λ x. symbol_popped x (R ∷ m) t ≡ None in
    elim marks [ inl x ↦ absurd (other (q ∙ sym x)) | inr x ↦ subst P (sym x) refl ]
no_symbol_other w (L ∷ m) t ws b n a marks lie long read other =
    let q = last_word (box_words t ++ work_words m) L ws n a (topped L m t ws b lie) long read in
    let P : ℕ → Type 0 = λ x. symbol_popped x (L ∷ m) t ≡ None in
    elim marks [ inl x ↦ subst P (sym x) refl | inr x ↦ absurd (other (q ∙ sym x)) ]
no_symbol_other w (S s ∷ m) t ws b n a marks lie long read other = refl

-- ---- `L` over a signature

-- the last word but one is the last of what stands under the top
under : (x y : Sym) (m : Work) (t : Boxes) (ws : List ℕ) (b n a : ℕ) → length (symbol x) ≡ 1 → Lies ws b (x ∷ y ∷ m) t → n ≡ length ws →
    a ≡ get_or ws (n - 2) a → a ≡ sym_tag y
under x y m t ws b n a one lie long read =
    let p : List ℕ = box_words t ++ work_words m in
    let e : ws ≡ (p ++ sym_stem y) ++ sym_tag y ∷ symbol x =
    topped x (y ∷ m) t ws b lie
    ∙ ap (λ (z : List ℕ). z ++ symbol x) (sym (append_assoc (box_words t) (work_words m) (symbol y))
    ∙ ap (λ (z : List ℕ). p ++ z) (symbol_ends y) ∙ sym (append_assoc p (sym_stem y) (sym_tag y ∷ [])))
    ∙ append_assoc (p ++ sym_stem y) (sym_tag y ∷ []) (symbol x) in
    let k = length_both (p ++ sym_stem y) (sym_tag y ∷ symbol x) ws e in
    word_at (p ++ sym_stem y) (sym_tag y) (symbol x) ws (n - 2) a e (omega (arith, k, long, one)) read

-- the last words are that of `L` and a signature's mark, and the last goes
pub pops_argument : (m : Work) (t : Boxes) (ws vs : List ℕ) (b n a c : ℕ) → (lie : Lies ws b m t) → (long : n ≡ length ws)
    → (enough : 2 ≤ n - b) → (read : a ≡ get_or ws (n - 1) a) → (found : a ≡ 6) → (below : c ≡ get_or ws (n - 2) c) → (found_below : c ≡ 7)
    → (cut : vs ≡ take (n - 1) ws) → Turns (into_argument m t) vs b
pops_argument [] t ws vs b n a c lie long enough read found below found_below cut =
    absurd (let l = long_work [] t ws b lie in omega (arith, l, long, enough))
pops_argument (R ∷ m) t ws vs b n a c lie long enough read found below found_below cut =
    absurd (let q = last_word (box_words t ++ work_words m) R ws n a (topped R m t ws b lie) long read in omega (arith, q, found))
pops_argument (S s ∷ m) t ws vs b n a c lie long enough read found below found_below cut =
    absurd (let q = last_word (box_words t ++ work_words m) (S s) ws n a (topped (S s) m t ws b lie) long read in omega (arith, q, found))
pops_argument (L ∷ []) t ws vs b n a c lie long enough read found below found_below cut =
    absurd (let l = long_work (L ∷ []) t ws b lie in omega (arith, l, long, enough))
pops_argument (L ∷ R ∷ m) t ws vs b n a c lie long enough read found below found_below cut =
    absurd (let q = under L R m t ws b n c refl lie long below in omega (arith, q, found_below))
pops_argument (L ∷ L ∷ m) t ws vs b n a c lie long enough read found below found_below cut =
    absurd (let q = under L L m t ws b n c refl lie long below in omega (arith, q, found_below))
pops_argument (L ∷ S s ∷ m) t ws vs b n a c lie long enough read found below found_below cut =
    let l = long_work (L ∷ S s ∷ m) t ws b lie in
    let y = work_long L (S s ∷ m) in
    record { work = S s ∷ m; boxes = t; is = refl; lies = popped L (S s ∷ m) t ws vs b (n - 1) lie (omega (arith, l, y, long)) cut }

-- one word is no `L` over a signature
pub no_argument_one : (m : Work) (t : Boxes) (ws : List ℕ) (b n : ℕ) → Lies ws b m t → n ≡ length ws → n - b < 2 → into_argument m t ≡ None
no_argument_one [] t ws b n l h p = refl
no_argument_one (R ∷ m) t ws b n l h p = refl
no_argument_one (S s ∷ m) t ws b n l h p = refl
no_argument_one (L ∷ []) t ws b n l h p = refl
no_argument_one (L ∷ R ∷ m) t ws b n l h p = refl
no_argument_one (L ∷ L ∷ m) t ws b n l h p = refl
no_argument_one (L ∷ S s ∷ m) t ws b n l h p =
    absurd (let k = long_work (L ∷ S s ∷ m) t ws b l in
    let y = work_long (S s) m in
    let z = length-append (work_words (S s ∷ m)) (6 ∷ []) in omega (arith, k, y, z, h, p))

pub no_argument_top : (m : Work) (t : Boxes) (ws : List ℕ) (b n a : ℕ) → Lies ws b m t → n ≡ length ws → a ≡ get_or ws (n - 1) a →
    (a ≡ 6 → ⊥) → into_argument m t ≡ None
no_argument_top [] t ws b n a l h r p = refl
no_argument_top (R ∷ m) t ws b n a l h r p = refl
no_argument_top (S s ∷ m) t ws b n a l h r p = refl
no_argument_top (L ∷ m) t ws b n a l h r p = absurd (p (last_word (box_words t ++ work_words m) L ws n a (topped L m t ws b l) h r))

pub no_argument_under : (m : Work) (t : Boxes) (ws : List ℕ) (b n c : ℕ) → Lies ws b m t → n ≡ length ws → c ≡ get_or ws (n - 2) c →
    (c ≡ 7 → ⊥) → into_argument m t ≡ None
no_argument_under [] t ws b n c l h r p = refl
no_argument_under (R ∷ m) t ws b n c l h r p = refl
no_argument_under (S s ∷ m) t ws b n c l h r p = refl
no_argument_under (L ∷ []) t ws b n c l h r p = refl
no_argument_under (L ∷ R ∷ m) t ws b n c l h r p = refl
no_argument_under (L ∷ L ∷ m) t ws b n c l h r p = refl
no_argument_under (L ∷ S s ∷ m) t ws b n c l h r p = absurd (p (under L (S s) m t ws b n c refl l h r))

pub pushes_argument : (a : Load) (ws vs : List ℕ) (b k : ℕ) → (seen : load_of ws b ≡ a) → (h : HasTop ws b k) → (added : vs ≡ ws ++ 6 ∷ [])
    → Turns (out_of_argument a.work a.boxes) vs b
pushes_argument a ws vs b k seen h added = record {
  work = L ∷ S h.sig ∷ h.rest;
  boxes = h.boxes;
  is = shaped out_of_argument a ws b (S h.sig ∷ h.rest) h.boxes seen h.lies;
  lies = pushed L (S h.sig ∷ h.rest) h.boxes ws vs b h.lies added;
}

pub no_out_of_argument : (m : Work) (t : Boxes) → top_sig m ≡ None → out_of_argument m t ≡ None
no_out_of_argument [] t e = refl
no_out_of_argument (R ∷ m) t e = refl
no_out_of_argument (L ∷ m) t e = refl
no_out_of_argument (S s ∷ m) t e = cc

-- ---- a `*`

-- a signature whose body has one word is a `*`, and its three words go
pub pops_star : (a : Load) (ws vs : List ℕ) (b n k : ℕ) → (seen : load_of ws b ≡ a) → (h : HasTop ws b k) → (one : k ≡ 1)
    → (long : n ≡ length ws)
    → (cut : vs ≡ take (n - 3) ws) → Turns (star_popped a.work a.boxes) vs b
pops_star a ws vs b n k seen h one long cut =
    let starred : h.sig ≡ star = star_short h.sig (sym h.sized ∙ one) in
    let l = top_length ws b k h in
    let y = long_work (S h.sig ∷ h.rest) h.boxes ws b h.lies in
    let z = length-append (work_words h.rest) (symbol (S h.sig)) in
    record {
      work = h.rest;
      boxes = h.boxes;
      is = shaped star_popped a ws b (S h.sig ∷ h.rest) h.boxes seen h.lies
          ∙ ap (λ (x : Sig). star_popped (S x ∷ h.rest) h.boxes) starred;
      lies = popped (S h.sig) h.rest h.boxes ws vs b (n - 3) h.lies (omega (arith, l, y, z, one, long)) cut;
    }

pub no_star : (m : Work) (t : Boxes) → top_sig m ≡ None → star_popped m t ≡ None
no_star [] t e = refl
no_star (R ∷ m) t e = refl
no_star (L ∷ m) t e = refl
no_star (S s ∷ m) t e = cc

pub other_star : (a : Load) (ws : List ℕ) (b k : ℕ) → (seen : load_of ws b ≡ a) → (h : HasTop ws b k) → (k ≡ 1 → ⊥) →
    star_popped a.work a.boxes ≡ None
other_star a ws b k seen h other = shaped star_popped a ws b (S h.sig ∷ h.rest) h.boxes seen h.lies ∙ go h.sig h.sized
  where
    go : (s : Sig) → k ≡ length (body s) → star_popped (S s ∷ h.rest) h.boxes ≡ None
    go star z = absurd (other z)
    go (left_of s) z = refl
    go (right_of s) z = refl
    go (pair_of s u) z = refl
    go (again s u) z = refl

-- ---- marks

marked_body : (w : ℕ) → (w ≡ 1) ⊎ (w ≡ 2) → (s : Sig) → body (marked w s) ≡ body s ++ w ∷ []
marked_body w c s =
    let P : ℕ → Type 0 = λ x. body (marked x s) ≡ body s ++ x ∷ [] in
    elim c [ inl e ↦ subst P (sym e) refl | inr e ↦ subst P (sym e) refl ]

-- a signature that was put together on top
sig_made : (p : List ℕ) (s : Sig) (c : List ℕ) (j : ℕ) → body s ≡ c → j ≡ length c → (p ++ c) ++ j ∷ 7 ∷ [] ≡ p ++ symbol (S s)
sig_made p s c j e h =
    ap (λ (z : ℕ). (p ++ c) ++ z ∷ 7 ∷ []) h
    ∙ ap (λ (z : List ℕ). (p ++ z) ++ length z ∷ 7 ∷ []) (sym e)
    ∙ append_assoc p (body s) (length (body s) ∷ 7 ∷ [])

made_lies : (x : Sym) (m : Work) (t : Boxes) (ws vs : List ℕ) (b : ℕ) (y : Sym) → Lies ws b (y ∷ m) t →
    vs ≡ (box_words t ++ work_words m) ++ symbol x → Lies vs b (x ∷ m) t
made_lies x m t ws vs b y l e = record { words = e ∙ append_assoc (box_words t) (work_words m) (symbol x); ends = l.ends }

-- the mark goes over the size of the signature, the size over the old end, and the end is the new word
pub wraps : (w : ℕ) (a : Load) (ws us vs : List ℕ) (b n k : ℕ) → (seen : load_of ws b ≡ a) → (h : HasTop ws b k)
    → (marks : (w ≡ 1) ⊎ (w ≡ 2))
    → (long : n ≡ length ws) → (added : us ≡ ws ++ 7 ∷ []) → (written : vs ≡ set (set us (n - 2) w) (n - 1) (k + 1))
    → Turns (wrapped w a.work a.boxes) vs b
wraps w a ws us vs b n k seen h marks long added written =
    let s : Sig = h.sig in
    let p : List ℕ = box_words h.boxes ++ work_words h.rest in
    let F : List ℕ = p ++ body s in
    let e = topped (S s) h.rest h.boxes ws b h.lies in
    let le : length F ≡ length p + length (body s) = length-append p (body s) in
    let lw = sig_length s p ws e in
    let z = h.sized in
    let added' : us ≡ F ++ length (body s) ∷ 7 ∷ 7 ∷ [] =
    added ∙ ap (λ (x : List ℕ). x ++ 7 ∷ []) (e ∙ sym (append_assoc p (body s) (length (body s) ∷ 7 ∷ [])))
    ∙ append_assoc F (length (body s) ∷ 7 ∷ []) (7 ∷ []) in
    let one : set us (n - 2) w ≡ (F ++ w ∷ []) ++ 7 ∷ 7 ∷ [] =
    set_after F (length (body s)) (7 ∷ 7 ∷ []) us (n - 2) w added' (omega (arith, le, lw, long)) ∙ one_on F w (7 ∷ 7 ∷ []) in
    let lFw = length_on F w in
    let two : set (set us (n - 2) w) (n - 1) (k + 1) ≡ (F ++ w ∷ []) ++ (k + 1) ∷ 7 ∷ [] =
    set_after (F ++ w ∷ []) 7 (7 ∷ []) (set us (n - 2) w) (n - 1) (k + 1) one (omega (arith, le, lw, lFw, long)) in
    let lb = length_on (body s) w in
    record {
      work = S (marked w s) ∷ h.rest;
      boxes = h.boxes;
      is = shaped (wrapped w) a ws b (S s ∷ h.rest) h.boxes seen h.lies;
      lies = made_lies (S (marked w s)) h.rest h.boxes ws vs b (S s) h.lies
          (written ∙ two ∙ ap (λ (x : List ℕ). x ++ (k + 1) ∷ 7 ∷ []) (append_assoc p (body s) (w ∷ []))
          ∙ sig_made p (marked w s) (body s ++ w ∷ []) (k + 1) (marked_body w marks s) (omega (arith, lb, z)));
    }

pub no_wrap : (w : ℕ) (m : Work) (t : Boxes) → top_sig m ≡ None → wrapped w m t ≡ None
no_wrap w [] t e = refl
no_wrap w (R ∷ m) t e = refl
no_wrap w (L ∷ m) t e = refl
no_wrap w (S s ∷ m) t e = cc

-- one word fewer at the end
lowers : (g : List ℕ) (x k j : ℕ) (ws vs : List ℕ) (n : ℕ) → ws ≡ g ++ x ∷ k ∷ 7 ∷ [] → n ≡ length ws
    → vs ≡ take (n - 1) (set (set ws (n - 3) j) (n - 2) 7)
    → vs ≡ g ++ j ∷ 7 ∷ []
lowers g x k j ws vs n are long cut =
    let len : n ≡ length g + 3 = long ∙ length_both g (x ∷ k ∷ 7 ∷ []) ws are in
    let one : set ws (n - 3) j ≡ (g ++ j ∷ []) ++ k ∷ 7 ∷ [] =
    set_after g x (k ∷ 7 ∷ []) ws (n - 3) j are (omega arith) ∙ one_on g j (k ∷ 7 ∷ []) in
    let two : set (set ws (n - 3) j) (n - 2) 7 ≡ ((g ++ j ∷ []) ++ 7 ∷ []) ++ 7 ∷ [] =
    set_after (g ++ j ∷ []) k (7 ∷ []) (set ws (n - 3) j) (n - 2) 7 one (omega (arith, length_on g j)) ∙
    one_on (g ++ j ∷ []) 7 (7 ∷ []) in
    cut ∙ take_after ((g ++ j ∷ []) ++ 7 ∷ []) (7 ∷ []) (set (set ws (n - 3) j) (n - 2) 7) (n - 1) two
    (omega (arith, length_on g j, length_on (g ++ j ∷ []) 7))
    ∙ sym (one_on g j (7 ∷ []))

-- the mark before the size is the one that was asked for, so the signature is one so marked, and its size goes over the mark
unwraps_at : (w : ℕ) (s : Sig) (r : Work) (t : Boxes) (ws vs : List ℕ) (b n k a : ℕ) → (lie : Lies ws b (S s ∷ r) t)
    → (sized : k ≡ length (body s))
    → (marks : (w ≡ 1) ⊎ (w ≡ 2)) → (long : n ≡ length ws) → (is : tag s ≡ w)
    → (cut : vs ≡ take (n - 1) (set (set ws (n - 3) (k - 1)) (n - 2) 7)) → Turns (unwrapped w (S s ∷ r) t) vs b
unwraps_at w star r t ws vs b n k a lie sized marks long is cut =
    absurd (elim marks [ inl x ↦ omega (arith, is, x) | inr x ↦ omega (arith, is, x) ])
unwraps_at w (left_of s) r t ws vs b n k a lie sized marks long is cut =
    let p : List ℕ = box_words t ++ work_words r in
    let l = length_on (body s) 1 in
    let P : ℕ → Type 0 = λ x. Turns (unwrapped x (S (left_of s) ∷ r) t) vs b in
    subst P is (record {
      work = S s ∷ r;
      boxes = t;
      is = refl;
      lies = made_lies (S s) r t ws vs b (S (left_of s)) lie
          (lowers (p ++ body s) 1 (length (body s ++ 1 ∷ [])) (k - 1) ws vs n (tag_words (left_of s) p ws (topped (S (left_of s)) r t
          ws b lie))
          long cut ∙ sig_made p s (body s) (k - 1) refl (omega (arith, l, sized)));
    })
unwraps_at w (right_of s) r t ws vs b n k a lie sized marks long is cut =
    let p : List ℕ = box_words t ++ work_words r in
    let l = length_on (body s) 2 in
    let P : ℕ → Type 0 = λ x. Turns (unwrapped x (S (right_of s) ∷ r) t) vs b in
    subst P is (record {
      work = S s ∷ r;
      boxes = t;
      is = refl;
      lies = made_lies (S s) r t ws vs b (S (right_of s)) lie
          (lowers (p ++ body s) 2 (length (body s ++ 2 ∷ [])) (k - 1) ws vs n (tag_words (right_of s) p ws (topped (S (right_of s)) r t
          ws b lie))
          long cut ∙ sig_made p s (body s) (k - 1) refl (omega (arith, l, sized)));
    })
unwraps_at w (pair_of s u) r t ws vs b n k a lie sized marks long is cut =
    absurd (elim marks [ inl x ↦ omega (arith, is, x) | inr x ↦ omega (arith, is, x) ])
unwraps_at w (again s u) r t ws vs b n k a lie sized marks long is cut =
    absurd (elim marks [ inl x ↦ omega (arith, is, x) | inr x ↦ omega (arith, is, x) ])

mark_of : (ws : List ℕ) (b n k a : ℕ) → (h : HasTop ws b k) → n ≡ length ws → a ≡ get_or ws (n - 3) a → a ≡ tag h.sig
mark_of ws b n k a h long read =
    tag_word h.sig (box_words h.boxes ++ work_words h.rest) ws n a (topped (S h.sig) h.rest h.boxes ws b h.lies) long read

pub unwraps : (w : ℕ) (a : Load) (ws vs : List ℕ) (b n k c : ℕ) → (seen : load_of ws b ≡ a) → (h : HasTop ws b k)
    → (marks : (w ≡ 1) ⊎ (w ≡ 2))
    → (long : n ≡ length ws) → (read : c ≡ get_or ws (n - 3) c) → (found : c ≡ w)
    → (cut : vs ≡ take (n - 1) (set (set ws (n - 3) (k - 1)) (n - 2) 7)) → Turns (unwrapped w a.work a.boxes) vs b
unwraps w a ws vs b n k c seen h marks long read found cut =
    let P : Option Load → Type 0 = λ x. Turns x vs b in
    subst P (sym (shaped (unwrapped w) a ws b (S h.sig ∷ h.rest) h.boxes seen h.lies))
    (unwraps_at w h.sig h.rest h.boxes ws vs b n k c h.lies h.sized marks long (sym (mark_of ws b n k c h long read) ∙ found) cut)

pub no_unwrap : (w : ℕ) (m : Work) (t : Boxes) → top_sig m ≡ None → unwrapped w m t ≡ None
no_unwrap w [] t e = refl
no_unwrap w (R ∷ m) t e = refl
no_unwrap w (L ∷ m) t e = refl
no_unwrap w (S s ∷ m) t e = cc

-- without the mark there is nothing to unwrap
pub other_unwrap : (w : ℕ) (a : Load) (ws : List ℕ) (b n k c : ℕ) → (seen : load_of ws b ≡ a) → (h : HasTop ws b k)
    → (marks : (w ≡ 1) ⊎ (w ≡ 2))
    → (long : n ≡ length ws) → (read : c ≡ get_or ws (n - 3) c) → (other : (c ≡ w → ⊥)) → unwrapped w a.work a.boxes ≡ None
other_unwrap w a ws b n k c seen h marks long read other =
    shaped (unwrapped w) a ws b (S h.sig ∷ h.rest) h.boxes seen h.lies ∙ go h.sig (λ e. other (mark_of ws b n k c h long read ∙ e))
  where
    go : (s : Sig) → (tag s ≡ w → ⊥) → unwrapped w (S s ∷ h.rest) h.boxes ≡ None
    go star e = refl
    go (left_of s) e =
        let P : ℕ → Type 0 = λ x. unwrapped x (S (left_of s) ∷ h.rest) h.boxes ≡ None in
        elim marks [ inl x ↦ absurd (e (sym x)) | inr x ↦ subst P (sym x) refl ]
    go (right_of s) e =
        let P : ℕ → Type 0 = λ x. unwrapped x (S (right_of s) ∷ h.rest) h.boxes ≡ None in
        elim marks [ inl x ↦ subst P (sym x) refl | inr x ↦ absurd (e (sym x)) ]
    go (pair_of s u) e = refl
    go (again s u) e = refl
