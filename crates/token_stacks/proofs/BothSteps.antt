-- Each call that changes both stacks: the words afterwards, part by part, are those of the row's stacks.
--
-- In each, `turn` has changed places of parts, and some words were written. The parts are named as in the rows: T and M are what stays
-- of the box stack and of the work stack.
use Rattle.std.proofs.Common.{◌≡◌, ℕ, ◌+◌, ◌-◌, List, [], ◌∷◌, ◌++◌}
use Rattle.std.proofs.Common.{length, set, take, drop, refl, sym}
use Rattle.std.proofs.Common.{◌∙◌, ap, arith, length-append, Option, None}
use Rattle.std.proofs.lemmas.List.{append_assoc, append-nil}
use Rattle.token_stacks.specs.Signatures.{Sig, star, left_of, right_of, pair_of, again, R, L, S, Work, Boxes}
use Rattle.token_stacks.specs.Loads.{Load}
use Rattle.token_stacks.specs.Words.{body, entry, box_words}
use Rattle.token_stacks.specs.WorkWords.{work_words}
use Rattle.token_stacks.specs.Reading.{work_of, boxes_of, load_of}
use Rattle.token_stacks.specs.Rows.{into_box, out_of_box, out_of_door, into_door, out_of_fix, into_again, out_of_again}
use Rattle.token_stacks.specs.Parts.{Swaps, Writes}
use Rattle.token_stacks.specs.Tops.{Lies, HasTop, HasBox, HasPair, HasAgain, top_sig, box_sig, top_pair, box_again}
use Rattle.token_stacks.proofs.Ends.{star_short, length_pair, length_again, one_on, length_on, set_after, take_after, length_both}
use Rattle.token_stacks.proofs.Laid.{Turns, reads, same_lies, box_long}
use Rattle.token_stacks.proofs.Shapes.{top_length, box_length, again_words}

-- a row at stacks that are known
pub shaped : (row : Work → Boxes → Option Load) (a : Load) (ws : List ℕ) (b : ℕ) (m : Work) (t : Boxes) → load_of ws b ≡ a → Lies ws b m t →
    row a.work a.boxes ≡ row m t
shaped row a ws b m t v l = ap (λ (z : Load). row z.work z.boxes) (sym v ∙ reads m t ws b l)

-- a row whose shape is missing in the words
pub absent : (row : Work → Boxes → Option Load) (a : Load) (ws : List ℕ) (b : ℕ) → load_of ws b ≡ a →
    row (work_of (drop b ws)) (boxes_of (take b ws)) ≡ None → row a.work a.boxes ≡ None
absent row a ws b v e = ap (λ (z : Load). row z.work z.boxes) (sym v) ∙ e

pub no_into_box : (m : Work) (t : Boxes) → top_sig m ≡ None → into_box m t ≡ None
no_into_box [] t e = refl
no_into_box (R ∷ m) t e = refl
no_into_box (L ∷ m) t e = refl
no_into_box (S s ∷ m) t e = cc

pub no_out_of_box : (m : Work) (t : Boxes) → box_sig t ≡ None → out_of_box m t ≡ None
no_out_of_box m [] e = refl
no_out_of_box m (s ∷ t) e = cc

pub no_out_of_door_work : (m : Work) (t : Boxes) → top_sig m ≡ None → out_of_door m t ≡ None
no_out_of_door_work [] t e = refl
no_out_of_door_work (R ∷ m) t e = refl
no_out_of_door_work (L ∷ m) t e = refl
no_out_of_door_work (S s ∷ m) t e = cc

pub no_out_of_door_boxes : (m : Work) (t : Boxes) → box_sig t ≡ None → out_of_door m t ≡ None
no_out_of_door_boxes [] [] e = refl
no_out_of_door_boxes (R ∷ m) [] e = refl
no_out_of_door_boxes (L ∷ m) [] e = refl
no_out_of_door_boxes (S s ∷ m) [] e = refl
no_out_of_door_boxes m (s ∷ t) e = cc

pub no_into_door : (m : Work) (t : Boxes) → top_pair m ≡ None → into_door m t ≡ None
no_into_door [] t e = refl
no_into_door (R ∷ m) t e = refl
no_into_door (L ∷ m) t e = refl
no_into_door (S star ∷ m) t e = refl
no_into_door (S (left_of s) ∷ m) t e = refl
no_into_door (S (right_of s) ∷ m) t e = refl
no_into_door (S (pair_of s u) ∷ m) t e = cc
no_into_door (S (again s u) ∷ m) t e = refl

pub no_into_again_work : (m : Work) (t : Boxes) → top_sig m ≡ None → into_again m t ≡ None
no_into_again_work [] t e = refl
no_into_again_work (R ∷ m) t e = refl
no_into_again_work (L ∷ m) t e = refl
no_into_again_work (S s ∷ m) t e = cc

pub no_into_again_boxes : (m : Work) (t : Boxes) → box_sig t ≡ None → into_again m t ≡ None
no_into_again_boxes [] [] e = refl
no_into_again_boxes (R ∷ m) [] e = refl
no_into_again_boxes (L ∷ m) [] e = refl
no_into_again_boxes (S s ∷ m) [] e = refl
no_into_again_boxes m (s ∷ t) e = cc

pub no_out_of_again : (m : Work) (t : Boxes) → box_again t ≡ None → out_of_again m t ≡ None
no_out_of_again m [] e = refl
no_out_of_again m (star ∷ t) e = refl
no_out_of_again m (left_of s ∷ t) e = refl
no_out_of_again m (right_of s ∷ t) e = refl
no_out_of_again m (pair_of s u ∷ t) e = refl
no_out_of_again m (again u s ∷ t) e = cc

pub no_out_of_fix : (m : Work) (t : Boxes) → box_sig t ≡ None → out_of_fix m t ≡ None
no_out_of_fix m [] e = refl
no_out_of_fix m (s ∷ t) e = cc

-- parts that change places where nothing stands behind them
pub turned_last : (us vs a b c : List ℕ) (from middle end : ℕ) → Swaps us vs from middle end → us ≡ a ++ (b ++ c) → length a ≡ from →
    length a + length b ≡ middle → length a + length b + length c ≡ end → vs ≡ a ++ (c ++ b)
turned_last us vs a b c from middle end s e p q r =
    s.parts a b c [] (e ∙ ap (λ (z : List ℕ). a ++ (b ++ z)) (sym (append-nil c))) p q r
    ∙ ap (λ (z : List ℕ). a ++ (c ++ z)) (append-nil b)

-- a signature on top of each stack
pub both_lie : (ws : List ℕ) (b k j : ℕ) → (h : HasTop ws b k) → (g : HasBox ws b j) → Lies ws b (S h.sig ∷ h.rest) (g.sig ∷ g.rest)
both_lie ws b k j h g =
    let e : h.boxes ≡ g.sig ∷ g.rest =
    ap (λ (z : Load). z.boxes) (same_lies (S h.sig ∷ h.rest) g.work h.boxes (g.sig ∷ g.rest) ws b h.lies g.lies) in
    record {
      words = h.lies.words ∙ ap (λ (z : Boxes). box_words z ++ work_words (S h.sig ∷ h.rest)) e;
      ends = g.lies.ends;
    }

-- into a box: the closing word goes, and the signature comes below M
pub boxes_in : (a : Load) (ws us vs : List ℕ) (b n k : ℕ) → (seen : load_of ws b ≡ a) → (h : HasTop ws b k) → (long : n ≡ length ws)
    → (cut : us ≡ take (n - 1) ws) → (turned : Swaps us vs b (n - 2 - k) (n - 1)) → Turns (into_box a.work a.boxes) vs (b + (k + 1))
boxes_in a ws us vs b n k seen h long cut turned =
    let T : List ℕ = box_words h.boxes in
    let M : List ℕ = work_words h.rest in
    let B : List ℕ = body h.sig in
    let E : List ℕ = entry h.sig in
    let all = top_length ws b k h in
    let lE : length E ≡ length B + 1 = length-append B (length B ∷ []) in
    let lT = h.lies.ends in
    let size = h.sized in
    let open_is : ws ≡ (T ++ (M ++ E)) ++ 7 ∷ [] =
    h.lies.words ∙ ap (λ (z : List ℕ). T ++ (M ++ z)) (sym (append_assoc B (length B ∷ []) (7 ∷ [])))
    ∙ ap (λ (z : List ℕ). T ++ z) (sym (append_assoc M E (7 ∷ []))) ∙ sym (append_assoc T (M ++ E) (7 ∷ [])) in
    let i = length-append T (M ++ E) in
    let j = length-append M E in
    let us' : us ≡ T ++ (M ++ E) =
    cut ∙ take_after (T ++ (M ++ E)) (7 ∷ []) ws (n - 1) open_is (omega (arith, all, lE, lT, size, i, j, long)) in
    record {
      work = h.rest;
      boxes = h.sig ∷ h.boxes;
      is = shaped into_box a ws b (S h.sig ∷ h.rest) h.boxes seen h.lies;
      lies = record {
        words =
            turned_last us vs T M E b (n - 2 - k) (n - 1) turned us' (sym lT) (omega (arith, all, lT, size, long))
            (omega (arith, all, lE, lT, size, long)) ∙ sym (append_assoc T E M);
        ends = let p = length-append T E in omega (arith, p, lE, lT, size);
      };
    }

-- out of a box: the signature comes over M, and the closing word behind it
pub boxes_out : (a : Load) (ws us vs : List ℕ) (b n k : ℕ) → (seen : load_of ws b ≡ a) → (h : HasBox ws b k) → (long : n ≡ length ws)
    → (added : us ≡ ws ++ 7 ∷ []) → (turned : Swaps us vs (b - 1 - k) b n) → Turns (out_of_box a.work a.boxes) vs (b - 1 - k)
boxes_out a ws us vs b n k seen h long added turned =
    let T : List ℕ = box_words h.rest in
    let M : List ℕ = work_words h.work in
    let B : List ℕ = body h.sig in
    let E : List ℕ = entry h.sig in
    let lE : length E ≡ length B + 1 = length-append B (length B ∷ []) in
    let lb = box_length ws b k h in
    let size = h.sized in
    let lw = length_both (T ++ E) M ws h.lies.words in
    let lTE = length-append T E in
    let us' : us ≡ T ++ (E ++ (M ++ 7 ∷ [])) =
    added ∙ ap (λ (z : List ℕ). z ++ 7 ∷ []) h.lies.words ∙ append_assoc (T ++ E) M (7 ∷ []) ∙ append_assoc T E (M ++ 7 ∷ []) in
    record {
      work = S h.sig ∷ h.work;
      boxes = h.rest;
      is = shaped out_of_box a ws b h.work (h.sig ∷ h.rest) seen h.lies;
      lies = record {
        words =
            turned.parts T E M (7 ∷ []) us' (omega (arith, lb)) (omega (arith, lb, lE, size)) (omega (arith, lb, lE, size, lw, lTE, long))
            ∙ ap (λ (z : List ℕ). T ++ (M ++ z)) (append_assoc B (length B ∷ []) (7 ∷ []));
        ends = omega (arith, lb);
      };
    }

-- a pair's words, part by part
pair_open : (B U : List ℕ) (k j : ℕ) → (B ++ (U ++ k ∷ 3 ∷ [])) ++ j ∷ 7 ∷ [] ≡ B ++ (U ++ k ∷ 3 ∷ j ∷ 7 ∷ [])
pair_open B U k j =
    append_assoc B (U ++ k ∷ 3 ∷ []) (j ∷ 7 ∷ []) ∙ ap (λ (z : List ℕ). B ++ z) (append_assoc U (k ∷ 3 ∷ []) (j ∷ 7 ∷ []))

-- out of a door: M goes below s, the size of s behind u, and the three words of the pair are written
pub doors_out : (a : Load) (ws us xs zs vs : List ℕ) (b n k j whole : ℕ) → (seen : load_of ws b ≡ a) → (h : HasTop ws b k)
    → (g : HasBox ws b j)
    → (long : n ≡ length ws) → (added : us ≡ ws ++ 7 ∷ []) → (lowered : Swaps us xs (b - 1 - j) b (n - 2 - k))
    → (raised : Swaps xs zs (n - 2 - k - 1) (n - 2 - k) (n - 2)) → (sum : whole ≡ j + k + 2) → (written : Writes zs vs (n - 3) k 3 whole)
    → Turns (out_of_door a.work a.boxes) vs (b - 1 - j)
doors_out a ws us xs zs vs b n k j whole seen h g long added lowered raised sum written =
    let s : Sig = g.sig in
    let u : Sig = h.sig in
    let lie = both_lie ws b k j h g in
    let T : List ℕ = box_words g.rest in
    let M : List ℕ = work_words h.rest in
    let B : List ℕ = body s in
    let U : List ℕ = body u in
    let E : List ℕ = entry s in
    let y : ℕ = length U in
    let z : ℕ = length B in
    let A : List ℕ = T ++ (M ++ B) in
    let lE : length E ≡ z + 1 = length-append B (z ∷ []) in
    let lb = box_length ws b j g in
    let lw = top_length ws b k h in
    let ks = h.sized in
    let js = g.sized in
    let lA : length A ≡ length T + length M + z = let p = length-append T (M ++ B) in let q = length-append M B in omega (arith, p, q) in
    let lAU = length-append A U in
    let us' : us ≡ T ++ (E ++ (M ++ (U ++ y ∷ 7 ∷ 7 ∷ []))) =
    added ∙ ap (λ (x : List ℕ). x ++ 7 ∷ []) lie.words
    ∙ append_assoc (T ++ E) (M ++ (U ++ y ∷ 7 ∷ [])) (7 ∷ [])
    ∙ ap (λ (x : List ℕ). (T ++ E) ++ x) (append_assoc M (U ++ y ∷ 7 ∷ []) (7 ∷ [])
    ∙ ap (λ (x : List ℕ). M ++ x) (append_assoc U (y ∷ 7 ∷ []) (7 ∷ [])))
    ∙ append_assoc T E (M ++ (U ++ y ∷ 7 ∷ 7 ∷ [])) in
    let xs' : xs ≡ A ++ (z ∷ [] ++ (U ++ y ∷ 7 ∷ 7 ∷ [])) =
    lowered.parts T E M (U ++ y ∷ 7 ∷ 7 ∷ []) us' (omega (arith, lb)) (omega (arith, lb, lE, js)) (omega (arith, lb, lE, js, lw, long))
    ∙ ap (λ (x : List ℕ). T ++ (M ++ x)) (append_assoc B (z ∷ []) (U ++ y ∷ 7 ∷ 7 ∷ []))
    ∙ ap (λ (x : List ℕ). T ++ x) (sym (append_assoc M B (z ∷ (U ++ y ∷ 7 ∷ 7 ∷ []))))
    ∙ sym (append_assoc T (M ++ B) (z ∷ (U ++ y ∷ 7 ∷ 7 ∷ []))) in
    let zs' : zs ≡ (A ++ U) ++ z ∷ y ∷ 7 ∷ 7 ∷ [] =
    raised.parts A (z ∷ []) U (y ∷ 7 ∷ 7 ∷ []) xs' (omega (arith, lA, lb, lw, js, long)) (omega (arith, lA, lb, lw, js, long))
    (omega (arith, lA, lb, lw, js, ks, long)) ∙ sym (append_assoc A U (z ∷ y ∷ 7 ∷ 7 ∷ [])) in
    let lp : length (body (pair_of s u)) ≡ z + y + 2 = length_pair s u in
    record {
      work = S (pair_of s u) ∷ h.rest;
      boxes = g.rest;
      is = shaped out_of_door a ws b (S u ∷ h.rest) (s ∷ g.rest) seen lie;
      lies = record {
        words =
            written.parts (A ++ U) (7 ∷ []) z y 7 zs' (omega (arith, lAU, lA, lb, lw, js, ks, long))
            ∙ append_assoc A U (k ∷ 3 ∷ whole ∷ 7 ∷ [])
            ∙ append_assoc T (M ++ B) (U ++ k ∷ 3 ∷ whole ∷ 7 ∷ [])
            ∙ ap (λ (x : List ℕ). T ++ x) (append_assoc M B (U ++ k ∷ 3 ∷ whole ∷ 7 ∷ []))
            ∙ ap (λ (x : List ℕ). T ++ (M ++ x)) (sym (pair_open B U k whole))
            ∙ ap (λ (x : ℕ). T ++ (M ++ ((B ++ (U ++ x ∷ 3 ∷ [])) ++ whole ∷ 7 ∷ []))) ks
            ∙ ap (λ (x : ℕ). T ++ (M ++ (body (pair_of s u) ++ x ∷ 7 ∷ []))) (omega (arith, lp, sum, js, ks));
        ends = omega (arith, lb);
      };
    }

-- into a door: the size of u goes below u, where the size of s is written over it, the pair's words become those of u, and s with its size
-- comes below M
pub doors_in : (a : Load) (ws us xs ys vs : List ℕ) (b n k j : ℕ) → (seen : load_of ws b ≡ a) → (h : HasPair ws b j k)
    → (long : n ≡ length ws)
    → (lowered : Swaps ws us (n - 4 - k) (n - 4) (n - 3)) → (written : Writes (set us (n - 4 - k) j) xs (n - 3) k 7 7)
    → (cut : ys ≡ take (n - 1) xs) → (turned : Swaps ys vs b (n - 4 - k - j) (n - 4 - k + 1))
    → Turns (into_door a.work a.boxes) vs (b + (j + 1))
doors_in a ws us xs ys vs b n k j seen h long lowered written cut turned =
    let s : Sig = h.one in
    let u : Sig = h.two in
    let T : List ℕ = box_words h.boxes in
    let M : List ℕ = work_words h.rest in
    let B : List ℕ = body s in
    let U : List ℕ = body u in
    let y : ℕ = length U in
    let l : ℕ = length (body (pair_of s u)) in
    let A : List ℕ = T ++ (M ++ B) in
    let D : List ℕ = B ++ j ∷ [] in
    let lp : l ≡ length B + y + 2 = length_pair s u in
    let lA : length A ≡ length T + length M + length B = let p = length-append T (M ++ B) in let q = length-append M B in omega (
      arith,
      p,
      q,
    ) in
    let lT = h.lies.ends in
    let js = h.first_sized in
    let ks = h.second_sized in
    let ws' : ws ≡ A ++ (U ++ (y ∷ [] ++ 3 ∷ l ∷ 7 ∷ [])) =
    h.lies.words ∙ ap (λ (x : List ℕ). T ++ (M ++ x)) (pair_open B U y l)
    ∙ ap (λ (x : List ℕ). T ++ x) (sym (append_assoc M B (U ++ y ∷ 3 ∷ l ∷ 7 ∷ [])))
    ∙ sym (append_assoc T (M ++ B) (U ++ y ∷ 3 ∷ l ∷ 7 ∷ [])) in
    let lw : length ws ≡ length A + y + 4 =
    let p = length_both A (U ++ (y ∷ [] ++ 3 ∷ l ∷ 7 ∷ [])) ws ws' in
    let q = length-append U (y ∷ 3 ∷ l ∷ 7 ∷ []) in omega (arith, p, q) in
    let us' : us ≡ A ++ y ∷ (U ++ 3 ∷ l ∷ 7 ∷ []) =
    lowered.parts A U (y ∷ []) (3 ∷ l ∷ 7 ∷ []) ws' (omega (arith, lw, ks, long)) (omega (arith, lw, long)) (omega (arith, lw, long)) in
    let F : List ℕ = (A ++ j ∷ []) ++ U in
    let lF : length F ≡ length A + 1 + y = let p = length-append (A ++ j ∷ []) U in let q = length_on A j in omega (arith, p, q) in
    let put : set us (n - 4 - k) j ≡ F ++ 3 ∷ l ∷ 7 ∷ [] =
    set_after A y (U ++ 3 ∷ l ∷ 7 ∷ []) us (n - 4 - k) j us' (omega (arith, lw, ks, long)) ∙ one_on A j (U ++ 3 ∷ l ∷ 7 ∷ [])
    ∙ sym (append_assoc (A ++ j ∷ []) U (3 ∷ l ∷ 7 ∷ [])) in
    let xs' : xs ≡ (F ++ k ∷ 7 ∷ []) ++ 7 ∷ [] =
    written.parts F [] 3 l 7 put (omega (arith, lF, lw, long)) ∙ sym (append_assoc F (k ∷ 7 ∷ []) (7 ∷ [])) in
    let lFk = length-append F (k ∷ 7 ∷ []) in
    let ys' : ys ≡ T ++ (M ++ (D ++ (U ++ k ∷ 7 ∷ []))) =
    cut ∙ take_after (F ++ k ∷ 7 ∷ []) (7 ∷ []) xs (n - 1) xs' (omega (arith, lFk, lF, lw, long))
    ∙ append_assoc (A ++ j ∷ []) U (k ∷ 7 ∷ [])
    ∙ append_assoc A (j ∷ []) (U ++ k ∷ 7 ∷ [])
    ∙ append_assoc T (M ++ B) (j ∷ (U ++ k ∷ 7 ∷ []))
    ∙ ap (λ (x : List ℕ). T ++ x) (append_assoc M B (j ∷ (U ++ k ∷ 7 ∷ [])))
    ∙ ap (λ (x : List ℕ). T ++ (M ++ x)) (sym (append_assoc B (j ∷ []) (U ++ k ∷ 7 ∷ []))) in
    let lD = length_on B j in
    let lTD = length-append T (entry s) in
    let lE = length_on B (length B) in
    record {
      work = S u ∷ h.rest;
      boxes = s ∷ h.boxes;
      is = shaped into_door a ws b (S (pair_of s u) ∷ h.rest) h.boxes seen h.lies;
      lies = record {
        words =
            turned.parts T M D (U ++ k ∷ 7 ∷ []) ys' (sym lT) (omega (arith, lA, lw, js, ks, lT, long))
            (omega (arith, lA, lD, lw, js, ks, lT, long))
            ∙ sym (append_assoc T D (M ++ (U ++ k ∷ 7 ∷ [])))
            ∙ ap (λ (x : ℕ). (T ++ (B ++ x ∷ [])) ++ (M ++ (U ++ k ∷ 7 ∷ []))) js
            ∙ ap (λ (x : ℕ). (T ++ entry s) ++ (M ++ (U ++ x ∷ 7 ∷ []))) ks;
        ends = omega (arith, lTD, lE, lT, js);
      };
    }

-- a `*` for a fixpoint comes below M
pub fixes_in : (m : Work) (t : Boxes) (ws us vs : List ℕ) (b n : ℕ) → (lie : Lies ws b m t) → (long : n ≡ length ws)
    → (added : us ≡ ws ++ 0 ∷ 1 ∷ []) → (turned : Swaps us vs b n (n + 2)) → Lies vs (b + 2) m (star ∷ t)
fixes_in m t ws us vs b n lie long added turned =
    let T : List ℕ = box_words t in
    let M : List ℕ = work_words m in
    let lT = lie.ends in
    let lw = length_both T M ws lie.words in
    let lTE = length-append T (0 ∷ 1 ∷ []) in
    record {
      words =
          turned_last us vs T M (0 ∷ 1 ∷ []) b n (n + 2) turned
          (added ∙ ap (λ (x : List ℕ). x ++ 0 ∷ 1 ∷ []) lie.words ∙ append_assoc T M (0 ∷ 1 ∷ [])) (sym lT) (omega (arith, lw, long))
          (omega (arith, lw, long)) ∙ sym (append_assoc T (0 ∷ 1 ∷ []) M);
      ends = omega (arith, lTE, lT);
    }

-- and goes from below M
pub fixes_out : (a : Load) (ws us vs : List ℕ) (b n k : ℕ) → (seen : load_of ws b ≡ a) → (h : HasBox ws b k) → (one : k ≡ 1)
    → (long : n ≡ length ws)
    → (turned : Swaps ws us (b - 2) b n) → (cut : vs ≡ take (n - 2) us) → Turns (out_of_fix a.work a.boxes) vs (b - 2)
fixes_out a ws us vs b n k seen h one long turned cut =
    let T : List ℕ = box_words h.rest in
    let M : List ℕ = work_words h.work in
    let starred : h.sig ≡ star = star_short h.sig (sym h.sized ∙ one) in
    let lb = box_length ws b k h in
    let lie : Lies ws b h.work (star ∷ h.rest) = record {
      words = h.lies.words ∙ ap (λ (x : Sig). box_words (x ∷ h.rest) ++ M) starred;
      ends = h.lies.ends ∙ ap (λ (x : Sig). length (box_words (x ∷ h.rest))) starred;
    } in
    let lw = length_both (T ++ 0 ∷ 1 ∷ []) M ws lie.words in
    let lTE = length-append T (0 ∷ 1 ∷ []) in
    let lTM = length-append T M in
    let us' : us ≡ (T ++ M) ++ 0 ∷ 1 ∷ [] =
    turned_last ws us T (0 ∷ 1 ∷ []) M (b - 2) b n turned (lie.words ∙ append_assoc T (0 ∷ 1 ∷ []) M) (omega (arith, lb, one))
    (omega (arith, lb, one)) (omega (arith, lw, lTE, long)) ∙ sym (append_assoc T M (0 ∷ 1 ∷ [])) in
    record {
      work = h.work;
      boxes = h.rest;
      is = shaped out_of_fix a ws b h.work (star ∷ h.rest) seen lie;
      lies = record {
        words = cut ∙ take_after (T ++ M) (0 ∷ 1 ∷ []) us (n - 2) us' (omega (arith, lw, lTE, lTM, long));
        ends = omega (arith, lb, one);
      };
    }

-- other signatures are no `*`
pub other_fix : (a : Load) (ws : List ℕ) (b k : ℕ) → (seen : load_of ws b ≡ a) → (h : HasBox ws b k) → (k ≡ 1 → ⊥) →
    out_of_fix a.work a.boxes ≡ None
other_fix a ws b k seen h other = shaped out_of_fix a ws b h.work (h.sig ∷ h.rest) seen h.lies ∙ go h.sig h.sized
  where
    go : (s : Sig) → k ≡ length (body s) → out_of_fix h.work (s ∷ h.rest) ≡ None
    go star z = absurd (other z)
    go (left_of s) z = refl
    go (right_of s) z = refl
    go (pair_of s u) z = refl
    go (again s u) z = refl

-- into a `y`: s comes below M, the size of u behind s, and the three words of the `y` are written
pub agains_in : (a : Load) (ws us xs vs : List ℕ) (b n k j whole : ℕ) → (seen : load_of ws b ≡ a) → (h : HasTop ws b k)
    → (g : HasBox ws b j)
    → (long : n ≡ length ws) → (turned : Swaps ws us b (n - 2 - k) n) → (raised : Swaps us xs (b - 1) b (b + k))
    → (sum : whole ≡ j + k + 2) → (written : Writes xs vs (b - 1 + k) k 4 whole) → Turns (into_again a.work a.boxes) vs (b + k + 2)
agains_in a ws us xs vs b n k j whole seen h g long turned raised sum written =
    let s : Sig = h.sig in
    let u : Sig = g.sig in
    let lie = both_lie ws b k j h g in
    let T : List ℕ = box_words g.rest in
    let M : List ℕ = work_words h.rest in
    let B : List ℕ = body s in
    let U : List ℕ = body u in
    let E : List ℕ = entry u in
    let y : ℕ = length B in
    let z : ℕ = length U in
    let X : List ℕ = B ++ y ∷ 7 ∷ [] in
    let A : List ℕ = T ++ U in
    let lb = box_length ws b j g in
    let lw = top_length ws b k h in
    let ks = h.sized in
    let js = g.sized in
    let lE : length E ≡ z + 1 = length-append U (z ∷ []) in
    let lTE = length-append T E in
    let lX : length X ≡ y + 2 = length-append B (y ∷ 7 ∷ []) in
    let lA = length-append T U in
    let lAB = length-append A B in
    let us' : us ≡ A ++ (z ∷ [] ++ (B ++ (y ∷ 7 ∷ M))) =
    turned_last ws us (T ++ E) M X b (n - 2 - k) n turned lie.words (omega (arith, lTE, lE, lb, js)) (omega (
      arith,
      lTE,
      lE,
      lb,
      js,
      lw,
      long,
    ))
    (omega (arith, lTE, lE, lb, js, ks, lw, lX, long))
    ∙ ap (λ (x : List ℕ). (T ++ E) ++ x) (append_assoc B (y ∷ 7 ∷ []) M)
    ∙ append_assoc T E (B ++ (y ∷ 7 ∷ M))
    ∙ ap (λ (x : List ℕ). T ++ x) (append_assoc U (z ∷ []) (B ++ (y ∷ 7 ∷ M)))
    ∙ sym (append_assoc T U (z ∷ (B ++ (y ∷ 7 ∷ M)))) in
    let xs' : xs ≡ (A ++ B) ++ z ∷ y ∷ 7 ∷ M =
    raised.parts A (z ∷ []) B (y ∷ 7 ∷ M) us' (omega (arith, lA, lb, js)) (omega (arith, lA, lb, js)) (omega (arith, lA, lb, js, ks))
    ∙ sym (append_assoc A B (z ∷ y ∷ 7 ∷ M)) in
    let lp : length (body (again u s)) ≡ z + y + 2 = length_again u s in
    let lq = box_long (again u s) g.rest in
    record {
      work = h.rest;
      boxes = again u s ∷ g.rest;
      is = shaped into_again a ws b (S s ∷ h.rest) (u ∷ g.rest) seen lie;
      lies = record {
        words =
            written.parts (A ++ B) M z y 7 xs' (omega (arith, lAB, lA, lb, js, ks))
            ∙ sym (append_assoc (A ++ B) (k ∷ 4 ∷ whole ∷ []) M)
            ∙ ap (λ (x : List ℕ). x ++ M) (append_assoc A B (k ∷ 4 ∷ whole ∷ []) ∙ append_assoc T U (B ++ k ∷ 4 ∷ whole ∷ [])
            ∙ ap (λ (x : List ℕ). T ++ (U ++ x)) (sym (append_assoc B (k ∷ 4 ∷ []) (whole ∷ [])))
            ∙ ap (λ (x : List ℕ). T ++ x) (sym (append_assoc U (B ++ k ∷ 4 ∷ []) (whole ∷ [])))
            ∙ ap (λ (x : ℕ). T ++ ((U ++ (B ++ x ∷ 4 ∷ [])) ++ whole ∷ [])) ks
            ∙ ap (λ (x : ℕ). T ++ (body (again u s) ++ x ∷ [])) (omega (arith, lp, sum, js, ks)));
        ends = omega (arith, lp, lq, lb, js, ks);
      };
    }

-- out of a `y`: the size of s goes below s, where the size of u is written over it, the words of the `y` become those of s, and s comes
-- over M
pub agains_out : (a : Load) (ws us vs : List ℕ) (b n k j : ℕ) → (seen : load_of ws b ≡ a) → (h : HasAgain ws b j k) → (long : n ≡ length ws)
    → (lowered : Swaps ws us (b - 3 - k) (b - 3) (b - 2))
    → (turned : Swaps (set (set (set us (b - 3 - k) j) (b - 2) k) (b - 1) 7) vs (b - 3 - k + 1) b n)
    → Turns (out_of_again a.work a.boxes) vs (b - 3 - k + 1)
agains_out a ws us vs b n k j seen h long lowered turned =
    let u : Sig = h.one in
    let s : Sig = h.two in
    let T : List ℕ = box_words h.rest in
    let M : List ℕ = work_words h.work in
    let B : List ℕ = body s in
    let U : List ℕ = body u in
    let y : ℕ = length B in
    let l : ℕ = length (body (again u s)) in
    let A : List ℕ = T ++ U in
    let js = h.first_sized in
    let ks = h.second_sized in
    let lA = length-append T U in
    let lp : l ≡ length U + y + 2 = length_again u s in
    let lb : b ≡ length A + y + 3 = let p = box_long (again u s) h.rest in let q = h.lies.ends in omega (arith, p, q, lp, lA) in
    let ws' : ws ≡ A ++ (B ++ (y ∷ [] ++ 4 ∷ l ∷ M)) = again_words u s h.rest h.work ws b h.lies in
    let lw : length ws ≡ length A + y + 3 + length M =
    let p = length_both A (B ++ (y ∷ 4 ∷ l ∷ M)) ws ws' in
    let q = length-append B (y ∷ 4 ∷ l ∷ M) in omega (arith, p, q) in
    let us' : us ≡ A ++ y ∷ (B ++ 4 ∷ l ∷ M) =
    lowered.parts A B (y ∷ []) (4 ∷ l ∷ M) ws' (omega (arith, lb, ks)) (omega (arith, lb)) (omega (arith, lb)) in
    let at : ℕ = b - 3 - k in
    let F : List ℕ = (A ++ j ∷ []) ++ B in
    let lAj = length_on A j in
    let lF : length F ≡ length A + 1 + y = let p = length-append (A ++ j ∷ []) B in omega (arith, p, lAj) in
    let one : set us at j ≡ F ++ 4 ∷ l ∷ M =
    set_after A y (B ++ 4 ∷ l ∷ M) us at j us' (omega (arith, lb, ks)) ∙ one_on A j (B ++ 4 ∷ l ∷ M)
    ∙ sym (append_assoc (A ++ j ∷ []) B (4 ∷ l ∷ M)) in
    let two : set (set us at j) (b - 2) k ≡ (F ++ k ∷ []) ++ l ∷ M =
    set_after F 4 (l ∷ M) (set us at j) (b - 2) k one (omega (arith, lF, lb)) ∙ one_on F k (l ∷ M) in
    let lFk = length_on F k in
    let three : set (set (set us at j) (b - 2) k) (b - 1) 7 ≡ (A ++ j ∷ []) ++ ((B ++ k ∷ 7 ∷ []) ++ M) =
    set_after (F ++ k ∷ []) l M (set (set us at j) (b - 2) k) (b - 1) 7 two (omega (arith, lFk, lF, lb))
    ∙ append_assoc F (k ∷ []) (7 ∷ M)
    ∙ append_assoc (A ++ j ∷ []) B (k ∷ 7 ∷ M)
    ∙ ap (λ (x : List ℕ). (A ++ j ∷ []) ++ x) (sym (append_assoc B (k ∷ 7 ∷ []) M)) in
    let lX = length-append B (k ∷ 7 ∷ []) in
    let lq = box_long u h.rest in
    record {
      work = S s ∷ h.work;
      boxes = u ∷ h.rest;
      is = shaped out_of_again a ws b h.work (again u s ∷ h.rest) seen h.lies;
      lies = record {
        words =
            turned_last (set (set (set us at j) (b - 2) k) (b - 1) 7) vs (A ++ j ∷ []) (B ++ k ∷ 7 ∷ []) M (at + 1) b n turned three
            (omega (arith, lAj, lb, ks)) (omega (arith, lAj, lX, lb)) (omega (arith, lAj, lX, lb, lw, long))
            ∙ ap (λ (x : List ℕ). x ++ (M ++ (B ++ k ∷ 7 ∷ []))) (append_assoc T U (j ∷ []))
            ∙ ap (λ (x : ℕ). (T ++ (U ++ x ∷ [])) ++ (M ++ (B ++ k ∷ 7 ∷ []))) js
            ∙ ap (λ (x : ℕ). (T ++ entry u) ++ (M ++ (B ++ x ∷ 7 ∷ []))) ks;
        ends = omega (arith, lq, lA, lb, ks);
      };
    }
