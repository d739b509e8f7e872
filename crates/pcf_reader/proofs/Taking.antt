-- A reader at the first token of a list goes on as the machine does over the list.
use Rattle.std.proofs.Common.{◌≡◌, ℕ, ◌<◌, ◌^◌, Bool, true, false, ◌||◌, List, ◌∷◌, length, Some, refl, sym, ap}
use Rattle.std.proofs.Common.{◌∙◌, subst, arith}
use Rattle.std.specs.Str.{IsUtf8, IsCharBoundary}
use Rattle.std.proofs.Common.{◌++◌, ◌-◌, length-append, take, drop}
use Rattle.std.proofs.Math.Seq.{take-append_seam, drop-append_seam}
use Rattle.std.proofs.lemmas.Str.{IsCharBoundary-at_seam}
use Rattle.pcf_reader.specs.Tokens.{Token, Open, Close, Colon, Dot, Comma, Sign, Arrow, Ifz, Then, Else, Nat, Bind, Before}
use Rattle.pcf_reader.specs.Tokens.{Number, Name, End, Junk, Placed}
use Rattle.pcf_reader.specs.Machine.{State, step}
use Rattle.pcf_reader.specs.Scan.{TreeOrFault, proper, checked, scan}
use Rattle.pcf_reader.specs.Rest.{Rest, resume, behind}
use Rattle.pcf_reader.specs.Spelling.{sign_of, word_of}
use Rattle.pcf_reader.proofs.Spelled.{sign_token, word_token}
use Rattle.pcf_reader.proofs.Whole.{number_is}
use Rattle.pcf_reader.proofs.Ended.{word_not_end}

-- a token that is no fault by itself
abbrev pub IsProper : Token → Type 0
IsProper x = (at : ℕ) (a : TreeOrFault) → proper at x a ≡ a

-- a reader that stands at the first token of a list goes on as the scan does
pub reads_on : (ts : List Placed) (r q : Rest) → r ≡ q → ts ≡ record { at = q.at; token = q.here } ∷ q.after →
    IsProper q.here → (s : State) → scan ts s q.nodes ≡ resume (step s) r
reads_on ts r q e h p s =
    ap (λ z. scan z s q.nodes) h ∙ p q.at (checked (scan q.after) q.nodes q.at (step s q.at q.here)) ∙
    sym (ap (λ (r : Rest). resume (step s) r) e)

-- and has fewer tokens behind it than the list has
pub fewer : (ts : List Placed) (r q : Rest) (x : Placed) → r ≡ q → ts ≡ x ∷ q.after → length r.after < length ts
fewer ts r q x e h =
    let a : length r.after ≡ length q.after = ap (λ (r : Rest). length r.after) e in
    let b : length ts ≡ length (x ∷ q.after) = ap length h in
    omega (arith, a, b)

-- what stands behind a token that is not the end
pub behind_more : (x : Token) (xs : List Placed) → (x ≡ End → ⊥) → behind x xs ≡ xs
behind_more End xs h = absurd (h refl)
behind_more Open xs h = refl
behind_more Close xs h = refl
behind_more Colon xs h = refl
behind_more Dot xs h = refl
behind_more Comma xs h = refl
behind_more (Sign o) xs h = refl
behind_more Arrow xs h = refl
behind_more Ifz xs h = refl
behind_more Then xs h = refl
behind_more Else xs h = refl
behind_more Nat xs h = refl
behind_more (Bind b) xs h = refl
behind_more (Before w) xs h = refl
behind_more (Number n) xs h = refl
behind_more (Name x) xs h = refl
behind_more Junk xs h = refl

-- a narrow number is no fault by itself, no word is, and no sign
pub number_proper : (n : ℕ) → n < 2 ^ 64 → IsProper (Number n)
number_proper n h at a = number_is at n a h

pub word_proper : (cs : List ℕ) → IsProper (word_of cs)
word_proper cs =
    word_token IsProper cs (λ _ _. refl) (λ _ _. refl) (λ _ _. refl) (λ _ _. refl) (λ _ _. refl) (λ _ _. refl) (λ _ _. refl)
    (λ _ _ _. refl) (λ _ _. refl) (λ _ _. refl)

pub sign_proper : (c : ℕ) (x : Token) → sign_of c ≡ Some x → IsProper x
sign_proper c x h =
    sign_token IsProper c x (λ _ _. refl) (λ _ _. refl) (λ _ _. refl) (λ _ _. refl) (λ _ _. refl) (λ _ _ _. refl) h

-- a word's token as a reader at it sees it
pub word_list : (ts xs ys : List Placed) (at : ℕ) (cs : List ℕ) (x : Token) → ts ≡ record { at = at; token = word_of cs } ∷ xs →
    x ≡ word_of cs → ys ≡ xs → ts ≡ record { at = at; token = x } ∷ behind x ys
word_list ts xs ys at cs x e h k =
    e ∙ ap (λ z. record { at = at; token = word_of cs } ∷ z) (sym k) ∙
    ap (λ z. record { at = at; token = word_of cs } ∷ z) (sym (behind_more (word_of cs) ys (word_not_end cs)))
    ∙ ap (λ x. record { at = at; token = x } ∷ behind x ys) (sym h)

-- and so is a token that is another
pub proper_from : (x y : Token) → x ≡ y → IsProper y → IsProper x
proper_from x y e h = subst IsProper (sym e) h

-- where a text is cut behind what was read of it
pub front_read : (text read rest front : List ℕ) (mid : ℕ) → text ≡ read ++ rest → mid ≡ length text - length rest →
    front ≡ take mid text → front ≡ read
front_read text read rest front mid e m h =
    let n : mid ≡ length read = omega (arith, m, ap length e, length-append read rest) in
    h ∙ ap (λ z. take mid z) e ∙ ap (λ k. take k (read ++ rest)) n ∙ take-append_seam read rest

-- the rest
pub back_rest : (text read rest back : List ℕ) (mid : ℕ) → text ≡ read ++ rest → mid ≡ length text - length rest →
    back ≡ drop mid text → back ≡ rest
back_rest text read rest back mid e m h =
    let n : mid ≡ length read = omega (arith, m, ap length e, length-append read rest) in
    h ∙ ap (λ z. drop mid z) e ∙ ap (λ k. drop k (read ++ rest)) n ∙ drop-append_seam read rest

-- a text is cut between characters there
pub seam : (text read rest : List ℕ) (mid : ℕ) → text ≡ read ++ rest → mid ≡ length text - length rest → IsUtf8 rest →
    IsCharBoundary text mid
seam text read rest mid e m u =
    let n : length read ≡ mid = omega (arith, m, ap length e, length-append read rest) in
    subst (λ k. IsCharBoundary text k) n (IsCharBoundary-at_seam text read rest e u)

-- of two tests one holds, and what follows from each
pub either_way : (a b c : Bool) → (a ≡ true → c ≡ true) → (b ≡ true → c ≡ true) → (a || b) ≡ true → c ≡ true
either_way true b c h k e = h refl
either_way false b c h k e = k e
