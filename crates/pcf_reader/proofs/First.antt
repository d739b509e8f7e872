-- A list of tokens has one first fault, and none where it derives a tree.
use Rattle.std.proofs.Common.{◌≡◌, ◌⊎◌, ℕ, zero, suc, ◌+◌, ◌^◌, ◌<◌, ◌≤◌, List, [], ◌∷◌, ◌++◌}
use Rattle.std.proofs.Common.{map, refl, sym, ap, ◌∙◌, subst, append_assoc, inl, inr, arith}
use Rattle.std.proofs.lemmas.Bool.{cases_lt}
use Rattle.pcf_values.specs.Most.{most_open}
use Rattle.pcf_values.specs.Named.{NamedTree}
use Rattle.pcf_reader.specs.Tokens.{Junk, Placed}
use Rattle.pcf_reader.specs.Grammar.{program_text, Written, placed}
use Rattle.pcf_reader.specs.Machine.{State, want_expr, whole, Step, refuse, go, finish, step}
use Rattle.pcf_reader.specs.Text.{count_of, IsNarrow, Derives, FaultAt, rank, IsFirstFault, IsShallow, Each}
use Rattle.pcf_reader.specs.declared.fault.ReadFault.{ReadFault}
use Rattle.pcf_reader.specs.declared.fault.ReadFault.TheVariants.{NoMemory, NotText, BadToken, NumberTooWide, Unexpected, TooDeep, TooLarge}
use Rattle.pcf_reader.specs.declared.fault.ReadFault.TheVariants.{TooLong}
use Rattle.pcf_reader.proofs.Lists.{head_is, tail_is, none_left, WritesNarrow, each_at, count-append}
use Rattle.pcf_reader.proofs.Reached.{Texts}
use Rattle.pcf_reader.proofs.Judge.{PassesBy, Passes, program_passes, written_is, split_at}
use Rattle.pcf_reader.proofs.Whole.{junk_refused}

-- two ways to pass over one token by one step are one
same_mark : (st : Step) (x w : Written) (P Q : State → Type 0) (L M : Type 0) → PassesBy st x P L → PassesBy st w Q M →
    (x.depth ≡ w.depth) × (x.count ≡ w.count)
same_mark refuse x w P Q L M h k = absurd h
same_mark (go d c t) x w P Q L M h k = (sym h.0 ∙ k.0, sym h.1 ∙ k.1)
same_mark (finish p) x w P Q L M h k = (sym h.0 ∙ k.0, sym h.1 ∙ k.1)

-- and so one token is written in one way in one state
same_written : (s : State) (x w : Written) (P Q : State → Type 0) (L M : Type 0) → PassesBy (step s x.at x.token) x P L →
    PassesBy (step s w.at w.token) w Q M → placed w ≡ placed x → w ≡ x
same_written s x w P Q L M h k e =
    let at : w.at ≡ x.at = ap (λ p. p.at) e in
    let token : w.token ≡ x.token = ap (λ p. p.token) e in
    let k' : PassesBy (step s x.at x.token) w Q M =
    subst (λ st. PassesBy st w Q M) (ap (λ i. step s i w.token) at ∙ ap (λ y. step s x.at y) token) k in
    let (depth, count) = same_mark (step s x.at x.token) x w P Q L M h k' in
    written_is w x at token (sym depth) (sym count)

-- where a step goes on for both
go_both : (st : Step) (x : Written) (P Q : State → Type 0) (L M : Type 0) (C : Type 0) → PassesBy st x P L → PassesBy st x Q M →
    (M → ⊥) → ((t : State) → P t → Q t → C) → C
go_both refuse x P Q L M C h k no_end next = absurd h
go_both (go d c t) x P Q L M C h k no_end next = next t h.2 k.2
go_both (finish p) x P Q L M C h k no_end next = absurd (no_end k.2)

-- a list with a token in it is not empty
not_nil : (u : Texts) (x : Written) (v : Texts) → u ++ x ∷ v ≡ [] → ⊥
not_nil [] x v e = cc
not_nil (w ∷ u) x v e = cc

-- programs that begin alike write alike: what passes over the tokens of another that passes takes them as that one does
pub both_pass : (front : Texts) (x : Written) (v ws : Texts) (s : State) (a : List Placed)
    → Passes (front ++ x ∷ v) s → Passes ws s → map placed ws ≡ map placed front ++ placed x ∷ a → (r : Texts) ×
    (ws ≡ front ++ x ∷ r)
both_pass [] x v [] s a h k e = absurd (none_left (placed x) a e)
both_pass [] x v (w ∷ ws) s a h k e = (
  ws,
  ap (λ z. z ∷ ws) (same_written s x w (λ t. Passes v t) (λ t. Passes ws t) (v ≡ []) (ws ≡ []) h k
      (head_is (placed w) (placed x) (map placed ws) a e)),
)
both_pass (y ∷ front) x v [] s a h k e = absurd (none_left (placed y) (map placed front ++ placed x ∷ a) e)
both_pass (y ∷ front) x v (w ∷ ws) s a h k e =
    let more : Texts = front ++ x ∷ v in
    let is : w ≡ y = same_written s y w (λ t. Passes more t) (λ t. Passes ws t) (more ≡ []) (ws ≡ []) h k
    (head_is (placed w) (placed y) (map placed ws) (map placed front ++ placed x ∷ a) e) in
    let k' : PassesBy (step s y.at y.token) y (λ t. Passes ws t) (ws ≡ []) =
    subst (λ (w : Written). PassesBy (step s w.at w.token) w (λ t. Passes ws t) (ws ≡ [])) is k in
    go_both (step s y.at y.token) y (λ t. Passes ws t) (λ t. Passes more t) (ws ≡ []) (more ≡ []) ((r : Texts) ×
    (w ∷ ws ≡ y ∷ (front ++ x ∷ r))) k' h (not_nil front x v)
    (λ t kt ht.
    let (r, rest) = both_pass front x v ws t a ht kt (tail_is (placed w) (placed y) (map placed ws) (map placed front ++ placed x ∷ a) e)
    in
    (r, ap (λ z. z ∷ ws) is ∙ ap (λ z. y ∷ z) rest))

-- what passes has no junk
junk_passes : (u : Texts) (w : Written) (v : Texts) (s : State) → Passes (u ++ w ∷ v) s → w.token ≡ Junk → ⊥
junk_passes [] w v s h e = subst (λ st. PassesBy st w (λ t. Passes v t) (v ≡ [])) (ap (λ y. step s w.at y) e ∙ junk_refused s w.at) h
junk_passes (x ∷ u) w v s h e =
    go_both (step s x.at x.token) x (λ t. Passes (u ++ w ∷ v) t) (λ t. Passes (u ++ w ∷ v) t) (u ++ w ∷ v ≡ []) (u ++ w ∷
    v ≡ []) ⊥ h h (not_nil u w v) (λ t ht kt. junk_passes u w v t ht e)

-- No token of what derives a tree has a fault.
pub derives_no_fault : (items : List Placed) (t : NamedTree) → Derives items t →
    (b : List Placed) (x : Placed) (a : List Placed) (g : ReadFault) → items ≡ b ++ x ∷ a → FaultAt b x g → ⊥
derives_no_fault items t h b x a NoMemory e f = f
derives_no_fault items t h b x a (NotText at) e f = f
derives_no_fault items t h b x a TooLong e f = f
derives_no_fault items t h b x a (BadToken at) e f =
    let (u, w, v, is, before, here) = split_at (program_text h.program) b x a (h.written ∙ e) in
    junk_passes u w v (want_expr whole) (subst (λ z. Passes z (want_expr whole)) is (program_passes h.program))
    (ap (λ p. p.token) here ∙ f.0)
derives_no_fault items t h b x a (NumberTooWide at) e f =
    let (u, w, v, is, before, here) = split_at (program_text h.program) b x a (h.written ∙ e) in
    let small : f.0 < 2 ^ 64 = subst (λ t. IsNarrow t) (ap (λ p. p.token) here ∙
    f.1) (each_at WritesNarrow u w v (subst (λ z. Each WritesNarrow z) is h.narrow)) in
    let large : 2 ^ 64 ≤ f.0 = f.2 in
    omega arith
derives_no_fault items t h b x a (Unexpected at) e f = f.0 (h.program, a, h.written ∙ e ∙ sym (append_assoc b (x ∷ []) a))
derives_no_fault items t h b x a (TooDeep at) e f =
    let (w, r, deep, place) = f in
    let (v, is) = both_pass r.front w r.rest (program_text h.program) (want_expr whole) a
    (subst (λ z. Passes z (want_expr whole)) r.text (program_passes r.program)) (program_passes h.program)
    (h.written ∙ e ∙ ap (λ z. z ++ x ∷ a) (sym r.before_is) ∙ ap (λ z. map placed r.front ++ z ∷ a) (sym r.token_is)) in
    let shallow : w.depth < most_open = each_at IsShallow r.front w v (subst (λ z. Each IsShallow z) is h.shallow) in
    omega (arith, deep)
derives_no_fault items t h b x a (TooLarge at) e f =
    let (w, r, large, place) = f in
    let (v, is) = both_pass r.front w r.rest (program_text h.program) (want_expr whole) a
    (subst (λ z. Passes z (want_expr whole)) r.text (program_passes r.program)) (program_passes h.program)
    (h.written ∙ e ∙ ap (λ z. z ++ x ∷ a) (sym r.before_is) ∙ ap (λ z. map placed r.front ++ z ∷ a) (sym r.token_is)) in
    let total : count_of (program_text h.program) ≡ count_of r.front + (w.count + count_of v) = ap count_of is ∙
    count-append r.front (w ∷ v) in
    omega (arith, large, total, h.small)

-- the fault of a rank at a place
fault_of : ℕ → ℕ → ReadFault
fault_of (suc (suc zero)) at = BadToken at
fault_of (suc (suc (suc zero))) at = NumberTooWide at
fault_of (suc (suc (suc (suc zero)))) at = Unexpected at
fault_of (suc (suc (suc (suc (suc zero))))) at = TooDeep at
fault_of (suc (suc (suc (suc (suc (suc zero)))))) at = TooLarge at
fault_of _ at = NoMemory

-- what fault a token has is told by its rank and its place
fault_is : (b : List Placed) (x : Placed) (f : ReadFault) → FaultAt b x f → f ≡ fault_of (rank f) x.at
unfolding fault_of
fault_is b x NoMemory h = absurd h
fault_is b x (NotText at) h = absurd h
fault_is b x TooLong h = absurd h
fault_is b x (BadToken at) h = ap (λ i. BadToken i) (sym h.1)
fault_is b x (NumberTooWide at) h = ap (λ i. NumberTooWide i) (sym h.3)
fault_is b x (Unexpected at) h = ap (λ i. Unexpected i) (sym h.1)
fault_is b x (TooDeep at) h = ap (λ i. TooDeep i) (sym h.3)
fault_is b x (TooLarge at) h = ap (λ i. TooLarge i) (sym h.3)

-- two splits of a list are one, or the one lies before the other
abbrev pub Apart : List Placed → Placed → List Placed → Placed → Type 0
Apart b x c y = ((b ≡ c) × (x ≡ y)) ⊎ (((m : List Placed) × (b ≡ c ++ y ∷ m)) ⊎ ((m : List Placed) × (c ≡ b ++ x ∷ m)))

-- with one token more before both
apart_cons : (z w : Placed) (b : List Placed) (x : Placed) (c : List Placed) (y : Placed) → z ≡ w → Apart b x c y →
    Apart (z ∷ b) x (w ∷ c) y
apart_cons z w b x c y e (inl h) = inl (ap (λ q. q ∷ b) e ∙ ap (λ q. w ∷ q) h.0, h.1)
apart_cons z w b x c y e (inr (inl h)) = inr (inl (h.0, ap (λ q. q ∷ b) e ∙ ap (λ q. w ∷ q) h.1))
apart_cons z w b x c y e (inr (inr h)) = inr (inr (h.0, ap (λ q. q ∷ c) (sym e) ∙ ap (λ q. z ∷ q) h.1))

-- of any two splits
apart : (b : List Placed) (x : Placed) (a : List Placed) (c : List Placed) (y : Placed) (d : List Placed) → b ++ x ∷ a ≡ c ++ y ∷
    d → Apart b x c y
apart [] x a [] y d e = inl (refl, head_is x y a d e)
apart [] x a (w ∷ c) y d e = inr (inr (c, ap (λ q. q ∷ c) (sym (head_is x w a (c ++ y ∷ d) e))))
apart (z ∷ b) x a [] y d e = inr (inl (b, ap (λ q. q ∷ b) (head_is z y (b ++ x ∷ a) d e)))
apart (z ∷ b) x a (w ∷ c) y d e = apart_cons z w b x c y (head_is z w (b ++ x ∷ a) (c ++ y ∷ d) e)
    (apart b x a c y d (tail_is z w (b ++ x ∷ a) (c ++ y ∷ d) e))

-- numbers of which none is below the other are one
pub ranks_are : (m n : ℕ) → (m < n → ⊥) → (n < m → ⊥) → m ≡ n
ranks_are m n below above =
    elim (cases_lt m n) [
      | inl h ↦ absurd (below h)
      | inr h ↦ elim (cases_lt n m)
          [ inl k ↦ absurd (above k) | inr k ↦ omega (arith, h, k) ]
    ]

-- at one token there is one first fault
same_place : (items : List Placed) (f g : ReadFault) (h : IsFirstFault items f) (k : IsFirstFault items g) → h.before ≡ k.before →
    h.token ≡ k.token → f ≡ g
same_place items f g h k e x =
    let f_there : FaultAt k.before k.token f = subst (λ (t : Placed). FaultAt k.before t f) x (subst (λ b. FaultAt b h.token f) e h.here)
    in
    let g_here : FaultAt h.before h.token g = subst (λ (t : Placed). FaultAt h.before t g) (sym x)
    (subst (λ b. FaultAt b k.token g) (sym e) k.here) in
    let not_below : rank f < rank g → ⊥ = λ lt. k.none_above f lt f_there in
    let not_above : rank g < rank f → ⊥ = λ lt. h.none_above g lt g_here in
    let ranks : rank f ≡ rank g = ranks_are (rank f) (rank g) not_below not_above in
    fault_is k.before k.token f f_there ∙ ap (λ r. fault_of r k.token.at) ranks ∙ sym (fault_is k.before k.token g k.here)

-- One first fault.
pub one_fault : (items : List Placed) (f g : ReadFault) → IsFirstFault items f → IsFirstFault items g → f ≡ g
one_fault items f g h k =
    elim (apart h.before h.token h.after k.before k.token k.after (sym h.split ∙ k.split)) [
      | inl same ↦ same_place items f g h k same.0 same.1
      | inr (inl later) ↦ absurd (h.none_before k.before k.token later.0 g later.1 k.here)
      | inr (inr earlier) ↦ absurd (k.none_before h.before h.token earlier.0 f earlier.1 h.here)
    ]

-- A tree or a first fault, not both.
pub tree_or_fault : (items : List Placed) (t : NamedTree) (f : ReadFault) → Derives items t → IsFirstFault items f → ⊥
tree_or_fault items t f h k = derives_no_fault items t h k.before k.token k.after f k.split k.here
