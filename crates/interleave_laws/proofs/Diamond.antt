-- Two live tickets may move in either order.
-- Each move is an effect. Two effects of different tickets concern different keys, and then they commute but for the names of new
-- tickets; or they are both answers of one entry, and then the token that goes on has the other's ticket and is else the same.
use Rattle.std.proofs.Common.{◌≡◌, ◌≢◌, ◌⊎◌, ℕ, suc, ◌<◌, ◌≤◌, Bool, true, false, cond, List, [], ◌∷◌}
use Rattle.std.proofs.Common.{◌++◌, Option, Some, None, refl, sym, ap, ◌∙◌, subst, ⊎_elim, inl, inr, arith}
use Rattle.std.proofs.lemmas.Bool.{eq-eqb, ne_eqb, eqb-true, eqb-false, false_from_ne_true}
use Rattle.std.specs.Prelude.{nat_eq, if◌then◌else◌, slice_get}
use Rattle.pcf_values.specs.declared.val.Val.{Val}
use Rattle.pcf_values.specs.Values.{val_op}
use Rattle.pcf_values.specs.declared.operator.Operator.{Operator}
use Rattle.pcf_values.specs.declared.side.Side.{Side}
use Rattle.pcf_values.specs.declared.side.Side.TheVariants.{Left, Right}
use Rattle.token_stacks.specs.Signatures.{Work, Boxes}
use Rattle.fork_join.specs.Entries.{Entry, pending, has_left, has_right, kept_as, same_key}
use Rattle.net_build.specs.Nets.{NetTree}
use Rattle.net_build.specs.declared.node.Node.{Node}
use Rattle.net_build.specs.declared.node.Node.TheVariants.{Succ, Pred, Ifz, Root, Binary}
use Rattle.net_build.specs.Faces.{node_below}
use Rattle.net_build.specs.Sound.{Sound}
use Rattle.move_rules.specs.Places.{Place, up, down, turned, TokenTree, ask, ans}
use Rattle.move_rules.specs.Table.{on_found, plain_up, plain_down}
use Rattle.move_rules.specs.Moves.{Look, dead, constant, pass, one, test, two, look, Move, solo, fork, join, answer, stay, solo_at, or_stay}
use Rattle.move_rules.specs.Moves.{operand_down, ans_down, move, ask_move}
use Rattle.move_rules.proofs.Faces.{below_faced}
use Rattle.interleave_laws.specs.States.{Entries, other, State, start, step, step_on}
use Rattle.interleave_laws.specs.Runs.{Runs, LeadsTo}
use Rattle.interleave_laws.specs.Start.{start_of}
use Rattle.interleave_laws.specs.Bare.{StandsIn, SameBare}
use Rattle.interleave_laws.proofs.Parents.{binary_same}
use Rattle.fork_join.proofs.Keys.{key_true, key_same}
use Rattle.interleave_laws.proofs.Tree.{token_in, Effect, turn, opens, keeps, closes, on_tokens, on_entries, at_key, new_entry}
use Rattle.interleave_laws.proofs.Below.{Does}
use Rattle.interleave_laws.proofs.Effects.{Outcome}
use Rattle.interleave_laws.proofs.Reached.{ends, made_of, next_after, does_step, Accounted, out_of, reached}
use Rattle.interleave_laws.proofs.Running.{starts_of, run_append, low_tickets}

-- the effect of a move, by the entries
abbrev closed : ℕ → ℕ → Boxes → Option Val → Option Effect
closed n w s None = None
closed n w s (Some u) = Some (closes n s (ans u (down w [] s)))

-- the effect of a join, by its entry
abbrev joins : ℕ → Operator → Side → Val → ℕ → Boxes → Option Entry → Option Effect
joins n op d v w s None = None
joins n op d v w s (Some pending) = Some (keeps n s (kept_as d v))
joins n op d v w s (Some e) = closed n w s (other op e d v)

-- the effect of a fork, by its entry
abbrev forks : ℕ → Boxes → Place → Place → Option Entry → Option Effect
forks n s l r None = Some (opens n s l r)
forks n s l r (Some e) = None

-- the effect of a move
abbrev effect_of : Move → Entries → Option Effect
effect_of (solo k z) E = Some (turn z)
effect_of (fork n l r s) E = forks n s l r (E n s)
effect_of (join n op d v w s) E = joins n op d v w s (E n s)
effect_of (answer v) E = None
effect_of stay E = None

-- the second answer is an effect
closes_does : (n : ℕ) (op : Operator) (d : Side) (v : Val) (w : ℕ) (s : Boxes) (e : Entry) (u : Val) (y : TokenTree) →
    other op e d v ≡ Some u → y ≡ ans u (down w [] s) → joins n op d v w s (Some e) ≡ Some (closes n s y)
closes_does n op d v w s pending u y h q = cc
closes_does n op d v w s (has_left z) u y h q = ap (closed n w s) h ∙ ap (λ y. Some (closes n s y)) (sym q)
closes_does n op d v w s (has_right z) u y h q = ap (closed n w s) h ∙ ap (λ y. Some (closes n s y)) (sym q)

-- what a move does is its effect
does_effect : (net : NetTree) (E : Entries) (x : TokenTree) (e : Effect) → Does net E x e → effect_of (move net x) E ≡ Some e
does_effect net E x (turn y) (k, h) = ap (λ m. effect_of m E) h
does_effect net E x (opens n s l r) (h, g) = ap (λ m. effect_of m E) h ∙ ap (forks n s l r) g
does_effect net E x (keeps n s e) (op, d, v, w, h, g, q) = ap (λ m. effect_of m E) h ∙ ap (joins n op d v w s) g ∙
    ap (λ e. Some (keeps n s e)) (sym q)
does_effect net E x (closes n s y) (op, d, v, w, e, u, h, g, z, q) = ap (λ m. effect_of m E) h ∙ ap (joins n op d v w s) g ∙
    closes_does n op d v w s e u y z q

-- what becomes of the ticket, and the new ticket's token
abbrev self : Effect → Option TokenTree
self (turn x) = Some x
self (opens n s l r) = Some (ask l)
self (keeps n s e) = None
self (closes n s x) = Some x

abbrev born : Effect → Option TokenTree
born (opens n s l r) = Some (ask r)
born _ = None

module _ (S : State) (i : ℕ) where
  pub tokens_self : (e : Effect) → (i ≡ S.next → ⊥) → on_tokens e i S.next S.tokens i ≡ self e
  tokens_self (turn x) d = ap (λ b. cond b (Some x) (S.tokens i)) (eq-eqb i i refl)
  tokens_self (opens n s l r) d = ap (λ b. cond b (Some (ask r)) (if nat_eq i i then Some (ask l) else S.tokens i)) (ne_eqb i S.next d) ∙
      ap (λ b. cond b (Some (ask l)) (S.tokens i)) (eq-eqb i i refl)
  tokens_self (keeps n s e) d = ap (λ b. cond b None (S.tokens i)) (eq-eqb i i refl)
  tokens_self (closes n s x) d = ap (λ b. cond b (Some x) (S.tokens i)) (eq-eqb i i refl)

  pub tokens_born : (e : Effect) (x : TokenTree) → born e ≡ Some x → on_tokens e i S.next S.tokens S.next ≡ Some x
  tokens_born (turn y) x h = cc
  tokens_born (opens n s l r) x h = ap (λ b. cond b (Some (ask r)) (if nat_eq S.next i then Some (ask l) else S.tokens S.next))
      (eq-eqb S.next S.next refl) ∙ h
  tokens_born (keeps n s e) x h = cc
  tokens_born (closes n s y) x h = cc

  pub tokens_other : (e : Effect) (j : ℕ) → (j ≡ i → ⊥) → (j ≡ S.next → ⊥) →
      on_tokens e i S.next S.tokens j ≡ S.tokens j
  tokens_other (turn x) j d d' = ap (λ b. cond b (Some x) (S.tokens j)) (ne_eqb j i d)
  tokens_other (opens n s l r) j d d' = ap (λ b. cond b (Some (ask r)) (if nat_eq j i then Some (ask l) else S.tokens j))
      (ne_eqb j S.next d') ∙ ap (λ b. cond b (Some (ask l)) (S.tokens j)) (ne_eqb j i d)
  tokens_other (keeps n s e) j d d' = ap (λ b. cond b None (S.tokens j)) (ne_eqb j i d)
  tokens_other (closes n s x) j d d' = ap (λ b. cond b (Some x) (S.tokens j)) (ne_eqb j i d)

  -- where a token of the state after comes from
  pub tokens_from : (e : Effect) (j : ℕ) (x : TokenTree) → on_tokens e i S.next S.tokens j ≡ Some x →
      ((j ≡ i) × (self e ≡ Some x)) ⊎ (((j ≡ S.next) × (born e ≡ Some x)) ⊎ ((j ≡ i → ⊥) × (S.tokens j ≡ Some x)))
  tokens_from (turn y) j x = go (nat_eq j i) refl
    where
      go : (b : Bool) → nat_eq j i ≡ b → cond b (Some y) (S.tokens j) ≡ Some x → ((j ≡ i) × (Some y ≡ Some x)) ⊎
          (((j ≡ S.next) × (None ≡ Some x)) ⊎ ((j ≡ i → ⊥) × (S.tokens j ≡ Some x)))
      go true e h = inl (eqb-true j i e, h)
      go false e h = inr (inr (eqb-false j i e, h))
  tokens_from (opens n s l r) j x = go (nat_eq j S.next) (nat_eq j i) refl refl
    where
      go : (b c : Bool) → nat_eq j S.next ≡ b → nat_eq j i ≡ c →
          cond b (Some (ask r)) (cond c (Some (ask l)) (S.tokens j)) ≡ Some x → ((j ≡ i) × (Some (ask l) ≡ Some x)) ⊎
          (((j ≡ S.next) × (Some (ask r) ≡ Some x)) ⊎ ((j ≡ i → ⊥) × (S.tokens j ≡ Some x)))
      go true c e e' h = inr (inl (eqb-true j S.next e, h))
      go false true e e' h = inl (eqb-true j i e', h)
      go false false e e' h = inr (inr (eqb-false j i e', h))
  tokens_from (keeps n s y) j x = go (nat_eq j i) refl
    where
      go : (b : Bool) → nat_eq j i ≡ b → cond b None (S.tokens j) ≡ Some x → ((j ≡ i) × (None ≡ Some x)) ⊎
          (((j ≡ S.next) × (None ≡ Some x)) ⊎ ((j ≡ i → ⊥) × (S.tokens j ≡ Some x)))
      go true e h = cc
      go false e h = inr (inr (eqb-false j i e, h))
  tokens_from (closes n s y) j x = go (nat_eq j i) refl
    where
      go : (b : Bool) → nat_eq j i ≡ b → cond b (Some y) (S.tokens j) ≡ Some x → ((j ≡ i) × (Some y ≡ Some x)) ⊎
          (((j ≡ S.next) × (None ≡ Some x)) ⊎ ((j ≡ i → ⊥) × (S.tokens j ≡ Some x)))
      go true e h = inl (eqb-true j i e, h)
      go false e h = inr (inr (eqb-false j i e, h))

next_grows : (e : Effect) (nx : ℕ) → nx ≤ next_after e nx
next_grows (turn x) nx = omega arith
next_grows (opens n s l r) nx = omega arith
next_grows (keeps n s e) nx = omega arith
next_grows (closes n s x) nx = omega arith

born_grows : (e : Effect) (nx : ℕ) (x : TokenTree) → born e ≡ Some x → suc nx ≤ next_after e nx
born_grows (turn y) nx x h = cc
born_grows (opens n s l r) nx x h = omega arith
born_grows (keeps n s e) nx x h = cc
born_grows (closes n s y) nx x h = cc

-- the tokens after two moves, whatever the order
abbrev After : State → ℕ → ℕ → Effect → Effect → TokenTree → Type 0
After S i j e f x = (self e ≡ Some x) ⊎
    ((self f ≡ Some x) ⊎ ((born e ≡ Some x) ⊎
    ((born f ≡ Some x) ⊎ ((k : ℕ) × (k ≡ i → ⊥) × (k ≡ j → ⊥) × (S.tokens k ≡ Some x)))))

module _ (S : State) (i j : ℕ) (apart : i ≡ j → ⊥) (low : (k : ℕ) (x : TokenTree) → S.tokens k ≡ Some x →
    k < S.next) (li : i < S.next) (lj : j < S.next) where
  -- what is live after two effects
  after_two : (e f : Effect) (x : TokenTree) → StandsIn (made_of f (made_of e S i) j) x → After S i j e f x
  after_two e f x (k, h) =
      ⊎_elim (λ (_, q). inr (inl q)) (⊎_elim (λ (_, q). inr (inr (inr (inl q)))) (λ (d, q).
      ⊎_elim (λ (_, z). inl z) (⊎_elim (λ (_, z). inr (inr (inl z))) (λ (d', z). inr (inr (inr (inr (k, d', d, z))))))
      (tokens_from S i e k x q)))
      (tokens_from (made_of e S i) j f k x h)

  -- and the other way round
  two_after : (e f : Effect) (x : TokenTree) → After S i j e f x → StandsIn (made_of f (made_of e S i) j) x
  two_after e f x (inl h) =
      let g = next_grows e S.next in
      (i, tokens_other (made_of e S i) j f i apart (λ q. omega arith) ∙ tokens_self S i e (λ q. omega arith) ∙ h)
  two_after e f x (inr (inl h)) = let g = next_grows e S.next in (j, tokens_self (made_of e S i) j f (λ q. omega arith) ∙ h)
  two_after e f x (inr (inr (inl h))) =
      let g = born_grows e S.next x h in
      (S.next, tokens_other (made_of e S i) j f S.next (λ q. omega arith) (λ q. omega arith) ∙ tokens_born S i e x h)
  two_after e f x (inr (inr (inr (inl h)))) = (next_after e S.next, tokens_born (made_of e S i) j f x h)
  two_after e f x (inr (inr (inr (inr (k, d, d', h))))) =
      let g = next_grows e S.next in
      let l = low k x h in
      (k, tokens_other (made_of e S i) j f k d' (λ q. omega arith) ∙ tokens_other S i e k d (λ q. omega arith) ∙ h)

-- an effect changes the entries at its key alone
entries_other : (e : Effect) (E : Entries) (n : ℕ) (t : Boxes) → at_key e n t ≡ false → on_entries e E n t ≡ E n t
entries_other e E n t h = ap (λ b. cond b (new_entry e) (E n t)) h

entries_here : (e : Effect) (E : Entries) (n : ℕ) (t : Boxes) → at_key e n t ≡ true → on_entries e E n t ≡ new_entry e
entries_here e E n t h = ap (λ b. cond b (new_entry e) (E n t)) h

-- the key that a move reads
abbrev reads : Move → ℕ → Boxes → Bool
reads (solo k z) n t = false
reads (fork m l r s) n t = same_key n t m s
reads (join m op d v w s) n t = same_key n t m s
reads (answer v) n t = false
reads stay n t = false

-- no place has both keys
abbrev Clear : (ℕ → Boxes → Bool) → (ℕ → Boxes → Bool) → Type 0
Clear a b = (n : ℕ) (t : Boxes) → a n t ≡ true → b n t ≡ true → ⊥

-- the effect stays where the entry that it reads stays
same_effect : (m : Move) (E F : Entries) → ((n : ℕ) (t : Boxes) → reads m n t ≡ true → E n t ≡ F n t) →
    effect_of m E ≡ effect_of m F
same_effect (solo k z) E F h = refl
same_effect (fork n l r s) E F h = ap (forks n s l r) (h n s (key_same n s))
same_effect (join n op d v w s) E F h = ap (joins n op d v w s) (h n s (key_same n s))
same_effect (answer v) E F h = refl
same_effect stay E F h = refl

-- the effect of a join is at its key
joins_at : (n : ℕ) (op : Operator) (d : Side) (v : Val) (w : ℕ) (s : Boxes) (o : Option Entry) (e : Effect) →
    joins n op d v w s o ≡ Some e → (m : ℕ) (t : Boxes) → at_key e m t ≡ same_key m t n s
joins_at n op d v w s o e = go o
  where
    at : (f : Effect) → f ≡ e → (m : ℕ) (t : Boxes) → at_key e m t ≡ at_key f m t
    at f q m t = ap (λ e. at_key e m t) (sym q)

    last : (u : Option Val) → closed n w s u ≡ Some e → (m : ℕ) (t : Boxes) → at_key e m t ≡ same_key m t n s
    last None h = cc
    last (Some u) h = at (closes n s (ans u (down w [] s))) cc

    go : (o : Option Entry) → joins n op d v w s o ≡ Some e → (m : ℕ) (t : Boxes) → at_key e m t ≡ same_key m t n s
    go None h = cc
    go (Some pending) h = at (keeps n s (kept_as d v)) cc
    go (Some (has_left u)) h = last (other op (has_left u) d v) h
    go (Some (has_right u)) h = last (other op (has_right u) d v) h

-- the key of the effect is that of the move
key_reads : (m : Move) (E : Entries) (e : Effect) (n : ℕ) (t : Boxes) → effect_of m E ≡ Some e → at_key e n t ≡ true →
    reads m n t ≡ true
key_reads (solo k z) E e n t h g = let q : turn z ≡ e = cc in let r = ap (λ e. at_key e n t) q ∙ g in cc
key_reads (fork m l r s) E e n t h g = go (E m s) h
  where
    go : (o : Option Entry) → forks m s l r o ≡ Some e → same_key n t m s ≡ true
    go None h = let q : opens m s l r ≡ e = cc in ap (λ e. at_key e n t) q ∙ g
    go (Some z) h = cc
key_reads (join m op d v w s) E e n t h g = sym (joins_at m op d v w s (E m s) e h n t) ∙ g
key_reads (answer v) E e n t h g = cc
key_reads stay E e n t h g = cc

-- where both joins are at one node their conclusions are one
pub solo_no_join : (i : ℕ) (o : Option Place) (f : Place → TokenTree) (n : ℕ) (op : Operator) (d : Side) (v : Val) (w : ℕ) (s : Boxes) →
    solo_at i o f ≡ join n op d v w s → ⊥
solo_no_join i None f n op d v w s h = cc
solo_no_join i (Some p) f n op d v w s h = cc

ifz_no_join : (a b c : Bool) (x y z : Move) → (k : ℕ) (p q r : TokenTree) → x ≡ solo k p → y ≡ solo k q → z ≡ solo k r →
    (n : ℕ) (op : Operator) (d : Side) (v : Val) (w : ℕ) (s : Boxes) →
    or_stay (cond a x stay) (or_stay (cond b y stay) (cond c z stay)) ≡ join n op d v w s → ⊥
ifz_no_join true b c x y z k p q r ex ey ez n op d v w s h =
    let g : or_stay (solo k p) (or_stay (cond b y stay) (cond c z stay)) ≡ join n op d v w s =
    ap (λ x. or_stay x (or_stay (cond b y stay) (cond c z stay))) (sym ex) ∙ h in cc
ifz_no_join false true c x y z k p q r ex ey ez n op d v w s h =
    let g : or_stay (solo k q) (cond c z stay) ≡ join n op d v w s = ap (λ y. or_stay y (cond c z stay)) (sym ey) ∙ h in cc
ifz_no_join false false true x y z k p q r ex ey ez n op d v w s h = let g : solo k r ≡ join n op d v w s = sym ez ∙ h in cc
ifz_no_join false false false x y z k p q r ex ey ez n op d v w s h = cc

-- an answer that joins at an operator is one of that operator's node, by its number and its operator
operand_node : (i : ℕ) (op' : Operator) (x y c : ℕ) (value : Val) (wire : ℕ) (boxes : Boxes) (n : ℕ) (op : Operator) (side : Side)
    (operand : Val) (out : ℕ)
    (boxes' : Boxes) → operand_down i op' x y c value wire boxes ≡ join n op side operand out boxes' →
    (x' : ℕ) × (y' : ℕ) × (Binary op' x y c ≡ Binary op x' y' out) × (i ≡ n)
operand_node i op' x y c value wire boxes n op side operand out boxes' joins = go (nat_eq x wire) (nat_eq y wire) joins
  where
    same : (e : Side) → join i op' e value c boxes ≡ join n op side operand out boxes' → (x' : ℕ) × (y' : ℕ) ×
        (Binary op' x y c ≡ Binary op x' y' out) × (i ≡ n)
    same e h =
        let q : c ≡ out = cc in
        let o : op' ≡ op = cc in
        let r : i ≡ n = cc in
        (x, y, ap (Binary op' x y) q ∙ ap (λ o. Binary o x y out) o, r)

    go : (b e : Bool) → or_stay (cond b (join i op' Left value c boxes) stay) (cond e (join i op' Right value c boxes) stay)
        ≡ join n op side operand out boxes' → (x' : ℕ) × (y' : ℕ) × (Binary op' x y c ≡ Binary op x' y' out) × (i ≡ n)
    go true e h = same Left h
    go false true h = same Right h
    go false false h = cc

-- a join comes from its node's operand
join_node : (i : ℕ) (nd : Node) (u : Val) (a : ℕ) (m : Work) (t : Boxes) (n : ℕ) (op : Operator) (d : Side) (v : Val) (w : ℕ)
    (s : Boxes) → ans_down i nd u a m t ≡ join n op d v w s → (x : ℕ) × (y : ℕ) × (nd ≡ Binary op x y w) × (i ≡ n)
join_node i (Binary o x y c) u a [] t n op d v w s h = operand_node i o x y c u a t n op d v w s h
join_node i (Succ x c) u a [] t n op d v w s h = cc
join_node i (Pred x c) u a [] t n op d v w s h = cc
join_node i (Ifz b p q c) u a [] t n op d v w s h =
    absurd (ifz_no_join (nat_eq b a) (nat_eq p a) (nat_eq q a) _ _ _ i _ _ _ refl refl refl n op d v w s h)
join_node i (Root c) u a [] t n op d v w s h = cc
join_node i nd u a m t n op d v w s h = absurd (solo_no_join i (plain_down nd a m t) (ans u) n op d v w s h)

-- a move at a node that was found
found_move : (o : Option (ℕ × Node)) (f : ℕ → Node → Move) (m : Move) → (m ≡ stay → ⊥) → on_found o stay f ≡ m →
    (i : ℕ) × (n : Node) × (o ≡ Some (i, n)) × (f i n ≡ m)
found_move None f m c h = absurd (c (sym h))
found_move (Some p) f m c h = (p.0, p.1, refl, h)

pub ask_no_join : (l : Look) (p : Place) (n : ℕ) (op : Operator) (d : Side) (v : Val) (w : ℕ) (s : Boxes) →
    ask_move l p ≡ join n op d v w s → ⊥
ask_no_join dead p n op d v w s h = cc
ask_no_join (constant k x) p n op d v w s h = cc
ask_no_join (pass k q) p n op d v w s h = cc
ask_no_join (one k f q) p n op d v w s h = cc
ask_no_join (test k c a b) p n op d v w s h = cc
ask_no_join (two k o t a b) p n op d v w s h = cc

node_at : (net : NetTree) (i n : ℕ) (nd : Node) (op : Operator) (w : ℕ) → (x : ℕ) × (y : ℕ) × (nd ≡ Binary op x y w) ×
    (i ≡ n) → slice_get net.nodes i ≡ Some nd → (a b : ℕ) × (slice_get net.nodes n ≡ Some (Binary op a b w))
node_at net i n nd op w (x, y, q, r) h = (x, y, subst (λ n. slice_get net.nodes n ≡ Some (Binary op x y w)) r (h ∙ ap Some q))

-- a join is at a node of its operation and its conclusion
join_out : (net : NetTree) → Sound net → (x : TokenTree) (n : ℕ) (op : Operator) (d : Side) (v : Val) (w : ℕ) (s : Boxes) →
    move net x ≡ join n op d v w s → (a b : ℕ) × (slice_get net.nodes n ≡ Some (Binary op a b w))
join_out net sound (ask p) n op d v w s h = absurd (ask_no_join (look net p) p n op d v w s h)
join_out net sound (ans u (up c m t)) n op d v w s h =
    let (i, nd, e, g) = found_move _ (λ i n. solo_at i (plain_up n c m t) (ans u)) (join n op d v w s) (λ z. cc) h in
    absurd (solo_no_join i (plain_up nd c m t) (ans u) n op d v w s g)
join_out net sound (ans u (down c m t)) n op d v w s h =
    let (i, nd, e, g) = found_move (node_below net c) (λ i n. ans_down i n u c m t) (join n op d v w s) (λ z. cc) h in
    let (f, z, _) = below_faced net sound c i nd e in
    node_at net i n nd op w (join_node i nd u c m t n op d v w s g) (subst (λ k. slice_get net.nodes k ≡ Some nd) z f.stands)

-- two answers of one entry
record Meet (n : ℕ) (s : Boxes) (e f e' f' : Effect) : Type 0 where
  k1 : Entry
  k2 : Entry
  out : TokenTree
  first : e ≡ keeps n s k1
  second : f ≡ keeps n s k2
  last : f' ≡ closes n s out
  other_last : e' ≡ closes n s out

-- no join follows the second answer of an entry
last_once : {A : Type 0} (n : ℕ) (op : Operator) (s : Boxes) (w : ℕ) (d : Side) (v : Val) (o : Option Val) (e f : Effect) →
    closed n w s o ≡ Some e → joins n op d v w s (new_entry e) ≡ Some f → A
last_once n op s w d v None e f h g = cc
last_once n op s w d v (Some u) e f h g =
    let p : closes n s (ans u (down w [] s)) ≡ e = cc in
    let bad : None ≡ Some f = ap (λ e. joins n op d v w s (new_entry e)) p ∙ g in absurd cc

-- two answers of one entry
two_joins : (n : ℕ) (op : Operator) (s : Boxes) (w : ℕ) (d d' : Side) (v v' : Val) (o : Option Entry) (e f e' f' : Effect) →
    joins n op d v w s o ≡ Some e → joins n op d' v' w s o ≡ Some f → joins n op d' v' w s (new_entry e) ≡ Some f' →
    joins n op d v w s (new_entry f) ≡ Some e' → Meet n s e f e' f'
two_joins n op s w d d' v v' None e f e' f' h g h' g' = cc
two_joins n op s w d d' v v' (Some pending) e f e' f' h g h' g' =
    go d d' (sym pe) (sym pf) (sym (ap (λ e. joins n op d' v' w s (new_entry e)) pe) ∙
    h') (sym (ap (λ f. joins n op d v w s (new_entry f)) pf) ∙ g')
  where
    pe : e ≡ keeps n s (kept_as d v)
    pe = cc

    pf : f ≡ keeps n s (kept_as d' v')
    pf = cc

    go : (d d' : Side) → keeps n s (kept_as d v) ≡ e → keeps n s (kept_as d' v') ≡ f →
        joins n op d' v' w s (Some (kept_as d v)) ≡ Some f' → joins n op d v w s (Some (kept_as d' v')) ≡ Some e' →
        Meet n s e f e' f'
    go Left Left a b h g = cc
    go Right Right a b h g = cc
    go Left Right a b h g = record {
      k1 = has_left v;
      k2 = has_right v';
      out = ans (val_op op v v') (down w [] s);
      first = sym a;
      second = sym b;
      last = cc;
      other_last = cc;
    }
    go Right Left a b h g = record {
      k1 = has_right v;
      k2 = has_left v';
      out = ans (val_op op v' v) (down w [] s);
      first = sym a;
      second = sym b;
      last = cc;
      other_last = cc;
    }
two_joins n op s w d d' v v' (Some (has_left u)) e f e' f' h g h' g' = last_once n op s w d' v' (other op (has_left u) d v) e f' h h'
two_joins n op s w d d' v v' (Some (has_right u)) e f e' f' h g h' g' = last_once n op s w d' v' (other op (has_right u) d v) e f' h h'

-- their order makes no difference to that
swap_after : (S : State) (i j : ℕ) (e f : Effect) (x : TokenTree) → After S i j e f x → After S j i f e x
swap_after S i j e f x (inl h) = inr (inl h)
swap_after S i j e f x (inr (inl h)) = inl h
swap_after S i j e f x (inr (inr (inl h))) = inr (inr (inr (inl h)))
swap_after S i j e f x (inr (inr (inr (inl h)))) = inr (inr (inl h))
swap_after S i j e f x (inr (inr (inr (inr (k, d, d', h))))) = inr (inr (inr (inr (k, d', d, h))))

module _ (S : State) (i j : ℕ) (apart : i ≡ j → ⊥) (low : (k : ℕ) (x : TokenTree) → S.tokens k ≡ Some x →
    k < S.next) (li : i < S.next) (lj : j < S.next) where
  -- moves whose effects are at different keys
  commute : (e f : Effect) → Clear (at_key e) (at_key f) → SameBare (made_of f (made_of e S i) j) (made_of e (made_of f S j) i)
  commute e f clear = record {
    stays = λ x h. two_after S j i (λ q. apart (sym q)) low lj li f e x
        (swap_after S i j e f x (after_two S i j apart low li lj e f x h));
    back = λ x h. two_after S i j apart low li lj e f x (swap_after S j i f e x (after_two S j i (λ q. apart (sym q)) low lj li f e x h));
    entries = λ n t. go (at_key e n t) (at_key f n t) (clear n t) (new_entry e) (new_entry f) (S.entries n t);
    answered = refl;
  }
    where
      go : (b c : Bool) → (b ≡ true → c ≡ true → ⊥) → (x y z : Option Entry) →
          cond c y (cond b x z) ≡ cond b x (cond c y z)
      go true true h x y z = absurd (h refl refl)
      go true false h x y z = refl
      go false true h x y z = refl
      go false false h x y z = refl

  -- the two answers of one entry
  meet : (n : ℕ) (s : Boxes) (k1 k2 : Entry) (out : TokenTree) →
      SameBare (made_of (closes n s out) (made_of (keeps n s k1) S i) j) (made_of (closes n s out) (made_of (keeps n s k2) S j) i)
  meet n s k1 k2 out = record {
    stays = λ x h. two_after S j i (λ q. apart (sym q)) low lj li (keeps n s k2) (closes n s out) x
        (go i j k1 k2 x (after_two S i j apart low li lj (keeps n s k1) (closes n s out) x h));
    back = λ x h. two_after S i j apart low li lj (keeps n s k1) (closes n s out) x
        (go j i k2 k1 x (after_two S j i (λ q. apart (sym q)) low lj li (keeps n s k2) (closes n s out) x h));
    entries = λ m t. same (same_key m t n s) (S.entries m t);
    answered = refl;
  }
    where
      go : (i j : ℕ) (k1 k2 : Entry) (x : TokenTree) → After S i j (keeps n s k1) (closes n s out) x →
          After S j i (keeps n s k2) (closes n s out) x
      go i j k1 k2 x (inl h) = inl h
      go i j k1 k2 x (inr (inl h)) = inr (inl h)
      go i j k1 k2 x (inr (inr (inl h))) = inr (inr (inl h))
      go i j k1 k2 x (inr (inr (inr (inl h)))) = inr (inr (inr (inl h)))
      go i j k1 k2 x (inr (inr (inr (inr (k, d, d', h))))) = inr (inr (inr (inr (k, d', d, h))))

      same : (b : Bool) (z : Option Entry) → cond b None (cond b (Some k1) z) ≡ cond b None (cond b (Some k2) z)
      same true z = refl
      same false z = refl

-- effects of different keys
clear_keys : (n : ℕ) (s : Boxes) (m : ℕ) (t : Boxes) → same_key n s m t ≡ false →
    Clear (λ k u. same_key k u n s) (λ k u. same_key k u m t)
clear_keys n s m t h k u a b =
    let (p, q) = key_true k u n s a in
    let (p', q') = key_true k u m t b in
    let same : same_key n s m t ≡ true = ap (λ n. same_key n s m t) (sym p ∙ p') ∙ ap (λ s. same_key m s m t) (sym q ∙ q') ∙
    key_same m t in
    let bad : true ≡ false = sym same ∙ h in cc

-- the moves read different entries, or they are the two answers of one entry; E is before, F after the first and G after the second
abbrev Verdict : Move → Move → Effect → Effect → Effect → Effect → Type 0
Verdict m l e f e' f' = Clear (reads m) (reads l) ⊎ ((n : ℕ) × (s : Boxes) × Meet n s e f e' f')

-- two effects are of different keys, or join at one entry
keyed : (net : NetTree) → Sound net → (x y : TokenTree) (entries : Entries) (m second_move : Move) → move net x ≡ m →
    move net y ≡ second_move →
    (e f e' f' : Effect) →
    effect_of m entries ≡ Some e → effect_of second_move entries ≡ Some f → effect_of second_move (on_entries e entries) ≡ Some f' →
    effect_of m (on_entries f entries) ≡ Some e' → Verdict m second_move e f e' f'
keyed net sound x y entries (solo k z) second_move moves moves' e f e' f' first second second_after first_after = inl (λ n t h g. cc)
keyed net sound x y entries (answer v) second_move moves moves' e f e' f' first second second_after first_after = cc
keyed net sound x y entries stay second_move moves moves' e f e' f' first second second_after first_after = cc
keyed net sound x y entries (fork n i r s) (solo k z) moves moves' e f e' f' first second second_after first_after = inl (λ n t h g. cc)
keyed net sound x y entries (fork n i r s) (answer v) moves moves' e f e' f' first second second_after first_after = cc
keyed net sound x y entries (fork n i r s) stay moves moves' e f e' f' first second second_after first_after = cc
keyed net sound x y entries (join n op g v w s) (solo k z) moves moves' e f e' f' first second second_after first_after =
    inl (λ n t h g. cc)
keyed net sound x y entries (join n op g v w s) (answer u) moves moves' e f e' f' first second second_after first_after = cc
keyed net sound x y entries (join n op g v w s) stay moves moves' e f e' f' first second second_after first_after = cc
keyed net sound x y entries (fork n i r s) (fork m i' r' t) moves moves' e f e' f' first second second_after first_after =
    go (same_key m t n s) refl (entries n s) first
  where
    go : (o : Bool) → same_key m t n s ≡ o → (z : Option Entry) → forks n s i r z ≡ Some e →
        Verdict (fork n i r s) (fork m i' r' t) e f e' f'
    go false o z h = inl (λ k u a b. clear_keys m t n s o k u b a)
    go true o (Some z) h = cc
    go true o None h =
        let pe : e ≡ opens n s i r = cc in
        let at : at_key e m t ≡ true = ap (λ e. at_key e m t) pe ∙ o in
        let now : on_entries e entries m t ≡ Some pending = entries_here e entries m t at ∙ ap new_entry pe in
        let bad : None ≡ Some f' = sym (ap (forks m t i' r') now) ∙ second_after in cc
keyed net sound x y entries (fork n i r s) (join m op g v w t) moves moves' e f e' f' first second second_after first_after =
    go (same_key m t n s) refl (entries n s) refl first
  where
    go : (o : Bool) → same_key m t n s ≡ o → (z : Option Entry) → entries n s ≡ z → forks n s i r z ≡ Some e →
        Verdict (fork n i r s) (join m op g v w t) e f e' f'
    go false o z y h = inl (λ k u a b. clear_keys m t n s o k u b a)
    go true o (Some z) y h = cc
    go true o None y h =
        let (k, k') = key_true m t n s o in
        let none : entries m t ≡ None = ap (λ m. entries m t) k ∙ ap (entries n) k' ∙ y in
        let bad : None ≡ Some f = sym (ap (joins m op g v w t) none) ∙ second in cc
keyed net sound x y entries (join n op g v w s) (fork m i r t) moves moves' e f e' f' first second second_after first_after =
    go (same_key n s m t) refl (entries m t) refl second
  where
    go : (o : Bool) → same_key n s m t ≡ o → (z : Option Entry) → entries m t ≡ z → forks m t i r z ≡ Some f →
        Verdict (join n op g v w s) (fork m i r t) e f e' f'
    go false o z y h = inl (λ k u a b. clear_keys n s m t o k u a b)
    go true o (Some z) y h = cc
    go true o None y h =
        let (k, k') = key_true n s m t o in
        let none : entries n s ≡ None = ap (λ n. entries n s) k ∙ ap (entries m) k' ∙ y in
        let bad : None ≡ Some e = sym (ap (joins n op g v w s) none) ∙ first in cc
keyed net sound x y entries (join n op g v w s) (join m op' g' v' w' t) moves moves' e f e' f' first second second_after first_after =
    go (same_key m t n s) refl
  where
    go : (o : Bool) → same_key m t n s ≡ o → Verdict (join n op g v w s) (join m op' g' v' w' t) e f e' f'
    go false o = inl (λ k u a b. clear_keys m t n s o k u b a)
    go true o =
        let (k, k') = key_true m t n s o in
        let (a1, a2, st) = join_out net sound x n op g v w s moves in
        let (b1, b2, st') = join_out net sound y m op' g' v' w' t moves' in
        let same : Binary op a1 a2 w ≡ Binary op' b1 b2 w' =
        let e : Some (Binary op a1 a2 w) ≡ Some (Binary op' b1 b2 w') = sym st ∙ ap (slice_get net.nodes) (sym k) ∙
        st' in cc in
        let (y, z) = binary_same op op' a1 a2 w b1 b2 w' same in
        let there : (E : Entries) → joins m op' g' v' w' t (E m t) ≡ joins n op g' v' w s (E n s) =
        λ E. ap (λ m. joins m op' g' v' w' t (E m t)) k ∙ ap (λ t. joins n op' g' v' w' t (E n t)) k' ∙
        ap (λ w. joins n op' g' v' w s (E n s)) (sym z) ∙ ap (λ op. joins n op g' v' w s (E n s)) (sym y) in
        let second' : joins n op g' v' w s (entries n s) ≡ Some f = sym (there entries) ∙ second in
        let ke = joins_at n op g v w s (entries n s) e first n s ∙ key_same n s in
        let kf = joins_at n op g' v' w s (entries n s) f second' n s ∙ key_same n s in
        let second_after' : joins n op g' v' w s (new_entry e) ≡ Some f' = sym (ap (joins n op g' v' w s) (entries_here e entries n s ke)) ∙
        sym (there (on_entries e entries)) ∙ second_after in
        let first_after' : joins n op g v w s (new_entry f) ≡ Some e' =
        sym (ap (joins n op g v w s) (entries_here f entries n s kf)) ∙ first_after in
        inr (n, s, two_joins n op s w g g' v v' (entries n s) e f e' f' first second' second_after' first_after')

module _ (net : NetTree) (runs : Runs net) where
  -- a live ticket's effect, where another is live
  live_effect : {n : ℕ} (S : State) (i j : ℕ) (x y : TokenTree) → Accounted net (start_of net) n S → (move net x ≢ stay) →
      S.tokens i ≡ Some x → S.tokens j ≡ Some y → (i ≡ j → ⊥) → (e : Effect) × Does net S.entries x e
  live_effect S i j x y (inr o) m ex ey d = let bad : None ≡ Some x = sym (o.no_tokens i) ∙ ex in absurd cc
  live_effect {n} S i j x y (inl (t, live)) m ex ey d =
      go (out_of net runs.sound (start_of net) (starts_of net runs.sound) n i S x t live ex)
    where
      go : Outcome net S.entries i S.next x t (start_of net) → (e : Effect) × Does net S.entries x e
      go (inl (v, k, q, z)) =
          let h : cond (nat_eq j i) (Some (ans v (turned (start_of net)))) None ≡ Some y =
          ap (λ t. token_in t (start_of net) j) (sym q) ∙ sym (live.has_tokens j) ∙ ey in
          let f = ne_eqb j i (λ r. d (sym r)) in
          let bad : None ≡ Some y = sym (ap (λ b. cond b (Some (ans v (turned (start_of net)))) None) f) ∙ h in absurd cc
      go (inr (inl (q, z, l))) = absurd (m (ap (move net) z ∙ ap (λ l. ask_move l q) l))
      go (inr (inr g)) = (g.effect, g.does)

  -- the effect of a ticket that doesn't end the run
  next_effect : {n : ℕ} (S : State) (j : ℕ) (y : TokenTree) (E : Entries) (f : Effect) → Accounted net (start_of net) n S →
      (move net y ≢ stay) → S.tokens j ≡ Some y → effect_of (move net y) E ≡ Some f → (e : Effect) × Does net S.entries y e
  next_effect S j y E f (inr o) m ey h = let bad : None ≡ Some y = sym (o.no_tokens j) ∙ ey in absurd cc
  next_effect {n} S j y E f (inl (t, live)) m ey h = go (out_of net runs.sound (start_of net) (starts_of net runs.sound) n j S y t live ey)
    where
      go : Outcome net S.entries j S.next y t (start_of net) → (e : Effect) × Does net S.entries y e
      go (inl (v, k, q, z)) =
          let a : move net y ≡ answer v = ap (move net) z ∙ ends net runs.sound (start_of net) (starts_of net runs.sound) v in
          let bad : None ≡ Some f = ap (λ m. effect_of m E) (sym a) ∙ h in absurd cc
      go (inr (inl (q, z, l))) = absurd (m (ap (move net) z ∙ ap (λ l. ask_move l q) l))
      go (inr (inr g)) = (g.effect, g.does)

  -- two live tickets may move in either order
  pub diamond : (log : List ℕ) (S : State) → LeadsTo net log S → (i j : ℕ) (x y : TokenTree) → S.tokens i ≡ Some x →
      S.tokens j ≡ Some y → i ≢ j →
      (S1 S12 S2 S21 : State) × (step net S i ≡ Some S1) × (step net S1 j ≡ Some S12) × (step net S j ≡ Some S2) ×
      (step net S2 i ≡ Some S21) × SameBare S12 S21
  diamond log S h i j x y ex ey d =
      let s = starts_of net runs.sound in
      let inv = reached net runs.sound (start_of net) s log S h in
      let mx = runs.moves log S h i x ex in
      let my = runs.moves log S h j y ey in
      let (e, de) = live_effect S i j x y inv mx ex ey d in
      let (f, df) = live_effect S j i y x inv my ey ex (λ q. d (sym q)) in
      let fe = does_effect net S.entries x e de in
      let ff = does_effect net S.entries y f df in
      let S1 = made_of e S i in
      let S2 = made_of f S j in
      let low = low_tickets net runs.sound S inv in
      let li = low i x ex in
      let lj = low j y ey in
      let one : step net S i ≡ Some S1 = ap (λ o. step_on net o S i) ex ∙ does_step net S i x e de in
      let two : step net S j ≡ Some S2 = ap (λ o. step_on net o S j) ey ∙ does_step net S j y f df in
      let h1 = run_append net log (start (start_of net)) S S1 i h one in
      let h2 = run_append net log (start (start_of net)) S S2 j h two in
      let ey1 : S1.tokens j ≡ Some y = tokens_other S i e j (λ q. d (sym q)) (λ q. omega arith) ∙ ey in
      let ex2 : S2.tokens i ≡ Some x = tokens_other S j f i d (λ q. omega arith) ∙ ex in
      let (f', df') = next_effect S1 j y S.entries f (reached net runs.sound (start_of net) s (log ++ i ∷ []) S1 h1) my ey1 ff in
      let (e', de') = next_effect S2 i x S.entries e (reached net runs.sound (start_of net) s (log ++ j ∷ []) S2 h2) mx ex2 fe in
      let ff' = does_effect net S1.entries y f' df' in
      let fe' = does_effect net S2.entries x e' de' in
      let then_j : step net S1 j ≡ Some (made_of f' S1 j) = ap (λ o. step_on net o S1 j) ey1 ∙ does_step net S1 j y f' df' in
      let then_i : step net S2 i ≡ Some (made_of e' S2 i) = ap (λ o. step_on net o S2 i) ex2 ∙ does_step net S2 i x e' de' in (
        S1,
        made_of f' S1 j,
        S2,
        made_of e' S2 i,
        one,
        then_j,
        two,
        then_i,
        same S i j d low li lj e f e' f' (move net x) (move net y) fe ff ff' fe'
            (keyed net runs.sound x y S.entries (move net x) (move net y) refl refl e f e' f' fe ff ff' fe'),
      )
    where
      same : (S : State) (i j : ℕ) → (i ≡ j → ⊥) → ((k : ℕ) (x : TokenTree) → S.tokens k ≡ Some x → k < S.next) →
          i < S.next → j < S.next → (e f e' f' : Effect) (m l : Move) →
          effect_of m S.entries ≡ Some e → effect_of l S.entries ≡ Some f → effect_of l (on_entries e S.entries) ≡ Some f' →
          effect_of m (on_entries f S.entries) ≡ Some e' →
          Verdict m l e f e' f' → SameBare (made_of f' (made_of e S i) j) (made_of e' (made_of f S j) i)
      same S i j d low li lj e f e' f' m l fe ff ff' fe' (inl clear) =
          let keep_l : effect_of l (on_entries e S.entries) ≡ effect_of l S.entries =
          same_effect l _ _ (λ n t r. entries_other e S.entries n t
          (false_from_ne_true (at_key e n t) (λ k. clear n t (key_reads m S.entries e n t fe k) r))) in
          let keep_m : effect_of m (on_entries f S.entries) ≡ effect_of m S.entries =
          same_effect m _ _ (λ n t r. entries_other f S.entries n t
          (false_from_ne_true (at_key f n t) (λ k. clear n t r (key_reads l S.entries f n t ff k)))) in
          let qf : Some f ≡ Some f' = sym (keep_l ∙ ff) ∙ ff' in
          let qe : Some e ≡ Some e' = sym (keep_m ∙ fe) ∙ fe' in
          let pf : f ≡ f' = cc in
          let pe : e ≡ e' = cc in
          subst (λ f'. SameBare (made_of f' (made_of e S i) j) (made_of e' (made_of f S j) i)) pf
          (subst (λ e'. SameBare (made_of f (made_of e S i) j) (made_of e' (made_of f S j) i)) pe
          (commute S i j d low li lj e f (λ n t a b. clear n t (key_reads m S.entries e n t fe a) (key_reads l S.entries f n t ff b))))
      same S i j d low li lj e f e' f' m l fe ff ff' fe' (inr (n, s, g)) =
          subst (λ f'. SameBare (made_of f' (made_of e S i) j) (made_of e' (made_of f S j) i)) (sym g.last)
          (subst (λ e'. SameBare (made_of (closes n s g.out) (made_of e S i) j) (made_of e' (made_of f S j) i)) (sym g.other_last)
          (subst (λ e. SameBare (made_of (closes n s g.out) (made_of e S i) j) (made_of (closes n s g.out) (made_of f S j) i))
          (sym g.first)
          (subst (λ f. SameBare (made_of (closes n s g.out) (made_of (keeps n s g.k1) S i) j)
          (made_of (closes n s g.out) (made_of f S j) i)) (sym g.second)
          (meet S i j d low li lj n s g.k1 g.k2 g.out))))
