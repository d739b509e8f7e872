-- Ranks in a state, and what a unit of time does to them.
-- A unit moves each of its tickets once, so that no rank rises by more than one above the greatest; and a unit that leaves no live ticket
-- out raises the least.
use Rattle.std.proofs.Common.{◌≡◌, ◌≢◌, ◌⊎◌, ℕ, suc, ◌<◌, ◌≤◌, Bool, true, false, cond, List, [], ◌∷◌, ◌++◌}
use Rattle.std.proofs.Common.{Option, Some, None, refl, sym, ap, ◌∙◌, subst, ⊎_elim, inl, inr, arith}
use Rattle.std.proofs.lemmas.Bool.{eqb-true, eqb-false}
use Rattle.std.specs.Prelude.{nat_eq}
use Rattle.std.proofs.lemmas.Option.{same_Some}
use Rattle.pcf_values.specs.declared.val.Val.{Val}
use Rattle.pcf_values.specs.declared.operator.Operator.{Operator}
use Rattle.pcf_values.specs.declared.side.Side.{Side}
use Rattle.token_stacks.specs.Signatures.{Boxes}
use Rattle.net_build.specs.Nets.{NetTree}
use Rattle.net_build.specs.Sound.{Sound}
use Rattle.fork_join.specs.Entries.{Entry, pending, has_left, has_right, kept_as, same_key}
use Rattle.fork_join.proofs.Keys.{key_true}
use Rattle.move_rules.specs.Places.{Place, down, TokenTree, ask, ans}
use Rattle.move_rules.specs.Moves.{Move, solo, fork, join, answer, stay, move}
use Rattle.interleave_laws.specs.Start.{start_of}
use Rattle.interleave_laws.specs.States.{Tokens, Entries, set_token, set_entry, other, State, start, step, step_on, run}
use Rattle.interleave_laws.specs.States.{act, fork_on, last_on, join_on}
use Rattle.interleave_laws.specs.Runs.{Runs, LeadsTo}
use Rattle.interleave_laws.specs.Asked.{Member}
use Rattle.interleave_laws.proofs.Running.{low, run_append}
use Rattle.round_laws.specs.Units.{IsUnit, IsWhole}
use Rattle.round_laws.proofs.Listing.{member_or_not}
use Rattle.round_laws.proofs.Rounding.{unit_rest}
use Rattle.round_laws.proofs.Begins.{Takes, at_start}
use Rattle.round_laws.proofs.Ranks.{Ranks, Goes, KeptAt, goes, kept_at, kept_more, second}
use Rattle.interleave_laws.proofs.Reached.{from_run}

-- the ranks of a state: each live ticket has one of which f holds, what is kept has at most k, and an answer had one below a
pub record Timed (net : NetTree) (S : State) (k a : ℕ) (f : ℕ → ℕ → Type 0) : Type 0 where
  pub tokens : (j : ℕ) (x : TokenTree) → S.tokens j ≡ Some x → (n : ℕ) × Ranks net x n × f j n
  pub entries : (i : ℕ) (t : Boxes) (e : Entry) → S.entries i t ≡ Some e → KeptAt net i t e k
  pub answered : (v : Val) → S.answered ≡ Some v → (n : ℕ) × Takes net (start_of net) v n × (n < a)

-- where a token comes from after a write
from_set : (f : Tokens) (i j : ℕ) (o : Option TokenTree) (x : TokenTree) → set_token f i o j ≡ Some x →
    ((j ≡ i) × (o ≡ Some x)) ⊎ ((j ≡ i → ⊥) × (f j ≡ Some x))
from_set f i j o x h = go (nat_eq j i) refl h
  where
    go : (b : Bool) → nat_eq j i ≡ b → cond b o (f j) ≡ Some x → ((j ≡ i) × (o ≡ Some x)) ⊎ ((j ≡ i → ⊥) × (f j ≡ Some x))
    go true e h = inl (eqb-true j i e, h)
    go false e h = inr (eqb-false j i e, h)

from_entry : (g : Entries) (i : ℕ) (t : Boxes) (o : Option Entry) (m : ℕ) (s : Boxes) (e : Entry) →
    set_entry g i t o m s ≡ Some e → ((m ≡ i) × (s ≡ t) × (o ≡ Some e)) ⊎ (g m s ≡ Some e)
from_entry g i t o m s e h = go (same_key m s i t) refl h
  where
    go : (b : Bool) → same_key m s i t ≡ b → cond b o (g m s) ≡ Some e → ((m ≡ i) × (s ≡ t) × (o ≡ Some e)) ⊎ (g m s ≡ Some e)
    go true z h = let (a, b) = key_true m s i t z in inl (a, b, h)
    go false z h = inr h

module _ (net : NetTree) (sound : Sound net) (S : State) (k a : ℕ) (f g : ℕ → ℕ → Type 0) (timed : Timed net S k a f) (i : ℕ)
    (x : TokenTree) (n : ℕ) (here : S.tokens i ≡ Some x) (ranks : Ranks net x n) (most : n ≤ k) (early : k < a)
    (mine : (m : ℕ) → n ≤ m → m ≤ k → g i (suc m)) (new : g S.next (suc n)) (rest : (j m : ℕ) → j ≢ i → f j m → g j m) where
  -- the tokens after a write at the ticket
  one_written : (o : Option TokenTree) → ((y : TokenTree) → o ≡ Some y → (m : ℕ) × Ranks net y m × g i m) → (j : ℕ) (y : TokenTree) →
      set_token S.tokens i o j ≡ Some y → (m : ℕ) × Ranks net y m × g j m
  one_written o own j y h =
      ⊎_elim (λ (q, e). let (m, r, z) = own y e in (m, r, subst (λ j. g j m) (sym q) z))
      (λ (d, e). let (m, r, z) = timed.tokens j y e in (m, r, rest j m d z)) (from_set S.tokens i j o y h)

  none_there : (y : TokenTree) → None ≡ Some y → (m : ℕ) × Ranks net y m × g i m
  none_there y h = absurd cc

  one_there : (z : TokenTree) (m : ℕ) → Ranks net z m → g i m → (y : TokenTree) → Some z ≡ Some y → (m : ℕ) × Ranks net y m × g i m
  one_there z m r q y h = let e : z ≡ y = cc in (m, subst (λ y. Ranks net y m) e r, q)

  -- the entries after a write
  written : (q : ℕ) (t : Boxes) (o : Option Entry) → ((e : Entry) → o ≡ Some e → KeptAt net q t e k) → (m : ℕ) (s : Boxes) (e : Entry) →
      set_entry S.entries q t o m s ≡ Some e → KeptAt net m s e k
  written q t o own m s e h =
      ⊎_elim (λ (a, b, c). subst (λ m. KeptAt net m s e k) (sym a) (subst (λ s. KeptAt net q s e k) (sym b) (own e c)))
      (λ h. timed.entries m s e h) (from_entry S.entries q t o m s e h)

  no_entry : (q : ℕ) (t : Boxes) (e : Entry) → None ≡ Some e → KeptAt net q t e k
  no_entry q t e h = absurd cc

  one_entry : (q : ℕ) (t : Boxes) (z e : Entry) → KeptAt net q t z k → Some z ≡ Some e → KeptAt net q t e k
  one_entry q t z e r h = let y : z ≡ e = cc in subst (λ e. KeptAt net q t e k) y r

  become : (T U : State) → Some T ≡ Some U → Timed net T k a g → Timed net U k a g
  become T U h t = subst (λ T. Timed net T k a g) (same_Some T U h) t

  -- the second answer
  last_timed : (o : Option Val) (T : State) (q w : ℕ) (t : Boxes) →
      ((u : Val) → o ≡ Some u → (m : ℕ) × (n ≤ m) × (m ≤ k) × Ranks net (ans u (down w [] t)) (suc m)) →
      last_on o S i q w t ≡ Some T → Timed net T k a g
  last_timed None T q w t r h = absurd cc
  last_timed (Some u) T q w t r h =
      let (m, l, b, c) = r u refl in
      become _ T h (record {
        tokens = one_written (Some (ans u (down w [] t))) (one_there (ans u (down w [] t)) (suc m) c (mine m l b));
        entries = written q t None (no_entry q t);
        answered = timed.answered;
      })

  join_timed : (e : Option Entry) (T : State) (q : ℕ) (op : Operator) (s : Side) (v : Val) (w : ℕ) (t : Boxes) → S.entries q t ≡ e →
      Goes net n (join q op s v w t) → join_on e S i q op s v w t ≡ Some T → Timed net T k a g
  join_timed None T q op s v w t z r h = absurd cc
  join_timed (Some pending) T q op s v w t z r h =
      become _ T h (record {
        tokens = one_written None none_there;
        entries = written q t (Some (kept_as s v)) (λ e. one_entry q t (kept_as s v) e (kept_at net sound q op s v w t n k r most));
        answered = timed.answered;
      })
  join_timed (Some (has_left y)) T q op s v w t z r h =
      last_timed (other op (has_left y) s v) T q w t
      (λ u e. second net sound q op s v w t (has_left y) u n k r (timed.entries q t (has_left y) z) most e) h
  join_timed (Some (has_right y)) T q op s v w t z r h =
      last_timed (other op (has_right y) s v) T q w t
      (λ u e. second net sound q op s v w t (has_right y) u n k r (timed.entries q t (has_right y) z) most e) h

  fork_timed : (e : Option Entry) (T : State) (q : ℕ) (l r : Place) (t : Boxes) → i ≢ S.next → Goes net n (fork q l r t) →
      fork_on e S i q l r t ≡ Some T → Timed net T k a g
  fork_timed (Some e) T q l r t d z h = absurd cc
  fork_timed None T q l r t d z h =
      become _ T h (record {
        tokens = both;
        entries = written q t (Some pending) (λ e. one_entry q t pending e tt);
        answered = timed.answered;
      })
    where
      both : (j : ℕ) (y : TokenTree) → set_token (set_token S.tokens i (Some (ask l))) S.next (Some (ask r)) j ≡ Some y →
          (m : ℕ) × Ranks net y m × g j m
      both j y h =
          ⊎_elim
          (λ (q, e).
          let e' : ask r ≡ y = cc in
          (suc n, subst (λ y. Ranks net y (suc n)) e' z.1, subst (λ j. g j (suc n)) (sym q) new))
          (λ (_, e). one_written (Some (ask l)) (one_there (ask l) (suc n) z.0 (mine n (omega arith) most)) j y e)
          (from_set (set_token S.tokens i (Some (ask l))) S.next j (Some (ask r)) y h)

  act_timed : (m : Move) (T : State) → i ≢ S.next → Goes net n m → act m S i ≡ Some T → Timed net T k a g
  act_timed (solo q y) T d r h =
      become _ T h (record {
        tokens = one_written (Some y) (one_there y (suc n) r (mine n (omega arith) most));
        entries = timed.entries;
        answered = timed.answered;
      })
  act_timed (fork q l r t) T d z h = fork_timed (S.entries q t) T q l r t d z h
  act_timed (join q op s v w t) T d r h = join_timed (S.entries q t) T q op s v w t refl r h
  act_timed (answer v) T d r h =
      become _ T h (record {
        tokens = one_written None none_there;
        entries = timed.entries;
        answered = λ u e. let z : v ≡ u = cc in (n, subst (λ u. Takes net (start_of net) u n) z r, omega arith);
      })
  act_timed stay T d r h = absurd cc

  -- the step of a ticket whose token has this rank
  pub step_timed : (T : State) → i ≢ S.next → step net S i ≡ Some T → Timed net T k a g
  step_timed T d h = act_timed (move net x) T d (goes net sound x n ranks) (sym (ap (λ o. step_on net o S i) here) ∙ h)

-- what holds of the rank of a ticket in the midst of a unit, with these tickets still to move: it is to move, or has moved or was left out;
-- where the unit leaves none out (C), it has then risen above the least
abbrev pub Amid : Type 0 → ℕ → ℕ → List ℕ → ℕ → ℕ → Type 0
Amid C lo k l j n = (lo ≤ n) × (n ≤ suc k) × ((Member j l × (n ≤ k)) ⊎ ((Member j l → ⊥) × (C → suc lo ≤ n)))

-- what holds of it between units
abbrev pub Between : ℕ → ℕ → ℕ → ℕ → Type 0
Between lo k j n = (lo ≤ n) × (n ≤ k)

-- more is allowed
pub timed_more : (net : NetTree) (S : State) (k m a b : ℕ) (f g : ℕ → ℕ → Type 0) → Sound net → k ≤ m → a ≤ b →
    ((j n : ℕ) → f j n → g j n) → Timed net S k a f → Timed net S m b g
timed_more net S k m a b f g sound l l' h t = record {
  tokens = λ j x e. let (n, r, z) = t.tokens j x e in (n, r, h j n z);
  entries = λ i s e z. kept_more net sound i s e k m l (t.entries i s e z);
  answered = λ v e. let (n, y, z) = t.answered v e in (n, y, omega arith);
}

module _ (net : NetTree) (runs : Runs net) (C : Type 0) (lo k : ℕ) where
  -- the tickets that are left
  unit_timed_rest : (l log : List ℕ) (S T : State) → LeadsTo net log S → IsUnit S l → Timed net S k (suc k) (Amid C lo k l) →
      run net S l ≡ Some T → Timed net T k (suc k) (Amid C lo k [])
  unit_timed_rest [] log S T h u t r = subst (λ T. Timed net T k (suc k) (Amid C lo k [])) (same_Some S T r) t
  unit_timed_rest (i ∷ l) log S T h u t r =
      let (x, e) = u.live i (inl refl) in
      let (S1, s, r1) = from_run (step net S i) (λ S. run net S l) T r in
      let (n, y, (a, b, c)) = t.tokens i x e in
      let most : n ≤ k = ⊎_elim (λ z. z.1) (λ z. absurd (z.0 (inl refl))) c in
      let below = low net runs.sound log S h in
      let gone : Member i l → ⊥ = u.once.0 in
      let mine : (m : ℕ) → n ≤ m → m ≤ k → Amid C lo k l i (suc m) = λ m p q. (
        omega arith,
        omega arith,
        inr (gone, λ c. omega arith),
      ) in
      let fresh : Member S.next l → ⊥ = λ m. let (z, w) = u.live S.next (inr m) in let b = below S.next z w in omega arith in
      let new : Amid C lo k l S.next (suc n) = (omega arith, omega arith, inr (fresh, λ c. omega arith)) in
      let rest : (j m : ℕ) → j ≢ i → Amid C lo k (i ∷ l) j m → Amid C lo k l j m = λ j m d (p, q, z). (
        p,
        q,
        ⊎_elim (λ (y, le). ⊎_elim (λ q. absurd (d q)) (λ y. inl (y, le)) y) (λ (y, w). inr (λ m. y (inr m), w)) z,
      ) in
      let t1 = step_timed net runs.sound S k (suc k) (Amid C lo k (i ∷ l)) (Amid C lo k l) t i x n e y most (omega arith) mine new rest S1
      (λ q. let b = below i x e in omega arith) s in
      unit_timed_rest l (log ++ i ∷ []) S1 T (run_append net log _ S S1 i h s) (unit_rest net runs.sound log S h i l u S1 s) t1 r1

  -- a unit: no rank is more than one above the greatest, and where it is whole the least has risen
  pub unit_timed : (l log : List ℕ) (S T : State) → LeadsTo net log S → IsUnit S l → (C → IsWhole S l) →
      Timed net S k k (Between lo k) → run net S l ≡ Some T →
      Timed net T (suc k) (suc k) (λ j n. (lo ≤ n) × (n ≤ suc k) × (C → suc lo ≤ n))
  unit_timed l log S T h u w t r =
      let begun : Timed net S k (suc k) (Amid C lo k l) = record {
        tokens = λ j x e. let (n, y, (a, b)) = t.tokens j x e in (
          n,
          y,
          (a, omega arith, ⊎_elim (λ m. inl (m, b)) (λ m. inr (m, λ c. absurd (m (w c j (x, e))))) (member_or_not j l)),
        );
        entries = t.entries;
        answered = λ v e. let (n, y, z) = t.answered v e in (n, y, omega arith);
      } in
      timed_more net T k (suc k) (suc k) (suc k) (Amid C lo k []) (λ j n. (lo ≤ n) × (n ≤ suc k) × (C → suc lo ≤ n)) runs.sound
      (omega arith) (omega arith)
      (λ j n (a, b, c). (a, b, ⊎_elim (λ z. absurd z.0) (λ z. z.1) c)) (unit_timed_rest l log S T h u begun r)

-- the start
pub start_timed : (net : NetTree) → Timed net (start (start_of net)) 0 0 (Between 0 0)
start_timed net = record { tokens = λ j x h. go j x (nat_eq j 0) h; entries = λ i t e h. absurd cc; answered = λ v h. absurd cc }
  where
    go : (j : ℕ) (x : TokenTree) (b : Bool) → cond b (Some (ask (start_of net))) None ≡ Some x → (n : ℕ) × Ranks net x n × Between 0 0 j n
    go j x true h = let e : ask (start_of net) ≡ x = cc in
        (0, subst (λ x. Ranks net x 0) e (at_start refl), (omega arith, omega arith))
    go j x false h = absurd cc
