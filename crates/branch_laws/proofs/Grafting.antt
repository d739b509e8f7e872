-- What a branch does, done under other tickets to the state it is grafted into.
-- The one thing that a step of the branch doesn't see is what else stands in the state: a fork of the branch opens an entry that the
-- state hasn't open, since the state's own step is there; so the entries of both stay apart, and a join that closes the branch's entry
-- leaves none.
use Rattle.std.proofs.Common.{◌≡◌, ℕ, zero, suc, ◌+◌, ◌-◌, ◌<◌, ◌≤◌, Bool, true, false, cond, [], Option, Some}
use Rattle.std.proofs.Common.{None, refl, sym, ap, ◌∙◌, subst, ⊎_elim, arith}
use Rattle.std.proofs.Math.Path.{fun_ext}
use Rattle.std.proofs.lemmas.Bool.{eq-eqb, ne_eqb, le-ltb, lt-ltb, cases_lt, cases_eq}
use Rattle.std.specs.Prelude.{nat_eq, nat_lt}
use Rattle.pcf_values.specs.declared.val.Val.{Val}
use Rattle.pcf_values.specs.declared.operator.Operator.{Operator}
use Rattle.pcf_values.specs.declared.side.Side.{Side}
use Rattle.token_stacks.specs.Signatures.{Boxes}
use Rattle.fork_join.specs.Entries.{Entry, pending, has_left, has_right, kept_as, same_key}
use Rattle.fork_join.proofs.Keys.{key_true}
use Rattle.move_rules.specs.Places.{Place, down, TokenTree, ask, ans}
use Rattle.move_rules.specs.Table.{or_else}
use Rattle.move_rules.specs.Moves.{Move, solo, fork, join, answer, stay}
use Rattle.interleave_laws.specs.States.{Tokens, Entries, other, set_token, set_entry, State, act, fork_on, last_on, join_on}
use Rattle.interleave_laws.proofs.Effects.{push_some, push_none}
use Rattle.interleave_laws.proofs.Others.{some_state}
use Rattle.branch_laws.specs.Branches.{name, grafted_tokens, grafted_entries, grafted}

module _ (f : Tokens) (i n : ℕ) (below : i < n) where
  -- what a branch has at a ticket stands under its name
  pub graft_at : (g : Tokens) (k : ℕ) → grafted_tokens f i n g (name i n k) ≡ g k
  graft_at g zero = ap (λ b. cond b (g 0) (cond (nat_lt i n) (f i) (g (suc (i - n))))) (eq-eqb i i refl)
  graft_at g (suc m) =
      let back : n + m - n ≡ m = omega arith in
      ap (λ b. cond b (g 0) (cond (nat_lt (n + m) n) (f (n + m)) (g (suc (n + m - n))))) (ne_eqb (n + m) i (λ q. omega arith))
      ∙ ap (λ b. cond b (f (n + m)) (g (suc (n + m - n)))) (le-ltb (n + m) n (omega arith)) ∙ ap (λ m. g (suc m)) back

  -- and what is written there, is
  put_at : (g : Tokens) (k : ℕ) (o : Option TokenTree) (j : ℕ) →
      set_token (grafted_tokens f i n g) (name i n k) o j ≡ grafted_tokens f i n (set_token g k o) j
  put_at g zero o j = go (nat_eq j i) (cond (nat_lt j n) (f j) (g (suc (j - n)))) ∙
      ap (λ q. cond (nat_eq j i) o (cond (nat_lt j n) (f j) (cond q o (g (suc (j - n))))))
      (sym (ne_eqb (suc (j - n)) 0 (λ q. omega arith)))
    where
      go : (b : Bool) (z : Option TokenTree) → cond b o (cond b (g 0) z) ≡ cond b o z
      go true z = refl
      go false z = refl
  put_at g (suc m) o j = ⊎_elim own (λ d. ⊎_elim (old d) (new d) (cases_lt j n)) (cases_eq j i)
    where
      own : j ≡ i → set_token (grafted_tokens f i n g) (n + m) o j ≡ grafted_tokens f i n (set_token g (suc m) o) j
      own e =
          let a = ne_eqb j (n + m) (λ q. omega arith) in
          let b = eq-eqb j i e in
          ap (λ b. cond b o (grafted_tokens f i n g j)) a ∙ ap (λ b. cond b (g 0) (cond (nat_lt j n) (f j) (g (suc (j - n))))) b ∙
          ap (λ q. cond q o (g 0)) (sym (ne_eqb 0 (suc m) (λ q. omega arith)))
          ∙ sym (ap (λ b. cond b (set_token g (suc m) o 0) (cond (nat_lt j n) (f j) (set_token g (suc m) o (suc (j - n))))) b)

      old : (j ≡ i → ⊥) → j < n → set_token (grafted_tokens f i n g) (n + m) o j ≡ grafted_tokens f i n (set_token g (suc m) o)
          j
      old d l =
          let a = ne_eqb j (n + m) (λ q. omega arith) in
          let b = ne_eqb j i d in
          let c = lt-ltb j n l in
          ap (λ b. cond b o (grafted_tokens f i n g j)) a ∙ ap (λ b. cond b (g 0) (cond (nat_lt j n) (f j) (g (suc (j - n))))) b ∙
          ap (λ c. cond c (f j) (g (suc (j - n)))) c
          ∙ sym (ap (λ b. cond b (set_token g (suc m) o 0) (cond (nat_lt j n) (f j) (set_token g (suc m) o (suc (j - n))))) b ∙
          ap (λ c. cond c (f j) (set_token g (suc m) o (suc (j - n)))) c)

      new : (j ≡ i → ⊥) → n ≤ j → set_token (grafted_tokens f i n g) (n + m) o j ≡ grafted_tokens f i n
          (set_token g (suc m) o) j
      new d l =
          let b = ne_eqb j i d in
          let c = le-ltb j n l in
          ap (λ z. cond (nat_eq j (n + m)) o z) (ap (λ b. cond b (g 0) (cond (nat_lt j n) (f j) (g (suc (j - n))))) b ∙
          ap (λ c. cond c (f j) (g (suc (j - n)))) c)
          ∙ ap (λ q. cond q o (g (suc (j - n)))) (same_test (j - n) refl)
          ∙ sym (ap (λ b. cond b (set_token g (suc m) o 0) (cond (nat_lt j n) (f j) (set_token g (suc m) o (suc (j - n))))) b ∙
          ap (λ c. cond c (f j) (set_token g (suc m) o (suc (j - n)))) c)
        where
          same_test : (p : ℕ) → j - n ≡ p → nat_eq j (n + m) ≡ nat_eq (suc p) (suc m)
          same_test p e = ⊎_elim (λ q. let z : suc p ≡ suc m = omega arith in eq-eqb j (n + m) q ∙ sym (eq-eqb (suc p) (suc m) z))
              (λ q. ne_eqb j (n + m) q ∙ sym (ne_eqb (suc p) (suc m) (λ z. q (omega arith)))) (cases_eq j (n + m))

  pub graft_put : (g : Tokens) (k : ℕ) (o : Option TokenTree) →
      set_token (grafted_tokens f i n g) (name i n k) o ≡ grafted_tokens f i n (set_token g k o)
  graft_put g k o = fun_ext (put_at g k o)

-- an entry that the branch writes
pub entry_put : (g h : Entries) (n : ℕ) (t : Boxes) (e : Entry) →
    set_entry (grafted_entries g h) n t (Some e) ≡ grafted_entries g (set_entry h n t (Some e))
entry_put g h n t e = fun_ext (λ m. fun_ext (λ u. sym (push_some (same_key m u n t) e (h m u) (g m u))))

-- an entry that the branch closes, where the state has none
pub entry_gone : (g h : Entries) (n : ℕ) (t : Boxes) → g n t ≡ None →
    set_entry (grafted_entries g h) n t None ≡ grafted_entries g (set_entry h n t None)
entry_gone g h n t none =
    fun_ext (λ m. fun_ext (λ u. sym
    (push_none (same_key m u n t) (h m u) (g m u) (λ q. let (a, b) = key_true m u n t q in ap (λ m. g m u) a ∙ ap (g n) b ∙ none))))

-- no entry of the one is one of the other
abbrev pub Apart : Entries → Entries → Type 0
Apart g h = (n : ℕ) (t : Boxes) (e : Entry) → h n t ≡ Some e → g n t ≡ None

-- so it stays where an entry is written or closed that the one hasn't
pub apart_set : (g h : Entries) (n : ℕ) (t : Boxes) (o : Option Entry) → g n t ≡ None → Apart g h → Apart g (set_entry h n t o)
apart_set g h n t o none a m u e q = go (same_key m u n t) refl q
  where
    go : (b : Bool) → same_key m u n t ≡ b → cond b o (h m u) ≡ Some e → g m u ≡ None
    go true z q = let (x, y) = key_true m u n t z in ap (λ m. g m u) x ∙ ap (g n) y ∙ none
    go false z q = a m u e q

-- the branch fits the state
pub record Fits (S B : State) : Type 0 where
  pub apart : Apart S.entries B.entries
  pub begun : 1 ≤ B.next

-- the next name
next_name : (i n k : ℕ) → 1 ≤ k → suc (name i n k) ≡ name i n (suc k)
next_name i n zero h = absurd (omega arith)
next_name i n (suc m) h = omega arith

module _ (S : State) (i : ℕ) (below : i < S.next) where
  -- a move of the branch is one of the state, and the branch still fits
  abbrev pub Grafts : Move → State → ℕ → State → Type 0
  Grafts m B k C = (act m (grafted S i B) (name i S.next k) ≡ Some (grafted S i C)) × Fits S C

  -- the move has a step in the state
  abbrev pub HasAct : Move → State → ℕ → Type 0
  HasAct m B k = (T : State) × (act m (grafted S i B) (name i S.next k) ≡ Some T)

  solo_grafts : (B C : State) (k n : ℕ) (x : TokenTree) → Fits S B → act (solo n x) B k ≡ Some C → Grafts (solo n x) B k C
  solo_grafts B C k n x fits h =
      let p = graft_put S.tokens i S.next below B.tokens k (Some x) in
      subst (Grafts (solo n x) B k) (some_state _ C h) (
        (λ q. Some (record (grafted S i B) { tokens = p q })),
        record { apart = fits.apart; begun = fits.begun },
      )

  fork_grafts : (B C : State) (k n : ℕ) (l r : Place) (t : Boxes) → Fits S B → (o p : Option Entry) → B.entries n t ≡ o →
      S.entries n t ≡ p → HasAct (fork n l r t) B k → fork_on o B k n l r t ≡ Some C → Grafts (fork n l r t) B k C
  fork_grafts B C k n l r t fits (Some e) p eb es has h = cc
  fork_grafts B C k n l r t fits None (Some e) eb es (T, has) h =
      let open_there : (grafted S i B).entries n t ≡ Some e = ap (λ o. or_else o (S.entries n t)) eb ∙ es in
      let bad : None ≡ Some T = sym (ap (λ o. fork_on o (grafted S i B) (name i S.next k) n l r t) open_there) ∙ has in
      absurd cc
  fork_grafts B C k n l r t fits None None eb es has h =
      let closed : (grafted S i B).entries n t ≡ None = ap (λ o. or_else o (S.entries n t)) eb ∙ es in
      let p = ap (λ f. set_token f (name i S.next B.next) (Some (ask r))) (graft_put S.tokens i S.next below B.tokens k (Some (ask l)))
      ∙ graft_put S.tokens i S.next below (set_token B.tokens k (Some (ask l))) B.next (Some (ask r)) in
      let e = entry_put S.entries B.entries n t pending in
      let nx = next_name i S.next B.next fits.begun in
      let apart = apart_set S.entries B.entries n t (Some pending) es fits.apart in
      subst (Grafts (fork n l r t) B k) (some_state _ C h) (
        ap (λ o. fork_on o (grafted S i B) (name i S.next k) n l r t) closed ∙
            (λ q. Some (record (grafted S i B) { tokens = p q; entries = e q; next = nx q })),
        record { apart = apart; begun = omega arith },
      )

  -- a join whose entry is the branch's is a join of that entry
  JoinGrafts : Option Entry → State → ℕ → ℕ → Operator → Side → Val → ℕ → Boxes → State → Type 0
  JoinGrafts o B k n op s v w t C = (join_on o (grafted S i B) (name i S.next k) n op s v w t ≡ Some (grafted S i C)) × Fits S C

  last_grafts : (o : Option Val) (B C : State) (k n w : ℕ) (t : Boxes) → Fits S B → S.entries n t ≡ None →
      last_on o B k n w t ≡ Some C →
      (last_on o (grafted S i B) (name i S.next k) n w t ≡ Some (grafted S i C)) × Fits S C
  last_grafts None B C k n w t fits none h = cc
  last_grafts (Some u) B C k n w t fits none h =
      let p = graft_put S.tokens i S.next below B.tokens k (Some (ans u (down w [] t))) in
      let e = entry_gone S.entries B.entries n t none in
      subst (λ C. (last_on (Some u) (grafted S i B) (name i S.next k) n w t ≡ Some (grafted S i C)) × Fits S C) (some_state _ C h) (
        (λ q. Some (record (grafted S i B) { tokens = p q; entries = e q })),
        record { apart = apart_set S.entries B.entries n t None none fits.apart; begun = fits.begun },
      )

  join_some : (y : Entry) (B C : State) (k n : ℕ) (op : Operator) (s : Side) (v : Val) (w : ℕ) (t : Boxes) → Fits S B →
      S.entries n t ≡ None → join_on (Some y) B k n op s v w t ≡ Some C → JoinGrafts (Some y) B k n op s v w t C
  unfolding JoinGrafts
  join_some pending B C k n op s v w t fits none h =
      let p = graft_put S.tokens i S.next below B.tokens k None in
      let e = entry_put S.entries B.entries n t (kept_as s v) in
      subst (λ C. (join_on (Some pending) (grafted S i B) (name i S.next k) n op s v w t ≡ Some (grafted S i C)) ×
      Fits S C) (some_state _ C h) (
        (λ q. Some (record (grafted S i B) { tokens = p q; entries = e q })),
        record { apart = apart_set S.entries B.entries n t (Some (kept_as s v)) none fits.apart; begun = fits.begun },
      )
  join_some (has_left u) B C k n op s v w t fits none h = last_grafts (other op (has_left u) s v) B C k n w t fits none h
  join_some (has_right u) B C k n op s v w t fits none h = last_grafts (other op (has_right u) s v) B C k n w t fits none h

  join_grafts : (o : Option Entry) (B C : State) (k n : ℕ) (op : Operator) (s : Side) (v : Val) (w : ℕ) (t : Boxes) → Fits S B →
      B.entries n t ≡ o → join_on o B k n op s v w t ≡ Some C → Grafts (join n op s v w t) B k C
  unfolding JoinGrafts
  join_grafts None B C k n op s v w t fits eb h = cc
  join_grafts (Some y) B C k n op s v w t fits eb h =
      let (a, b) = join_some y B C k n op s v w t fits (fits.apart n t y eb) h in
      let there : (grafted S i B).entries n t ≡ Some y = ap (λ o. or_else o (S.entries n t)) eb in
      (ap (λ o. join_on o (grafted S i B) (name i S.next k) n op s v w t) there ∙ a, b)

  -- any move but an answer's
  pub act_grafts : (m : Move) (B C : State) (k : ℕ) → Fits S B → HasAct m B k → act m B k ≡ Some C → C.answered ≡ None →
      Grafts m B k C
  act_grafts (solo n x) B C k fits has h none = solo_grafts B C k n x fits h
  act_grafts (fork n l r t) B C k fits has h none = fork_grafts B C k n l r t fits (B.entries n t) (S.entries n t) refl refl has h
  act_grafts (join n op s v w t) B C k fits has h none = join_grafts (B.entries n t) B C k n op s v w t fits refl h
  act_grafts (answer v) B C k fits has h none =
      let e : Some v ≡ C.answered = ap (λ (U : State). U.answered) (some_state _ C h) in
      let bad : Some v ≡ None = e ∙ none in absurd cc
  act_grafts stay B C k fits has h none = cc
