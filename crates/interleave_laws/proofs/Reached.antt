-- Every state that a log leads to is accounted for: without an answer it is what a tree at the start tells, with as many moves spent
-- as the log is long; with an answer, the start's question gave it.
use Rattle.std.proofs.Common.{◌≡◌, ◌⊎◌, ℕ, zero, suc, ◌+◌, ◌≤◌, Bool, true, false, cond, List, [], ◌∷◌}
use Rattle.std.proofs.Common.{length, Option, Some, None, refl, sym, ap, ◌∙◌, subst, inl, inr, arith}
use Rattle.std.proofs.lemmas.Bool.{ne_eqb, eqb-true}
use Rattle.std.specs.Prelude.{nat_eq, slice_get}
use Rattle.pcf_values.specs.declared.val.Val.{Val}
use Rattle.pcf_values.specs.declared.operator.Operator.{Operator}
use Rattle.pcf_values.specs.declared.side.Side.{Side}
use Rattle.token_stacks.specs.Signatures.{Boxes}
use Rattle.fork_join.specs.Entries.{Entry, pending, has_left, has_right}
use Rattle.net_build.specs.Nets.{NetTree}
use Rattle.net_build.specs.declared.node.Node.TheVariants.{Root}
use Rattle.net_build.specs.Sound.{Sound}
use Rattle.move_rules.specs.Places.{Place, up, down, turned, TokenTree, ask, ans}
use Rattle.move_rules.specs.Moves.{answer, stay, move, ask_move, ans_down}
use Rattle.move_rules.specs.Table.{on_found, plain_down}
use Rattle.move_rules.proofs.Faces.{faced_at}
use Rattle.interleave_laws.specs.States.{Tokens, other, State, start, step, step_on, act, fork_on, last_on, join_on, then_run, run}
use Rattle.interleave_laws.specs.States.{set_token}
use Rattle.interleave_laws.proofs.Parents.{parent, above_operand, turned_option}
use Rattle.interleave_laws.proofs.Tree.{Tree, asking, coming, Open, Gives, Valid, token_in, entry_in, tickets, spent, Effect, turn, opens}
use Rattle.interleave_laws.proofs.Tree.{keeps, closes, on_tokens, on_entries, at_key, new_entry, more}
use Rattle.interleave_laws.proofs.Below.{Does}
use Rattle.interleave_laws.proofs.Effects.{Progress, Outcome}
use Rattle.interleave_laws.proofs.Advance.{advance}

-- the program's wire ends in the root
pub record Starts (net : NetTree) (p : Place) : Type 0 where
  pub out : ℕ
  pub at : ℕ
  pub is : p ≡ up out [] []
  pub root : slice_get net.nodes at ≡ Some (Root out)

-- the start was asked by nothing
pub top : (net : NetTree) → Sound net → (p : Place) → Starts net p → parent net p ≡ None
top net sound p s =
    let f = faced_at net sound s.at (Root s.out) s.root in
    ap (parent net) s.is ∙ ap (λ o. on_found o None (λ i n. above_operand n [] [] (turned_option (plain_down n s.out [] []))))
    (f.downs s.out (inl refl))

-- an answer at the start is the run's
pub ends : (net : NetTree) → Sound net → (p : Place) → Starts net p → (v : Val) → move net (ans v (turned p)) ≡ answer v
ends net sound p s v =
    let f = faced_at net sound s.at (Root s.out) s.root in
    ap (λ p. move net (ans v (turned p))) s.is ∙
    ap (λ o. on_found o stay (λ i n. ans_down i n v s.out [] [])) (f.downs s.out (inl refl))

-- the state after an effect
abbrev pub next_after : Effect → ℕ → ℕ
next_after (opens n s l r) nx = suc nx
next_after _ nx = nx

-- the state that an effect makes
abbrev pub made_of : Effect → State → ℕ → State
made_of e S i = record {
  tokens = on_tokens e i S.next S.tokens;
  entries = on_entries e S.entries;
  next = next_after e S.next;
  answered =
      S.answered;
}

-- a join has its effect
join_does : (S : State) (i n : ℕ) (op : Operator) (d : Side) (v : Val) (w : ℕ) (s : Boxes) (e : Entry) (u : Val) →
    other op e d v ≡ Some u → join_on (Some e) S i n op d v w s ≡ Some (made_of (closes n s (ans u (down w [] s))) S i)
join_does S i n op d v w s pending u h = cc
join_does S i n op d v w s (has_left z) u h = ap (λ o. last_on o S i n w s) h
join_does S i n op d v w s (has_right z) u h = ap (λ o. last_on o S i n w s) h

-- a run goes on from its first step
pub from_run : (o : Option State) (f : State → Option State) (S : State) → then_run o f ≡ Some S → (S' : State) × (o ≡ Some S') ×
    (f S' ≡ Some S)
from_run None f S h = cc
from_run (Some S') f S h = (S', refl, h)

module _ (net : NetTree) where
  -- an effect is a step
  pub does_step : (S : State) (i : ℕ) (x : TokenTree) (e : Effect) → Does net S.entries x e →
      act (move net x) S i ≡ Some (made_of e S i)
  does_step S i x (turn y) (k, h) = ap (λ m. act m S i) h
  does_step S i x (opens n s l r) (h, g) = ap (λ m. act m S i) h ∙ ap (λ o. fork_on o S i n l r s) g
  does_step S i x (keeps n s e) (op, d, v, w, h, g, z) = ap (λ m. act m S i) h ∙ ap (λ o. join_on o S i n op d v w s) g ∙
      ap (λ e. Some (made_of (keeps n s e) S i)) (sym z)
  does_step S i x (closes n s y) (op, d, v, w, e, u, h, g, z, q) =
      ap (λ m. act m S i) h ∙ ap (λ o. join_on o S i n op d v w s) g ∙ join_does S i n op d v w s e u z ∙
      ap (λ y. Some (made_of (closes n s y) S i)) (sym q)

  -- a state without an answer is a tree, and the moves so far are spent on it
  pub record Live (p : Place) (n : ℕ) (S : State) (t : Tree) : Type 0 where
    pub valid : Valid net t p
    pub opened : Open t
    pub has_tokens : (j : ℕ) → S.tokens j ≡ token_in t p j
    pub has_entries : (m : ℕ) (s : Boxes) → S.entries m s ≡ entry_in t m s
    pub single : (j : ℕ) → tickets t j ≤ 1
    pub fresh : (j : ℕ) → S.next ≤ j → tickets t j ≡ 0
    pub unanswered : S.answered ≡ None
    pub count : spent t ≡ n

  -- a run that is over
  pub record Over (p : Place) (n : ℕ) (S : State) : Type 0 where
    pub val : Val
    pub moves : ℕ
    pub answered : S.answered ≡ Some val
    pub no_tokens : (j : ℕ) → S.tokens j ≡ None
    pub no_entries : (m : ℕ) (s : Boxes) → S.entries m s ≡ None
    pub gave : Gives net p val moves
    pub count : n ≡ suc moves

  -- a state is what a tree tells, or is over
  abbrev pub Accounted : Place → ℕ → State → Type 0
  Accounted p n S = ((t : Tree) × Live p n S t) ⊎ Over p n S

  -- tokens that answer alike
  same_tokens : (e : Effect) (i nx : ℕ) (f g : Tokens) (j : ℕ) → f j ≡ g j → on_tokens e i nx f j ≡ on_tokens e i nx g j
  same_tokens (turn x) i nx f g j h = ap (cond (nat_eq j i) (Some x)) h
  same_tokens (opens n s l r) i nx f g j h = ap (λ o. cond (nat_eq j nx) (Some (ask r)) (cond (nat_eq j i) (Some (ask l)) o)) h
  same_tokens (keeps n s e) i nx f g j h = ap (cond (nat_eq j i) None) h
  same_tokens (closes n s x) i nx f g j h = ap (cond (nat_eq j i) (Some x)) h

  -- no ticket is given out twice
  one_more : (e : Effect) (nx j n : ℕ) → n ≤ 1 → (j ≡ nx → n ≡ 0) → n + more e nx j ≤ 1
  one_more (opens m s l r) nx j n h g = go (nat_eq j nx) refl
    where
      go : (b : Bool) → nat_eq j nx ≡ b → n + cond b 1 0 ≤ 1
      go true e = let z = g (eqb-true j nx e) in omega arith
      go false e = omega arith
  one_more (turn x) nx j n h g = omega arith
  one_more (keeps m s e) nx j n h g = omega arith
  one_more (closes m s x) nx j n h g = omega arith

  -- tickets from the next one on are not made yet
  none_after : (e : Effect) (nx j : ℕ) → next_after e nx ≤ j → (more e nx j ≡ 0) × (nx ≤ j)
  none_after (opens m s l r) nx j h = (ap (λ b. cond b 1 0) (ne_eqb j nx (λ q. omega arith)), omega arith)
  none_after (turn x) nx j h = (refl, h)
  none_after (keeps m s e) nx j h = (refl, h)
  none_after (closes m s x) nx j h = (refl, h)

  -- a step of a live tree
  pub live_after : (p : Place) (n i : ℕ) (S : State) (x : TokenTree) (t : Tree) → Live p n S t →
      (g : Progress net S.entries i S.next x t p) → Live p (suc n) (made_of g.effect S i) g.tree
  live_after p n i S x t h g = record {
    valid = g.valid;
    opened = g.opened;
    has_tokens = λ j. same_tokens g.effect i S.next S.tokens (token_in t p) j (h.has_tokens j) ∙ sym (g.has_tokens j);
    has_entries = λ m s. ap (cond (at_key g.effect m s) (new_entry g.effect)) (h.has_entries m s) ∙ sym (g.has_entries m s);
    single = λ j. let a = g.counts j in let b = one_more g.effect S.next j (tickets t j) (h.single j) (λ q. h.fresh j (omega arith)) in
        omega arith;
    fresh = λ j l. let (a, b) = none_after g.effect S.next j l in let c = g.counts j in let d = h.fresh j b in omega arith;
    unanswered = h.unanswered;
    count = g.spends ∙ ap suc h.count;
  }

module _ (net : NetTree) (sound : Sound net) (p : Place) (starts : Starts net p) where
  -- what the tree of a state says of a live ticket
  pub out_of : (n i : ℕ) (S : State) (x : TokenTree) (t : Tree) → Live net p n S t → S.tokens i ≡ Some x →
      Outcome net S.entries i S.next x t p
  out_of n i S x t h e =
      advance net sound p (top net sound p starts) S.entries i S.next x t p h.valid h.opened (
        zero,
        refl,
      ) (λ q m k op s a b l y. h.has_entries k s) (sym (h.has_tokens i) ∙ e) h.single (h.fresh S.next (omega arith))

  -- the one ticket is taken out
  gone : (i j : ℕ) (x : TokenTree) → cond (nat_eq j i) None (cond (nat_eq j i) (Some x) None) ≡ None
  gone i j x = go (nat_eq j i)
    where
      go : (b : Bool) → cond b None (cond b (Some x) None) ≡ None
      go true = refl
      go false = refl

  -- the last step
  pub over_after : (n i m : ℕ) (S : State) (v : Val) → Live net p n S (coming i v m) →
      Over net p (suc n) (record S { tokens = set_token S.tokens i None; answered = Some v })
  over_after n i m S v h = record {
    val = v;
    moves = m;
    answered = refl;
    no_tokens = λ j. ap (cond (nat_eq j i) None) (h.has_tokens j) ∙ gone i j (ans v (turned p));
    no_entries = λ k s. h.has_entries k s;
    gave = h.valid;
    count = ap suc (sym h.count);
  }

  -- a step is the move of a live token
  from_step : (o : Option TokenTree) (S : State) (i : ℕ) (S' : State) → step_on net o S i ≡ Some S' → (x : TokenTree) ×
      (o ≡ Some x) × (act (move net x) S i ≡ Some S')
  from_step None S i S' h = cc
  from_step (Some x) S i S' h = (x, refl, h)

  -- each step keeps the account
  pub step_keeps : (n i : ℕ) (S S' : State) → Accounted net p n S → step net S i ≡ Some S' → Accounted net p (suc n) S'
  step_keeps n i S S' (inr o) h = let (x, e, _) = from_step (S.tokens i) S i S' h in
      let bad : None ≡ Some x = sym (o.no_tokens i) ∙ e in cc
  step_keeps n i S S' (inl (t, live)) h =
      let (x, e, g) = from_step (S.tokens i) S i S' h in
      go x g (out_of n i S x t live e)
    where
      go : (x : TokenTree) → act (move net x) S i ≡ Some S' → Outcome net S.entries i S.next x t p → Accounted net p (suc n) S'
      go x g (inl (v, m, e, z)) =
          let e' : act (move net x) S i ≡ Some (record S { tokens = set_token S.tokens i None; answered = Some v }) =
          ap (λ m. act m S i) (ap (move net) z ∙ ends net sound p starts v) in
          let same : record S { tokens = set_token S.tokens i None; answered = Some v } ≡ S' = cc in
          subst (Accounted net p (suc n)) same (inr (over_after n i m S v (subst (Live net p n S) e live)))
      go x g (inr (inl (q, z, l))) =
          let none : act (move net x) S i ≡ None = ap (λ m. act m S i) (ap (move net) z ∙ ap (λ l. ask_move l q) l) in cc
      go x g (inr (inr y)) =
          let e' = does_step net S i x y.effect y.does in
          let same : made_of y.effect S i ≡ S' = cc in
          subst (Accounted net p (suc n)) same (inl (y.tree, live_after net p n i S x t live y))

  -- the start is what a tree tells
  pub start_live : Live net p zero (start p) (asking zero)
  start_live = record {
    valid = tt;
    opened = tt;
    has_tokens = λ j. refl;
    has_entries = λ m s. refl;
    single = λ j. at_most (nat_eq j zero);
    fresh = λ j l. ap (λ b. cond b 1 0) (ne_eqb j zero (λ q. omega arith));
    unanswered = refl;
    count = refl;
  }
    where
      at_most : (b : Bool) → cond b 1 0 ≤ 1
      at_most true = omega arith
      at_most false = omega arith

  -- and is accounted for
  start_accounted : Accounted net p zero (start p)
  start_accounted = inl (asking zero, start_live)

  -- each run keeps the account
  run_keeps : (log : List ℕ) (n : ℕ) (S S' : State) → Accounted net p n S → run net S log ≡ Some S' →
      Accounted net p (n + length log) S'
  run_keeps [] n S S' v h = let same : S ≡ S' = cc in let z : n ≡ n + 0 = omega arith in
      subst (Accounted net p (n + 0)) same (subst (λ n. Accounted net p n S) z v)
  run_keeps (i ∷ log) n S S' v h =
      let (T, e, g) = from_run (step net S i) (λ S. run net S log) S' h in
      let z : suc n + length log ≡ n + length (i ∷ log) = omega arith in
      subst (λ n. Accounted net p n S') z (run_keeps log (suc n) T S' (step_keeps n i S T v e) g)

  -- every state that a log leads to
  pub reached : (log : List ℕ) (S : State) → run net (start p) log ≡ Some S → Accounted net p (length log) S
  reached log S h = let z : zero + length log ≡ length log = omega arith in
      subst (λ n. Accounted net p n S) z (run_keeps log zero (start p) S start_accounted h)
