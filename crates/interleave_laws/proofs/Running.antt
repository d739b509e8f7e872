-- On every sound net, no two live tokens stand at one place, and there is an answer exactly where none is live.
-- That no question meets an answer on its way back is seen by the history of its place: what is asked down a way that was asked goes back
-- to the start, where it meets nothing, so that it has no value; but the token that answers there tells that it has one.
use Rattle.std.proofs.Common.{◌≡◌, ℕ, zero, suc, ◌≤◌, Bool, true, false, cond, List, [], ◌∷◌, ◌++◌, length, Option}
use Rattle.std.proofs.Common.{Some, None, refl, sym, ap, ◌∙◌, subst, ◌<◌, ⊎_elim, inl, inr, arith}
use Rattle.std.proofs.lemmas.Bool.{cases_eq, cases_lt}
use Rattle.std.specs.Prelude.{slice_get, nat_eq}
use Rattle.std.proofs.lemmas.Option.{same_Some}
use Rattle.pcf_values.specs.declared.val.Val.{Val}
use Rattle.pcf_values.specs.Values.{at_zero}
use Rattle.token_stacks.specs.Signatures.{Boxes}
use Rattle.net_build.specs.Nets.{NetTree}
use Rattle.net_build.specs.declared.node.Node.{Node}
use Rattle.net_build.specs.declared.node.Node.TheVariants.{Root}
use Rattle.net_build.specs.Sound.{Sound, roots}
use Rattle.move_rules.specs.Places.{Place, turned, TokenTree, ask, ans, place_of}
use Rattle.move_rules.specs.Moves.{dead, pass, look, pass_at}
use Rattle.move_rules.specs.Table.{or_else, on_found, plain_down}
use Rattle.move_rules.proofs.Faces.{faced_at}
use Rattle.interleave_laws.specs.States.{State, step, then_run, run}
use Rattle.interleave_laws.specs.Runs.{Runs, LeadsTo}
use Rattle.interleave_laws.specs.Start.{root_wire, start_of}
use Rattle.interleave_laws.proofs.Below.{no_ticket}
use Rattle.move_rules.proofs.Rows.{turned_twice}
use Rattle.interleave_laws.proofs.Parents.{parent}
use Rattle.interleave_laws.proofs.Tree.{Tree, asking, coming, kept, passed, applied, tested, chosen, forked, Gives, by_number, by_pass}
use Rattle.interleave_laws.proofs.Tree.{by_one, by_test, by_two, Valid, token_in, and_then, ancestor}
use Rattle.interleave_laws.proofs.Reached.{Starts, top, Accounted, reached}
use Rattle.interleave_laws.proofs.Progress.{progress}
use Rattle.interleave_laws.proofs.Apart.{asked, token_below, asked_apart, some_live, turned_look}

-- a net with a root has the first root
some_root : (ns : List Node) → 1 ≤ roots ns → (i : ℕ) × (slice_get ns i ≡ Some (Root (root_wire ns)))
some_root [] h = absurd (omega arith)
some_root (Root w ∷ ns) h = (zero, refl)
some_root (n ∷ ns) h = let (i, e) = some_root ns h in (suc i, e)

-- a sound net has its start
pub starts_of : (net : NetTree) → Sound net → Starts net (start_of net)
starts_of net s = let (i, e) = some_root net.nodes (let one = s.one_root in omega arith) in
    record { out = root_wire net.nodes; at = i; is = refl; root = e }

-- two runs, one after the other
pub run_on : (net : NetTree) (log more : List ℕ) (S T U : State) → run net S log ≡ Some T → run net T more ≡ Some U →
    run net S (log ++ more) ≡ Some U
run_on net [] more S T U h g = ap (λ S. run net S more) (same_Some S T h) ∙ g
run_on net (i ∷ log) more S T U h g = go (step net S i) (λ V. run_on net log more V T U) h
  where
    go : (o : Option State) → ((V : State) → run net V log ≡ Some T → run net T more ≡ Some U →
        run net V (log ++ more) ≡ Some U) → then_run o (λ S. run net S log) ≡ Some T →
        then_run o (λ S. run net S (log ++ more)) ≡ Some U
    go None f h = cc
    go (Some V) f h = f V h g

-- a run and a step behind it
pub run_append : (net : NetTree) (log : List ℕ) (S T U : State) (i : ℕ) → run net S log ≡ Some T → step net T i ≡ Some U →
    run net S (log ++ i ∷ []) ≡ Some U
run_append net log S T U i h g = run_on net log (i ∷ []) S T U h (ap (λ o. then_run o (λ S. Some S)) g)

-- a question that meets nothing has no value
no_value : (net : NetTree) (p : Place) (v : Val) (n : ℕ) → look net p ≡ dead → Gives net p v n → ⊥
no_value net p v n e (by_number h) = cc
no_value net p v n e (by_pass h g) = cc
no_value net p v n e (by_one h g) = cc
no_value net p v n e (by_test h g g') = cc
no_value net p v n e (by_two h g g') = cc

-- one that goes on by a plain rule has the value of the question that it becomes
passed_value : (net : NetTree) (p q : Place) (v : Val) (n k : ℕ) → look net p ≡ pass k q → Gives net p v n → (m : ℕ) ×
    Gives net q v m
passed_value net p q v n k e (by_number h) = cc
passed_value net p q v n k e (by_pass {q = r} {n = m} h g) = let same : r ≡ q = cc in (m, subst (λ q. Gives net q v m) same g)
passed_value net p q v n k e (by_one h g) = cc
passed_value net p q v n k e (by_test h g g') = cc
passed_value net p q v n k e (by_two h g g') = cc

-- a question that goes down a way that was asked has no value
unanswered : (net : NetTree) (sound : Sound net) (m : ℕ) (q : Place) (v : Val) (n : ℕ) → ancestor net m q ≡ Some (start_of net) →
    Gives net (turned q) v n → ⊥
unfolding starts_of
unanswered net sound zero q v n a g =
    let s = starts_of net sound in
    let f = faced_at net sound s.at (Root s.out) s.root in
    let same : q ≡ start_of net = cc in
    no_value net (turned q) v n (ap (λ q. look net (turned q)) same ∙ ap
    (λ o. on_found o dead (λ i n. pass_at i (plain_down n s.out [] []))) (f.downs s.out (inl refl))) g
unanswered net sound (suc m) q v n a g = go (unanswered net sound m) (parent net q) refl a
  where
    go : ((q : Place) (v : Val) (n : ℕ) → ancestor net m q ≡ Some (start_of net) → Gives net (turned q) v n → ⊥) →
        (o : Option Place) → parent net q ≡ o → and_then o (ancestor net m) ≡ Some (start_of net) → ⊥
    go ih None p a = cc
    go ih (Some r) p a = ⊎_elim (λ l. no_value net (turned q) v n l g)
        (λ l. let (k, h) = passed_value net (turned q) (turned r) v n l.0 l.1 g in ih r v k a h) (turned_look net q r p)

-- the question of a token that answers has its value
answer_value : (net : NetTree) (t : Tree) (p : Place) (j : ℕ) (r : Place) (v : Val) → Valid net t p →
    token_in t p j ≡ Some (ans v r) → (n : ℕ) × Gives net (turned r) v n
answer_value net (asking i) p j r v ok h = go (nat_eq j i) h
  where
    go : (b : Bool) → cond b (Some (ask p)) None ≡ Some (ans v r) → (n : ℕ) × Gives net (turned r) v n
    go true h = cc
    go false h = cc
answer_value net (coming i w n) p j r v ok h = go (nat_eq j i) h
  where
    go : (b : Bool) → cond b (Some (ans w (turned p))) None ≡ Some (ans v r) → (n : ℕ) × Gives net (turned r) v n
    go true h =
        let e : w ≡ v = cc in
        let z : turned p ≡ r = cc in
        (n, subst (λ v. Gives net (turned r) v n) e (subst (λ q. Gives net q w n) (sym (turned_twice p) ∙ ap turned z) ok))
    go false h = cc
answer_value net (kept w n) p j r v ok h = cc
answer_value net (passed k q t) p j r v ok h = answer_value net t q j r v ok.2 h
answer_value net (applied k f q t) p j r v ok h = answer_value net t q j r v ok.2 h
answer_value net (tested k c a b t) p j r v ok h = answer_value net t c j r v ok.2 h
answer_value net (chosen k c a b w n t) p j r v ok h = answer_value net t (at_zero w a b) j r v ok.3 h
answer_value net (forked k op s a b l m) p j r v ok h =
    go (token_in l a j) refl (answer_value net l a j r v ok.2) (answer_value net m b j r v ok.3) h
  where
    go : (o : Option TokenTree) → token_in l a j ≡ o →
        (token_in l a j ≡ Some (ans v r) → (n : ℕ) × Gives net (turned r) v n) →
        (token_in m b j ≡ Some (ans v r) → (n : ℕ) × Gives net (turned r) v n)
        → or_else o (token_in m b j) ≡ Some (ans v r) → (n : ℕ) × Gives net (turned r) v n
    go (Some y) e f g h = f (e ∙ h)
    go None e f g h = g h

module _ (net : NetTree) (sound : Sound net) where
  -- no two live tokens stand at one place
  pub one_place : (log : List ℕ) (S : State) → LeadsTo net log S → (i j : ℕ) (x y : TokenTree) → S.tokens i ≡ Some x →
      S.tokens j ≡ Some y → place_of x ≡ place_of y → i ≡ j
  one_place log S h i j x y e g z = ⊎_elim (λ q. q) (λ n. absurd (go (reached net sound (start_of net) s log S h) x y e g z n))
      (cases_eq i j)
    where
      s : Starts net (start_of net)
      s = starts_of net sound

      mixed : {n : ℕ} (i j : ℕ) (q r : Place) (v : Val) → Accounted net (start_of net) n S → S.tokens i ≡ Some (ask q) →
          S.tokens j ≡ Some (ans v r) → q ≡ r → ⊥
      mixed i j q r v (inr o) e g z = let bad : None ≡ Some (ask q) = sym (o.no_tokens i) ∙ e in cc
      mixed i j q r v (inl (t, live)) e g z =
          let (m, a) = token_below net sound t (start_of net) i (ask q) live.valid (sym (live.has_tokens i) ∙ e) in
          let (n, h) = answer_value net t (start_of net) j r v live.valid (sym (live.has_tokens j) ∙ g) in
          unanswered net sound m q v n a (subst (λ r. Gives net (turned r) v n) (sym z) h)

      apart : {n : ℕ} (x y : TokenTree) → Accounted net (start_of net) n S → S.tokens i ≡ Some x → S.tokens j ≡ Some y →
          (i ≡ j → ⊥) → asked x ≡ asked y → ⊥
      apart x y (inr o) e g d z = let bad : None ≡ Some x = sym (o.no_tokens i) ∙ e in cc
      apart x y (inl (t, live)) e g d z =
          asked_apart net sound (start_of net) (top net sound (start_of net) s) t (start_of net) i j x y live.valid (
            zero,
            refl,
          ) (sym (live.has_tokens i) ∙ e) (sym (live.has_tokens j) ∙ g) d z

      go : {n : ℕ} → Accounted net (start_of net) n S → (x y : TokenTree) → S.tokens i ≡ Some x → S.tokens j ≡ Some y →
          place_of x ≡ place_of y → (i ≡ j → ⊥) → ⊥
      go v (ask q) (ask r) e g z n = apart (ask q) (ask r) v e g n z
      go v (ask q) (ans w r) e g z n = mixed i j q r w v e g z
      go v (ans u q) (ask r) e g z n = mixed j i r q u v g e (sym z)
      go v (ans u q) (ans w r) e g z n = apart (ans u q) (ans w r) v e g n (ap turned z)

  -- an answer is exactly where no token is live, and then no entry is left
  pub answered_idle : (log : List ℕ) (S : State) → LeadsTo net log S → (v : Val) → S.answered ≡ Some v →
      ((j : ℕ) → S.tokens j ≡ None) × ((n : ℕ) (t : Boxes) → S.entries n t ≡ None)
  answered_idle log S h v e = go (reached net sound (start_of net) (starts_of net sound) log S h)
    where
      go : Accounted net (start_of net) (length log) S → ((j : ℕ) → S.tokens j ≡ None) ×
          ((n : ℕ) (t : Boxes) → S.entries n t ≡ None)
      go (inl (t, live)) = let bad : None ≡ Some v = sym live.unanswered ∙ e in absurd cc
      go (inr o) = (o.no_tokens, o.no_entries)

  -- where no token is live there is an answer
  pub idle_answered : (log : List ℕ) (S : State) → LeadsTo net log S → ((j : ℕ) → S.tokens j ≡ None) → (v : Val) ×
      (S.answered ≡ Some v)
  idle_answered log S h none = go (reached net sound (start_of net) (starts_of net sound) log S h)
    where
      go : Accounted net (start_of net) (length log) S → (v : Val) × (S.answered ≡ Some v)
      go (inl (t, live)) =
          let (j, x, e) = some_live t (start_of net) live.opened net live.valid in
          let bad : None ≡ Some x = sym (none j) ∙ live.has_tokens j ∙ e in absurd cc
      go (inr o) = (o.val, o.answered)

  -- live tickets are below the next
  pub low_tickets : {n : ℕ} (S : State) → Accounted net (start_of net) n S → (k : ℕ) (x : TokenTree) → S.tokens k ≡ Some x →
      k < S.next
  low_tickets S (inr o) k x h = let bad : None ≡ Some x = sym (o.no_tokens k) ∙ h in absurd cc
  low_tickets S (inl (t, live)) k x h = ⊎_elim (λ l. l)
      (λ l. let none : None ≡ Some x = sym (live.has_tokens k ∙ no_ticket t (start_of net) k (live.fresh k l)) ∙ h in
      absurd cc) (cases_lt k S.next)

  -- so it is in every state that a log leads to
  pub low : (log : List ℕ) (S : State) → LeadsTo net log S → (k : ℕ) (x : TokenTree) → S.tokens k ≡ Some x → k < S.next
  low log S h = low_tickets S (reached net sound (start_of net) (starts_of net sound) log S h)

-- on a net that runs each live ticket has its step
pub has_step : (net : NetTree) → Runs net → (log : List ℕ) (S : State) → LeadsTo net log S → (i : ℕ) (x : TokenTree) →
    S.tokens i ≡ Some x → (S' : State) × (step net S i ≡ Some S')
has_step net runs = progress net runs.sound (starts_of net runs.sound) runs
