-- A step over finite maps is a step of what they answer, and so is a run; states that answer alike are one.
-- Each change of a finite map is seen as the change of a function, at all keys at once.
use Rattle.std.proofs.Common.{◌≡◌, ℕ, suc, cond, List, [], ◌∷◌, Option, Some, None, refl, ap, ◌∙◌}
use Rattle.std.proofs.Math.Path.{fun_ext}
use Rattle.std.specs.Prelude.{nat_eq}
use Rattle.std.specs.FinMap as map
use Rattle.std.specs.FinMap.{FinMap, get-empty, get-insert, get-remove, same_map, nat_cmp-IsAntisymmetric}
use Rattle.std.specs.Ordering.{nat_cmp}
use Rattle.std.proofs.lemmas.Cmp.{nat_cmp_total}
use Rattle.pcf_values.specs.declared.val.Val.{Val}
use Rattle.pcf_values.specs.declared.operator.Operator.{Operator}
use Rattle.pcf_values.specs.declared.side.Side.{Side}
use Rattle.token_stacks.specs.Signatures.{Boxes}
use Rattle.fork_join.specs.Entries.{Entry, pending, has_left, has_right, kept_as, key_cmp}
use Rattle.net_build.specs.Nets.{NetTree}
use Rattle.move_rules.specs.Places.{Place, down, TokenTree, ask, ans}
use Rattle.move_rules.specs.Moves.{Move, solo, fork, join, answer, stay, move}
use Rattle.interleave_laws.specs.States.{other, set_token, set_entry, State, start, then_run, run, step, step_on, act, fork_on, last_on}
use Rattle.interleave_laws.specs.States.{join_on}
use Rattle.interleave_laws.specs.Maps.{MapState, fork_map, last_map, join_map, act_map, step_map, step_map_on, start_map, then_run_map}
use Rattle.interleave_laws.specs.Maps.{run_map, seen}
use Rattle.interleave_laws.specs.MapRuns.{option_seen}
use Rattle.fork_join.proofs.Keys.{key_total, key_cmp-same, test_key}
use Rattle.interleave_laws.proofs.Tickets.{test_nat}

-- what an inserted or removed key answers
pub tokens_put : (f : FinMap nat_cmp TokenTree) (i : ℕ) (x : TokenTree) →
    (λ (j : ℕ). map.get (map.insert f i x) j) ≡ set_token (λ j. map.get f j) i (Some x)
tokens_put f i x = fun_ext (λ j. get-insert nat_cmp_total f i x j ∙ ap (λ b. cond b (Some x) (map.get f j)) (test_nat j i))

-- a ticket that ends
tokens_gone : (f : FinMap nat_cmp TokenTree) (i : ℕ) →
    (λ (j : ℕ). map.get (map.remove f i) j) ≡ set_token (λ j. map.get f j) i None
tokens_gone f i = fun_ext (λ j. get-remove nat_cmp_total f i j ∙ ap (λ b. cond b None (map.get f j)) (test_nat j i))

-- an entry that is written
entries_put : (g : FinMap key_cmp Entry) (n : ℕ) (t : Boxes) (e : Entry) →
    (λ (m : ℕ) (u : Boxes). map.get (map.insert g (n, t) e) (m, u)) ≡ set_entry (λ m u. map.get g (m, u)) n t (Some e)
entries_put g n t e =
    fun_ext (λ m. fun_ext (λ u. get-insert key_total g (n, t) e (m, u) ∙
    ap (λ b. cond b (Some e) (map.get g (m, u))) (test_key m u n t)))

-- an entry that goes
entries_gone : (g : FinMap key_cmp Entry) (n : ℕ) (t : Boxes) →
    (λ (m : ℕ) (u : Boxes). map.get (map.remove g (n, t)) (m, u)) ≡ set_entry (λ m u. map.get g (m, u)) n t None
entries_gone g n t = fun_ext (λ m. fun_ext
    (λ u. get-remove key_total g (n, t) (m, u) ∙ ap (λ b. cond b None (map.get g (m, u))) (test_key m u n t)))

-- the second answer
last_seen : (o : Option Val) (S : MapState) (i n w : ℕ) (t : Boxes) → option_seen (last_map o S i n w t) ≡ last_on o (seen S) i n w t
last_seen None S i n w t = refl
last_seen (Some u) S i n w t =
    λ k. Some (record {
      tokens = tokens_put S.tokens i (ans u (down w [] t)) k;
      entries = entries_gone S.entries n t k;
      next = S.next;
      answered = S.answered;
    })

-- a join
join_seen : (e : Option Entry) (S : MapState) (i n : ℕ) (op : Operator) (s : Side) (v : Val) (w : ℕ) (t : Boxes) →
    option_seen (join_map e S i n op s v w t) ≡ join_on e (seen S) i n op s v w t
join_seen None S i n op s v w t = refl
join_seen (Some pending) S i n op s v w t =
    λ k. Some (record {
      tokens = tokens_gone S.tokens i k;
      entries = entries_put S.entries n t (kept_as s v) k;
      next = S.next;
      answered =
          S.answered;
    })
join_seen (Some (has_left u)) S i n op s v w t = last_seen (other op (has_left u) s v) S i n w t
join_seen (Some (has_right u)) S i n op s v w t = last_seen (other op (has_right u) s v) S i n w t

-- a fork
fork_seen : (o : Option Entry) (S : MapState) (i n : ℕ) (l r : Place) (t : Boxes) →
    option_seen (fork_map o S i n l r t) ≡ fork_on o (seen S) i n l r t
fork_seen (Some e) S i n l r t = refl
fork_seen None S i n l r t =
    let two : (λ (j : ℕ). map.get (map.insert (map.insert S.tokens i (ask l)) S.next (ask r)) j) ≡ set_token
    (set_token (λ j. map.get S.tokens j) i (Some (ask l))) S.next (Some (ask r)) =
    tokens_put (map.insert S.tokens i (ask l)) S.next (ask r) ∙
    ap (λ f. set_token f S.next (Some (ask r))) (tokens_put S.tokens i (ask l)) in
    λ k. Some (record { tokens = two k; entries = entries_put S.entries n t pending k; next = suc S.next; answered = S.answered })

-- any move
act_seen : (net : NetTree) (m : Move) (S : MapState) (i : ℕ) → option_seen (act_map m S i) ≡ act m (seen S) i
act_seen net (solo n x) S i =
    λ k. Some (record {
      tokens = tokens_put S.tokens i x k;
      entries = λ m u. map.get S.entries (m, u);
      next = S.next;
      answered =
          S.answered;
    })
act_seen net (fork n l r t) S i = fork_seen (map.get S.entries (n, t)) S i n l r t
act_seen net (join n op s v w t) S i = join_seen (map.get S.entries (n, t)) S i n op s v w t
act_seen net (answer v) S i =
    λ k. Some (record { tokens = tokens_gone S.tokens i k; entries = λ m u. map.get S.entries (m, u); next = S.next; answered = Some v })
act_seen net stay S i = refl

-- a step
pub step_seen : (net : NetTree) (S : MapState) (i : ℕ) → option_seen (step_map net S i) ≡ step net (seen S) i
step_seen net S i = go (map.get S.tokens i)
  where
    go : (o : Option TokenTree) → option_seen (step_map_on net o S i) ≡ step_on net o (seen S) i
    go None = refl
    go (Some x) = act_seen net (move net x) S i

-- the start
pub start_seen : (p : Place) → seen (start_map p) ≡ start p
start_seen p =
    let tokens : (λ (j : ℕ). map.get (map.insert map.empty 0 (ask p)) j) ≡ (λ j. cond (nat_eq j 0) (Some (ask p)) None) =
    tokens_put map.empty 0 (ask p) ∙ ap (λ f. set_token f 0 (Some (ask p))) (fun_ext (λ j. get-empty nat_cmp j)) in
    let entries : (λ (n : ℕ) (t : Boxes). map.get {X = Entry} {R = key_cmp} map.empty (n, t)) ≡ (λ n t. None) =
    fun_ext (λ n. fun_ext (λ t. get-empty key_cmp (n, t))) in
    λ k. record { tokens = tokens k; entries = entries k; next = 1; answered = None }

-- a run
pub run_seen : (net : NetTree) (S : MapState) (log : List ℕ) → option_seen (run_map net S log) ≡ run net (seen S) log
run_seen net S [] = refl
run_seen net S (i ∷ log) = go (λ T. run_seen net T log) (step_map net S i) ∙
    ap (λ o. then_run o (λ T. run net T log)) (step_seen net S i)
  where
    go : ((T : MapState) → option_seen (run_map net T log) ≡ run net (seen T) log) → (o : Option MapState) →
        option_seen (then_run_map o (λ T. run_map net T log)) ≡ then_run (option_seen o) (λ T. run net T log)
    go ih None = refl
    go ih (Some T) = ih T

-- states that answer alike are one
pub same_tokens : (f g : FinMap nat_cmp TokenTree) → ((j : ℕ) → map.get f j ≡ map.get g j) → f ≡ g
same_tokens f g h = same_map nat_cmp_total nat_cmp-IsAntisymmetric f g h

-- and so are entries
pub same_entries : (f g : FinMap key_cmp Entry) → ((n : ℕ) (t : Boxes) → map.get f (n, t) ≡ map.get g (n, t)) → f ≡ g
same_entries f g h = same_map key_total key_cmp-same f g (λ q. h q.0 q.1)

-- and so are states
pub seen_same : (S T : MapState) → seen S ≡ seen T → S ≡ T
seen_same S T h =
    let p = same_tokens S.tokens T.tokens (λ j. ap (λ (s : State). s.tokens j) h) in
    let q = same_entries S.entries T.entries (λ n t. ap (λ (s : State). s.entries n t) h) in
    let r = ap (λ (s : State). s.next) h in
    let a = ap (λ (s : State). s.answered) h in
    λ k. record { tokens = p k; entries = q k; next = r k; answered = a k }
