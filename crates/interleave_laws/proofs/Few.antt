-- No more tickets are live than were given out, in any state that a log leads to.
use Rattle.std.proofs.Common.{◌≡◌, ◌≤◌, ℕ, Bool, true, false, cond, [], Option, Some, None, Result, Ok, Err}
use Rattle.std.proofs.Common.{◌+◌, ◌-◌, refl, sym, ap, ◌∙◌, subst, arith}
use Rattle.std.specs.Prelude.{is_some}
use Rattle.std.specs.Result.{OnOk, OnErr}
use Rattle.std.specs.Ordering.{nat_cmp}
use Rattle.std.specs.FinMap as finite
use Rattle.std.specs.FinMap.{FinMap, len-empty, len-insert, len-remove}
use Rattle.std.proofs.lemmas.Cmp.{nat_cmp_total}
use Rattle.pcf_values.specs.declared.val.Val.{Val}
use Rattle.pcf_values.specs.declared.operator.Operator.{Operator}
use Rattle.pcf_values.specs.declared.side.Side.{Side}
use Rattle.token_stacks.specs.Signatures.{Boxes}
use Rattle.fork_join.specs.Entries.{Entry, pending, has_left, has_right}
use Rattle.net_build.specs.Nets.{NetTree}
use Rattle.move_rules.specs.Places.{Place, down, TokenTree, ask, ans}
use Rattle.move_rules.specs.Moves.{Move, solo, fork, join, answer, stay, move}
use Rattle.interleave_laws.specs.States.{other}
use Rattle.interleave_laws.specs.Maps.{MapState, start_map, fork_map, last_map, join_map, act_map, step_map_on, step_map}

-- a ticket that has a token and is given another leaves as many
same_count : (f : FinMap nat_cmp TokenTree) (i : ℕ) (x y : TokenTree) → finite.get f i ≡ Some x →
    finite.len (finite.insert f i y) ≡ finite.len f
same_count f i x y e = len-insert nat_cmp_total f i y ∙ ap (λ o. cond (is_some o) (finite.len f) (finite.len f + 1)) e

-- a token more is one more at most
pub one_more : (f : FinMap nat_cmp TokenTree) (i : ℕ) (y : TokenTree) → finite.len (finite.insert f i y) ≤ finite.len f + 1
one_more f i y = subst (λ n. n ≤ finite.len f + 1) (sym (len-insert nat_cmp_total f i y))
    (either (is_some (finite.get f i)) (finite.len f))
  where
    either : (b : Bool) (n : ℕ) → cond b n (n + 1) ≤ n + 1
    either true n = omega arith
    either false n = omega arith

-- a token fewer isn't more
no_more : (f : FinMap nat_cmp TokenTree) (i : ℕ) → finite.len (finite.remove f i) ≤ finite.len f
no_more f i = subst (λ n. n ≤ finite.len f) (sym (len-remove nat_cmp_total f i)) (either (is_some (finite.get f i)) (finite.len f))
  where
    either : (b : Bool) (n : ℕ) → cond b (n - 1) n ≤ n
    either true n = omega arith
    either false n = omega arith

-- no more tickets are live than were given out
abbrev pub Few : MapState → Type 0
Few S = finite.len S.tokens ≤ S.next

-- of equal states
few_of : (S T : MapState) → Few S → Some S ≡ Some T → Few T
few_of S T h e = let q : S ≡ T = cc in subst Few q h

-- the second answer
last_few : (o : Option Val) (S T : MapState) (i n w : ℕ) (t : Boxes) (x : TokenTree) → finite.get S.tokens i ≡ Some x → Few S →
    last_map o S i n w t ≡ Some T → Few T
last_few None S T i n w t x e h s = cc
last_few (Some u) S T i n w t x e h s = few_of _ T (let k = same_count S.tokens i x (ans u (down w [] t)) e in omega (arith, k, h)) s

-- a join
join_few : (o : Option Entry) (S T : MapState) (i n : ℕ) (op : Operator) (d : Side) (v : Val) (w : ℕ) (t : Boxes) (x : TokenTree) →
    finite.get S.tokens i ≡ Some x → Few S → join_map o S i n op d v w t ≡ Some T → Few T
join_few None S T i n op d v w t x e h s = cc
join_few (Some pending) S T i n op d v w t x e h s = few_of _ T (let k = no_more S.tokens i in omega (arith, k, h)) s
join_few (Some (has_left u)) S T i n op d v w t x e h s = last_few (other op (has_left u) d v) S T i n w t x e h s
join_few (Some (has_right u)) S T i n op d v w t x e h s = last_few (other op (has_right u) d v) S T i n w t x e h s

-- a fork makes one more live ticket and gives one more out
fork_few : (o : Option Entry) (S T : MapState) (i n : ℕ) (l r : Place) (t : Boxes) (x : TokenTree) →
    finite.get S.tokens i ≡ Some x → Few S → fork_map o S i n l r t ≡ Some T → Few T
fork_few (Some y) S T i n l r t x e h s = cc
fork_few None S T i n l r t x e h s =
    few_of _ T (let k = one_more (finite.insert S.tokens i (ask l)) S.next (ask r) in let m = same_count S.tokens i x (ask l) e in
    omega (arith, k, m, h)) s

-- any move
act_few : (m : Move) (S T : MapState) (i : ℕ) (x : TokenTree) → finite.get S.tokens i ≡ Some x → Few S →
    act_map m S i ≡ Some T → Few T
act_few (solo n y) S T i x e h s = few_of _ T (let k = same_count S.tokens i x y e in omega (arith, k, h)) s
act_few (fork n l r t) S T i x e h s = fork_few (finite.get S.entries (n, t)) S T i n l r t x e h s
act_few (join n op d v w t) S T i x e h s = join_few (finite.get S.entries (n, t)) S T i n op d v w t x e h s
act_few (answer v) S T i x e h s = few_of _ T (let k = no_more S.tokens i in omega (arith, k, h)) s
act_few stay S T i x e h s = cc

-- a step
pub step_few : (net : NetTree) (S T : MapState) (i : ℕ) → Few S → step_map net S i ≡ Some T → Few T
step_few net S T i h s = go (finite.get S.tokens i) refl s
  where
    go : (o : Option TokenTree) → finite.get S.tokens i ≡ o → step_map_on net o S i ≡ Some T → Few T
    go None e s = cc
    go (Some x) e s = act_few (move net x) S T i x e h s

-- the start
pub start_few : (p : Place) → Few (start_map p)
start_few p = let k = one_more finite.empty 0 (ask p) in let z = len-empty nat_cmp TokenTree in omega (arith, k, z)

-- a walk that is taken over
pub adopted_few : (S : MapState) (i : ℕ) (x y : TokenTree) → finite.get S.tokens i ≡ Some x → Few S →
    Few (record S { tokens = finite.insert S.tokens i y })
adopted_few S i x y e h = let k = same_count S.tokens i x y e in omega (arith, k, h)

-- after a step, and after want of memory too
pub kept_few : {A E : Type 0} (net : NetTree) (S T : MapState) (i : ℕ) (r : Result A E) → Few S →
    OnOk r (step_map net S i ≡ Some T) → OnErr r (T ≡ S) → Few T
kept_few net S T i (Ok x) h s e = step_few net S T i h s
kept_few net S T i (Err x) h s e = subst Few (sym e) h
