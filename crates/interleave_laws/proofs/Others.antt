-- A step leaves the tokens of all other live tickets.
-- A fork gives its new token the next ticket, and live tickets are below that.
use Rattle.std.proofs.Common.{◌≡◌, ◌≢◌, ℕ, cond, List, Option, Some, None, sym, ap, ◌∙◌, arith}
use Rattle.std.proofs.lemmas.Bool.{ne_eqb}
use Rattle.pcf_values.specs.declared.val.Val.{Val}
use Rattle.pcf_values.specs.declared.operator.Operator.{Operator}
use Rattle.pcf_values.specs.declared.side.Side.{Side}
use Rattle.token_stacks.specs.Signatures.{Boxes}
use Rattle.fork_join.specs.Entries.{Entry, pending, has_left, has_right}
use Rattle.net_build.specs.Nets.{NetTree}
use Rattle.net_build.specs.Sound.{Sound}
use Rattle.move_rules.specs.Places.{Place, TokenTree, ask}
use Rattle.move_rules.specs.Moves.{Move, solo, fork, join, answer, stay, move}
use Rattle.interleave_laws.specs.States.{Tokens, other, State, set_token, step, step_on, act, fork_on, last_on, join_on}
use Rattle.interleave_laws.specs.Runs.{LeadsTo}
use Rattle.interleave_laws.proofs.Running.{low}

-- what a step leaves at other tickets than its own and the next
abbrev pub Leaves : State → ℕ → State → Type 0
Leaves S i T = (j : ℕ) → (j ≡ i → ⊥) → (j ≡ S.next → ⊥) → T.tokens j ≡ S.tokens j

-- what is written at one ticket leaves the others
past : (f : Tokens) (i : ℕ) (x : Option TokenTree) (j : ℕ) → (j ≡ i → ⊥) → set_token f i x j ≡ f j
past f i x j d = ap (λ b. cond b x (f j)) (ne_eqb j i d)

-- of one option
pub some_state : (S T : State) → Some S ≡ Some T → S ≡ T
some_state S T h = cc

-- a fork
fork_leaves : (o : Option Entry) (S T : State) (i n : ℕ) (l r : Place) (t : Boxes) → fork_on o S i n l r t ≡ Some T → Leaves S i T
fork_leaves (Some e) S T i n l r t h = cc
fork_leaves None S T i n l r t h = λ j d e.
    ap (λ (U : State). U.tokens j) (sym (some_state _ T h)) ∙ past (set_token S.tokens i (Some (ask l))) S.next (Some (ask r)) j e ∙
    past S.tokens i (Some (ask l)) j d

-- the second answer
last_leaves : (o : Option Val) (S T : State) (i n w : ℕ) (t : Boxes) → last_on o S i n w t ≡ Some T → Leaves S i T
last_leaves None S T i n w t h = cc
last_leaves (Some u) S T i n w t h = λ j d e. ap (λ (U : State). U.tokens j) (sym (some_state _ T h)) ∙ past S.tokens i _ j d

-- a join
join_leaves : (o : Option Entry) (S T : State) (i n : ℕ) (op : Operator) (s : Side) (v : Val) (w : ℕ) (t : Boxes) →
    join_on o S i n op s v w t ≡ Some T → Leaves S i T
join_leaves None S T i n op s v w t h = cc
join_leaves (Some pending) S T i n op s v w t h = λ j d e. ap (λ (U : State). U.tokens j) (sym (some_state _ T h)) ∙
    past S.tokens i None j d
join_leaves (Some (has_left u)) S T i n op s v w t h = last_leaves (other op (has_left u) s v) S T i n w t h
join_leaves (Some (has_right u)) S T i n op s v w t h = last_leaves (other op (has_right u) s v) S T i n w t h

-- any move
act_leaves : (m : Move) (S T : State) (i : ℕ) → act m S i ≡ Some T → Leaves S i T
act_leaves (solo n x) S T i h = λ j d e. ap (λ (U : State). U.tokens j) (sym (some_state _ T h)) ∙ past S.tokens i (Some x) j d
act_leaves (fork n l r t) S T i h = fork_leaves (S.entries n t) S T i n l r t h
act_leaves (join n o s v w t) S T i h = join_leaves (S.entries n t) S T i n o s v w t h
act_leaves (answer v) S T i h = λ j d e. ap (λ (U : State). U.tokens j) (sym (some_state _ T h)) ∙ past S.tokens i None j d
act_leaves stay S T i h = cc

-- a step
pub step_leaves : (net : NetTree) (o : Option TokenTree) (S T : State) (i : ℕ) → step_on net o S i ≡ Some T → Leaves S i T
step_leaves net None S T i h = cc
step_leaves net (Some x) S T i h = act_leaves (move net x) S T i h

-- on a sound net, what was live is below the next ticket
pub others_live : (net : NetTree) → Sound net → (log : List ℕ) (S : State) → LeadsTo net log S →
    (T : State) (i j : ℕ) (y : TokenTree) → step net S i ≡ Some T → j ≢ i → S.tokens j ≡ Some y → T.tokens j ≡ Some y
others_live net sound log S h T i j y s d e = let l = low net sound log S h j y e in
    step_leaves net (S.tokens i) S T i s j d (λ q. omega arith) ∙ e
