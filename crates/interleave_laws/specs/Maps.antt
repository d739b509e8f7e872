-- States over finite maps, as a running machine keeps them, and what such a state answers.
-- Everything here is a row of `States`, with `get`, `insert` and `remove` in place of functions. `seen` reads a state of maps as a
-- state of functions, and a law says that a step, and with it a run, goes along.
use Rattle.std.specs.Prelude.{◌≡◌, ℕ, suc, List, [], ◌∷◌, Option, Some, None}
use Rattle.std.specs.FinMap as map
use Rattle.std.specs.FinMap.{FinMap}
use Rattle.std.specs.Ordering.{nat_cmp}
use Rattle.pcf_values.specs.declared.val.Val.{Val}
use Rattle.pcf_values.specs.declared.operator.Operator.{Operator}
use Rattle.pcf_values.specs.declared.side.Side.{Side}
use Rattle.token_stacks.specs.Signatures.{Boxes}
use Rattle.fork_join.specs.Entries.{Entry, pending, kept_as, key_cmp}
use Rattle.net_build.specs.Nets.{NetTree}
use Rattle.move_rules.specs.Places.{Place, down, TokenTree, ask, ans}
use Rattle.move_rules.specs.Moves.{Move, solo, fork, join, answer, stay, move}
use Rattle.interleave_laws.specs.Start.{start_of}
use Rattle.interleave_laws.specs.States.{other, State}

-- a state of the machine, over finite maps
pub record MapState : Type 0 where
  pub tokens : FinMap nat_cmp TokenTree
  pub entries : FinMap key_cmp Entry
  pub next : ℕ
  pub answered : Option Val

-- the state in which a run begins
abbrev pub start_map : Place → MapState
start_map p = record { tokens = map.insert map.empty 0 (ask p); entries = map.empty; next = 1; answered = None }

-- a fork
abbrev pub fork_map : Option Entry → MapState → ℕ → ℕ → Place → Place → Boxes → Option MapState
fork_map (Some e) S i n l r t = None
fork_map None S i n l r t = Some (record S {
  tokens = map.insert (map.insert S.tokens i (ask l)) S.next (ask r);
  entries = map.insert S.entries (n, t) pending;
  next = suc S.next;
})

-- the second answer at a join
abbrev pub last_map : Option Val → MapState → ℕ → ℕ → ℕ → Boxes → Option MapState
last_map None S i n w t = None
last_map (Some u) S i n w t =
    Some (record S { tokens = map.insert S.tokens i (ans u (down w [] t)); entries = map.remove S.entries (n, t) })

-- a join
abbrev pub join_map : Option Entry → MapState → ℕ → ℕ → Operator → Side → Val → ℕ → Boxes → Option MapState
join_map None S i n o s v w t = None
join_map (Some pending) S i n o s v w t =
    Some (record S { tokens = map.remove S.tokens i; entries = map.insert S.entries (n, t) (kept_as s v) })
join_map (Some e) S i n o s v w t = last_map (other o e s v) S i n w t

-- the state after a move of the ticket
abbrev pub act_map : Move → MapState → ℕ → Option MapState
act_map (solo n x) S i = Some (record S { tokens = map.insert S.tokens i x })
act_map (fork n l r t) S i = fork_map (map.get S.entries (n, t)) S i n l r t
act_map (join n o s v w t) S i = join_map (map.get S.entries (n, t)) S i n o s v w t
act_map (answer v) S i = Some (record S { tokens = map.remove S.tokens i; answered = Some v })
act_map stay S i = None

-- the state after the move of this token, if there is one
abbrev pub step_map_on : NetTree → Option TokenTree → MapState → ℕ → Option MapState
step_map_on net None S i = None
step_map_on net (Some x) S i = act_map (move net x) S i

-- the state after the one move of a ticket
abbrev pub step_map : NetTree → MapState → ℕ → Option MapState
step_map net S i = step_map_on net (map.get S.tokens i) S i

-- go on with the state
abbrev pub then_run_map : Option MapState → (MapState → Option MapState) → Option MapState
then_run_map None f = None
then_run_map (Some S) f = f S

-- the run of a log, from a state
abbrev pub run_map : NetTree → MapState → List ℕ → Option MapState
run_map net S [] = Some S
run_map net S (i ∷ log) = then_run_map (step_map net S i) (λ S. run_map net S log)

-- the log leads from the net's start to the state
abbrev pub LeadsToMap : NetTree → List ℕ → MapState → Type 0
LeadsToMap net log S = run_map net (start_map (start_of net)) log ≡ Some S

-- what a state of maps answers at each ticket and each key
abbrev pub seen : MapState → State
seen S = record { tokens = λ j. map.get S.tokens j; entries = λ n t. map.get S.entries (n, t); next = S.next; answered = S.answered }

-- the same tokens are live, whatever their tickets, and the entries and the answer are the same
pub record SameBareMap (S T : MapState) : Type 0 where
  pub stays : (i : ℕ) (x : TokenTree) → map.get S.tokens i ≡ Some x → (j : ℕ) × (map.get T.tokens j ≡ Some x)
  pub back : (i : ℕ) (x : TokenTree) → map.get T.tokens i ≡ Some x → (j : ℕ) × (map.get S.tokens j ≡ Some x)
  pub entries : S.entries ≡ T.entries
  pub answered : S.answered ≡ T.answered
