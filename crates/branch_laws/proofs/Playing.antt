-- A branch is played move by move, and the state that it is grafted into goes along.
use Rattle.std.proofs.Common.{◌≡◌, ℕ, zero, suc, ◌+◌, ◌-◌, ◌<◌, ◌≤◌, cond, List, [], ◌∷◌, ◌++◌}
use Rattle.std.proofs.Common.{Option, Some, None, refl, sym, ap, ◌∙◌, subst, ⊎_elim, arith}
use Rattle.std.proofs.Math.Path.{fun_ext}
use Rattle.std.proofs.lemmas.Bool.{eq-eqb, ne_eqb, le-ltb, lt-ltb, cases_lt, cases_eq}
use Rattle.std.specs.Prelude.{nat_lt, map, replicate}
use Rattle.pcf_values.specs.declared.val.Val.{Val}
use Rattle.pcf_values.specs.declared.operator.Operator.{Operator}
use Rattle.pcf_values.specs.declared.side.Side.{Side}
use Rattle.token_stacks.specs.Signatures.{Boxes}
use Rattle.fork_join.specs.Entries.{Entry, pending, has_left, has_right}
use Rattle.net_build.specs.Nets.{NetTree}
use Rattle.net_build.specs.Sound.{Sound}
use Rattle.move_rules.specs.Places.{Place, TokenTree, ask}
use Rattle.move_rules.specs.Table.{or_else}
use Rattle.move_rules.specs.Moves.{Move, solo, fork, join, answer, stay, move}
use Rattle.interleave_laws.specs.States.{Tokens, other, State, start, step, step_on, act, fork_on, last_on, join_on, then_run, run}
use Rattle.interleave_laws.specs.Runs.{Runs, LeadsTo}
use Rattle.interleave_laws.specs.Start.{start_of}
use Rattle.interleave_laws.proofs.Running.{starts_of, low, run_append, run_on}
use Rattle.branch_laws.specs.Branches.{start_at, name, grafted_tokens, grafted}
use Rattle.branch_laws.specs.Laws.{Branched}
use Rattle.interleave_laws.proofs.Others.{some_state}
use Rattle.interleave_laws.proofs.Progress.{moving_steps}
use Rattle.branch_laws.proofs.Grafting.{graft_at, Fits, HasAct, act_grafts}

-- the whole run is the branch on its start's question
pub start_branch : (p : Place) → start p ≡ start_at (ask p)
start_branch p = refl

-- the answer of a state stays
kept_answer : (S U T : State) → U.answered ≡ S.answered → Some U ≡ Some T → T.answered ≡ None → S.answered ≡ None
kept_answer S U T e h none = sym e ∙ ap (λ (V : State). V.answered) (some_state U T h) ∙ none

last_answer : (o : Option Val) (S T : State) (i n w : ℕ) (t : Boxes) → last_on o S i n w t ≡ Some T → T.answered ≡ None →
    S.answered ≡ None
last_answer None S T i n w t h none = cc
last_answer (Some u) S T i n w t h none = kept_answer S _ T refl h none

join_answer : (e : Option Entry) (S T : State) (i n : ℕ) (op : Operator) (d : Side) (v : Val) (w : ℕ) (t : Boxes) →
    join_on e S i n op d v w t ≡ Some T → T.answered ≡ None → S.answered ≡ None
join_answer None S T i n op d v w t h none = cc
join_answer (Some pending) S T i n op d v w t h none = kept_answer S _ T refl h none
join_answer (Some (has_left u)) S T i n op d v w t h none = last_answer (other op (has_left u) d v) S T i n w t h none
join_answer (Some (has_right u)) S T i n op d v w t h none = last_answer (other op (has_right u) d v) S T i n w t h none

fork_answer : (e : Option Entry) (S T : State) (i n : ℕ) (l r : Place) (t : Boxes) → fork_on e S i n l r t ≡ Some T →
    T.answered ≡ None → S.answered ≡ None
fork_answer None S T i n l r t h none = kept_answer S _ T refl h none
fork_answer (Some e) S T i n l r t h none = cc

act_answer : (m : Move) (S T : State) (i : ℕ) → act m S i ≡ Some T → T.answered ≡ None → S.answered ≡ None
act_answer (solo n x) S T i h none = kept_answer S _ T refl h none
act_answer (fork n l r t) S T i h none = fork_answer (S.entries n t) S T i n l r t h none
act_answer (join n op d v w t) S T i h none = join_answer (S.entries n t) S T i n op d v w t h none
act_answer (answer v) S T i h none =
    let e : Some v ≡ T.answered = ap (λ (U : State). U.answered) (some_state _ T h) in
    let bad : Some v ≡ None = e ∙ none in absurd cc
act_answer stay S T i h none = cc

step_answer : (net : NetTree) (o : Option TokenTree) (S T : State) (i : ℕ) → step_on net o S i ≡ Some T → T.answered ≡ None →
    S.answered ≡ None
step_answer net None S T i h none = cc
step_answer net (Some x) S T i h none = act_answer (move net x) S T i h none

-- so a run without an answer had none before
pub run_answer : (net : NetTree) (l : List ℕ) (S T : State) → run net S l ≡ Some T → T.answered ≡ None → S.answered ≡ None
run_answer net [] S T h none = ap (λ (U : State). U.answered) (some_state S T h) ∙ none
run_answer net (i ∷ l) S T h none = go (step net S i) refl (λ U. run_answer net l U T) h
  where
    go : (o : Option State) → step net S i ≡ o →
        ((U : State) → run net U l ≡ Some T → T.answered ≡ None → U.answered ≡ None) →
        then_run o (λ U. run net U l) ≡ Some T → S.answered ≡ None
    go None e f h = cc
    go (Some U) e f h = step_answer net (S.tokens i) S U i e (f U h none)

-- an answer that comes to a join whose entry isn't the branch's
abbrev pub Foreign : State → Move → Type 0
Foreign B m = (n : ℕ) × (o : Operator) × (s : Side) × (v : Val) × (w : ℕ) × (t : Boxes) × (m ≡ join n o s v w t) ×
    (B.entries n t ≡ None)

-- a join that has a step in one state has it in each that has the same there
last_both : (o : Option Val) (G T B : State) (i k n w : ℕ) (t : Boxes) → last_on o G i n w t ≡ Some T →
    last_on o B k n w t ≡ None → ⊥
last_both None G T B i k n w t h g = cc
last_both (Some u) G T B i k n w t h g = cc

join_both : (y : Entry) (G T B : State) (i k n : ℕ) (op : Operator) (s : Side) (v : Val) (w : ℕ) (t : Boxes) →
    join_on (Some y) G i n op s v w t ≡ Some T → join_on (Some y) B k n op s v w t ≡ None → ⊥
join_both pending G T B i k n op s v w t h g = cc
join_both (has_left u) G T B i k n op s v w t h g = last_both (other op (has_left u) s v) G T B i k n w t h g
join_both (has_right u) G T B i k n op s v w t h g = last_both (other op (has_right u) s v) G T B i k n w t h g

module _ (S : State) (i : ℕ) (below : i < S.next) where
  fork_stops : (B : State) (k n : ℕ) (l r : Place) (t : Boxes) (o : Option Entry) → B.entries n t ≡ o →
      HasAct S i below (fork n l r t) B k → fork_on o B k n l r t ≡ None → ⊥
  fork_stops B k n l r t None e has h = cc
  fork_stops B k n l r t (Some y) e (T, has) h =
      let there : (grafted S i B).entries n t ≡ Some y = ap (λ o. or_else o (S.entries n t)) e in
      let bad : None ≡ Some T = sym (ap (λ o. fork_on o (grafted S i B) (name i S.next k) n l r t) there) ∙ has in cc

  join_stops : (B : State) (k n : ℕ) (op : Operator) (s : Side) (v : Val) (w : ℕ) (t : Boxes) (o : Option Entry) → B.entries n t ≡ o →
      HasAct S i below (join n op s v w t) B k → join_on o B k n op s v w t ≡ None → Foreign B (join n op s v w t)
  join_stops B k n op s v w t None e has h = (n, op, s, v, w, t, refl, e)
  join_stops B k n op s v w t (Some y) e (T, has) h =
      let there : (grafted S i B).entries n t ≡ Some y = ap (λ o. or_else o (S.entries n t)) e in
      absurd (join_both y (grafted S i B) T B (name i S.next k) k n op s v w t
      (sym (ap (λ o. join_on o (grafted S i B) (name i S.next k) n op s v w t) there) ∙ has) h)

  -- where the state has a step that the branch hasn't
  pub act_stops : (B : State) (k : ℕ) (m : Move) → HasAct S i below m B k → act m B k ≡ None → Foreign B m
  act_stops B k (solo n x) has h = absurd cc
  act_stops B k (fork n l r t) has h = absurd (fork_stops B k n l r t (B.entries n t) refl has h)
  act_stops B k (join n op s v w t) has h = join_stops B k n op s v w t (B.entries n t) refl has h
  act_stops B k (answer v) has h = absurd cc
  act_stops B k stay (T, has) h = absurd cc

-- a move that leads on is there
moves : (m : Move) (S T : State) (i : ℕ) → act m S i ≡ Some T → m ≡ stay → ⊥
moves m S T i h e = let bad : None ≡ Some T = sym (ap (λ m. act m S i) e) ∙ h in cc

module _ (net : NetTree) (sound : Sound net) (S : State) (i : ℕ) (below : i < S.next) where
  -- the state that the branch is grafted into has the step of each of its tickets whose token has a move
  pub has_act : (log : List ℕ) (B : State) → LeadsTo net log (grafted S i B) → (k : ℕ) (y : TokenTree) → B.tokens k ≡ Some y →
      (move net y ≡ stay → ⊥) → HasAct S i below (move net y) B k
  has_act log B led k y e moving =
      let here : (grafted S i B).tokens (name i S.next k) ≡ Some y = graft_at S.tokens i S.next below B.tokens k ∙ e in
      let (T, s) = moving_steps net sound (starts_of net sound) log (grafted S i B) led (name i S.next k) y here moving in
      (T, ap (λ o. step_on net o (grafted S i B) (name i S.next k)) (sym here) ∙ s)

  -- one move
  pub step_grafts : (log : List ℕ) (B C : State) → LeadsTo net log (grafted S i B) → (k : ℕ) → Fits S B →
      step net B k ≡ Some C → C.answered ≡ None → (step net (grafted S i B) (name i S.next k) ≡ Some (grafted S i C)) × Fits S C
  step_grafts log B C led k fits h none = go (B.tokens k) refl h
    where
      go : (o : Option TokenTree) → B.tokens k ≡ o → step_on net o B k ≡ Some C →
          (step net (grafted S i B) (name i S.next k) ≡ Some (grafted S i C)) × Fits S C
      go None e h = cc
      go (Some y) e h =
          let (a, b) = act_grafts S i below (move net y) B C k fits (has_act log B led k y e (moves (move net y) B C k h)) h none in
          (ap (λ o. step_on net o (grafted S i B) (name i S.next k)) (graft_at S.tokens i S.next below B.tokens k ∙ e) ∙ a, b)

  -- a run of the branch
  pub run_grafts : (l : List ℕ) (log : List ℕ) (B C : State) → LeadsTo net log (grafted S i B) → Fits S B →
      run net B l ≡ Some C → C.answered ≡ None →
      (run net (grafted S i B) (map (name i S.next) l) ≡ Some (grafted S i C)) × Fits S C
  run_grafts [] log B C led fits h none = let e = some_state B C h in (ap (λ B. Some (grafted S i B)) e, subst (Fits S) e fits)
  run_grafts (k ∷ l) log B C led fits h none = go (step net B k) refl (λ log U. run_grafts l log U C) h
    where
      go : (o : Option State) → step net B k ≡ o
          → ((log : List ℕ) (U : State) → LeadsTo net log (grafted S i U) → Fits S U → run net U l ≡ Some C →
          C.answered ≡ None → (run net (grafted S i U) (map (name i S.next) l) ≡ Some (grafted S i C)) × Fits S C)
          → then_run o (λ U. run net U l) ≡ Some C →
          (run net (grafted S i B) (map (name i S.next) (k ∷ l)) ≡ Some (grafted S i C)) × Fits S C
      go None e f h = cc
      go (Some U) e f h =
          let (a, b) = step_grafts log B U led k fits e (run_answer net l U C h none) in
          let led' = run_append net log (start (start_of net)) (grafted S i B) (grafted S i U) (name i S.next k) led a in
          let (r, c) = f (log ++ name i S.next k ∷ []) U led' b h none in
          (ap (λ o. then_run o (λ U. run net U (map (name i S.next) l))) a ∙ r, c)

-- a branch that hasn't moved is the state as it is
pub same_tokens : (f : Tokens) (i n : ℕ) (x : TokenTree) → f i ≡ Some x →
    ((j : ℕ) (y : TokenTree) → f j ≡ Some y → j < n) → (j : ℕ) → grafted_tokens f i n (start_at x).tokens j ≡ f j
same_tokens f i n x here low j = ⊎_elim own (λ d. ⊎_elim (old d) (new d) (cases_lt j n)) (cases_eq j i)
  where
    g : Tokens
    g = (start_at x).tokens

    own : j ≡ i → grafted_tokens f i n (start_at x).tokens j ≡ f j
    own e = ap (λ b. cond b (Some x) (cond (nat_lt j n) (f j) ((start_at x).tokens (suc (j - n))))) (eq-eqb j i e) ∙
        sym (ap f e ∙ here)

    old : (j ≡ i → ⊥) → j < n → grafted_tokens f i n (start_at x).tokens j ≡ f j
    old d l = ap (λ b. cond b (Some x) (cond (nat_lt j n) (f j) ((start_at x).tokens (suc (j - n))))) (ne_eqb j i d) ∙
        ap (λ b. cond b (f j) ((start_at x).tokens (suc (j - n)))) (lt-ltb j n l)

    none : (o : Option TokenTree) → f j ≡ o → n ≤ j → None ≡ o
    none None e l = refl
    none (Some y) e l = let m = low j y e in absurd (omega arith)

    new : (j ≡ i → ⊥) → n ≤ j → grafted_tokens f i n (start_at x).tokens j ≡ f j
    new d l = ap (λ b. cond b (Some x) (cond (nat_lt j n) (f j) ((start_at x).tokens (suc (j - n))))) (ne_eqb j i d) ∙
        ap (λ b. cond b (f j) ((start_at x).tokens (suc (j - n)))) (le-ltb j n l)
        ∙ ap (λ b. cond b (Some x) None) (ne_eqb (suc (j - n)) 0 (λ q. omega arith)) ∙ none (f j) refl l

module _ (net : NetTree) (sound : Sound net) (log : List ℕ) (S : State) (led : LeadsTo net log S) (i : ℕ) (x : TokenTree)
    (here : S.tokens i ≡ Some x) where
  -- a live ticket is below the next
  pub below_next : i < S.next
  below_next = low net sound log S led i x here

  -- the branch begins as nothing
  pub begins : grafted S i (start_at x) ≡ S
  begins =
      let p = fun_ext (same_tokens S.tokens i S.next x here (low net sound log S led)) in
      let n : S.next + 0 ≡ S.next = omega arith in
      λ q. record S { tokens = p q; next = n q }

  pub begins_led : LeadsTo net log (grafted S i (start_at x))
  begins_led = led ∙ ap Some (sym begins)

  -- and fits
  pub begins_fits : Fits S (start_at x)
  begins_fits = record { apart = λ n t e h. absurd cc; begun = omega arith }

  module _ (l : List ℕ) (B : State) (b : Branched net x l B) where
    -- what it comes to
    played : (run net (grafted S i (start_at x)) (map (name i S.next) l) ≡ Some (grafted S i B)) × Fits S B
    played = run_grafts net sound S i below_next l log (start_at x) B begins_led begins_fits b.0 b.1

    -- a branch is a run
    pub branch_runs : run net S (map (name i S.next) l) ≡ Some (grafted S i B)
    branch_runs = ap (λ S'. run net S' (map (name i S.next) l)) (sym begins) ∙ played.0

    -- that goes on from the state's
    pub branch_leads : LeadsTo net (log ++ map (name i S.next) l) (grafted S i B)
    branch_leads = run_on net log (map (name i S.next) l) (start (start_of net)) S (grafted S i B) led branch_runs

    -- its entries are its own
    pub branch_apart : (n : ℕ) (t : Boxes) (e : Entry) → B.entries n t ≡ Some e → S.entries n t ≡ None
    branch_apart = let f = played.1 in f.apart

    -- its live tickets are below its next
    pub branch_low : (k : ℕ) (y : TokenTree) → B.tokens k ≡ Some y → k < B.next
    branch_low k y e =
        let f = played.1 in
        go k B.next (low net sound (log ++ map (name i S.next) l) (grafted S i B) branch_leads (name i S.next k) y
        (graft_at S.tokens i S.next below_next B.tokens k ∙ e)) f.begun
      where
        go : (k n : ℕ) → name i S.next k < name i S.next n → 1 ≤ n → k < n
        go k zero l h = absurd (omega arith)
        go zero (suc n) l h = omega arith
        go (suc k) (suc n) l h = omega arith

-- a live ticket of a branch has its step, but at a join whose entry isn't the branch's
pub branch_stops : (net : NetTree) (runs : Runs net) (log : List ℕ) (S : State) → LeadsTo net log S → (i : ℕ) (x : TokenTree) →
    S.tokens i ≡ Some x → (l : List ℕ) (B : State) → Branched net x l B →
    (k : ℕ) (y : TokenTree) → B.tokens k ≡ Some y → step net B k ≡ None → Foreign B (move net y)
branch_stops net runs log S led i x here l B b k y e none =
    let below = below_next net runs.sound log S led i x here in
    let led' = branch_leads net runs.sound log S led i x here l B b in
    let there : (grafted S i B).tokens (name i S.next k) ≡ Some y = graft_at S.tokens i S.next below B.tokens k ∙ e in
    let moving = runs.moves (log ++ map (name i S.next) l) (grafted S i B) led' (name i S.next k) y there in
    act_stops S i below B k (move net y) (has_act net runs.sound S i below (log ++ map (name i S.next) l) B led' k y e moving)
    (ap (λ o. step_on net o B k) (sym e) ∙ none)

-- every other ticket has what it had
pub leaves : (S B : State) (i j : ℕ) → j < S.next → (j ≡ i → ⊥) → (grafted S i B).tokens j ≡ S.tokens j
leaves S B i j l d = ap (λ b. cond b (B.tokens 0) (cond (nat_lt j S.next) (S.tokens j) (B.tokens (suc (j - S.next))))) (ne_eqb j i d) ∙
    ap (λ b. cond b (S.tokens j) (B.tokens (suc (j - S.next)))) (lt-ltb j S.next l)

-- and the branch's stand under their names
pub gives : (S B : State) (i k : ℕ) → i < S.next → (grafted S i B).tokens (name i S.next k) ≡ B.tokens k
gives S B i k l = graft_at S.tokens i S.next l B.tokens k

-- the names of a log of the first ticket
pub plain_names : (i n m : ℕ) → map (name i n) (replicate m 0) ≡ replicate m i
plain_names i n zero = refl
plain_names i n (suc m) = ap (λ l. i ∷ l) (plain_names i n m)

-- what answers so by the branch's names and beside them
pub names_tell : (f g h : ℕ → Option TokenTree) (i n : ℕ) → i < n → ((k : ℕ) → h (name i n k) ≡ g k) →
    ((j : ℕ) → j < n → (j ≡ i → ⊥) → h j ≡ f j) → (j : ℕ) → h j ≡ grafted_tokens f i n g j
names_tell f g h i n below own beside j = ⊎_elim first (λ d. ⊎_elim (old d) (new d) (cases_lt j n)) (cases_eq j i)
  where
    first : j ≡ i → h j ≡ grafted_tokens f i n g j
    first e = ap h e ∙ own 0 ∙ sym (ap (λ b. cond b (g 0) (cond (nat_lt j n) (f j) (g (suc (j - n))))) (eq-eqb j i e))

    old : (j ≡ i → ⊥) → j < n → h j ≡ grafted_tokens f i n g j
    old d l = beside j l d ∙ sym (ap (λ b. cond b (g 0) (cond (nat_lt j n) (f j) (g (suc (j - n))))) (ne_eqb j i d) ∙
        ap (λ b. cond b (f j) (g (suc (j - n)))) (lt-ltb j n l))

    new : (j ≡ i → ⊥) → n ≤ j → h j ≡ grafted_tokens f i n g j
    new d l =
        let there : j ≡ n + (j - n) = omega arith in
        ap h there ∙ own (suc (j - n)) ∙ sym (ap (λ b. cond b (g 0) (cond (nat_lt j n) (f j) (g (suc (j - n))))) (ne_eqb j i d) ∙
        ap (λ b. cond b (f j) (g (suc (j - n)))) (le-ltb j n l))
