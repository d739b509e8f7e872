-- The processor makes a run: each cycle is the step of its current ticket, and its forks nest.
use Rattle.std.proofs.Common.{◌≡◌, ℕ, zero, suc, ◌+◌, ◌<◌, Bool, true, false, cond, List, [], ◌∷◌, ◌++◌, length}
use Rattle.std.proofs.Common.{Option, Some, None, refl, sym, ap, ◌∙◌, subst, inl, inr, arith}
use Rattle.std.proofs.lemmas.Bool.{eqb-true, eq-eqb, ne_eqb}
use Rattle.std.specs.Prelude.{nat_eq}
use Rattle.std.proofs.lemmas.Option.{same_Some, none-some}
use Rattle.pcf_values.specs.declared.val.Val.{Val}
use Rattle.pcf_values.specs.Values.{val_op}
use Rattle.pcf_values.specs.declared.operator.Operator.{Operator}
use Rattle.pcf_values.specs.declared.side.Side.{Side}
use Rattle.pcf_values.specs.declared.side.Side.TheVariants.{Left, Right}
use Rattle.token_stacks.specs.Signatures.{Boxes}
use Rattle.net_build.specs.Nets.{NetTree}
use Rattle.fork_join.specs.Entries.{Entry, Key, pending, has_left, same_key}
use Rattle.fork_join.proofs.Keys.{key_same}
use Rattle.move_rules.specs.Places.{Place, up, down, turned, TokenTree, ask, ans}
use Rattle.move_rules.specs.Moves.{two, look, Move, solo, fork, join, answer, stay, move}
use Rattle.interleave_laws.specs.Start.{start_of}
use Rattle.interleave_laws.specs.States.{State, start, set_token, set_entry, fork_on, join_on, act, step_on, step, then_run}
use Rattle.interleave_laws.specs.States.{run}
use Rattle.interleave_laws.specs.Runs.{Runs, LeadsTo}
use Rattle.interleave_laws.specs.Finished.{Finished}
use Rattle.interleave_laws.proofs.Parents.{key_place}
use Rattle.interleave_laws.proofs.Running.{run_append, has_step, answered_idle, idle_answered, low}
use Rattle.interleave_laws.proofs.Apart.{asked}
use Rattle.net_rows.specs.RowMoves.{by_rows}
use Rattle.net_rows.proofs.Rows.{law}
use Rattle.newest_core.proofs.Inner.{in_root, in_fork, solo_inner, fork_inner, join_inner}
use Rattle.net_rows.proofs.Small.{replaced}
use Rattle.newest_core.specs.Processor.{Half, waits, came, OpenFork, Registers, meets_half, meets, does, counted, tick_on, tick, ticks}
use Rattle.newest_core.specs.Processor.{reset, on_live, fired, newest, waiting_at, token_at, entry_of, fork_at}
use Rattle.newest_core.specs.ProcessorLaws.{Shows, Follows, Waits, IsInnermost}
use Rattle.newest_core.proofs.Nests.{Nests, forks_ask, joins_ans, join_operand, asked_once}
use Rattle.newest_core.proofs.Stack.{Descends, none_waits, descends_more, Once, change_at, close_at}

-- the forks are those around the token; after the answer there is none
abbrev pub LiveNests : NetTree → Option (ℕ × TokenTree) → List OpenFork → Type 0
LiveNests net None fs = fs ≡ []
LiveNests net (Some c) fs = Nests net fs (asked c.1)

-- the current ticket doesn't wait
abbrev pub Alone : Option (ℕ × TokenTree) → List OpenFork → Type 0
Alone None fs = Unit {0}
Alone (Some c) fs = waiting_at fs c.0 ≡ None

-- the registers show the state, their forks nest, and they aren't full
pub record Fits (net : NetTree) (R : Registers) (S : State) : Type 0 where
  pub shows : Shows R S
  pub nests : LiveNests net R.live R.forks
  pub alone : Alone R.live R.forks
  pub descends : Descends R.next R.forks
  pub once : Once R.forks
  pub ready : R.full ≡ false

-- the same with these forks, and with a current token
pub record Before (net : NetTree) (S : State) (R : Registers) (fs : List OpenFork) (i : ℕ) (x : TokenTree) : Type 0 where
  pub tokens : (j : ℕ) → S.tokens j ≡ cond (nat_eq j i) (Some x) (waiting_at fs j)
  pub entries : (n : ℕ) (t : Boxes) → S.entries n t ≡ fork_at fs n t
  pub next : S.next ≡ R.next
  pub answered : S.answered ≡ R.result
  pub nests : Nests net fs (asked x)
  pub alone : waiting_at fs i ≡ None
  pub descends : Descends R.next fs
  pub once : Once fs
  pub ready : R.full ≡ false

-- the tokens that wait alone, once the current ticket has none
ended : (fs : List OpenFork) (i : ℕ) (x s : Option TokenTree) (j : ℕ) → waiting_at fs i ≡ None →
    s ≡ cond (nat_eq j i) x (waiting_at fs j) → cond (nat_eq j i) None s ≡ waiting_at fs j
ended fs i x s j h e = go (nat_eq j i) refl e
  where
    go : (b : Bool) → nat_eq j i ≡ b → s ≡ cond b x (waiting_at fs j) → cond b None s ≡ waiting_at fs j
    go true z e = sym (ap (waiting_at fs) (eqb-true j i z) ∙ h)
    go false z e = e

-- the tokens at a fork
forked : (forks : List OpenFork) (i next k : ℕ) (left right : Place) (before now : Option TokenTree) (j : ℕ) → k ≡ next → i < next →
    now ≡ cond (nat_eq j i) before (waiting_at forks j) →
    cond (nat_eq j k) (Some (ask right)) (cond (nat_eq j i) (Some (ask left)) now)
    ≡ cond (nat_eq j i) (Some (ask left)) (cond (nat_eq j next) (Some (ask right)) (waiting_at forks j))
forked forks i next k left right before now j same low here =
    ap (λ k. cond (nat_eq j k) (Some (ask right)) (cond (nat_eq j i) (Some (ask left)) now)) same
    ∙ go (nat_eq j i) refl (nat_eq j next) refl here
  where
    go : (b : Bool) → nat_eq j i ≡ b → (c : Bool) → nat_eq j next ≡ c → now ≡ cond b before (waiting_at forks j) →
        cond c (Some (ask right)) (cond b (Some (ask left)) now) ≡ cond b (Some (ask left)) (cond c (Some (ask right)) (waiting_at forks j))
    go true y true z e = let a = eqb-true j i y in let b = eqb-true j next z in absurd (omega arith)
    go true y false z e = refl
    go false y true z e = refl
    go false y false z e = e

module _ (net : NetTree) (runs : Runs net) (log : List ℕ) (S : State) (lead : LeadsTo net log S) (R : Registers) (i : ℕ) where
  -- the current ticket is below the next
  below_next : (fs : List OpenFork) (x : TokenTree) → Before net S R fs i x → i < R.next
  below_next fs x f =
      let here : S.tokens i ≡ Some x = f.tokens i ∙ ap (λ b. cond b (Some x) (waiting_at fs i)) (eq-eqb i i refl) in
      let l = low net runs.sound log S lead i x here in let e = f.next in omega arith

  solo_fits : (x y : TokenTree) (n : ℕ) → Before net S R R.forks i x → move net x ≡ solo n y →
      Fits net (record R { live = Some (i, y) }) (record S { tokens = set_token S.tokens i (Some y) })
  solo_fits x y n f mv = record {
    shows = record {
      tokens = λ j. replaced (nat_eq j i) (S.tokens j) (Some x) (Some y) (waiting_at R.forks j) (f.tokens j);
      entries = f.entries;
      next = f.next;
      answered = f.answered;
    };
    nests = inside R.forks f.nests;
    alone = f.alone;
    descends = f.descends;
    once = f.once;
    ready = f.ready;
  }
    where
      inside : (fs : List OpenFork) → Nests net fs (asked x) → Nests net fs (asked y)
      inside [] h = solo_inner net runs.sound n None x y h mv
      inside (g ∷ fs) (h, q, op, a, b, l, r, m) = (solo_inner net runs.sound n (Some (g.node, g.boxes)) x y h mv, q, op, a, b, l, r, m)

  fork_fits : (p l r : Place) (n : ℕ) (t : Boxes) → Before net S R R.forks i (ask p) → move net (ask p) ≡ fork n l r t →
      S.entries n t ≡ None → Fits net (does (fork n l r t) i R) (record S {
        tokens = set_token (set_token S.tokens i (Some (ask l))) S.next (Some (ask r));
        entries = set_entry S.entries n t (Some pending);
        next = suc S.next;
      })
  fork_fits p l r n t f mv free =
      let (op, here) = fork_inner net runs.sound n p l r t mv in
      let b = below_next R.forks (ask p) f in
      record {
        shows = record {
          tokens = λ j. forked R.forks i R.next S.next l r (Some (ask p)) (S.tokens j) j f.next b (f.tokens j);
          entries = λ m u. ap (λ o. cond (same_key m u n t) (Some pending) o) (f.entries m u);
          next = ap suc f.next;
          answered = f.answered;
        };
        nests = (in_fork p l r n op t here (inl refl), p, op, l, r, here, refl, f.nests);
        alone = ap (λ b. cond b (Some (ask r)) (waiting_at R.forks i)) (ne_eqb i R.next (λ e. omega arith)) ∙ f.alone;
        descends = (omega arith, f.descends);
        once = (sym (f.entries n t) ∙ free, f.once);
        ready = f.ready;
      }

  -- the innermost fork's key is the join's
  same_fork : (n m : ℕ) (t u : Boxes) → ◌≡◌ {A = Option Key} (Some (n, t)) (Some (m, u)) → (n ≡ m) × (t ≡ u)
  same_fork n m t u h = let e = same_Some (n, t) (m, u) h in (ap (λ (k : Key). k.0) e, ap (λ (k : Key). k.1) e)

  module _ (q : Place) (n : ℕ) (o : Operator) (v : Val) (w : ℕ) (t : Boxes) (g : OpenFork) (fs : List OpenFork) where
    -- what is known of the innermost fork at an answer that joins
    pub record Here (s : Side) (h : Half) : Type 0 where
      pub node : g.node ≡ n
      pub boxes : g.boxes ≡ t
      pub entry : S.entries n t ≡ Some (entry_of h)
      pub waits_for : Waits s h

    -- an answer from the right isn't there as long as the right question waits
    right_waits : (j : ℕ) (p : Place) → Before net S R (record g { half = waits j p } ∷ fs) i (ans v q) →
        (s : Side) → move net (ans v q) ≡ join n o s v w t → g.node ≡ n → g.boxes ≡ t → Waits s (waits j p)
    right_waits j p f Left mv en et = tt
    right_waits j p f Right mv en et =
        let (inn, q0, op0, a0, b0, l0, r0, m0) = f.nests in
        let (r, a, op, l) = join_operand net runs.sound n o Right v w t q (Some (g.node, g.boxes)) inn mv refl in
        let l0' : look net q0 ≡ two n op0 t a0 b0 = l0 ∙ ap (λ n. two n op0 g.boxes a0 b0) en ∙ ap (λ t. two n op0 t a0 b0) et in
        let same : q0 ≡ r = key_place net runs.sound q0 r n op0 op t a0 b0 a (turned q) l0' l in
        let looks : two n op0 t a0 b0 ≡ two n op t a (turned q) = sym l0' ∙ ap (look net) same ∙ l in
        let right : b0 ≡ turned q = cc in
        let apart : nat_eq i j ≡ false = not_here (nat_eq i j) refl f.alone in
        let at_i : S.tokens i ≡ Some (ans v q) =
        f.tokens i ∙ ap (λ b. cond b (Some (ans v q)) (waiting_at (record g { half = waits j p } ∷ fs) i)) (eq-eqb i i refl) in
        let at_j : S.tokens j ≡ Some (ask p) = f.tokens j ∙ other_one (nat_eq j i) refl apart ∙
        ap (λ b. cond b (Some (ask p)) (waiting_at fs j)) (eq-eqb j j refl) in
        let one : i ≡ j = asked_once net runs.sound log S lead i j (ans v q) (ask p) at_i at_j (sym (r0 ∙ right)) in
        let bad : true ≡ false = sym (eq-eqb i j one) ∙ apart in absurd cc
      where
        not_here : (b : Bool) → nat_eq i j ≡ b → cond b (Some (ask p)) (waiting_at fs i) ≡ None → b ≡ false
        not_here true e h = absurd (none-some (ask p) (sym h))
        not_here false e h = refl

        other_one : (b : Bool) → nat_eq j i ≡ b → nat_eq i j ≡ false →
            cond b (Some (ans v q)) (waiting_at (record g { half = waits j p } ∷ fs) j)
            ≡ waiting_at (record g { half = waits j p } ∷ fs) j
        other_one true e h = let bad : true ≡ false = sym (eq-eqb i j (sym (eqb-true j i e))) ∙ h in absurd cc
        other_one false e h = refl

    -- nor one from the left once the left answer is kept, since it has a step
    left_came : (u : Val) (s : Side) (T : State) → join_on (Some (has_left u)) S i n o s v w t ≡ Some T → Waits s (came u)
    left_came u Left T h = absurd (none-some T h)
    left_came u Right T h = tt

    pub here : (h : Half) → Before net S R (record g { half = h } ∷ fs) i (ans v q) → (s : Side) → move net (ans v q) ≡ join n o s v w t →
        (T : State) → join_on (S.entries n t) S i n o s v w t ≡ Some T → Here s h
    here h f s mv T st =
        let (inn, _, _, _, _, _, _, _) = f.nests in
        let key = join_inner net runs.sound n o s v w t q (Some (g.node, g.boxes)) inn mv in
        let (en, et) = same_fork g.node n g.boxes t key.0 in
        let there : S.entries n t ≡ Some (entry_of h) =
        f.entries n t ∙ ap (λ n'. cond (same_key n t n' g.boxes) (Some (entry_of h)) (fork_at fs n t)) en ∙
        ap (λ t'. cond (same_key n t n t') (Some (entry_of h)) (fork_at fs n t)) et ∙
        ap (λ b. cond b (Some (entry_of h)) (fork_at fs n t)) (key_same n t) in
        record { node = en; boxes = et; entry = there; waits_for = which h f there en et }
      where
        which : (h : Half) → Before net S R (record g { half = h } ∷ fs) i (ans v q) → S.entries n t ≡ Some (entry_of h) →
            g.node ≡ n → g.boxes ≡ t → Waits s h
        which (waits j p) f e en et = right_waits j p f s mv en et
        which (came u) f e en et = left_came u s T (ap (λ e. join_on e S i n o s v w t) (sym e) ∙ st)

    -- the left answer is kept, and the right question goes on
    keep_fits : (j : ℕ) (p : Place) → Before net S R (record g { half = waits j p } ∷ fs) i (ans v q) → g.node ≡ n → g.boxes ≡ t →
        Fits net (record R { live = Some (j, ask p); forks = record g { half = came v } ∷ fs })
        (record S { tokens = set_token S.tokens i None; entries = set_entry S.entries n t (Some (has_left v)) })
    keep_fits j p f en et =
        let (inn, q0, op0, a0, b0, l0, r0, m0) = f.nests in record {
          shows = record {
            tokens = λ k. ended (record g { half = waits j p } ∷ fs) i (Some (ans v q)) (S.tokens k) k f.alone (f.tokens k);
            entries = λ m u.
                ap (λ o. cond (same_key m u n t) (Some (has_left v)) o) (f.entries m u) ∙
                ap (λ n'. cond (same_key m u n' t) (Some (has_left v)) (fork_at (record g { half = waits j p } ∷ fs) m u)) (sym en) ∙
                ap (λ t'. cond (same_key m u g.node t') (Some (has_left v)) (fork_at (record g { half = waits j p } ∷ fs) m u)) (sym et) ∙
                change_at (same_key m u g.node g.boxes) (Some (has_left v)) (Some pending) (fork_at fs m u);
            next = f.next;
            answered = f.answered;
          };
          nests = (in_fork q0 a0 b0 g.node op0 g.boxes l0 (inr (sym r0)), q0, op0, a0, b0, l0, tt, m0);
          alone = none_waits j j fs f.descends.1 (omega arith);
          descends = (tt, descends_more j R.next fs (let l = f.descends.0 in omega arith) f.descends.1);
          once = f.once;
          ready = f.ready;
        }

    -- what both answers come to goes on, and the fork is closed
    close_fits : (u : Val) → Before net S R (record g { half = came u } ∷ fs) i (ans v q) → g.node ≡ n → g.boxes ≡ t →
        (op : Operator) (a b : Place) → look net (up w [] t) ≡ two n op t a b → (y : Val) →
        Fits net (record R { live = Some (i, ans y (down w [] t)); forks = fs })
        (record S { tokens = set_token S.tokens i (Some (ans y (down w [] t))); entries = set_entry S.entries n t None })
    close_fits u f en et op a b l y =
        let (inn, q0, op0, a0, b0, l0, r0, m0) = f.nests in
        let l0' : look net q0 ≡ two n op0 t a0 b0 = l0 ∙ ap (λ n. two n op0 g.boxes a0 b0) en ∙ ap (λ t. two n op0 t a0 b0) et in
        let same : q0 ≡ up w [] t = key_place net runs.sound q0 (up w [] t) n op0 op t a0 b0 a b l0' l in
        record {
          shows = record {
            tokens = λ k. replaced (nat_eq k i) (S.tokens k) (Some (ans v q)) (Some (ans y (down w [] t))) (waiting_at fs k) (f.tokens k);
            entries = λ m x.
                ap (λ o. cond (same_key m x n t) None o) (f.entries m x) ∙
                ap (λ n'. cond (same_key m x n' t) None (fork_at (record g { half = came u } ∷ fs) m x)) (sym en) ∙
                ap (λ t'. cond (same_key m x g.node t') None (fork_at (record g { half = came u } ∷ fs) m x)) (sym et) ∙
                close_at m x g.node g.boxes (Some (has_left u)) fs f.once.0;
            next = f.next;
            answered = f.answered;
          };
          nests = subst (Nests net fs) same m0;
          alone = f.alone;
          descends = f.descends.1;
          once = f.once.1;
          ready = f.ready;
        }

    -- an answer at the innermost fork
    join_half : (h : Half) → Before net S R (record g { half = h } ∷ fs) i (ans v q) → (s : Side) → move net (ans v q) ≡ join n o s v w t →
        (T : State) → join_on (S.entries n t) S i n o s v w t ≡ Some T → Here s h →
        Fits net (meets_half h (record g { half = h }) fs i o v w t R) T
    join_half (waits j p) f Left mv T st z =
        subst (Fits net _) (same_Some _ T (ap (λ e. join_on e S i n o Left v w t) (sym z.entry) ∙ st))
        (keep_fits j p f z.node z.boxes)
    join_half (waits j p) f Right mv T st z = elim z.waits_for [ ]
    join_half (came u) f Left mv T st z = elim z.waits_for [ ]
    join_half (came u) f Right mv T st z =
        let (inn, _, _, _, _, _, _, _) = f.nests in
        let (_, (op, a, b, l)) = join_inner net runs.sound n o Right v w t q (Some (g.node, g.boxes)) inn mv in
        subst (Fits net _) (same_Some _ T (ap (λ e. join_on e S i n o Right v w t) (sym z.entry) ∙ st))
        (close_fits u f z.node z.boxes op a b l (val_op o u v))

  -- an answer that joins
  join_fits : (fs : List OpenFork) (q : Place) (n : ℕ) (o : Operator) (s : Side) (v : Val) (w : ℕ) (t : Boxes) →
      Before net S R fs i (ans v q) → move net (ans v q) ≡ join n o s v w t → (T : State) →
      join_on (S.entries n t) S i n o s v w t ≡ Some T → Fits net (meets fs i o v w t R) T
  join_fits [] q n o s v w t f mv T st =
      let key = join_inner net runs.sound n o s v w t q None f.nests mv in
      let bad : ◌≡◌ {A = Option Key} None (Some (n, t)) = key.0 in absurd cc
  join_fits (g ∷ fs) q n o s v w t f mv T st =
      join_half q n o v w t g fs g.half f s mv T st (here q n o v w t g fs g.half f s mv T st)

  -- and it comes to the innermost fork
  join_innermost : (fs : List OpenFork) (q : Place) (n : ℕ) (o : Operator) (s : Side) (v : Val) (w : ℕ) (t : Boxes) →
      Before net S R fs i (ans v q) → move net (ans v q) ≡ join n o s v w t → (T : State) →
      join_on (S.entries n t) S i n o s v w t ≡ Some T → IsInnermost fs n t s
  join_innermost [] q n o s v w t f mv T st =
      let key = join_inner net runs.sound n o s v w t q None f.nests mv in
      let bad : ◌≡◌ {A = Option Key} None (Some (n, t)) = key.0 in absurd cc
  join_innermost (g ∷ fs) q n o s v w t f mv T st =
      let z = here q n o v w t g fs g.half f s mv T st in (z.node, z.boxes, z.waits_for)

  fork_goes : (e : Option Entry) (p l r : Place) (n : ℕ) (t : Boxes) → Before net S R R.forks i (ask p) →
      move net (ask p) ≡ fork n l r t → S.entries n t ≡ e → (T : State) → fork_on e S i n l r t ≡ Some T →
      Fits net (does (fork n l r t) i R) T
  fork_goes None p l r n t f mv e T st = subst (Fits net (does (fork n l r t) i R)) (same_Some _ T st) (fork_fits p l r n t f mv e)
  fork_goes (Some d) p l r n t f mv e T st = absurd (none-some T st)

  -- no fork is open where no entry is
  none_open : (fs : List OpenFork) → ((n : ℕ) (t : Boxes) → fork_at fs n t ≡ None) → fs ≡ []
  none_open [] h = refl
  none_open (g ∷ fs) h = absurd (none-some (entry_of g.half) (sym (h g.node g.boxes) ∙
      ap (λ b. cond b (Some (entry_of g.half)) (fork_at fs g.node g.boxes)) (key_same g.node g.boxes)))

  answer_fits : (x : TokenTree) (v : Val) → Before net S R R.forks i x → ((n : ℕ) (t : Boxes) → S.entries n t ≡ None) →
      Fits net (record R { live = None; result = Some v }) (record S { tokens = set_token S.tokens i None; answered = Some v })
  answer_fits x v f idle = record {
    shows = record {
      tokens = λ j. ended R.forks i (Some x) (S.tokens j) j f.alone (f.tokens j);
      entries = f.entries;
      next = f.next;
      answered = refl;
    };
    nests = none_open R.forks (λ n t. sym (f.entries n t) ∙ idle n t);
    alone = tt;
    descends = f.descends;
    once = f.once;
    ready = f.ready;
  }

  -- each move that the state makes, the registers make
  act_fits : (x : TokenTree) (m : Move) → move net x ≡ m → Before net S R R.forks i x → (T : State) → act m S i ≡ Some T →
      ((v : Val) → T.answered ≡ Some v → (n : ℕ) (t : Boxes) → T.entries n t ≡ None) → Fits net (does m i R) T
  act_fits x (solo n y) mv f T h idle = subst (Fits net (does (solo n y) i R)) (same_Some _ T h) (solo_fits x y n f mv)
  act_fits x (fork n l r t) mv f T h idle =
      let (p, e) = forks_ask net runs.sound x n l r t mv in
      fork_goes (S.entries n t) p l r n t (subst (Before net S R R.forks i) e f) (ap (move net) (sym e) ∙ mv) refl T h
  act_fits x (join n o s v w t) mv f T h idle =
      let (q, e) = joins_ans net runs.sound x n o s v w t mv in
      join_fits R.forks q n o s v w t (subst (Before net S R R.forks i) e f) (ap (move net) (sym e) ∙ mv) T h
  act_fits x (answer v) mv f T h idle =
      let z = same_Some _ T h in
      subst (Fits net (does (answer v) i R)) z (answer_fits x v f
      (λ n t. ap (λ (T : State). T.entries n t) z ∙ idle v (sym (ap (λ (T : State). T.answered) z)) n t))
  act_fits x stay mv f T h idle = absurd (none-some T h)

-- a move counts nothing itself
half_moves : (h : Half) (f : OpenFork) (fs : List OpenFork) (i : ℕ) (o : Operator) (v : Val) (w : ℕ) (t : Boxes) (R : Registers) →
    (meets_half h f fs i o v w t R).moves ≡ R.moves
half_moves (waits j p) f fs i o v w t R = refl
half_moves (came u) f fs i o v w t R = refl

meets_moves : (fs : List OpenFork) (i : ℕ) (o : Operator) (v : Val) (w : ℕ) (t : Boxes) (R : Registers) →
    (meets fs i o v w t R).moves ≡ R.moves
meets_moves [] i o v w t R = refl
meets_moves (f ∷ fs) i o v w t R = half_moves f.half f fs i o v w t R

move_counts_none : (m : Move) (i : ℕ) (R : Registers) → (does m i R).moves ≡ R.moves
move_counts_none (solo n y) i R = refl
move_counts_none (fork n l r t) i R = refl
move_counts_none (join n o s v w t) i R = meets_moves R.forks i o v w t R
move_counts_none (answer v) i R = refl
move_counts_none stay i R = refl

-- the last of so many ticks
pub tick_last : (net : NetTree) (k : ℕ) (R : Registers) → ticks net (suc k) R ≡ tick net (ticks net k R)
tick_last net zero R = refl
tick_last net (suc k) R = tick_last net k (tick net R)

-- without a current token nothing moves
pub ticks_rest : (net : NetTree) (k : ℕ) (R : Registers) → tick net R ≡ R → ticks net k R ≡ R
ticks_rest net zero R e = refl
ticks_rest net (suc k) R e = ap (ticks net k) e ∙ ticks_rest net k R e

pub fires_none : (net : NetTree) (k : ℕ) (R : Registers) → tick net R ≡ R → R.live ≡ None → fired net k R ≡ []
fires_none net zero R e h = refl
fires_none net (suc k) R e h = ap (λ c. on_live c (fired net k (tick net R))) h

module _ (net : NetTree) (runs : Runs net) where
  -- what is known where there is a current token
  pub before_of : (S : State) (R : Registers) (i : ℕ) (x : TokenTree) → Fits net R S → R.live ≡ Some (i, x) → Before net S R R.forks i x
  before_of S R i x f live = record {
    tokens = λ j. f.shows.tokens j ∙ ap (λ c. token_at c R.forks j) live;
    entries = f.shows.entries;
    next = f.shows.next;
    answered = f.shows.answered;
    nests = subst (λ c. LiveNests net c R.forks) live f.nests;
    alone = subst (λ c. Alone c R.forks) live f.alone;
    descends = f.descends;
    once = f.once;
    ready = f.ready;
  }

  -- one cycle
  pub ticked : (log : List ℕ) (S T : State) (R : Registers) (i : ℕ) (x : TokenTree) → LeadsTo net log S → Fits net R S →
      R.live ≡ Some (i, x) → S.tokens i ≡ Some x → step net S i ≡ Some T → LeadsTo net (log ++ i ∷ []) T →
      Fits net (tick net R) T
  ticked log S T R i x h fits live e s g =
      let b = before_of S R i x fits live in
      let counted_too : Before net S (counted R) R.forks i x = record {
        tokens = b.tokens;
        entries = b.entries;
        next = b.next;
        answered = b.answered;
        nests = b.nests;
        alone = b.alone;
        descends = b.descends;
        once = b.once;
        ready = b.ready;
      } in
      let stays = runs.moves log S h i x e in
      let made = act_fits net runs log S h (counted R) i x (by_rows net x) (law net runs.sound x stays) counted_too T
      (ap (λ m. act m S i) (sym (law net runs.sound x stays)) ∙ ap (λ o. step_on net o S i) (sym e) ∙ s)
      (λ v a. (answered_idle net runs.sound (log ++ i ∷ []) T g v a).1) in
      subst (λ R. Fits net R T)
      (sym (ap (λ b. cond b R (tick_on net R.live R)) fits.ready ∙ ap (λ c. tick_on net c R) live)) made

  -- its count
  counts : (R : Registers) (i : ℕ) (x : TokenTree) → R.live ≡ Some (i, x) → R.full ≡ false → (tick net R).moves ≡ suc R.moves
  counts R i x live ready =
      ap (λ b. (cond b R (tick_on net R.live R)).moves) ready ∙ ap (λ c. (tick_on net c R).moves) live ∙
      move_counts_none (by_rows net x) i (counted R)

  -- k cycles: the tickets that moved lead to a state that the registers fit, and are as many, or the state has answered
  pub record Goes (S : State) (R : Registers) (k : ℕ) : Type 0 where
    pub state : State
    pub leads : run net S (fired net k R) ≡ Some state
    pub fits : Fits net (ticks net k R) state
    pub moves : (ticks net k R).moves ≡ R.moves + length (fired net k R)
    pub finished : Finished state.answered (fired net k R) k

  pub goes : (k : ℕ) (log : List ℕ) (S : State) (R : Registers) → LeadsTo net log S → Fits net R S → Goes S R k
  goes zero log S R h fits = record { state = S; leads = refl; fits = fits; moves = omega arith; finished = (omega arith, λ e. refl) }
  goes (suc k) log S R h fits = go R.live refl (goes k)
    where
      go : (c : Option (ℕ × TokenTree)) → R.live ≡ c →
          ((log : List ℕ) (S : State) (R : Registers) → LeadsTo net log S → Fits net R S → Goes S R k) → Goes S R (suc k)
      go None live ih =
          let closed : R.forks ≡ [] = subst (λ c. LiveNests net c R.forks) live fits.nests in
          let none : (j : ℕ) → S.tokens j ≡ None = λ j. fits.shows.tokens j ∙ ap (λ c. token_at c R.forks j) live ∙
          ap (λ fs. waiting_at fs j) closed in
          let still : tick net R ≡ R = ap (λ b. cond b R (tick_on net R.live R)) fits.ready ∙ ap (λ c. tick_on net c R) live in
          let same : ticks net (suc k) R ≡ R = ticks_rest net (suc k) R still in
          let nothing : fired net (suc k) R ≡ [] = fires_none net (suc k) R still live in
          let (v, a) = idle_answered net runs.sound log S h none in
          record {
            state = S;
            leads = ap (run net S) nothing;
            fits = subst (λ R. Fits net R S) (sym same) fits;
            moves = ap (λ (R : Registers). R.moves) same ∙ (let z = ap length nothing in omega arith);
            finished = ((let z = ap length nothing in omega arith), λ e. let bad : None ≡ Some v = sym e ∙ a in absurd cc);
          }
      go (Some c) live ih =
          let i = c.0 in
          let x = c.1 in
          let b = before_of S R i x fits live in
          let e : S.tokens i ≡ Some x = b.tokens i ∙ ap (λ b. cond b (Some x) (waiting_at R.forks i)) (eq-eqb i i refl) in
          let (T, s) = has_step net runs log S h i x e in
          let g = run_append net log (start (start_of net)) S T i h s in
          let on : Goes T (tick net R) k = ih (log ++ i ∷ []) T (tick net R) g (ticked log S T R i x h fits live e s g) in
          let first : fired net (suc k) R ≡ i ∷ fired net k (tick net R) = ap (λ c. on_live c (fired net k (tick net R))) live in
          let m = counts R i x live fits.ready in
          let l : length (fired net (suc k) R) ≡ suc (length (fired net k (tick net R))) = ap length first in
          let before = on.moves in
          let done = on.finished in
          record {
            state = on.state;
            leads = ap (run net S) first ∙ ap (λ o. then_run o (λ S. run net S (fired net k (tick net R)))) s ∙ on.leads;
            fits = on.fits;
            moves = omega arith;
            finished = ((let a = done.0 in omega arith), λ e. let a = done.1 e in omega arith);
          }

  pub at_reset : Fits net (reset net) (start (start_of net))
  at_reset = record {
    shows = record { tokens = λ j. refl; entries = λ n t. refl; next = refl; answered = refl };
    nests = in_root refl;
    alone = refl;
    descends = tt;
    once = tt;
    ready = refl;
  }

  -- all that is known after k cycles
  pub after_reset : (k : ℕ) → Goes (start (start_of net)) (reset net) k
  after_reset k = goes k [] (start (start_of net)) (reset net) refl at_reset

  -- the current token is live in the state
  pub there : (k i : ℕ) (x : TokenTree) → (ticks net k (reset net)).live ≡ Some (i, x) → (after_reset k).state.tokens i ≡ Some x
  there k i x live =
      (before_of (after_reset k).state (ticks net k (reset net)) i x (after_reset k).fits live).tokens i ∙
      ap (λ b. cond b (Some x) (waiting_at (ticks net k (reset net)).forks i)) (eq-eqb i i refl)

  -- and its move is its row's
  pub row_moves : (k i : ℕ) (x : TokenTree) → (ticks net k (reset net)).live ≡ Some (i, x) → move net x ≡ by_rows net x
  row_moves k i x live = law net runs.sound x
      (runs.moves (newest net k) (after_reset k).state (after_reset k).leads i x (there k i x live))

  -- the laws
  pub follows : (k : ℕ) → Follows net k
  follows k = let g = after_reset k in
      record {
        state = g.state;
        leads = g.leads;
        shows = g.fits.shows;
        ready = g.fits.ready;
        moves = g.moves ∙ (omega arith);
        finished = g.finished;
      }

  pub all_closed : (k : ℕ) → (ticks net k (reset net)).live ≡ None → (ticks net k (reset net)).forks ≡ []
  all_closed k e = subst (λ c. LiveNests net c (ticks net k (reset net)).forks) e (after_reset k).fits.nests

  pub forks_nest : (k i : ℕ) (x : TokenTree) → (ticks net k (reset net)).live ≡ Some (i, x) →
      (n : ℕ) (o : Operator) (s : Side) (v : Val) (w : ℕ) (t : Boxes) → move net x ≡ join n o s v w t →
      IsInnermost (ticks net k (reset net)).forks n t s
  forks_nest k i x live n o s v w t mv =
      let g = after_reset k in
      let R = ticks net k (reset net) in
      let b = before_of g.state R i x g.fits live in
      let e : g.state.tokens i ≡ Some x = there k i x live in
      let (T, st) = has_step net runs (newest net k) g.state g.leads i x e in
      let (q, z) = joins_ans net runs.sound x n o s v w t mv in
      join_innermost net runs (newest net k) g.state g.leads R i R.forks q n o s v w t
      (subst (Before net g.state R R.forks i) z b) (ap (move net) (sym z) ∙ mv) T
      (ap (λ m. act m g.state i) (sym mv) ∙ ap (λ o. step_on net o g.state i) (sym e) ∙ st)
