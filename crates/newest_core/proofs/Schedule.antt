-- The tickets of the processor, the current one and those that wait with its forks, are the machine's stack of tickets.
use Rattle.std.proofs.Common.{◌≡◌, ℕ, zero, suc, cond, List, [], ◌∷◌, ◌++◌, Option, Some, None, refl, sym, ap}
use Rattle.std.proofs.Common.{◌∙◌, subst, arith}
use Rattle.std.proofs.lemmas.Bool.{eq-eqb, ne_eqb}
use Rattle.std.specs.Prelude.{nat_eq}
use Rattle.std.proofs.lemmas.Option.{same_Some, none-some}
use Rattle.pcf_values.specs.declared.val.Val.{Val}
use Rattle.pcf_values.specs.declared.operator.Operator.{Operator}
use Rattle.pcf_values.specs.declared.side.Side.{Side}
use Rattle.pcf_values.specs.declared.side.Side.TheVariants.{Left, Right}
use Rattle.token_stacks.specs.Signatures.{Boxes}
use Rattle.net_build.specs.Nets.{NetTree}
use Rattle.fork_join.specs.Entries.{Entry, Key}
use Rattle.move_rules.specs.Places.{Place, TokenTree, ans}
use Rattle.move_rules.specs.Moves.{Move, solo, fork, join, answer, stay, move}
use Rattle.interleave_laws.specs.Start.{start_of}
use Rattle.interleave_laws.specs.States.{State, start, fork_on, join_on, act, step_on}
use Rattle.interleave_laws.specs.Runs.{Runs, LeadsTo}
use Rattle.interleave_laws.specs.OneWorker.{on_step}
use Rattle.interleave_laws.proofs.Running.{run_append, has_step}
use Rattle.net_rows.specs.RowMoves.{by_rows}
use Rattle.net_rows.proofs.Rows.{law}
use Rattle.newest_core.proofs.Inner.{join_inner}
use Rattle.newest_core.specs.Processor.{Half, waits, came, OpenFork, Registers, meets_half, meets, does, counted, tick_on, tick, reset}
use Rattle.newest_core.specs.Processor.{on_live, fired, newest, waiting_at}
use Rattle.newest_core.specs.Schedule.{on_top, behind, stack_from}
use Rattle.newest_core.proofs.Nests.{joins_ans}
use Rattle.newest_core.proofs.Processor.{LiveNests, Fits, Before, Here, here, before_of, ticked, at_reset}

-- the tickets that wait, the innermost first
abbrev half_ticket : Half → List ℕ → List ℕ
half_ticket (waits j p) tickets = j ∷ tickets
half_ticket (came v) tickets = tickets

abbrev waiting : List OpenFork → List ℕ
waiting [] = []
waiting (f ∷ fs) = half_ticket f.half (waiting fs)

-- and the current one on top
abbrev tickets_of : Option (ℕ × TokenTree) → List OpenFork → List ℕ
tickets_of None fs = waiting fs
tickets_of (Some c) fs = c.0 ∷ waiting fs

abbrev held : Registers → List ℕ
held R = tickets_of R.live R.forks

-- a step without a fork
still_next : (S T : State) (i : ℕ) (tickets : List ℕ) → T.next ≡ S.next → behind S T i tickets ≡ on_top (T.tokens i) i tickets
still_next S T i tickets e = ap (λ b. cond b (on_top (T.tokens i) i tickets) (i ∷ S.next ∷ tickets)) (eq-eqb T.next S.next e)

goes_top : (S T : State) (i : ℕ) (x : TokenTree) (tickets : List ℕ) → T.next ≡ S.next → T.tokens i ≡ Some x →
    behind S T i tickets ≡ i ∷ tickets
goes_top S T i x tickets e h = still_next S T i tickets e ∙ ap (λ o. on_top o i tickets) h

ends_top : (S T : State) (i : ℕ) (tickets : List ℕ) → T.next ≡ S.next → T.tokens i ≡ None → behind S T i tickets ≡ tickets
ends_top S T i tickets e h = still_next S T i tickets e ∙ ap (λ o. on_top o i tickets) h

-- and one with a fork
forks_top : (S T : State) (i : ℕ) (tickets : List ℕ) → T.next ≡ suc S.next → behind S T i tickets ≡ i ∷ S.next ∷ tickets
forks_top S T i tickets e =
    ap (λ b. cond b (on_top (T.tokens i) i tickets) (i ∷ S.next ∷ tickets)) (ne_eqb T.next S.next (λ q. omega arith))

-- what a ticket has that was set
set_here : (i : ℕ) (o r : Option TokenTree) → cond (nat_eq i i) o r ≡ o
set_here i o r = ap (λ b. cond b o r) (eq-eqb i i refl)

module _ (net : NetTree) (runs : Runs net) (log : List ℕ) (S : State) (lead : LeadsTo net log S) (R : Registers) (i : ℕ) where
  join_tickets : (q : Place) (n : ℕ) (o : Operator) (s : Side) (v : Val) (w : ℕ) (t : Boxes) (g : OpenFork) (fs : List OpenFork)
      (h : Half) (T : State) → join_on (S.entries n t) S i n o s v w t ≡ Some T →
      Here net runs log S lead R i q n o v w t g fs s h →
      held (meets_half h (record g { half = h }) fs i o v w t R) ≡ behind S T i (half_ticket h (waiting fs))
  join_tickets q n o s v w t g fs (waits j p) T st z =
      let e = same_Some _ T (ap (λ e. join_on e S i n o s v w t) (sym z.entry) ∙ st) in
      sym (ends_top S T i (j ∷ waiting fs) (ap (λ (T : State). T.next) (sym e))
      (ap (λ (T : State). T.tokens i) (sym e) ∙ set_here i None (S.tokens i)))
  join_tickets q n o Left v w t g fs (came u) T st z = elim z.waits_for [ ]
  join_tickets q n o Right v w t g fs (came u) T st z =
      let e = same_Some _ T (ap (λ e. join_on e S i n o Right v w t) (sym z.entry) ∙ st) in
      sym (goes_top S T i _ (waiting fs) (ap (λ (T : State). T.next) (sym e))
      (ap (λ (T : State). T.tokens i) (sym e) ∙ set_here i _ (S.tokens i)))

  joined : (fs : List OpenFork) (q : Place) (n : ℕ) (o : Operator) (s : Side) (v : Val) (w : ℕ) (t : Boxes) →
      Before net S R fs i (ans v q) →
      move net (ans v q) ≡ join n o s v w t → (T : State) → join_on (S.entries n t) S i n o s v w t ≡ Some T →
      held (meets fs i o v w t R) ≡ behind S T i (waiting fs)
  joined [] q n o s v w t f mv T st =
      let key = join_inner net runs.sound n o s v w t q None f.nests mv in
      let bad : ◌≡◌ {A = Option Key} None (Some (n, t)) = key.0 in absurd cc
  joined (g ∷ fs) q n o s v w t f mv T st =
      join_tickets q n o s v w t g fs g.half T st (here net runs log S lead R i q n o v w t g fs g.half f s mv T st)

  forked_tickets : (e : Option Entry) (l r : Place) (n : ℕ) (t : Boxes) (x : TokenTree) → Before net S R R.forks i x → (T : State) →
      fork_on e S i n l r t ≡ Some T → held (does (fork n l r t) i R) ≡ behind S T i (waiting R.forks)
  forked_tickets None l r n t x f T st =
      let e = same_Some _ T st in
      ap (λ n. i ∷ n ∷ waiting R.forks) (sym f.next) ∙ sym (forks_top S T i (waiting R.forks) (ap (λ (T : State). T.next) (sym e)))
  forked_tickets (Some d) l r n t x f T st = absurd (none-some T st)

  -- each move
  moved : (x : TokenTree) (m : Move) → move net x ≡ m → Before net S R R.forks i x → (T : State) → act m S i ≡ Some T →
      held (does m i R) ≡ behind S T i (waiting R.forks)
  moved x (solo n y) mv f T h =
      let e = same_Some _ T h in
      sym (goes_top S T i y (waiting R.forks) (ap (λ (T : State). T.next) (sym e))
      (ap (λ (T : State). T.tokens i) (sym e) ∙ set_here i (Some y) (S.tokens i)))
  moved x (fork n l r t) mv f T h = forked_tickets (S.entries n t) l r n t x f T h
  moved x (join n o s v w t) mv f T h =
      let (q, e) = joins_ans net runs.sound x n o s v w t mv in
      joined R.forks q n o s v w t (subst (Before net S R R.forks i) e f) (ap (move net) (sym e) ∙ mv) T h
  moved x (answer v) mv f T h =
      let e = same_Some _ T h in
      sym (ends_top S T i (waiting R.forks) (ap (λ (T : State). T.next) (sym e))
      (ap (λ (T : State). T.tokens i) (sym e) ∙ set_here i None (S.tokens i)))
  moved x stay mv f T h = absurd (none-some T h)

module _ (net : NetTree) (runs : Runs net) where
  -- k cycles
  fired_stack : (k : ℕ) (log : List ℕ) (S : State) (R : Registers) → LeadsTo net log S → Fits net R S →
      fired net k R ≡ stack_from net S (held R) k
  fired_stack zero log S R h fits = refl
  fired_stack (suc k) log S R h fits = go R.live refl (fired_stack k)
    where
      go : (c : Option (ℕ × TokenTree)) → R.live ≡ c →
          ((log : List ℕ) (S : State) (R : Registers) → LeadsTo net log S → Fits net R S → fired net k R ≡ stack_from net S (held R) k) →
          fired net (suc k) R ≡ stack_from net S (held R) (suc k)
      go None live ih =
          let closed : R.forks ≡ [] = subst (λ c. LiveNests net c R.forks) live fits.nests in
          ap (λ c. on_live c (fired net k (tick net R))) live ∙
          sym (ap (λ c. stack_from net S (tickets_of c R.forks) (suc k)) live ∙
          ap (λ fs. stack_from net S (waiting fs) (suc k)) closed)
      go (Some c) live ih =
          let i = c.0 in
          let x = c.1 in
          let b = before_of net runs S R i x fits live in
          let e : S.tokens i ≡ Some x = b.tokens i ∙ ap (λ b. cond b (Some x) (waiting_at R.forks i)) (eq-eqb i i refl) in
          let (T, s) = has_step net runs log S h i x e in
          let g = run_append net log (start (start_of net)) S T i h s in
          let on = ih (log ++ i ∷ []) T (tick net R) g (ticked net runs log S T R i x h fits live e s g) in
          let row = law net runs.sound x (runs.moves log S h i x e) in
          let counted_too : Before net S (counted R) R.forks i x = record {
            tokens = b.tokens;
            entries = b.entries;
            next = b.next;
            answered = b.answered;
            nests = b.nests;
            alone = b.alone;
            descends = b.descends;
            once = b.once;
            ready = b.ready;
          } in
          let made : held (does (by_rows net x) i (counted R)) ≡ behind S T i (waiting R.forks) =
          moved net runs log S h (counted R) i x (by_rows net x) row counted_too T
          (ap (λ m. act m S i) (sym row) ∙ ap (λ o. step_on net o S i) (sym e) ∙ s) in
          let ticks_to : tick net R ≡ does (by_rows net x) i (counted R) =
          ap (λ b. cond b R (tick_on net R.live R)) fits.ready ∙ ap (λ c. tick_on net c R) live in
          let same : held (tick net R) ≡ behind S T i (waiting R.forks) = ap held ticks_to ∙ made in
          ap (λ c. on_live c (fired net k (tick net R))) live ∙ ap (λ l. i ∷ l) (on ∙ ap (λ l. stack_from net T l k) same) ∙
          sym (ap (λ c. stack_from net S (tickets_of c R.forks) (suc k)) live ∙
          ap (λ o. on_step i o (λ T. stack_from net T (behind S T i (waiting R.forks)) k)) s)

  -- the law
  pub is_stack : (k : ℕ) → newest net k ≡ stack_from net (start (start_of net)) (0 ∷ []) k
  is_stack k = fired_stack k [] (start (start_of net)) (reset net) refl (at_reset net runs)
