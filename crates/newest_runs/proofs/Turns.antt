-- What a step does with tickets is what the processor's move does with its registers.
use Rattle.std.proofs.Common.{◌≡◌, ℕ, cond, List, [], ◌∷◌, ◌++◌, Option, Some, refl, sym, ap, ◌∙◌, subst}
use Rattle.std.specs.FinMap.{get}
use Rattle.std.specs.Option.{option_map}
use Rattle.std.proofs.lemmas.Option.{same_Some}
use Rattle.pcf_values.specs.declared.val.Val.{Val}
use Rattle.pcf_values.specs.declared.operator.Operator.{Operator}
use Rattle.pcf_values.specs.declared.side.Side.{Side}
use Rattle.token_stacks.specs.Signatures.{Boxes}
use Rattle.fork_join.specs.Entries.{same_key}
use Rattle.fork_join.proofs.Keys.{key_same}
use Rattle.move_rules.specs.Places.{TokenTree}
use Rattle.move_rules.specs.Moves.{Move, solo, fork, join, answer, stay}
use Rattle.interleave_laws.specs.Maps.{MapState}
use Rattle.interleave_core.specs.declared.stepped.Stepped.{Stepped}
use Rattle.interleave_core.specs.declared.stepped.Stepped.TheVariants.{Went, Forked, Kept, Joined, Answered}
use Rattle.interleave_core.specs.Names.{name_at, name_of}
use Rattle.newest_core.specs.Processor.{Half, waits, came, OpenFork, Registers, meets_half, meets, does, entry_of, fork_at}
use Rattle.newest_core.specs.ProcessorLaws.{IsInnermost}
use Rattle.newest_runs.specs.declared.turn.Turn.{Turn}
use Rattle.newest_runs.specs.Moving.{GoesOn, and_half, all_waiting, IsTurn}

-- the current ticket
abbrev ticket_of : Option (ℕ × TokenTree) → Option ℕ
ticket_of c = option_map (λ (c : ℕ × TokenTree). c.0) c

module _ (S : MapState) (i : ℕ) (x : TokenTree) (R : Registers) (live : R.live ≡ Some (i, x)) (w v : Turn) (turn : IsTurn R w) where
  here : w.ticket ≡ Some i
  here = turn.ticket ∙ ap ticket_of live

  -- an answer at the innermost fork
  half_turn : (h : Half) (f : OpenFork) (fs : List OpenFork) (o : Operator) (y : Val) (b : ℕ) (t : Boxes) (s : Stepped) →
      w.waiting.items ≡ and_half (all_waiting fs) h → name_at (Some (entry_of h)) y ≡ Some s → GoesOn s w v →
      IsTurn (meets_half h f fs i o y b t R) v
  half_turn (waits j p) f fs o y b t s kept name g =
      let e : GoesOn Kept w v = subst (λ s. GoesOn s w v) (sym (same_Some Kept s name)) g in
      let (a, c) = e (all_waiting fs) j kept in
      record { ticket = a; waiting = c }
  half_turn (came u) f fs o y b t s kept name g =
      let e : GoesOn (Joined u y) w v = subst (λ s. GoesOn s w v) (sym (same_Some (Joined u y) s name)) g in
      record { ticket = e.0 ∙ here; waiting = e.1 ∙ kept }

  -- the fork that is first is found
  first_found : (f : OpenFork) (fs : List OpenFork) (n : ℕ) (t : Boxes) → f.node ≡ n → f.boxes ≡ t →
      fork_at (f ∷ fs) n t ≡ Some (entry_of f.half)
  first_found f fs n t en et =
      ap (λ n'. cond (same_key n t n' f.boxes) (Some (entry_of f.half)) (fork_at fs n t)) en ∙
      ap (λ t'. cond (same_key n t n t') (Some (entry_of f.half)) (fork_at fs n t)) et ∙
      ap (λ b. cond b (Some (entry_of f.half)) (fork_at fs n t)) (key_same n t)

  meets_turn : (fs : List OpenFork) (n : ℕ) (o : Operator) (d : Side) (y : Val) (b : ℕ) (t : Boxes) (s : Stepped) →
      w.waiting.items ≡ all_waiting fs → IsInnermost fs n t d → name_at (fork_at fs n t) y ≡ Some s →
      GoesOn s w v → IsTurn (meets fs i o y b t R) v
  meets_turn [] n o d y b t s kept inn name g = elim inn [ ]
  meets_turn (f ∷ fs) n o d y b t s kept inn name g =
      half_turn f.half f fs o y b t s kept (ap (λ e. name_at e y) (sym (first_found f fs n t inn.0 inn.1)) ∙ name) g

  -- each move
  pub does_turn : (m : Move) (s : Stepped) → S.next ≡ R.next → ((n : ℕ) (t : Boxes) → get S.entries (n, t) ≡ fork_at R.forks n t) →
      ((n : ℕ) (o : Operator) (d : Side) (y : Val) (b : ℕ) (t : Boxes) → m ≡ join n o d y b t → IsInnermost R.forks n t d) →
      name_of m S ≡ Some s → GoesOn s w v → IsTurn (does m i R) v
  does_turn (solo n y) s next entries inn name g =
      let e : GoesOn Went w v = subst (λ s. GoesOn s w v) (sym (same_Some Went s name)) g in
      record { ticket = e.0 ∙ here; waiting = e.1 ∙ turn.waiting }
  does_turn (fork n l r t) s next entries inn name g =
      let e : GoesOn (Forked S.next) w v = subst (λ s. GoesOn s w v) (sym (same_Some (Forked S.next) s name)) g in
      record {
        ticket = e.0 ∙ here;
        waiting = e.1 ∙ ap (λ l. l ++ S.next ∷ []) turn.waiting ∙ ap (λ j. all_waiting R.forks ++ j ∷ []) next;
      }
  does_turn (join n o d y b t) s next entries inn name g =
      meets_turn R.forks n o d y b t s turn.waiting (inn n o d y b t refl) (ap (λ e. name_at e y) (sym (entries n t)) ∙ name) g
  does_turn (answer y) s next entries inn name g =
      let e : GoesOn (Answered y) w v = subst (λ s. GoesOn s w v) (sym (same_Some (Answered y) s name)) g in
      record { ticket = e.0; waiting = e.1 ∙ turn.waiting }
  does_turn stay s next entries inn name g = absurd cc
