-- States that are alike but for their tickets go on alike.
-- A move is determined by its token and by the entry at its key, which both states have; and what it makes of the tokens concerns its own
-- ticket and a new one. That the other tokens stay alike needs that the moving one stands nowhere else, which no two tokens at one place
-- give.
use Rattle.std.proofs.Common.{◌≡◌, ◌≢◌, ℕ, suc, ◌<◌, List, [], ◌∷◌, ◌++◌, length, Option, Some, None, refl, sym}
use Rattle.std.proofs.Common.{ap, ◌∙◌, subst, drop}
use Rattle.std.proofs.Common.{⊎_elim, cond, arith}
use Rattle.std.proofs.lemmas.Option.{same_Some}
use Rattle.pcf_values.specs.declared.val.Val.{Val}
use Rattle.token_stacks.specs.Signatures.{Boxes}
use Rattle.fork_join.specs.Entries.{Entry, pending, has_left, has_right, kept_as}
use Rattle.net_build.specs.Nets.{NetTree}
use Rattle.net_build.specs.Sound.{Sound}
use Rattle.move_rules.specs.Places.{down, TokenTree, ans}
use Rattle.move_rules.specs.Moves.{Move, solo, fork, join, answer, stay, move}
use Rattle.interleave_laws.specs.States.{State, set_token, other, fork_on, last_on, join_on, act, step, step_on, then_run, run}
use Rattle.interleave_laws.specs.Runs.{Runs, LeadsTo}
use Rattle.interleave_laws.specs.Bare.{StandsIn, SameBare}
use Rattle.interleave_laws.specs.AnyOrder.{and_then, movers}
use Rattle.interleave_laws.proofs.Tree.{Effect, turn, opens, keeps, closes, at_key, new_entry}
use Rattle.interleave_laws.proofs.Reached.{made_of}
use Rattle.interleave_laws.proofs.Running.{one_place, low, run_append}
use Rattle.interleave_laws.proofs.Diamond.{tokens_self, tokens_born, tokens_other, tokens_from, diamond}

-- a token that one ticket alone has, in two states of which the second has all tokens of the first
module _ (S T : State) (i j : ℕ) (x : TokenTree) (here : T.tokens j ≡ Some x) (alone : (k : ℕ) → S.tokens k ≡ Some x → k ≡ i)
    (low : (k : ℕ) (y : TokenTree) → T.tokens k ≡ Some y → k < T.next) (stays : (y : TokenTree) → StandsIn S y →
    StandsIn T y) where
  -- what is live in the first after the token's effect is live in the second after it
  goes : (e : Effect) (y : TokenTree) → StandsIn (made_of e S i) y → StandsIn (made_of e T j) y
  goes e y (k, h) =
      ⊎_elim (λ (_, own). (j, tokens_self T j e (λ q. let l = low j x here in omega (arith, l, q)) ∙ own))
      (⊎_elim (λ (_, new). (T.next, tokens_born T j e y new)) (λ (differs, old). beside differs old (stays y (k, old))))
      (tokens_from S i e k y h)
    where
      beside : (k ≡ i → ⊥) → S.tokens k ≡ Some y → StandsIn T y → StandsIn (made_of e T j) y
      beside differs old (m, there) =
          let apart : m ≡ j → ⊥ =
          λ q. let same = same_Some y x (sym there ∙ ap T.tokens q ∙ here) in differs (alone k (old ∙ ap Some same)) in
          let below : m ≡ T.next → ⊥ = λ q. let l = low m y there in omega (arith, l, q) in
          (m, tokens_other T j e m apart below ∙ there)

-- two states that are alike, and the ticket that one token has in each
record Twins (S T : State) (i j : ℕ) (x : TokenTree) : Type 0 where
  alike : SameBare S T
  in_first : S.tokens i ≡ Some x
  in_second : T.tokens j ≡ Some x
  first_alone : (k : ℕ) → S.tokens k ≡ Some x → k ≡ i
  second_alone : (k : ℕ) → T.tokens k ≡ Some x → k ≡ j
  first_low : (k : ℕ) (y : TokenTree) → S.tokens k ≡ Some y → k < S.next
  second_low : (k : ℕ) (y : TokenTree) → T.tokens k ≡ Some y → k < T.next

module _ (S T : State) (i j : ℕ) (x : TokenTree) (twins : Twins S T i j x) where
  -- they are alike after an effect
  made : (e : Effect) → SameBare (made_of e S i) (made_of e T j)
  made e = record {
    stays = goes S T i j x twins.in_second twins.first_alone twins.second_low twins.alike.stays e;
    back = goes T S j i x twins.in_first twins.second_alone twins.first_low twins.alike.back e;
    entries = λ n t. ap (cond (at_key e n t) (new_entry e)) (twins.alike.entries n t);
    answered = twins.alike.answered;
  }

  -- and after the answer, which takes its token away as a first answer does
  ended : (v : Val) → SameBare (record S { tokens = set_token S.tokens i None; answered = Some v })
      (record T { tokens = set_token T.tokens j None; answered = Some v })
  ended v = record {
    stays = goes S T i j x twins.in_second twins.first_alone twins.second_low twins.alike.stays (keeps 0 [] pending);
    back = goes T S j i x twins.in_first twins.second_alone twins.first_low twins.alike.back (keeps 0 [] pending);
    entries = twins.alike.entries;
    answered = refl;
  }

  -- what one move makes of both
  abbrev Both : Option State → State → Type 0
  Both o S' = (T' : State) × (o ≡ Some T') × SameBare S' T'

  -- what is known of a state holds of the one that it is
  known : (A B S' : State) → Some A ≡ Some S' → SameBare A B → SameBare S' B
  known A B S' h alike = let same : A ≡ S' = cc in subst (λ S. SameBare S B) same alike

  -- the second answer of an entry
  last : (n w : ℕ) (t : Boxes) (S' : State) (o : Option Val) → last_on o S i n w t ≡ Some S' → Both (last_on o T j n w t) S'
  last n w t S' None h = cc
  last n w t S' (Some u) h =
      let e = closes n t (ans u (down w [] t)) in
      (made_of e T j, refl, known (made_of e S i) (made_of e T j) S' h (made e))

  -- a move of the token makes the same of both
  moves : (m : Move) (S' : State) → act m S i ≡ Some S' → Both (act m T j) S'
  moves (solo k z) S' h = (made_of (turn z) T j, refl, known (made_of (turn z) S i) (made_of (turn z) T j) S' h (made (turn z)))
  moves (fork n l r t) S' h =
      go (T.entries n t) refl (sym (ap (λ o. fork_on o S i n l r t) (twins.alike.entries n t)) ∙ h)
    where
      go : (o : Option Entry) → T.entries n t ≡ o → fork_on o S i n l r t ≡ Some S' →
          Both (fork_on (T.entries n t) T j n l r t) S'
      go None q h =
          let e = opens n t l r in
          (made_of e T j, ap (λ o. fork_on o T j n l r t) q, known (made_of e S i) (made_of e T j) S' h (made e))
      go (Some e) q h = cc
  moves (join n op s v w t) S' h =
      go (T.entries n t) refl (sym (ap (λ o. join_on o S i n op s v w t) (twins.alike.entries n t)) ∙ h)
    where
      and_so : (o : Option Entry) → T.entries n t ≡ o → Both (join_on o T j n op s v w t) S' →
          Both (join_on (T.entries n t) T j n op s v w t) S'
      and_so o q (T', g, alike) = (T', ap (λ o. join_on o T j n op s v w t) q ∙ g, alike)

      go : (o : Option Entry) → T.entries n t ≡ o → join_on o S i n op s v w t ≡ Some S' →
          Both (join_on (T.entries n t) T j n op s v w t) S'
      go None q h = cc
      go (Some pending) q h =
          let e = keeps n t (kept_as s v) in
          and_so (Some pending) q (made_of e T j, refl, known (made_of e S i) (made_of e T j) S' h (made e))
      go (Some (has_left u)) q h = and_so (Some (has_left u)) q (last n w t S' (other op (has_left u) s v) h)
      go (Some (has_right u)) q h = and_so (Some (has_right u)) q (last n w t S' (other op (has_right u) s v) h)
  moves (answer v) S' h = (
    record T { tokens = set_token T.tokens j None; answered = Some v },
    refl,
    known (record S { tokens = set_token S.tokens i None; answered = Some v })
        (record T { tokens = set_token T.tokens j None; answered = Some v }) S' h (ended v),
  )
  moves stay S' h = cc

module _ (net : NetTree) (sound : Sound net) where
  -- in states that logs lead to, one token has one ticket
  twins_of : (log log' : List ℕ) (S T : State) → LeadsTo net log S → LeadsTo net log' T → SameBare S T
      → (i j : ℕ) (x : TokenTree) → S.tokens i ≡ Some x → T.tokens j ≡ Some x → Twins S T i j x
  twins_of log log' S T leads leads' alike i j x at_i at_j = record {
    alike = alike;
    in_first = at_i;
    in_second = at_j;
    first_alone = λ k at_k. one_place net sound log S leads k i x x at_k at_i refl;
    second_alone = λ k at_k. one_place net sound log' T leads' k j x x at_k at_j refl;
    first_low = low net sound log S leads;
    second_low = low net sound log' T leads';
  }

  -- the same step in both
  pub alike_steps : (log log' : List ℕ) (S T : State) → LeadsTo net log S → LeadsTo net log' T → SameBare S T
      → (i j : ℕ) (x : TokenTree) → S.tokens i ≡ Some x → T.tokens j ≡ Some x → (S' : State) → step net S i ≡ Some S'
      → (T' : State) × (step net T j ≡ Some T') × SameBare S' T'
  alike_steps log log' S T leads leads' alike i j x at_i at_j S' steps =
      let twins = twins_of log log' S T leads leads' alike i j x at_i at_j in
      let (T', acts, alike') = moves S T i j x twins (move net x) S' (sym (ap (λ o. step_on net o S i) at_i) ∙ steps) in
      (T', ap (λ o. step_on net o T j) at_j ∙ acts, alike')

  -- what a run of one state has in the other
  abbrev Follows : State → State → List ℕ → State → Type 0
  Follows S T log S' = (log' : List ℕ) × (T' : State) × (length log' ≡ length log) × (movers net T log' ≡ movers net S log) ×
      (run net T log' ≡ Some T') × SameBare S' T'

  -- a token moves in both, and the same ones after it
  one_mover : (S T S1 T1 : State) (i j : ℕ) (x : TokenTree) (log rest : List ℕ) → S.tokens i ≡ Some x → T.tokens j ≡ Some x →
      step net S i ≡ Some S1 → step net T j ≡ Some T1 → movers net T1 log ≡ movers net S1 rest →
      movers net T (j ∷ log) ≡ movers net S (i ∷ rest)
  one_mover S T S1 T1 i j x log rest at_i at_j steps steps' same =
      let first = at_j ∙ sym at_i in
      let others = ap (λ o. and_then o (λ T. movers net T log)) steps' ∙ same ∙
      sym (ap (λ o. and_then o (λ S. movers net S rest)) steps) in
      λ k. first k ∷ others k

  -- what the rest of a run has, once its first step was made in both
  abbrev Shorter : State → ℕ → State → List ℕ → State → Type 0
  Shorter S i T rest S' = (j : ℕ) (S1 T1 : State) → step net S i ≡ Some S1 → step net T j ≡ Some T1 → SameBare S1 T1
      → run net S1 rest ≡ Some S' → Follows S1 T1 rest S'

  -- a run of the one state has a run of the other that leads to a state alike
  pub alike_runs : (rest log log' : List ℕ) (S T : State) → LeadsTo net log S → LeadsTo net log' T → SameBare S T
      → (S' : State) → run net S rest ≡ Some S' → Follows S T rest S'
  alike_runs [] log log' S T leads leads' alike S' runs =
      let same : S ≡ S' = cc in
      ([], T, refl, refl, refl, subst (λ S. SameBare S T) same alike)
  alike_runs (i ∷ rest) log log' S T leads leads' alike S' runs =
      by_token (S.tokens i) refl
      (λ j S1 T1 steps steps' alike1 runs1.
      alike_runs rest (log ++ i ∷ []) (log' ++ j ∷ []) S1 T1
      (run_append net log _ S S1 i leads steps) (run_append net log' _ T T1 j leads' steps') alike1 S' runs1)
    where
      by_step : (x : TokenTree) → S.tokens i ≡ Some x → (o : Option State) → step net S i ≡ o →
          then_run o (λ S. run net S rest) ≡ Some S'
          → Shorter S i T rest S' → Follows S T (i ∷ rest) S'
      by_step x at_i None steps h shorter = cc
      by_step x at_i (Some S1) steps h shorter =
          let (j, at_j) = alike.stays x (i, at_i) in
          let (T1, steps', alike1) = alike_steps log log' S T leads leads' alike i j x at_i at_j S1 steps in
          let (log'', T', long, same, runs', alike') = shorter j S1 T1 steps steps' alike1 h in (
            j ∷ log'',
            T',
            ap suc long,
            one_mover S T S1 T1 i j x log'' rest at_i at_j steps steps' same,
            ap (λ o. then_run o (λ T. run net T log'')) steps' ∙ runs',
            alike',
          )

      by_token : (o : Option TokenTree) → S.tokens i ≡ o → Shorter S i T rest S' → Follows S T (i ∷ rest) S'
      by_token None at_i shorter =
          let none : step net S i ≡ None = ap (λ o. step_on net o S i) at_i in
          let bad : None ≡ Some S' = sym (ap (λ o. then_run o (λ S. run net S rest)) none) ∙ runs in cc
      by_token (Some x) at_i shorter = by_step x at_i (step net S i) refl runs shorter

-- two steps, one after the other, and the rest
two_steps : (net : NetTree) (S S1 S2 : State) (i j : ℕ) (rest : List ℕ) → step net S i ≡ Some S1 → step net S1 j ≡ Some S2
    → run net S (i ∷ j ∷ rest) ≡ run net S2 rest
two_steps net S S1 S2 i j rest first second =
    ap (λ o. then_run o (λ S. run net S (j ∷ rest))) first ∙ ap (λ o. then_run o (λ S. run net S rest)) second

-- and the tokens that move behind them
two_movers : (net : NetTree) (S S1 S2 : State) (i j : ℕ) (rest : List ℕ) → step net S i ≡ Some S1 → step net S1 j ≡ Some S2
    → drop 2 (movers net S (i ∷ j ∷ rest)) ≡ movers net S2 rest
two_movers net S S1 S2 i j rest first second =
    ap (λ o. drop 1 (and_then o (λ S. movers net S (j ∷ rest)))) first ∙ ap (λ o. and_then o (λ S. movers net S rest)) second

-- two moves can be exchanged at any place in a run
pub any_order : (net : NetTree) → Runs net → (log : List ℕ) (S : State) → LeadsTo net log S
    → (i j : ℕ) (x y : TokenTree) → S.tokens i ≡ Some x → S.tokens j ≡ Some y → i ≢ j
    → (rest : List ℕ) (S' : State) → run net S (i ∷ j ∷ rest) ≡ Some S'
    → (rest' : List ℕ) × (T' : State) × (length rest' ≡ length rest) ×
    (drop 2 (movers net S (j ∷ i ∷ rest')) ≡ drop 2 (movers net S (i ∷ j ∷ rest))) × (run net S (j ∷ i ∷ rest') ≡ Some T') ×
    SameBare S' T'
any_order net runs log S leads i j x y at_i at_j differ rest S' goes_on =
    let (S1, S12, S2, S21, first, then_j, second, then_i, alike) = diamond net runs log S leads i j x y at_i at_j differ in
    let one = run_append net (log ++ i ∷ []) _ S1 S12 j (run_append net log _ S S1 i leads first) then_j in
    let two = run_append net (log ++ j ∷ []) _ S2 S21 i (run_append net log _ S S2 j leads second) then_i in
    let from_here : run net S12 rest ≡ Some S' = sym (two_steps net S S1 S12 i j rest first then_j) ∙ goes_on in
    let (rest', T', long, same, runs', alike') = alike_runs net runs.sound rest ((log ++ i ∷ []) ++ j ∷ []) ((log ++ j ∷ []) ++ i ∷
    []) S12 S21 one two alike S' from_here in
    let moved = two_movers net S S2 S21 j i rest' second then_i ∙ same ∙ sym (two_movers net S S1 S12 i j rest first then_j) in
    (rest', T', long, moved, two_steps net S S2 S21 j i rest' second then_i ∙ runs', alike')
