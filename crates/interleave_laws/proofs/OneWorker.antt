-- The one worker's log: it names the least live tickets, ends at the answer or at its bound, and grows by its end alone.
use Rattle.std.proofs.Common.{◌≡◌, ◌⊎◌, ℕ, zero, suc, ◌+◌, ◌-◌, ◌<◌, ◌≤◌, List, [], ◌∷◌, ◌++◌}
use Rattle.std.proofs.Common.{length, Option, Some, None, refl, sym, ap, ◌∙◌, subst, ⊎_elim, inl, inr, arith}
use Rattle.std.proofs.lemmas.Bool.{cases_lt, cases_eq}
use Rattle.std.proofs.lemmas.List.{append-nil}
use Rattle.pcf_values.specs.declared.val.Val.{Val}
use Rattle.net_build.specs.Nets.{NetTree}
use Rattle.move_rules.specs.Places.{TokenTree}
use Rattle.interleave_laws.specs.States.{Tokens, State, start, step, then_run, run}
use Rattle.interleave_laws.specs.Start.{start_of}
use Rattle.interleave_laws.specs.Runs.{LeadsTo, Runs}
use Rattle.interleave_laws.specs.Finished.{Finished}
use Rattle.interleave_laws.specs.OneWorker.{or_next, least_from, least_live, on_step, on_least, one_from, one}
use Rattle.interleave_laws.specs.OneWorkerLaws.{FirstFrom, IsOneWorkers, Least}
use Rattle.interleave_laws.proofs.Running.{low, has_step, answered_idle, idle_answered, run_append, run_on}

-- what the search finds is live, and nothing before it is
pub least_found : (f : Tokens) (n k i : ℕ) → least_from f k n ≡ Some i → FirstFrom f k i
least_found f zero k i h = cc
least_found f (suc n) k i h = go (least_found f n (suc k) i) (f k) refl h
  where
    go : (least_from f (suc k) n ≡ Some i → FirstFrom f (suc k) i) → (o : Option TokenTree) → f k ≡ o →
        or_next o k (least_from f (suc k) n) ≡ Some i → FirstFrom f k i
    go ih (Some x) e h = let q : k ≡ i = cc in (omega arith, (x, ap f (sym q) ∙ e), λ j l m. absurd (omega arith))
    go ih None e h =
        let (l, x, g) = ih h in
        (omega arith, x, λ j a b. ⊎_elim (λ q. ap f (sym q) ∙ e) (λ q. g j (omega arith) b) (cases_eq k j))

-- where it finds nothing, nothing is live
pub least_none : (f : Tokens) (n k : ℕ) → least_from f k n ≡ None → (j : ℕ) → k ≤ j → j < k + n → f j ≡ None
least_none f zero k h j a b = absurd (omega arith)
least_none f (suc n) k h j a b = go (least_none f n (suc k)) (f k) refl h
  where
    go : (least_from f (suc k) n ≡ None → (j : ℕ) → suc k ≤ j → j < suc k + n → f j ≡ None) → (o : Option TokenTree) →
        f k ≡ o → or_next o k (least_from f (suc k) n) ≡ None → f j ≡ None
    go ih (Some x) e h = cc
    go ih None e h = ⊎_elim (λ q. ap f (sym q) ∙ e) (λ q. ih h j (omega arith) (omega arith)) (cases_eq k j)

-- the least live ticket of a state is the least
pub least_is : (S : State) (i : ℕ) → least_live S ≡ Some i → Least S i
least_is S i h = let (_, x, g) = least_found S.tokens S.next 0 i h in record { live = x; below = λ j l. g j (omega arith) l }

-- each place of the log names the least live ticket
abbrev Names : NetTree → State → List ℕ → Type 0
Names net S l = (T : State) (a c : List ℕ) (i : ℕ) → l ≡ a ++ i ∷ c → run net S a ≡ Some T → Least T i

-- an empty log
none_named : (net : NetTree) (S : State) → Names net S []
none_named net S T [] c i h r = cc
none_named net S T (k ∷ a) c i h r = cc

-- one entry more
one_named : (net : NetTree) (S U : State) (j : ℕ) (l : List ℕ) → Least S j → step net S j ≡ Some U → Names net U l →
    Names net S (j ∷ l)
one_named net S U j l least e f T [] c i h r = let q : j ≡ i = cc in let s : S ≡ T = cc in
    subst (λ T. Least T i) s (subst (Least S) q least)
one_named net S U j l least e f T (k ∷ a) c i h r =
    let q : j ≡ k = cc in
    let g : l ≡ a ++ i ∷ c = cc in
    f T a c i g (sym (ap (λ o. then_run o (λ S. run net S a)) (ap (step net S) (sym q) ∙ e)) ∙ r)

-- the whole log
all_named : (net : NetTree) (b : ℕ) (S : State) → Names net S (one_from net S b)
all_named net zero S = none_named net S
all_named net (suc b) S = go (all_named net b) (least_live S) refl
  where
    at : ((U : State) → Names net U (one_from net U b)) → (j : ℕ) → Least S j → (o : Option State) → step net S j ≡ o →
        Names net S (on_step j o (λ T. one_from net T b))
    at ih j l None e = none_named net S
    at ih j l (Some U) e = one_named net S U j (one_from net U b) l e (ih U)

    go : ((U : State) → Names net U (one_from net U b)) → (o : Option ℕ) → least_live S ≡ o →
        Names net S (on_least o (λ j. on_step j (step net S j) (λ T. one_from net T b)))
    go ih None e = none_named net S
    go ih (Some j) e = at ih j (least_is S j e) (step net S j) refl

-- the same of the log from the start
pub one_least : (net : NetTree) (b : ℕ) (S : State) (a c : List ℕ) (i : ℕ) → one net b ≡ a ++ i ∷ c → LeadsTo net a S →
    Least S i
one_least net b S a c i h r = all_named net b (start (start_of net)) S a c i h r

-- a longer run goes on from where the shorter one ends
idle_from : (net : NetTree) (b : ℕ) (S : State) → least_live S ≡ None → one_from net S b ≡ []
idle_from net zero S h = refl
idle_from net (suc b) S h = ap (λ o. on_least o (λ i. on_step i (step net S i) (λ T. one_from net T b))) h

-- without a step the run ends
no_step : (net : NetTree) (b : ℕ) (S : State) (i : ℕ) → least_live S ≡ Some i → step net S i ≡ None → one_from net S b ≡ []
no_step net zero S i h e = refl
no_step net (suc b) S i h e = ap (λ o. on_least o (λ i. on_step i (step net S i) (λ T. one_from net T b))) h ∙
    ap (λ o. on_step i o (λ T. one_from net T b)) e

-- a run of so many moves and more goes on from where the first ones lead
one_append : (net : NetTree) (b c : ℕ) (S T : State) → run net S (one_from net S b) ≡ Some T →
    one_from net S (b + c) ≡ one_from net S b ++ one_from net T c
one_append net zero c S T h = let q : S ≡ T = cc in let z : zero + c ≡ c = omega arith in ap (one_from net S) z ∙
    ap (λ T. one_from net T c) q
one_append net (suc b) c S T h =
    let z : suc b + c ≡ suc (b + c) = omega arith in
    ap (one_from net S) z ∙ go (one_append net b c) (least_live S) refl h
  where
    ended : one_from net S c ≡ [] → run net S [] ≡ Some T → [] ≡ [] ++ one_from net T c
    ended e h = let q : S ≡ T = cc in sym (sym (ap (λ T. one_from net T c) q) ∙ e)

    at : ((U T : State) → run net U (one_from net U b) ≡ Some T → one_from net U (b + c) ≡ one_from net U b ++ one_from net T c) →
        (i : ℕ) → least_live S ≡ Some i → (o : Option State) → step net S i ≡ o →
        run net S (on_step i o (λ T. one_from net T b)) ≡ Some T →
        on_step i o (λ T. one_from net T (b + c)) ≡ on_step i o (λ T. one_from net T b) ++ one_from net T c
    at ih i l None e h = ended (no_step net c S i l e) h
    at ih i l (Some U) e h = ap (λ l. i ∷ l) (ih U T (sym (ap (λ o. then_run o (λ S. run net S (one_from net U b))) e) ∙ h))

    go : ((U T : State) → run net U (one_from net U b) ≡ Some T → one_from net U (b + c) ≡ one_from net U b ++ one_from net T c) →
        (o : Option ℕ) → least_live S ≡ o →
        run net S (on_least o (λ i. on_step i (step net S i) (λ T. one_from net T b))) ≡ Some T →
        on_least o (λ i. on_step i (step net S i) (λ T. one_from net T (b + c))) ≡ on_least o
        (λ i. on_step i (step net S i) (λ T. one_from net T b)) ++ one_from net T c
    go ih None e h = ended (idle_from net c S e) h
    go ih (Some i) e h = at ih i e (step net S i) refl h

-- the same from the start
pub one_continues : (net : NetTree) (log : List ℕ) (S : State) → LeadsTo net log S → IsOneWorkers net log → (b : ℕ) →
    one net (length log + b) ≡ log ++ one_from net S b
one_continues net log S h e b = one_append net (length log) b (start (start_of net)) S (ap (run net (start (start_of net))) e ∙ h) ∙
    ap (λ l. l ++ one_from net S b) e

module _ (net : NetTree) (runs : Runs net) where
  -- a log from S of at most b moves, and of b where it doesn't answer
  abbrev Goes : State → ℕ → List ℕ → Type 0
  Goes S b l = (T : State) × (run net S l ≡ Some T) × (length l ≤ b) × (T.answered ≡ None → length l ≡ b)

  -- from a reached state the run goes on to an answer, or as long as it may
  goes : (b : ℕ) (log : List ℕ) (S : State) → LeadsTo net log S → Goes S b (one_from net S b)
  goes zero log S h = (S, refl, omega arith, λ e. refl)
  goes (suc b) log S h = go (goes b) (least_live S) refl
    where
      go : ((log : List ℕ) (S : State) → LeadsTo net log S → Goes S b (one_from net S b)) → (o : Option ℕ) →
          least_live S ≡ o → Goes S (suc b) (on_least o (λ i. on_step i (step net S i) (λ T. one_from net T b)))
      go ih None e =
          let below = low net runs.sound log S h in
          let none : (j : ℕ) → S.tokens j ≡ None = λ j. gone j (S.tokens j) refl below in
          let (v, z) = idle_answered net runs.sound log S h none in
          (S, refl, omega arith, λ q. let bad : None ≡ Some v = sym q ∙ z in absurd cc)
        where
          gone : (j : ℕ) (o : Option TokenTree) → S.tokens j ≡ o →
              ((k : ℕ) (x : TokenTree) → S.tokens k ≡ Some x → k < S.next) → S.tokens j ≡ None
          gone j None q low = q
          gone j (Some x) q low = least_none S.tokens S.next 0 e j (omega arith) (let l = low j x q in omega arith)
      go ih (Some i) e =
          let f = least_is S i e in
          let (T, s) = has_step net runs log S h i f.live.0 f.live.1 in
          let (U, r, l, g) = ih (log ++ i ∷ []) T (run_append net log (start (start_of net)) S T i h s) in
          subst (Goes S (suc b)) (sym (ap (λ o. on_step i o (λ T. one_from net T b)) s))
          (U, ap (λ o. then_run o (λ S. run net S (one_from net T b))) s ∙ r, omega arith, λ q. ap suc (g q))

  -- every log is finished by the least live tickets, by an answer or at the bound
  pub one_finishes : (log : List ℕ) (S : State) → LeadsTo net log S → (b : ℕ) → let more = one_from net S b in (T : State) ×
      LeadsTo net (log ++ more) T × Finished T.answered more b
  one_finishes log S h b =
      let (T, g, l, f) = goes b log S h in (T, run_on net log (one_from net S b) (start (start_of net)) S T h g, (l, f))

  -- the one worker's log leads to a state
  pub one_leads : (b : ℕ) → (S : State) × LeadsTo net (one net b) S
  one_leads b = let (S, h, _, _) = goes b [] (start (start_of net)) refl in (S, h)

  -- and is finished within its budget
  pub one_finished : (b : ℕ) (S : State) → LeadsTo net (one net b) S → Finished S.answered (one net b) b
  one_finished b S h =
      let (T, g, l, f) = goes b [] (start (start_of net)) refl in
      let q : S ≡ T = let z : Some S ≡ Some T = sym h ∙ g in cc in
      (l, λ e. f (ap (λ (S : State). S.answered) (sym q) ∙ e))

  -- the search finds the least live ticket of a reached state
  pub least_search : (log : List ℕ) (S : State) → LeadsTo net log S → (i : ℕ) → Least S i → least_live S ≡ Some i
  least_search log S h i l = go (least_live S) refl
    where
      go : (o : Option ℕ) → least_live S ≡ o → least_live S ≡ Some i
      go None e =
          let m = low net runs.sound log S h i l.live.0 l.live.1 in
          let none = least_none S.tokens S.next 0 e i (omega arith) (omega arith) in
          let bad : None ≡ Some l.live.0 = sym none ∙ l.live.1 in absurd cc
      go (Some j) e = ⊎_elim (λ q. e ∙ ap Some q) (λ d. absurd (⊎_elim (first l f) (first f l) (apart d))) (cases_eq j i)
        where
          f : Least S j
          f = least_is S j e

          apart : (j ≡ i → ⊥) → (j < i) ⊎ (i < j)
          apart d = ⊎_elim inl (λ m. inr (omega arith)) (cases_lt j i)

          first : {a b : ℕ} → Least S a → Least S b → b < a → ⊥
          first f g m = let bad : None ≡ Some g.live.0 = sym (f.below _ m) ∙ g.live.1 in cc

  -- one more least ticket is one more entry
  pub one_next : (log : List ℕ) (S : State) → LeadsTo net log S → (i : ℕ) → IsOneWorkers net log → Least S i →
      one net (suc (length log)) ≡ log ++ i ∷ []
  one_next log S h i e l =
      let z : suc (length log) ≡ length log + 1 = omega arith in
      let (T, s) = has_step net runs log S h i l.live.0 l.live.1 in
      let last : one_from net S 1 ≡ i ∷ [] = ap (λ o. on_least o (λ i. on_step i (step net S i) (λ T. [])))
      (least_search log S h i l) ∙ ap (λ o. on_step i o (λ T. [])) s in
      ap (one net) z ∙ one_continues net log S h e 1 ∙ ap (λ l. log ++ l) last

  -- and an answer ends it
  pub one_ends : (log : List ℕ) (S : State) → LeadsTo net log S → (v : Val) → IsOneWorkers net log → S.answered ≡ Some v →
      (b : ℕ) → length log ≤ b → one net b ≡ log
  one_ends log S h v e a b l =
      let z : b ≡ length log + (b - length log) = omega arith in
      let none = (answered_idle net runs.sound log S h v a).0 in
      ap (one net) z ∙ one_continues net log S h e (b - length log) ∙
      ap (λ l. log ++ l) (idle_from net (b - length log) S (nothing (least_live S) refl none)) ∙ append-nil log
    where
      nothing : (o : Option ℕ) → least_live S ≡ o → ((j : ℕ) → S.tokens j ≡ None) → least_live S ≡ None
      nothing None q none = q
      nothing (Some j) q none = let f = least_is S j q in let bad : None ≡ Some f.live.0 = sym (none j) ∙ f.live.1 in absurd cc

-- what a log of the one worker begins with is a log of the one worker
from_prefix : (net : NetTree) (a c : List ℕ) (b : ℕ) (S : State) → one_from net S b ≡ a ++ c → one_from net S (length a) ≡ a
from_prefix net [] c b S h = refl
from_prefix net (j ∷ a) c zero S h = cc
from_prefix net (j ∷ a) c (suc b) S h = go (λ U. from_prefix net a c b U) (least_live S) refl h
  where
    at : ((U : State) → one_from net U b ≡ a ++ c → one_from net U (length a) ≡ a) → (i : ℕ) → least_live S ≡ Some i →
        (o : Option State) → step net S i ≡ o → on_step i o (λ T. one_from net T b) ≡ j ∷ a ++ c →
        one_from net S (suc (length a)) ≡ j ∷ a
    at ih i l None e h = cc
    at ih i l (Some U) e h =
        let q : i ≡ j = cc in
        let g : one_from net U b ≡ a ++ c = cc in
        ap (λ o. on_least o (λ i. on_step i (step net S i) (λ T. one_from net T (length a)))) l
        ∙ ap (λ o. on_step i o (λ T. one_from net T (length a))) e
        ∙ ap (λ l. i ∷ l) (ih U g)
        ∙ ap (λ i. i ∷ a) q

    go : ((U : State) → one_from net U b ≡ a ++ c → one_from net U (length a) ≡ a) → (o : Option ℕ) → least_live S ≡ o →
        on_least o (λ i. on_step i (step net S i) (λ T. one_from net T b)) ≡ j ∷ a ++ c → one_from net S (suc (length a)) ≡ j ∷
        a
    go ih None e h = cc
    go ih (Some i) e h = at ih i e (step net S i) refl h

-- the same from the start
pub one_prefix : (net : NetTree) (b : ℕ) (a c : List ℕ) → one net b ≡ a ++ c → IsOneWorkers net a
one_prefix net b a c h = from_prefix net a c b (start (start_of net)) h
