-- A finished run tells whether the net's length is within the budget, and on a program's net what the program means.
use Rattle.std.proofs.Common.{IfSome, IfNone, ◌≡◌, ◌↔◌, ℕ, suc, ◌≤◌, List, [], length, Option, Some, None}
use Rattle.std.proofs.Common.{refl, sym, ap, ◌∙◌, subst, ⊎_elim, arith}
use Rattle.std.proofs.lemmas.Bool.{cases_lt}
use Rattle.pcf_values.specs.declared.val.Val.{Val}
use Rattle.pcf_values.specs.Terms.{TermTree, nat}
use Rattle.pcf_values.specs.Typing.{HasType}
use Rattle.cbn_meaning.specs.Meaning.{Means}
use Rattle.net_build.specs.Nets.{NetTree}
use Rattle.net_build.specs.NetOf.{net_of}
use Rattle.net_build.specs.Sound.{Sound}
use Rattle.interleave_laws.specs.States.{State}
use Rattle.interleave_laws.specs.Runs.{LeadsTo}
use Rattle.interleave_laws.specs.Finished.{Finished}
use Rattle.interleave_laws.specs.OneWorker.{one}
use Rattle.interleave_laws.specs.Maps.{MapState, LeadsToMap, seen}
use Rattle.interleave_laws.proofs.OneWorker.{one_finished}
use Rattle.interleave_laws.proofs.MapLaws.{seen_leads}
use Rattle.adequacy_laws.specs.Questions.{in_turn, Length}
use Rattle.adequacy_laws.specs.Lengths.{AgreesWithLength}
use Rattle.adequacy_laws.specs.Finished.{Within, Beyond}
use Rattle.adequacy_laws.specs.FinishedLaws.{TellsLength, TellsMeaning}
use Rattle.adequacy_laws.proofs.Adequacy.{asks_means, means_asks}
use Rattle.adequacy_laws.proofs.Counting.{one_count}
use Rattle.adequacy_laws.proofs.Agreeing.{agrees, map_agrees, built_runs}

-- what agrees with the length and is finished tells it; of the net and the order of moves nothing else is used
module _ (net : NetTree) (log : List ℕ) (answered : Option Val) (budget : ℕ)
    (a : AgreesWithLength net log answered) (f : Finished answered log budget) where
  -- an answer is the net's value, within the budget
  answer_within : (v : Val) → answered ≡ Some v → Within net budget v
  answer_within v e = (length log, (a.answers v).0 e, f.0)

  -- a log without an answer is shorter than the net and as long as the budget
  silent_beyond : answered ≡ None → Beyond net budget
  silent_beyond e v n l = ⊎_elim (λ y. y) (λ s. absurd (cc_none (full s))) (cases_lt budget n)
    where
      -- were the net no longer than the budget, the log would be as long as the net
      full : n ≤ budget → answered ≡ Some v
      full s =
          let most = a.no_longer v n l in
          let all = f.1 e in
          let same : n ≡ length log = omega arith in
          (a.answers v).1 (rw (sym same) l)

      cc_none : answered ≡ Some v → ⊥
      cc_none g = let bad : None ≡ Some v = sym e ∙ g in cc

  -- a value within the budget is answered
  within_answer : (v : Val) → Within net budget v → answered ≡ Some v
  within_answer v (n, l, b) = go answered refl
    where
      go : (o : Option Val) → answered ≡ o → answered ≡ Some v
      go (Some w) e = e ∙ ap Some (one_count in_turn net w v (length log) n ((a.answers w).0 e) l).0
      go None e = let s = silent_beyond e v n l in absurd (omega arith)

  -- a length beyond the budget leaves no answer
  beyond_silent : Beyond net budget → answered ≡ None
  beyond_silent b = go answered refl
    where
      go : (o : Option Val) → answered ≡ o → answered ≡ None
      go None e = e
      go (Some v) e = let s = b v (length log) ((a.answers v).0 e) in let m = f.0 in absurd (omega arith)

  -- all of that is what telling is
  pub tells : TellsLength net log answered budget
  tells = record {
    answers = λ v. (answer_within v, within_answer v);
    as_long = λ v e. ((a.answers v).0 e, f.0);
    unanswered = (silent_beyond, beyond_silent);
    spent = f.1;
  }

-- every finished run of a sound net tells its length
pub finished_tells : (net : NetTree) → Sound net → (log : List ℕ) (S : State) → LeadsTo net log S → (budget : ℕ) →
    Finished S.answered log budget → TellsLength net log S.answered budget
finished_tells net sound log S h budget f = tells net log S.answered budget (agrees net sound log S h) f

-- the same where states are finite maps
pub map_finished_tells : (net : NetTree) → Sound net → (log : List ℕ) (S : MapState) → LeadsToMap net log S → (budget : ℕ) →
    Finished S.answered log budget → TellsLength net log S.answered budget
map_finished_tells net sound log S h budget f = tells net log S.answered budget (map_agrees net sound log S h) f

-- an answer that tells the program's meaning is meant, and has the net's length
pub told_value : (m : TermTree) (log : List ℕ) (o : Option Val) (budget : ℕ) → TellsMeaning m log o budget →
    IfSome o (λ v. Means m v × Length (net_of m) v (length log) × (length log ≤ budget))
told_value m log None budget t = tt
told_value m log (Some v) budget t =
    let (e, _) = (t.answers v).0 refl in
    let (l, b) = t.as_long v refl in
    (e, l, b)

-- and no answer says that the length is absent or above the budget
pub told_none : (m : TermTree) (log : List ℕ) (o : Option Val) (budget : ℕ) → TellsMeaning m log o budget →
    IfNone o (Beyond (net_of m) budget × (length log ≡ budget))
told_none m log None budget t = (t.unanswered.0 refl, t.spent refl)
told_none m log (Some v) budget t = tt

module _ (m : TermTree) (typed : HasType [] m nat) (sound : Sound (net_of m)) where
  -- the value of a program's net is meant
  length_means : (v : Val) (n : ℕ) → Length (net_of m) v n → Means m v
  length_means v n (k, i, a, _) = asks_means m typed sound v (k, i, a)

  -- and a program that means a value has a length
  means_has_length : (v : Val) → Means m v → (n : ℕ) × Length (net_of m) v n
  means_has_length v e = let (k, i, a) = means_asks m typed sound v e in (suc i, (k, i, a, refl))

  -- so a program means a value exactly where its net has it
  pub means_length : (v : Val) → Means m v ↔ ((n : ℕ) × Length (net_of m) v n)
  means_length v = (means_has_length v, λ (n, l). length_means v n l)

  -- what tells a program's length tells its meaning
  tells_means : (log : List ℕ) (answered : Option Val) (budget : ℕ) → TellsLength (net_of m) log answered budget →
      TellsMeaning m log answered budget
  tells_means log answered budget t = record {
    answers = λ v. ((λ e. let w = (t.answers v).0 e in (length_means v w.0 w.1, w)), λ (_, w). (t.answers v).1 w);
    as_long = t.as_long;
    unanswered = t.unanswered;
    spent = t.spent;
  }

  -- every finished run of a program's net tells its meaning
  pub finished_means : (log : List ℕ) (S : State) → LeadsTo (net_of m) log S → (budget : ℕ) → Finished S.answered log budget →
      TellsMeaning m log S.answered budget
  finished_means log S h budget f =
      tells_means log S.answered budget (finished_tells (net_of m) sound log S h budget f)

  -- the same where states are finite maps
  pub map_finished_means : (log : List ℕ) (S : MapState) → LeadsToMap (net_of m) log S → (budget : ℕ) →
      Finished S.answered log budget →
      TellsMeaning m log S.answered budget
  map_finished_means log S h budget f =
      tells_means log S.answered budget (map_finished_tells (net_of m) sound log S h budget f)

  -- the run of one worker is finished
  pub one_means : (log : List ℕ) (S : MapState) → LeadsToMap (net_of m) log S → (budget : ℕ) → log ≡ one (net_of m) budget →
      TellsMeaning m log S.answered budget
  one_means log S h budget e =
      let leads = subst (λ l. LeadsTo (net_of m) l (seen S)) e (seen_leads (net_of m) log S h) in
      let done = one_finished (net_of m) (built_runs m typed sound) budget (seen S) leads in
      map_finished_means log S h budget (subst (λ l. Finished S.answered l budget) (sym e) done)

  -- a budget of a program's length brings its value
  pub enough_budget : (v : Val) → Means m v → (n : ℕ) × Length (net_of m) v n × (
      (log : List ℕ) (S : MapState) → LeadsToMap (net_of m) log S → (budget : ℕ) → Finished S.answered log budget →
      n ≤ budget →
      S.answered ≡ Some v)
  enough_budget v e =
      let (n, l) = means_has_length v e in
      (n, l, λ log S h budget f b. ((map_finished_means log S h budget f).answers v).1 (e, (n, l, b)))
