-- What every log on a sound net has of the net's length, and that the nets of programs run.
use Rattle.std.proofs.Common.{◌≡◌, ℕ, ◌≤◌, List, [], length, Option, Some, None, refl, arith}
use Rattle.pcf_values.specs.declared.val.Val.{Val}
use Rattle.pcf_values.specs.Terms.{TermTree, nat}
use Rattle.pcf_values.specs.Typing.{HasType}
use Rattle.net_build.specs.Nets.{NetTree}
use Rattle.net_build.specs.NetOf.{net_of}
use Rattle.net_build.specs.Sound.{Sound}
use Rattle.interleave_laws.specs.States.{State}
use Rattle.interleave_laws.specs.Runs.{Runs, LeadsTo}
use Rattle.interleave_laws.specs.Maps.{MapState, LeadsToMap, seen}
use Rattle.interleave_laws.proofs.Running.{starts_of}
use Rattle.interleave_laws.proofs.MapLaws.{seen_leads}
use Rattle.adequacy_laws.specs.Questions.{Length}
use Rattle.adequacy_laws.specs.Lengths.{AgreesWithLength}
use Rattle.adequacy_laws.proofs.Adequacy.{never_stuck}
use Rattle.adequacy_laws.proofs.Lengths.{free_runs, answers_length, length_answers}

-- every net of a program runs
pub built_runs : (m : TermTree) → HasType [] m nat → Sound (net_of m) → Runs (net_of m)
built_runs m h s = free_runs (net_of m) s (starts_of (net_of m) s) (never_stuck m h s)

module _ (net : NetTree) (sound : Sound net) (log : List ℕ) (S : State) (h : LeadsTo net log S) where
  -- a log that answers is as long as the net
  as_long : (v : Val) → S.answered ≡ Some v → Length net v (length log)
  as_long v e = let (n, (d, g), z) = answers_length net sound (starts_of net sound) log S h v e in (d, n, g, z)

  -- a log as long as the net answers the net's value
  at_length : (v : Val) → Length net v (length log) → S.answered ≡ Some v
  at_length v (d, m, g, z) = (length_answers net sound (starts_of net sound) log S h v m (d, g)).1 z

  -- no log is longer than the net
  no_longer : (v : Val) (n : ℕ) → Length net v n → length log ≤ n
  no_longer v n (d, m, g, z) =
      let r = (length_answers net sound (starts_of net sound) log S h v m (d, g)).0 in
      omega arith

  -- where the net has no length, no log answers
  no_answer : ((v : Val) (n : ℕ) → Length net v n → ⊥) → S.answered ≡ None
  no_answer none = go S.answered refl
    where
      go : (o : Option Val) → S.answered ≡ o → S.answered ≡ None
      go None e = e
      go (Some v) e = absurd (none v (length log) (as_long v e))

  -- all of that is what agreeing is
  pub agrees : AgreesWithLength net log S.answered
  agrees = record {
    answers = λ v. (as_long v, at_length v);
    no_longer = no_longer;
    unanswered = no_answer;
  }

-- a state of finite maps agrees as what it answers
pub map_agrees : (net : NetTree) → Sound net → (log : List ℕ) (S : MapState) → LeadsToMap net log S →
    AgreesWithLength net log S.answered
map_agrees net sound log S h = agrees net sound log (seen S) (seen_leads net log S h)
