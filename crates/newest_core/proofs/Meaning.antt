-- What is answered is the program's meaning, since every order of moves has the net's value and length.
use Rattle.std.proofs.Common.{◌≡◌, ℕ, [], Option, length, sym, subst}
use Rattle.pcf_values.specs.declared.val.Val.{Val}
use Rattle.pcf_values.specs.Terms.{TermTree, nat}
use Rattle.pcf_values.specs.Typing.{HasType}
use Rattle.net_build.specs.NetOf.{net_of}
use Rattle.net_build.specs.Sound.{Sound}
use Rattle.adequacy_laws.specs.Questions.{Length}
use Rattle.adequacy_laws.specs.FinishedLaws.{TellsMeaning}
use Rattle.adequacy_laws.proofs.Finishing.{finished_means}
use Rattle.adequacy_laws.proofs.Agreeing.{built_runs}
use Rattle.newest_core.specs.Processor.{ticks, reset, newest}
use Rattle.newest_core.specs.ProcessorLaws.{Follows}
use Rattle.newest_core.specs.Meaning.{Tells}
use Rattle.newest_core.proofs.Processor.{follows}

-- what is told of the schedule is told of a result and a count that are its own
told : (m : TermTree) (k : ℕ) (a : Option Val) (n : ℕ) → TellsMeaning m (newest (net_of m) k) a k → n ≡ length (newest (net_of m) k) →
    Tells m k a n
told m k a n t e = record {
  answers = t.answers;
  as_long = λ v q. subst (Length (net_of m) v) (sym e) (t.as_long v q).0;
  waits = t.unanswered;
}

module _ (m : TermTree) (typed : HasType [] m nat) (sound : Sound (net_of m)) where
  -- the processor tells it
  pub newest_means : (k : ℕ) → Tells m k (ticks (net_of m) k (reset (net_of m))).result (ticks (net_of m) k (reset (net_of m))).moves
  newest_means k =
      let f : Follows (net_of m) k = follows (net_of m) (built_runs m typed sound) k in
      told m k (ticks (net_of m) k (reset (net_of m))).result (ticks (net_of m) k (reset (net_of m))).moves
      (subst (λ a. TellsMeaning m (newest (net_of m) k) a k) f.shows.answered
      (finished_means m typed sound (newest (net_of m) k) f.state f.leads k f.finished)) f.moves
