-- How moves by hand add up, and what they say of the program in the end.
use Rattle.std.proofs.Common.{◌≡◌, ℕ, ◌+◌, ◌≤◌, ◌<◌, List, [], ◌∷◌, ◌++◌, length, Option, Some, None, refl}
use Rattle.std.proofs.Common.{sym, ap, ◌∙◌, subst, arith}
use Rattle.std.proofs.lemmas.List.{length-append}
use Rattle.pcf_values.specs.declared.val.Val.{Val}
use Rattle.pcf_values.specs.Most.{most_budget}
use Rattle.pcf_values.specs.Terms.{TyTree}
use Rattle.cbn_meaning.specs.Meaning.{Means}
use Rattle.net_build.specs.Nets.{NetTree}
use Rattle.net_build.specs.Sound.{Sound}
use Rattle.interleave_laws.specs.Maps.{MapState, start_map, step_map, run_map, then_run_map, seen}
use Rattle.interleave_laws.specs.MapRuns.{IsReachedWithin}
use Rattle.interleave_laws.specs.MapLaws.{MapLed}
use Rattle.interleave_laws.specs.Progress.{IdleAnswered}
use Rattle.interleave_laws.specs.Start.{start_of}
use Rattle.interleave_laws.specs.Tickets.{NoneLive}
use Rattle.interleave_laws.proofs.MapLaws.{run_both}
use Rattle.program_runs.specs.declared.calling.Calling.TheVariants.{ByName}
use Rattle.program_runs.specs.Nets.{IsNetFor}
use Rattle.program_runs.specs.Programs.{number, IsProgram, IsGround}
use Rattle.program_runs.specs.Runs.{Tells}
use Rattle.embedding.specs.Lines.{budget}
use Rattle.embedding.specs.Hands.{IsAt, IsWalked, WalksText}

-- no move leads to the start
pub begins : (net : NetTree) (S : MapState) → S ≡ start_map (start_of net) → IsAt net S 0
begins net S e = record { log = []; led = ap Some (sym e); long = refl }

-- few moves led to the state
pub few : (net : NetTree) (S : MapState) (moves : ℕ) → moves < 10000 → IsAt net S moves → IsReachedWithin net most_budget S
few net S moves m at = (at.log, at.led, omega (arith, m, at.long))

-- one move more
pub one_more : (net : NetTree) (S T : MapState) (i moves : ℕ) → IsAt net S moves → step_map net S i ≡ Some T → IsAt net T (moves + 1)
one_more net S T i moves at s =
    let longer = length-append at.log (i ∷ []) in
    let one_step : run_map net S (i ∷ []) ≡ Some T = ap (λ o. then_run_map o (λ S. Some S)) s in
    record {
      log = at.log ++ i ∷ [];
      led = run_both net at.log (i ∷ []) (start_map (start_of net)) S T at.led one_step;
      long = omega (arith, longer, at.long);
    }

-- where nothing is live there is an answer, so that the moves are finished; and so they are where the budget is spent
pub idle : MapLed → IdleAnswered → (net : NetTree) → Sound net → (S : MapState) (moves : ℕ) → moves ≤ 10000 → IsAt net S moves →
    NoneLive S →
    IsWalked net S.answered moves
idle led law net sound S moves few at none =
    let (v, e) = law net sound at.log (seen S) (led net at.log S at.led) none in
    record { state = S; at = at; answer_is = refl; finished = (omega (arith, few, at.long), λ n. absurd (none_some v (sym e ∙ n))) }
  where
    none_some : (v : Val) → Some v ≡ None → ⊥
    none_some v e = cc

pub spent : (net : NetTree) (S : MapState) (moves : ℕ) → moves ≤ 10000 → 10000 ≤ moves → IsAt net S moves → IsWalked net S.answered moves
spent net S moves few all at =
    let e : moves ≡ 10000 = omega (arith, few, all) in
    record { state = S; at = at; answer_is = refl; finished = (omega (arith, e, at.long), λ n. omega (arith, e, at.long)) }

-- what is told of a state is told of the answer and the number that were taken from it
pub taken : (net : NetTree) (S : MapState) (moves : ℕ) (answer : Option Val) (n : ℕ) → answer ≡ S.answered → n ≡ moves →
    IsWalked net S.answered moves →
    IsWalked net answer n
taken net S moves answer n e f w =
    subst (λ (a : Option Val). IsWalked net a n) (sym e) (subst (λ (m : ℕ). IsWalked net S.answered m) (sym f) w)

-- what they say of the text's program
pub walks_text : (bytes : List ℕ) (net : NetTree) → IsNetFor ByName bytes net → (answer : Option Val) (moves : ℕ) →
    IsWalked net answer moves → WalksText bytes answer moves
walks_text bytes net is answer moves w =
    let t = is.term in
    let ground : IsGround bytes t = (is.tree, subst (λ (A : TyTree). IsProgram number bytes is.tree t A) is.is.will_do is.is) in
    let told = is.so.tells w.at.log w.state w.at.led budget w.finished in
    let of_answer = subst (λ (a : Option Val). Tells (Means t) net budget a (length w.at.log)) (sym w.answer_is) told in
    let of_moves = subst (λ (n : ℕ). Tells (Means t) net budget answer n) w.at.long of_answer in
    (t, ground, subst (λ (n : NetTree). Tells (Means t) n budget answer moves) is.so.net_is of_moves)
