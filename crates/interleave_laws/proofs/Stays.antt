-- The least live ticket stays the least as long as it lives, so that the one worker may walk it on.
use Rattle.std.proofs.Common.{◌≡◌, ℕ, suc, cond, List, [], ◌∷◌, ◌++◌, length, append_assoc, Some, refl, sym, ap}
use Rattle.std.proofs.Common.{◌∙◌, subst, arith}
use Rattle.std.proofs.lemmas.Bool.{eq-eqb}
use Rattle.std.proofs.lemmas.List.{append-nil, length-append}
use Rattle.std.specs.Prelude.{map}
use Rattle.net_build.specs.Nets.{NetTree}
use Rattle.move_rules.specs.Places.{TokenTree}
use Rattle.move_rules.specs.Walks.{Walks}
use Rattle.interleave_laws.specs.Start.{start_of}
use Rattle.interleave_laws.specs.States.{State, set_token, start, step, step_on, act}
use Rattle.interleave_laws.specs.Runs.{Runs, LeadsTo}
use Rattle.interleave_laws.specs.OneWorker.{one}
use Rattle.interleave_laws.specs.OneWorkerLaws.{IsOneWorkers, Least}
use Rattle.interleave_laws.proofs.Running.{low, run_append}
use Rattle.interleave_laws.proofs.Others.{step_leaves}
use Rattle.interleave_laws.proofs.OneWorker.{one_next}

module _ (net : NetTree) (runs : Runs net) where
  -- a step of the least live ticket leaves it the least
  pub least_stays : (log : List ℕ) (S : State) → LeadsTo net log S → (T : State) (i : ℕ) (y : TokenTree) → Least S i →
      step net S i ≡ Some T → T.tokens i ≡ Some y → Least T i
  least_stays log S h T i y l e live =
      let below = low net runs.sound log S h i l.live.0 l.live.1 in
      record {
        live = (y, live);
        below = λ j b. step_leaves net (S.tokens i) S T i e j (λ q. omega arith) (λ q. omega arith) ∙ l.below j b;
      }

  -- a walk of it is the one worker's
  pub one_walks : (log : List ℕ) (S : State) → LeadsTo net log S → (trail : List ℕ) (i : ℕ) (x y : TokenTree) →
      IsOneWorkers net log → Least S i → S.tokens i ≡ Some x → Walks net x trail y → IsOneWorkers net (log ++ map (λ n. i) trail)
  one_walks log S h [] i x y its l e w = subst (IsOneWorkers net) (sym (append-nil log)) its
  one_walks log S h (n ∷ trail) i x y its l e (z, m, w) =
      let T : State = record S { tokens = set_token S.tokens i (Some z) } in
      let s : step net S i ≡ Some T = ap (λ o. step_on net o S i) e ∙ ap (λ m. act m S i) m in
      let here : T.tokens i ≡ Some z = ap (λ b. cond b (Some z) (S.tokens i)) (eq-eqb i i refl) in
      let longer : length (log ++ i ∷ []) ≡ suc (length log) = let k = length-append log (i ∷ []) in omega (arith, k) in
      let next : IsOneWorkers net (log ++ i ∷ []) = ap (one net) longer ∙ one_next net runs log S h i its l in
      subst (IsOneWorkers net) (append_assoc log (i ∷ []) (map (λ n. i) trail))
      (one_walks (log ++ i ∷ []) T (run_append net log (start (start_of net)) S T i h s) trail i z y next
      (least_stays log S h T i z l s here) here w)
