-- What a call comes to: the net with the numbers in their places is that of the application, and is ready for the next call.
use Rattle.std.proofs.Common.{◌≡◌, ◌<◌, ◌^◌, ◌+◌, ◌*◌, ℕ, List, [], length, Option, sym, ap, ◌∙◌, subst}
use Rattle.pcf_values.specs.declared.val.Val.{Val}
use Rattle.pcf_values.specs.Terms.{TyTree, TermTree, nat}
use Rattle.pcf_values.specs.Typing.{HasType}
use Rattle.cbn_meaning.specs.Meaning.{Means}
use Rattle.net_build.specs.Nets.{NetTree}
use Rattle.net_build.specs.NetOf.{net_of}
use Rattle.open_net_laws.specs.Applied.{applied, numeric}
use Rattle.open_net_laws.specs.Arguments.{AreNumbers, closed_part}
use Rattle.open_net_laws.specs.Numbers.{with_numbers, places_from, places}
use Rattle.open_net_laws.specs.Laws.{OtherNumbers, AppliedHas}
use Rattle.schedule_log.specs.declared.entry.Entry.{Entry}
use Rattle.net_runs.specs.IsRun.{IsRun, IsFirstWorkers}
use Rattle.program_runs.specs.Laws.{RunsTell}
use Rattle.program_runs.specs.Runs.{IsProgramRun}
use Rattle.function_runs.specs.Ready.{IsReady}

-- the node of the first of its numbers, by what is seen of the function
pub first_is : (p : TermTree × TyTree) (net : NetTree) (first n : ℕ) (f : TermTree × ℕ) → IsReady p net first n → (p.0, n) ≡ f →
    first ≡ length (closed_part f.0).nodes
first_is p net first n f h e = h.first_is ∙ ap (λ (x : TermTree × ℕ). length (closed_part x.0).nodes) e

-- all of them are nodes that have a number of 32 bits
pub few_nodes : (p : TermTree × TyTree) (net : NetTree) (first n : ℕ) (f : TermTree × ℕ) → IsReady p net first n → (p.0, n) ≡ f →
    first + 3 * f.1 < 2 ^ 32
few_nodes p net first n f h e = subst (λ (x : TermTree × ℕ). first + 3 * x.1 < 2 ^ 32) e h.few

-- how many numbers there are is how many it takes
pub as_many : (m : TermTree) (n k : ℕ) (f : TermTree × ℕ) → (m, n) ≡ f → k ≡ f.1 → k ≡ n
as_many m n k f e h = h ∙ sym (ap (λ (x : TermTree × ℕ). x.1) e)

module _ (p : TermTree × TyTree) (net : NetTree) (first n : ℕ) (h : IsReady p net first n) (vs : List ℕ) (many : length vs ≡ n) where
  -- the net with these numbers
  pub same_net : OtherNumbers → with_numbers net (places_from first (length vs)) vs ≡ net_of (applied p.0 vs)
  same_net law =
      ap (λ k. with_numbers net (places_from k (length vs)) vs) h.first_is ∙
      ap (λ n. with_numbers n (places p.0 (length vs)) vs) h.net_is ∙ sym (law p.0 h.at vs (h.many ∙ sym many))

  pub is_number : AppliedHas → AreNumbers vs → HasType [] (applied p.0 vs) nat
  is_number law b = law p.0 vs (subst (λ A. HasType [] p.0 A) (h.takes ∙ ap numeric (sym many)) h.typed) b

  -- a run of it is a run of the application
  pub tells : RunsTell → OtherNumbers → AppliedHas → AreNumbers vs → (net' : NetTree) →
      net' ≡ with_numbers net (places_from first (length vs)) vs → (f : TermTree × ℕ) → (p.0, n) ≡ f →
      (workers budget : ℕ) (answer : Option Val) (log : List Entry) → IsRun net' workers budget answer log →
      (workers ≡ 1 → IsFirstWorkers net' budget log) →
      IsProgramRun (Means (applied f.0 vs)) (net_of (applied f.0 vs)) workers budget answer log
  tells law numbers has b net' e f seen workers budget answer log run alone =
      let same : net' ≡ net_of (applied p.0 vs) = e ∙ same_net numbers in
      subst (λ (x : TermTree × ℕ). IsProgramRun (Means (applied x.0 vs)) (net_of (applied x.0 vs)) workers budget answer log) seen
      (law (applied p.0 vs) (is_number has b) workers budget answer log
      (subst (λ (x : NetTree). IsRun x workers budget answer log) same run)
      (λ w. subst (λ (x : NetTree). IsFirstWorkers x budget log) same (alone w)))

  pub ready_again : (net' : NetTree) → net' ≡ net_of (applied p.0 vs) → IsReady p net' first n
  ready_again net' e =
      record { typed = h.typed; takes = h.takes; at = vs; many = many; net_is = e; first_is = h.first_is; few = h.few }
