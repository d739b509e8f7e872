-- A branch that is put into a state: what the machine's graft asks for, and what it comes to.
use Rattle.std.proofs.Common.{◌≡◌, ◌≤◌, ◌<◌, ℕ, zero, suc, ◌+◌, List, length, Option, Some, None, refl, ◌∙◌, arith}
use Rattle.std.specs.Prelude.{IsSome}
use Rattle.std.specs.Option.{option_or}
use Rattle.std.specs.FinMap.{get}
use Rattle.pcf_values.specs.Most.{most_budget}
use Rattle.token_stacks.specs.Signatures.{Boxes}
use Rattle.fork_join.specs.Entries.{Entry}
use Rattle.net_build.specs.Nets.{NetTree}
use Rattle.net_build.specs.Sound.{Sound}
use Rattle.move_rules.specs.Places.{TokenTree}
use Rattle.move_rules.specs.Table.{or_else}
use Rattle.interleave_laws.specs.Maps.{MapState, LeadsToMap}
use Rattle.interleave_laws.proofs.MapLaws as laws
use Rattle.interleave_core.specs.Grafts.{Grafts}
use Rattle.branch_laws.specs.Branches.{name, GraftOf}
use Rattle.branch_laws.specs.Laws.{NamesTell}
use Rattle.branch_laws.proofs.Mapped.{map_runs, map_apart, map_low, map_tickets}
use Rattle.branch_runs.specs.Branching.{Grown, IsBranch, Taken}

-- one or the other
same_or : {A : Type 0} (o p : Option A) → option_or o p ≡ or_else o p
same_or None p = refl
same_or (Some x) p = refl

-- what the machine grafts is the graft that the laws speak of
graft_of : NamesTell → (S B T : MapState) (i : ℕ) → i < S.next → 1 ≤ B.next → Grafts S i B T → GraftOf S i B T
graft_of tells S B T i below begun g = record {
  tokens = tells (λ j. get S.tokens j) (λ k. get B.tokens k) (λ j. get T.tokens j) i S.next below named g.stays;
  entries = λ n t. g.entries n t ∙ same_or (get B.entries (n, t)) (get S.entries (n, t));
  next = next B.next begun g.next;
  answered = g.answered;
}
  where
    named : (k : ℕ) → get T.tokens (name i S.next k) ≡ get B.tokens k
    named zero = g.first
    named (suc k) = g.others k

    next : (n : ℕ) → 1 ≤ n → suc T.next ≡ S.next + n → T.next ≡ name i S.next n
    next zero l e = absurd (omega (arith, l))
    next (suc n) l e = omega (arith, e)

module _ (net : NetTree) (sound : Sound net) (b : Grown) (branch : IsBranch net b) where
  -- no ticket of it from its next one on is live
  pub low_none : (q : ℕ) → b.after.next ≤ q → get b.after.tokens q ≡ None
  low_none q l = go (get b.after.tokens q) refl
    where
      go : (o : Option TokenTree) → get b.after.tokens q ≡ o → o ≡ None
      go None e = refl
      go (Some y) e =
          let (log, S, i, led, here) = branch.occurs in
          let below = map_low net sound log S led i b.before here b.log b.after branch.branched q y e in
          absurd (omega (arith, l, below))

  module _ (log : List ℕ) (S : MapState) (led : LeadsToMap net log S) (i : ℕ) (here : get S.tokens i ≡ Some b.before) where
    -- none of its entries is one of the state's
    pub apart_none : (n : ℕ) (t : Boxes) → IsSome (get b.after.entries (n, t)) → get S.entries (n, t) ≡ None
    apart_none n t h = go (get b.after.entries (n, t)) refl h
      where
        go : (o : Option Entry) → get b.after.entries (n, t) ≡ o → IsSome o → get S.entries (n, t) ≡ None
        go None e h = cc
        go (Some y) e h = map_apart net sound log S led i b.before here b.log b.after branch.branched n t y e

    -- and the state with it is its run
    pub taken : NamesTell → length log < most_budget → length b.log ≤ most_budget → (T : MapState) → Grafts S i b.after T →
        Taken net S i b T b.log
    taken tells few short T g =
        let below = laws.map_low net sound log S led i b.before here in
        let grafted = graft_of tells S b.after T i below branch.begun g in
        let most = laws.tickets_most net log S led in
        let own = map_tickets net b.before b.log b.after branch.branched.0 in
        record {
          own = refl;
          grafted = grafted;
          steps = map_runs net sound log S led i b.before here b.log b.after branch.branched T grafted;
          fit = λ k d p. let given = branch.given k d p in omega (arith, given, most, own, few, short);
        }
