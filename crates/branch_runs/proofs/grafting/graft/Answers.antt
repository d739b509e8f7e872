use Rattle.std.proofs.Common.{◌≡◌, ◌≤◌, ℕ, Some, None, sym, ap, ◌∙◌, subst}
use Rattle.std.specs.Prelude.{IsSome}
use Rattle.std.specs.FinMap.{get}
use Rattle.token_stacks.specs.Signatures.{Boxes}
use Rattle.interleave_laws.specs.Maps.{MapState}
use Rattle.interleave_core.specs.Grafts.{Grafts}
use Rattle.branch_runs.specs.Branching.{Taken}
use Rattle.branch_runs.proofs.Placed.{low_none, apart_none, taken}
use Rattle.branch_runs.proofs.grafting.graft.Goals as goal

pub graft-requires-clause-branch_low : goal.graft-requires-clause-branch_low
graft-requires-clause-branch_low g c =
    subst (λ (B : MapState). (q : ℕ) → B.next ≤ q → get B.tokens q ≡ None) (sym c.into_parts-log.ensures.after)
    (low_none g.N.OnNet.net c.requires.runs.sound c.args.branch c.into_parts-log.ensures.branch)

pub graft-requires-clause-apart : goal.graft-requires-clause-apart
graft-requires-clause-apart g c =
    let (log, led, few) = c.requires.reached in
    let here = c.has.ensures.0 c.if-not-has.false ∙ ap Some c.before-2.ensures.before in
    subst (λ (B : MapState). (n : ℕ) (t : Boxes) → IsSome (get B.entries (n, t)) → get c.args.core.now.entries (n, t) ≡ None)
    (sym c.into_parts-log.ensures.after)
    (apart_none g.N.OnNet.net c.requires.runs.sound c.args.branch c.into_parts-log.ensures.branch log c.args.core.now led c.args.ticket
    here)

pub returns-clause-taken : goal.returns-clause-taken
returns-clause-taken g c =
    let (log, led, few) = c.requires.reached in
    let here = c.has.ensures.0 c.if-not-has.false ∙ ap Some c.before-2.ensures.before in
    let grafted = subst (λ B. Grafts c.args.core.now c.args.ticket B c.graft.new.self) c.into_parts-log.ensures.after
    c.in_ok-graft.ensures.ok in (
      here,
      subst (Taken g.N.OnNet.net c.args.core.now c.args.ticket c.args.branch c.graft.new.self) (sym c.into_parts-log.ensures.log)
          (taken g.N.OnNet.net c.requires.runs.sound c.args.branch c.into_parts-log.ensures.branch log c.args.core.now led c.args.ticket
          here
          c.law_branch_maps.ensures.names few c.requires.few c.graft.new.self grafted),
    )
