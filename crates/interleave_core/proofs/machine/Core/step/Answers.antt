use Rattle.std.proofs.Common.{sym, subst}
use Rattle.std.specs.Option.{IsSome}
use Rattle.std.specs.FinMap.{get}
use Rattle.pcf_values.specs.Most.{most_budget}
use Rattle.interleave_laws.specs.Maps.{MapState}
use Rattle.interleave_laws.specs.MapRuns.{IsReachedWithin}
use Rattle.interleave_core.specs.Parts.{state_of}
use Rattle.interleave_laws.proofs.Going.{able, fresh, room}
use Rattle.interleave_laws.proofs.Few.{kept_few}
use Rattle.interleave_core.proofs.machine.Core.step.Goals as goal

pub step_in-requires-clause-able : goal.step_in-requires-clause-able
step_in-requires-clause-able c =
    let reached = subst (IsReachedWithin c.args.net.now most_budget) (sym c.self.view_is) c.requires.reached in
    let live = subst (λ (S : MapState). IsSome (get S.tokens c.args.ticket)) (sym c.self.view_is) c.requires.live in
    able c.args.net.now c.requires.runs (state_of c.self.inside.parts) reached c.args.ticket live

pub step_in-requires-clause-fresh : goal.step_in-requires-clause-fresh
step_in-requires-clause-fresh c =
    let reached = subst (IsReachedWithin c.args.net.now most_budget) (sym c.self.view_is) c.requires.reached in
    fresh c.args.net.now c.requires.runs (state_of c.self.inside.parts) reached

pub step_in-requires-clause-room : goal.step_in-requires-clause-room
step_in-requires-clause-room c =
    let reached = subst (IsReachedWithin c.args.net.now most_budget) (sym c.self.view_is) c.requires.reached in
    room c.args.net.now c.requires.runs (state_of c.self.inside.parts) reached

pub invariant_of-self : goal.invariant_of-self
invariant_of-self c =
    kept_few c.args.net.now (state_of c.self.inside.parts) (state_of c.step_in.new.parts) c.args.ticket c.step_in.result c.self.invariant
    c.step_in.ensures.steps c.step_in.ensures.stays
