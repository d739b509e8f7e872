use Rattle.std.proofs.Common.{ap, subst, ◌∙◌, sym, ℕ, List, map}
use Rattle.verilog_tree.specs.Views.{item_of}
use Rattle.circuit_runs.specs.Running.{ComesOf}
use Rattle.goi_tasks.specs.Circuits.{IsTold}
use Rattle.goi_tasks.specs.Outputs.{Output}
use Rattle.goi_tasks.specs.Replaying.{replay_status}
use Rattle.goi_tasks.proofs.circuit_run.report_net_run.Goals as goal

pub told_text-requires : goal.told_text-requires
told_text-requires c =
    subst (λ (most : ℕ). ComesOf (map item_of c.in_ok-items.items.now) most c.in_ok-told.told) c.into.ensures c.in_ok-told.ensures

pub returns : goal.returns
returns c =
    let run = c.args.run in
    let told = c.in_ok-told.told in
    let items = map item_of c.in_ok-items.items.now in
    record {
      items = items;
      circuit = c.in_ok-items.ensures;
      outcome = told;
      comes = subst (λ (most : ℕ). ComesOf items most told) c.into.ensures c.in_ok-told.ensures;
      ends = ap (λ (x : Output). x.status) c.plain.ensures ∙ c.status_of.ensures ∙ ap replay_status c.answer_of.ensures;
      told =
          subst (λ (text : List ℕ). IsTold run.waves items run.budget told text) (sym (ap (λ (x : Output). x.report) c.plain.ensures))
          c.in_ok-text.ensures;
      no_notes = ap (λ (x : Output). x.notes) c.plain.ensures;
    }
