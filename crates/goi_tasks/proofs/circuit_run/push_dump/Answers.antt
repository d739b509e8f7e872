use Rattle.std.proofs.Common.{ap, subst, ◌∙◌, ◌++◌, sym, suc, ℕ, map}
use Rattle.verilog_tree.specs.Views.{item_of}
use Rattle.verilog_waves.specs.Course.{IsLast}
use Rattle.verilog_waves.specs.Dump.{dump}
use Rattle.goi_tasks.proofs.circuit_run.push_dump.Goals as goal

pub returns : goal.returns
returns c =
    let items = map item_of c.args.items.now in
    let k = c.in_ok-push_waves.field-0 in
    let last = subst (λ (most : ℕ). IsLast items most k) c.into.ensures c.in_ok-push_waves.ensures.last in
    c.in_ok-push_waves.ensures.text
    ∙ ap (λ (n : ℕ). c.args.text.now.items ++ dump "goi" items (suc n))
    (sym (c.law_same_end.ensures items c.args.run.budget k c.args.told last c.requires))
