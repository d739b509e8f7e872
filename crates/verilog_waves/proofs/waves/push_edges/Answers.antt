use Rattle.std.proofs.Common.{◌≡◌, ◌∙◌, ◌++◌, true, map, ap, sym, arith, add-one}
use Rattle.verilog_tree.specs.Views.{item_of}
use Rattle.verilog_waves.specs.Course.{before}
use Rattle.verilog_waves.specs.Dump.{edges_text}
use Rattle.verilog_waves.specs.Views.{shown_of}
use Rattle.verilog_waves.proofs.Going.{goes_more, text_more}
use Rattle.verilog_waves.proofs.waves.push_edges.Goals as goal

pub loop-k-preserved : goal.loop-k-preserved
loop-k-preserved c =
    let is = map item_of c.args.items.now in
    let vs = map shown_of c.args.names.now in
    let t = c.args.text.now.items in
    let k = c.loop-k.k in
    let on : c.in_ok-on.on ≡ true = c.if-not-on.false in (
      c.in_ok-on.ensures.state ∙ ap (before is) (sym (add-one k)),
      goes_more is k c.in_ok-on.on c.in_ok-on.ensures.goes on c.loop-k.invariant.1,
      text_more vs is k t c.loop-k.text.items c.push_step.new.text.items c.loop-k.invariant.2 c.in_ok-on.ensures.text
          ∙ ap (λ n. t ++ edges_text vs is n) (sym (add-one k)),
    )

pub returns-clause-text : goal.returns-clause-text
returns-clause-text c =
    let is = map item_of c.args.items.now in
    let vs = map shown_of c.args.names.now in
    let t = c.args.text.now.items in
    let q : c.loop-k.k ≡ c.args.cycles = omega arith in
    text_more vs is c.args.cycles t c.loop-k.text.items c.push_step-2.new.text.items
    (c.loop-k.invariant.2 ∙ ap (λ n. t ++ edges_text vs is n) q) c.in_ok-push_step.ensures.text
