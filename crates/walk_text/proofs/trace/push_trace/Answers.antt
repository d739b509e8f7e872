use Rattle.std.proofs.Common.{◌≡◌, ◌∙◌, ◌-◌, ap, length, min, sym, subst}
use Rattle.schedule_log.specs.KeptRuns.{spread}
use Rattle.walk_text.specs.Whole.{LeadsSomewhere}
use Rattle.token_stacks.proofs.Said.{ok_map, from_if}
use Rattle.walk_text.proofs.Windowing.{traced}
use Rattle.walk_text.proofs.trace.push_trace.Goals as goal

pub run_to-requires-clause-leads : goal.run_to-requires-clause-leads
run_to-requires-clause-leads c = subst (LeadsSomewhere c.args.net.now) (sym c.runs-runs.ensures.value) c.requires.leads

pub push_window-requires-clause-leads : goal.push_window-requires-clause-leads
push_window-requires-clause-leads c = subst (LeadsSomewhere c.args.net.now) (sym c.runs-runs.ensures.value) c.requires.leads

pub returns : goal.returns
returns c =
    let es = spread c.runs-runs.result.now in
    let same = c.runs-runs.ensures.value in
    let long : c.len-len.result ≡ length es = c.len-len.ensures ∙ ap length (sym same) in
    ok_map c.extend_from_slice-2.result
    (traced c.args.net.now c.args.log.now.entries es c.args.from c.args.most _ _ c.run_to.new.core _ _ _ _ same
    (c.least-begin.ensures ∙ ap (min c.args.from) long)
    (c.least.ensures ∙ ap (λ n. min c.args.most (n - c.least-begin.result)) long) c.in_ok-at.ensures.led
    c.in_ok-extend_from_slice.ensures.items c.in_ok-push_window.ensures)
    (from_if c.extend_from_slice-2.result c.extend_from_slice-2.new.self.items _ _ c.extend_from_slice-2.ensures.items)
