use Rattle.std.proofs.Common.{◌+◌, ◌-◌, sym, ap, ◌∙◌, arith}
use Rattle.std.specs.Option.{option_map}
use Rattle.net_text.proofs.LinesFit.{number_lacks, number_read, number_wide}
use Rattle.net_text.proofs.node_line.numbers_in.Goals as goal

pub returns-in_default : goal.returns-in_default
returns-in_default c =
    number_lacks (c.args.count - c.loop-i._i) (c.args.count - (c.loop-i._i + 1)) c.loop-i.numbers.items c.loop-i.rest.now _
    (omega (arith, c.loop-i-test.true))
    (ap (option_map (λ s. s.now)) (sym c.in_default.is) ∙ c.behind.ensures) c.loop-i.invariant

pub returns-in_default-n : goal.returns-in_default-n
returns-in_default-n c =
    number_wide (c.args.count - c.loop-i._i) (c.args.count - (c.loop-i._i + 1)) c.loop-i.numbers.items c.loop-i.rest.now c.in-Some.more.now
    _ (omega (arith, c.loop-i-test.true))
    (ap (option_map (λ s. s.now)) (sym c.in-Some.is) ∙ c.behind.ensures) (sym c.in_default-n.is ∙ c.number-n.ensures.value)
    c.loop-i.invariant

pub loop-i-preserved : goal.loop-i-preserved
loop-i-preserved c =
    number_read (c.args.count - c.loop-i._i) (c.args.count - (c.loop-i._i + 1)) c.in-Some-n.n c.loop-i.numbers.items c.push.new.self.items
    c.loop-i.rest.now c.in-Some.more.now c.number-n.result.1.now _ (omega (arith, c.loop-i-test.true))
    (ap (option_map (λ s. s.now)) (sym c.in-Some.is) ∙ c.behind.ensures) (sym c.in-Some-n.is ∙ c.number-n.ensures.value)
    c.number-n.ensures.rest c.in_ok-push.ensures.items c.loop-i.invariant
