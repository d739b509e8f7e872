use Rattle.std.proofs.Common.{IfOk, subst, sym, ap, arith}
use Rattle.pcf_values.specs.Views.{term_of}
use Rattle.net_marks.specs.Reads.{Gives}
use Rattle.net_marks.specs.Walks.{left, rest_of}
use Rattle.net_terms.proofs.Beginning.{begins}
use Rattle.net_terms.proofs.rebuild.+read.Goals as goal

pub read-returns-in-Some-clause-term : goal.read-returns-in-Some-clause-term
read-returns-in-Some-clause-term t c =
    let net = c.args.net.now in
    let w = c.args.walk.now in
    let first = c.pass-inner.new.walk in
    let second = c.next.new.walk in
    let new = c.begin.new.walk in
    subst (λ r. IfOk c.begin.result (λ o. Gives term_of o r (left net new) new.marks.items))
    (sym (begins net.wires c.args.height c.args.binders c.args.around c.args.place c.args.want (left net w) w.marks.items
    (rest_of net first c.pass-inner.result.0 c.pass-inner.result.1) c.in-Some.node (left net second) second.marks.items
    (omega (arith, c.if-height-eq0.false)) c.pass-inner.ensures.passed c.in-Some.ensures.node (ap (λ m. m.items) c.next.ensures.marks)))
    c.begin.ensures.term
