use Rattle.std.proofs.Common.{ap, ◌∙◌, arith}
use Rattle.token_pool.specs.Turns.{own}
use Rattle.token_pool.proofs.Counting.{puts}
use Rattle.token_pool.proofs.places.Places.put.Goals as goal

pub overflow_sub-self : goal.overflow_sub-self
overflow_sub-self c =
    let own_is = c.place_of-before.ensures ∙ ap (λ l. own l c.args.worker) c.deref.ensures.value in
    let put = puts c.self.inside.list.items c.args.self.now c.args.worker c.place_of-before.result c.args.place c.self.inside.holders
    c.self.inside.aside c.self.view_is c.requires.there own_is c.self.invariant c.requires.small in
    let one = c.ones.ensures in
    let held = put.holders_in in
    omega (arith, one, held)

pub overflow_add-self : goal.overflow_add-self
overflow_add-self c =
    let own_is = c.place_of-before.ensures ∙ ap (λ l. own l c.args.worker) c.deref.ensures.value in
    let put = puts c.self.inside.list.items c.args.self.now c.args.worker c.place_of-before.result c.args.place c.self.inside.holders
    c.self.inside.aside c.self.view_is c.requires.there own_is c.self.invariant c.requires.small in
    let one = c.ones-2.ensures in
    let small = put.holders_small in
    omega (arith, one, small)

pub overflow_sub-self-2 : goal.overflow_sub-self-2
overflow_sub-self-2 c =
    let own_is = c.place_of-before.ensures ∙ ap (λ l. own l c.args.worker) c.deref.ensures.value in
    let put = puts c.self.inside.list.items c.args.self.now c.args.worker c.place_of-before.result c.args.place c.self.inside.holders
    c.self.inside.aside c.self.view_is c.requires.there own_is c.self.invariant c.requires.small in
    let part = c.allowance.ensures in
    let aside = put.aside_in in
    omega (arith, part, aside)

pub overflow_add-self-2 : goal.overflow_add-self-2
overflow_add-self-2 c =
    let own_is = c.place_of-before.ensures ∙ ap (λ l. own l c.args.worker) c.deref.ensures.value in
    let put = puts c.self.inside.list.items c.args.self.now c.args.worker c.place_of-before.result c.args.place c.self.inside.holders
    c.self.inside.aside c.self.view_is c.requires.there own_is c.self.invariant c.requires.small in
    let before = c.allowance.ensures in
    let after = c.allowance-2.ensures in
    let small = put.aside_small in
    omega (arith, before, after, small)

pub invariant_of-self : goal.invariant_of-self
invariant_of-self c =
    let own_is = c.place_of-before.ensures ∙ ap (λ l. own l c.args.worker) c.deref.ensures.value in
    let put = puts c.self.inside.list.items c.args.self.now c.args.worker c.place_of-before.result c.args.place c.self.inside.holders
    c.self.inside.aside c.self.view_is c.requires.there own_is c.self.invariant c.requires.small in
    let one = c.ones.ensures in
    let other = c.ones-2.ensures in
    let before = c.allowance.ensures in
    let after = c.allowance-2.ensures in
    let counted = put.counts.count in
    let summed = put.counts.sum in
    record {
      count = omega (arith, one, other, counted);
      sum = omega (arith, before, after, summed);
      short = put.counts.short;
    }
