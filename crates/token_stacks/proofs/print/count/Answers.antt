use Rattle.std.proofs.Common.{arith}
use Rattle.token_stacks.proofs.Stacking.{topped, no_symbols, some_words_left, no_words_left, counted, all_counted}
use Rattle.token_stacks.proofs.print.count.Goals as goal

pub top-requires : goal.top-requires
top-requires c =
    let k = c.loop-rest.invariant.rest c.requires.0 c.requires.1 in
    let t = topped c.args.form c.loop-rest.rest.now k.0 k.1 (some_words_left _ c.loop-rest-test.ensures) in
    (t.top, t.rest, t.is)

pub loop-rest-smaller : goal.loop-rest-smaller
loop-rest-smaller c =
    let k = c.loop-rest.invariant.rest c.requires.0 c.requires.1 in
    let t = topped c.args.form c.loop-rest.rest.now k.0 k.1 (some_words_left _ c.loop-rest-test.ensures) in
    (c.top.ensures.rest t.top t.rest t.is).less

pub loop-rest-preserved : goal.loop-rest-preserved
loop-rest-preserved c = record {
  few =
      let k = c.loop-rest.invariant.rest c.requires.0 c.requires.1 in
      let t = topped c.args.form c.loop-rest.rest.now k.0 k.1 (some_words_left _ c.loop-rest-test.ensures) in
      let less = (c.top.ensures.rest t.top t.rest t.is).less in omega (arith, less, c.loop-rest.invariant.few);
  rest = λ m e.
      let k = c.loop-rest.invariant.rest m e in
      let t = topped c.args.form c.loop-rest.rest.now k.0 k.1 (some_words_left _ c.loop-rest-test.ensures) in
      counted c.args.form c.loop-rest.rest.now _ c.loop-rest.n _ k.0 t (c.top.ensures.rest t.top t.rest t.is) k.2;
}

pub returns : goal.returns
returns c m e =
    let k = c.loop-rest.invariant.rest m e in
    all_counted _ _ k.0 k.2 (no_symbols c.args.form c.loop-rest.rest.now k.0 k.1 (no_words_left _ c.loop-rest-test.ensures))
