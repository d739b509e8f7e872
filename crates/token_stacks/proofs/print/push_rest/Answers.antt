use Rattle.std.proofs.Common.{◌++◌, codes, decimal, ap, ◌∙◌}
use Rattle.token_stacks.proofs.Stacking.{topped, no_symbols, some_words_left, no_words_left}
use Rattle.token_stacks.proofs.Writing.{next_part, left_out, all_written}
use Rattle.token_stacks.proofs.Said.{ok_map}
use Rattle.token_stacks.specs.Texts.{sym_text}
use Rattle.token_stacks.proofs.print.push_rest.Goals as goal

pub returns-then-left-eq0 : goal.returns-then-left-eq0
returns-then-left-eq0 c m e =
    let s = c.loop-rest.invariant.text m e in
    let t = topped c.args.form c.loop-rest.rest.now s.symbols s.stack (some_words_left _ c.loop-rest-test.ensures) in
    ok_map c.push_count.result
    (λ h. left_out _ _ _ _ _ c.loop-rest.text.items _ _ s t c.if-left-eq0.true (c.count.ensures s.symbols s.stack)
    (h ∙ ap (λ z. z ++ (codes "+" ++ decimal c.count.result)) c.in_ok-extend_from_slice.ensures.items))
    c.push_count.ensures

pub push_top-requires-clause-stack : goal.push_top-requires-clause-stack
push_top-requires-clause-stack c =
    let k = c.loop-rest.invariant.stack in
    let t = topped c.args.form c.loop-rest.rest.now k.0 k.1 (some_words_left _ c.loop-rest-test.ensures) in
    (t.top, t.rest, t.is)

pub loop-rest-smaller : goal.loop-rest-smaller
loop-rest-smaller c =
    let k = c.loop-rest.invariant.stack in
    let t = topped c.args.form c.loop-rest.rest.now k.0 k.1 (some_words_left _ c.loop-rest-test.ensures) in
    (c.in_ok-rest.ensures.rest t.top t.rest t.is).less

pub loop-rest-preserved : goal.loop-rest-preserved
loop-rest-preserved c = record {
  nothing = c.in_ok-rest.ensures.nothing;
  stack =
      let k = c.loop-rest.invariant.stack in
      let t = topped c.args.form c.loop-rest.rest.now k.0 k.1 (some_words_left _ c.loop-rest-test.ensures) in
      (t.rest, (c.in_ok-rest.ensures.rest t.top t.rest t.is).stack);
  text = λ m e.
      let s = c.loop-rest.invariant.text m e in
      let t = topped c.args.form c.loop-rest.rest.now s.symbols s.stack (some_words_left _ c.loop-rest-test.ensures) in
      next_part _ _ _ _ _ c.loop-rest.text.items _ _ s t c.if-left-eq0.false
      (c.in_ok-rest.ensures.text t.top t.rest t.is ∙ ap (λ z. z ++ sym_text c.args.deep t.top) c.in_ok-extend_from_slice.ensures.items)
      (c.in_ok-rest.ensures.rest t.top t.rest t.is);
}

pub returns : goal.returns
returns c m e =
    let s = c.loop-rest.invariant.text m e in
    all_written _ _ _ _ _ _ s (no_symbols c.args.form c.loop-rest.rest.now s.symbols s.stack (no_words_left _ c.loop-rest-test.ensures))
