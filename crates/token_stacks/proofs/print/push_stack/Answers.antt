use Rattle.token_stacks.proofs.Stacking.{topped, no_symbols, some_words_left, no_words_left}
use Rattle.token_stacks.proofs.Writing.{empty_text, top_and_rest}
use Rattle.token_stacks.proofs.Said.{ok_map, from_if}
use Rattle.token_stacks.proofs.print.push_stack.Goals as goal

pub returns-then-is_empty : goal.returns-then-is_empty
returns-then-is_empty c m e =
    ok_map c.extend_from_slice.result
    (empty_text _ _ _ _ m (no_symbols c.args.form c.args.words.now m e (no_words_left _ c.if-is_empty.ensures)))
    (from_if c.extend_from_slice.result c.extend_from_slice.new.self.items _ _ c.extend_from_slice.ensures.items)

pub push_top-requires-clause-stack : goal.push_top-requires-clause-stack
push_top-requires-clause-stack c =
    let t = topped c.args.form c.args.words.now c.requires.stack.0 c.requires.stack.1 (some_words_left _ c.if-is_empty.ensures) in
    (t.top, t.rest, t.is)

pub push_rest-requires-clause-stack : goal.push_rest-requires-clause-stack
push_rest-requires-clause-stack c =
    let t = topped c.args.form c.args.words.now c.requires.stack.0 c.requires.stack.1 (some_words_left _ c.if-is_empty.ensures) in
    (t.rest, (c.in_ok-rest.ensures.rest t.top t.rest t.is).stack)

pub returns : goal.returns
returns c m e =
    let t = topped c.args.form c.args.words.now m e (some_words_left _ c.if-is_empty.ensures) in
    ok_map c.push_rest.result
    (top_and_rest _ _ _ _ _ _ _ m t c.requires.some (c.in_ok-rest.ensures.text t.top t.rest t.is))
    (c.push_rest.ensures t.rest (c.in_ok-rest.ensures.rest t.top t.rest t.is).stack)
