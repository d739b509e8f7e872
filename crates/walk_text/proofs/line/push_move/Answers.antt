use Rattle.token_stacks.proofs.Said.{ok_map, from_if}
use Rattle.walk_text.proofs.Playing.{low_reached}
use Rattle.walk_text.proofs.StepLines.{line_told}
use Rattle.walk_text.proofs.line.push_move.Goals as goal

pub returns-clause-line : goal.returns-clause-line
returns-clause-line c =
    ok_map c.extend_from_slice.result
    (line_told c.args.net.now c.args.core.now c.step.new.self _ _ _ c.in_ok-met.met c.in_ok-stepped.stepped _ _ _ _ _
    (low_reached c.args.net.now _ c.args.core.now _ c.requires.runs c.requires.reached c.requires.able) c.in_ok-met.ensures
    c.in_ok-stepped.ensures.steps c.in_ok-stepped.ensures.name
    c.in_ok-push_told.ensures.text)
    (from_if c.extend_from_slice.result c.extend_from_slice.new.self.items _ _ c.extend_from_slice.ensures.items)
