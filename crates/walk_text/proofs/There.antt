-- A ticket that has a step has a token, which faces a node, and so it has a line.
use Rattle.std.proofs.Common.{◌≡◌, ◌≢◌, ℕ, [], Option, Some, None, sym, ap, ◌∙◌}
use Rattle.net_build.specs.declared.node.Node.{Node}
use Rattle.net_build.specs.Nets.{NetTree}
use Rattle.move_rules.specs.Places.{TokenTree, place_of}
use Rattle.move_rules.specs.Table.{facing, on_found}
use Rattle.move_rules.specs.Moves.{stay, move}
use Rattle.move_rules.specs.AtNode.{move_at}
use Rattle.move_rules.proofs.Facing.{move_faced}
use Rattle.interleave_laws.specs.States.{State, act, step_on}
use Rattle.walk_text.specs.Lines.{line_at, line_of}
use Rattle.walk_text.specs.Laws.{StepHasLine}

faces : (net : NetTree) (S T : State) (k w t : ℕ) (x : TokenTree) (f : Option (ℕ × Node)) →
    move net x ≡ on_found f stay (λ i n. move_at i n x) → act (move net x) S t ≡ Some T → line_at net S k w t x f ≢ []
faces net S T k w t x None m e h = let bad : None ≡ Some T = sym (ap (λ a. act a S t) m) ∙ e in cc
faces net S T k w t x (Some p) m e h = cc

has_token : (net : NetTree) (S T : State) (k w t : ℕ) (o : Option TokenTree) → step_on net o S t ≡ Some T → line_of net S k w t o ≢ []
has_token net S T k w t None e h = cc
has_token net S T k w t (Some x) e h = faces net S T k w t x (facing net (place_of x)) (move_faced net x) e h

pub step_has_line : StepHasLine
step_has_line net S T k w t e = has_token net S T k w t (S.tokens t) e
