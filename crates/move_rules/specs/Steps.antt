-- What one step in place does to a token. Only the code of single steps speaks of these.
use Rattle.std.specs.Prelude.{◌≡◌, ℕ, Bool, Option, Some, None}
use Rattle.std.specs.Bool.{MatchBool}
use Rattle.net_build.specs.declared.node.Node.{Node}
use Rattle.net_build.specs.declared.node.Node.TheVariants.{Der, Con, Lam, App, BoxNode, Door, FixBox, Pair, Proj}
use Rattle.move_rules.specs.declared.token.Token.{Token}
use Rattle.move_rules.specs.Places.{Place}
use Rattle.move_rules.specs.Moves.{solo}
use Rattle.move_rules.specs.AtNode.{move_at, NotSolo}
use Rattle.move_rules.specs.Views.{place_at, token_of}

-- the token follows the rule and keeps its kind, or no rule fits and all stays
abbrev pub Goes : (Place → Option Place) → Token → Bool → Token → Type 0
Goes rule old made new =
    MatchBool made ((rule (place_at old.wire old.up old.stacks) ≡ Some (place_at new.wire new.up new.stacks)) × (new.kind ≡ old.kind))
    ((rule (place_at old.wire old.up old.stacks) ≡ None) × (new ≡ old))

-- the token makes its solo move through the node, whatever the node's number, or it has none there and all stays
abbrev pub Passes : Node → Token → Bool → Token → Type 0
Passes n old made new = (i : ℕ)
    → MatchBool made (move_at i n (token_of old) ≡ solo i (token_of new)) (NotSolo (move_at i n (token_of old)) × (new ≡ old))

-- a node whose rules are all plain: only there a move takes memory
abbrev pub IsPlain : Node → Type 0
IsPlain (Der w x) = Unit {0}
IsPlain (Con l r w) = Unit {0}
IsPlain (Lam b x w) = Unit {0}
IsPlain (App f a w) = Unit {0}
IsPlain (BoxNode i o) = Unit {0}
IsPlain (Door i o) = Unit {0}
IsPlain (FixBox b x w) = Unit {0}
IsPlain (Pair a b w) = Unit {0}
IsPlain (Proj d a w) = Unit {0}
IsPlain _ = ⊥

-- the node that was found, without its number
abbrev pub node_of : Option (ℕ × Node) → Option Node
node_of None = None
node_of (Some p) = Some p.1
