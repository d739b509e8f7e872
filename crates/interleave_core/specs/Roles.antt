-- What a token that makes no solo move does at the node that it faces. Only the code's own calls speak of these.
use Rattle.std.specs.Prelude.{◌≡◌, ℕ, Bool, true, false, [], ◌∷◌, Some, nat_eq, if◌then◌else◌}
use Rattle.std.specs.Ordering.{nat_cmp}
use Rattle.std.specs.FinMap.{FinMap, get}
use Rattle.pcf_values.specs.declared.operator.Operator.{Operator}
use Rattle.token_stacks.specs.Signatures.{Work, Boxes}
use Rattle.pcf_values.specs.declared.side.Side.TheVariants.{Left, Right}
use Rattle.net_build.specs.Nets.{NetTree}
use Rattle.net_build.specs.declared.node.Node.{Node}
use Rattle.net_build.specs.declared.node.Node.TheVariants.{Root, Binary}
use Rattle.move_rules.specs.declared.token.Kind.{Kind}
use Rattle.move_rules.specs.declared.token.Kind.TheVariants.{Ask, Ans}
use Rattle.move_rules.specs.Places.{up, TokenTree, place_of}
use Rattle.move_rules.specs.Stacks.{work_at, boxes_at}
use Rattle.move_rules.specs.Moves.{Move, fork, join, answer, stay, move}
use Rattle.move_rules.specs.AtNode.{NotSolo}
use Rattle.interleave_core.specs.declared.roles.Role.{Role}
use Rattle.interleave_core.specs.declared.roles.Role.TheVariants.{Fork, Join, Last, Still}

-- at the node of an operator, with its operands and its conclusion: a question from below forks, and an operand's answer joins
abbrev pub operand_role : Operator → (a b c : ℕ) → Kind → Bool → ℕ → Role
operand_role o a b c Ask true w = Fork a b
operand_role o a b c Ask false w = Still
operand_role o a b c (Ans v) true w = Still
operand_role o a b c (Ans v) false w = if nat_eq a w then Join o Left v c else (if nat_eq b w then Join o Right v c else Still)

-- at a node, with an empty work stack
abbrev pub role_at : Node → Kind → Bool → ℕ → Role
role_at (Binary o a b c) k u w = operand_role o a b c k u w
role_at (Root c) (Ans v) false w = Last v
role_at _ k u w = Still

-- at a node: with work left, nothing
abbrev pub role_of : Node → Kind → Bool → ℕ → Work → Role
role_of n k u w [] = role_at n k u w
role_of n k u w (x ∷ m) = Still

-- the move of a role at a node's number, with the token's box stack
abbrev pub role_move : Role → ℕ → Boxes → Move
role_move (Fork a b) i t = fork i (up a [] t) (up b [] t) t
role_move (Join o p v c) i t = join i o p v c t
role_move (Last v) i t = answer v
role_move Still i t = stay

-- only a token with an empty work stack has a role
abbrev pub IsIdle : Role → Work → Type 0
IsIdle (Fork a b) m = m ≡ []
IsIdle (Join o p v c) m = m ≡ []
IsIdle (Last v) m = m ≡ []
IsIdle Still m = Unit {0}

-- the ticket's token, which makes no solo move, has this role at node k
abbrev pub MetAt : NetTree → FinMap nat_cmp TokenTree → ℕ → ℕ → Role → Type 0
MetAt net f i k r =
    (x : TokenTree) × (get f i ≡ Some x) × (move net x ≡ role_move r k (boxes_at (place_of x))) × IsIdle r (work_at (place_of x))

-- the ticket has a token whose move is no solo move
abbrev pub StandsStill : NetTree → FinMap nat_cmp TokenTree → ℕ → Type 0
StandsStill net f i = (x : TokenTree) × (get f i ≡ Some x) × NotSolo (move net x)
