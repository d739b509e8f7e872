-- The view of a token: the code's token as a question or an answer at its place, and of a node that was seen: its number and the node.
use Rattle.std.specs.Prelude.{ℕ, Bool, if◌then◌else◌}
use Rattle.token_stacks.specs.Loads.{Load}
use Rattle.net_build.specs.declared.node.Node.{Node}
use Rattle.move_rules.specs.declared.token.Kind.{Kind}
use Rattle.move_rules.specs.declared.token.Kind.TheVariants.{Ask, Ans}
use Rattle.move_rules.specs.declared.token.Token.{Token}
use Rattle.move_rules.specs.declared.token.Seen.{Seen}
use Rattle.move_rules.specs.Places.{Place, up, down, TokenTree, ask, ans}

-- the place of a wire, a direction and both stacks
abbrev pub place_at : ℕ → Bool → Load → Place
place_at w b s = if b then up w s.work s.boxes else down w s.work s.boxes

-- the token of a kind at a place
abbrev pub of_kind : Kind → Place → TokenTree
of_kind Ask p = ask p
of_kind (Ans v) p = ans v p

abbrev pub token_of : Token → TokenTree
token_of k = of_kind k.kind (place_at k.wire k.up k.stacks)

abbrev pub numbered : Seen → ℕ × Node
numbered s = (s.at, s.node)
