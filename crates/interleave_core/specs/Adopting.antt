-- Walks that a state takes over, and the state afterwards.
use Rattle.std.specs.Prelude.{◌≡◌, ◌≤◌, ℕ, length, Some}
use Rattle.std.specs.List.{All}
use Rattle.std.specs.Ordering.{nat_cmp}
use Rattle.std.specs.FinMap.{FinMap, get, insert}
use Rattle.net_build.specs.Nets.{NetTree}
use Rattle.move_rules.specs.Places.{TokenTree}
use Rattle.move_rules.specs.Views.{token_of}
use Rattle.move_rules.specs.Walks.{Stands, Passage}
use Rattle.interleave_laws.specs.Maps.{MapState}

-- the walk begins with the ticket's token, has at least one move and at most so many, and each node of its trail is the net's
abbrev pub AcceptsIn : NetTree → FinMap nat_cmp TokenTree → ℕ → Passage → ℕ → Type 0
AcceptsIn net tokens i m most = (get tokens i ≡ Some (token_of m.before)) × (1 ≤ length m.trail) × (length m.trail ≤ most) ×
    All (Stands net) m.trail

-- the state may take the walk over
abbrev pub Accepts : NetTree → MapState → ℕ → Passage → ℕ → Type 0
Accepts net S i m most = AcceptsIn net S.tokens i m most

-- the state with the walk's last token under the ticket
abbrev pub adopted : MapState → ℕ → Passage → MapState
adopted S i m = record S { tokens = insert S.tokens i (token_of m.after) }
