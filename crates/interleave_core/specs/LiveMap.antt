-- How the code keeps live tokens: a map from tickets to its own tokens, seen as a finite map to tokens as the definitions have them.
use Rattle.std.specs.Prelude.{ℕ, List, [], ◌∷◌}
use Rattle.std.specs.Ordering.{nat_cmp}
use Rattle.std.specs.FinMap.{FinMap, from_entries}
use Rattle.std.specs.BTreeMap.{BTreeMap}
use Rattle.move_rules.specs.declared.token.Token.{Token}
use Rattle.move_rules.specs.Places.{TokenTree}
use Rattle.move_rules.specs.Views.{token_of}

-- the entries, each token as it is seen
abbrev pub live_entries : List (ℕ × Token) → List (ℕ × TokenTree)
live_entries [] = []
live_entries (e ∷ es) = (e.0, token_of e.1) ∷ live_entries es

-- the finite map
abbrev pub live_of : BTreeMap ℕ Token → FinMap nat_cmp TokenTree
live_of m = from_entries (live_entries m.entries)
