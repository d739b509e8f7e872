-- Changes of one live token in place. Only the code's own calls speak of these.
use Rattle.std.specs.Prelude.{◌≡◌, ◌≤◌, ◌⊎◌, ℕ, Bool, List, length, cond, Some}
use Rattle.std.specs.Bool.{MatchBool}
use Rattle.std.specs.Ordering.{nat_cmp}
use Rattle.std.specs.FinMap.{FinMap, get, insert}
use Rattle.std.specs.BTreeMap as tree
use Rattle.std.specs.BTreeMap.{BTreeMap, is_at}
use Rattle.net_build.specs.Nets.{NetTree}
use Rattle.move_rules.specs.declared.token.Kind.{Kind}
use Rattle.move_rules.specs.declared.token.Token.{Token}
use Rattle.move_rules.specs.Places.{TokenTree}
use Rattle.move_rules.specs.Moves.{solo, move}
use Rattle.move_rules.specs.AtNode.{NotSolo, Unaided}
use Rattle.move_rules.specs.Views.{token_of}
use Rattle.move_rules.specs.Walks.{Walks}

-- the token of the ticket changes so, and all others stay
abbrev pub ChangesIn : (Token → Token → Type 0) → BTreeMap ℕ Token → ℕ → BTreeMap ℕ Token → Type 0
ChangesIn P m i n = (x y : Token) × (tree.get nat_cmp m i ≡ Some x) × P x y ×
    ((q : ℕ) → tree.get nat_cmp n q ≡ cond (is_at (nat_cmp i) q) (Some y) (tree.get nat_cmp m q))

-- the same of the finite map
abbrev pub Changes : (Token → Token → Type 0) → FinMap nat_cmp TokenTree → ℕ → FinMap nat_cmp TokenTree → Type 0
Changes P f i g = (x y : Token) × (get f i ≡ Some (token_of x)) × P x y × (g ≡ insert f i (token_of y))

-- the ticket's token makes its solo move, or its move is none and all stays
abbrev pub SoloAt : NetTree → FinMap nat_cmp TokenTree → ℕ → Bool → FinMap nat_cmp TokenTree → Type 0
SoloAt net f i made g = (x : TokenTree) × (get f i ≡ Some x) ×
    MatchBool made ((k : ℕ) × (y : TokenTree) × (move net x ≡ solo k y) × (g ≡ insert f i y)) (NotSolo (move net x) × (g ≡ f))

-- the move of the ticket's token needs nothing but that token
abbrev pub UnaidedIn : NetTree → BTreeMap ℕ Token → ℕ → Type 0
UnaidedIn net m i = (x : Token) × (tree.get nat_cmp m i ≡ Some x) × Unaided (move net (token_of x))

-- the same of the finite map
abbrev pub UnaidedAt : NetTree → FinMap nat_cmp TokenTree → ℕ → Type 0
UnaidedAt net f i = (x : TokenTree) × (get f i ≡ Some x) × Unaided (move net x)

-- the token goes to a wire, up or down, as a question or an answer, with the stacks that it has
abbrev pub sent : Token → ℕ → Bool → Kind → Token
sent x w u k = record { wire = w; up = u; kind = k; stacks = x.stacks }

-- it is sent so
abbrev pub Sent : ℕ → Bool → Kind → Token → Token → Type 0
Sent w u k x y = y ≡ sent x w u k

-- the token makes so many solo moves
abbrev pub Makes : NetTree → ℕ → Token → Token → Type 0
Makes net n x y = (trail : List ℕ) × Walks net (token_of x) trail (token_of y) × (length trail ≡ n)

-- the token makes some solo moves, or none
abbrev pub MakesSome : NetTree → Token → Token → Type 0
MakesSome net x y = (n : ℕ) × Makes net n x y

-- as many as are wanted, and fewer only where its next move is no solo move
abbrev pub GoesOn : NetTree → ℕ → ℕ → Token → Token → Type 0
GoesOn net most n x y = Makes net n x y × (n ≤ most) × ((n ≡ most) ⊎ NotSolo (move net (token_of y)))
