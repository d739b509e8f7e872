-- What a fork makes of the live tokens and the open entries. Only the code's own calls speak of these.
use Rattle.std.specs.Prelude.{◌≡◌, ℕ, [], Some}
use Rattle.std.specs.Ordering.{nat_cmp}
use Rattle.std.specs.FinMap.{FinMap, get, insert}
use Rattle.token_stacks.specs.Signatures.{Boxes}
use Rattle.fork_join.specs.Entries.{Entry, pending, key_cmp}
use Rattle.move_rules.specs.Places.{up, TokenTree, ask, place_of}
use Rattle.move_rules.specs.Stacks.{work_at, boxes_at}

-- the ticket has a token with an empty work stack, and that box stack
abbrev pub HasBoxes : FinMap nat_cmp TokenTree → ℕ → Boxes → Type 0
HasBoxes f i t = (x : TokenTree) × (get f i ≡ Some x) × (work_at (place_of x) ≡ []) × (boxes_at (place_of x) ≡ t)

-- the question at a wire with the box stack of the ticket's token, and that box stack
abbrev pub Copies : FinMap nat_cmp TokenTree → (i b : ℕ) → TokenTree → Boxes → Type 0
Copies f i b r t = HasBoxes f i t × (r ≡ ask (up b [] t))

-- the tokens after a fork to a and b, the right one under the ticket n
abbrev pub forked_tokens : FinMap nat_cmp TokenTree → (i n a b : ℕ) → Boxes → FinMap nat_cmp TokenTree
forked_tokens f i n a b t = insert (insert f i (ask (up a [] t))) n (ask (up b [] t))

-- a fork at node k, to a and b, of a ticket whose token has an empty work stack
abbrev pub ForksTo : (f f' : FinMap nat_cmp TokenTree) (g g' : FinMap key_cmp Entry) (i n k a b : ℕ) → Type 0
ForksTo f f' g g' i n k a b = (t : Boxes) × HasBoxes f i t × (f' ≡ forked_tokens f i n a b t) × (g' ≡ insert g (k, t) pending)
