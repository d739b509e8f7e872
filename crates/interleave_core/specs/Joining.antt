-- What a join makes of the live tokens and the open entries. Only the code's own calls speak of these.
use Rattle.std.specs.Prelude.{◌≡◌, ℕ, []}
use Rattle.std.specs.Ordering.{nat_cmp}
use Rattle.std.specs.FinMap.{FinMap, get, insert, remove}
use Rattle.pcf_values.specs.declared.val.Val.{Val}
use Rattle.pcf_values.specs.Values.{val_op}
use Rattle.token_stacks.specs.Signatures.{Boxes}
use Rattle.fork_join.specs.Entries.{Entry, key_cmp}
use Rattle.fork_join.specs.Arrivals.{arrival, after_arrival}
use Rattle.pcf_values.specs.declared.side.Side.{Side}
use Rattle.pcf_values.specs.declared.side.Side.TheVariants.{Left, Right}
use Rattle.fork_join.specs.declared.outcome.Arrived.{Arrived}
use Rattle.fork_join.specs.declared.outcome.Arrived.TheVariants.{First, Both}
use Rattle.move_rules.specs.Places.{down, TokenTree, ans}
use Rattle.pcf_values.specs.declared.operator.Operator.{Operator}
use Rattle.interleave_core.specs.declared.stepped.Stepped.{Stepped}
use Rattle.interleave_core.specs.declared.stepped.Stepped.TheVariants.{Kept, Joined}

-- the left and the right value, where this side has v and the other side has w
abbrev pub both_of : Side → Val → Val → Val × Val
both_of Left v w = (v, w)
both_of Right v w = (w, v)

-- what the operator comes to
abbrev pub op_value : Operator → Side → Val → Val → Val
op_value o p v w = val_op o (both_of p v w).0 (both_of p v w).1

-- the tokens after an answer arrived
abbrev pub joined_tokens : Arrived → FinMap nat_cmp TokenTree → ℕ → Operator → Side → Val → ℕ → Boxes →
    FinMap nat_cmp TokenTree
joined_tokens First f i o p v c t = remove f i
joined_tokens (Both w) f i o p v c t = insert f i (ans (op_value o p v w) (down c [] t))

-- the name of such a step, where v came to this side
abbrev pub joined_name : Arrived → Side → Val → Stepped
joined_name First p v = Kept
joined_name (Both w) p v = Joined (both_of p v w).0 (both_of p v w).1

-- tokens and entries after a join at node k and the box stack t
abbrev pub JoinsAt : (f f' : FinMap nat_cmp TokenTree) (g g' : FinMap key_cmp Entry) (i k : ℕ) → Operator → Side → Val → ℕ →
    Boxes → Type 0
JoinsAt f f' g g' i k o p v c t = (f' ≡ joined_tokens (arrival (get g (k, t))) f i o p v c t) ×
    (g' ≡ after_arrival g (k, t) p v)
