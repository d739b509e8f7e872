-- Entries of open forks, and their keys.
-- A fork is known by its node and by the box stack at which its question came: the same node can be forked again within another copy
-- of a box, and then its box stack is another one. Keys are in order by their node first and then by their box stack.
use Rattle.std.specs.Prelude.{ℕ, Bool, ◌&&◌, nat_eq}
use Rattle.std.specs.declared.cmp.Ordering.{Ordering}
use Rattle.std.specs.Ordering.{nat_cmp, on, then_cmp}
use Rattle.pcf_values.specs.declared.val.Val.{Val}
use Rattle.pcf_values.specs.declared.side.Side.{Side}
use Rattle.pcf_values.specs.declared.side.Side.TheVariants.{Left, Right}
use Rattle.token_stacks.specs.Signatures.{Boxes}
use Rattle.token_stacks.specs.Order.{box_eq, box_cmp}

-- what is kept of an open fork: nothing yet, or the answer of one operand
pub data Entry : Type 0 where
  pending : Entry
  has_left : Val → Entry
  has_right : Val → Entry

-- the first answer of a fork, as it is kept
abbrev pub kept_as : Side → Val → Entry
kept_as Left v = has_left v
kept_as Right v = has_right v

-- the key of an entry: node and box stack
abbrev pub Key : Type 0
Key = ℕ × Boxes

-- the order of keys
abbrev pub key_cmp : Key → Key → Ordering
key_cmp = then_cmp (on (λ p. p.0) nat_cmp) (on (λ p. p.1) box_cmp)

-- whether two keys are one
abbrev pub same_key : ℕ → Boxes → ℕ → Boxes → Bool
same_key n s m t = nat_eq n m && box_eq s t
