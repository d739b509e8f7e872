-- The parts of a state, as the code keeps them side by side.
use Rattle.std.specs.Prelude.{ℕ, Option}
use Rattle.std.specs.Ordering.{nat_cmp}
use Rattle.std.specs.FinMap.{FinMap}
use Rattle.pcf_values.specs.declared.val.Val.{Val}
use Rattle.fork_join.specs.Entries.{Entry, key_cmp}
use Rattle.move_rules.specs.Places.{TokenTree}
use Rattle.interleave_core.specs.declared.parts.Parts.{Parts}
use Rattle.interleave_laws.specs.Maps.{MapState}

-- the state of live tokens, entries, the next ticket and the answer
abbrev pub state : FinMap nat_cmp TokenTree → FinMap key_cmp Entry → ℕ → Option Val → MapState
state f g n v = record { tokens = f; entries = g; next = n; answered = v }

-- the state of the code's parts
abbrev pub state_of : Parts → MapState
state_of p = state p.live p.joins p.next p.answer
