-- The machine over a list of tokens, with the limits: the tree, or the first fault.
use Rattle.std.specs.Prelude.{ℕ, ◌+◌, ◌^◌, List, [], ◌∷◌, Result, Ok, Err, nat_lt, nat_le, if◌then◌else◌}
use Rattle.pcf_values.specs.Named.{NamedTree}
use Rattle.pcf_reader.specs.Tokens.{Token, Number, Junk, Placed}
use Rattle.pcf_reader.specs.Machine.{State, Step, refuse, go, finish, step}
use Rattle.pcf_reader.specs.declared.fault.ReadFault.{ReadFault}
use Rattle.pcf_reader.specs.declared.fault.ReadFault.TheVariants.{NoMemory, BadToken, NumberTooWide, Unexpected, TooDeep, TooLarge}
use Rattle.pcf_values.specs.Most.{most_nodes, most_open}

abbrev pub TreeOrFault : Type 0
TreeOrFault = Result NamedTree ReadFault

-- a token that is one, and no number too wide
abbrev pub proper : ℕ → Token → TreeOrFault → TreeOrFault
proper at Junk r = Err (BadToken at)
proper at (Number n) r = if nat_lt n (2 ^ 64) then r else Err (NumberTooWide at)
proper at _ r = r

abbrev pub within : ℕ → ℕ → ℕ → TreeOrFault → TreeOrFault
within at d n r = if nat_le most_open d then Err (TooDeep at) else if nat_lt most_nodes n then Err (TooLarge at) else r

-- goes on after a step, with n nodes so far
abbrev pub checked : (State → ℕ → TreeOrFault) → ℕ → ℕ → Step → TreeOrFault
checked next n at refuse = Err (Unexpected at)
checked next n at (finish p) = Ok p.tree
checked next n at (go d c s) = within at d (n + c) (next s (n + c))

-- the tree, or the first fault, from a state with n nodes so far; a list that ends in no end of the text has none
abbrev pub scan : List Placed → State → ℕ → TreeOrFault
scan [] s n = Err NoMemory
scan (x ∷ xs) s n = proper x.at x.token (checked (scan xs) n x.at (step s x.at x.token))
