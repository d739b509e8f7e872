-- What the code finds at the front of a text: a number, where the code has it.
use Rattle.std.specs.Prelude.{◌≡◌, ℕ, ◌^◌, List, [], ◌∷◌, ◌++◌, Option, Some, None, Result, Ok, Err, nat_lt, if◌then◌else◌}
use Rattle.net_build.specs.declared.node.Node.{Node}
use Rattle.net_build.specs.Nets.{WireTree, NetTree}
use Rattle.net_text.specs.declared.fault.NetTextFault.{NetTextFault}
use Rattle.net_text.specs.declared.fault.NetTextFault.TheVariants.{NoMemory, BadLine, NotSound, NotOfTerm, TooLong}
use Rattle.net_text.specs.NodeText.{node_fits}
use Rattle.net_text.specs.FirstFault.{if_right, wire_fits}

-- a number of 64 bits, or none where it is larger
abbrev pub in_word : ℕ → Option ℕ
in_word n = if nat_lt n (2 ^ 64) then Some n else None

-- one of 32 bits
abbrev pub in_half : ℕ → Option ℕ
in_half n = if nat_lt n (2 ^ 32) then Some n else None

-- numbers of 64 bits, or none where one is larger
abbrev pub and_word : Option ℕ → Option (List ℕ) → Option (List ℕ)
and_word None o = None
and_word (Some n) None = None
and_word (Some n) (Some ns) = Some (n ∷ ns)

-- the same of a list
abbrev pub in_words : List ℕ → Option (List ℕ)
in_words [] = Some []
in_words (n ∷ ns) = and_word (in_word n) (in_words ns)

-- the same of numbers that were read or weren't
abbrev pub words_among : Option (List ℕ) → Option (List ℕ)
words_among None = None
words_among (Some ns) = in_words ns

-- more numbers in front
abbrev pub words_behind : List ℕ → Option (List ℕ) → Option (List ℕ)
words_behind ns None = None
words_behind ns (Some ms) = Some (ns ++ ms)

-- a node, where its numbers are the code's
abbrev pub fitting_node : Option Node → Option Node
fitting_node None = None
fitting_node (Some x) = if_right (node_fits x) x

-- a wire, where its depth is the code's and its type is no higher than h
abbrev pub fitting_wire : ℕ → Option WireTree → Option WireTree
fitting_wire h None = None
fitting_wire h (Some w) = if_right (wire_fits h w) w

-- more wires or nodes in front of what the lines behind them list
abbrev pub with_wires : List WireTree → Result NetTree ℕ → Result NetTree ℕ
with_wires ws (Ok net) = Ok (record { wires = ws ++ net.wires; nodes = net.nodes })
with_wires ws (Err m) = Err m

-- the same of nodes
abbrev pub with_nodes : List Node → Result (List Node) ℕ → Result (List Node) ℕ
with_nodes ns (Ok xs) = Ok (ns ++ xs)
with_nodes ns (Err m) = Err m

-- the fault is the line that is blamed, or want of memory
abbrev pub Blames : {A : Type 0} → Result A ℕ → NetTextFault → Type 0
Blames r NoMemory = Unit {0}
Blames r (BadLine n) = r ≡ Err n
Blames r (NotSound f) = ⊥
Blames r NotOfTerm = ⊥
Blames r TooLong = ⊥
