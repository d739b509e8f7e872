-- What the crate is for, beside what its calls answer: laws over texts and trees.
use Rattle.std.specs.Prelude.{◌≡◌, ◌⊎◌, ℕ, ◌≤◌, List, length}
use Rattle.pcf_values.specs.Named.{NamedTree, named_height}
use Rattle.pcf_values.specs.NamedSize.{named_size}
use Rattle.pcf_reader.specs.Correct.{Text, FirstFault}
use Rattle.pcf_reader.specs.Printed.{term_text}
use Rattle.pcf_reader.specs.Placeless.{placeless}
use Rattle.pcf_values.specs.Most.{most_nodes, most_program_bytes}
use Rattle.pcf_reader.specs.Sizes.{node_count, most_read_height}
use Rattle.pcf_reader.specs.declared.fault.ReadFault.{ReadFault}

-- a text stands for one tree
abbrev pub OneTree : Type 0
OneTree = (bytes : List ℕ) (t u : NamedTree) → Text bytes t → Text bytes u → t ≡ u

-- bytes have one first fault at most
abbrev pub OneFault : Type 0
OneFault = (bytes : List ℕ) (f g : ReadFault) → FirstFault bytes f → FirstFault bytes g → f ≡ g

-- bytes are the text of a tree, or have a first fault
abbrev pub TextOrFault : Type 0
TextOrFault = (bytes : List ℕ) → ((t : NamedTree) × Text bytes t) ⊎ ((f : ReadFault) × FirstFault bytes f)

-- never both
abbrev pub NotBoth : Type 0
NotBoth = (bytes : List ℕ) (t : NamedTree) (f : ReadFault) → Text bytes t → FirstFault bytes f → ⊥

-- a tree that a text stands for is within the limits
abbrev pub Bounded : Type 0
Bounded = (bytes : List ℕ) (t : NamedTree) → Text bytes t → (node_count t ≤ most_nodes) × (named_size t ≤ most_nodes) ×
    (named_height t ≤ most_read_height)

-- what is printed of a tree that a text stands for is read back to the same tree, places aside, unless it is too long
abbrev pub ReadBack : Type 0
ReadBack =
    (bytes : List ℕ) (t : NamedTree) → Text bytes t → length (term_text t) ≤ most_program_bytes
    → (u : NamedTree) × Text (term_text t) u × (placeless u ≡ placeless t)
