-- How the code keeps the table: a map from nodes to maps from box stacks to what is kept, and the one finite map that it is seen as.
-- A map of maps is searched with a borrowed box stack, so that an answer copies none. A node whose entries are all closed keeps its
-- empty map; the finite map doesn't show it.
use Rattle.std.specs.Prelude.{◌≡◌, ℕ, List, [], ◌∷◌, ◌++◌, Option, Some, None}
use Rattle.std.proofs.Common.{cond}
use Rattle.std.specs.FinMap.{FinMap, from_entries}
use Rattle.std.specs.Ordering.{nat_cmp}
use Rattle.std.specs.BTreeMap as tree
use Rattle.std.specs.BTreeMap.{BTreeMap}
use Rattle.pcf_values.specs.declared.val.Val.{Val}
use Rattle.token_stacks.specs.Signatures.{Boxes}
use Rattle.token_stacks.specs.Order.{box_cmp}
use Rattle.fork_join.specs.Entries.{Entry, pending, has_left, has_right, Key, key_cmp}
use Rattle.pcf_values.specs.declared.side.Side.{Side}
use Rattle.pcf_values.specs.declared.side.Side.TheVariants.{Left as LeftSide, Right as RightSide}
use Rattle.fork_join.specs.declared.outcome.Arrived.{Arrived}
use Rattle.fork_join.specs.declared.outcome.Arrived.TheVariants.{First, Both}
use Rattle.fork_join.specs.declared.forks.Kept.{Kept}
use Rattle.fork_join.specs.declared.forks.Kept.TheVariants.{Nothing, Left, Right}

-- the entry that the code's word for it stands for
abbrev pub entry_of : Kept → Entry
entry_of Nothing = pending
entry_of (Left v) = has_left v
entry_of (Right v) = has_right v

-- the code's word for the first answer of a fork
abbrev pub kept_at : Side → Val → Kept
kept_at LeftSide v = Left v
kept_at RightSide v = Right v

-- what comes of an answer, by what is kept
abbrev pub arrival_at : Option Kept → Arrived
arrival_at None = First
arrival_at (Some Nothing) = First
arrival_at (Some (Left w)) = Both w
arrival_at (Some (Right w)) = Both w

-- what is kept once the first answer came, and a second one wasn't taken yet
abbrev pub kept_first : Option Kept → Side → Val → Option Kept
kept_first None s v = None
kept_first (Some Nothing) s v = Some (kept_at s v)
kept_first (Some (Left w)) s v = Some (Left w)
kept_first (Some (Right w)) s v = Some (Right w)

-- what is kept once an answer came
abbrev pub kept_after : Option Kept → Side → Val → Option Kept
kept_after None s v = None
kept_after (Some Nothing) s v = Some (kept_at s v)
kept_after (Some (Left w)) s v = None
kept_after (Some (Right w)) s v = None

-- the open forks of one node
abbrev pub Forks : Type 0
Forks = BTreeMap Boxes Kept

-- the open forks of all nodes
abbrev pub Nodes : Type 0
Nodes = BTreeMap ℕ Forks

-- the forks of one node have this at one box stack afterwards, and all else stays
abbrev pub PutsIn : Forks → Forks → Boxes → Option Kept → Type 0
PutsIn old new t kept = (u : Boxes) → tree.get box_cmp new u ≡ cond (tree.is_at (box_cmp t) u) kept (tree.get box_cmp old u)

-- what is kept at a box stack, by the forks of a node that may have none
abbrev pub in_forks : Option Forks → Boxes → Option Kept
in_forks None t = None
in_forks (Some forks) t = tree.get box_cmp forks t

-- what the map of maps has at a node and a box stack
abbrev pub entry_at : Nodes → ℕ → Boxes → Option Kept
entry_at nodes n t = in_forks (tree.get nat_cmp nodes n) t

-- the entries of one node, under their keys
abbrev pub tagged : ℕ → List (Boxes × Kept) → List (Key × Entry)
tagged n [] = []
tagged n (e ∷ es) = ((n, e.0), entry_of e.1) ∷ tagged n es

-- the entries of all nodes
abbrev pub flat : List (ℕ × Forks) → List (Key × Entry)
flat [] = []
flat (e ∷ es) = tagged e.0 e.1.entries ++ flat es

-- the one finite map
abbrev pub table_of : Nodes → FinMap key_cmp Entry
table_of m = from_entries (flat m.entries)

-- the map of maps has this at one key afterwards, and all else stays
pub record Puts (old new : Nodes) (n : ℕ) (t : Boxes) (kept : Option Kept) : Type 0 where
  pub here : entry_at new n t ≡ kept
  pub same_node : (u : Boxes) → (u ≡ t → ⊥) → entry_at new n u ≡ entry_at old n u
  pub other_nodes : (m : ℕ) (u : Boxes) → (m ≡ n → ⊥) → entry_at new m u ≡ entry_at old m u

-- all entries stay
abbrev pub Keeps : Nodes → Nodes → Type 0
Keeps old new = (m : ℕ) (u : Boxes) → entry_at new m u ≡ entry_at old m u
