-- Which bytes are the listing of a net, and which line is the first that can't stand where it stands.
-- A line can stand where the lines up to it are the first ones of some listing. So nothing is said here of the form of a line, beyond
-- what the listing itself says: the least line that can't stand is the one at which no listing begins any more.
use Rattle.std.specs.Prelude.{◌≡◌, ℕ, suc, ◌-◌, ◌^◌, ◌<◌, ◌≤◌, max, List, [], ◌∷◌, ◌++◌, length, take, codes}
use Rattle.pcf_values.specs.Terms.{TyTree, nat, arrow, product}
use Rattle.net_build.specs.declared.node.Node.{Node}
use Rattle.net_build.specs.declared.node.Node.TheVariants.{Const}
use Rattle.net_build.specs.Nets.{WireTree, NetTree}
use Rattle.net_text.specs.Limits.{most_text_bytes, most_type_height}
use Rattle.net_text.specs.Listing.{wire_line, node_line, numbers_of, listing}

-- the lines of a listing
abbrev pub numbered : {A : Type 0} → (ℕ → A → List ℕ) → ℕ → List A → List (List ℕ)
numbered line n [] = []
numbered line n (x ∷ xs) = line n x ∷ numbered line (suc n) xs

-- the lines of a listing: the header, the wires, the nodes, the end
abbrev pub listing_lines : NetTree → List (List ℕ)
listing_lines net = codes "net 1\n" ∷ (numbered wire_line 0 net.wires ++ (numbered node_line 0 net.nodes ++ codes "end\n" ∷ []))

-- the height of `nat` is 1, and that of any other type one more than that of its higher part
abbrev pub ty_height : TyTree → ℕ
ty_height nat = 1
ty_height (arrow a b) = suc (max (ty_height a) (ty_height b))
ty_height (product a b) = suc (max (ty_height a) (ty_height b))

-- what the numbers and types of a net's text are limited to; h is the most height of a type
abbrev pub WiresFit : ℕ → List WireTree → Type 0
WiresFit h [] = Unit {0}
WiresFit h (w ∷ ws) = (w.depth < 2 ^ 32) × (ty_height w.type ≤ h) × WiresFit h ws

-- each number is of 32 bits
abbrev pub Small : List ℕ → Type 0
Small [] = Unit {0}
Small (n ∷ ns) = (n < 2 ^ 32) × Small ns

-- the numbers of a node are those of the code: 64 bits for a constant, 32 bits for a wire
abbrev pub NodeFits : Node → Type 0
NodeFits (Const v w) = (v < 2 ^ 64) × (w < 2 ^ 32)
NodeFits n = Small (numbers_of n)

-- those of all nodes
abbrev pub NodesFit : List Node → Type 0
NodesFit [] = Unit {0}
NodesFit (n ∷ ns) = NodeFits n × NodesFit ns

pub record NetFits (h : ℕ) (net : NetTree) : Type 0 where
  pub wires : WiresFit h net.wires
  pub nodes : NodesFit net.nodes

-- these lines are the first ones of a listing
pub record Begins (h : ℕ) (ls : List (List ℕ)) : Type 0 where
  pub net : NetTree
  pub more : List (List ℕ)
  pub fits : NetFits h net
  pub lines_are : listing_lines net ≡ ls ++ more

-- Line n, from 1, is the first that can't stand there, or it is the one that lacks behind the last.
pub record FirstBad (h n : ℕ) (ls : List (List ℕ)) : Type 0 where
  pub some : 1 ≤ n
  pub last : n ≤ suc (length ls)
  pub before : Begins h (take (n - 1) ls)
  pub there : n ≤ length ls → Begins h (take n ls) → ⊥
  pub behind : n ≡ suc (length ls) → (net : NetTree) → NetFits h net → listing_lines net ≡ ls → ⊥

-- the bytes are the listing of this net, within the limits
pub record TextOf (bytes : List ℕ) (net : NetTree) : Type 0 where
  pub short : length bytes ≤ most_text_bytes
  pub fits : NetFits most_type_height net
  pub is : bytes ≡ listing net
