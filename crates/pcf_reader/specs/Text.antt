-- What a list of tokens stands for, and the first fault of one that is no program.
-- A token is unexpected where no program at all begins with the tokens up to it. It is too deep, or one too many, where some program
-- begins with the tokens before it and writes it so: programs that begin alike write alike, so that it does not matter which one.
-- Nothing here speaks of a reader that goes from left to right.
use Rattle.std.specs.Prelude.{◌≡◌, ℕ, ◌+◌, ◌^◌, ◌<◌, ◌≤◌, List, [], ◌∷◌, ◌++◌, map}
use Rattle.pcf_values.specs.Named.{NamedTree}
use Rattle.pcf_reader.specs.Tokens.{Token, Number, Junk, Placed}
use Rattle.pcf_reader.specs.Grammar.{Program, program_text, Written, placed, expr_part}
use Rattle.pcf_reader.specs.declared.fault.ReadFault.{ReadFault}
use Rattle.pcf_reader.specs.declared.fault.ReadFault.TheVariants.{NoMemory, NotText, BadToken, NumberTooWide, Unexpected, TooDeep, TooLarge}
use Rattle.pcf_reader.specs.declared.fault.ReadFault.TheVariants.{TooLong}
use Rattle.pcf_values.specs.Most.{most_nodes, most_open}

-- how many nodes these count
abbrev pub count_of : List Written → ℕ
count_of [] = 0
count_of (w ∷ ws) = w.count + count_of ws

-- each of these is so
abbrev pub Each : (Written → Type 0) → List Written → Type 0
Each P [] = Unit {0}
Each P (w ∷ ws) = P w × Each P ws

-- the token stands below the limit
abbrev pub IsShallow : Written → Type 0
IsShallow w = w.depth < most_open

-- no number is above 2^64 - 1
abbrev pub IsNarrow : Token → Type 0
IsNarrow (Number n) = n < 2 ^ 64
IsNarrow _ = Unit {0}

-- the tokens are those of a program with this tree, and no limit is passed
pub record Derives (items : List Placed) (tree : NamedTree) : Type 0 where
  pub program : Program
  pub written : map placed (program_text program) ≡ items
  pub stands_for : (expr_part program.expr).tree ≡ tree
  pub shallow : Each IsShallow (program_text program)
  pub small : count_of (program_text program) ≤ most_nodes
  pub narrow : Each (λ w. IsNarrow w.token) (program_text program)

-- some program begins with these tokens
abbrev pub IsPrefix : List Placed → Type 0
IsPrefix items = (p : Program) × (rest : List Placed) × (map placed (program_text p) ≡ items ++ rest)

-- some program begins with these tokens and then has this one, which it writes so
pub record Reads (before : List Placed) (x : Placed) (w : Written) : Type 0 where
  pub program : Program
  pub front : List Written
  pub rest : List Written
  pub text : program_text program ≡ front ++ w ∷ rest
  pub before_is : map placed front ≡ before
  pub token_is : placed w ≡ x

-- the token x behind these tokens has this fault
abbrev pub FaultAt : List Placed → Placed → ReadFault → Type 0
FaultAt before x (BadToken at) = (x.token ≡ Junk) × (x.at ≡ at)
FaultAt before x (NumberTooWide at) = (n : ℕ) × (x.token ≡ Number n) × (2 ^ 64 ≤ n) × (x.at ≡ at)
FaultAt before x (Unexpected at) = (IsPrefix (before ++ x ∷ []) → ⊥) × (x.at ≡ at)
FaultAt before x (TooDeep at) = (w : Written) × Reads before x w × (most_open ≤ w.depth) × (x.at ≡ at)
FaultAt before x (TooLarge at) = (w : Written) × (r : Reads before x w) × (most_nodes < count_of r.front + w.count) × (x.at ≡ at)
FaultAt before x NoMemory = ⊥
FaultAt before x (NotText at) = ⊥
FaultAt before x TooLong = ⊥

-- the order in which faults of one place are told
abbrev pub rank : ReadFault → ℕ
rank NoMemory = 0
rank (NotText _) = 1
rank (BadToken _) = 2
rank (NumberTooWide _) = 3
rank (Unexpected _) = 4
rank (TooDeep _) = 5
rank (TooLarge _) = 6
rank TooLong = 7

-- the fault at the least place, and at one place the first of the table
pub record IsFirstFault (items : List Placed) (f : ReadFault) : Type 0 where
  pub before : List Placed
  pub token : Placed
  pub after : List Placed
  pub split : items ≡ before ++ token ∷ after
  pub here : FaultAt before token f
  pub none_before : (b : List Placed) (x : Placed) (a : List Placed) (g : ReadFault) → before ≡ b ++ x ∷ a → FaultAt b x g → ⊥
  pub none_above : (g : ReadFault) → rank g < rank f → FaultAt before token g → ⊥
