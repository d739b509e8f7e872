-- What a reader has left, and what a function that reads a part of it gives.
use Rattle.std.specs.Prelude.{◌≡◌, ℕ, List, [], Result, Ok, Err}
use Rattle.pcf_reader.specs.Tokens.{Token, End, Placed}
use Rattle.pcf_reader.specs.Machine.{Step}
use Rattle.pcf_reader.specs.Scan.{TreeOrFault, checked, scan}
use Rattle.pcf_reader.specs.declared.fault.ReadFault.{ReadFault}
use Rattle.pcf_reader.specs.declared.fault.ReadFault.TheVariants.{NoMemory}

-- the token here, those behind it, and how many nodes have been counted
pub record Rest : Type 0 where
  pub at : ℕ
  pub here : Token
  pub after : List Placed
  pub nodes : ℕ

-- the tokens behind this one, where these follow: nothing stands behind the end
abbrev pub behind : Token → List Placed → List Placed
behind End xs = []
behind _ xs = xs

-- the answer where the token here is taken by this step
abbrev pub taken : Rest → Step → TreeOrFault
taken r st = checked (scan r.after) r.nodes r.at st

abbrev pub resume : (ℕ → Token → Step) → Rest → TreeOrFault
resume g r = taken r (g r.at r.here)

-- memory runs out at any time, and every other fault is the answer
abbrev pub Fails : ReadFault → TreeOrFault → Type 0
Fails NoMemory answer = Unit {0}
Fails f answer = answer ≡ Err f

abbrev pub Gives : {X : Type 0} → (X → TreeOrFault) → TreeOrFault → Result X ReadFault → Type 0
Gives after answer (Ok x) = answer ≡ after x
Gives after answer (Err f) = Fails f answer
