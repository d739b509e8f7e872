-- What a net file is accepted as, and which fault of a file is the first.
-- The bytes are looked at first, then whether their net is sound, and then whether it is a term's. A program is listed where its own net
-- is: nothing is asked of depths and numbers, since those of a program's net are small by themselves.
use Rattle.std.specs.Prelude.{◌≡◌, ◌<◌, ◌≤◌, ℕ, List, [], ◌∷◌, length, Result, Ok, Err}
use Rattle.pcf_values.specs.Terms.{TyTree, nat, TermTree, height}
use Rattle.pcf_values.specs.Typing.{HasType}
use Rattle.net_build.specs.Nets.{WireTree, NetTree}
use Rattle.net_build.specs.NetOf.{net_of}
use Rattle.net_build.specs.Sound.{Sound}
use Rattle.net_check.specs.Faults.{FirstFault}
use Rattle.net_terms.specs.Limits.{most_term_height}
use Rattle.net_terms.specs.OfTerm.{OfNone}
use Rattle.net_text.specs.declared.fault.NetTextFault.{NetTextFault}
use Rattle.net_text.specs.declared.fault.NetTextFault.TheVariants.{NoMemory, BadLine, NotSound, NotOfTerm, TooLong}
use Rattle.net_text.specs.Limits.{most_text_bytes, most_type_height}
use Rattle.net_text.specs.Listing.{listing}
use Rattle.text_lines.specs.Lines.{lines}
use Rattle.net_text.specs.NetText.{FirstBad, TextOf, ty_height}

-- no wire's type is higher than h
abbrev pub TypesWithin : ℕ → List WireTree → Type 0
TypesWithin h [] = Unit {0}
TypesWithin h (w ∷ ws) = (ty_height w.type ≤ h) × TypesWithin h ws

-- The bytes are the listing of the net of this closed term of type `nat`, within the limits.
pub record ListsProgram (bytes : List ℕ) (m : TermTree) : Type 0 where
  pub typed : HasType [] m nat
  pub within : height m ≤ most_term_height
  pub types : TypesWithin most_type_height (net_of m).wires
  pub short : length bytes ≤ most_text_bytes
  pub is : bytes ≡ listing (net_of m)

-- The program that the bytes list, or the first fault. Want of memory says nothing.
abbrev pub Accepts : List ℕ → Result (TermTree × TyTree) NetTextFault → Type 0
Accepts bytes (Ok t) = ListsProgram bytes t.0 × (t.1 ≡ nat)
Accepts bytes (Err NoMemory) = Unit {0}
Accepts bytes (Err TooLong) = most_text_bytes < length bytes
Accepts bytes (Err (BadLine n)) = (length bytes ≤ most_text_bytes) × FirstBad most_type_height n (lines bytes)
Accepts bytes (Err (NotSound f)) = (net : NetTree) × TextOf bytes net × FirstFault net f
Accepts bytes (Err NotOfTerm) = (net : NetTree) × TextOf bytes net × Sound net × OfNone most_term_height net
