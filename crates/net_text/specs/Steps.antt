-- What the calls answer on the way from bytes to a program: the net that the bytes list, the term whose net a net is, and both.
use Rattle.std.specs.Prelude.{◌≡◌, ◌<◌, ◌≤◌, ℕ, List, length, Result, Ok, Err}
use Rattle.pcf_values.specs.Terms.{TyTree, nat, TermTree}
use Rattle.net_build.specs.Nets.{NetTree}
use Rattle.net_build.specs.NetOf.{net_of}
use Rattle.net_build.specs.Sound.{Sound}
use Rattle.net_check.specs.Faults.{FirstFault}
use Rattle.net_terms.specs.Limits.{most_term_height}
use Rattle.net_terms.specs.OfTerm.{IsNetOf, OfNone}
use Rattle.text_lines.specs.Lines.{lines}
use Rattle.net_text.specs.declared.fault.NetTextFault.{NetTextFault}
use Rattle.net_text.specs.declared.fault.NetTextFault.TheVariants.{NoMemory, BadLine, NotSound, NotOfTerm, TooLong}
use Rattle.net_text.specs.Accepted.{Accepts}
use Rattle.net_text.specs.Limits.{most_text_bytes, most_type_height}
use Rattle.net_text.specs.NetText.{FirstBad, TextOf}

-- The net whose listing the bytes are, or the first fault. Want of memory says nothing.
abbrev pub NetOfText : List ℕ → Result NetTree NetTextFault → Type 0
NetOfText bytes (Ok net) = TextOf bytes net
NetOfText bytes (Err NoMemory) = Unit {0}
NetOfText bytes (Err TooLong) = most_text_bytes < length bytes
NetOfText bytes (Err (BadLine n)) = (length bytes ≤ most_text_bytes) × FirstBad most_type_height n (lines bytes)
NetOfText bytes (Err (NotSound f)) = ⊥
NetOfText bytes (Err NotOfTerm) = ⊥

-- The term whose net it is, or the fault that it is that of none. Want of memory says nothing, and there is no other fault.
abbrev pub Answers : ℕ → NetTree → Result (TermTree × TyTree) NetTextFault → Type 0
Answers h net (Ok t) = IsNetOf h net t.0 × (t.1 ≡ nat)
Answers h net (Err NoMemory) = Unit {0}
Answers h net (Err NotOfTerm) = OfNone h net
Answers h net (Err (BadLine n)) = ⊥
Answers h net (Err (NotSound f)) = ⊥
Answers h net (Err TooLong) = ⊥

-- The program whose net it is, or the net's first fault.
abbrev pub Sorted : NetTree → Result (TermTree × TyTree) NetTextFault → Type 0
Sorted net (Ok t) = IsNetOf most_term_height net t.0 × (t.1 ≡ nat)
Sorted net (Err NoMemory) = Unit {0}
Sorted net (Err (NotSound f)) = FirstFault net f
Sorted net (Err NotOfTerm) = Sound net × OfNone most_term_height net
Sorted net (Err (BadLine n)) = ⊥
Sorted net (Err TooLong) = ⊥

-- The program that the bytes list with the net that they list, which is the program's; or the first fault.
abbrev pub AcceptsNet : List ℕ → Result ((TermTree × TyTree) × NetTree) NetTextFault → Type 0
AcceptsNet bytes (Ok p) = Accepts bytes (Ok p.0) × (p.1 ≡ net_of p.0.0)
AcceptsNet bytes (Err e) = Accepts bytes (Err e)
