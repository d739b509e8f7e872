-- What `read_program` answers: which tree bytes stand for, and which fault is their first.
-- Bytes that are too long, or are no text, have that fault, whatever stands in them. Else their characters split into tokens, and the
-- tokens decide.
use Rattle.std.specs.Prelude.{◌≡◌, ℕ, ◌<◌, ◌≤◌, List, length, true, encode_utf8_all}
use Rattle.std.specs.Str.{IsUtf8, IsValidUpTo, all_scalars}
use Rattle.pcf_values.specs.Named.{NamedTree}
use Rattle.pcf_reader.specs.Tokens.{Placed}
use Rattle.pcf_reader.specs.Spelling.{Splits}
use Rattle.pcf_reader.specs.Text.{Derives, IsFirstFault}
use Rattle.pcf_reader.specs.declared.fault.ReadFault.{ReadFault}
use Rattle.pcf_reader.specs.declared.fault.ReadFault.TheVariants.{NoMemory, NotText, TooLong}
use Rattle.pcf_values.specs.Most.{most_program_bytes}

-- the bytes are the UTF-8 of characters that split into these tokens
pub record HasTokens (bytes : List ℕ) (items : List Placed) : Type 0 where
  pub short : length bytes ≤ most_program_bytes
  pub characters : List ℕ
  pub scalars : all_scalars characters ≡ true
  pub encoded : encode_utf8_all characters ≡ bytes
  pub splits : Splits 0 characters items

-- the bytes stand for the tree
abbrev pub Text : List ℕ → NamedTree → Type 0
Text bytes tree = (items : List Placed) × HasTokens bytes items × Derives items tree

-- a token of the bytes has their first fault
abbrev pub TokenFault : List ℕ → ReadFault → Type 0
TokenFault bytes f = (items : List Placed) × HasTokens bytes items × IsFirstFault items f

-- the very first fault of the bytes; want of memory is no fault of theirs
abbrev pub FirstFault : List ℕ → ReadFault → Type 0
FirstFault bytes TooLong = most_program_bytes < length bytes
FirstFault bytes (NotText at) = (length bytes ≤ most_program_bytes) × (IsUtf8 bytes → ⊥) × IsValidUpTo bytes at
FirstFault bytes NoMemory = ⊥
FirstFault bytes f = TokenFault bytes f
