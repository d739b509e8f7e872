-- How the logic stores entries and their keys, so that a type whose value is a map of them can have a model.
-- An entry is stored as an option of one value or another, and a key as a pair, and both are read back.
use Rattle.std.specs.Prelude.{◌≡◌, ◌⊎◌, Option, Some, None, refl}
use Rattle.std.proofs.Common.{inl, inr}
use Rattle.std.specs.Coded.{Coded, code_by, coded_ℕ, coded_option, coded×, coded⊎}
use Rattle.pcf_values.specs.declared.val.Val.{Val}
use Rattle.pcf_values.specs.Codes.{val_code}
use Rattle.token_stacks.specs.Codes.{boxes_code}
use Rattle.fork_join.specs.Entries.{Entry, pending, has_left, has_right, Key}

abbrev pub entry_parts : Entry → Option (Val ⊎ Val)
entry_parts pending = None
entry_parts (has_left v) = Some (inl v)
entry_parts (has_right v) = Some (inr v)

abbrev pub parts_entry : Option (Val ⊎ Val) → Entry
parts_entry None = pending
parts_entry (Some (inl v)) = has_left v
parts_entry (Some (inr v)) = has_right v

pub entry_back : (e : Entry) → parts_entry (entry_parts e) ≡ e
entry_back pending = refl
entry_back (has_left v) = refl
entry_back (has_right v) = refl

abbrev pub entry_code : Coded Entry
entry_code = code_by (Option (Val ⊎ Val)) (coded_option (coded⊎ val_code val_code)) entry_parts parts_entry entry_back

abbrev pub key_code : Coded Key
key_code = coded× coded_ℕ boxes_code
