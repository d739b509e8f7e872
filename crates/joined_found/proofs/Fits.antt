-- Fields have room for their numbers.
use Rattle.std.proofs.Common.{◌≡◌, ◌<◌, ◌≤◌, ℕ, suc, ◌-◌, ◌^◌, max, Bool, List, [], ◌∷◌, ◌++◌, Option, Some, None, arith, refl}
use Rattle.std.proofs.Math.Nat.{pow-le-pow_right}
use Prim.Native.String.{String}
use Rattle.verilog_tree.specs.Meaning.{flag, width_of}
use Rattle.verilog_tree.proofs.Numbers.{flag_le}
use Rattle.joined_module.specs.Rows.{From, Operand, the_value, the_kept, a_literal, a_port, ModuleRow}
use Rattle.joined_module.specs.Fields.{Field, flag_field, number_field, bits_upto, most_by, Slot, tag_else, tag_or, tag_of_from, first_tag}
use Rattle.joined_module.specs.Fields.{by_field, tag_field, all_slots, seen_tag, most_tag, tag_bits, Input, first_input, second_input}
use Rattle.joined_module.specs.Fields.{number_or}
use Rattle.joined_module.specs.Fields.{first_number, operand_field, literal_field, none_field, to_field, count_field, slot_fields}
use Rattle.joined_module.specs.Fields.{input_fields, row_fields}
use Rattle.joined_found.specs.Found.{Each}
use Rattle.joined_found.specs.Laws.{FieldFits, FieldsFit}
use Rattle.joined_found.proofs.Eaches.{each_map, each_of, each_append}
use Rattle.joined_found.proofs.Bits.{bits_fit, bits_some, none_fits, most_is, most_fits}

flag_low : (b : Bool) → flag b < 2 ^ 1
flag_low b = let h = flag_le b in omega arith

flag_fits : (rows : List ModuleRow) (x : String) (f : ModuleRow → Bool) → FieldFits rows (flag_field x f)
flag_fits rows x f = (omega arith, each_of (λ r. flag (f r) < 2 ^ 1) (λ r. flag_low (f r)) rows)

number_fits : (rows : List ModuleRow) (x : String) (f : ModuleRow → ℕ) → FieldFits rows (number_field rows x f)
number_fits rows x f = (none_fits (most_by f rows), most_fits f rows)

count_fits : (rows : List ModuleRow) → FieldFits rows (count_field rows)
count_fits rows = (
  wider 0 (none_fits (most_by (λ r. r.moves) rows)),
  each_map (λ r. r.moves < 2 ^ b) (λ r. r.moves < 2 ^ max 9 b) (λ r. wider r.moves) rows (most_fits (λ r. r.moves) rows),
)
  where
    b : ℕ
    b = bits_upto (most_by (λ r. r.moves) rows)

    wider : (n : ℕ) → n < 2 ^ b → n < 2 ^ max 9 b
    wider n l = let up : 2 ^ b ≤ 2 ^ max 9 b = pow-le-pow_right (omega arith) (omega arith) in omega arith

none_field_fits : (rows : List ModuleRow) → FieldFits rows none_field
none_field_fits rows = (omega arith, each_of (λ r. 0 < 2 ^ 1) (λ r. omega arith) rows)

to_fits : (rows : List ModuleRow) → FieldFits rows (to_field rows)
to_fits rows = (
  none_fits (most_by (λ r. max r.to r.key) rows),
  each_map (λ r. max r.to r.key ≤ most_by (λ r. max r.to r.key) rows) (λ r. r.to < 2 ^ bits_upto (most_by (λ r. max r.to r.key) rows))
      (λ r l. bits_fit (most_by (λ r. max r.to r.key) rows) r.to (omega arith)) rows (most_is (λ r. max r.to r.key) rows),
)

-- and each key too
pub keys_fit : (rows : List ModuleRow) → Each (λ r. r.key < 2 ^ (to_field rows).bits) rows
keys_fit rows =
    each_map (λ r. max r.to r.key ≤ most_by (λ r. max r.to r.key) rows) (λ r. r.key < 2 ^ bits_upto (most_by (λ r. max r.to r.key) rows))
    (λ r l. bits_fit (most_by (λ r. max r.to r.key) rows) r.key (omega arith)) rows (most_is (λ r. max r.to r.key) rows)

-- ---- tags

tag_else_low : (n : ℕ) (o : Option ℕ) → tag_else n o ≤ max n (tag_else 0 o)
tag_else_low n None = omega arith
tag_else_low n (Some t) = omega arith

tag_low : (n : ℕ) (o : Option From) → tag_or n o ≤ max n (tag_or 0 o)
tag_low n None = omega arith
tag_low n (Some s) = tag_else_low n (tag_of_from s)

first_low : (s : Slot) (rows : List ModuleRow) → first_tag s rows ≤ most_by (λ r. tag_or 0 (s.source r)) rows
first_low s [] = omega arith
first_low s (r ∷ rs) = let h = first_low s rs in let l = tag_low (first_tag s rs) (s.source r) in omega arith

-- a tag's field has room where its bits are those of the greatest tag
tag_fits : (b : ℕ) (rows : List ModuleRow) (s : Slot) (m : ℕ) → b ≡ bits_upto m → most_by (λ r. tag_or 0 (s.source r)) rows ≤ m →
    FieldFits rows (tag_field b rows s)
tag_fits b rows s m e l =
    let h = first_low s rows in
    rw e (
      bits_fit m (first_tag s rows) (omega arith),
      each_map (λ r. tag_or 0 (s.source r) ≤ most_by (λ r. tag_or 0 (s.source r)) rows)
          (λ r. tag_or (first_tag s rows) (s.source r) < 2 ^ bits_upto m)
          (λ r g. let k = tag_low (first_tag s rows) (s.source r) in bits_fit m (tag_or (first_tag s rows) (s.source r)) (omega arith)) rows
          (most_is (λ r. tag_or 0 (s.source r)) rows),
    )

slots_fit : (b m : ℕ) (rows : List ModuleRow) → b ≡ bits_upto m → (ss : List Slot) → most_tag ss rows ≤ m →
    Each (FieldFits rows) (slot_fields b rows ss)
slots_fit b m rows e [] l = tt
slots_fit b m rows e (s ∷ ss) l = (
  number_fits rows (by_field rows s).title (by_field rows s).at,
  (tag_fits b rows s m e (omega arith), slots_fit b m rows e ss (omega arith)),
)

-- each tag that is seen
pub seen_fits : (rows : List ModuleRow) → Each (λ r. seen_tag r < 2 ^ tag_bits rows) rows
seen_fits rows =
    each_map (λ r. seen_tag r ≤ most_by seen_tag rows) (λ r. seen_tag r < 2 ^ tag_bits rows)
    (λ r l. bits_fit (max (most_by seen_tag rows) (most_tag (all_slots rows) rows)) (seen_tag r) (omega arith)) rows
    (most_is seen_tag rows)

pub tag_some : (rows : List ModuleRow) → 1 ≤ tag_bits rows
tag_some rows = bits_some (max (most_by seen_tag rows) (most_tag (all_slots rows) rows))

-- ---- operands

number_low : (n : ℕ) (o : Option Operand) → number_or n o ≤ max n (number_or 0 o)
number_low n None = omega arith
number_low n (Some the_value) = omega arith
number_low n (Some the_kept) = omega arith
number_low n (Some (a_literal m)) = omega arith
number_low n (Some (a_port m)) = omega arith

first_number_low : (s : Input) (rows : List ModuleRow) → first_number s rows ≤ most_by (λ r. number_or 0 (s.source r)) rows
first_number_low s [] = omega arith
first_number_low s (r ∷ rs) = let h = first_number_low s rs in let l = number_low (first_number s rs) (s.source r) in omega arith

literal_fits : (rows : List ModuleRow) (s : Input) → FieldFits rows (literal_field rows s)
literal_fits rows s =
    let m : ℕ = most_by (λ r. number_or 0 (s.source r)) rows in
    let h = first_number_low s rows in (
      bits_fit m (first_number s rows) h,
      each_map (λ r. number_or 0 (s.source r) ≤ m) (λ r. number_or (first_number s rows) (s.source r) < 2 ^ bits_upto m)
          (λ r g. let k = number_low (first_number s rows) (s.source r) in
          bits_fit m (number_or (first_number s rows) (s.source r)) (omega arith)) rows
          (most_is (λ r. number_or 0 (s.source r)) rows),
    )

inputs_fit : (rows : List ModuleRow) (ss : List Input) → Each (FieldFits rows) (input_fields rows ss)
inputs_fit rows [] = tt
inputs_fit rows (s ∷ ss) = (
  number_fits rows (operand_field rows s).title (operand_field rows s).at,
  (literal_fits rows s, inputs_fit rows ss),
)

-- ---- as wide as they are declared

abbrev pub IsWide : (String → ℕ) → Field → Type 0
IsWide p f = width_of p f.wide ≡ f.bits

vector_bits : (m : ℕ) → suc (bits_upto m - 1) ≡ bits_upto m
vector_bits m = let h = bits_some m in omega arith

count_bits : (b : ℕ) → suc (max 9 b - 1) ≡ max 9 b
count_bits b = omega arith

slots_wide : (p : String → ℕ) (m : ℕ) (rows : List ModuleRow) (ss : List Slot) → Each (IsWide p) (slot_fields (bits_upto m) rows ss)
slots_wide p m rows [] = tt
slots_wide p m rows (s ∷ ss) = (vector_bits (most_by (by_field rows s).at rows), (vector_bits m, slots_wide p m rows ss))

inputs_wide : (p : String → ℕ) (rows : List ModuleRow) (ss : List Input) → Each (IsWide p) (input_fields rows ss)
inputs_wide p rows [] = tt
inputs_wide p rows (s ∷ ss) = (
  vector_bits (most_by (operand_field rows s).at rows),
  (vector_bits (most_by (λ r. number_or 0 (s.source r)) rows), inputs_wide p rows ss),
)

-- each field is as wide as its bits
pub fields_wide : (p : String → ℕ) (rows : List ModuleRow) → Each (IsWide p) (row_fields rows)
fields_wide p rows =
    let m : ℕ = max (most_by seen_tag rows) (most_tag (all_slots rows) rows) in
    let rest : Each (IsWide p) (input_fields rows (first_input ∷ second_input ∷ []) ++ slot_fields (tag_bits rows) rows (all_slots rows)) =
    each_append (IsWide p) (input_fields rows (first_input ∷ second_input ∷ [])) (slot_fields (tag_bits rows) rows (all_slots rows))
    (inputs_wide p rows (first_input ∷ second_input ∷ [])) (slots_wide p m rows (all_slots rows)) in (
      refl,
      (
        vector_bits (most_by (λ r. max r.to r.key) rows),
        (
          count_bits (bits_upto (most_by (λ r. r.moves) rows)),
          (
            refl,
            (
              refl,
              (
                refl,
                (
                  refl,
                  (
                    refl,
                    (refl, (refl, (refl, (refl, (refl, (refl, (refl, (refl, (refl, (refl, rest)))))))))),
                  ),
                ),
              ),
            ),
          ),
        ),
      ),
    )

-- ---- all of them

-- each field has room for its number in each row, and where there is no row
pub fields_fit : FieldsFit
fields_fit rows =
    let m : ℕ = max (most_by seen_tag rows) (most_tag (all_slots rows) rows) in
    let rest : Each (FieldFits rows)
    (input_fields rows (first_input ∷ second_input ∷ []) ++ slot_fields (tag_bits rows) rows (all_slots rows)) =
    each_append (FieldFits rows) (input_fields rows (first_input ∷ second_input ∷ [])) (slot_fields (tag_bits rows) rows (all_slots rows))
    (inputs_fit rows (first_input ∷ second_input ∷ [])) (slots_fit (tag_bits rows) m rows refl (all_slots rows) (omega arith)) in (
      none_field_fits rows,
      (
        to_fits rows,
        (
          count_fits rows,
          (
            flag_fits rows "waits" _,
            (
              flag_fits rows "later" _,
              (
                flag_fits rows "tests" _,
                (
                  flag_fits rows "needs" _,
                  (
                    flag_fits rows "ends" _,
                    (
                      flag_fits rows "makes" _,
                      (
                        flag_fits rows "opens" _,
                        (
                          flag_fits rows "above" _,
                          (
                            flag_fits rows "keeps" _,
                            (
                              flag_fits rows "closes" _,
                              (
                                flag_fits rows "touches" _,
                                (
                                  flag_fits rows "takes" _,
                                  (
                                    flag_fits rows "computes" _,
                                    (
                                      flag_fits rows "subtracts" _,
                                      (flag_fits rows "multiplies" _, rest),
                                    ),
                                  ),
                                ),
                              ),
                            ),
                          ),
                        ),
                      ),
                    ),
                  ),
                ),
              ),
            ),
          ),
        ),
      ),
    )
