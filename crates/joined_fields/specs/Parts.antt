-- Parts of a module's tree, each as `joined_module` has it.
use Rattle.std.specs.Prelude.{ℕ, zero, suc, ◌+◌, ◌*◌, max, List, [], ◌∷◌, ◌++◌, Option, Some, None, Bool, true, false}
use Prim.Native.String.{String}
use Rattle.verilog_tree.specs.Tree.{count, Expr, name, part, pick, two, plus, minus, sized, logic, both, none, Stmt, seq, Item, wire}
use Rattle.verilog_tree.specs.Tree.{note, gap}
use Rattle.verilog_tree.specs.Tree.{reg, memory, one, upto, Arms, otherwise, skip, put, branch, word_at, same, test}
use Rattle.verilog_tree.specs.Views.{stmt_of}
use Rattle.joined_fields.specs.declared.chains.Chain.{Chain}
use Rattle.joined_fields.specs.declared.chains.Chain.TheVariants as chain
use Rattle.circuit_module.specs.Fixed.{set, block}
use Rattle.joined_module.specs.Names.{new_word_name}
use Rattle.joined_module.specs.Rows.{ModuleRow}
use Rattle.joined_module.specs.Fields.{vector_wide, Field, none_field, to_field, count_field, waits_field, later_field, tests_field}
use Rattle.joined_module.specs.Fields.{needs_field}
use Rattle.joined_module.specs.Fields.{ends_field, makes_field, opens_field, above_field, keeps_field, closes_field, touches_field}
use Rattle.joined_module.specs.Fields.{takes_field}
use Rattle.joined_module.specs.Fields.{number_made_field, subtracts_field, multiplies_field, operand_field, literal_field, Input}
use Rattle.joined_module.specs.Module.{Widths, cell_width, fork_width, pointers_vector, no_room_expr, key_arm, rows_at, now}

-- statements one after the other, if there are any
abbrev pub with_next : Stmt → Option Stmt → Stmt
with_next s None = s
with_next s (Some t) = seq s t

abbrev pub chain_of : List Stmt → Option Stmt
chain_of [] = None
chain_of (s ∷ ss) = Some (with_next s (chain_of ss))

-- one statement for them
abbrev pub chained : Option Stmt → Stmt
chained None = skip
chained (Some s) = s

-- those of the code
abbrev pub chain_view : Chain → Option Stmt
chain_view chain.Empty = None
chain_view (chain.Linked s) = Some (stmt_of s.now)

-- those of the first fields
abbrev pub first_fields : List ModuleRow → List Field
first_fields rows = none_field ∷ to_field rows ∷ count_field rows ∷ []

abbrev pub walk_flags : List Field
walk_flags = waits_field ∷ later_field ∷ tests_field ∷ needs_field ∷ ends_field ∷ makes_field ∷ []

abbrev pub fork_flags : List Field
fork_flags = opens_field ∷ above_field ∷ keeps_field ∷ closes_field ∷ touches_field ∷ []

abbrev pub number_flags : List Field
number_flags = takes_field ∷ number_made_field ∷ subtracts_field ∷ multiplies_field ∷ []

-- both fields of an operand
abbrev pub both_fields : List ModuleRow → Input → List Field
both_fields rows s = operand_field rows s ∷ literal_field rows s ∷ []

-- the arm of one key, in front of others
abbrev pub one_key : (bits tag : ℕ) → List Field → List ModuleRow → ℕ → Arms → Arms
one_key b t fs rows k rest = key_arm b t fs k (rows_at true k rows) (rows_at false k rows) rest
