-- The views: the numbers of a table's keys and shapes, and what the names of pointers and values stand for.
use Rattle.std.specs.Prelude.{ℕ, map}
use Rattle.joined_rows.specs.Open.{Term}
use Rattle.joined_core.specs.Rows.{given_at}
use Rattle.joined_core.specs.Listed.{site_of}
use Rattle.joined_core.specs.Numbers.{key_number}
use Rattle.joined_module.specs.Rows.{From, Operand, Numbering, term_place, first_from, second_from, first_value, second_value}
use Rattle.joined_data.specs.Views as data_views
use Rattle.joined_table.specs.Views.{term_view, source_view, site_view, sites_view, entries_view}
use Rattle.joined_entries.specs.declared.numbers.Shape.{Shape}
use Rattle.joined_entries.specs.declared.numbers.Numbers.{Numbers}
use Rattle.joined_entries.specs.declared.given.Given.{Given}
use Rattle.joined_entries.specs.declared.given.Given.TheVariants as given
use Rattle.joined_entries.specs.declared.values.Values.{Values}
use Rattle.joined_entries.specs.declared.values.Values.TheVariants as values

-- a shape that rows see
abbrev pub shape_view : Shape → Term
shape_view s = term_view s.term.now

-- the numbers of keys, the tags of shapes, and what is looked at
abbrev pub numbers_view : Numbers → Numbering
numbers_view n = record {
  key = key_number (entries_view n.entries.now);
  tag = term_place (map shape_view n.shapes.now);
  site = site_of (sites_view n.sites.now);
}

-- where pointers' names come from
abbrev pub given_from : (Term → ℕ) → Given → ℕ → From
given_from tag (given.First w list) = λ n. first_from tag (site_view w) (given_at (map source_view list.now) n)
given_from tag (given.Second list) = λ n. second_from tag (given_at (map source_view list.now) n)

-- what values' names stand for
abbrev pub value_named : Values → ℕ → Operand
value_named values.First = first_value
value_named (values.Second x) = second_value (data_views.operand_view x)
