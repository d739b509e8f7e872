-- Lists of rows that are short, and others.
use Rattle.std.proofs.Common.{◌≡◌, ◌<◌, ◌^◌, ℕ, true, false, List, length}
use Rattle.std.specs.Prelude.{◌&&◌, nat_lt}
use Rattle.std.proofs.lemmas.Bool.{and_parts, and_left, and_right, ltb-true}
use Rattle.joined_core.specs.Circuit.{Room}
use Rattle.verilog_tree.specs.WellFormed.{small}
use Rattle.joined_module.specs.Rows.{ModuleRow}
use Rattle.joined_module.specs.Fields.{sig_count, box_count, fork_count, word_count, row_fields}
use Rattle.joined_module.specs.Module.{widths}
use Rattle.joined_module.specs.Fits.{counts_fit, widths_fit, fields_small, each_within, rows_fit_module}
use Rattle.joined_fits.specs.Parts.{lists_small}

-- such lists are short
pub short_lists : (rows : List ModuleRow) → lists_small rows ≡ true →
    (sig_count rows < 2 ^ 31) × ((box_count rows < 2 ^ 31) × ((fork_count rows < 2 ^ 31) × (word_count rows < 2 ^ 31)))
short_lists rows e =
    let both = and_parts (small (sig_count rows) && small (box_count rows)) (small (fork_count rows) && small (word_count rows)) e in
    let first = and_parts (small (sig_count rows)) (small (box_count rows)) both.0 in
    let last = and_parts (small (fork_count rows)) (small (word_count rows)) both.1 in (
      ltb-true (sig_count rows) (2 ^ 31) first.0,
      (
        ltb-true (box_count rows) (2 ^ 31) first.1,
        (ltb-true (fork_count rows) (2 ^ 31) last.0, ltb-true (word_count rows) (2 ^ 31) last.1),
      ),
    )

-- and others don't fit
pub long_lists : (rows : List ModuleRow) (z : Room) (start n : ℕ) → lists_small rows ≡ false →
    rows_fit_module (widths rows z) start n rows ≡ false
long_lists rows z start n e =
    let W = widths rows z in
    let counted = counts_fit W n (length rows) in
    and_left (counted && widths_fit W) ((nat_lt start (2 ^ W.key) && fields_small (row_fields rows)) && each_within W n rows)
    (and_left counted (widths_fit W)
    (and_right ((small n && small (length rows)) && (small W.cells && small W.forks)) (lists_small rows) e))
