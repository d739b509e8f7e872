-- A table that fits a module with so many cells and forks fits one with fewer.
use Rattle.std.proofs.Common.{◌≡◌, ◌≤◌, ◌+◌, ◌*◌, ◌^◌, ℕ, suc, Bool, true, ◌&&◌, List, [], ◌∷◌, length}
use Rattle.std.proofs.Common.{Option, Some, None, refl, sym, ap, ◌∙◌, arith}
use Rattle.std.specs.Prelude.{nat_lt}
use Rattle.std.proofs.lemmas.Bool.{and_parts, and_from}
use Rattle.std.proofs.Math.Nat.{mul-le-mul_right}
use Rattle.circuit_module.specs.Sizes.{bits_for}
use Rattle.circuit_module.proofs.Sizes.{enough_bits, few_bits}
use Rattle.net_build.specs.Nets.{NetTree}
use Rattle.verilog_tree.specs.WellFormed.{small}
use Rattle.joined_core.specs.Rows.{Site}
use Rattle.joined_core.specs.Listed.{Entry, right_table}
use Rattle.joined_core.specs.Circuit.{Room}
use Rattle.joined_module.specs.Rows.{From, from_sig, from_box, from_fork, from_word, part_of_sig, part_of_box}
use Rattle.joined_module.specs.Rows.{ModuleRow, row_looks, opened_boxes, rows_fit}
use Rattle.joined_module.specs.Fields.{bits_upto, row_fields, first_operand, second_operand}
use Rattle.joined_module.specs.Fits.{source_within, sources_within, option_within, operand_within, row_within, row_sound, each_within}
use Rattle.joined_module.specs.Fits.{fields_small, counts_fit, widths_fit, module_fits}
use Rattle.joined_module.specs.Module.{ModuleTable, found_rows, Widths, widths, cell_width, fork_width}
use Rattle.joined_numbers.specs.Within.{rows_within, starts_within}
use Rattle.joined_numbers.specs.Ports.{with_ports}
use Rattle.joined_numbers.specs.Runs.{table_of, module_runs}
use Rattle.joined_module_fits.proofs.Fits.{small_less}
use Rattle.joined_means.proofs.Tables.{checked}

-- ---- what a row names is no matter of cells and forks

module _ (rows : List ModuleRow) (y z : Room) where
  abbrev V : Widths
  V = widths rows y

  abbrev W : Widths
  W = widths rows z

  source_same : (s : From) → source_within V s ≡ source_within W s
  source_same (from_sig i) = refl
  source_same (from_box i) = refl
  source_same (from_fork i) = refl
  source_same (from_word i) = refl
  source_same (part_of_sig t) = refl
  source_same (part_of_box t) = refl
  source_same s = refl

  sources_same : (ss : List From) → sources_within V ss ≡ sources_within W ss
  sources_same [] = refl
  sources_same (s ∷ ss) = ap (λ b. b && sources_within V ss) (source_same s) ∙ ap (λ b. source_within W s && b) (sources_same ss)

  option_same : (o : Option From) → option_within V o ≡ option_within W o
  option_same None = refl
  option_same (Some s) = source_same s

  row_same : (n : ℕ) (r : ModuleRow) → row_within V n r ≡ row_within W n r
  row_same n r =
      let p : Bool = (operand_within n (first_operand r) && operand_within n (second_operand r)) && nat_lt r.moves 256 in
      ap (λ b. (b && sources_within V r.boxes) && ((sources_within V r.words && sources_within V (opened_boxes r.fork)) &&
      (option_within V (row_looks r) && p))) (sources_same r.sigs)
      ∙ ap (λ b. (sources_within W r.sigs && b) && ((sources_within V r.words && sources_within V (opened_boxes r.fork)) &&
      (option_within V (row_looks r) && p))) (sources_same r.boxes)
      ∙ ap (λ b. (sources_within W r.sigs && sources_within W r.boxes) && ((b && sources_within V (opened_boxes r.fork)) &&
      (option_within V (row_looks r) && p))) (sources_same r.words)
      ∙ ap (λ b. (sources_within W r.sigs && sources_within W r.boxes) && ((sources_within W r.words && b) &&
      (option_within V (row_looks r) && p))) (sources_same (opened_boxes r.fork))
      ∙ ap (λ b. (sources_within W r.sigs && sources_within W r.boxes) && ((sources_within W r.words
      && sources_within W (opened_boxes r.fork)) && (b && p))) (option_same (row_looks r))

  each_same : (n : ℕ) (rs : List ModuleRow) → each_within V n rs ≡ each_within W n rs
  each_same n [] = refl
  each_same n (r ∷ rs) =
      ap (λ b. (b && row_sound V r) && each_within V n rs) (row_same n r)
      ∙ ap (λ b. (row_within W n r && row_sound W r) && b) (each_same n rs)

-- ---- widths

fewer_bits : (k m : ℕ) → k ≤ m → bits_upto k ≤ bits_upto m
fewer_bits k m l =
    let a = enough_bits (suc m) in
    let b = few_bits (suc k) (bits_for (suc m)) (omega (arith, a, l)) in
    omega (arith, b)

module _ (rows : List ModuleRow) (y z : Room) (c : z.cells ≤ y.cells) (f : z.forks ≤ y.forks) where
  place : (widths rows z).place ≤ (widths rows y).place
  place = fewer_bits z.cells y.cells c

  pointers : (k : ℕ) → ((widths rows z).place + (widths rows z).tag) * k ≤ ((widths rows y).place + (widths rows y).tag) * k
  pointers k = let p = place in mul-le-mul_right k (omega (arith, p))

  counts_less : (n k : ℕ) → counts_fit (widths rows y) n k ≡ true → counts_fit (widths rows z) n k ≡ true
  counts_less n k h =
      let V = widths rows y in
      let lists : Bool = (small V.sigs && small V.boxes) && (small V.saved && small V.words) in
      let (a, b) = and_parts ((small n && small k) && (small V.cells && small V.forks)) lists h in
      let (d, e) = and_parts (small n && small k) (small V.cells && small V.forks) a in
      let (g, i) = and_parts (small V.cells) (small V.forks) e in
      and_from ((small n && small k) && (small z.cells && small z.forks)) lists
      (and_from (small n && small k) (small z.cells && small z.forks) d
      (and_from (small z.cells) (small z.forks) (small_less z.cells y.cells c g) (small_less z.forks y.forks f i))) b

  widths_less : widths_fit (widths rows y) ≡ true → widths_fit (widths rows z) ≡ true
  widths_less h =
      let V = widths rows y in
      let W = widths rows z in
      let (a, b) = and_parts (small (V.place + V.tag) && small V.depth) (small (cell_width V) && small (fork_width V)) h in
      let (p, d) = and_parts (small (V.place + V.tag)) (small V.depth) a in
      let (cell, fork) = and_parts (small (cell_width V)) (small (fork_width V)) b in
      let l = place in
      let w = pointers W.words in
      let s = pointers W.saved in
      and_from (small (W.place + W.tag) && small W.depth) (small (cell_width W) && small (fork_width W))
      (and_from (small (W.place + W.tag)) (small W.depth) (small_less (W.place + W.tag) (V.place + V.tag) (omega (arith, l)) p)
      (small_less W.depth V.depth (fewer_bits z.forks y.forks f) d))
      (and_from (small (cell_width W)) (small (fork_width W)) (small_less (cell_width W) (cell_width V) (omega (arith, w)) cell)
      (small_less (fork_width W) (fork_width V) (omega (arith, l, s)) fork))

-- ---- so the whole

-- counts and widths are no larger, and the rows' own numbers are the same
pub fits_less : (T : ModuleTable) (y z : Room) (n : ℕ) → z.cells ≤ y.cells → z.forks ≤ y.forks → module_fits T y n ≡ true →
    module_fits T z n ≡ true
fits_less T y z n c f h =
    let rows = found_rows T.rows in
    let V = widths rows y in
    let W = widths rows z in
    let start : Bool = nat_lt T.start (2 ^ V.key) && fields_small (row_fields rows) in
    let (a, b) = and_parts (counts_fit V n (length rows) && widths_fit V) (start && each_within V n rows) h in
    let (counts, wide) = and_parts (counts_fit V n (length rows)) (widths_fit V) a in
    let (s, each) = and_parts start (each_within V n rows) b in
    and_from (counts_fit W n (length rows) && widths_fit W) (start && each_within W n rows)
    (and_from (counts_fit W n (length rows)) (widths_fit W) (counts_less rows y z c f n (length rows) counts)
    (widths_less rows y z c f wide)) (and_from start (each_within W n rows) s (sym (each_same rows y z n rows) ∙ each))

-- what is asked of a table and its module
pub all_runs : (net : NetTree) (places : List ℕ) (sites : List (ℕ × Site)) (entries : List Entry) (z : Room) →
    right_table (with_ports net places) sites entries ≡ true → rows_fit entries ≡ true →
    rows_within (length places) sites entries ≡ true → starts_within net sites ≡ true →
    module_fits (table_of net sites entries) z (length places) ≡ true → module_runs net places sites entries z ≡ true
all_runs net places sites entries z a b c d e =
    let fits = module_fits (table_of net sites entries) z (length places) in
    let four = and_from (starts_within net sites) fits d e in
    let three = and_from (rows_within (length places) sites entries) (starts_within net sites && fits) c four in
    let two = and_from (rows_fit entries) (rows_within (length places) sites entries && (starts_within net sites && fits)) b three in
    and_from (right_table (with_ports net places) sites entries)
    (rows_fit entries && (rows_within (length places) sites entries && (starts_within net sites && fits))) a two

pub runs_less : (net : NetTree) (places : List ℕ) (sites : List (ℕ × Site)) (entries : List Entry) (y z : Room) →
    z.cells ≤ y.cells → z.forks ≤ y.forks → module_runs net places sites entries y ≡ true → module_runs net places sites entries z ≡ true
runs_less net places sites entries y z c f h =
    let k = checked net places sites entries y h in
    all_runs net places sites entries z k.right k.fit k.within k.start
    (fits_less (table_of net sites entries) y z (length places) c f k.wide)
