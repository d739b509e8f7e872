-- Parts of the module that depend on whether there is a product, the registers of ports, and lists that are short where a table fits.
use Rattle.std.proofs.Common.{◌≡◌, ◌∙◌, ◌<◌, ◌+◌, ◌-◌, ◌^◌, ◌++◌, ℕ, zero, suc, Bool, true, false, List, [], ◌∷◌, length, refl, ap, arith}
use Rattle.std.proofs.Common.{append_assoc}
use Rattle.std.specs.Prelude.{◌&&◌, nat_lt}
use Rattle.std.proofs.lemmas.Bool.{and_parts, ltb-true}
use Prim.Native.String.{String}
use Rattle.verilog_tree.specs.Tree.{Expr, Item, name, cat, wire, count, upto}
use Rattle.circuit_module.specs.Fixed.{set}
use Rattle.joined_module.specs.Names.{arg_name, held_name}
use Rattle.joined_module.specs.Ports.{arg_inputs, held_sets}
use Rattle.joined_module.specs.Unit.{operand_wires_of}
use Rattle.verilog_tree.specs.WellFormed.{small}
use Rattle.joined_core.specs.Circuit.{Room}
use Rattle.joined_module.specs.Rows.{ModuleRow}
use Rattle.joined_module.specs.Fields.{Field, sig_count, box_count, fork_count, word_count, row_fields}
use Rattle.joined_module.specs.Fits.{counts_fit, widths_fit, fields_small, each_within, rows_fit_module}
use Rattle.joined_module.specs.Module.{Widths, list_sets, widths, pointers_above, pointers_vector, joined_ports, ports_said}
use Rattle.joined_module.specs.Module.{field_registers, lists_said, store_registers, head_items, module_items, has_product}
use Rattle.joined_fixed.specs.Parts.{less_wires, cells_said, forks_said, store_rest}
use Rattle.joined_tree.specs.Parts.{begun_expr, cell_registers, fork_registers, row_items, store_items}

-- each register takes its port
pub held_lists : (i n : ℕ) → list_sets held_name arg_name i n ≡ held_sets i n
held_lists i zero = refl
held_lists i (suc n) = ap (λ ss. set (held_name i) (name (arg_name i)) ∷ ss) (held_lists (suc i) n)

-- both operands, and whether a difference is wanted
pub operands_are : (b : Bool) (x y : Expr) →
    wire (upto (count 64)) "first" (begun_expr b "total" x) ∷ wire (upto (count 64)) "second" (begun_expr b "factor" y) ∷ less_wires b
    ≡ operand_wires_of b x y
operands_are false x y = refl
operands_are true x y = refl

-- so many pointers above another, from one on
pub above_more : (x : ℕ → String) (i n : ℕ) (e : Expr) → 0 < n →
    pointers_above x i n e ≡ pointers_above x (i + 1) (n - 1) (cat (name (x i)) e)
above_more x i n e h =
    let more : n ≡ suc (n - 1) = omega arith in
    let up : suc i ≡ i + 1 = omega arith in
    ap (λ m. pointers_above x i m e) more ∙ ap (λ j. pointers_above x j (n - 1) (cat (name (x i)) e)) up

-- and a vector of them
pub vector_some : (x : ℕ → String) (n : ℕ) → 0 < n → pointers_vector x n ≡ pointers_above x 1 (n - 1) (name (x 0))
vector_some x n h =
    let more : n ≡ suc (n - 1) = omega arith in
    ap (λ m. pointers_vector x m) more

-- the lists of rows are short where these fit
pub lists_short : (rows : List ModuleRow) (z : Room) (start n : ℕ) → rows_fit_module (widths rows z) start n rows ≡ true →
    (sig_count rows < 2 ^ 31) × ((box_count rows < 2 ^ 31) × ((fork_count rows < 2 ^ 31) × (word_count rows < 2 ^ 31)))
lists_short rows z start n e =
    let W = widths rows z in
    let counted = counts_fit W n (length rows) in
    let all = and_parts (counted && widths_fit W)
    ((nat_lt start (2 ^ W.key) && fields_small (row_fields rows)) && each_within W n rows) e in
    let counts = and_parts counted (widths_fit W) all.0 in
    let lists = and_parts ((small n && small (length rows)) && (small W.cells && small W.forks))
    ((small W.sigs && small W.boxes) && (small W.saved && small W.words)) counts.0 in
    let front = and_parts (small W.sigs && small W.boxes) (small W.saved && small W.words) lists.1 in
    let first = and_parts (small W.sigs) (small W.boxes) front.0 in
    let last = and_parts (small W.saved) (small W.words) front.1 in (
      ltb-true W.sigs (2 ^ 31) first.0,
      (
        ltb-true W.boxes (2 ^ 31) first.1,
        (
          ltb-true W.saved (2 ^ 31) last.0,
          ltb-true W.words (2 ^ 31) last.1,
        ),
      ),
    )

-- five parts, appended one by one
five : (t u v w x a b c d e : List Item) → u ≡ t ++ a → v ≡ u ++ b → w ≡ v ++ c → x ≡ w ++ d →
    x ++ e ≡ t ++ (a ++ (b ++ (c ++ (d ++ e))))
five t u v w x a b c d e f g h i =
    ap (λ z. z ++ e) (i ∙ ap (λ z. z ++ d) (h ∙ ap (λ z. z ++ c) (g ∙ ap (λ z. z ++ b) f)))
    ∙ append_assoc (((t ++ a) ++ b) ++ c) d e ∙ append_assoc ((t ++ a) ++ b) c (d ++ e) ∙ append_assoc (t ++ a) b (c ++ (d ++ e))
    ∙ append_assoc t a (b ++ (c ++ (d ++ e)))

-- cells and forks, and what was read of them
pub store_made : (W : Widths) (t u v w x : List Item) → u ≡ t ++ cells_said → v ≡ u ++ cell_registers W → w ≡ v ++ forks_said →
    x ≡ w ++ fork_registers W → x ++ store_rest ≡ t ++ store_registers W
store_made W t u v w x d e f g =
    five t u v w x cells_said (cell_registers W) forks_said (fork_registers W) store_rest d e f g

-- behind five parts stand the others
behind : (p a q f l s : List Item) → (p ++ (a ++ (q ++ (f ++ l)))) ++ s ≡ p ++ (a ++ (q ++ (f ++ (l ++ s))))
behind p a q f l s =
    append_assoc p (a ++ (q ++ (f ++ l))) s ∙ ap (λ z. p ++ z) (append_assoc a (q ++ (f ++ l)) s
    ∙ ap (λ z. a ++ z) (append_assoc q (f ++ l) s ∙ ap (λ z. q ++ z) (append_assoc f l s)))

-- what is declared in front of all that settles
pub head_made : (W : Widths) (fs : List Field) (n : ℕ) (b : Bool) (t u : List Item) → u ≡ t ++ row_items fs n →
    u ++ store_items W n b ≡ t ++ head_items W fs n b
head_made W fs n b t u e =
    ap (λ z. z ++ store_items W n b) e ∙ append_assoc t (row_items fs n) (store_items W n b)
    ∙ ap (λ z. t ++ z) (behind joined_ports (arg_inputs 0 n) ports_said (field_registers fs) lists_said (store_items W n b))

-- the items of a module, where its widths, its fields and its product are known
pub module_made : (rows : List ModuleRow) (z : Room) (start n : ℕ) (W : Widths) (fs : List Field) (b : Bool) (none all : List Item) →
    none ≡ [] → all ≡ none ++ module_items W start rows fs n b → W ≡ widths rows z → fs ≡ row_fields rows → b ≡ has_product rows →
    all ≡ module_items (widths rows z) start rows (row_fields rows) n (has_product rows)
module_made rows z start n W fs b none all so_none so_all so_wide so_fields so_product =
    so_all ∙ ap (λ is. is ++ module_items W start rows fs n b) so_none ∙ ap (λ V. module_items V start rows fs n b) so_wide
    ∙ ap (λ gs. module_items (widths rows z) start rows gs n b) so_fields
    ∙ ap (λ c. module_items (widths rows z) start rows (row_fields rows) n c) so_product
