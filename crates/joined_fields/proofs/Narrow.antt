-- Widths of a table whose lists are short.
use Rattle.std.proofs.Common.{◌≡◌, ◌≤◌, ◌<◌, ◌^◌, List, subst, sym, ap}
use Rattle.joined_core.specs.Circuit.{Room}
use Rattle.joined_module.specs.Rows.{ModuleRow}
use Rattle.joined_module.specs.Fields.{sig_count, box_count, fork_count, word_count, tag_bits}
use Rattle.joined_module.specs.Module.{Widths, widths}
use Rattle.joined_fields.specs.Views.{Narrow}

-- the code's numbers have room for them
pub narrow : (W : Widths) (rows : List ModuleRow) (z : Room) → W ≡ widths rows z → W.place ≤ 64 → W.tag ≤ 64 →
    sig_count rows < 2 ^ 31 → box_count rows < 2 ^ 31 → fork_count rows < 2 ^ 31 → word_count rows < 2 ^ 31 → Narrow W
narrow W rows z e p t s b f w =
    let sigs = subst (λ n. n < 2 ^ 31) (sym (ap (λ (V : Widths). V.sigs) e)) s in
    let boxes = subst (λ n. n < 2 ^ 31) (sym (ap (λ (V : Widths). V.boxes) e)) b in
    let saved = subst (λ n. n < 2 ^ 31) (sym (ap (λ (V : Widths). V.saved) e)) f in
    let words = subst (λ n. n < 2 ^ 31) (sym (ap (λ (V : Widths). V.words) e)) w in
    (p, (t, (sigs, (boxes, (saved, words)))))

-- a tag has as many bits as all have that rows see or make
pub tag_is : (W : Widths) (rows : List ModuleRow) (z : Room) → W ≡ widths rows z → W.tag ≡ tag_bits rows
tag_is W rows z e = ap (λ (V : Widths). V.tag) e
