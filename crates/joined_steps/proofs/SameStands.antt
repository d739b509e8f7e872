-- What is at `rst` and at the ports of arguments, and what is read past ends, is no matter of what the registers stand for.
use Rattle.std.proofs.Common.{◌≡◌, ℕ, suc, ◌+◌, Bool, true, false, not, List, [], ◌∷◌, ◌++◌, length, Some, refl}
use Rattle.std.proofs.Common.{ap, ◌∙◌}
use Rattle.std.proofs.lemmas.Bool.{and_parts, not-true}
use Prim.Native.String.{String}
use lib.Text.{eqt}
use Rattle.verilog_tree.specs.Tree.{Item, Width, count, reg}
use Rattle.verilog_tree.specs.Meaning.{Store, chosen, set_vec}
use Rattle.verilog_tree.specs.WellFormed.{member}
use Rattle.verilog_tree.specs.Items.{Has, item_name}
use Rattle.verilog_tree.proofs.Lists.{in_front, behind}
use Rattle.joined_module.specs.Names.{arg_name, held_name, sig_name, box_name}
use Rattle.joined_module.specs.Fields.{Field, vector_wide}
use Rattle.joined_module.specs.Ports.{arg_inputs, held_regs, set_args}
use Rattle.joined_module.specs.Unit.{unit_registers}
use Rattle.joined_module.specs.Module.{Widths, joined_ports, ports_said, field_registers, lists_said, store_registers}
use Rattle.joined_module.specs.Module.{head_items}
use Rattle.joined_clock.proofs.Offs.{Ok, ok_behind, off, off_front, off_above, off_below, names_of, item_named, unit_named}
use Rattle.joined_clock.proofs.Groups.{sig_regs, box_regs, behind_boxes, behind_sigs, behind_fields, behind_said, behind_ports}
use Rattle.joined_clock.proofs.Fetched.{each_in, upto_in, held_in}
use Rattle.joined_steps.specs.Laws.{StandsSame}
use Rattle.joined_steps.proofs.Kept.{Regs}
use Rattle.joined_steps.proofs.Same.{stands_same}
use Rattle.joined_steps.proofs.Module.{W, fs, b, ok}

off_set : (x y : String) (v : ℕ) (S : Store) → eqt y x ≡ false → (set_vec y v S).vec x ≡ S.vec x
off_set x y v S h = ap (λ c. chosen c v (S.vec x)) h

args_left : (x : String) (i : ℕ) (ws : List ℕ) → off x (arg_inputs i (length ws)) ≡ true → (S : Store) → (set_args i ws S).vec x ≡ S.vec x
args_left x i [] h S = refl
args_left x i (w ∷ ws) h S =
    let (a, c) = and_parts (not (eqt (arg_name i) x)) (off x (arg_inputs (suc i) (length ws))) h in
    args_left x (suc i) ws c (set_vec (arg_name i) w S) ∙ off_set x (arg_name i) w S (not-true (eqt (arg_name i) x) a)

args_calm : (i : ℕ) (ws : List ℕ) (S : Store) → (set_args i ws S).mem ≡ S.mem
args_calm i [] S = refl
args_calm i (w ∷ ws) S = args_calm (suc i) ws (set_vec (arg_name i) w S)

module _ (W : Widths) (fs : List Field) (n : ℕ) (b : Bool) (ok : Ok (head_items W fs n b)) (S : Store) (stray : String → ℕ → ℕ)
    (ws : List ℕ) (long : length ws ≡ n) (v : ℕ) where
  abbrev Y : Store
  Y = set_args 0 ws (set_vec "rst" v (record S { stray = stray }))

  same_of : (x : String) → eqt "rst" x ≡ false → off x (arg_inputs 0 n) ≡ true → Y.vec x ≡ S.vec x
  same_of x a o =
      args_left x 0 ws (ap (λ k. off x (arg_inputs 0 k)) long ∙ o) (set_vec "rst" v (record S { stray = stray }))
      ∙ off_set x "rst" v (record S { stray = stray }) a

  abbrev behind_args : List Item
  behind_args = ports_said ++ behind_said W fs n b

  -- what is declared behind the ports
  of_said : (i : Item) → Has i (behind_said W fs n b) → (x : String) → item_name i ≡ Some x → Y.vec x ≡ S.vec x
  of_said i h x e =
      let m = behind i ports_said (behind_said W fs n b) h in
      let p = off_above joined_ports (behind_ports W fs n b) ok i (behind i (arg_inputs 0 n) behind_args m) x e in
      let (c, d) = and_parts (not (eqt "clk" x)) _ p in
      let (f, g) = and_parts (not (eqt "rst" x)) _ d in
      same_of x (not-true (eqt "rst" x) f)
      (off_above (arg_inputs 0 n) behind_args (ok_behind joined_ports (behind_ports W fs n b) ok) i m x e)

  -- and the outputs
  of_port : (i : Item) → Has i joined_ports → (x : String) → item_name i ≡ Some x → eqt "rst" x ≡ false → Y.vec x ≡ S.vec x
  of_port i h x e a =
      same_of x a (off_front x (arg_inputs 0 n) behind_args (off_below joined_ports (behind_ports W fs n b) ok i h x e))

  in_fields : (i : Item) → Has i (field_registers fs) → Has i (behind_said W fs n b)
  in_fields i h = in_front i (field_registers fs) (behind_fields W fs n b) h

  in_sigs_on : (i : Item) → Has i (sig_regs W fs n b ++ behind_sigs W fs n b) → Has i (behind_said W fs n b)
  in_sigs_on i h =
      behind i (field_registers fs) (behind_fields W fs n b) (behind i lists_said (sig_regs W fs n b ++ behind_sigs W fs n b) h)

  in_boxes_on : (i : Item) → Has i (behind_sigs W fs n b) → Has i (behind_said W fs n b)
  in_boxes_on i h = in_sigs_on i (behind i (sig_regs W fs n b) (behind_sigs W fs n b) h)

  in_held_on : (i : Item) → Has i (behind_boxes W fs n b) → Has i (behind_said W fs n b)
  in_held_on i h = in_boxes_on i (behind i (box_regs W fs n b) (behind_boxes W fs n b) h)

  of_store : (i : Item) → Has i (store_registers W) → (x : String) → item_name i ≡ Some x → Y.vec x ≡ S.vec x
  of_store i h x e =
      of_said i (in_held_on i (behind i (held_regs 0 n) (store_registers W ++ unit_registers b) (in_front i (store_registers W)
      (unit_registers b) h))) x e

  of_unit : (i : Item) → Has i (unit_registers b) → (x : String) → item_name i ≡ Some x → Y.vec x ≡ S.vec x
  of_unit i h x e =
      of_said i (in_held_on i (behind i (held_regs 0 n) (store_registers W ++ unit_registers b) (behind i (store_registers W)
      (unit_registers b) h))) x e

  abbrev At : String → Type 0
  At x = Y.vec x ≡ S.vec x

  store : (x : String) → member x (names_of (store_registers W)) ≡ true → At x
  store = item_named At (store_registers W) of_store

  port : (x : String) → member x (names_of joined_ports) ≡ true → eqt "rst" x ≡ false → At x
  port = item_named (λ x. eqt "rst" x ≡ false → At x) joined_ports of_port

  pub regs_same : Regs W fs n b S Y
  regs_same = record {
    fields = each_in (λ f. Y.vec f.title ≡ S.vec f.title) fs (λ f h. of_said (reg f.wide f.title) (in_fields (reg f.wide f.title) h)
        f.title refl);
    sigs =
        upto_in (λ k. Y.vec (sig_name k) ≡ S.vec (sig_name k)) (W.place + W.tag) sig_name 0 W.sigs
        (λ k h. let i : Item = reg (vector_wide (W.place + W.tag)) (sig_name k) in
        of_said i (in_sigs_on i (in_front i (sig_regs W fs n b) (behind_sigs W fs n b) h)) (sig_name k) refl);
    boxes =
        upto_in (λ k. Y.vec (box_name k) ≡ S.vec (box_name k)) (W.place + W.tag) box_name 0 W.boxes
        (λ k h. let i : Item = reg (vector_wide (W.place + W.tag)) (box_name k) in
        of_said i (in_boxes_on i (in_front i (box_regs W fs n b) (behind_boxes W fs n b) h)) (box_name k) refl);
    held =
        held_in (λ k. Y.vec (held_name k) ≡ S.vec (held_name k)) 0 n
        (λ k h. let i : Item = reg (Width.upto (count 63)) (held_name k) in
        of_said i (in_held_on i (in_front i (held_regs 0 n) (store_registers W ++ unit_registers b) h)) (held_name k) refl);
    unit = λ x m. item_named At (unit_registers b) of_unit x (unit_named b x m);
    top = store "top" refl;
    cell_has = store "cell_has" refl;
    depth = store "depth" refl;
    fork_has = store "fork_has" refl;
    kept = store "kept" refl;
    fresh = store "fresh" refl;
    ended = store "ended" refl;
    changed = store "changed" refl;
    nonzero = store "nonzero" refl;
    carried = store "carried" refl;
    done = port "done" refl refl;
    result = port "result" refl refl;
    full = port "full" refl refl;
    moves = port "moves" refl refl;
    mem = args_calm 0 ws (set_vec "rst" v (record S { stray = stray }));
  }

pub stands_kept : StandsSame
stands_kept T z n fits ps t S h stray ws long v =
    stands_same T z n ps t S (set_args 0 ws (set_vec "rst" v (record S { stray = stray })))
    (regs_same (W T z n) (fs T z n) n (b T z n) (ok T z n fits.well) S stray ws long v) h
