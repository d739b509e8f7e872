-- What an edge at which the run begins leaves in each register, told by the part of the clock's block that assigns to it.
use Rattle.std.proofs.Common.{◌≡◌, ℕ, zero, suc, nat_eq, Bool, true, false, not, ◌&&◌, ◌||◌, List, [], ◌∷◌, ◌++◌}
use Rattle.std.proofs.Common.{refl, ap, ◌∙◌}
use Rattle.std.proofs.lemmas.Bool.{and_parts, and_from}
use Prim.Native.String.{String}
use lib.Text.{eqt}
use Rattle.verilog_tree.specs.Tree.{Width, Stmt, Item, reg, count, num}
use Rattle.verilog_tree.specs.Meaning.{Scope, Store, chosen, nonzero, flag, fit, set_vec, fire}
use Rattle.verilog_tree.proofs.Leaves.{spares, fire_spares}
use Rattle.circuit_module.specs.Fixed.{set, block}
use Rattle.verilog_tree.specs.Items.{Has, here}
use Rattle.verilog_tree.proofs.Settled.{set_here}
use Rattle.late_unit.specs.Works.{unit_names, After}
use Rattle.joined_module.specs.Names.{held_name, arg_name, found}
use Rattle.joined_module.specs.Fields.{Field}
use Rattle.joined_module.specs.Ports.{held_regs, held_sets}
use Rattle.joined_module.specs.Unit.{unit_registers, unit_stmt}
use Rattle.joined_module.specs.Module.{Widths, field_registers, lists_said, store_registers, head_items, zero_stmt_of}
use Rattle.joined_module.specs.Module.{fetch_stmt, go_stmt, reset_stmt}
use Rattle.joined_found.specs.Found.{Each}
use Rattle.joined_clock.proofs.Fires.{fires, fires_kept, block_fires, stmt_at, but, Gives, one_given}
use Rattle.joined_clock.proofs.Offs.{Ok, ok_behind, ok_in_front, off, off_front, off_behind, off_below, every_name, among_names, unit_named}
use Rattle.joined_clock.proofs.Groups.{Fixed, Apart, sig_regs, box_regs, behind_boxes, behind_sigs, behind_fields, ok_said, ok_held}
use Rattle.joined_clock.proofs.Groups.{port, store, unit, field_apart, fetch_spares, held_spared, held_spares, unit_spares}
use Rattle.joined_clock.proofs.Clock.{E, spare, spare_unit}
use Rattle.joined_clock.proofs.Fetched.{each_in, fields_found, Upto, upto_map}

-- a block with a statement more
block_more : (x : String) (ss : List Stmt) (t : Stmt) → spares x (block ss) ≡ true → spares x t ≡ true → spares x
    (block (ss ++ t ∷ [])) ≡ true
block_more x [] t a c = c
block_more x (s ∷ []) t a c = and_from (spares x s) (spares x t) a c
block_more x (s ∷ r ∷ ss) t a c =
    let (d, e) = and_parts (spares x s) (spares x (block (r ∷ ss))) a in
    and_from (spares x s) (spares x (block (r ∷ (ss ++ t ∷ [])))) d (block_more x (r ∷ ss) t e c)

-- each register takes its port
sets_held : (P : Scope) (X : Store) (i n : ℕ) → Ok (held_regs i n) →
    Upto (λ k. (S : Store) → (fires P X (held_sets i n) S).vec (held_name k) ≡ fit (P.width (held_name k)) (X.vec (arg_name k))) i n
sets_held P X i zero o = tt
sets_held P X i (suc n) o =
    let it : Item = reg (Width.upto (count 63)) (held_name i) in (
      λ S. fires_kept P X (held_name i) (held_sets (suc i) n)
          (held_spared P X (held_name i) (suc i) n (off_below (it ∷ []) (held_regs (suc i) n) o it (here []) (held_name i) refl))
          (set_vec (held_name i) (fit (P.width (held_name i)) (X.vec (arg_name i))) S)
          ∙ set_here (held_name i) (fit (P.width (held_name i)) (X.vec (arg_name i))) S,
      upto_map (λ k. (S : Store) → (fires P X (held_sets (suc i) n) S).vec (held_name k) ≡ fit (P.width (held_name k)) (X.vec (arg_name k)))
          (λ k. (S : Store) → (fires P X (held_sets i (suc n)) S).vec (held_name k) ≡ fit (P.width (held_name k)) (X.vec (arg_name k)))
          (λ k h S. h (set_vec (held_name i) (fit (P.width (held_name i)) (X.vec (arg_name i))) S)) (suc i) n
          (sets_held P X (suc i) n (ok_behind (it ∷ []) (held_regs (suc i) n) o)),
    )

module _ (P : Scope) (W : Widths) (fs : List Field) (n : ℕ) (b : Bool) (X : Store) (ok : Ok (head_items W fs n b))
    (high : nonzero (X.vec "rst") ≡ true) where
  abbrev pub G : Store
  G = E P W fs n b X

  -- ---- the parts

  abbrev heads : List Stmt
  heads =
      set "top" (num 0) ∷ set "depth" (num 0) ∷ set "fresh" (num 0) ∷ set "ended" (num 0) ∷ set "done" (num 0) ∷ set "full" (num 0) ∷
      set "result" (num 0) ∷ set "moves" (num 0) ∷ set "carried" (num 0) ∷ []

  abbrev holding : Stmt
  holding = block (held_sets 0 n)

  abbrev before : List Stmt
  before = unit_stmt b ∷ zero_stmt_of b ∷ fetch_stmt W fs ∷ []

  abbrev parts : List Stmt
  parts = unit_stmt b ∷ zero_stmt_of b ∷ fetch_stmt W fs ∷ reset_stmt n ∷ []

  runs : G ≡ fires P X parts X
  runs = ap (λ c. chosen c (fire P X (reset_stmt n) (fires P X before X)) (fire P X (go_stmt W b) (fires P X before X))) high

  at : (x : String) → G.vec x ≡ (fires P X parts X).vec x
  at x = ap (λ (S : Store). S.vec x) runs

  reset_spares : (x : String) → spares x (block heads) ≡ true → off x (held_regs 0 n) ≡ true → spares x (reset_stmt n) ≡ true
  reset_spares x a o = block_more x heads holding a (held_spares P X x 0 n o)

  -- what is asked of a name that each module has for each part to spare it
  abbrev free : String → List Bool
  free x =
      (spares x (unit_stmt false) && spares x (unit_stmt true)) ∷ spares x (zero_stmt_of b) ∷ not (eqt "cell_has" x) ∷
      spares x (block heads) ∷ []

  spared_fixed : (x : String) → Fixed W fs n b x → Gives (spares x) parts (free x)
  spared_fixed x h = (
    λ e. let (f, t) = and_parts (spares x (unit_stmt false)) (spares x (unit_stmt true)) e in unit_spares P X x f t b,
    (λ e. e, (λ e. fetch_spares P X x W fs e h.fields, (λ e. reset_spares x e h.held, tt))),
  )

  by_part : (x : String) → Fixed W fs n b x → (k : ℕ) → but (free x) k ≡ true → G.vec x ≡ (fire P X (stmt_at parts k) X).vec x
  by_part x h k e = at x ∙ one_given P X x parts (free x) (spared_fixed x h) k e X X refl

  -- what the fixed part of the reset leaves
  abbrev Z : Store
  Z = fires P X heads (fires P X before X)

  reset_at : (x : String) → Fixed W fs n b x → G.vec x ≡ Z.vec x
  reset_at x h = at x ∙ fire_spares P X x holding (held_spares P X x 0 n h.held) Z

  -- ---- names that each module has

  pub top_is : G.vec "top" ≡ fit (P.width "top") 0
  top_is = reset_at "top" (store W fs n b ok "top" refl)

  pub depth_is : G.vec "depth" ≡ fit (P.width "depth") 0
  depth_is = reset_at "depth" (store W fs n b ok "depth" refl)

  pub fresh_is : G.vec "fresh" ≡ fit (P.width "fresh") 0
  fresh_is = reset_at "fresh" (store W fs n b ok "fresh" refl)

  pub ended_is : G.vec "ended" ≡ fit (P.width "ended") 0
  ended_is = reset_at "ended" (store W fs n b ok "ended" refl)

  pub carried_is : G.vec "carried" ≡ fit (P.width "carried") 0
  carried_is = reset_at "carried" (store W fs n b ok "carried" refl)

  pub done_is : G.vec "done" ≡ fit (P.width "done") 0
  done_is = reset_at "done" (port W fs n b ok "done" refl)

  pub result_is : G.vec "result" ≡ fit (P.width "result") 0
  result_is = reset_at "result" (port W fs n b ok "result" refl)

  pub full_is : G.vec "full" ≡ fit (P.width "full") 0
  full_is = reset_at "full" (port W fs n b ok "full" refl)

  pub moves_is : G.vec "moves" ≡ fit (P.width "moves") 0
  moves_is = reset_at "moves" (port W fs n b ok "moves" refl)

  pub changed_is : G.vec "changed" ≡ (fire P X (zero_stmt_of b) X).vec "changed"
  changed_is = by_part "changed" (store W fs n b ok "changed" refl) 1 refl

  -- the unit of numbers
  unit_free : (c : Bool) → every_name (λ x. but (free x) 0) (unit_names c) ≡ true
  unit_free false = refl
  unit_free true = refl

  pub after : After P b X G
  after x m =
      by_part x (unit W fs n b ok x (unit_named b x m)) 0 (among_names (λ x. but (free x) 0) (unit_names b) (unit_free b) x m)

  -- ---- names that the table has

  module _ (f : Field) (m : Has (reg f.wide f.title) (field_registers fs)) where
    abbrev x : String
    x = f.title

    apart : Apart W fs n b x
    apart = field_apart W fs n b ok (reg f.wide f.title) m x refl

    off_held : off x (held_regs 0 n) ≡ true
    off_held =
        off_front x (held_regs 0 n) (store_registers W ++ unit_registers b)
        (off_behind x (box_regs W fs n b) (behind_boxes W fs n b)
        (off_behind x (sig_regs W fs n b) (behind_sigs W fs n b)
        (off_behind x lists_said (sig_regs W fs n b ++ behind_sigs W fs n b)
        (off_below (field_registers fs) (behind_fields W fs n b) (ok_said W fs n b ok) (reg f.wide f.title) m x refl))))

    spared_apart : Gives (spares x) parts (true ∷ true ∷ false ∷ true ∷ [])
    spared_apart = (
      λ e. spare_unit P W fs n b X x apart,
      (
        λ e. spare P W fs n b X x apart (zero_stmt_of b) refl,
        (
          λ e. absurd cc,
          (λ e. reset_spares x (spare P W fs n b X x apart (block heads) refl) off_held, tt),
        ),
      ),
    )

    field_at : G.vec x ≡ (fire P X (fetch_stmt W fs) X).vec x
    field_at = at x ∙ one_given P X x parts (true ∷ true ∷ false ∷ true ∷ []) spared_apart 2 refl X X refl

  -- each field is what was found for it
  pub fields_new : Each (λ f. G.vec f.title ≡ fit (P.width f.title) (X.vec (found f.title))) fs
  fields_new =
      fields_found P W fs X G (each_in (λ f. G.vec f.title ≡ (fire P X (fetch_stmt W fs) X).vec f.title) fs field_at)
      (ap (λ c. nonzero (flag (c || nonzero (flag (nat_eq (X.vec "rests") 0))))) high)
      (ok_in_front (field_registers fs) (behind_fields W fs n b) (ok_said W fs n b ok))

  -- what is held
  pub held_new : Upto (λ k. G.vec (held_name k) ≡ fit (P.width (held_name k)) (X.vec (arg_name k))) 0 n
  held_new =
      upto_map (λ k. (S : Store) → (fires P X (held_sets 0 n) S).vec (held_name k) ≡ fit (P.width (held_name k)) (X.vec (arg_name k)))
      (λ k. G.vec (held_name k) ≡ fit (P.width (held_name k)) (X.vec (arg_name k)))
      (λ k h. at (held_name k) ∙ ap (λ (S : Store). S.vec (held_name k)) (block_fires P X (held_sets 0 n) Z) ∙ h Z) 0 n
      (sets_held P X 0 n (ok_in_front (held_regs 0 n) (store_registers W ++ unit_registers b) (ok_held W fs n b ok)))
