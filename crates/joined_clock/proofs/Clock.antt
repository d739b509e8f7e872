-- What an edge without a start leaves in each register and memory, told by the part of the clock's block that assigns to it.
use Rattle.std.proofs.Common.{◌≡◌, ℕ, zero, suc, Bool, true, false, not, ◌&&◌, List, [], ◌∷◌, ◌++◌, refl, ap, ◌∙◌}
use Rattle.std.proofs.lemmas.Bool.{and_parts, and_from}
use Prim.Native.String.{String}
use lib.Text.{eqt}
use Rattle.verilog_tree.specs.Tree.{Stmt, Item, num}
use Rattle.verilog_tree.specs.Meaning.{Scope, Store, chosen, nonzero, fire}
use Rattle.verilog_tree.proofs.Leaves.{spares}
use Rattle.circuit_module.specs.Fixed.{set, block}
use Rattle.verilog_tree.specs.Items.{item_name}
use Rattle.verilog_tree.proofs.Once.{is_name}
use Rattle.joined_module.specs.Names.{sig_name, box_name, next_sig_name, next_box_name}
use Rattle.joined_module.specs.Fields.{Field}
use Rattle.joined_module.specs.Unit.{unit_registers, unit_stmt}
use Rattle.joined_module.specs.Module.{Widths, joined_ports, field_registers, store_registers, zero_stmt_of, fetch_sets, fetch_stmt}
use Rattle.joined_module.specs.Module.{list_sets, fork_stmt, value_stmt, count_stmt, act_stmt, go_stmt, reset_stmt, joined_clock_stmt}
use Rattle.joined_clock.specs.Laws.{now_stmt, ended_stmt}
use Rattle.joined_clock.proofs.Fires.{fires, stmt_at, all_true, but, Gives, all_given, one_given, one_memory, keeps_memory, all_keep}
use Rattle.joined_clock.proofs.Fires.{block_keeps}
use Rattle.joined_clock.proofs.Offs.{off, among, spared, names_of, none_named}
use Rattle.joined_clock.proofs.Groups.{Fixed, Apart, sig_regs, box_regs, fetch_spares, act_tail, act_spares, unit_spares, value_spares}

-- off both
pub off_both : (x : String) (us vs : List Item) → off x us ≡ true → off x vs ≡ true → off x (us ++ vs) ≡ true
off_both x [] vs a b = b
off_both x (u ∷ us) vs a b =
    let (c, d) = and_parts (not (is_name (item_name u) x)) (off x us) a in
    and_from (not (is_name (item_name u) x)) (off x (us ++ vs)) c (off_both x us vs d b)

pub unit_among : (c : Bool) → among (names_of (unit_registers c)) (unit_stmt c) ≡ true
unit_among false = refl
unit_among true = refl

module _ (P : Scope) (W : Widths) (fs : List Field) (n : ℕ) (b : Bool) (R : Store) where
  abbrev pub E : Store
  E = fire P R (joined_clock_stmt W fs n b) R

  abbrev pub parts : List Stmt
  parts =
      unit_stmt b ∷ zero_stmt_of b ∷ fetch_stmt W fs ∷ fork_stmt W ∷ value_stmt b ∷ count_stmt ∷ now_stmt W ∷ ended_stmt ∷ []

  -- ---- a name that each module has

  -- what is asked of it for each part to spare it
  abbrev pub free : String → List Bool
  free x =
      (spares x (unit_stmt false) && spares x (unit_stmt true)) ∷ spares x (zero_stmt_of b) ∷ not (eqt "cell_has" x) ∷
      spares x (fork_stmt W) ∷ not (eqt "result" x) ∷ spares x count_stmt ∷ spares x (act_tail W) ∷ spares x ended_stmt ∷ []

  spared_fixed : (x : String) → Fixed W fs n b x → Gives (spares x) parts (free x)
  spared_fixed x h = (
    λ e. let (f, t) = and_parts (spares x (unit_stmt false)) (spares x (unit_stmt true)) e in unit_spares P R x f t b,
    (
      λ e. e,
      (
        λ e. fetch_spares P R x W fs e h.fields,
        (
          λ e. e,
          (
            λ e. value_spares P R x e b,
            (
              λ e. e,
              (λ e. act_spares P R x W h.sigs h.boxes e, (λ e. e, tt)),
            ),
          ),
        ),
      ),
    ),
  )

  -- ---- a memory

  abbrev pub free_memory : String → List Bool
  free_memory m = true ∷ true ∷ true ∷ keeps_memory m (fork_stmt W) ∷ true ∷ true ∷ keeps_memory m (act_tail W) ∷ true ∷ []

  unit_keeps : (m : String) (c : Bool) → keeps_memory m (unit_stmt c) ≡ true
  unit_keeps m false = refl
  unit_keeps m true = refl

  value_keeps : (m : String) (c : Bool) → keeps_memory m (value_stmt c) ≡ true
  value_keeps m false = refl
  value_keeps m true = refl

  sets_keep : (m : String) (gs : List Field) → all_keep P R m (fetch_sets gs) ≡ true
  sets_keep m [] = refl
  sets_keep m (f ∷ gs) = sets_keep m gs

  list_keeps : (m : String) (y z : ℕ → String) (i k : ℕ) → all_keep P R m (list_sets y z i k) ≡ true
  list_keeps m y z i zero = refl
  list_keeps m y z i (suc k) = list_keeps m y z (suc i) k

  act_keeps : (m : String) → keeps_memory m (act_tail W) ≡ true → keeps_memory m (now_stmt W) ≡ true
  act_keeps m h =
      and_from (keeps_memory m (act_stmt W)) true
      (and_from (keeps_memory m (block (list_sets sig_name next_sig_name 0 W.sigs)))
      (keeps_memory m (block (list_sets box_name next_box_name 0 W.boxes)) && keeps_memory m (act_tail W))
      (block_keeps P R m (list_sets sig_name next_sig_name 0 W.sigs) (list_keeps m sig_name next_sig_name 0 W.sigs))
      (and_from (keeps_memory m (block (list_sets box_name next_box_name 0 W.boxes))) (keeps_memory m (act_tail W))
      (block_keeps P R m (list_sets box_name next_box_name 0 W.boxes) (list_keeps m box_name next_box_name 0 W.boxes)) h)) refl

  kept_memory : (m : String) → Gives (keeps_memory m) parts (free_memory m)
  kept_memory m = (
    λ e. unit_keeps m b,
    (
      λ e. refl,
      (
        λ e. and_from (keeps_memory m (block (fetch_sets fs))) true (block_keeps P R m (fetch_sets fs) (sets_keep m fs)) refl,
        (λ e. e, (λ e. value_keeps m b, (λ e. refl, (λ e. act_keeps m e, (λ e. refl, tt))))),
      ),
    ),
  )

  -- ---- a name that the table has

  abbrev fixed_names : List String
  fixed_names = names_of (joined_ports ++ store_registers W)

  value_among : (c : Bool) → among fixed_names (value_stmt c) ≡ true
  value_among false = refl
  value_among true = refl

  module _ (x : String) (h : Apart W fs n b x) where
    pub spare : (s : Stmt) → among fixed_names s ≡ true → spares x s ≡ true
    spare s m =
        spared x fixed_names (none_named x (joined_ports ++ store_registers W)
        (off_both x joined_ports (store_registers W) h.ports h.store)) s m

    pub spare_unit : spares x (unit_stmt b) ≡ true
    spare_unit = spared x (names_of (unit_registers b)) (none_named x (unit_registers b) h.unit) (unit_stmt b) (unit_among b)

    abbrev pub free_apart : List Bool
    free_apart =
        true ∷ true ∷ off x (field_registers fs) ∷ true ∷ true ∷ true ∷ (off x (sig_regs W fs n b) && off x (box_regs W fs n b)) ∷ true ∷ []

    spared_apart : Gives (spares x) parts free_apart
    spared_apart = (
      λ e. spare_unit,
      (
        λ e. spare (zero_stmt_of b) refl,
        (
          λ e. fetch_spares P R x W fs (spare (set "cell_has" (num 0)) refl) e,
          (
            λ e. spare (fork_stmt W) refl,
            (
              λ e. spare (value_stmt b) (value_among b),
              (
                λ e. spare count_stmt refl,
                (
                  λ e. let (o, q) = and_parts (off x (sig_regs W fs n b)) (off x
                      (box_regs W fs n b)) e in act_spares P R x W o q (spare (act_tail W) refl),
                  (λ e. spare ended_stmt refl, tt),
                ),
              ),
            ),
          ),
        ),
      ),
    )

  -- ---- the edge

  module _ (low : nonzero (R.vec "rst") ≡ false) where
    runs : E ≡ fires P R parts R
    runs =
        ap (λ c. chosen c
        (fire P R (reset_stmt n) (fires P R (unit_stmt b ∷ zero_stmt_of b ∷ fetch_stmt W fs ∷ []) R))
        (fire P R (go_stmt W b) (fires P R (unit_stmt b ∷ zero_stmt_of b ∷ fetch_stmt W fs ∷ []) R))) low

    -- by the one part that doesn't spare it
    pub by_part : (x : String) → Fixed W fs n b x → (k : ℕ) → but (free x) k ≡ true → E.vec x ≡ (fire P R (stmt_at parts k) R).vec x
    by_part x h k e = ap (λ (S : Store). S.vec x) runs ∙ one_given P R x parts (free x) (spared_fixed x h) k e R R refl

    pub memory_by_part : (m : String) (k : ℕ) → but (free_memory m) k ≡ true → E.mem m ≡ (fire P R (stmt_at parts k) R).mem m
    memory_by_part m k e = ap (λ (S : Store). S.mem m) runs ∙ one_memory P R m parts (free_memory m) (kept_memory m) k e R R refl

    pub by_part_apart : (x : String) (h : Apart W fs n b x) (k : ℕ) → but (free_apart x h) k ≡ true →
        E.vec x ≡ (fire P R (stmt_at parts k) R).vec x
    by_part_apart x h k e =
        ap (λ (S : Store). S.vec x) runs ∙ one_given P R x parts (free_apart x h) (spared_apart x h) k e R R refl

    -- or by none
    pub by_none : (x : String) (h : Apart W fs n b x) → all_true (free_apart x h) ≡ true → E.vec x ≡ R.vec x
    by_none x h e = ap (λ (S : Store). S.vec x) runs ∙ all_given P R x parts (free_apart x h) (spared_apart x h) e R
