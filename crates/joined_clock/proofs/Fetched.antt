-- What an edge without a start leaves in the registers of which there are as many as the table says: fields, both lists, and what is held.
use Rattle.std.proofs.Common.{◌≡◌, ℕ, zero, suc, ◌+◌, ◌-◌, Bool, true, false, List, [], ◌∷◌, refl, ap, ◌∙◌}
use Prim.Native.String.{String}
use Rattle.verilog_tree.specs.Tree.{Width, reg, one_of, logic, none, part, word, count, name}
use Rattle.verilog_tree.specs.Meaning.{Scope, Store, chosen, nonzero, fit, holds, set_vec, fire}
use Rattle.circuit_module.specs.Fixed.{set, block}
use Rattle.verilog_tree.specs.Items.{Has, here, further}
use Rattle.verilog_tree.proofs.Settled.{set_here}
use Rattle.verilog_tree.proofs.Leaves.{fire_spares}
use Rattle.joined_module.specs.Names.{held_name, sig_name, box_name, next_sig_name, next_box_name, found}
use Rattle.joined_module.specs.Fields.{Field, vector_wide}
use Rattle.joined_module.specs.Ports.{held_regs}
use Rattle.joined_module.specs.Module.{Widths, field_registers, pointer_registers, head_items, fetch_sets, fetch_stmt, list_sets}
use Rattle.joined_found.specs.Found.{Each}
use Rattle.joined_found.proofs.Eaches.{each_map, each_both}
use Rattle.joined_clock.specs.Laws.{now_stmt}
use Rattle.joined_clock.proofs.Fires.{fires, fires_kept, block_fires}
use Rattle.joined_clock.proofs.Offs.{Ok, ok_behind, ok_in_front, off_below}
use Rattle.joined_clock.proofs.Groups.{sig_regs, box_regs, behind_boxes, behind_sigs, behind_fields, ok_said, ok_sigs, ok_boxes}
use Rattle.joined_clock.proofs.Groups.{fetch_spared, list_spared, list_spares, act_tail, field_apart, sig_apart, box_apart}
use Rattle.joined_clock.proofs.Groups.{held_apart, field_off_sigs, field_off_boxes, sig_off_fields, sig_off_boxes, box_off_fields}
use Rattle.joined_clock.proofs.Groups.{held_off_fields, held_off_sigs, held_off_boxes}
use Rattle.joined_clock.proofs.Clock.{E}
use Rattle.joined_clock.proofs.Registers.{field_fetched, list_acted, held_kept, spare_tail, cell_has_is, cell_kept}

-- ---- of each

-- of so many numbers from the i-th on
abbrev pub Upto : (ℕ → Type 0) → (i n : ℕ) → Type 0
Upto q i zero = Unit {0}
Upto q i (suc n) = q i × Upto q (suc i) n

pub upto_map : (p q : ℕ → Type 0) → ((k : ℕ) → p k → q k) → (i n : ℕ) → Upto p i n → Upto q i n
upto_map p q f i zero h = tt
upto_map p q f i (suc n) h = (f i h.0, upto_map p q f (suc i) n h.1)

pub upto_both : (p q r : ℕ → Type 0) → ((k : ℕ) → p k → q k → r k) → (i n : ℕ) → Upto p i n → Upto q i n → Upto r i n
upto_both p q r f i zero h g = tt
upto_both p q r f i (suc n) h g = (f i h.0 g.0, upto_both p q r f (suc i) n h.1 g.1)

-- of each register that stands there
pub each_in : (q : Field → Type 0) (gs : List Field) → ((f : Field) → Has (reg f.wide f.title) (field_registers gs) → q f) → Each q gs
each_in q [] f = tt
each_in q (g ∷ gs) f =
    (f g (here (field_registers gs)), each_in q gs (λ f' h. f f' (further (reg g.wide g.title) (field_registers gs) h)))

pub upto_in : (q : ℕ → Type 0) (w : ℕ) (y : ℕ → String) (i n : ℕ) →
    ((k : ℕ) → Has (reg (vector_wide w) (y k)) (pointer_registers w y i n) → q k) → Upto q i n
upto_in q w y i zero f = tt
upto_in q w y i (suc n) f = (
  f i (here (pointer_registers w y (suc i) n)),
  upto_in q w y (suc i) n (λ k h. f k (further (reg (vector_wide w) (y i)) (pointer_registers w y (suc i) n) h)),
)

pub held_in : (q : ℕ → Type 0) (i n : ℕ) →
    ((k : ℕ) → Has (reg (Width.upto (count 63)) (held_name k)) (held_regs i n) → q k) → Upto q i n
held_in q i zero f = tt
held_in q i (suc n) f = (
  f i (here (held_regs (suc i) n)),
  held_in q (suc i) n (λ k h. f k (further (reg (Width.upto (count 63)) (held_name i)) (held_regs (suc i) n) h)),
)

module _ (P : Scope) (R : Store) where
  -- ---- sets of fields and of lists

  pub sets_fields : (gs : List Field) → Ok (field_registers gs) →
      Each (λ f. (S : Store) → (fires P R (fetch_sets gs) S).vec f.title ≡ fit (P.width f.title) (R.vec (found f.title))) gs
  sets_fields [] o = tt
  sets_fields (g ∷ gs) o = (
    λ S. fires_kept P R g.title (fetch_sets gs)
        (fetch_spared P R g.title gs (off_below (reg g.wide g.title ∷ []) (field_registers gs) o (reg g.wide g.title)
        (here []) g.title refl))
        (set_vec g.title (fit (P.width g.title) (R.vec (found g.title))) S)
        ∙ set_here g.title (fit (P.width g.title) (R.vec (found g.title))) S,
    each_map (λ f. (S : Store) → (fires P R (fetch_sets gs) S).vec f.title ≡ fit (P.width f.title) (R.vec (found f.title)))
        (λ f. (S : Store) → (fires P R (fetch_sets (g ∷ gs)) S).vec f.title ≡ fit (P.width f.title) (R.vec (found f.title)))
        (λ f h S. h (set_vec g.title (fit (P.width g.title) (R.vec (found g.title))) S)) gs
        (sets_fields gs (ok_behind (reg g.wide g.title ∷ []) (field_registers gs) o)),
  )

  pub sets_list : (w : ℕ) (y z : ℕ → String) (i n : ℕ) → Ok (pointer_registers w y i n) →
      Upto (λ k. (S : Store) → (fires P R (list_sets y z i n) S).vec (y k) ≡ fit (P.width (y k)) (R.vec (z k))) i n
  sets_list w y z i zero o = tt
  sets_list w y z i (suc n) o = (
    λ S. fires_kept P R (y i) (list_sets y z (suc i) n)
        (list_spared P R (y i) w y z (suc i) n (off_below (reg (vector_wide w) (y i) ∷ []) (pointer_registers w y (suc i) n) o
        (reg (vector_wide w) (y i)) (here []) (y i) refl))
        (set_vec (y i) (fit (P.width (y i)) (R.vec (z i))) S)
        ∙ set_here (y i) (fit (P.width (y i)) (R.vec (z i))) S,
    upto_map (λ k. (S : Store) → (fires P R (list_sets y z (suc i) n) S).vec (y k) ≡ fit (P.width (y k)) (R.vec (z k)))
        (λ k. (S : Store) → (fires P R (list_sets y z i (suc n)) S).vec (y k) ≡ fit (P.width (y k)) (R.vec (z k)))
        (λ k h S. h (set_vec (y i) (fit (P.width (y i)) (R.vec (z i))) S)) (suc i) n
        (sets_list w y z (suc i) n (ok_behind (reg (vector_wide w) (y i) ∷ []) (pointer_registers w y (suc i) n) o)),
  )

module _ (P : Scope) (W : Widths) (fs : List Field) (R : Store) where
  abbrev pub fetches : Bool
  fetches = holds P R (logic one_of (name "rst") (none (name "rests")))

  abbrev pub cell_set : Store → Store
  cell_set S = fire P R (set "cell_has" (word "cells" (part "looked" (count (W.place + W.tag - 1)) (count W.tag)))) S

  -- where fields are by the fetch, and a row is fetched, each is what was found for it
  pub fields_found : (G : Store) → Each (λ f. G.vec f.title ≡ (fire P R (fetch_stmt W fs) R).vec f.title) fs → fetches ≡ true →
      Ok (field_registers fs) → Each (λ f. G.vec f.title ≡ fit (P.width f.title) (R.vec (found f.title))) fs
  fields_found G g h o =
      each_both (λ f. G.vec f.title ≡ (fire P R (fetch_stmt W fs) R).vec f.title)
      (λ f. (S : Store) → (fires P R (fetch_sets fs) S).vec f.title ≡ fit (P.width f.title) (R.vec (found f.title)))
      (λ f. G.vec f.title ≡ fit (P.width f.title) (R.vec (found f.title)))
      (λ f a e. a ∙ ap (λ c. (chosen c (fire P R (block (fetch_sets fs)) (cell_set R)) R).vec f.title) h
      ∙ ap (λ (S : Store). S.vec f.title) (block_fires P R (fetch_sets fs) (cell_set R)) ∙ e (cell_set R)) fs g (sets_fields P R fs o)

module _ (P : Scope) (W : Widths) (fs : List Field) (n : ℕ) (b : Bool) (R : Store) (ok : Ok (head_items W fs n b))
    (low : nonzero (R.vec "rst") ≡ false) where
  abbrev pub G : Store
  G = E P W fs n b R

  abbrev cell_put : Store
  cell_put = cell_set P W fs R R

  fetched : (f : Field) → Has (reg f.wide f.title) (field_registers fs) → G.vec f.title ≡ (fire P R (fetch_stmt W fs) R).vec f.title
  fetched f h =
      field_fetched P W fs n b R ok low f.title (field_apart W fs n b ok (reg f.wide f.title) h f.title refl)
      (field_off_sigs W fs n b ok (reg f.wide f.title) h f.title refl) (field_off_boxes W fs n b ok (reg f.wide f.title) h f.title refl)

  -- where a row is fetched each field is what was found for it
  pub fields_new : fetches P W fs R ≡ true → Each (λ f. G.vec f.title ≡ fit (P.width f.title) (R.vec (found f.title))) fs
  fields_new h =
      fields_found P W fs R G (each_in (λ f. G.vec f.title ≡ (fire P R (fetch_stmt W fs) R).vec f.title) fs fetched) h
      (ok_in_front (field_registers fs) (behind_fields W fs n b) (ok_said W fs n b ok))

  -- and else it stays
  pub fields_old : fetches P W fs R ≡ false → Each (λ f. G.vec f.title ≡ R.vec f.title) fs
  fields_old h =
      each_in (λ f. G.vec f.title ≡ R.vec f.title) fs
      (λ f m. fetched f m ∙ ap (λ c. (chosen c (fire P R (block (fetch_sets fs)) cell_put) R).vec f.title) h)

  -- ---- lists

  abbrev pub acts : Bool
  acts = holds P R (name "acts")

  abbrev after_sigs : Store
  after_sigs = fire P R (block (list_sets sig_name next_sig_name 0 W.sigs)) R

  abbrev after_boxes : Store
  after_boxes = fire P R (block (list_sets box_name next_box_name 0 W.boxes)) after_sigs

  sig_acted : (k : ℕ) → Has (reg (vector_wide (W.place + W.tag)) (sig_name k)) (sig_regs W fs n b) →
      G.vec (sig_name k) ≡ (fire P R (now_stmt W) R).vec (sig_name k)
  sig_acted k h =
      list_acted P W fs n b R ok low (sig_name k)
      (sig_apart W fs n b ok (reg (vector_wide (W.place + W.tag)) (sig_name k)) h (sig_name k) refl)
      (sig_off_fields W fs n b ok (reg (vector_wide (W.place + W.tag)) (sig_name k)) h (sig_name k) refl)

  sig_new : acts ≡ true → (k : ℕ) → Has (reg (vector_wide (W.place + W.tag)) (sig_name k)) (sig_regs W fs n b) →
      G.vec (sig_name k) ≡ (fires P R (list_sets sig_name next_sig_name 0 W.sigs) R).vec (sig_name k)
  sig_new a k h =
      let i = reg (vector_wide (W.place + W.tag)) (sig_name k) in
      sig_acted k h ∙ ap (λ c. (chosen c (fire P R (act_tail W) after_boxes) R).vec (sig_name k)) a
      ∙ fire_spares P R (sig_name k) (act_tail W)
      (spare_tail P W fs n b R ok low (sig_name k) (sig_apart W fs n b ok i h (sig_name k) refl))
      after_boxes
      ∙ fire_spares P R (sig_name k) (block (list_sets box_name next_box_name 0 W.boxes))
      (list_spares P R (sig_name k) (W.place + W.tag) box_name next_box_name 0 W.boxes (sig_off_boxes W fs n b ok i h (sig_name k) refl))
      after_sigs
      ∙ ap (λ (S : Store). S.vec (sig_name k)) (block_fires P R (list_sets sig_name next_sig_name 0 W.sigs) R)

  pub sigs_new : acts ≡ true → Upto (λ k. G.vec (sig_name k) ≡ fit (P.width (sig_name k)) (R.vec (next_sig_name k))) 0 W.sigs
  sigs_new a =
      upto_both (λ k. G.vec (sig_name k) ≡ (fires P R (list_sets sig_name next_sig_name 0 W.sigs) R).vec (sig_name k))
      (λ k. (S : Store) → (fires P R (list_sets sig_name next_sig_name 0 W.sigs) S).vec (sig_name k) ≡ fit (P.width (sig_name k))
      (R.vec (next_sig_name k)))
      (λ k. G.vec (sig_name k) ≡ fit (P.width (sig_name k)) (R.vec (next_sig_name k))) (λ k x y. x ∙ y R) 0 W.sigs
      (upto_in (λ k. G.vec (sig_name k) ≡ (fires P R (list_sets sig_name next_sig_name 0 W.sigs) R).vec (sig_name k)) (W.place + W.tag)
      sig_name 0 W.sigs (sig_new a))
      (sets_list P R (W.place + W.tag) sig_name next_sig_name 0 W.sigs
      (ok_in_front (sig_regs W fs n b) (behind_sigs W fs n b) (ok_sigs W fs n b ok)))

  pub sigs_old : acts ≡ false → Upto (λ k. G.vec (sig_name k) ≡ R.vec (sig_name k)) 0 W.sigs
  sigs_old a =
      upto_in (λ k. G.vec (sig_name k) ≡ R.vec (sig_name k)) (W.place + W.tag) sig_name 0 W.sigs
      (λ k h. sig_acted k h ∙ ap (λ c. (chosen c (fire P R (act_tail W) after_boxes) R).vec (sig_name k)) a)

  box_acted : (k : ℕ) → Has (reg (vector_wide (W.place + W.tag)) (box_name k)) (box_regs W fs n b) →
      G.vec (box_name k) ≡ (fire P R (now_stmt W) R).vec (box_name k)
  box_acted k h =
      list_acted P W fs n b R ok low (box_name k)
      (box_apart W fs n b ok (reg (vector_wide (W.place + W.tag)) (box_name k)) h (box_name k) refl)
      (box_off_fields W fs n b ok (reg (vector_wide (W.place + W.tag)) (box_name k)) h (box_name k) refl)

  box_new : acts ≡ true → (k : ℕ) → Has (reg (vector_wide (W.place + W.tag)) (box_name k)) (box_regs W fs n b) →
      G.vec (box_name k) ≡ (fires P R (list_sets box_name next_box_name 0 W.boxes) after_sigs).vec (box_name k)
  box_new a k h =
      let i = reg (vector_wide (W.place + W.tag)) (box_name k) in
      box_acted k h ∙ ap (λ c. (chosen c (fire P R (act_tail W) after_boxes) R).vec (box_name k)) a
      ∙ fire_spares P R (box_name k) (act_tail W)
      (spare_tail P W fs n b R ok low (box_name k) (box_apart W fs n b ok i h (box_name k) refl))
      after_boxes
      ∙ ap (λ (S : Store). S.vec (box_name k)) (block_fires P R (list_sets box_name next_box_name 0 W.boxes) after_sigs)

  pub boxes_new : acts ≡ true → Upto (λ k. G.vec (box_name k) ≡ fit (P.width (box_name k)) (R.vec (next_box_name k))) 0 W.boxes
  boxes_new a =
      upto_both (λ k. G.vec (box_name k) ≡ (fires P R (list_sets box_name next_box_name 0 W.boxes) after_sigs).vec (box_name k))
      (λ k. (S : Store) → (fires P R (list_sets box_name next_box_name 0 W.boxes) S).vec (box_name k) ≡ fit (P.width (box_name k))
      (R.vec (next_box_name k)))
      (λ k. G.vec (box_name k) ≡ fit (P.width (box_name k)) (R.vec (next_box_name k))) (λ k x y. x ∙ y after_sigs) 0 W.boxes
      (upto_in (λ k. G.vec (box_name k) ≡ (fires P R (list_sets box_name next_box_name 0 W.boxes) after_sigs).vec (box_name k))
      (W.place + W.tag) box_name 0 W.boxes (box_new a))
      (sets_list P R (W.place + W.tag) box_name next_box_name 0 W.boxes
      (ok_in_front (box_regs W fs n b) (behind_boxes W fs n b) (ok_boxes W fs n b ok)))

  pub boxes_old : acts ≡ false → Upto (λ k. G.vec (box_name k) ≡ R.vec (box_name k)) 0 W.boxes
  boxes_old a =
      upto_in (λ k. G.vec (box_name k) ≡ R.vec (box_name k)) (W.place + W.tag) box_name 0 W.boxes
      (λ k h. box_acted k h ∙ ap (λ c. (chosen c (fire P R (act_tail W) after_boxes) R).vec (box_name k)) a)

  -- ---- what is held

  pub held_is : Upto (λ k. G.vec (held_name k) ≡ R.vec (held_name k)) 0 n
  held_is =
      held_in (λ k. G.vec (held_name k) ≡ R.vec (held_name k)) 0 n
      (λ k h. let i = reg (Width.upto (count 63)) (held_name k) in
      held_kept P W fs n b R ok low (held_name k) (held_apart W fs n b ok i h (held_name k) refl)
      (held_off_fields W fs n b ok i h (held_name k) refl) (held_off_sigs W fs n b ok i h (held_name k) refl)
      (held_off_boxes W fs n b ok i h (held_name k) refl))

  -- ---- the cell that is read

  pub cell_new : fetches P W fs R ≡ true → G.vec "cell_has" ≡ cell_put.vec "cell_has"
  cell_new h =
      cell_has_is P W fs n b R ok low
      ∙ ap (λ c. (chosen c (fire P R (block (fetch_sets fs)) cell_put) R).vec "cell_has") h
      ∙ cell_kept P W fs n b R ok low cell_put

  pub cell_old : fetches P W fs R ≡ false → G.vec "cell_has" ≡ R.vec "cell_has"
  cell_old h =
      cell_has_is P W fs n b R ok low ∙ ap (λ c. (chosen c (fire P R (block (fetch_sets fs)) cell_put) R).vec "cell_has") h
