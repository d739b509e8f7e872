-- The edge at which the run begins: the registers stand for the start.
use Rattle.std.proofs.Common.{◌≡◌, ◌<◌, ◌≤◌, ℕ, zero, suc, ◌+◌, ◌*◌, ◌%◌, ◌^◌, Bool, true, false, not, ◌&&◌, ◌||◌, List, [], ◌∷◌}
use Rattle.std.proofs.Common.{◌++◌, Option, Some, None}
use Rattle.std.proofs.Common.{refl, ap, sym, ◌∙◌, subst, arith, pow-suc, cond}
use Rattle.std.proofs.lemmas.Bool.{and_parts, and_right, eqb-true, eqb-false}
use Rattle.std.specs.Prelude.{nat_eq}
use Rattle.pcf_values.specs.declared.val.Val.TheVariants.{Number}
use Rattle.verilog_tree.specs.Tree.{upto, count, one, Item, reg, input}
use Rattle.verilog_tree.specs.Meaning.{Scope, Store, width_of, flag, fit, nonzero, chosen, fire}
use Rattle.verilog_tree.proofs.Numbers.{fits}
use Rattle.verilog_tree.specs.Items.{Has, here, further}
use Rattle.verilog_tree.specs.Laws.{Declares, Settles}
use Rattle.verilog_tree.proofs.Lists.{stands_at}
use Rattle.late_unit.proofs.Steps.{late_reset}
use Rattle.joined_core.specs.Circuit.{Room}
use Rattle.joined_core.specs.Rows.{Site, nowhere}
use Rattle.joined_module.specs.Names.{arg_name, held_name}
use Rattle.joined_module.specs.Ports.{arg_inputs, held_regs}
use Rattle.joined_module.specs.Rows.{Sees, sees_nothing, ModuleRow}
use Rattle.joined_module.specs.Fields.{Field}
use Rattle.joined_module.specs.Module.{ModuleTable, joined_ports, store_registers, is_waited, waiting_row, site_at, zero_stmt_of}
use Rattle.joined_module.specs.Module.{head_items, found_items, last_items}
use Rattle.joined_module.specs.Machine.{Tagged, same_sees, find_row}
use Rattle.joined_found.specs.Found.{Each, next_row, next_field, has_key, rows_keyed, sees_at, rows_see}
use Rattle.joined_found.specs.Laws.{Looks}
use Rattle.joined_found.proofs.Eaches.{each_both}
use Rattle.joined_found.proofs.Fits.{fields_wide, IsWide}
use Rattle.joined_clock.proofs.Offs.{Ok, ok_in_front}
use Rattle.joined_clock.proofs.Clock.{E}
use Rattle.joined_clock.proofs.Fetched.{each_in, Upto}
use Rattle.joined_edges.specs.Timed.{Timed, starts_right, timed_start}
use Rattle.joined_edges.specs.Stands.{Going, Standing, Stands}
use Rattle.joined_edges.proofs.Finding.{R, W, fs, b, is, P, goes_is, found_now, fields_taken}
use Rattle.joined_edges.proofs.Items.{in_ports, in_args, in_fields, in_held, in_store}
use Rattle.joined_edges.proofs.Units.{unit_rests}
use Rattle.joined_edges.proofs.ResetClock as clock

-- no row is found where none has the key
pub none_here : (rows : List ModuleRow) (k : ℕ) (e : Sees) → has_key rows k ≡ false → find_row rows k e ≡ None
none_here [] k e h = refl
none_here (r ∷ rs) k e h =
    go (nat_eq r.key k) refl (none_here rs k e)
  where
    go : (c : Bool) → nat_eq r.key k ≡ c → (has_key rs k ≡ false → find_row rs k e ≡ None) →
        cond (c && same_sees r.sees e) (Some r) (find_row rs k e) ≡ None
    go true g f = let z : (true || has_key rs k) ≡ false = ap (λ b. b || has_key rs k) (sym g) ∙ h in absurd cc
    go false g f = f (ap (λ b. b || has_key rs k) (sym g) ∙ h)

-- and such a key's rows see whatever its site shows
pub none_see : (rows : List ModuleRow) (k : ℕ) (w : Site) → has_key rows k ≡ false → rows_see rows k w ≡ true
none_see [] k w h = refl
none_see (r ∷ rows) k w h = go (nat_eq r.key k) h (λ h. none_see rows k w h)
  where
    go : (b : Bool) → (b || has_key rows k) ≡ false → (has_key rows k ≡ false → rows_see rows k w ≡ true) →
        ((not b || sees_at w r.sees) && rows_see rows k w) ≡ true
    go true h rest = absurd cc
    go false h rest = rest h

-- so that the row that waits isn't
start_row : (T : ModuleTable) (later : Bool) → not (has_key T.rows T.start && is_waited T.rows T.start) ≡ true →
    next_row T.rows later T.start sees_nothing ≡ find_row T.rows T.start sees_nothing
start_row T later h = go (has_key T.rows T.start) refl (is_waited T.rows T.start) refl
  where
    o : Option ModuleRow
    o = find_row T.rows T.start sees_nothing

    same : (b : Bool) → None ≡ o → cond b None o ≡ o
    same true e = e
    same false e = refl

    go : (c : Bool) → has_key T.rows T.start ≡ c → (w : Bool) → is_waited T.rows T.start ≡ w →
        cond (later && w) (cond c (Some (waiting_row T.start (site_at T.rows T.start))) None) o ≡ o
    go true g true f = let z : false ≡ true = (λ i. not (sym g i && sym f i)) ∙ h in absurd cc
    go true g false f = ap (λ b. cond b (Some (waiting_row T.start (site_at T.rows T.start))) o) (and_right later false refl)
    go false g w f = same (later && w) (sym (none_here T.rows T.start sees_nothing g))

zero_fits : (w : ℕ) → fit w 0 ≡ 0
zero_fits w = fits w 0 (some w)
  where
    some : (w : ℕ) → 0 < 2 ^ w
    some zero = omega arith
    some (suc w) = let p = pow-suc 2 w in let h = some w in omega (arith, p, h)

-- of so many numbers, one
pub upto_at : (q : ℕ → Type 0) (j m i : ℕ) → Upto q j m → j ≤ i → i < j + m → q i
upto_at q j zero i h l g = absurd (omega arith)
upto_at q j (suc m) i h l g = go (nat_eq j i) refl (λ a c. upto_at q (suc j) m i h.1 a c)
  where
    go : (c : Bool) → nat_eq j i ≡ c → (suc j ≤ i → i < suc j + m → q i) → q i
    go true e f = subst q (eqb-true j i e) h.0
    go false e f = let x = eqb-false j i e in f (omega arith) (omega arith)

module _ (T : ModuleTable) (z : Room) (n : ℕ) (S X : Store) (d : Declares (is T z n)) (s : Settles (is T z n) S X) (o : Ok (is T z n)) where
  abbrev ks : List Item
  ks = is T z n

  abbrev Q : Scope
  Q = P T z n

  abbrev fields : List Field
  fields = fs T z n

  abbrev G : Store
  G = E Q (W T z n) fields n (b T z n) X

  ok : Ok (head_items (W T z n) fields n (b T z n))
  ok =
      ok_in_front (head_items (W T z n) fields n (b T z n))
      (found_items (W T z n) T.start (R T z n) fields ++ last_items (W T z n) (R T z n) fields n (b T z n)) o

  -- inputs
  rst_is : X.vec "rst" ≡ S.vec "rst"
  rst_is = s.inputs one "rst" (in_ports (R T z n) z T.start n (b T z n) (input one "rst") (stands_at joined_ports 1 (input one "rst") refl))

  args_are : Upto (λ k. X.vec (arg_name k) ≡ S.vec (arg_name k)) 0 n
  args_are = go 0 n (λ i m. in_args (R T z n) z T.start n (b T z n) i m)
    where
      go : (i m : ℕ) → ((j : Item) → Has j (arg_inputs i m) → Has j ks) → Upto (λ k. X.vec (arg_name k) ≡ S.vec (arg_name k)) i m
      go i zero h = tt
      go i (suc m) h = (
        s.inputs (upto (count 63)) (arg_name i) (h (input (upto (count 63)) (arg_name i)) (here (arg_inputs (suc i) m))),
        go (suc i) m (λ j g. h j (further (input (upto (count 63)) (arg_name i)) (arg_inputs (suc i) m) g)),
      )

  held_wide : Upto (λ k. Q.width (held_name k) ≡ 64) 0 n
  held_wide = go 0 n (λ i m. in_held (R T z n) z T.start n (b T z n) i m)
    where
      go : (i m : ℕ) → ((j : Item) → Has j (held_regs i m) → Has j ks) → Upto (λ k. Q.width (held_name k) ≡ 64) i m
      go i zero h = tt
      go i (suc m) h = (
        d.width (reg (upto (count 63)) (held_name i)) (h (reg (upto (count 63)) (held_name i)) (here (held_regs (suc i) m)))
            (held_name i) refl,
        go (suc i) m (λ j g. h j (further (reg (upto (count 63)) (held_name i)) (held_regs (suc i) m) g)),
      )

  pub fields_width : Each (λ f. Q.width f.title ≡ f.bits) fields
  fields_width =
      each_both (IsWide Q.param) (λ f. Q.width f.title ≡ width_of Q.param f.wide) (λ f. Q.width f.title ≡ f.bits) (λ f w e. e ∙ w) fields
      (fields_wide Q.param (R T z n))
      (each_in (λ f. Q.width f.title ≡ width_of Q.param f.wide) fields
      (λ f h. d.width (reg f.wide f.title) (in_fields (R T z n) z T.start n (b T z n) (reg f.wide f.title) h) f.title refl))

  module _ (high : S.vec "rst" ≡ 1) (ps : ℕ → ℕ) (args : (i : ℕ) → i < n → S.vec (arg_name i) ≡ ps i)
      (small : (i : ℕ) → i < n → ps i < 2 ^ 64) (keyed : rows_keyed T.rows ≡ true) (right : starts_right T ≡ true)
      (low : T.start < 2 ^ (W T z n).key) where
    up : nonzero (X.vec "rst") ≡ true
    up = ap nonzero (rst_is ∙ high)

    -- the row of the start is found
    start_seen : rows_see T.rows T.start nowhere ≡ true
    start_seen = (and_parts (rows_see T.rows T.start nowhere) (not (has_key T.rows T.start && is_waited T.rows T.start)) right).0

    looks : Looks (R T z n) T.rows X (nonzero (X.vec "later")) T.start nowhere sees_nothing
    looks = record {
      goes = goes_is T z n S X s ∙ ap (λ c. fit (W T z n).key (chosen c (fit (W T z n).key T.start) (X.vec "to"))) up
          ∙ ap (fit (W T z n).key) (fits (W T z n).key T.start low) ∙ fits (W T z n).key T.start low;
      low = low;
      late = refl;
      shows = refl;
      sees = start_seen;
      seen = λ e. tt;
    }

    next_is : next_row T.rows (nonzero (X.vec "later")) T.start sees_nothing ≡ find_row T.rows T.start sees_nothing
    next_is =
        start_row T (nonzero (X.vec "later"))
        (and_parts (rows_see T.rows T.start nowhere) (not (has_key T.rows T.start && is_waited T.rows T.start)) right).1

    row_is : Each (λ f. G.vec f.title ≡ next_field f (find_row T.rows T.start sees_nothing)) fields
    row_is =
        subst (λ o. Each (λ f. G.vec f.title ≡ next_field f o) fields) next_is
        (fields_taken T z n (nonzero (X.vec "later")) T.start sees_nothing X G keyed fields_width
        (clock.fields_new Q (W T z n) fields n (b T z n) X ok up)
        (found_now T z n S X s d o keyed (nonzero (X.vec "later")) T.start nowhere sees_nothing looks))

    changed_is : G.vec "changed" ≡ 1
    changed_is =
        let w : Q.width "changed" ≡ 1 =
        d.width (reg one "changed") (in_store (R T z n) z T.start n (b T z n) (reg one "changed")
        (stands_at (store_registers (W T z n)) 18 (reg one "changed") refl))
        "changed" refl in
        clock.changed_is Q (W T z n) fields n (b T z n) X ok up ∙ go (b T z n) w
      where
        go : (c : Bool) → Q.width "changed" ≡ 1 → (fire Q X (zero_stmt_of c) X).vec "changed" ≡ 1
        go false w = λ i. fit (w i) (flag (up i || nonzero (flag (nonzero (X.vec "meets") || nonzero
            (flag (nonzero (X.vec "acts") && nonzero (X.vec "takes")))))))
        go true w = λ i. fit (w i) (flag (up i || nonzero (flag (nonzero (X.vec "meets") || nonzero (flag (nonzero (X.vec "last") || nonzero
            (flag (nonzero (X.vec "acts") && nonzero (X.vec "takes")))))))))

    held_is : (i : ℕ) → i < n → G.vec (held_name i) ≡ ps i
    held_is i l =
        let w = upto_at (λ k. Q.width (held_name k) ≡ 64) 0 n i held_wide (omega arith) (omega arith) in
        let a = upto_at (λ k. X.vec (arg_name k) ≡ S.vec (arg_name k)) 0 n i args_are (omega arith) (omega arith) in
        let g = upto_at (λ k. G.vec (held_name k) ≡ fit (Q.width (held_name k)) (X.vec (arg_name k))) 0 n i
        (clock.held_new Q (W T z n) fields n (b T z n) X ok up) (omega arith) (omega arith) in
        let e = a ∙ args i l in
        g ∙ (λ j. fit (w j) (e j)) ∙ fits 64 (ps i) (small i l)

    module _ (mem : ℕ → ℕ → Tagged) where
      abbrev t : Timed
      t = timed_start T mem

      going : Going T.rows (W T z n) t G
      going = record {
        row = row_is;
        sigs = tt;
        few_sigs = omega arith;
        boxes = tt;
        few_boxes = omega arith;
        cells = λ i l. absurd (omega arith);
        read = λ e. absurd cc;
        top = clock.top_is Q (W T z n) fields n (b T z n) X ok up ∙ zero_fits (Q.width "top");
        few = omega arith;
        forks = tt;
        depth = clock.depth_is Q (W T z n) fields n (b T z n) X ok up ∙ zero_fits (Q.width "depth");
        few_forks = omega arith;
        falling = tt;
        fresh = clock.fresh_is Q (W T z n) fields n (b T z n) X ok up ∙ zero_fits (Q.width "fresh");
        innermost = λ e h. absurd cc;
        changed = changed_is;
        nonzero = λ e h. absurd cc;
      }

      moves_is : G.vec "moves" ≡ 0
      moves_is = clock.moves_is Q (W T z n) fields n (b T z n) X ok up ∙ zero_fits (Q.width "moves")

      carried_is : G.vec "carried" ≡ 0
      carried_is = clock.carried_is Q (W T z n) fields n (b T z n) X ok up ∙ zero_fits (Q.width "carried")

      standing : Standing T.rows (W T z n) (b T z n) n ps t G
      standing = record {
        moves = let m = moves_is in let c = carried_is in λ i. (m i + 2 ^ 32 * c i) % 2 ^ 64;
        moves_low = subst (λ m. m < 2 ^ 64) (sym moves_is) (omega arith);
        carried = subst (λ c. c ≤ 1) (sym carried_is) (omega arith);
        value = λ e. clock.result_is Q (W T z n) fields n (b T z n) X ok up ∙ zero_fits (Q.width "result");
        small = omega arith;
        works = late_reset Q (b T z n) (Number 0) X G (unit_rests T z n d S X s) (clock.after Q (W T z n) fields n (b T z n) X ok up)
            (rst_is ∙ high);
        held = held_is;
        going = λ e. going;
        late_done = λ e. absurd cc;
        carried_done = λ e. absurd cc;
      }

      pub reset_stands : Stands T z n ps t G
      reset_stands = record {
        full = clock.full_is Q (W T z n) fields n (b T z n) X ok up ∙ zero_fits (Q.width "full");
        done = clock.done_is Q (W T z n) fields n (b T z n) X ok up ∙ zero_fits (Q.width "done");
        ended = clock.ended_is Q (W T z n) fields n (b T z n) X ok up ∙ zero_fits (Q.width "ended");
        not_both = λ e. absurd cc;
        not_ended = λ e. refl;
        standing = λ e. standing;
      }
