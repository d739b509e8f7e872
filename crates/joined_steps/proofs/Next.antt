-- The row that is found at an edge: behind a row that is made, and where one waits.
use Rattle.std.proofs.Common.{◌≡◌, ◌<◌, ◌⊎◌, inl, inr, ℕ, zero, suc, ◌^◌, Bool, true, false, not, cond, ◌&&◌, ◌||◌, List, []}
use Rattle.std.proofs.Common.{◌∷◌, ◌++◌, length}
use Rattle.std.proofs.Common.{Some, refl, ap, sym, subst, ◌∙◌, arith, nat_lt, nat_eq}
use Rattle.std.proofs.lemmas.Bool.{and_parts, and_from, or_left, or_right, or_parts, lt-ltb, eq-eqb}
use Rattle.verilog_tree.specs.Meaning.{Scope, Store, flag, fit, chosen, nonzero}
use Rattle.verilog_tree.specs.WellFormed.{WellFormed}
use Rattle.verilog_tree.proofs.Numbers.{fits}
use Rattle.joined_core.specs.Circuit.{Room}
use Rattle.joined_core.specs.Rows.{Site, nowhere, on_sigs, on_boxes, on_value, is_zero}
use Rattle.joined_module.specs.Rows.{Sees, ModuleRow, Worth, stays, tells, comes_to, is_new_cell, row_looks}
use Rattle.joined_module.specs.Fields.{some_row, sees_later, needs_value, answers_in, tests_value, at_value, changes}
use Rattle.joined_module.specs.Module.{ModuleTable, found_rows, waiting_row, waiting_at, waiting_rows, site_at, is_waited, joined_module}
use Rattle.joined_module.specs.Machine.{RowCircuit, seen_by, worth_value, row_makes, find_row}
use Rattle.joined_found.specs.Found.{Each, next_row, next_field, each_row, has_key, sees_at, rows_see, same_site, lands_at, rows_land}
use Rattle.joined_found.specs.Found.{rows_keyed, SeenIn}
use Rattle.joined_found.specs.Laws.{Looks}
use Rattle.joined_clock.proofs.Fetched.{fields_new}
use Rattle.joined_edges.specs.Timed.{Timed, rests, Among, at_front, in_rest, something}
use Rattle.joined_edges.specs.Stands.{Stands}
use Rattle.joined_module.specs.Fits.{looks_somewhere}
use Rattle.joined_edges.proofs.Sources.{Origins}
use Rattle.joined_edges.proofs.Pointers.{ListRight}
use Rattle.joined_edges.proofs.Reading.{seen_next, seen_wait}
use Rattle.joined_edges.proofs.Reset.{none_see}
use Rattle.joined_edges.proofs.Flags.{by_flag}
use Rattle.joined_edges.proofs.Finding.{goes_is, found_now, fields_taken, ok_of}
use Rattle.joined_steps.proofs.Module.{W, fs, b, is, settles, declares, ok}
use Rattle.joined_steps.proofs.Says.{says_of}
use Rattle.joined_steps.proofs.Edge.{Q, PP, G, low, fetches_is}
use Rattle.joined_steps.proofs.Row.{wide_of, going, fields_are, held, rests_row}

-- ---- rows of the table

-- a row among some others behind
pub among_behind : (r : ModuleRow) (xs ys : List ModuleRow) → Among r (xs ++ ys) → (Among r xs) ⊎ (Among r ys)
among_behind r [] ys a = inr a
among_behind r (x ∷ xs) ys (at_front rs) = inl (at_front xs)
among_behind r (x ∷ xs) ys (in_rest q rs a) = go (among_behind r xs ys a)
  where
    go : (Among r xs) ⊎ (Among r ys) → (Among r (x ∷ xs)) ⊎ (Among r ys)
    go (inl h) = inl (in_rest x xs h)
    go (inr h) = inr h

one_among : (r q : ModuleRow) → Among r (q ∷ []) → q.waits ≡ true → r.waits ≡ true
one_among r q (at_front rs) h = h
one_among r q (in_rest p rs a) h = elim a [ ]

waiting_one : (r : ModuleRow) (rows : List ModuleRow) (k : ℕ) → Among r (waiting_at rows k) → r.waits ≡ true
waiting_one r rows k a = go (is_waited rows k) a
  where
    go : (c : Bool) → Among r (cond c (waiting_row k (site_at rows k) ∷ []) []) → r.waits ≡ true
    go true h = one_among r (waiting_row k (site_at rows k)) h refl
    go false h = elim h [ ]

waiting_all : (r : ModuleRow) (rows : List ModuleRow) (k n : ℕ) → Among r (waiting_rows rows k n) → r.waits ≡ true
waiting_all r rows k zero a = elim a [ ]
waiting_all r rows k (suc n) a = go (among_behind r (waiting_at rows k) (waiting_rows rows (suc k) n) a) (waiting_all r rows (suc k) n)
  where
    go : (Among r (waiting_at rows k)) ⊎ (Among r (waiting_rows rows (suc k) n)) →
        (Among r (waiting_rows rows (suc k) n) → r.waits ≡ true) → r.waits ≡ true
    go (inl h) f = waiting_one r rows k h
    go (inr h) f = f h

-- one that doesn't wait is of the table
pub of_table : (r : ModuleRow) (rows : List ModuleRow) → Among r (found_rows rows) → r.waits ≡ false → Among r rows
of_table r rows a acts = go (among_behind r (waiting_rows rows 0 (length rows)) rows a)
  where
    go : (Among r (waiting_rows rows 0 (length rows))) ⊎ (Among r rows) → Among r rows
    go (inl h) = let e : true ≡ false = sym (waiting_all r rows 0 (length rows) h) ∙ acts in absurd cc
    go (inr h) = h

each_among : (f : ModuleRow → Bool) (r : ModuleRow) (rows : List ModuleRow) → each_row f rows ≡ true → Among r rows → f r ≡ true
each_among f r rows h (at_front rs) = (and_parts (f r) (each_row f rs) h).0
each_among f r rows h (in_rest q rs a) = each_among f r rs (and_parts (f q) (each_row f rs) h).1 a

some_among : (f : ModuleRow → Bool) (r : ModuleRow) (rows : List ModuleRow) → f r ≡ true → Among r rows → some_row f rows ≡ true
some_among f r rows h (at_front rs) = or_left (f r) (some_row f rs) h
some_among f r rows h (in_rest q rs a) = or_right (f q) (some_row f rs) (some_among f r rs h a)

-- where it goes is waited at, if it sees later
pub waited : (r : ModuleRow) (rows : List ModuleRow) → Among r rows → sees_later r ≡ true → is_waited rows r.to ≡ true
waited r rows a h =
    some_among (λ q. sees_later q && nat_eq q.to r.to) r rows (and_from (sees_later r) (nat_eq r.to r.to) h (eq-eqb r.to r.to refl)) a

lands_see : (rows : List ModuleRow) (k : ℕ) (w : Site) → lands_at rows k w ≡ true → rows_see rows k w ≡ true
lands_see rows k w h = go (has_key rows k) refl
  where
    go : (c : Bool) → has_key rows k ≡ c → rows_see rows k w ≡ true
    go false e = none_see rows k w e
    go true e =
        (and_parts (rows_see rows k w) (same_site (site_at rows k) w)
        (ap (λ c. not c || (rows_see rows k w && same_site (site_at rows k) w)) (sym e) ∙ h)).0

-- a row that goes on lands where rows see what it looks at
pub rows_see_next : (rows : List ModuleRow) → rows_land rows ≡ true → (r : ModuleRow) → Among r rows → r.ends ≡ false →
    rows_see rows r.to r.site ≡ true
rows_see_next rows h r a e =
    lands_see rows r.to r.site
    (ap (λ c. c || lands_at rows r.to r.site) (sym e) ∙ each_among (λ q. q.ends || lands_at rows q.to q.site) r rows h a)

shows_is : (w : Site) (D : RowCircuit) → sees_at w (seen_by w D) ≡ true
shows_is nowhere D = refl
shows_is on_sigs D = refl
shows_is on_boxes D = refl
shows_is on_value D = refl

and_true : (c d : Bool) → (c && d) ≡ false → c ≡ true → d ≡ false
and_true true d h e = h
and_true false d h e = absurd cc

zero_of : (n : ℕ) → nat_lt 0 n ≡ false → n ≡ 0
zero_of zero h = refl
zero_of (suc n) h = let e = lt-ltb 0 (suc n) (omega arith) in let z : true ≡ false = sym e ∙ h in absurd cc

kept_value : (ps : ℕ → ℕ) (r : ModuleRow) (D : RowCircuit) → changes r.worth ≡ false → (row_makes ps r D).value ≡ D.value
kept_value ps r D h = go r.worth refl h
  where
    go : (w : Worth) → r.worth ≡ w → changes w ≡ false → (row_makes ps r D).value ≡ D.value
    go stays e h = ap (worth_value ps D) e
    go (tells x) e h = absurd cc
    go (comes_to o x y) e h = absurd cc

module _ (T : ModuleTable) (z : Room) (n : ℕ) (right : WellFormed (joined_module T z n) ≡ true) (S : Store) (start : S.vec "rst" ≡ 0)
    (ps : ℕ → ℕ) (t : Timed) (st : Stands T z n ps t (Q T z n right S start)) (runs : t.circuit.full ≡ false)
    (goes : t.circuit.ended ≡ false) (keyed : rows_keyed T.rows ≡ true) where
  abbrev Q' : Store
  Q' = Q T z n right S start

  abbrev G' : Store
  G' = G T z n right S start

  abbrev P' : Scope
  P' = PP T z n right S start

  abbrev D : RowCircuit
  D = t.circuit

  module _ (r : ModuleRow) (e : t.row ≡ Some r) (among : Among r (found_rows T.rows)) (awake : rests r t ≡ false) where
    -- the key that the row goes to
    to_low : r.to < 2 ^ (W T z n).key
    to_low = (held T z n right S start ps t st runs goes r e among).of.fits.1.0

    goes_to : Q'.vec "goes" ≡ r.to
    goes_to =
        let l = low T z n right S start in
        let f = (fields_are T z n right S start ps t st runs goes r e among).1.0 in
        goes_is T z n S Q' (settles T z n right S)
        ∙ (λ i. fit (W T z n).key (chosen (l i) (fit (W T z n).key T.start) (f i))) ∙ fits (W T z n).key r.to to_low

    later_is : nonzero (Q'.vec "later") ≡ sees_later r
    later_is =
        by_flag (Q'.vec "later") (sees_later r)
        ((says_of (found_rows T.rows) Q' (Some r)
        (subst (λ o. Each (λ f. Q'.vec f.title ≡ next_field f o) (fs T z n)) e (going T z n right S start ps t st runs goes).row)).later)

    -- what was found, in the registers
    taken_row : (later : Bool) (k : ℕ) (w : Site) (c : Sees) →
        Looks (found_rows T.rows) T.rows Q' later k w c →
        Each (λ f. G'.vec f.title ≡ next_field f (next_row T.rows later k c)) (fs T z n)
    taken_row later k w c l =
        fields_taken T z n later k c Q' G' keyed (held T z n right S start ps t st runs goes r e among).wide
        (fields_new P' (W T z n) (fs T z n) n (b T z n) Q' (ok T z n right) (low T z n right S start)
        (fetches_is T z n right S start false (rests_row T z n right S start ps t st runs goes r e among false awake)))
        (found_now T z n S Q' (settles T z n right S) (declares T z n right) (ok_of (is T z n) right) keyed later k w c l)

    -- whether the value is 0 is known where the row tests it
    value_known : tests_value r ≡ true → Q'.vec "nonzero" ≡ flag (not (is_zero D.value))
    value_known h =
        let a = or_parts (nat_lt 0 t.late && needs_value r)
        (((nat_lt 0 t.late || t.changed) && tests_value r) || (t.fresh && answers_in r.fork)) awake in
        let c = or_parts ((nat_lt 0 t.late || t.changed) && tests_value r) (t.fresh && answers_in r.fork) a.1 in
        let d = or_parts (nat_lt 0 t.late) t.changed (both_off (nat_lt 0 t.late || t.changed) (tests_value r) c.0 h) in
        (going T z n right S start ps t st runs goes).nonzero (zero_of t.late d.0) d.1
      where
        both_off : (c d : Bool) → (c && d) ≡ false → d ≡ true → c ≡ false
        both_off false d h e = refl
        both_off true d h e = let z : true ≡ false = sym e ∙ h in absurd cc

    module _ (O : Origins (W T z n) r D P' Q') where
      -- behind a row that is made
      pub act_fields : r.waits ≡ false → r.ends ≡ false → rows_land T.rows ≡ true → ListRight (W T z n) r D r.sigs (W T z n).sigs →
          ListRight (W T z n) r D r.boxes (W T z n).boxes → looks_somewhere r ≡ true →
          Each (λ f. G'.vec f.title ≡ next_field f (next_row T.rows (sees_later r) r.to (seen_by r.site (row_makes ps r D)))) (fs T z n)
      act_fields acts ends land sigs boxes somewhere =
          let a = of_table r T.rows among acts in
          taken_row (sees_later r) r.to r.site (seen_by r.site (row_makes ps r D)) record {
            goes = goes_to;
            low = to_low;
            late = later_is;
            shows = shows_is r.site (row_makes ps r D);
            sees = rows_see_next T.rows land r a ends;
            seen = λ h. seen (not_later (sees_later r) refl a h);
          }
        where
          not_later : (c : Bool) → sees_later r ≡ c → Among r T.rows → (sees_later r && is_waited T.rows r.to) ≡ false → sees_later r ≡
              false
          not_later false q a h = q
          not_later true q a h =
              let z : true ≡ false = sym (and_from (sees_later r) (is_waited T.rows r.to) q (waited r T.rows a q)) ∙ h in absurd cc

          seen : sees_later r ≡ false → SeenIn (W T z n).tag Q' (seen_by r.site (row_makes ps r D))
          seen h =
              let p = or_parts (at_value r.site && changes r.worth) (is_new_cell (row_looks r)) h in
              seen_next (found_rows T.rows) z P' Q' r (wide_of (found_rows T.rows) z) D O
              (held T z n right S start ps t st runs goes r e among) acts sigs boxes somewhere p.1 ps
              (λ q. let v : at_value r.site ≡ true = ap at_value q in
              let k = and_true (at_value r.site) (changes r.worth) p.0 v in
              value_known (and_from (at_value r.site) (not (changes r.worth)) v (ap not k))
              ∙ ap (λ u. flag (not (is_zero u))) (sym (kept_value ps r D k)))

      -- where the row waits
      pub wait_fields : r.waits ≡ true → sees_later r ≡ false → changes r.worth ≡ false → something r.site D.sigs D.boxes ≡ true →
          rows_see T.rows r.to r.site ≡ true → Each (λ f. G'.vec f.title ≡ next_field f (find_row T.rows r.to (seen_by r.site D))) (fs T
          z n)
      wait_fields waits now same there see =
          let g = going T z n right S start ps t st runs goes in
          taken_row false r.to r.site (seen_by r.site D) record {
            goes = goes_to;
            low = to_low;
            late = later_is ∙ now;
            shows = shows_is r.site D;
            sees = see;
            seen = λ h.
                seen_wait (found_rows T.rows) z P' Q' r (wide_of (found_rows T.rows) z) D O
                (held T z n right S start ps t st runs goes r e among) waits there g.few_sigs g.few_boxes
                (λ q. value_known (and_from (at_value r.site) (not (changes r.worth)) (ap at_value q) (ap not same)));
          }
