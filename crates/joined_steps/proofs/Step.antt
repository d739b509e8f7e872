-- Each edge without a start is a row, one that waits, or a rest.
use Rattle.std.proofs.Common.{◌≡◌, ◌<◌, ℕ, ◌^◌, Bool, true, false, cond, not, ◌&&◌, ◌||◌, List, [], ◌∷◌, Option, Some, None}
use Rattle.std.proofs.Common.{refl, ap, sym, subst, ◌∙◌, inl, inr, nat_lt, nat_eq, length}
use Rattle.std.proofs.lemmas.Bool.{or_right, and_parts, not-true}
use Rattle.verilog_tree.specs.Meaning.{Store, flag}
use Rattle.verilog_tree.specs.WellFormed.{WellFormed}
use Rattle.joined_core.specs.Circuit.{Room}
use Rattle.joined_module.specs.Rows.{Sees, ModuleRow}
use Rattle.joined_module.specs.Module.{ModuleTable, found_rows, waiting_row, joined_module}
use Rattle.joined_module.specs.Machine.{seen_by, same_sees, find_row}
use Rattle.joined_found.specs.Found.{each_row, rows_keyed}
use Rattle.joined_edges.specs.Timed.{Timed, rests, timed_rest, timed_wait, timed_act, timed_row, timed_found, timed_edge, Among}
use Rattle.joined_edges.specs.Timed.{TimedRight, RowIs, ends_calm, at_front, in_rest}
use Rattle.joined_edges.specs.Stands.{Stands}
use Rattle.joined_edges.proofs.Lists.{sigs_right, boxes_right}
use Rattle.joined_edges.proofs.Made as made
use Rattle.joined_steps.specs.Laws.{TableFits, EdgeGoes}
use Rattle.joined_steps.proofs.Module.{b, regs, edge_is, declares, settles}
use Rattle.joined_steps.proofs.Same.{stands_same}
use Rattle.joined_steps.proofs.Edge.{Q, G}
use Rattle.joined_steps.proofs.Row.{rests_row, acts_row}
use Rattle.joined_steps.proofs.Ends.{full_edge, ended_edge, none_edge}
use Rattle.joined_steps.proofs.Rested.{rested}
use Rattle.joined_steps.proofs.Next.{act_fields, of_table}
use Rattle.joined_steps.proofs.CellHas.{act_cell}
use Rattle.joined_steps.proofs.Acted as acting
use Rattle.joined_steps.proofs.Wait.{wait_edge}

-- what holds of each row of the table holds of one of them
each_among : (p : ModuleRow → Bool) (r : ModuleRow) (rows : List ModuleRow) → Among r rows → each_row p rows ≡ true → p r ≡ true
each_among p r [] a h = elim a [ ]
each_among p r (q ∷ rs) (at_front rs') h = (and_parts (p q) (each_row p rs) h).0
each_among p r (q ∷ rs) (in_rest q' rs' a) h = each_among p r rs a (and_parts (p q) (each_row p rs) h).1

-- a row that is found is one of them
find_each : (p : ModuleRow → Bool) (rows : List ModuleRow) → each_row p rows ≡ true → (k : ℕ) (s : Sees) (r : ModuleRow) →
    find_row rows k s ≡ Some r → p r ≡ true
find_each p [] h k s r e = absurd cc
find_each p (q ∷ rs) h k s r e =
    let (a, c) = and_parts (p q) (each_row p rs) h in go (nat_eq q.key k && same_sees q.sees s) refl a (find_each p rs c k s r)
  where
    go : (c : Bool) → (nat_eq q.key k && same_sees q.sees s) ≡ c → p q ≡ true → (find_row rs k s ≡ Some r → p r ≡ true) → p r ≡ true
    go true x a f =
        let y : Some q ≡ Some r = sym (ap (λ c. cond c (Some q) (find_row rs k s)) x) ∙ e in
        let w : q ≡ r = cc in
        subst (λ g. p g ≡ true) w a
    go false x a f = f (sym (ap (λ c. cond c (Some q) (find_row rs k s)) x) ∙ e)

-- a row that waits in the registers is the one of the key
waiting_is : (T : ModuleTable) (t : Timed) → rows_keyed T.rows ≡ true → RowIs T.rows t → (r : ModuleRow) → t.row ≡ Some r →
    r.waits ≡ true → r ≡ waiting_row t.circuit.key t.circuit.site
waiting_is T t keyed (inl f) r e h =
    let a = find_each (λ q. not q.waits && nat_lt q.key (length T.rows)) T.rows keyed t.circuit.key
    (seen_by t.circuit.site t.circuit) r (sym f ∙ e) in
    let (x, y) = and_parts (not r.waits) (nat_lt r.key (length T.rows)) a in
    let z : true ≡ false = sym h ∙ not-true r.waits x in
    absurd cc
waiting_is T t keyed (inr f) r e h = let z : Some r ≡ Some (waiting_row t.circuit.key t.circuit.site) = sym e ∙ f in cc

module _ (T : ModuleTable) (z : Room) (n : ℕ) (table : TableFits T z n) (ps : ℕ → ℕ) (small : (i : ℕ) → i < n → ps i < 2 ^ 64) (t : Timed)
    (S : Store) (start : S.vec "rst" ≡ 0) (before : Stands T z n ps t S)
    (given : t.circuit.ended ≡ false → t.circuit.full ≡ false → TimedRight ps T.rows t) where
  abbrev well : WellFormed (joined_module T z n) ≡ true
  well = table.well

  abbrev Q' : Store
  Q' = Q T z n well S start

  abbrev G' : Store
  G' = G T z n well S start

  st : Stands T z n ps t Q'
  st = stands_same T z n ps t S Q' (regs T z n well S) before

  module _ (runs : t.circuit.full ≡ false) (goes : t.circuit.ended ≡ false) where
    told : TimedRight ps T.rows t
    told = given goes runs

    module _ (r : ModuleRow) (here : t.row ≡ Some r) where
      among : Among r (found_rows T.rows)
      among = told.among r here

      acts_at : (c d : Bool) → rests r t ≡ c → r.waits ≡ d → Q'.vec "acts" ≡ flag (not c && not d)
      acts_at c d h k = acts_row T z n well S start ps t st runs goes r here among c d h k

      -- it rests
      rests_edge : rests r t ≡ true → Stands T z n ps (timed_rest t) G'
      rests_edge h =
          rested T z n well S start ps t st runs goes (acts_at true r.waits h refl)
          (rests_row T z n well S start ps t st runs goes r here among true h)

      -- it is made
      act_edge : rests r t ≡ false → r.waits ≡ false → Stands T z n ps (timed_act ps z T.rows r t) G'
      act_edge h k =
          let acts : Q'.vec "acts" ≡ 1 = acts_at false false h k in
          let row = told.right r here k in
          let calm = each_among ends_calm r T.rows (of_table r T.rows among k) table.calm in
          let sound = acting.sound T z n well S start acts ps small t st runs goes r here among h table.fits calm row in
          let reads = acting.reads T z n well S start acts ps small t st runs goes r here among h table.fits calm row in
          let g = acting.g T z n well S start acts ps small t st runs goes r here among h table.fits calm row in
          let dc = declares T z n well in
          let se = settles T z n well S in
          let O = made.origins_now T.rows z T.start n (b T z n) dc S Q' se t r g here among sound reads in
          let somewhere = (made.told T.rows z T.start n (b T z n) dc S Q' se t r g here among sound reads).looks in
          let sr = sigs_right (found_rows T.rows) z n r among t.circuit sound in
          let br = boxes_right (found_rows T.rows) z n r among t.circuit sound in
          acting.acted T z n well S start acts ps small t st runs goes r here among h table.fits calm row
          (λ room ends. act_fields T z n well S start ps t st runs goes table.keyed r here among h O k ends table.lands sr br somewhere)
          (λ room seen has low.
          act_cell T z n well S start ps t st runs goes r here among h O k sr br somewhere
          (made.below_top T.rows z T.start n (b T z n) dc S Q' se t r g here among sound reads)
          (made.base_room T.rows z T.start n (b T z n) dc S Q' se t r g here among sound reads) seen has)

      row_edge : Stands T z n ps (timed_row ps z T.rows r t) G'
      row_edge = go (rests r t) refl
        where
          awake : rests r t ≡ false → (d : Bool) → r.waits ≡ d →
              Stands T z n ps (cond d (timed_wait T.rows t) (timed_act ps z T.rows r t)) G'
          awake h true k =
              let same = waiting_is T t table.keyed told.row r here k in
              wait_edge T z n table.fits well table.keyed S start ps t st runs goes told (here ∙ ap Some same)
              (ap (λ q. rests q t) (sym same) ∙ h)
          awake h false k = act_edge h k

          go : (c : Bool) → rests r t ≡ c → Stands T z n ps (timed_row ps z T.rows r t) G'
          go true h =
              subst (λ c. Stands T z n ps (cond c (timed_rest t) (cond r.waits (timed_wait T.rows t) (timed_act ps z T.rows r t))) G')
              (sym h)
              (rests_edge h)
          go false h =
              subst (λ c. Stands T z n ps (cond c (timed_rest t) (cond r.waits (timed_wait T.rows t) (timed_act ps z T.rows r t))) G')
              (sym h)
              (awake h r.waits refl)

    found_edge : (o : Option ModuleRow) → t.row ≡ o → Stands T z n ps (timed_found ps z T.rows o t) G'
    found_edge None e = none_edge T z n well S start ps t goes runs e st
    found_edge (Some r) e = row_edge r e

  pub goes_on : Stands T z n ps (timed_edge ps z T.rows t) G'
  goes_on = go t.circuit.full refl t.circuit.ended refl
    where
      by : (c : Bool) → (t.circuit.ended || t.circuit.full) ≡ c → Stands T z n ps (cond c (timed_rest t) (timed_found ps z T.rows t.row
          t)) G' →
          Stands T z n ps (timed_edge ps z T.rows t) G'
      by c e h = subst (λ x. Stands T z n ps (cond x (timed_rest t) (timed_found ps z T.rows t.row t)) G') (sym e) h

      go : (f : Bool) → t.circuit.full ≡ f → (e : Bool) → t.circuit.ended ≡ e → Stands T z n ps (timed_edge ps z T.rows t) G'
      go true u e q = by true (ap (λ x. t.circuit.ended || x) u ∙ or_right t.circuit.ended true refl) (full_edge T z n well S start ps t
          u st)
      go false u true q = by true (ap (λ x. x || t.circuit.full) q) (ended_edge T z n well S start ps t q u st)
      go false u false q = by false (λ i. q i || u i) (found_edge u q t.row refl)

pub edge_goes : EdgeGoes
edge_goes T z n table ps small t S start st given =
    subst (λ X. Stands T z n ps (timed_edge ps z T.rows t) X) (sym (edge_is T z n S)) (goes_on T z n table ps small t S start st given)
