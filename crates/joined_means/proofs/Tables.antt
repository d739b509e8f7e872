-- A table that the check takes is right of the net at all numbers of its ports, and its rows go as they are timed.
use Rattle.std.proofs.Common.{◌≡◌, ℕ, suc, ◌+◌, ◌^◌, Bool, true, false, not, ◌||◌, List, [], ◌∷◌, length}
use Rattle.std.proofs.Common.{Option, Some, None}
use Rattle.std.proofs.Common.{refl, sym, ap, ◌∙◌, subst}
use Rattle.std.specs.Prelude.{nat_eq, ◌&&◌}
use Rattle.std.proofs.lemmas.Bool.{and_parts, and_from}
use Rattle.net_build.specs.declared.node.Node.{Node}
use Rattle.net_build.specs.declared.node.Node.TheVariants.{Const}
use Rattle.net_build.specs.declared.node.Node.TheVariants.{Root}
use Rattle.net_build.specs.Nets.{NetTree}
use Rattle.interleave_laws.specs.Start.{root_wire}
use Rattle.interleave_laws.specs.Runs.{Runs}
use Rattle.open_net_laws.specs.Numbers.{set_given, set_all, given, with_numbers}
use Rattle.circuit_module.specs.Stands.{SmallConstants}
use Rattle.net_rows.specs.Rows.{rises}
use Rattle.joined_rows.specs.Compound.{Pointer}
use Rattle.joined_core.specs.Rows.{Key, key, Site, nowhere, on_sigs, on_boxes, on_value, Seen, nothing, shaped, zero_is}
use Rattle.joined_core.specs.Same.{same_key}
use Rattle.joined_core.specs.Numbers.{key_number}
use Rattle.joined_core.specs.Listed.{Entry, site_of, right_table}
use Rattle.joined_core.specs.Circuit.{Room}
use Rattle.joined_core.proofs.Listed.{listed_table}
use Rattle.joined_core.proofs.Numbers.{AllIn, all_in, number_key}
use Rattle.joined_core.proofs.Same.{key_is}
use Rattle.joined_module.specs.Rows.{Numbering, numbering, module_row, module_rows, row_sees, rows_fit}
use Rattle.joined_module.specs.Machine.{RowCircuit, row_start}
use Rattle.joined_module.specs.Fits.{module_fits}
use Rattle.joined_found.specs.Found.{sees_at, rows_see, entry_sees, entries_see}
use Rattle.joined_found.proofs.Lands.{rows_do_land}
use Rattle.joined_edges.specs.Timed.{something}
use Rattle.joined_numbers.specs.Within.{start_key, rows_within, rows_below, row_within, entry_within, seen_within, starts_within}
use Rattle.joined_numbers.specs.Within.{is_nowhere}
use Rattle.joined_numbers.specs.At.{number_at, entries_at}
use Rattle.joined_numbers.specs.Ports.{with_ports}
use Rattle.joined_numbers.specs.Laws.{TableRuns, table_rows, memory_of, rows_run, looks_there}
use Rattle.joined_numbers.proofs.Exchanged.{rows_at_ports}
use Rattle.joined_numbers.proofs.Found.{row_key, row_seen}
use Rattle.joined_numbers.proofs.Runs.{nowhere_is, row_needs, row_looks_there}
use Rattle.joined_timed.specs.Laws.{RowsThere, RowsLook, TableGoes}
use Rattle.joined_numbers.specs.Runs.{table_of, module_runs}

-- ---- the start is the same at all numbers

root_set : (o : Option ℕ) (n : Node) (ns : List Node) → root_wire (set_given o n ∷ ns) ≡ root_wire (n ∷ ns)
root_set None n ns = refl
root_set (Some u) (Const v w) ns = refl
root_set (Some u) n ns = refl

root_rest : (n : Node) (ms ns : List Node) → root_wire ms ≡ root_wire ns → root_wire (n ∷ ms) ≡ root_wire (n ∷ ns)
root_rest (Root c) ms ns h = refl
root_rest n ms ns h = h

root_all : (f : ℕ → Option ℕ) (k : ℕ) (ns : List Node) → root_wire (set_all f k ns) ≡ root_wire ns
root_all f k [] = refl
root_all f k (n ∷ ns) =
    root_set (f k) n (set_all f (suc k) ns) ∙ root_rest n (set_all f (suc k) ns) ns (root_all f (suc k) ns)

pub start_same : (net : NetTree) (ps vs : List ℕ) → start_key (with_numbers net ps vs) ≡ start_key net
start_same net ps vs = ap (λ w. key false (rises w) []) (root_all (given ps vs) 0 net.nodes)

-- ---- the parts of the check

pub record Checked (net : NetTree) (places : List ℕ) (sites : List (ℕ × Site)) (entries : List Entry) (z : Room) : Type 0 where
  pub right : right_table (with_ports net places) sites entries ≡ true
  pub fit : rows_fit entries ≡ true
  pub within : rows_within (length places) sites entries ≡ true
  pub start : starts_within net sites ≡ true
  pub wide : module_fits (table_of net sites entries) z (length places) ≡ true

pub checked : (net : NetTree) (places : List ℕ) (sites : List (ℕ × Site)) (entries : List Entry) (z : Room) →
    module_runs net places sites entries z ≡ true → Checked net places sites entries z
checked net places sites entries z h =
    let w : Bool = module_fits (table_of net sites entries) z (length places) in
    let a = and_parts (right_table (with_ports net places) sites entries)
    (rows_fit entries && (rows_within (length places) sites entries && (starts_within net sites && w))) h in
    let b = and_parts (rows_fit entries) (rows_within (length places) sites entries && (starts_within net sites && w)) a.1 in
    let c = and_parts (rows_within (length places) sites entries) (starts_within net sites && w) b.1 in
    let d = and_parts (starts_within net sites) w c.1 in
    record { right = a.0; fit = b.0; within = c.0; start = d.0; wide = d.1 }

-- it is right at any numbers
pub table_runs : (net other : NetTree) (places vs : List ℕ) → SmallConstants net → length vs ≡ length places →
    other ≡ with_numbers net places vs → (sites : List (ℕ × Site)) (entries : List Entry) (z : Room) →
    Checked net places sites entries z → TableRuns other sites entries (number_at vs)
table_runs net other places vs small l is sites entries z c = record {
  right = listed_table other sites (entries_at (number_at vs) entries)
      (subst (λ n. right_table n sites (entries_at (number_at vs) entries) ≡ true) (sym is)
      (rows_at_ports net places vs small l sites entries c.right));
  fit = c.fit;
  ports = length places;
  within = c.within;
  start = ap (λ k. is_nowhere (site_of sites k)) (ap start_key is ∙ start_same net places vs) ∙ c.start;
}

-- ---- rows land

entry_is_seen : (w : Site) (e : Seen) → seen_within w e ≡ entry_sees w e
entry_is_seen nowhere nothing = refl
entry_is_seen on_sigs (shaped x) = refl
entry_is_seen on_boxes (shaped x) = refl
entry_is_seen on_value (zero_is b) = refl
entry_is_seen w e = refl

pub all_see : (sites : List (ℕ × Site)) (b : ℕ) (es : List Entry) → rows_below sites b es ≡ true → entries_see sites es ≡ true
all_see sites b [] h = refl
all_see sites b (e ∷ es) h =
    let p = and_parts (entry_within sites b e) (rows_below sites b es) h in
    let q = and_parts (seen_within (site_of sites e.key) e.seen) (row_within sites b e.row) p.0 in
    and_from (entry_sees (site_of sites e.key) e.seen) (entries_see sites es) (sym (entry_is_seen (site_of sites e.key) e.seen) ∙ q.0)
    (all_see sites b es p.1)

nothing_seen : (e : Seen) → entry_sees nowhere e ≡ true → e ≡ nothing
nothing_seen nothing h = refl
nothing_seen (shaped x) h = absurd cc
nothing_seen (zero_is b) h = absurd cc

-- the rows at the start see nothing
start_sees : (sites : List (ℕ × Site)) (es xs : List Entry) (k : Key) → site_of sites k ≡ nowhere → AllIn es xs →
    entries_see sites xs ≡ true → rows_see (module_rows (numbering sites es) xs) (key_number es k) nowhere ≡ true
start_sees sites es [] k w i h = refl
start_sees sites es (x ∷ xs) k w i h =
    and_from (not (nat_eq (module_row N x).key (key_number es k)) || sees_at nowhere (module_row N x).sees)
    (rows_see (module_rows N xs) (key_number es k) nowhere)
    (ap (λ n. not (nat_eq n (key_number es k)) || sees_at nowhere (module_row N x).sees) (row_key N x)
    ∙ ap (λ b. not b || sees_at nowhere (module_row N x).sees) (number_key es x.key k i.0)
    ∙ ap (λ s. not (same_key x.key k) || sees_at nowhere s) (row_seen N x) ∙ go (same_key x.key k) refl)
    (start_sees sites es xs k w i.1 p.1)
  where
    N : Numbering
    N = numbering sites es

    p : (entry_sees (site_of sites x.key) x.seen ≡ true) × (entries_see sites xs ≡ true)
    p = and_parts (entry_sees (site_of sites x.key) x.seen) (entries_see sites xs) h

    go : (b : Bool) → same_key x.key k ≡ b → (not b || sees_at nowhere (row_sees N.tag x.seen)) ≡ true
    go false q = refl
    go true q =
        let at : site_of sites x.key ≡ nowhere = ap (site_of sites) (key_is x.key k q) ∙ w in
        ap (λ e. sees_at nowhere (row_sees N.tag e)) (nothing_seen x.seen (ap (λ w. entry_sees w x.seen) (sym at) ∙ p.0))

-- ---- so the rows with their waits go along

looks_are : (D : RowCircuit) (w : Site) → looks_there D w ≡ something w D.sigs D.boxes
looks_are D nowhere = refl
looks_are D on_sigs = refl
looks_are D on_boxes = refl
looks_are D on_value = refl

-- the rows of the table go with their waits as they are timed
pub table_goes : (net other : NetTree) → Runs other → start_key other ≡ start_key net →
    (sites : List (ℕ × Site)) (entries : List Entry) (ps : ℕ → ℕ) (t : TableRuns other sites entries ps) (z : Room) (mem : ℕ → ℕ →
    Pointer) →
    TableGoes ps z (table_of net sites entries) (memory_of sites entries mem)
table_goes net other runs same sites entries ps t z mem = record {
  keyed = (rows_do_land sites entries see).1;
  land = (rows_do_land sites entries see).0;
  start = start_sees sites entries entries (start_key net)
      (nowhere_is (site_of sites (start_key net)) (ap (λ k. is_nowhere (site_of sites k)) (sym same) ∙ t.start)) (all_in entries) see;
  there = subst (λ k. RowsThere ps z (table_rows sites entries) (row_start (key_number entries k) (memory_of sites entries mem))) same
      (λ j r e f h. row_needs other runs sites entries ps t z mem j r e f h);
  look = subst (λ k. RowsLook ps z (table_rows sites entries) (row_start (key_number entries k) (memory_of sites entries mem))) same
      (λ j f. sym (looks_are (rows_run other sites entries ps z (memory_of sites entries mem) j)
      (rows_run other sites entries ps z (memory_of sites entries mem) j).site) ∙ row_looks_there other runs sites entries ps t z mem j f);
}
  where
    see : entries_see sites entries ≡ true
    see = all_see sites (2 ^ 64 + t.ports) entries t.within
