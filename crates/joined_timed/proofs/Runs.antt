-- From the start on.
use Rattle.std.proofs.Common.{◌≡◌, ℕ, ◌-◌, max, Bool, true, false, List, [], ◌∷◌, Some}
use Rattle.std.proofs.Common.{refl, sym, ap, ◌∙◌, subst, inl, arith}
use Rattle.std.specs.Prelude.{nat_lt, ◌&&◌}
use Rattle.std.proofs.lemmas.Bool.{and_parts}
use Rattle.joined_core.specs.Circuit.{Room}
use Rattle.net_rows.proofs.Small.{not_full}
use Rattle.joined_module.specs.Rows.{From, from_word}
use Rattle.joined_module.specs.Rows.{ForkDeed}
use Rattle.joined_module.specs.Rows.{no_fork, opens, keeps, closes, opened_boxes, word_of_from, words_read, ModuleRow, sees_nothing}
use Rattle.joined_module.specs.Module.{ModuleTable}
use Rattle.joined_module.specs.Machine.{Tagged, RowCircuit, looked_place, has_cell, row_clocks, row_start, from_there}
use Rattle.joined_module.specs.Machine.{all_there, option_there, deed_there, worth_there, row_there, takes_words}
use Rattle.joined_edges.specs.Timed.{Timed, timed_edges, timed_start}
use Rattle.joined_timed.specs.Laws.{TableGoes, Timely, TimedAlong}
use Rattle.joined_timed.proofs.Right.{among_next, Along, found_waits, right_of}
use Rattle.joined_timed.proofs.Bound.{found_left, Goes, edges_go}

-- where nothing is looked at, a row that finds what it reads takes no words
no_word : (D : RowCircuit) → has_cell D.site ≡ false → (s : From) → from_there D s ≡ true → word_of_from (Some s) ≡ 0
no_word D h (from_word i) e =
    not_full (sym (and_parts (has_cell D.site) (nat_lt (looked_place D.site D.sigs D.boxes) D.top) e).0 ∙ h)
no_word D h s e = refl

no_words : (D : RowCircuit) → has_cell D.site ≡ false → (ss : List From) → all_there D ss ≡ true → words_read ss ≡ 0
no_words D h [] e = refl
no_words D h (s ∷ ss) e =
    let p = and_parts (from_there D s) (all_there D ss) e in
    ap (λ n. max n (words_read ss)) (no_word D h s p.0) ∙ ap (max 0) (no_words D h ss p.1)

no_opened : (D : RowCircuit) → has_cell D.site ≡ false → (d : ForkDeed) → deed_there D d ≡ true → words_read (opened_boxes d) ≡ 0
no_opened D h no_fork e = refl
no_opened D h (opens l b k) e = no_words D h l (and_parts (all_there D l) (option_there D k) e).0
no_opened D h (keeps x) e = refl
no_opened D h closes e = refl

-- a row that finds all it reads takes no words where nothing is looked at
takes_none : (D : RowCircuit) → has_cell D.site ≡ false → (r : ModuleRow) → row_there D r ≡ true → takes_words (Some r) ≡ false
takes_none D h r e =
    let rest : Bool = deed_there D r.fork && worth_there D r.worth in
    let a = and_parts (all_there D r.sigs) (all_there D r.boxes && (all_there D r.words && rest)) e in
    let b = and_parts (all_there D r.boxes) (all_there D r.words && rest) a.1 in
    let c = and_parts (all_there D r.words) rest b.1 in
    let d = and_parts (deed_there D r.fork) (worth_there D r.worth) c.1 in
    let w = no_words D h r.sigs a.0 in
    let x = no_words D h r.boxes b.0 in
    let y = no_words D h r.words c.0 in
    let z = no_opened D h r.fork d.0 in λ i. nat_lt 0 (max (w i) (max (x i) (max (y i) (z i))))

module _ (ps : ℕ → ℕ) (z : Room) (T : ModuleTable) (mem : ℕ → ℕ → Tagged) (g : TableGoes ps z T mem) where
  abbrev D0 : RowCircuit
  D0 = row_start T.start mem

  abbrev t0 : Timed
  t0 = timed_start T mem

  start_along : Along ps z T.rows g.keyed g.land D0 g.there g.look 0 t0
  start_along = record {
    circuit = refl;
    right = λ e f. right_of ps z T.rows g.keyed g.land D0 g.there g.look 0 t0 refl e f (inl refl)
        (λ r q. among_next T.rows g.keyed false T.start sees_nothing r q)
        (λ r f q w. not_full (sym w ∙ takes_none D0 refl r (g.there 0 r refl refl f).0)) g.start refl;
  }

  start_goes : Goes ps z T.rows g.keyed g.land D0 g.there g.look 0 0 t0
  start_goes = record {
    along = start_along;
    late = omega arith;
    few = omega arith;
    bound = λ d f. let o = found_left t0.row (λ r q. found_waits ps z T.rows g.keyed g.land D0 g.there g.look T.start sees_nothing r q) in
        omega (arith, o);
    done = λ d. not_full (sym d);
    last = λ e. not_full (sym e);
  }

  along : (n : ℕ) → Timely ps z T mem n (timed_edges ps z T.rows n t0)
  along n =
      let h = edges_go ps z T.rows g.keyed g.land D0 g.there g.look n t0 start_goes in
      let x = h.1 in
      record {
        rows = h.0;
        circuit = x.along.circuit;
        few = x.few;
        bound = λ d f. let b = x.bound d f in omega (arith, b);
        done = x.done;
        before = h.0 - 1;
        last = λ e. let l = (x.last e).last in omega (arith, l);
        going = λ e.
            let l = (x.last e).last in
            let same : (x.last e).before ≡ h.0 - 1 = omega (arith, l) in
            subst (λ i. (row_clocks ps z T.rows i D0).ended ≡ false) same (x.last e).going;
        ready = λ e.
            let l = (x.last e).last in
            let same : (x.last e).before ≡ h.0 - 1 = omega (arith, l) in
            subst (λ i. (row_clocks ps z T.rows i D0).full ≡ false) same (x.last e).ready;
        right = x.along.right;
      }

pub timed_along : TimedAlong
timed_along ps z T mem g n = along ps z T mem g n
