-- Each step of an end keeps the rule: first at a view that is written out, and at the end of the file at a view that is known to be a
-- writer's or a reader's.
use Rattle.std.proofs.Common.{◌≡◌, ◌≢◌, ℕ, zero, suc, ◌≤◌, List, [], ◌∷◌, ◌++◌, set, Bool, true, false}
use Rattle.std.proofs.Common.{true≢false, refl, sym, ap, ◌∙◌, subst, ⊎_elim, arith}
use Rattle.std.specs.Prelude.{slice_index, All}
use Rattle.std.proofs.lemmas.List.Elements.{All-push}
use mathlib.Core.Option.{some, some-ne-none, some-injective}
use lib.ListN.{get_elem?}
use Rattle.crossbeam_utils.specs.Register.{Turns, Forks, Merges}
use Rattle.atomic_table.proofs.Lists.{at_set, at_snoc, at_longer, set_again, set_here, set_else}
use Rattle.progress_meter.specs.declared.rule.View.{View}
use Rattle.progress_meter.specs.declared.rule.View.TheVariants.{Publishes, Reads, Spent}
use Rattle.progress_meter.specs.Meters.{RisesFromZero, AreReadingsOf}
use Rattle.progress_meter.specs.Last.{last_of}
use Rattle.progress_meter.specs.Rule.{new_writer, new_reader, published_of, settled_of, readings_of, IsWriter, IsReader, Fits, Kept}
use Rattle.progress_meter.specs.Rule.{Loaded, Stored, Compared, with_readings}
use Rattle.progress_meter.specs.Steps.{StepsKeep}
use Rattle.progress_meter.proofs.Lists.{last_of-push, zero_rises, rises-push, last_reading, readings_more, all_more, readings-push}
use Rattle.progress_meter.proofs.Lists.{readings_of_zero, is_inside}

abbrev is_writer : View → Bool
is_writer (Publishes published settled) = true
is_writer (Reads readings) = false
is_writer Spent = false

-- two seats are two, where the one has the writer's view and the other doesn't
apart : (views : List View) (i j : ℕ) (v w : View) → get_elem? views i ≡ some v → get_elem? views j ≡ some w →
    is_writer v ≡ false → is_writer w ≡ true → i ≢ j
apart views i j v w at there one other same = true≢false
    (sym other ∙ ap is_writer (some-injective w v (sym there ∙ ap (get_elem? views) (sym same) ∙ at)) ∙ one)

-- each view fits after one seat's view became w
fits_set : (writer : ℕ) (log : List ℕ) (views : List View) (by : ℕ) (w : View) →
    ((j : ℕ) (u : View) → j ≢ by → get_elem? views j ≡ some u → Fits writer log j u) → Fits writer log by w
    → (j : ℕ) (u : View) → get_elem? (set views by w) j ≡ some u → Fits writer log j u
fits_set writer log views by w others mine j u e =
    ⊎_elim
    (λ (x : (j ≡ by) × (w ≡ u)). subst (λ (y : ℕ × View). Fits writer log y.0 y.1) (λ i. (sym x.0 i, x.1 i)) mine)
    (λ (x : (j ≢ by) × (get_elem? views j ≡ some u)). others j u x.0 x.1)
    (at_set views by j w u e)

-- a view at another seat than the writer's still fits when more is published
fits_longer : (writer : ℕ) (log : List ℕ) (n seat : ℕ) → seat ≢ writer → (v : View) → Fits writer log seat v →
    Fits writer (log ++ n ∷ []) seat v
fits_longer writer log n seat other (Publishes published settled) fits = absurd (other fits.0)
fits_longer writer log n seat other (Reads readings) fits = readings_more log n readings fits
fits_longer writer log n seat other Spent fits = tt

-- a view of a seat other than the writer's changes, and the word stays
changes : (by : ℕ) (v w : View) (words : List ℕ) (views : List View) (h : Kept words views) → get_elem? views by ≡ some v →
    is_writer v ≡ false → Fits h.writer h.log by w
    → Kept words (set views by w)
changes by v w words views h at reader fits = record {
  writer = h.writer;
  log = h.log;
  settled = h.settled;
  is_there = set_else views by h.writer w (λ e. apart views by h.writer v (Publishes h.log h.settled) at h.is_there reader refl (sym e))
      ∙ h.is_there;
  rises = h.rises;
  ends = h.ends;
  each = fits_set h.writer h.log views by w (λ j u _ e. h.each j u e) fits;
}

-- a new seat comes with a view that fits at each seat
comes : (w : View) (words : List ℕ) (views : List View) (h : Kept words views) → ((j : ℕ) → Fits h.writer h.log j w) →
    Kept words (views ++ w ∷ [])
comes w words views h fits = record {
  writer = h.writer;
  log = h.log;
  settled = h.settled;
  is_there = at_longer views (w ∷ []) h.writer (Publishes h.log h.settled) h.is_there;
  rises = h.rises;
  ends = h.ends;
  each = λ j u e. ⊎_elim (h.each j u) (λ (same : w ≡ u). subst (Fits h.writer h.log j) same (fits j)) (at_snoc views w u j e);
}

-- Make: the writer's view, the word 0 and the list of 0.
pub makes : Kept (0 ∷ []) (new_writer ∷ [])
makes = record {
  writer = 0;
  log = 0 ∷ [];
  settled = [];
  is_there = refl;
  rises = zero_rises;
  ends = refl;
  each = one;
}
  where
    one : (seat : ℕ) (v : View) → get_elem? (new_writer ∷ []) seat ≡ some v → Fits 0 (0 ∷ []) seat v
    one zero v e = subst (Fits 0 (0 ∷ []) 0) (some-injective new_writer v e) (refl, refl, λ k d inside. absurd (omega arith))
    one (suc seat) v e = absurd (some-ne-none v (sym e))

-- Split of the writer: the first reader comes with the list of 0.
first_reader : (by : ℕ) (published : List ℕ) (settled : List (List ℕ)) →
    Forks Kept by (Publishes published settled) (Publishes published settled) new_reader
first_reader by published settled words views h at =
    let p = h.rises in
    subst (λ l. Kept words (l ++ new_reader ∷ [])) (sym (set_again views by (Publishes published settled) at))
    (comes new_reader words views h (λ j. readings_of_zero h.log p.some_number p.begins))

-- Split of a reader: the second reader has the readings of the first.
second_reader : (by : ℕ) (readings : List ℕ) → Forks Kept by (Reads readings) (Reads readings) (Reads readings)
second_reader by readings words views h at =
    let v = Reads readings in
    subst (λ l. Kept words (l ++ v ∷ [])) (sym (set_again views by v at)) (comes v words views h (λ j. h.each by v at))

-- Split of a reader that is to be joined: its whole view goes to a new seat.
whole_view : (by : ℕ) (readings : List ℕ) → Forks Kept by (Reads readings) Spent (Reads readings)
unfolding changes
whole_view by readings words views h at =
    let v = Reads readings in
    comes v words (set views by Spent) (changes by v Spent words views h at refl tt) (λ j. h.each by v at)

-- Load of a reader: its list grows by the word.
loads : (by : ℕ) (readings : List ℕ) → Turns Kept by (Reads readings) (λ x. x) Loaded
loads by readings words views h at =
    let word = slice_index words 0 in
    let p = h.rises in
    let fits : AreReadingsOf h.log readings = h.each by (Reads readings) at in
    let more : AreReadingsOf h.log (readings ++ word ∷ []) =
    subst (λ n. AreReadingsOf h.log (readings ++ n ∷ [])) h.ends (readings-push h.log readings p.some_number p.rises fits) in
    let w = Reads (readings ++ word ∷ []) in (
      w,
      changes by (Reads readings) w words views h at refl more,
      (refl, subst (λ n. last_of readings ≤ n) h.ends (last_reading h.log readings p.rises fits)),
    )

-- Load of the writer: it learns of the readings that it has.
compares : (by : ℕ) (published : List ℕ) (settled : List (List ℕ)) → Turns Kept by (Publishes published settled) (λ x. x) Compared
compares by published settled words views h at =
    let v = Publishes published settled in
    let fits = h.each by v at in
    (v, subst (Kept words) (sym (set_again views by v at)) h, (refl, subst (λ l. All (AreReadingsOf l) settled) (sym fits.1) fits.2))

-- Store: the word, and the writer's list grows by it.
stores : (by : ℕ) (published : List ℕ) (settled : List (List ℕ)) (n : ℕ) → last_of published ≤ n →
    Turns Kept by (Publishes published settled) (λ _. n ∷ []) Stored
stores by published settled n up words views h at =
    let v = Publishes published settled in
    let p = h.rises in
    let fits = h.each by v at in
    let more = published ++ n ∷ [] in
    let longer : more ≡ h.log ++ n ∷ [] = ap (λ l. l ++ n ∷ []) fits.1 in
    let w = Publishes more settled in (
      w,
      record {
        writer = by;
        log = more;
        settled = settled;
        is_there = set_here views by w (is_inside views by v at);
        rises = rises-push published n (subst RisesFromZero (sym fits.1) p) up;
        ends = last_of-push published n;
        each = fits_set by more views by w
            (λ j u other e. subst (λ l. Fits by l j u) (sym longer)
            (fits_longer by h.log n j other u (subst (λ i. Fits i h.log j u) (sym fits.0) (h.each j u e))))
            (refl, refl, subst (λ l. All (AreReadingsOf l) settled) (sym longer) (all_more h.log n settled fits.2));
      },
      refl,
    )

-- Join: the reader's view is spent, and its list stands beside the writer's own.
joins : (by : ℕ) (published : List ℕ) (settled : List (List ℕ)) (other : ℕ) (readings : List ℕ)
    → Merges Kept by (Publishes published settled) other (Reads readings) (Publishes published (settled ++ readings ∷ [])) Spent
joins by published settled other readings words views h at distinct there =
    let v = Publishes published settled in
    let w = Publishes published (settled ++ readings ∷ []) in
    let fits = h.each by v at in
    let before : get_elem? views other ≡ some (Reads readings) = sym (set_else views by other w distinct) ∙ there in
    let are : AreReadingsOf h.log readings = h.each other (Reads readings) before in
    let joined : Kept words (set views by w) = record {
      writer = by;
      log = published;
      settled = settled ++ readings ∷ [];
      is_there = set_here views by w (is_inside views by v at);
      rises = subst RisesFromZero (sym fits.1) h.rises;
      ends = ap last_of fits.1 ∙ h.ends;
      each = fits_set by published views by w
          (λ j u _ e. subst (λ (x : ℕ × List ℕ). Fits x.0 x.1 j u) (λ i. (sym fits.0 i, sym fits.1 i)) (h.each j u e)) (
            refl,
            refl,
            subst (λ l. All (AreReadingsOf l) (settled ++ readings ∷ [])) (sym fits.1)
                (All-push (AreReadingsOf h.log) settled readings fits.2 are),
          );
    } in
    changes other (Reads readings) Spent words (set views by w) joined there refl tt

-- The same steps at a view that is known to be the writer's or a reader's.
pub first_reader_as : (by : ℕ) (v : View) → IsWriter v → Forks Kept by v v new_reader
first_reader_as by v is = subst (λ (u : View). Forks Kept by u u new_reader) (sym is) (first_reader by (published_of v) (settled_of v))

pub second_reader_as : (by : ℕ) (v : View) → IsReader v → Forks Kept by v v v
second_reader_as by v is = subst (λ (u : View). Forks Kept by u u u) (sym is) (second_reader by (readings_of v))

pub whole_view_as : (by : ℕ) (v : View) → IsReader v → Forks Kept by v Spent v
whole_view_as by v is = subst (λ (u : View). Forks Kept by u Spent u) (sym is) (whole_view by (readings_of v))

pub loads_as : (by : ℕ) (v : View) → IsReader v → Turns Kept by v (λ x. x) Loaded
loads_as by v is = subst (λ (u : View). Turns Kept by u (λ x. x) Loaded) (sym is) (loads by (readings_of v))

pub compares_as : (by : ℕ) (v : View) → IsWriter v → Turns Kept by v (λ x. x) Compared
compares_as by v is = subst (λ (u : View). Turns Kept by u (λ x. x) Compared) (sym is) (compares by (published_of v) (settled_of v))

pub stores_as : (by : ℕ) (v : View) (n : ℕ) → IsWriter v → last_of (published_of v) ≤ n →
    Turns Kept by v (λ _. n ∷ []) Stored
stores_as by v n is up = subst (λ (u : View). Turns Kept by u (λ _. n ∷ []) Stored) (sym is)
    (stores by (published_of v) (settled_of v) n up)

pub joins_as : (by : ℕ) (v : View) (other : ℕ) (w : View) → IsWriter v → IsReader w →
    Merges Kept by v other w (with_readings v w) Spent
joins_as by v other w writer reader =
    subst (λ (x : View × View). Merges Kept by x.0 other x.1 (with_readings v w) Spent) (λ i. (sym writer i, sym reader i))
    (joins by (published_of v) (settled_of v) other (readings_of w))

-- The rule holds of a new meter, and each step keeps it.
pub steps_keep : StepsKeep
steps_keep = record {
  make = makes;
  first = first_reader_as;
  second = second_reader_as;
  moves = whole_view_as;
  load = loads_as;
  compare = compares_as;
  store = stores_as;
  join = joins_as;
}
