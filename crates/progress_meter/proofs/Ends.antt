-- What an end keeps after a step of its own.
use Rattle.std.proofs.Common.{◌≡◌, ◌≤◌, ℕ, List, [], ◌∷◌, ◌++◌, sym, ap, ◌∙◌, subst}
use Rattle.std.specs.Prelude.{slice_index, All}
use Rattle.std.proofs.lemmas.List.Elements.{All-contains, Contains-push}
use Rattle.progress_meter.specs.declared.rule.View.{View}
use Rattle.progress_meter.specs.declared.rule.View.TheVariants.{Publishes, Reads}
use Rattle.progress_meter.specs.Meters.{RisesFromZero, AreReadingsOf}
use Rattle.progress_meter.specs.Last.{last_of}
use Rattle.progress_meter.specs.Rule.{published_of, settled_of, readings_of, IsWriter, IsReader}
use Rattle.progress_meter.specs.Rule.{Loaded, Stored, Compared, with_readings, Writes, Listens}
use Rattle.progress_meter.proofs.Lists.{last_of-push, rises-push, all_more}

-- a view with readings is a reader's
pub reader_is : (v : View) (readings : List ℕ) → v ≡ Reads readings → IsReader v
reader_is v readings e = e ∙ ap Reads (sym (ap readings_of e))

-- and one with what was published a writer's
pub writer_is : (v : View) (published : List ℕ) (settled : List (List ℕ)) → v ≡ Publishes published settled → IsWriter v
writer_is v published settled e = e ∙ (λ i. Publishes (sym (ap published_of e) i) (sym (ap settled_of e) i))

-- a reader goes on with what it reads
pub has_read : (v w : View) (last : ℕ) (after : List ℕ) → Listens v last → Loaded v [] after w → Listens w (slice_index after 0)
has_read v w last after was loaded =
    let n = slice_index after 0 in
    let now : readings_of w ≡ readings_of v ++ n ∷ [] = ap readings_of loaded.0 in record {
      is_reader = loaded.0 ∙ ap Reads (sym now);
      last_is = sym (ap last_of now ∙ last_of-push (readings_of v) n);
      rises = subst RisesFromZero (sym now) (rises-push (readings_of v) n was.rises loaded.1);
    }

-- a writer goes on with what it publishes
pub has_published : (v w : View) (last : ℕ) (after : List ℕ) → Writes v last → last_of (published_of v) ≤ slice_index after 0 →
    Stored v [] after w
    → Writes w (slice_index after 0)
has_published v w last after was up stored =
    let n = slice_index after 0 in
    let now : published_of w ≡ published_of v ++ n ∷ [] = ap published_of stored in
    let same : settled_of w ≡ settled_of v = ap settled_of stored in record {
      is_writer = stored ∙ (λ i. Publishes (sym now i) (sym same i));
      last_is = sym (ap last_of now ∙ last_of-push (published_of v) n);
      rises = subst RisesFromZero (sym now) (rises-push (published_of v) n was.rises up);
      settled = subst (λ (x : List ℕ × List (List ℕ)). All (AreReadingsOf x.0) x.1) (λ i. (sym now i, sym same i))
          (all_more (published_of v) n (settled_of v) was.settled);
    }

-- a writer goes on with the readings w that it took in
pub has_settled : (v w now after : View) (last : ℕ) → Writes v last → now ≡ with_readings v w → Compared now [] [] after →
    Writes after last
has_settled v w now after last was joined compared =
    let is : after ≡ with_readings v w = compared.0 ∙ joined in
    let all = subst (λ (u : View). All (AreReadingsOf (published_of u)) (settled_of u)) joined compared.1 in record {
      is_writer = writer_is after (published_of v) (settled_of v ++ readings_of w ∷ []) is;
      last_is = was.last_is ∙ ap last_of (sym (ap published_of is));
      rises = subst RisesFromZero (sym (ap published_of is)) was.rises;
      settled = subst (λ (u : View). All (AreReadingsOf (published_of u)) (settled_of u)) (sym is) all;
    }

-- and learns of them that they are of what it published
pub has_compared : (v w now after : View) → now ≡ with_readings v w → Compared now [] [] after →
    AreReadingsOf (published_of v) (readings_of w)
has_compared v w now after joined compared =
    let all = subst (λ (u : View). All (AreReadingsOf (published_of u)) (settled_of u)) joined compared.1 in
    All-contains (AreReadingsOf (published_of v)) (settled_of v ++ readings_of w ∷
    []) (readings_of w) all (Contains-push (settled_of v) (readings_of w))
