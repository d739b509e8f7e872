-- How many tickets are live: as many as the code's map has entries.
use Rattle.std.proofs.Common.{◌≡◌, ℕ, cond, List, [], ◌∷◌, Some, None}
use Rattle.std.proofs.Common.{◌+◌, length, refl, sym, ap, ◌∙◌, arith}
use Rattle.std.specs.Prelude.{is_some}
use Rattle.std.specs.declared.cmp.Ordering.TheVariants.{Less}
use Rattle.std.specs.Ordering.{nat_cmp, is_eq}
use Rattle.std.specs.List.{AllByRecursion}
use Rattle.std.specs.List.Sorted.{IsStrictlySortedBy}
use Rattle.std.specs.FinMap as finite
use Rattle.std.specs.FinMap.{FinMap, find, from_entries, len-empty, len-insert, get-from_entries}
use Rattle.std.specs.Map.{keys_of}
use Rattle.std.specs.BTreeMap.{BTreeMap, IsOrdered}
use Rattle.std.proofs.lemmas.Cmp.{nat_cmp_total}
use Rattle.move_rules.specs.declared.token.Token.{Token}
use Rattle.move_rules.specs.Places.{TokenTree}
use Rattle.move_rules.specs.Views.{token_of}
use Rattle.interleave_core.specs.LiveMap.{live_entries, live_of}

-- below all tickets of a list there is none of it
none_below : (j : ℕ) (es : List (ℕ × Token)) → AllByRecursion (λ k. nat_cmp j k ≡ Less) (keys_of es) →
    find nat_cmp j (live_entries es) ≡ None
none_below j [] h = refl
none_below j (e ∷ es) h = ap (λ o. cond (is_eq o) (Some (token_of e.1)) (find nat_cmp j (live_entries es))) h.0 ∙ none_below j es h.1

-- a list in order has as many entries as its map
entries_len : (es : List (ℕ × Token)) → IsStrictlySortedBy nat_cmp (keys_of es) →
    finite.len (from_entries {R = nat_cmp} (live_entries es)) ≡ length es
unfolding IsStrictlySortedBy
entries_len [] s = len-empty nat_cmp TokenTree
entries_len (e ∷ es) s =
    let none : finite.get (from_entries {R = nat_cmp} (live_entries es)) e.0 ≡ None =
    get-from_entries nat_cmp_total (live_entries es) e.0 ∙ none_below e.0 es s.0 in
    let ih = entries_len es s.1 in
    let one = len-insert nat_cmp_total (from_entries {R = nat_cmp} (live_entries es)) e.0 (token_of e.1) in
    one ∙ ap (λ o. cond (is_some o) (finite.len (from_entries {R = nat_cmp} (live_entries es)))
    (finite.len (from_entries {R = nat_cmp} (live_entries es)) + 1)) none
    ∙ ap (λ n. n + 1) ih ∙ omega arith

-- the finite map has as many tickets as the code's map has entries
pub live_len : (m : BTreeMap ℕ Token) (f : FinMap nat_cmp TokenTree) → live_of m ≡ f → IsOrdered nat_cmp m →
    length m.entries ≡ finite.len f
live_len m f view s = sym (entries_len m.entries s) ∙ ap finite.len view
