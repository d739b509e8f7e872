-- Two lists of wires that differ at one place are not one list.
use Rattle.std.proofs.Common.{◌≡◌, ℕ, ◌<◌, List, length, map, get_or, Some, refl, sym, ap, ◌∙◌}
use Rattle.std.specs.Prelude.{slice_get}
use Rattle.std.specs.Option.{option_map, unwrap_or}
use Rattle.std.proofs.lemmas.Option.{slice_get-map, slice_get_read}
use Rattle.net_build.specs.declared.wire.Wire.{Wire}
use Rattle.net_build.specs.Views.{wire_of}

pub places_differ : (xs ys : List Wire) (i : ℕ) (x y : Wire) → i < length xs → i < length ys → x ≡ get_or xs i x → y ≡ get_or ys i y
    → (wire_of x ≡ wire_of y → ⊥) → map wire_of xs ≡ map wire_of ys → ⊥
places_differ xs ys i x y lx ly ex ey n e =
    let p : slice_get (map wire_of xs) i ≡ Some (wire_of x) =
    slice_get-map wire_of xs i ∙ ap (option_map wire_of) (slice_get_read xs (length xs) i x refl lx ex) in
    let q : slice_get (map wire_of ys) i ≡ Some (wire_of y) =
    slice_get-map wire_of ys i ∙ ap (option_map wire_of) (slice_get_read ys (length ys) i y refl ly ey) in
    let r : Some (wire_of x) ≡ Some (wire_of y) = sym p ∙ ap (λ l. slice_get l i) e ∙ q in
    n (ap (λ o. unwrap_or o (wire_of x)) r)
