-- What was added, step by step.
use Rattle.std.proofs.Common.{◌≡◌, ℕ, List, [], ◌∷◌, length, refl, subst, sym, ap, ◌++◌, ◌+◌, ◌<◌, ◌∙◌, map, Some, arith}
use Rattle.std.specs.Prelude.{slice_get}
use Rattle.std.proofs.lemmas.List.{append_assoc, append-nil, length-append, length-map}
use Rattle.pcf_values.specs.Terms.{nat, num}
use Rattle.pcf_values.proofs.Plain.{get_front}
use Rattle.net_build.specs.declared.node.Node.TheVariants.{Const}
use Rattle.net_build.specs.declared.node.Node.{Node}
use Rattle.net_build.specs.Nets.{WireTree, value_wire}
use Rattle.net_build.specs.Views.{wire_of}
use Rattle.net_build.specs.declared.parts.Parts.{Parts}
use Rattle.net_build.specs.declared.parts.Loose.{Loose}
use Rattle.net_build.specs.declared.parts.Placed.{Placed}
use Rattle.net_build.specs.Building.{Builds, Finishes, Grows, part_at, type_on, wire_type}
use Rattle.net_build.proofs.Spreading.{none_spreads}

-- nothing was added
pub grows_none : (a : Parts) → Grows a a [] []
grows_none a = record { wires = sym (append-nil (map wire_of a.wires.items)); nodes = sym (append-nil a.nodes.items); context = refl }

-- what is added in two steps is added
pub grows_then : (a b c : Parts) (ws vs : List WireTree) (ns ms : List Node) → Grows a b ws ns → Grows b c vs ms
    → Grows a c (ws ++ vs) (ns ++ ms)
grows_then a b c ws vs ns ms g h = record {
  wires = h.wires ∙ ap (λ l. l ++ vs) g.wires ∙ append_assoc (map wire_of a.wires.items) ws vs;
  nodes = h.nodes ∙ ap (λ l. l ++ ms) g.nodes ∙ append_assoc a.nodes.items ns ms;
  context = h.context ∙ g.context;
}

-- how many wires there are then
pub grows_length : (a b : Parts) (ws : List WireTree) (ns : List Node) → Grows a b ws ns
    → length b.wires.items ≡ length a.wires.items + length ws
grows_length a b ws ns g =
    sym (length-map b.wires.items wire_of) ∙ ap length g.wires ∙ length-append (map wire_of a.wires.items) ws
    ∙ ap (λ n. n + length ws) (length-map a.wires.items wire_of)

-- the entry between two lists
entry_between : {A : Type 0} (xs ys : List A) (y : A) → slice_get (xs ++ y ∷ ys) (length xs) ≡ Some y
entry_between [] ys y = refl
entry_between (x ∷ xs) ys y = entry_between xs ys y

-- a wire stays as it is, where others come behind it
pub kept_type : (a b : Parts) (ws : List WireTree) (ns : List Node) (w : ℕ) → Grows a b ws ns → w < length a.wires.items
    → wire_type b w ≡ wire_type a w
kept_type a b ws ns w g h =
    ap type_on (ap (λ l. slice_get l w) g.wires
    ∙ get_front (map wire_of a.wires.items) ws w (omega (arith, h, length-map a.wires.items wire_of)))

-- a wire is still one of the wires
pub kept_inside : (a b : Parts) (ws : List WireTree) (ns : List Node) (w : ℕ) → Grows a b ws ns → w < length a.wires.items
    → w < length b.wires.items
kept_inside a b ws ns w g h = omega (arith, h, grows_length a b ws ns g)

-- the same after what comes in two steps
pub kept_twice : (a b c : Parts) (ws vs : List WireTree) (ns ms : List Node) (w : ℕ) → Grows a b ws ns → Grows b c vs ms
    → w < length a.wires.items → wire_type c w ≡ wire_type a w
kept_twice a b c ws vs ns ms w g h l = kept_type b c vs ms w h (kept_inside a b ws ns w g l) ∙ kept_type a b ws ns w g l

-- and still one of them after two steps
pub inside_twice : (a b c : Parts) (ws vs : List WireTree) (ns ms : List Node) (w : ℕ) → Grows a b ws ns → Grows b c vs ms
    → w < length a.wires.items → w < length c.wires.items
inside_twice a b c ws vs ns ms w g h l = kept_inside b c vs ms w h (kept_inside a b ws ns w g l)

-- the first wire that was added
pub new_type : (a b : Parts) (w : WireTree) (ws : List WireTree) (ns : List Node) (n : ℕ) → Grows a b (w ∷ ws) ns → n ≡ length a.wires.items
    → wire_type b n ≡ w.type
new_type a b w ws ns n g e =
    let l = map wire_of a.wires.items in
    let m : n ≡ length l = e ∙ sym (length-map a.wires.items wire_of) in
    ap type_on (ap (λ l. slice_get l n) g.wires ∙ ap (slice_get (l ++ w ∷ ws)) m ∙ entry_between l ws w)

-- its number is one of the wires'
pub new_inside : (a b : Parts) (w : WireTree) (ws : List WireTree) (ns : List Node) (n : ℕ) → Grows a b (w ∷ ws) ns
    → n ≡ length a.wires.items → n < length b.wires.items
new_inside a b w ws ns n g e = omega (arith, e, grows_length a b (w ∷ ws) ns g)

-- a constant's wire and node are its part
pub number_builds : (old new : Parts) (d v w : ℕ) (us : List Loose) (r : Placed) → w ≡ length old.wires.items → us ≡ []
    → Finishes old new d nat (Const v w) us r → Builds old new (part_at old d (num v)) r
number_builds old new d v w us r q e h =
    let g : Grows old new (value_wire d nat ∷ []) (Const v (length old.wires.items) ∷ []) =
    subst (λ w. Grows old new (value_wire d nat ∷ []) (Const v w ∷ [])) q h.grows in
    record {
      grows = g;
      gives =
          record {
            out = h.out;
            inside = new_inside old new (value_wire d nat) [] (Const v (length old.wires.items) ∷ []) r.out g h.out;
            type = new_type old new (value_wire d nat) [] (Const v (length old.wires.items) ∷ []) r.out g h.out;
            free =
                rw h.free (none_spreads old.context.items us e);
          };
    }
