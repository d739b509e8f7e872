-- The last wires and nodes of each form, once its parts are placed.
use Rattle.std.proofs.Common.{◌≡◌, ℕ, suc, ◌+◌, List, [], ◌∷◌, ◌++◌, length, reverse, refl, sym, ap, ◌∙◌, subst, arith}
use Rattle.std.proofs.lemmas.List.{append_assoc, length-append}
use Rattle.pcf_values.specs.Terms.{TyTree, nat, arrow}
use Rattle.net_build.specs.declared.node.Node.{Node}
use Rattle.net_build.specs.declared.node.Node.TheVariants.{Ifz, App, BoxNode, FixBox, Lam}
use Rattle.net_build.specs.declared.parts.Parts.{Parts}
use Rattle.net_build.specs.declared.parts.Loose.{Loose}
use Rattle.net_build.specs.declared.parts.Placed.{Placed}
use Rattle.net_build.specs.declared.double.Double.{Double}
use Rattle.net_build.specs.declared.unary.Unary.{Unary}
use Rattle.net_build.specs.Nets.{WireTree, value_wire, bang_wire}
use Rattle.net_build.specs.NetOf.{Bundle, Part, contract, doors, bound, bound_wire, domain, codomain}
use Rattle.net_build.specs.Building.{context_of, spread, Grows, Spreads, Builds, Bundles, Finishes, Binds, contract_at, doors_at, frees}
use Rattle.net_build.specs.Building.{body_frees, wire_type, unary_node, unary_type, unary_at, double_node, double_type, double_here}
use Rattle.net_build.specs.Building.{lam_here, ifz_here, fix_here, app_here, box_here, box_wire}
use Rattle.net_build.proofs.Growing.{grows_then, grows_length, new_type, new_inside}

-- a bundle and then the last value wire with its node
abbrev pub end_at : ℕ → Bundle → ℕ → TyTree → Node → Part
end_at m b d t n = record {
  wires = b.wires ++ value_wire d t ∷ [];
  nodes = b.nodes ++ n ∷ [];
  out = m + length b.wires;
  type = t;
  free = b.free;
}

-- wires and nodes in front of a part
abbrev pub before : List WireTree → List Node → Part → Part
before ws ns p = record { wires = ws ++ p.wires; nodes = ns ++ p.nodes; out = p.out; type = p.type; free = p.free }

-- what a part is, once wires and nodes were added before it
pub after : (s0 s1 s2 : Parts) (ws : List WireTree) (ns : List Node) (p : Part) (r : Placed) → Grows s0 s1 ws ns → Builds s1 s2 p r
    → Builds s0 s2 (before ws ns p) r
after s0 s1 s2 ws ns p r g b =
    let f = subst (λ c. Spreads (length c) p.free r.free.items) g.context b.gives.free in
    record {
      grows = grows_then s0 s1 s2 ws p.wires ns p.nodes g b.grows;
      gives = record { out = b.gives.out; inside = b.gives.inside; type = b.gives.type; free = f };
    }

-- a bundle and then a last value wire with its node: they are a part
pub ending : (s0 s1 s2 : Parts) (b : Bundle) (us : List Loose) (d : ℕ) (t t' : TyTree) (n n' : Node) (r : Placed) → Bundles s0 s1 b us
    → Finishes s1 s2 d t n us r → t ≡ t' → n ≡ n' →
    Builds s0 s2 (end_at (length s0.wires.items) b d t' n') r
ending s0 s1 s2 b us d t t' n n' r bundles finishes same_type same_node =
    let h : Grows s1 s2 (value_wire d t' ∷ []) (n' ∷ []) =
    subst (λ t. Grows s1 s2 (value_wire d t ∷ []) (n' ∷ [])) same_type
    (subst (λ n. Grows s1 s2 (value_wire d t ∷ []) (n ∷ [])) same_node finishes.grows) in
    record {
      grows = grows_then s0 s1 s2 b.wires (value_wire d t' ∷ []) b.nodes (n' ∷ []) bundles.grows h;
      gives = record {
        out = finishes.out ∙ grows_length s0 s1 b.wires b.nodes bundles.grows;
        inside = new_inside s1 s2 (value_wire d t') [] (n' ∷ []) r.out h finishes.out;
        type =
            new_type s1 s2 (value_wire d t') [] (n' ∷ []) r.out h finishes.out;
        free =
            subst (λ l. Spreads (length s0.context.items) b.free l) (sym finishes.free) bundles.free;
      };
    }

-- what is to be done next, after a bundle
pub next_contract : (s0 s1 : Parts) (b : Bundle) (us ts : List Loose) (d : ℕ) → Bundles s0 s1 b us →
    contract_at s1 d ts us ≡ contract (length s0.wires.items + length b.wires) d (context_of s0.context.items)
    (spread (length s0.context.items) (reverse ts)) b.free
next_contract s0 s1 b us ts d g =
    let n = grows_length s0 s1 b.wires b.nodes g.grows in
    let f : spread (length s1.context.items) (reverse us) ≡ b.free =
    ap (λ c. spread (length c) (reverse us)) g.grows.context ∙ g.free.spreads in
    λ k. contract (n k) d (context_of (g.grows.context k)) (spread (length (g.grows.context k)) (reverse ts)) (f k)

-- doors of what a bundle left loose
pub next_doors : (s0 s1 : Parts) (b : Bundle) (us : List Loose) (d : ℕ) → Bundles s0 s1 b us
    → doors_at s1 d us ≡ doors (length s0.wires.items + length b.wires) d (context_of s0.context.items) b.free
next_doors s0 s1 b us d g =
    let n = grows_length s0 s1 b.wires b.nodes g.grows in
    let f : spread (length s1.context.items) (reverse us) ≡ b.free =
    ap (λ c. spread (length c) (reverse us)) g.grows.context ∙ g.free.spreads in
    λ k. doors (n k) d (context_of (g.grows.context k)) (f k)

-- how many wires there are after a bundle
pub bundle_wires : (s0 s1 : Parts) (b : Bundle) (us : List Loose) → Bundles s0 s1 b us
    → length s1.wires.items ≡ length s0.wires.items + length b.wires
bundle_wires s0 s1 b us g = grows_length s0 s1 b.wires b.nodes g.grows

-- the end of a form with one operand
pub unary_ending : (s0 s1 s2 : Parts) (form : Unary) (d : ℕ) (p : Part) (r : Placed) (t : TyTree) (n : Node) (x : Placed) → Builds s0 s1 p r
    → t ≡ unary_type form (wire_type s1 r.out) → n ≡ unary_node form r.out (length s1.wires.items) →
    Finishes s1 s2 d t n r.free.items x → Builds s0 s2 (unary_at form s0 d p) x
unary_ending s0 s1 s2 form d p r t n x b et en f =
    let u : Bundle = record { wires = p.wires; nodes = p.nodes; free = p.free } in
    let w = length s0.wires.items + length p.wires in
    let e : n ≡ unary_node form p.out w = en ∙ (λ k. unary_node form (b.gives.out k) (grows_length s0 s1 p.wires p.nodes b.grows k)) in
    ending s0 s1 s2 u r.free.items d t (unary_type form p.type) n (unary_node form p.out w) x
    (record { grows = b.grows; free = b.gives.free }) f (et ∙ ap (unary_type form) b.gives.type) e

-- the end of a form with two operands
pub double_ending : (s0 s1 s2 : Parts) (form : Double) (d : ℕ) (r r' : Placed) (us : List Loose) (t : TyTree) (n : Node) (x : Placed)
    → Bundles s0 s1 (contract_at s0 d r.free.items r'.free.items) us →
    t ≡ double_type form (wire_type s0 r.out) (wire_type s0 r'.out) → n ≡ double_node form r.out r'.out (length s1.wires.items) → Finishes
    s1 s2 d t n us x → Builds s0 s2 (double_here form s0 d r r') x
double_ending s0 s1 s2 form d r r' us t n x g et en f =
    let c = contract_at s0 d r.free.items r'.free.items in
    let w = length s0.wires.items + length c.wires in
    ending s0 s1 s2 c us d t (double_type form (wire_type s0 r.out) (wire_type s0 r'.out)) n (double_node form r.out r'.out w) x g f et
    (en ∙ ap (double_node form r.out r'.out) (bundle_wires s0 s1 c us g))

-- ifz: the condition's contractions are done after the branches'
pub ifz_ending : (s0 s1 s2 s3 : Parts) (d : ℕ) (r r' r'' : Placed) (us vs : List Loose) (n : Node) (x : Placed)
    → Bundles s0 s1 (contract_at s0 d r'.free.items r''.free.items) us → Bundles s1 s2 (contract_at s1 d r.free.items us) vs →
    n ≡ Ifz r.out r'.out r''.out (length s2.wires.items) → Finishes s2 s3 d nat n vs x → Builds s0 s3 (ifz_here s0 d r r' r'') x
ifz_ending s0 s1 s2 s3 d r r' r'' us vs n x branches whole en finishes =
    let i = contract_at s0 d r'.free.items r''.free.items in
    let m = length s0.wires.items + length i.wires in
    let j = contract m d (context_of s0.context.items) (frees s0 r) i.free in
    let e : contract_at s1 d r.free.items us ≡ j = next_contract s0 s1 i us r.free.items d branches in
    let whole' : Bundles s1 s2 j vs = subst (λ b. Bundles s1 s2 b vs) e whole in
    let q : length s1.wires.items ≡ m = bundle_wires s0 s1 i us branches in
    let p : length s2.wires.items ≡ m + length j.wires = bundle_wires s1 s2 j vs whole' ∙ ap (λ m. m + length j.wires) q in
    let b = ending s1 s2 s3 j vs d nat nat n (Ifz r.out r'.out r''.out (m + length j.wires)) x whole' finishes refl
    (en ∙ ap (λ w. Ifz r.out r'.out r''.out w) p) in
    after s0 s1 s3 i.wires i.nodes (end_at m j d nat (Ifz r.out r'.out r''.out (m + length j.wires))) x branches.grows
    (subst (λ m'. Builds s1 s3 (end_at m' j d nat (Ifz r.out r'.out r''.out (m + length j.wires))) x) q b)

-- the binder's wire, as a bundle
pub binds_bundle : (s0 s1 : Parts) (d : ℕ) (a : TyTree) (us vs : List Loose) (x : ℕ) → Binds s0 s1 d a us vs x
    → Bundles s0 s1 (bound (length s0.wires.items) d a (spread (suc (length s0.context.items)) (reverse us))) vs
binds_bundle s0 s1 d a us vs x h = record { grows = h.grows; free = h.free }

-- the end of a function: the binder's wire comes first
pub lam_ending : (s0 s1 s2 : Parts) (d : ℕ) (a t : TyTree) (r : Placed) (us : List Loose) (y : ℕ) (n : Node) (x : Placed)
    → Binds s0 s1 d a r.free.items us y → t ≡ arrow a (wire_type s0 r.out) →
    n ≡ Lam r.out y (length s1.wires.items) → Finishes s1 s2 d t n us x → Builds s0 s2 (lam_here s0 d a r) x
lam_ending s0 s1 s2 d a t r us y n x g et en f =
    let b = bound (length s0.wires.items) d a (body_frees s0 r) in
    let g' = binds_bundle s0 s1 d a r.free.items us y g in
    let w = length s0.wires.items + length b.wires in
    let p : length s1.wires.items ≡ w = bundle_wires s0 s1 b us g' in
    let node = Lam r.out (bound_wire (length s0.wires.items) (body_frees s0 r)) w in
    ending s0 s1 s2 b us d t (arrow a (wire_type s0 r.out)) n node x g' f et (en ∙ (λ k. Lam r.out (g.wire k) (p k)))

-- the end of a fix: the binder's wire, then the doors
pub fix_ending : (s0 s1 s2 s3 : Parts) (d : ℕ) (a t : TyTree) (r : Placed) (us vs : List Loose) (y : ℕ) (n : Node) (x : Placed)
    → Binds s0 s1 (suc d) a r.free.items us y → Bundles s1 s2 (doors_at s1 d us) vs → t ≡ a →
    n ≡ FixBox r.out y (length s2.wires.items) → Finishes s2 s3 d t n vs x → Builds s0 s3 (fix_here s0 d a r) x
fix_ending s0 s1 s2 s3 d a t r us vs y n x binds enters et en finishes =
    let b = bound (length s0.wires.items) (suc d) a (body_frees s0 r) in
    let binds' = binds_bundle s0 s1 (suc d) a r.free.items us y binds in
    let m = length s0.wires.items + length b.wires in
    let e = doors m d (context_of s0.context.items) b.free in
    let enters' : Bundles s1 s2 e vs = subst (λ b. Bundles s1 s2 b vs) (next_doors s0 s1 b us d binds') enters in
    let q : length s1.wires.items ≡ m = bundle_wires s0 s1 b us binds' in
    let p : length s2.wires.items ≡ m + length e.wires = bundle_wires s1 s2 e vs enters' ∙ ap (λ m. m + length e.wires) q in
    let node = FixBox r.out (bound_wire (length s0.wires.items) (body_frees s0 r)) (m + length e.wires) in
    let en' : n ≡ node = en ∙ (λ k. FixBox r.out (binds.wire k) (p k)) in
    let z = ending s1 s2 s3 e vs d t a n node x enters' finishes et en' in
    after s0 s1 s3 b.wires b.nodes (end_at m e d a node) x binds.grows (subst (λ m'. Builds s1 s3 (end_at m' e d a node) x) q z)

-- the end of an application: the box with its doors, then the contractions
pub app_ending : (s0 s1 s2 s3 : Parts) (d : ℕ) (a t : TyTree) (r r' : Placed) (us vs : List Loose) (box : ℕ) (n : Node) (x : Placed)
    → a ≡ domain (wire_type s0 r.out) → t ≡ codomain (wire_type s0 r.out) →
    Bundles s0 s1 (box_here s0 d a r') us → box ≡ box_wire s0 d r' → Bundles s1 s2 (contract_at s1 d r.free.items us) vs → n ≡ App r.out box
    (length s2.wires.items) → Finishes s2 s3 d t n vs x →
    Builds s0 s3 (app_here s0 d r r') x
app_ending s0 s1 s2 s3 d a t r r' us vs box n x ea et boxed eo shares en finishes =
    let e = doors_at s0 d r'.free.items in
    let ty = wire_type s0 r.out in
    let k = box_here s0 d (domain ty) r' in
    let b = length s0.wires.items + length e.wires in
    let boxed' : Bundles s0 s1 k us = subst (λ a. Bundles s0 s1 (box_here s0 d a r') us) ea boxed in
    let m : length s0.wires.items + length k.wires ≡ suc b = omega (arith, length-append e.wires (bang_wire d (domain ty) ∷ [])) in
    let c = contract (suc b) d (context_of s0.context.items) (frees s0 r) e.free in
    let e' : contract_at s1 d r.free.items us ≡ c =
    next_contract s0 s1 k us r.free.items d boxed' ∙ ap (λ m. contract m d (context_of s0.context.items) (frees s0 r) e.free) m in
    let shares' : Bundles s1 s2 c vs = subst (λ b. Bundles s1 s2 b vs) e' shares in
    let q : length s1.wires.items ≡ suc b = bundle_wires s0 s1 k us boxed' ∙ m in
    let p : length s2.wires.items ≡ suc b + length c.wires = bundle_wires s1 s2 c vs shares' ∙ ap (λ m. m + length c.wires) q in
    let node = App r.out b (suc b + length c.wires) in
    let en' : n ≡ node = en ∙ (λ k. App r.out (eo k) (p k)) in
    let z = ending s1 s2 s3 c vs d t (codomain ty) n node x shares' finishes et en' in
    let z' : Builds s1 s3 (end_at (suc b) c d (codomain ty) node) x = subst (λ m'. Builds s1 s3 (end_at m' c d (codomain ty) node) x) q z in
    let y = after s0 s1 s3 k.wires k.nodes (end_at (suc b) c d (codomain ty) node) x boxed'.grows z' in
    let aw = append_assoc e.wires (bang_wire d (domain ty) ∷ []) (c.wires ++ value_wire d (codomain ty) ∷ []) in
    let an = append_assoc e.nodes (BoxNode r'.out b ∷ []) (c.nodes ++ node ∷ []) in
    record {
      grows = subst (λ w. Grows s0 s3 w (e.nodes ++ (BoxNode r'.out b ∷ (c.nodes ++ node ∷ [])))) aw
          (subst (λ l. Grows s0 s3 ((e.wires ++ bang_wire d (domain ty) ∷ []) ++ (c.wires ++ value_wire d (codomain ty) ∷ [])) l) an
          y.grows);
      gives = record { out = y.gives.out; inside = y.gives.inside; type = y.gives.type; free = y.gives.free };
    }
