-- The part of an applied term: the term's, and after it three wires and three nodes an argument.
use Rattle.std.proofs.Common.{◌≡◌, ◌≤◌, ℕ, zero, suc, ◌+◌, ◌*◌, max, List, [], ◌∷◌, ◌++◌, length, refl, sym, ap, ◌∙◌, subst, arith}
use native.Mathlib.Nat.{max-eq_left}
use Rattle.std.proofs.lemmas.List.{append_assoc, append-nil, length-append}
use Rattle.pcf_values.specs.Terms.{TyTree, nat, TermTree, num, app, size}
use Rattle.pcf_values.specs.Terms.{height}
use Rattle.pcf_values.specs.Typing.{HasType}
use Rattle.pcf_values.proofs.Heights.{height_positive}
use Rattle.net_build.specs.declared.node.Node.{Node}
use Rattle.net_build.specs.declared.node.Node.TheVariants.{Const, App, BoxNode, Root}
use Rattle.net_build.specs.Nets.{WireTree, NetTree, value_wire, bang_wire}
use Rattle.net_build.specs.NetOf.{Part, domain, codomain, net_of}
use Rattle.open_net_laws.specs.Applied.{applied, numeric}
use Rattle.open_net_laws.specs.Arguments.{AreNumbers, argument_wires, argument_nodes, last_wire, closed_part, with_arguments}

-- ---- the term

pub has : (m : TermTree) (vs : List ℕ) → HasType [] m (numeric (length vs)) → AreNumbers vs → HasType [] (applied m vs) nat
has m [] h b = h
has m (v ∷ vs) h b = has (app m (num v)) vs (nat, h, (b.0, refl)) b.1

max_one : (h : ℕ) → 1 ≤ h → max h 1 ≡ h
max_one h l = max-eq_left l

pub sizes : (m : TermTree) (vs : List ℕ) →
    (size (applied m vs) ≡ size m + 2 * length vs) × (height (applied m vs) ≡ height m + length vs)
sizes m [] = (omega arith, omega arith)
sizes m (v ∷ vs) =
    let (s, h) = sizes (app m (num v)) vs in
    let e = max_one (height m) (height_positive m) in
    (omega arith, omega arith)

-- ---- its part

-- a part and one argument, with the wires of its number, of its box and of the application
abbrev with_one : Part → (w b o : ℕ) → ℕ → Part
with_one p w b o v = record {
  wires = p.wires ++ value_wire 1 nat ∷ bang_wire 0 (domain p.type) ∷ value_wire 0 (codomain p.type) ∷ [];
  nodes = p.nodes ++ Const v w ∷ BoxNode w b ∷ App p.out b o ∷ [];
  out = o;
  type = codomain p.type;
  free = [];
}

abbrev more : Part → ℕ → ℕ → Part
more p w v = with_one p w (suc w) (suc (suc w)) v

-- that is the part of an application to a number
one_more : (m : TermTree) (v : ℕ) → closed_part (app m (num v)) ≡ more (closed_part m) (length (closed_part m).wires) v
one_more m v =
    let p = closed_part m in
    let k = length p.wires in
    let e : zero + k ≡ k = omega arith in
    let f : zero + k + 1 + 0 ≡ suc k = omega arith in
    let g : suc (zero + k + 1 + 0) + 0 ≡ suc (suc k) = omega arith in
    ap (λ w. with_one p w (zero + k + 1 + 0) (suc (zero + k + 1 + 0) + 0) v) e ∙
    ap (λ b. with_one p k b (suc (zero + k + 1 + 0) + 0) v) f ∙ ap (λ o. with_one p k (suc k) o v) g

-- this part is that one with these arguments after it
record IsBuilt (p : Part) (vs : List ℕ) (q : Part) : Type 0 where
  wires : q.wires ≡ p.wires ++ argument_wires p.type (length vs)
  nodes : q.nodes ≡ p.nodes ++ argument_nodes (length p.wires) p.out vs
  out : q.out ≡ last_wire (length p.wires) p.out (length vs)

none : (p : Part) → IsBuilt p [] p
none p = record { wires = sym (append-nil p.wires); nodes = sym (append-nil p.nodes); out = refl }

-- one more argument, and then the others
module _ (p : Part) (v : ℕ) (vs : List ℕ) (q : Part) where
  next : ℕ
  next = length p.wires

  longer : length (more p (length p.wires) v).wires ≡ suc (suc (suc (length p.wires)))
  longer = length-append p.wires (value_wire 1 nat ∷ bang_wire 0 (domain p.type) ∷ value_wire 0 (codomain p.type) ∷ []) ∙ omega arith

  one_then : IsBuilt (more p (length p.wires) v) vs q → IsBuilt p (v ∷ vs) q
  one_then h = record {
    wires =
        h.wires ∙
        append_assoc p.wires (value_wire 1 nat ∷ bang_wire 0 (domain p.type) ∷ value_wire 0 (codomain p.type) ∷ [])
        (argument_wires (codomain p.type) (length vs));
    nodes =
        h.nodes ∙
        ap (λ w. (more p (length p.wires) v).nodes ++ argument_nodes w (suc (suc (length p.wires))) vs) longer ∙
        append_assoc p.nodes
        (Const v (length p.wires) ∷ BoxNode (length p.wires) (suc (length p.wires)) ∷
        App p.out (suc (length p.wires)) (suc (suc (length p.wires))) ∷ [])
        (argument_nodes (suc (suc (suc (length p.wires)))) (suc (suc (length p.wires))) vs);
    out = h.out ∙ ap (λ w. last_wire w (suc (suc (length p.wires))) (length vs)) longer;
  }

is_built : (m : TermTree) (vs : List ℕ) → IsBuilt (closed_part m) vs (closed_part (applied m vs))
is_built m [] = none (closed_part m)
is_built m (v ∷ vs) =
    one_then (closed_part m) v vs (closed_part (applied (app m (num v)) vs))
    (subst (λ p. IsBuilt p vs (closed_part (applied (app m (num v)) vs))) (one_more m v) (is_built (app m (num v)) vs))

-- ---- its net

-- a net by its lists
pub net_by : (ws ws' : List WireTree) (ns ns' : List Node) → ws ≡ ws' → ns ≡ ns' →
    ◌≡◌ {A = NetTree} (record { wires = ws; nodes = ns }) (record { wires = ws'; nodes = ns' })
net_by ws ws' ns ns' e g =
    ap (λ (w : List WireTree). let n : NetTree = record { wires = w; nodes = ns } in n) e ∙
    ap (λ (x : List Node). let n : NetTree = record { wires = ws'; nodes = x } in n) g

net_of_built : (p : Part) (vs : List ℕ) (q : Part) → IsBuilt p vs q →
    ◌≡◌ {A = NetTree} (record { wires = q.wires; nodes = q.nodes ++ Root q.out ∷ [] }) (with_arguments p vs)
net_of_built p vs q h =
    net_by q.wires (p.wires ++ argument_wires p.type (length vs)) (q.nodes ++ Root q.out ∷ [])
    (p.nodes ++ (argument_nodes (length p.wires) p.out vs ++ Root (last_wire (length p.wires) p.out (length vs)) ∷ [])) h.wires
    (ap (λ o. q.nodes ++ Root o ∷ []) h.out ∙
    ap (λ ns. ns ++ Root (last_wire (length p.wires) p.out (length vs)) ∷ []) h.nodes ∙
    append_assoc p.nodes (argument_nodes (length p.wires) p.out vs) (Root (last_wire (length p.wires) p.out (length vs)) ∷ []))

pub applied_net : (m : TermTree) (vs : List ℕ) → net_of (applied m vs) ≡ with_arguments (closed_part m) vs
applied_net m vs = net_of_built (closed_part m) vs (closed_part (applied m vs)) (is_built m vs)

-- ---- its counts

arguments_wires : (t : TyTree) (n : ℕ) → length (argument_wires t n) ≡ 3 * n
arguments_wires t zero = refl
arguments_wires t (suc n) = let h = arguments_wires (codomain t) n in omega arith

arguments_nodes : (w o : ℕ) (vs : List ℕ) → length (argument_nodes w o vs) ≡ 3 * length vs
arguments_nodes w o [] = refl
arguments_nodes w o (v ∷ vs) = let h = arguments_nodes (suc (suc (suc w))) (suc (suc w)) vs in omega arith

pub wire_count : (p : Part) (vs : List ℕ) → length (with_arguments p vs).wires ≡ length p.wires + 3 * length vs
wire_count p vs =
    length-append p.wires (argument_wires p.type (length vs)) ∙ ap (λ k. length p.wires + k) (arguments_wires p.type (length vs))

pub node_count : (p : Part) (vs : List ℕ) → length (with_arguments p vs).nodes ≡ suc (length p.nodes + 3 * length vs)
node_count p vs =
    let ns = argument_nodes (length p.wires) p.out vs in
    let r = Root (last_wire (length p.wires) p.out (length vs)) ∷ [] in
    let a = length-append p.nodes (ns ++ r) in
    let b = length-append ns r in
    let c = arguments_nodes (length p.wires) p.out vs in
    omega arith
