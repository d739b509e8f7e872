-- How many wires and nodes a built net has, by the term's size and height.
use Rattle.std.proofs.Common.{◌≡◌, ℕ, zero, suc, ◌+◌, ◌*◌, ◌≤◌, max, List, [], ◌∷◌, ◌++◌, length, length-append, Option, Some, None, refl}
use Rattle.std.proofs.Common.{ap, arith}
use Rattle.std.proofs.Math.Nat.{mul-le-mul_left, add-mul, mul-add, suc-mul, le-max_left, le-max_right}
use Rattle.pcf_values.specs.Terms.{TyTree, nat, arrow, product, TermTree, num, var, succ_of, pred_of, binary, ifz, lam, fix, app, pair}
use Rattle.pcf_values.specs.Terms.{proj, size, height}
use Rattle.net_build.specs.declared.node.Node.{Node}
use Rattle.net_build.specs.declared.node.Node.TheVariants.{Succ, Pred, Ifz, Lam, App, BoxNode, FixBox, Root, Pair, Binary, Proj}
use Rattle.net_build.specs.Nets.{value_wire, bang_wire}
use Rattle.net_build.specs.NetOf.{Part, contract, doors, bound, bound_wire, none_free, one_free, part, domain, codomain, side_type}
use Rattle.net_build.specs.NetOf.{unary_part, double_part, ifz_part, lam_part, fix_part, app_part, net_of}

-- what a term of size s and height h may have
room : ℕ → ℕ → ℕ
room s h = s * (2 * h + 2)

-- one more in height leaves room for two at each node
room_more : (s h k : ℕ) → h ≤ k → room s h + (s + s) ≤ room s (suc k)
unfolding room
room_more s h k l =
    let a : s * ((2 * h + 2) + 2) ≤ s * (2 * suc k + 2) = mul-le-mul_left s (omega arith) in
    let b = mul-add s (2 * h + 2) 2 in
    omega arith

room_node : (s h : ℕ) → room s h + (2 * h + 2) ≤ room (suc s) h
unfolding room
room_node s h = let a = suc-mul s (2 * h + 2) in omega arith

room_add : (s r h : ℕ) → room (s + r) h ≡ room s h + room r h
unfolding room
room_add s r h = add-mul s r (2 * h + 2)

-- a node above one, two or three parts
above_one : (s h : ℕ) → room s h + (s + s) + 4 ≤ room (suc s) (suc h)
above_one s h = let a = room_more s h h (omega arith) in let b = room_node s (suc h) in omega arith

above_two : (s r h k : ℕ) → room s h + room r k + (s + s + (r + r)) + 4 ≤ room (suc (s + r)) (suc (max h k))
above_two s r h k =
    let m = max h k in
    let a = room_more s h m (le-max_left h k) in
    let b = room_more r k m (le-max_right h k) in
    let c = room_node (s + r) (suc m) in
    let d = room_add s r (suc m) in
    omega arith

-- the bound of three operands is below that of the whole
above_three : (s r q h k l : ℕ)
    → room s h + room r k + room q l + (s + s + (r + r) + (q + q)) + 4 ≤ room (suc (s + r + q)) (suc (max h (max k l)))
above_three s r q h k l =
    let m = max h (max k l) in
    let a = room_more s h m (le-max_left h (max k l)) in
    let b = room_more r k m (omega (arith, le-max_right h (max k l), le-max_left k l)) in
    let e = room_more q l m (omega (arith, le-max_right h (max k l), le-max_right k l)) in
    let c = room_node (s + r + q) (suc m) in
    let d = room_add (s + r) q (suc m) in
    let f = room_add s r (suc m) in
    omega arith

-- the variables that a list has
used : List (Option ℕ) → ℕ
used [] = 0
used (None ∷ f) = used f
used (Some x ∷ f) = suc (used f)

-- a part fits a size and a height
record Fits (s h : ℕ) (p : Part) : Type 0 where
  wires : length p.wires ≤ room s h
  nodes : length p.nodes ≤ room s h
  free : used p.free ≤ s

contract_used : (n d : ℕ) (g : List TyTree) (f f' : List (Option ℕ))
    → let c = contract n d g f f' in (used c.free + length c.wires ≤ used f + used f') × (length c.nodes ≡ length c.wires)
unfolding used
contract_used n d [] f f' = (omega arith, refl)
contract_used n d (a ∷ g) [] f' = (omega arith, refl)
contract_used n d (a ∷ g) (o ∷ f) [] = (omega arith, refl)
contract_used n d (a ∷ g) (None ∷ f) (None ∷ f') = contract_used n d g f f'
contract_used n d (a ∷ g) (None ∷ f) (Some r ∷ f') = let (p, q) = contract_used n d g f f' in (omega arith, q)
contract_used n d (a ∷ g) (Some l ∷ f) (None ∷ f') = let (p, q) = contract_used n d g f f' in (omega arith, q)
contract_used n d (a ∷ g) (Some l ∷ f) (Some r ∷ f') = let (p, q) = contract_used (suc n) d g f f' in (omega arith, ap suc q)

doors_used : (n d : ℕ) (g : List TyTree) (f : List (Option ℕ))
    → let e = doors n d g f in (used e.free ≤ used f) × (length e.wires ≤ used f) × (length e.nodes ≡ length e.wires)
unfolding used
doors_used n d [] f = (omega arith, omega arith, refl)
doors_used n d (a ∷ g) [] = (omega arith, omega arith, refl)
doors_used n d (a ∷ g) (None ∷ f) = doors_used n d g f
doors_used n d (a ∷ g) (Some x ∷ f) = let (p, q, r) = doors_used (suc n) d g f in (omega arith, omega arith, ap suc r)

bound_used : (n d : ℕ) (a : TyTree) (f : List (Option ℕ))
    → let b = bound n d a f in (used b.free ≤ used f) × (length b.wires ≤ 1) × (length b.nodes ≡ length b.wires)
unfolding used
bound_used n d a [] = (omega arith, omega arith, refl)
bound_used n d a (None ∷ f) = (omega arith, omega arith, refl)
bound_used n d a (Some x ∷ f) = (omega arith, omega arith, refl)

none_used : (g : List TyTree) → used (none_free g) ≡ 0
unfolding used
none_used [] = refl
none_used (a ∷ g) = none_used g

one_used : (g : List TyTree) (i x : ℕ) → used (one_free g i x) ≤ 1
unfolding used
one_used [] i x = omega arith
one_used (a ∷ g) zero x = let h = none_used g in omega arith
one_used (a ∷ g) (suc i) x = one_used g i x

unary_fits : (node : ℕ → ℕ → Node) (t : TyTree) (n d : ℕ) (p : Part) (s h : ℕ) → Fits s h p → Fits (suc s) (suc h) (unary_part node t n d p)
unary_fits node t n d p s h f =
    let w = n + length p.wires in
    let a = above_one s h in
    record {
      wires = omega (arith, f.wires, length-append p.wires (value_wire d t ∷ []));
      nodes = omega (arith, f.nodes, length-append p.nodes (node p.out w ∷ []));
      free = omega (arith, f.free);
    }

-- two operands: their bounds add up, with a contraction for each variable of both at most, and one wire
double_fits : (node : ℕ → ℕ → ℕ → Node) (t : TyTree) (n d : ℕ) (g : List TyTree) (p q : Part) (many many' high high' : ℕ) →
    Fits many high p → Fits many' high' q
    → Fits (suc (many + many')) (suc (max high high')) (double_part node t n d g p q)
double_fits node t n d g p q many many' high high' first second =
    let m = n + length p.wires + length q.wires in
    let c = contract m d g p.free q.free in
    let w = m + length c.wires in
    let (u, e) = contract_used m d g p.free q.free in
    let a = above_two many many' high high' in
    record {
      wires = omega (
        arith,
        first.wires,
        second.wires,
        first.free,
        second.free,
        length-append p.wires (q.wires ++ (c.wires ++ value_wire d t ∷ [])),
        length-append q.wires (c.wires ++ value_wire d t ∷ []),
        length-append c.wires (value_wire d t ∷ []),
      );
      nodes = omega (
        arith,
        first.nodes,
        second.nodes,
        first.free,
        second.free,
        length-append p.nodes (q.nodes ++ (c.nodes ++ node p.out q.out w ∷ [])),
        length-append q.nodes (c.nodes ++ node p.out q.out w ∷ []),
        length-append c.nodes (node p.out q.out w ∷ []),
      );
      free = omega (arith, first.free, second.free);
    }

-- three operands: two contractions for each variable at most, and one wire
ifz_fits : (n d : ℕ) (g : List TyTree) (x y z : Part) (many many' many'' high high' high'' : ℕ) → Fits many high x → Fits many' high' y →
    Fits many'' high'' z
    → Fits (suc (many + many' + many'')) (suc (max high (max high' high''))) (ifz_part n d g x y z)
ifz_fits n d g x y z many many' many'' high high' high'' first second third =
    let m = n + length x.wires + length y.wires + length z.wires in
    let i = contract m d g y.free z.free in
    let j = contract (m + length i.wires) d g x.free i.free in
    let w = m + length i.wires + length j.wires in
    let last = value_wire d nat ∷ [] in
    let node = Ifz x.out y.out z.out w ∷ [] in
    let (u, e) = contract_used m d g y.free z.free in
    let (u', e') = contract_used (m + length i.wires) d g x.free i.free in
    let a = above_three many many' many'' high high' high'' in
    record {
      wires = omega (
        arith,
        first.wires,
        second.wires,
        third.wires,
        first.free,
        second.free,
        third.free,
        length-append x.wires (y.wires ++ (z.wires ++ (i.wires ++ (j.wires ++ last)))),
        length-append y.wires (z.wires ++ (i.wires ++ (j.wires ++ last))),
        length-append z.wires (i.wires ++ (j.wires ++ last)),
        length-append i.wires (j.wires ++ last),
        length-append j.wires last,
      );
      nodes = omega (
        arith,
        first.nodes,
        second.nodes,
        third.nodes,
        first.free,
        second.free,
        third.free,
        length-append x.nodes (y.nodes ++ (z.nodes ++ (i.nodes ++ (j.nodes ++ node)))),
        length-append y.nodes (z.nodes ++ (i.nodes ++ (j.nodes ++ node))),
        length-append z.nodes (i.nodes ++ (j.nodes ++ node)),
        length-append i.nodes (j.nodes ++ node),
        length-append j.nodes node,
      );
      free = omega (arith, first.free, second.free, third.free);
    }

-- a function: at most a wire of its binder, and one
lam_fits : (n d : ℕ) (b : TyTree) (p : Part) (s h : ℕ) → Fits s h p → Fits (suc s) (suc h) (lam_part n d b p)
lam_fits n d b p s h f =
    let m = n + length p.wires in
    let r = bound m d b p.free in
    let w = m + length r.wires in
    let last = value_wire d (arrow b p.type) ∷ [] in
    let node = Lam p.out (bound_wire m p.free) w ∷ [] in
    let (u, v, e) = bound_used m d b p.free in
    let a = above_one s h in
    record {
      wires = omega (arith, f.wires, length-append p.wires (r.wires ++ last), length-append r.wires last);
      nodes = omega (arith, f.nodes, length-append p.nodes (r.nodes ++ node), length-append r.nodes node);
      free = omega (arith, f.free);
    }

-- a fixed point: at most a wire of its binder, a door for each other variable, and one
fix_fits : (n d : ℕ) (g : List TyTree) (b : TyTree) (p : Part) (many high : ℕ) → Fits many high p →
    Fits (suc many) (suc high) (fix_part n d g b p)
fix_fits n d g b p many high body =
    let m = n + length p.wires in
    let r = bound m (suc d) b p.free in
    let x = doors (m + length r.wires) d g r.free in
    let w = m + length r.wires + length x.wires in
    let last = value_wire d b ∷ [] in
    let node = FixBox p.out (bound_wire m p.free) w ∷ [] in
    let (u, v, e) = bound_used m (suc d) b p.free in
    let (u', v', e') = doors_used (m + length r.wires) d g r.free in
    let a = above_one many high in
    record {
      wires = omega (
        arith,
        body.wires,
        body.free,
        length-append p.wires (r.wires ++ (x.wires ++ last)),
        length-append r.wires (x.wires ++ last),
        length-append x.wires last,
      );
      nodes = omega (
        arith,
        body.nodes,
        body.free,
        length-append p.nodes (r.nodes ++ (x.nodes ++ node)),
        length-append r.nodes (x.nodes ++ node),
        length-append x.nodes node,
      );
      free = omega (arith, body.free);
    }

-- an application: a door and a contraction for each variable at most, the box and one wire
app_fits : (n d : ℕ) (g : List TyTree) (p q : Part) (many many' high high' : ℕ) → Fits many high p → Fits many' high' q
    → Fits (suc (many + many')) (suc (max high high')) (app_part n d g p q)
app_fits n d g p q many many' high high' function argument =
    let m = n + length p.wires + length q.wires in
    let x = doors m d g q.free in
    let i = m + length x.wires in
    let c = contract (suc i) d g p.free x.free in
    let w = suc i + length c.wires in
    let last = value_wire d (codomain p.type) ∷ [] in
    let node = App p.out i w ∷ [] in
    let bang = bang_wire d (domain p.type) in
    let box = BoxNode q.out i in
    let (u, v, e) = doors_used m d g q.free in
    let (u', e') = contract_used (suc i) d g p.free x.free in
    let a = above_two many many' high high' in
    record {
      wires = omega (
        arith,
        function.wires,
        argument.wires,
        function.free,
        argument.free,
        length-append p.wires (q.wires ++ (x.wires ++ (bang ∷ (c.wires ++ last)))),
        length-append q.wires (x.wires ++ (bang ∷ (c.wires ++ last))),
        length-append x.wires (bang ∷ (c.wires ++ last)),
        length-append c.wires last,
      );
      nodes = omega (
        arith,
        function.nodes,
        argument.nodes,
        function.free,
        argument.free,
        length-append p.nodes (q.nodes ++ (x.nodes ++ (box ∷ (c.nodes ++ node)))),
        length-append q.nodes (x.nodes ++ (box ∷ (c.nodes ++ node))),
        length-append x.nodes (box ∷ (c.nodes ++ node)),
        length-append c.nodes node,
      );
      free = omega (arith, function.free, argument.free);
    }

-- every part is within the bounds of its term's size and height: an induction on the term
part_fits : (m : TermTree) (n d : ℕ) (g : List TyTree) → Fits (size m) (height m) (part n d g m)
part_fits (num v) n d g = let a = room_node 0 1 in record { wires = omega arith; nodes = omega arith; free = omega (arith, none_used g) }
part_fits (var i) n d g = let a = room_node 0 1 in record { wires = omega arith; nodes = omega arith; free = one_used g i (suc n) }
part_fits (succ_of m) n d g = unary_fits Succ nat n d (part n d g m) (size m) (height m) (part_fits m n d g)
part_fits (pred_of m) n d g = unary_fits Pred nat n d (part n d g m) (size m) (height m) (part_fits m n d g)
part_fits (binary o m l) n d g =
    let p = part n d g m in
    double_fits (Binary o) nat n d g p (part (n + length p.wires) d g l) (size m) (size l) (height m) (height l) (part_fits m n d g)
    (part_fits l (n + length p.wires) d g)
part_fits (ifz i m l) n d g =
    let x = part n d g i in
    let y = part (n + length x.wires) d g m in
    let z = part (n + length x.wires + length y.wires) d g l in
    ifz_fits n d g x y z (size i) (size m) (size l) (height i) (height m) (height l) (part_fits i n d g)
    (part_fits m (n + length x.wires) d g) (part_fits l (n + length x.wires + length y.wires) d g)
part_fits (lam b m) n d g = lam_fits n d b (part n d (b ∷ g) m) (size m) (height m) (part_fits m n d (b ∷ g))
part_fits (fix b m) n d g = fix_fits n d g b (part n (suc d) (b ∷ g) m) (size m) (height m) (part_fits m n (suc d) (b ∷ g))
part_fits (app m l) n d g =
    let p = part n d g m in
    app_fits n d g p (part (n + length p.wires) (suc d) g l) (size m) (size l) (height m) (height l) (part_fits m n d g)
    (part_fits l (n + length p.wires) (suc d) g)
part_fits (pair m l) n d g =
    let p = part n d g m in
    let q = part (n + length p.wires) d g l in
    double_fits Pair (product p.type q.type) n d g p q (size m) (size l) (height m) (height l) (part_fits m n d g)
    (part_fits l (n + length p.wires) d g)
part_fits (proj s m) n d g = let p =
    part n d g m in unary_fits (Proj s) (side_type s p.type) n d p (size m) (height m) (part_fits m n d g)

-- a term has a node
some_size : (m : TermTree) → 1 ≤ size m
some_size (num v) = omega arith
some_size (var i) = omega arith
some_size _ = omega arith

-- at most so many wires and nodes
pub net_size : (m : TermTree)
    → (length (net_of m).wires ≤ size m * (2 * height m + 4)) × (length (net_of m).nodes ≤ size m * (2 * height m + 4))
unfolding room
net_size m =
    let p = part zero zero [] m in
    let f = part_fits m zero zero [] in
    let a = mul-add (size m) (2 * height m + 2) 2 in
    let e : size m * ((2 * height m + 2) + 2) ≡ size m * (2 * height m + 4) = ap (λ k. size m * k) (omega arith) in
    let b = some_size m in
    (omega (arith, f.wires), omega (arith, f.nodes, length-append p.nodes (Root p.out ∷ [])))
