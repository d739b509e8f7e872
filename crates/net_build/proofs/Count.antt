-- Each wire of a built net stands once below a node and once above one.
use Rattle.std.proofs.Common.{◌≡◌, ℕ, zero, suc, ◌+◌, List, [], ◌∷◌, ◌++◌, length, Option, Some, None, refl, ap, ◌∙◌, arith}
use Rattle.std.specs.Prelude.{nat_eq, if◌then◌else◌}
use Rattle.std.specs.Prelude.{slice_get}
use Rattle.pcf_values.specs.declared.operator.Operator.{Operator}
use Rattle.pcf_values.specs.Terms.{TyTree, nat, arrow, product, TermTree, num, var, succ_of, pred_of, binary}
use Rattle.pcf_values.specs.declared.side.Side.{Side}
use Rattle.pcf_values.specs.Terms.{ifz, lam, fix, app, pair, proj}
use Rattle.pcf_values.specs.Typing.{HasType}
use Rattle.net_build.specs.declared.node.Node.{Node}
use Rattle.net_build.specs.declared.node.Node.TheVariants.{Succ, Pred, Ifz, Lam, App, BoxNode, FixBox, Pair, Binary, Proj}
use Rattle.net_build.specs.Nets.{premises, conclusions, WireTree, value_wire, bang_wire}
use Rattle.net_build.specs.NetOf.{Part, contract, doors, bound, bound_wire, none_free, one_free, part, domain, codomain, side_type}
use Rattle.net_build.specs.NetOf.{unary_part, double_part, ifz_part, lam_part, fix_part, app_part}
use Rattle.net_build.specs.Sound.{how_often, named}

-- the wires that a list of free ones has
abbrev pub ends : List (Option ℕ) → ℕ → ℕ
ends [] w = 0
ends (None ∷ f) w = ends f w
ends (Some x ∷ f) w = (if nat_eq x w then 1 else 0) + ends f w

-- whether a wire is among the new ones
abbrev pub made : ℕ → List WireTree → ℕ → ℕ
made n [] w = 0
made n (k ∷ ks) w = (if nat_eq n w then 1 else 0) + made (suc n) ks w

-- the new wires of two lists, one after the other
pub made_append : (n : ℕ) (a b : List WireTree) (w : ℕ) → made n (a ++ b) w ≡ made n a w + made (n + length a) b w
made_append n [] b w = let e : n ≡ n + 0 = omega arith in ap (λ n. made n b w) e ∙ omega arith
made_append n (k ∷ a) b w =
    let e : suc n + length a ≡ n + length (k ∷ a) = omega arith in
    let h = made_append (suc n) a b w in
    let g = ap (λ n. made n b w) e in
    omega arith

-- the wires that two lists of nodes name
pub named_append : (side : Node → List ℕ) (a b : List Node) (w : ℕ) → named side (a ++ b) w ≡ named side a w + named side b w
named_append side [] b w = omega arith
named_append side (n ∷ a) b w = let h = named_append side a b w in omega arith

-- a list of free wires is as long as the context
abbrev pub Aligned : List TyTree → List (Option ℕ) → Type 0
Aligned [] [] = Unit {0}
Aligned [] (o ∷ f) = ⊥
Aligned (a ∷ g) [] = ⊥
Aligned (a ∷ g) (o ∷ f) = Aligned g f

-- what new nodes use and give: ins are wires that stood loose before, outs those that stand loose after
pub record Counted (n : ℕ) (wires : List WireTree) (nodes : List Node) (ins outs : ℕ → ℕ) : Type 0 where
  pub ups : (w : ℕ) → named conclusions nodes w ≡ made n wires w
  pub downs : (w : ℕ) → named premises nodes w + outs w ≡ ins w + made n wires w

-- contractions leave a list as long as the context
pub contract_aligned : (n d : ℕ) (g : List TyTree) (f f' : List (Option ℕ)) → Aligned g f → Aligned g f'
    → Aligned g (contract n d g f f').free
contract_aligned n d [] f f' h i = tt
contract_aligned n d (a ∷ g) [] f' h i = i
contract_aligned n d (a ∷ g) (o ∷ f) [] h i = h
contract_aligned n d (a ∷ g) (None ∷ f) (o ∷ f') h i = contract_aligned n d g f f' h i
contract_aligned n d (a ∷ g) (Some l ∷ f) (None ∷ f') h i = contract_aligned n d g f f' h i
contract_aligned n d (a ∷ g) (Some l ∷ f) (Some r ∷ f') h i = contract_aligned (suc n) d g f f' h i

-- so do doors
pub doors_aligned : (n d : ℕ) (g : List TyTree) (f : List (Option ℕ)) → Aligned g f → Aligned g (doors n d g f).free
doors_aligned n d [] f h = tt
doors_aligned n d (a ∷ g) [] h = elim h [ ]
doors_aligned n d (a ∷ g) (None ∷ f) h = doors_aligned n d g f h
doors_aligned n d (a ∷ g) (Some x ∷ f) h = doors_aligned (suc n) d g f h

-- a binder leaves one as long as the context without it
pub bound_aligned : (n d : ℕ) (a : TyTree) (g : List TyTree) (f : List (Option ℕ)) → Aligned (a ∷ g) f → Aligned g (bound n d a f).free
bound_aligned n d a g [] h = elim h [ ]
bound_aligned n d a g (None ∷ f) h = h
bound_aligned n d a g (Some x ∷ f) h = h

-- so are the lists of no variable and of one
pub none_aligned : (g : List TyTree) → Aligned g (none_free g)
none_aligned [] = tt
none_aligned (a ∷ g) = none_aligned g

pub one_aligned : (g : List TyTree) (i x : ℕ) → Aligned g (one_free g i x)
one_aligned [] i x = tt
one_aligned (a ∷ g) zero x = none_aligned g
one_aligned (a ∷ g) (suc i) x = one_aligned g i x

-- the variables of every part are as many as the context's
pub aligned : (m : TermTree) (n d : ℕ) (g : List TyTree) → Aligned g (part n d g m).free
aligned (num v) n d g = none_aligned g
aligned (var i) n d g = one_aligned g i (suc n)
aligned (succ_of m) n d g = aligned m n d g
aligned (pred_of m) n d g = aligned m n d g
aligned (binary o m l) n d g = contract_aligned _ d g _ _ (aligned m n d g) (aligned l _ d g)
aligned (ifz i m l) n d g = contract_aligned _ d g _ _ (aligned i n d g) (contract_aligned _ d g _ _ (aligned m _ d g) (aligned l _ d g))
aligned (lam a m) n d g = bound_aligned _ d a g _ (aligned m n d (a ∷ g))
aligned (fix a m) n d g = doors_aligned _ d g _ (bound_aligned _ (suc d) a g _ (aligned m n (suc d) (a ∷ g)))
aligned (app m l) n d g = contract_aligned _ d g _ _ (aligned m n d g) (doors_aligned _ d g _ (aligned l _ (suc d) g))
aligned (pair m l) n d g = contract_aligned _ d g _ _ (aligned m n d g) (aligned l _ d g)
aligned (proj s m) n d g = aligned m n d g

-- contractions use the wires of both lists, and give those that are left
pub contract_counted : (n d : ℕ) (g : List TyTree) (f f' : List (Option ℕ)) → Aligned g f → Aligned g f'
    → Counted n (contract n d g f f').wires (contract n d g f f').nodes (λ w. ends f w + ends f' w) (ends (contract n d g f f').free)
contract_counted n d [] [] [] h i = record { ups = λ w. refl; downs = λ w. refl }
contract_counted n d [] [] (o ∷ f') h i = elim i [ ]
contract_counted n d [] (o ∷ f) f' h i = elim h [ ]
contract_counted n d (a ∷ g) [] f' h i = elim h [ ]
contract_counted n d (a ∷ g) (o ∷ f) [] h i = elim i [ ]
contract_counted n d (a ∷ g) (None ∷ f) (None ∷ f') h i = let c = contract_counted n d g f f' h i in record {
  ups = λ w. c.ups w;
  downs = λ w. c.downs w;
}
contract_counted n d (a ∷ g) (None ∷ f) (Some r ∷ f') h i = let c = contract_counted n d g f f' h i in record {
  ups = λ w. c.ups w;
  downs = λ w. omega (arith, c.downs w);
}
contract_counted n d (a ∷ g) (Some l ∷ f) (None ∷ f') h i = let c = contract_counted n d g f f' h i in record {
  ups = λ w. c.ups w;
  downs = λ w. omega (arith, c.downs w);
}
contract_counted n d (a ∷ g) (Some l ∷ f) (Some r ∷ f') h i = let c =
    contract_counted (suc n) d g f f' h i in record { ups = λ w. omega (arith, c.ups w); downs = λ w. omega (arith, c.downs w) }

-- doors use the wires inside, and give those outside
pub doors_counted : (n d : ℕ) (g : List TyTree) (f : List (Option ℕ)) → Aligned g f
    → Counted n (doors n d g f).wires (doors n d g f).nodes (ends f) (ends (doors n d g f).free)
doors_counted n d [] [] h = record { ups = λ w. refl; downs = λ w. refl }
doors_counted n d [] (o ∷ f) h = elim h [ ]
doors_counted n d (a ∷ g) [] h = elim h [ ]
doors_counted n d (a ∷ g) (None ∷ f) h = let c = doors_counted n d g f h in record { ups = λ w. c.ups w; downs = λ w. c.downs w }
doors_counted n d (a ∷ g) (Some x ∷ f) h = let c = doors_counted (suc n) d g f h in record {
  ups = λ w. omega (arith, c.ups w);
  downs = λ w. omega (arith, c.downs w);
}

-- a binder's wire is given apart from the others
pub bound_counted : (n d : ℕ) (a : TyTree) (f : List (Option ℕ))
    → Counted n (bound n d a f).wires (bound n d a f).nodes (ends f)
    (λ w. (if nat_eq (bound_wire n f) w then 1 else 0) + ends (bound n d a f).free w)
bound_counted n d a [] = record { ups = λ w. omega arith; downs = λ w. omega arith }
bound_counted n d a (None ∷ f) = record { ups = λ w. omega arith; downs = λ w. omega arith }
bound_counted n d a (Some x ∷ f) = record { ups = λ w. refl; downs = λ w. omega arith }

-- no variable has no wire
none_ends : (g : List TyTree) (w : ℕ) → ends (none_free g) w ≡ 0
none_ends [] w = refl
none_ends (a ∷ g) w = none_ends g w

-- one variable has its own wire
one_ends : (g : List TyTree) (i x w : ℕ) (a : TyTree) → slice_get g i ≡ Some a → ends (one_free g i x) w ≡ (if nat_eq x w then 1 else 0)
one_ends [] i x w a h = cc
one_ends (b ∷ g) zero x w a h = omega (arith, none_ends g w)
one_ends (b ∷ g) (suc i) x w a h = one_ends g i x w a h

-- a part's loose wires
abbrev pub PartCounted : ℕ → Part → Type 0
PartCounted n p = Counted n p.wires p.nodes (λ w. 0) (λ w. (if nat_eq p.out w then 1 else 0) + ends p.free w)

-- two pieces side by side, and what their loose wires come to
join : (n : ℕ) (ws vs : List WireTree) (ns ms : List Node) (i o i' o' : ℕ → ℕ) → Counted n ws ns i o → Counted (n + length ws) vs ms i' o'
    → Counted n (ws ++ vs) (ns ++ ms) (λ w. i w + i' w) (λ w. o w + o' w)
join n ws vs ns ms i o i' o' c d = record {
  ups = λ w. omega (arith, c.ups w, d.ups w, named_append conclusions ns ms w, made_append n ws vs w);
  downs = λ w. omega (arith, c.downs w, d.downs w, named_append premises ns ms w, made_append n ws vs w);
}

-- the same, where ins and outs are counted in another way
settle : (n : ℕ) (ws : List WireTree) (ns : List Node) (i o i' o' : ℕ → ℕ) → Counted n ws ns i o → ((w : ℕ) → o w + i' w ≡ i w + o' w)
    → Counted n ws ns i' o'
settle n ws ns i o i' o' c h = record { ups = c.ups; downs = λ w. omega (arith, c.downs w, h w) }

-- one node with its one conclusion
one_node : (n : ℕ) (k : WireTree) (node : Node) (ins : List ℕ) → conclusions node ≡ n ∷ [] → premises node ≡ ins
    → Counted n (k ∷ []) (node ∷ []) (λ w. how_often w ins) (λ w. if nat_eq n w then 1 else 0)
one_node n k node ins e e' = record {
  ups = λ w. ap (λ xs. how_often w xs + 0) e ∙ omega arith;
  downs = λ w. let z = ap (how_often w) e' in omega arith;
}

-- the forms, each once its operands are counted
unary_counted : (node : ℕ → ℕ → Node) (t : TyTree) (n d : ℕ) (p : Part)
    → ((a w : ℕ) → (conclusions (node a w) ≡ w ∷ []) × (premises (node a w) ≡ a ∷ [])) → PartCounted n p
    → PartCounted n (unary_part node t n d p)
unary_counted node t n d p e h =
    let w = n + length p.wires in
    let (o, i) = e p.out w in
    settle n _ _ _ _ _ _ (join n p.wires _ p.nodes _ _ _ _ _ h (one_node w (value_wire d t) (node p.out w) (p.out ∷ []) o i))
    (λ w. omega arith)

-- two operands: the contractions take their variables, and the node takes both value wires
double_counted : (node : ℕ → ℕ → ℕ → Node) (t : TyTree) (n d : ℕ) (g : List TyTree) (p q : Part)
    → ((a b w : ℕ) → (conclusions (node a b w) ≡ w ∷ []) × (premises (node a b w) ≡ a ∷ b ∷ [])) →
    Aligned g p.free → Aligned g q.free → PartCounted n p → PartCounted (n + length p.wires) q → PartCounted n
    (double_part node t n d g p q)
double_counted node t n d g p q ends in_context in_context' first second =
    let m = n + length p.wires + length q.wires in
    let c = contract m d g p.free q.free in
    let w = m + length c.wires in
    let (o, i) = ends p.out q.out w in
    settle n _ _ _ _ _ _
    (join n p.wires _ p.nodes _ _ _ _ _ first
    (join (n + length p.wires) q.wires _ q.nodes _ _ _ _ _ second
    (join m c.wires _ c.nodes _ _ _ _ _ (contract_counted m d g p.free q.free in_context in_context')
    (one_node w (value_wire d t) (node p.out q.out w) (p.out ∷ q.out ∷ []) o i))))
    (λ w. omega arith)

-- three operands: the branches' contractions, then those with the condition, and the node on three value wires
ifz_counted : (n d : ℕ) (g : List TyTree) (x y z : Part) → Aligned g x.free → Aligned g y.free → Aligned g z.free →
    PartCounted n x → PartCounted (n + length x.wires) y → PartCounted (n + length x.wires + length y.wires) z → PartCounted n
    (ifz_part n d g x y z)
ifz_counted n d g x y z ax ay az hx hy hz =
    let o = n + length x.wires + length y.wires + length z.wires in
    let b = contract o d g y.free z.free in
    let b' = contract (o + length b.wires) d g x.free b.free in
    settle n _ _ _ _ _ _
    (join n x.wires _ x.nodes _ _ _ _ _ hx
    (join (n + length x.wires) y.wires _ y.nodes _ _ _ _ _ hy
    (join (n + length x.wires + length y.wires) z.wires _ z.nodes _ _ _ _ _ hz
    (join o b.wires _ b.nodes _ _ _ _ _ (contract_counted o d g y.free z.free ay az)
    (join (o + length b.wires) b'.wires _ b'.nodes _ _ _ _ _
    (contract_counted (o + length b.wires) d g x.free b.free ax (contract_aligned o d g y.free z.free ay az))
    (one_node (o + length b.wires + length b'.wires) (value_wire d nat) (Ifz x.out y.out z.out (o + length b.wires + length b'.wires))
    (x.out ∷ y.out ∷ z.out ∷ []) refl refl))))))
    (λ w. omega arith)

lam_counted : (n d : ℕ) (a : TyTree) (p : Part) → PartCounted n p → PartCounted n (lam_part n d a p)
lam_counted n d a p h =
    let o = n + length p.wires in
    let r = bound o d a p.free in
    settle n _ _ _ _ _ _
    (join n p.wires _ p.nodes _ _ _ _ _ h
    (join o r.wires _ r.nodes _ _ _ _ _ (bound_counted o d a p.free)
    (one_node (o + length r.wires) (value_wire d (arrow a p.type)) (Lam p.out (bound_wire o p.free) (o + length r.wires))
    (p.out ∷ bound_wire o p.free ∷ []) refl refl)))
    (λ w. omega arith)

-- a fixed point: the binder's wire, doors for the others, and the box on the body's value wire
fix_counted : (n d : ℕ) (g : List TyTree) (a : TyTree) (p : Part) → Aligned (a ∷ g) p.free → PartCounted n p
    → PartCounted n (fix_part n d g a p)
fix_counted n d g a p al h =
    let o = n + length p.wires in
    let r = bound o (suc d) a p.free in
    let x = doors (o + length r.wires) d g r.free in
    settle n _ _ _ _ _ _
    (join n p.wires _ p.nodes _ _ _ _ _ h
    (join o r.wires _ r.nodes _ _ _ _ _ (bound_counted o (suc d) a p.free)
    (join (o + length r.wires) x.wires _ x.nodes _ _ _ _ _
    (doors_counted (o + length r.wires) d g r.free (bound_aligned o (suc d) a g p.free al))
    (one_node (o + length r.wires + length x.wires) (value_wire d a)
    (FixBox p.out (bound_wire o p.free) (o + length r.wires + length x.wires)) (p.out ∷ bound_wire o p.free ∷ []) refl refl))))
    (λ w. omega arith)

-- an application: doors for the argument's variables, its box, contractions with the function's, and the node
app_counted : (n d : ℕ) (g : List TyTree) (p q : Part) → Aligned g p.free → Aligned g q.free → PartCounted n p
    → PartCounted (n + length p.wires) q → PartCounted n (app_part n d g p q)
app_counted n d g p q ap aq hp hq =
    let o = n + length p.wires + length q.wires in
    let x = doors o d g q.free in
    let i = o + length x.wires in
    let b = contract (suc i) d g p.free x.free in
    let more = join (suc i) b.wires _ b.nodes _ _ _ _ _ (contract_counted (suc i) d g p.free x.free ap (doors_aligned o d g q.free aq))
    (one_node (suc i + length b.wires) (value_wire d (codomain p.type)) (App p.out i (suc i + length b.wires)) (p.out ∷ i ∷ []) refl refl)
    in
    let box : Counted i (bang_wire d (domain p.type) ∷ (b.wires ++ value_wire d (codomain p.type) ∷ []))
    (BoxNode q.out i ∷ (b.nodes ++ App p.out i (suc i + length b.wires) ∷ []))
    (λ w. (if nat_eq q.out w then 1 else 0) +
    ((ends p.free w + ends x.free w) + ((if nat_eq p.out w then 1 else 0) + (if nat_eq i w then 1 else 0))))
    (λ w. (if nat_eq i w then 1 else 0) + (ends b.free w + (if nat_eq (suc i + length b.wires) w then 1 else 0)))
    = record { ups = λ w. omega (arith, more.ups w); downs = λ w. omega (arith, more.downs w) } in
    settle n _ _ _ _ _ _
    (join n p.wires _ p.nodes _ _ _ _ _ hp
    (join (n + length p.wires) q.wires _ q.nodes _ _ _ _ _ hq
    (join o x.wires _ x.nodes _ _ _ _ _ (doors_counted o d g q.free aq) box)))
    (λ w. omega arith)

-- the wires of an operator's node, and of one that takes a part of a pair
binary_ends : (o : Operator) (a b w : ℕ) → (conclusions (Binary o a b w) ≡ w ∷ []) × (premises (Binary o a b w) ≡ a ∷ b ∷ [])
binary_ends o a b w = (refl, refl)

proj_ends : (s : Side) (a w : ℕ) → (conclusions (Proj s a w) ≡ w ∷ []) × (premises (Proj s a w) ≡ a ∷ [])
proj_ends s a w = (refl, refl)

-- every typed part gives its value wire and its variables' wires, and uses up all others
pub counted : (m : TermTree) (n d : ℕ) (g : List TyTree) (a : TyTree) → HasType g m a → PartCounted n (part n d g m)
counted (num v) n d g a h = record { ups = λ w. omega arith; downs = λ w. omega (arith, none_ends g w) }
counted (var i) n d g a h = record { ups = λ w. omega arith; downs = λ w. omega (arith, one_ends g i (suc n) w a h) }
counted (succ_of m) n d g a h = unary_counted Succ nat n d (part n d g m) (λ a w. (refl, refl)) (counted m n d g nat h.0)
counted (pred_of m) n d g a h = unary_counted Pred nat n d (part n d g m) (λ a w. (refl, refl)) (counted m n d g nat h.0)
counted (binary o m l) n d g a h =
    let p = part n d g m in
    let q = part (n + length p.wires) d g l in
    double_counted (Binary o) nat n d g p q (binary_ends o) (aligned m n d g) (aligned l _ d g) (counted m n d g nat h.0)
    (counted l (n + length p.wires) d g nat h.1)
counted (ifz i m l) n d g a h =
    let x = part n d g i in
    let y = part (n + length x.wires) d g m in
    let z = part (n + length x.wires + length y.wires) d g l in
    ifz_counted n d g x y z (aligned i n d g) (aligned m _ d g) (aligned l _ d g) (counted i n d g nat h.0)
    (counted m (n + length x.wires) d g nat h.1) (counted l (n + length x.wires + length y.wires) d g nat h.2)
counted (lam b m) n d g a h = lam_counted n d b (part n d (b ∷ g) m) (counted m n d (b ∷ g) h.0 h.1)
counted (fix b m) n d g a h =
    fix_counted n d g b (part n (suc d) (b ∷ g) m) (aligned m n (suc d) (b ∷ g)) (counted m n (suc d) (b ∷ g) b h.0)
counted (app m l) n d g a h =
    let p = part n d g m in
    app_counted n d g p (part (n + length p.wires) (suc d) g l) (aligned m n d g) (aligned l _ (suc d) g)
    (counted m n d g (arrow h.0 a) h.1) (counted l (n + length p.wires) (suc d) g h.0 h.2)
counted (pair m l) n d g a h =
    let p = part n d g m in
    let q = part (n + length p.wires) d g l in
    double_counted Pair (product p.type q.type) n d g p q (λ a b w. (refl, refl)) (aligned m n d g) (aligned l _ d g)
    (counted m n d g h.0 h.2) (counted l (n + length p.wires) d g h.1 h.3)
counted (proj s m) n d g a h =
    let p = part n d g m in
    unary_counted (Proj s) (side_type s p.type) n d p (proj_ends s) (counted m n d g (product h.0 h.1) h.2)
