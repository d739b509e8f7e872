-- The net of a closed term has small depths and numbers, so that a listing of it has to be limited in its types and its length alone.
use Rattle.std.proofs.Common.{◌≡◌, ℕ, zero, suc, ◌+◌, ◌^◌, ◌<◌, ◌≤◌, max, List, [], ◌∷◌, ◌++◌, length, length-append, Option, Some, None}
use Rattle.std.proofs.Common.{refl, sym, ap, ◌∙◌, inl, inr, arith}
use Rattle.std.proofs.Math.Nat.{le-max_left, le-max_right}
use Rattle.std.proofs.lemmas.Bool.{cases_lt, eq-eqb}
use Rattle.std.specs.Prelude.{codes, if◌then◌else◌}
use Rattle.pcf_values.specs.Terms.{TyTree, nat, arrow, product, TermTree, num, var, succ_of, pred_of, binary}
use Rattle.pcf_values.specs.Terms.{ifz, lam, fix, app, pair, proj, height}
use Rattle.pcf_values.specs.Typing.{HasType}
use Rattle.pcf_values.proofs.Heights.{height_positive}
use Rattle.net_build.specs.declared.node.Node.{Node}
use Rattle.net_build.specs.declared.node.Node.TheVariants.{Const, Succ, Pred, Ifz, Lam, App, BoxNode, Binary, Proj}
use Rattle.net_build.specs.declared.node.Node.TheVariants.{FixBox, Root, Pair}
use Rattle.net_build.specs.Nets.{WireTree, NetTree, premises, conclusions, value_wire, bang_wire}
use Rattle.net_build.specs.NetOf.{Part, contract, doors, bound, bound_wire, part, net_of, domain, codomain, side_type, double_part}
use Rattle.net_build.specs.NetOf.{ifz_part, lam_part, fix_part, app_part}
use Rattle.net_build.specs.Sound.{how_often, named}
use Rattle.net_build.proofs.Built.{built_sound}
use Rattle.net_text.specs.Accepted.{TypesWithin}
use Rattle.net_text.specs.Listing.{lines_of, listing, node_line, wire_line}
use Rattle.net_text.specs.NetText.{NetFits, NodeFits, NodesFit, Small, WiresFit}

-- no wire stands deeper than d
abbrev pub DepthsTo : ℕ → List WireTree → Type 0
DepthsTo d [] = Unit {0}
DepthsTo d (w ∷ ws) = (w.depth ≤ d) × DepthsTo d ws

-- the constants are numbers of the code's
abbrev pub ConstsFit : List Node → Type 0
ConstsFit [] = Unit {0}
ConstsFit (Const v w ∷ ns) = (v < 2 ^ 64) × ConstsFit ns
ConstsFit (n ∷ ns) = ConstsFit ns

record Low (d : ℕ) (ws : List WireTree) (ns : List Node) : Type 0 where
  wires : DepthsTo d ws
  nodes : ConstsFit ns

-- two lists of wires
depths_join : (d : ℕ) (a b : List WireTree) → DepthsTo d a → DepthsTo d b → DepthsTo d (a ++ b)
depths_join d [] b p q = q
depths_join d (w ∷ a) b p q = (p.0, depths_join d a b p.1 q)

-- two lists of nodes
consts_join : (a b : List Node) → ConstsFit a → ConstsFit b → ConstsFit (a ++ b)
consts_join [] b p q = q
consts_join (Const v w ∷ a) b p q = (p.0, consts_join a b p.1 q)
consts_join (n ∷ a) b p q = consts_join a b p q

-- two pieces of a net
join : (d : ℕ) (ws vs : List WireTree) (ns ms : List Node) → Low d ws ns → Low d vs ms → Low d (ws ++ vs) (ns ++ ms)
join d ws vs ns ms p q = record { wires = depths_join d ws vs p.wires q.wires; nodes = consts_join ns ms p.nodes q.nodes }

-- contractions
contract_low : (b n d : ℕ) (g : List TyTree) (f f' : List (Option ℕ)) → d ≤ b
    → Low b (contract n d g f f').wires (contract n d g f f').nodes
contract_low b n d [] f f' h = record { wires = tt; nodes = tt }
contract_low b n d (a ∷ g) [] f' h = record { wires = tt; nodes = tt }
contract_low b n d (a ∷ g) (o ∷ f) [] h = record { wires = tt; nodes = tt }
contract_low b n d (a ∷ g) (None ∷ f) (o ∷ f') h = let c = contract_low b n d g f f' h in record { wires = c.wires; nodes = c.nodes }
contract_low b n d (a ∷ g) (Some l ∷ f) (None ∷ f') h = let c = contract_low b n d g f f' h in record { wires = c.wires; nodes = c.nodes }
contract_low b n d (a ∷ g) (Some l ∷ f) (Some r ∷ f') h = let c = contract_low b (suc n) d g f f' h in record {
  wires = (h, c.wires);
  nodes = c.nodes;
}

-- doors
doors_low : (b n d : ℕ) (g : List TyTree) (f : List (Option ℕ)) → d ≤ b → Low b (doors n d g f).wires (doors n d g f).nodes
doors_low b n d [] f h = record { wires = tt; nodes = tt }
doors_low b n d (a ∷ g) [] h = record { wires = tt; nodes = tt }
doors_low b n d (a ∷ g) (None ∷ f) h = let c = doors_low b n d g f h in record { wires = c.wires; nodes = c.nodes }
doors_low b n d (a ∷ g) (Some x ∷ f) h = let c = doors_low b (suc n) d g f h in record { wires = (h, c.wires); nodes = c.nodes }

-- a binder's wire
bound_low : (b n d : ℕ) (a : TyTree) (f : List (Option ℕ)) → d ≤ b → Low b (bound n d a f).wires (bound n d a f).nodes
bound_low b n d a [] h = record { wires = (h, tt); nodes = tt }
bound_low b n d a (None ∷ f) h = record { wires = (h, tt); nodes = tt }
bound_low b n d a (Some x ∷ f) h = record { wires = tt; nodes = tt }

-- the forms, where their operands are so
double_low : (b : ℕ) (node : ℕ → ℕ → ℕ → Node) (t : TyTree) (n d : ℕ) (g : List TyTree) (p q : Part)
    → ((x y w : ℕ) → ConstsFit (node x y w ∷ [])) → d ≤ b → Low b p.wires p.nodes → Low b q.wires q.nodes →
    Low b (double_part node t n d g p q).wires (double_part node t n d g p q).nodes
double_low b node t n d g p q e h i k =
    let o = n + length p.wires + length q.wires in
    let c = contract o d g p.free q.free in
    let w = o + length c.wires in
    let last : Low b (value_wire d t ∷ []) (node p.out q.out w ∷ []) = record { wires = (h, tt); nodes = e p.out q.out w } in
    join b p.wires _ p.nodes _ i (join b q.wires _ q.nodes _ k (join b c.wires _ c.nodes _ (contract_low b o d g p.free q.free h) last))

-- a condition with its branches
ifz_low : (b n d : ℕ) (g : List TyTree) (x y z : Part) → d ≤ b → Low b x.wires x.nodes → Low b y.wires y.nodes → Low b z.wires z.nodes
    → Low b (ifz_part n d g x y z).wires (ifz_part n d g x y z).nodes
ifz_low b n d g x y z deep first second third =
    let o = n + length x.wires + length y.wires + length z.wires in
    let c = contract o d g y.free z.free in
    let e = contract (o + length c.wires) d g x.free c.free in
    let w = o + length c.wires + length e.wires in
    let last : Low b (value_wire d nat ∷ []) (Ifz x.out y.out z.out w ∷ []) = record { wires = (deep, tt); nodes = tt } in
    join b x.wires _ x.nodes _ first (join b y.wires _ y.nodes _ second (join b z.wires _ z.nodes _ third
    (join b c.wires _ c.nodes _ (contract_low b o d g y.free z.free deep)
    (join b e.wires _ e.nodes _ (contract_low b (o + length c.wires) d g x.free c.free deep) last))))

-- a function
lam_low : (b n d : ℕ) (a : TyTree) (p : Part) → d ≤ b → Low b p.wires p.nodes → Low b (lam_part n d a p).wires (lam_part n d a p).nodes
lam_low b n d a p h i =
    let o = n + length p.wires in
    let c = bound o d a p.free in
    let last : Low b (value_wire d (arrow a p.type) ∷ []) (Lam p.out (bound_wire o p.free) (o + length c.wires) ∷ []) =
    record { wires = (h, tt); nodes = tt } in
    join b p.wires _ p.nodes _ i (join b c.wires _ c.nodes _ (bound_low b o d a p.free h) last)

-- a recursive value
fix_low : (b n d : ℕ) (g : List TyTree) (a : TyTree) (p : Part) → suc d ≤ b → Low b p.wires p.nodes
    → Low b (fix_part n d g a p).wires (fix_part n d g a p).nodes
fix_low b n d g a p deep body =
    let o = n + length p.wires in
    let c = bound o (suc d) a p.free in
    let e = doors (o + length c.wires) d g c.free in
    let l : d ≤ b = omega (arith, deep) in
    let last : Low b (value_wire d a ∷ []) (FixBox p.out (bound_wire o p.free) (o + length c.wires + length e.wires) ∷ []) =
    record { wires = (l, tt); nodes = tt } in
    join b p.wires _ p.nodes _ body
    (join b c.wires _ c.nodes _ (bound_low b o (suc d) a p.free deep)
    (join b e.wires _ e.nodes _ (doors_low b (o + length c.wires) d g c.free l) last))

-- an application
app_low : (b n d : ℕ) (g : List TyTree) (p q : Part) → d ≤ b → Low b p.wires p.nodes → Low b q.wires q.nodes
    → Low b (app_part n d g p q).wires (app_part n d g p q).nodes
app_low b n d g p q deep first second =
    let o = n + length p.wires + length q.wires in
    let e = doors o d g q.free in
    let x = o + length e.wires in
    let c = contract (suc x) d g p.free e.free in
    let w = suc x + length c.wires in
    let last : Low b (value_wire d (codomain p.type) ∷ []) (App p.out x w ∷ []) = record { wires = (deep, tt); nodes = tt } in
    let box : Low b (bang_wire d (domain p.type) ∷ []) (BoxNode q.out x ∷ []) = record { wires = (deep, tt); nodes = tt } in
    join b p.wires _ p.nodes _ first (join b q.wires _ q.nodes _ second (join b e.wires _ e.nodes _ (doors_low b o d g q.free deep)
    (join b (bang_wire d (domain p.type) ∷ []) _ (BoxNode q.out x ∷ []) _ box
    (join b c.wires _ c.nodes _ (contract_low b (suc x) d g p.free e.free deep) last))))

-- one operand and a node
unary_low : (b d w : ℕ) (node : ℕ → ℕ → Node) (t : TyTree) (p : Part) → ((x w : ℕ) → ConstsFit (node x w ∷ [])) → d ≤ b
    → Low b p.wires p.nodes → Low b (p.wires ++ value_wire d t ∷ []) (p.nodes ++ node p.out w ∷ [])
unary_low b d w node t p e h i =
    join b p.wires (value_wire d t ∷ []) p.nodes (node p.out w ∷ []) i (record { wires = (h, tt); nodes = e p.out w })

-- Each part stands no deeper than its height allows, and its constants are numbers of the code.
part_low : (m : TermTree) (b n d : ℕ) (g : List TyTree) (a : TyTree) → HasType g m a → d + height m ≤ b
    → Low b (part n d g m).wires (part n d g m).nodes
part_low (num v) b n d g a t h = record { wires = (omega (arith, h), tt); nodes = (t.0, tt) }
part_low (var i) b n d g a t h = let l : d ≤ b = omega (arith, h) in record { wires = (l, (l, tt)); nodes = tt }
part_low (succ_of m) b n d g a t h =
    unary_low b d _ Succ nat (part n d g m) (λ x w. tt) (omega (arith, h)) (part_low m b n d g nat t.0 (omega (arith, h)))
part_low (pred_of m) b n d g a t h =
    unary_low b d _ Pred nat (part n d g m) (λ x w. tt) (omega (arith, h)) (part_low m b n d g nat t.0 (omega (arith, h)))
part_low (proj s m) b n d g a t h =
    unary_low b d _ (Proj s) (side_type s (part n d g m).type) (part n d g m) (λ x w. tt) (omega (arith, h))
    (part_low m b n d g (product t.0 t.1) t.2 (omega (arith, h)))
part_low (binary o m l) b n d g a t h =
    let p = part n d g m in
    let k = n + length p.wires in
    double_low b (Binary o) nat n d g p (part k d g l) (λ x y w. tt) (omega (arith, h))
    (part_low m b n d g nat t.0 (omega (arith, h, le-max_left (height m) (height l))))
    (part_low l b k d g nat t.1 (omega (arith, h, le-max_right (height m) (height l))))
part_low (pair m l) b n d g a t h =
    let p = part n d g m in
    let k = n + length p.wires in
    let q = part k d g l in
    double_low b Pair (product p.type q.type) n d g p q (λ x y w. tt) (omega (arith, h))
    (part_low m b n d g t.0 t.2 (omega (arith, h, le-max_left (height m) (height l))))
    (part_low l b k d g t.1 t.3 (omega (arith, h, le-max_right (height m) (height l))))
part_low (ifz i m l) b n d g a t h =
    let x = part n d g i in
    let k = n + length x.wires in
    let y = part k d g m in
    let j = k + length y.wires in
    let p = le-max_left (height i) (max (height m) (height l)) in
    let q = le-max_right (height i) (max (height m) (height l)) in
    ifz_low b n d g x y (part j d g l) (omega (arith, h)) (part_low i b n d g nat t.0 (omega (arith, h, p)))
    (part_low m b k d g nat t.1 (omega (arith, h, q, le-max_left (height m) (height l))))
    (part_low l b j d g nat t.2 (omega (arith, h, q, le-max_right (height m) (height l))))
part_low (lam c m) b n d g a t h =
    lam_low b n d c (part n d (c ∷ g) m) (omega (arith, h)) (part_low m b n d (c ∷ g) t.0 t.1 (omega (arith, h)))
part_low (fix c m) b n d g a t h =
    fix_low b n d g c (part n (suc d) (c ∷ g) m) (omega (arith, h, height_positive m))
    (part_low m b n (suc d) (c ∷ g) c t.0 (omega (arith, h)))
part_low (app m l) b n d g a t h =
    let p = part n d g m in
    let k = n + length p.wires in
    app_low b n d g p (part k (suc d) g l) (omega (arith, h))
    (part_low m b n d g (arrow t.0 a) t.1 (omega (arith, h, le-max_left (height m) (height l))))
    (part_low l b k (suc d) g t.0 t.2 (omega (arith, h, le-max_right (height m) (height l))))

-- numbers none of which is past the bound
below : (c : ℕ) (xs : List ℕ) → c ≤ 2 ^ 32 → ((w : ℕ) → c ≤ w → how_often w xs ≡ 0) → Small xs
below c [] u h = tt
below c (x ∷ xs) u h =
    (elim (cases_lt x c) [ inl l ↦ omega (arith, l, u) | inr l ↦ absurd (once x xs (h x l)) ], below c xs u (λ w l. omega (arith, h w l)))
  where
    once : (x : ℕ) (xs : List ℕ) → how_often x (x ∷ xs) ≡ 0 → ⊥
    once x xs h = let e : 1 + how_often x xs ≡ 0 =
        ap (λ b. (if b then 1 else 0) + how_often x xs) (sym (eq-eqb x x refl)) ∙ h in omega (arith, e)

-- two lists of numbers
small_join : (a b : List ℕ) → Small a → Small b → Small (a ++ b)
small_join [] b p q = q
small_join (n ∷ a) b p q = (p.0, small_join a b p.1 q)

-- a node with such premises and conclusions
node_fits : (x : Node) → ConstsFit (x ∷ []) → Small (premises x) → Small (conclusions x) → NodeFits x
node_fits (Const v w) c p q = (c.0, q.0)
node_fits x c p q = small_join (premises x) (conclusions x) p q

-- the first node and the others
first_consts : (x : Node) (ns : List Node) → ConstsFit (x ∷ ns) → ConstsFit (x ∷ []) × ConstsFit ns
first_consts (Const v w) ns h = ((h.0, tt), h.1)
first_consts x ns h = (tt, h)

-- nodes whose wires are all below a bound
nodes_fit : (c : ℕ) (ns : List Node) → c ≤ 2 ^ 32 → ConstsFit ns → ((w : ℕ) → c ≤ w → named premises ns w ≡ 0)
    → ((w : ℕ) → c ≤ w → named conclusions ns w ≡ 0) → NodesFit ns
nodes_fit c [] u k p q = tt
nodes_fit c (x ∷ ns) u k p q =
    let (i, j) = first_consts x ns k in (
      node_fits x i (below c (premises x) u (λ w l. omega (arith, p w l))) (below c (conclusions x) u (λ w l. omega (arith, q w l))),
      nodes_fit c ns u j (λ w l. omega (arith, p w l)) (λ w l. omega (arith, q w l)),
    )

-- wires of small depths and low types
wires_fit : (h d : ℕ) (ws : List WireTree) → d < 2 ^ 32 → TypesWithin h ws → DepthsTo d ws → WiresFit h ws
wires_fit h d [] u t k = tt
wires_fit h d (w ∷ ws) u t k = (omega (arith, u, k.0), t.0, wires_fit h d ws u t.1 k.1)

-- the types of wires that fit are low
types_within : (h : ℕ) (ws : List WireTree) → WiresFit h ws → TypesWithin h ws
types_within h [] f = tt
types_within h (w ∷ ws) f = (f.1, types_within h ws f.2)

-- the types of a net that fits are low
pub fit_types : (h : ℕ) (net : NetTree) → NetFits h net → TypesWithin h net.wires
fit_types h net f = types_within h net.wires f.wires

-- The net of such a term fits, where its types do.
pub term_net_fits : (h : ℕ) (m : TermTree) → HasType [] m nat → height m < 2 ^ 32 → TypesWithin h (net_of m).wires
    → length (net_of m).wires ≤ 2 ^ 32 → NetFits h (net_of m)
term_net_fits h m t u k c =
    let p = part zero zero [] m in
    let s = built_sound m t in
    let l = part_low m (height m) zero zero [] nat t (omega arith) in
    record {
      wires = wires_fit h (height m) p.wires u k l.wires;
      nodes = nodes_fit (length p.wires) (net_of m).nodes c (consts_join p.nodes (Root p.out ∷ []) l.nodes tt) (λ w i. (s.outside w i).1)
          (λ w i. (s.outside w i).0);
    }

-- a listing is no shorter than its lists
lines_long : {A : Type 0} → (line : ℕ → A → List ℕ) (k : ℕ) (xs : List A) → ((k : ℕ) (x : A) → 1 ≤ length (line k x))
    → length xs ≤ length (lines_of line k xs)
lines_long line k [] h = omega arith
lines_long line k (x ∷ xs) h = omega (arith, h k x, lines_long line (suc k) xs h, length-append (line k x) (lines_of line (suc k) xs))

-- a listing has a byte at least for each wire and for each node
pub listing_long : (net : NetTree) → (length net.wires ≤ length (listing net)) × (length net.nodes ≤ length (listing net))
listing_long net =
    let a = lines_of wire_line 0 net.wires in
    let b = lines_of node_line 0 net.nodes in
    let p = length-append (codes "net 1\n") (a ++ (b ++ codes "end\n")) in
    let q = length-append a (b ++ codes "end\n") in
    let r = length-append b (codes "end\n") in (
      omega (arith, p, q, lines_long wire_line 0 net.wires (λ k x. omega arith)),
      omega (arith, p, q, r, lines_long node_line 0 net.nodes (λ k x. omega arith)),
    )
