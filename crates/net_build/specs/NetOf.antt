-- The net of a term, by the order in which its parts are built.
-- It is Girard's translation of call by name into the proof nets of linear logic: the argument of a function stands in a box, as the
-- function takes it as often as it likes; Der is dereliction, Con contraction, Weak weakening, and BoxNode with its Doors promotion.
-- Numbers, their operators and fixed points, which that logic hasn't, have nodes of their own.
-- It is a recursion on the term that joins the lists of the parts, so that a proof by induction on the term sees each part's wires
-- and nodes as they are. Wires have their final numbers from the start: a part is told the next unused number, and nodes name
-- wires only, so that no list is ever renumbered. A term's free variables are a list aligned with its typing context, with the
-- variable's wire at each index that the term uses: rising index is the list's order, and a binder takes the first entry off.
-- The type of a part is computed beside it; it is a default where the term has no type, so that the definition has no condition.
use Rattle.std.specs.Prelude.{ℕ, zero, suc, ◌+◌, List, [], ◌∷◌, ◌++◌, length, Option, Some, None, slice_get}
use Rattle.pcf_values.specs.Terms.{at_side, TyTree, nat, arrow, product, TermTree, num, var, succ_of, pred_of, binary, ifz, lam, fix}
use Rattle.pcf_values.specs.declared.side.Side.{Side}
use Rattle.pcf_values.specs.Terms.{app, pair, proj}
use Rattle.net_build.specs.declared.node.Node.{Node}
use Rattle.net_build.specs.declared.node.Node.TheVariants.{Const, Succ, Pred, Ifz, Der, Con, Weak, Lam, App, BoxNode, Door, FixBox, Root}
use Rattle.net_build.specs.declared.node.Node.TheVariants.{Binary, Proj}
use Rattle.net_build.specs.declared.node.Node.TheVariants.{Pair}
use Rattle.net_build.specs.Nets.{WireTree, NetTree, value_wire, bang_wire, var_wire}

-- new wires and nodes, and for each index of the context its variable wire, where it has one
pub record Bundle : Type 0 where
  pub wires : List WireTree
  pub nodes : List Node
  pub free : List (Option ℕ)

-- what a term gives: its wires, its nodes, its value wire, its type, and its variable wires
pub record Part : Type 0 where
  pub wires : List WireTree
  pub nodes : List Node
  pub out : ℕ
  pub type : TyTree
  pub free : List (Option ℕ)

-- one more wire and node in front
abbrev pub also : WireTree → Node → ℕ → Bundle → Bundle
also w n x b = record { wires = w ∷ b.wires; nodes = n ∷ b.nodes; free = Some x ∷ b.free }

-- an index that keeps what it has
abbrev pub keep : Option ℕ → Bundle → Bundle
keep o b = record { wires = b.wires; nodes = b.nodes; free = o ∷ b.free }

-- contractions of two lists, the first on the left: for each index that stands in both, by rising index, a variable wire and a Con
-- (n is the next wire, d the depth)
abbrev pub contract : ℕ → ℕ → List TyTree → List (Option ℕ) → List (Option ℕ) → Bundle
contract n d [] f g = record { wires = []; nodes = []; free = [] }
contract n d (t ∷ ts) [] g = record { wires = []; nodes = []; free = g }
contract n d (t ∷ ts) (o ∷ f) [] = record { wires = []; nodes = []; free = o ∷ f }
contract n d (t ∷ ts) (None ∷ f) (o ∷ g) = keep o (contract n d ts f g)
contract n d (t ∷ ts) (Some l ∷ f) (None ∷ g) = keep (Some l) (contract n d ts f g)
contract n d (t ∷ ts) (Some l ∷ f) (Some r ∷ g) = also (var_wire d t) (Con l r n) n (contract (suc n) d ts f g)

-- for each variable, by rising index, a variable wire at depth d and a Door to it
abbrev pub doors : ℕ → ℕ → List TyTree → List (Option ℕ) → Bundle
doors n d [] f = record { wires = []; nodes = []; free = [] }
doors n d (t ∷ ts) [] = record { wires = []; nodes = []; free = [] }
doors n d (t ∷ ts) (None ∷ f) = keep None (doors n d ts f)
doors n d (t ∷ ts) (Some x ∷ f) = also (var_wire d t) (Door x n) n (doors (suc n) d ts f)

-- the binder's variable wire, of a Weak where the body doesn't use it; its index leaves the list, and the others go down by one
abbrev pub bound : ℕ → ℕ → TyTree → List (Option ℕ) → Bundle
bound n d t [] = record { wires = var_wire d t ∷ []; nodes = Weak n ∷ []; free = [] }
bound n d t (None ∷ f) = record { wires = var_wire d t ∷ []; nodes = Weak n ∷ []; free = f }
bound n d t (Some x ∷ f) = record { wires = []; nodes = []; free = f }

-- the number of that wire
abbrev pub bound_wire : ℕ → List (Option ℕ) → ℕ
bound_wire n [] = n
bound_wire n (None ∷ f) = n
bound_wire n (Some x ∷ f) = x

-- no variable of the context is used
abbrev pub none_free : List TyTree → List (Option ℕ)
none_free [] = []
none_free (t ∷ ts) = None ∷ none_free ts

-- variable i alone is used, by this wire
abbrev pub one_free : List TyTree → ℕ → ℕ → List (Option ℕ)
one_free [] i x = []
one_free (t ∷ ts) zero x = Some x ∷ none_free ts
one_free (t ∷ ts) (suc i) x = None ∷ one_free ts i x

-- a variable's type
abbrev pub type_or_nat : Option TyTree → TyTree
type_or_nat None = nat
type_or_nat (Some t) = t

-- what a function takes, what it gives, and what a part of a pair is
abbrev pub domain : TyTree → TyTree
domain nat = nat
domain (arrow a b) = a
domain (product a b) = nat

abbrev pub codomain : TyTree → TyTree
codomain nat = nat
codomain (arrow a b) = b
codomain (product a b) = nat

abbrev pub side_type : Side → TyTree → TyTree
side_type s nat = nat
side_type s (arrow a b) = nat
side_type s (product a b) = at_side s a b

-- Each form is built in one way: its operands' parts, one after another, and after them the form's end, which is the last wires and
-- nodes. An end is told the next wire, the depth, and its operands' parts, of which it asks what each gives: its value wire, its type,
-- its variables.

-- a part and then the rest, which gives what the whole gives
abbrev pub after : Part → Part → Part
after p e = record { wires = p.wires ++ e.wires; nodes = p.nodes ++ e.nodes; out = e.out; type = e.type; free = e.free }

-- one operand: the node that is made of its wire and the new value wire
abbrev pub unary_end : (ℕ → ℕ → Node) → TyTree → ℕ → ℕ → Part → Part
unary_end node t w d p = record { wires = value_wire d t ∷ []; nodes = node p.out w ∷ []; out = w; type = t; free = p.free }

-- two operands at one depth: contractions of their variables, and the node that is made of their wires and the new value wire
abbrev pub double_end : (ℕ → ℕ → ℕ → Node) → TyTree → ℕ → ℕ → List TyTree → Part → Part → Part
double_end node t m d g p q =
    let c = contract m d g p.free q.free in
    let w = m + length c.wires in
    record { wires = c.wires ++ value_wire d t ∷ []; nodes = c.nodes ++ node p.out q.out w ∷ []; out = w; type = t; free = c.free }

-- condition, then and else: the branches are contracted first, and then the condition with them
abbrev pub ifz_end : ℕ → ℕ → List TyTree → Part → Part → Part → Part
ifz_end m d g c p q =
    let i = contract m d g p.free q.free in
    let j = contract (m + length i.wires) d g c.free i.free in
    let w = m + length i.wires + length j.wires in
    record {
      wires = i.wires ++ (j.wires ++ value_wire d nat ∷ []);
      nodes = i.nodes ++ (j.nodes ++ Ifz c.out p.out q.out w ∷ []);
      out = w;
      type = nat;
      free = j.free;
    }

-- the body, in a context with the binder's type: the binder's wire, and the function
abbrev pub lam_end : ℕ → ℕ → TyTree → Part → Part
lam_end m d a p =
    let b = bound m d a p.free in
    let w = m + length b.wires in
    record {
      wires = b.wires ++ value_wire d (arrow a p.type) ∷ [];
      nodes = b.nodes ++ Lam p.out (bound_wire m p.free) w ∷ [];
      out = w;
      type = arrow a p.type;
      free = b.free;
    }

-- the body in a box: the binder's wire, inside, and doors by which its other variables leave
abbrev pub fix_end : ℕ → ℕ → List TyTree → TyTree → Part → Part
fix_end m d g a p =
    let b = bound m (suc d) a p.free in
    let e = doors (m + length b.wires) d g b.free in
    let w = m + length b.wires + length e.wires in
    record {
      wires = b.wires ++ (e.wires ++ value_wire d a ∷ []);
      nodes = b.nodes ++ (e.nodes ++ FixBox p.out (bound_wire m p.free) w ∷ []);
      out = w;
      type = a;
      free = e.free;
    }

-- the function, and the argument in a box: doors by which its variables leave, the box, and contractions with the function's
abbrev pub app_end : ℕ → ℕ → List TyTree → Part → Part → Part
app_end m d g p q =
    let e = doors m d g q.free in
    let b = m + length e.wires in
    let c = contract (suc b) d g p.free e.free in
    let w = suc b + length c.wires in
    record {
      wires = e.wires ++ (bang_wire d (domain p.type) ∷ (c.wires ++ value_wire d (codomain p.type) ∷ []));
      nodes = e.nodes ++ (BoxNode q.out b ∷ (c.nodes ++ App p.out b w ∷ []));
      out = w;
      type = codomain p.type;
      free = c.free;
    }

-- the forms: their operands, and their end (n is the next wire, d the depth, g the context)
abbrev pub unary_part : (ℕ → ℕ → Node) → TyTree → ℕ → ℕ → Part → Part
unary_part node t n d p = after p (unary_end node t (n + length p.wires) d p)

abbrev pub double_part : (ℕ → ℕ → ℕ → Node) → TyTree → ℕ → ℕ → List TyTree → Part → Part → Part
double_part node t n d g p q = after p (after q (double_end node t (n + length p.wires + length q.wires) d g p q))

abbrev pub ifz_part : ℕ → ℕ → List TyTree → Part → Part → Part → Part
ifz_part n d g c p q =
    let m = n + length c.wires + length p.wires + length q.wires in
    after c (after p (after q (ifz_end m d g c p q)))

abbrev pub lam_part : ℕ → ℕ → TyTree → Part → Part
lam_part n d a p = after p (lam_end (n + length p.wires) d a p)

abbrev pub fix_part : ℕ → ℕ → List TyTree → TyTree → Part → Part
fix_part n d g a p = after p (fix_end (n + length p.wires) d g a p)

abbrev pub app_part : ℕ → ℕ → List TyTree → Part → Part → Part
app_part n d g p q = after p (after q (app_end (n + length p.wires + length q.wires) d g p q))

-- the wires and nodes of a term, from a next wire number, at a depth, in a context
abbrev pub part : ℕ → ℕ → List TyTree → TermTree → Part
part n d g (num v) = record { wires = value_wire d nat ∷ []; nodes = Const v n ∷ []; out = n; type = nat; free = none_free g }
part n d g (var i) =
    let t = type_or_nat (slice_get g i) in
    record { wires = value_wire d t ∷ var_wire d t ∷ []; nodes = Der n (suc n) ∷ []; out = n; type = t; free = one_free g i (suc n) }
part n d g (succ_of a) = unary_part Succ nat n d (part n d g a)
part n d g (pred_of a) = unary_part Pred nat n d (part n d g a)
part n d g (binary o a b) = let p = part n d g a in double_part (Binary o) nat n d g p (part (n + length p.wires) d g b)
part n d g (ifz c p q) =
    let x = part n d g c in
    let y = part (n + length x.wires) d g p in
    ifz_part n d g x y (part (n + length x.wires + length y.wires) d g q)
part n d g (lam a m) = lam_part n d a (part n d (a ∷ g) m)
part n d g (fix a m) = fix_part n d g a (part n (suc d) (a ∷ g) m)
part n d g (app f x) = let p = part n d g f in app_part n d g p (part (n + length p.wires) (suc d) g x)
part n d g (pair a b) =
    let p = part n d g a in
    let q = part (n + length p.wires) d g b in
    double_part Pair (product p.type q.type) n d g p q
part n d g (proj s a) = let p = part n d g a in unary_part (Proj s) (side_type s p.type) n d p

-- the net of a closed term: its part at depth 0, and a Root on its value wire
abbrev pub net_of : TermTree → NetTree
net_of t = let p = part zero zero [] t in record { wires = p.wires; nodes = p.nodes ++ Root p.out ∷ [] }
