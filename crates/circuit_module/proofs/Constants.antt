-- The constants of a program's net are numbers of 64 bits: the program's type says so.
use Rattle.std.proofs.Common.{◌≡◌, ℕ, suc, ◌+◌, ◌<◌, ◌^◌, List, [], ◌∷◌, ◌++◌, length, Option, Some, None, subst, ⊎_elim, inl, inr}
use Rattle.pcf_values.specs.Terms.{TyTree, nat, arrow, product, TermTree, num, var, succ_of, pred_of, binary, ifz, lam, fix, app, pair}
use Rattle.pcf_values.specs.Terms.{proj}
use Rattle.pcf_values.specs.Typing.{HasType}
use Rattle.net_build.specs.declared.node.Node.{Node}
use Rattle.net_build.specs.declared.node.Node.TheVariants.{Const, Succ, Pred, Ifz, Der, Con, Weak, Lam, App, BoxNode, Door, FixBox, Root}
use Rattle.net_build.specs.declared.node.Node.TheVariants.{Pair}
use Rattle.net_build.specs.declared.node.Node.TheVariants.{Binary, Proj}
use Rattle.net_build.specs.NetOf.{Part, after, contract, doors, bound, bound_wire, double_end, ifz_end, lam_end, fix_end, app_end, part}
use Rattle.net_build.specs.NetOf.{net_of}
use Rattle.net_build.specs.Sound.{In}
use Rattle.circuit_module.specs.Stands.{SmallConstants}

record Low (ns : List Node) : Type 0 where
  each : (v w : ℕ) → In (Const v w) ns → v < 2 ^ 64

low_rest : (x : Node) (ns : List Node) → Low (x ∷ ns) → Low ns
low_rest x ns low = record { each = λ v w i. low.each v w (inr i) }

low_append : (a b : List Node) → Low a → Low b → Low (a ++ b)
low_append [] b la lb = lb
low_append (x ∷ a) b la lb =
    record { each = λ v w i. ⊎_elim (λ e. la.each v w (inl e)) ((low_append a b (low_rest x a la) lb).each v w) i }

-- not a constant
abbrev Other : Node → Type 0
Other x = (v w : ℕ) → Const v w ≡ x → ⊥

low_cons : (x : Node) (ns : List Node) → Other x → Low ns → Low (x ∷ ns)
low_cons x ns h l = record { each = λ v w i. ⊎_elim (λ e. absurd (h v w e)) (l.each v w) i }

low_none : Low []
low_none = record { each = λ v w i. absurd i }

low_one : (x : Node) → Other x → Low (x ∷ [])
low_one x h = low_cons x [] h low_none

-- the parts without constants
low_contract : (n d : ℕ) (g : List TyTree) (f h : List (Option ℕ)) → Low (contract n d g f h).nodes
low_contract n d [] f h = low_none
low_contract n d (t ∷ ts) [] h = low_none
low_contract n d (t ∷ ts) (o ∷ f) [] = low_none
low_contract n d (t ∷ ts) (None ∷ f) (o ∷ h) = low_contract n d ts f h
low_contract n d (t ∷ ts) (Some l ∷ f) (None ∷ h) = low_contract n d ts f h
low_contract n d (t ∷ ts) (Some l ∷ f) (Some r ∷ h) =
    low_cons (Con l r n) (contract (suc n) d ts f h).nodes (λ v w e. cc) (low_contract (suc n) d ts f h)

low_doors : (n d : ℕ) (g : List TyTree) (f : List (Option ℕ)) → Low (doors n d g f).nodes
low_doors n d [] f = low_none
low_doors n d (t ∷ ts) [] = low_none
low_doors n d (t ∷ ts) (None ∷ f) = low_doors n d ts f
low_doors n d (t ∷ ts) (Some x ∷ f) = low_cons (Door x n) (doors (suc n) d ts f).nodes (λ v w e. cc) (low_doors (suc n) d ts f)

low_bound : (n d : ℕ) (t : TyTree) (f : List (Option ℕ)) → Low (bound n d t f).nodes
low_bound n d t [] = low_one (Weak n) (λ v w e. cc)
low_bound n d t (None ∷ f) = low_one (Weak n) (λ v w e. cc)
low_bound n d t (Some x ∷ f) = low_none

-- the ends of the forms
low_double : (node : ℕ → ℕ → ℕ → Node) → ((a b c : ℕ) → Other (node a b c)) → (t : TyTree) (m d : ℕ) (g : List TyTree) (p q : Part) →
    Low (double_end node t m d g p q).nodes
low_double node h t m d g p q =
    let c = contract m d g p.free q.free in
    low_append c.nodes (node p.out q.out (m + length c.wires) ∷ []) (low_contract m d g p.free q.free)
    (low_one (node p.out q.out (m + length c.wires)) (h p.out q.out (m + length c.wires)))

low_ifz : (m d : ℕ) (g : List TyTree) (c p q : Part) → Low (ifz_end m d g c p q).nodes
low_ifz m d g c p q =
    let i = contract m d g p.free q.free in
    let j = contract (m + length i.wires) d g c.free i.free in
    let x = Ifz c.out p.out q.out (m + length i.wires + length j.wires) in
    low_append i.nodes (j.nodes ++ x ∷ []) (low_contract m d g p.free q.free)
    (low_append j.nodes (x ∷ []) (low_contract (m + length i.wires) d g c.free i.free) (low_one x (λ v w e. cc)))

low_lam : (m d : ℕ) (a : TyTree) (p : Part) → Low (lam_end m d a p).nodes
low_lam m d a p =
    let b = bound m d a p.free in
    let x = Lam p.out (bound_wire m p.free) (m + length b.wires) in
    low_append b.nodes (x ∷ []) (low_bound m d a p.free) (low_one x (λ v w e. cc))

low_fix : (m d : ℕ) (g : List TyTree) (a : TyTree) (p : Part) → Low (fix_end m d g a p).nodes
low_fix m d g a p =
    let b = bound m (suc d) a p.free in
    let e = doors (m + length b.wires) d g b.free in
    let x = FixBox p.out (bound_wire m p.free) (m + length b.wires + length e.wires) in
    low_append b.nodes (e.nodes ++ x ∷ []) (low_bound m (suc d) a p.free)
    (low_append e.nodes (x ∷ []) (low_doors (m + length b.wires) d g b.free) (low_one x (λ v w e. cc)))

low_app : (m d : ℕ) (g : List TyTree) (p q : Part) → Low (app_end m d g p q).nodes
low_app m d g p q =
    let e = doors m d g q.free in
    let b = m + length e.wires in
    let c = contract (suc b) d g p.free e.free in
    let x = App p.out b (suc b + length c.wires) in
    low_append e.nodes (BoxNode q.out b ∷ (c.nodes ++ x ∷ [])) (low_doors m d g q.free)
    (low_cons (BoxNode q.out b) (c.nodes ++ x ∷ []) (λ v w e. cc)
    (low_append c.nodes (x ∷ []) (low_contract (suc b) d g p.free e.free) (low_one x (λ v w e. cc))))

low_after : (p e : Part) → Low p.nodes → Low e.nodes → Low (after p e).nodes
low_after p e l h = low_append p.nodes e.nodes l h

-- a term of a type: its operands' parts, and its end
low_part : (m : TermTree) (g : List TyTree) (t : TyTree) → HasType g m t → (n d : ℕ) → Low (part n d g m).nodes
low_part (num x) g t h n d =
    record { each = λ v w i. ⊎_elim (λ e. let z : x ≡ v = cc in subst (λ v. v < 2 ^ 64) z h.0) (λ k. absurd k) i }
low_part (var i) g t h n d = low_one (Der n (suc n)) (λ v w e. cc)
low_part (succ_of a) g t h n d =
    let p = part n d g a in
    let x = Succ p.out (n + length p.wires) in
    low_append p.nodes (x ∷ []) (low_part a g nat h.0 n d) (low_one x (λ v w e. cc))
low_part (pred_of a) g t h n d =
    let p = part n d g a in
    let x = Pred p.out (n + length p.wires) in
    low_append p.nodes (x ∷ []) (low_part a g nat h.0 n d) (low_one x (λ v w e. cc))
low_part (binary o a b) g t h n d =
    let p = part n d g a in
    let m = n + length p.wires in
    let q = part m d g b in
    let e = double_end (Binary o) nat (m + length q.wires) d g p q in
    low_after p (after q e) (low_part a g nat h.0 n d)
    (low_after q e (low_part b g nat h.1 m d) (low_double (Binary o) (λ a b c v w e. cc) nat (m + length q.wires) d g p q))
low_part (ifz c a b) g t h n d =
    let x = part n d g c in
    let y = part (n + length x.wires) d g a in
    let z = part (n + length x.wires + length y.wires) d g b in
    let m = n + length x.wires + length y.wires + length z.wires in
    let e = ifz_end m d g x y z in
    low_after x (after y (after z e)) (low_part c g nat h.0 n d)
    (low_after y (after z e) (low_part a g nat h.1 (n + length x.wires) d)
    (low_after z e (low_part b g nat h.2 (n + length x.wires + length y.wires) d) (low_ifz m d g x y z)))
low_part (lam a m) g t h n d =
    let p = part n d (a ∷ g) m in
    low_after p (lam_end (n + length p.wires) d a p) (low_part m (a ∷ g) h.0 h.1 n d) (low_lam (n + length p.wires) d a p)
low_part (fix a m) g t h n d =
    let p = part n (suc d) (a ∷ g) m in
    low_after p (fix_end (n + length p.wires) d g a p) (low_part m (a ∷ g) a h.0 n (suc d)) (low_fix (n + length p.wires) d g a p)
low_part (app f x) g t h n d =
    let p = part n d g f in
    let m = n + length p.wires in
    let q = part m (suc d) g x in
    let e = app_end (m + length q.wires) d g p q in
    low_after p (after q e) (low_part f g (arrow h.0 t) h.1 n d)
    (low_after q e (low_part x g h.0 h.2 m (suc d)) (low_app (m + length q.wires) d g p q))
low_part (pair a b) g t h n d =
    let p = part n d g a in
    let m = n + length p.wires in
    let q = part m d g b in
    let e = double_end Pair (product p.type q.type) (m + length q.wires) d g p q in
    low_after p (after q e) (low_part a g h.0 h.2 n d)
    (low_after q e (low_part b g h.1 h.3 m d)
    (low_double Pair (λ a b c v w e. cc) (product p.type q.type) (m + length q.wires) d g p q))
low_part (proj s a) g t h n d =
    let p = part n d g a in
    let x = Proj s p.out (n + length p.wires) in
    low_append p.nodes (x ∷ []) (low_part a g (product h.0 h.1) h.2 n d) (low_one x (λ v w e. cc))

-- so a program's net has constants of 64 bits
pub small_constants : (m : TermTree) → HasType [] m nat → SmallConstants (net_of m)
small_constants m h v w i =
    let p = part 0 0 [] m in
    let l = low_append p.nodes (Root p.out ∷ []) (low_part m [] nat h 0 0) (low_one (Root p.out) (λ v w e. cc)) in
    l.each v w i
