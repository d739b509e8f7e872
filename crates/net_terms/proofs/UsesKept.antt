-- The net of a term uses variables as the term does.
use Rattle.std.proofs.Common.{◌≡◌, ℕ, zero, suc, ◌+◌, List, [], ◌∷◌, ◌++◌, append-nil, length, Option, Some, None, refl, ap, ◌∙◌, subst}
use Rattle.pcf_values.specs.Terms.{TyTree, nat, product, TermTree, num, var, succ_of, pred_of, binary, ifz}
use Rattle.pcf_values.specs.Terms.{lam, fix, app, pair, proj}
use Rattle.net_build.specs.declared.node.Node.{Node}
use Rattle.net_build.specs.declared.node.Node.TheVariants.{Der, Root, Pair, Binary}
use Rattle.net_build.specs.Nets.{WireTree, NetTree}
use Rattle.net_build.specs.NetOf.{Part, contract, doors, bound, part, net_of, double_part, ifz_part, lam_part, fix_part, app_part}
use Rattle.net_terms.specs.TermOf.{type_at, type_in}
use Rattle.net_terms.specs.Uses.{used_types, using_types}
use Rattle.net_terms.proofs.Complete.{held_self}
use Rattle.net_terms.proofs.Steps.{Held, held_left, held_right}

module _ (ws : List WireTree) where
  -- two lists of nodes
  uses_append : (a b : List Node) → using_types ws (a ++ b) ≡ using_types ws a ++ using_types ws b
  uses_append [] b = refl
  uses_append (Der w x ∷ a) b = ap (λ t. type_at ws w ∷ t) (uses_append a b)
  uses_append (n ∷ a) b = uses_append a b

  -- contractions use no variable
  contract_unused : (n d : ℕ) (g : List TyTree) (f f' : List (Option ℕ)) → using_types ws (contract n d g f f').nodes ≡ []
  contract_unused n d [] f f' = refl
  contract_unused n d (a ∷ g) [] f' = refl
  contract_unused n d (a ∷ g) (o ∷ f) [] = refl
  contract_unused n d (a ∷ g) (None ∷ f) (o ∷ f') = contract_unused n d g f f'
  contract_unused n d (a ∷ g) (Some l ∷ f) (None ∷ f') = contract_unused n d g f f'
  contract_unused n d (a ∷ g) (Some l ∷ f) (Some r ∷ f') = contract_unused (suc n) d g f f'

  -- nor do doors
  doors_unused : (n d : ℕ) (g : List TyTree) (f : List (Option ℕ)) → using_types ws (doors n d g f).nodes ≡ []
  doors_unused n d [] f = refl
  doors_unused n d (a ∷ g) [] = refl
  doors_unused n d (a ∷ g) (None ∷ f) = doors_unused n d g f
  doors_unused n d (a ∷ g) (Some x ∷ f) = doors_unused (suc n) d g f

  -- nor does a binder
  bound_unused : (n d : ℕ) (a : TyTree) (f : List (Option ℕ)) → using_types ws (bound n d a f).nodes ≡ []
  bound_unused n d a [] = refl
  bound_unused n d a (None ∷ f) = refl
  bound_unused n d a (Some x ∷ f) = refl

  -- nodes without uses in front, and behind
  skip : (a b : List Node) → using_types ws a ≡ [] → using_types ws (a ++ b) ≡ using_types ws b
  skip a b e = uses_append a b ∙ ap (λ t. t ++ using_types ws b) e

  -- uses in front alone
  only : (a b : List Node) (u : List TyTree) → using_types ws a ≡ u → using_types ws b ≡ [] → using_types ws (a ++ b) ≡ u
  only a b u e h = uses_append a b ∙ (λ i. e i ++ h i) ∙ append-nil u

  -- uses in front and behind
  both : (a b : List Node) (u v : List TyTree) → using_types ws a ≡ u → using_types ws b ≡ v → using_types ws (a ++ b) ≡ u ++ v
  both a b u v e h = uses_append a b ∙ (λ i. e i ++ h i)

  -- two operands
  double_uses : (node : ℕ → ℕ → ℕ → Node) (t : TyTree) (n d : ℕ) (g : List TyTree) (p q : Part) (u v : List TyTree)
      → ((a b w : ℕ) → using_types ws (node a b w ∷ []) ≡ []) → using_types ws p.nodes ≡ u → using_types ws q.nodes ≡ v →
      using_types ws (double_part node t n d g p q).nodes ≡ u ++ v
  double_uses node t n d g p q u v h e f =
      let o = n + length p.wires + length q.wires in
      let c = contract o d g p.free q.free in
      both p.nodes _ u v e (only q.nodes _ v f (skip c.nodes _ (contract_unused o d g p.free q.free) ∙ h p.out q.out (o + length c.wires)))

  -- a condition with its branches
  ifz_uses : (n d : ℕ) (g : List TyTree) (x y z : Part) (u v s : List TyTree) → using_types ws x.nodes ≡ u → using_types ws y.nodes ≡ v
      → using_types ws z.nodes ≡ s → using_types ws (ifz_part n d g x y z).nodes ≡ u ++ (v ++ s)
  ifz_uses n d g x y z u v s e f h =
      let o = n + length x.wires + length y.wires + length z.wires in
      let b = contract o d g y.free z.free in
      let c = contract (o + length b.wires) d g x.free b.free in
      both x.nodes _ u (v ++ s) e
      (both y.nodes _ v s f
      (only z.nodes _ s h (skip b.nodes _ (contract_unused o d g y.free z.free)
      ∙ skip c.nodes _ (contract_unused (o + length b.wires) d g x.free b.free))))

  -- a function
  lam_uses : (n d : ℕ) (a : TyTree) (p : Part) (u : List TyTree) → using_types ws p.nodes ≡ u → using_types ws (lam_part n d a p).nodes ≡ u
  lam_uses n d a p u e = let o = n + length p.wires in only p.nodes _ u e (skip (bound o d a p.free).nodes _ (bound_unused o d a p.free))

  -- a recursive value
  fix_uses : (n d : ℕ) (g : List TyTree) (a : TyTree) (p : Part) (u : List TyTree) → using_types ws p.nodes ≡ u
      → using_types ws (fix_part n d g a p).nodes ≡ u
  fix_uses n d g a p u e =
      let o = n + length p.wires in
      let r = bound o (suc d) a p.free in
      only p.nodes _ u e (skip r.nodes _ (bound_unused o (suc d) a p.free)
      ∙ skip (doors (o + length r.wires) d g r.free).nodes _ (doors_unused (o + length r.wires) d g r.free))

  -- an application
  app_uses : (n d : ℕ) (g : List TyTree) (p q : Part) (u v : List TyTree) → using_types ws p.nodes ≡ u → using_types ws q.nodes ≡ v
      → using_types ws (app_part n d g p q).nodes ≡ u ++ v
  app_uses n d g p q u v e f =
      let o = n + length p.wires + length q.wires in
      let x = doors o d g q.free in
      let i = o + length x.wires in
      let b = contract (suc i) d g p.free x.free in
      both p.nodes _ u v e (only q.nodes _ v f
      (skip x.nodes _ (doors_unused o d g q.free) ∙ skip b.nodes _ (contract_unused (suc i) d g p.free x.free)))

  -- Each part uses variables as its term does.
  part_uses : (m : TermTree) (n d : ℕ) (g : List TyTree) → Held ws n (part n d g m).wires
      → using_types ws (part n d g m).nodes ≡ used_types g m
  part_uses (num v) n d g h = refl
  part_uses (var i) n d g h = ap (λ o. type_in o ∷ []) h.0
  part_uses (succ_of m) n d g h = let p =
      part n d g m in only p.nodes _ (used_types g m) (part_uses m n d g (held_left ws n p.wires _ h)) refl
  part_uses (pred_of m) n d g h = let p =
      part n d g m in only p.nodes _ (used_types g m) (part_uses m n d g (held_left ws n p.wires _ h)) refl
  part_uses (proj s m) n d g h = let p =
      part n d g m in only p.nodes _ (used_types g m) (part_uses m n d g (held_left ws n p.wires _ h)) refl
  part_uses (binary o m l) n d g h =
      let p = part n d g m in
      let k = n + length p.wires in
      let q = part k d g l in
      double_uses (Binary o) nat n d g p q (used_types g m) (used_types g l) (λ a b w. refl)
      (part_uses m n d g (held_left ws n p.wires _ h)) (part_uses l k d g (held_left ws k q.wires _ (held_right ws n p.wires _ h)))
  part_uses (pair m l) n d g h =
      let p = part n d g m in
      let k = n + length p.wires in
      let q = part k d g l in
      double_uses Pair (product p.type q.type) n d g p q (used_types g m) (used_types g l) (λ a b w. refl)
      (part_uses m n d g (held_left ws n p.wires _ h)) (part_uses l k d g (held_left ws k q.wires _ (held_right ws n p.wires _ h)))
  part_uses (ifz i m l) n d g h =
      let x = part n d g i in
      let k = n + length x.wires in
      let y = part k d g m in
      let j = k + length y.wires in
      let z = part j d g l in
      let r = held_right ws n x.wires _ h in
      ifz_uses n d g x y z (used_types g i) (used_types g m) (used_types g l) (part_uses i n d g (held_left ws n x.wires _ h))
      (part_uses m k d g (held_left ws k y.wires _ r)) (part_uses l j d g (held_left ws j z.wires _ (held_right ws k y.wires _ r)))
  part_uses (lam a m) n d g h = let p =
      part n d (a ∷ g) m in lam_uses n d a p (used_types (a ∷ g) m) (part_uses m n d (a ∷ g) (held_left ws n p.wires _ h))
  part_uses (fix a m) n d g h = let p =
      part n (suc d) (a ∷ g) m in fix_uses n d g a p (used_types (a ∷ g) m) (part_uses m n (suc d) (a ∷ g) (held_left ws n p.wires _ h))
  part_uses (app m l) n d g h =
      let p = part n d g m in
      let k = n + length p.wires in
      let q = part k (suc d) g l in
      app_uses n d g p q (used_types g m) (used_types g l) (part_uses m n d g (held_left ws n p.wires _ h))
      (part_uses l k (suc d) g (held_left ws k q.wires _ (held_right ws n p.wires _ h)))

-- The net of a term uses variables as the term does.
pub net_uses : (m : TermTree) → using_types (net_of m).wires (net_of m).nodes ≡ used_types [] m
net_uses m =
    let p = part zero zero [] m in
    only p.wires p.nodes (Root p.out ∷ []) (used_types [] m) (part_uses p.wires m zero zero [] (held_self p.wires)) refl

-- the same of a net that is the term's
pub uses_of : (net : NetTree) (m : TermTree) → net_of m ≡ net → using_types net.wires net.nodes ≡ used_types [] m
uses_of net m e = subst (λ (net : NetTree). using_types net.wires net.nodes ≡ used_types [] m) e (net_uses m)
