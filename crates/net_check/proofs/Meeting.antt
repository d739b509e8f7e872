-- A node meets its row where it meets both halves of it, and only there.
use Rattle.std.proofs.Common.{◌≡◌, ℕ, suc, Option, Some, None, Bool, true, false, refl, sym, ap, ◌∙◌}
use Rattle.std.specs.Prelude.{slice_get, if◌then◌else◌}
use Rattle.std.proofs.lemmas.Option.{same_Some}
use Rattle.pcf_values.specs.Terms.{TyTree, nat, arrow, product, at_side}
use Rattle.net_build.specs.declared.wire.WireKind.{WireKind}
use Rattle.net_build.specs.declared.wire.WireKind.TheVariants.{Value, Bang, Variable}
use Rattle.net_build.specs.declared.node.Node.{Node}
use Rattle.net_build.specs.declared.node.Node.TheVariants.{Const, Succ, Pred, Ifz, Der, Con, Weak, Lam, App, BoxNode, Binary, Proj}
use Rattle.net_build.specs.declared.node.Node.TheVariants.{Door, FixBox, Root, Pair}
use Rattle.net_build.specs.Nets.{WireTree, NetTree, value_wire, bang_wire, var_wire}
use Rattle.net_build.specs.Sound.{Is, Meets}
use Rattle.net_check.specs.Rows.{same_kind, type_if, depth_in, value_type, bang_type, variable_type, Deep, IsThere, AreOne, IsArrow}
use Rattle.net_check.specs.Rows.{IsProduct, IsPart, TypesMeet, DepthsMeet}
use Rattle.pcf_values.specs.declared.side.Side.{Side}
use Rattle.pcf_values.specs.declared.side.Side.TheVariants.{Left, Right}

same_kind_is : (k l : WireKind) → same_kind k l ≡ true → k ≡ l
same_kind_is Value Value e = refl
same_kind_is Value Bang e = cc
same_kind_is Value Variable e = cc
same_kind_is Bang Value e = cc
same_kind_is Bang Bang e = refl
same_kind_is Bang Variable e = cc
same_kind_is Variable Value e = cc
same_kind_is Variable Bang e = cc
same_kind_is Variable Variable e = refl

same_kind_self : (k : WireKind) → same_kind k k ≡ true
same_kind_self Value = refl
same_kind_self Bang = refl
same_kind_self Variable = refl

-- a wire whose type is found under its kind, and whose depth is known, is that wire
wire_is : (o : Option WireTree) (k : WireKind) (t : TyTree) (d : ℕ) → type_if k o ≡ Some t → depth_in o ≡ Some d
    → o ≡ Some (record { kind = k; depth = d; type = t })
wire_is None k t d h i = cc
wire_is (Some w) k t d h i = go (same_kind w.kind k) refl h
  where
    go : (b : Bool) → same_kind w.kind k ≡ b → (if b then Some w.type else None) ≡ Some t
        → Some w ≡ Some (record { kind = k; depth = d; type = t })
    go false e h = cc
    go true e h =
        let ek = same_kind_is w.kind k e in
        let et = same_Some w.type t h in
        let ed = same_Some w.depth d i in
        λ j. Some (record { kind = ek j; depth = ed j; type = et j })

type_from : (o : Option WireTree) (k : WireKind) (t : TyTree) (d : ℕ) → o ≡ Some (record { kind = k; depth = d; type = t })
    → type_if k o ≡ Some t
type_from o k t d e = rw (e, same_kind_self k) refl

depth_from : (o : Option WireTree) (k : WireKind) (t : TyTree) (d : ℕ) → o ≡ Some (record { kind = k; depth = d; type = t })
    → depth_in o ≡ Some d
depth_from o k t d e = rw e refl

-- the shapes, with the types that they name
there_has : (a : Option TyTree) → IsThere a → (t : TyTree) × (a ≡ Some t)
there_has None h = elim h [ ]
there_has (Some a) h = (a, refl)

there_from : (a : Option TyTree) (t : TyTree) → a ≡ Some t → IsThere a
there_from a t e = rw e tt

one_has : (a b : Option TyTree) → AreOne a b → (t : TyTree) × (a ≡ Some t) × (b ≡ Some t)
one_has None b h = elim h [ ]
one_has (Some a) None h = elim h [ ]
one_has (Some a) (Some b) h = (a, refl, ap Some (sym h))

one_from : (a b : Option TyTree) (t : TyTree) → a ≡ Some t → b ≡ Some t → AreOne a b
one_from a b t e f = rw (e, f) refl

arrow_has : (f a b : Option TyTree) → IsArrow f a b → (s : TyTree) × (t : TyTree) × (f ≡ Some (arrow s t)) × (a ≡ Some s) × (b ≡ Some t)
arrow_has None a b h = elim h [ ]
arrow_has (Some nat) a b h = elim h [ ]
arrow_has (Some (product s t)) a b h = elim h [ ]
arrow_has (Some (arrow s t)) None b h = elim h [ ]
arrow_has (Some (arrow s t)) (Some a) None h = elim h [ ]
arrow_has (Some (arrow s t)) (Some a) (Some b) h = (s, t, refl, ap Some (sym h.0), ap Some (sym h.1))

arrow_from : (f a b : Option TyTree) (s t : TyTree) → f ≡ Some (arrow s t) → a ≡ Some s → b ≡ Some t → IsArrow f a b
arrow_from f a b s t e g h = rw (e, g, h) (refl, refl)

product_has : (f a b : Option TyTree) → IsProduct f a b
    → (s : TyTree) × (t : TyTree) × (f ≡ Some (product s t)) × (a ≡ Some s) × (b ≡ Some t)
product_has None a b h = elim h [ ]
product_has (Some nat) a b h = elim h [ ]
product_has (Some (arrow s t)) a b h = elim h [ ]
product_has (Some (product s t)) None b h = elim h [ ]
product_has (Some (product s t)) (Some a) None h = elim h [ ]
product_has (Some (product s t)) (Some a) (Some b) h = (s, t, refl, ap Some (sym h.0), ap Some (sym h.1))

product_from : (f a b : Option TyTree) (s t : TyTree) → f ≡ Some (product s t) → a ≡ Some s → b ≡ Some t → IsProduct f a b
product_from f a b s t e g h = rw (e, g, h) (refl, refl)

part_has : (side : Side) (f a : Option TyTree) → IsPart side f a
    → (s : TyTree) × (t : TyTree) × (f ≡ Some (product s t)) × (a ≡ Some (at_side side s t))
part_has side None a h = elim h [ ]
part_has side (Some nat) a h = elim h [ ]
part_has side (Some (arrow s t)) a h = elim h [ ]
part_has side (Some (product s t)) None h = elim h [ ]
part_has side (Some (product s t)) (Some a) h = (s, t, refl, ap Some (sym h))

part_from : (side : Side) (f a : Option TyTree) (s t : TyTree) → f ≡ Some (product s t) → a ≡ Some (at_side side s t) → IsPart side f a
part_from side f a s t e g = rw (e, g) refl

module _ (net : NetTree) where
  v : (n : ℕ) (t : TyTree) (d : ℕ) → value_type net n ≡ Some t → Deep net n d → Is net n (value_wire d t)
  v n t d h i = wire_is (slice_get net.wires n) Value t d h i

  b : (n : ℕ) (t : TyTree) (d : ℕ) → bang_type net n ≡ Some t → Deep net n d → Is net n (bang_wire d t)
  b n t d h i = wire_is (slice_get net.wires n) Bang t d h i

  x : (n : ℕ) (t : TyTree) (d : ℕ) → variable_type net n ≡ Some t → Deep net n d → Is net n (var_wire d t)
  x n t d h i = wire_is (slice_get net.wires n) Variable t d h i

  pub meets_both : (n : Node) → TypesMeet net n → DepthsMeet net n → Meets net n
  meets_both (Const c w) h i = (i.0, v w nat i.0 h i.1)
  meets_both (Succ a w) h i = (i.0, v a nat i.0 h.0 i.1, v w nat i.0 h.1 i.2)
  meets_both (Pred a w) h i = (i.0, v a nat i.0 h.0 i.1, v w nat i.0 h.1 i.2)
  meets_both (Binary o a c w) h i = (i.0, v a nat i.0 h.0 i.1, v c nat i.0 h.1 i.2, v w nat i.0 h.2 i.3)
  meets_both (Ifz c p q w) h i = (i.0, v c nat i.0 h.0 i.1, v p nat i.0 h.1 i.2, v q nat i.0 h.2 i.3, v w nat i.0 h.3 i.4)
  meets_both (Der w y) h i = let (t, e, f) =
      one_has (value_type net w) (variable_type net y) h in (i.0, t, v w t i.0 e i.1, x y t i.0 f i.2)
  meets_both (Con l r w) h i =
      let (t, e, f) = one_has (variable_type net l) (variable_type net r) h.0 in
      let (u, g, k) = one_has (variable_type net l) (variable_type net w) h.1 in
      let q : u ≡ t = same_Some u t (sym g ∙ e) in
      (i.0, t, x l t i.0 e i.1, x r t i.0 f i.2, x w t i.0 (k ∙ ap Some q) i.3)
  meets_both (Weak y) h i = let (t, e) = there_has (variable_type net y) h in (i.0, t, x y t i.0 e i.1)
  meets_both (Lam c y w) h i = let (s, t, e, f, g) =
      arrow_has (value_type net w) (variable_type net y) (value_type net c) h in
      (i.0, s, t, v c t i.0 g i.1, x y s i.0 f i.2, v w (arrow s t) i.0 e i.3)
  meets_both (App f a w) h i = let (s, t, e, g, k) =
      arrow_has (value_type net f) (bang_type net a) (value_type net w) h in
      (i.0, s, t, v f (arrow s t) i.0 e i.1, b a s i.0 g i.2, v w t i.0 k i.3)
  meets_both (BoxNode n o) h i = let (t, e, f) =
      one_has (value_type net n) (bang_type net o) h in (i.0, t, v n t (suc i.0) e i.1, b o t i.0 f i.2)
  meets_both (Door n o) h i = let (t, e, f) =
      one_has (variable_type net n) (variable_type net o) h in (i.0, t, x n t (suc i.0) e i.1, x o t i.0 f i.2)
  meets_both (FixBox c y w) h i =
      let (t, e, f) = one_has (value_type net c) (variable_type net y) h.0 in
      let (u, g, k) = one_has (value_type net c) (value_type net w) h.1 in
      let q : u ≡ t = same_Some u t (sym g ∙ e) in
      (i.0, t, v c t (suc i.0) e i.1, x y t (suc i.0) f i.2, v w t i.0 (k ∙ ap Some q) i.3)
  meets_both (Root w) h i = v w nat 0 h i
  meets_both (Pair a c w) h i = let (s, t, e, f, g) =
      product_has (value_type net w) (value_type net a) (value_type net c) h in
      (i.0, s, t, v a s i.0 f i.1, v c t i.0 g i.2, v w (product s t) i.0 e i.3)
  meets_both (Proj Left a w) h i = let (s, t, e, f) =
      part_has Left (value_type net a) (value_type net w) h in (i.0, s, t, v a (product s t) i.0 e i.1, v w s i.0 f i.2)
  meets_both (Proj Right a w) h i = let (s, t, e, f) =
      part_has Right (value_type net a) (value_type net w) h in (i.0, s, t, v a (product s t) i.0 e i.1, v w t i.0 f i.2)

  vt : (n : ℕ) (t : TyTree) (d : ℕ) → Is net n (value_wire d t) → value_type net n ≡ Some t
  vt n t d h = type_from (slice_get net.wires n) Value t d h

  bt : (n : ℕ) (t : TyTree) (d : ℕ) → Is net n (bang_wire d t) → bang_type net n ≡ Some t
  bt n t d h = type_from (slice_get net.wires n) Bang t d h

  xt : (n : ℕ) (t : TyTree) (d : ℕ) → Is net n (var_wire d t) → variable_type net n ≡ Some t
  xt n t d h = type_from (slice_get net.wires n) Variable t d h

  pub meets_types : (n : Node) → Meets net n → TypesMeet net n
  meets_types (Const c w) h = vt w nat h.0 h.1
  meets_types (Succ a w) h = (vt a nat h.0 h.1, vt w nat h.0 h.2)
  meets_types (Pred a w) h = (vt a nat h.0 h.1, vt w nat h.0 h.2)
  meets_types (Binary o a c w) h = (vt a nat h.0 h.1, vt c nat h.0 h.2, vt w nat h.0 h.3)
  meets_types (Ifz c p q w) h = (vt c nat h.0 h.1, vt p nat h.0 h.2, vt q nat h.0 h.3, vt w nat h.0 h.4)
  meets_types (Der w y) h = one_from _ _ h.1 (vt w h.1 h.0 h.2) (xt y h.1 h.0 h.3)
  meets_types (Con l r w) h =
      (one_from _ _ h.1 (xt l h.1 h.0 h.2) (xt r h.1 h.0 h.3), one_from _ _ h.1 (xt l h.1 h.0 h.2) (xt w h.1 h.0 h.4))
  meets_types (Weak y) h = there_from _ h.1 (xt y h.1 h.0 h.2)
  meets_types (Lam c y w) h = arrow_from _ _ _ h.1 h.2 (vt w (arrow h.1 h.2) h.0 h.5) (xt y h.1 h.0 h.4) (vt c h.2 h.0 h.3)
  meets_types (App f a w) h = arrow_from _ _ _ h.1 h.2 (vt f (arrow h.1 h.2) h.0 h.3) (bt a h.1 h.0 h.4) (vt w h.2 h.0 h.5)
  meets_types (BoxNode n o) h = one_from _ _ h.1 (vt n h.1 (suc h.0) h.2) (bt o h.1 h.0 h.3)
  meets_types (Door n o) h = one_from _ _ h.1 (xt n h.1 (suc h.0) h.2) (xt o h.1 h.0 h.3)
  meets_types (FixBox c y w) h =
      (one_from _ _ h.1 (vt c h.1 (suc h.0) h.2) (xt y h.1 (suc h.0) h.3), one_from _ _ h.1 (vt c h.1 (suc h.0) h.2) (vt w h.1 h.0 h.4))
  meets_types (Root w) h = vt w nat 0 h
  meets_types (Pair a c w) h = product_from _ _ _ h.1 h.2 (vt w (product h.1 h.2) h.0 h.5) (vt a h.1 h.0 h.3) (vt c h.2 h.0 h.4)
  meets_types (Proj Left a w) h = part_from Left _ _ h.1 h.2 (vt a (product h.1 h.2) h.0 h.3) (vt w h.1 h.0 h.4)
  meets_types (Proj Right a w) h = part_from Right _ _ h.1 h.2 (vt a (product h.1 h.2) h.0 h.3) (vt w h.2 h.0 h.4)

  dp : (n : ℕ) (k : WireKind) (t : TyTree) (d : ℕ) → Is net n (record { kind = k; depth = d; type = t }) → Deep net n d
  dp n k t d h = depth_from (slice_get net.wires n) k t d h

  pub meets_depths : (n : Node) → Meets net n → DepthsMeet net n
  meets_depths (Const c w) h = (h.0, dp w Value nat h.0 h.1)
  meets_depths (Succ a w) h = (h.0, dp a Value nat h.0 h.1, dp w Value nat h.0 h.2)
  meets_depths (Pred a w) h = (h.0, dp a Value nat h.0 h.1, dp w Value nat h.0 h.2)
  meets_depths (Binary o a c w) h = (h.0, dp a Value nat h.0 h.1, dp c Value nat h.0 h.2, dp w Value nat h.0 h.3)
  meets_depths (Ifz c p q w) h = (h.0, dp c Value nat h.0 h.1, dp p Value nat h.0 h.2, dp q Value nat h.0 h.3, dp w Value nat h.0 h.4)
  meets_depths (Der w y) h = (h.0, dp w Value h.1 h.0 h.2, dp y Variable h.1 h.0 h.3)
  meets_depths (Con l r w) h = (h.0, dp l Variable h.1 h.0 h.2, dp r Variable h.1 h.0 h.3, dp w Variable h.1 h.0 h.4)
  meets_depths (Weak y) h = (h.0, dp y Variable h.1 h.0 h.2)
  meets_depths (Lam c y w) h = (h.0, dp c Value h.2 h.0 h.3, dp y Variable h.1 h.0 h.4, dp w Value (arrow h.1 h.2) h.0 h.5)
  meets_depths (App f a w) h = (h.0, dp f Value (arrow h.1 h.2) h.0 h.3, dp a Bang h.1 h.0 h.4, dp w Value h.2 h.0 h.5)
  meets_depths (BoxNode n o) h = (h.0, dp n Value h.1 (suc h.0) h.2, dp o Bang h.1 h.0 h.3)
  meets_depths (Door n o) h = (h.0, dp n Variable h.1 (suc h.0) h.2, dp o Variable h.1 h.0 h.3)
  meets_depths (FixBox c y w) h = (h.0, dp c Value h.1 (suc h.0) h.2, dp y Variable h.1 (suc h.0) h.3, dp w Value h.1 h.0 h.4)
  meets_depths (Root w) h = dp w Value nat 0 h
  meets_depths (Pair a c w) h = (h.0, dp a Value h.1 h.0 h.3, dp c Value h.2 h.0 h.4, dp w Value (product h.1 h.2) h.0 h.5)
  meets_depths (Proj Left a w) h = (h.0, dp a Value (product h.1 h.2) h.0 h.3, dp w Value h.1 h.0 h.4)
  meets_depths (Proj Right a w) h = (h.0, dp a Value (product h.1 h.2) h.0 h.3, dp w Value h.2 h.0 h.4)
