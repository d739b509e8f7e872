-- The net of a typed closed term is sound.
use Rattle.std.proofs.Common.{◌≡◌, ◌⊎◌, ℕ, zero, suc, ◌+◌, ◌<◌, ◌≤◌, List, [], ◌∷◌, ◌++◌, length, length-append, append_assoc, Option, Some}
use Rattle.std.proofs.Common.{None, refl, sym, ap, ◌∙◌, subst, ⊎_elim, inl, inr, arith}
use Rattle.std.proofs.lemmas.Bool.{cases_eq, eq-eqb, ne_eqb}
use Rattle.std.specs.Prelude.{slice_get}
use Rattle.pcf_values.specs.declared.operator.Operator.{Operator}
use Rattle.pcf_values.specs.Terms.{at_side, TyTree, nat, arrow, product, TermTree, num, var, succ_of, pred_of}
use Rattle.pcf_values.specs.declared.side.Side.{Side}
use Rattle.pcf_values.specs.declared.side.Side.TheVariants.{Left, Right}
use Rattle.pcf_values.specs.Terms.{binary, ifz, lam, fix, app, pair, proj}
use Rattle.pcf_values.specs.Typing.{HasType}
use Rattle.net_build.specs.declared.node.Node.{Node}
use Rattle.net_build.specs.declared.node.Node.TheVariants.{Const, Succ, Pred, Ifz, Der, Con, Weak, Lam, App, BoxNode, Door, FixBox, Root}
use Rattle.net_build.specs.declared.node.Node.TheVariants.{Binary, Proj}
use Rattle.net_build.specs.declared.node.Node.TheVariants.{Pair}
use Rattle.net_build.specs.Nets.{NetTree, premises, conclusions, WireTree, value_wire, var_wire, bang_wire}
use Rattle.net_build.specs.NetOf.{Part, contract, doors, bound, bound_wire, none_free, one_free, part, type_or_nat, net_of, domain}
use Rattle.net_build.specs.NetOf.{codomain, side_type, unary_part, double_part, ifz_part, lam_part, fix_part, app_part}
use Rattle.net_build.specs.Sound.{roots, Is, Meets, In, Sound}
use Rattle.net_build.proofs.Count.{made, named_append, counted, ends, Aligned, aligned}

-- a node of two lists is one of either
in_parts : (x : Node) (a b : List Node) → In x (a ++ b) → In x a ⊎ In x b
in_parts x [] b h = inr h
in_parts x (n ∷ a) b (inl e) = inl (inl e)
in_parts x (n ∷ a) b (inr h) = ⊎_elim (λ p. inl (inr p)) (λ p. inr p) (in_parts x a b h)

-- Each node of a part meets its row in a net that has the part's wires where they are numbered: a lemma a form, and an
-- induction on the term.
module _ (net : NetTree) where
  record MeetAll (ns : List Node) : Type 0 where
    each : (x : Node) → In x ns → Meets net x

  -- rows that are met, list by list
  meet_none : MeetAll []
  meet_none = record { each = λ x h. elim h [ ] }

  meet_cons : (n : Node) (ns : List Node) → Meets net n → MeetAll ns → MeetAll (n ∷ ns)
  meet_cons n ns h m = record { each = λ x. elim [ inl e ↦ subst (Meets net) (sym e) h | inr i ↦ m.each x i ] }

  meet_append : (a b : List Node) → MeetAll a → MeetAll b → MeetAll (a ++ b)
  meet_append a b h g = record { each = λ x i. ⊎_elim (h.each x) (g.each x) (in_parts x a b i) }

  meet_one : (n : Node) → Meets net n → MeetAll (n ∷ [])
  meet_one n h = meet_cons n [] h meet_none

  -- these wires stand in the net from n on
  abbrev Has : ℕ → List WireTree → Type 0
  Has n [] = Unit {0}
  Has n (k ∷ ks) = Is net n k × Has (suc n) ks

  -- the wires of the first of two lists stand there, and those of the second behind them
  has_left : (n : ℕ) (a b : List WireTree) → Has n (a ++ b) → Has n a
  has_left n [] b h = tt
  has_left n (k ∷ a) b h = (h.0, has_left (suc n) a b h.1)

  has_right : (n : ℕ) (a b : List WireTree) → Has n (a ++ b) → Has (n + length a) b
  has_right n [] b h = let e : n ≡ n + 0 = omega arith in subst (λ n. Has n b) e h
  has_right n (k ∷ a) b h = let e : suc n + length a ≡ n + length (k ∷ a) =
      omega arith in subst (λ n. Has n b) e (has_right (suc n) a b h.1)

  -- each variable's wire is a variable wire of its type at this depth
  abbrev TypedFree : ℕ → List TyTree → List (Option ℕ) → Type 0
  TypedFree d [] f = Unit {0}
  TypedFree d (a ∷ g) [] = Unit {0}
  TypedFree d (a ∷ g) (None ∷ f) = TypedFree d g f
  TypedFree d (a ∷ g) (Some x ∷ f) = Is net x (var_wire d a) × TypedFree d g f

  -- contractions meet their rows, and leave wires of those types
  contract_typed : (n d : ℕ) (g : List TyTree) (f f' : List (Option ℕ)) → TypedFree d g f → TypedFree d g f'
      → Has n (contract n d g f f').wires → MeetAll (contract n d g f f').nodes × TypedFree d g (contract n d g f f').free
  contract_typed n d [] f f' h i w = (meet_none, tt)
  contract_typed n d (a ∷ g) [] f' h i w = (meet_none, i)
  contract_typed n d (a ∷ g) (o ∷ f) [] h i w = (meet_none, h)
  contract_typed n d (a ∷ g) (None ∷ f) (None ∷ f') h i w = contract_typed n d g f f' h i w
  contract_typed n d (a ∷ g) (None ∷ f) (Some r ∷ f') h i w = let (p, q) = contract_typed n d g f f' h i.1 w in (p, (i.0, q))
  contract_typed n d (a ∷ g) (Some l ∷ f) (None ∷ f') h i w = let (p, q) = contract_typed n d g f f' h.1 i w in (p, (h.0, q))
  contract_typed n d (a ∷ g) (Some l ∷ f) (Some r ∷ f') h i w =
      let (p, q) = contract_typed (suc n) d g f f' h.1 i.1 w.1 in
      (meet_cons (Con l r n) _ (d, a, h.0, i.0, w.0) p, (w.0, q))

  -- so do doors, one depth further out
  doors_typed : (n d : ℕ) (g : List TyTree) (f : List (Option ℕ)) → TypedFree (suc d) g f → Has n (doors n d g f).wires
      → MeetAll (doors n d g f).nodes × TypedFree d g (doors n d g f).free
  doors_typed n d [] f h w = (meet_none, tt)
  doors_typed n d (a ∷ g) [] h w = (meet_none, tt)
  doors_typed n d (a ∷ g) (None ∷ f) h w = doors_typed n d g f h w
  doors_typed n d (a ∷ g) (Some x ∷ f) h w =
      let (p, q) = doors_typed (suc n) d g f h.1 w.1 in
      (meet_cons (Door x n) _ (d, a, h.0, w.0) p, (w.0, q))

  -- no wires are typed
  no_free : (d : ℕ) (g : List TyTree) → TypedFree d g []
  no_free d [] = tt
  no_free d (a ∷ g) = tt

  -- a binder's wire is of its type
  bound_typed : (n d : ℕ) (a : TyTree) (g : List TyTree) (f : List (Option ℕ)) → TypedFree d (a ∷ g) f → Has n (bound n d a f).wires
      → MeetAll (bound n d a f).nodes × Is net (bound_wire n f) (var_wire d a) × TypedFree d g (bound n d a f).free
  bound_typed n d a g [] h w = (meet_one (Weak n) (d, a, w.0), w.0, no_free d g)
  bound_typed n d a g (None ∷ f) h w = (meet_one (Weak n) (d, a, w.0), w.0, h)
  bound_typed n d a g (Some x ∷ f) h w = (meet_none, h.0, h.1)

  -- no variable is used
  none_typed : (d : ℕ) (g : List TyTree) → TypedFree d g (none_free g)
  none_typed d [] = tt
  none_typed d (a ∷ g) = none_typed d g

  -- one variable is used
  one_typed : (d : ℕ) (g : List TyTree) (i x : ℕ) (a : TyTree) → slice_get g i ≡ Some a → Is net x (var_wire d a)
      → TypedFree d g (one_free g i x)
  one_typed d [] i x a h w = tt
  one_typed d (b ∷ g) zero x a h w = let e : a ≡ b = cc in (subst (λ a. Is net x (var_wire d a)) e w, none_typed d g)
  one_typed d (b ∷ g) (suc i) x a h w = one_typed d g i x a h w

  record Fine (d : ℕ) (g : List TyTree) (a : TyTree) (p : Part) : Type 0 where
    meets : MeetAll p.nodes
    out : Is net p.out (value_wire d a)
    type : p.type ≡ a
    free : TypedFree d g p.free

  -- the same at an equal type
  fine_at : (d : ℕ) (g : List TyTree) (a b : TyTree) (p : Part) → a ≡ b → Fine d g b p → Fine d g a p
  fine_at d g a b p e h = subst (λ a. Fine d g a p) (sym e) h

  -- a node of one operand, where it meets its row
  unary_fine : (node : ℕ → ℕ → Node) (t a : TyTree) (n d : ℕ) (g : List TyTree) (p : Part)
      → ((w : ℕ) → Is net p.out (value_wire d a) → Is net w (value_wire d t) → Meets net (node p.out w)) →
      Fine d g a p → Has n (unary_part node t n d p).wires → Fine d g t (unary_part node t n d p)
  unary_fine node t a n d g p meets r w =
      let u = has_right n p.wires (value_wire d t ∷ []) w in
      record {
        meets = meet_append p.nodes _ r.meets (meet_one (node p.out (n + length p.wires)) (meets (n + length p.wires) r.out u.0));
        out = u.0;
        type = refl;
        free = r.free;
      }

  -- a node of two operands, where it meets its row
  double_fine : (node : ℕ → ℕ → ℕ → Node) (t a b : TyTree) (n d : ℕ) (g : List TyTree) (p q : Part) →
      ((w : ℕ) → Is net p.out (value_wire d a) → Is net q.out (value_wire d b) → Is net w (value_wire d t) → Meets net
      (node p.out q.out w)) →
      Fine d g a p → Fine d g b q → Has n (double_part node t n d g p q).wires → Fine d g t (double_part node t n d g p q)
  double_fine node t a b n d g p q meets x y w =
      let o = n + length p.wires + length q.wires in
      let c = contract o d g p.free q.free in
      let w1 = has_right n p.wires _ w in
      let w2 = has_right (n + length p.wires) q.wires _ w1 in
      let w3 = has_right o c.wires (value_wire d t ∷ []) w2 in
      let (z, f) = contract_typed o d g p.free q.free x.free y.free (has_left o c.wires _ w2) in
      record {
        meets = meet_append p.nodes _ x.meets
            (meet_append q.nodes _ y.meets
            (meet_append c.nodes _ z (meet_one (node p.out q.out (o + length c.wires)) (meets (o + length c.wires) x.out y.out w3.0))));
        out = w3.0;
        type = refl;
        free = f;
      }

  -- an operator's node meets its row, and so does one that takes a part of a pair
  binary_meets : (o : Operator) (d a b w : ℕ) → Is net a (value_wire d nat) → Is net b (value_wire d nat) → Is net w (value_wire d nat)
      → Meets net (Binary o a b w)
  binary_meets o d a b w h i j = (d, h, i, j)

  proj_meets : (s : Side) (d a w : ℕ) (t u : TyTree) → Is net a (value_wire d (product t u)) → Is net w (value_wire d (at_side s t u))
      → Meets net (Proj s a w)
  proj_meets Left d a w t u h i = (d, t, u, h, i)
  proj_meets Right d a w t u h i = (d, t, u, h, i)

  -- the forms, each once its operands are fine
  ifz_fine : (n d : ℕ) (g : List TyTree) (x y z : Part) → Fine d g nat x → Fine d g nat y → Fine d g nat z
      → Has n (ifz_part n d g x y z).wires → Fine d g nat (ifz_part n d g x y z)
  ifz_fine n d g x y z r s t w =
      let o = n + length x.wires + length y.wires + length z.wires in
      let b = contract o d g y.free z.free in
      let b' = contract (o + length b.wires) d g x.free b.free in
      let w1 = has_right n x.wires _ w in
      let w2 = has_right (n + length x.wires) y.wires _ w1 in
      let w3 = has_right (n + length x.wires + length y.wires) z.wires _ w2 in
      let w4 = has_right o b.wires _ w3 in
      let w5 = has_right (o + length b.wires) b'.wires (value_wire d nat ∷ []) w4 in
      let (u, f) = contract_typed o d g y.free z.free s.free t.free (has_left o b.wires _ w3) in
      let (u', f') = contract_typed (o + length b.wires) d g x.free b.free r.free f (has_left (o + length b.wires) b'.wires _ w4) in
      record {
        meets = meet_append x.nodes _ r.meets
            (meet_append y.nodes _ s.meets
            (meet_append z.nodes _ t.meets
            (meet_append b.nodes _ u
            (meet_append b'.nodes _ u'
            (meet_one (Ifz x.out y.out z.out (o + length b.wires + length b'.wires)) (d, r.out, s.out, t.out, w5.0))))));
        out = w5.0;
        type = refl;
        free = f';
      }

  lam_fine : (n d : ℕ) (g : List TyTree) (a b : TyTree) (p : Part) → Fine d (a ∷ g) b p → Has n (lam_part n d a p).wires
      → Fine d g (arrow a b) (lam_part n d a p)
  lam_fine n d g a b p x w =
      let o = n + length p.wires in
      let r = bound o d a p.free in
      let w1 = has_right n p.wires _ w in
      let w2 = has_right o r.wires (value_wire d (arrow a p.type) ∷ []) w1 in
      let (y, z, f) = bound_typed o d a g p.free x.free (has_left o r.wires _ w1) in
      let e : arrow a p.type ≡ arrow a b = ap (arrow a) x.type in
      let u : Is net (o + length r.wires) (value_wire d (arrow a b)) = subst (λ t. Is net (o + length r.wires) (value_wire d t)) e w2.0 in
      record {
        meets = meet_append p.nodes _ x.meets
            (meet_append r.nodes _ y (meet_one (Lam p.out (bound_wire o p.free) (o + length r.wires)) (d, a, b, x.out, z, u)));
        out = u;
        type = e;
        free = f;
      }

  fix_fine : (n d : ℕ) (g : List TyTree) (a : TyTree) (p : Part) → Fine (suc d) (a ∷ g) a p → Has n (fix_part n d g a p).wires
      → Fine d g a (fix_part n d g a p)
  fix_fine n d g a p y w =
      let o = n + length p.wires in
      let r = bound o (suc d) a p.free in
      let x = doors (o + length r.wires) d g r.free in
      let w1 = has_right n p.wires _ w in
      let w2 = has_right o r.wires _ w1 in
      let w3 = has_right (o + length r.wires) x.wires (value_wire d a ∷ []) w2 in
      let (z, v, f) = bound_typed o (suc d) a g p.free y.free (has_left o r.wires _ w1) in
      let (u, f') = doors_typed (o + length r.wires) d g r.free f (has_left (o + length r.wires) x.wires _ w2) in
      record {
        meets = meet_append p.nodes _ y.meets
            (meet_append r.nodes _ z
            (meet_append x.nodes _ u
            (meet_one (FixBox p.out (bound_wire o p.free) (o + length r.wires + length x.wires)) (d, a, y.out, v, w3.0))));
        out = w3.0;
        type = refl;
        free = f';
      }

  app_fine : (n d : ℕ) (g : List TyTree) (a b : TyTree) (p q : Part) → Fine d g (arrow a b) p → Fine (suc d) g a q
      → Has n (app_part n d g p q).wires → Fine d g b (app_part n d g p q)
  app_fine n d g s t p q y z w =
      let o = n + length p.wires + length q.wires in
      let x = doors o d g q.free in
      let i = o + length x.wires in
      let b = contract (suc i) d g p.free x.free in
      let w1 = has_right n p.wires _ w in
      let w2 = has_right (n + length p.wires) q.wires _ w1 in
      let w3 = has_right o x.wires (bang_wire d (domain p.type) ∷ (b.wires ++ value_wire d (codomain p.type) ∷ [])) w2 in
      let w4 = has_right (suc i) b.wires (value_wire d (codomain p.type) ∷ []) w3.1 in
      let (u, f) = doors_typed o d g q.free z.free (has_left o x.wires _ w2) in
      let (u', f') = contract_typed (suc i) d g p.free x.free y.free f (has_left (suc i) b.wires _ w3.1) in
      let bang : Is net i (bang_wire d s) = subst (λ t. Is net i (bang_wire d t)) (ap domain y.type) w3.0 in
      let out : Is net (suc i + length b.wires) (value_wire d t) =
      subst (λ t. Is net (suc i + length b.wires) (value_wire d t)) (ap codomain y.type) w4.0 in
      record {
        meets = meet_append p.nodes _ y.meets (meet_append q.nodes _ z.meets (meet_append x.nodes _ u
            (meet_cons (BoxNode q.out i) _ (d, s, z.out, bang)
            (meet_append b.nodes _ u' (meet_one (App p.out i (suc i + length b.wires)) (d, s, t, y.out, bang, out))))));
        out = out;
        type = ap codomain y.type;
        free = f';
      }

  -- the wires of a part hold those of its own parts
  has_two : (n : ℕ) (a b c : List WireTree) → Has n (a ++ (b ++ c)) → Has n a × Has (n + length a) b
  has_two n a b c w = (has_left n a (b ++ c) w, has_left (n + length a) b c (has_right n a (b ++ c) w))

  has_three : (n : ℕ) (a b c e : List WireTree) → Has n (a ++ (b ++ (c ++ e)))
      → Has n a × Has (n + length a) b × Has (n + length a + length b) c
  has_three n a b c e w = let w1 = has_right n a (b ++ (c ++ e)) w in let (x, y) =
      has_two (n + length a) b c e w1 in (has_left n a (b ++ (c ++ e)) w, x, y)

  -- the operands' wires stand where the whole's do, form by form
  unary_has : (node : ℕ → ℕ → Node) (t : TyTree) (n d : ℕ) (p : Part) → Has n (unary_part node t n d p).wires → Has n p.wires
  unary_has node t n d p w = has_left n p.wires _ w

  double_has : (node : ℕ → ℕ → ℕ → Node) (t : TyTree) (n d : ℕ) (g : List TyTree) (p q : Part) → Has n (double_part node t n d g p q).wires
      → Has n p.wires × Has (n + length p.wires) q.wires
  double_has node t n d g p q w = has_two n p.wires q.wires _ w

  ifz_has : (n d : ℕ) (g : List TyTree) (x y z : Part) → Has n (ifz_part n d g x y z).wires
      → Has n x.wires × Has (n + length x.wires) y.wires × Has (n + length x.wires + length y.wires) z.wires
  ifz_has n d g x y z w = has_three n x.wires y.wires z.wires _ w

  lam_has : (n d : ℕ) (a : TyTree) (p : Part) → Has n (lam_part n d a p).wires → Has n p.wires
  lam_has n d a p w = has_left n p.wires _ w

  fix_has : (n d : ℕ) (g : List TyTree) (a : TyTree) (p : Part) → Has n (fix_part n d g a p).wires → Has n p.wires
  fix_has n d g a p w = has_left n p.wires _ w

  app_has : (n d : ℕ) (g : List TyTree) (p q : Part) → Has n (app_part n d g p q).wires → Has n p.wires × Has (n + length p.wires) q.wires
  app_has n d g p q w = has_two n p.wires q.wires _ w

  -- every typed part is fine
  fine : (m : TermTree) (n d : ℕ) (g : List TyTree) (a : TyTree) → HasType g m a → Has n (part n d g m).wires → Fine d g a (part n d g m)
  fine (num v) n d g a h w = record { meets = meet_one (Const v n) (d, w.0); out = rw h.1 w.0; type = sym h.1; free = none_typed d g }
  fine (var i) n d g a h w =
      let e : type_or_nat (slice_get g i) ≡ a = ap type_or_nat h in
      record {
        meets = meet_one (Der n (suc n)) (d, type_or_nat (slice_get g i), w.0, w.1.0);
        out = subst (λ t. Is net n (value_wire d t)) e w.0;
        type = e;
        free = one_typed d g i (suc n) a h (subst (λ t. Is net (suc n) (var_wire d t)) e w.1.0);
      }
  fine (succ_of m) n d g a h w =
      let p = part n d g m in
      fine_at d g a nat _ h.1 (unary_fine Succ nat nat n d g p (λ w i j. (d, i, j)) (fine m n d g nat h.0 (unary_has Succ nat n d p w)) w)
  fine (pred_of m) n d g a h w =
      let p = part n d g m in
      fine_at d g a nat _ h.1 (unary_fine Pred nat nat n d g p (λ w i j. (d, i, j)) (fine m n d g nat h.0 (unary_has Pred nat n d p w)) w)
  fine (binary o m l) n d g a h w =
      let p = part n d g m in
      let q = part (n + length p.wires) d g l in
      let (wp, wq) = double_has (Binary o) nat n d g p q w in
      fine_at d g a nat _ h.2
      (double_fine (Binary o) nat nat nat n d g p q (λ w i j k. binary_meets o d p.out q.out w i j k) (fine m n d g nat h.0 wp)
      (fine l (n + length p.wires) d g nat h.1 wq) w)
  fine (ifz i m l) n d g a h w =
      let x = part n d g i in
      let y = part (n + length x.wires) d g m in
      let z = part (n + length x.wires + length y.wires) d g l in
      let (wx, wy, wz) = ifz_has n d g x y z w in
      fine_at d g a nat _ h.3
      (ifz_fine n d g x y z (fine i n d g nat h.0 wx) (fine m (n + length x.wires) d g nat h.1 wy)
      (fine l (n + length x.wires + length y.wires) d g nat h.2 wz) w)
  fine (lam b m) n d g a h w =
      let p = part n d (b ∷ g) m in
      fine_at d g a (arrow b h.0) _ h.2 (lam_fine n d g b h.0 p (fine m n d (b ∷ g) h.0 h.1 (lam_has n d b p w)) w)
  fine (fix b m) n d g a h w =
      let p = part n (suc d) (b ∷ g) m in
      fine_at d g a b _ h.1 (fix_fine n d g b p (fine m n (suc d) (b ∷ g) b h.0 (fix_has n d g b p w)) w)
  fine (app m l) n d g a h w =
      let p = part n d g m in
      let q = part (n + length p.wires) (suc d) g l in
      let (wp, wq) = app_has n d g p q w in
      app_fine n d g h.0 a p q (fine m n d g (arrow h.0 a) h.1 wp) (fine l (n + length p.wires) (suc d) g h.0 h.2 wq) w
  fine (pair m l) n d g a h w =
      let p = part n d g m in
      let q = part (n + length p.wires) d g l in
      let (wp, wq) = double_has Pair (product p.type q.type) n d g p q w in
      let x = fine m n d g h.0 h.2 wp in
      let y = fine l (n + length p.wires) d g h.1 h.3 wq in
      let e : product p.type q.type ≡ product h.0 h.1 = ap (λ t. product t q.type) x.type ∙ ap (product h.0) y.type in
      fine_at d g a (product p.type q.type) _ (h.4 ∙ sym e)
      (double_fine Pair (product p.type q.type) h.0 h.1 n d g p q
      (λ w i j k. (d, h.0, h.1, i, j, subst (λ t. Is net w (value_wire d t)) e k)) x y w)
  fine (proj s m) n d g a h w =
      let p = part n d g m in
      let x = fine m n d g (product h.0 h.1) h.2 (unary_has (Proj s) (side_type s p.type) n d p w) in
      let e : side_type s p.type ≡ at_side s h.0 h.1 = ap (side_type s) x.type in
      fine_at d g a (side_type s p.type) _ (h.3 ∙ sym e)
      (unary_fine (Proj s) (side_type s p.type) (product h.0 h.1) n d g p
      (λ w i j. proj_meets s d p.out w h.0 h.1 i (subst (λ t. Is net w (value_wire d t)) e j)) x w)

-- the roots of two lists of nodes
pub roots_append : (a b : List Node) → roots (a ++ b) ≡ roots a + roots b
roots_append [] b = omega arith
roots_append (Root w ∷ a) b = let h = roots_append a b in omega arith
roots_append (n ∷ a) b = roots_append a b

-- no contraction, door or weakening is a root
contract_roots : (n d : ℕ) (g : List TyTree) (f f' : List (Option ℕ)) → roots (contract n d g f f').nodes ≡ 0
contract_roots n d [] f f' = refl
contract_roots n d (a ∷ g) [] f' = refl
contract_roots n d (a ∷ g) (o ∷ f) [] = refl
contract_roots n d (a ∷ g) (None ∷ f) (o ∷ f') = contract_roots n d g f f'
contract_roots n d (a ∷ g) (Some l ∷ f) (None ∷ f') = contract_roots n d g f f'
contract_roots n d (a ∷ g) (Some l ∷ f) (Some r ∷ f') = contract_roots (suc n) d g f f'

doors_roots : (n d : ℕ) (g : List TyTree) (f : List (Option ℕ)) → roots (doors n d g f).nodes ≡ 0
doors_roots n d [] f = refl
doors_roots n d (a ∷ g) [] = refl
doors_roots n d (a ∷ g) (None ∷ f) = doors_roots n d g f
doors_roots n d (a ∷ g) (Some x ∷ f) = doors_roots (suc n) d g f

bound_roots : (n d : ℕ) (a : TyTree) (f : List (Option ℕ)) → roots (bound n d a f).nodes ≡ 0
bound_roots n d a [] = refl
bound_roots n d a (None ∷ f) = refl
bound_roots n d a (Some x ∷ f) = refl

-- two lists without a root
both_none : (a b : List Node) → roots a ≡ 0 → roots b ≡ 0 → roots (a ++ b) ≡ 0
both_none a b h i = omega (arith, roots_append a b)

-- the forms have no root, where their operands have none
double_roots : (node : ℕ → ℕ → ℕ → Node) (t : TyTree) (n d : ℕ) (g : List TyTree) (p q : Part) → ((a b w : ℕ) → roots (node a b w ∷ []) ≡ 0)
    → roots p.nodes ≡ 0 → roots q.nodes ≡ 0 → roots (double_part node t n d g p q).nodes ≡ 0
double_roots node t n d g p q e h i =
    let o = n + length p.wires + length q.wires in
    let c = contract o d g p.free q.free in
    both_none p.nodes _ h
    (both_none q.nodes _ i (both_none c.nodes _ (contract_roots o d g p.free q.free) (e p.out q.out (o + length c.wires))))

-- three parts without a root make one without a root
ifz_roots : (n d : ℕ) (g : List TyTree) (x y z : Part) → roots x.nodes ≡ 0 → roots y.nodes ≡ 0 → roots z.nodes ≡ 0
    → roots (ifz_part n d g x y z).nodes ≡ 0
ifz_roots n d g x y z first second third =
    let o = n + length x.wires + length y.wires + length z.wires in
    let b = contract o d g y.free z.free in
    let b' = contract (o + length b.wires) d g x.free b.free in
    both_none x.nodes _ first
    (both_none y.nodes _ second
    (both_none z.nodes _ third
    (both_none b.nodes _ (contract_roots o d g y.free z.free)
    (both_none b'.nodes _ (contract_roots (o + length b.wires) d g x.free b.free) refl))))

lam_roots : (n d : ℕ) (a : TyTree) (p : Part) → roots p.nodes ≡ 0 → roots (lam_part n d a p).nodes ≡ 0
lam_roots n d a p h = let o =
    n + length p.wires in both_none p.nodes _ h (both_none (bound o d a p.free).nodes _ (bound_roots o d a p.free) refl)

fix_roots : (n d : ℕ) (g : List TyTree) (a : TyTree) (p : Part) → roots p.nodes ≡ 0 → roots (fix_part n d g a p).nodes ≡ 0
fix_roots n d g a p h =
    let o = n + length p.wires in
    let r = bound o (suc d) a p.free in
    both_none p.nodes _ h
    (both_none r.nodes _ (bound_roots o (suc d) a p.free)
    (both_none (doors (o + length r.wires) d g r.free).nodes _ (doors_roots (o + length r.wires) d g r.free) refl))

app_roots : (n d : ℕ) (g : List TyTree) (p q : Part) → roots p.nodes ≡ 0 → roots q.nodes ≡ 0 → roots (app_part n d g p q).nodes ≡ 0
app_roots n d g p q h k =
    let o = n + length p.wires + length q.wires in
    let x = doors o d g q.free in
    let i = o + length x.wires in
    let b = contract (suc i) d g p.free x.free in
    both_none p.nodes _ h
    (both_none q.nodes _ k
    (both_none x.nodes _ (doors_roots o d g q.free) (both_none b.nodes _ (contract_roots (suc i) d g p.free x.free) refl)))

-- no part has a root
pub part_roots : (m : TermTree) (n d : ℕ) (g : List TyTree) → roots (part n d g m).nodes ≡ 0
part_roots (num v) n d g = refl
part_roots (var i) n d g = refl
part_roots (succ_of m) n d g = both_none (part n d g m).nodes _ (part_roots m n d g) refl
part_roots (pred_of m) n d g = both_none (part n d g m).nodes _ (part_roots m n d g) refl
part_roots (binary o m l) n d g =
    let p = part n d g m in
    double_roots (Binary o) nat n d g p (part (n + length p.wires) d g l) (λ a b w. refl) (part_roots m n d g)
    (part_roots l (n + length p.wires) d g)
part_roots (ifz i m l) n d g =
    let x = part n d g i in
    let y = part (n + length x.wires) d g m in
    ifz_roots n d g x y (part (n + length x.wires + length y.wires) d g l) (part_roots i n d g) (part_roots m (n + length x.wires) d g)
    (part_roots l (n + length x.wires + length y.wires) d g)
part_roots (lam b m) n d g = lam_roots n d b (part n d (b ∷ g) m) (part_roots m n d (b ∷ g))
part_roots (fix b m) n d g = fix_roots n d g b (part n (suc d) (b ∷ g) m) (part_roots m n (suc d) (b ∷ g))
part_roots (app m l) n d g =
    let p = part n d g m in
    app_roots n d g p (part (n + length p.wires) (suc d) g l) (part_roots m n d g) (part_roots l (n + length p.wires) (suc d) g)
part_roots (pair m l) n d g =
    let p = part n d g m in
    let q = part (n + length p.wires) d g l in
    double_roots Pair (product p.type q.type) n d g p q (λ a b w. refl) (part_roots m n d g) (part_roots l (n + length p.wires) d g)
part_roots (proj s m) n d g = both_none (part n d g m).nodes _ (part_roots m n d g) refl

-- the entry at a seam
pub nth_seam : (pre : List WireTree) (k : WireTree) (ks : List WireTree) → slice_get (pre ++ k ∷ ks) (length pre) ≡ Some k
nth_seam [] k ks = refl
nth_seam (x ∷ pre) k ks = nth_seam pre k ks

has_all : (nodes : List Node) (ks pre : List WireTree) → Has (record { wires = pre ++ ks; nodes = nodes }) (length pre) ks
has_all nodes [] pre = tt
has_all nodes (k ∷ ks) pre =
    let n : length (pre ++ k ∷ []) ≡ suc (length pre) = omega (arith, length-append pre (k ∷ [])) in
    let rest = has_all nodes ks (pre ++ k ∷ []) in
    let rest' = subst (λ l. Has (record { wires = l; nodes = nodes }) (length (pre ++ k ∷ [])) ks) (append_assoc pre (k ∷ []) ks) rest in
    (nth_seam pre k ks, subst (λ n. Has (record { wires = pre ++ k ∷ ks; nodes = nodes }) n ks) n rest')

-- a wire past the new ones, before them, and among them
pub made_past : (n : ℕ) (ks : List WireTree) (w : ℕ) → n + length ks ≤ w → made n ks w ≡ 0
made_past n [] w h = refl
made_past n (k ∷ ks) w h = let r = made_past (suc n) ks w (omega arith) in let e = ne_eqb n w (λ q. omega arith) in rw e (omega arith)

pub made_before : (n : ℕ) (ks : List WireTree) (w : ℕ) → w < n → made n ks w ≡ 0
made_before n [] w h = refl
made_before n (k ∷ ks) w h = let r = made_before (suc n) ks w (omega arith) in let e = ne_eqb n w (λ q. omega arith) in rw e (omega arith)

made_once : (n : ℕ) (ks : List WireTree) (w : ℕ) → n ≤ w → w < n + length ks → made n ks w ≡ 1
made_once n [] w h i = absurd (omega arith)
made_once n (k ∷ ks) w h i = go (made_once (suc n) ks w) (cases_eq n w)
  where
    go : (suc n ≤ w → w < suc n + length ks → made (suc n) ks w ≡ 1) → (n ≡ w) ⊎ (n ≡ w → ⊥) → made n (k ∷ ks) w ≡ 1
    go ih (inl e) = let q = eq-eqb n w e in let r = made_before (suc n) ks w (omega arith) in rw q (omega arith)
    go ih (inr e) = let q = ne_eqb n w e in let r = ih (omega arith) (omega arith) in rw q (omega arith)

-- the net of every closed term of type nat is sound
pub built_sound : (m : TermTree) → HasType [] m nat → Sound (net_of m)
built_sound m h =
    let p = part zero zero [] m in
    let net = net_of m in
    let c = counted m zero zero [] nat h in
    let r = fine net m zero zero [] nat h (has_all net.nodes p.wires []) in
    let loose = λ (w : ℕ). no_ends p.free w (aligned m zero zero []) in
    let ups = λ (w : ℕ). named_append conclusions p.nodes (Root p.out ∷ []) w in
    let downs = λ (w : ℕ). named_append premises p.nodes (Root p.out ∷ []) w in
    record {
      one_root = omega (arith, roots_append p.nodes (Root p.out ∷ []), part_roots m zero zero []);
      outside = λ w l. let z =
          made_past zero p.wires w (omega arith) in (omega (arith, ups w, c.ups w), omega (arith, downs w, c.downs w, loose w));
      once = λ w l. let z =
          made_once zero p.wires w (omega arith) (omega arith) in
          (omega (arith, ups w, c.ups w), omega (arith, downs w, c.downs w, loose w));
      rows = (meet_append net p.nodes (Root p.out ∷ []) r.meets (meet_one net (Root p.out) r.out)).each;
    }
  where
    no_ends : (f : List (Option ℕ)) (w : ℕ) → Aligned [] f → ends f w ≡ 0
    no_ends [] w h = refl
    no_ends (o ∷ f) w h = elim h [ ]
