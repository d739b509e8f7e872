-- The plain rules of the table as a relation, and retrace.
use Rattle.std.proofs.Common.{◌≡◌, ◌⊎◌, ℕ, Bool, true, false, cond, [], ◌∷◌, Option, Some, None, refl, sym, ap}
use Rattle.std.proofs.Common.{◌∙◌, subst, ⊎_elim, inl}
use Rattle.std.proofs.Common.{inr}
use Rattle.std.proofs.lemmas.Bool.{eqb-true, eq-eqb, ne_eqb}
use Rattle.std.specs.Prelude.{nat_eq}
use Rattle.token_stacks.specs.Signatures.{Sig, star, left_of, right_of, pair_of, again, R, L, S, Work, Boxes}
use Rattle.net_build.specs.declared.node.Node.{Node}
use Rattle.net_build.specs.declared.node.Node.TheVariants.{Der, Con, Lam, App, BoxNode, Door, FixBox, Pair, Proj}
use Rattle.net_build.specs.Nets.{NetTree, premises, conclusions}
use Rattle.net_build.specs.Faces.{node_above, node_below}
use Rattle.net_build.specs.Sound.{Sound}
use Rattle.move_rules.specs.Places.{Place, up, down, turned}
use Rattle.move_rules.specs.Table.{at_wire, or_else, on_found, plain_up, plain_down, lam_up, lam_var, app_fun, app_arg, box_up}
use Rattle.move_rules.specs.AtNode.{plain}
use Rattle.move_rules.specs.Table.{box_down, door_up, door_down, der_back, con_up, con_down, fix_var, fix_out, fix_back, pair_up, fst_down}
use Rattle.move_rules.specs.Table.{snd_down}
use Rattle.move_rules.proofs.Faces.{Among, Faced, above_faced, below_faced}
use Rattle.pcf_values.specs.declared.side.Side.TheVariants.{Left, Right}

-- the rows
pub data Row : Node → Place → Place → Type 0 where
  lam_body : {b x w : ℕ} {m : Work} {t : Boxes} → Row (Lam b x w) (up w (R ∷ m) t) (up b m t)
  lam_arg : {b x w : ℕ} {s : Sig} {m : Work} {t : Boxes} → Row (Lam b x w) (down x (S s ∷ m) t) (down w (L ∷ S s ∷ m) t)
  app_body : {f a w : ℕ} {m : Work} {t : Boxes} → Row (App f a w) (up w m t) (up f (R ∷ m) t)
  app_call : {f a w : ℕ} {s : Sig} {m : Work} {t : Boxes} → Row (App f a w) (down f (L ∷ S s ∷ m) t) (up a (S s ∷ m) t)
  box_in : {i o : ℕ} {s : Sig} {m : Work} {t : Boxes} → Row (BoxNode i o) (up o (S s ∷ m) t) (up i m (s ∷ t))
  door_out : {i o : ℕ} {s u : Sig} {m : Work} {t : Boxes} →
      Row (Door i o) (down i (S u ∷ m) (s ∷ t)) (down o (S (pair_of s u) ∷ m) t)
  der : {w x : ℕ} {m : Work} {t : Boxes} → Row (Der w x) (up w m t) (down x (S star ∷ m) t)
  con_left : {l r w : ℕ} {s : Sig} {m : Work} {t : Boxes} → Row (Con l r w) (down l (S s ∷ m) t) (down w (S (left_of s) ∷ m) t)
  con_right : {l r w : ℕ} {s : Sig} {m : Work} {t : Boxes} → Row (Con l r w) (down r (S s ∷ m) t) (down w (S (right_of s) ∷ m) t)
  fix_in : {b x w : ℕ} {m : Work} {t : Boxes} → Row (FixBox b x w) (up w m t) (up b m (star ∷ t))
  fix_again : {b x w : ℕ} {s u : Sig} {m : Work} {t : Boxes} →
      Row (FixBox b x w) (down x (S s ∷ m) (u ∷ t)) (up b m (again u s ∷ t))
  pair_left : {a b w : ℕ} {m : Work} {t : Boxes} → Row (Pair a b w) (up w (L ∷ m) t) (up a m t)
  pair_right : {a b w : ℕ} {m : Work} {t : Boxes} → Row (Pair a b w) (up w (R ∷ m) t) (up b m t)
  fst_in : {a w : ℕ} {m : Work} {t : Boxes} → Row (Proj Left a w) (up w m t) (up a (L ∷ m) t)
  snd_in : {a w : ℕ} {m : Work} {t : Boxes} → Row (Proj Right a w) (up w m t) (up a (R ∷ m) t)

-- a plain move and its way back
abbrev pub Leads : NetTree → Place → Place → Type 0
Leads net p q = (plain net p ≡ Some q) × (plain net (turned q) ≡ Some (turned p))

here : {A : Type 0} (w : ℕ) (a b : Option A) → at_wire w w a ≡ a
here w a b = ap (λ c. cond c a None) (eq-eqb w w refl)

first : {A : Type 0} (w : ℕ) (x : A) (b : Option A) → or_else (at_wire w w (Some x)) b ≡ Some x
first w x b = ap (λ c. or_else (cond c (Some x) None) b) (eq-eqb w w refl)

skip : {A : Type 0} (v w : ℕ) (a o : Option A) → (v ≡ w → ⊥) → or_else (at_wire v w a) o ≡ o
skip v w a o h = ap (λ c. or_else (cond c a None) o) (ne_eqb v w h)

second : {A : Type 0} (v w : ℕ) (a b : Option A) → (v ≡ w → ⊥) → or_else (at_wire v w a) (at_wire w w b) ≡ b
second v w a b h = skip v w a (at_wire w w b) h ∙ here w b None

-- a rule that doesn't fit is none
unfit : {A : Type 0} (w : ℕ) (o : Option A) → or_else (at_wire w w None) o ≡ o
unfit w o = ap (λ c. or_else (cond c None None) o) (eq-eqb w w refl)

-- a net, where a node's wires lead to it: what is a row of the node is what the table gives there, both ways
module _ (net : NetTree) where
  by_up : (n : Node) (w : ℕ) (m : Work) (t : Boxes) (q : Place) → Faced net n → Among w (conclusions n) →
      plain_up n w m t ≡ Some q
      → plain net (up w m t) ≡ Some q
  by_up n w m t q f a e = let h = f.ups w a in ap (λ o. on_found o None (λ i n. plain_up n w m t)) h ∙ e

  by_down : (n : Node) (w : ℕ) (m : Work) (t : Boxes) (q : Place) → Faced net n → Among w (premises n) →
      plain_down n w m t ≡ Some q
      → plain net (down w m t) ≡ Some q
  by_down n w m t q f a e = let h = f.downs w a in ap (λ o. on_found o None (λ i n. plain_down n w m t)) h ∙ e

  -- each row is a move and a way back at a node that is faced
  pub row_leads : (n : Node) (p q : Place) → Faced net n → Row n p q → Leads net p q
  row_leads _ _ _ f (lam_body {b = b} {x = x} {w = w} {m = m} {t = t}) =
      (by_up (Lam b x w) w (R ∷ m) t _ f (inl refl) refl, by_down (Lam b x w) b m t _ f (inl refl) (first b _ _))
  row_leads _ _ _ f (lam_arg {b = b} {x = x} {w = w} {s = s} {m = m} {t = t}) = (
    by_down (Lam b x w) x (S s ∷ m) t _ f (inr (inl refl)) (second b x _ _ (λ e. f.apart_down.0 (inl (sym e)))),
    by_up (Lam b x w) w (L ∷ S s ∷ m) t _ f (inl refl) refl,
  )
  row_leads _ _ _ f (app_body {f = g} {a = a} {w = w} {m = m} {t = t}) =
      (by_up (App g a w) w m t _ f (inl refl) refl, by_down (App g a w) g (R ∷ m) t _ f (inl refl) (first g _ _))
  row_leads _ _ _ f (app_call {f = g} {a = a} {w = w} {s = s} {m = m} {t = t}) = (
    by_down (App g a w) g (L ∷ S s ∷ m) t _ f (inl refl) (first g _ _),
    by_down (App g a w) a (S s ∷ m) t _ f (inr (inl refl)) (second g a _ _ (λ e. f.apart_down.0 (inl (sym e)))),
  )
  row_leads _ _ _ f (box_in {i = i} {o = o} {s = s} {m = m} {t = t}) =
      (by_up (BoxNode i o) o (S s ∷ m) t _ f (inl refl) refl, by_down (BoxNode i o) i m (s ∷ t) _ f (inl refl) refl)
  row_leads _ _ _ f (door_out {i = i} {o = o} {s = s} {u = u} {m = m} {t = t}) =
      (by_down (Door i o) i (S u ∷ m) (s ∷ t) _ f (inl refl) refl, by_up (Door i o) o (S (pair_of s u) ∷ m) t _ f (inl refl) refl)
  row_leads _ _ _ f (der {w = w} {x = x} {m = m} {t = t}) = (
    by_up (Der w x) w m t _ f (inl refl) (first w _ _),
    by_up (Der w x) x (S star ∷ m) t _ f (inr (inl refl)) (second w x _ _ (λ e. f.apart_up.0 (inl (sym e)))),
  )
  row_leads _ _ _ f (con_left {l = l} {r = r} {w = w} {s = s} {m = m} {t = t}) =
      (by_down (Con l r w) l (S s ∷ m) t _ f (inl refl) (first l _ _), by_up (Con l r w) w (S (left_of s) ∷ m) t _ f (inl refl) refl)
  row_leads _ _ _ f (con_right {l = l} {r = r} {w = w} {s = s} {m = m} {t = t}) = (
    by_down (Con l r w) r (S s ∷ m) t _ f (inr (inl refl)) (second l r _ _ (λ e. f.apart_down.0 (inl (sym e)))),
    by_up (Con l r w) w (S (right_of s) ∷ m) t _ f (inl refl) refl,
  )
  row_leads _ _ _ f (fix_in {b = b} {x = x} {w = w} {m = m} {t = t}) =
      (by_up (FixBox b x w) w m t _ f (inl refl) refl, by_down (FixBox b x w) b m (star ∷ t) _ f (inl refl) (first b _ _))
  row_leads _ _ _ f (fix_again {b = b} {x = x} {w = w} {s = s} {u = u} {m = m} {t = t}) =
      let apart : b ≡ x → ⊥ = λ e. f.apart_down.0 (inl (sym e)) in (
        by_down (FixBox b x w) x (S s ∷ m) (u ∷ t) _ f (inr (inl refl)) (skip b x _ _ apart ∙ first x _ _),
        by_down (FixBox b x w) b m (again u s ∷ t) _ f (inl refl) (unfit b _ ∙ second x b _ _ (λ e. apart (sym e))),
      )
  row_leads _ _ _ f (pair_left {a = a} {b = b} {w = w} {m = m} {t = t}) =
      (by_up (Pair a b w) w (L ∷ m) t _ f (inl refl) refl, by_down (Pair a b w) a m t _ f (inl refl) (first a _ _))
  row_leads _ _ _ f (pair_right {a = a} {b = b} {w = w} {m = m} {t = t}) = (
    by_up (Pair a b w) w (R ∷ m) t _ f (inl refl) refl,
    by_down (Pair a b w) b m t _ f (inr (inl refl)) (second a b _ _ (λ e. f.apart_down.0 (inl (sym e)))),
  )
  row_leads _ _ _ f (fst_in {a = a} {w = w} {m = m} {t = t}) =
      (by_up (Proj Left a w) w m t _ f (inl refl) refl, by_down (Proj Left a w) a (L ∷ m) t _ f (inl refl) refl)
  row_leads _ _ _ f (snd_in {a = a} {w = w} {m = m} {t = t}) =
      (by_up (Proj Right a w) w m t _ f (inl refl) refl, by_down (Proj Right a w) a (R ∷ m) t _ f (inl refl) refl)

-- the row itself, or its other way
abbrev pub Either : Node → Place → Place → Type 0
Either n p q = Row n p q ⊎ Row n (turned q) (turned p)

got : (n : Node) (p q q' : Place) → Some q' ≡ Some q → Either n p q' → Either n p q
got n p q q' e h = let e' : q' ≡ q = cc in subst (Either n p) e' h

at_up : (n : Node) (m : Work) (t : Boxes) (q : Place) (c w : ℕ) → c ≡ w → Either n (up c m t) q → Either n (up w m t) q
at_up n m t q c w e h = subst (λ w. Either n (up w m t) q) e h

at_down : (n : Node) (m : Work) (t : Boxes) (q : Place) (c w : ℕ) → c ≡ w → Either n (down c m t) q → Either n (down w m t) q
at_down n m t q c w e h = subst (λ w. Either n (down w m t) q) e h

-- the rule at the wire, or what comes after it
at_first : {A : Type 0} (x w : ℕ) (a o : Option A) (r : A) → or_else (at_wire x w a) o ≡ Some r → ((x ≡ w) × (a ≡ Some r)) ⊎
    (o ≡ Some r)
at_first {A = A} x w a o r = go (nat_eq x w) refl a
  where
    go : (c : Bool) → nat_eq x w ≡ c → (a : Option A) → or_else (cond c a None) o ≡ Some r → ((x ≡ w) × (a ≡ Some r)) ⊎
        (o ≡ Some r)
    go true e (Some z) h = inl (eqb-true x w e, h)
    go true e None h = inr h
    go false e a h = inr h

at_last : {A : Type 0} (x w : ℕ) (a : Option A) (r : A) → at_wire x w a ≡ Some r → (x ≡ w) × (a ≡ Some r)
at_last {A = A} x w a r = go (nat_eq x w) refl
  where
    go : (c : Bool) → nat_eq x w ≡ c → cond c a None ≡ Some r → (x ≡ w) × (a ≡ Some r)
    go true e h = (eqb-true x w e, h)
    go false e h = cc

two : {A : Type 0} (x y w : ℕ) (a b : Option A) (r : A) → or_else (at_wire x w a) (at_wire y w b) ≡ Some r
    → ((x ≡ w) × (a ≡ Some r)) ⊎ ((y ≡ w) × (b ≡ Some r))
two x y w a b r h = ⊎_elim inl (λ g. inr (at_last y w b r g)) (at_first x w a (at_wire y w b) r h)

lam_up_row : (b x c : ℕ) (m : Work) (t : Boxes) (q : Place) → lam_up b x m t ≡ Some q → Either (Lam b x c) (up c m t) q
lam_up_row b x c (R ∷ m) t q h = got _ _ _ _ h (inl lam_body)
lam_up_row b x c (L ∷ S s ∷ m) t q h = got _ _ _ _ h (inr lam_arg)
lam_up_row b x c (L ∷ R ∷ m) t q h = cc
lam_up_row b x c (L ∷ L ∷ m) t q h = cc
lam_up_row b x c (L ∷ []) t q h = cc
lam_up_row b x c (S s ∷ m) t q h = cc
lam_up_row b x c [] t q h = cc

con_up_row : (l r c : ℕ) (m : Work) (t : Boxes) (q : Place) → con_up l r m t ≡ Some q → Either (Con l r c) (up c m t) q
con_up_row l r c (S (left_of s) ∷ m) t q h = got _ _ _ _ h (inr con_left)
con_up_row l r c (S (right_of s) ∷ m) t q h = got _ _ _ _ h (inr con_right)
con_up_row l r c _ t q h = cc

box_up_row : (i o : ℕ) (m : Work) (t : Boxes) (q : Place) → box_up i m t ≡ Some q → Either (BoxNode i o) (up o m t) q
box_up_row i o (S s ∷ m) t q h = got _ _ _ _ h (inl box_in)
box_up_row i o _ t q h = cc

door_up_row : (i o : ℕ) (m : Work) (t : Boxes) (q : Place) → door_up i m t ≡ Some q → Either (Door i o) (up o m t) q
door_up_row i o (S (pair_of s u) ∷ m) t q h = got _ _ _ _ h (inr door_out)
door_up_row i o _ t q h = cc

der_back_row : (v x : ℕ) (m : Work) (t : Boxes) (q : Place) → der_back v m t ≡ Some q → Either (Der v x) (up x m t) q
der_back_row v x (S star ∷ m) t q h = got _ _ _ _ h (inr der)
der_back_row v x _ t q h = cc

pair_up_row : (a b c : ℕ) (m : Work) (t : Boxes) (q : Place) → pair_up a b m t ≡ Some q → Either (Pair a b c) (up c m t) q
pair_up_row a b c (L ∷ m) t q h = got _ _ _ _ h (inl pair_left)
pair_up_row a b c (R ∷ m) t q h = got _ _ _ _ h (inl pair_right)
pair_up_row a b c _ t q h = cc

-- what the table gives up the conclusion of a node is a row, or the other way of one
up_row : (n : Node) (w : ℕ) (m : Work) (t : Boxes) (q : Place) → Among w (conclusions n) → plain_up n w m t ≡ Some q →
    Either n (up w m t) q
up_row (Der v x) w m t q a h =
    ⊎_elim (λ (e, g). at_up _ m t q v w e (got _ _ _ _ g (inl der))) (λ (e, g). at_up _ m t q x w e (der_back_row v x m t q g))
    (two v x w _ _ q h)
up_row (Con l r c) w m t q (inl e) h = at_up _ m t q c w e (con_up_row l r c m t q h)
up_row (Lam b x c) w m t q (inl e) h = at_up _ m t q c w e (lam_up_row b x c m t q h)
up_row (App f a c) w m t q (inl e) h = at_up _ m t q c w e (got _ _ _ _ h (inl app_body))
up_row (BoxNode i o) w m t q (inl e) h = at_up _ m t q o w e (box_up_row i o m t q h)
up_row (Door i o) w m t q (inl e) h = at_up _ m t q o w e (door_up_row i o m t q h)
up_row (FixBox b x c) w m t q (inl e) h = at_up _ m t q c w e (got _ _ _ _ h (inl fix_in))
up_row (Pair a b c) w m t q (inl e) h = at_up _ m t q c w e (pair_up_row a b c m t q h)
up_row (Proj Left a c) w m t q (inl e) h = at_up _ m t q c w e (got _ _ _ _ h (inl fst_in))
up_row (Proj Right a c) w m t q (inl e) h = at_up _ m t q c w e (got _ _ _ _ h (inl snd_in))
up_row (Con l r c) w m t q (inr e) h = elim e [ ]
up_row (Lam b x c) w m t q (inr e) h = elim e [ ]
up_row (App f a c) w m t q (inr e) h = elim e [ ]
up_row (BoxNode i o) w m t q (inr e) h = elim e [ ]
up_row (Door i o) w m t q (inr e) h = elim e [ ]
up_row (FixBox b x c) w m t q (inr e) h = elim e [ ]
up_row (Pair a b c) w m t q (inr e) h = elim e [ ]
up_row (Proj d a c) w m t q (inr e) h = elim e [ ]
up_row n w m t q a h = cc

con_left_row : (l r c : ℕ) (m : Work) (t : Boxes) (q : Place) → con_down left_of c m t ≡ Some q → Either (Con l r c) (down l m t) q
con_left_row l r c (S s ∷ m) t q h = got _ _ _ _ h (inl con_left)
con_left_row l r c _ t q h = cc

con_right_row : (l r c : ℕ) (m : Work) (t : Boxes) (q : Place) → con_down right_of c m t ≡ Some q →
    Either (Con l r c) (down r m t) q
con_right_row l r c (S s ∷ m) t q h = got _ _ _ _ h (inl con_right)
con_right_row l r c _ t q h = cc

lam_var_row : (b x c : ℕ) (m : Work) (t : Boxes) (q : Place) → lam_var c m t ≡ Some q → Either (Lam b x c) (down x m t) q
lam_var_row b x c (S s ∷ m) t q h = got _ _ _ _ h (inl lam_arg)
lam_var_row b x c _ t q h = cc

app_fun_row : (f a c : ℕ) (m : Work) (t : Boxes) (q : Place) → app_fun a c m t ≡ Some q → Either (App f a c) (down f m t) q
app_fun_row f a c (R ∷ m) t q h = got _ _ _ _ h (inr app_body)
app_fun_row f a c (L ∷ S s ∷ m) t q h = got _ _ _ _ h (inl app_call)
app_fun_row f a c (L ∷ R ∷ m) t q h = cc
app_fun_row f a c (L ∷ L ∷ m) t q h = cc
app_fun_row f a c (L ∷ []) t q h = cc
app_fun_row f a c (S s ∷ m) t q h = cc
app_fun_row f a c [] t q h = cc

app_arg_row : (f a c : ℕ) (m : Work) (t : Boxes) (q : Place) → app_arg f m t ≡ Some q → Either (App f a c) (down a m t) q
app_arg_row f a c (S s ∷ m) t q h = got _ _ _ _ h (inr app_call)
app_arg_row f a c _ t q h = cc

box_down_row : (i o : ℕ) (m : Work) (t : Boxes) (q : Place) → box_down o m t ≡ Some q → Either (BoxNode i o) (down i m t) q
box_down_row i o m (s ∷ t) q h = got _ _ _ _ h (inr box_in)
box_down_row i o m [] q h = cc

door_down_row : (i o : ℕ) (m : Work) (t : Boxes) (q : Place) → door_down o m t ≡ Some q → Either (Door i o) (down i m t) q
door_down_row i o (S u ∷ m) (s ∷ t) q h = got _ _ _ _ h (inl door_out)
door_down_row i o _ _ q h = cc

fix_out_row : (b x c : ℕ) (m : Work) (t : Boxes) (q : Place) → fix_out c m t ≡ Some q → Either (FixBox b x c) (down b m t) q
fix_out_row b x c m (star ∷ t) q h = got _ _ _ _ h (inr fix_in)
fix_out_row b x c m _ q h = cc

fix_back_row : (b x c : ℕ) (m : Work) (t : Boxes) (q : Place) → fix_back x m t ≡ Some q → Either (FixBox b x c) (down b m t) q
fix_back_row b x c m (again u s ∷ t) q h = got _ _ _ _ h (inr fix_again)
fix_back_row b x c m _ q h = cc

fix_var_row : (b x c : ℕ) (m : Work) (t : Boxes) (q : Place) → fix_var b m t ≡ Some q → Either (FixBox b x c) (down x m t) q
fix_var_row b x c (S s ∷ m) (u ∷ t) q h = got _ _ _ _ h (inl fix_again)
fix_var_row b x c _ _ q h = cc

fst_down_row : (a c : ℕ) (m : Work) (t : Boxes) (q : Place) → fst_down c m t ≡ Some q → Either (Proj Left a c) (down a m t) q
fst_down_row a c (L ∷ m) t q h = got _ _ _ _ h (inr fst_in)
fst_down_row a c _ t q h = cc

snd_down_row : (a c : ℕ) (m : Work) (t : Boxes) (q : Place) → snd_down c m t ≡ Some q → Either (Proj Right a c) (down a m t) q
snd_down_row a c (R ∷ m) t q h = got _ _ _ _ h (inr snd_in)
snd_down_row a c _ t q h = cc

-- and so it is down a premise
down_row : (n : Node) (w : ℕ) (m : Work) (t : Boxes) (q : Place) → Among w (premises n) → plain_down n w m t ≡ Some q
    → Either n (down w m t) q
down_row (Con l r c) w m t q among found =
    ⊎_elim (λ (e, g). at_down _ m t q l w e (con_left_row l r c m t q g))
    (λ (e, g). at_down _ m t q r w e (con_right_row l r c m t q g))
    (two l r w _ _ q found)
down_row (Lam b x c) w m t q among found =
    ⊎_elim (λ (e, g). at_down _ m t q b w e (got _ _ _ _ g (inr lam_body)))
    (λ (e, g). at_down _ m t q x w e (lam_var_row b x c m t q g))
    (two b x w _ _ q found)
down_row (App f x c) w m t q among found =
    ⊎_elim (λ (e, g). at_down _ m t q f w e (app_fun_row f x c m t q g)) (λ (e, g). at_down _ m t q x w e (app_arg_row f x c m t q g))
    (two f x w _ _ q found)
down_row (FixBox b x c) w m t q among found =
    ⊎_elim (λ (e, g). at_down _ m t q b w e (fix_out_row b x c m t q g))
    (λ r. ⊎_elim (λ (e, g). at_down _ m t q x w e (fix_var_row b x c m t q g))
    (λ (e, g). at_down _ m t q b w e (fix_back_row b x c m t q g)) (two x b w _ _ q r))
    (at_first b w _ _ q found)
down_row (Pair a b c) w m t q among found =
    ⊎_elim (λ (e, g). at_down _ m t q a w e (got _ _ _ _ g (inr pair_left)))
    (λ (e, g). at_down _ m t q b w e (got _ _ _ _ g (inr pair_right))) (two a b w _ _ q found)
down_row (Proj Left a c) w m t q (inl e) found = at_down _ m t q a w e (fst_down_row a c m t q found)
down_row (Proj Right a c) w m t q (inl e) found = at_down _ m t q a w e (snd_down_row a c m t q found)
down_row (Proj d a c) w m t q (inr e) found = elim e [ ]
down_row (BoxNode i o) w m t q (inl e) found = at_down _ m t q i w e (box_down_row i o m t q found)
down_row (Door i o) w m t q (inl e) found = at_down _ m t q i w e (door_down_row i o m t q found)
down_row (BoxNode i o) w m t q (inr e) found = elim e [ ]
down_row (Door i o) w m t q (inr e) found = elim e [ ]
down_row n w m t q among found = cc

pub from_found : {A : Type 0} (o : Option (ℕ × Node)) (f : ℕ → Node → Option A) (r : A) → on_found o None f ≡ Some r
    → (i : ℕ) × (n : Node) × (o ≡ Some (i, n)) × (f i n ≡ Some r)
from_found None f r h = cc
from_found (Some p) f r h = (p.0, p.1, refl, h)

-- a sound net: a plain rule is a row of the node that is faced, and the row's other way leads back
module _ (net : NetTree) (sound : Sound net) where
  -- each plain move is a row or its other way, at a node of the net
  pub plain_row : (p q : Place) → plain net p ≡ Some q → (n : Node) × Faced net n × Either n p q
  plain_row (up w m t) q h =
      let (i, n, e, g) = from_found (node_above net w) (λ i n. plain_up n w m t) q h in
      let (f, _, a) = above_faced net sound w i n e in
      (n, f, up_row n w m t q a g)
  plain_row (down w m t) q h =
      let (i, n, e, g) = from_found (node_below net w) (λ i n. plain_down n w m t) q h in
      let (f, _, a) = below_faced net sound w i n e in
      (n, f, down_row n w m t q a g)

-- turned twice is as before
pub turned_twice : (p : Place) → turned (turned p) ≡ p
turned_twice (up w m t) = refl
turned_twice (down w m t) = refl

-- retrace
pub retrace : (net : NetTree) → Sound net → (p q : Place) → plain net p ≡ Some q → plain net (turned q) ≡ Some (turned p)
retrace net sound p q h =
    let (n, f, r) = plain_row net sound p q h in
    ⊎_elim (λ a. (row_leads net n p q f a).1) (λ b. (row_leads net n (turned q) (turned p) f b).0) r
