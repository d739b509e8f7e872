-- What the nodes between a term and its operands do to the marks.
use Rattle.std.proofs.Common.{◌≡◌, ℕ, suc, ◌+◌, ◌<◌, ◌≤◌, List, [], ◌∷◌, ◌++◌, length, Option, Some, None, refl, sym, ap, ◌∙◌, inl, inr}
use Rattle.std.proofs.Common.{arith}
use Rattle.std.specs.Prelude.{nat_eq, if◌then◌else◌, slice_set}
use Rattle.std.proofs.lemmas.Bool.{eq-eqb, cases_lt}
use Rattle.std.proofs.lemmas.List.{length-set, get_or-set_same, get_or-set_other}
use Rattle.pcf_values.specs.Terms.{TyTree}
use Rattle.net_build.specs.declared.node.Node.{Node}
use Rattle.net_build.specs.declared.node.Node.TheVariants.{Con, Door}
use Rattle.net_build.specs.NetOf.{contract, doors, bound, bound_wire}
use Rattle.net_build.proofs.Count.{ends}
use Rattle.net_marks.specs.declared.walk.Mark.{Mark}
use Rattle.net_marks.specs.Passing.{mark, mark_at, entered, pass}

-- a list, the last one first, in front of another
abbrev pub back : {A : Type 0} → List A → List A → List A
back [] more = more
back (x ∷ xs) more = back xs (x ∷ more)

-- two lists of nodes, the last first
pub back_append : {A : Type 0} → (xs ys more : List A) → back (xs ++ ys) more ≡ back ys (back xs more)
back_append [] ys more = refl
back_append (x ∷ xs) ys more = back_append xs ys (x ∷ more)

-- whether two numbers are one, as a number
abbrev pub hit : ℕ → ℕ → ℕ
hit x y = if nat_eq x y then 1 else 0

-- a wire counts for itself
pub hit_same : (x : ℕ) → hit x x ≡ 1
hit_same x = ap (λ b. if b then 1 else 0) (eq-eqb x x refl)

-- and for no other
pub hit_apart : (x y : ℕ) → hit x y ≡ 0 → y ≡ x → ⊥
hit_apart x y h e = omega (arith, h, sym (ap (hit x) e), hit_same x)

-- the variable wires of a part, marked with their binders and with the part's box
abbrev pub Marked : ℕ → List TyTree → List (Option ℕ) → List Mark → Type 0
Marked e [] f ms = Unit {0}
Marked e (t ∷ g) [] ms = Unit {0}
Marked e (t ∷ g) (None ∷ f) ms = Marked e g f ms
Marked e (t ∷ g) (Some x ∷ f) ms = (mark_at ms x ≡ mark (length g) e) × Marked e g f ms

-- they stay so where their marks stay
pub marked_kept : (e : ℕ) (g : List TyTree) (f : List (Option ℕ)) (ms new : List Mark)
    → ((y : ℕ) → 0 < ends f y → mark_at new y ≡ mark_at ms y) → Marked e g f ms → Marked e g f new
marked_kept e [] f ms new k h = tt
marked_kept e (t ∷ g) [] ms new k h = tt
marked_kept e (t ∷ g) (None ∷ f) ms new k h = marked_kept e g f ms new k h
marked_kept e (t ∷ g) (Some x ∷ f) ms new k h =
    (k x (omega (arith, hit_same x)) ∙ h.0, marked_kept e g f ms new (λ y l. k y (omega (arith, l))) h.1)

-- a mark set at a wire
pub set_here : (ms : List Mark) (x : ℕ) (m : Mark) → x < length ms → mark_at (slice_set ms x m) x ≡ m
set_here ms x m h = get_or-set_same ms x m (mark 0 0) h

-- other marks are kept
pub set_elsewhere : (ms : List Mark) (x y : ℕ) (m : Mark) → hit x y ≡ 0 → mark_at (slice_set ms x m) y ≡ mark_at ms y
set_elsewhere ms x y m h = get_or-set_other ms x y m (mark 0 0) (hit_apart x y h)

-- What contractions leave: both lists are marked as the one list was, and no other mark has changed.
pub record Shares (around e : ℕ) (nodes ns : List Node) (ms : List Mark) (g : List TyTree) (f f' : List (Option ℕ)) : Type 0 where
  pub marks : List Mark
  pub passes : (want : ℕ) → pass around e want (back nodes ns) ms ≡ pass around e want ns marks
  pub left : Marked e g f marks
  pub right : Marked e g f' marks
  pub kept : (y : ℕ) → ends f y + ends f' y ≡ 0 → mark_at marks y ≡ mark_at ms y
  pub count : length marks ≡ length ms

-- what stands in a list is below what bounds it
pub inside : (x b k : ℕ) → (b ≤ x → k ≡ 0) → 0 < k → x < b
inside x b k h p = elim (cases_lt x b) [ inl l ↦ l | inr l ↦ absurd (omega (arith, h l, p)) ]

-- a contraction, for one variable
shares_one : (around e n l r : ℕ) (nodes ns : List Node) (ms : List Mark) (t : TyTree) (context : List TyTree) (f f' : List (Option ℕ))
    → (shared : Shares around e nodes (Con l r n ∷ ns) ms context f f') → mark_at shared.marks n ≡ mark (length context) e →
    ((y : ℕ) → (hit l y + ends f y) + (hit r y + ends f' y) ≤ 1) → l < length ms → r < length ms →
    Shares around e (Con l r n ∷ nodes) ns ms (t ∷ context) (Some l ∷ f) (Some r ∷ f')
shares_one around e n l r nodes ns ms t context f f' shared at_n once inside_l inside_r =
    let m = mark_at shared.marks n in
    let first = slice_set shared.marks l m in
    let last = slice_set first r m in
    let stays : (y : ℕ) → hit l y + hit r y ≡ 0 → mark_at last y ≡ mark_at shared.marks y =
    λ y z. set_elsewhere first r y m (omega (arith, z)) ∙ set_elsewhere shared.marks l y m (omega (arith, z)) in
    record {
      marks = last;
      passes = shared.passes;
      left = (
        set_elsewhere first r l m (omega (arith, once l, hit_same l)) ∙ set_here shared.marks l m (omega (arith, inside_l, shared.count))
            ∙ at_n,
        marked_kept e context f shared.marks last (λ y p. stays y (omega (arith, p, once y))) shared.left,
      );
      right = (
        set_here first r m (omega (arith, inside_r, shared.count, length-set shared.marks l m)) ∙ at_n,
        marked_kept e context f' shared.marks last (λ y p. stays y (omega (arith, p, once y))) shared.right,
      );
      kept = λ y z. stays y (omega (arith, z)) ∙ shared.kept y (omega (arith, z));
      count = length-set first r m ∙ length-set shared.marks l m ∙ shared.count;
    }

-- contractions hand on marks to both sides
pub shares : (n d around e : ℕ) (g : List TyTree) (f f' : List (Option ℕ)) (ns : List Node) (ms : List Mark)
    → Marked e g (contract n d g f f').free ms →
    ((y : ℕ) → ends f y + ends f' y ≤ 1) → ((y : ℕ) → n ≤ y → ends f y + ends f' y ≡ 0)
    → ((y : ℕ) → length ms ≤ y → ends f y + ends f' y ≡ 0) →
    Shares around e (contract n d g f f').nodes ns ms g f f'
shares n d around e [] f f' ns ms h once low room = record {
  marks = ms;
  passes = λ want. refl;
  left = tt;
  right = tt;
  kept = λ y z. refl;
  count = refl;
}
shares n d around e (t ∷ g) [] f' ns ms h once low room = record {
  marks = ms;
  passes = λ want. refl;
  left = tt;
  right = h;
  kept = λ y z. refl;
  count = refl;
}
shares n d around e (t ∷ g) (o ∷ f) [] ns ms h once low room = record {
  marks = ms;
  passes = λ want. refl;
  left = h;
  right = tt;
  kept = λ y z. refl;
  count = refl;
}
shares n d around e (t ∷ g) (None ∷ f) (None ∷ f') ns ms h once low room =
    let r = shares n d around e g f f' ns ms h once low room in
    record { marks = r.marks; passes = r.passes; left = r.left; right = r.right; kept = r.kept; count = r.count }
shares n d around e (t ∷ g) (None ∷ f) (Some x ∷ f') ns ms h once low room =
    let r = shares n d around e g f f' ns ms h.1 (λ y. omega (arith, once y)) (λ y l. omega (arith, low y l))
    (λ y l. omega (arith, room y l)) in
    record {
      marks = r.marks;
      passes = r.passes;
      left = r.left;
      right = (r.kept x (omega (arith, once x, hit_same x)) ∙ h.0, r.right);
      kept = λ y z. r.kept y (omega (arith, z));
      count = r.count;
    }
shares n d around e (t ∷ g) (Some x ∷ f) (None ∷ f') ns ms h once low room =
    let r = shares n d around e g f f' ns ms h.1 (λ y. omega (arith, once y)) (λ y l. omega (arith, low y l))
    (λ y l. omega (arith, room y l)) in
    record {
      marks = r.marks;
      passes = r.passes;
      left = (r.kept x (omega (arith, once x, hit_same x)) ∙ h.0, r.left);
      right = r.right;
      kept = λ y z. r.kept y (omega (arith, z));
      count = r.count;
    }
shares n d around e (t ∷ g) (Some l ∷ f) (Some r ∷ f') ns ms h once low room =
    let i = shares (suc n) d around e g f f' (Con l r n ∷ ns) ms h.1 (λ y. omega (arith, once y))
    (λ y k. omega (arith, low y (omega (arith, k)))) (λ y k. omega (arith, room y k)) in
    shares_one around e n l r (contract (suc n) d g f f').nodes ns ms t g f f' i (i.kept n (omega (arith, low n (omega arith))) ∙ h.0) once
    (inside l (length ms) (hit l l + ends f l + (hit r l + ends f' l)) (room l) (omega (arith, hit_same l)))
    (inside r (length ms) (hit l r + ends f r + (hit r r + ends f' r)) (room r) (omega (arith, hit_same r)))

-- What doors leave: inside the box the list is marked as it was around it.
pub record Enters (around e : ℕ) (nodes ns : List Node) (ms : List Mark) (g : List TyTree) (f : List (Option ℕ)) : Type 0 where
  pub marks : List Mark
  pub passes : (want : ℕ) → pass around e want (back nodes ns) ms ≡ pass around e want ns marks
  pub within : Marked e g f marks
  pub kept : (y : ℕ) → ends f y ≡ 0 → mark_at marks y ≡ mark_at ms y
  pub count : length marks ≡ length ms

-- a door, for one variable
enters_one : (around e n x : ℕ) (nodes ns : List Node) (ms : List Mark) (t : TyTree) (g : List TyTree) (f : List (Option ℕ))
    → (i : Enters around e nodes (Door x n ∷ ns) ms g f) → mark_at i.marks n ≡ mark (length g) around →
    ((y : ℕ) → hit x y + ends f y ≤ 1) → x < length ms →
    Enters around e (Door x n ∷ nodes) ns ms (t ∷ g) (Some x ∷ f)
enters_one around e n x nodes ns ms t g f i at_n once within =
    let m = mark (length g) e in
    let last = slice_set i.marks x m in
    let entry : entered around e x n i.marks ≡ last =
    ap (λ z. if nat_eq z.place around then slice_set i.marks x (mark z.level e) else i.marks) at_n
    ∙ ap (λ b. if b then last else i.marks) (eq-eqb around around refl) in
    let stays : (y : ℕ) → hit x y ≡ 0 → mark_at last y ≡ mark_at i.marks y = λ y z. set_elsewhere i.marks x y m z in
    record {
      marks = last;
      passes = λ want. i.passes want ∙ ap (pass around e want ns) entry;
      within = (
        set_here i.marks x m (omega (arith, within, i.count)),
        marked_kept e g f i.marks last (λ y p. stays y (omega (arith, p, once y))) i.within,
      );
      kept = λ y z. stays y (omega (arith, z)) ∙ i.kept y (omega (arith, z));
      count = length-set i.marks x m ∙ i.count;
    }

-- doors hand on marks to the inside
pub enters : (n d around e : ℕ) (g : List TyTree) (f : List (Option ℕ)) (ns : List Node) (ms : List Mark)
    → Marked around g (doors n d g f).free ms →
    ((y : ℕ) → ends f y ≤ 1) → ((y : ℕ) → n ≤ y → ends f y ≡ 0) → ((y : ℕ) → length ms ≤ y → ends f y ≡ 0) →
    Enters around e (doors n d g f).nodes ns ms g f
enters n d around e [] f ns ms h once low room = record { marks = ms; passes = λ want. refl; within = tt; kept = λ y z. refl; count = refl }
enters n d around e (t ∷ g) [] ns ms h once low room = record {
  marks = ms;
  passes = λ want. refl;
  within = tt;
  kept = λ y z. refl;
  count = refl;
}
enters n d around e (t ∷ g) (None ∷ f) ns ms h once low room =
    let r = enters n d around e g f ns ms h once low room in
    record { marks = r.marks; passes = r.passes; within = r.within; kept = r.kept; count = r.count }
enters n d around e (t ∷ g) (Some x ∷ f) ns ms h once low room =
    let i = enters (suc n) d around e g f (Door x n ∷ ns) ms h.1 (λ y. omega (arith, once y))
    (λ y k. omega (arith, low y (omega (arith, k)))) (λ y k. omega (arith, room y k)) in
    enters_one around e n x (doors (suc n) d g f).nodes ns ms t g f i (i.kept n (omega (arith, low n (omega arith))) ∙ h.0) once
    (inside x (length ms) (hit x x + ends f x) (room x) (omega (arith, hit_same x)))

-- a binder's wire, marked at the binder, and a Weak passed
pub weak_passes : (n d around e want : ℕ) (t : TyTree) (f : List (Option ℕ)) (ns : List Node) (ms : List Mark)
    → pass around e want (back (bound n d t f).nodes ns) ms ≡ pass around e want ns ms
weak_passes n d around e want t [] ns ms = refl
weak_passes n d around e want t (None ∷ f) ns ms = refl
weak_passes n d around e want t (Some x ∷ f) ns ms = refl

-- the body's list is marked where the others' are and the binder's wire is
pub body_marked : (n d e : ℕ) (t : TyTree) (g : List TyTree) (f : List (Option ℕ)) (ms : List Mark) → Marked e g (bound n d t f).free ms
    → mark_at ms (bound_wire n f) ≡ mark (length g) e → Marked e (t ∷ g) f ms
body_marked n d e t g [] ms h b = tt
body_marked n d e t g (None ∷ f) ms h b = h
body_marked n d e t g (Some x ∷ f) ms h b = (b, h)
