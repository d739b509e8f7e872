-- From the net of a typed term, the walk reads that term.
use Rattle.std.proofs.Common.{◌≡◌, ℕ, zero, suc, ◌+◌, ◌-◌, ◌≤◌, max, List, [], ◌∷◌, ◌++◌, length, Option, Some, None, refl, sym, ap, ◌∙◌}
use Rattle.std.proofs.Common.{arith}
use Rattle.std.specs.Prelude.{replicate, nat_lt, if◌then◌else◌, slice_get}
use Rattle.std.proofs.Math.Nat.{le-max_left, le-max_right}
use Rattle.std.proofs.lemmas.Bool.{eq-eqb, lt-ltb}
use Rattle.std.proofs.lemmas.List.{reverse-append, length-replicate}
use Rattle.pcf_values.specs.declared.operator.Operator.{Operator}
use Rattle.pcf_values.specs.Terms.{TyTree, nat, arrow, product, TermTree, num, var, succ_of, pred_of, binary}
use Rattle.pcf_values.specs.declared.side.Side.{Side}
use Rattle.pcf_values.specs.Terms.{ifz, lam, fix, app, pair, proj, height}
use Rattle.pcf_values.specs.Typing.{HasType}
use Rattle.net_build.specs.declared.node.Node.{Node}
use Rattle.net_build.specs.declared.node.Node.TheVariants.{Succ, Pred, Pair, Root, Binary, Proj}
use Rattle.net_build.specs.Nets.{WireTree}
use Rattle.net_build.specs.NetOf.{part, net_of, one_free, side_type}
use Rattle.net_build.proofs.Count.{aligned}
use Rattle.net_marks.specs.declared.walk.Mark.{Mark}
use Rattle.net_marks.specs.Passing.{mark, mark_at}
use Rattle.net_marks.specs.Reads.{Read, read, variable}
use Rattle.net_terms.specs.TermOf.{one, two, reading, term_in, from_root, candidate}
use Rattle.net_terms.proofs.Marking.{Marked}
use Rattle.net_terms.proofs.Loose.{part_loose}
use Rattle.net_terms.proofs.Steps.{same_met, Readable, Held, held_left, held_right, unary_reads, double_reads, ifz_reads, lam_reads}
use Rattle.net_terms.proofs.Steps.{fix_reads, app_reads}

-- the mark of a variable that alone is used
one_marked : (e : ℕ) (g : List TyTree) (i x : ℕ) (a : TyTree) (ms : List Mark) → slice_get g i ≡ Some a → Marked e g (one_free g i x) ms
    → (l : ℕ) × (mark_at ms x ≡ mark l e) × (length g ≡ suc (l + i))
one_marked e [] i x a ms h k = cc
one_marked e (t ∷ g) zero x a ms h k = (length g, k.0, omega arith)
one_marked e (t ∷ g) (suc i) x a ms h k = let (l, m, s) = one_marked e g i x a ms h k in (l, m, omega (arith, s))

-- its index again
index_is : (k place i l : ℕ) (ns : List Node) (ms : List Mark) → k ≡ suc (l + i)
    → variable k place (mark l place) ns ms ≡ Some (read (var i) ns ms)
index_is k place i l ns ms h =
    let v : Option Read = Some (read (var (k - suc l)) ns ms) in
    ap (λ b. if b then (if nat_lt l k then v else None) else None) (eq-eqb place place refl)
    ∙ ap (λ b. if b then v else None) (lt-ltb l k (omega (arith, h)))
    ∙ ap (λ i. Some (read (var i) ns ms)) (omega (arith, h))

-- the node of an operator is read as the operator
binary_step : (ws : List WireTree) (h : ℕ) (o : Operator) (x y w k around e : ℕ) (ns : List Node) (ms : List Mark)
    → reading ws (suc h) k around e w (Binary o x y w ∷ ns) ms ≡ two (binary o) (reading ws h k e e x) (reading ws h k e e y ns ms)
binary_step ws h o x y w k around e ns ms = same_met w (two (binary o) (reading ws h k e e x) (reading ws h k e e y ns ms))

-- the node that takes a part of a pair is read so
proj_step : (ws : List WireTree) (h : ℕ) (s : Side) (a w k around e : ℕ) (ns : List Node) (ms : List Mark)
    → reading ws (suc h) k around e w (Proj s a w ∷ ns) ms ≡ one (proj s) (reading ws h k e e a ns ms)
proj_step ws h s a w k around e ns ms = same_met w (one (proj s) (reading ws h k e e a ns ms))

-- two pieces in front of others
first_two : (ws : List WireTree) (n : ℕ) (a b c : List WireTree) → Held ws n (a ++ (b ++ c)) → Held ws n a × Held ws (n + length a) b
first_two ws n a b c h = (held_left ws n a (b ++ c) h, held_left ws (n + length a) b c (held_right ws n a (b ++ c) h))

-- Each typed part is read from its nodes.
pub reads : (m : TermTree) (ws : List WireTree) (h n d : ℕ) (g : List TyTree) (a : TyTree) → HasType g m a → height m ≤ h
    → Held ws n (part n d g m).wires → Readable ws h g m n (part n d g m)
reads (num v) ws zero n d g a t u held = absurd (omega (arith, u))
reads (var i) ws zero n d g a t u held = absurd (omega (arith, u))
reads (succ_of m) ws zero n d g a t u held = absurd (omega (arith, u))
reads (pred_of m) ws zero n d g a t u held = absurd (omega (arith, u))
reads (binary o m l) ws zero n d g a t u held = absurd (omega (arith, u))
reads (ifz i m l) ws zero n d g a t u held = absurd (omega (arith, u))
reads (lam b m) ws zero n d g a t u held = absurd (omega (arith, u))
reads (fix b m) ws zero n d g a t u held = absurd (omega (arith, u))
reads (app m l) ws zero n d g a t u held = absurd (omega (arith, u))
reads (pair m l) ws zero n d g a t u held = absurd (omega (arith, u))
reads (proj s m) ws zero n d g a t u held = absurd (omega (arith, u))
reads (num v) ws (suc h) n d g a t u held = λ around e more ms mk room. record {
  marks = ms;
  is = same_met n (Some (read (num v) more ms));
  kept = λ y l. refl;
  count = refl;
}
reads (var i) ws (suc h) n d g a t u held = λ around e more ms mk room.
    let (l, m, s) = one_marked e g i (suc n) a ms t mk in
    record {
      marks = ms;
      is = same_met n (variable (length g) e (mark_at ms (suc n)) more ms) ∙ ap (λ m. variable (length g) e m more ms) m
          ∙ index_is (length g) e i l more ms s;
      kept = λ y l. refl;
      count = refl;
    }
reads (succ_of m) ws (suc h) n d g a t u held =
    unary_reads ws succ_of Succ nat h n d g m (part n d g m) (λ a w k around e ns ms. same_met w (one succ_of (reading ws h k e e a ns ms)))
    (reads m ws h n d g nat t.0 (omega (arith, u)) (held_left ws n (part n d g m).wires _ held))
reads (pred_of m) ws (suc h) n d g a t u held =
    unary_reads ws pred_of Pred nat h n d g m (part n d g m) (λ a w k around e ns ms. same_met w (one pred_of (reading ws h k e e a ns ms)))
    (reads m ws h n d g nat t.0 (omega (arith, u)) (held_left ws n (part n d g m).wires _ held))
reads (proj s m) ws (suc h) n d g a t u held =
    unary_reads ws (proj s) (Proj s) (side_type s (part n d g m).type) h n d g m (part n d g m) (proj_step ws h s)
    (reads m ws h n d g (product t.0 t.1) t.2 (omega (arith, u)) (held_left ws n (part n d g m).wires _ held))
reads (binary o m l) ws (suc h) n d g a t u held =
    let p = part n d g m in
    let n' = n + length p.wires in
    let q = part n' d g l in
    let w = first_two ws n p.wires q.wires _ held in
    double_reads ws (binary o) (Binary o) nat h n d g m l p q (binary_step ws h o) (part_loose m n d g nat t.0)
    (part_loose l n' d g nat t.1)
    (reads m ws h n d g nat t.0 (omega (arith, u, le-max_left (height m) (height l))) w.0)
    (reads l ws h n' d g nat t.1 (omega (arith, u, le-max_right (height m) (height l))) w.1)
reads (pair m l) ws (suc h) n d g a t u held =
    let p = part n d g m in
    let n' = n + length p.wires in
    let q = part n' d g l in
    let w = first_two ws n p.wires q.wires _ held in
    double_reads ws pair Pair (product p.type q.type) h n d g m l p q
    (λ x y w k around e ns ms. same_met w (two pair (reading ws h k e e x) (reading ws h k e e y ns ms))) (part_loose m n d g t.0 t.2)
    (part_loose l n' d g t.1 t.3)
    (reads m ws h n d g t.0 t.2 (omega (arith, u, le-max_left (height m) (height l))) w.0)
    (reads l ws h n' d g t.1 t.3 (omega (arith, u, le-max_right (height m) (height l))) w.1)
reads (ifz i m l) ws (suc h) n d g a t u held =
    let c = part n d g i in
    let n' = n + length c.wires in
    let p = part n' d g m in
    let n'' = n' + length p.wires in
    let q = part n'' d g l in
    let w = first_two ws n' p.wires q.wires _ (held_right ws n c.wires _ held) in
    ifz_reads ws h n d g i m l c p q (aligned i n d g) (aligned m n' d g) (aligned l n'' d g) (part_loose i n d g nat t.0)
    (part_loose m n' d g nat t.1) (part_loose l n'' d g nat t.2)
    (reads i ws h n d g nat t.0 (omega (arith, u, le-max_left (height i) (max (height m) (height l)))) (held_left ws n c.wires _ held))
    (reads m ws h n' d g nat t.1 (omega (arith, u, le-max_right (height i) (max (height m) (height l)), le-max_left (height m) (height l)))
    w.0)
    (reads l ws h n'' d g nat t.2
    (omega (arith, u, le-max_right (height i) (max (height m) (height l)), le-max_right (height m) (height l))) w.1)
reads (lam b m) ws (suc h) n d g a t u held =
    let p = part n d (b ∷ g) m in
    lam_reads ws h n d b g m p (part_loose m n d (b ∷ g) t.0 t.1) held
    (reads m ws h n d (b ∷ g) t.0 t.1 (omega (arith, u)) (held_left ws n p.wires _ held))
reads (fix b m) ws (suc h) n d g a t u held =
    let p = part n (suc d) (b ∷ g) m in
    fix_reads ws h n d g b m p (part_loose m n (suc d) (b ∷ g) b t.0) held
    (reads m ws h n (suc d) (b ∷ g) b t.0 (omega (arith, u)) (held_left ws n p.wires _ held))
reads (app m l) ws (suc h) n d g a t u held =
    let p = part n d g m in
    let n' = n + length p.wires in
    let q = part n' (suc d) g l in
    let w = first_two ws n p.wires q.wires _ held in
    app_reads ws h n d g m l p q (part_loose m n d g (arrow t.0 a) t.1) (part_loose l n' (suc d) g t.0 t.2)
    (reads m ws h n d g (arrow t.0 a) t.1 (omega (arith, u, le-max_left (height m) (height l))) w.0)
    (reads l ws h n' (suc d) g t.0 t.2 (omega (arith, u, le-max_right (height m) (height l))) w.1)

-- a list holds its own wires
held_behind : (k : WireTree) (ws us : List WireTree) (n : ℕ) → Held ws n us → Held (k ∷ ws) (suc n) us
held_behind k ws [] n h = tt
held_behind k ws (u ∷ us) n h = (h.0, held_behind k ws us (suc n) h.1)

-- the wires of a list are its own
pub held_self : (ws : List WireTree) → Held ws 0 ws
held_self [] = tt
held_self (k ∷ ws) = (refl, held_behind k ws ws 0 (held_self ws))

-- The net of a closed term of type `nat` gives that term again, where its height is within the bound.
pub complete : (h : ℕ) (m : TermTree) → HasType [] m nat → height m ≤ h → candidate h (net_of m) ≡ Some m
complete h m t u =
    let p = part zero zero [] m in
    let ms = replicate (length p.wires) (mark 0 0) in
    let room : 0 + length p.wires ≤ length ms = omega (arith, length-replicate (length p.wires) (mark 0 0)) in
    let r = reads m p.wires h zero zero [] nat t u (held_self p.wires) zero zero [] ms tt room in
    ap (from_root h p.wires) (reverse-append p.nodes (Root p.out ∷ [])) ∙ ap term_in r.is

-- the term that there is
abbrev pub term_or : TermTree → Option TermTree → TermTree
term_or m None = m
term_or m (Some l) = l

-- No two such terms have one net.
pub one_term : (m l : TermTree) → HasType [] m nat → HasType [] l nat → net_of m ≡ net_of l → m ≡ l
one_term m l t u e =
    let h = max (height m) (height l) in
    ap (term_or m) (sym (complete h m t (le-max_left (height m) (height l))) ∙ ap (candidate h) e
    ∙ complete h l u (le-max_right (height m) (height l)))
