-- What is read is no higher than the bound, and no larger than the list of nodes.
use Rattle.std.proofs.Common.{◌≡◌, ℕ, zero, suc, ◌+◌, ◌≤◌, max, Bool, true, false, List, [], ◌∷◌, length, Option, Some, None, refl, subst}
use Rattle.std.proofs.Common.{arith}
use Rattle.std.specs.Prelude.{◌-◌, nat_eq, nat_lt, reverse, replicate, if◌then◌else◌}
use Rattle.std.proofs.lemmas.List.{length-reverse}
use Rattle.pcf_values.specs.Terms.{TermTree, var, succ_of, pred_of, binary, ifz, lam, fix, app, pair, proj, size}
use Rattle.pcf_values.specs.Terms.{height}
use Rattle.net_build.specs.declared.node.Node.{Node}
use Rattle.net_build.specs.declared.node.Node.TheVariants.{Const, Succ, Pred, Ifz, Der, Con, Weak, Lam, App, BoxNode, Binary, Proj}
use Rattle.net_build.specs.declared.node.Node.TheVariants.{Door, FixBox, Root, Pair}
use Rattle.net_build.specs.Nets.{WireTree, NetTree}
use Rattle.net_build.specs.NetOf.{domain}
use Rattle.net_marks.specs.declared.walk.Mark.{Mark}
use Rattle.net_marks.specs.Passing.{mark, mark_at, shared, entered, Rest, rest, pass, value_of}
use Rattle.net_marks.specs.Reads.{Read, read}
use Rattle.net_terms.specs.TermOf.{type_at, met, one, two, three}
use Rattle.net_terms.specs.TermOf.{Reader, set_marked, start, reading, term_in, from_root, candidate}

-- the term is no higher than h, and its size and the nodes that are left are together no more than c
abbrev pub Fits : ℕ → ℕ → Option Read → Type 0
Fits h c None = Unit {0}
Fits h c (Some r) = (height r.term ≤ h) × (size r.term + length r.nodes ≤ c)

-- a larger bound on the size
fits_more : (h c d : ℕ) (o : Option Read) → c ≤ d → Fits h c o → Fits h d o
fits_more h c d None l f = tt
fits_more h c d (Some r) l f = (f.0, omega (arith, f.1, l))

-- what is kept by a test
fits_if : (b : Bool) (h c : ℕ) (o : Option Read) → Fits h c o → Fits h c (if b then o else None)
fits_if true h c o f = f
fits_if false h c o f = tt

-- one operand
one_fits : (f : TermTree → TermTree) (h c : ℕ) (o : Option Read) → ((a : TermTree) → height (f a) ≡ suc (height a))
    → ((a : TermTree) → size (f a) ≡ suc (size a)) → Fits h c o → Fits (suc h) (suc c) (one f o)
one_fits f h c None p q i = tt
one_fits f h c (Some r) p q i = (omega (arith, p r.term, i.0), omega (arith, q r.term, i.1))

-- a second operand after a first; k is what both left
last_fits : (f : TermTree → TermTree) (h c k s : ℕ) (o : Option Read) → ((a : TermTree) → height a ≤ h → height (f a) ≤ suc h)
    → ((a : TermTree) → size (f a) ≡ suc (size a + s)) → s + k ≤ c → Fits h k o → Fits (suc h) (suc c) (one f o)
last_fits f h c k s None p q l i = tt
last_fits f h c k s (Some r) p q l i = (p r.term i.0, omega (arith, q r.term, i.1, l))

-- two operands
two_fits : (f : TermTree → TermTree → TermTree) (h c : ℕ) (rd : List Node → List Mark → Option Read) (o : Option Read)
    → ((a b : TermTree) → height (f a b) ≡ suc (max (height a) (height b))) → ((a b : TermTree) → size (f a b) ≡ suc (size a + size b)) →
    ((ns : List Node) (ms : List Mark) → Fits h (length ns) (rd ns ms)) → Fits h c o → Fits (suc h) (suc c) (two f rd o)
two_fits f h c rd None p q r i = tt
two_fits f h c rd (Some b) p q r i =
    last_fits (λ a. f a b.term) h c (length b.nodes) (size b.term) (rd b.nodes b.marks) (λ a l. omega (arith, p a b.term, l, i.0))
    (λ a. q a b.term) i.1 (r b.nodes b.marks)

-- the first two of three operands, behind the last
three_rest : (h c k : ℕ) (b : TermTree) (rd : List Node → List Mark → Option Read) (o : Option Read) → height b ≤ h → size b + k ≤ c →
    ((ns : List Node) (ms : List Mark) → Fits h (length ns) (rd ns ms)) → Fits h k o → Fits (suc h) (suc c) (two (λ x a. ifz x a b) rd o)
three_rest h c k b rd None p q r i = tt
three_rest h c k b rd (Some a) p q r i =
    last_fits (λ x. ifz x a.term b) h c (length a.nodes) (size a.term + size b) (rd a.nodes a.marks) (λ x l. omega (arith, l, i.0, p))
    (λ x. omega arith) (omega (arith, i.1, q)) (r a.nodes a.marks)

-- three operands
three_fits : (h c : ℕ) (rd rd' : List Node → List Mark → Option Read) (o : Option Read)
    → ((ns : List Node) (ms : List Mark) → Fits h (length ns) (rd ns ms))
    → ((ns : List Node) (ms : List Mark) → Fits h (length ns) (rd' ns ms)) → Fits h c o →
    Fits (suc h) (suc c) (three ifz rd rd' o)
three_fits h c rd rd' None r r' i = tt
three_fits h c rd rd' (Some b) r r' i = three_rest h c (length b.nodes) b.term rd (rd' b.nodes b.marks) i.0 i.1 r (r' b.nodes b.marks)

-- at a box that is passed or not
box_shorter : (b : Bool) (n : ℕ) (r s : Rest) → length r.nodes ≤ n → length s.nodes ≤ suc n → length (if b then r else s).nodes ≤ suc n
box_shorter true n r s p q = omega (arith, p)
box_shorter false n r s p q = q

-- passing leaves no more nodes
pass_shorter : (a e u : ℕ) (ns : List Node) (ms : List Mark) → length (pass a e u ns ms).nodes ≤ length ns
pass_shorter a e u [] ms = omega arith
pass_shorter a e u (Con l r w ∷ ns) ms = omega (arith, pass_shorter a e u ns (shared l r w ms))
pass_shorter a e u (Weak x ∷ ns) ms = omega (arith, pass_shorter a e u ns ms)
pass_shorter a e u (Door i o ∷ ns) ms = omega (arith, pass_shorter a e u ns (entered a e i o ms))
pass_shorter a e u (BoxNode i o ∷ ns) ms =
    box_shorter (nat_eq o u) (length ns) (pass e (suc o) i ns ms) (rest e u (BoxNode i o ∷ ns) ms) (pass_shorter e (suc o) i ns ms)
    (omega arith)
pass_shorter a e u (n ∷ ns) ms = omega arith

-- a term by its own node
start_fits : (ws : List WireTree) (rd : Reader) (h k e : ℕ) (ns : List Node) (ms : List Mark)
    → ((k a e u : ℕ) (ns : List Node) (ms : List Mark) → Fits h (length ns) (rd k a e u ns ms))
    → Fits (suc h) (length ns) (start ws rd k e ns ms)
start_fits ws rd h k e [] ms r = tt
start_fits ws rd h k e (Const v w ∷ ns) ms r = (omega arith, omega arith)
start_fits ws rd h k e (Der w x ∷ ns) ms r =
    let m = mark_at ms x in
    let v = Some (read (var (k - suc m.level)) ns ms) in
    let f : Fits (suc h) (length (Der w x ∷ ns)) v = (omega arith, omega arith) in
    fits_if (nat_eq m.place e) (suc h) (length (Der w x ∷ ns)) (if nat_lt m.level k then v else None)
    (fits_if (nat_lt m.level k) (suc h) (length (Der w x ∷ ns)) v f)
start_fits ws rd h k e (Succ a w ∷ ns) ms r = one_fits succ_of h (length ns) (rd k e e a ns ms) (λ a. refl) (λ a. refl) (r k e e a ns ms)
start_fits ws rd h k e (Pred a w ∷ ns) ms r = one_fits pred_of h (length ns) (rd k e e a ns ms) (λ a. refl) (λ a. refl) (r k e e a ns ms)
start_fits ws rd h k e (Proj side a w ∷ ns) ms r =
    one_fits (proj side) h (length ns) (rd k e e a ns ms) (λ a. refl) (λ a. refl) (r k e e a ns ms)
start_fits ws rd h k e (Binary o a b w ∷ ns) ms r =
    two_fits (binary o) h (length ns) (rd k e e a) (rd k e e b ns ms) (λ a b. refl) (λ a b. refl) (r k e e a) (r k e e b ns ms)
start_fits ws rd h k e (App f a w ∷ ns) ms r =
    two_fits app h (length ns) (rd k e e f) (rd k e e a ns ms) (λ a b. refl) (λ a b. refl) (r k e e f) (r k e e a ns ms)
start_fits ws rd h k e (Pair a b w ∷ ns) ms r =
    two_fits pair h (length ns) (rd k e e a) (rd k e e b ns ms) (λ a b. refl) (λ a b. refl) (r k e e a) (r k e e b ns ms)
start_fits ws rd h k e (Ifz c p q w ∷ ns) ms r =
    three_fits h (length ns) (rd k e e c) (rd k e e p) (rd k e e q ns ms) (r k e e c) (r k e e p) (r k e e q ns ms)
start_fits ws rd h k e (Lam b x w ∷ ns) ms r =
    one_fits (lam (domain (type_at ws w))) h (length ns) (rd (suc k) e e b ns (set_marked ms x k e)) (λ a. refl) (λ a. refl)
    (r (suc k) e e b ns (set_marked ms x k e))
start_fits ws rd h k e (FixBox b x w ∷ ns) ms r =
    one_fits (fix (type_at ws w)) h (length ns) (rd (suc k) e (suc w) b ns (set_marked ms x k (suc w))) (λ a. refl) (λ a. refl)
    (r (suc k) e (suc w) b ns (set_marked ms x k (suc w)))
start_fits ws rd h k e (n ∷ ns) ms r = tt

-- the same, where its wire is the wanted one
met_fits : (h c want : ℕ) (ns : List Node) (o : Option Read) → Fits h c o → Fits h c (met want ns o)
met_fits h c want [] o f = tt
met_fits h c want (n ∷ ns) o f = fits_if (nat_eq (value_of n) want) h c o f

-- any reading
reading_fits : (ws : List WireTree) (h k a e u : ℕ) (ns : List Node) (ms : List Mark) → Fits h (length ns) (reading ws h k a e u ns ms)
reading_fits ws zero k a e u ns ms = tt
reading_fits ws (suc h) k a e u ns ms =
    let p = pass a e u ns ms in
    let s = start ws (reading ws h) k p.place p.nodes p.marks in
    met_fits (suc h) (length ns) p.want p.nodes s
    (fits_more (suc h) (length p.nodes) (length ns) s (pass_shorter a e u ns ms)
    (start_fits ws (reading ws h) h k p.place p.nodes p.marks (reading_fits ws h)))

-- of the term that there is
abbrev pub Bounded : ℕ → ℕ → Option TermTree → Type 0
Bounded h c None = Unit {0}
Bounded h c (Some m) = (height m ≤ h) × (size m ≤ c)

-- the term alone
term_bounded : (h c d : ℕ) (o : Option Read) → c ≤ d → Fits h c o → Bounded h d (term_in o)
term_bounded h c d None l f = tt
term_bounded h c d (Some r) l f = (f.0, omega (arith, f.1, l))

-- below the root
root_bounded : (h : ℕ) (ws : List WireTree) (ns : List Node) → Bounded h (length ns) (from_root h ws ns)
root_bounded h ws [] = tt
root_bounded h ws (Root w ∷ ns) =
    let ms = replicate (length ws) (mark 0 0) in
    term_bounded h (length ns) (length (Root w ∷ ns)) (reading ws h 0 0 0 w ns ms) (omega arith) (reading_fits ws h 0 0 0 w ns ms)
root_bounded h ws (n ∷ ns) = tt

-- The term that is read is bounded.
pub bounded : (h : ℕ) (net : NetTree) → Bounded h (length net.nodes) (candidate h net)
bounded h net = subst (λ c. Bounded h c (candidate h net)) (length-reverse net.nodes) (root_bounded h net.wires (reverse net.nodes))
