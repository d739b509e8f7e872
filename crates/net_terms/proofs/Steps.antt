-- A part is read where its operands are, whatever stands around it.
use Rattle.std.proofs.Common.{◌≡◌, ℕ, zero, suc, ◌+◌, ◌<◌, ◌≤◌, List, [], ◌∷◌, ◌++◌, length, length-append, Option, Some, None, refl, ap}
use Rattle.std.proofs.Common.{◌∙◌, subst, inl, inr, arith, le_trans, lt_of_lt_of_le}
use Rattle.std.specs.Prelude.{nat_eq, if◌then◌else◌, slice_get, slice_set}
use Rattle.std.proofs.lemmas.Bool.{cases_lt, eq-eqb}
use Rattle.std.proofs.lemmas.List.{length-set}
use Rattle.pcf_values.specs.Terms.{TyTree, nat, arrow, TermTree, ifz, lam, fix, app}
use Rattle.net_build.specs.declared.node.Node.{Node}
use Rattle.net_build.specs.declared.node.Node.TheVariants.{Ifz, Lam, App, BoxNode, FixBox}
use Rattle.net_build.specs.Nets.{WireTree, value_wire, bang_wire}
use Rattle.net_build.specs.NetOf.{Part, contract, doors, bound, bound_wire, domain, codomain, unary_part, double_part, ifz_part, lam_part}
use Rattle.net_build.specs.NetOf.{fix_part, app_part}
use Rattle.net_build.proofs.Count.{Aligned, ends}
use Rattle.net_marks.specs.declared.walk.Mark.{Mark}
use Rattle.net_marks.specs.Passing.{mark, mark_at, rest, pass}
use Rattle.net_marks.specs.Reads.{Read, read}
use Rattle.net_terms.specs.TermOf.{type_at, type_in, go_on, one, two, three, reading}
use Rattle.net_terms.proofs.Marking.{back, back_append, hit, hit_same, Marked, marked_kept, set_here, set_elsewhere, shares, enters}
use Rattle.net_terms.proofs.Marking.{weak_passes, body_marked}
use Rattle.net_terms.proofs.Loose.{hit_off, Loose, doors_loose, contract_loose, both_once, both_high, bound_once, bound_inside, bound_low}
use Rattle.net_terms.proofs.Loose.{bound_loose}

-- The term is read from these nodes, and no mark of a wire before its own has changed.
pub record Reads (ws : List WireTree) (h k around e : ℕ) (m : TermTree) (n out : ℕ) (nodes more : List Node) (ms : List Mark) : Type 0 where
  pub marks : List Mark
  pub is : reading ws h k around e out (back nodes more) ms ≡ Some (read m more marks)
  pub kept : (y : ℕ) → y < n → mark_at marks y ≡ mark_at ms y
  pub count : length marks ≡ length ms

-- wherever the part's variables are marked
abbrev pub Readable : List WireTree → ℕ → List TyTree → TermTree → ℕ → Part → Type 0
Readable ws h g m n p = (around e : ℕ) (more : List Node) (ms : List Mark) → Marked e g p.free ms → n + length p.wires ≤ length ms
    → Reads ws h (length g) around e m n p.out p.nodes more ms

-- what comes first may be passed first
pub reading_pass : (ws : List WireTree) (h k a e u b f v : ℕ) (ns ns' : List Node) (ms ms' : List Mark)
    → pass a e u ns ms ≡ pass b f v ns' ms' → reading ws h k a e u ns ms ≡ reading ws h k b f v ns' ms'
reading_pass ws zero k a e u b f v ns ns' ms ms' h = refl
reading_pass ws (suc i) k a e u b f v ns ns' ms ms' h = ap (go_on ws (reading ws i) k) h

-- the wire that is to come is met
pub same_met : (w : ℕ) (r : Option Read) → (if nat_eq w w then r else None) ≡ r
same_met w r = ap (λ b. if b then r else None) (eq-eqb w w refl)

-- the wires stand in the list, from this number on
abbrev pub Held : List WireTree → ℕ → List WireTree → Type 0
Held ws n [] = Unit {0}
Held ws n (k ∷ ks) = (slice_get ws n ≡ Some k) × Held ws (suc n) ks

-- the first piece of a list that is held
pub held_left : (ws : List WireTree) (n : ℕ) (a b : List WireTree) → Held ws n (a ++ b) → Held ws n a
held_left ws n [] b h = tt
held_left ws n (k ∷ a) b h = (h.0, held_left ws (suc n) a b h.1)

-- its second piece
pub held_right : (ws : List WireTree) (n : ℕ) (a b : List WireTree) → Held ws n (a ++ b) → Held ws (n + length a) b
held_right ws n [] b h = let e : n ≡ n + 0 = omega arith in subst (λ n. Held ws n b) e h
held_right ws n (k ∷ a) b h = let e : suc n + length a ≡ n + length (k ∷ a) =
    omega arith in subst (λ n. Held ws n b) e (held_right ws (suc n) a b h.1)

-- lists of two to five pieces, the last of one node
back_two : (a : List Node) (x : Node) (more : List Node) → back (a ++ x ∷ []) more ≡ x ∷ back a more
back_two a x more = back_append a (x ∷ []) more

-- three pieces
back_three : (a b : List Node) (x : Node) (more : List Node) → back (a ++ (b ++ x ∷ [])) more ≡ x ∷ back b (back a more)
back_three a b x more = back_append a (b ++ x ∷ []) more ∙ back_append b (x ∷ []) (back a more)

-- four pieces
back_four : (a b c : List Node) (x : Node) (more : List Node) → back (a ++ (b ++ (c ++ x ∷ []))) more ≡ x ∷ back c (back b (back a more))
back_four a b c x more = back_append a (b ++ (c ++ x ∷ [])) more ∙ back_three b c x (back a more)

-- five pieces
back_five : (a b c d : List Node) (x : Node) (more : List Node)
    → back (a ++ (b ++ (c ++ (d ++ x ∷ [])))) more ≡ x ∷ back d (back c (back b (back a more)))
back_five a b c d x more = back_append a (b ++ (c ++ (d ++ x ∷ []))) more ∙ back_four b c d x (back a more)

-- six pieces
back_six : (a b c d i : List Node) (x : Node) (more : List Node)
    → back (a ++ (b ++ (c ++ (d ++ (i ++ x ∷ []))))) more ≡ x ∷ back i (back d (back c (back b (back a more))))
back_six a b c d i x more = back_append a (b ++ (c ++ (d ++ (i ++ x ∷ [])))) more ∙ back_five b c d i x (back a more)

-- with a box among them
back_boxed : (a b c d : List Node) (y x : Node) (more : List Node)
    → back (a ++ (b ++ (c ++ (y ∷ (d ++ x ∷ []))))) more ≡ x ∷ back d (y ∷ back c (back b (back a more)))
back_boxed a b c d y x more =
    back_append a (b ++ (c ++ (y ∷ (d ++ x ∷ [])))) more ∙ back_append b (c ++ (y ∷ (d ++ x ∷ []))) (back a more)
    ∙ back_append c (y ∷ (d ++ x ∷ [])) (back b (back a more)) ∙ back_append d (x ∷ []) (y ∷ back c (back b (back a more)))

-- the length of two pieces
size_two : (a : List WireTree) (x : WireTree) → length (a ++ x ∷ []) ≡ length a + 1
size_two a x = length-append a (x ∷ [])

-- of three
size_three : (a b : List WireTree) (x : WireTree) → length (a ++ (b ++ x ∷ [])) ≡ length a + (length b + 1)
size_three a b x = omega (arith, length-append a (b ++ x ∷ []), size_two b x)

-- of four
size_four : (a b c : List WireTree) (x : WireTree) → length (a ++ (b ++ (c ++ x ∷ []))) ≡ length a + (length b + (length c + 1))
size_four a b c x = omega (arith, length-append a (b ++ (c ++ x ∷ [])), size_three b c x)

-- of five
size_five : (a b c d : List WireTree) (x : WireTree)
    → length (a ++ (b ++ (c ++ (d ++ x ∷ [])))) ≡ length a + (length b + (length c + (length d + 1)))
size_five a b c d x = omega (arith, length-append a (b ++ (c ++ (d ++ x ∷ []))), size_four b c d x)

-- of six
size_six : (a b c d i : List WireTree) (x : WireTree)
    → length (a ++ (b ++ (c ++ (d ++ (i ++ x ∷ []))))) ≡ length a + (length b + (length c + (length d + (length i + 1))))
size_six a b c d i x = omega (arith, length-append a (b ++ (c ++ (d ++ (i ++ x ∷ [])))), size_five b c d i x)

-- of five, with one wire among them
size_boxed : (a b c d : List WireTree) (y x : WireTree)
    → length (a ++ (b ++ (c ++ (y ∷ (d ++ x ∷ []))))) ≡ length a + (length b + (length c + (1 + (length d + 1))))
size_boxed a b c d y x = omega (
  arith,
  length-append a (b ++ (c ++ (y ∷ (d ++ x ∷ [])))),
  length-append b (c ++ (y ∷ (d ++ x ∷ []))),
  length-append c (y ∷ (d ++ x ∷ [])),
  size_two d x,
)

-- The numbers behind each of four pieces of wires, one behind the other from n on, are at most m.
record Within (n a b c d m : ℕ) : Type 0 where
  first : n + a ≤ m
  second : n + a + b ≤ m
  third : n + a + b + c ≤ m
  fourth : n + a + b + c + d ≤ m

-- they are so where the whole list fits
within : (l n a b c d r m : ℕ) → l ≡ a + (b + (c + (d + r))) → n + l ≤ m → Within n a b c d m
within l n a b c d r m size room =
    record { first = omega arith; second = omega arith; third = omega arith; fourth = omega arith }

-- numbers are in order
level : (n : ℕ) → n ≤ n
level n = omega arith

-- the next number is not before
next : (n : ℕ) → n ≤ suc n
next n = omega arith

-- nor is a sum
up : (n a : ℕ) → n ≤ n + a
up n a = omega arith

-- nor a sum of three
up_two : (n a b : ℕ) → n ≤ n + a + b
up_two n a b = omega arith

-- what is before an earlier number is before a later one
before : (y n a : ℕ) → y < n → y < n + a
before y n a u = omega arith

-- a bound on one length bounds another that is the same
as_long : (n a b : ℕ) → b ≡ a → n ≤ a → n ≤ b
as_long n a b e u = omega arith

-- none here and none there
both_none : (a b : ℕ) → a ≡ 0 → b ≡ 0 → a + b ≡ 0
both_none a b u v = omega arith

-- of at most one in all, one is there and none here
none_here : (a b : ℕ) → 0 < b → a + b ≤ 1 → a ≡ 0
none_here a b u v = omega arith

-- one is here and none there
none_there : (a b : ℕ) → a ≡ 1 → a + b ≤ 1 → b ≡ 0
none_there a b u v = omega arith

-- a wire before all of a list is none of them
not_among : (n b v : ℕ) (f : List (Option ℕ)) → Loose n b f → v < n → (y : ℕ) → 0 < ends f y → hit v y ≡ 0
not_among n b v f l j y u = hit_off v y (λ e. omega (arith, u, l.low y (omega (arith, e, j))))

-- marks are as many as before where they are so after each of two steps
same_count : (ms new last : List Mark) → length last ≡ length new → length new ≡ length ms → length last ≡ length ms
same_count ms new last u v = u ∙ v

-- What lists of wires from n on share keeps the marks below n, and so do two steps after it.
kept_past : (n a b : ℕ) (f f' : List (Option ℕ)) (ms shared new last : List Mark) →
    (here : Loose n (n + a) f) → (there : Loose (n + a) b f') →
    (apart : (y : ℕ) → ends f y + ends f' y ≡ 0 → mark_at shared y ≡ mark_at ms y) →
    (later : (y : ℕ) → y < n + a → mark_at new y ≡ mark_at shared y) →
    (sooner : (y : ℕ) → y < n → mark_at last y ≡ mark_at new y) → (y : ℕ) → y < n → mark_at last y ≡ mark_at ms y
kept_past n a b f f' ms shared new last here there apart later sooner y u =
    let v = before y n a u in
    sooner y u ∙ later y v ∙ apart y (both_none (ends f y) (ends f' y) (here.low y u) (there.low y v))

-- what goes through doors keeps them, and so does a step after it
kept_entered : (n b : ℕ) (f : List (Option ℕ)) (ms new last : List Mark) → Loose n b f →
    (apart : (y : ℕ) → ends f y ≡ 0 → mark_at new y ≡ mark_at ms y) →
    (sooner : (y : ℕ) → y < n → mark_at last y ≡ mark_at new y) → (y : ℕ) → y < n → mark_at last y ≡ mark_at ms y
kept_entered n b f ms new last l apart sooner y u = sooner y u ∙ apart y (l.low y u)

-- a binder's mark keeps them, and so does a step after it
kept_bound : (n a : ℕ) (f : List (Option ℕ)) (ms last : List Mark) (m : Mark) → Loose n (n + a) f →
    (sooner : (y : ℕ) → y < n → mark_at last y ≡ mark_at (slice_set ms (bound_wire (n + a) f) m) y) →
    (y : ℕ) → y < n → mark_at last y ≡ mark_at ms y
kept_bound n a f ms last m l sooner y u =
    sooner y u ∙ set_elsewhere ms (bound_wire (n + a) f) y m (bound_low n (n + a) f l (up n a) y u)

-- a binder's mark stays where only other wires are marked
binder_kept : (f : List (Option ℕ)) (ms new : List Mark) (v : ℕ) (m : Mark) →
    (apart : (y : ℕ) → ends f y ≡ 0 → mark_at new y ≡ mark_at (slice_set ms v m) y) →
    hit v v + ends f v ≤ 1 → v < length ms → mark_at new v ≡ m
binder_kept f ms new v m apart u j = apart v (none_there (hit v v) (ends f v) (hit_same v) u) ∙ set_here ms v m j

-- two operands are read one after the other, behind what they share
double_read : (ws : List WireTree) (h k around e wire out out' : ℕ) (form : TermTree → TermTree → TermTree) (node : Node) (a b : TermTree)
    (nodes nodes' contractions more : List Node) (ms shared new last : List Mark) →
    (step : (ns : List Node) (ms : List Mark) → reading ws (suc h) k around e wire (node ∷ ns) ms ≡ two form (reading ws h k e e out)
    (reading ws h k e e out' ns ms)) →
    (passes : pass e e out' (back contractions (back nodes' (back nodes more))) ms ≡ pass e e out' (back nodes' (back nodes more)) shared) →
    (second : reading ws h k e e out' (back nodes' (back nodes more)) shared ≡ Some (read b (back nodes more) new)) →
    (first : reading ws h k e e out (back nodes more) new ≡ Some (read a more last)) →
    reading ws (suc h) k around e wire (back (nodes ++ (nodes' ++ (contractions ++ node ∷ []))) more) ms ≡ Some (read (form a b) more last)
double_read ws h k around e wire out out' form node a b nodes nodes' contractions more ms shared new last step passes second first =
    let ns = back nodes' (back nodes more) in
    ap (λ ns. reading ws (suc h) k around e wire ns ms) (back_four nodes nodes' contractions node more) ∙ step (back contractions ns) ms
    ∙ ap (two form (reading ws h k e e out)) (reading_pass ws h k e e out' e e out' (back contractions ns) ns ms shared passes ∙ second)
    ∙ ap (one (λ a. form a b)) first

-- so are three, of which two share first
ifz_read : (ws : List WireTree) (h k around e w out out' out'' : ℕ) (a b b' : TermTree)
    (cs ps qs near far more : List Node)
    (ms shared shared' new new' last : List Mark) →
    (passes : pass e e out'' (back far (back near (back qs (back ps (back cs more))))) ms
    ≡ pass e e out'' (back near (back qs (back ps (back cs more)))) shared) →
    (passes' : pass e e out'' (back near (back qs (back ps (back cs more)))) shared
    ≡ pass e e out'' (back qs (back ps (back cs more))) shared') →
    (third : reading ws h k e e out'' (back qs (back ps (back cs more))) shared'
    ≡ Some (read b' (back ps (back cs more)) new)) →
    (second : reading ws h k e e out' (back ps (back cs more)) new ≡ Some (read b (back cs more) new')) →
    (first : reading ws h k e e out (back cs more) new' ≡ Some (read a more last)) →
    reading ws (suc h) k around e w (back (cs ++ (ps ++ (qs ++ (near ++ (far ++ Ifz out out' out'' w ∷ []))))) more) ms
    ≡ Some (read (ifz a b b') more last)
ifz_read ws h k around e w out out' out'' a b b' cs ps qs near far more ms shared shared' new new' last passes passes' third second first =
    let ns = back qs (back ps (back cs more)) in
    ap (λ ns. reading ws (suc h) k around e w ns ms) (back_six cs ps qs near far (Ifz out out' out'' w) more)
    ∙ same_met w (three ifz (reading ws h k e e out) (reading ws h k e e out')
    (reading ws h k e e out'' (back far (back near ns)) ms))
    ∙ ap (three ifz (reading ws h k e e out) (reading ws h k e e out'))
    (reading_pass ws h k e e out'' e e out'' (back far (back near ns)) ns ms shared' (passes ∙ passes') ∙ third)
    ∙ ap (two (λ c p. ifz c p b') (reading ws h k e e out)) second ∙ ap (one (λ c. ifz c b b')) first

-- a body is read under a binder
lam_read : (ws : List WireTree) (h k around e wire out binder : ℕ) (a : TyTree) (m : TermTree) (nodes weakening more : List Node)
    (ms last : List Mark) →
    (shown : domain (type_at ws wire) ≡ a) →
    (weak : pass e e out (back weakening (back nodes more)) (slice_set ms binder (mark k e))
    ≡ pass e e out (back nodes more) (slice_set ms binder (mark k e))) →
    (body : reading ws h (suc k) e e out (back nodes more) (slice_set ms binder (mark k e)) ≡ Some (read m more last)) →
    reading ws (suc h) k around e wire (back (nodes ++ (weakening ++ Lam out binder wire ∷ [])) more) ms ≡ Some (read (lam a m) more last)
lam_read ws h k around e wire out binder a m nodes weakening more ms last shown weak body =
    let ns = back nodes more in
    let ms' = slice_set ms binder (mark k e) in
    ap (λ ns. reading ws (suc h) k around e wire ns ms) (back_three nodes weakening (Lam out binder wire) more)
    ∙ same_met wire (one (lam (domain (type_at ws wire))) (reading ws h (suc k) e e out (back weakening ns) ms'))
    ∙ ap (λ t. one (lam t) (reading ws h (suc k) e e out (back weakening ns) ms')) shown
    ∙ ap (one (lam a)) (reading_pass ws h (suc k) e e out e e out (back weakening ns) ns ms' ms' weak ∙ body)

-- and behind the doors of a box
fix_read : (ws : List WireTree) (h k around e wire out binder : ℕ) (a : TyTree) (m : TermTree) (nodes weakening door_nodes more : List Node)
    (ms entered last : List Mark) → (shown : type_at ws wire ≡ a) →
    (passes : pass e (suc wire) out (back door_nodes (back weakening (back nodes more))) (slice_set ms binder (mark k (suc wire)))
    ≡ pass e (suc wire) out (back weakening (back nodes more)) entered) →
    (weak : pass e (suc wire) out (back weakening (back nodes more)) entered ≡ pass e (suc wire) out (back nodes more) entered) →
    (body : reading ws h (suc k) e (suc wire) out (back nodes more) entered ≡ Some (read m more last)) →
    reading ws (suc h) k around e wire (back (nodes ++ (weakening ++ (door_nodes ++ FixBox out binder wire ∷ []))) more) ms
    ≡ Some (read (fix a m) more last)
fix_read ws h k around e wire out binder a m nodes weakening door_nodes more ms entered last shown passes weak body =
    let ns = back nodes more in
    let ms' = slice_set ms binder (mark k (suc wire)) in
    let held = back door_nodes (back weakening ns) in
    ap (λ ns. reading ws (suc h) k around e wire ns ms) (back_four nodes weakening door_nodes (FixBox out binder wire) more)
    ∙ same_met wire (one (fix (type_at ws wire)) (reading ws h (suc k) e (suc wire) out held ms'))
    ∙ ap (λ t. one (fix t) (reading ws h (suc k) e (suc wire) out held ms')) shown
    ∙ ap (one (fix a)) (reading_pass ws h (suc k) e (suc wire) out e (suc wire) out held ns ms' entered (passes ∙ weak) ∙ body)

-- an argument is read in its box, and then the function
app_read : (ws : List WireTree) (h k around e w out out' boxed : ℕ) (a b : TermTree)
    (ps qs door_nodes contractions more : List Node)
    (ms shared entered new last : List Mark) →
    (passes : pass e e boxed (back contractions (BoxNode out' boxed ∷ back door_nodes (back qs (back ps more)))) ms
    ≡ pass e e boxed (BoxNode out' boxed ∷ back door_nodes (back qs (back ps more))) shared) →
    (enter : pass e (suc boxed) out' (back door_nodes (back qs (back ps more))) shared
    ≡ pass e (suc boxed) out' (back qs (back ps more)) entered) →
    (second : reading ws h k e (suc boxed) out' (back qs (back ps more)) entered ≡ Some (read b (back ps more) new)) →
    (first : reading ws h k e e out (back ps more) new ≡ Some (read a more last)) →
    reading ws (suc h) k around e w (back (ps ++ (qs ++ (door_nodes ++ (BoxNode out' boxed ∷
    (contractions ++ App out boxed w ∷ []))))) more) ms
    ≡ Some (read (app a b) more last)
app_read ws h k around e w out out' boxed a b ps qs door_nodes contractions more ms shared entered new last passes enter second first =
    let ns = back qs (back ps more) in
    let y = BoxNode out' boxed in
    let ns' = back contractions (y ∷ back door_nodes ns) in
    let box : pass e e boxed (y ∷ back door_nodes ns) shared ≡ pass e (suc boxed) out' (back door_nodes ns) shared =
    ap (λ b. if b then pass e (suc boxed) out' (back door_nodes ns) shared else rest e boxed (y ∷ back door_nodes ns) shared)
    (eq-eqb boxed boxed refl) in
    ap (λ ns. reading ws (suc h) k around e w ns ms) (back_boxed ps qs door_nodes contractions y (App out boxed w) more)
    ∙ same_met w (two app (reading ws h k e e out) (reading ws h k e e boxed ns' ms))
    ∙ ap (two app (reading ws h k e e out)) (reading_pass ws h k e e boxed e (suc boxed) out' ns' ns ms entered (passes ∙ box ∙ enter)
    ∙ second)
    ∙ ap (one (λ a. app a b)) first

-- one operand
pub unary_reads : (ws : List WireTree) (form : TermTree → TermTree) (node : ℕ → ℕ → Node) (t : TyTree) (h n d : ℕ) (g : List TyTree)
    (m : TermTree) (part : Part) →
    ((a w k around e : ℕ) (ns : List Node) (ms : List Mark) → reading ws (suc h) k around e w (node a w ∷ ns) ms ≡ one form
    (reading ws h k e e a ns ms)) →
    Readable ws h g m n part → Readable ws (suc h) g (form m) n (unary_part node t n d part)
unary_reads ws form node t h n d g m part step ip around e more ms mk room =
    let w = n + length part.wires in
    let x = node part.out w in
    let k = length g in
    let size = size_two part.wires (value_wire d t) in
    let fit = within (length (unary_part node t n d part).wires) n (length part.wires) 1 0 0 0 (length ms) size room in
    let r = ip e e more ms mk fit.first in
    record {
      marks = r.marks;
      is = ap (λ ns. reading ws (suc h) k around e w ns ms) (back_two part.nodes x more)
          ∙ step part.out w k around e (back part.nodes more) ms
          ∙ ap (one form) r.is;
      kept = r.kept;
      count = r.count;
    }

-- the part's variables keep their marks where no wire before b changes
behind : (n b e : ℕ) (g : List TyTree) (f : List (Option ℕ)) (ms new : List Mark) → Loose n b f
    → ((y : ℕ) → y < b → mark_at new y ≡ mark_at ms y) → Marked e g f ms → Marked e g f new
behind n b e g f ms new l kept h =
    marked_kept e g f ms new (λ y u. kept y (elim (cases_lt y b) [ inl j ↦ j | inr j ↦ absurd (omega (arith, l.high y j, u)) ])) h

-- two operands at one depth
pub double_reads : (ws : List WireTree) (form : TermTree → TermTree → TermTree) (node : ℕ → ℕ → ℕ → Node) (ty : TyTree) (h n d : ℕ)
    (g : List TyTree) (a b : TermTree) (part part' : Part) →
    ((x y w k around e : ℕ) (ns : List Node) (ms : List Mark) → reading ws (suc h) k around e w (node x y w ∷ ns) ms ≡ two form
    (reading ws h k e e x) (reading ws h k e e y ns ms)) →
    Loose n (n + length part.wires) part.free → Loose (n + length part.wires) (n + length part.wires + length part'.wires) part'.free →
    Readable ws h g a n part → Readable ws h g b (n + length part.wires) part' →
    Readable ws (suc h) g (form a b) n (double_part node ty n d g part part')
double_reads ws form node ty h n d g a b part part' step lp lq ip iq around e more ms mk room =
    let k = length g in
    let n' = n + length part.wires in
    let m = n' + length part'.wires in
    let c = contract m d g part.free part'.free in
    let w = m + length c.wires in
    let size = size_four part.wires part'.wires c.wires (value_wire d ty) in
    let l = length (double_part node ty n d g part part').wires in
    let fit = within l n (length part.wires) (length part'.wires) (length c.wires) 1 0 (length ms) size room in
    let s = shares m d e e g part.free part'.free (back part'.nodes (back part.nodes more)) ms mk
    (both_once n n' m part.free part'.free lp lq)
    (both_high n n' m m part.free part'.free lp lq (up n' (length part'.wires)) (level m))
    (both_high n n' m (length ms) part.free part'.free lp lq fit.first fit.second) in
    let rq = iq e e (back part.nodes more) s.marks s.right (as_long m (length ms) (length s.marks) s.count fit.second) in
    let count = same_count ms s.marks rq.marks rq.count s.count in
    let rp = ip e e more rq.marks (behind n n' e g part.free s.marks rq.marks lp rq.kept s.left)
    (as_long n' (length ms) (length rq.marks) count fit.first) in
    record {
      marks = rp.marks;
      is = double_read ws h k around e w part.out part'.out form
          (node part.out part'.out w) a b part.nodes part'.nodes c.nodes more ms s.marks rq.marks rp.marks
          (step part.out part'.out w k around e) (s.passes part'.out) rq.is rp.is;
      kept = kept_past n (length part.wires) m part.free part'.free ms s.marks rq.marks rp.marks lp lq s.kept rq.kept rp.kept;
      count = same_count ms rq.marks rp.marks rp.count count;
    }

-- condition, then and else
pub ifz_reads : (ws : List WireTree) (h n d : ℕ) (context : List TyTree) (a b b' : TermTree) (part part' part'' : Part) →
    Aligned context part.free → Aligned context part'.free → Aligned context part''.free →
    Loose n (n + length part.wires) part.free → Loose (n + length part.wires) (n + length part.wires + length part'.wires) part'.free →
    Loose (n + length part.wires + length part'.wires) (n + length part.wires + length part'.wires + length part''.wires) part''.free →
    Readable ws h context a n part → Readable ws h context b (n + length part.wires) part' →
    Readable ws h context b' (n + length part.wires + length part'.wires) part'' →
    Readable ws (suc h) context (ifz a b b') n (ifz_part n d context part part' part'')
ifz_reads ws h n d context a b b' part part' part'' ac ap' aq lc lp lq ic ip iq around e more ms mk room =
    let k = length context in
    let n' = n + length part.wires in
    let n'' = n' + length part'.wires in
    let m = n'' + length part''.wires in
    let i = contract m d context part'.free part''.free in
    let m' = m + length i.wires in
    let j = contract m' d context part.free i.free in
    let w = m' + length j.wires in
    let size = size_six part.wires part'.wires part''.wires i.wires j.wires (value_wire d nat) in
    let long = length (ifz_part n d context part part' part'').wires in
    let r = length j.wires + 1 in
    let fit = within long n (length part.wires) (length part'.wires) (length part''.wires) (length i.wires) r (length ms) size room in
    let after_p = le_trans (up_two n' (length part'.wires) (length part''.wires)) (up m (length i.wires)) in
    let l = contract_loose m d n' n'' context part'.free part''.free ap' aq lp lq (up n' (length part'.wires))
    (up n'' (length part''.wires)) in
    let ns = back part.nodes more in
    let ns' = back part''.nodes (back part'.nodes ns) in
    let s = shares m' d e e context part.free i.free (back i.nodes ns') ms mk (both_once n n' m' part.free i.free lc l)
    (both_high n n' m' m' part.free i.free lc l after_p (level m'))
    (both_high n n' m' (length ms) part.free i.free lc l fit.first fit.fourth) in
    let s' = shares m d e e context part'.free part''.free ns' s.marks s.right (both_once n' n'' m part'.free part''.free lp lq)
    (both_high n' n'' m m part'.free part''.free lp lq (up n'' (length part''.wires)) (level m))
    (both_high n' n'' m (length s.marks) part'.free part''.free lp lq (as_long n'' (length ms) (length s.marks) s.count fit.second)
    (as_long m (length ms) (length s.marks) s.count fit.third)) in
    let count' = same_count ms s.marks s'.marks s'.count s.count in
    let rq = iq e e (back part'.nodes ns) s'.marks s'.right (as_long m (length ms) (length s'.marks) count' fit.third) in
    let count_q = same_count ms s'.marks rq.marks rq.count count' in
    let rp = ip e e ns rq.marks (behind n' n'' e context part'.free s'.marks rq.marks lp rq.kept s'.left)
    (as_long n'' (length ms) (length rq.marks) count_q fit.second) in
    let count_p = same_count ms rq.marks rp.marks rp.count count_q in
    let kept = kept_past n' (length part'.wires) m part'.free part''.free s.marks s'.marks rq.marks rp.marks lp lq
    s'.kept rq.kept rp.kept in
    let rc = ic e e more rp.marks (behind n n' e context part.free s.marks rp.marks lc kept s.left)
    (as_long n' (length ms) (length rp.marks) count_p fit.first) in
    record {
      marks = rc.marks;
      is = ifz_read ws h k around e w part.out part'.out part''.out a b b' part.nodes part'.nodes part''.nodes i.nodes j.nodes more
          ms s.marks s'.marks rq.marks rp.marks rc.marks (s.passes part''.out) (s'.passes part''.out) rq.is rp.is rc.is;
      kept = kept_past n (length part.wires) m' part.free i.free ms s.marks rp.marks rc.marks lc l s.kept kept rc.kept;
      count = same_count ms rp.marks rc.marks rc.count count_p;
    }

-- a body under a binder
pub lam_reads : (ws : List WireTree) (h n d : ℕ) (a : TyTree) (g : List TyTree) (m : TermTree) (part : Part) →
    Loose n (n + length part.wires) part.free → Held ws n (lam_part n d a part).wires →
    Readable ws h (a ∷ g) m n part → Readable ws (suc h) g (lam a m) n (lam_part n d a part)
lam_reads ws h n d a g m part loose held ip around e more ms mk room =
    let k = length g in
    let o = n + length part.wires in
    let b = bound o d a part.free in
    let w = o + length b.wires in
    let v = bound_wire o part.free in
    let size = size_three part.wires b.wires (value_wire d (arrow a part.type)) in
    let fit = within (length (lam_part n d a part).wires) n (length part.wires) (length b.wires) 1 0 0 (length ms) size room in
    let ns = back part.nodes more in
    let ms' = slice_set ms v (mark k e) in
    let held' = held_right ws o b.wires (value_wire d (arrow a part.type) ∷ [])
    (held_right ws n part.wires (b.wires ++ value_wire d (arrow a part.type) ∷ []) held) in
    let ty : domain (type_at ws w) ≡ a = ap (λ o. domain (type_in o)) held'.0 in
    let u = marked_kept e g b.free ms ms'
    (λ y u. set_elsewhere ms v y (mark k e) (none_here (hit v y) (ends b.free y) u (bound_once n o d a part.free loose y))) mk in
    let c = length-set ms v (mark k e) in
    let inside_v = lt_of_lt_of_le (bound_inside n o d a part.free loose) fit.second in
    let r = ip e e more ms' (body_marked o d e a g part.free ms' u (set_here ms v (mark k e) inside_v))
    (as_long o (length ms) (length ms') c fit.first) in
    record {
      marks = r.marks;
      is = lam_read ws h k around e w part.out v a m part.nodes b.nodes more ms r.marks ty
          (weak_passes o d e e part.out a part.free ns ms') r.is;
      kept = kept_bound n (length part.wires) part.free ms r.marks (mark k e) loose r.kept;
      count = same_count ms ms' r.marks r.count c;
    }

-- a body in a box of its own
pub fix_reads : (ws : List WireTree) (h n d : ℕ) (g : List TyTree) (a : TyTree) (m : TermTree) (part : Part) →
    Loose n (n + length part.wires) part.free → Held ws n (fix_part n d g a part).wires →
    Readable ws h (a ∷ g) m n part → Readable ws (suc h) g (fix a m) n (fix_part n d g a part)
fix_reads ws h n d g a m part loose held ip around e more ms mk room =
    let k = length g in
    let o = n + length part.wires in
    let b = bound o (suc d) a part.free in
    let o' = o + length b.wires in
    let i = doors o' d g b.free in
    let w = o' + length i.wires in
    let v = bound_wire o part.free in
    let size = size_four part.wires b.wires i.wires (value_wire d a) in
    let long = length (fix_part n d g a part).wires in
    let fit = within long n (length part.wires) (length b.wires) (length i.wires) 1 0 (length ms) size room in
    let ns = back part.nodes more in
    let e' = suc w in
    let at = mark k e' in
    let ms' = slice_set ms v at in
    let held' = held_right ws o' i.wires (value_wire d a ∷ [])
    (held_right ws o b.wires (i.wires ++ value_wire d a ∷ [])
    (held_right ws n part.wires (b.wires ++ (i.wires ++ value_wire d a ∷ [])) held))
    in
    let ty : type_at ws w ≡ a = ap type_in held'.0 in
    let c = length-set ms v at in
    let inside_v = bound_inside n o (suc d) a part.free loose in
    let lb = bound_loose n o (suc d) a part.free loose in
    let li = doors_loose o' d g b.free in
    let u = marked_kept e g i.free ms ms'
    (λ y u. set_elsewhere ms v y at (not_among o' (o' + length i.wires) v i.free li inside_v y u)) mk in
    let t = enters o' d e e' g b.free (back b.nodes ns) ms' u lb.once (λ y j. lb.high y (le_trans (up o (length b.wires)) j))
    (λ y j. lb.high y (le_trans (as_long o (length ms) (length ms') c fit.first) j)) in
    let fits = lt_of_lt_of_le inside_v fit.second in
    let at_v = binder_kept b.free ms t.marks v at t.kept (bound_once n o (suc d) a part.free loose v) fits in
    let count = same_count ms ms' t.marks t.count c in
    let r = ip e e' more t.marks (body_marked o (suc d) e' a g part.free t.marks t.within at_v)
    (as_long o (length ms) (length t.marks) count fit.first) in
    record {
      marks = r.marks;
      is = fix_read ws h k around e w part.out v a m part.nodes b.nodes i.nodes more ms t.marks r.marks ty (t.passes part.out)
          (weak_passes o (suc d) e e' part.out a part.free ns t.marks) r.is;
      kept = kept_bound n (length part.wires) part.free ms r.marks at loose (kept_entered n o b.free ms' t.marks r.marks lb t.kept r.kept);
      count = same_count ms t.marks r.marks r.count count;
    }

-- a function, and its argument in a box
pub app_reads : (ws : List WireTree) (h n d : ℕ) (g : List TyTree) (a b : TermTree) (part part' : Part) →
    Loose n (n + length part.wires) part.free → Loose (n + length part.wires) (n + length part.wires + length part'.wires) part'.free →
    Readable ws h g a n part → Readable ws h g b (n + length part.wires) part' →
    Readable ws (suc h) g (app a b) n (app_part n d g part part')
app_reads ws h n d g a b part part' lp lq ip iq around e more ms mk room =
    let k = length g in
    let n' = n + length part.wires in
    let m = n' + length part'.wires in
    let i = doors m d g part'.free in
    let o = m + length i.wires in
    let c = contract (suc o) d g part.free i.free in
    let w = suc o + length c.wires in
    let y = BoxNode part'.out o in
    let e' = suc o in
    let bang = bang_wire d (domain part.type) in
    let last = value_wire d (codomain part.type) in
    let size = size_boxed part.wires part'.wires i.wires c.wires bang last in
    let long = length (app_part n d g part part').wires in
    let fit = within long n (length part.wires) (length part'.wires) (length i.wires) 1 (length c.wires + 1) (length ms) size room in
    let li = doors_loose m d g part'.free in
    let li' : Loose n' o i.free = record { once = li.once; low = λ y u. li.low y (before y n' (length part'.wires) u); high = li.high } in
    let ns = back part.nodes more in
    let ns' = back part'.nodes ns in
    let s = shares (suc o) d e e g part.free i.free (y ∷ back i.nodes ns') ms mk (both_once n n' o part.free i.free lp li')
    (both_high n n' o (suc o) part.free i.free lp li' (le_trans (up_two n' (length part'.wires) (length i.wires)) (next o))
    (next o))
    (both_high n n' o (length ms) part.free i.free lp li' fit.first fit.third) in
    let room_s = as_long m (length ms) (length s.marks) s.count fit.second in
    let t = enters m d e e' g part'.free ns' s.marks s.right lq.once lq.high (λ y j. lq.high y (le_trans room_s j)) in
    let rq = iq e e' ns t.marks t.within (as_long m (length s.marks) (length t.marks) t.count room_s) in
    let count = same_count ms t.marks rq.marks rq.count (same_count ms s.marks t.marks t.count s.count) in
    let kept = kept_entered n' m part'.free s.marks t.marks rq.marks lq t.kept rq.kept in
    let rp = ip e e more rq.marks (behind n n' e g part.free s.marks rq.marks lp kept s.left)
    (as_long n' (length ms) (length rq.marks) count fit.first) in
    record {
      marks = rp.marks;
      is = app_read ws h k around e w part.out part'.out o a b part.nodes part'.nodes i.nodes c.nodes more ms s.marks t.marks
          rq.marks rp.marks
          (s.passes o) (t.passes part'.out) rq.is rp.is;
      kept = kept_past n (length part.wires) o part.free i.free ms s.marks rq.marks rp.marks lp li' s.kept kept rp.kept;
      count = same_count ms rq.marks rp.marks rp.count count;
    }
