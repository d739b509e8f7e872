-- A term whose parts are placed one after another is placed as the definition says.
use Rattle.std.proofs.Common.{◌≡◌, ℕ, zero, suc, ◌+◌, ◌-◌, ◌⊎◌, ◌<◌, ◌≤◌, List, [], ◌∷◌, ◌++◌, length, map, reverse, Some, None, refl, sym}
use Rattle.std.proofs.Common.{ap, ◌∙◌, subst, inl, inr, arith}
use Rattle.std.specs.Prelude.{◌^◌, slice_get}
use Rattle.std.proofs.lemmas.Bool.{cases_lt, lt-ltb, le-ltb}
use Rattle.std.proofs.lemmas.List.{append-nil, length-append}
use Rattle.pcf_values.specs.Terms.{TyTree, nat, TermTree, var, ifz, lam, fix, app}
use Rattle.net_build.specs.declared.node.Node.{Node}
use Rattle.net_build.specs.declared.node.Node.TheVariants.{Der}
use Rattle.net_build.specs.declared.parts.Parts.{Parts}
use Rattle.net_build.specs.declared.parts.Loose.{Loose}
use Rattle.net_build.specs.declared.parts.Placed.{Placed}
use Rattle.net_build.specs.declared.double.Double.{Double}
use Rattle.net_build.specs.declared.unary.Unary.{Unary}
use Rattle.net_build.specs.Nets.{WireTree, value_wire, var_wire}
use Rattle.net_build.specs.NetOf.{Part, double_end, ifz_end, lam_end, fix_end, app_end, part, none_free, one_free, type_or_nat}
use Rattle.net_build.specs.Views.{wire_of}
use Rattle.net_build.specs.Building.{HasRoom, context_of, spread, Grows, Spreads, Gives, Builds, BuildsBody, frees, body_frees, wire_type}
use Rattle.net_build.specs.Building.{Falling, IsPlaced, IsBody, unary_of}
use Rattle.net_build.specs.Building.{part_at, second_at, third_at, body_at, double_node, double_type, double_here, double_of, giving}
use Rattle.net_build.specs.Building.{ifz_here}
use Rattle.net_build.specs.Building.{lam_here, fix_here, app_here, one_at}
use Rattle.net_build.proofs.Growing.{grows_then, grows_length, kept_type, new_type, new_inside}
use Rattle.net_build.proofs.Ending.{before, after}
use Rattle.net_build.proofs.Spreading.{context_length, spread_none}
use Rattle.net_build.proofs.Merging.{spread_at, spread_under, falling_more}

-- the same term, built from where a part ends
pub moved : (s0 s1 : Parts) (p : Part) (d : ℕ) (t : TermTree) → Grows s0 s1 p.wires p.nodes → part_at s1 d t ≡ second_at s0 d p t
moved s0 s1 p d t g = let n = grows_length s0 s1 p.wires p.nodes g in λ k. part (n k) d (context_of (g.context k)) t

-- and from where two parts end
pub moved_twice : (s0 s1 s2 : Parts) (p q : Part) (d : ℕ) (t : TermTree) → Grows s0 s1 p.wires p.nodes → Grows s1 s2 q.wires q.nodes
    → part_at s2 d t ≡ third_at s0 d p q t
moved_twice s0 s1 s2 p q d t g h =
    let n : length s2.wires.items ≡ length s0.wires.items + length p.wires + length q.wires =
    grows_length s1 s2 q.wires q.nodes h ∙ ap (λ m. m + length q.wires) (grows_length s0 s1 p.wires p.nodes g) in
    let c = h.context ∙ g.context in
    λ k. part (n k) d (context_of (c k)) t

-- room for two lists is room for the first
first_fits : (x : ℕ) (ws vs : List WireTree) → x + length (ws ++ vs) < 2 ^ 32 → x + length ws < 2 ^ 32
first_fits x ws vs h = omega (arith, h, length-append ws vs)

-- and for what comes behind the first
behind_fits : (d n m l : ℕ) (ws vs : List WireTree) → m ≡ n + length ws → l ≡ length vs → d + n + length (ws ++ vs) < 2 ^ 32
    → d + m + l < 2 ^ 32
behind_fits d n m l ws vs e f h = omega (arith, e, f, h, length-append ws vs)

-- room for three lists is room for the second, from where the first ends
middle_fits : (d n m l : ℕ) (ws vs us : List WireTree) → m ≡ n + length ws → l ≡ length vs
    → d + n + length (ws ++ (vs ++ us)) < 2 ^ 32 → d + m + l < 2 ^ 32
middle_fits d n m l ws vs us e f h = omega (arith, e, f, h, length-append ws (vs ++ us), length-append vs us)

-- one depth further in too, where the third has a wire
deeper_fits : (d n m l : ℕ) (ws vs us xs : List WireTree) (x : WireTree) → m ≡ n + length ws → l ≡ length vs
    → d + n + length (ws ++ (vs ++ (us ++ x ∷ xs))) < 2 ^ 32 → suc d + m + l < 2 ^ 32
deeper_fits d n m l ws vs us xs x e f h =
    let k : length (us ++ x ∷ xs) ≡ length us + suc (length xs) = length-append us (x ∷ xs) in
    omega (arith, e, f, h, k, length-append ws (vs ++ (us ++ x ∷ xs)), length-append vs (us ++ x ∷ xs))

-- room for three lists is room for the third, from where the second ends
last_fits : (d n m l : ℕ) (ws vs us : List WireTree) → m ≡ n + length ws + length vs → l ≡ length us
    → d + n + length (ws ++ (vs ++ us)) < 2 ^ 32 → d + m + l < 2 ^ 32
last_fits d n m l ws vs us e f h = omega (arith, e, f, h, length-append ws (vs ++ us), length-append vs us)

-- room for the whole is room for the operand, and for a wire behind it
pub unary_room : (form : Unary) (s : Parts) (d : ℕ) (a : TermTree) → HasRoom s d (unary_of form s d a) → HasRoom s d (part_at s d a)
unary_room form s d a h = first_fits (d + length s.wires.items) (part_at s d a).wires _ h

pub unary_next_room : (form : Unary) (s0 s1 : Parts) (d : ℕ) (a : TermTree) (r1 : Placed) → Builds s0 s1 (part_at s0 d a) r1
    → HasRoom s0 d (unary_of form s0 d a) → length s1.wires.items < 2 ^ 32
unary_next_room form s0 s1 d a r1 g h =
    let p = part_at s0 d a in
    let n = length s0.wires.items in
    let k : d + length s1.wires.items + 1 < 2 ^ 32 = behind_fits d n _ 1 p.wires _ (grows_length s0 s1 p.wires p.nodes g.grows) refl h in
    omega (arith, k)

-- room for the whole is room for the first of two operands
pub double_first_room : (form : Double) (s : Parts) (d : ℕ) (a b : TermTree) → HasRoom s d (double_of form s d a b)
    → HasRoom s d (part_at s d a)
double_first_room form s d a b h = first_fits (d + length s.wires.items) (part_at s d a).wires _ h

-- and for the second, from where the first ends
pub double_second_room : (form : Double) (s0 s1 : Parts) (d : ℕ) (a b : TermTree) (r1 : Placed) → Builds s0 s1 (part_at s0 d a) r1
    → HasRoom s0 d (double_of form s0 d a b) → HasRoom s1 d (part_at s1 d b)
double_second_room form s0 s1 d a b r1 g h =
    let p = part_at s0 d a in
    let q = second_at s0 d p b in
    let e : length (part_at s1 d b).wires ≡ length q.wires = ap (λ q. length q.wires) (moved s0 s1 p d b g.grows) in
    middle_fits d (length s0.wires.items) _ _ p.wires q.wires _ (grows_length s0 s1 p.wires p.nodes g.grows) e h

-- the same of a condition and the branch behind it
pub ifz_first_room : (s : Parts) (d : ℕ) (a b c : TermTree) → HasRoom s d (part_at s d (ifz a b c)) → HasRoom s d (part_at s d a)
ifz_first_room s d a b c h = first_fits (d + length s.wires.items) (part_at s d a).wires _ h

pub ifz_second_room : (s0 s1 : Parts) (d : ℕ) (a b c : TermTree) (r1 : Placed) → Builds s0 s1 (part_at s0 d a) r1
    → HasRoom s0 d (part_at s0 d (ifz a b c)) → HasRoom s1 d (part_at s1 d b)
ifz_second_room s0 s1 d a b c r1 g h =
    let p = part_at s0 d a in
    let q = second_at s0 d p b in
    let e : length (part_at s1 d b).wires ≡ length q.wires = ap (λ q. length q.wires) (moved s0 s1 p d b g.grows) in
    middle_fits d (length s0.wires.items) _ _ p.wires q.wires _ (grows_length s0 s1 p.wires p.nodes g.grows) e h

-- of a function, and of its argument, which stands one depth further in
pub app_first_room : (s : Parts) (d : ℕ) (a b : TermTree) → HasRoom s d (part_at s d (app a b)) → HasRoom s d (part_at s d a)
app_first_room s d a b h = first_fits (d + length s.wires.items) (part_at s d a).wires _ h

app_second_room : (s0 s1 : Parts) (d : ℕ) (a b : TermTree) (r1 : Placed) → Builds s0 s1 (part_at s0 d a) r1
    → HasRoom s0 d (part_at s0 d (app a b)) → HasRoom s1 (suc d) (part_at s1 (suc d) b)
app_second_room s0 s1 d a b r1 g h =
    let p = part_at s0 d a in
    let q = second_at s0 (suc d) p b in
    let e : length (part_at s1 (suc d) b).wires ≡ length q.wires = ap (λ q. length q.wires) (moved s0 s1 p (suc d) b g.grows) in
    deeper_fits d (length s0.wires.items) _ _ p.wires q.wires _ _ _ (grows_length s0 s1 p.wires p.nodes g.grows) e h

pub app_second_room_at : (s0 s1 : Parts) (d d' : ℕ) (a b : TermTree) (r1 : Placed) → d' ≡ suc d → Builds s0 s1 (part_at s0 d a) r1
    → HasRoom s0 d (part_at s0 d (app a b)) → HasRoom s1 d' (part_at s1 d' b)
app_second_room_at s0 s1 d d' a b r1 e g h = subst (λ d'. HasRoom s1 d' (part_at s1 d' b)) (sym e) (app_second_room s0 s1 d a b r1 g h)

-- of the body of a function
pub lam_first_room : (s : Parts) (d : ℕ) (t : TyTree) (m : TermTree) → HasRoom s d (part_at s d (lam t m)) → HasRoom s d (body_at s d t m)
lam_first_room s d t m h = first_fits (d + length s.wires.items) (body_at s d t m).wires _ h

-- a term that was just placed stands there
pub placed_new : (s0 s1 : Parts) (p : Part) (r : Placed) → Builds s0 s1 p r → IsPlaced s1 r
placed_new s0 s1 p r h =
    (h.gives.inside, subst (λ c. Falling (length c) (reverse r.free.items)) (sym h.grows.context) h.gives.free.falling)

-- and a body that was just placed
pub placed_body : (s0 s1 : Parts) (p : Part) (r : Placed) → BuildsBody s0 s1 p r → IsBody s1 r
placed_body s0 s1 p r h =
    (h.gives.inside, subst (λ c. Falling (suc (length c)) (reverse r.free.items)) (sym h.grows.context) h.gives.free.falling)

-- what a placed term leaves loose is what its part does, from any state with that context
free_at : (s n s' : Parts) (p : Part) (r : Placed) → Gives (length s.context.items) n p r → s'.context.items ≡ s.context.items
    → frees s' r ≡ p.free
free_at s n s' p r g e = ap (λ c. spread (length c) (reverse r.free.items)) e ∙ g.free.spreads

-- two operands at one depth: the second is placed behind the first, and has room where the whole has
module _ (form : Double) (s0 s1 : Parts) (d : ℕ) (a b : TermTree) (r1 : Placed) (h : Builds s0 s1 (part_at s0 d a) r1) where
  double_second : part_at s1 d b ≡ second_at s0 d (part_at s0 d a) b
  double_second = moved s0 s1 (part_at s0 d a) d b h.grows

  module _ (s2 : Parts) (r2 : Placed) (i : Builds s1 s2 (part_at s1 d b) r2) where
    double_i : Builds s1 s2 (second_at s0 d (part_at s0 d a) b) r2
    double_i = subst (λ q. Builds s1 s2 q r2) double_second i

    -- the end that is built from there is the definition's
    double_path : double_here form s2 d r1 r2 ≡
        (let p = part_at s0 d a in let q = second_at s0 d p b in double_end (double_node form) (double_type form p.type q.type)
        (length s0.wires.items + length p.wires + length q.wires) d (context_of s0.context.items) p q)
    double_path =
        let p = part_at s0 d a in
        let q = second_at s0 d p b in
        let n : length s2.wires.items ≡ length s0.wires.items + length p.wires + length q.wires =
        grows_length s1 s2 q.wires q.nodes double_i.grows ∙ ap (λ m. m + length q.wires) (grows_length s0 s1 p.wires p.nodes h.grows) in
        let c = double_i.grows.context ∙ h.grows.context in
        let f = free_at s0 s1 s2 p r1 h.gives c in
        let f' = free_at s1 s2 s2 q r2 double_i.gives double_i.grows.context in
        let t : wire_type s2 r1.out ≡ p.type = kept_type s1 s2 q.wires q.nodes r1.out double_i.grows h.gives.inside ∙ h.gives.type in
        λ k. double_end (double_node form) (double_type form (t k) (double_i.gives.type k)) (n k) d (context_of (c k))
        (giving (h.gives.out k) (t k) (f k)) (giving (double_i.gives.out k) (double_i.gives.type k) (f' k))

    -- room for the whole is room for its end
    pub double_close_room : HasRoom s0 d (double_of form s0 d a b) → HasRoom s2 d (double_here form s2 d r1 r2)
    double_close_room k =
        let p = part_at s0 d a in
        let q = second_at s0 d p b in
        let n : length s2.wires.items ≡ length s0.wires.items + length p.wires + length q.wires =
        grows_length s1 s2 q.wires q.nodes double_i.grows ∙ ap (λ m. m + length q.wires) (grows_length s0 s1 p.wires p.nodes h.grows) in
        last_fits d (length s0.wires.items) _ _ p.wires q.wires _ n (ap (λ q. length q.wires) double_path) k

    -- both operands and the end are the whole
    pub double_builds : (s3 : Parts) (r : Placed) → Builds s2 s3 (double_here form s2 d r1 r2) r → Builds s0 s3 (double_of form s0 d a b) r
    double_builds s3 r j =
        let p = part_at s0 d a in
        let q = second_at s0 d p b in
        let c = double_end (double_node form) (double_type form p.type q.type) (length s0.wires.items + length p.wires + length q.wires) d
        (context_of s0.context.items) p q in
        let j' : Builds s2 s3 c r = subst (λ t. Builds s2 s3 t r) double_path j in
        after s0 s1 s3 p.wires p.nodes (before q.wires q.nodes c) r h.grows (after s1 s2 s3 q.wires q.nodes c r double_i.grows j')

-- a condition and its two branches, one behind the other
module _ (s0 s1 : Parts) (d : ℕ) (a b c : TermTree) (r1 : Placed) (h : Builds s0 s1 (part_at s0 d a) r1) where
  ifz_first : Part
  ifz_first = part_at s0 d a

  ifz_second : Part
  ifz_second = second_at s0 d (part_at s0 d a) b

  ifz_third : Part
  ifz_third = third_at s0 d (part_at s0 d a) (second_at s0 d (part_at s0 d a) b) c

  ifz_rest : Part
  ifz_rest =
      let p = part_at s0 d a in
      let q = second_at s0 d p b in
      let r = third_at s0 d p q c in
      ifz_end (length s0.wires.items + length p.wires + length q.wires + length r.wires) d (context_of s0.context.items) p q r

  module _ (s2 : Parts) (r2 : Placed) (i : Builds s1 s2 (part_at s1 d b) r2) where
    ifz_i : Builds s1 s2 (second_at s0 d (part_at s0 d a) b) r2
    ifz_i = subst (λ q. Builds s1 s2 q r2) (moved s0 s1 (part_at s0 d a) d b h.grows) i

    -- the third operand, built from where the second ends
    ifz_moved : part_at s2 d c ≡ third_at s0 d (part_at s0 d a) (second_at s0 d (part_at s0 d a) b) c
    ifz_moved = moved_twice s0 s1 s2 (part_at s0 d a) (second_at s0 d (part_at s0 d a) b) d c h.grows ifz_i.grows

    -- room for the whole is room for the third operand
    pub ifz_room : HasRoom s0 d (part_at s0 d (ifz a b c)) → HasRoom s2 d (part_at s2 d c)
    unfolding ifz_rest
    ifz_room k =
        let p = part_at s0 d a in
        let q = second_at s0 d p b in
        let r = third_at s0 d p q c in
        let e = ap (λ q. length q.wires) ifz_moved in
        omega (
          arith,
          k,
          e,
          grows_length s0 s1 p.wires p.nodes h.grows,
          grows_length s1 s2 q.wires q.nodes ifz_i.grows,
          length-append p.wires (q.wires ++ (r.wires ++ ifz_rest.wires)),
          length-append q.wires (r.wires ++ ifz_rest.wires),
          length-append r.wires ifz_rest.wires,
        )

    module _ (s3 : Parts) (r3 : Placed) (j : Builds s2 s3 (part_at s2 d c) r3) where
      ifz_j : Builds s2 s3 (third_at s0 d (part_at s0 d a) (second_at s0 d (part_at s0 d a) b) c) r3
      ifz_j = subst (λ q. Builds s2 s3 q r3) ifz_moved j

      -- the next wire after all three
      ifz_next : length s3.wires.items ≡ length s0.wires.items + length ifz_first.wires + length ifz_second.wires + length ifz_third.wires
      unfolding ifz_first ifz_second ifz_third
      ifz_next =
          let p = part_at s0 d a in
          let q = second_at s0 d p b in
          let r = third_at s0 d p q c in
          grows_length s2 s3 r.wires r.nodes ifz_j.grows
          ∙ ap (λ m. m + length r.wires)
          (grows_length s1 s2 q.wires q.nodes ifz_i.grows ∙ ap (λ m. m + length q.wires) (grows_length s0 s1 p.wires p.nodes h.grows))

      -- the end that is built from there is the definition's
      ifz_path : ifz_here s3 d r1 r2 r3 ≡ ifz_rest
      unfolding ifz_rest ifz_first ifz_second ifz_third
      ifz_path =
          let p = part_at s0 d a in
          let q = second_at s0 d p b in
          let r = third_at s0 d p q c in
          let e = ifz_j.grows.context ∙ (ifz_i.grows.context ∙ h.grows.context) in
          let f = free_at s0 s1 s3 p r1 h.gives e in
          let f' = free_at s1 s2 s3 q r2 ifz_i.gives (ifz_j.grows.context ∙ ifz_i.grows.context) in
          let f'' = free_at s2 s3 s3 r r3 ifz_j.gives ifz_j.grows.context in
          λ k. ifz_end (ifz_next k) d (context_of (e k)) (giving (h.gives.out k) nat (f k)) (giving (ifz_i.gives.out k) nat (f' k))
          (giving (ifz_j.gives.out k) nat (f'' k))

      -- room for the whole is room for its end
      pub ifz_close_room : HasRoom s0 d (part_at s0 d (ifz a b c)) → HasRoom s3 d (ifz_here s3 d r1 r2 r3)
      unfolding ifz_rest ifz_first ifz_second ifz_third
      ifz_close_room k =
          let p = part_at s0 d a in
          let q = second_at s0 d p b in
          let r = third_at s0 d p q c in
          let e : length (ifz_here s3 d r1 r2 r3).wires ≡ length ifz_rest.wires = ap (λ q. length q.wires) ifz_path in
          omega (
            arith,
            k,
            e,
            ifz_next,
            length-append p.wires (q.wires ++ (r.wires ++ ifz_rest.wires)),
            length-append q.wires (r.wires ++ ifz_rest.wires),
            length-append r.wires ifz_rest.wires,
          )

      -- all three operands and the end are the whole
      pub ifz_builds : (s4 : Parts) (x : Placed) → Builds s3 s4 (ifz_here s3 d r1 r2 r3) x → Builds s0 s4 (part_at s0 d (ifz a b c)) x
      unfolding ifz_rest
      ifz_builds s4 x k =
          let p = part_at s0 d a in
          let q = second_at s0 d p b in
          let r = third_at s0 d p q c in
          let k' : Builds s3 s4 ifz_rest x = subst (λ t. Builds s3 s4 t x) ifz_path k in
          after s0 s1 s4 p.wires p.nodes (before q.wires q.nodes (before r.wires r.nodes ifz_rest)) x h.grows
          (after s1 s2 s4 q.wires q.nodes (before r.wires r.nodes ifz_rest) x ifz_i.grows
          (after s2 s3 s4 r.wires r.nodes ifz_rest x ifz_j.grows k'))

-- a function, and an argument behind it one depth further in
module _ (s0 s1 : Parts) (d : ℕ) (a b : TermTree) (r1 : Placed) (h : Builds s0 s1 (part_at s0 d a) r1) where
  app_rest : Part
  app_rest =
      let p = part_at s0 d a in
      let q = second_at s0 (suc d) p b in
      app_end (length s0.wires.items + length p.wires + length q.wires) d (context_of s0.context.items) p q

  module _ (s2 : Parts) (r2 : Placed) (i : Builds s1 s2 (part_at s1 (suc d) b) r2) where
    app_i : Builds s1 s2 (second_at s0 (suc d) (part_at s0 d a) b) r2
    app_i = subst (λ q. Builds s1 s2 q r2) (moved s0 s1 (part_at s0 d a) (suc d) b h.grows) i

    -- the end that is built from there is the definition's
    app_path : app_here s2 d r1 r2 ≡ app_rest
    unfolding app_rest
    app_path =
        let p = part_at s0 d a in
        let q = second_at s0 (suc d) p b in
        let n : length s2.wires.items ≡ length s0.wires.items + length p.wires + length q.wires =
        grows_length s1 s2 q.wires q.nodes app_i.grows ∙ ap (λ m. m + length q.wires) (grows_length s0 s1 p.wires p.nodes h.grows) in
        let c = app_i.grows.context ∙ h.grows.context in
        let f = free_at s0 s1 s2 p r1 h.gives c in
        let f' = free_at s1 s2 s2 q r2 app_i.gives app_i.grows.context in
        let t : wire_type s2 r1.out ≡ p.type = kept_type s1 s2 q.wires q.nodes r1.out app_i.grows h.gives.inside ∙ h.gives.type in
        λ k. app_end (n k) d (context_of (c k)) (giving (h.gives.out k) (t k) (f k))
        (giving (app_i.gives.out k) (app_i.gives.type k) (f' k))

    -- room for the whole is room for its end
    pub app_close_room : HasRoom s0 d (part_at s0 d (app a b)) → HasRoom s2 d (app_here s2 d r1 r2)
    unfolding app_rest
    app_close_room k =
        let p = part_at s0 d a in
        let q = second_at s0 (suc d) p b in
        let n : length s2.wires.items ≡ length s0.wires.items + length p.wires + length q.wires =
        grows_length s1 s2 q.wires q.nodes app_i.grows ∙ ap (λ m. m + length q.wires) (grows_length s0 s1 p.wires p.nodes h.grows) in
        last_fits d (length s0.wires.items) _ _ p.wires q.wires app_rest.wires n (ap (λ q. length q.wires) app_path) k

    -- function, argument and the end are the whole
    pub app_builds : (s3 : Parts) (r : Placed) → Builds s2 s3 (app_here s2 d r1 r2) r → Builds s0 s3 (part_at s0 d (app a b)) r
    unfolding app_rest
    app_builds s3 r j =
        let p = part_at s0 d a in
        let q = second_at s0 (suc d) p b in
        let j' : Builds s2 s3 app_rest r = subst (λ t. Builds s2 s3 t r) app_path j in
        after s0 s1 s3 p.wires p.nodes (before q.wires q.nodes app_rest) r h.grows
        (after s1 s2 s3 q.wires q.nodes app_rest r app_i.grows j')

-- a body's loose wires, from the state after it
body_free_at : (s n s' : Parts) (p : Part) (r : Placed) → Gives (suc (length s.context.items)) n p r → s'.context.items ≡ s.context.items
    → body_frees s' r ≡ p.free
body_free_at s n s' p r g e = ap (λ c. spread (suc (length c)) (reverse r.free.items)) e ∙ g.free.spreads

-- the body of a function, at its depth
module _ (s0 s1 : Parts) (d : ℕ) (t : TyTree) (m : TermTree) (r1 : Placed) (h : BuildsBody s0 s1 (body_at s0 d t m) r1) where
  lam_path : lam_here s1 d t r1 ≡ (let p = body_at s0 d t m in lam_end (length s0.wires.items + length p.wires) d t p)
  lam_path =
      let p = body_at s0 d t m in
      let n = grows_length s0 s1 p.wires p.nodes h.grows in
      let f = body_free_at s0 s1 s1 p r1 h.gives h.grows.context in
      λ k. lam_end (n k) d t (giving (h.gives.out k) (h.gives.type k) (f k))

  -- room for the whole is room for its end
  pub lam_close_room : HasRoom s0 d (part_at s0 d (lam t m)) → HasRoom s1 d (lam_here s1 d t r1)
  lam_close_room k =
      let p = body_at s0 d t m in
      behind_fits d (length s0.wires.items) _ _ p.wires _ (grows_length s0 s1 p.wires p.nodes h.grows) (ap (λ q. length q.wires) lam_path) k

  -- the body and the end are the whole
  pub lam_builds : (s2 : Parts) (r : Placed) → Builds s1 s2 (lam_here s1 d t r1) r → Builds s0 s2 (part_at s0 d (lam t m)) r
  lam_builds s2 r j =
      let p = body_at s0 d t m in
      let c = lam_end (length s0.wires.items + length p.wires) d t p in
      after s0 s1 s2 p.wires p.nodes c r h.grows (subst (λ t. Builds s1 s2 t r) lam_path j)

-- the body of a fixed point, one depth further in
module _ (s0 s1 : Parts) (d : ℕ) (t : TyTree) (m : TermTree) (r1 : Placed) (h : BuildsBody s0 s1 (body_at s0 (suc d) t m) r1) where
  fix_path : fix_here s1 d t r1 ≡
      (let p = body_at s0 (suc d) t m in fix_end (length s0.wires.items + length p.wires) d (context_of s0.context.items) t p)
  fix_path =
      let p = body_at s0 (suc d) t m in
      let n = grows_length s0 s1 p.wires p.nodes h.grows in
      let f = body_free_at s0 s1 s1 p r1 h.gives h.grows.context in
      λ k. fix_end (n k) d (context_of (h.grows.context k)) t (giving (h.gives.out k) nat (f k))

  -- room for the whole is room for its end
  pub fix_close_room : HasRoom s0 d (part_at s0 d (fix t m)) → HasRoom s1 d (fix_here s1 d t r1)
  fix_close_room l =
      let p = body_at s0 (suc d) t m in
      let c = fix_end (length s0.wires.items + length p.wires) d (context_of s0.context.items) t p in
      let e : length (fix_here s1 d t r1).wires ≡ length c.wires = ap (λ q. length q.wires) fix_path in
      omega (arith, l, e, grows_length s0 s1 p.wires p.nodes h.grows, length-append p.wires c.wires)

  -- the body and the end are the whole
  pub fix_builds : (s2 : Parts) (r : Placed) → Builds s1 s2 (fix_here s1 d t r1) r → Builds s0 s2 (part_at s0 d (fix t m)) r
  fix_builds s2 r j =
      let p = body_at s0 (suc d) t m in
      let c = fix_end (length s0.wires.items + length p.wires) d (context_of s0.context.items) t p in
      after s0 s1 s2 p.wires p.nodes c r h.grows (subst (λ t. Builds s1 s2 t r) fix_path j)

-- the same, where the argument's depth is told as a number of its own
pub app_builds_at : (s0 s1 s2 s3 : Parts) (d d' : ℕ) (a b : TermTree) (r1 r2 r : Placed) → d' ≡ suc d → Builds s0 s1 (part_at s0 d a) r1
    → Builds s1 s2 (part_at s1 d' b) r2 → Builds s2 s3 (app_here s2 d r1 r2) r →
    Builds s0 s3 (part_at s0 d (app a b)) r
app_builds_at s0 s1 s2 s3 d d' a b r1 r2 r e h i j =
    app_builds s0 s1 d a b r1 h s2 r2 (subst (λ d'. Builds s1 s2 (part_at s1 d' b) r2) e i) s3 r j

-- room for the whole is room for its end, where the argument's depth is told as a number of its own
pub app_close_room_at : (s0 s1 s2 : Parts) (d d' : ℕ) (a b : TermTree) (r1 r2 : Placed) → d' ≡ suc d → Builds s0 s1 (part_at s0 d a) r1
    → Builds s1 s2 (part_at s1 d' b) r2 → HasRoom s0 d (part_at s0 d (app a b)) → HasRoom s2 d (app_here s2 d r1 r2)
app_close_room_at s0 s1 s2 d d' a b r1 r2 e h i k =
    app_close_room s0 s1 d a b r1 h s2 r2 (subst (λ d'. Builds s1 s2 (part_at s1 d' b) r2) e i) k

-- the same of a body whose depth is told as a number of its own: room for its end
pub fix_close_room_at : (s0 s1 : Parts) (d d' : ℕ) (t : TyTree) (m : TermTree) (r1 : Placed) → d' ≡ suc d
    → BuildsBody s0 s1 (body_at s0 d' t m) r1 →
    HasRoom s0 d (part_at s0 d (fix t m)) → HasRoom s1 d (fix_here s1 d t r1)
fix_close_room_at s0 s1 d d' t m r1 e h l = fix_close_room s0 s1 d t m r1 (subst (λ d'. BuildsBody s0 s1 (body_at s0 d' t m) r1) e h) l

-- and the whole
pub fix_builds_at : (s0 s1 s2 : Parts) (d d' : ℕ) (t : TyTree) (m : TermTree) (r1 r : Placed) → d' ≡ suc d
    → BuildsBody s0 s1 (body_at s0 d' t m) r1 → Builds s1 s2 (fix_here s1 d t r1) r → Builds s0 s2 (part_at s0 d (fix t m)) r
fix_builds_at s0 s1 s2 d d' t m r1 r e h j = fix_builds s0 s1 d t m r1 (subst (λ d'. BuildsBody s0 s1 (body_at s0 d' t m) r1) e h) s2 r j

-- a variable's loose wire
one_spreads : (g : List TyTree) (k i w : ℕ) → length g ≡ k → Spreads k (one_free g i w) (one_at k i w)
one_spreads [] zero i w h =
    let e : one_at zero i w ≡ [] = rw (le-ltb i zero (omega arith)) refl in
    subst (Spreads zero []) (sym e) (record { spreads = refl; falling = tt })
one_spreads [] (suc k) i w h = absurd (omega arith)
one_spreads (t ∷ g) zero i w h = absurd (omega arith)
one_spreads (t ∷ g) (suc k) zero w h =
    let u : Loose = record { binder = k; wire = w } in
    let b : suc k - 1 - 0 ≡ k = omega arith in
    let e : one_at (suc k) zero w ≡ u ∷ [] = rw (lt-ltb zero (suc k) (omega arith), b) refl in
    subst (Spreads (suc k) (Some w ∷ none_free g)) (sym e)
    (record { spreads = spread_at k u [] refl ∙ ap (λ f. Some w ∷ f) (spread_none k g (omega arith)); falling = (omega arith, tt) })
one_spreads (t ∷ g) (suc k) (suc i) w h = go (cases_lt i k) (one_spreads g k i w (omega arith))
  where
    go : (i < k) ⊎ (k ≤ i) → Spreads k (one_free g i w) (one_at k i w) → Spreads (suc k) (None ∷ one_free g i w) (one_at (suc k) (suc i) w)
    go (inl l) s =
        let u : Loose = record { binder = k - 1 - i; wire = w } in
        let e : one_at k i w ≡ u ∷ [] = rw (lt-ltb i k l) refl in
        let b : suc k - 1 - suc i ≡ k - 1 - i = omega arith in
        let e' : one_at (suc k) (suc i) w ≡ u ∷ [] = rw (lt-ltb (suc i) (suc k) (omega arith), b) refl in
        let s' = subst (Spreads k (one_free g i w)) e s in
        subst (Spreads (suc k) (None ∷ one_free g i w)) (sym e')
        (record {
          spreads = spread_under k (u ∷ []) s'.falling
              ∙ ap (λ f. None ∷ f) s'.spreads;
          falling = falling_more k (u ∷ []) s'.falling;
        })
    go (inr l) s =
        let e : one_at k i w ≡ [] = rw (le-ltb i k l) refl in
        let e' : one_at (suc k) (suc i) w ≡ [] = rw (le-ltb (suc i) (suc k) (omega arith)) refl in
        let s' = subst (Spreads k (one_free g i w)) e s in
        subst (Spreads (suc k) (None ∷ one_free g i w)) (sym e') (record { spreads = ap (λ f. None ∷ f) s'.spreads; falling = tt })

-- one node was added, and no wire
pub node_grows : (old new : Parts) (n : Node) → new.wires.items ≡ old.wires.items → new.nodes.items ≡ old.nodes.items ++ n ∷ []
    → new.context.items ≡ old.context.items → Grows old new [] (n ∷ [])
node_grows old new n ew en ec = record {
  wires = ap (map wire_of) ew ∙ sym (append-nil (map wire_of old.wires.items));
  nodes = en;
  context = ec;
}

-- both wires of a variable and its Der are its part
pub variable_builds : (old mid new : Parts) (d i x : ℕ) (a : TyTree) (r : Placed) → Grows old mid (value_wire d a ∷ var_wire d a ∷ []) []
    → r.out ≡ length old.wires.items → a ≡ type_or_nat (slice_get (context_of old.context.items) i) →
    x ≡ suc (length old.wires.items) → Grows mid new [] (Der r.out x ∷ []) → r.free.items ≡ one_at (length old.context.items) i x → Builds
    old new (part_at old d (var i)) r
variable_builds old mid new d i x a r g eo et ex h ef =
    let n = length old.wires.items in
    let t = type_or_nat (slice_get (context_of old.context.items) i) in
    let g' : Grows old mid (value_wire d t ∷ var_wire d t ∷ []) [] =
    subst (λ t. Grows old mid (value_wire d t ∷ var_wire d t ∷ []) []) et g in
    let en : Der r.out x ≡ Der n (suc n) = λ k. Der (eo k) (ex k) in
    let h' : Grows mid new [] (Der n (suc n) ∷ []) = subst (λ n. Grows mid new [] (n ∷ [])) en h in
    let f : r.free.items ≡ one_at (length old.context.items) i (suc n) = ef ∙ ap (one_at (length old.context.items) i) ex in
    let k : Grows old new (value_wire d t ∷ var_wire d t ∷ []) (Der n (suc n) ∷ []) =
    grows_then old mid new (value_wire d t ∷ var_wire d t ∷ []) [] [] (Der n (suc n) ∷ []) g' h' in
    record {
      grows = k;
      gives = record {
        out = eo;
        inside = new_inside old new (value_wire d t) (var_wire d t ∷ []) (Der n (suc n) ∷ []) r.out k eo;
        type = new_type old new (value_wire d t) (var_wire d t ∷ []) (Der n (suc n) ∷ []) r.out k eo;
        free =
            subst (Spreads (length old.context.items) (one_free (context_of old.context.items) i (suc n))) (sym f)
            (one_spreads (context_of old.context.items) (length old.context.items) i (suc n) (context_length old.context.items));
      };
    }
