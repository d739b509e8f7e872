-- The reading of the lines answers the first one that can't stand.
use Rattle.std.proofs.Common.{◌≡◌, ◌⊎◌, ℕ, zero, suc, ◌+◌, ◌^◌, ◌<◌, ◌≤◌, Bool, true, false, ◌&&◌, List, [], ◌∷◌, ◌++◌, length, take}
use Rattle.std.proofs.Common.{Option, Some, None, Ok, Err, refl, sym, ap, ◌∙◌, subst, inl, inr, arith}
use Rattle.std.specs.Prelude.{Result, nat_lt, nat_le, if◌then◌else◌}
use Rattle.std.specs.Str.{bytes_eq}
use Rattle.std.proofs.lemmas.Bool.{lt-ltb, ltb-true, le-leb, leb-true, and_parts, and_from, both_ways}
use Rattle.net_build.specs.declared.node.Node.{Node}
use Rattle.net_build.specs.declared.node.Node.TheVariants.{Const}
use Rattle.net_build.specs.Nets.{WireTree, NetTree}
use Rattle.text_lines.specs.Lines.{end_line}
use Rattle.text_lines.proofs.Numbers.{is_same, same_is}
use Rattle.text_lines.proofs.Firsts.{others_are}
use Rattle.net_text.specs.Listing.{wire_line, node_line, numbers_of}
use Rattle.net_text.specs.NetText.{numbered, NodeFits, NodesFit, WiresFit, Small, ty_height}
use Rattle.net_text.specs.Standing.{NodesStand, WiresStand}
use Rattle.net_text.specs.WireText.{wire_in}
use Rattle.net_text.specs.NodeText.{all_small, node_fits, node_in}
use Rattle.net_text.specs.FirstFault.{if_right, checked_node, node_at, wire_fits, checked_wire, wire_at, ended, with_node, and_nodes}
use Rattle.net_text.specs.FirstFault.{nodes_from, no_wires, with_wire, and_wires, wires_from}
use Rattle.net_text.proofs.NodesRead.{node_read}
use Rattle.net_text.proofs.WiresRead.{wire_read}

-- the test of 32 bits says what it tests
small_is : (ns : List ℕ) → all_small ns ≡ true → Small ns
small_is [] h = tt
small_is (n ∷ ns) h = let (p, q) = and_parts (nat_lt n (2 ^ 32)) (all_small ns) h in (ltb-true n (2 ^ 32) p, small_is ns q)

-- and passes where that holds
is_small : (ns : List ℕ) → Small ns → all_small ns ≡ true
is_small [] h = refl
is_small (n ∷ ns) h = and_from (nat_lt n (2 ^ 32)) (all_small ns) (lt-ltb n (2 ^ 32) h.0) (is_small ns h.1)

-- so does the test of a node's numbers
fits_is : (x : Node) → node_fits x ≡ true → NodeFits x
fits_is (Const v w) h = let (p, q) = and_parts (nat_lt v (2 ^ 64)) (nat_lt w (2 ^ 32)) h in (ltb-true v (2 ^ 64) p, ltb-true w (2 ^ 32) q)
fits_is x h = small_is (numbers_of x) h

-- in both directions
is_fits : (x : Node) → NodeFits x → node_fits x ≡ true
is_fits (Const v w) h = and_from (nat_lt v (2 ^ 64)) (nat_lt w (2 ^ 32)) (lt-ltb v (2 ^ 64) h.0) (lt-ltb w (2 ^ 32) h.1)
is_fits x h = is_small (numbers_of x) h

-- what is right passed its test
right_parts : {A : Type 0} → (b : Bool) (x y : A) → if_right b x ≡ Some y → (b ≡ true) × (x ≡ y)
right_parts true x y h = (refl, cc)
right_parts false x y h = cc

-- a line that is taken for a node's is that node's
pub node_is : (k : ℕ) (l : List ℕ) (o : Option Node) (x : Node) → checked_node k l o ≡ Some x → (l ≡ node_line k x) × NodeFits x
node_is k l None x h = cc
node_is k l (Some y) x h =
    let (p, q) = right_parts (bytes_eq l (node_line k y) && node_fits y) y x h in
    let (u, v) = and_parts (bytes_eq l (node_line k y)) (node_fits y) p in
    (same_is l (node_line k y) u ∙ ap (node_line k) q, subst NodeFits q (fits_is y v))

-- a node's line is taken for it
pub is_node : (k : ℕ) (l : List ℕ) (x : Node) → l ≡ node_line k x → NodeFits x → node_at k l ≡ Some x
is_node k l x e f =
    ap (λ z. checked_node k l (node_in k z)) e ∙ ap (checked_node k l) (node_read k x f)
    ∙ ap (λ b. if_right b x) (and_from (bytes_eq l (node_line k x)) (node_fits x) (is_same l (node_line k x) e) (is_fits x f))

-- a line that is taken for a wire's is that wire's
pub wire_is : (h k : ℕ) (l : List ℕ) (o : Option WireTree) (w : WireTree) → checked_wire h k l o ≡ Some w
    → (l ≡ wire_line k w) × (w.depth < 2 ^ 32) × (ty_height w.type ≤ h)
wire_is h k l None w e = cc
wire_is h k l (Some y) w e =
    let (p, q) = right_parts (bytes_eq l (wire_line k y) && wire_fits h y) y w e in
    let (u, v) = and_parts (bytes_eq l (wire_line k y)) (wire_fits h y) p in
    let (a, b) = and_parts (nat_lt y.depth (2 ^ 32)) (nat_le (ty_height y.type) h) v in (
      same_is l (wire_line k y) u
          ∙ ap (wire_line k) q,
      subst (λ (w : WireTree). w.depth < 2 ^ 32) q (ltb-true y.depth (2 ^ 32) a),
      subst (λ (w : WireTree). ty_height w.type ≤ h) q (leb-true (ty_height y.type) h b),
    )

-- a wire's line is taken for it
pub is_wire : (h k : ℕ) (l : List ℕ) (w : WireTree) → l ≡ wire_line k w → w.depth < 2 ^ 32 → ty_height w.type ≤ h → wire_at h k l ≡ Some w
is_wire h k l w e a b =
    ap (λ z. checked_wire h k l (wire_in h k z)) e ∙ ap (checked_wire h k l) (wire_read h k w (omega (arith, a)) b)
    ∙ ap (λ b. if_right b w)
    (and_from (bytes_eq l (wire_line k w)) (wire_fits h w) (is_same l (wire_line k w) e)
    (and_from (nat_lt w.depth (2 ^ 32)) (nat_le (ty_height w.type) h) (lt-ltb w.depth (2 ^ 32) a) (le-leb (ty_height w.type) h b)))

-- the first bad line of lines that begin with line n: m is its number; Stand is what the lines before it are, Whole what all would be
pub record Bad (Stand : List (List ℕ) → Type 0) (Whole : List (List ℕ) → Type 0) (n m : ℕ) (ls : List (List ℕ)) : Type 0 where
  pub good : ℕ
  pub at : m ≡ n + good
  pub few : good ≤ length ls
  pub before : Stand (take good ls)
  pub there : good < length ls → Stand (take (suc good) ls) → ⊥
  pub behind : good ≡ length ls → Whole ls → ⊥

-- nodes whose lines these are, and the last line
pub record NodesWhole (k : ℕ) (ls : List (List ℕ)) : Type 0 where
  pub nodes : List Node
  pub fit : NodesFit nodes
  pub are : numbered node_line k nodes ++ end_line ∷ [] ≡ ls

-- two faults of one reading are one
nodes_err : (n m : ℕ) (r : Result (List Node) ℕ) → r ≡ Err n → r ≡ Err m → m ≡ n
nodes_err n m r h g = cc

-- a reading has no fault where it gives nodes
nodes_ok : (ns : List Node) (m : ℕ) (r : Result (List Node) ℕ) → r ≡ Ok ns → r ≡ Err m → ⊥
nodes_ok ns m r h g = cc

-- the first byte of a line
first_byte : List ℕ → ℕ
first_byte [] = 0
first_byte (b ∷ bs) = b

-- a node's line is not the last
not_last : (k : ℕ) (x : Node) (l : List ℕ) → l ≡ node_line k x → l ≡ end_line → ⊥
unfolding first_byte
not_last k x l e f = let z : 110 ≡ 101 = ap first_byte (sym e ∙ f) in absurd (omega (arith, z))

-- nodes and the last line are some lines
no_lines : (k : ℕ) (ns : List Node) → numbered node_line k ns ++ end_line ∷ [] ≡ [] → ⊥
no_lines k [] h = cc
no_lines k (x ∷ ns) h = cc

-- no line is left
none_bad : (k n m : ℕ) → m ≡ n → Bad (NodesStand k) (NodesWhole k) n m []
none_bad k n m e = record {
  good = 0;
  at = omega (arith, e);
  few = omega arith;
  before = tt;
  there = λ u s. absurd (omega (arith, u));
  behind = λ u w. no_lines k w.nodes w.are;
}

-- this line is no node's and not the last
line_bad : (k n m : ℕ) (l : List ℕ) (ls : List (List ℕ)) → m ≡ n → ((x : Node) → NodeFits x → l ≡ node_line k x → ⊥) → (l ≡ end_line → ⊥)
    → Bad (NodesStand k) (NodesWhole k) n m (l ∷ ls)
line_bad k n m l ls e p q = record {
  good = 0;
  at = omega (arith, e);
  few = omega arith;
  before = tt;
  there = λ u s. elim s [ inl s ↦ p s.0 s.1 s.2 | inr s ↦ q s.0 ];
  behind = λ u w. absurd (omega (arith, u));
}

-- a line behind the last
behind_bad : (k n m : ℕ) (l l' : List ℕ) (ls : List (List ℕ)) → m ≡ suc n → l ≡ end_line
    → Bad (NodesStand k) (NodesWhole k) n m (l ∷ l' ∷ ls)
behind_bad k n m l l' ls e f = record {
  good = 1;
  at = omega (arith, e);
  few = omega arith;
  before = inr (f, refl);
  there = λ u s. elim s [ inl s ↦ not_last k s.0 l s.2 f | inr s ↦ let z : l' ∷ [] ≡ [] = s.1 in cc ];
  behind = λ u w. absurd (omega (arith, u));
}

-- the first lines of equal lists
pub first_is : (k l : List ℕ) (ks ls : List (List ℕ)) → k ∷ ks ≡ l ∷ ls → l ≡ k
first_is k l ks ls h = cc

-- the lines behind a node's are those of the other nodes
rest_whole : (k : ℕ) (l : List ℕ) (ls : List (List ℕ)) (ns : List Node) → NodesFit ns → numbered node_line k ns ++ end_line ∷ [] ≡ l ∷ ls
    → (l ≡ end_line → ⊥) → NodesWhole (suc k) ls
rest_whole k l ls [] f h q = absurd (q (first_is end_line l [] ls h))
rest_whole k l ls (x ∷ ns) f h q = record {
  nodes = ns;
  fit = f.1;
  are = others_are (node_line k x) l (numbered node_line (suc k) ns ++ end_line ∷ []) ls h;
}

-- the first bad line is a later one
later_bad : (k n m : ℕ) (l : List ℕ) (ls : List (List ℕ)) (x : Node) → NodeFits x → l ≡ node_line k x → (l ≡ end_line → ⊥)
    → Bad (NodesStand (suc k)) (NodesWhole (suc k)) (suc n) m ls → Bad (NodesStand k) (NodesWhole k) n m (l ∷ ls)
later_bad k n m l ls x f e q b = record {
  good = suc b.good;
  at = omega (arith, b.at);
  few = omega (arith, b.few);
  before = inl (x, f, e, b.before);
  there = λ u s. elim s [ inl s ↦ b.there (omega (arith, u)) s.3 | inr s ↦ q s.0 ];
  behind = λ u w. b.behind (omega (arith, u)) (rest_whole k l ls w.nodes w.fit w.are q);
}

-- a fault behind a node is one of the lines behind it
with_node_err : (x : Node) (m : ℕ) (r : Result (List Node) ℕ) → with_node x r ≡ Err m → r ≡ Err m
with_node_err x m (Ok ns) h = cc
with_node_err x m (Err j) h = cc

-- the last line, with or without others behind it
ended_bad : (k n m : ℕ) (l : List ℕ) (ls : List (List ℕ)) → l ≡ end_line → ended n ls ≡ Err m
    → Bad (NodesStand k) (NodesWhole k) n m (l ∷ ls)
ended_bad k n m l [] f h = absurd (nodes_ok [] m (ended n []) refl h)
ended_bad k n m l (l' ∷ ls) f h = behind_bad k n m l l' ls (nodes_err (suc n) m (ended n (l' ∷ ls)) refl h) f

-- what a line was found to be
node_bad : (k n m : ℕ) (l : List ℕ) (ls : List (List ℕ)) (o : Option Node) (r : Result (List Node) ℕ) → node_at k l ≡ o
    → (l ≡ end_line → ⊥) → (r ≡ Err m → Bad (NodesStand (suc k)) (NodesWhole (suc k)) (suc n) m ls) → and_nodes n o r ≡ Err m
    → Bad (NodesStand k) (NodesWhole k) n m (l ∷ ls)
node_bad k n m l ls None r found not_end later fault =
    line_bad k n m l ls (nodes_err n m (and_nodes n None r) refl fault) (λ x f g. no_node x (sym found ∙ is_node k l x g f)) not_end
  where
    no_node : (x : Node) → None ≡ Some x → ⊥
    no_node x h = cc
node_bad k n m l ls (Some x) r found not_end later fault =
    let (p, f) = node_is k l (node_in k l) x found in
    later_bad k n m l ls x f p not_end (later (with_node_err x m r fault))

-- which way a test went
pub chosen_nodes : (b : Bool) (r s t : Result (List Node) ℕ) → (if b then r else s) ≡ t → ((b ≡ true) × (r ≡ t)) ⊎ ((b ≡ false) × (s ≡ t))
chosen_nodes true r s t h = inl (refl, h)
chosen_nodes false r s t h = inr (refl, h)

-- The answer is the first bad line, of lines that stand behind the first k nodes.
pub nodes_bad : (k n m : ℕ) (ls : List (List ℕ)) → nodes_from k n ls ≡ Err m → Bad (NodesStand k) (NodesWhole k) n m ls
nodes_bad k n m [] h = none_bad k n m (nodes_err n m (nodes_from k n []) refl h)
nodes_bad k n m (l ∷ ls) h =
    elim (chosen_nodes (bytes_eq l end_line) (ended n ls) (and_nodes n (node_at k l) (nodes_from (suc k) (suc n) ls)) (Err m) h) [
      | inl c ↦ ended_bad k n m l ls (same_is l end_line c.0) c.1
      | inr c ↦ node_bad k n m l ls (node_at k l) (nodes_from (suc k) (suc n) ls) refl
          (λ e. both_ways (bytes_eq l end_line) c.0 (is_same l end_line e)) (nodes_bad (suc k) (suc n) m ls) c.1
    ]

pub record WiresWhole (h k : ℕ) (ls : List (List ℕ)) : Type 0 where
  pub wires : List WireTree
  pub nodes : List Node
  pub wires_fit : WiresFit h wires
  pub nodes_fit : NodesFit nodes
  pub are : numbered wire_line k wires ++ (numbered node_line 0 nodes ++ end_line ∷ []) ≡ ls

-- two faults of one reading of a net are one
pub net_err : (n m : ℕ) (r : Result NetTree ℕ) → r ≡ Err n → r ≡ Err m → m ≡ n
net_err n m r h g = cc

-- a fault without wires is one of the nodes
no_wires_err : (m : ℕ) (r : Result (List Node) ℕ) → no_wires r ≡ Err m → r ≡ Err m
no_wires_err m (Ok ns) h = cc
no_wires_err m (Err j) h = cc

-- a fault behind a wire is one of the lines behind it
with_wire_err : (w : WireTree) (m : ℕ) (r : Result NetTree ℕ) → with_wire w r ≡ Err m → r ≡ Err m
with_wire_err w m (Ok net) h = cc
with_wire_err w m (Err j) h = cc

-- a listing has lines
no_net : (k : ℕ) (ws : List WireTree) (ns : List Node) → numbered wire_line k ws ++ (numbered node_line 0 ns ++ end_line ∷ []) ≡ [] → ⊥
no_net k [] ns h = no_lines 0 ns h
no_net k (w ∷ ws) ns h = cc

-- a wire's line is no node's and not the last
wire_not_node : (k j : ℕ) (w : WireTree) (x : Node) (l : List ℕ) → l ≡ wire_line k w → l ≡ node_line j x → ⊥
unfolding first_byte
wire_not_node k j w x l e f = let z : 119 ≡ 110 = ap first_byte (sym e ∙ f) in absurd (omega (arith, z))

-- nor is it the last
wire_not_last : (k : ℕ) (w : WireTree) (l : List ℕ) → l ≡ wire_line k w → l ≡ end_line → ⊥
unfolding first_byte
wire_not_last k w l e f = let z : 119 ≡ 101 = ap first_byte (sym e ∙ f) in absurd (omega (arith, z))

-- lines of nodes can stand behind wires
front_stands : (h k g : ℕ) (l : List ℕ) (ls : List (List ℕ)) → NodesStand 0 (take g (l ∷ ls)) → WiresStand h k (take g (l ∷ ls))
front_stands h k zero l ls s = tt
front_stands h k (suc g) l ls s = inr s

-- a listing without a wire's line here is one of nodes
nodes_whole : (h k : ℕ) (l : List ℕ) (ls : List (List ℕ)) (ws : List WireTree) (ns : List Node) → WiresFit h ws → NodesFit ns
    → numbered wire_line k ws ++ (numbered node_line 0 ns ++ end_line ∷ []) ≡ l ∷ ls →
    ((w : WireTree) → w.depth < 2 ^ 32 → ty_height w.type ≤ h → l ≡ wire_line k w → ⊥) → NodesWhole 0 (l ∷ ls)
nodes_whole h k l ls [] ns f g e q = record { nodes = ns; fit = g; are = e }
nodes_whole h k l ls (w ∷ ws) ns f g e q =
    absurd (q w f.0 f.1 (first_is (wire_line k w) l (numbered wire_line (suc k) ws ++ (numbered node_line 0 ns ++ end_line ∷ [])) ls e))

-- no wire's line
no_wire_bad : (h k n m : ℕ) (l : List ℕ) (ls : List (List ℕ))
    → ((w : WireTree) → w.depth < 2 ^ 32 → ty_height w.type ≤ h → l ≡ wire_line k w → ⊥) → Bad (NodesStand 0) (NodesWhole 0) n m (l ∷ ls) →
    Bad (WiresStand h k) (WiresWhole h k) n m (l ∷ ls)
no_wire_bad h k n m l ls q b = record {
  good = b.good;
  at = b.at;
  few = b.few;
  before = front_stands h k b.good l ls b.before;
  there = λ u s. elim s [ inl s ↦ q s.0 s.1 s.2 s.3 | inr s ↦ b.there u s ];
  behind = λ u w. b.behind u (nodes_whole h k l ls w.wires w.nodes w.wires_fit w.nodes_fit w.are q);
}

-- the lines behind a wire's are those of the other wires and the nodes
rest_wires : (h k : ℕ) (l : List ℕ) (ls : List (List ℕ)) (w : WireTree) → l ≡ wire_line k w → (ws : List WireTree) (ns : List Node)
    → WiresFit h ws → NodesFit ns → numbered wire_line k ws ++ (numbered node_line 0 ns ++ end_line ∷ []) ≡ l ∷ ls →
    WiresWhole h (suc k) ls
rest_wires h k l ls w is [] [] wires_fit nodes_fit are = absurd (wire_not_last k w l is (first_is end_line l [] ls are))
rest_wires h k l ls w is [] (x ∷ ns) wires_fit nodes_fit are =
    absurd (wire_not_node k 0 w x l is (first_is (node_line 0 x) l (numbered node_line 1 ns ++ end_line ∷ []) ls are))
rest_wires h k l ls w is (v ∷ ws) ns wires_fit nodes_fit are =
    record {
      wires = ws;
      nodes = ns;
      wires_fit = wires_fit.2;
      nodes_fit = nodes_fit;
      are = others_are (wire_line k v) l (numbered wire_line (suc k) ws ++ (numbered node_line 0 ns ++ end_line ∷ [])) ls are;
    }

-- the first bad line stands behind a wire's
wire_bad : (h k n m : ℕ) (l : List ℕ) (ls : List (List ℕ)) (w : WireTree) → l ≡ wire_line k w → w.depth < 2 ^ 32 → ty_height w.type ≤ h
    → Bad (WiresStand h (suc k)) (WiresWhole h (suc k)) (suc n) m ls →
    Bad (WiresStand h k) (WiresWhole h k) n m (l ∷ ls)
wire_bad h k n m l ls w is deep high bad = record {
  good = suc bad.good;
  at = omega (arith, bad.at);
  few = omega (arith, bad.few);
  before = inl (w, deep, high, is, bad.before);
  there = λ u s. elim s [
    | inl s ↦ bad.there (omega (arith, u)) s.4
    | inr s ↦ elim
        s [ inl s ↦ wire_not_node k 0 w s.0 l is s.2 | inr s ↦ wire_not_last k w l is s.0 ]
  ];
  behind = λ u v. bad.behind (omega (arith, u)) (rest_wires h k l ls w is v.wires v.nodes v.wires_fit v.nodes_fit v.are);
}

-- what a line was found to be
found_bad : (h k n m : ℕ) (l : List ℕ) (ls : List (List ℕ)) (o : Option WireTree) (r : Result NetTree ℕ) (s : Result (List Node) ℕ)
    → wire_at h k l ≡ o →
    (r ≡ Err m → Bad (WiresStand h (suc k)) (WiresWhole h (suc k)) (suc n) m ls) →
    (s ≡ Err m → Bad (NodesStand 0) (NodesWhole 0) n m (l ∷ ls)) → and_wires o r s ≡ Err m → Bad (WiresStand h k) (WiresWhole h k) n m
    (l ∷ ls)
found_bad h k n m l ls None r s found later as_nodes fault =
    no_wire_bad h k n m l ls (λ w d t f. no_wire w (sym found ∙ is_wire h k l w f d t)) (as_nodes (no_wires_err m s fault))
  where
    no_wire : (w : WireTree) → None ≡ Some w → ⊥
    no_wire w h = cc
found_bad h k n m l ls (Some w) r s found later as_nodes fault = let (p, d, t) =
    wire_is h k l (wire_in h k l) w found in wire_bad h k n m l ls w p d t (later (with_wire_err w m r fault))

-- The answer is the first bad line, of lines that stand behind the first k wires.
pub wires_bad : (h k n m : ℕ) (ls : List (List ℕ)) → wires_from h k n ls ≡ Err m → Bad (WiresStand h k) (WiresWhole h k) n m ls
wires_bad h k n m [] e = record {
  good = 0;
  at = omega (arith, net_err n m (wires_from h k n []) refl e);
  few = omega arith;
  before = tt;
  there = λ u s. absurd (omega (arith, u));
  behind = λ u w. no_net k w.wires w.nodes w.are;
}
wires_bad h k n m (l ∷ ls) e =
    found_bad h k n m l ls (wire_at h k l) (wires_from h (suc k) (suc n) ls) (nodes_from zero n (l ∷ ls)) refl
    (wires_bad h (suc k) (suc n) m ls) (nodes_bad zero n m (l ∷ ls)) e
