-- Exchanged numbers reach the nodes of the arguments, and no other.
use Rattle.std.proofs.Common.{◌≡◌, ◌≤◌, ◌<◌, ℕ, zero, suc, ◌+◌, cond, List, [], ◌∷◌, ◌++◌, length, Option, Some, None}
use Rattle.std.proofs.Common.{refl, sym, ap, ◌∙◌, arith}
use Rattle.std.proofs.lemmas.Bool.{eq-eqb, ne_eqb}
use Rattle.pcf_values.specs.Terms.{TermTree}
use Rattle.net_build.specs.declared.node.Node.{Node}
use Rattle.net_build.specs.declared.node.Node.TheVariants.{Const, App, BoxNode, Root}
use Rattle.net_build.specs.Nets.{NetTree}
use Rattle.net_build.specs.NetOf.{Part, net_of}
use Rattle.open_net_laws.specs.Applied.{applied}
use Rattle.open_net_laws.specs.Arguments.{argument_wires, argument_nodes, last_wire, closed_part, with_arguments}
use Rattle.open_net_laws.specs.Numbers.{set_given, set_all, given, with_numbers, places_from, places}
use Rattle.open_net_laws.specs.Laws.{IsShape}
use Rattle.open_net_laws.proofs.Parts.{net_by, applied_net, wire_count, node_count}

-- ---- lists of nodes

-- one list after another
set_append : (f : ℕ → Option ℕ) (k : ℕ) (xs ys : List Node) → set_all f k (xs ++ ys) ≡ set_all f k xs ++ set_all f (k + length xs) ys
set_append f k [] ys = let e : k ≡ k + 0 = omega arith in ap (λ k. set_all f k ys) e
set_append f k (x ∷ xs) ys =
    let e : suc k + length xs ≡ k + length (x ∷ xs) = omega arith in
    ap (λ ns. set_given (f k) x ∷ ns) (set_append f (suc k) xs ys ∙ ap (λ j. set_all f (suc k) xs ++ set_all f j ys) e)

-- where nothing is given, nothing changes
set_none : (f : ℕ → Option ℕ) (k : ℕ) (xs : List Node) → ((i : ℕ) → i < k + length xs → f i ≡ None) → set_all f k xs ≡ xs
set_none f k [] h = refl
set_none f k (x ∷ xs) h =
    ap (λ o. set_given o x ∷ set_all f (suc k) xs) (h k (omega arith)) ∙
    ap (λ ns. x ∷ ns) (set_none f (suc k) xs (λ i l. h i (omega arith)))

-- what is given below the first number doesn't count
pub set_same : (f g : ℕ → Option ℕ) (k : ℕ) (xs : List Node) → ((i : ℕ) → k ≤ i → f i ≡ g i) → set_all f k xs ≡ set_all g k xs
set_same f g k [] h = refl
set_same f g k (x ∷ xs) h =
    ap (λ o. set_given o x ∷ set_all f (suc k) xs) (h k (omega arith)) ∙
    ap (λ ns. set_given (g k) x ∷ ns) (set_same f g (suc k) xs (λ i l. h i (omega arith)))

-- ---- places

-- below the first place nothing is given
pub low : (k n : ℕ) (vs : List ℕ) (i : ℕ) → i < k → given (places_from k n) vs i ≡ None
low k zero vs i l = refl
low k (suc n) [] i l = refl
low k (suc n) (v ∷ vs) i l =
    ap (λ b. cond b (Some v) (given (places_from (suc (suc (suc k))) n) vs i)) (ne_eqb k i (λ e. absurd (omega arith))) ∙
    low (suc (suc (suc k))) n vs i (omega arith)

-- above it the others count
pub high : (k n v : ℕ) (vs : List ℕ) (i : ℕ) → suc (suc (suc k)) ≤ i →
    given (places_from k (suc n)) (v ∷ vs) i ≡ given (places_from (suc (suc (suc k))) n) vs i
high k n v vs i l = ap (λ b. cond b (Some v) (given (places_from (suc (suc (suc k))) n) vs i)) (ne_eqb k i (λ e. absurd (omega arith)))

keeps_box : (o : Option ℕ) (a b : ℕ) → set_given o (BoxNode a b) ≡ BoxNode a b
keeps_box None a b = refl
keeps_box (Some v) a b = refl

keeps_app : (o : Option ℕ) (a b c : ℕ) → set_given o (App a b c) ≡ App a b c
keeps_app None a b c = refl
keeps_app (Some v) a b c = refl

-- four nodes by four
four : (a a' b b' c c' : Node) (ns ns' : List Node) → a ≡ a' → b ≡ b' → c ≡ c' → ns ≡ ns' → a ∷ b ∷ c ∷ ns ≡ a' ∷ b' ∷ c' ∷ ns'
four a a' b b' c c' ns ns' p q r s =
    ap (λ x. x ∷ b ∷ c ∷ ns) p ∙ ap (λ x. a' ∷ x ∷ c ∷ ns) q ∙ ap (λ x. a' ∷ b' ∷ x ∷ ns) r ∙ ap (λ x. a' ∷ b' ∷ c' ∷ x) s

-- the arguments' nodes get their numbers
arguments : (k w o r : ℕ) (us vs : List ℕ) → length us ≡ length vs →
    set_all (given (places_from k (length vs)) vs) k (argument_nodes w o us ++ Root r ∷ []) ≡ argument_nodes w o vs ++ Root r ∷ []
arguments k w o r [] [] h = refl
arguments k w o r [] (v ∷ vs) h = absurd (omega arith)
arguments k w o r (u ∷ us) [] h = absurd (omega arith)
arguments k w o r (u ∷ us) (v ∷ vs) h =
    let f = given (places_from k (suc (length vs))) (v ∷ vs) in
    let w' = suc (suc (suc w)) in
    let k' = suc (suc (suc k)) in
    let rest = argument_nodes w' (suc (suc w)) us ++ Root r ∷ [] in
    four (set_given (f k) (Const u w)) (Const v w) (set_given (f (suc k)) (BoxNode w (suc w))) (BoxNode w (suc w))
    (set_given (f (suc (suc k))) (App o (suc w) (suc (suc w)))) (App o (suc w) (suc (suc w))) (set_all f k' rest)
    (argument_nodes w' (suc (suc w)) vs ++ Root r ∷ [])
    (ap (λ b. set_given (cond b (Some v) (given (places_from k' (length vs)) vs k)) (Const u w)) (eq-eqb k k refl))
    (keeps_box (f (suc k)) w (suc w)) (keeps_app (f (suc (suc k))) o (suc w) (suc (suc w)))
    (set_same f (given (places_from k' (length vs)) vs) k' rest (λ i l. high k (length vs) v vs i l) ∙
    arguments k' w' (suc (suc w)) r us vs (omega arith))

-- ---- nets

module _ (p : Part) (us vs : List ℕ) (h : length us ≡ length vs) where
  abbrev ps : List ℕ
  ps = places_from (length p.nodes) (length vs)

  abbrev nodes_of : (vs : List ℕ) → ℕ → List Node
  nodes_of vs n = argument_nodes (length p.wires) p.out vs ++ Root (last_wire (length p.wires) p.out n) ∷ []

  all_nodes : set_all (given ps vs) 0 (p.nodes ++ nodes_of us (length us)) ≡ p.nodes ++ nodes_of vs (length vs)
  all_nodes =
      let k = length p.nodes in
      let e : 0 + k ≡ k = omega arith in
      set_append (given ps vs) 0 p.nodes (nodes_of us (length us)) ∙
      ap (λ ns. ns ++ set_all (given ps vs) (0 + k) (nodes_of us (length us)))
      (set_none (given ps vs) 0 p.nodes (λ i l. low k (length vs) vs i (omega arith))) ∙
      ap (λ j. p.nodes ++ set_all (given ps vs) j (nodes_of us (length us))) e ∙
      ap (λ n. p.nodes ++ set_all (given ps vs) k (nodes_of us n)) h ∙
      ap (λ ns. p.nodes ++ ns)
      (arguments k (length p.wires) p.out (last_wire (length p.wires) p.out (length vs)) us vs h)

  other_net : with_arguments p vs ≡ with_numbers (with_arguments p us) ps vs
  other_net = sym
      (net_by (p.wires ++ argument_wires p.type (length us)) (p.wires ++ argument_wires p.type (length vs))
      (set_all (given ps vs) 0 (p.nodes ++ nodes_of us (length us))) (p.nodes ++ nodes_of vs (length vs))
      (ap (λ n. p.wires ++ argument_wires p.type n) h) all_nodes)

pub other : (m : TermTree) (us vs : List ℕ) → length us ≡ length vs →
    net_of (applied m vs) ≡ with_numbers (net_of (applied m us)) (places m (length vs)) vs
other m us vs h =
    applied_net m vs ∙ other_net (closed_part m) us vs h ∙
    ap (λ net. with_numbers net (places m (length vs)) vs) (sym (applied_net m us))

pub same_shape : (m : TermTree) (us vs : List ℕ) → length us ≡ length vs → IsShape m us vs
same_shape m us vs h = record {
  wires =
      ap (λ (n : NetTree). n.wires) (applied_net m us) ∙
      ap (λ n. (closed_part m).wires ++ argument_wires (closed_part m).type n) h ∙ sym (ap (λ (n : NetTree). n.wires) (applied_net m vs));
  wire_count = ap (λ (n : NetTree). length n.wires) (applied_net m vs) ∙ wire_count (closed_part m) vs;
  node_count = ap (λ (n : NetTree). length n.nodes) (applied_net m vs) ∙ node_count (closed_part m) vs;
}

-- as many places as arguments
pub places_length : (k n : ℕ) → length (places_from k n) ≡ n
places_length k zero = refl
places_length k (suc n) = ap suc (places_length (suc (suc (suc k))) n)
