-- The net at the ports' own numbers is that at other numbers, told by these.
use Rattle.std.proofs.Common.{◌≡◌, ◌<◌, ℕ, suc, ◌+◌, ◌-◌, ◌^◌, Bool, true, false, cond, List, [], ◌∷◌, length, Option, Some, None}
use Rattle.std.proofs.Common.{refl, sym, ap, ◌∙◌, subst, inl, inr, arith}
use Rattle.std.specs.Prelude.{nat_lt, nat_eq}
use Rattle.std.proofs.lemmas.Bool.{lt-ltb, le-ltb}
use Rattle.net_build.specs.declared.node.Node.{Node}
use Rattle.net_build.specs.declared.node.Node.TheVariants.{Const}
use Rattle.net_build.specs.Nets.{NetTree}
use Rattle.net_build.specs.Sound.{In}
use Rattle.net_build.specs.Numbers.{set_number}
use Rattle.circuit_module.specs.Stands.{SmallConstants}
use Rattle.open_net_laws.specs.Numbers.{set_given, set_all, given, with_numbers}
use Rattle.joined_core.specs.Listed.{site_of, right_table}
use Rattle.joined_numbers.specs.At.{number_at, port_value, entries_at}
use Rattle.joined_numbers.specs.Ports.{port_numbers, with_ports}
use Rattle.joined_numbers.specs.Laws.{RowsAtPorts}
use Rattle.joined_numbers.proofs.Ports.{node_at, nodes_at, net_at, rows_right_at}

-- a number that is no port's
value_small : (ps : ℕ → ℕ) (v : ℕ) → v < 2 ^ 64 → port_value ps v ≡ v
value_small ps v l = ap (λ b. cond b v (ps (v - 2 ^ 64))) (lt-ltb v (2 ^ 64) l)

back : (k j : ℕ) → (k + j) - k ≡ j
back k j = omega arith

value_port : (ps : ℕ → ℕ) (j : ℕ) → port_value ps (2 ^ 64 + j) ≡ ps j
value_port ps j = go (2 ^ 64)
  where
    go : (k : ℕ) → cond (nat_lt (k + j) k) (k + j) (ps ((k + j) - k)) ≡ ps j
    go k = ap (λ b. cond b (k + j) (ps ((k + j) - k))) (le-ltb (k + j) k (omega arith)) ∙ ap ps (back k j)

abbrev by_number : (ℕ → ℕ) → Option ℕ → Option ℕ
by_number f None = None
by_number f (Some u) = Some (f u)

-- what is given for a node is told by its port's number
given_is : (f : ℕ → ℕ) (k : ℕ) (ps vs : List ℕ) → length vs ≡ length ps → ((j : ℕ) → f (k + j) ≡ number_at vs j) → (i : ℕ) →
    given ps vs i ≡ by_number f (given ps (port_numbers k (length ps)) i)
given_is f k [] vs l h i = refl
given_is f k (p ∷ ps) [] l h i = absurd cc
given_is f k (p ∷ ps) (v ∷ vs) l h i = go (nat_eq p i)
    (given_is f (suc k) ps vs (cc) (λ j. let e : suc k + j ≡ k + suc j = omega arith in ap f e ∙ h (suc j)) i)
  where
    zero_is : f k ≡ v
    zero_is = let e : k ≡ k + 0 = omega arith in ap f e ∙ h 0

    go : (b : Bool) → given ps vs i ≡ by_number f (given ps (port_numbers (suc k) (length ps)) i) →
        cond b (Some v) (given ps vs i) ≡ by_number f (cond b (Some k) (given ps (port_numbers (suc k) (length ps)) i))
    go true r = ap Some (sym zero_is)
    go false r = r

module _ (ps : ℕ → ℕ) where
  -- a node that keeps its number
  node_kept : (n : Node) → ((v w : ℕ) → n ≡ Const v w → v < 2 ^ 64) → n ≡ node_at ps n
  node_kept (Const v w) h = ap (λ v. Const v w) (sym (value_small ps v (h v w refl)))
  node_kept n h = refl

  -- and one that gets another
  node_set : (u : ℕ) (n : Node) → set_number (port_value ps u) n ≡ node_at ps (set_number u n)
  node_set u (Const v w) = refl
  node_set u n = refl

  node_given : (o : Option ℕ) (n : Node) → ((v w : ℕ) → n ≡ Const v w → v < 2 ^ 64) →
      set_given (by_number (port_value ps) o) n ≡ node_at ps (set_given o n)
  node_given None n h = node_kept n h
  node_given (Some u) n h = node_set u n

  all_given : (g h : ℕ → Option ℕ) → ((i : ℕ) → g i ≡ by_number (port_value ps) (h i)) → (k : ℕ) (ns : List Node) →
      ((v w : ℕ) → In (Const v w) ns → v < 2 ^ 64) → set_all g k ns ≡ nodes_at ps (set_all h k ns)
  all_given g h e k [] l = refl
  all_given g h e k (n ∷ ns) l =
      ap (λ o. set_given o n ∷ set_all g (suc k) ns) (e k)
      ∙ ap (λ m. m ∷ set_all g (suc k) ns) (node_given (h k) n (λ v w q. l v w (inl (sym q))))
      ∙ ap (λ ms. node_at ps (set_given (h k) n) ∷ ms) (all_given g h e (suc k) ns (λ v w i. l v w (inr i)))

-- so these are the nets
pub exchanged : (net : NetTree) (places vs : List ℕ) → SmallConstants net → length vs ≡ length places →
    with_numbers net places vs ≡ net_at (number_at vs) (with_ports net places)
exchanged net places vs small l =
    ap (λ ns. record { wires = net.wires; nodes = ns }) (all_given (number_at vs) (given places vs)
    (given places (port_numbers (2 ^ 64) (length places)))
    (λ i. given_is (port_value (number_at vs)) (2 ^ 64) places vs l (λ j. value_port (number_at vs) j) i) 0 net.nodes small)

pub rows_at_ports : RowsAtPorts
rows_at_ports net places vs small l sites entries h =
    subst (λ n. right_table n sites (entries_at (number_at vs) entries) ≡ true) (sym (exchanged net places vs small l))
    (rows_right_at (number_at vs) (with_ports net places) (site_of sites) entries h)
