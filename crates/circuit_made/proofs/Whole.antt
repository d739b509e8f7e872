-- The parts of the text, one behind the other, are the text.
use Rattle.std.proofs.Common.{◌≡◌, ◌∙◌, ◌++◌, ◌+◌, ◌-◌, ◌*◌, ◌<◌, ◌^◌, ℕ, zero, suc, List, [], ◌∷◌, length, codes}
use Rattle.std.proofs.Common.{sym, ap, subst, append_assoc, arith}
use Prim.Native.String.{String}
use Rattle.net_build.specs.Nets.{NetTree}
use Rattle.verilog_tree.specs.Tree.{Item}
use Rattle.verilog_tree.specs.Print.{module_text}
use Rattle.open_net_laws.specs.Numbers.{places_from}
use Rattle.open_net_laws.proofs.Exchanged.{places_length}
use Rattle.circuit_made.specs.Made.{CircuitOf}
use Rattle.circuit_made.specs.CircuitText.{head_text, unwarned_text, declared_text, circuit_text, Prints}
use Rattle.circuit_made.specs.Parts.{front_text, back_text, around_text}

-- the text of a circuit's items
around_is : (name : String) (is : List Item) → unwarned_text (declared_text (module_text name is)) ≡ around_text name is
unfolding around_text front_text back_text
around_is name is =
    ap (λ t. codes "// verilator lint_save\n// verilator lint_off DECLFILENAME\n// verilator lint_off UNUSED\n`default_nettype none\n" ++ t)
    (append_assoc (module_text name is) (codes "`default_nettype wire\n") (codes "// verilator lint_restore\n"))

pub circuit_is : (name : String) (net : NetTree) (is : List Item) (nodes wires : ℕ) (t u v : List ℕ) → nodes ≡ length net.nodes →
    wires ≡ length net.wires → u ≡ t ++ head_text nodes wires → v ≡ u ++ around_text name is → v ≡ t ++ circuit_text name net is
unfolding circuit_text
circuit_is name net is nodes wires t u v n w e f =
    f ∙ ap (λ x. x ++ around_text name is) e ∙ append_assoc t (head_text nodes wires) (around_text name is)
    ∙ ap (λ x. t ++ (head_text nodes wires ++ x)) (sym (around_is name is))
    ∙ ap (λ k. t ++ (head_text k wires ++ unwarned_text (declared_text (module_text name is)))) n
    ∙ ap (λ k. t ++ (head_text (length net.nodes) k ++ unwarned_text (declared_text (module_text name is)))) w

-- a text of a circuit's items
pub prints_is : (name : String) (net : NetTree) (ps : List ℕ) (cells forks : ℕ) (is : List Item) (t : List ℕ) →
    CircuitOf net ps cells forks is → t ≡ circuit_text name net is → Prints name net ps cells forks t
prints_is name net ps cells forks is t h e = record { items = is; circuit = h; text = e }

-- the same places
pub prints_at : (name : String) (net : NetTree) (ps qs : List ℕ) (cells forks : ℕ) (t : List ℕ) → qs ≡ ps →
    Prints name net qs cells forks t → Prints name net ps cells forks t
prints_at name net ps qs cells forks t e h = subst (λ l. Prints name net l cells forks t) e h

-- the places of one argument more
places_more : (k n : ℕ) → 0 < n → places_from k n ≡ k ∷ places_from (k + 3) (n - 1)
places_more k zero h = absurd (omega arith)
places_more k (suc n) h =
    let a : suc (suc (suc k)) ≡ k + 3 = omega arith in
    let b : n ≡ suc n - 1 = omega arith in
    ap (λ j. k ∷ places_from j n) a ∙ ap (λ m. k ∷ places_from (k + 3) m) b

pub one_place : (old new : List ℕ) (k n : ℕ) → 0 < n → new ≡ (old ++ (k ∷ [])) ++ places_from (k + 3) (n - 1) → new ≡ old ++ places_from k n
one_place old new k n h e =
    e ∙ append_assoc old (k ∷ []) (places_from (k + 3) (n - 1)) ∙ ap (λ ps. old ++ ps) (sym (places_more k n h))

-- the places of arguments are fewer than a module counts
pub few_places : (ps : List ℕ) (k n : ℕ) → ps ≡ places_from k n → k + 3 * n < 2 ^ 32 → length ps < 2 ^ 31
few_places ps k n e h = let l : length ps ≡ n = ap (λ l. length l) e ∙ places_length k n in omega arith
