-- The text of a function's circuit, as the code makes it of the function's net.
use Rattle.std.proofs.Common.{◌≡◌, ℕ, List, [], replicate, length, ap, ◌∙◌}
use Rattle.std.proofs.lemmas.List.{length-replicate}
use Rattle.pcf_values.specs.Terms.{TermTree}
use Rattle.pcf_values.specs.Typing.{HasType}
use Rattle.net_build.specs.Nets.{NetTree}
use Rattle.net_build.specs.NetOf.{net_of}
use Rattle.open_net_laws.specs.Applied.{applied, numeric}
use Rattle.open_net_laws.specs.Arguments.{closed_part}
use Rattle.open_net_laws.specs.Numbers.{places_from}
use Rattle.verilog_tree.specs.Names.{text_of}
use Rattle.circuit_made.specs.Made.{IsNetOf}
use Rattle.circuit_made.specs.CircuitText.{circuit_text, Prints}
use Rattle.function_runs.proofs.Zeros.{zeros}
use Rattle.goi_tasks.specs.Verilogs.{PrintsFunction}

-- what is printed of the function's net at zeros, with a port at each argument's place, is the function's circuit
pub prints_function : (name : List ℕ) (cells forks : ℕ) (t : TermTree) (n : ℕ) (net : NetTree) (first count : ℕ) (text : List ℕ) →
    HasType [] t (numeric n) → net ≡ net_of (applied t (replicate n 0)) → first ≡ length (closed_part t).nodes → count ≡ n →
    Prints (text_of name) net (places_from first count) cells forks text → PrintsFunction name cells forks t n text
prints_function name cells forks t n net first count text typed e f c p =
    let is : IsNetOf t n net (places_from first count) = record {
      typed = typed;
      numbers = replicate n 0;
      many = length-replicate n 0;
      small = zeros n;
      net_is = e;
      ports_are = ap (λ k. places_from k count) f ∙ ap (λ k. places_from (length (closed_part t).nodes) k) c;
    } in record {
      items = p.items;
      is = p.circuit t n is;
      text_is = p.text ∙ ap (λ (m : NetTree). circuit_text (text_of name) m p.items) e;
    }
