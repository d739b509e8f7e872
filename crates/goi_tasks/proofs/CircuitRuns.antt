-- What the run of a program's circuit tells.
use Rattle.std.proofs.Common.{ℕ, Bool, List, [], refl, subst, arith}
use Rattle.pcf_values.specs.Terms.{TermTree}
use Rattle.net_build.specs.Nets.{NetTree}
use Rattle.verilog_tree.specs.Tree.{Item}
use Rattle.circuit_meaning.specs.Circuit.{IsItems}
use Rattle.circuit_made.specs.Made.{IsNetOf}
use Rattle.circuit_runs.specs.Running.{ComesOf}
use Rattle.circuit_runs.specs.Laws.{ProgramRuns}
use Rattle.program_runs.specs.declared.calling.Calling.TheVariants.{ByName}
use Rattle.program_runs.specs.Nets.{RunsAs, IsNetFor}
use Rattle.program_runs.specs.Programs.{number, OfProgram}
use Rattle.goi_jobs.specs.Ranges.{IsCells, IsForks}
use Rattle.goi_tasks.specs.Circuits.{IsTold, ReportsCircuit}
use Rattle.goi_tasks.specs.Outputs.{Output}
use Rattle.goi_tasks.specs.Parts.{IsCircuitRun}

-- the net of a program is that of a function without arguments
pub program_net : (t : TermTree) (net : NetTree) → RunsAs ByName t net → IsNetOf t 0 net []
program_net t net is = record { typed = is.typed; numbers = []; many = refl; small = tt; net_is = is.net_is; ports_are = refl }

-- what comes of the net's module tells what the program means
pub reports_circuit : ProgramRuns → (bytes : List ℕ) (net : NetTree) → (cells forks budget : ℕ) (waves : Bool) → IsCells cells →
    IsForks forks → IsNetFor ByName bytes net → (o : Output) → IsCircuitRun net cells forks budget waves o →
    OfProgram number bytes (λ tree t A. ReportsCircuit cells forks budget waves t o)
reports_circuit runs bytes net cells forks budget waves c f is o run =
    let made : IsItems is.term 0 cells forks run.items = run.circuit is.term 0 (program_net is.term net is.so) in
    let comes = subst (λ (items : List Item). ComesOf items budget run.outcome) made.items_are run.comes in record {
      tree = is.tree;
      term = is.term;
      type = is.type;
      is = is.is;
      so = record {
        circuit = made.circuit;
        is = made.is;
        outcome = run.outcome;
        comes = comes;
        says = let m = c.1 in let k = f.1 in runs is.term is.so.typed made.circuit made.is cells forks (c.0, omega (arith, m))
            (f.0, omega (arith, k)) budget run.outcome comes;
        ends = run.ends;
        told = subst (λ (items : List Item). IsTold waves items budget run.outcome o.report) made.items_are run.told;
        no_notes = run.no_notes;
      };
    }
