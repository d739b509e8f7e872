-- What the run of a program's module tells: the statement of `law_program_runs`.
use Rattle.std.specs.Prelude.{◌≡◌, ◌<◌, ◌≤◌, ℕ, suc, ◌*◌, ◌%◌, ◌^◌, []}
use Rattle.pcf_values.specs.declared.val.Val.{Val}
use Rattle.pcf_values.specs.Terms.{TermTree}
use Rattle.cbn_meaning.specs.Meaning.{Means}
use Rattle.net_build.specs.NetOf.{net_of}
use Rattle.adequacy_laws.specs.Questions.{Length}
use Rattle.adequacy_laws.specs.Adequacy.{OfEveryProgram}
use Rattle.circuit_meaning.specs.Circuit.{Circuit, IsSize, HasRoom, IsCircuit}
use Rattle.circuit_runs.specs.Running.{ComesOf}
use Rattle.circuit_runs.specs.declared.outcome.Outcome.{Outcome}
use Rattle.circuit_runs.specs.declared.outcome.Outcome.TheVariants.{Ended, Full, Odd, Waits}

-- what a run of a circuit's module within K edges tells of the program: a value that it means, and its net's length, after at most 133
-- edges a move; or that there is no row just then, or too few cells or forks; or that its net is longer, or has no length
abbrev pub RunSays : TermTree → Circuit → (cells forks K : ℕ) → Outcome → Type 0
RunSays m C cells forks K (Ended v moves k) =
    Means m v × ((l : ℕ) × Length (net_of m) v l × (moves ≡ l % 2 ^ 64) × (k ≤ 133 * suc l))
RunSays m C cells forks K (Full k) =
    (HasRoom (C.needs [] k) cells forks → ⊥) × ((j : ℕ) → j < k → HasRoom (C.needs [] j) cells forks)
RunSays m C cells forks K (Odd k) = ⊥
RunSays m C cells forks K Waits = (v : Val) (l : ℕ) → Length (net_of m) v l → K < 133 * suc l

-- and so it does of every program, with whatever cells and forks
abbrev pub ProgramRuns : Type 0
ProgramRuns = OfEveryProgram (λ m. (C : Circuit) → IsCircuit m 0 C → (cells forks : ℕ) → IsSize cells → IsSize forks →
    (K : ℕ) (o : Outcome) → ComesOf (C.items cells forks) K o → RunSays m C cells forks K o)
