-- What the module of joined rows tells of a program and of a function of numbers: the statements of `law_joined_program` and
-- `law_joined_function`.
-- Of the world it is asked that `rst` and, while it is high, the arguments are stable around each edge, and that all has settled before it.
-- What is read past the end of a vector or a memory is anything, afresh at each edge.
use Rattle.std.specs.Prelude.{◌≡◌, ◌⊎◌, ◌≤◌, ℕ, zero, suc, ◌*◌, ◌^◌, ◌%◌, true, false, List, [], ◌∷◌, length}
use Prim.Native.String.{String}
use Rattle.pcf_values.specs.declared.val.Val.{Val}
use Rattle.pcf_values.specs.Terms.{TermTree}
use Rattle.pcf_values.specs.Typing.{HasType}
use Rattle.cbn_meaning.specs.Meaning.{Means}
use Rattle.net_build.specs.Nets.{NetTree}
use Rattle.net_build.specs.NetOf.{net_of}
use Rattle.adequacy_laws.specs.Questions.{Length}
use Rattle.adequacy_laws.specs.Adequacy.{OfEveryProgram}
use Rattle.open_net_laws.specs.Applied.{applied, numeric}
use Rattle.open_net_laws.specs.Arguments.{AreNumbers}
use Rattle.open_net_laws.specs.Numbers.{places}
use Rattle.verilog_tree.specs.Meaning.{Store, flag}
use Rattle.circuit_module.specs.Stands.{value_number}
use Rattle.joined_rows.specs.Compound.{Pointer}
use Rattle.joined_core.specs.Rows.{Site}
use Rattle.joined_core.specs.Listed.{Entry, listed}
use Rattle.joined_core.specs.Circuit.{Room, joined_powered}
use Rattle.joined_core.specs.Room.{row_run, most_cells, most_forks}
use Rattle.joined_module.specs.Ports.{port_reset, port_edges}
use Rattle.joined_module.specs.Module.{ModuleTable, joined_module}
use Rattle.joined_edges.specs.Timed.{Timed, timed_edges, timed_start}
use Rattle.joined_numbers.specs.At.{number_at, entries_at}
use Rattle.joined_numbers.specs.Laws.{table_rows, memory_of}
use Rattle.joined_numbers.specs.Runs.{table_of, module_runs}

-- ---- edges of the module

-- as many numbers as ports at each edge
abbrev pub AtPorts : ℕ → List (List ℕ) → Type 0
AtPorts n [] = Unit {0}
AtPorts n (ws ∷ more) = (length ws ≡ n) × AtPorts n more

-- the registers after a reset with these arguments at the ports, from anything, and so many edges, with whatever is at the ports then
abbrev pub after_call : ModuleTable → Room → (vs : List ℕ) → Store → (strays : ℕ → String → ℕ → ℕ) → List (List ℕ) → Store
after_call T z vs S strays more =
    port_edges (joined_module T z (length vs)) strays more (port_reset (joined_module T z (length vs)) vs S)

-- the rows of a net's table with their waits, so many edges after the start
abbrev pub timed_run : (ℕ → ℕ) → Room → NetTree → List (ℕ × Site) → List Entry → (ℕ → ℕ → Pointer) → ℕ → Timed
timed_run ps z net sites entries mem n =
    timed_edges ps z (table_rows sites entries) n (timed_start (table_of net sites entries) (memory_of sites entries mem))

-- ---- what it tells

-- where `done` is up: the result is a value that the program means, and `moves` is its net's length
pub record Ended (m : TermTree) (T : Store) : Type 0 where
  pub value : Val
  pub result : T.vec "result" ≡ value_number value
  pub means : Means m value
  pub length : ℕ
  pub is_length : Length (net_of m) value length
  pub moves : T.vec "moves" ≡ length % 2 ^ 64

-- what the ports say n edges after a reset
pub record RunTells (m : TermTree) (n : ℕ) (T : Store) : Type 0 where
  -- `done` is a bit
  pub done : (T.vec "done" ≡ 0) ⊎ (T.vec "done" ≡ 1)
  -- it is up: the program has ended
  pub ends : T.vec "done" ≡ 1 → Ended m T
  -- where the program means a value, in so many moves, it is up with that value within 133 edges a move
  pub comes : (v : Val) (l : ℕ) → Length (net_of m) v l → 133 * suc l ≤ n → (T.vec "done" ≡ 1) × (T.vec "result" ≡ value_number v)

-- and exactly when it is up, and when `full` is: as the rows with their waits tell, without registers, whatever the memory has
pub record RunTimes (ps : ℕ → ℕ) (z : Room) (net : NetTree) (sites : List (ℕ × Site)) (entries : List Entry) (n : ℕ)
    (T : Store) : Type 0 where
  pub done : (mem : ℕ → ℕ → Pointer) → T.vec "done" ≡ flag (timed_run ps z net sites entries mem n).done
  pub full : (mem : ℕ → ℕ → Pointer) → T.vec "full" ≡ flag (timed_run ps z net sites entries mem n).circuit.full

-- what holds of every function of numbers, of whatever numbers its net was made at, with a table for that net that the check takes, and of
-- all arguments
abbrev pub OfEveryFunction : ((m : TermTree) → (us vs : List ℕ) → List (ℕ × Site) → List Entry → Room → Type 0) → Type 0
OfEveryFunction Says =
    (m : TermTree) (us vs : List ℕ) → HasType [] m (numeric (length vs)) → length us ≡ length vs → AreNumbers us → AreNumbers vs →
    (sites : List (ℕ × Site)) (entries : List Entry) (z : Room) →
    module_runs (net_of (applied m us)) (places m (length vs)) sites entries z ≡ true → Says m us vs sites entries z

-- the registers of its module
abbrev pub function_call : TermTree → (us vs : List ℕ) → List (ℕ × Site) → List Entry → Room → Store → (ℕ → String → ℕ → ℕ) →
    List (List ℕ) → Store
function_call m us vs sites entries z S strays more = after_call (table_of (net_of (applied m us)) sites entries) z vs S strays more

-- it is full, or it tells what the function means at these arguments
abbrev pub FunctionModule : Type 0
FunctionModule = OfEveryFunction (λ m us vs sites entries z. (S : Store) (strays : ℕ → String → ℕ → ℕ) (more : List (List ℕ)) →
    AtPorts (length vs) more → ((function_call m us vs sites entries z S strays more).vec "full" ≡ 1)
    ⊎ (((function_call m us vs sites entries z S strays more).vec "full" ≡ 0)
    × RunTells (applied m vs) (length more) (function_call m us vs sites entries z S strays more)))

-- just when the rows tell
abbrev pub FunctionTimes : Type 0
FunctionTimes = OfEveryFunction (λ m us vs sites entries z. (S : Store) (strays : ℕ → String → ℕ → ℕ) (more : List (List ℕ)) →
    AtPorts (length vs) more → RunTimes (number_at vs) z (net_of (applied m us)) sites entries (length more)
    (function_call m us vs sites entries z S strays more))

-- and where the rows up to the length lack no pair, and there are as many cells and forks as are in use at once up to there, it isn't full
abbrev pub FunctionFits : Type 0
FunctionFits = OfEveryFunction (λ m us vs sites entries z. let net = net_of (applied m vs) in
    let T = listed sites (entries_at (number_at vs) entries) in (mem : ℕ → ℕ → Pointer) (v : Val) (l : ℕ) → Length net v l →
    (row_run net T mem l).full ≡ false → most_cells T l (joined_powered net mem) ≤ z.cells →
    most_forks T l (joined_powered net mem) ≤ z.forks → (S : Store) (strays : ℕ → String → ℕ → ℕ) (more : List (List ℕ)) →
    AtPorts (length vs) more → (function_call m us vs sites entries z S strays more).vec "full" ≡ 0)

-- ---- programs: functions of no arguments

-- so many edges, with nothing at ports
abbrev pub no_arguments : ℕ → List (List ℕ)
no_arguments zero = []
no_arguments (suc n) = [] ∷ no_arguments n

-- the registers of a program's module so many edges after a reset
abbrev pub program_call : TermTree → List (ℕ × Site) → List Entry → Room → Store → (ℕ → String → ℕ → ℕ) → ℕ → Store
program_call m sites entries z S strays n = after_call (table_of (net_of m) sites entries) z [] S strays (no_arguments n)

-- what holds of every program with a table that the check takes
abbrev pub OfEveryModule : (TermTree → List (ℕ × Site) → List Entry → Room → Type 0) → Type 0
OfEveryModule Says = OfEveryProgram (λ m. (sites : List (ℕ × Site)) (entries : List Entry) (z : Room) →
    module_runs (net_of m) [] sites entries z ≡ true → Says m sites entries z)

-- its module is full, or it tells what the program means
abbrev pub ProgramModule : Type 0
ProgramModule = OfEveryModule (λ m sites entries z. (S : Store) (strays : ℕ → String → ℕ → ℕ) (n : ℕ) →
    ((program_call m sites entries z S strays n).vec "full" ≡ 1)
    ⊎ (((program_call m sites entries z S strays n).vec "full" ≡ 0) × RunTells m n (program_call m sites entries z S strays n)))

abbrev pub ProgramTimes : Type 0
ProgramTimes = OfEveryModule (λ m sites entries z. (S : Store) (strays : ℕ → String → ℕ → ℕ) (n : ℕ) →
    RunTimes (number_at []) z (net_of m) sites entries n (program_call m sites entries z S strays n))

abbrev pub ProgramFits : Type 0
ProgramFits = OfEveryModule (λ m sites entries z. let T = listed sites (entries_at (number_at []) entries) in
    (mem : ℕ → ℕ → Pointer) (v : Val) (l : ℕ) → Length (net_of m) v l → (row_run (net_of m) T mem l).full ≡ false →
    most_cells T l (joined_powered (net_of m) mem) ≤ z.cells → most_forks T l (joined_powered (net_of m) mem) ≤ z.forks →
    (S : Store) (strays : ℕ → String → ℕ → ℕ) (n : ℕ) → (program_call m sites entries z S strays n).vec "full" ≡ 0)
