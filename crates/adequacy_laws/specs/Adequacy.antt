-- Adequacy: what the net of a program answers is what the program means by name, and the machine never sticks on the way.
-- A program is a closed term of type `nat`, and `net_of m` is its net. Its meaning (`Means`) is a recursion by substitution that knows
-- no net; the question at the net's start (`asks`) is a recursion along the net's wires that knows no term. That both come to the same
-- is Plotkin's computational adequacy (1977), with a machine of tokens in the place of a model.
use Rattle.std.specs.Prelude.{◌≡◌, ◌≢◌, ◌↔◌, ℕ, []}
use Rattle.pcf_values.specs.declared.val.Val.{Val}
use Rattle.pcf_values.specs.Terms.{TermTree, nat}
use Rattle.pcf_values.specs.Typing.{HasType}
use Rattle.cbn_meaning.specs.Meaning.{Means}
use Rattle.net_build.specs.NetOf.{net_of}
use Rattle.interleave_laws.specs.Start.{start_of}
use Rattle.interleave_laws.specs.Runs.{Runs}
use Rattle.adequacy_laws.specs.Questions.{gives, stuck, asks, Length}

-- it holds of every program
abbrev pub OfEveryProgram : (TermTree → Type 0) → Type 0
OfEveryProgram P = (m : TermTree) → HasType [] m nat → P m

-- the question at the start of a program's net is stuck at no depth
abbrev pub NeverStuck : Type 0
NeverStuck = OfEveryProgram (λ m. (k : ℕ) → asks (net_of m) k (start_of (net_of m)) ≢ stuck)

-- so the net runs: no live token of it stands still, whatever the order of moves
abbrev pub BuiltRuns : Type 0
BuiltRuns = OfEveryProgram (λ m. Runs (net_of m))

-- a program means a value exactly where that question comes to it
abbrev pub Adequate : Type 0
Adequate = OfEveryProgram (λ m. (v : Val) → Means m v ↔ ((k n : ℕ) × (asks (net_of m) k (start_of (net_of m)) ≡ gives v n)))

-- which is exactly where its net has that value, and a length
abbrev pub MeansLength : Type 0
MeansLength = OfEveryProgram (λ m. (v : Val) → Means m v ↔ ((n : ℕ) × Length (net_of m) v n))
