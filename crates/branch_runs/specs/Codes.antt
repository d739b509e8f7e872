-- How the logic stores a branch, so that a struct's `impl Model` can have one as its value.
use Rattle.std.specs.Prelude.{ℕ, Bool, List, refl}
use Rattle.std.specs.Coded.{Coded, code_by, coded×, coded_list, coded_ℕ, coded_bool}
use Rattle.move_rules.specs.Places.{TokenTree}
use Rattle.move_rules.specs.Codes.{token_code}
use Rattle.interleave_laws.specs.Maps.{MapState}
use Rattle.interleave_laws.specs.Codes.{state_code}
use Rattle.branch_runs.specs.Branching.{Grown}

-- a branch as its parts
abbrev pub GrownParts : Type 0
GrownParts = TokenTree × (List ℕ × (MapState × Bool))

abbrev pub grown_code : Coded Grown
grown_code = code_by GrownParts (coded× token_code (coded× (coded_list coded_ℕ) (coded× state_code coded_bool)))
    (λ b. (b.before, (b.log, (b.after, b.plain)))) (λ p. record { before = p.0; log = p.1.0; after = p.1.1.0; plain = p.1.1.1 }) (λ _. refl)

-- a branch from its parts
abbrev pub grown : TokenTree → List ℕ → MapState → Bool → Grown
grown x l B plain = record { before = x; log = l; after = B; plain = plain }
