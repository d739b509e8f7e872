-- A tree that is applied to numbers has the type that its term has at them.
use Rattle.std.proofs.Common.{◌≡◌, ℕ, List, [], ◌∷◌, length, Ok, refl, ap}
use Rattle.pcf_values.specs.Terms.{TyTree, nat, arrow, TermTree, num, app}
use Rattle.pcf_values.specs.Named.{NamedTree, number_at, apply_at, place_of}
use Rattle.pcf_reader.specs.Correct.{Text}
use Rattle.pcf_types.specs.declared.fault.TypeFault.TheVariants.{ArgumentMismatch}
use Rattle.pcf_types.specs.Checking.{type_of, go_on, function, of_type}
use Rattle.open_net_laws.specs.Applied.{applied, numeric}
use Rattle.program_runs.specs.Programs.{IsGround}
use Rattle.function_runs.specs.Laws.{NumberAt, values, applied_tree}

-- one number
at_one : (tree : NamedTree) (at place v : ℕ) (m : TermTree) (B : TyTree) → type_of [] tree ≡ Ok (m, arrow nat B) →
    type_of [] (apply_at at tree (number_at place v)) ≡ Ok (app m (num v), B)
at_one tree at place v m B h =
    ap (λ r. go_on (function (place_of tree) r)
    (λ p. go_on (of_type p.1 (ArgumentMismatch place) (Ok (num v, nat))) (λ n. Ok (app p.0 n, p.2)))) h

pub typed_tree : (tree : NamedTree) (xs : List NumberAt) (m : TermTree) → type_of [] tree ≡ Ok (m, numeric (length xs)) →
    type_of [] (applied_tree tree xs) ≡ Ok (applied m (values xs), nat)
typed_tree tree [] m h = h
typed_tree tree (x ∷ xs) m h =
    typed_tree (apply_at x.application tree (number_at x.place x.value)) xs (app m (num x.value))
    (at_one tree x.application x.place x.value m (numeric (length xs)) h)

pub ground_text : (tree : NamedTree) (xs : List NumberAt) (m : TermTree) → type_of [] tree ≡ Ok (m, numeric (length xs)) →
    (bytes : List ℕ) → Text bytes (applied_tree tree xs) → IsGround bytes (applied m (values xs))
ground_text tree xs m h bytes x =
    (applied_tree tree xs, record { text = x; typed = typed_tree tree xs m h; will_do = refl })
