-- How the logic stores states over finite maps, so that a struct's `impl Model` can have one as its value.
use Rattle.std.specs.Prelude.{ℕ, Option, refl}
use Rattle.std.specs.Coded.{Coded, code_by, coded_ℕ, coded_option, coded×}
use Rattle.std.specs.FinMap as map
use Rattle.std.specs.FinMap.{FinMap}
use Rattle.std.specs.Ordering.{nat_cmp}
use Rattle.pcf_values.specs.declared.val.Val.{Val}
use Rattle.pcf_values.specs.Codes.{val_code}
use Rattle.fork_join.specs.Entries.{Entry, key_cmp}
use Rattle.fork_join.specs.Codes.{key_code, entry_code}
use Rattle.move_rules.specs.Places.{TokenTree}
use Rattle.move_rules.specs.Codes.{token_code}
use Rattle.interleave_laws.specs.Maps.{MapState}

-- a state as its parts
abbrev pub StateParts : Type 0
StateParts = FinMap nat_cmp TokenTree × (FinMap key_cmp Entry × (ℕ × Option Val))

abbrev pub state_code : Coded MapState
state_code =
    code_by StateParts (coded× (map.code coded_ℕ token_code)
    (coded× (map.code key_code entry_code) (coded× coded_ℕ (coded_option val_code))))
    (λ S. (S.tokens, (S.entries, (S.next, S.answered))))
    (λ p. record { tokens = p.0; entries = p.1.0; next = p.1.1.0; answered = p.1.1.1 }) (λ _. refl)
