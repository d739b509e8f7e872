-- How the logic stores what is seen of the ends of a meter, so that a struct's `impl Model` can have it as its value: as the tuple of its
-- fields.
use Rattle.std.specs.Prelude.{ℕ, List, refl}
use Rattle.std.specs.Coded.{Coded, coded_ℕ, coded_list, coded×, code_by}
use Rattle.atomic_table.specs.Seated.{TableId, table_id_coded}
use Rattle.progress_meter.specs.Meters.{Publisher, Listener}

-- the code of a writer
abbrev pub publisher_code : Coded Publisher
publisher_code =
    let numbers = coded_list coded_ℕ in
    code_by (TableId × (List ℕ × List (List ℕ))) (coded× table_id_coded (coded× numbers (coded_list numbers)))
    (λ p. (p.meter, (p.published, p.settled))) (λ t. record { meter = t.0; published = t.1.0; settled = t.1.1 }) (λ _. refl)

-- the code of a reader
abbrev pub listener_code : Coded Listener
listener_code =
    code_by (TableId × List ℕ) (coded× table_id_coded (coded_list coded_ℕ)) (λ l. (l.meter, l.readings))
    (λ t. record { meter = t.0; readings = t.1 }) (λ _. refl)
