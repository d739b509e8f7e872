use Rattle.branch_laws.proofs.Mapped.{map_runs, map_grafts, map_leads, map_apart, map_low, map_stops, map_tickets, map_reached, map_leaves}
use Rattle.branch_laws.proofs.Mapped.{map_begins, map_steps, map_walks, map_plain, map_few, map_fresh, map_able}
use Rattle.branch_laws.proofs.Playing.{plain_names, names_tell}
use Rattle.branch_laws.proofs.laws.law_branch_maps.Goals as goal

pub returns-clause-runs : goal.returns-clause-runs
returns-clause-runs c = map_runs

pub returns-clause-grafts : goal.returns-clause-grafts
returns-clause-grafts c = map_grafts

pub returns-clause-leads : goal.returns-clause-leads
returns-clause-leads c = map_leads

pub returns-clause-apart : goal.returns-clause-apart
returns-clause-apart c = map_apart

pub returns-clause-low : goal.returns-clause-low
returns-clause-low c = map_low

pub returns-clause-stops : goal.returns-clause-stops
returns-clause-stops c = map_stops

pub returns-clause-tickets : goal.returns-clause-tickets
returns-clause-tickets c = map_tickets

pub returns-clause-reached : goal.returns-clause-reached
returns-clause-reached c = map_reached

pub returns-clause-leaves : goal.returns-clause-leaves
returns-clause-leaves c = map_leaves

pub returns-clause-begins : goal.returns-clause-begins
returns-clause-begins c = map_begins

pub returns-clause-steps : goal.returns-clause-steps
returns-clause-steps c = map_steps

pub returns-clause-walks : goal.returns-clause-walks
returns-clause-walks c = map_walks

pub returns-clause-plain : goal.returns-clause-plain
returns-clause-plain c = map_plain

pub returns-clause-few : goal.returns-clause-few
returns-clause-few c = map_few

pub returns-clause-fresh : goal.returns-clause-fresh
returns-clause-fresh c = map_fresh

pub returns-clause-able : goal.returns-clause-able
returns-clause-able c = map_able

pub returns-clause-plain_names : goal.returns-clause-plain_names
returns-clause-plain_names c = plain_names

pub returns-clause-names : goal.returns-clause-names
returns-clause-names c = names_tell
