use Rattle.interleave_laws.proofs.Seen.{start_seen, step_seen, run_seen, seen_same}
use Rattle.interleave_laws.proofs.MapLaws.{start_reached, step_reached, more_reached, leads_seen, seen_leads, tickets_most, map_low}
use Rattle.interleave_laws.proofs.MapLaws.{map_place, map_step, map_answered, map_idle, map_others, map_diamond}
use Rattle.interleave_laws.proofs.laws.law_maps.Goals as goal

pub returns-clause-starts : goal.returns-clause-starts
returns-clause-starts c = start_seen

pub returns-clause-steps : goal.returns-clause-steps
returns-clause-steps c = step_seen

pub returns-clause-runs : goal.returns-clause-runs
returns-clause-runs c = run_seen

pub returns-clause-tells : goal.returns-clause-tells
returns-clause-tells c = seen_same

pub returns-clause-leads : goal.returns-clause-leads
returns-clause-leads c = leads_seen

pub returns-clause-led : goal.returns-clause-led
returns-clause-led c = seen_leads

pub returns-clause-tickets : goal.returns-clause-tickets
returns-clause-tickets c = tickets_most

pub returns-clause-low : goal.returns-clause-low
returns-clause-low c = map_low

pub returns-clause-one_place : goal.returns-clause-one_place
returns-clause-one_place c = map_place

pub returns-clause-has_step : goal.returns-clause-has_step
returns-clause-has_step c = map_step

pub returns-clause-answered : goal.returns-clause-answered
returns-clause-answered c = map_answered

pub returns-clause-idle : goal.returns-clause-idle
returns-clause-idle c = map_idle

pub returns-clause-diamond : goal.returns-clause-diamond
returns-clause-diamond c = map_diamond

pub returns-clause-others : goal.returns-clause-others
returns-clause-others c = map_others

pub returns-clause-start_reached : goal.returns-clause-start_reached
returns-clause-start_reached c = start_reached

pub returns-clause-step_reached : goal.returns-clause-step_reached
returns-clause-step_reached c = step_reached

pub returns-clause-more_reached : goal.returns-clause-more_reached
returns-clause-more_reached c = more_reached
