use Rattle.interleave_laws.proofs.Running.{one_place, has_step, answered_idle, idle_answered}
use Rattle.interleave_laws.proofs.Once.{asked_once}
use Rattle.interleave_laws.proofs.Opened.{opened_once}
use Rattle.interleave_laws.proofs.Others.{others_live}
use Rattle.interleave_laws.proofs.laws.law_progress.Goals as goal

pub returns-clause-one_place : goal.returns-clause-one_place
returns-clause-one_place c = one_place

pub returns-clause-has_step : goal.returns-clause-has_step
returns-clause-has_step c = has_step

pub returns-clause-answered : goal.returns-clause-answered
returns-clause-answered c = answered_idle

pub returns-clause-idle : goal.returns-clause-idle
returns-clause-idle c = idle_answered

pub returns-clause-asked_once : goal.returns-clause-asked_once
returns-clause-asked_once c = asked_once

pub returns-clause-opened_once : goal.returns-clause-opened_once
returns-clause-opened_once c = opened_once

pub returns-clause-others : goal.returns-clause-others
returns-clause-others c = others_live
