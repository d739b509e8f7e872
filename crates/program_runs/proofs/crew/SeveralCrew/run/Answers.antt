use Rattle.program_runs.proofs.crew.SeveralCrew.run.Goals as goal

pub returns-clause-run : goal.returns-clause-run
returns-clause-run g c = (c.requires.fit.1 _ c.args.budget _ c.in_ok-run.ensures).0
