use Rattle.goi_tasks.proofs.watched.WatchedCrew.run.Goals as goal

pub run-requires : goal.run-requires
run-requires g c = c.requires.fit.0 c.args.net c.args.budget c.requires.runs c.requires.budget

pub returns-clause-run : goal.returns-clause-run
returns-clause-run g c = (c.requires.fit.1 c.args.net c.args.budget c.run.result c.run.ensures).0

pub returns-clause-alone : goal.returns-clause-alone
returns-clause-alone g c = (c.requires.fit.1 c.args.net c.args.budget c.run.result c.run.ensures).1

pub returns-clause-reads : goal.returns-clause-reads
returns-clause-reads g c = (c.requires.fit.1 c.args.net c.args.budget c.run.result c.run.ensures).2
