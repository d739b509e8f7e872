use Rattle.joined_steps.proofs.SameStands.{stands_kept}
use Rattle.joined_steps.proofs.Starts.{edge_starts}
use Rattle.joined_steps.proofs.Step.{edge_goes}
use Rattle.joined_steps.proofs.laws.law_joined_edges.Goals as goal

pub returns-clause-starts : goal.returns-clause-starts
returns-clause-starts c = edge_starts

pub returns-clause-goes : goal.returns-clause-goes
returns-clause-goes c = edge_goes

pub returns-clause-same : goal.returns-clause-same
returns-clause-same c = stands_kept
