use Rattle.std.proofs.Common.{inl}
use Rattle.branch_pool.proofs.bench.take_in.Goals as goal

pub returns-in_ok-book_branch-clause-ok : goal.returns-in_ok-book_branch-clause-ok
returns-in_ok-book_branch-clause-ok g c =
    inl (c.has_place.ensures.0 c.if-has_place.true, c.in_ok-book_branch.field-0, c.in_ok-book_branch.ensures.ok)
