use Rattle.token_pool.proofs.Taking.{take_branch_keeps, take_branch_gives, gives_own, gives_newest, gives_moved}
use Rattle.token_pool.proofs.Branching.{branch_book_keeps}
use Rattle.token_pool.proofs.laws.law_branches_keep.Goals as goal

pub returns-clause-take : goal.returns-clause-take
returns-clause-take c = take_branch_keeps

pub returns-clause-held : goal.returns-clause-held
returns-clause-held c = take_branch_gives

pub returns-clause-book : goal.returns-clause-book
returns-clause-book c = branch_book_keeps

pub returns-clause-own : goal.returns-clause-own
returns-clause-own c = gives_own

pub returns-clause-newest : goal.returns-clause-newest
returns-clause-newest c = gives_newest

pub returns-clause-moved : goal.returns-clause-moved
returns-clause-moved c = gives_moved
