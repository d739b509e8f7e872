use Rattle.goi_tasks.proofs.Settling.{texts_settle}
use Rattle.goi_tasks.proofs.settled.law_tasks_settled.Goals as goal

pub returns : goal.returns
returns c =
    texts_settle (record {
      one_program = c.law_one_program.ensures;
      one_listing = c.law_one_listing.ensures;
      one_answer = c.law_log_one_answer.ensures;
      one_replay = c.law_one_replay.ensures;
      one_list = c.law_one_list.ensures;
      one_function = c.law_one_function.ensures;
    }) c.law_one_function.ensures
