use Rattle.goi_tasks.proofs.Outcomes.{Known}
use Rattle.goi_batches.proofs.One.{one_section}
use Rattle.goi_batches.proofs.laws.law_one_section.Goals as goal

pub returns : goal.returns
returns c =
    let known : Known = record {
      one_program = c.law_one_program.ensures;
      one_listing = c.law_one_listing.ensures;
      one_answer = c.law_log_one_answer.ensures;
      one_replay = c.law_one_replay.ensures;
      one_list = c.law_one_list.ensures;
      one_function = c.law_one_function.ensures;
    } in
    one_section known c.law_one_length.ensures
