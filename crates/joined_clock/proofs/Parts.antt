-- Each register by its part.
use Rattle.std.proofs.Common.{[]}
use Rattle.joined_module.specs.Module.{head_items}
use Rattle.joined_clock.specs.Laws.{ClockByParts}
use Rattle.joined_clock.proofs.Offs.{Ok}
use Rattle.joined_clock.proofs.Registers.{top_is, cell_has_is, depth_is, fork_has_is, kept_is, fresh_is, ended_is, changed_is, nonzero_is}
use Rattle.joined_clock.proofs.Registers.{carried_is, done_is, result_is, full_is, moves_is, after, cells_are, forks_are, answers_are}

-- each register and memory is what its part writes
pub clock_by_parts : ClockByParts
clock_by_parts P W fs n b h R low =
    let ok : Ok (head_items W fs n b) = record { env = []; ds = []; ok = h } in
    record {
      unit = after P W fs n b R ok low;
      nonzero = nonzero_is P W fs n b R ok low;
      changed = changed_is P W fs n b R ok low;
      cell_has = cell_has_is P W fs n b R ok low;
      depth = depth_is P W fs n b R ok low;
      fork_has = fork_has_is P W fs n b R ok low;
      kept = kept_is P W fs n b R ok low;
      fresh = fresh_is P W fs n b R ok low;
      forks = forks_are P W fs n b R ok low;
      answers = answers_are P W fs n b R ok low;
      result = result_is P W fs n b R ok low;
      moves = moves_is P W fs n b R ok low;
      carried = carried_is P W fs n b R ok low;
      top = top_is P W fs n b R ok low;
      ended = ended_is P W fs n b R ok low;
      full = full_is P W fs n b R ok low;
      cells = cells_are P W fs n b R ok low;
      done = done_is P W fs n b R ok low;
    }
