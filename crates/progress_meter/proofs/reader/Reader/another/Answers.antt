use Rattle.std.proofs.Common.{rules}
use Rattle.progress_meter.proofs.Steps.{second_reader_as}
use Rattle.progress_meter.proofs.reader.Reader.another.Goals as goal

pub split_pass-end-requires : goal.split_pass-end-requires
split_pass-end-requires c = let i = c.self.invariant in (search rules, (search rules, (search rules, second_reader_as _ _ i.1.is_reader)))
