use Rattle.std.proofs.Common.{sym}
use Rattle.pcf_values.proofs.Places.{raw_place}
use Rattle.pcf_reader.proofs.terms.place_of.Goals as goal

pub returns : goal.returns
returns c = sym (raw_place c.args.tree.now.raw c.args.tree.now.at)
