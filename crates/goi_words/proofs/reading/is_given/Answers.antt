use Rattle.std.proofs.Common.{◌∙◌, ap}
use Rattle.clap.specs.Words.{found_of}
use Rattle.goi_words.specs.Asked.{is_from_words}
use Rattle.goi_words.proofs.Rows.{source_rows}
use Rattle.goi_words.proofs.reading.is_given.Goals as goal

pub returns : goal.returns
returns c =
    c.is_from_words.ensures
    ∙ ap is_from_words (c.value_source.ensures ∙ source_rows (found_of c.args.found.now) c.args.name.now)
