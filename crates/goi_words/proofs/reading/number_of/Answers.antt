use Rattle.std.proofs.Common.{◌∙◌, ap}
use Rattle.clap.specs.Words.{found_of, one_text}
use Rattle.std.specs.Str.Parse.{ParsesUnsigned, ExplainsUnsignedError, HasUnsignedDigitsIfOk}
use Rattle.clap.proofs.WalkLemmas.{one_text-rows}
use Rattle.goi_words.specs.Findings.{◌>>=◌}
use Rattle.goi_words.specs.Asked.{number_in}
use Rattle.goi_words.proofs.Numbers.{number_one}
use Rattle.goi_words.proofs.reading.number_of.Goals as goal

pub returns : goal.returns
returns c =
    number_one _ (λ t x. ParsesUnsigned 32 10 t x × ExplainsUnsignedError 10 t x × HasUnsignedDigitsIfOk t x)
    (one_text (found_of c.args.found.now) c.args.name.now) c.get_one.result
    (λ t x gives. gives.0) c.get_one.ensures.none c.get_one.ensures.value
    ∙ ap (λ o. o >>= number_in) (one_text-rows (found_of c.args.found.now) c.args.name.now)
