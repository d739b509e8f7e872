use Rattle.std.proofs.Common.{◌∙◌, sym}
use Rattle.goi_words.proofs.Wide.{more_at, none_at}
use Rattle.goi_words.proofs.reading.wide_numbers_in.Goals as goal

pub returns-in-None-clause-refused : goal.returns-in-None-clause-refused
returns-in-None-clause-refused c refused =
    none_at c.args.texts.now c.loop-text.text-index _ c.loop-text-test.true (sym c.wide_number_in.ensures ∙ c.in-None.is)

pub loop-text-preserved : goal.loop-text-preserved
loop-text-preserved c =
    more_at c.args.texts.now c.loop-text.text-index _ c.loop-text.numbers.items c.push.new.self.items c.in-Some.number
    c.loop-text-test.true c.loop-text.invariant (sym c.wide_number_in.ensures ∙ c.in-Some.is) c.in_ok-push-in-Some.ensures.items
