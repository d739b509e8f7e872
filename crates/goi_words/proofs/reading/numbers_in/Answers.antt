use Rattle.std.proofs.Common.{◌∙◌, ap, sym, Some}
use Rattle.std.proofs.lemmas.Result.{IfOk-weaker}
use Rattle.clap.specs.Words.{found_of, rows_of}
use Rattle.clap.proofs.WalkLemmas.{raw_values-rows}
use Rattle.goi_words.proofs.Wide.{found_texts, no_texts}
use Rattle.goi_words.proofs.reading.numbers_in.Goals as goal

pub returns-in-Some-clause-ok : goal.returns-in-Some-clause-ok
returns-in-Some-clause-ok c =
    let found = found_of c.args.found.now in
    let texts = found_texts c.args.name.now (rows_of found) c.get_raw.result c.in-Some.texts
    (c.get_raw.ensures ∙ raw_values-rows found c.args.name.now) c.in-Some.is in
    IfOk-weaker c.wide_numbers_in.result _ _ (λ v is. texts ∙ is) c.wide_numbers_in.ensures.ok

pub returns-in-Some-clause-refused : goal.returns-in-Some-clause-refused
returns-in-Some-clause-refused c refused =
    let found = found_of c.args.found.now in
    found_texts c.args.name.now (rows_of found) c.get_raw.result c.in-Some.texts
    (c.get_raw.ensures ∙ raw_values-rows found c.args.name.now) c.in-Some.is ∙ c.wide_numbers_in.ensures.refused refused

pub returns-in-None-clause-ok : goal.returns-in-None-clause-ok
returns-in-None-clause-ok c =
    let found = found_of c.args.found.now in
    no_texts c.args.name.now (rows_of found) c.get_raw.result (c.get_raw.ensures ∙ raw_values-rows found c.args.name.now) c.in-None.is
    ∙ ap Some (sym c.new.ensures.items)
