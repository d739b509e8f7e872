use Rattle.goi_words.proofs.Wide.{wide_ok, wide_err}
use Rattle.goi_words.proofs.reading.wide_number_in.Goals as goal

pub returns-in-Ok : goal.returns-in-Ok
returns-in-Ok c = wide_ok c.args.text.now c.parse.result c.in-Ok.number c.in-Ok.is c.parse.ensures.value.0

pub returns-in-Err : goal.returns-in-Err
returns-in-Err c = wide_err c.args.text.now c.parse.result c.in-Err.field-0 c.in-Err.is c.parse.ensures.value.0
