use Rattle.std.proofs.Common.{arith}
use Rattle.goi_tasks.proofs.Spanned.{reports_span}
use Rattle.goi_tasks.proofs.span.report_rounds.Goals as goal

pub rounds_text-text-requires : goal.rounds_text-text-requires
rounds_text-text-requires c = let a = c.in_ok-made.ensures.within in let b = c.requires.budget.1 in omega (arith, a, b)

pub returns : goal.returns
returns c =
    let made = c.in_ok-made.made in
    let is = c.in_ok-made.ensures in
    reports_span c.args.net.now c.args.budget made.answer made.rounds made.tickets.items made.profile.items made.widest
    (record {
      log = is.log;
      profile = is.profile;
      most = is.widest;
      within = is.within;
      led = is.answer;
      span = is.span;
      beyond = is.beyond;
      spent = is.spent;
    })
    c.args.parts.profile c.args.parts.schedule c.status_of.result c.status_of.ensures c.in_ok-text.field-0.items c.in_ok-text.ensures _
    c.plain.ensures
