use Rattle.std.proofs.Common.{refl, arith}
use Rattle.std.proofs.lemmas.Fmt.{decimal_digit}
use Rattle.goi_reports.proofs.laws.law_report_rows.Goals as goal

pub returns : goal.returns
returns c =
    let zero = decimal_digit 0 (omega arith) in
    let one = decimal_digit 1 (omega arith) in
    let two = decimal_digit 2 (omega arith) in
    let three = decimal_digit 3 (omega arith) in
    let six = decimal_digit 6 (omega arith) in
    record {
      plain = rw (three, six) refl;
      scheduled = rw (zero, one, three, six) refl;
      tallied = rw (zero, three, six) refl;
      both = rw (zero, one, three, six) refl;
      two = rw (zero, one, two, three, six) refl;
      idle = rw (zero, one, two, six) refl;
      none = rw zero refl;
      over = rw six refl;
      replayed = rw (three, six) refl;
      replayed_part = rw one refl;
      generated = rw (zero, two, decimal_digit 9 (omega arith), decimal_digit 4 (omega arith)) refl;
      typed = refl;
      typed_term = rw (decimal_digit 7 (omega arith)) refl;
    }
