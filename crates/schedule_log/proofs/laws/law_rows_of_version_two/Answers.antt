use Rattle.std.proofs.Common.{refl, arith}
use Rattle.std.proofs.lemmas.Fmt.{decimal_digit}
use Rattle.schedule_log.proofs.laws.law_rows_of_version_two.Goals as goal

pub returns : goal.returns
returns c = record {
  two = refl;
  three = refl;
  same_ticket = refl;
  no_move = refl;
  no_count = refl;
  two_spaces = refl;
  wide = refl;
  much = refl;
  one_more = refl;
  wide_and_much = refl;
  very_much = refl;
  behind = refl;
  printed = rw (decimal_digit 0 (omega arith), decimal_digit 3 (omega arith), decimal_digit 1 (omega arith)) refl;
  printed_empty = refl;
}
