use Rattle.std.proofs.Common.{refl}
use Rattle.schedule_log.proofs.laws.law_rows_of_version_one.Goals as goal

pub returns : goal.returns
returns c = record {
  two = refl;
  none = refl;
  cut_10 = refl;
  cut_11 = refl;
  cut_12 = refl;
  cut_70 = refl;
  cut_71 = refl;
  cut_72 = refl;
  cut_74 = refl;
  whole = refl;
  widest = refl;
  no_text = refl;
  third_version = refl;
  header_without_feed = refl;
  header_alone = refl;
  no_end = refl;
  end_without_feed = refl;
  leading_zero = refl;
  empty_line = refl;
  signed = refl;
  count = refl;
  behind = refl;
  behind_none = refl;
  wide = refl;
  wider = refl;
}
