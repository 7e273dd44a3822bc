use Rattle.std.proofs.Common.{None, Some, true, refl, lit<, lit≤}
use Rattle.std.specs.Prelude.{codes}
use Rattle.smt_ext.proofs.WorkedDatetimes.{west_of_utc, east_of_utc}
use Rattle.smt_ext.proofs.laws.worked_texts.Goals as goal

pub returns : goal.returns
returns c = record {
  least_decimal = record { negative = true; whole = codes "922337203685477"; fraction = codes "5808"; parts = record { spelled = refl; whole_digits = refl; fraction_digits = refl; places = lit≤ tt }; number = refl; fits = record { sfits = lit< tt } };
  small_decimal = record { negative = true; whole = codes "0"; fraction = codes "0001"; parts = record { spelled = refl; whole_digits = refl; fraction_digits = refl; places = lit≤ tt }; number = refl; fits = record { sfits = lit< tt } };
  written_datetime = record { spelled = refl; day = (lit< tt, lit< tt, lit< tt); clock = (lit< tt, lit< tt, lit< tt, lit< tt, (lit< tt, lit< tt)) };
  western_datetime = west_of_utc;
  eastern_datetime = east_of_utc;
  negative_duration = record { negative = true; parts = record { days = None; hours = Some (codes "0"); minutes = None; seconds = Some (codes "2"); milliseconds = Some (codes "1") }; spelled = refl; numerals = (tt, refl, tt, refl, refl); some_part = lit< tt; number = refl; fits = record { sfits = lit< tt } };
  least_duration = record { negative = true; parts = record { days = None; hours = None; minutes = None; seconds = None; milliseconds = Some (codes "9223372036854775808") }; spelled = refl; numerals = (tt, tt, tt, tt, refl); some_part = lit< tt; number = refl; fits = record { sfits = lit< tt } };
}
