-- Two datetimes with offsets, computed from their texts.
use Rattle.std.proofs.Common.{◌≡◌, Some, true, false, refl, sym, lit<, pos, negsuc, rules}
use Rattle.std.specs.Prelude.{codes}
use Rattle.jiff.specs.Types.{Date}
use Rattle.jiff.specs.Words.{epoch_day}
use Rattle.jiff_core.specs.Calendar.{days_from_civil, day_count, days_of_years, days_of_months}
use Rattle.smt_ext.specs.declared.datetime.stamp.Stamp.{Stamp}
use Rattle.smt_ext.specs.declared.datetime.stamp.Zone.TheVariants.{Offset}
use Rattle.smt_ext.specs.DatetimeText.{IsDatetimeText}

october : Date
october = record { year = pos 2024; month = 10; day = 15; year_in = search rules; month_in = search rules; day_in = search rules }

december : Date
december = record { year = pos 1969; month = 12; day = 31; year_in = search rules; month_in = search rules; day_in = search rules }

october_number : epoch_day october ≡ pos 20011
unfolding october days_from_civil day_count days_of_years days_of_months
october_number = refl

december_number : epoch_day december ≡ negsuc 0
unfolding december days_from_civil day_count days_of_years days_of_months
december_number = refl

western : Stamp
western = record {
  day = record { year = 2024; month = 10; day = 15 };
  clock = Some (record { hour = 11; minute = 38; second = 2; millisecond = Some 101; zone = Offset true 11 34 });
}

eastern : Stamp
eastern = record {
  day = record { year = 1969; month = 12; day = 31 };
  clock = Some (record { hour = 23; minute = 59; second = 59; millisecond = Some 999; zone = Offset false 5 30 });
}

pub west_of_utc : IsDatetimeText (codes "2024-10-15T11:38:02.101-1134") (pos 1729033922101)
unfolding western october
west_of_utc = record {
  stamp = western;
  written = record { spelled = refl; day = (lit< tt, lit< tt, lit< tt); clock = (lit< tt, lit< tt, lit< tt, lit< tt, (lit< tt, lit< tt)) };
  allowed = refl;
  real = (search rules, refl);
  is_value = record { day = pos 20011; is_day = record { date = october; same_day = (refl, refl, refl); number_is = sym october_number }; number = refl };
  fits = record { sfits = lit< tt };
}

pub east_of_utc : IsDatetimeText (codes "1969-12-31T23:59:59.999+0530") (negsuc 19800000)
unfolding eastern december
east_of_utc = record {
  stamp = eastern;
  written = record { spelled = refl; day = (lit< tt, lit< tt, lit< tt); clock = (lit< tt, lit< tt, lit< tt, lit< tt, (lit< tt, lit< tt)) };
  allowed = refl;
  real = (search rules, refl);
  is_value = record { day = negsuc 0; is_day = record { date = december; same_day = (refl, refl, refl); number_is = sym december_number }; number = refl };
  fits = record { sfits = lit< tt };
}
