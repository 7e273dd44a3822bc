use Rattle.std.proofs.Common.{refl}
use Rattle.law_extensions.proofs.laws.extension_function_rows.Goals as goal

pub returns : goal.returns
returns c = record {
  decimals = record { less = refl; less_or_equal = refl; greater = refl; greater_or_equal = refl; applied_values = λ I. refl; stays = refl };
  ranges = record { version4 = refl; version6 = refl; free_v4 = refl; free_v6 = refl; applied_free = λ I. refl; lowest_and_highest = refl; lowest_and_highest_v6 = refl; applied_lowest = λ I. refl; applied_highest = λ I. refl; contained = refl; ranges_contained = refl; other_family = refl; applied_contained = λ I. refl; loopback = refl; multicast = refl };
  times = record { milliseconds = refl; seconds = refl; minutes = refl; hours = refl; days = refl; applied_seconds = λ I. refl; later = refl; too_late = refl; between = refl; too_far = refl; dates = refl; no_date = refl; times = refl; applied_values = λ I. refl };
}
