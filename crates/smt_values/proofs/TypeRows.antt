-- Worked examples of calls: by computation, and where a datetime is in them by what its text is read to.
use Rattle.std.proofs.Common.{◌≡◌, ℤ, Option, Some, None, option_map, refl, ap}
use Rattle.std.specs.Fmt.{digits}
use Rattle.std.specs.Net.Reader.{read_ipv4, read_ipv6, read_number, read_octet, read_segment, read_segments}
use Rattle.law_numbers.specs.Extensions.{DatetimeOf}
use Rattle.law_texts.specs.Front.{byte_at}
use Rattle.smt_ext.specs.DatetimeReading.{day_at, field_at, stamp_at}
use Rattle.law_texts.specs.Options.{◌>>=◌}
use Rattle.law_extensions.proofs.TextRows.{datetime_examples}
use Rattle.smt_values.specs.Constructors.{later}
use Rattle.smt_values.specs.TypeRows.{CallExamples, OffsetExamples, ValueExamples}
use Rattle.smt_values.proofs.ReadBack.{start_read}

pub call_examples : CallExamples
unfolding digits read_ipv4 read_ipv6 read_number read_octet read_segment read_segments
call_examples = record {
  decimal = refl;
  datetime = ap (option_map DatetimeOf) datetime_examples.leap_day;
  duration = refl;
  ip = refl;
  no_decimal = refl;
  no_argument = refl;
  two_arguments = refl;
  number = refl;
  call_inside = refl;
  capital = refl;
  other_name = refl;
}

-- the moment of a text that is read, later by a span
added : {o p : Option ℤ} {m : ℤ} {d : ℤ} → p ≡ Some d → o ≡ Some m → option_map DatetimeOf (o >>= λ m. p >>= λ d. later m d) ≡ option_map DatetimeOf (later m d)
added f e = λ i. option_map DatetimeOf (e i >>= λ m. f i >>= λ d. later m d)

-- the moment of a text that is read, where no span is read
not_added : {o p : Option ℤ} {m : ℤ} → p ≡ None → o ≡ Some m → option_map DatetimeOf (o >>= λ m. p >>= λ d. later m d) ≡ None
not_added f e = λ i. option_map DatetimeOf (e i >>= λ m. f i >>= λ d. later m d)

pub offset_examples : OffsetExamples
unfolding stamp_at day_at field_at byte_at
offset_examples = record {
  later = added refl start_read;
  earlier = added refl start_read;
  greatest = added refl start_read;
  too_late = added refl datetime_examples.leap_day;
  turned = refl;
  one_argument = refl;
  offset_of_offset = refl;
  texts = refl;
  no_moment = refl;
  no_span = not_added refl start_read;
}

pub value_examples : ValueExamples
value_examples = record {
  no_call = refl;
  other = refl;
  extension = refl;
  truth = refl;
  text_alone = refl;
  set = refl;
}
