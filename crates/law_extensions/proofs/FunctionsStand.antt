-- What the foldings give for the functions on values of the extension types stands for the applications that these were asked for.
use Rattle.law_numbers.specs.BitOperators.{BvsleOp, BvsltOp}
use Rattle.law_extensions.specs.ExtensionFunctions.{loopback_v4, loopback_v6, multicast_v4, multicast_v6}
use Rattle.law_extensions.specs.Laws.{ExtensionFunctionsAreFolded}
use Rattle.law_extensions.proofs.FunctionsKeep.{keeps_difference_as, keeps_in_range, keeps_in_range_lit, keeps_in_range_v, keeps_is_in_range, keeps_is_ipv6, keeps_part, keeps_range_v4, keeps_range_v6, keeps_subnet_width, keeps_sum_as, keeps_to_date, keeps_to_days, keeps_to_hours, keeps_to_minutes, keeps_to_seconds, keeps_to_time}
use Rattle.law_folding.specs.Builder.{applied, folding}
use Rattle.law_folding.specs.Refinement.{Refines}
use Rattle.law_folding.proofs.CompositesKeep.{same}
use Rattle.law_folding.proofs.FoldingsKeep.{related}
use Rattle.law_terms.specs.Plain.{DatetimeOfBitVecOp, DatetimeValOp, DecimalValOp, DurationOfBitVecOp, DurationValOp, ExtensionOp, IpIsV4Op, PlainTerm}

part : (o : ExtensionOp) (t : PlainTerm) → Refines (folding.extension o t) (applied.extension o t)
part = keeps_part folding applied related

pub functions_stand : ExtensionFunctionsAreFolded
functions_stand = record {
  less_than = λ t u. related.test BvsltOp (part DecimalValOp t) (part DecimalValOp u);
  less_than_or_equal = λ t u. related.test BvsleOp (part DecimalValOp t) (part DecimalValOp u);
  greater_than = λ t u. related.test BvsltOp (part DecimalValOp u) (part DecimalValOp t);
  greater_than_or_equal = λ t u. related.test BvsleOp (part DecimalValOp u) (part DecimalValOp t);
  is_ipv4 = part IpIsV4Op;
  is_ipv6 = keeps_is_ipv6 folding applied related;
  subnet_width = λ w p. keeps_subnet_width folding applied related w (same p);
  range_v4 = keeps_range_v4 folding applied related;
  range_v6 = keeps_range_v6 folding applied related;
  in_range = keeps_in_range folding applied related;
  in_range_v = λ i j f g t ts s z. keeps_in_range_v folding applied related i j f g t s z ts;
  is_in_range = keeps_is_in_range folding applied related;
  in_range_lit = keeps_in_range_lit folding applied related;
  is_loopback = λ t. keeps_in_range_lit folding applied related t loopback_v4 loopback_v6;
  is_multicast = λ t. keeps_in_range_lit folding applied related t multicast_v4 multicast_v6;
  to_milliseconds = part DurationValOp;
  to_seconds = keeps_to_seconds folding applied related;
  to_minutes = keeps_to_minutes folding applied related;
  to_hours = keeps_to_hours folding applied related;
  to_days = keeps_to_days folding applied related;
  offset = λ t u. keeps_sum_as folding applied related DatetimeOfBitVecOp (part DatetimeValOp t) (part DurationValOp u);
  duration_since = λ t u. keeps_difference_as folding applied related DurationOfBitVecOp (part DatetimeValOp t) (part DatetimeValOp u);
  to_date = keeps_to_date folding applied related;
  to_time = keeps_to_time folding applied related;
}
