-- The functions on values of the extension types, by two builders of which the first builds what stands for what the second
-- builds. Each follows its definition.
use Rattle.std.specs.Prelude.{ℕ, ◌-◌, ◌^◌, List, [], ◌∷◌}
use Rattle.law_numbers.specs.BitOperators.{BitsOperator, BvaddOp, BvlshrOp, BvsdivOp, BvshlOp, BvsmodOp, BvsremOp, BvsubOp, BvsleOp, BvuleOp, BvsaddoOp, BvssuboOp}
use Rattle.law_extensions.specs.ExtensionFunctions.{day_literal, difference_as, in_one_from, in_range, in_range_lit, in_range_v, is_in_range, is_ipv4, is_ipv6, lowest_address, range_by, range_v4, range_v6, since_midnight, subnet_width, sum_as, to_date, to_days, to_hours, to_minutes, to_seconds, to_time}
use Rattle.law_extensions.specs.Laws.{BothRefine}
use Rattle.law_folding.specs.Applications.{bits_literal, false_term}
use Rattle.law_folding.specs.Builder.{Builder}
use Rattle.law_folding.specs.Congruence.{Related, RefinesWithType}
use Rattle.law_folding.specs.FoldExtensions.{extension_literal}
use Rattle.law_folding.specs.Refinement.{Refines}
use Rattle.law_folding.proofs.CompositesKeep.{keeps_if_false}
use Rattle.law_folding.proofs.Standing.{itself}
use Rattle.law_terms.specs.Plain.{DatetimeOfBitVecOp, DatetimeValOp, DurationOfBitVecOp, DurationValOp, ExtensionOp, IpAddrV4Op, IpAddrV6Op, IpIsV4Op, IpPrefixV4Op, IpPrefixV6Op, PlainExtension, PlainTerm}

module _ (b c : Builder) (r : Related b c) where
  -- what an operator of the extension types gives of one term
  pub keeps_part : (o : ExtensionOp) (t : PlainTerm) → Refines (b.extension o t) (c.extension o t)
  keeps_part o t = (r.extension o (itself t)).refines

  pub keeps_is_ipv6 : (t : PlainTerm) → Refines (is_ipv6 b t) (is_ipv6 c t)
  keeps_is_ipv6 t = r.not (keeps_part IpIsV4Op t)

  -- ---- ranges

  pub keeps_subnet_width : (w : ℕ) {p q : PlainTerm} → RefinesWithType p q → Refines (subnet_width b w p) (subnet_width c w q)
  keeps_subnet_width w s = r.ite (r.is_none s.refines) (itself (bits_literal (2 ^ w) 0)) (r.bits BvsubOp (itself (bits_literal (2 ^ w) (2 ^ w))) (r.zero_extend (2 ^ w - w) (r.option_get s)).refines)

  keeps_lowest : {x y f g : PlainTerm} → Refines x y → Refines f g → Refines (lowest_address b x f) (lowest_address c y g)
  keeps_lowest s z = r.bits BvshlOp (r.bits BvlshrOp s z) z

  keeps_range_by : (n : ℕ) {x y f g : PlainTerm} → Refines x y → Refines f g → BothRefine (range_by b n x f) (range_by c n y g)
  keeps_range_by n s z = (keeps_lowest s z, r.bits BvsubOp (r.bits BvaddOp (keeps_lowest s z) (r.bits BvshlOp (itself (bits_literal n 1)) z)) (itself (bits_literal n 1)))

  pub keeps_range_v4 : (t : PlainTerm) → BothRefine (range_v4 b t) (range_v4 c t)
  keeps_range_v4 t = keeps_range_by 32 (keeps_part IpAddrV4Op t) (keeps_subnet_width 5 (r.extension IpPrefixV4Op (itself t)))

  pub keeps_range_v6 : (t : PlainTerm) → BothRefine (range_v6 b t) (range_v6 c t)
  keeps_range_v6 t = keeps_range_by 128 (keeps_part IpAddrV6Op t) (keeps_subnet_width 7 (r.extension IpPrefixV6Op (itself t)))

  pub keeps_in_range : (f g : PlainTerm → (PlainTerm × PlainTerm)) (t u : PlainTerm) → BothRefine (f t) (g t) → BothRefine (f u) (g u) → Refines (in_range b f t u) (in_range c g t u)
  keeps_in_range f g t u s z = r.and (r.test BvuleOp s.1 z.1) (r.test BvuleOp z.0 s.0)

  module _ (is_ip is_ip' : PlainTerm → PlainTerm) (f g : PlainTerm → (PlainTerm × PlainTerm)) (t : PlainTerm) (each_ip : (x : PlainTerm) → Refines (is_ip x) (is_ip' x)) (each_range : (x : PlainTerm) → BothRefine (f x) (g x)) where
    keeps_in_one : (x y : PlainTerm) (ts : List PlainTerm) → Refines x y → Refines (in_one_from b is_ip f t x ts) (in_one_from c is_ip' g t y ts)
    keeps_in_one x y [] s = s
    keeps_in_one x y (u ∷ ts) s = keeps_in_one (b.or x (b.and (is_ip u) (in_range b f t u))) (c.or y (c.and (is_ip' u) (in_range c g t u))) ts (r.or s (r.and (each_ip u) (keeps_in_range f g t u (each_range t) (each_range u))))

    pub keeps_in_range_v : (ts : List PlainTerm) → Refines (in_range_v b is_ip f t ts) (in_range_v c is_ip' g t ts)
    keeps_in_range_v ts = r.and (each_ip t) (keeps_in_one false_term false_term ts (itself false_term))

  pub keeps_is_in_range : (t : PlainTerm) (ts : List PlainTerm) → Refines (is_in_range b t ts) (is_in_range c t ts)
  keeps_is_in_range t ts = r.or (keeps_in_range_v (is_ipv4 b) (is_ipv4 c) (range_v4 b) (range_v4 c) t (keeps_part IpIsV4Op) keeps_range_v4 ts) (keeps_in_range_v (is_ipv6 b) (is_ipv6 c) (range_v6 b) (range_v6 c) t keeps_is_ipv6 keeps_range_v6 ts)

  pub keeps_in_range_lit : (t : PlainTerm) (x y : PlainExtension) → Refines (in_range_lit b t x y) (in_range_lit c t x y)
  keeps_in_range_lit t x y =
      r.ite (keeps_part IpIsV4Op t) (keeps_in_range (range_v4 b) (range_v4 c) t (extension_literal x) (keeps_range_v4 t) (keeps_range_v4 (extension_literal x))) (keeps_in_range (range_v6 b) (range_v6 c) t (extension_literal y) (keeps_range_v6 t) (keeps_range_v6 (extension_literal y)))

  -- ---- datetimes and durations

  keeps_divided : (n : ℕ) {t u : PlainTerm} → Refines t u → Refines (b.bits BvsdivOp t (bits_literal 64 n)) (c.bits BvsdivOp u (bits_literal 64 n))
  keeps_divided n s = r.bits BvsdivOp s (itself (bits_literal 64 n))

  pub keeps_to_seconds : (t : PlainTerm) → Refines (to_seconds b t) (to_seconds c t)
  keeps_to_seconds t = keeps_divided 1000 (keeps_part DurationValOp t)

  pub keeps_to_minutes : (t : PlainTerm) → Refines (to_minutes b t) (to_minutes c t)
  keeps_to_minutes t = keeps_divided 60 (keeps_to_seconds t)

  pub keeps_to_hours : (t : PlainTerm) → Refines (to_hours b t) (to_hours c t)
  keeps_to_hours t = keeps_divided 60 (keeps_to_minutes t)

  pub keeps_to_days : (t : PlainTerm) → Refines (to_days b t) (to_days c t)
  keeps_to_days t = keeps_divided 24 (keeps_to_hours t)

  pub keeps_sum_as : (o : ExtensionOp) {t u v w : PlainTerm} → Refines t u → Refines v w → Refines (sum_as b o t v) (sum_as c o u w)
  keeps_sum_as o s z = keeps_if_false b c r (r.overflow BvsaddoOp s z) (r.extension o (r.bits BvaddOp s z))

  pub keeps_difference_as : (o : ExtensionOp) {t u v w : PlainTerm} → Refines t u → Refines v w → Refines (difference_as b o t v) (difference_as c o u w)
  keeps_difference_as o s z = keeps_if_false b c r (r.overflow BvssuboOp s z) (r.extension o (r.bits BvsubOp s z))

  -- what an operator leaves of the day
  keeps_left : (o : BitsOperator) (t : PlainTerm) → Refines (b.bits o (b.extension DatetimeValOp t) day_literal) (c.bits o (c.extension DatetimeValOp t) day_literal)
  keeps_left o t = r.bits o (keeps_part DatetimeValOp t) (itself day_literal)

  pub keeps_to_date : (t : PlainTerm) → Refines (to_date b t) (to_date c t)
  keeps_to_date t = keeps_difference_as DatetimeOfBitVecOp (keeps_part DatetimeValOp t) (keeps_left BvsmodOp t)

  keeps_since_midnight : {t u v w : PlainTerm} → Refines t u → Refines v w → Refines (since_midnight b t v) (since_midnight c u w)
  keeps_since_midnight s z =
      r.ite (r.test BvsleOp (itself (bits_literal 64 0)) s) z (r.ite (r.eq z (itself (bits_literal 64 0))) (itself (bits_literal 64 0)) (r.bits BvaddOp z (itself day_literal)))

  pub keeps_to_time : (t : PlainTerm) → Refines (to_time b t) (to_time c t)
  keeps_to_time t = (r.extension DurationOfBitVecOp (keeps_since_midnight (keeps_part DatetimeValOp t) (keeps_left BvsremOp t))).refines
