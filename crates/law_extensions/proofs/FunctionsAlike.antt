-- The functions on values of the extension types, at literals and at terms with their values.
use Rattle.std.proofs.Common.{◌≡◌, ℕ, ◌+◌, ◌-◌, ◌^◌, ◌<◌, true, List, [], ◌∷◌, refl, sym, subst, arith}
use Rattle.std.specs.Prelude.{nat_le}
use Rattle.std.specs.List.{AllZip}
use Rattle.law_numbers.specs.BitOperators.{BvaddOp, BvlshrOp, BvsaddoOp, BvshlOp, BvsleOp, BvsmodOp, BvsremOp, BvssuboOp, BvsubOp, BvuleOp}
use Rattle.law_extensions.specs.ExtensionFunctions.{day_literal, difference_as, in_one_from, in_range, in_range_lit, in_range_v, is_in_range, is_ipv4, is_ipv6, range_by, range_v4, range_v6, subnet_width, sum_as, to_date, to_time}
use Rattle.law_extensions.proofs.Alike.{Alike, and_alike, bits_alike, eq_alike, extension_alike, formed_type, is_none_alike, ite_alike, literal, none, not_alike, option_get_alike, or_alike, overflow_alike, some, test_alike, zero_extend_alike}
use Rattle.law_folding.specs.Applications.{bits_literal, false_term}
use Rattle.law_folding.specs.Builder.{applied}
use Rattle.law_folding.specs.Composites.{if_false}
use Rattle.law_folding.specs.FoldExtensions.{extension_literal}
use Rattle.law_terms.specs.Formed.{IsFormedType}
use Rattle.law_terms.specs.Plain.{BitVecLiteral, BitVecType, BoolLiteral, BoolType, DatetimeKind, DatetimeOfBitVecOp, DatetimeValOp, DurationKind, DurationOfBitVecOp, DurationValOp, ExtensionType, IpAddrKind, IpAddrV4Op, IpAddrV6Op, IpIsV4Op, IpPrefixV4Op, IpPrefixV6Op, NoneTerm, OptionType, PlainExtension, PlainTerm, PlainType}
use Rattle.law_terms.specs.Tables.{Interpretation}
use Rattle.law_terms.specs.Types.{type_of}
use Rattle.law_terms.specs.TypeValues.{Enums}

module _ (enums : Enums) (I : Interpretation) where
  abbrev OfRange : PlainTerm → PlainTerm → Type 0
  OfRange = Alike enums I (ExtensionType IpAddrKind)

  abbrev OfBits : ℕ → PlainTerm → PlainTerm → Type 0
  OfBits n = Alike enums I (BitVecType n)

  abbrev OfBool : PlainTerm → PlainTerm → Type 0
  OfBool = Alike enums I BoolType

  abbrev BothOfBits : ℕ → (PlainTerm × PlainTerm) → (PlainTerm × PlainTerm) → Type 0
  BothOfBits n p q = OfBits n p.0 q.0 × OfBits n p.1 q.1

  bits_64 : IsFormedType (BitVecType 64)
  bits_64 = ((omega arith, omega arith), tt)

  -- ---- ranges

  false_alike : OfBool false_term false_term
  false_alike = literal enums I (BoolLiteral _) tt (tt, tt)

  pub v4_alike : {u t : PlainTerm} → OfRange u t → OfBool (is_ipv4 applied u) (is_ipv4 applied t)
  v4_alike a = extension_alike enums I IpIsV4Op (tt, tt) a

  pub v6_alike : {u t : PlainTerm} → OfRange u t → OfBool (is_ipv6 applied u) (is_ipv6 applied t)
  v6_alike a = not_alike enums I (v4_alike a)

  module _ (w : ℕ) (fits : nat_le (w + (2 ^ w - w)) 128 ≡ true) (wide : w + (2 ^ w - w) ≡ 2 ^ w) (none_free : 0 < 2 ^ (2 ^ w)) (all_free : 2 ^ w < 2 ^ (2 ^ w)) (one : 1 < 2 ^ (2 ^ w)) (narrow_type : IsFormedType (BitVecType w)) (wide_type : IsFormedType (BitVecType (2 ^ w))) where
    subnet_alike : {u t : PlainTerm} → Alike enums I (OptionType (BitVecType w)) u t → OfBits (2 ^ w) (subnet_width applied w u) (subnet_width applied w t)
    subnet_alike {u} {t} a =
        let extended = zero_extend_alike enums I (2 ^ w - w) fits (subst (λ (n : ℕ). IsFormedType (BitVecType n)) (sym wide) wide_type) (option_get_alike enums I narrow_type a) in
        let counted = subst (λ (n : ℕ). OfBits n (applied.zero_extend (2 ^ w - w) (applied.option_get u)) (applied.zero_extend (2 ^ w - w) (applied.option_get t))) wide extended in
        ite_alike enums I (is_none_alike enums I narrow_type a) (literal enums I (BitVecLiteral (2 ^ w) 0) none_free wide_type) (bits_alike enums I BvsubOp (literal enums I (BitVecLiteral (2 ^ w) (2 ^ w)) all_free wide_type) counted)

    range_alike : {u t f g : PlainTerm} → OfBits (2 ^ w) u t → OfBits (2 ^ w) f g → BothOfBits (2 ^ w) (range_by applied (2 ^ w) u f) (range_by applied (2 ^ w) t g)
    range_alike a b =
        let low = bits_alike enums I BvshlOp (bits_alike enums I BvlshrOp a b) b in
        let first = literal enums I (BitVecLiteral (2 ^ w) 1) one wide_type in
        (low, bits_alike enums I BvsubOp (bits_alike enums I BvaddOp low (bits_alike enums I BvshlOp first b)) first)

  pub range_v4_alike : {u t : PlainTerm} → OfRange u t → BothOfBits 32 (range_v4 applied u) (range_v4 applied t)
  range_v4_alike a =
      let narrow : IsFormedType (BitVecType 5) = ((omega arith, omega arith), tt) in
      let wide : IsFormedType (BitVecType 32) = ((omega arith, omega arith), tt) in
      let free = subnet_alike 5 refl refl (omega arith) (omega arith) (omega arith) narrow wide (extension_alike enums I IpPrefixV4Op ((omega arith, omega arith), (tt, tt)) a) in
      range_alike 5 refl refl (omega arith) (omega arith) (omega arith) narrow wide (extension_alike enums I IpAddrV4Op wide a) free

  pub range_v6_alike : {u t : PlainTerm} → OfRange u t → BothOfBits 128 (range_v6 applied u) (range_v6 applied t)
  range_v6_alike a =
      let narrow : IsFormedType (BitVecType 7) = ((omega arith, omega arith), tt) in
      let wide : IsFormedType (BitVecType 128) = ((omega arith, omega arith), tt) in
      let free = subnet_alike 7 refl refl (omega arith) (omega arith) (omega arith) narrow wide (extension_alike enums I IpPrefixV6Op ((omega arith, omega arith), (tt, tt)) a) in
      range_alike 7 refl refl (omega arith) (omega arith) (omega arith) narrow wide (extension_alike enums I IpAddrV6Op wide a) free

  -- one pair of bounds in another
  within_alike : (n : ℕ) {p q r s : PlainTerm × PlainTerm} → BothOfBits n p q → BothOfBits n r s → OfBool (applied.and (applied.test BvuleOp p.1 r.1) (applied.test BvuleOp r.0 p.0)) (applied.and (applied.test BvuleOp q.1 s.1) (applied.test BvuleOp s.0 q.0))
  within_alike n a b = and_alike enums I (test_alike enums I BvuleOp a.1 b.1) (test_alike enums I BvuleOp b.0 a.0)

  module _ (n : ℕ) (is_ip : PlainTerm → PlainTerm) (range : PlainTerm → (PlainTerm × PlainTerm)) (family : (u t : PlainTerm) → OfRange u t → OfBool (is_ip u) (is_ip t)) (bounds : (u t : PlainTerm) → OfRange u t → BothOfBits n (range u) (range t)) where
    in_one_alike : (u t : PlainTerm) (us ts : List PlainTerm) (v w : PlainTerm) → OfRange u t → AllZip OfRange us ts → OfBool v w → OfBool (in_one_from applied is_ip range u v us) (in_one_from applied is_ip range t w ts)
    in_one_alike u t [] [] v w a z b = b
    in_one_alike u t (x ∷ us) (y ∷ ts) v w a z b = in_one_alike u t us ts (applied.or v (applied.and (is_ip x) (in_range applied range u x))) (applied.or w (applied.and (is_ip y) (in_range applied range t y))) a z.1 (or_alike enums I b (and_alike enums I (family x y z.0) (within_alike n (bounds u t a) (bounds x y z.0))))
    in_one_alike u t [] (y ∷ ts) v w a z b = elim z [ ]
    in_one_alike u t (x ∷ us) [] v w a z b = elim z [ ]

    in_list_alike : {u t : PlainTerm} (us ts : List PlainTerm) → OfRange u t → AllZip OfRange us ts → OfBool (in_range_v applied is_ip range u us) (in_range_v applied is_ip range t ts)
    in_list_alike {u} {t} us ts a z = and_alike enums I (family u t a) (in_one_alike u t us ts false_term false_term a z false_alike)

  pub in_any_alike : {u t : PlainTerm} (us ts : List PlainTerm) → OfRange u t → AllZip OfRange us ts → OfBool (is_in_range applied u us) (is_in_range applied t ts)
  in_any_alike us ts a z = or_alike enums I (in_list_alike 32 (is_ipv4 applied) (range_v4 applied) (λ u t. v4_alike) (λ u t. range_v4_alike) us ts a z) (in_list_alike 128 (is_ipv6 applied) (range_v6 applied) (λ u t. v6_alike) (λ u t. range_v6_alike) us ts a z)

  -- in one of two literals
  pub in_literal_alike : {u t : PlainTerm} (x y : PlainExtension) → OfRange (extension_literal x) (extension_literal x) → OfRange (extension_literal y) (extension_literal y) → OfRange u t → OfBool (in_range_lit applied u x y) (in_range_lit applied t x y)
  in_literal_alike x y b c a = ite_alike enums I (v4_alike a) (within_alike 32 (range_v4_alike a) (range_v4_alike b)) (within_alike 128 (range_v6_alike a) (range_v6_alike c))

  -- ---- datetimes and durations

  abbrev OfDatetime : PlainTerm → PlainTerm → Type 0
  OfDatetime = Alike enums I (ExtensionType DatetimeKind)

  abbrev OfDuration : PlainTerm → PlainTerm → Type 0
  OfDuration = Alike enums I (ExtensionType DurationKind)

  day_alike : OfBits 64 day_literal day_literal
  day_alike = literal enums I (BitVecLiteral 64 86400000) (omega arith) bits_64

  zero_alike : OfBits 64 (bits_literal 64 0) (bits_literal 64 0)
  zero_alike = literal enums I (BitVecLiteral 64 0) (omega arith) bits_64

  number_alike : {u t : PlainTerm} → OfDatetime u t → OfBits 64 (applied.extension DatetimeValOp u) (applied.extension DatetimeValOp t)
  number_alike a = extension_alike enums I DatetimeValOp bits_64 a

  none_alike : {ty : PlainType} {u t : PlainTerm} → Alike enums I ty u t → Alike enums I (OptionType ty) (NoneTerm (type_of u)) (NoneTerm (type_of t))
  none_alike {ty} {u} {t} a =
      subst (λ (x : PlainType). Alike enums I (OptionType ty) (NoneTerm x) (NoneTerm (type_of t))) (sym a.type_first)
      (subst (λ (x : PlainType). Alike enums I (OptionType ty) (NoneTerm ty) (NoneTerm x)) (sym a.type_second) (none enums I ty (formed_type enums I ty u t a)))

  if_false_alike : {ty : PlainType} {g h u t : PlainTerm} → OfBool g h → Alike enums I ty u t → Alike enums I (OptionType ty) (if_false applied g u) (if_false applied h t)
  if_false_alike b a = ite_alike enums I b (none_alike a) (some enums I a)

  pub offset_alike : {u t v w : PlainTerm} → OfBits 64 u t → OfBits 64 v w → Alike enums I (OptionType (ExtensionType DatetimeKind)) (sum_as applied DatetimeOfBitVecOp u v) (sum_as applied DatetimeOfBitVecOp t w)
  offset_alike a b = if_false_alike (overflow_alike enums I BvsaddoOp a b) (extension_alike enums I DatetimeOfBitVecOp (tt, tt) (bits_alike enums I BvaddOp a b))

  pub since_alike : {u t v w : PlainTerm} → OfBits 64 u t → OfBits 64 v w → Alike enums I (OptionType (ExtensionType DurationKind)) (difference_as applied DurationOfBitVecOp u v) (difference_as applied DurationOfBitVecOp t w)
  since_alike a b = if_false_alike (overflow_alike enums I BvssuboOp a b) (extension_alike enums I DurationOfBitVecOp (tt, tt) (bits_alike enums I BvsubOp a b))

  pub datetime_alike : {u t : PlainTerm} → OfDatetime u t → OfBits 64 (applied.extension DatetimeValOp u) (applied.extension DatetimeValOp t)
  datetime_alike = number_alike

  pub duration_alike : {u t : PlainTerm} → OfDuration u t → OfBits 64 (applied.extension DurationValOp u) (applied.extension DurationValOp t)
  duration_alike a = extension_alike enums I DurationValOp bits_64 a

  pub date_alike : {u t : PlainTerm} → OfDatetime u t → Alike enums I (OptionType (ExtensionType DatetimeKind)) (to_date applied u) (to_date applied t)
  date_alike a =
      let left = bits_alike enums I BvsmodOp (number_alike a) day_alike in
      if_false_alike (overflow_alike enums I BvssuboOp (number_alike a) left) (extension_alike enums I DatetimeOfBitVecOp (tt, tt) (bits_alike enums I BvsubOp (number_alike a) left))

  pub time_alike : {u t : PlainTerm} → OfDatetime u t → OfDuration (to_time applied u) (to_time applied t)
  time_alike a =
      let left = bits_alike enums I BvsremOp (number_alike a) day_alike in
      let before = ite_alike enums I (eq_alike enums I left zero_alike) zero_alike (bits_alike enums I BvaddOp left day_alike) in
      extension_alike enums I DurationOfBitVecOp (tt, tt) (ite_alike enums I (test_alike enums I BvsleOp zero_alike (number_alike a)) left before)
