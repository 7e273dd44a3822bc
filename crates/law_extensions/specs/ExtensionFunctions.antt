-- The functions on values of the extension types, as they are made of other calls, each written once over what builds terms:
-- `applied` gives the application that is asked for, `folding` what the call gives. Literals are the same whoever builds.
use Rattle.std.specs.Prelude.{ℕ, ◌-◌, ◌*◌, ◌^◌, List, [], ◌∷◌, Some, None}
use Rattle.law_numbers.specs.BitOperators.{BvaddOp, BvlshrOp, BvsdivOp, BvshlOp, BvsmodOp, BvsremOp, BvsubOp, BvsleOp, BvsltOp, BvuleOp}
use Rattle.law_numbers.specs.BitOperators.{BvsaddoOp, BvssuboOp}
use Rattle.law_folding.specs.Applications.{false_term, bits_literal}
use Rattle.law_folding.specs.Builder.{Builder}
use Rattle.law_folding.specs.Composites.{if_false, is_none}
use Rattle.law_folding.specs.FoldExtensions.{extension_literal}
use Rattle.law_terms.specs.Plain.{DatetimeOfBitVecOp, DatetimeValOp, DecimalValOp, DurationOfBitVecOp, DurationValOp, ExtensionOp}
use Rattle.law_terms.specs.Plain.{IpAddrV4Op, IpAddrV6Op, IpIsV4Op, IpPrefixV4Op, IpPrefixV6Op, Ipv4Of, Ipv6Of, PlainExtension, PlainTerm}

-- ---- decimals

-- whether the first decimal is less than the second (`lessThan` of Cedar)
abbrev pub less_than : Builder → PlainTerm → PlainTerm → PlainTerm
less_than b t u = b.test BvsltOp (b.extension DecimalValOp t) (b.extension DecimalValOp u)

-- whether the first decimal is at most the second (`lessThanOrEqual` of Cedar)
abbrev pub less_than_or_equal : Builder → PlainTerm → PlainTerm → PlainTerm
less_than_or_equal b t u = b.test BvsleOp (b.extension DecimalValOp t) (b.extension DecimalValOp u)

-- whether the first decimal is greater than the second (`greaterThan` of Cedar)
abbrev pub greater_than : Builder → PlainTerm → PlainTerm → PlainTerm
greater_than b t u = b.test BvsltOp (b.extension DecimalValOp u) (b.extension DecimalValOp t)

-- whether the first decimal is at least the second (`greaterThanOrEqual` of Cedar)
abbrev pub greater_than_or_equal : Builder → PlainTerm → PlainTerm → PlainTerm
greater_than_or_equal b t u = b.test BvsleOp (b.extension DecimalValOp u) (b.extension DecimalValOp t)

-- ---- IP ranges

-- whether a range is of version 4 (`isIpv4` of Cedar)
abbrev pub is_ipv4 : Builder → PlainTerm → PlainTerm
is_ipv4 b t = b.extension IpIsV4Op t

-- whether a range is of version 6 (`isIpv6` of Cedar)
abbrev pub is_ipv6 : Builder → PlainTerm → PlainTerm
is_ipv6 b t = b.not (is_ipv4 b t)

-- The number of free bits of an address, by its prefix of w bits: an address has N bits, where N is 2 to the w, and so has the
-- number. No prefix leaves none free.
abbrev pub subnet_width : Builder → (width : ℕ) → (prefix : PlainTerm) → PlainTerm
subnet_width b w p =
    b.ite (is_none b p) (bits_literal (2 ^ w) 0)
    (b.bits BvsubOp (bits_literal (2 ^ w) (2 ^ w)) (b.zero_extend (2 ^ w - w) (b.option_get p)))

-- the lowest address of a block: an address with its free bits cleared
abbrev pub lowest_address : Builder → (address free : PlainTerm) → PlainTerm
lowest_address b a f = b.bits BvshlOp (b.bits BvlshrOp a f) f

-- the highest address of a block: an address of n bits with its free bits set
abbrev pub highest_address : Builder → (width : ℕ) → (address free : PlainTerm) → PlainTerm
highest_address b n a f = b.bits BvsubOp (b.bits BvaddOp (lowest_address b a f) (b.bits BvshlOp (bits_literal n 1) f)) (bits_literal n 1)

-- the lowest and the highest address of a block, by an address of n bits in it and the number of its free bits
abbrev pub range_by : Builder → (width : ℕ) → (address free : PlainTerm) → (PlainTerm × PlainTerm)
range_by b n a f = (lowest_address b a f, highest_address b n a f)

-- the lowest and the highest address of a range of version 4, as terms of 32 bits
abbrev pub range_v4 : Builder → PlainTerm → (PlainTerm × PlainTerm)
range_v4 b t = range_by b 32 (b.extension IpAddrV4Op t) (subnet_width b 5 (b.extension IpPrefixV4Op t))

-- the lowest and the highest address of a range of version 6, as terms of 128 bits
abbrev pub range_v6 : Builder → PlainTerm → (PlainTerm × PlainTerm)
range_v6 b t = range_by b 128 (b.extension IpAddrV6Op t) (subnet_width b 7 (b.extension IpPrefixV6Op t))

-- The first range lies in the second: its highest address is at most the second's, and its lowest at least the second's. The
-- function that is handed in gives the lowest and the highest address of a range.
abbrev pub in_range : Builder → (range : PlainTerm → (PlainTerm × PlainTerm)) → PlainTerm → PlainTerm → PlainTerm
in_range b range t u = b.and (b.test BvuleOp (range t).1 (range u).1) (b.test BvuleOp (range u).0 (range t).0)

-- What came of the front of a list, or one of the rest is of the family and has the first range inside it.
abbrev pub in_one_from : Builder → (is_ip : PlainTerm → PlainTerm) → (range : PlainTerm → (PlainTerm × PlainTerm)) → PlainTerm →
    (so_far : PlainTerm) → List PlainTerm → PlainTerm
in_one_from b is_ip range t so_far [] = so_far
in_one_from b is_ip range t so_far (x ∷ xs) = in_one_from b is_ip range t (b.or so_far (b.and (is_ip x) (in_range b range t x))) xs

-- the range is of the family, and lies in one of the list that is of the family too
abbrev pub in_range_v : Builder → (is_ip : PlainTerm → PlainTerm) → (range : PlainTerm → (PlainTerm × PlainTerm)) → PlainTerm →
    List PlainTerm → PlainTerm
in_range_v b is_ip range t ts = b.and (is_ip t) (in_one_from b is_ip range t false_term ts)

-- whether a range lies in one of a list that is of its family; of a list of one this is `isInRange` of Cedar
abbrev pub is_in_range : Builder → PlainTerm → List PlainTerm → PlainTerm
is_in_range b t ts = b.or (in_range_v b (is_ipv4 b) (range_v4 b) t ts) (in_range_v b (is_ipv6 b) (range_v6 b) t ts)

-- whether a range lies in the one of two literals that is of its family
abbrev pub in_range_lit : Builder → PlainTerm → (cidr4 cidr6 : PlainExtension) → PlainTerm
in_range_lit b t x y =
    b.ite (is_ipv4 b t) (in_range b (range_v4 b) t (extension_literal x)) (in_range b (range_v6 b) t (extension_literal y))

-- 127.0.0.0/8, the loopback addresses of version 4
abbrev pub loopback_v4 : PlainExtension
loopback_v4 = Ipv4Of (127 * 2 ^ 24) (Some 8)

-- ::1, the loopback address of version 6
abbrev pub loopback_v6 : PlainExtension
loopback_v6 = Ipv6Of 1 None

-- 224.0.0.0/4, the multicast addresses of version 4
abbrev pub multicast_v4 : PlainExtension
multicast_v4 = Ipv4Of (224 * 2 ^ 24) (Some 4)

-- ff00::/8, the multicast addresses of version 6
abbrev pub multicast_v6 : PlainExtension
multicast_v6 = Ipv6Of (0xff * 2 ^ 120) (Some 8)

-- whether a range has loopback addresses alone (`isLoopback` of Cedar)
abbrev pub is_loopback : Builder → PlainTerm → PlainTerm
is_loopback b t = in_range_lit b t loopback_v4 loopback_v6

-- whether a range has multicast addresses alone (`isMulticast` of Cedar)
abbrev pub is_multicast : Builder → PlainTerm → PlainTerm
is_multicast b t = in_range_lit b t multicast_v4 multicast_v6

-- ---- datetimes and durations

-- the milliseconds of a duration, as 64 bits (`toMilliseconds` of Cedar)
abbrev pub to_milliseconds : Builder → PlainTerm → PlainTerm
to_milliseconds b t = b.extension DurationValOp t

-- the whole seconds of a duration, rounded towards zero (`toSeconds` of Cedar)
abbrev pub to_seconds : Builder → PlainTerm → PlainTerm
to_seconds b t = b.bits BvsdivOp (to_milliseconds b t) (bits_literal 64 1000)

-- the whole minutes of a duration, rounded towards zero (`toMinutes` of Cedar)
abbrev pub to_minutes : Builder → PlainTerm → PlainTerm
to_minutes b t = b.bits BvsdivOp (to_seconds b t) (bits_literal 64 60)

-- the whole hours of a duration, rounded towards zero (`toHours` of Cedar)
abbrev pub to_hours : Builder → PlainTerm → PlainTerm
to_hours b t = b.bits BvsdivOp (to_minutes b t) (bits_literal 64 60)

-- the whole days of a duration, rounded towards zero (`toDays` of Cedar)
abbrev pub to_days : Builder → PlainTerm → PlainTerm
to_days b t = b.bits BvsdivOp (to_hours b t) (bits_literal 64 24)

-- some of what an operator makes of the sum of two numbers, and none where the sum leaves the 64 bits
abbrev pub sum_as : Builder → ExtensionOp → PlainTerm → PlainTerm → PlainTerm
sum_as b o x y = if_false b (b.overflow BvsaddoOp x y) (b.extension o (b.bits BvaddOp x y))

-- some of what an operator makes of the difference of two numbers, and none where the difference leaves the 64 bits
abbrev pub difference_as : Builder → ExtensionOp → PlainTerm → PlainTerm → PlainTerm
difference_as b o x y = if_false b (b.overflow BvssuboOp x y) (b.extension o (b.bits BvsubOp x y))

-- some of the datetime that is a duration later, and none where that leaves the 64 bits (`offset` of Cedar)
abbrev pub offset : Builder → (datetime duration : PlainTerm) → PlainTerm
offset b t u = sum_as b DatetimeOfBitVecOp (b.extension DatetimeValOp t) (b.extension DurationValOp u)

-- some of the duration from the second datetime to the first, and none where that leaves the 64 bits (`durationSince` of Cedar)
abbrev pub duration_since : Builder → PlainTerm → PlainTerm → PlainTerm
duration_since b t u = difference_as b DurationOfBitVecOp (b.extension DatetimeValOp t) (b.extension DatetimeValOp u)

-- a day in milliseconds
abbrev pub day_literal : PlainTerm
day_literal = bits_literal 64 86400000

-- some of the last midnight, which is the datetime less what is left of the day by `bvsmod`, with the sign of the day, and none
-- where that leaves the 64 bits (`toDate` of Cedar)
abbrev pub to_date : Builder → PlainTerm → PlainTerm
to_date b t = difference_as b DatetimeOfBitVecOp (b.extension DatetimeValOp t) (b.bits BvsmodOp (b.extension DatetimeValOp t) day_literal)

-- The milliseconds since the last midnight, of a number and of what is left of the day rounded towards zero: that, and where the
-- number is below zero 0 or a day more.
abbrev pub since_midnight : Builder → (number left : PlainTerm) → PlainTerm
since_midnight b x r =
    b.ite (b.test BvsleOp (bits_literal 64 0) x) r (b.ite (b.eq r (bits_literal 64 0)) (bits_literal 64 0) (b.bits BvaddOp r day_literal))

-- the duration since the last midnight (`toTime` of Cedar)
abbrev pub to_time : Builder → PlainTerm → PlainTerm
to_time b t =
    b.extension DurationOfBitVecOp
    (since_midnight b (b.extension DatetimeValOp t) (b.bits BvsremOp (b.extension DatetimeValOp t) day_literal))
