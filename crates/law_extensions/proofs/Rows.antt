-- The worked examples of the functions at a variable, and of rules on IP ranges.
use Rattle.std.proofs.Common.{◌≡◌, ℕ, ◌^◌, ◌<◌, ◌≤◌, Bool, true, false, [], ◌∷◌, map, Some, None, refl, inl, inr, arith, rules}
use Rattle.std.specs.Prelude.{ℤ, negsuc}
use Rattle.law_numbers.specs.Longs.{IsLong}
use Rattle.smt_ext.specs.IpRanges.{Range, Version4}
use Rattle.law_extensions.specs.Bounds.{IsRange, range_literal}
use Rattle.smt_ext.specs.IpOrder.{plain_range}
use Rattle.law_extensions.specs.Rows.{ContainmentExamples, RuleExamples, TimeExamples, blocks, delay, given, in_ten, moment, source, two_blocks, v4, v6}
use Rattle.law_extensions.specs.ExtensionFunctions.{in_range_v, is_in_range, is_ipv4, range_v4}
use Rattle.law_extensions.specs.Literals.{duration}
use Rattle.law_extensions.specs.FoldedRows.{address_v4}
use Rattle.law_extensions.specs.Rules.{AreFormedAt, HoldsIn, LiesInOneOfFamily, RuleTells}
use Rattle.law_extensions.specs.Values.{HasDatetime, HasDuration, HasRange, Tells}
use Rattle.law_extensions.proofs.Blocks.{lies_between, lies_in}
use Rattle.law_extensions.proofs.OfValues.{containment_has_values, times_have_values}
use Rattle.law_extensions.proofs.RuleTells.{rules_are_kept}
use Rattle.law_folding.specs.Applications.{bits_literal, false_term, true_term, truth_literal}
use Rattle.law_folding.specs.Builder.{applied}
use Rattle.law_folding.proofs.Standing.{itself}
use Rattle.law_terms.specs.Formed.{IsFormed}
use Rattle.law_terms.specs.Interpretations.{IsInterpretation}
use Rattle.law_terms.specs.Plain.{BitVecType, BoolType, DatetimeOf, DurationOf, PlainTerm}
use Rattle.law_terms.specs.Tables.{Interpretation}
use Rattle.law_terms.specs.Typing.{Typed}
use Rattle.law_terms.specs.Values.{BoolValue}

-- ---- IP ranges

abbrev ten : Range
ten = v4 (10, 0, 0, 0) (Some 8)

variable_has_range : (r : Range) → IsRange r → HasRange (given (plain_range r)) source r
variable_has_range r h = record {
  range = record { typed = record { parts = refl; type = refl }; formed = record { literals = (tt, tt); types = ((tt, tt), tt) }; value = refl };
  fits = h;
}

-- a block of version 4 whose prefix is of 8 bits
abbrev wide : ℕ → Range
wide a = record { family = Version4; address = a; prefix = Some 8 }

literal_v4 : (I : Interpretation) (a : ℕ) → a < 2 ^ 32 → HasRange I (range_literal (wide a)) (wide a)
literal_v4 I a h = record {
  range = record { typed = record { parts = refl; type = refl }; formed = record { literals = ((h, omega arith), tt); types = ((tt, tt), tt) }; value = refl };
  fits = record { address = h; prefix = omega arith };
}

literal_ten : (I : Interpretation) → HasRange I (range_literal ten) ten
literal_ten I = literal_v4 I (address_v4 (10, 0, 0, 0)) (omega arith)

literal_v6 : (I : Interpretation) → HasRange I (range_literal (v6 1 None)) (v6 1 None)
literal_v6 I = record {
  range = record { typed = record { parts = refl; type = refl }; formed = record { literals = ((omega arith, tt), tt); types = ((tt, tt), tt) }; value = refl };
  fits = record { address = omega arith; prefix = tt };
}

-- an address with no prefix
fits_v4 : IsRange (v4 (10, 1, 2, 3) None)
fits_v4 = record { address = omega arith; prefix = tt }

interpreted : IsInterpretation [] (is_in_range applied source (map range_literal blocks) ∷ []) in_ten
interpreted = search (rules, fits_v4)

pub containment_examples : ContainmentExamples
containment_examples = record {
  contained = refl;
  all = refl;
  none = refl;
  loopback = refl;
  multicast = refl;
  lies = inl (lies_in (v4 (10, 1, 2, 3) None) (v4 (10, 0, 0, 0) (Some 8)) refl (omega arith) (omega arith));
  lies_outside = λ s. elim s [ inl lies ↦ (let b = (lies_between (v4 (11, 0, 0, 1) None) ten (omega arith) lies).0 in absurd (omega (arith, b))) | inr s ↦ elim s [ inl lies ↦ (let e = lies.one_family in cc) | inr empty ↦ empty ] ];
  other_family = λ s. elim s [ inl lies ↦ (let e = lies.one_family in cc) | inr s ↦ elim s [ inl lies ↦ (let b = (lies_between (v6 167838211 None) (v6 1 None) (omega arith) lies).0 in absurd (omega (arith, b))) | inr empty ↦ empty ] ];
  of_variable = variable_has_range;
  of_literals = λ I. (literal_ten I, (literal_v6 I, tt));
  interpreted = interpreted;
  told = containment_has_values.is_in_range [] in_ten source (map range_literal blocks) (v4 (10, 1, 2, 3) None) blocks (variable_has_range (v4 (10, 1, 2, 3) None) fits_v4) (literal_ten in_ten, (literal_v6 in_ten, tt)) interpreted;
}

-- ---- rules

truth_of : (b : Bool) → Typed (truth_literal b) BoolType
truth_of b = record { parts = refl; type = refl }

byte_of : (a : ℕ) → Typed (bits_literal 8 a) (BitVecType 8)
byte_of a = record { parts = refl; type = refl }

apart_widths : (w : ℕ) → BitVecType 8 ≡ BitVecType w → BitVecType 16 ≡ BitVecType w → ⊥
apart_widths w e d = let same : ◌≡◌ {A = ℕ} 8 16 = cc in absurd (omega (arith, same))

-- what is built of the variable and the two blocks
abbrev built : PlainTerm
built = in_range_v applied (is_ipv4 applied) (range_v4 applied) source two_blocks

-- an address of version 4
abbrev single : ℕ → Range
single a = record { family = Version4; address = a; prefix = None }

-- the interpretation in which the variable is this address
abbrev at_address : ℕ → Interpretation
at_address a = given (plain_range (single a))

-- the address is of version 4 and lies in one of the two blocks
abbrev IsInOne : ℕ → Type 0
IsInOne a = HoldsIn (at_address a) (is_ipv4 applied source) × LiesInOneOfFamily (at_address a) (is_ipv4 applied) (range_v4 applied) source two_blocks

-- what is built of the variable, which has a range, and of two literals is formed
built_formed : (a : ℕ) → IsRange (single a) → IsFormed built
built_formed a h =
    let at : (t : PlainTerm) (r : Range) → HasRange (at_address a) t r → AreFormedAt (is_ipv4 applied) (range_v4 applied) t = rules_are_kept.formed_v4 (at_address a) in
    rules_are_kept.formed (is_ipv4 applied) (range_v4 applied) source two_blocks
    (at source (single a) (variable_has_range (single a) h), (at (range_literal (v4 (11, 0, 0, 0) (Some 8))) (v4 (11, 0, 0, 0) (Some 8)) (literal_v4 (at_address a) (address_v4 (11, 0, 0, 0)) (omega arith)), (at (range_literal ten) ten (literal_ten (at_address a)), tt)))

-- what a term tells where the variable is this address
told_at : (a : ℕ) (u : PlainTerm) → IsRange (single a) → RuleTells (is_ipv4 applied) (range_v4 applied) source two_blocks u → Tells (at_address a) u (IsInOne a)
told_at a u h tells = tells [] (at_address a) (single a) (v4 (11, 0, 0, 0) (Some 8) ∷ ten ∷ []) (variable_has_range (single a) h) (literal_v4 (at_address a) (address_v4 (11, 0, 0, 0)) (omega arith), (literal_ten (at_address a), tt)) (search (rules, h)) (built_formed a h)

ten_is_in_one : IsInOne (address_v4 (10, 1, 2, 3))
ten_is_in_one = (refl, inr (inl (refl, λ a h. (let low : 167838211 ≤ a = h.0 in omega arith, let high : a ≤ 167838211 = h.1 in omega arith))))

twelve_is_in_none : IsInOne (address_v4 (12, 0, 0, 0)) → ⊥
twelve_is_in_none q = elim q.1 [ inl here ↦ (let below : 201326592 ≤ 201326591 = (here.1 201326592 (omega arith, omega arith)).1 in absurd (omega (arith, below))) | inr s ↦ elim s [ inl here ↦ (let below : 201326592 ≤ 184549375 = (here.1 201326592 (omega arith, omega arith)).1 in absurd (omega (arith, below))) | inr empty ↦ empty ] ]

true_tells_not : RuleTells (is_ipv4 applied) (range_v4 applied) source two_blocks true_term → ⊥
true_tells_not tells =
    let told = told_at (address_v4 (12, 0, 0, 0)) true_term (record { address = omega arith; prefix = tt }) tells in
    let e : BoolValue true ≡ BoolValue told.truth = told.value in
    let truth : told.truth ≡ true = cc in
    twelve_is_in_none (told.says.0 truth)

false_tells_not : RuleTells (is_ipv4 applied) (range_v4 applied) source two_blocks false_term → ⊥
false_tells_not tells =
    let told = told_at (address_v4 (10, 1, 2, 3)) false_term fits_v4 tells in
    let e : BoolValue false ≡ BoolValue told.truth = told.value in
    let truth : told.truth ≡ true = told.says.1 ten_is_in_one in
    cc

pub rule_examples : RuleExamples
rule_examples = record {
  by_v4 = refl;
  by_v6 = refl;
  of_family = refl;
  not_of_family = λ h. (let e : BoolValue false ≡ BoolValue true = h in cc);
  bounds = refl;
  narrower = λ a h. (let low : 167837696 ≤ a = h.0 in omega arith, let high : a ≤ 167903231 = h.1 in omega arith);
  wider = λ lies. (let low : 167837696 ≤ 167772160 = (lies 167772160 (omega arith, omega arith)).0 in absurd (omega (arith, low)));
  in_second = ten_is_in_one.1;
  not_in_first = λ s. elim s [ inl here ↦ (let above : 184549376 ≤ 167838211 = (here.1 167838211 (omega arith, omega arith)).0 in absurd (omega (arith, above))) | inr empty ↦ empty ];
  built_tells = rules_are_kept.in_range_v (is_ipv4 applied) (range_v4 applied) source two_blocks built rules_are_kept.v4 (itself built);
  true_tells_not = true_tells_not;
  false_tells_not = false_tells_not;
  one_block = record { width = 8; tested = λ I t r h. truth_of true; bounded = λ I t r h. (byte_of 3, byte_of 5); block = λ enums I t r h i e. omega arith };
  upside_down = λ rule. (let order : 5 ≤ 3 = rule.block [] in_ten source (v4 (10, 1, 2, 3) None) (variable_has_range (v4 (10, 1, 2, 3) None) fits_v4) (tt, (tt, (tt, tt))) refl in absurd (omega (arith, order)));
  never_tested = record { width = 8; tested = λ I t r h. truth_of false; bounded = λ I t r h. (byte_of 5, byte_of 3); block = λ enums I t r h i e. (let apart : BoolValue false ≡ BoolValue true = e in absurd (cc)) };
  two_widths = λ rule. (let widths = rule.bounded in_ten source (v4 (10, 1, 2, 3) None) (variable_has_range (v4 (10, 1, 2, 3) None) fits_v4) in apart_widths rule.width widths.0.type widths.1.type);
}

-- ---- datetimes

variable_has_datetime : (z : ℤ) → IsLong z → HasDatetime (given (DatetimeOf z)) moment z
variable_has_datetime z h = record {
  datetime = record { typed = record { parts = refl; type = refl }; formed = record { literals = (tt, tt); types = ((tt, tt), tt) }; value = refl };
  fits = h;
}

variable_has_duration : (z : ℤ) → IsLong z → HasDuration (given (DurationOf z)) delay z
variable_has_duration z h = record {
  duration = record { typed = record { parts = refl; type = refl }; formed = record { literals = (tt, tt); types = ((tt, tt), tt) }; value = refl };
  fits = h;
}

literal_has_duration : (I : Interpretation) (z : ℤ) → IsLong z → HasDuration I (duration z) z
literal_has_duration I z h = record {
  duration = record { typed = record { parts = refl; type = refl }; formed = record { literals = (h, tt); types = ((tt, tt), tt) }; value = refl };
  fits = h;
}

before_1970 : IsLong (negsuc 0)
before_1970 = record { sfits = omega arith }

pub time_examples : TimeExamples
time_examples = record {
  later = refl;
  since = refl;
  dates = refl;
  times = refl;
  of_variable = variable_has_datetime;
  duration_of_variable = variable_has_duration;
  duration_of_literal = literal_has_duration;
  interpreted = λ z h. search (rules, h);
  told = times_have_values.to_date [] (given (DatetimeOf (negsuc 0))) moment (negsuc 0) (variable_has_datetime (negsuc 0) before_1970) (search (rules, before_1970));
}
