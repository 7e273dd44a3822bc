-- Worked examples of folding.
use Rattle.std.specs.Prelude.{◌≡◌, ℕ, pos, negsuc, Bool, true, false, List, [], ◌∷◌, ◌++◌, map, codes, Some, None}
use Rattle.law_numbers.specs.BitOperators.{BvaddOp, BvlshrOp, BvshlOp, BvsubOp, BvsltOp, BvultOp, BvsaddoOp, BvsmuloOp, BvssuboOp}
use Rattle.law_numbers.specs.BitOperators.{bits_operators, test_operators, overflow_operators}
use Rattle.law_folding.specs.Applications.{truth_literal, true_term, false_term, bits_literal, not_of, and_of, or_of, eq_of, ite_of}
use Rattle.law_folding.specs.Applications.{bvneg_of, bits_of_two, test_of_two, bvnego_of, zero_extend_of, string_like_of, set_member_of}
use Rattle.law_folding.specs.Applications.{set_subset_of, set_inter_of, option_get_of, record_get_of, extension_of}
use Rattle.law_folding.specs.Builder.{applied, folding}
use Rattle.law_folding.specs.Composites.{any_none, any_of, if_all_some, if_false, if_some, if_true, implies, is_none, is_some}
use Rattle.law_folding.specs.Composites.{set_intersects, set_is_empty}
use Rattle.law_folding.specs.FoldBits.{folded_bits, folded_bvneg, folded_bvnego, folded_overflow, folded_test, folded_zero_extend}
use Rattle.law_folding.specs.FoldConnectives.{folded_not, are_opposites, folded_and, folded_or}
use Rattle.law_folding.specs.FoldEquality.{folded_eq, folded_ite}
use Rattle.law_folding.specs.FoldExtensions.{extension_literal, folded_extension}
use Rattle.law_folding.specs.FoldFunctions.{app_of, folded_app}
use Rattle.law_folding.specs.FoldOptions.{folded_option_get}
use Rattle.law_folding.specs.FoldRecords.{folded_record_get, record_of_pairs, tag_record}
use Rattle.law_folding.specs.FoldSets.{folded_set_member, folded_set_subset, folded_set_inter}
use Rattle.law_folding.specs.FoldStrings.{folded_string_like}
use Rattle.law_folding.specs.RecordOf.{IsRecordOf}
use Rattle.law_folding.specs.SetOf.{IsSetOf}
use Rattle.law_folding.specs.Refinement.{Refines}
use Rattle.law_terms.specs.Functions.{PlainDefinition, Uninterpreted, Defined, function_value}
use Rattle.law_terms.specs.Meaning.{term_value}
use Rattle.law_terms.specs.Tables.{Interpretation, value_at}
use Rattle.law_terms.specs.TermSets.{set_term}
use Rattle.law_terms.specs.ValueOrder.{values}
use Rattle.law_terms.specs.Values.{BoolValue, BitVecValue, ExtensionValue, NoneValue, SetValue, SomeValue}
use Rattle.law_terms.specs.Plain.{DecimalKind, OptionType, BitVecType, BoolType, ExtensionType, RecordType, SetType, StringType}
use Rattle.law_terms.specs.Plain.{no_attributes, attribute, PlainFunction, DatetimeOfBitVecOp, DatetimeValOp, DecimalValOp}
use Rattle.law_terms.specs.Plain.{DurationOfBitVecOp, DurationValOp, IpAddrV4Op, IpAddrV6Op, IpIsV4Op, IpPrefixV4Op, IpPrefixV6Op}
use Rattle.law_terms.specs.Plain.{DecimalOf, Ipv4Of, Ipv6Of, DatetimeOf, DurationOf, PatternPart, Character, Wildcard, IteOp, RecordGetOp}
use Rattle.law_terms.specs.Plain.{UufOp, StringLiteral, PlainTerm, Application, NoneTerm, LiteralTerm, RecordTerm, SetTerm, SomeTerm}
use Rattle.law_terms.specs.Plain.{VariableTerm, no_fields, one_field, terms, BitsOp, TestOp}

-- a Boolean variable
abbrev pub b : PlainTerm
b = VariableTerm (codes "b") BoolType

-- another Boolean variable
abbrev pub c : PlainTerm
c = VariableTerm (codes "c") BoolType

-- a variable of 8 bits
abbrev pub x : PlainTerm
x = VariableTerm (codes "x") (BitVecType 8)

-- a number as a literal of 8 bits
abbrev pub byte : ℕ → PlainTerm
byte a = bits_literal 8 a

-- what each of some foldings gives of two literals of 8 bits
abbrev pub at_bytes : List (PlainTerm → PlainTerm → PlainTerm) → ℕ → ℕ → List PlainTerm
at_bytes fs a b = map (λ f. f (byte a) (byte b)) fs

-- the foldings of the ten operators from two bitvectors to bits, in the order of their table
abbrev pub bit_foldings : List (PlainTerm → PlainTerm → PlainTerm)
bit_foldings = map folded_bits bits_operators

-- the foldings of the four comparisons and the three overflow tests, in the order of their tables
abbrev pub test_foldings : List (PlainTerm → PlainTerm → PlainTerm)
test_foldings = map folded_test test_operators ++ map folded_overflow overflow_operators

-- truth values as literals
abbrev pub truths : List Bool → List PlainTerm
truths bs = map truth_literal bs

-- Worked examples of connectives, as they are asked for and folded; the applications of choice, bits and tests, by their values,
-- stand here too.
pub record ConnectiveRows : Type 0 where
  -- the applications themselves, by their values, which are false where a term is not typed
  pub applied_values : (I : Interpretation) →
      map (term_value I) (not_of false_term ∷ and_of true_term false_term ∷ or_of true_term false_term
      ∷ implies applied true_term false_term ∷ implies applied false_term true_term ∷ eq_of (byte 1) (byte 1)
      ∷ any_of applied (false_term ∷ true_term ∷ []) ∷ [])
      ≡ BoolValue true ∷ BoolValue false ∷ BoolValue true ∷ BoolValue false ∷ BoolValue true ∷ BoolValue true ∷ BoolValue true ∷ []
  -- choice, and the applications of bits: one of a wrong type would be false here
  pub applied_bits : (I : Interpretation) →
      map (term_value I) (ite_of true_term (byte 1) (byte 2) ∷ ite_of false_term (byte 1) (byte 2) ∷ bvneg_of (byte 1)
      ∷ bits_of_two (BitsOp BvsubOp) (byte 0) (byte 2) ∷ test_of_two (TestOp BvultOp) (byte 1) (byte 2)
      ∷ test_of_two (TestOp BvultOp) (byte 2) (byte 1) ∷ bvnego_of (byte 128) ∷ zero_extend_of 8 (byte 5) ∷ [])
      ≡ BitVecValue 8 1 ∷ BitVecValue 8 2 ∷ BitVecValue 8 255 ∷ BitVecValue 8 254 ∷ BoolValue true ∷ BoolValue false ∷ BoolValue true
      ∷ BitVecValue 16 5 ∷ []
  pub double_negation : folded_not (folded_not b) ≡ b
  pub opposites : are_opposites b (not_of b) ≡ true
  pub opposites_turned : are_opposites (not_of b) b ≡ true
  pub opposite_negations : are_opposites (not_of (not_of b)) (not_of b) ≡ true
  pub no_opposites : are_opposites b c ≡ false
  pub no_contradiction : folded_and b (folded_not b) ≡ false_term
  pub and_stays : folded_and b c ≡ and_of b c
  pub excluded_middle : folded_or b (folded_not b) ≡ true_term
  pub from_false : implies folding false_term b ≡ true_term
  -- equal terms, `true` on either side, `false` on either side
  pub and_of_known :
      folded_and b b ∷ folded_and b true_term ∷ folded_and true_term b ∷ folded_and b false_term ∷ folded_and false_term b ∷ []
      ≡ b ∷ b ∷ b ∷ false_term ∷ false_term ∷ []
  pub or_of_known :
      folded_or b b ∷ folded_or b false_term ∷ folded_or false_term b ∷ folded_or b true_term ∷ folded_or true_term b ∷ []
      ≡ b ∷ b ∷ b ∷ true_term ∷ true_term ∷ []
  pub not_of_known : folded_not true_term ∷ folded_not false_term ∷ folded_not b ∷ [] ≡ false_term ∷ true_term ∷ not_of b ∷ []
  pub stays : folded_or b c ∷ implies folding b c ∷ [] ≡ or_of b c ∷ implies applied b c ∷ []
  pub any_of_none : any_of folding [] ≡ false_term
  -- the later term stands before the earlier one
  pub any_in_turn : any_of folding (b ∷ c ∷ []) ≡ or_of c b
  pub any_true : any_of folding (b ∷ true_term ∷ c ∷ []) ≡ true_term

-- Worked examples of equality and choice, folded.
pub record EqualityRows : Type 0 where
  pub eq_true : folded_eq true_term b ≡ b
  pub eq_false : folded_eq b false_term ≡ not_of b
  pub eq_literals : folded_eq (byte 1) (byte 2) ≡ false_term
  pub eq_inside : folded_eq (SomeTerm true_term) (SomeTerm b) ≡ b
  pub eq_none : folded_eq (SomeTerm x) (NoneTerm (BitVecType 8)) ≡ false_term
  -- a variable and a literal may be equal or not
  pub eq_stays : folded_eq x (byte 1) ≡ eq_of x (byte 1)
  pub eq_same :
      folded_eq x x ∷ folded_eq b true_term ∷ folded_eq false_term b ∷ folded_eq (NoneTerm BoolType) (SomeTerm b) ∷ []
      ≡ true_term ∷ b ∷ not_of b ∷ false_term ∷ []
  -- the guard is known, or both branches are one
  pub ite_known : folded_ite true_term x (byte 1) ∷ folded_ite false_term x (byte 1) ∷ folded_ite b x x ∷ [] ≡ x ∷ byte 1 ∷ x ∷ []
  pub ite_stays : folded_ite b x (byte 1) ≡ ite_of b x (byte 1)
  pub ite_guard : folded_ite b true_term false_term ≡ b
  pub ite_negated : folded_ite b false_term true_term ≡ not_of b
  pub ite_and : folded_ite b c false_term ≡ and_of b c
  pub ite_or : folded_ite b true_term c ≡ or_of b c
  pub ite_inside : folded_ite b (SomeTerm x) (SomeTerm (byte 1)) ≡ SomeTerm (ite_of b x (byte 1))

-- Worked examples of operators and tests on bits, folded.
pub record BitsRows : Type 0 where
  pub negation : folded_bvneg (byte 1) ≡ byte 255
  pub negation_twice : folded_bvneg (folded_bvneg x) ≡ x
  pub sum : folded_bits BvaddOp (byte 255) (byte 1) ≡ byte 0
  -- 249 is -7
  pub each : at_bytes bit_foldings 249 3 ≡ map byte (252 ∷ 31 ∷ 235 ∷ 254 ∷ 200 ∷ 2 ∷ 255 ∷ 246 ∷ 83 ∷ 0 ∷ [])
  -- at these four pairs no two of the seven tests agree
  pub each_test : at_bytes test_foldings 128 255 ≡ truths (true ∷ true ∷ true ∷ true ∷ true ∷ true ∷ false ∷ [])
  pub each_test_of_equal : at_bytes test_foldings 16 16 ≡ truths (true ∷ false ∷ true ∷ false ∷ false ∷ true ∷ false ∷ [])
  pub each_test_of_small : at_bytes test_foldings 2 3 ≡ truths (true ∷ true ∷ true ∷ true ∷ false ∷ false ∷ false ∷ [])
  pub each_test_of_least : at_bytes test_foldings 128 2 ≡ truths (true ∷ true ∷ false ∷ false ∷ false ∷ true ∷ true ∷ [])
  pub sum_stays : folded_bits BvaddOp x (byte 1) ≡ bits_of_two (BitsOp BvaddOp) x (byte 1)
  pub widths_differ : folded_bits BvaddOp (byte 1) (bits_literal 16 1) ≡ bits_of_two (BitsOp BvaddOp) (byte 1) (bits_literal 16 1)
  -- the greatest number by which a shift folds, and the first by which it does not
  pub shift : folded_bits BvshlOp (bits_literal 64 1) (bits_literal 64 4294967295) ≡ bits_literal 64 0
  pub far_shift :
      folded_bits BvshlOp (bits_literal 64 1) (bits_literal 64 4294967296)
      ≡ bits_of_two (BitsOp BvshlOp) (bits_literal 64 1) (bits_literal 64 4294967296)
  pub far_shift_right :
      folded_bits BvlshrOp (bits_literal 64 1) (bits_literal 64 4294967296)
      ≡ bits_of_two (BitsOp BvlshrOp) (bits_literal 64 1) (bits_literal 64 4294967296)
  pub less : folded_test BvsltOp (byte 255) (byte 0) ≡ true_term
  pub less_unsigned : folded_test BvultOp (byte 255) (byte 0) ≡ false_term
  pub less_stays : folded_test BvultOp (byte 1) (bits_literal 16 1) ≡ test_of_two (TestOp BvultOp) (byte 1) (bits_literal 16 1)
  pub least : folded_bvnego (byte 128) ≡ true_term
  pub not_least : folded_bvnego (byte 127) ≡ false_term
  pub sum_overflows : folded_overflow BvsaddoOp (byte 127) (byte 1) ≡ true_term
  pub difference_overflows : folded_overflow BvssuboOp (byte 128) (byte 1) ≡ true_term
  pub product_overflows : folded_overflow BvsmuloOp (byte 16) (byte 8) ≡ true_term
  pub extended : folded_zero_extend 8 (byte 5) ≡ bits_literal 16 5
  pub extended_stays : folded_zero_extend 8 x ≡ zero_extend_of 8 x
  -- what is no bits is given back
  pub no_bits : folded_zero_extend 8 b ≡ b

-- the pattern of a character a, any text, and a character z
abbrev pub a_star_z : List PatternPart
a_star_z = Character 97 ∷ Wildcard ∷ Character 122 ∷ []

-- a text as a string literal
abbrev pub text : List ℕ → PlainTerm
text s = LiteralTerm (StringLiteral s)

-- a string variable
abbrev pub y : PlainTerm
y = VariableTerm (codes "y") StringType

-- Worked examples of the match of a string with a pattern, by its value and folded.
pub record StringRows : Type 0 where
  pub applied_values : (I : Interpretation) →
      map (term_value I) (string_like_of (text (codes "abz")) a_star_z ∷ string_like_of (text (codes "az!")) a_star_z ∷ [])
      ≡ BoolValue true ∷ BoolValue false ∷ []
  pub matched :
      map (λ s. folded_string_like (text s) a_star_z) (codes "abz" ∷ codes "az" ∷ codes "ab" ∷ codes "abzy" ∷ [])
      ≡ truths (true ∷ true ∷ false ∷ false ∷ [])
  pub empty : folded_string_like (text []) [] ∷ folded_string_like (text (codes "a")) [] ∷ [] ≡ truths (true ∷ false ∷ [])
  pub stays : folded_string_like y a_star_z ≡ string_like_of y a_star_z

-- the set of these numbers as literals of 8 bits, in order and each once
abbrev pub bytes : List ℕ → PlainTerm
bytes ns = set_term (BitVecType 8) (map byte ns)

-- the set of a variable of 8 bits alone, which is no literal
abbrev pub of_x : PlainTerm
of_x = set_term (BitVecType 8) (x ∷ [])

-- a variable for a set of bytes
abbrev pub s : PlainTerm
s = VariableTerm (codes "s") (SetType (BitVecType 8))

-- Worked examples of sets: by their values as they are asked for, and folded.
pub record SetRows : Type 0 where
  pub applied_values : (I : Interpretation) →
      map (term_value I) (set_member_of (byte 1) (bytes (1 ∷ 2 ∷ [])) ∷ set_member_of (byte 3) (bytes (1 ∷ 2 ∷ []))
      ∷ set_subset_of (bytes (1 ∷ [])) (bytes (1 ∷ 2 ∷ [])) ∷ set_subset_of (bytes (1 ∷ 2 ∷ [])) (bytes (1 ∷ [])) ∷ [])
      ≡ BoolValue true ∷ BoolValue false ∷ BoolValue true ∷ BoolValue false ∷ []
  -- what is no set is not empty
  pub applied_empty : (I : Interpretation) →
      map (term_value I) (set_is_empty applied (bytes []) ∷ set_is_empty applied (bytes (1 ∷ [])) ∷ set_is_empty applied true_term
      ∷ set_intersects applied (bytes (1 ∷ 2 ∷ [])) (bytes (2 ∷ 3 ∷ [])) ∷ set_intersects applied (bytes (1 ∷ [])) (bytes (2 ∷ [])) ∷ [])
      ≡ BoolValue true ∷ BoolValue false ∷ BoolValue false ∷ BoolValue true ∷ BoolValue false ∷ []
  -- what both have, and not what one has
  pub applied_inter : (I : Interpretation) →
      term_value I (set_inter_of (bytes (1 ∷ 2 ∷ [])) (bytes (2 ∷ 3 ∷ []))) ≡ term_value I (bytes (2 ∷ []))
  pub each_once : bytes (2 ∷ 1 ∷ 2 ∷ []) ≡ SetTerm (BitVecType 8) (terms (byte 1 ∷ byte 2 ∷ []))
  -- the set of 2, 1 and 2, and its value; a set that lacks 2 is not that of 1 and 2
  pub set_of_bytes : IsSetOf (BitVecType 8) (byte 2 ∷ byte 1 ∷ byte 2 ∷ []) (bytes (2 ∷ 1 ∷ 2 ∷ []))
  pub value_of_bytes : (I : Interpretation) →
      term_value I (bytes (2 ∷ 1 ∷ 2 ∷ [])) ≡ SetValue (values (BitVecValue 8 1 ∷ BitVecValue 8 2 ∷ []))
  pub set_lacks_one : IsSetOf (BitVecType 8) (byte 1 ∷ byte 2 ∷ []) (bytes (1 ∷ [])) → ⊥
  -- of {}, {1} and {1, 2}; and where the term or an element is no literal
  pub member : map (folded_set_member (byte 2)) (bytes [] ∷ bytes (1 ∷ []) ∷ bytes (1 ∷ 2 ∷ []) ∷ []) ≡ truths (false ∷ false ∷ true ∷ [])
  pub member_stays : map (folded_set_member x) (bytes [] ∷ bytes (1 ∷ []) ∷ []) ≡ false_term ∷ set_member_of x (bytes (1 ∷ [])) ∷ []
  pub member_of_unknown : map (folded_set_member (byte 1)) (of_x ∷ s ∷ []) ≡ set_member_of (byte 1) of_x ∷ set_member_of (byte 1) s ∷ []
  pub subset :
      folded_set_subset (bytes []) s ∷ folded_set_subset s s ∷ folded_set_subset (bytes (1 ∷ [])) (bytes (1 ∷ 2 ∷ []))
      ∷ folded_set_subset (bytes (1 ∷ 2 ∷ [])) (bytes (1 ∷ [])) ∷ folded_set_subset (bytes (1 ∷ [])) (bytes []) ∷ []
      ≡ truths (true ∷ true ∷ true ∷ false ∷ false ∷ [])
  pub subset_stays :
      folded_set_subset s (bytes []) ∷ folded_set_subset of_x (bytes (1 ∷ [])) ∷ []
      ≡ set_subset_of s (bytes []) ∷ set_subset_of of_x (bytes (1 ∷ [])) ∷ []
  pub inter :
      folded_set_inter (bytes (1 ∷ [])) (bytes (1 ∷ 2 ∷ [])) ∷ folded_set_inter (bytes (1 ∷ 2 ∷ [])) (bytes (2 ∷ 3 ∷ []))
      ∷ folded_set_inter (bytes (1 ∷ [])) (bytes (2 ∷ [])) ∷ [] ≡ bytes (1 ∷ []) ∷ bytes (2 ∷ []) ∷ bytes [] ∷ []
  pub inter_known : folded_set_inter s s ∷ folded_set_inter (bytes []) s ∷ folded_set_inter s (bytes []) ∷ [] ≡ s ∷ bytes [] ∷ bytes [] ∷ []
  -- two empty sets: the first; literals of two types: with the first's
  pub inter_first :
      folded_set_inter (bytes []) (set_term BoolType []) ∷ folded_set_inter (bytes (1 ∷ [])) (set_term BoolType (byte 1 ∷ [])) ∷ []
      ≡ bytes [] ∷ bytes (1 ∷ []) ∷ []
  pub inter_stays :
      folded_set_inter s (bytes (1 ∷ [])) ∷ folded_set_inter of_x (bytes (1 ∷ [])) ∷ []
      ≡ set_inter_of s (bytes (1 ∷ [])) ∷ set_inter_of of_x (bytes (1 ∷ [])) ∷ []
  pub is_empty : map (set_is_empty folding) (bytes [] ∷ bytes (1 ∷ []) ∷ of_x ∷ b ∷ []) ≡ truths (true ∷ false ∷ false ∷ false ∷ [])
  pub is_empty_stays : set_is_empty folding s ≡ eq_of s (bytes [])
  pub intersect :
      set_intersects folding (bytes (1 ∷ [])) (bytes (1 ∷ [])) ∷ set_intersects folding (bytes (1 ∷ [])) (bytes (2 ∷ []))
      ∷ set_intersects folding s (bytes []) ∷ [] ≡ truths (true ∷ false ∷ false ∷ [])
  pub intersect_stays : set_intersects folding s s ≡ not_of (eq_of s (bytes []))

-- the none of Bool
abbrev pub no_truth : PlainTerm
no_truth = NoneTerm BoolType

-- a variable for an option of a truth value
abbrev pub o : PlainTerm
o = VariableTerm (codes "o") (OptionType BoolType)

-- another variable for an option of a truth value
abbrev pub p : PlainTerm
p = VariableTerm (codes "p") (OptionType BoolType)

-- a choice of these arguments with the type of an option of a truth value, of whatever number they are
abbrev pub choice : List PlainTerm → PlainTerm
choice ts = Application IteOp (terms ts) (OptionType BoolType)

-- Worked examples of options: by their values as they are asked for, and folded.
pub record OptionRows : Type 0 where
  -- what is no option is not none
  pub applied_values : (I : Interpretation) →
      map (term_value I) (is_none applied no_truth ∷ is_none applied (SomeTerm true_term) ∷ is_none applied true_term
      ∷ is_some applied no_truth ∷ is_some applied (SomeTerm true_term) ∷ any_none applied []
      ∷ any_none applied (SomeTerm true_term ∷ no_truth ∷ []) ∷ option_get_of (SomeTerm true_term) ∷ [])
      ≡ BoolValue true ∷ BoolValue false ∷ BoolValue false ∷ BoolValue false ∷ BoolValue true ∷ BoolValue false ∷ BoolValue true
      ∷ BoolValue true ∷ []
  pub applied_guards : (I : Interpretation) →
      map (term_value I) (if_false applied true_term true_term ∷ if_false applied false_term true_term ∷ if_true applied true_term true_term
      ∷ if_true applied false_term true_term ∷ if_some applied no_truth true_term ∷ if_some applied (SomeTerm false_term) true_term
      ∷ if_some applied true_term (SomeTerm true_term) ∷ if_all_some applied (no_truth ∷ []) true_term ∷ if_all_some applied [] true_term
      ∷ [])
      ≡ NoneValue ∷ SomeValue (BoolValue true) ∷ SomeValue (BoolValue true) ∷ NoneValue ∷ NoneValue ∷ SomeValue (BoolValue true)
      ∷ SomeValue (BoolValue true) ∷ NoneValue ∷ SomeValue (BoolValue true) ∷ []
  pub held :
      folded_option_get (SomeTerm (byte 1)) ∷ folded_option_get b ∷ folded_option_get o ∷ folded_option_get no_truth ∷ []
      ≡ byte 1 ∷ b ∷ option_get_of o ∷ option_get_of no_truth ∷ []
  pub is_none_known : map (is_none folding) (no_truth ∷ SomeTerm b ∷ b ∷ []) ≡ truths (true ∷ false ∷ false ∷ [])
  pub is_none_stays : is_none folding o ≡ eq_of o no_truth
  -- a choice of some and some, some and none, none and some, and none and none
  pub is_none_of_choices :
      map (λ ts. is_none folding (choice (c ∷ ts)))
      ((SomeTerm b ∷ SomeTerm b ∷ []) ∷ (SomeTerm b ∷ no_truth ∷ []) ∷ (no_truth ∷ SomeTerm b ∷ []) ∷ (no_truth ∷ no_truth ∷ []) ∷ [])
      ≡ false_term ∷ not_of c ∷ c ∷ eq_of (choice (c ∷ no_truth ∷ no_truth ∷ [])) no_truth ∷ []
  -- one branch of which nothing is known, other counts of arguments, and a choice of no option type
  pub other_choices :
      map (λ ts. is_none folding (choice ts))
      ((c ∷ SomeTerm b ∷ o ∷ []) ∷ (SomeTerm b ∷ SomeTerm b ∷ []) ∷ (c ∷ SomeTerm b ∷ SomeTerm b ∷ b ∷ []) ∷ [])
      ≡ eq_of (choice (c ∷ SomeTerm b ∷ o ∷ [])) no_truth ∷ eq_of (choice (SomeTerm b ∷ SomeTerm b ∷ [])) no_truth
      ∷ eq_of (choice (c ∷ SomeTerm b ∷ SomeTerm b ∷ b ∷ [])) no_truth ∷ []
  pub choice_of_no_option : is_none folding (ite_of c x (byte 1)) ≡ false_term
  pub is_some_known : map (is_some folding) (no_truth ∷ SomeTerm b ∷ o ∷ []) ≡ false_term ∷ true_term ∷ not_of (eq_of o no_truth) ∷ []
  pub guarded :
      if_true folding true_term b ∷ if_true folding false_term b ∷ if_false folding true_term b ∷ if_false folding false_term b ∷ []
      ≡ SomeTerm b ∷ no_truth ∷ no_truth ∷ SomeTerm b ∷ []
  pub guarded_stays : if_true folding c b ∷ if_false folding c b ∷ [] ≡ ite_of c (SomeTerm b) no_truth ∷ ite_of c no_truth (SomeTerm b) ∷ []
  pub if_some_known :
      if_some folding (SomeTerm b) c ∷ if_some folding no_truth c ∷ if_some folding (SomeTerm b) p ∷ if_some folding no_truth p ∷ []
      ≡ SomeTerm c ∷ no_truth ∷ p ∷ no_truth ∷ []
  pub if_some_stays :
      if_some folding o c ∷ if_some folding o p ∷ []
      ≡ ite_of (eq_of o no_truth) no_truth (SomeTerm c) ∷ ite_of (eq_of o no_truth) no_truth p ∷ []
  pub any_none_known :
      map (any_none folding) ([] ∷ (SomeTerm b ∷ []) ∷ (SomeTerm b ∷ no_truth ∷ []) ∷ (o ∷ []) ∷ (o ∷ p ∷ []) ∷ [])
      ≡ false_term ∷ false_term ∷ true_term ∷ eq_of o no_truth ∷ or_of (eq_of p no_truth) (eq_of o no_truth) ∷ []
  pub if_all_some_known :
      if_all_some folding [] b ∷ if_all_some folding (no_truth ∷ []) b ∷ if_all_some folding (o ∷ []) p ∷ []
      ≡ SomeTerm b ∷ no_truth ∷ ite_of (eq_of o no_truth) no_truth p ∷ []

-- the record of one attribute a, the byte 1
abbrev pub one_byte : PlainTerm
one_byte = record_of_pairs ((codes "a", byte 1) ∷ [])

-- a variable for a record of one attribute a, a byte
abbrev pub r : PlainTerm
r = VariableTerm (codes "r") (RecordType (attribute (codes "a") (BitVecType 8) no_attributes))

-- Worked examples of records made of pairs, and of an attribute that is taken.
pub record RecordRows : Type 0 where
  -- an attribute that is absent is not typed
  pub applied_values : (I : Interpretation) →
      map (λ x. term_value I (record_get_of (record_of_pairs ((codes "b", byte 2) ∷ (codes "a", byte 1) ∷ [])) x))
      (codes "a" ∷ codes "b" ∷ codes "c" ∷ []) ≡ BitVecValue 8 1 ∷ BitVecValue 8 2 ∷ BoolValue false ∷ []
  pub no_pairs : record_of_pairs [] ≡ RecordTerm no_fields
  pub in_order :
      record_of_pairs ((codes "b", byte 2) ∷ (codes "a", byte 1) ∷ [])
      ≡ RecordTerm (one_field (codes "a") (byte 1) (one_field (codes "b") (byte 2) no_fields))
  -- the first pair would give 1
  pub last_stays :
      record_of_pairs ((codes "a", byte 1) ∷ (codes "b", byte 2) ∷ (codes "a", byte 3) ∷ [])
      ≡ RecordTerm (one_field (codes "a") (byte 3) (one_field (codes "b") (byte 2) no_fields))
  -- a proper prefix first
  pub prefix_first :
      record_of_pairs ((codes "ab", x) ∷ (codes "a", b) ∷ []) ≡ RecordTerm (one_field (codes "a") b (one_field (codes "ab") x no_fields))
  pub tagged :
      record_of_pairs ((codes "entity", x) ∷ (codes "tag", b) ∷ []) ∷ record_of_pairs ((codes "tag", b) ∷ (codes "entity", x) ∷ []) ∷ []
      ≡ tag_record x b ∷ tag_record x b ∷ []
  -- of pairs of one attribute the first is not the value, and no other attribute is there
  pub not_first : IsRecordOf ((codes "a", byte 1) ∷ (codes "a", byte 2) ∷ []) one_byte → ⊥
  pub not_more : IsRecordOf [] one_byte → ⊥
  -- a record with the attribute, and without it
  pub known : map (folded_record_get one_byte) (codes "a" ∷ codes "b" ∷ []) ≡ byte 1 ∷ one_byte ∷ []
  pub tag_parts : map (folded_record_get (tag_record x b)) (codes "entity" ∷ codes "tag" ∷ []) ≡ x ∷ b ∷ []
  -- a variable of a record type with the attribute, and without it
  pub stays :
      map (folded_record_get r) (codes "a" ∷ codes "b" ∷ [])
      ≡ Application (RecordGetOp (codes "a")) (terms (r ∷ [])) (BitVecType 8) ∷ r ∷ []
  pub no_record : folded_record_get b (codes "a") ≡ b

-- the decimal 1.0
abbrev pub one_point_zero : PlainTerm
one_point_zero = extension_literal (DecimalOf (pos 10000))

-- the decimal -0.0001
abbrev pub least_below_zero : PlainTerm
least_below_zero = extension_literal (DecimalOf (negsuc 0))

-- a variable for a decimal
abbrev pub d : PlainTerm
d = VariableTerm (codes "d") (ExtensionType DecimalKind)

-- the address 1.2.3.4
abbrev pub host_v4 : PlainTerm
host_v4 = extension_literal (Ipv4Of 16909060 None)

-- the range 10.0.0.0/8
abbrev pub net_v4 : PlainTerm
net_v4 = extension_literal (Ipv4Of 167772160 (Some 8))

-- the address ::
abbrev pub host_v6 : PlainTerm
host_v6 = extension_literal (Ipv6Of 0 None)

-- the range ::1/64
abbrev pub net_v6 : PlainTerm
net_v6 = extension_literal (Ipv6Of 1 (Some 64))

-- 5 and -1 as literals of 64 bits
abbrev pub times_in_bits : List PlainTerm
times_in_bits = map (bits_literal 64) (5 ∷ 18446744073709551615 ∷ [])

-- 5 milliseconds and -1 millisecond as durations
abbrev pub durations : List PlainTerm
durations = map (λ z. extension_literal (DurationOf z)) (pos 5 ∷ negsuc 0 ∷ [])

-- 5 milliseconds behind 1970, and 1 before, as datetimes
abbrev pub datetimes : List PlainTerm
datetimes = map (λ z. extension_literal (DatetimeOf z)) (pos 5 ∷ negsuc 0 ∷ [])

-- Worked examples of the operators of extension types: by their values as they are asked for, and folded.
pub record ExtensionRows : Type 0 where
  -- a literal of another kind is not typed; a selector at the other family is the interpretation's
  pub applied_values : (I : Interpretation) →
      map (term_value I) (extension_of DecimalValOp least_below_zero ∷ extension_of IpIsV4Op host_v4 ∷ extension_of IpIsV4Op host_v6
      ∷ extension_of IpAddrV4Op host_v4 ∷ extension_of IpPrefixV4Op host_v4 ∷ extension_of IpPrefixV6Op net_v6
      ∷ extension_of DecimalValOp host_v4 ∷ [])
      ≡ BitVecValue 64 18446744073709551615 ∷ BoolValue true ∷ BoolValue false ∷ BitVecValue 32 16909060 ∷ NoneValue
      ∷ SomeValue (BitVecValue 7 64) ∷ BoolValue false ∷ []
  pub applied_times : (I : Interpretation) →
      map (λ t. term_value I (extension_of DurationOfBitVecOp t)) times_in_bits
      ≡ ExtensionValue (DurationOf (pos 5)) ∷ ExtensionValue (DurationOf (negsuc 0)) ∷ []
  pub applied_other_family : (I : Interpretation) →
      term_value I (extension_of IpAddrV4Op host_v6) ≡ value_at (I.other_family IpAddrV4Op) (ExtensionValue (Ipv6Of 0 None))
  pub decimals :
      map (folded_extension DecimalValOp) (one_point_zero ∷ least_below_zero ∷ [])
      ≡ map (bits_literal 64) (10000 ∷ 18446744073709551615 ∷ [])
  pub from_durations : map (folded_extension DurationValOp) durations ≡ times_in_bits
  pub from_datetimes : map (folded_extension DatetimeValOp) datetimes ≡ times_in_bits
  pub to_durations : map (folded_extension DurationOfBitVecOp) times_in_bits ≡ durations
  pub to_datetimes : map (folded_extension DatetimeOfBitVecOp) times_in_bits ≡ datetimes
  pub is_v4 : map (folded_extension IpIsV4Op) (host_v4 ∷ net_v4 ∷ host_v6 ∷ net_v6 ∷ []) ≡ truths (true ∷ true ∷ false ∷ false ∷ [])
  pub addresses_v4 : map (folded_extension IpAddrV4Op) (host_v4 ∷ net_v4 ∷ []) ≡ map (bits_literal 32) (16909060 ∷ 167772160 ∷ [])
  pub addresses_v6 : map (folded_extension IpAddrV6Op) (host_v6 ∷ net_v6 ∷ []) ≡ map (bits_literal 128) (0 ∷ 1 ∷ [])
  pub prefixes_v4 : map (folded_extension IpPrefixV4Op) (host_v4 ∷ net_v4 ∷ []) ≡ NoneTerm (BitVecType 5) ∷ SomeTerm (bits_literal 5 8) ∷ []
  pub prefixes_v6 :
      map (folded_extension IpPrefixV6Op) (host_v6 ∷ net_v6 ∷ []) ≡ NoneTerm (BitVecType 7) ∷ SomeTerm (bits_literal 7 64) ∷ []
  pub other_family_stays :
      map (folded_extension IpAddrV4Op) (host_v6 ∷ []) ++ map (folded_extension IpAddrV6Op) (host_v4 ∷ [])
      ++ map (folded_extension IpPrefixV4Op) (net_v6 ∷ []) ++ map (folded_extension IpPrefixV6Op) (net_v4 ∷ [])
      ≡ extension_of IpAddrV4Op host_v6 ∷ extension_of IpAddrV6Op host_v4 ∷ extension_of IpPrefixV4Op net_v6
      ∷ extension_of IpPrefixV6Op net_v4 ∷ []
  pub other_kind_stays :
      map (folded_extension DecimalValOp) (durations ++ host_v4 ∷ byte 1 ∷ [])
      ≡ map (extension_of DecimalValOp) (durations ++ host_v4 ∷ byte 1 ∷ [])
  pub other_width_stays :
      folded_extension DatetimeOfBitVecOp (byte 5) ∷ folded_extension DurationOfBitVecOp (byte 5) ∷ []
      ≡ extension_of DatetimeOfBitVecOp (byte 5) ∷ extension_of DurationOfBitVecOp (byte 5) ∷ []
  pub variable_stays : folded_extension DecimalValOp d ≡ extension_of DecimalValOp d

-- a function from bytes to bytes that an interpretation gives
abbrev pub unknown : PlainFunction
unknown = record { id = codes "unknown"; argument = BitVecType 8; output = BitVecType 8 }

-- a function from bytes to bytes that a table defines: 10 at 1, 20 at 2, and 0 elsewhere
abbrev pub tens : PlainDefinition
tens = record { argument = BitVecType 8; output = BitVecType 8; entries = (byte 1, byte 10) ∷ (byte 2, byte 20) ∷ []; elsewhere = byte 0 }

-- the table of the truth values that only 1 has, with an entry that says nothing new
abbrev pub is_one : PlainDefinition
is_one =
    record { argument = BitVecType 8; output = BoolType; entries = (byte 1, true_term) ∷ (byte 2, false_term) ∷ []; elsewhere = false_term }

-- Worked examples of functions at a key of their table, at a literal that is no key, and at a variable.
pub record FunctionRows : Type 0 where
  pub values : (I : Interpretation) →
      map (λ n. function_value I (Defined tens) (BitVecValue 8 n)) (1 ∷ 2 ∷ 3 ∷ [])
      ≡ BitVecValue 8 10 ∷ BitVecValue 8 20 ∷ BitVecValue 8 0 ∷ []
  pub applied_values : (I : Interpretation) →
      map (λ n. term_value I (app_of (Defined tens) (byte n))) (1 ∷ 2 ∷ 3 ∷ []) ≡ BitVecValue 8 10 ∷ BitVecValue 8 20 ∷ BitVecValue 8 0 ∷ []
  pub at_key : folded_app (Defined tens) (byte 2) ≡ byte 20
  pub at_no_key : folded_app (Defined tens) (byte 3) ≡ byte 0
  pub at_variable : folded_app (Defined tens) x ≡ ite_of (eq_of x (byte 1)) (byte 10) (ite_of (eq_of x (byte 2)) (byte 20) (byte 0))
  -- a choice whose branches are one folds away, and one of true and false is its guard
  pub choices_folded : folded_app (Defined is_one) x ≡ eq_of x (byte 1)
  pub uninterpreted :
      folded_app (Uninterpreted unknown) x ∷ folded_app (Uninterpreted unknown) (byte 1) ∷ []
      ≡ Application (UufOp unknown) (terms (x ∷ [])) (BitVecType 8) ∷ Application (UufOp unknown) (terms (byte 1 ∷ [])) (BitVecType 8) ∷ []

-- Terms that do not stand for one another: of another value, of another type, and one that reaches a variable more.
pub record ApartRows : Type 0 where
  -- b may be false
  pub values : Refines true_term b → ⊥
  -- a byte in place of a truth value
  pub types : Refines (byte 1) true_term → ⊥
  -- the same value, but the variable b is reached
  pub reached : Refines (and_of b false_term) false_term → ⊥
