-- What builds terms: by applications as they are asked for, or by foldings. The calls that are made of other calls (`Composites`)
-- are written over it.
use Rattle.std.specs.Prelude.{ℕ, List, Option, None}
use Rattle.law_numbers.specs.BitOperators.{BitsOperator, TestOperator, OverflowOperator}
use Rattle.law_folding.specs.Applications.{false_term, not_of, and_of, or_of, eq_of, ite_of, never_of, bvneg_of, bits_of_two, test_of_two}
use Rattle.law_folding.specs.Applications.{bvnego_of, zero_extend_of, string_like_of, set_member_of, set_subset_of, set_inter_of}
use Rattle.law_folding.specs.Applications.{option_get_of, record_get_of, extension_of}
use Rattle.law_folding.specs.FoldBits.{folded_bits, folded_bvneg, folded_bvnego, folded_overflow, folded_test, folded_zero_extend}
use Rattle.law_folding.specs.FoldConnectives.{folded_not, folded_and, folded_or}
use Rattle.law_folding.specs.FoldEquality.{folded_eq, folded_ite}
use Rattle.law_folding.specs.FoldExtensions.{folded_extension}
use Rattle.law_folding.specs.FoldOptions.{folded_option_get, none_by_form}
use Rattle.law_folding.specs.FoldRecords.{folded_record_get}
use Rattle.law_folding.specs.FoldSets.{folded_set_member, folded_set_subset, folded_set_inter, empty_by_form}
use Rattle.law_folding.specs.FoldStrings.{folded_string_like}
use Rattle.law_terms.specs.Plain.{ExtensionOp, PatternPart, PlainTerm, BitsOp, TestOp, OverflowOp}

-- What the composites are made of: a field for each operator, by the name of its call. Literals, `some` and none are the same
-- whoever builds, so they are not among these.
pub record Builder : Type 0 where
  pub not : PlainTerm → PlainTerm
  pub and : PlainTerm → PlainTerm → PlainTerm
  pub or : PlainTerm → PlainTerm → PlainTerm
  pub eq : PlainTerm → PlainTerm → PlainTerm
  pub ite : (guard : PlainTerm) → PlainTerm → PlainTerm → PlainTerm
  -- false, said of a term
  pub never : PlainTerm → PlainTerm
  pub bvneg : PlainTerm → PlainTerm
  pub bvnego : PlainTerm → PlainTerm
  -- operators of two bitvectors, by their classes
  pub bits : BitsOperator → PlainTerm → PlainTerm → PlainTerm
  pub test : TestOperator → PlainTerm → PlainTerm → PlainTerm
  pub overflow : OverflowOperator → PlainTerm → PlainTerm → PlainTerm
  pub zero_extend : ℕ → PlainTerm → PlainTerm
  pub string_like : PlainTerm → List PatternPart → PlainTerm
  pub set_member : (element set : PlainTerm) → PlainTerm
  pub set_subset : PlainTerm → PlainTerm → PlainTerm
  pub set_inter : PlainTerm → PlainTerm → PlainTerm
  pub option_get : PlainTerm → PlainTerm
  pub record_get : PlainTerm → (attribute : List ℕ) → PlainTerm
  -- operators of the extension types
  pub extension : ExtensionOp → PlainTerm → PlainTerm
  -- whether a set is empty, and an option none, where the builder tells by the term's form
  pub empty_by_form : PlainTerm → Option PlainTerm
  pub none_by_form : PlainTerm → Option PlainTerm

-- the builder of the applications as they are asked for; it knows nothing by form
abbrev pub applied : Builder
applied = record {
  not = not_of;
  and = and_of;
  or = or_of;
  eq = eq_of;
  ite = ite_of;
  never = never_of;
  bvneg = bvneg_of;
  bvnego = bvnego_of;
  zero_extend = zero_extend_of;
  bits = λ o. bits_of_two (BitsOp o);
  test = λ o. test_of_two (TestOp o);
  overflow = λ o. test_of_two (OverflowOp o);
  string_like = string_like_of;
  set_member = set_member_of;
  set_subset = set_subset_of;
  set_inter = set_inter_of;
  option_get = option_get_of;
  record_get = record_get_of;
  extension = extension_of;
  empty_by_form = λ t. None;
  none_by_form = λ t. None;
}

-- the builder of what the calls give: each operator folded, and none and the empty set known by form
abbrev pub folding : Builder
folding = record {
  not = folded_not;
  and = folded_and;
  or = folded_or;
  eq = folded_eq;
  ite = folded_ite;
  never = λ t. false_term;
  bvneg = folded_bvneg;
  bvnego = folded_bvnego;
  zero_extend = folded_zero_extend;
  bits = folded_bits;
  test = folded_test;
  overflow = folded_overflow;
  string_like = folded_string_like;
  set_member = folded_set_member;
  set_subset = folded_set_subset;
  set_inter = folded_set_inter;
  option_get = folded_option_get;
  record_get = folded_record_get;
  extension = folded_extension;
  empty_by_form = empty_by_form;
  none_by_form = none_by_form;
}
