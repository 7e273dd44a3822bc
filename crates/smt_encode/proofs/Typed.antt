-- Typed terms: their parts are typed, and all of them are written.
use Rattle.std.proofs.Common.{◌≡◌, ◌⊎◌, inl, inr, ◌&&◌, Bool, true, false, IsTrue, List, [], ◌∷◌, map, refl}
use Rattle.law_terms.specs.Plain.{PlainType, OptionType, BitVecType, BoolType, EntityType, ExtensionType, StringType, RecordType, SetType, AttributeTypes, no_attributes, attribute, PlainTerms, no_terms, one_term, PlainFields, no_fields, one_field, PlainOp, Application, NoneTerm, LiteralTerm, RecordTerm, SetTerm, SomeTerm, VariableTerm, list_of_terms, AndOp, BitsOp, BvnegOp, BvnegoOp, EqOp, ExtOp, IteOp, NotOp, OptionGetOp, OrOp, OverflowOp, RecordGetOp, SetInterOp, SetMemberOp, SetSubsetOp, StringLikeOp, TestOp, UufOp, ZeroExtendOp}
use Rattle.law_terms.specs.Types.{is_type, result_type, type_of, types_of}
use Rattle.law_terms.specs.Typing.{are_elements, typed, typed_all, typed_fields}
use Rattle.law_terms.specs.Nodes.{Meaning, TypeMeaning, FunctionMeaning, TermMeaning}
use Rattle.law_terms.specs.Parts.{field_terms, parts_in, term_parts, types_in}
use Rattle.law_lines.specs.Lines.{least_rendering}
use Rattle.smt_encode.specs.Complete.{AreTypedMeanings}
use Rattle.smt_spelling.specs.Whole.{is_typed}
use Rattle.smt_spelling.specs.NodeEntries.{Rendered, op_rendering, rendering_in, second_last, written_parts}

and_first : (a b : Bool) → IsTrue (a && b) → IsTrue a
and_first true b h = refl
and_first false b h = h

and_second : (a b : Bool) → IsTrue (a && b) → IsTrue b
and_second true b h = h
and_second false b h = absurd (cc)

terms_typed : (ts : PlainTerms) → IsTrue (typed_all ts) → AreTypedMeanings (map TermMeaning (list_of_terms ts))
terms_typed no_terms h = tt
terms_typed (one_term t ts) h = (and_first (typed t) (typed_all ts) h, terms_typed ts (and_second (typed t) (typed_all ts) h))

args_typed : (o : PlainOp) (ts : PlainTerms) (type : PlainType) → IsTrue (typed_all ts) → AreTypedMeanings (term_parts (Application o ts type))
args_typed AndOp ts type h = terms_typed ts h
args_typed (BitsOp o) ts type h = terms_typed ts h
args_typed BvnegOp ts type h = terms_typed ts h
args_typed BvnegoOp ts type h = terms_typed ts h
args_typed EqOp ts type h = terms_typed ts h
args_typed (ExtOp x) ts type h = terms_typed ts h
args_typed IteOp ts type h = terms_typed ts h
args_typed NotOp ts type h = terms_typed ts h
args_typed OptionGetOp ts type h = terms_typed ts h
args_typed OrOp ts type h = terms_typed ts h
args_typed (OverflowOp o) ts type h = terms_typed ts h
args_typed (RecordGetOp a) ts type h = terms_typed ts h
args_typed SetInterOp ts type h = terms_typed ts h
args_typed SetMemberOp ts type h = terms_typed ts h
args_typed SetSubsetOp ts type h = terms_typed ts h
args_typed (StringLikeOp p) ts type h = terms_typed ts h
args_typed (TestOp o) ts type h = terms_typed ts h
args_typed (UufOp f) ts type h = (refl, terms_typed ts h)
args_typed (ZeroExtendOp n) ts type h = terms_typed ts h

-- what is written as `false` is not typed
negation_written : (type : PlainType) → IsTrue (is_type (result_type BvnegoOp (type ∷ [])) BoolType) → {A : Type 0} (xs : List A) → written_parts (Rendered (least_rendering type)) xs ≡ xs
negation_written (OptionType u) h xs = absurd (cc)
negation_written (BitVecType w) h xs = refl
negation_written BoolType h xs = absurd (cc)
negation_written (EntityType e) h xs = absurd (cc)
negation_written (ExtensionType k) h xs = absurd (cc)
negation_written StringType h xs = absurd (cc)
negation_written (RecordType x) h xs = absurd (cc)
negation_written (SetType u) h xs = absurd (cc)

op_written : (o : PlainOp) (ts : PlainTerms) (type : PlainType) → IsTrue (typed (Application o ts type)) → {A : Type 0} (xs : List A) → (written_parts (op_rendering o ts type) xs ≡ xs) ⊎ (written_parts (op_rendering o ts type) xs ≡ second_last xs)
op_written AndOp ts type h xs = inl refl
op_written (BitsOp o) ts type h xs = inl refl
op_written BvnegOp ts type h xs = inl refl
op_written BvnegoOp no_terms type h xs = inl refl
op_written BvnegoOp (one_term t (one_term u ts)) type h xs = inl refl
op_written BvnegoOp (one_term t no_terms) (OptionType u) h xs = inl refl
op_written BvnegoOp (one_term t no_terms) (BitVecType w) h xs = inl refl
op_written BvnegoOp (one_term t no_terms) BoolType h xs = inl (negation_written (type_of t) (and_second (typed t && true) (is_type (result_type BvnegoOp (type_of t ∷ [])) BoolType) h) xs)
op_written BvnegoOp (one_term t no_terms) (EntityType e) h xs = inl refl
op_written BvnegoOp (one_term t no_terms) (ExtensionType k) h xs = inl refl
op_written BvnegoOp (one_term t no_terms) StringType h xs = inl refl
op_written BvnegoOp (one_term t no_terms) (RecordType x) h xs = inl refl
op_written BvnegoOp (one_term t no_terms) (SetType u) h xs = inl refl
op_written EqOp ts type h xs = inl refl
op_written (ExtOp x) ts type h xs = inl refl
op_written IteOp ts type h xs = inl refl
op_written NotOp ts type h xs = inl refl
op_written OptionGetOp ts type h xs = inl refl
op_written OrOp ts type h xs = inl refl
op_written (OverflowOp o) ts type h xs = inl refl
op_written (RecordGetOp a) ts type h xs = inl refl
op_written SetInterOp ts type h xs = inl refl
op_written SetMemberOp ts type h xs = inl refl
op_written SetSubsetOp ts type h xs = inl refl
op_written (StringLikeOp p) ts type h xs = inl refl
op_written (TestOp o) ts type h xs = inl refl
op_written (UufOp f) ts type h xs = inr refl
op_written (ZeroExtendOp n) ts type h xs = inl refl

types_typed : (x : AttributeTypes) → AreTypedMeanings (types_in x)
types_typed no_attributes = tt
types_typed (attribute a t x) = (refl, types_typed x)

fields_typed : (x : PlainFields) → IsTrue (typed_fields x) → AreTypedMeanings (field_terms x)
fields_typed no_fields h = tt
fields_typed (one_field a t x) h = (and_first (typed t) (typed_fields x) h, fields_typed x (and_second (typed t) (typed_fields x) h))

pub parts_typed : (m : Meaning) → IsTrue (is_typed m) → AreTypedMeanings (parts_in m)
parts_typed (TypeMeaning (OptionType t)) h = (refl, tt)
parts_typed (TypeMeaning (BitVecType w)) h = tt
parts_typed (TypeMeaning BoolType) h = tt
parts_typed (TypeMeaning (EntityType e)) h = tt
parts_typed (TypeMeaning (ExtensionType k)) h = tt
parts_typed (TypeMeaning StringType) h = tt
parts_typed (TypeMeaning (RecordType x)) h = types_typed x
parts_typed (TypeMeaning (SetType t)) h = (refl, tt)
parts_typed (FunctionMeaning f) h = (refl, (refl, tt))
parts_typed (TermMeaning (Application o ts t)) h = (refl, args_typed o ts t (and_first (typed_all ts) (is_type (result_type o (types_of ts)) t) h))
parts_typed (TermMeaning (NoneTerm t)) h = (refl, tt)
parts_typed (TermMeaning (LiteralTerm l)) h = (refl, tt)
parts_typed (TermMeaning (RecordTerm x)) h = (refl, fields_typed x h)
parts_typed (TermMeaning (SetTerm t ts)) h = (refl, terms_typed ts (and_first (typed_all ts) (are_elements t ts) h))
parts_typed (TermMeaning (SomeTerm t)) h = (refl, (h, tt))
parts_typed (TermMeaning (VariableTerm id t)) h = (refl, tt)

-- of a typed term all parts are written, as they stand or with the second behind the others
pub all_written : (m : Meaning) → IsTrue (is_typed m) → {A : Type 0} (xs : List A) → (written_parts (rendering_in m) xs ≡ xs) ⊎ (written_parts (rendering_in m) xs ≡ second_last xs)
all_written (TypeMeaning t) h xs = inl refl
all_written (FunctionMeaning f) h xs = inl refl
all_written (TermMeaning (Application o ts t)) h xs = op_written o ts t h xs
all_written (TermMeaning (NoneTerm t)) h xs = inl refl
all_written (TermMeaning (LiteralTerm l)) h xs = inl refl
all_written (TermMeaning (RecordTerm x)) h xs = inl refl
all_written (TermMeaning (SetTerm t ts)) h xs = inl refl
all_written (TermMeaning (SomeTerm t)) h xs = inl refl
all_written (TermMeaning (VariableTerm id t)) h xs = inl refl
