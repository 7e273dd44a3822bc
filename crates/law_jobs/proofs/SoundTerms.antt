-- The terms of jobs are typed and formed.
use Rattle.std.proofs.Common.{◌≡◌, ℕ, ◌+◌, ◌^◌, Bool, true, false, List, [], ◌∷◌, Option, Some, None, codes, bytes_eq, map, option_map, refl, sym, ap, ◌∙◌, subst, arith, ℤ}
use Rattle.std.specs.Prelude.{IfOk, IfSome, if◌then◌else◌, nat_le, nat_lt, decimal, encode_utf8_all}
use Rattle.std.specs.Bool.{then_some}
use Rattle.std.specs.Cmp.{first_so, second_so}
use Rattle.std.specs.List.{AllByRecursion, zip}
use Rattle.std.specs.Option.{option_and_then, option_or}
use Rattle.std.specs.Ordering.{is_eq}
use Rattle.std.specs.Str.{IsUtf8}
use Rattle.std.proofs.Math.Utf8.{scalars}
use Rattle.std.proofs.lemmas.Bool.{and_parts, leb-true, ltb-true}
use Rattle.law_numbers.specs.BitVectors.{bits_of}
use Rattle.law_numbers.specs.Widths.{are_bits, is_width}
use Rattle.law_numbers.proofs.BitRanges as ranges
use Rattle.smt_ext.specs.IpOrder.{plain_range}
use Rattle.smt_ext.specs.IpRanges.{Family, Version4, Version6, Range}
use Rattle.law_extensions.specs.DatetimeTexts.{datetime_in}
use Rattle.law_extensions.specs.DecimalTexts.{decimal_in}
use Rattle.law_extensions.specs.DurationTexts.{duration_in}
use Rattle.law_extensions.specs.RangeTexts.{range_in}
use Rattle.law_extensions.proofs.TextBounds.{IsInBits, datetime_fits, decimal_fits, duration_fits, range_fits}
use Rattle.law_terms.specs.Formed.{IsFormed, IsFormedExtension, IsFormedLiteral, IsFormedNode, IsFormedType, IsFormedHere}
use Rattle.law_terms.specs.Names.{extension_op_name}
use Rattle.law_terms.specs.Plain.{PlainType, OptionType, BitVecType, BoolType, RecordType, AttributeTypes, no_attributes, attribute, ExtensionOp, DatetimeOfBitVecOp, DatetimeValOp, DecimalValOp, DurationOfBitVecOp, DurationValOp, IpAddrV4Op, IpAddrV6Op, IpIsV4Op, IpPrefixV4Op, IpPrefixV6Op, PlainOp, AndOp, BvnegOp, BvnegoOp, EqOp, ExtOp, IteOp, NotOp, OptionGetOp, OrOp, RecordGetOp, SetInterOp, SetMemberOp, SetSubsetOp, StringLikeOp, UufOp, ZeroExtendOp, PlainExtension, DatetimeOf, DecimalOf, DurationOf, PlainLiteral, BitVecLiteral, BoolLiteral, EntityLiteral, ExtensionLiteral, StringLiteral, PlainTerm, Application, NoneTerm, LiteralTerm, SomeTerm, VariableTerm, terms, BitsOp, TestOp, OverflowOp, attribute_types, record_fields}
use Rattle.law_terms.specs.Reached.{subterms, subterms_of_all, subterms_of_fields, types_within, types_within_attributes}
use Rattle.law_terms.specs.TermSets.{set_term}
use Rattle.law_terms.specs.Types.{attribute_in, attribute_type, extended_type, extension_signature, field_types, inner_type, result_type, type_eq, type_of, types_of}
use Rattle.law_terms.specs.Typing.{typed, typed_all, typed_fields}
use Rattle.law_terms.specs.ValueOrder.{text_cmp}
use Rattle.law_terms.proofs.Defaults.{all-join}
use Rattle.law_terms.proofs.Listed.{listed}
use Rattle.law_terms.proofs.Sorted.{all-sorted}
use Rattle.law_terms.proofs.Soundness.{all-back, all-front, chosen}
use Rattle.law_terms.proofs.TypeOrder.{eq_same, type_itself}
use Rattle.law_folding.specs.Built.{built}
use Rattle.law_folding.specs.FoldRecords.{record_of_pairs, sorted_fields}
use Rattle.law_folding.proofs.SetLists.{IsElement, set_typed}
use Rattle.law_folding.proofs.SetsKept.{of_set}
use Rattle.law_folding.proofs.Standing.{last_type}
use Rattle.law_texts.specs.Lexicon.{Atom, Bits, Name, Number, Text}
use Rattle.law_texts.specs.Reading.{Expression, Leaf, Node, Expressions, Nil, Cons}
use Rattle.law_jobs.specs.Outcomes.{Outcome, FormFault, LiteralFault, TypingFault, UnknownFault, WidthFault}
use Rattle.law_texts.specs.Outcomes.{◌>>=◌, demanded}
use Rattle.law_texts.specs.Parts.{both, first_in, name_in, number_in, sole, sole_text, text_in}
use Rattle.law_jobs.specs.Types.{record_type, type_of_expression, width_in}
use Rattle.law_jobs.specs.Declarations.{Declared, declared}
use Rattle.law_jobs.specs.Terms.{TermForm, Whole, Operator, OperatorBehind, Present, Elements, Fields, applied, are_of_type, atom_term, bits_form, bits_literal, datetime_literal, decimal_literal, duration_literal, entity_form, extension_by, extension_form, extension_named, extension_operators, field_names, form_of, function_form, like_form, literal_form, long_in, long_literal, made, named_operators, new_names, none_form, operator_form, operator_named, other_named, other_terms, parts_of, pattern_in, range_literal, record_form, second_terms, selection_form, set_form, some_form, term_of, terms_of, truth_named, variable_form, whole_literal}
use Rattle.law_jobs.proofs.Outcomes.{bound, either, if_demanded, if_followed, if_some, onward, whichever}
use Rattle.law_jobs.proofs.SortedLists.{sorted_mapped}
use Rattle.law_jobs.proofs.FormedTypes.{AreDeclaredFormed, IsFormedFunction, bool_formed, declared_formed, found_among, record_formed, type_formed, width_formed, option_formed, set_formed}

-- typed and formed
pub record IsSound (t : PlainTerm) : Type 0 where
  pub is_typed : typed t ≡ true
  pub formed : IsFormed t

abbrev pub AreSound : List PlainTerm → Type 0
AreSound ts = AllByRecursion IsSound ts

-- a term without parts, which is built as it is written
pub record IsSoundLeaf (t : PlainTerm) : Type 0 where
  pub sound : IsSound t
  pub stays : built t ≡ t

-- ---- literals

literal_sound : (l : PlainLiteral) → IsFormedLiteral l → IsFormedType (type_of (LiteralTerm l)) → IsSoundLeaf (LiteralTerm l)
literal_sound l h g = record { sound = record { is_typed = refl; formed = record { literals = (h, tt); types = (g, tt) } }; stays = refl }

bits_sound : (w n : ℕ) → IfSome (bits_literal w n) IsSoundLeaf
bits_sound w n = if_some IsSoundLeaf (are_bits w n) (LiteralTerm (BitVecLiteral w n)) (λ e.
    let p = and_parts (is_width w) (nat_lt n (2 ^ w)) e in
    literal_sound (BitVecLiteral w n) (ltb-true n (2 ^ w) p.1) (width_formed w p.0))

truth_sound : (n : List ℕ) → IfSome (truth_named n) IsSoundLeaf
truth_sound n = go (bytes_eq n (codes "true")) (bytes_eq n (codes "false"))
  where
    go : (b c : Bool) → IfSome (if b then Some (LiteralTerm (BoolLiteral true)) else then_some c (LiteralTerm (BoolLiteral false))) IsSoundLeaf
    go true c = literal_sound (BoolLiteral true) tt bool_formed
    go false true = literal_sound (BoolLiteral false) tt bool_formed
    go false false = tt

-- what stands between quotes is UTF-8
pub text_utf8 : (e : Expression) → IfSome (text_in e) IsUtf8
text_utf8 (Leaf (Text points)) = if_some IsUtf8 (scalars points) (encode_utf8_all points) (λ h. (points, (h, refl)))
text_utf8 (Leaf (Name n)) = tt
text_utf8 (Leaf (Bits w n)) = tt
text_utf8 (Leaf (Number n)) = tt
text_utf8 (Node es) = tt

string_sound : (o : Option (List ℕ)) → IfSome o IsUtf8 → IfSome (option_map (λ s. LiteralTerm (StringLiteral s)) o) IsSoundLeaf
string_sound (Some s) h = literal_sound (StringLiteral s) h (tt, tt)
string_sound None h = tt

pub atom_sound : (a : Atom) → IfOk (atom_term a) IsSoundLeaf
atom_sound (Name n) = if_demanded IsSoundLeaf FormFault (truth_named n) (truth_sound n)
atom_sound (Text points) = if_demanded IsSoundLeaf FormFault (option_map (λ s. LiteralTerm (StringLiteral s)) (text_in (Leaf (Text points)))) (string_sound (text_in (Leaf (Text points))) (text_utf8 (Leaf (Text points))))
atom_sound (Bits w n) = if_demanded IsSoundLeaf FormFault (bits_literal w n) (bits_sound w n)
atom_sound (Number n) = tt

-- ---- operators

-- an operator whose results are formed at formed types
abbrev pub IsFormedOperator : PlainOp → Type 0
IsFormedOperator (UufOp f) = IsFormedFunction f
IsFormedOperator o = Unit {0}

all_formed_operators : (n : List ℕ) → IfSome (other_named n) IsFormedOperator
all_formed_operators n = found_among IsFormedOperator (bytes_eq n) named_operators (tt, (tt, (tt, (tt, (tt, (tt, (tt, (tt, (tt, (tt, (tt, (tt, (tt, (tt, (tt, (tt, (tt, (tt, (tt, (tt, (tt, (tt, (tt, (tt, (tt, (tt, (tt, (tt, tt))))))))))))))))))))))))))))

extension_formed_operators : (n : List ℕ) → IfSome (extension_named n) IsFormedOperator
extension_formed_operators n = found_among IsFormedOperator (bytes_eq n) (map (λ o. (extension_op_name o, ExtOp o)) extension_operators) (tt, (tt, (tt, (tt, (tt, (tt, (tt, (tt, (tt, (tt, tt))))))))))

or_one : {A : Type 0} (P : A → Type 0) (o p : Option A) → IfSome o P → IfSome p P → IfSome (option_or o p) P
or_one P (Some a) p h g = h
or_one P None p h g = g

operators_formed : (n : List ℕ) → IfSome (operator_named n) IsFormedOperator
operators_formed n = or_one IsFormedOperator (other_named n) (extension_named n) (all_formed_operators n) (extension_formed_operators n)

truth_given : (b : Bool) (t : PlainType) → then_some b BoolType ≡ Some t → IsFormedType t
truth_given b t h = subst (λ (x : PlainType). IsFormedType x) (chosen b BoolType t h).1 bool_formed

same_given : (b : Bool) (u t : PlainType) → IsFormedType u → then_some b u ≡ Some t → IsFormedType t
same_given b u t f h = subst (λ (x : PlainType). IsFormedType x) (chosen b u t h).1 f

wider_given : (k : ℕ) (u t : PlainType) → IsFormedType u → extended_type k u ≡ Some t → IsFormedType t
wider_given k (BitVecType n) t f h =
    let p = chosen (nat_le (n + k) 128) (BitVecType (n + k)) t h in
    let most = leb-true (n + k) 128 p.0 in
    subst (λ (x : PlainType). IsFormedType x) p.1 ((omega (arith, f.0.0), most), tt)
wider_given k u t f h = absurd (cc)

inner_given : (u t : PlainType) → IsFormedType u → inner_type u ≡ Some t → IsFormedType t
inner_given (OptionType v) t f h =
    let e : v ≡ t = cc in subst (λ (x : PlainType). IsFormedType x) e (all-front IsFormedHere (types_within v) (OptionType v ∷ []) f)
inner_given u t f h = absurd (cc)

found_given : (x : List ℕ) (rest : AttributeTypes) (t : PlainType) → AllByRecursion IsFormedHere (types_within_attributes rest) → attribute_in x rest ≡ Some t → IsFormedType t
found_given x no_attributes t f h = absurd (cc)
found_given x (attribute a u rest) t f h = go (bytes_eq x a) (found_given x rest t (all-back IsFormedHere (types_within u) (types_within_attributes rest) f)) h
  where
    go : (b : Bool) → (attribute_in x rest ≡ Some t → IsFormedType t) → elim b [ true ↦ Some u | false ↦ attribute_in x rest ] ≡ Some t → IsFormedType t
    go true others e = (let d : u ≡ t = cc in subst (λ (y : PlainType). IsFormedType y) d (all-front IsFormedHere (types_within u) (types_within_attributes rest) f))
    go false others e = others e

attribute_given : (x : List ℕ) (u t : PlainType) → IsFormedType u → attribute_type x u ≡ Some t → IsFormedType t
attribute_given x (RecordType rest) t f h = found_given x rest t (all-front IsFormedHere (types_within_attributes rest) (RecordType rest ∷ []) f) h
attribute_given x u t f h = absurd (cc)

extension_result : (o : ExtensionOp) → IsFormedType (extension_signature o).1
extension_result DatetimeOfBitVecOp = (tt, tt)
extension_result DatetimeValOp = ((omega arith, omega arith), tt)
extension_result DecimalValOp = ((omega arith, omega arith), tt)
extension_result DurationOfBitVecOp = (tt, tt)
extension_result DurationValOp = ((omega arith, omega arith), tt)
extension_result IpAddrV4Op = ((omega arith, omega arith), tt)
extension_result IpAddrV6Op = ((omega arith, omega arith), tt)
extension_result IpIsV4Op = (tt, tt)
extension_result IpPrefixV4Op = ((omega arith, omega arith), (tt, tt))
extension_result IpPrefixV6Op = ((omega arith, omega arith), (tt, tt))

-- the results of formed operators are formed
given_formed : (o : PlainOp) (us : List PlainType) (t : PlainType) → IsFormedOperator o → AllByRecursion IsFormedType us → result_type o us ≡ Some t → IsFormedType t
given_formed NotOp (u ∷ []) t a f h = truth_given _ t h
given_formed BvnegoOp (u ∷ []) t a f h = truth_given _ t h
given_formed BvnegOp (u ∷ []) t a f h = same_given _ u t f.0 h
given_formed (ZeroExtendOp k) (u ∷ []) t a f h = wider_given k u t f.0 h
given_formed (UufOp g) (u ∷ []) t a f h = same_given _ g.output t a.1 h
given_formed OptionGetOp (u ∷ []) t a f h = inner_given u t f.0 h
given_formed (RecordGetOp x) (u ∷ []) t a f h = attribute_given x u t f.0 h
given_formed (StringLikeOp p) (u ∷ []) t a f h = truth_given _ t h
given_formed (ExtOp o) (u ∷ []) t a f h = same_given _ (extension_signature o).1 t (extension_result o) h
given_formed AndOp (u ∷ w ∷ []) t a f h = truth_given _ t h
given_formed OrOp (u ∷ w ∷ []) t a f h = truth_given _ t h
given_formed EqOp (u ∷ w ∷ []) t a f h = truth_given _ t h
given_formed (BitsOp o) (u ∷ w ∷ []) t a f h = same_given _ u t f.0 h
given_formed (TestOp o) (u ∷ w ∷ []) t a f h = truth_given _ t h
given_formed (OverflowOp o) (u ∷ w ∷ []) t a f h = truth_given _ t h
given_formed SetMemberOp (u ∷ w ∷ []) t a f h = truth_given _ t h
given_formed SetSubsetOp (u ∷ w ∷ []) t a f h = truth_given _ t h
given_formed SetInterOp (u ∷ w ∷ []) t a f h = same_given _ u t f.0 h
given_formed IteOp (g ∷ u ∷ w ∷ []) t a f h = same_given _ u t f.1.0 h
given_formed o us t a f h = absurd (cc)

-- ---- applications

-- what holds of the subterms of each term holds of those of all
joined : (P : PlainTerm → Type 0) (ts : List PlainTerm) → AllByRecursion (λ t. AllByRecursion P (subterms t)) ts → AllByRecursion P (subterms_of_all (terms ts))
joined P [] h = tt
joined P (t ∷ ts) h = all-join P (subterms t) (subterms_of_all (terms ts)) h.0 (joined P ts h.1)

all_literals : (ts : List PlainTerm) → AreSound ts → AllByRecursion (λ t. AllByRecursion IsFormedNode (subterms t)) ts
all_literals [] h = tt
all_literals (t ∷ ts) h = (h.0.formed.literals, all_literals ts h.1)

all_types : (ts : List PlainTerm) → AreSound ts → AllByRecursion (λ t. AllByRecursion (λ u. IsFormedType (type_of u)) (subterms t)) ts
all_types [] h = tt
all_types (t ∷ ts) h = (h.0.formed.types, all_types ts h.1)

all_typed : (ts : List PlainTerm) → AreSound ts → typed_all (terms ts) ≡ true
all_typed [] h = refl
all_typed (t ∷ ts) h = rw h.0.is_typed (all_typed ts h.1)

own_types : (ts : List PlainTerm) → AreSound ts → AllByRecursion IsFormedType (map type_of ts)
own_types [] h = tt
own_types (t ∷ ts) h = (last_type t h.0.formed, own_types ts h.1)

-- an operator at sound terms that it takes
applied_sound : (o : PlainOp) (ts : List PlainTerm) → IsFormedOperator o → AreSound ts → IfSome (applied o ts) IsSound
applied_sound o ts a h = go (result_type o (map type_of ts)) refl
  where
    go : (r : Option PlainType) → result_type o (map type_of ts) ≡ r → IfSome (option_map (Application o (terms ts)) r) IsSound
    go (Some t) e = record {
      is_typed =
          let same : result_type o (types_of (terms ts)) ≡ Some t = ap (λ us. result_type o (map type_of us)) (listed ts) ∙ e in
          rw (all_typed ts h, same) (ap is_eq (type_itself t));
      formed = record {
        literals = all-join IsFormedNode (subterms_of_all (terms ts)) _ (joined IsFormedNode ts (all_literals ts h)) (tt, tt);
        types = all-join (λ u. IsFormedType (type_of u)) (subterms_of_all (terms ts)) _ (joined (λ u. IsFormedType (type_of u)) ts (all_types ts h)) (given_formed o (map type_of ts) t a (own_types ts h) e, tt);
      };
    }
    go None e = tt

-- ---- sets, records, options

elements : (ty : PlainType) (ts : List PlainTerm) → are_of_type ty ts ≡ true → AreSound ts → AllByRecursion (IsElement ty) ts
elements ty [] e h = tt
elements ty (t ∷ ts) e h =
    (record { parts = h.0.is_typed; type = sym (eq_same (type_of t) ty (first_so (type_eq (type_of t) ty) (are_of_type ty ts) e)) }, elements ty ts (second_so (type_eq (type_of t) ty) (are_of_type ty ts) e) h.1)

set_sound : (ty : PlainType) (ts : List PlainTerm) → IsFormedType ty → AreSound ts → IfSome (then_some (are_of_type ty ts) (set_term ty ts)) IsSound
set_sound ty ts f h = if_some IsSound (are_of_type ty ts) (set_term ty ts) (λ e. record {
  is_typed = set_typed ty ts (elements ty ts e h);
  formed = record {
    literals = of_set IsFormedNode ty ts tt (joined IsFormedNode ts (all_literals ts h));
    types = of_set (λ u. IsFormedType (type_of u)) ty ts (set_formed ty f) (joined (λ u. IsFormedType (type_of u)) ts (all_types ts h));
  };
})

present_sound : (t : PlainTerm) → IsSound t → IsSound (SomeTerm t)
present_sound t h = record {
  is_typed = h.is_typed;
  formed = record {
    literals = all-join IsFormedNode (subterms t) (SomeTerm t ∷ []) h.formed.literals (tt, tt);
    types = all-join (λ u. IsFormedType (type_of u)) (subterms t) (SomeTerm t ∷ []) h.formed.types (option_formed (type_of t) (last_type t h.formed), tt);
  };
}

none_sound : (ty : PlainType) → IsFormedType ty → IsSoundLeaf (NoneTerm ty)
none_sound ty f = record { sound = record { is_typed = refl; formed = record { literals = (tt, tt); types = (option_formed ty f, tt) } }; stays = refl }

variable_sound : (id : List ℕ) (ty : PlainType) → IsFormedType ty → IsSoundLeaf (VariableTerm id ty)
variable_sound id ty f = record { sound = record { is_typed = refl; formed = record { literals = (tt, tt); types = (f, tt) } }; stays = refl }

abbrev Field : Type 0
Field = List ℕ × PlainTerm

abbrev IsSoundField : Field → Type 0
IsSoundField p = IsSound p.1

fields_typed : (ps : List Field) → AllByRecursion IsSoundField ps → typed_fields (record_fields ps) ≡ true
fields_typed [] h = refl
fields_typed (p ∷ ps) h = rw h.0.is_typed (fields_typed ps h.1)

fields_have : (P : PlainTerm → Type 0) (ps : List Field) → AllByRecursion (λ p. AllByRecursion P (subterms p.1)) ps → AllByRecursion P (subterms_of_fields (record_fields ps))
fields_have P [] h = tt
fields_have P (p ∷ ps) h = all-join P (subterms p.1) (subterms_of_fields (record_fields ps)) h.0 (fields_have P ps h.1)

field_literals : (ps : List Field) → AllByRecursion IsSoundField ps → AllByRecursion (λ p. AllByRecursion IsFormedNode (subterms p.1)) ps
field_literals [] h = tt
field_literals (p ∷ ps) h = (h.0.formed.literals, field_literals ps h.1)

field_forms : (ps : List Field) → AllByRecursion IsSoundField ps → AllByRecursion (λ p. AllByRecursion (λ u. IsFormedType (type_of u)) (subterms p.1)) ps
field_forms [] h = tt
field_forms (p ∷ ps) h = (h.0.formed.types, field_forms ps h.1)

zipped : (names : List (List ℕ)) (ts : List PlainTerm) → AreSound ts → AllByRecursion IsSoundField (zip names ts)
zipped [] ts h = tt
zipped (n ∷ names) [] h = tt
zipped (n ∷ names) (t ∷ ts) h = (h.0, zipped names ts h.1)

-- the type of a record of fields is that of their types, each by its attribute
abbrev typed_pairs : List Field → List (List ℕ × PlainType)
typed_pairs ps = map (λ p. (p.0, type_of p.1)) ps

types_of_fields : (ps : List Field) → field_types (record_fields ps) ≡ attribute_types (typed_pairs ps)
types_of_fields [] = refl
types_of_fields (p ∷ ps) = ap (attribute p.0 (type_of p.1)) (types_of_fields ps)

pairs_formed : (ps : List Field) → AllByRecursion IsSoundField ps → AllByRecursion (λ q. IsFormedType q.1) (typed_pairs ps)
pairs_formed [] h = tt
pairs_formed (p ∷ ps) h = (last_type p.1 h.0.formed, pairs_formed ps h.1)

record_type_formed : (ps : List Field) → AllByRecursion IsSoundField ps → IsFormedType (type_of (record_of_pairs ps))
record_type_formed ps h =
    let e : record_type (typed_pairs ps) ≡ type_of (record_of_pairs ps) =
    ap (λ qs. RecordType (attribute_types qs)) (sorted_mapped (λ p q. text_cmp p.0 q.0) (λ p q. text_cmp p.0 q.0) (λ (p : Field). (p.0, type_of p.1)) (λ x y. refl) ps) ∙ ap RecordType (sym (types_of_fields (sorted_fields ps))) in
    subst (λ (t : PlainType). IsFormedType t) e (record_formed (typed_pairs ps) (pairs_formed ps h))

record_sound : (ps : List Field) → AllByRecursion IsSoundField ps → IsSound (record_of_pairs ps)
record_sound ps h =
    let sorted_sound : AllByRecursion IsSoundField (sorted_fields ps) = all-sorted (λ p q. text_cmp p.0 q.0) IsSoundField ps h in
    record {
      is_typed = fields_typed (sorted_fields ps) sorted_sound;
      formed = record {
        literals = all-join IsFormedNode (subterms_of_fields (record_fields (sorted_fields ps))) (record_of_pairs ps ∷ []) (fields_have IsFormedNode (sorted_fields ps) (field_literals (sorted_fields ps) sorted_sound)) (tt, tt);
        types = all-join (λ u. IsFormedType (type_of u)) (subterms_of_fields (record_fields (sorted_fields ps))) (record_of_pairs ps ∷ []) (fields_have (λ u. IsFormedType (type_of u)) (sorted_fields ps) (field_forms (sorted_fields ps) sorted_sound)) (record_type_formed ps h, tt);
      };
    }

-- ---- forms

-- what a form is made of is formed
abbrev pub IsSoundForm : TermForm → Type 0
IsSoundForm (Whole t) = IsSoundLeaf t
IsSoundForm (Operator o) = IsFormedOperator o
IsSoundForm (OperatorBehind o) = IsFormedOperator o
IsSoundForm Present = Unit {0}
IsSoundForm (Elements t) = IsFormedType t
IsSoundForm (Fields names) = Unit {0}

whole_sound : (o : Option PlainTerm) → IfSome o IsSoundLeaf → IfSome (option_map Whole o) IsSoundForm
whole_sound (Some t) h = h
whole_sound None h = tt

literal_form_sound : (read : List ℕ → Option PlainLiteral) → ((s : List ℕ) → IfSome (read s) (λ l. IsSoundLeaf (LiteralTerm l))) → (es : Expressions) → IfOk (literal_form read es) IsSoundForm
literal_form_sound read h es =
    bound IsSoundForm (demanded FormFault (sole_text es)) _ (whichever _ (demanded FormFault (sole_text es)) (λ text. if_demanded IsSoundForm (LiteralFault text) (option_map whole_literal (read text)) (go (read text) (h text))))
  where
    go : (o : Option PlainLiteral) → IfSome o (λ l. IsSoundLeaf (LiteralTerm l)) → IfSome (option_map whole_literal o) IsSoundForm
    go (Some l) g = g
    go None g = tt

long_sound : (s : List ℕ) → IfSome (long_literal s) (λ l. IsSoundLeaf (LiteralTerm l))
long_sound s = go (long_in s)
  where
    go : (o : Option ℤ) → IfSome (option_map (λ z. BitVecLiteral 64 (bits_of 64 z)) o) (λ l. IsSoundLeaf (LiteralTerm l))
    go (Some z) = literal_sound (BitVecLiteral 64 (bits_of 64 z)) (ranges.bits_of-below 64 z) ((omega arith, omega arith), tt)
    go None = tt

-- a value of an extension type that a text is read to
extension_sound : {A : Type 0} (view : A → PlainExtension) (o : Option A) → ((a : A) → o ≡ Some a → IsFormedExtension (view a)) → IfSome (option_map (λ a. ExtensionLiteral (view a)) o) (λ l. IsSoundLeaf (LiteralTerm l))
extension_sound view (Some a) h = literal_sound (ExtensionLiteral (view a)) (h a refl) (tt, tt)
extension_sound view None h = tt

decimal_sound : (s : List ℕ) → IfSome (decimal_literal s) (λ l. IsSoundLeaf (LiteralTerm l))
decimal_sound s = extension_sound DecimalOf (decimal_in s) (decimal_fits s)

formed_range : (f : Family) (a : ℕ) (p : Option ℕ) → let r : Range = record { family = f; address = a; prefix = p } in IsInBits r → IsFormedExtension (plain_range r)
formed_range Version4 a p h = (h.address, h.prefix)
formed_range Version6 a p h = (h.address, h.prefix)

range_sound : (s : List ℕ) → IfSome (range_literal s) (λ l. IsSoundLeaf (LiteralTerm l))
range_sound s = extension_sound plain_range (range_in s) (λ r e. formed_range r.family r.address r.prefix (range_fits s r e))

datetime_sound : (s : List ℕ) → IfSome (datetime_literal s) (λ l. IsSoundLeaf (LiteralTerm l))
datetime_sound s = extension_sound DatetimeOf (datetime_in s) (datetime_fits s)

duration_sound : (s : List ℕ) → IfSome (duration_literal s) (λ l. IsSoundLeaf (LiteralTerm l))
duration_sound s = extension_sound DurationOf (duration_in s) (duration_fits s)

module _ (ds : Declared) (formed : AreDeclaredFormed ds) where
  variable_form_sound : (es : Expressions) → IfOk (variable_form ds es) IsSoundForm
  variable_form_sound es =
      bound IsSoundForm (demanded FormFault (sole_text es)) _ (whichever _ (demanded FormFault (sole_text es)) (λ id.
      bound IsSoundForm (demanded (UnknownFault id) (declared ds.variables id)) _ (onward (demanded (UnknownFault id) (declared ds.variables id)) (if_demanded IsFormedType (UnknownFault id) (declared ds.variables id) (declared_formed IsFormedType ds.variables id formed.variables)) (λ t f. variable_sound id t f))))

  function_form_sound : (es : Expressions) → IfOk (function_form ds es) IsSoundForm
  function_form_sound es =
      bound IsSoundForm (demanded FormFault (both es)) _ (whichever _ (demanded FormFault (both es)) (λ p.
      bound IsSoundForm (demanded FormFault (text_in p.0)) _ (whichever _ (demanded FormFault (text_in p.0)) (λ id.
      bound IsSoundForm (demanded (UnknownFault id) (declared ds.functions id)) _ (onward (demanded (UnknownFault id) (declared ds.functions id)) (if_demanded IsFormedFunction (UnknownFault id) (declared ds.functions id) (declared_formed IsFormedFunction ds.functions id formed.functions)) (λ f g. g))))))

bits_form_sound : (es : Expressions) → IfOk (bits_form es) IsSoundForm
bits_form_sound es =
    bound IsSoundForm (demanded FormFault (both es)) _ (whichever _ (demanded FormFault (both es)) (λ p.
    bound IsSoundForm (demanded FormFault (number_in p.1)) _ (whichever _ (demanded FormFault (number_in p.1)) (λ n.
    bound IsSoundForm (demanded WidthFault (width_in p.0)) _ (whichever _ (demanded WidthFault (width_in p.0)) (λ w. if_demanded IsSoundForm (LiteralFault (decimal n)) (option_map Whole (bits_literal w n)) (whole_sound (bits_literal w n) (bits_sound w n))))))))

entity_form_sound : (es : Expressions) → IfOk (entity_form es) IsSoundForm
entity_form_sound es =
    bound IsSoundForm (demanded FormFault (both es)) _ (whichever _ (demanded FormFault (both es)) (λ p.
    bound IsSoundForm (demanded FormFault (text_in p.0)) _ (whichever _ (demanded FormFault (text_in p.0)) (λ type.
    bound IsSoundForm (demanded FormFault (text_in p.1)) _ (onward (demanded FormFault (text_in p.1)) (if_demanded IsUtf8 FormFault (text_in p.1) (text_utf8 p.1)) (λ id h. literal_sound (EntityLiteral type id) h (tt, tt)))))))

none_form_sound : (es : Expressions) → IfOk (none_form es) IsSoundForm
none_form_sound es =
    bound IsSoundForm (demanded FormFault (sole es) >>= type_of_expression) _ (onward (demanded FormFault (sole es) >>= type_of_expression)
    (bound IsFormedType (demanded FormFault (sole es)) type_of_expression (whichever _ (demanded FormFault (sole es)) type_formed)) none_sound)

some_form_sound : (es : Expressions) → IfOk (some_form es) IsSoundForm
some_form_sound es = bound IsSoundForm (demanded FormFault (sole es)) _ (whichever _ (demanded FormFault (sole es)) (λ e. tt))

set_form_sound : (es : Expressions) → IfOk (set_form es) IsSoundForm
set_form_sound es =
    bound IsSoundForm (demanded FormFault (first_in es) >>= type_of_expression) _ (onward (demanded FormFault (first_in es) >>= type_of_expression)
    (bound IsFormedType (demanded FormFault (first_in es)) type_of_expression (whichever _ (demanded FormFault (first_in es)) type_formed)) (λ t f. f))

record_form_sound : (es : Expressions) → IfOk (record_form es) IsSoundForm
record_form_sound es = bound IsSoundForm (field_names es >>= new_names []) _ (whichever _ (field_names es >>= new_names []) (λ names. tt))

by_extension : (o : Option ℕ) → IfSome (option_and_then extension_by o) IsFormedOperator
by_extension (Some k) = if_some IsFormedOperator (nat_le k 127) (ZeroExtendOp k) (λ h. tt)
by_extension None = tt

extension_form_sound : (es : Expressions) → IfOk (extension_form es) IsSoundForm
extension_form_sound es =
    bound IsSoundForm (demanded FormFault (both es)) _ (whichever _ (demanded FormFault (both es)) (λ p.
    bound IsSoundForm (demanded WidthFault (option_and_then extension_by (number_in p.0))) _ (onward (demanded WidthFault (option_and_then extension_by (number_in p.0))) (if_demanded IsFormedOperator WidthFault (option_and_then extension_by (number_in p.0)) (by_extension (number_in p.0))) (λ o h. h))))

selection_form_sound : (es : Expressions) → IfOk (selection_form es) IsSoundForm
selection_form_sound es =
    bound IsSoundForm (demanded FormFault (both es)) _ (whichever _ (demanded FormFault (both es)) (λ p.
    bound IsSoundForm (demanded FormFault (text_in p.0)) _ (whichever _ (demanded FormFault (text_in p.0)) (λ a. tt))))

like_form_sound : (es : Expressions) → IfOk (like_form es) IsSoundForm
like_form_sound es =
    bound IsSoundForm (demanded FormFault (both es)) _ (whichever _ (demanded FormFault (both es)) (λ p.
    bound IsSoundForm (demanded FormFault (pattern_in p.0)) _ (whichever _ (demanded FormFault (pattern_in p.0)) (λ parts. tt))))

operator_form_sound : (n : List ℕ) → IfOk (operator_form n) IsSoundForm
operator_form_sound n =
    bound IsSoundForm (demanded (UnknownFault n) (operator_named n)) _ (onward (demanded (UnknownFault n) (operator_named n)) (if_demanded IsFormedOperator (UnknownFault n) (operator_named n) (operators_formed n)) (λ o h. h))

pub form_sound : (ds : Declared) → AreDeclaredFormed ds → (n : List ℕ) (es : Expressions) → IfOk (form_of ds n es) IsSoundForm
form_sound ds formed n es =
    either IsSoundForm (bytes_eq n (codes "var")) _ _ (variable_form_sound ds formed es)
    (either IsSoundForm (bytes_eq n (codes "bv")) _ _ (bits_form_sound es)
    (either IsSoundForm (bytes_eq n (codes "long")) _ _ (literal_form_sound long_literal long_sound es)
    (either IsSoundForm (bytes_eq n (codes "entity")) _ _ (entity_form_sound es)
    (either IsSoundForm (bytes_eq n (codes "decimal")) _ _ (literal_form_sound decimal_literal decimal_sound es)
    (either IsSoundForm (bytes_eq n (codes "ip")) _ _ (literal_form_sound range_literal range_sound es)
    (either IsSoundForm (bytes_eq n (codes "datetime")) _ _ (literal_form_sound datetime_literal datetime_sound es)
    (either IsSoundForm (bytes_eq n (codes "duration")) _ _ (literal_form_sound duration_literal duration_sound es)
    (either IsSoundForm (bytes_eq n (codes "none")) _ _ (none_form_sound es)
    (either IsSoundForm (bytes_eq n (codes "some")) _ _ (some_form_sound es)
    (either IsSoundForm (bytes_eq n (codes "set")) _ _ (set_form_sound es)
    (either IsSoundForm (bytes_eq n (codes "record")) _ _ (record_form_sound es)
    (either IsSoundForm (bytes_eq n (codes "zero_extend")) _ _ (extension_form_sound es)
    (either IsSoundForm (bytes_eq n (codes "record.get")) _ _ (selection_form_sound es)
    (either IsSoundForm (bytes_eq n (codes "string.like")) _ _ (like_form_sound es)
    (either IsSoundForm (bytes_eq n (codes "uuf")) _ _ (function_form_sound ds formed es) (operator_form_sound n))))))))))))))))

-- what a form is of sound parts
pub made_sound : (form : TermForm) → IsSoundForm form → (us : List PlainTerm) → AreSound us → IfOk (made form us) IsSound
made_sound (Whole t) h us g = h.sound
made_sound (Operator o) h us g = if_demanded IsSound TypingFault (applied o us) (applied_sound o us h g)
made_sound (OperatorBehind o) h us g = if_demanded IsSound TypingFault (applied o us) (applied_sound o us h g)
made_sound Present h (u ∷ us) g = present_sound u g.0
made_sound Present h [] g = tt
made_sound (Elements t) h us g = if_demanded IsSound TypingFault (then_some (are_of_type t us) (set_term t us)) (set_sound t us h g)
made_sound (Fields names) h us g = record_sound (zip names us) (zipped names us g)

pub parts_sound : (form : TermForm) (all others seconds : Outcome (List PlainTerm)) → IfOk all AreSound → IfOk others AreSound → IfOk seconds AreSound → IfOk (parts_of form all others seconds) AreSound
parts_sound (Whole t) all others seconds h g f = tt
parts_sound (Operator o) all others seconds h g f = h
parts_sound (OperatorBehind o) all others seconds h g f = g
parts_sound Present all others seconds h g f = h
parts_sound (Elements t) all others seconds h g f = g
parts_sound (Fields names) all others seconds h g f = f

-- ---- terms

module _ (ds : Declared) (formed : AreDeclaredFormed ds) where
  mutual
    pub term_sound : (e : Expression) → IfOk (term_of ds e) IsSound
    term_sound (Leaf a) = onward (atom_term a) (atom_sound a) (λ t h. h.sound)
    term_sound (Node Nil) = tt
    term_sound (Node (Cons head es)) =
        bound IsSound (demanded FormFault (name_in head)) _ (whichever _ (demanded FormFault (name_in head)) (λ n.
        bound IsSound (form_of ds n es) _ (onward (form_of ds n es) (form_sound ds formed n es) (λ form h.
        bound IsSound (parts_of form (terms_of ds es) (other_terms ds es) (second_terms ds es)) _ (onward (parts_of form (terms_of ds es) (other_terms ds es) (second_terms ds es))
        (parts_sound form (terms_of ds es) (other_terms ds es) (second_terms ds es) (terms_sound es) (others_sound es) (seconds_sound es)) (λ us g. made_sound form h us g))))))

    pub terms_sound : (es : Expressions) → IfOk (terms_of ds es) AreSound
    terms_sound Nil = tt
    terms_sound (Cons e es) =
        bound AreSound (term_of ds e) _ (onward (term_of ds e) (term_sound e) (λ t h. if_followed AreSound t (terms_of ds es) (onward (terms_of ds es) (terms_sound es) (λ ts g. (h, g)))))

    pub others_sound : (es : Expressions) → IfOk (other_terms ds es) AreSound
    others_sound Nil = tt
    others_sound (Cons e es) = terms_sound es

    pub seconds_sound : (es : Expressions) → IfOk (second_terms ds es) AreSound
    seconds_sound Nil = tt
    seconds_sound (Cons (Node (Cons name (Cons e Nil))) es) =
        bound AreSound (term_of ds e) _ (onward (term_of ds e) (term_sound e) (λ t h. if_followed AreSound t (second_terms ds es) (onward (second_terms ds es) (seconds_sound es) (λ ts g. (h, g)))))
    seconds_sound (Cons e es) = tt
