-- Blasted terms have the bits of what they stand for.
use Rattle.std.proofs.Common.{◌≡◌, ℕ, Bool, true, false, cond, List, [], ◌∷◌, ◌++◌, length, map, refl, sym, ap, ◌∙◌, subst, mod-eq_of_lt}
use Rattle.std.specs.Prelude.{Option, Some, None, IfSome, IsTrue}
use Rattle.std.specs.Option.{option_or}
use Rattle.std.specs.Cmp.{first_so, second_so}
use Rattle.std.specs.List.{AllByRecursion, filter_map}
use Rattle.law_blasting.specs.Circuits.{truth_gates, number_bits}
use Rattle.law_blasting.specs.Passing.{Related, none, one}
use Rattle.law_blasting.proofs.Passing.{same_length}
use Rattle.law_blasting.proofs.Bits.{numbers_have_bits, bits_have_numbers}
use Rattle.law_terms.specs.Formed.{IsFormed, IsFormedType, IsFormedLiteral, IsFormedNode}
use Rattle.law_terms.specs.Interpretations.{IsGiven, IsInterpretation}
use Rattle.law_terms.specs.Meaning.{literal_value, meaning, term_value}
use Rattle.law_terms.specs.Operators.{truth}
use Rattle.law_terms.specs.Reached.{subterms, subterms_of_all, reached_variable}
use Rattle.law_terms.specs.Tables.{Interpretation}
use Rattle.law_terms.specs.Types.{literal_type, type_of, types_of, result_type, is_type}
use Rattle.law_terms.specs.Typing.{AreBoolean, typed, typed_all}
use Rattle.law_terms.specs.TypeValues.{Enums, IsValue}
use Rattle.law_terms.specs.Values.{Value, BoolValue, BitVecValue}
use Rattle.law_terms.specs.Plain.{PlainType, BitVecType, BoolType, PlainOp, PlainLiteral, BitVecLiteral, BoolLiteral, EntityLiteral, ExtensionLiteral, StringLiteral, PlainTerm, Application, NoneTerm, LiteralTerm, RecordTerm, SetTerm, SomeTerm, VariableTerm, PlainTerms, no_terms, one_term}
use Rattle.law_terms.proofs.Soundness.{all-front, all-back, is_type-some}
use Rattle.law_blasting.specs.Blasted.{Variables, is_among, AreNumbered, number_from, bits, bits_in, blasted, blasted_all, value_bits}
use Rattle.law_blasting.specs.Laws.{IsBit, BlastKeepsValues, RootsKeepValues}
use Rattle.law_blasting.specs.OperatorCircuits.{term_gates, operator_circuit, the_bit}
use Rattle.law_blasting.specs.Refusals.{Refusal, UnsupportedOperator, type_refusal, operator_refusal, term_refusal, terms_refusal, first_refusal, is_supported}
use Rattle.law_blasting.proofs.Gates.{operator_circuits_pass}
use Rattle.law_blasting.proofs.HasBits.{HasBits, OfTruth, OfNumber, HaveBits, of_bits, operators_have_bits}
use Rattle.law_blasting.proofs.HasBits as has
use Rattle.law_blasting.proofs.Lookups.{at, bits_found, bits_length}

-- ---- refusals

pub none_first : (f g : Option Refusal) → option_or f g ≡ None → f ≡ None
none_first None g h = refl
none_first (Some f) g h = cc

pub none_second : (f g : Option Refusal) → option_or f g ≡ None → g ≡ None
none_second None g h = h
none_second (Some f) g h = cc

pub supported : (o : PlainOp) (b : Bool) → ◌≡◌ {A = Option Refusal} (elim b [ true ↦ None | false ↦ Some (UnsupportedOperator o) ]) None → b ≡ true
supported o true h = refl
supported o false h = cc

-- ---- values of a type have bits

value_has : (enums : Enums) (t : PlainType) (v : Value) → type_refusal t ≡ None → IsFormedType t → IsValue enums t v → HasBits t (value_bits t v) v
value_has enums BoolType (BoolValue b) r f h = OfTruth b
value_has enums (BitVecType n) (BitVecValue m a) r f h =
    subst (λ k. HasBits (BitVecType n) (number_bits n a) (BitVecValue k a)) (sym h.0) (of_bits n a (number_bits n a) f.0.0 (bits_length n a) (numbers_have_bits n a ∙ mod-eq_of_lt h.1))
value_has enums BoolType v r f h = elim h [ ]
value_has enums (BitVecType n) v r f h = elim h [ ]
value_has enums t v r f h = cc

pub bits_are : (t : PlainType) (bs : List Bool) (v : Value) → HasBits t bs v → bs ≡ value_bits t v
bits_are t bs v (OfTruth b) = refl
bits_are t bs v (OfNumber b cs) = sym (bits_have_numbers (b ∷ cs))

literal_has : (l : PlainLiteral) → type_refusal (literal_type l) ≡ None → IsFormedLiteral l → IsFormedType (literal_type l) → HasBits (literal_type l) (value_bits (literal_type l) (literal_value l)) (literal_value l)
literal_has (BitVecLiteral n a) r f g = value_has [] (BitVecType n) (BitVecValue n a) r g (refl, f)
literal_has (BoolLiteral b) r f g = OfTruth b
literal_has (EntityLiteral e i) r f g = cc
literal_has (ExtensionLiteral x) r f g = cc
literal_has (StringLiteral s) r f g = cc

-- ---- terms

literals_related : (J : Interpretation) (bs : List Bool) → Related (IsBit J) (map (λ b. LiteralTerm (BoolLiteral b)) bs) bs
literals_related J [] = none
literals_related J (b ∷ bs) = one (record { typed = record { parts = refl; type = refl }; value = refl }) (literals_related J bs)

module _ (enums : Enums) (vs : Variables) (I : Interpretation) where
  -- what is known of a term and all its subterms
  record Known (ts : List PlainTerm) : Type 0 where
    pub literals : AllByRecursion IsFormedNode ts
    pub types : AllByRecursion (λ u. IsFormedType (type_of u)) ts
    pub numbered : AllByRecursion (λ u. IfSome (reached_variable u) (λ v. IsTrue (is_among vs v))) ts
    pub given : AllByRecursion (IsGiven enums I) ts

  record Blasts (t : PlainTerm) : Type 0 where
    pub truths : List Bool
    pub related : Related (IsBit (bits vs I)) (blasted vs t) truths
    pub has : HasBits (type_of t) truths (meaning I t)

  record AllBlast (ts : PlainTerms) : Type 0 where
    pub truths : List (List Bool)
    pub related : Related (Related (IsBit (bits vs I))) (blasted_all vs ts) truths
    pub have : HaveBits I ts truths

  known_front : (xs ys : List PlainTerm) → Known (xs ++ ys) → Known xs
  known_front xs ys k = record { literals = all-front IsFormedNode xs ys k.literals; types = all-front (λ u. IsFormedType (type_of u)) xs ys k.types; numbered = all-front (λ u. IfSome (reached_variable u) (λ v. IsTrue (is_among vs v))) xs ys k.numbered; given = all-front (IsGiven enums I) xs ys k.given }

  known_back : (xs ys : List PlainTerm) → Known (xs ++ ys) → Known ys
  known_back xs ys k = record { literals = all-back IsFormedNode xs ys k.literals; types = all-back (λ u. IsFormedType (type_of u)) xs ys k.types; numbered = all-back (λ u. IfSome (reached_variable u) (λ v. IsTrue (is_among vs v))) xs ys k.numbered; given = all-back (IsGiven enums I) xs ys k.given }

  mutual
    term_blasts : (t : PlainTerm) → typed t ≡ true → term_refusal t ≡ None → Known (subterms t) → Blasts t
    term_blasts (Application o ts t) h r k =
        let parts = all_blast ts (first_so (typed_all ts) (is_type (result_type o (types_of ts)) t) h) (none_first (terms_refusal ts) (operator_refusal o) (none_second (type_refusal t) (option_or (terms_refusal ts) (operator_refusal o)) r)) (known_front (subterms_of_all ts) (Application o ts t ∷ []) k) in
        let e : result_type o (types_of ts) ≡ Some t = is_type-some (result_type o (types_of ts)) t (second_so (typed_all ts) (is_type (result_type o (types_of ts)) t) h) in
        let s : is_supported o ≡ true = supported o (is_supported o) (none_second (terms_refusal ts) (operator_refusal o) (none_second (type_refusal t) (option_or (terms_refusal ts) (operator_refusal o)) r)) in
        record { truths = operator_circuit truth_gates o parts.truths; related = operator_circuits_pass (bits vs I) o (blasted_all vs ts) parts.truths parts.related; has = operators_have_bits I o ts parts.truths t e s parts.have }
    term_blasts (LiteralTerm l) h r k = record { truths = value_bits (literal_type l) (literal_value l); related = literals_related (bits vs I) (value_bits (literal_type l) (literal_value l)); has = literal_has l r k.literals.0 k.types.0 }
    term_blasts (VariableTerm id t) h r k =
        record { truths = value_bits t (I.variable id t); related = bits_found vs I (number_from 0 vs (id, t)) id t r (at (id, t) 0 vs k.numbered.0); has = value_has enums t (I.variable id t) r k.types.0 k.given.0 }
    term_blasts (NoneTerm t) h r k = cc
    term_blasts (RecordTerm fs) h r k = cc
    term_blasts (SetTerm t ts) h r k = cc
    term_blasts (SomeTerm t) h r k = cc

    all_blast : (ts : PlainTerms) → typed_all ts ≡ true → terms_refusal ts ≡ None → Known (subterms_of_all ts) → AllBlast ts
    all_blast no_terms h r k = record { truths = []; related = none; have = has.none }
    all_blast (one_term t ts) h r k =
        let x = term_blasts t (first_so (typed t) (typed_all ts) h) (none_first (term_refusal t) (terms_refusal ts) r) (known_front (subterms t) (subterms_of_all ts) k) in
        let xs = all_blast ts (second_so (typed t) (typed_all ts) h) (none_second (term_refusal t) (terms_refusal ts) r) (known_back (subterms t) (subterms_of_all ts) k) in
        record { truths = x.truths ∷ xs.truths; related = one x.related xs.related; have = has.one x.has xs.have }

-- ---- what follows

bits_typed : (J : Interpretation) (us : List PlainTerm) (bs : List Bool) → Related (IsBit J) us bs → AreBoolean us
bits_typed J us bs none = tt
bits_typed J us bs (one {xs = ws} {ys = cs} r h) = (r.typed, bits_typed J ws cs h)

pub typed_value : (J : Interpretation) (t : PlainTerm) → typed t ≡ true → term_value J t ≡ meaning J t
typed_value J t e = ap (λ b. cond b (meaning J t) (BoolValue false)) e

bits_valued : (J : Interpretation) (us : List PlainTerm) (bs : List Bool) → Related (IsBit J) us bs → map (term_value J) us ≡ map BoolValue bs
bits_valued J us bs none = refl
bits_valued J us bs (one {x = u} {y = b} {xs = ws} {ys = cs} r h) =
    ap (λ v. v ∷ map (term_value J) ws) (typed_value J u r.typed.parts ∙ r.value) ∙ ap (λ ws. BoolValue b ∷ ws) (bits_valued J ws cs h)

pub reached : (P : (List ℕ × PlainType) → Type 0) (ts : List PlainTerm) → AllByRecursion P (filter_map reached_variable ts) → AllByRecursion (λ u. IfSome (reached_variable u) P) ts
reached P [] h = tt
reached P (VariableTerm id t ∷ ts) h = (h.0, reached P ts h.1)
reached P (Application o us t ∷ ts) h = (tt, reached P ts h)
reached P (NoneTerm t ∷ ts) h = (tt, reached P ts h)
reached P (LiteralTerm l ∷ ts) h = (tt, reached P ts h)
reached P (RecordTerm fs ∷ ts) h = (tt, reached P ts h)
reached P (SetTerm t us ∷ ts) h = (tt, reached P ts h)
reached P (SomeTerm t ∷ ts) h = (tt, reached P ts h)

blasts : (enums : Enums) (vs : Variables) (I : Interpretation) (t : PlainTerm) → IsTrue (typed t) → IsFormed t → term_refusal t ≡ None → AreNumbered vs t → IsInterpretation enums (t ∷ []) I → Blasts enums vs I t
blasts enums vs I t h f r n g =
    let numbered = all-front (λ u. IfSome (reached_variable u) (λ v. IsTrue (is_among vs v))) (subterms t) [] (reached (λ v. IsTrue (is_among vs v)) (subterms t ++ []) n) in
    term_blasts enums vs I t h r (record { literals = f.literals; types = f.types; numbered = numbered; given = all-front (IsGiven enums I) (subterms t) [] g })

pub blast_keeps_values : BlastKeepsValues
blast_keeps_values enums vs I t h f r n g =
    let x = blasts enums vs I t h f r n g in
    bits_valued (bits vs I) (blasted vs t) x.truths x.related ∙ ap (map BoolValue) (bits_are (type_of t) x.truths (meaning I t) x.has ∙ ap (value_bits (type_of t)) (sym (typed_value I t h)))

how_many : (t : PlainType) (bs : List Bool) (v : Value) → HasBits t bs v → length bs ≡ bits_in t
how_many t bs v (OfTruth b) = refl
how_many t bs v (OfNumber b cs) = refl

-- in whichever interpretation
pub typed_in : (enums : Enums) (vs : Variables) (I : Interpretation) (t : PlainTerm) → IsTrue (typed t) → IsFormed t → term_refusal t ≡ None → AreNumbered vs t → IsInterpretation enums (t ∷ []) I → AreBoolean (blasted vs t) × (length (blasted vs t) ≡ bits_in (type_of t))
typed_in enums vs I t h f r n g =
    let x = blasts enums vs I t h f r n g in
    (bits_typed (bits vs I) (blasted vs t) x.truths x.related, same_length x.related ∙ how_many (type_of t) x.truths (meaning I t) x.has)

root_is : (J : Interpretation) (ty : PlainType) (us : List PlainTerm) (bs : List Bool) (v : Value) → ty ≡ BoolType → HasBits ty bs v → Related (IsBit J) us bs → (us ≡ the_bit term_gates us ∷ []) × IsBit J (the_bit term_gates us) (truth v) × (v ≡ BoolValue (truth v))
root_is J ty us bs v e (OfTruth b) (one r none) = (refl, r, refl)
root_is J ty us bs v e (OfNumber b cs) q = cc

pub all_taken : (ts : List PlainTerm) → first_refusal ts ≡ None → AllByRecursion (λ t. term_refusal t ≡ None) ts
all_taken [] h = tt
all_taken (t ∷ ts) h = (none_first (term_refusal t) (first_refusal ts) h, all_taken ts (none_second (term_refusal t) (first_refusal ts) h))

pub roots_keep_values : RootsKeepValues
roots_keep_values enums vs I t h f r n g =
    let x = blasts enums vs I t h.parts f r n g in
    let y = root_is (bits vs I) (type_of t) (blasted vs t) x.truths (meaning I t) h.type x.has x.related in
    record { alone = y.0; typed = y.1.typed; value = typed_value (bits vs I) (the_bit term_gates (blasted vs t)) y.1.typed.parts ∙ y.1.value ∙ sym y.2 ∙ sym (typed_value I t h.parts) }
