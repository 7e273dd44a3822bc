-- What stands for an application tells what the application does, and typed terms without fault have values of their types.
use Rattle.std.proofs.Common.{◌≡◌, [], ◌∷◌, None, refl, ◌∙◌, subst, sym}
use Rattle.std.specs.Prelude.{ℤ}
use Rattle.law_extensions.specs.Answers.{AnswersHaveValues, ArgumentsHaveValues, IsArgument, milliseconds_of_value, range_of_value}
use Rattle.law_extensions.specs.Values.{HasDatetime, HasDuration, HasRange, HasValue, IsSomeIn, Tells}
use Rattle.law_extensions.proofs.Alike.{Alike}
use Rattle.law_extensions.proofs.OfValues.{containment_has_values, date_at_value, in_range_at_values, loopback_at_values, multicast_at_values, offset_at_values, since_at_values, time_at_value, times_have_values}
use Rattle.law_folding.specs.Refinement.{Refines}
use Rattle.law_folding.proofs.Standing.{valued}
use Rattle.law_terms.specs.Faults.{term_fault}
use Rattle.law_terms.specs.Interpretations.{IsGiven, IsInterpretation}
use Rattle.law_terms.specs.Meaning.{meaning, term_value}
use Rattle.law_terms.specs.Plain.{DatetimeKind, DatetimeOf, DurationKind, DurationOf, ExtensionKind, ExtensionType, IpAddrKind, Ipv4Of, Ipv6Of, PlainExtension, PlainTerm, PlainType}
use Rattle.law_terms.specs.Reached.{subterms}
use Rattle.law_terms.specs.Tables.{Interpretation}
use Rattle.law_terms.specs.TypeValues.{Enums, IsValue}
use Rattle.law_terms.specs.Values.{ExtensionValue, Value}
use Rattle.law_terms.proofs.Soundness.{all-front, none-first}
use Rattle.law_terms.proofs.Soundness as soundness

module _ (enums : Enums) (I : Interpretation) where
  -- the value of what stands for a term
  same_value : {ty : PlainType} {u t v : PlainTerm} → Alike enums I ty u t → Refines v t → IsInterpretation enums (t ∷ []) I → term_value I v ≡ term_value I t
  same_value {ty} a s i = s.value ty enums I a.formed_second (record { parts = a.typed_second; type = a.type_second }) i

  tells : {t v : PlainTerm} {P : Type 0} → term_value I v ≡ term_value I t → Tells I t P → Tells I v P
  tells e w = record { truth = w.truth; value = e ∙ w.value; says = w.says }

  some_in : {t v : PlainTerm} (z : ℤ) (valued_by : ℤ → PlainExtension) → term_value I v ≡ term_value I t → IsSomeIn I t z valued_by → IsSomeIn I v z valued_by
  some_in z valued_by e w = record { some = λ h. e ∙ w.some h; none = λ h. e ∙ w.none h }

pub answers_have_values : AnswersHaveValues
answers_have_values = record {
  is_in_range = λ t ts u s enums I r rs h z i. tells enums I (same_value enums I (in_range_at_values enums I t ts r rs h z) s i) (containment_has_values.is_in_range enums I t ts r rs h z i);
  is_loopback = λ t u s enums I r h i. tells enums I (same_value enums I (loopback_at_values enums I t r h) s i) (containment_has_values.is_loopback enums I t r h i);
  is_multicast = λ t u s enums I r h i. tells enums I (same_value enums I (multicast_at_values enums I t r h) s i) (containment_has_values.is_multicast enums I t r h i);
  offset = λ t u v s enums I z w h k i. some_in enums I _ DatetimeOf (same_value enums I (offset_at_values enums I t u z w h k) s i) (times_have_values.offset enums I t u z w h k i);
  duration_since = λ t u v s enums I z w h k i. some_in enums I _ DurationOf (same_value enums I (since_at_values enums I t u z w h k) s i) (times_have_values.duration_since enums I t u z w h k i);
  to_date = λ t v s enums I z h i. some_in enums I _ DatetimeOf (same_value enums I (date_at_value enums I t z h) s i) (times_have_values.to_date enums I t z h i);
  to_time = λ t v s enums I z h i. same_value enums I (time_at_value enums I t z h) s i ∙ times_have_values.to_time enums I t z h i;
}

-- ---- what arguments have for values

module _ (enums : Enums) (I : Interpretation) (k : ExtensionKind) (t : PlainTerm) (h : IsArgument enums I k t) where
  is_value : IsValue enums (ExtensionType k) (term_value I t)
  is_value =
      let m = soundness.valued enums I t h.typed.parts (none-first (term_fault enums t) None h.faultless) h.formed.literals (all-front (IsGiven enums I) (subterms t) [] h.interpreted) in
      let n = subst (λ (ty : PlainType). IsValue enums ty (meaning I t)) h.typed.type m in
      subst (IsValue enums (ExtensionType k)) (sym (valued I t h.typed.parts)) n

  argument : (x : PlainExtension) → term_value I t ≡ ExtensionValue x → HasValue I k t x
  argument x e = record { typed = h.typed; formed = h.formed; value = e }

module _ (enums : Enums) (I : Interpretation) (t : PlainTerm) where
  range_by : (v : Value) → IsArgument enums I IpAddrKind t → term_value I t ≡ v → IsValue enums (ExtensionType IpAddrKind) v → HasRange I t (range_of_value v)
  range_by (ExtensionValue (Ipv4Of a p)) h e f = record { range = argument enums I IpAddrKind t h (Ipv4Of a p) e; fits = record { address = f.0; prefix = f.1 } }
  range_by (ExtensionValue (Ipv6Of a p)) h e f = record { range = argument enums I IpAddrKind t h (Ipv6Of a p) e; fits = record { address = f.0; prefix = f.1 } }
  range_by v h e f = absurd f

  datetime_by : (v : Value) → IsArgument enums I DatetimeKind t → term_value I t ≡ v → IsValue enums (ExtensionType DatetimeKind) v → HasDatetime I t (milliseconds_of_value v)
  datetime_by (ExtensionValue (DatetimeOf z)) h e f = record { datetime = argument enums I DatetimeKind t h (DatetimeOf z) e; fits = f }
  datetime_by v h e f = absurd f

  duration_by : (v : Value) → IsArgument enums I DurationKind t → term_value I t ≡ v → IsValue enums (ExtensionType DurationKind) v → HasDuration I t (milliseconds_of_value v)
  duration_by (ExtensionValue (DurationOf z)) h e f = record { duration = argument enums I DurationKind t h (DurationOf z) e; fits = f }
  duration_by v h e f = absurd f

pub arguments_have_values : ArgumentsHaveValues
arguments_have_values = record {
  range = λ enums I t h. range_by enums I t (term_value I t) h refl (is_value enums I IpAddrKind t h);
  datetime = λ enums I t h. datetime_by enums I t (term_value I t) h refl (is_value enums I DatetimeKind t h);
  duration = λ enums I t h. duration_by enums I t (term_value I t) h refl (is_value enums I DurationKind t h);
}
