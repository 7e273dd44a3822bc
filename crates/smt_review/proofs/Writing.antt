-- Why the difference of two conditions is not written.
use Rattle.std.proofs.Common.{◌≡◌, ℕ, List, [], ◌∷◌, ◌++◌, Option, Some, None, Err, Result, Ok, IsErrAnd, Bool, false, IsTrue, refl, sym, ap, ◌∙◌, subst, arith}
use Rattle.std.specs.Io.KnownBytes.{append_known}
use Rattle.std.specs.Prelude.{◌↔◌, IfErr, IsErrOf}
use Rattle.law_terms.specs.Faults.{Fault, first_fault}
use Rattle.law_terms.specs.Formed.{IsFormed}
use Rattle.law_terms.specs.Plain.{BoolType, PlainTerm}
use Rattle.law_terms.specs.Typing.{AreTyped, Typed}
use Rattle.law_terms.specs.TypeValues.{Enums}
use Rattle.law_lines.specs.Text.{text}
use Rattle.smt_script.specs.Memory.{list_bytes, list_contents}
use Rattle.smt_script.specs.declared.memory.ListSink.{ListSink}
use Rattle.smt_encode.specs.Refusals.{HasCause, TakesAttributes}
use Rattle.smt_encode.specs.declared.error.EncodeError.{EncodeError}
use Rattle.smt_encode.specs.declared.error.EncodeError.TheVariants.{Io as SinkFails, Memory as EncodeWant, NoScope as NoLevel, Spent as IsSpent, EmptyEnum as EnumRefused, EncodeStringFailed as StringRefused, EncodePatternFailed as PatternRefused, EnumMissingMember as EntityRefused, ExpectRecord as NoRecordRefused, MalformedRecordGet as NoOperandRefused, MissingTypeEncoding as TypeRefused, RecordMissingAttr as AttributeRefused, BitVecError as BitsRefused}
use Rattle.smt_review.specs.Errors.{encode_refusal}
use Rattle.smt_review.specs.Reviews.{IsAskable, WhyUnwritten, difference_of, text_for}
use Rattle.smt_review.specs.declared.error.ReviewError.{ReviewError}
use Rattle.smt_review.specs.declared.relation.Relation.{Relation}
use Rattle.smt_review.proofs.Telling.{differences_tell}

alike : (x y : List ℕ) → Some x ≡ Some y → x ≡ y
alike x y h = cc

-- the error of a new encoder over a sink that never fails, of typed terms
named : (fault : Option Fault) (e : EncodeError) → (e ≡ IsSpent → ⊥) → HasCause {T = Unit {0}} 0 0 fault (Err e) → TakesAttributes {T = Unit {0}} (Err e) → WhyUnwritten fault (encode_refusal e)
named fault SinkFails unspent h g = absurd (let rose = h.io refl in omega (arith, rose))
named fault (EntityRefused e) unspent h g = h.member e refl
named fault (StringRefused text) unspent h g = h.string text refl
named fault (PatternRefused p) unspent h g = h.pattern p refl
named fault (EnumRefused ety) unspent h g = h.empty ety refl
named fault NoOperandRefused unspent h g = g.no_operand refl
named fault (TypeRefused ty) unspent h g = g.type ty refl
named fault (NoRecordRefused ty) unspent h g = g.no_record ty refl
named fault (AttributeRefused name) unspent h g = g.attribute name refl
named fault (BitsRefused why) unspent h g = h.bits why refl
named fault IsSpent unspent h g = unspent refl
named fault NoLevel unspent h g = h.scope refl
named fault EncodeWant unspent h g = tt

-- the exit of a `?`, which hands the reason on
leaves : {T : Type 0} (fault : Option Fault) (result : Result T ReviewError) (e : ReviewError) → IsErrAnd result (λ y. y ≡ e) → WhyUnwritten fault e → IfErr result (WhyUnwritten fault)
leaves fault (Ok x) e h why = absurd h
leaves fault (Err y) e h why = subst (λ (x : ReviewError). WhyUnwritten fault x) (sym h) why

module _ (known enums : Enums) (r : Relation) (t u d : PlainTerm) (same_enums : known ≡ enums) (folded : d ≡ difference_of r t u) where
  -- what a sink holds that was empty and got the text of the difference
  pub written : (new empty full result : ListSink) → list_bytes new ≡ [] → empty ≡ new → list_contents full ≡ append_known (list_contents empty) (text known (d ∷ [])) → result ≡ full → list_bytes result ≡ text_for enums r t u
  written new empty full result none held got is =
      ap list_bytes is ∙ alike (list_bytes full) (list_bytes empty ++ text known (d ∷ [])) got ∙ ap (λ (xs : List ℕ). xs ++ text known (d ∷ [])) (ap list_bytes held ∙ none)
      ∙ ap (λ (e : Enums). text e (d ∷ [])) same_enums ∙ ap (λ (w : PlainTerm). text enums (w ∷ [])) folded

  same_fault : first_fault known (d ∷ []) ≡ first_fault enums (difference_of r t u ∷ [])
  same_fault = ap (λ (e : Enums). first_fault e (d ∷ [])) same_enums ∙ ap (λ (w : PlainTerm). first_fault enums (w ∷ [])) folded

  pub askable : Typed t BoolType → Typed u BoolType → IsFormed d → first_fault known (d ∷ []) ≡ None → IsAskable enums r t u
  askable ht hu formed none = record {
    are_typed = (differences_tell.boolean r t u ht hu, tt);
    are_formed = (subst IsFormed folded formed, tt);
    have_no_fault = sym same_fault ∙ none;
  }

  is_typed : Typed t BoolType → Typed u BoolType → Typed d BoolType
  is_typed ht hu = subst (λ (w : PlainTerm). Typed w BoolType) (sym folded) (differences_tell.boolean r t u ht hu)

  -- the exit of the encoder's `?`, which hands the fault on that it named
  pub refused : {T : Type 0} (result : Result T ReviewError) (e : EncodeError) (spent : Bool) → Typed t BoolType → Typed u BoolType → IsErrAnd result (λ y. y ≡ encode_refusal e) → spent ≡ false → (IsErrOf {T = Unit {0}} (Err e) IsSpent ↔ IsTrue spent)
      → HasCause {T = Unit {0}} 0 0 (first_fault known (d ∷ [])) (Err e) → (AreTyped (d ∷ []) → TakesAttributes {T = Unit {0}} (Err e)) → IfErr result (WhyUnwritten (first_fault enums (difference_of r t u ∷ [])))
  refused result e spent ht hu is unspent answer cause takes =
      leaves (first_fault enums (difference_of r t u ∷ [])) result (encode_refusal e) is
      (subst (λ (f : Option Fault). WhyUnwritten f (encode_refusal e)) same_fault (named (first_fault known (d ∷ [])) e (λ p. absurd (let k = answer.0 (ap Err p) in cc)) cause (takes ((is_typed ht hu).parts, tt))))
