-- A state that a stage fits is well sorted.
use Rattle.std.proofs.Common.{◌≡◌, ℕ, List, [], ◌∷◌, ◌++◌, sym, ap, ◌∙◌, Option, Some}
use Rattle.std.specs.Prelude.{is_some}
use Rattle.std.specs.List.{AllByRecursion}
use Rattle.law_terms.specs.Defaults.{default_interpretation}
use Rattle.law_terms.specs.Plain.{PlainType, PlainTerm, Application, NoneTerm, LiteralTerm, RecordTerm, SetTerm, SomeTerm, VariableTerm, PlainTerms, no_terms, one_term, PlainFields, no_fields, one_field}
use Rattle.law_terms.specs.Reached.{subterms, subterms_of_all, subterms_of_fields, reached_terms}
use Rattle.law_terms.specs.Tables.{Interpretation}
use Rattle.law_terms.specs.Types.{type_of}
use Rattle.law_terms.specs.TypeValues.{Enums, IsValue, AreEnums}
use Rattle.law_terms.specs.Meaning.{meaning}
use Rattle.law_terms.specs.Typing.{AreBoolean}
use Rattle.law_terms.proofs.Defaults.{interpreted, all-join}
use Rattle.law_texts.specs.Reading.{Expression}
use Rattle.law_scripts.specs.Script.{Defined, State, Script, names_of, assertions_of}
use Rattle.law_scripts.specs.Sorts.{entries, expression_sort, bool_sort}
use Rattle.law_lines.specs.Naming.{type_sort}
use Rattle.law_lines.specs.Entries.{text_or_nothing}
use Rattle.law_theorem.proofs.Open.{at_term}
use Rattle.law_theorem.proofs.Standing.{of_entry}
use Rattle.law_theorem.specs.Fits.{Stage, FitsAt, BelongsToAnEntry}
use Rattle.law_theorem.specs.Headline.{AreTexts}
use Rattle.law_theorem.proofs.FineTerms.{parts_typed}
use Rattle.law_theorem.proofs.Models.{follows}
use Rattle.law_theorem.proofs.Valued.{IsValued, AreValued, HaveValues, each_valued}
use Rattle.law_theorem.specs.SortedScripts.{FittingStatesAreSorted}
use Rattle.law_theorem.proofs.Bodies.{text_has_sort, body_has_sort}

-- ---- parts

module _ (enums : Enums) (I : Interpretation) where
  abbrev All : List PlainTerm → Type 0
  All ts = AllByRecursion (IsValued enums I) ts

  then_last : (ts : List PlainTerm) (t : PlainTerm) → All ts → IsValued enums I t → All (ts ++ t ∷ [])
  then_last ts t a h = all-join (IsValued enums I) ts (t ∷ []) a (h, tt)

  mutual
    parts_valued : (t : PlainTerm) → IsValued enums I t → All (subterms t)
    parts_valued (Application op ts type) k = then_last (subterms_of_all ts) (Application op ts type) (each_part ts k.0) k
    parts_valued (NoneTerm type) k = (k, tt)
    parts_valued (LiteralTerm l) k = (k, tt)
    parts_valued (RecordTerm fs) k = then_last (subterms_of_fields fs) (RecordTerm fs) (field_parts fs k) k
    parts_valued (SetTerm u ts) k = then_last (subterms_of_all ts) (SetTerm u ts) (each_part ts k.0) k
    parts_valued (SomeTerm t) k = then_last (subterms t) (SomeTerm t) (parts_valued t k) k
    parts_valued (VariableTerm id type) k = (k, tt)

    each_part : (ts : PlainTerms) → AreValued enums I ts → All (subterms_of_all ts)
    each_part no_terms k = tt
    each_part (one_term t ts) k = all-join (IsValued enums I) (subterms t) (subterms_of_all ts) (parts_valued t k.0) (each_part ts k.3)

    field_parts : (fs : PlainFields) → HaveValues enums I fs → All (subterms_of_fields fs)
    field_parts no_fields k = tt
    field_parts (one_field a t fs) k = all-join (IsValued enums I) (subterms t) (subterms_of_fields fs) (parts_valued t k.0) (field_parts fs k.1)

  reached_valued : (us : List PlainTerm) → AllByRecursion (λ t. IsValued enums I t × IsValue enums (type_of t) (meaning I t)) us → All (reached_terms us)
  reached_valued [] k = tt
  reached_valued (t ∷ us) k = all-join (IsValued enums I) (subterms t) (reached_terms us) (parts_valued t k.0.0) (reached_valued us k.1)

-- ---- a stage that fits

module _ (enums : Enums) (text : List ℕ) (x : Stage) (state : State) (good : AreEnums enums) (f : FitsAt enums x state) (source : Script text state) where
  abbrev I : Interpretation
  I = default_interpretation enums

  valued : AllByRecursion (λ t. IsValued enums I t × IsValue enums (type_of t) (meaning I t)) x.terms
  valued =
      let typed = parts_typed x.terms f.conditions.are_typed in
      each_valued enums I x.terms typed f.conditions.are_formed f.conditions.have_no_fault (interpreted enums x.terms typed f.conditions.have_no_fault)

  body_sorted : (n : List ℕ) (sort body : Expression) → entries state n ≡ Some (Defined sort body) → expression_sort state body ≡ Some sort
  body_sorted n sort body e =
      let o = of_entry (BelongsToAnEntry enums (reached_terms x.terms) x.tables) (names_of state) f.only n (Defined sort body) e in
      body_has_sort enums x.tables state I (follows enums text x state good f source I) o.term (at_term (IsValued enums I) (reached_terms x.terms) o.term (reached_valued enums I x.terms valued) o.reached) o.defined n o.named sort body e

  assertions_sorted : (ts : List PlainTerm) (es : List Expression) → AreBoolean ts → AllByRecursion (λ t. IsValued enums I t × IsValue enums (type_of t) (meaning I t)) ts → AreTexts x.tables ts es → AllByRecursion (λ e. expression_sort state e ≡ Some bool_sort) es
  assertions_sorted [] [] a k h = tt
  assertions_sorted [] (e ∷ es) a k h = absurd h
  assertions_sorted (t ∷ ts) [] a k h = absurd h
  assertions_sorted (t ∷ ts) (e ∷ es) a k h = (
    ap (λ (o : Option Expression). expression_sort state (text_or_nothing o)) (sym h.0)
        ∙ text_has_sort enums x.tables state I (follows enums text x state good f source I) t k.0.0 (ap is_some h.0)
        ∙ ap (λ (u : PlainType). Some (type_sort x.tables u)) a.0.type,
    assertions_sorted ts es a.1 k.1 h.1,
  )

pub fitting_states_are_sorted : FittingStatesAreSorted
fitting_states_are_sorted enums text x state good f source = record {
  bodies = body_sorted enums text x state good f source;
  assertions = assertions_sorted enums text x state good f source x.terms (assertions_of state) f.conditions.are_typed (valued enums text x state good f source) f.assertions;
}
