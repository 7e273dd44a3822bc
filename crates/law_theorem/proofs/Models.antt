-- Where a stage fits a script, the script's models are the interpretations that make its terms true.
use Rattle.std.proofs.Common.{◌≡◌, Bool, true, false, cond, List, [], ◌∷◌, refl, sym, ap, ◌∙◌, subst, Some}
use Rattle.std.specs.Prelude.{ℕ, ◌↔◌, IsSome, is_some}
use Rattle.std.specs.List.{AllByRecursion}
use Rattle.std.proofs.lemmas.List.Elements.{All-from_recursion, recursion_from_All}
use Rattle.law_terms.specs.Plain.{PlainType, BoolType, PlainTerm}
use Rattle.law_terms.specs.Interpretations.{IsInterpretation}
use Rattle.law_terms.specs.Meaning.{AreTrue, meaning, term_value}
use Rattle.law_terms.specs.Operators.{truth}
use Rattle.law_terms.specs.Reached.{subterms, reached_terms}
use Rattle.law_terms.specs.Tables.{Interpretation}
use Rattle.law_terms.specs.Types.{type_of}
use Rattle.law_terms.specs.Typing.{typed, Typed, AreBoolean}
use Rattle.law_terms.specs.TypeValues.{IsValue, Enums, AreEnums}
use Rattle.law_terms.specs.Values.{Value, BoolValue}
use Rattle.law_texts.specs.Reading.{Expression}
use Rattle.law_scripts.specs.Script.{State, Script, assertions_of}
use Rattle.law_scripts.specs.ScriptValues.{ScriptValue, TruthOf}
use Rattle.law_scripts.specs.Sorts.{entries}
use Rattle.law_scripts.specs.Value.{ScriptInterpretation, IsScriptInterpretation, AgreeFor, IsModel, expression_value}
use Rattle.law_scripts.proofs.Free.{free_names_decide}
use Rattle.law_lines.specs.Entries.{text_or_nothing}
use Rattle.law_lines.specs.TermTexts.{text_of}
use Rattle.law_lines.specs.NameTables.{Tables}
use Rattle.law_theorem.specs.Carry.{carry}
use Rattle.law_theorem.specs.CarriedInterpretations as interpretations
use Rattle.law_theorem.specs.CarriedInterpretations.{carry_interpretation, back_interpretation, GivesReachedNames}
use Rattle.law_theorem.specs.Open.{LeavesOpen}
use Rattle.law_theorem.proofs.Interpretations as carrying
use Rattle.law_theorem.proofs.Open.{names_interpret, names_agree}
use Rattle.law_theorem.specs.Fits.{Stage, FitsAt}
use Rattle.law_theorem.specs.Headline.{AreTexts, HaveTermValues, Represents}
use Rattle.law_theorem.specs.TextValues.{HasText, ReachedHaveTexts}
use Rattle.law_theorem.proofs.Distinct.{drawn_names_differ, kinds_named}
use Rattle.law_theorem.proofs.FineTerms.{conditions_are_fine, parts_typed}
use Rattle.law_theorem.proofs.Free.{reached_are_open}
use Rattle.law_theorem.proofs.FreeNames.{free_names_are}
use Rattle.law_theorem.proofs.Induction.{worth, parts_have_texts}
use Rattle.law_theorem.proofs.Lasting.{script_names_last}
use Rattle.law_theorem.proofs.Named.{reached_is_declared}
use Rattle.law_terms.proofs.Defaults.{all-join}
use Rattle.law_theorem.proofs.Valued.{IsValued, each_valued}
use Rattle.law_theorem.proofs.Worth.{Follows}

-- ---- truth

pub truth_carried : (enums : Enums) (s : Tables) (v : Value) → IsValue enums BoolType v → (carry enums s BoolType v ≡ TruthOf (truth v)) × (v ≡ BoolValue (truth v))
truth_carried enums s (BoolValue b) h = (refl, refl)
truth_carried enums s v h = absurd h

typed_value : (I : Interpretation) (t : PlainTerm) → typed t ≡ true → term_value I t ≡ meaning I t
typed_value I t h = ap (λ b. cond b (meaning I t) (BoolValue false)) h

truth_is : (a b : Bool) → Some (TruthOf a) ≡ Some (TruthOf b) → a ≡ b
truth_is a b h = cc

-- each term's value is a Boolean
abbrev AreBooleans : Interpretation → List PlainTerm → Type 0
AreBooleans I ts = AllByRecursion (λ t. term_value I t ≡ BoolValue (truth (term_value I t))) ts

abbrev IsTrueIn : ScriptInterpretation → State → Expression → Type 0
IsTrueIn J state e = expression_value J state e ≡ Some (TruthOf true)

module _ (I : Interpretation) (J : ScriptInterpretation) (state : State) where
  all_true : (ts : List PlainTerm) (es : List Expression) → HaveTermValues I J state ts es → AreTrue I ts → AllByRecursion (IsTrueIn J state) es
  all_true [] [] h k = tt
  all_true [] (e ∷ es) h k = absurd h
  all_true (t ∷ ts) [] h k = absurd h
  all_true (t ∷ ts) (e ∷ es) h k = (h.0 ∙ ap (λ (v : Value). Some (TruthOf (truth v))) k.0, all_true ts es h.1 k.1)

  terms_true : (ts : List PlainTerm) (es : List Expression) → HaveTermValues I J state ts es → AreBooleans I ts → AllByRecursion (IsTrueIn J state) es → AreTrue I ts
  terms_true [] [] h b k = tt
  terms_true [] (e ∷ es) h b k = absurd h
  terms_true (t ∷ ts) [] h b k = absurd h
  terms_true (t ∷ ts) (e ∷ es) h b k = (b.0 ∙ ap BoolValue (truth_is (truth (term_value I t)) true (sym h.0 ∙ k.0)), terms_true ts es h.1 b.1 k.1)

  -- the assertions are true exactly where the terms are
  truth_agrees : (ts : List PlainTerm) → HaveTermValues I J state ts (assertions_of state) → AreBooleans I ts → AreTrue I ts ↔ IsModel J state
  truth_agrees ts h b = (
    λ k. All-from_recursion (IsTrueIn J state) (assertions_of state) (all_true ts (assertions_of state) h k),
    λ m. terms_true ts (assertions_of state) h b (recursion_from_All (IsTrueIn J state) (assertions_of state) m),
  )

true_too : (J K : ScriptInterpretation) (state : State) (es : List Expression) → AllByRecursion (λ e. expression_value K state e ≡ expression_value J state e) es → AllByRecursion (IsTrueIn J state) es → AllByRecursion (IsTrueIn K state) es
true_too J K state [] h k = tt
true_too J K state (e ∷ es) h k = (h.0 ∙ k.0, true_too J K state es h.1 k.1)

-- where two give a script's free names the same, they are models of it together
same_models : (J K : ScriptInterpretation) (state : State) → AgreeFor K J state → IsModel J state ↔ IsModel K state
same_models J K state a =
    let d = free_names_decide K J state a in (
      λ m. All-from_recursion (IsTrueIn K state) (assertions_of state)
          (true_too J K state (assertions_of state) (recursion_from_All (λ e. expression_value K state e ≡ expression_value J state e) (assertions_of state) d.0) (recursion_from_All (IsTrueIn J state) (assertions_of state) m)),
      d.1,
    )

-- ---- texts

pub texts_are_there : (s : Tables) (ts : List PlainTerm) (es : List Expression) → AreTexts s ts es → AllByRecursion (λ t. IsSome (text_of s t)) ts
texts_are_there s [] [] h = tt
texts_are_there s [] (e ∷ es) h = absurd h
texts_are_there s (t ∷ ts) [] h = absurd h
texts_are_there s (t ∷ ts) (e ∷ es) h = (ap is_some h.0, texts_are_there s ts es h.1)

-- ---- a stage that fits a script

module _ (enums : Enums) (text : List ℕ) (x : Stage) (state : State) (good : AreEnums enums) (f : FitsAt enums x state) (script : Script text state) where
  abbrev T : Tables
  T = x.tables

  pub texts : AllByRecursion (λ t. IsSome (text_of T t)) x.terms
  texts = texts_are_there T x.terms (assertions_of state) f.assertions

  pub follows : (I : Interpretation) → Follows enums T state I
  follows I = record { fit = f.declared; one_to_one = drawn_names_differ enums T f.drawn; enum_types = good; named = f.drawn.members; last = script_names_last text state (carry_interpretation enums T I) script; kinds = kinds_named T f.drawn.types }

  pub stands : interpretations.DeclaresReached enums T (entries state) x.terms
  stands = reached_is_declared enums T x.terms state f.declared (conditions_are_fine enums x.terms f.conditions) good (drawn_names_differ enums T f.drawn) texts

  module _ (I : Interpretation) (given_so : IsInterpretation enums x.terms I) where
    abbrev Valued : PlainTerm → Type 0
    Valued t = IsValued enums I t × IsValue enums (type_of t) (meaning I t)

    valued : AllByRecursion Valued x.terms
    valued = each_valued enums I x.terms (parts_typed x.terms f.conditions.are_typed) f.conditions.are_formed f.conditions.have_no_fault given_so

    -- a condition's text has its truth
    condition_worth : (t : PlainTerm) (e : Expression) → Typed t BoolType → Valued t → text_of T t ≡ Some e → expression_value (carry_interpretation enums T I) state e ≡ Some (TruthOf (truth (term_value I t)))
    condition_worth t e typed k h =
        let v : IsValue enums BoolType (meaning I t) = subst (λ u. IsValue enums u (meaning I t)) typed.type k.1 in
        let is : text_or_nothing (text_of T t) ≡ e = ap text_or_nothing h in
        ap (λ (y : Expression). expression_value (carry_interpretation enums T I) state y) (sym is)
        ∙ worth enums T state I (follows I) t k.0 (ap is_some h)
        ∙ ap (λ (u : PlainType). Some (carry enums T u (meaning I t))) typed.type
        ∙ ap (λ (w : ScriptValue). Some w) (truth_carried enums T (meaning I t) v).0
        ∙ ap (λ (w : Value). Some (TruthOf (truth w))) (sym (typed_value I t typed.parts))

    conditions_worth : (us : List PlainTerm) (es : List Expression) → AreBoolean us → AllByRecursion Valued us → AreTexts T us es → HaveTermValues I (carry_interpretation enums T I) state us es
    conditions_worth [] [] a k h = tt
    conditions_worth [] (e ∷ es) a k h = absurd h
    conditions_worth (t ∷ us) [] a k h = absurd h
    conditions_worth (t ∷ us) (e ∷ es) a k h = (condition_worth t e a.0 k.0 h.0, conditions_worth us es a.1 k.1 h.1)

    pub have_values : HaveTermValues I (carry_interpretation enums T I) state x.terms (assertions_of state)
    have_values = conditions_worth x.terms (assertions_of state) f.conditions.are_typed valued f.assertions

    booleans : (us : List PlainTerm) → AreBoolean us → AllByRecursion Valued us → AreBooleans I us
    booleans [] a k = tt
    booleans (t ∷ us) a k =
        let v : IsValue enums BoolType (meaning I t) = subst (λ u. IsValue enums u (meaning I t)) a.0.type k.0.1 in
        (subst (λ w. w ≡ BoolValue (truth w)) (sym (typed_value I t a.0.parts)) (truth_carried enums T (meaning I t) v).1, booleans us a.1 k.1)

    pub true_together : AreTrue I x.terms ↔ IsModel (carry_interpretation enums T I) state
    true_together = truth_agrees I (carry_interpretation enums T I) state x.terms have_values (booleans x.terms f.conditions.are_typed valued)

    reached : (us : List PlainTerm) → AllByRecursion Valued us → AllByRecursion (λ t. IsSome (text_of T t)) us → AllByRecursion (HasText enums T state I) (reached_terms us)
    reached [] k h = tt
    reached (t ∷ us) k h = all-join (HasText enums T state I) (subterms t) (reached_terms us) (parts_have_texts enums T state I (follows I) t k.0.0 h.0) (reached us k.1 h.1)

    pub have_texts : AllByRecursion (HasText enums T state I) (reached_terms x.terms)
    have_texts = reached x.terms valued texts

  -- Where the script leaves open what the terms reach, and its interpretations give it, it represents the terms.
  pub represents : LeavesOpen T x.terms state → ((J : ScriptInterpretation) → IsScriptInterpretation J state → GivesReachedNames T (entries state) x.terms J) → Represents enums T x.terms state
  represents leaves gives =
      let comes = λ (J : ScriptInterpretation) (h : IsScriptInterpretation J state). carrying.comes_back enums T (entries state) x.terms stands J (gives J h) in
      let agrees = λ (J : ScriptInterpretation) (h : IsScriptInterpretation J state). names_agree T x.terms state (carry_interpretation enums T (back_interpretation enums T J)) J leaves (carrying.agrees enums T (entries state) x.terms stands J (gives J h)) in
      record {
        assertions = f.assertions;
        one_to_one = stands.one_to_one;
        free = free_names_are T x.terms state leaves.names (reached_are_open enums T state x.terms f.declared stands);
        carried = λ I g. names_interpret T x.terms state (carry_interpretation enums T I) leaves (carrying.carried enums T (entries state) x.terms stands I g);
        values = λ I g. have_values I g;
        back = comes;
        again = agrees;
        models = λ J h. (let I = back_interpretation enums T J in
            let same = same_models J (carry_interpretation enums T I) state (agrees J h) in
            let together = true_together I (comes J h) in
            (λ m. together.1 (same.0 m), λ k. same.1 (together.0 k)));
        true_in = λ I g. true_together I g;
      }

pub reached_have_texts : ReachedHaveTexts
reached_have_texts enums text x state I good f script g = have_texts enums text x state good f script I g
