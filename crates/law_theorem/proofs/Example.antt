-- The worked example.
use Rattle.std.proofs.Common.{◌≡◌, ℕ, ◌+◌, ◌-◌, ◌<◌, Option, Some, Bool, true, false, not, [], ◌∷◌, refl, sym, ap, ◌∙◌, subst, rules, arith, inl, inr}
use Rattle.std.proofs.lemmas.Bool.{false≢true}
use Rattle.std.specs.Prelude.{◌↔◌, codes}
use Rattle.std.specs.Str.{chars}
use Rattle.law_terms.specs.Plain.{BoolType}
use Rattle.law_terms.specs.Interpretations.{IsInterpretation}
use Rattle.law_terms.specs.Operators.{truth}
use Rattle.law_terms.specs.Tables.{Interpretation}
use Rattle.law_terms.specs.TypeValues.{IsValue}
use Rattle.law_terms.specs.Values.{Value, BoolValue}
use Rattle.law_texts.specs.Lexicon.{Name}
use Rattle.law_texts.specs.Reading.{Expression, Leaf}
use Rattle.law_scripts.specs.ScriptValues.{ScriptValue, TruthOf}
use Rattle.law_scripts.specs.Script.{State, start, name}
use Rattle.law_scripts.specs.Sorts.{entries}
use Rattle.law_scripts.specs.Value.{ScriptInterpretation, IsScriptInterpretation, IsModel}
use Rattle.law_scripts.proofs.Commands.{one_state}
use Rattle.law_lines.specs.Naming.{HasDistinctNames}
use Rattle.law_lines.specs.Rows.{bool_variable, not_b}
use Rattle.law_lines.specs.Lines.{EncodeCall}
use Rattle.law_lines.specs.NameTables.{Tables}
use Rattle.law_lines.specs.Text.{text, names}
use Rattle.law_theorem.specs.Carry.{back}
use Rattle.law_theorem.proofs.Onto.{onto}
use Rattle.law_theorem.specs.Conditions.{AreConditions}
use Rattle.law_theorem.specs.Example.{NegationIsItsScript, true_term}
use Rattle.law_theorem.specs.Fits.{Fits, new_stages, stages_after_calls}
use Rattle.law_theorem.specs.Headline.{AreTexts, HaveTermValues, Headline}
use Rattle.law_terms.specs.Meaning.{AreTrue}
use Rattle.law_theorem.proofs.FitKept.{conditions_are_their_scripts, stated_calls_fit}
use Rattle.law_theorem.proofs.Models.{truth_carried}
use Rattle.law_theorem.proofs.SelectionsGiven.{interpretations_give_reached}
use Rattle.law_theorem.proofs.Types.{option_is_declared}

condition : AreConditions [] (not_b ∷ [])
unfolding chars
condition = record {
  are_typed = (record { parts = refl; type = refl }, tt);
  are_formed = (record { literals = search rules; types = search rules }, tt);
  have_no_fault = refl;
}

abbrev T : Tables
T = names [] (not_b ∷ [])

headline : Headline [] T (not_b ∷ []) (text [] (not_b ∷ []))
headline = conditions_are_their_scripts [] (not_b ∷ []) tt condition

fits : Fits [] (text [] (not_b ∷ [])) (stages_after_calls [] (EncodeCall (not_b ∷ []) ∷ []) new_stages)
fits = stated_calls_fit [] (EncodeCall (not_b ∷ []) ∷ []) tt (condition, tt)

-- ---- truth

is_false : (a : Bool) → BoolValue (not a) ≡ BoolValue true → a ≡ false
is_false true h = absurd cc
is_false false h = refl

negated : (v : Value) → IsValue [] BoolType v → BoolValue (not (truth v)) ≡ BoolValue true → v ≡ BoolValue false
negated (BoolValue b) k h = ap BoolValue (is_false b h)
negated v k h = absurd k

true_in : (I : Interpretation) → IsInterpretation [] (not_b ∷ []) I → AreTrue I (not_b ∷ []) ↔ (I.variable (codes "b") BoolType ≡ BoolValue false)
true_in I g = (λ k. negated (I.variable (codes "b") BoolType) g.0 k.0, λ e. (ap (λ (v : Value). BoolValue (not (truth v))) e, tt))

-- ---- models

-- t0 has a truth
given_truth : (J : ScriptInterpretation) → IsScriptInterpretation J fits.state → J.constants (codes "t0") ≡ TruthOf (truth (back [] BoolType (J.constants (codes "t0"))))
given_truth J g =
    let given = interpretations_give_reached [] (text [] (not_b ∷ [])) (record { tables = T; terms = not_b ∷ [] }) fits.state tt fits.now fits.script.script J g in
    let o = onto (entries fits.state) (option_is_declared [] T fits.state fits.now.declared) [] T tt BoolType (J.constants (codes "t0")) tt given.0 in
    sym o.1 ∙ (truth_carried [] T (back [] BoolType (J.constants (codes "t0"))) o.0).0

models : (J : ScriptInterpretation) → IsScriptInterpretation J headline.state → IsModel J headline.state ↔ (J.constants (codes "t0") ≡ TruthOf false)
models J g =
    let same = one_state (text [] (not_b ∷ [])) headline.state fits.state headline.script.script fits.script.script in
    let truth_is = given_truth J (subst (λ (u : State). IsScriptInterpretation J u) same g) in
    let m = headline.represents.models J g in (
      λ k. truth_is ∙ ap TruthOf (is_false (truth (back [] BoolType (J.constants (codes "t0")))) (m.0 k).0),
      λ e. m.1 (ap (λ (v : ScriptValue). BoolValue (not (truth (back [] BoolType v)))) e, tt),
    )

-- ---- names and texts

-- a number is not two numbers
no_two : (n m k : ℕ) → n ≡ m → n ≡ k → 0 < (m - k) + (k - m) → ⊥
no_two n m k e f h = omega arith

second_byte : Option Expression → ℕ
second_byte (Some (Leaf (Name (a ∷ b ∷ [])))) = b
second_byte e = 0

turned : AreTexts (names [] (not_b ∷ [])) (not_b ∷ bool_variable (codes "b") ∷ []) (name (codes "t0") ∷ name (codes "t1") ∷ []) → ⊥
unfolding second_byte
turned h = no_two 49 48 49 (ap second_byte h.0) refl (omega arith)

fewer : AreTexts (names [] (not_b ∷ [])) (not_b ∷ bool_variable (codes "b") ∷ []) (name (codes "t1") ∷ []) → ⊥
fewer h = h.1

one_name : HasDistinctNames {K = ℕ} ((1, codes "t0") ∷ (2, codes "t0") ∷ []) → ⊥
one_name h = no_two 1 2 1 (h (codes "t0") 1 2 (inl (refl, refl)) (inr (inl (refl, refl)))) refl (omega arith)

is_true : Option ScriptValue → Bool
is_true (Some (TruthOf b)) = b
is_true v = true

other_worth : (I : Interpretation) (J : ScriptInterpretation) → HaveTermValues I J start (true_term ∷ []) (name (codes "false") ∷ []) → ⊥
unfolding is_true
other_worth I J h = false≢true (ap is_true h.0)

pub negation_is_its_script : NegationIsItsScript
negation_is_its_script = record {
  condition = condition;
  bytes = refl;
  headline = headline;
  models = models;
  true_in = true_in;
  free = headline.represents.free;
  goes = λ I e. rw e refl;
  comes = λ J e. rw e refl;
  in_order = (refl, (refl, tt));
  turned = turned;
  fewer = fewer;
  one_name = one_name;
  worth = λ I J. (refl, tt);
  other_worth = other_worth;
}
