-- What the script of blasted terms says of the terms.
use Rattle.std.specs.Prelude.{◌↔◌, ℕ, [], List}
use Rattle.law_terms.specs.Interpretations.{IsInterpretation, restrict}
use Rattle.law_terms.specs.Meaning.{AreTrue}
use Rattle.law_terms.specs.Plain.{PlainTerm}
use Rattle.law_terms.specs.Tables.{Interpretation}
use Rattle.law_terms.specs.TypeValues.{Enums}
use Rattle.law_scripts.specs.Value.{ScriptInterpretation, IsScriptInterpretation, AgreeFor, IsModel}
use Rattle.law_lines.specs.NameTables.{Tables}
use Rattle.law_lines.specs.Text as stated
use Rattle.law_theorem.specs.CarriedInterpretations.{carry_interpretation, back_interpretation}
use Rattle.law_theorem.specs.Headline.{Headline}
use Rattle.law_blasting.specs.Blasted.{bits, unbits}
use Rattle.law_blasting.specs.Numbering.{variables_of}
use Rattle.law_blasting.specs.Theorem.{new_roots, AreFaithful}

-- the script of the new terms of some terms, in which no enum types come
abbrev pub blasted_text : List PlainTerm → List ℕ
blasted_text ts = stated.text [] (new_roots ts)

-- the names that it gives them
abbrev pub blasted_names : List PlainTerm → Tables
blasted_names ts = stated.names [] (new_roots ts)

-- the bits of an interpretation of some terms, as far as their new terms reach them, carried to the script
abbrev pub carried_bits : List PlainTerm → Interpretation → ScriptInterpretation
carried_bits ts I = carry_interpretation [] (blasted_names ts) (restrict (bits (variables_of ts) I) (new_roots ts))

-- the interpretation of some terms whose bits an interpretation of the script gives
abbrev pub interpretation_of_bits : List PlainTerm → ScriptInterpretation → Interpretation
interpretation_of_bits ts J = unbits (variables_of ts) (back_interpretation [] (blasted_names ts) J)

-- The script means the new terms, which are faithful to the old ones. So its models are, for its names, exactly what the bits of the
-- interpretations are carried to that make the old terms true.
pub record MeansBlasted (enums : Enums) (ts : List PlainTerm) : Type 0 where
  pub faithful : AreFaithful enums ts
  pub means : Headline [] (blasted_names ts) (new_roots ts) (blasted_text ts)
  -- the carried bits of an interpretation of the old terms are one of the script, and a model exactly where it makes the old terms true
  pub forth : (I : Interpretation) → IsInterpretation enums ts I →
      IsScriptInterpretation (carried_bits ts I) means.state × (AreTrue I ts ↔ IsModel (carried_bits ts I) means.state)
  -- each interpretation of the script is, for its names, the carried bits of one of the old terms, and a model exactly where that makes
  -- these true
  pub back : (J : ScriptInterpretation) → IsScriptInterpretation J means.state →
      IsInterpretation enums ts (interpretation_of_bits ts J) × AgreeFor (carried_bits ts (interpretation_of_bits ts J)) J means.state
      × (IsModel J means.state ↔ AreTrue (interpretation_of_bits ts J) ts)
