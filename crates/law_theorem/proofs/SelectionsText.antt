-- The definitions in a script that fits, and what they apply.
use Rattle.std.proofs.Common.{◌≡◌, ℕ, suc, false, List, [], ◌∷◌, ap, Some}
use Rattle.std.specs.Prelude.{is_some}
use Rattle.std.specs.List.{AllByRecursion}
use Rattle.law_terms.specs.Plain.{PlainTerm}
use Rattle.law_terms.specs.Reached.{reached_terms}
use Rattle.law_terms.specs.Typing.{AreBoolean}
use Rattle.law_terms.specs.TypeValues.{Enums}
use Rattle.law_texts.specs.Reading.{Expression}
use Rattle.law_scripts.specs.Script.{Entry, Defined, State, Script, is_in, built_in_names, names_of, assertions_of}
use Rattle.law_scripts.specs.Sorts.{entries}
use Rattle.law_scripts.specs.Value.{selections}
use Rattle.law_lines.specs.EntryNames.{stated_type_name, stated_function_name}
use Rattle.law_lines.specs.NameTables.{Tables, name_of_term}
use Rattle.law_lines.specs.Entries.{EachEntry, AreNumbered}
use Rattle.law_theorem.specs.Fits.{HasDefinition, Stage, FitsAt}
use Rattle.law_theorem.specs.Headline.{AreTexts}
use Rattle.law_theorem.proofs.OrderedEntries.{Names, Known, AreOrdered, Within, among, not_built_in, script_ordered}
use Rattle.law_theorem.proofs.SelectionsBodies.{body_selects}
use Rattle.law_theorem.proofs.SelectionsHeads.{AreTypesCounted, AreFunctionsCounted, own_selections}
use Rattle.law_theorem.proofs.SelectionsParts.{IsSound, reached_sound}

-- each entry has a number
counted_from : {K : Type 0} (f : K → ℕ → List ℕ) (start : ℕ) (es : List (K × List ℕ)) → AreNumbered f start es → EachEntry (λ k n. (i : ℕ) × (n ≡ f k i)) es
counted_from f start [] h = tt
counted_from f start (e ∷ es) h = ((start, h.0), counted_from f (suc start) es h.1)

both_sound : (s : Tables) (ts : List PlainTerm) (es : List Expression) → AreBoolean ts → AreTexts s ts es → AllByRecursion (IsSound s) ts
both_sound s [] es h k = tt
both_sound s (t ∷ ts) [] h k = absurd k
both_sound s (t ∷ ts) (e ∷ es) h k = ((h.0.parts, ap is_some k.0), both_sound s ts es h.1 k.1)

module _ (enums : Enums) (text : List ℕ) (x : Stage) (state : State) (f : FitsAt enums x state) (script : Script text state) where
  pub ordered : AreOrdered (names_of state)
  ordered = script_ordered text state script

  -- what is reached is typed, and has a text
  pub parts_sound : AllByRecursion (IsSound x.tables) (reached_terms x.terms)
  parts_sound = reached_sound enums x.tables state f.declared x.terms (both_sound x.tables x.terms (assertions_of state) f.conditions.are_typed f.assertions)

  counted : AreTypesCounted x.tables
  counted = counted_from stated_type_name 0 x.tables.types f.drawn.types

  called : AreFunctionsCounted x.tables
  called = counted_from (λ f place. stated_function_name place) 0 x.tables.functions f.drawn.functions

  free : (n : List ℕ) (y : Entry) → entries state n ≡ Some y → is_in n built_in_names ≡ false
  free n y e = not_built_in (names_of state) ordered n y e

  -- A definition's body applies what its term leaves to the interpretation.
  pub definition_selects : (older : Names) → Within (among older) (entries state) → (t : PlainTerm) → IsSound x.tables t → HasDefinition enums t → (n : List ℕ) → name_of_term x.tables t ≡ Some n
      → (sort body : Expression) → entries state n ≡ Some (Defined sort body) → Known older body → selections (among older) body ≡ own_selections x.tables t
  definition_selects older within t = body_selects enums x.tables state f.declared counted called free older within t
