-- Old Boolean terms and their new ones: true together, in interpretations that go one to one onto each other.
use Rattle.std.specs.Prelude.{◌≡◌, ◌↔◌, ℕ, None, List, [], map}
use Rattle.std.specs.List.{AllByRecursion}
use Rattle.law_terms.specs.Faults.{first_fault}
use Rattle.law_terms.specs.Formed.{IsFormed}
use Rattle.law_terms.specs.Interpretations.{Agree, IsInterpretation}
use Rattle.law_terms.specs.Meaning.{term_value, AreTrue}
use Rattle.law_terms.specs.Tables.{Interpretation}
use Rattle.law_terms.specs.Typing.{AreBoolean}
use Rattle.law_terms.specs.TypeValues.{Enums}
use Rattle.law_terms.specs.Plain.{PlainTerm}
use Rattle.law_blasting.specs.Blasted.{all_names, bits, unbits}
use Rattle.law_blasting.specs.Laws.{root}
use Rattle.law_blasting.specs.NewTerms.{IsBooleanOver}
use Rattle.law_blasting.specs.Numbering.{variables_of}
use Rattle.law_blasting.specs.Refusals.{first_refusal}

-- Boolean terms that are formed and have no refusal
pub record AreBlastable (ts : List PlainTerm) : Type 0 where
  pub typed : AreBoolean ts
  pub formed : AllByRecursion IsFormed ts
  pub taken : first_refusal ts ≡ None

-- the new terms of old ones, one for each, over new variables that stand for the bits of the old ones
abbrev pub new_roots : List PlainTerm → List PlainTerm
new_roots ts = map (root (variables_of ts)) ts

-- the names of the new variables of some terms
abbrev pub names_of : List PlainTerm → List (List ℕ)
names_of ts = all_names 0 (variables_of ts)

-- What the new terms are to the old: conditions over the new variables alone. An interpretation of the old terms gives one of the new
-- by its bits, and each of the new comes back as one of the old, with the same values. So the ones have a model where the others do.
pub record AreFaithful (enums : Enums) (ts : List PlainTerm) : Type 0 where
  -- the new terms are conditions, whatever enum types there are, and are terms over the new variables alone
  pub typed : AreBoolean (new_roots ts)
  pub formed : AllByRecursion IsFormed (new_roots ts)
  pub without_fault : first_fault [] (new_roots ts) ≡ None
  pub terms : AllByRecursion (IsBooleanOver (names_of ts)) (new_roots ts)
  -- the bits of an interpretation of the old terms are one of the new, which get the same values
  pub forth : (I : Interpretation) → IsInterpretation enums ts I →
      IsInterpretation [] (new_roots ts) (bits (variables_of ts) I)
      × (map (term_value (bits (variables_of ts) I)) (new_roots ts) ≡ map (term_value I) ts)
  -- an interpretation of the new terms is, on what these reach, the bits of one of the old, which get the same values
  pub back : (J : Interpretation) → IsInterpretation [] (new_roots ts) J →
      IsInterpretation enums ts (unbits (variables_of ts) J) × Agree (new_roots ts) (bits (variables_of ts) (unbits (variables_of ts) J)) J
      × (map (term_value J) (new_roots ts) ≡ map (term_value (unbits (variables_of ts) J)) ts)
  -- so the old terms are true together exactly where the new ones are
  pub together : (I : Interpretation) → IsInterpretation enums ts I → AreTrue I ts ↔ AreTrue (bits (variables_of ts) I) (new_roots ts)
  pub together_back : (J : Interpretation) → IsInterpretation [] (new_roots ts) J →
      AreTrue J (new_roots ts) ↔ AreTrue (unbits (variables_of ts) J) ts

-- The new terms of all old ones that are Boolean, formed and without refusal are faithful to them.
abbrev pub BlastIsFaithful : Type 0
BlastIsFaithful = (enums : Enums) (ts : List PlainTerm) → AreBlastable ts → AreFaithful enums ts
