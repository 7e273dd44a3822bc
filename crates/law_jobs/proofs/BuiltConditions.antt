-- Conditions as they are written, and as they are built: what is built of them is Boolean and formed, and true together with them.
use Rattle.std.proofs.Common.{◌≡◌, List, [], ◌∷◌, map, sym, ◌∙◌}
use Rattle.std.specs.List.{AllByRecursion, AllZip}
use Rattle.std.specs.Prelude.{◌↔◌}
use Rattle.law_terms.specs.Formed.{IsFormed}
use Rattle.law_terms.specs.Interpretations.{IsInterpretation}
use Rattle.law_terms.specs.Meaning.{AreTrue, term_value}
use Rattle.law_terms.specs.Plain.{BoolType, PlainTerm}
use Rattle.law_terms.specs.Tables.{Interpretation}
use Rattle.law_terms.specs.Typing.{AreBoolean, AreTyped}
use Rattle.law_terms.specs.TypeValues.{Enums}
use Rattle.law_folding.specs.Built.{built}
use Rattle.law_folding.specs.Refinement.{Refines}
use Rattle.law_folding.proofs.BuiltTerms.{built_stands}
use Rattle.law_folding.proofs.Records.{interpretations, values}
use Rattle.law_jobs.specs.Laws.{IsCondition}

pub built_booleans : (ts : List PlainTerm) → AllByRecursion IsCondition ts → AreBoolean (map built ts)
built_booleans [] h = tt
built_booleans (t ∷ ts) h = ((built_stands t h.0.boolean.parts).type BoolType h.0.boolean, built_booleans ts h.1)

pub built_formed : (ts : List PlainTerm) → AllByRecursion IsCondition ts → AllByRecursion IsFormed (map built ts)
built_formed [] h = tt
built_formed (t ∷ ts) h = ((built_stands t h.0.boolean.parts).formed h.0.formed, built_formed ts h.1)

pub all_formed : (ts : List PlainTerm) → AllByRecursion IsCondition ts → AllByRecursion IsFormed ts
all_formed [] h = tt
all_formed (t ∷ ts) h = (h.0.formed, all_formed ts h.1)

abbrev AreTypedTerms : List PlainTerm → Type 0
AreTypedTerms ts = AreTyped ts

pub are_typed : (ts : List PlainTerm) → AllByRecursion IsCondition ts → AreTypedTerms ts
are_typed [] h = tt
are_typed (t ∷ ts) h = (h.0.boolean.parts, are_typed ts h.1)

refine : (ts : List PlainTerm) → AllByRecursion IsCondition ts → AllZip Refines (map built ts) ts
refine [] h = tt
refine (t ∷ ts) h = (built_stands t h.0.boolean.parts, refine ts h.1)

module _ (enums : Enums) (I : Interpretation) where
  -- terms with the same values are true together
  true_together : (ts us : List PlainTerm) → map (term_value I) ts ≡ map (term_value I) us → AreTrue I ts → AreTrue I us
  true_together [] [] e h = tt
  true_together [] (u ∷ us) e h = cc
  true_together (t ∷ ts) [] e h = cc
  true_together (t ∷ ts) (u ∷ us) e h =
      let first : term_value I t ≡ term_value I u = cc in
      let others : map (term_value I) ts ≡ map (term_value I) us = cc in
      (sym first ∙ h.0, true_together ts us others h.1)

  -- an interpretation of conditions as they are written is one as they are built, and they are true together
  pub as_built : (ts : List PlainTerm) → AllByRecursion IsCondition ts → IsInterpretation enums ts I → IsInterpretation enums (map built ts) I × (AreTrue I ts ↔ AreTrue I (map built ts))
  as_built ts h given =
      let same = values enums I (map built ts) ts (refine ts h) (all_formed ts h) (are_typed ts h) given in
      (interpretations enums I (map built ts) ts (refine ts h) given, (λ true. true_together ts (map built ts) (sym same) true, λ true. true_together (map built ts) ts same true))
