-- Clauses of equality and of congruence are valid.
use Rattle.std.proofs.Common.{◌≡◌, List, [], ◌∷◌, ap, refl, sym, ◌∙◌}
use Rattle.std.specs.Prelude.{map}
use Rattle.law_terms.specs.Meaning.{meaning, meanings, field_meanings}
use Rattle.law_terms.specs.Operators.{apply}
use Rattle.law_terms.specs.Plain.{PlainTerm, record_fields, terms}
use Rattle.law_terms.specs.Tables.{Interpretation}
use Rattle.law_terms.specs.ValueOrder.{set_of}
use Rattle.law_terms.specs.Values.{SomeValue, RecordValue, one_field_value}
use Rattle.law_clauses.specs.Equality.{CongruenceIsValid, EqualityIsValid, FieldPair, first_terms, same_pairs, second_terms}
use Rattle.law_clauses.specs.Sequents.{Hold}
use Rattle.law_clauses.specs.Statements.{element_value}
use Rattle.law_clauses.proofs.Structure.{is_same, same_value}

pub equality_is_valid : EqualityIsValid
equality_is_valid = record {
  itself = λ a I p. is_same (element_value I a) (element_value I a) refl;
  turned = λ a b I p. is_same _ _ (sym (same_value (element_value I a) (element_value I b) p.0));
  through = λ a b c I p. is_same _ _ (same_value (element_value I a) (element_value I b) p.0 ∙ same_value (element_value I b) (element_value I c) p.1.0);
}

module _ (I : Interpretation) where
  -- arguments that are the same have the same values
  pub same_meanings : (ps : List (PlainTerm × PlainTerm)) → Hold I (same_pairs ps) → meanings I (terms (first_terms ps)) ≡ meanings I (terms (second_terms ps))
  same_meanings [] h = refl
  same_meanings (p ∷ ps) h = ap (λ v. v ∷ meanings I (terms (first_terms ps))) (same_value (meaning I p.0) (meaning I p.1) h.0) ∙ ap (λ vs. meaning I p.1 ∷ vs) (same_meanings ps h.1)

  same_fields : (fs : List FieldPair) → Hold I (same_pairs (map (λ f. f.1) fs)) → field_meanings I (record_fields (map (λ f. (f.0, f.1.0)) fs)) ≡ field_meanings I (record_fields (map (λ f. (f.0, f.1.1)) fs))
  same_fields [] h = refl
  same_fields (f ∷ fs) h = ap (λ v. one_field_value f.0 v (field_meanings I (record_fields (map (λ g. (g.0, g.1.0)) fs)))) (same_value (meaning I f.1.0) (meaning I f.1.1) h.0) ∙ ap (one_field_value f.0 (meaning I f.1.1)) (same_fields fs h.1)

pub congruence_is_valid : CongruenceIsValid
congruence_is_valid = record {
  operators = λ o ty ps I h. is_same _ _ (ap (apply I o ty) (same_meanings I ps h));
  sets = λ ty ps I h. is_same _ _ (ap set_of (same_meanings I ps h));
  options = λ t u I h. is_same _ _ (ap SomeValue (same_value (meaning I t) (meaning I u) h.0));
  records = λ fs I h. is_same _ _ (ap RecordValue (same_fields I fs h));
}
