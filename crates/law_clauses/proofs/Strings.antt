-- Clauses of strings and patterns are valid.
use Rattle.std.proofs.Common.{◌≡◌, ℕ, true, List, [], ◌∷◌, ap, refl, sym, ◌∙◌}
use Rattle.std.specs.Prelude.{◌==◌, map}
use Rattle.std.specs.Str.{chars}
use Rattle.std.proofs.lemmas.Bool.{and_parts}
use Rattle.std.proofs.lemmas.Bool.Decides.{Decides-eqb}
use Rattle.law_terms.specs.Meaning.{meaning}
use Rattle.law_terms.specs.Operators.{characters}
use Rattle.law_terms.specs.Patterns.{matches, some_end}
use Rattle.law_terms.specs.Plain.{Character, StringType}
use Rattle.law_terms.specs.Shapes.{IsShaped}
use Rattle.law_terms.specs.Values.{Value, BoolValue, BitVecValue, StringValue, EntityValue, ExtensionValue, NoneValue, SomeValue, RecordValue, SetValue}
use Rattle.law_clauses.specs.Strings.{StringsAreValid}
use Rattle.law_clauses.proofs.Sequents.{or_one}
use Rattle.law_clauses.proofs.Structure.{is_same}

ends : (s : List ℕ) → some_end (λ rest. matches [] rest) s ≡ true
ends [] = refl
ends (c ∷ s) = ends s

exact : (cs s : List ℕ) → matches (map Character cs) s ≡ true → s ≡ cs
exact [] [] e = refl
exact [] (d ∷ s) e = cc
exact (c ∷ cs) [] e = cc
exact (c ∷ cs) (d ∷ s) e =
    let p = and_parts (c == d) (matches (map Character cs) s) e in
    ap (λ x. x ∷ s) (sym ((Decides-eqb c d).0 p.0)) ∙ ap (λ xs. c ∷ xs) (exact cs s p.1)

string_form : (v : Value) → IsShaped StringType v → v ≡ StringValue (characters v)
string_form (StringValue s) h = refl
string_form (BoolValue b) h = absurd h
string_form (BitVecValue n a) h = absurd h
string_form (EntityValue e i) h = absurd h
string_form (ExtensionValue x) h = absurd h
string_form NoneValue h = absurd h
string_form (SomeValue v) h = absurd h
string_form (RecordValue fs) h = absurd h
string_form (SetValue vs) h = absurd h

pub strings_are_valid : StringsAreValid
strings_are_valid = record {
  anything = λ t I h. or_one _ (ends (characters (meaning I t)));
  literal = λ enums roots s t w I g h. is_same _ _ (string_form (meaning I t) (w I g) ∙ ap StringValue (exact (chars s) (characters (meaning I t)) h.0));
  within = λ p q t f I h. or_one _ (f (characters (meaning I t)) h.0);
  apart = λ p q t f I h. absurd (f (characters (meaning I t)) h.0 h.1.0);
}
