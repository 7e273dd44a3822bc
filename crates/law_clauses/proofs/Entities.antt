-- Clauses of entities of an enum type are valid.
use Rattle.std.proofs.Common.{◌≡◌, ℕ, Bool, true, false, ◌||◌, List, [], ◌∷◌, ap, refl, sym, ◌∙◌, subst}
use Rattle.std.specs.Prelude.{bytes_eq, map}
use Rattle.std.specs.List.{list_any}
use Rattle.std.specs.Str.{chars}
use Rattle.std.proofs.lemmas.Slice.Eq.{bytes_eq-Decides}
use Rattle.law_terms.proofs.ValueOrder.{values_decided}
use Rattle.law_terms.specs.Meaning.{meaning}
use Rattle.law_terms.specs.Plain.{EntityType, EntityLiteral, PlainTerm, LiteralTerm}
use Rattle.law_terms.specs.Tables.{Interpretation}
use Rattle.law_terms.specs.TypeValues.{Enums, IsId, IsValue, members_of}
use Rattle.law_terms.specs.ValueOrder.{value_eq}
use Rattle.law_terms.specs.Values.{Value, BoolValue, BitVecValue, StringValue, EntityValue, ExtensionValue, NoneValue, SomeValue, RecordValue, SetValue}
use Rattle.law_clauses.specs.Entities.{MembersAreValid}
use Rattle.law_clauses.specs.Statements.{Same, Value_of, atom_truth}
use Rattle.law_clauses.proofs.Sequents.{or_behind}

-- the id of an entity
abbrev id_of : Value → List ℕ
id_of (EntityValue f i) = i
id_of v = []

entity_form : (enums : Enums) (e : List ℕ) (v : Value) → IsValue enums (EntityType e) v → (v ≡ EntityValue e (id_of v)) × IsId (members_of enums e) (id_of v)
entity_form enums e (EntityValue f i) h = (ap (λ g. EntityValue g i) h.0, h.1)
entity_form enums e (BoolValue b) h = absurd h
entity_form enums e (BitVecValue n a) h = absurd h
entity_form enums e (StringValue s) h = absurd h
entity_form enums e (ExtensionValue x) h = absurd h
entity_form enums e NoneValue h = absurd h
entity_form enums e (SomeValue v) h = absurd h
entity_form enums e (RecordValue fs) h = absurd h
entity_form enums e (SetValue vs) h = absurd h

among : (I : Interpretation) (t : PlainTerm) (e i : List ℕ) (ms : List (List ℕ)) → meaning I t ≡ EntityValue e i → list_any (λ m. bytes_eq (chars m) i) ms ≡ true → list_any (atom_truth I) (map (λ m. Same (Value_of t) (Value_of (LiteralTerm (EntityLiteral e m)))) ms) ≡ true
among I t e i [] p h = h
among I t e i (m ∷ ms) p h = by (bytes_eq (chars m) i) refl (λ k. among I t e i ms p k)
  where
    by : (b : Bool) → bytes_eq (chars m) i ≡ b → (list_any (λ n. bytes_eq (chars n) i) ms ≡ true → list_any (atom_truth I) (map (λ n. Same (Value_of t) (Value_of (LiteralTerm (EntityLiteral e n)))) ms) ≡ true) → list_any (atom_truth I) (map (λ n. Same (Value_of t) (Value_of (LiteralTerm (EntityLiteral e n)))) (m ∷ ms)) ≡ true
    by true q later = ap (λ c. c || list_any (atom_truth I) (map (λ n. Same (Value_of t) (Value_of (LiteralTerm (EntityLiteral e n)))) ms)) ((values_decided (meaning I t) (EntityValue e (chars m))).1 (p ∙ ap (EntityValue e) (sym ((bytes_eq-Decides (chars m) i).0 q))))
    by false q later = or_behind (value_eq (meaning I t) (EntityValue e (chars m))) (list_any (atom_truth I) (map (λ n. Same (Value_of t) (Value_of (LiteralTerm (EntityLiteral e n)))) ms)) (later (sym (ap (λ c. c || list_any (λ n. bytes_eq (chars n) i) ms) q) ∙ h))

pub members_are_valid : MembersAreValid
members_are_valid enums roots e ms t q s I g h =
    let p = entity_form enums e (meaning I t) (s I g) in
    among I t e (id_of (meaning I t)) ms p.0 (subst (λ o. IsId o (id_of (meaning I t))) q p.1)
