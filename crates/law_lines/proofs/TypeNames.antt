-- The names that a type's entry declares, listed.
use Rattle.std.proofs.Common.{◌≡◌, ℕ, zero, suc, List, [], ◌∷◌, ◌++◌, map, length, refl, ap, ◌∙◌, Option, Some, None}
use Rattle.std.specs.List.{flat_map}
use Rattle.std.proofs.lemmas.List.{append-nil}
use Rattle.law_terms.specs.Plain.{PlainType, EntityType, ExtensionType, RecordType, AttributeTypes, no_attributes, attribute}
use Rattle.law_terms.specs.TypeValues.{Enums, members_of}
use Rattle.law_terms.specs.Parts.{attribute_names}
use Rattle.law_texts.specs.Reading.{Expression}
use Rattle.law_scripts.specs.Meanings.{names_in}
use Rattle.law_lines.specs.LineForms.{member_constructors, attribute_selectors, entity_lines}
use Rattle.law_lines.specs.EntryNames.{member_name, attribute_name, id_name}
use Rattle.law_lines.specs.NameTables.{no_names}
use Rattle.law_lines.specs.Entries.{attribute_sorts}
use Rattle.law_lines.specs.Command.{all_built}
use Rattle.law_lines.specs.Fit.{kind_names, names_of_line, names_of_type}

-- names that are made of places, so many from one on
abbrev pub placed : (ℕ → List ℕ) → (place count : ℕ) → List (List ℕ)
placed f place zero = []
placed f place (suc count) = f place ∷ placed f (suc place) count

-- of an enum type the names of its members, of another the type's own and that of the id
abbrev pub listed_entity : Option (List (List ℕ)) → List ℕ → List (List ℕ)
listed_entity None n = n ∷ id_name n ∷ []
listed_entity (Some members) n = placed (member_name n) 0 (length members)

-- the names that a type's entry declares, case by case
abbrev pub listed : Enums → PlainType → List ℕ → List (List ℕ)
listed enums (EntityType type) n = listed_entity (members_of enums type) n
listed enums (ExtensionType kind) n = kind_names kind
listed enums (RecordType attributes) n = n ∷ placed (attribute_name n) 0 (length (attribute_names attributes))
listed enums t n = []

pub members_named : (d : List ℕ) (p : ℕ) (ms : List (List ℕ)) → names_in (all_built (member_constructors d p ms)) ≡ placed (member_name d) p (length ms)
members_named d p [] = refl
members_named d p (m ∷ ms) = ap (λ (t : List (List ℕ)). member_name d p ∷ t) (members_named d (suc p) ms)

selectors_named : (d : List ℕ) (p : ℕ) (sorts : List Expression) → map (λ x. x.0) (attribute_selectors d p sorts) ≡ placed (attribute_name d) p (length sorts)
selectors_named d p [] = refl
selectors_named d p (sort ∷ sorts) = ap (λ (t : List (List ℕ)). attribute_name d p ∷ t) (selectors_named d (suc p) sorts)

entity_listed : (o : Option (List (List ℕ))) (type n : List ℕ) → flat_map names_of_line (entity_lines o type n) ≡ listed_entity o n
entity_listed None type n = refl
entity_listed (Some members) type n = append-nil (names_in (all_built (member_constructors n 0 members))) ∙ members_named n 0 members

sorts_many : (x : AttributeTypes) → length (attribute_sorts no_names x) ≡ length (attribute_names x)
sorts_many no_attributes = refl
sorts_many (attribute a t x) = ap suc (sorts_many x)

-- the names of a record's constructor and of its selectors, of which there are so many
pub record_listed : (n : List ℕ) (sorts : List Expression) (count : ℕ) → length sorts ≡ count → n ∷ (map (λ x. x.0) (attribute_selectors n 0 sorts) ++ []) ≡ n ∷ placed (attribute_name n) 0 count
record_listed n sorts count h = ap (λ (t : List (List ℕ)). n ∷ t) (append-nil (map (λ x. x.0) (attribute_selectors n 0 sorts)) ∙ selectors_named n 0 sorts ∙ ap (placed (attribute_name n) 0) h)

pub names_listed : (enums : Enums) (t : PlainType) (n : List ℕ) → names_of_type enums t n ≡ listed enums t n
names_listed enums (EntityType type) n = entity_listed (members_of enums type) type n
names_listed enums (ExtensionType kind) n = append-nil (kind_names kind)
names_listed enums (RecordType x) n = append-nil (n ∷ (map (λ y. y.0) (attribute_selectors n 0 (attribute_sorts no_names x)) ++ [])) ∙ record_listed n (attribute_sorts no_names x) _ (sorts_many x)
names_listed enums t n = refl
