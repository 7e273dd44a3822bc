-- Record types and records compare as their attributes and what they have for each.
use Rattle.std.proofs.Common.{◌≡◌, ℕ, true, List, [], ◌∷◌, refl, ap}
use Rattle.std.specs.Cmp.Lexicographic.{slice_cmp}
use Rattle.std.specs.Ordering.{ordering_then}
use Rattle.std.specs.Prelude.{◌&&◌, Bool}
use Rattle.std.specs.declared.cmp.Ordering.{Ordering}
use Rattle.std.specs.declared.cmp.Ordering.TheVariants.{Less, Equal, Greater}
use Rattle.law_terms.specs.Plain.{AttributeTypes, no_attributes, attribute, PlainFields, no_fields, one_field}
use Rattle.law_terms.specs.TermOrder.{fields_cmp, term_cmp}
use Rattle.law_terms.specs.Types.{attribute_types_cmp, type_cmp}
use Rattle.law_terms.specs.ValueOrder.{text_cmp}
use Rattle.law_terms.specs.Nodes.{Meaning}
use Rattle.law_terms.specs.Parts.{field_names, field_terms, types_in, attribute_names}
use Rattle.smt_nodes.specs.Order.{are_alike, meaning_cmp}

-- attributes with what stands for each, one behind the other: the attribute first
abbrev pub attributes_cmp : List (List ℕ) → List (List ℕ) → List Meaning → List Meaning → Ordering
attributes_cmp [] [] ps qs = Equal
attributes_cmp [] (b ∷ bs) ps qs = Less
attributes_cmp (a ∷ as') [] ps qs = Greater
attributes_cmp (a ∷ as') (b ∷ bs) (p ∷ ps) (q ∷ qs) = ordering_then (ordering_then (text_cmp a b) (meaning_cmp p q)) (attributes_cmp as' bs ps qs)
attributes_cmp (a ∷ as') (b ∷ bs) ps qs = slice_cmp meaning_cmp ps qs

pub types_by_attributes : (x y : AttributeTypes) → attribute_types_cmp x y ≡ attributes_cmp (attribute_names x) (attribute_names y) (types_in x) (types_in y)
types_by_attributes no_attributes no_attributes = refl
types_by_attributes no_attributes (attribute b u y) = refl
types_by_attributes (attribute a t x) no_attributes = refl
types_by_attributes (attribute a t x) (attribute b u y) = ap (ordering_then (ordering_then (text_cmp a b) (type_cmp t u))) (types_by_attributes x y)

pub fields_by_attributes : (x y : PlainFields) → fields_cmp x y ≡ attributes_cmp (field_names x) (field_names y) (field_terms x) (field_terms y)
fields_by_attributes no_fields no_fields = refl
fields_by_attributes no_fields (one_field b u y) = refl
fields_by_attributes (one_field a t x) no_fields = refl
fields_by_attributes (one_field a t x) (one_field b u y) = ap (ordering_then (ordering_then (text_cmp a b) (term_cmp t u))) (fields_by_attributes x y)

-- two lists are alike as far as both go
abbrev pub alike_lists : List Meaning → List Meaning → Bool
alike_lists (p ∷ ps) (q ∷ qs) = are_alike p q && alike_lists ps qs
alike_lists ps qs = true

pub types_alike : (x y : AttributeTypes) → alike_lists (types_in x) (types_in y) ≡ true
types_alike no_attributes no_attributes = refl
types_alike no_attributes (attribute b u y) = refl
types_alike (attribute a t x) no_attributes = refl
types_alike (attribute a t x) (attribute b u y) = types_alike x y

pub fields_alike : (x y : PlainFields) → alike_lists (field_terms x) (field_terms y) ≡ true
fields_alike no_fields no_fields = refl
fields_alike no_fields (one_field b u y) = refl
fields_alike (one_field a t x) no_fields = refl
fields_alike (one_field a t x) (one_field b u y) = fields_alike x y
