-- Records and their types by their attributes and by what these have.
use Rattle.std.proofs.Common.{◌≡◌, ℕ, suc, ◌+◌, ◌<◌, List, [], ◌∷◌, ◌++◌, Some, add-one, get_or, length, map, take, refl, sym, ap, ◌∙◌, subst}
use Rattle.std.proofs.Math.Seq.{take-suc}
use Rattle.std.specs.Prelude.{IsTrue, option_map}
use Rattle.std.specs.declared.alloc.Global.{Global}
use Rattle.std.specs.declared.rc.RcStr.{RcStr}
use Rattle.law_terms.specs.Plain.{PlainType, AttributeTypes, no_attributes, attribute, PlainFields, no_fields, one_field, attribute_types, record_fields}
use Rattle.law_terms.specs.Types.{field_types}
use Rattle.law_terms.specs.ValueOrder.{ascends, text_cmp}
use Rattle.law_terms.specs.Meanings.{attributes_in, fields_in}
use Rattle.law_terms.specs.Nodes.{Meaning, TypeMeaning, TermMeaning}
use Rattle.law_terms.specs.Parts.{field_names, field_terms, types_in, attribute_names}
use Rattle.smt_term.specs.View.{fields_of, plain_attribute, plain_attributes, plain_field, plain_fields, plain_term, plain_type}
use Rattle.smt_term.specs.declared.maps.TermMap.{TermMap}
use Rattle.smt_term.specs.declared.type_maps.TypeMap.{TypeMap}
use Rattle.smt_term.specs.declared.term.Term.{Term}
use Rattle.smt_term.specs.declared.types.TermType.{TermType}
use Rattle.smt_nodes.proofs.MapNames.{term_names, type_names}

-- ---- there and back
pub attributes_round : (x : AttributeTypes) → attributes_in (attribute_names x) (types_in x) ≡ Some x
attributes_round no_attributes = refl
attributes_round (attribute a t x) = ap (option_map (attribute a t)) (attributes_round x)

pub fields_round : (x : PlainFields) → fields_in (field_names x) (field_terms x) ≡ Some x
fields_round no_fields = refl
fields_round (one_field a t x) = ap (option_map (one_field a t)) (fields_round x)

-- ---- the types of a record type, and those of fields
abbrev pub types_listed : AttributeTypes → List PlainType
types_listed no_attributes = []
types_listed (attribute a t x) = t ∷ types_listed x

pub types_in-listed : (x : AttributeTypes) → types_in x ≡ map TypeMeaning (types_listed x)
types_in-listed no_attributes = refl
types_in-listed (attribute a t x) = ap (λ l. TypeMeaning t ∷ l) (types_in-listed x)

pub field_names-typed : (x : PlainFields) → attribute_names (field_types x) ≡ field_names x
field_names-typed no_fields = refl
field_names-typed (one_field a t x) = ap (λ l. a ∷ l) (field_names-typed x)

-- ---- lists of meanings that are made of lists, one item after the other
pub record Listing {X : Type 0} (f : X → Meaning) (g : List X → List Meaning) : Type 0 where
  pub none : g [] ≡ []
  pub more : (x : X) (xs : List X) → g (x ∷ xs) ≡ f x ∷ g xs

abbrev pub term_meaning : Term → Meaning
term_meaning t = TermMeaning (plain_term t)

abbrev pub terms_meant : List Term → List Meaning
terms_meant ts = map TermMeaning (map plain_term ts)

abbrev pub field_meaning : RcStr Global × Term → Meaning
field_meaning p = TermMeaning (plain_term p.1)

abbrev pub fields_meant : List (RcStr Global × Term) → List Meaning
fields_meant ps = field_terms (record_fields (map plain_field ps))

abbrev pub type_meaning : RcStr Global × TermType → Meaning
type_meaning p = TypeMeaning (plain_type p.1)

abbrev pub types_meant : List (RcStr Global × TermType) → List Meaning
types_meant ps = types_in (attribute_types (map plain_attribute ps))

pub terms_listed : Listing term_meaning terms_meant
terms_listed = record { none = refl; more = λ x xs. refl }

pub fields_listed : Listing field_meaning fields_meant
fields_listed = record { none = refl; more = λ x xs. refl }

pub types_listing : Listing type_meaning types_meant
types_listing = record { none = refl; more = λ x xs. refl }

module _ {X : Type 0} {f : X → Meaning} {g : List X → List Meaning} (w : Listing f g) where
  pub listed-append : (xs : List X) (x : X) → g (xs ++ x ∷ []) ≡ g xs ++ f x ∷ []
  listed-append [] x = w.more x [] ∙ (ap (λ l. f x ∷ l) w.none ∙ ap (λ l. l ++ f x ∷ []) (sym w.none))
  listed-append (y ∷ xs) x = w.more y (xs ++ x ∷ []) ∙ (ap (λ l. f y ∷ l) (listed-append xs x) ∙ ap (λ l. l ++ f x ∷ []) (sym (w.more y xs)))

  pub listed-length : (xs : List X) → length (g xs) ≡ length xs
  listed-length [] = ap length w.none
  listed-length (x ∷ xs) = ap length (w.more x xs) ∙ ap suc (listed-length xs)

  pub listed-take : (xs : List X) (i : ℕ) (x : X) → i < length xs → x ≡ get_or xs i x → g (take (i + 1) xs) ≡ g (take i xs) ++ f x ∷ []
  listed-take xs i x h s =
      let one : take (i + 1) xs ≡ take i xs ++ x ∷ [] = ap (λ n. take n xs) (add-one i) ∙ (take-suc xs i x h ∙ ap (λ x. take i xs ++ x ∷ []) (sym s)) in
      ap g one ∙ listed-append (take i xs) x

-- ---- the attributes of maps ascend
abbrev Ascends : List (List ℕ) → Type 0
Ascends l = IsTrue (ascends text_cmp l)

pub types_ascend : (m : TypeMap) → IsTrue (ascends text_cmp (attribute_names (attribute_types (plain_attributes m))))
types_ascend m = subst Ascends (type_names m.pairs.items.value.items) m.pairs.ascending

pub fields_ascend : (m : TermMap) → IsTrue (ascends text_cmp (field_names (record_fields (plain_fields m))))
fields_ascend m = subst Ascends (term_names (fields_of m)) m.pairs.ascending
