-- The steps of types and of functions.
use Rattle.std.proofs.Common.{◌≡◌, ℕ, suc, true, ◌&&◌, List, [], ◌∷◌, length, refl, sym, ap, ◌∙◌, subst, Option, Some, None}
use Rattle.std.specs.Prelude.{codes}
use Rattle.std.specs.List.{list_all}
use Rattle.std.proofs.lemmas.Bool.{and_from}
use Rattle.law_terms.specs.Plain.{ExtensionKind, IpAddrKind, DecimalKind, DatetimeKind, DurationKind, PlainType, OptionType, BitVecType, BoolType, EntityType, ExtensionType, StringType, RecordType, SetType, AttributeTypes, no_attributes, attribute, PlainFunction}
use Rattle.law_terms.specs.TypeValues.{Enums, members_of}
use Rattle.law_terms.specs.Parts.{attribute_names}
use Rattle.law_texts.specs.Reading.{Expression}
use Rattle.law_scripts.specs.Script.{State, has_constructor, name}
use Rattle.law_scripts.specs.Meanings.{are_fields}
use Rattle.law_scripts.specs.Written.{is_name}
use Rattle.law_scripts.specs.Sorts.{bit_sort, option_sort}
use Rattle.law_lines.specs.Line.{Fielded, DeclareDatatype}
use Rattle.law_lines.specs.LineForms.{kind_constructors, member_constructors, attribute_selectors, entity_lines}
use Rattle.law_lines.specs.EntryNames.{member_name, attribute_name, kind_name}
use Rattle.law_lines.specs.Lines.{Written, declare_entity, declare_kind, declare_record, encode_type, encode_attributes, encode_function, unless_named, next_entity, next_record}
use Rattle.law_lines.specs.NameTables.{Tables, name_of_type, name_of_function}
use Rattle.law_lines.specs.Naming.{type_sort}
use Rattle.law_lines.specs.Entries.{TypeHasEntries, AttributesHaveEntries, attribute_sorts}
use Rattle.law_lines.specs.TableGrowth.{Keeps}
use Rattle.law_lines.proofs.Grow.{type_grows, attributes_grow, names_stay}
use Rattle.law_lines.proofs.Making.{types_are_made}
use Rattle.law_lines.proofs.Stays.{sorts_stay, sorts_stand}
use Rattle.law_lines.specs.Command.{all_built, is_written, is_written_constructor}
use Rattle.law_lines.specs.Encodable.{HasMember, IsEncodableType, AreEncodableTypes}
use Rattle.law_lines.specs.Fit.{EachLine, Fit, AreObeyable, IsObeyable}
use Rattle.law_lines.proofs.Known.{GoodSort, sort_good}
use Rattle.law_lines.proofs.Enter.{has_stays}
use Rattle.law_lines.proofs.Single.{no_step, steps_then, comment_first, unless_steps, function_steps}
use Rattle.law_lines.proofs.Datatype.{with_type, type_line, field_sort}
use Rattle.law_lines.proofs.Drawn.{entity_new, record_new, kind_new, selector_is_name, member_is_name, id_is_name}
use Rattle.law_lines.proofs.TypeNames.{listed_entity, members_named, record_listed, names_listed}

-- ---- entities

member_fields : (state : State) (d : List ℕ) (p : ℕ) (ms : List (List ℕ)) → list_all (λ c. are_fields state [] c.selectors) (all_built (member_constructors d p ms)) ≡ true
member_fields state d p [] = refl
member_fields state d p (m ∷ ms) = member_fields state d (suc p) ms

members_written : (s : Tables) (p : ℕ) (ms : List (List ℕ)) → list_all is_written_constructor (member_constructors (next_entity s) p ms) ≡ true
members_written s p [] = refl
members_written s p (m ∷ ms) = and_from (is_name (member_name (next_entity s) p)) _ (member_is_name s p) (members_written s (suc p) ms)

has_first : (d : List ℕ) (p : ℕ) (ms : List (List ℕ)) → HasMember (Some ms) → has_constructor (all_built (member_constructors d p ms)) ≡ true
has_first d p [] h = absurd h
has_first d p (m ∷ ms) h = refl

entity_steps : (enums : Enums) (type : List ℕ) (s : Tables) → HasMember (members_of enums type) → IsObeyable enums s (declare_entity enums type s)
entity_steps enums type s some = go (members_of enums type) refl
  where
    d : List ℕ
    d = next_entity s

    go : (o : Option (List (List ℕ))) → o ≡ members_of enums type → AreObeyable enums s (entity_lines o type (next_entity s)) (with_type (EntityType type) (next_entity s) s)
    go None e = comment_first enums _ s _ _ (type_line enums s (EntityType type) (next_entity s) (entity_new enums type s) _ (ap (λ o. listed_entity o (next_entity s)) e ∙ sym (names_listed enums (EntityType type) (next_entity s))) refl
        (λ state fit. let g = sort_good enums s state fit StringType tt tt in (
          rw (field_sort state (name (codes "String")) g.0) refl,
          rw ((entity_new enums type s).name, id_is_name s) refl,
        )) tt (λ P c h. subst (λ o. EachLine P (entity_lines o type (next_entity s))) e (c _, (h, tt))))
    go (Some members) e = comment_first enums _ s _ _ (type_line enums s (EntityType type) (next_entity s) (entity_new enums type s) _
        (members_named (next_entity s) 0 members ∙ ap (λ o. listed_entity o (next_entity s)) e ∙ sym (names_listed enums (EntityType type) (next_entity s))) (has_first (next_entity s) 0 members (subst HasMember (sym e) some))
        (λ state fit. (member_fields state (next_entity s) 0 members, members_written s 0 members)) tt (λ P c h. subst (λ o. EachLine P (entity_lines o type (next_entity s))) e (c _, (h, tt))))

-- ---- kinds

kind_fields : (enums : Enums) (k : ExtensionKind) (s : Tables) (state : State) → Fit enums s state → (list_all (λ c. are_fields state [] c.selectors) (all_built (kind_constructors k)) ≡ true) × (list_all is_written_constructor (kind_constructors k) ≡ true)
kind_fields enums IpAddrKind s state fit =
    let a = field_sort state (option_sort (bit_sort 5)) (sort_good enums s state fit (OptionType (BitVecType 5)) refl tt).0 in
    (rw a refl, refl)
kind_fields enums DecimalKind s state fit = (refl, refl)
kind_fields enums DatetimeKind s state fit = (refl, refl)
kind_fields enums DurationKind s state fit = (refl, refl)

has_kind_constructor : (k : ExtensionKind) → has_constructor (all_built (kind_constructors k)) ≡ true
has_kind_constructor IpAddrKind = refl
has_kind_constructor DecimalKind = refl
has_kind_constructor DatetimeKind = refl
has_kind_constructor DurationKind = refl

kind_steps : (enums : Enums) (k : ExtensionKind) (s : Tables) → name_of_type s (ExtensionType k) ≡ None → IsObeyable enums s (declare_kind k s)
kind_steps enums k s none = type_line enums s (ExtensionType k) (kind_name k) (kind_new enums k s none) (kind_constructors k) (sym (names_listed enums (ExtensionType k) (kind_name k))) (has_kind_constructor k) (λ state fit. kind_fields enums k s state fit) tt (λ P c h. (h, tt))

-- ---- records

-- the sorts of attributes
abbrev pub SortsAre : Tables → AttributeTypes → List Expression → Type 0
SortsAre s no_attributes [] = Unit {0}
SortsAre s no_attributes (sort ∷ sorts) = ⊥
SortsAre s (attribute a t x) [] = ⊥
SortsAre s (attribute a t x) (sort ∷ sorts) = (TypeHasEntries s t × (type_sort s t ≡ sort)) × SortsAre s x sorts

pub sorts_are : (enums : Enums) (x : AttributeTypes) (s : Tables) → SortsAre (encode_attributes enums x s).tables x (encode_attributes enums x s).made
sorts_are enums no_attributes s = tt
sorts_are enums (attribute a t x) s =
    let u : Tables = (encode_type enums t s).tables in
    let v : Tables = (encode_attributes enums x u).tables in
    let k = names_stay enums u (encode_attributes enums x u).lines v (attributes_grow enums x u) in
    let h = sorts_stand enums t s in
    ((has_stays u v k.types t h, sorts_stay u v t k h ∙ types_are_made enums t s), sorts_are enums x u)

as_many : (s : Tables) (x : AttributeTypes) (sorts : List Expression) → SortsAre s x sorts → length sorts ≡ length (attribute_names x)
as_many s no_attributes [] h = refl
as_many s no_attributes (sort ∷ sorts) h = absurd h
as_many s (attribute a t x) [] h = absurd h
as_many s (attribute a t x) (sort ∷ sorts) h = ap suc (as_many s x sorts h.1)

-- fields of a record's constructor
fields_are : (enums : Enums) (s : Tables) (state : State) → Fit enums s state → (x : AttributeTypes) → AreEncodableTypes enums x → (sorts : List Expression) → SortsAre s x sorts → (p : ℕ)
    → (are_fields state [] (attribute_selectors (next_record s) p sorts) ≡ true) × (list_all (λ y. is_name y.0 && is_written y.1) (attribute_selectors (next_record s) p sorts) ≡ true)
fields_are enums s state fit no_attributes f [] h p = (refl, refl)
fields_are enums s state fit no_attributes f (sort ∷ sorts) h p = absurd h
fields_are enums s state fit (attribute a t x) f [] h p = absurd h
fields_are enums s state fit (attribute a t x) f (sort ∷ sorts) h p =
    let g : GoodSort state sort = subst (λ e. GoodSort state e) h.0.1 (sort_good enums s state fit t f.0 h.0.0) in
    let r = fields_are enums s state fit x f.1 sorts h.1 (suc p) in
    (rw (field_sort state sort g.0) r.0, and_from (is_name (attribute_name (next_record s) p) && is_written sort) _ (and_from (is_name (attribute_name (next_record s) p)) (is_written sort) (selector_is_name s p) g.1) r.1)

sorts_stand_for : (s : Tables) (x : AttributeTypes) (sorts : List Expression) → SortsAre s x sorts → AttributesHaveEntries s x
sorts_stand_for s no_attributes [] h = tt
sorts_stand_for s no_attributes (sort ∷ sorts) h = absurd h
sorts_stand_for s (attribute a t x) [] h = absurd h
sorts_stand_for s (attribute a t x) (sort ∷ sorts) h = (h.0.0, sorts_stand_for s x sorts h.1)

sorts_are_so : (s : Tables) (x : AttributeTypes) (sorts : List Expression) → SortsAre s x sorts → attribute_sorts s x ≡ sorts
sorts_are_so s no_attributes [] h = refl
sorts_are_so s no_attributes (sort ∷ sorts) h = absurd h
sorts_are_so s (attribute a t x) [] h = absurd h
sorts_are_so s (attribute a t x) (sort ∷ sorts) h = let a = h.0.1 in let b = sorts_are_so s x sorts h.1 in λ i. a i ∷ b i

record_steps : (enums : Enums) (x : AttributeTypes) (sorts : List Expression) (s : Tables) → AreEncodableTypes enums x → SortsAre s x sorts → IsObeyable enums s (declare_record x sorts s)
record_steps enums x sorts s f h =
    let d : List ℕ = next_record s in
    comment_first enums _ s _ _ (type_line enums s (RecordType x) d (record_new enums x s) (Fielded d (attribute_selectors d 0 sorts) ∷ [])
    (record_listed d sorts _ (as_many s x sorts h) ∙ sym (names_listed enums (RecordType x) d)) refl
    (λ state fit. let r = fields_are enums s state fit x f sorts h 0 in
    (rw r.0 refl, rw ((record_new enums x s).name, r.1) refl))
    (sorts_stand_for s x sorts h) (λ P c y. (c _, (subst (λ (ss : List Expression). P (DeclareDatatype d [] (Fielded d (attribute_selectors d 0 ss) ∷ []))) (sym (sorts_are_so s x sorts h)) y, tt))))

-- ---- types

unless_new : (enums : Enums) (t : PlainType) (o : Option (List ℕ)) (s : Tables) (f : Tables → Written Expression) → name_of_type s t ≡ o → (name_of_type s t ≡ None → IsObeyable enums s (f s)) → IsObeyable enums s (unless_named o s f)
unless_new enums t (Some n) s f e h = no_step enums s
unless_new enums t None s f e h = h e

mutual
  pub types_step : (enums : Enums) (t : PlainType) (s : Tables) → IsEncodableType enums t → IsObeyable enums s (encode_type enums t s)
  types_step enums (OptionType t) s f = steps_then enums (types_step enums t s f) (no_step enums _)
  types_step enums (BitVecType width) s f = no_step enums s
  types_step enums BoolType s f = no_step enums s
  types_step enums (EntityType type) s f = unless_steps enums (name_of_type s (EntityType type)) s _ (entity_steps enums type s f)
  types_step enums (ExtensionType kind) s f = unless_new enums (ExtensionType kind) (name_of_type s (ExtensionType kind)) s _ refl (kind_steps enums kind s)
  types_step enums StringType s f = no_step enums s
  types_step enums (RecordType x) s f = unless_steps enums (name_of_type s (RecordType x)) s _
      (steps_then enums (attributes_step enums x s f) (record_steps enums x _ _ f (sorts_are enums x s)))
  types_step enums (SetType t) s f = steps_then enums (types_step enums t s f) (no_step enums _)

  attributes_step : (enums : Enums) (x : AttributeTypes) (s : Tables) → AreEncodableTypes enums x → IsObeyable enums s (encode_attributes enums x s)
  attributes_step enums no_attributes s f = no_step enums s
  attributes_step enums (attribute a t x) s f = steps_then enums (types_step enums t s f.0) (steps_then enums (attributes_step enums x _ f.1) (no_step enums _))

-- ---- functions

-- a type's sort where it was written, at any tables that keep its names
pub sort_later : (enums : Enums) (t : PlainType) (s v : Tables) → Keeps (encode_type enums t s).tables v → TypeHasEntries v t × (type_sort v t ≡ (encode_type enums t s).made)
sort_later enums t s v k =
    let u : Tables = (encode_type enums t s).tables in
    let h = sorts_stand enums t s in
    (has_stays u v k.types t h, sorts_stay u v t k h ∙ types_are_made enums t s)

pub itself : (s : Tables) → Keeps s s
itself s = record { terms = λ t n h. h; types = λ t n h. h; functions = λ t n h. h }

pub good_later : (enums : Enums) (t : PlainType) (s v : Tables) → Keeps (encode_type enums t s).tables v → IsEncodableType enums t → (state : State) → Fit enums v state → GoodSort state (encode_type enums t s).made
good_later enums t s v k f state fit = let p = sort_later enums t s v k in subst (λ e. GoodSort state e) p.1 (sort_good enums v state fit t f p.0)

pub functions_step : (enums : Enums) (f : PlainFunction) (s : Tables) → IsEncodableType enums f.argument → IsEncodableType enums f.output → IsObeyable enums s (encode_function enums f s)
functions_step enums f s a b = unless_steps enums (name_of_function s f) s _
    (comment_first enums f.id s _ _ (steps_then enums (types_step enums f.argument s a) (steps_then enums (types_step enums f.output u b)
    (function_steps enums f (encode_type enums f.argument s).made (encode_type enums f.output u).made v
    (λ state fit. (good_later enums f.argument s v k a state fit, good_later enums f.output u v (itself v) b state fit))
    (sort_later enums f.argument s v k) (sort_later enums f.output u v (itself v))))))
  where
    u : Tables
    u = (encode_type enums f.argument s).tables

    v : Tables
    v = (encode_type enums f.output (encode_type enums f.argument s).tables).tables

    k : Keeps (encode_type enums f.argument s).tables (encode_type enums f.output (encode_type enums f.argument s).tables).tables
    k = names_stay enums _ _ _ (type_grows enums f.output (encode_type enums f.argument s).tables)
