-- Datatypes of a state that fits the tables.
use Rattle.std.proofs.Common.{◌≡◌, ℕ, suc, ◌+◌, ◌≤◌, true, false, List, [], ◌∷◌, map, refl, sym, ap, ◌∙◌, subst, inl, inr, Option, Some, None, arith}
use Rattle.std.specs.Prelude.{codes, bytes_eq, IsSome, nat_le}
use Rattle.std.proofs.lemmas.Bool.{and_parts, cases_Bool, false≢true, leb-true}
use Rattle.std.proofs.lemmas.Slice.Eq.{bytes_eq-Decides}
use Rattle.law_terms.specs.Plain.{PlainType, OptionType, BitVecType, BoolType, EntityType, ExtensionType, StringType, RecordType, SetType, AttributeTypes, no_attributes, attribute}
use Rattle.law_terms.specs.TypeValues.{Enums, members_of}
use Rattle.law_texts.specs.Reading.{Expression}
use Rattle.law_scripts.specs.Script.{Constructor, Builds, State}
use Rattle.law_scripts.specs.Sorts.{Entries, entries}
use Rattle.law_scripts.specs.DeclarationLines.{Declares, Constructors, shown}
use Rattle.law_numbers.specs.Widths.{is_width}
use Rattle.law_lines.specs.Line as line
use Rattle.law_lines.specs.Line.{Fielded, DeclareDatatype}
use Rattle.law_lines.specs.LineForms as forms
use Rattle.law_lines.specs.Lines as lines
use Rattle.law_lines.specs.LineForms.{attribute_selectors, entity_lines}
use Rattle.law_lines.specs.NameTables.{Tables, name_of_type, text_of_name}
use Rattle.law_lines.specs.Entries.{TypeHasEntries, AttributesHaveEntries, attribute_sorts}
use Rattle.law_lines.specs.Naming.{type_name}
use Rattle.law_lines.specs.Command.{all_built}
use Rattle.law_lines.specs.Encodable.{IsEncodableType, AreEncodableTypes}
use Rattle.law_lines.specs.Fit.{Fit, EachLine, LineIsDeclared, BuildsOnly, declares_sort, is_old_sort_in}
use Rattle.law_lines.proofs.Datatype.{undeclared}
use Rattle.law_lines.proofs.Declared.{types_are_declared}
use Rattle.law_theorem.specs.CarriedSorts.{shown_entity, shown_kind, IsDatatype, IsNoDatatype, IsNamed, TypeIsDeclared, AttributesAreDeclared}
use Rattle.law_theorem.specs.FittingStates.{OptionIsDeclared, NamedTypesAreDeclared}
use Rattle.law_theorem.proofs.Standing.{declared_at}

-- ---- a datatype that is declared

datatype_from : (here : Entries) (d : List ℕ) (ps : List (List ℕ)) (cs : List Constructor) → Declares here d ps 0 cs → BuildsOnly here d ps cs → IsDatatype here d ps (shown cs)
datatype_from here d ps cs h k = record {
  builds = λ place c fields e. declared_at here d ps 0 cs h place c fields e ∙ ap (λ n. Some (Builds d ps n fields)) (let z : 0 + place ≡ place = omega arith in z);
  only = k;
}

-- ---- what stands always

no_datatype : (enums : Enums) (s : Tables) (state : State) → Fit enums s state → (d : List ℕ) → is_old_sort_in s d ≡ false → IsNoDatatype (entries state) d
no_datatype enums s state fit d new c qs place fields e = false≢true (sym (undeclared enums s state fit d new) ∙ fit.rooted d c qs place fields e)

pub option_is_declared : OptionIsDeclared
option_is_declared enums s state fit = record {
  options = datatype_from (entries state) (codes "Option") (codes "X" ∷ []) (all_built lines.option_constructors) fit.option_is_declared.1 fit.option_is_declared.3;
  bits = no_datatype enums s state fit (codes "_") refl;
  truths = no_datatype enums s state fit (codes "Bool") refl;
  texts = no_datatype enums s state fit (codes "String") refl;
  sets = no_datatype enums s state fit (codes "Set") refl;
}

-- ---- types

module _ (enums : Enums) (s : Tables) (state : State) (fit : Fit enums s state) where
  not_old : (n m : List ℕ) → declares_sort state n ≡ true → is_old_sort_in s m ≡ false → bytes_eq n m ≡ false
  not_old n m h new = elim (cases_Bool (bytes_eq n m)) [
    | inl q ↦ absurd (false≢true (sym (undeclared enums s state fit m new) ∙ subst (λ l. declares_sort state l ≡ true) ((bytes_eq-Decides n m).0 q) h))
    | inr q ↦ q
  ]

  named : (n : List ℕ) (cs : List line.Constructor) (ks : Constructors) → LineIsDeclared state (DeclareDatatype n [] cs) → shown (all_built cs) ≡ ks → IsNamed (entries state) n ks
  named n cs ks h e = record {
    not_bool = not_old n (codes "Bool") h.2 refl;
    not_string = not_old n (codes "String") h.2 refl;
    datatype = subst (λ k. IsDatatype (entries state) n [] k) e (datatype_from (entries state) n [] (all_built cs) h.1 h.3);
  }

  pub selectors_shown : (n : List ℕ) (place : ℕ) (sorts : List Expression) → map (λ x. x.1) (attribute_selectors n place sorts) ≡ sorts
  selectors_shown n place [] = refl
  selectors_shown n place (e ∷ es) = ap (λ (l : List Expression). e ∷ l) (selectors_shown n (suc place) es)

  entity_stands : (o : Option (List (List ℕ))) (type n : List ℕ) → EachLine (LineIsDeclared state) (entity_lines o type n) → IsNamed (entries state) n (shown_entity o n)
  entity_stands None type n h = named n (forms.entity_constructors None n) (shown_entity None n) h.1.0 refl
  entity_stands (Some ms) type n h = named n (forms.member_constructors n 0 ms) (shown_entity (Some ms) n) h.1.0 refl

  pub there : (t : PlainType) (o : Option (List ℕ)) → name_of_type s t ≡ o → IsSome o → name_of_type s t ≡ Some (type_name s t)
  there t (Some n) e h = e ∙ ap (λ (p : Option (List ℕ)). Some (text_of_name p)) (sym e)
  there t None e h = absurd (false≢true h)

  width_in : (w : ℕ) → is_width w ≡ true → (1 ≤ w) × (w ≤ 128)
  width_in w h = let p = and_parts (nat_le 1 w) (nat_le w 128) h in (leb-true 1 w p.0, leb-true w 128 p.1)

  mutual
    pub type_stands : (t : PlainType) → IsEncodableType enums t → TypeHasEntries s t → TypeIsDeclared enums s (entries state) t
    type_stands (OptionType t) f h = type_stands t f h
    type_stands (BitVecType w) f h = width_in w f
    type_stands BoolType f h = tt
    type_stands (EntityType type) f h =
        let e = there (EntityType type) (name_of_type s (EntityType type)) refl h in
        entity_stands (members_of enums type) type (type_name s (EntityType type)) (types_are_declared enums s state (EntityType type) (type_name s (EntityType type)) fit e).0
    type_stands (ExtensionType kind) f h =
        let e = there (ExtensionType kind) (name_of_type s (ExtensionType kind)) refl h in
        named (type_name s (ExtensionType kind)) (forms.kind_constructors kind) (shown_kind kind) (types_are_declared enums s state (ExtensionType kind) (type_name s (ExtensionType kind)) fit e).0.0 refl
    type_stands StringType f h = tt
    type_stands (RecordType x) f h =
        let n = type_name s (RecordType x) in
        let e = there (RecordType x) (name_of_type s (RecordType x)) refl h in
        let p = types_are_declared enums s state (RecordType x) n fit e in
        let q = selectors_shown n 0 (attribute_sorts s x) in
        (named n (Fielded n (attribute_selectors n 0 (attribute_sorts s x)) ∷ []) ((n, attribute_sorts s x) ∷ []) p.0.1.0 (λ i. (n, q i) ∷ []), types_stand_in x f p.1)
    type_stands (SetType t) f h = type_stands t f h

    pub types_stand_in : (x : AttributeTypes) → AreEncodableTypes enums x → AttributesHaveEntries s x → AttributesAreDeclared enums s (entries state) x
    types_stand_in no_attributes f h = tt
    types_stand_in (attribute a t x) f h = (type_stands t f.0 h.0, types_stand_in x f.1 h.1)

pub named_types_are_declared : NamedTypesAreDeclared
named_types_are_declared enums s state t fit f h = type_stands enums s state fit t f h
