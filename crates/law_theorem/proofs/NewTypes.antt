-- The lines of terms declare at most one sort for each named type that the terms reach.
use Rattle.std.proofs.Common.{◌≡◌, ◌⊎◌, ℕ, ◌+◌, ◌≤◌, true, false, List, [], ◌∷◌, ◌++◌, length, refl, sym, ap, ◌∙◌, inl, inr, Option, Some, None, arith}
use Rattle.std.specs.Prelude.{is_some, IsSome, filter}
use Rattle.std.specs.List.{AllByRecursion}
use Rattle.std.specs.Map.{lookup}
use Rattle.std.specs.Set.{unique_keys, distinct_count}
use Rattle.std.proofs.lemmas.List.{length-append}
use Rattle.law_terms.specs.Plain.{PlainType, OptionType, BitVecType, BoolType, EntityType, ExtensionType, StringType, RecordType, SetType, AttributeTypes, no_attributes, attribute, PlainFunction, PlainOp, UufOp, PlainLiteral, BitVecLiteral, BoolLiteral, EntityLiteral, ExtensionLiteral, StringLiteral, PlainTerm, Application, NoneTerm, LiteralTerm, RecordTerm, SetTerm, SomeTerm, VariableTerm, PlainTerms, no_terms, one_term, PlainFields, no_fields, one_field, terms}
use Rattle.law_terms.specs.Reached.{subterms_of_all, reached_types}
use Rattle.law_terms.specs.TypeValues.{Enums, members_of}
use Rattle.law_terms.specs.Types.{type_eq, type_of, literal_type}
use Rattle.law_terms.proofs.TermTotal.{types_decided}
use Rattle.law_texts.specs.Reading.{Expression}
use Rattle.law_scripts.specs.Script.{State}
use Rattle.law_lines.specs.Entries.{EachEntry}
use Rattle.law_lines.specs.Lines.{Written, unless_named, define_entity, encode_type, encode_attributes, encode_function, encode_literal, encode_head, Rendering, AsApplication, AsEqualsIntMin, AsFalse, application_rendering, define_application, encode_term, encode_terms, encode_fields}
use Rattle.law_lines.specs.NameTables.{Tables, name_of_term, name_of_type, name_of_function}
use Rattle.law_lines.specs.TableGrowth.{datatypes}
use Rattle.law_lines.proofs.Grow.{lookup_append, terms_grow}
use Rattle.law_lines.proofs.Known.{each_map}
use Rattle.law_lines.proofs.Making.{larger_attributes, less}
use Rattle.law_theorem.specs.Conditions.{AreConditions}
use Rattle.law_theorem.specs.Fits.{Stage, FitsAt}
use Rattle.law_theorem.specs.Open.{IsAmong}
use Rattle.law_theorem.proofs.FineTerms.{conditions_are_fine}
use Rattle.law_theorem.proofs.EntryKeys.{IsKey, Good, each}
use Rattle.law_theorem.proofs.Reached.{T, F, Y, keys}
use Rattle.law_theorem.specs.WellWritten.{is_named_type}
use Rattle.law_theorem.proofs.DistinctKeys.{keys_found, missing, missing_at_most, one_less, in_filter, in_unique}

abbrev Entries : Type 0
Entries = List (PlainType × List ℕ)

-- ---- what entering a type keeps, the lines of terms keep

module _ (enums : Enums) (P : Entries → Type 0) (enter : (t : PlainType) (n : List ℕ) (es : Entries) → is_named_type t ≡ true → lookup (type_eq t) es ≡ None → P es → P (es ++ (t, n) ∷ [])) where
  skip : (o : Option (List ℕ)) (s : Tables) (k : Tables → Written Expression) → P s.types → P (k s).tables.types → P (unless_named o s k).tables.types
  skip (Some n) s k h g = h
  skip None s k h g = g

  entered : (t : PlainType) (o : Option (List ℕ)) (s : Tables) (k : Tables → Written Expression) → name_of_type s t ≡ o → P s.types → (name_of_type s t ≡ None → P (k s).tables.types) → P (unless_named o s k).tables.types
  entered t (Some n) s k e h g = h
  entered t None s k e h g = g e

  mutual
    types : (t : PlainType) (s : Tables) → P s.types → P (encode_type enums t s).tables.types
    types (OptionType t) s h = types t s h
    types (BitVecType w) s h = h
    types BoolType s h = h
    types (EntityType type) s h = entered (EntityType type) (name_of_type s (EntityType type)) s _ refl h (λ e. enter (EntityType type) _ s.types refl e h)
    types (ExtensionType kind) s h = entered (ExtensionType kind) (name_of_type s (ExtensionType kind)) s _ refl h (λ e. enter (ExtensionType kind) _ s.types refl e h)
    types StringType s h = h
    types (RecordType x) s h =
        entered (RecordType x) (name_of_type s (RecordType x)) s _ refl h
        (λ e. enter (RecordType x) _ (encode_attributes enums x s).tables.types refl (larger_attributes enums x s (RecordType x) (less x) ∙ e) (attributes x s h))
    types (SetType t) s h = types t s h

    attributes : (x : AttributeTypes) (s : Tables) → P s.types → P (encode_attributes enums x s).tables.types
    attributes no_attributes s h = h
    attributes (attribute a t x) s h = attributes x (encode_type enums t s).tables (types t s h)

  function : (f : PlainFunction) (s : Tables) → P s.types → P (encode_function enums f s).tables.types
  function f s h = skip (name_of_function s f) s _ h (types f.output (encode_type enums f.argument s).tables (types f.argument s h))

  head : (op : PlainOp) (ts : PlainTerms) (s : Tables) → P s.types → P (encode_head enums op ts s).tables.types
  head (UufOp f) ts s h = function f s h
  head op ts s h = h

  application : (m : Rendering) (op : PlainOp) (ts : PlainTerms) (type : PlainType) (arguments : Tables → Written (List Expression)) → ((s : Tables) → P s.types → P (arguments s).tables.types)
      → (sort : Expression) (s : Tables) → P s.types → P (define_application enums m op ts type arguments sort s).tables.types
  application AsApplication op ts type arguments g sort s h = head op ts (arguments s).tables (g s h)
  application (AsEqualsIntMin w) op ts type arguments g sort s h = g s h
  application AsFalse op ts type arguments g sort s h = h

  entity : (o : Option (List (List ℕ))) (type id sort : List ℕ) (s : Tables) → P s.types → P (define_entity o type id sort s).tables.types
  entity None type id sort s h = h
  entity (Some ms) type id sort s h = h

  literal : (p : PlainLiteral) (s : Tables) → P s.types → P (encode_literal enums p s).tables.types
  literal (BitVecLiteral w n) s h = h
  literal (BoolLiteral b) s h = h
  literal (StringLiteral x) s h = h
  literal (EntityLiteral type id) s h =
      skip (name_of_term s (LiteralTerm (EntityLiteral type id))) s _ h (entity (members_of enums type) type id _ (encode_type enums (EntityType type) s).tables (types (EntityType type) s h))
  literal (ExtensionLiteral x) s h = skip (name_of_term s (LiteralTerm (ExtensionLiteral x))) s _ h (types (literal_type (ExtensionLiteral x)) s h)

  mutual
    term : (t : PlainTerm) (s : Tables) → P s.types → P (encode_term enums t s).tables.types
    term (Application op ts type) s h =
        skip (name_of_term s (Application op ts type)) s _ h
        (application (application_rendering op ts type) op ts type (λ w. encode_terms enums ts w) (λ w g. all ts w g) (encode_type enums type s).made (encode_type enums type s).tables (types type s h))
    term (NoneTerm type) s h = skip (name_of_term s (NoneTerm type)) s _ h (types (OptionType type) s h)
    term (LiteralTerm p) s h = literal p s h
    term (RecordTerm x) s h = skip (name_of_term s (RecordTerm x)) s _ h (fields x (encode_type enums (type_of (RecordTerm x)) s).tables (types (type_of (RecordTerm x)) s h))
    term (SetTerm t ts) s h = skip (name_of_term s (SetTerm t ts)) s _ h (all ts (encode_type enums (SetType t) s).tables (types (SetType t) s h))
    term (SomeTerm t) s h = skip (name_of_term s (SomeTerm t)) s _ h (term t (encode_type enums (type_of (SomeTerm t)) s).tables (types (type_of (SomeTerm t)) s h))
    term (VariableTerm id type) s h = skip (name_of_term s (VariableTerm id type)) s _ h (types type s h)

    pub all : (ts : PlainTerms) (s : Tables) → P s.types → P (encode_terms enums ts s).tables.types
    all no_terms s h = h
    all (one_term t ts) s h = all ts (encode_term enums t s).tables (term t s h)

    fields : (x : PlainFields) (s : Tables) → P s.types → P (encode_fields enums x s).tables.types
    fields no_fields s h = h
    fields (one_field a t x) s h = fields x (encode_term enums t s).tables (term t s h)

-- ---- entries behind old ones

module _ (old : Entries) (us : List PlainType) where
  -- a named type that has an old entry or is among these
  abbrev IsMeant : PlainType → List ℕ → Type 0
  IsMeant t n = is_named_type t ≡ true → IsSome (lookup (type_eq t) old) ⊎ IsAmong t us

  -- The old entries are still there, and where the others are for these types, each takes one away of those that are missing.
  record Counted (es : Entries) : Type 0 where
    kept : (t : PlainType) → IsSome (lookup (type_eq t) old) → IsSome (lookup (type_eq t) es)
    counts : EachEntry IsMeant es → length es + missing es us ≤ length old + missing old us

  still_found : (es fs : Entries) (t : PlainType) (o : Option (List ℕ)) → lookup (type_eq t) es ≡ o → IsSome o → IsSome (lookup (type_eq t) (es ++ fs))
  still_found es fs t (Some n) e h = ap is_some (lookup_append (type_eq t) es fs n e)
  still_found es fs t None e h = absurd cc

  front : (es fs : Entries) → EachEntry IsMeant (es ++ fs) → EachEntry IsMeant es × EachEntry IsMeant fs
  front [] fs h = (tt, h)
  front (e ∷ es) fs h = let r = front es fs h.1 in ((h.0, r.0), r.1)

  counted : (t : PlainType) (n : List ℕ) (es : Entries) → is_named_type t ≡ true → lookup (type_eq t) es ≡ None → Counted es → Counted (es ++ (t, n) ∷ [])
  counted t n es named none c = record {
    kept = λ u h. still_found es ((t, n) ∷ []) u (lookup (type_eq u) es) refl (c.kept u h);
    counts = λ h.
        let p = front es ((t, n) ∷ []) h in
        by p.0 (p.1.0 named);
  }
    where
      by : EachEntry IsMeant es → IsSome (lookup (type_eq t) old) ⊎ IsAmong t us → length (es ++ (t, n) ∷ []) + missing (es ++ (t, n) ∷ []) us ≤ length old + missing old us
      by h (inl k) = absurd (let q : false ≡ true = sym (ap is_some none) ∙ c.kept t k in cc)
      by h (inr k) =
          let before = c.counts h in
          let fewer = one_less es t n us k none in
          let longer : length (es ++ (t, n) ∷ []) ≡ length es + 1 = length-append es ((t, n) ∷ []) in
          omega arith

-- ---- what is reached

module _ (enums : Enums) (ts : List PlainTerm) (s : Tables) where
  -- a type that is reached or has an entry
  abbrev IsKnown : PlainType → Type 0
  IsKnown t = IsAmong t (reached_types ts) ⊎ IsSome (name_of_type s t)

  abbrev AnyTerm : PlainTerm → Type 0
  AnyTerm t = Unit {0}

  abbrev AnyFunction : PlainFunction → Type 0
  AnyFunction f = Unit {0}

  known : (xs : List PlainType) → AllByRecursion (Y enums ts) xs → AllByRecursion IsKnown xs
  known [] h = tt
  known (x ∷ xs) h = (inl h.0, known xs h.1)

  key_known : (t : PlainTerm) → IsKey enums (T enums ts) (F enums ts) (Y enums ts) t → IsKey enums AnyTerm AnyFunction IsKnown t
  key_known (Application (UufOp f) us type) k = (tt, known _ k.1, (tt, known _ k.2.1, known _ k.2.2))
  key_known (Application op us type) k = (tt, known _ k.1, tt)
  key_known (NoneTerm type) k = (tt, known _ k.1, tt)
  key_known (LiteralTerm l) k = (tt, known _ k.1, tt)
  key_known (RecordTerm x) k = (tt, known _ k.1, tt)
  key_known (SetTerm t us) k = (tt, known _ k.1, tt)
  key_known (SomeTerm t) k = (tt, known _ k.1, tt)
  key_known (VariableTerm id type) k = (tt, known _ k.1, tt)

  keys_known : (xs : List PlainTerm) → AllByRecursion (IsKey enums (T enums ts) (F enums ts) (Y enums ts)) xs → AllByRecursion (IsKey enums AnyTerm AnyFunction IsKnown) xs
  keys_known [] h = tt
  keys_known (x ∷ xs) h = (key_known x h.0, keys_known xs h.1)

-- As many datatypes as there are named types that differ.
pub few_datatypes : (enums : Enums) (x : Stage) (state : State) (ts : List PlainTerm) → FitsAt enums x state → AreConditions enums ts
    → datatypes (encode_terms enums (terms ts) x.tables).lines ≤ distinct_count type_eq (filter is_named_type (reached_types ts))
few_datatypes enums x state ts f conditions =
    let s = x.tables in
    let u : Tables = (encode_terms enums (terms ts) s).tables in
    let us = unique_keys type_eq (filter is_named_type (reached_types ts)) in
    let grown = terms_grow enums (terms ts) s in
    let start : Counted s.types us s.types = record { kept = λ t h. h; counts = λ h. omega arith } in
    let c = all enums (Counted s.types us) (counted s.types us) (terms ts) s start in
    let old : Good enums (AnyTerm enums ts s) (AnyFunction enums ts s) (IsKnown enums ts s) s = record {
      terms = each_map _ _ (λ t n h. (h, tt)) s.terms f.drawn.members;
      functions = each_map _ _ (λ g n h. tt) s.functions f.reached.functions;
      types = each_map _ _ (λ t n h. inr h) s.types (keys_found s.types);
    } in
    let good = each enums (AnyTerm enums ts s) (AnyFunction enums ts s) (IsKnown enums ts s) (terms ts) (conditions_are_fine enums ts conditions) (keys_known enums ts s (subterms_of_all (terms ts)) (keys enums ts ts (λ t h. h))) s old in
    let bound = c.counts (each_map _ _ (λ t n h. meant t h) u.types good.types) in
    let some = missing_at_most s.types us in
    let longer : length u.types ≡ length s.types + length grown.new_types = ap length grown.types ∙ length-append s.types grown.new_types in
    let lines = grown.type_lines in
    omega arith
  where
    meant : (t : PlainType) → IsAmong t (reached_types ts) ⊎ IsSome (name_of_type x.tables t) → is_named_type t ≡ true → IsSome (lookup (type_eq t) x.tables.types) ⊎ IsAmong t (unique_keys type_eq (filter is_named_type (reached_types ts)))
    meant t (inl k) named = inr (in_unique type_eq types_decided t (filter is_named_type (reached_types ts)) (in_filter is_named_type t (reached_types ts) k named))
    meant t (inr k) named = inl k
