-- The keys of entries that the lines of terms make, and the names of those that are not drawn.
use Rattle.std.proofs.Common.{◌≡◌, ℕ, List, [], ◌∷◌, ◌++◌, refl, sym, ap, ◌∙◌, subst, Option, Some, None}
use Rattle.std.specs.List.{AllByRecursion}
use Rattle.law_terms.specs.Plain.{PlainType, OptionType, BitVecType, BoolType, EntityType, ExtensionType, StringType, RecordType, SetType, AttributeTypes, no_attributes, attribute, PlainFunction, PlainOp, UufOp, PlainLiteral, BitVecLiteral, BoolLiteral, EntityLiteral, ExtensionLiteral, StringLiteral, PlainTerm, Application, NoneTerm, LiteralTerm, RecordTerm, SetTerm, SomeTerm, VariableTerm, PlainTerms, no_terms, one_term, PlainFields, no_fields, one_field}
use Rattle.law_terms.specs.Reached.{subterms, subterms_of_all, subterms_of_fields, types_within, types_within_attributes}
use Rattle.law_terms.specs.TypeValues.{Enums, members_of}
use Rattle.law_terms.specs.Types.{type_eq, type_of, literal_type}
use Rattle.law_terms.proofs.Soundness.{all-front, all-back}
use Rattle.law_texts.specs.Reading.{Expression}
use Rattle.law_lines.specs.EntryNames.{enum_member}
use Rattle.law_lines.specs.Lines.{Written, next_term, unless_named, define_entity, encode_type, encode_attributes, encode_function, encode_literal, encode_head, Rendering, AsApplication, AsEqualsIntMin, AsFalse, application_rendering, define_application, encode_term, encode_terms, encode_fields}
use Rattle.law_lines.specs.NameTables.{Tables, name_of_term, name_of_type, name_of_function, text_of_name}
use Rattle.law_lines.specs.Naming.{type_name}
use Rattle.law_lines.specs.Entries.{EachEntry, TypeHasEntries}
use Rattle.law_lines.specs.TableGrowth.{Keeps}
use Rattle.law_lines.specs.Encodable.{IsEncodable, AreEncodable, AreEncodableFields, IsEncodableOp, IsEncodableId}
use Rattle.law_lines.proofs.Grow.{lookup_append}
use Rattle.law_lines.proofs.Known.{each_append, each_map}
use Rattle.law_lines.proofs.OfTerms.{not_false}
use Rattle.law_lines.proofs.Single.{with_term, with_function, keeps_term, keeps_function}
use Rattle.law_lines.proofs.Stays.{sorts_stand}
use Rattle.law_theorem.specs.Fits.{IsMemberName, IsNamedRightly}
use Rattle.law_theorem.proofs.Named.{some_there}

member_stays : (o : Option (List (List ℕ))) (s u : Tables) → Keeps s u → (type id n : List ℕ) → IsMemberName o s type id n → IsMemberName o u type id n
member_stays None s u k type id n h = tt
member_stays (Some ms) s u k type id n h =
    let e = k.types (EntityType type) (type_name s (EntityType type)) h.0 in
    let q : type_name u (EntityType type) ≡ type_name s (EntityType type) = ap text_of_name e in
    (e ∙ ap (λ (m : List ℕ). Some m) (sym q), h.1 ∙ ap (λ (m : List ℕ). enum_member ms m id) (sym q), h.2)

pub name_stays : (enums : Enums) (s u : Tables) → Keeps s u → (t : PlainTerm) (n : List ℕ) → IsNamedRightly enums s t n → IsNamedRightly enums u t n
name_stays enums s u k (LiteralTerm (EntityLiteral type id)) n h = member_stays (members_of enums type) s u k type id n h
name_stays enums s u k (LiteralTerm (BitVecLiteral w m)) n h = tt
name_stays enums s u k (LiteralTerm (BoolLiteral b)) n h = tt
name_stays enums s u k (LiteralTerm (StringLiteral x)) n h = tt
name_stays enums s u k (LiteralTerm (ExtensionLiteral x)) n h = tt
name_stays enums s u k (Application op ts type) n h = h
name_stays enums s u k (NoneTerm type) n h = tt
name_stays enums s u k (RecordTerm x) n h = tt
name_stays enums s u k (SetTerm t ts) n h = tt
name_stays enums s u k (SomeTerm t) n h = tt
name_stays enums s u k (VariableTerm id type) n h = tt

keeps_type : (s : Tables) (t : PlainType) (n : List ℕ) → Keeps s (record s { types = s.types ++ (t, n) ∷ [] })
keeps_type s t n = record { terms = λ x m h. h; types = λ x m h. lookup_append (type_eq x) s.types ((t, n) ∷ []) m h; functions = λ x m h. h }

-- T holds of terms, F of functions and Y of types: so of the keys of entries.
module _ (enums : Enums) (T : PlainTerm → Type 0) (F : PlainFunction → Type 0) (Y : PlainType → Type 0) where
  abbrev AreTypes : List PlainType → Type 0
  AreTypes ts = AllByRecursion Y ts

  abbrev IsFunctionKey : PlainOp → Type 0
  IsFunctionKey (UufOp f) = F f × AreTypes (types_within f.argument) × AreTypes (types_within f.output)
  IsFunctionKey op = Unit {0}

  abbrev IsOpKey : PlainTerm → Type 0
  IsOpKey (Application op ts type) = IsFunctionKey op
  IsOpKey t = Unit {0}

  -- a term, its type and its function
  abbrev pub IsKey : PlainTerm → Type 0
  IsKey t = T t × AreTypes (types_within (type_of t)) × IsOpKey t

  abbrev AreKeys : List PlainTerm → Type 0
  AreKeys ts = AllByRecursion IsKey ts

  abbrev Rightly : Tables → PlainTerm → List ℕ → Type 0
  Rightly s t n = IsNamedRightly enums s t n × T t

  pub record Good (s : Tables) : Type 0 where
    pub terms : EachEntry (λ t n. IsNamedRightly enums s t n × T t) s.terms
    pub functions : EachEntry (λ f n. F f) s.functions
    pub types : EachEntry (λ t n. Y t) s.types

  stays : (s u : Tables) → Keeps s u → (es : List (PlainTerm × List ℕ)) → EachEntry (Rightly s) es → EachEntry (Rightly u) es
  stays s u k es h = each_map (Rightly s) (Rightly u) (λ t n g. (name_stays enums s u k t n g.0, g.1)) es h

  entered_type : (s : Tables) (t : PlainType) (n : List ℕ) → Y t → Good s → Good (record s { types = s.types ++ (t, n) ∷ [] })
  entered_type s t n y h =
      let u : Tables = record s { types = s.types ++ (t, n) ∷ [] } in
      record { terms = stays s u (keeps_type s t n) s.terms h.terms; functions = h.functions; types = each_append (λ t n. Y t) s.types ((t, n) ∷ []) h.types (y, tt) }

  entered_function : (s : Tables) (f : PlainFunction) (n : List ℕ) → F f → Good s → Good (with_function f n s)
  entered_function s f n g h =
      let u : Tables = with_function f n s in
      record { terms = stays s u (keeps_function s f n) s.terms h.terms; functions = each_append (λ f n. F f) s.functions ((f, n) ∷ []) h.functions (g, tt); types = h.types }

  defined : (s : Tables) (t : PlainTerm) (n : List ℕ) → T t → IsNamedRightly enums (with_term t n s) t n → Good s → Good (with_term t n s)
  defined s t n k g h =
      let u : Tables = with_term t n s in
      record { terms = each_append (Rightly u) s.terms ((t, n) ∷ []) (stays s u (keeps_term s t n) s.terms h.terms) ((g, k), tt); functions = h.functions; types = h.types }

  unless : (o : Option (List ℕ)) (s : Tables) (k : Tables → Written Expression) → Good s → Good (k s).tables → Good (unless_named o s k).tables
  unless (Some n) s k h g = h
  unless None s k h g = g

  last_type : (ts : List PlainType) (t : PlainType) → AreTypes (ts ++ t ∷ []) → Y t
  last_type ts t h = (all-back Y ts (t ∷ []) h).0

  mutual
    types : (t : PlainType) → AreTypes (types_within t) → (s : Tables) → Good s → Good (encode_type enums t s).tables
    types (OptionType t) y s h = types t (all-front Y (types_within t) (OptionType t ∷ []) y) s h
    types (BitVecType w) y s h = h
    types BoolType y s h = h
    types (EntityType type) y s h = unless (name_of_type s (EntityType type)) s _ h (entered_type s (EntityType type) _ y.0 h)
    types (ExtensionType kind) y s h = unless (name_of_type s (ExtensionType kind)) s _ h (entered_type s (ExtensionType kind) _ y.0 h)
    types StringType y s h = h
    types (RecordType x) y s h =
        unless (name_of_type s (RecordType x)) s _ h
        (entered_type (encode_attributes enums x s).tables (RecordType x) _ (last_type (types_within_attributes x) (RecordType x) y) (attributes x (all-front Y (types_within_attributes x) (RecordType x ∷ []) y) s h))
    types (SetType t) y s h = types t (all-front Y (types_within t) (SetType t ∷ []) y) s h

    attributes : (x : AttributeTypes) → AreTypes (types_within_attributes x) → (s : Tables) → Good s → Good (encode_attributes enums x s).tables
    attributes no_attributes y s h = h
    attributes (attribute a t x) y s h =
        attributes x (all-back Y (types_within t) (types_within_attributes x) y) (encode_type enums t s).tables (types t (all-front Y (types_within t) (types_within_attributes x) y) s h)

  function : (f : PlainFunction) → IsFunctionKey (UufOp f) → (s : Tables) → Good s → Good (encode_function enums f s).tables
  function f k s h =
      let v : Tables = (encode_type enums f.output (encode_type enums f.argument s).tables).tables in
      unless (name_of_function s f) s _ h (entered_function v f _ k.0 (types f.output k.2 (encode_type enums f.argument s).tables (types f.argument k.1 s h)))

  head : (op : PlainOp) → IsFunctionKey op → (ts : PlainTerms) (s : Tables) → Good s → Good (encode_head enums op ts s).tables
  head (UufOp f) k ts s h = function f k s h
  head op k ts s h = h

  application : (m : Rendering) (op : PlainOp) (ts : PlainTerms) (type : PlainType) → application_rendering op ts type ≡ m → IsEncodableOp enums op ts type → T (Application op ts type) → IsFunctionKey op → (arguments : Tables → Written (List Expression)) → ((s : Tables) → Good s → Good (arguments s).tables)
      → (sort : Expression) (s : Tables) → Good s → Good (define_application enums m op ts type arguments sort s).tables
  application AsApplication op ts type e f t k arguments g sort s h =
      defined (encode_head enums op ts (arguments s).tables).tables (Application op ts type) _ t (λ q. not_false enums op ts type q f) (head op k ts (arguments s).tables (g s h))
  application (AsEqualsIntMin w) op ts type e f t k arguments g sort s h = defined (arguments s).tables (Application op ts type) _ t (λ q. not_false enums op ts type q f) (g s h)
  application AsFalse op ts type e f t k arguments g sort s h = absurd (not_false enums op ts type e f)

  entity : (o : Option (List (List ℕ))) (type id : List ℕ) → members_of enums type ≡ o → IsEncodableId o id → T (LiteralTerm (EntityLiteral type id)) → (v : Tables) → TypeHasEntries v (EntityType type) → Good v → Good (define_entity o type id (text_of_name (name_of_type v (EntityType type))) v).tables
  entity None type id e f k v has h = defined v (LiteralTerm (EntityLiteral type id)) _ k (subst (λ o. IsMemberName o (with_term (LiteralTerm (EntityLiteral type id)) (next_term v) v) type id (next_term v)) (sym e) tt) h
  entity (Some ms) type id e f k v has h =
      defined v (LiteralTerm (EntityLiteral type id)) _ k (subst (λ o. IsMemberName o (with_term (LiteralTerm (EntityLiteral type id)) (enum_member ms (type_name v (EntityType type)) id) v) type id (enum_member ms (type_name v (EntityType type)) id)) (sym e) (some_there (name_of_type v (EntityType type)) has, refl, f)) h

  literal : (p : PlainLiteral) → IsEncodable enums (LiteralTerm p) → IsKey (LiteralTerm p) → (s : Tables) → Good s → Good (encode_literal enums p s).tables
  literal (BitVecLiteral w n) f k s h = h
  literal (BoolLiteral b) f k s h = h
  literal (StringLiteral x) f k s h = h
  literal (EntityLiteral type id) f k s h =
      unless (name_of_term s (LiteralTerm (EntityLiteral type id))) s _ h
      (entity (members_of enums type) type id refl f k.0 (encode_type enums (EntityType type) s).tables (sorts_stand enums (EntityType type) s) (types (EntityType type) k.1 s h))
  literal (ExtensionLiteral x) f k s h =
      unless (name_of_term s (LiteralTerm (ExtensionLiteral x))) s _ h (defined (encode_type enums (literal_type (ExtensionLiteral x)) s).tables (LiteralTerm (ExtensionLiteral x)) _ k.0 tt (types (literal_type (ExtensionLiteral x)) k.1 s h))

  front : (ts : List PlainTerm) (t : PlainTerm) → AreKeys (ts ++ t ∷ []) → AreKeys ts
  front ts t h = all-front IsKey ts (t ∷ []) h

  last : (ts : List PlainTerm) (t : PlainTerm) → AreKeys (ts ++ t ∷ []) → IsKey t
  last ts t h = (all-back IsKey ts (t ∷ []) h).0

  mutual
    term : (t : PlainTerm) → IsEncodable enums t → AreKeys (subterms t) → (s : Tables) → Good s → Good (encode_term enums t s).tables
    term (Application op ts type) f k s h =
        let me = last (subterms_of_all ts) (Application op ts type) k in
        unless (name_of_term s (Application op ts type)) s _ h
        (application (application_rendering op ts type) op ts type refl f.2 me.0 me.2 (λ w. encode_terms enums ts w) (λ w g. each ts f.1 (front (subterms_of_all ts) (Application op ts type) k) w g) (encode_type enums type s).made (encode_type enums type s).tables (types type me.1 s h))
    term (NoneTerm type) f k s h = unless (name_of_term s (NoneTerm type)) s _ h (defined (encode_type enums (OptionType type) s).tables (NoneTerm type) _ k.0.0 tt (types (OptionType type) k.0.1 s h))
    term (LiteralTerm p) f k s h = literal p f k.0 s h
    term (RecordTerm x) f k s h =
        let me = last (subterms_of_fields x) (RecordTerm x) k in
        let u : Tables = (encode_type enums (type_of (RecordTerm x)) s).tables in
        unless (name_of_term s (RecordTerm x)) s _ h (defined (encode_fields enums x u).tables (RecordTerm x) _ me.0 tt (fields x f.1 (front (subterms_of_fields x) (RecordTerm x) k) u (types (type_of (RecordTerm x)) me.1 s h)))
    term (SetTerm t ts) f k s h =
        let me = last (subterms_of_all ts) (SetTerm t ts) k in
        let u : Tables = (encode_type enums (SetType t) s).tables in
        unless (name_of_term s (SetTerm t ts)) s _ h (defined (encode_terms enums ts u).tables (SetTerm t ts) _ me.0 tt (each ts f.1 (front (subterms_of_all ts) (SetTerm t ts) k) u (types (SetType t) me.1 s h)))
    term (SomeTerm t) f k s h =
        let me = last (subterms t) (SomeTerm t) k in
        let u : Tables = (encode_type enums (type_of (SomeTerm t)) s).tables in
        unless (name_of_term s (SomeTerm t)) s _ h (defined (encode_term enums t u).tables (SomeTerm t) _ me.0 tt (term t f.1 (front (subterms t) (SomeTerm t) k) u (types (type_of (SomeTerm t)) me.1 s h)))
    term (VariableTerm id type) f k s h = unless (name_of_term s (VariableTerm id type)) s _ h (defined (encode_type enums type s).tables (VariableTerm id type) _ k.0.0 tt (types type k.0.1 s h))

    -- What the lines of fine terms leave.
    pub each : (ts : PlainTerms) → AreEncodable enums ts → AreKeys (subterms_of_all ts) → (s : Tables) → Good s → Good (encode_terms enums ts s).tables
    each no_terms f k s h = h
    each (one_term t ts) f k s h =
        each ts f.1 (all-back IsKey (subterms t) (subterms_of_all ts) k) (encode_term enums t s).tables (term t f.0 (all-front IsKey (subterms t) (subterms_of_all ts) k) s h)

    fields : (x : PlainFields) → AreEncodableFields enums x → AreKeys (subterms_of_fields x) → (s : Tables) → Good s → Good (encode_fields enums x s).tables
    fields no_fields f k s h = h
    fields (one_field a t x) f k s h =
        fields x f.1 (all-back IsKey (subterms t) (subterms_of_fields x) k) (encode_term enums t s).tables (term t f.0 (all-front IsKey (subterms t) (subterms_of_fields x) k) s h)
