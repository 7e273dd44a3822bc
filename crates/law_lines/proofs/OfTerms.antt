-- The steps of terms.
use Rattle.std.proofs.Common.{◌≡◌, ℕ, ◌+◌, ◌<◌, true, List, [], ◌∷◌, ◌++◌, length, refl, sym, ap, ◌∙◌, subst, Option, Some, None, arith}
use Rattle.std.specs.Prelude.{chars, IsSome, is_some, nat_lt}
use Rattle.std.specs.List.{list_all}
use Rattle.std.proofs.lemmas.Bool.{and_parts, false≢true, ltb-true}
use Rattle.law_texts.specs.Quoting.{quoted_id}
use Rattle.law_terms.specs.Plain.{PlainType, OptionType, EntityType, ExtensionType, RecordType, SetType, PlainOp, BvnegoOp, RecordGetOp, UufOp, PlainLiteral, BitVecLiteral, BoolLiteral, EntityLiteral, ExtensionLiteral, StringLiteral, PlainTerm, Application, NoneTerm, LiteralTerm, RecordTerm, SetTerm, SomeTerm, VariableTerm, PlainTerms, no_terms, one_term, PlainFields, no_fields, one_field}
use Rattle.law_terms.specs.TypeValues.{Enums, members_of}
use Rattle.law_terms.specs.Types.{type_of, field_types, kind_of}
use Rattle.law_texts.specs.Lexicon.{Text}
use Rattle.law_texts.specs.Reading.{Expression, Leaf}
use Rattle.law_scripts.specs.Script.{State, name, group, is_in, built_in_names}
use Rattle.law_scripts.specs.Written.{is_name}
use Rattle.law_lines.specs.LineForms.{extension_body, none_body, set_body, record_body, application_body, least_body, some_body, variable_lines}
use Rattle.law_lines.specs.EntryNames.{member_name, place_of, enum_member}
use Rattle.law_lines.specs.Lines.{encode_function, define_entity, encode_type, encode_literal, encode_head, encode_term, encode_terms, encode_fields, define_application, Rendering, AsApplication, AsEqualsIntMin, AsFalse, application_rendering, define, enter_term, next_term, ◌>>=◌}
use Rattle.law_lines.specs.NameTables.{name_of_function, Tables, name_of_term, name_of_type, text_of_name}
use Rattle.law_lines.specs.Line.{DefineFun}
use Rattle.law_lines.specs.Entries.{TypeHasEntries, texts_of, texts_of_fields, text_or_nothing, HaveTexts, HaveFieldTexts, HasFunction, application_head, application_lines, entity_literal_lines}
use Rattle.law_lines.specs.TermTexts.{named_text}
use Rattle.law_lines.specs.TableGrowth.{Keeps}
use Rattle.law_lines.proofs.Grow.{terms_grow, term_grows, fields_grow, head_grows, names_stay}
use Rattle.law_lines.proofs.Making.{terms_are_made, functions_are_made}
use Rattle.law_lines.proofs.Stays.{texts_stay}
use Rattle.law_lines.specs.Encodable.{HasMember, HasArgument, IsEncodableType, IsEncodableOp, IsLeast, IsEncodableId, IsEncodableLiteral, IsEncodable, AreEncodable, AreEncodableFields}
use Rattle.law_lines.specs.Fit.{HasRecord, EachLine, LineIsDeclared, Fit, AreObeyable, IsObeyable, declares, names_of_type}
use Rattle.law_lines.proofs.Known.{GoodSort, GoodText, GoodTexts, TextsAre, text_good, texts_good, applied_good}
use Rattle.law_lines.proofs.Kept.{itself_kept}
use Rattle.law_lines.proofs.Enter.{keeps_then}
use Rattle.law_lines.proofs.Single.{no_step, steps_then, unless_steps, define_steps, constant_steps, known_term}
use Rattle.law_lines.proofs.OfTypes.{types_step, functions_step, sort_later, good_later, itself}
use Rattle.law_lines.proofs.Bodies.{first_has_sort, stands_so, placed_passes, body_good, least_good, none_good, some_good, set_good, record_good, extension_good}
use Rattle.law_scripts.proofs.Results.{or_right}
use Rattle.law_lines.proofs.TypeNames.{placed, listed_entity, names_listed}

pub texts_keep : (s u : Tables) → Keeps s u → (ts : PlainTerms) (es : List Expression) → TextsAre s ts es → TextsAre u ts es
texts_keep s u k no_terms [] h = tt
texts_keep s u k no_terms (e ∷ es) h = absurd h
texts_keep s u k (one_term t ts) [] h = absurd h
texts_keep s u k (one_term t ts) (e ∷ es) h = (texts_stay s u t e k h.0, texts_keep s u k ts es h.1)

pub texts_are : (enums : Enums) (ts : PlainTerms) (s : Tables) → TextsAre (encode_terms enums ts s).tables ts (encode_terms enums ts s).made
texts_are enums no_terms s = tt
texts_are enums (one_term t ts) s =
    let u : Tables = (encode_term enums t s).tables in
    let v : Tables = (encode_terms enums ts u).tables in
    (texts_stay u v t (encode_term enums t s).made (names_stay enums u (encode_terms enums ts u).lines v (terms_grow enums ts u)) (terms_are_made enums t s), texts_are enums ts u)

-- the terms of fields
abbrev pub terms_in : PlainFields → PlainTerms
terms_in no_fields = no_terms
terms_in (one_field a t x) = one_term t (terms_in x)

fine_in : (enums : Enums) (x : PlainFields) → AreEncodableFields enums x → AreEncodable enums (terms_in x)
fine_in enums no_fields f = tt
fine_in enums (one_field a t x) f = (f.0, fine_in enums x f.1)

fields_are : (enums : Enums) (x : PlainFields) (s : Tables) → TextsAre (encode_fields enums x s).tables (terms_in x) (encode_fields enums x s).made
fields_are enums no_fields s = tt
fields_are enums (one_field a t x) s =
    let u : Tables = (encode_term enums t s).tables in
    let v : Tables = (encode_fields enums x u).tables in
    (texts_stay u v t (encode_term enums t s).made (names_stay enums u (encode_fields enums x u).lines v (fields_grow enums x u)) (terms_are_made enums t s), fields_are enums x u)

-- ---- names that have no line

-- no fine application is written as `false`
pub not_false : (enums : Enums) (op : PlainOp) (ts : PlainTerms) (type : PlainType) → application_rendering op ts type ≡ AsFalse → IsEncodableOp enums op ts type → ⊥
not_false enums BvnegoOp ts type e f = subst IsLeast e f
not_false enums op ts type e f = absurd cc

texts_listed_so : (s : Tables) (ts : PlainTerms) (es : List Expression) → TextsAre s ts es → (texts_of s ts ≡ es) × HaveTexts s ts
texts_listed_so s no_terms [] h = (refl, tt)
texts_listed_so s no_terms (e ∷ es) h = absurd h
texts_listed_so s (one_term t ts) [] h = absurd h
texts_listed_so s (one_term t ts) (e ∷ es) h =
    let a = h.0 in let r = texts_listed_so s ts es h.1 in let b = r.0 in
    (λ i. text_or_nothing (a i) ∷ b i, (ap is_some a, r.1))

fields_listed : (s : Tables) (x : PlainFields) (es : List Expression) → TextsAre s (terms_in x) es → (texts_of_fields s x ≡ es) × HaveFieldTexts s x
fields_listed s no_fields [] h = (refl, tt)
fields_listed s no_fields (e ∷ es) h = absurd h
fields_listed s (one_field a t x) [] h = absurd h
fields_listed s (one_field a t x) (e ∷ es) h =
    let p = h.0 in let r = fields_listed s x es h.1 in let b = r.0 in
    (λ i. text_or_nothing (p i) ∷ b i, (ap is_some p, r.1))

named_is : (o : Option (List ℕ)) (e : Expression) → named_text o ≡ Some e → (name (text_of_name o) ≡ e) × IsSome o
named_is (Some n) e h = (cc, refl)
named_is None e h = absurd (none h)
  where
    none : None ≡ Some e → ⊥
    none h = cc

head_is : (enums : Enums) (op : PlainOp) (ts : PlainTerms) (w : Tables) → (application_head enums (encode_head enums op ts w).tables op ts ≡ (encode_head enums op ts w).made) × HasFunction (encode_head enums op ts w).tables op
head_is enums (UufOp f) ts w = named_is (name_of_function (encode_function enums f w).tables f) (encode_function enums f w).made (functions_are_made enums f w)
head_is enums op ts w = (refl, tt)

least_function : (op : PlainOp) (ts : PlainTerms) (type : PlainType) (width : ℕ) (w : Tables) → application_rendering op ts type ≡ AsEqualsIntMin width → HasFunction w op
least_function (UufOp f) ts type width w e = absurd cc
least_function op ts type width w e = tt

member_stands : (enums : Enums) (s : Tables) (type id : List ℕ) (members : List (List ℕ)) → members_of enums type ≡ Some members → nat_lt (place_of id members) (length members) ≡ true → IsSome (name_of_type s (EntityType type))
    → AreObeyable enums s [] (record s { terms = s.terms ++ (LiteralTerm (EntityLiteral type id), enum_member members (text_of_name (name_of_type s (EntityType type))) id) ∷ [] })
member_stands enums s type id members e l h state fit =
    let n = text_of_name (name_of_type s (EntityType type)) in
    let i = place_of id members in
    let c = length members in
    let y = stands_so enums s state fit (EntityType type) h in
    let k : i < 0 + c = let m = ltb-true i c l in omega arith in
    let names : names_of_type enums (EntityType type) n ≡ placed (member_name n) 0 c = names_listed enums (EntityType type) n ∙ ap (λ o. listed_entity o n) e in
    let d : list_all (declares state) (placed (member_name n) 0 c) ≡ true = subst (λ ns. list_all (declares state) ns ≡ true) names y.declared in
    let w : list_all is_name (placed (member_name n) 0 c) ≡ true = subst (λ ns. list_all is_name ns ≡ true) names y.names in
    record {
      after = state;
      runs = refl;
      fits = known_term enums s state fit (LiteralTerm (EntityLiteral type id)) (member_name n i) (record {
        declared = or_right (is_in (member_name n i) built_in_names) (declares state (member_name n i)) (placed_passes (declares state) (member_name n) 0 c i d (omega arith) k);
        name = placed_passes is_name (member_name n) 0 c i w (omega arith) k;
        sort = h;
      }) (tt, tt) (subst (λ o. EachLine (LineIsDeclared state) (entity_literal_lines o n id (member_name n i))) (sym e) tt);
      written = refl;
      kept = itself_kept state;
      lines_are_declared = tt;
      same_below = refl;
      same_assertions = refl;
    }

-- ---- literals

entity_good : (enums : Enums) (s : Tables) (type id : List ℕ) → members_of enums type ≡ None → IsSome (name_of_type s (EntityType type)) → IsEncodableId None id → (state : State) → Fit enums s state
    → GoodSort state (name (text_of_name (name_of_type s (EntityType type)))) × GoodText state (group (name (text_of_name (name_of_type s (EntityType type))) ∷ Leaf (Text (chars id)) ∷ [])) × TypeHasEntries s (EntityType type)
entity_good enums s type id e h f state fit =
    let n = text_of_name (name_of_type s (EntityType type)) in
    let y = stands_so enums s state fit (EntityType type) h in
    let d : list_all (declares state) (listed_entity None n) ≡ true = subst (λ ns. list_all (declares state) ns ≡ true) (names_listed enums (EntityType type) n ∙ ap (λ o. listed_entity o n) e) y.declared in
    let es = Leaf (Text (chars id)) ∷ [] in
    let g : GoodTexts state es = (refl, rw f refl) in
    ((y.sort, y.name), applied_good enums s state fit n (Leaf (Text (chars id))) [] (and_parts (declares state n) _ d).0 y.name g, h)

entity_steps : (enums : Enums) (o : Option (List (List ℕ))) (type id : List ℕ) (s : Tables) → members_of enums type ≡ o → IsEncodableId o id → IsSome (name_of_type s (EntityType type)) → IsObeyable enums s (define_entity o type id (text_of_name (name_of_type s (EntityType type))) s)
entity_steps enums None type id s e f h = define_steps enums (LiteralTerm (EntityLiteral type id)) _ _ s (λ state fit. entity_good enums s type id e h f state fit) (λ state fit. (tt, tt)) (ap (λ o. entity_literal_lines o (text_of_name (name_of_type s (EntityType type))) id (next_term s)) e)
entity_steps enums (Some members) type id s e f h = member_stands enums s type id members e f h

-- an enum type of which there is a member has one
of_fine_id : (o : Option (List (List ℕ))) (id : List ℕ) → IsEncodableId o id → HasMember o
of_fine_id None id f = tt
of_fine_id (Some []) id f = false≢true f
of_fine_id (Some (m ∷ ms)) id f = tt

literals_step : (enums : Enums) (p : PlainLiteral) (s : Tables) → IsEncodableLiteral enums p → IsObeyable enums s (encode_literal enums p s)
literals_step enums (BitVecLiteral width number) s f = no_step enums s
literals_step enums (BoolLiteral b) s f = no_step enums s
literals_step enums (EntityLiteral type id) s f = unless_steps enums (name_of_term s (LiteralTerm (EntityLiteral type id))) s _
    (steps_then enums (types_step enums (EntityType type) s (of_fine_id (members_of enums type) id f))
    (entity_steps enums (members_of enums type) type id (encode_type enums (EntityType type) s).tables refl f (sort_later enums (EntityType type) s (encode_type enums (EntityType type) s).tables (itself (encode_type enums (EntityType type) s).tables)).0))
literals_step enums (ExtensionLiteral x) s f = unless_steps enums (name_of_term s (LiteralTerm (ExtensionLiteral x))) s _
    (steps_then enums (types_step enums (ExtensionType (kind_of x)) s tt)
    (define_steps enums (LiteralTerm (ExtensionLiteral x)) _ _ u
    (λ state fit. let h = (sort_later enums (ExtensionType (kind_of x)) s u (itself u)).0 in
    (good_later enums (ExtensionType (kind_of x)) s u (itself u) tt state fit, extension_good enums u state fit x h, h)) (λ state fit. (tt, tt))
    (ap (λ (e : Expression). DefineFun (next_term u) e (extension_body x) ∷ []) (sort_later enums (ExtensionType (kind_of x)) s u (itself u)).1)))
  where
    u : Tables
    u = (encode_type enums (ExtensionType (kind_of x)) s).tables
literals_step enums (StringLiteral text) s f = no_step enums s

-- ---- applications

heads_step : (enums : Enums) (op : PlainOp) (ts : PlainTerms) (type : PlainType) (s : Tables) → IsEncodableOp enums op ts type → IsObeyable enums s (encode_head enums op ts s)
heads_step enums (UufOp f) ts type s h = functions_step enums f s h.0 h.1
heads_step enums op ts type s h = no_step enums s

record_there : (enums : Enums) (op : PlainOp) (ts : PlainTerms) (type : PlainType) (s : Tables) (state : State) → Fit enums s state → AreEncodable enums ts → IsEncodableOp enums op ts type → (es : List Expression) → TextsAre s ts es → HasRecord s op ts
record_there enums (RecordGetOp b) ts type s state fit a o es h =
    subst (λ t. IsSome (name_of_type s t)) (sym o.1) (subst (λ t. TypeHasEntries s t) o.1 (first_has_sort enums s state fit ts a es h))
record_there enums op ts type s state fit a o es h = tt

same_line : (op : PlainOp) {n : List ℕ} {a b c d : Expression} {es fs : List Expression} → a ≡ b → c ≡ d → es ≡ fs → DefineFun n a (application_body c op es) ∷ [] ≡ DefineFun n b (application_body d op fs) ∷ []
same_line op {n} p q r = λ i. DefineFun n (p i) (application_body (q i) op (r i)) ∷ []

applications_step : (enums : Enums) (m : Rendering) (op : PlainOp) (ts : PlainTerms) (type : PlainType) (s : Tables) → application_rendering op ts type ≡ m → IsEncodableType enums type → AreEncodable enums ts → IsEncodableOp enums op ts type → HasArgument ts
    → IsObeyable enums (encode_type enums type s).tables (encode_terms enums ts (encode_type enums type s).tables)
    → IsObeyable enums (encode_type enums type s).tables (define_application enums m op ts type (λ w. encode_terms enums ts w) (encode_type enums type s).made (encode_type enums type s).tables)
applications_step enums AsApplication op ts type s e f a o some arguments =
    let u : Tables = (encode_type enums type s).tables in
    let w : Tables = (encode_terms enums ts u).tables in
    let v : Tables = (encode_head enums op ts w).tables in
    let es : List Expression = (encode_terms enums ts u).made in
    let k1 = names_stay enums u (encode_terms enums ts u).lines w (terms_grow enums ts u) in
    let k2 = names_stay enums w (encode_head enums op ts w).lines v (head_grows enums op ts w) in
    let k = keeps_then u w v k1 k2 in
    let listed = texts_listed_so v ts es (texts_keep w v k2 ts es (texts_are enums ts u)) in
    let have = listed.1 in
    let r = listed.0 in
    let q = (head_is enums op ts w).0 in
    let p = (sort_later enums type s v k).1 in
    steps_then enums arguments (steps_then enums (heads_step enums op ts type w o)
    (define_steps enums (Application op ts type) (encode_type enums type s).made _ v
    (λ state fit. let h = (sort_later enums type s v k).0 in
    (good_later enums type s v k f state fit, body_good enums w op ts type es e o some a (texts_keep w v k2 ts es (texts_are enums ts u)) h state fit, h))
    (λ state fit. ((have, (head_is enums op ts w).1), record_there enums op ts type v state fit a o es (texts_keep w v k2 ts es (texts_are enums ts u)))) (ap (λ m. application_lines enums v m op ts type (next_term v)) e ∙ same_line op p q r)))
applications_step enums (AsEqualsIntMin width) op ts type s e f a o some arguments =
    let u : Tables = (encode_type enums type s).tables in
    let w : Tables = (encode_terms enums ts u).tables in
    let es : List Expression = (encode_terms enums ts u).made in
    let k = names_stay enums u (encode_terms enums ts u).lines w (terms_grow enums ts u) in
    let listed = texts_listed_so w ts es (texts_are enums ts u) in
    let r = listed.0 in
    let p = (sort_later enums type s w k).1 in
    steps_then enums arguments
    (define_steps enums (Application op ts type) (encode_type enums type s).made _ w
    (λ state fit. let h = (sort_later enums type s w k).0 in
    (good_later enums type s w k f state fit, least_good state width es (texts_good enums w state fit ts a es (texts_are enums ts u)), h))
    (λ state fit. ((listed.1, least_function op ts type width w e), record_there enums op ts type w state fit a o es (texts_are enums ts u))) (ap (λ m. application_lines enums w m op ts type (next_term w)) e ∙ (λ i. DefineFun (next_term w) (p i) (least_body width (r i)) ∷ [])))
applications_step enums AsFalse op ts type s e f a o some arguments = absurd (not_false enums op ts type e o)

-- ---- terms

none_steps : (enums : Enums) (type : PlainType) (s : Tables) → IsEncodableType enums type
    → AreObeyable enums s ((encode_type enums (OptionType type) s).lines ++ (define (NoneTerm type) (encode_type enums (OptionType type) s).made (none_body (encode_type enums (OptionType type) s).made) (encode_type enums (OptionType type) s).tables).lines)
    (define (NoneTerm type) (encode_type enums (OptionType type) s).made (none_body (encode_type enums (OptionType type) s).made) (encode_type enums (OptionType type) s).tables).tables
none_steps enums type s f =
    let u : Tables = (encode_type enums (OptionType type) s).tables in
    steps_then enums (types_step enums (OptionType type) s f)
    (define_steps enums (NoneTerm type) (encode_type enums (OptionType type) s).made (none_body (encode_type enums (OptionType type) s).made) u
    (λ state fit. let g = good_later enums (OptionType type) s u (itself u) f state fit in
    (g, none_good enums u state fit (encode_type enums (OptionType type) s).made g, (sort_later enums (OptionType type) s u (itself u)).0)) (λ state fit. (tt, tt))
    (ap (λ (e : Expression). DefineFun (next_term u) e (none_body e) ∷ []) (sort_later enums (OptionType type) s u (itself u)).1))

variable_steps : (enums : Enums) (id : List ℕ) (type : PlainType) (s : Tables) → IsEncodableType enums type
    → IsObeyable enums s (encode_type enums type s >>= λ sort v. enter_term (VariableTerm id type) (next_term v) (variable_lines id (next_term v) sort) v)
variable_steps enums id type s f =
    let u : Tables = (encode_type enums type s).tables in
    steps_then enums (types_step enums type s f)
    (constant_steps enums (VariableTerm id type) (quoted_id id) (encode_type enums type s).made u
    (λ state fit. (good_later enums type s u (itself u) f state fit, (sort_later enums type s u (itself u)).0)) (λ state fit. (tt, tt))
    (ap (λ (e : Expression). variable_lines id (next_term u) e) (sort_later enums type s u (itself u)).1))

record_steps : (enums : Enums) (x : PlainFields) (s : Tables) → IsEncodableType enums (RecordType (field_types x)) → AreEncodableFields enums x
    → IsObeyable enums (encode_fields enums x (encode_type enums (RecordType (field_types x)) s).tables).tables
    (define (RecordTerm x) (encode_type enums (RecordType (field_types x)) s).made
    (record_body (encode_type enums (RecordType (field_types x)) s).made (encode_fields enums x (encode_type enums (RecordType (field_types x)) s).tables).made)
    (encode_fields enums x (encode_type enums (RecordType (field_types x)) s).tables).tables)
record_steps enums x s f g =
    let t : PlainType = RecordType (field_types x) in
    let u : Tables = (encode_type enums t s).tables in
    let w : Tables = (encode_fields enums x u).tables in
    let es : List Expression = (encode_fields enums x u).made in
    let sort : Expression = (encode_type enums t s).made in
    let k = names_stay enums u (encode_fields enums x u).lines w (fields_grow enums x u) in
    let listed = fields_listed w x es (fields_are enums x u) in
    let r = listed.0 in
    let p = (sort_later enums t s w k).1 in
    define_steps enums (RecordTerm x) sort (record_body sort es) w
    (λ state fit. let h = sort_later enums t s w k in (
      good_later enums t s w k f state fit,
      subst (λ e. GoodText state (record_body e es)) h.1 (record_good enums w state fit (field_types x) h.0 es (texts_good enums w state fit (terms_in x) (fine_in enums x g) es (fields_are enums x u))),
      h.0,
    ))
    (λ state fit. (listed.1, tt)) (λ i. DefineFun (next_term w) (p i) (record_body (p i) (r i)) ∷ [])

set_steps : (enums : Enums) (element : PlainType) (ts : PlainTerms) (s : Tables) → IsEncodableType enums element → AreEncodable enums ts
    → IsObeyable enums (encode_terms enums ts (encode_type enums (SetType element) s).tables).tables
    (define (SetTerm element ts) (encode_type enums (SetType element) s).made
    (set_body (encode_type enums (SetType element) s).made (encode_terms enums ts (encode_type enums (SetType element) s).tables).made)
    (encode_terms enums ts (encode_type enums (SetType element) s).tables).tables)
set_steps enums element ts s f g =
    let t : PlainType = SetType element in
    let u : Tables = (encode_type enums t s).tables in
    let w : Tables = (encode_terms enums ts u).tables in
    let es : List Expression = (encode_terms enums ts u).made in
    let sort : Expression = (encode_type enums t s).made in
    let k = names_stay enums u (encode_terms enums ts u).lines w (terms_grow enums ts u) in
    let listed = texts_listed_so w ts es (texts_are enums ts u) in
    let r = listed.0 in
    let p = (sort_later enums t s w k).1 in
    define_steps enums (SetTerm element ts) sort (set_body sort es) w
    (λ state fit. let y = good_later enums t s w k f state fit in
    (y, set_good state sort es y (texts_good enums w state fit ts g es (texts_are enums ts u)), (sort_later enums t s w k).0))
    (λ state fit. (listed.1, tt)) (λ i. DefineFun (next_term w) (p i) (set_body (p i) (r i)) ∷ [])

some_steps : (enums : Enums) (t : PlainTerm) (s : Tables) → IsEncodableType enums (type_of t) → IsEncodable enums t
    → IsObeyable enums (encode_term enums t (encode_type enums (OptionType (type_of t)) s).tables).tables
    (define (SomeTerm t) (encode_type enums (OptionType (type_of t)) s).made
    (some_body (encode_term enums t (encode_type enums (OptionType (type_of t)) s).tables).made)
    (encode_term enums t (encode_type enums (OptionType (type_of t)) s).tables).tables)
some_steps enums t s f g =
    let o : PlainType = OptionType (type_of t) in
    let u : Tables = (encode_type enums o s).tables in
    let w : Tables = (encode_term enums t u).tables in
    let e : Expression = (encode_term enums t u).made in
    let k = names_stay enums u (encode_term enums t u).lines w (term_grows enums t u) in
    let made = terms_are_made enums t u in
    let p = (sort_later enums o s w k).1 in
    define_steps enums (SomeTerm t) (encode_type enums o s).made (some_body e) w
    (λ state fit. (good_later enums o s w k f state fit, some_good enums w state fit e (text_good enums w state fit t g e (terms_are_made enums t u)).0, (sort_later enums o s w k).0))
    (λ state fit. (ap is_some made, tt)) (λ i. DefineFun (next_term w) (p i) (some_body (text_or_nothing (made i))) ∷ [])

mutual
  pub terms_step : (enums : Enums) (t : PlainTerm) (s : Tables) → IsEncodable enums t → IsObeyable enums s (encode_term enums t s)
  terms_step enums (Application op ts type) s f = unless_steps enums (name_of_term s (Application op ts type)) s _
      (steps_then enums (types_step enums type s f.0)
      (applications_step enums (application_rendering op ts type) op ts type s refl f.0 f.1 f.2 f.3 (each_step enums ts (encode_type enums type s).tables f.1)))
  terms_step enums (NoneTerm type) s f = unless_steps enums (name_of_term s (NoneTerm type)) s _ (none_steps enums type s f)
  terms_step enums (LiteralTerm p) s f = literals_step enums p s f
  terms_step enums (RecordTerm x) s f = unless_steps enums (name_of_term s (RecordTerm x)) s _
      (steps_then enums (types_step enums (RecordType (field_types x)) s f.0)
      (steps_then enums (fields_step enums x (encode_type enums (RecordType (field_types x)) s).tables f.1) (record_steps enums x s f.0 f.1)))
  terms_step enums (SetTerm element ts) s f = unless_steps enums (name_of_term s (SetTerm element ts)) s _
      (steps_then enums (types_step enums (SetType element) s f.0)
      (steps_then enums (each_step enums ts (encode_type enums (SetType element) s).tables f.1) (set_steps enums element ts s f.0 f.1)))
  terms_step enums (SomeTerm t) s f = unless_steps enums (name_of_term s (SomeTerm t)) s _
      (steps_then enums (types_step enums (OptionType (type_of t)) s f.0)
      (steps_then enums (terms_step enums t (encode_type enums (OptionType (type_of t)) s).tables f.1) (some_steps enums t s f.0 f.1)))
  terms_step enums (VariableTerm id type) s f = unless_steps enums (name_of_term s (VariableTerm id type)) s _ (variable_steps enums id type s f)

  pub each_step : (enums : Enums) (ts : PlainTerms) (s : Tables) → AreEncodable enums ts → IsObeyable enums s (encode_terms enums ts s)
  each_step enums no_terms s f = no_step enums s
  each_step enums (one_term t ts) s f = steps_then enums (terms_step enums t s f.0) (steps_then enums (each_step enums ts _ f.1) (no_step enums _))

  pub fields_step : (enums : Enums) (x : PlainFields) (s : Tables) → AreEncodableFields enums x → IsObeyable enums s (encode_fields enums x s)
  fields_step enums no_fields s f = no_step enums s
  fields_step enums (one_field a t x) s f = steps_then enums (terms_step enums t s f.0) (steps_then enums (fields_step enums x _ f.1) (no_step enums _))
