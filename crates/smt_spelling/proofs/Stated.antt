-- What is stated of a node: of one that has no text yet by its parts and its own lines; of one that has a name by that.
use Rattle.std.proofs.Common.{◌≡◌, ◌⊎◌, inl, inr, ℕ, ◌-◌, Bool, true, false, List, [], ◌∷◌, ◌++◌, drop, length, length-append, map, take, refl, sym, ap, subst, ◌∙◌, append_assoc, append-nil, arith, Option, Some, None}
use Rattle.std.proofs.lemmas.Bool.{false≢true}
use Rattle.law_texts.specs.Reading.{Expression}
use Rattle.law_scripts.specs.Script.{group, name}
use Rattle.law_terms.specs.Plain.{PlainType, OptionType, BitVecType, BoolType, EntityType, ExtensionType, RecordType, StringType, SetType, AttributeTypes, no_attributes, attribute, PlainTerm, PlainTerms, no_terms, one_term, PlainFields, no_fields, one_field, PlainFunction, PlainOp, UufOp, Application, NoneTerm, LiteralTerm, RecordTerm, SetTerm, SomeTerm, VariableTerm, BitVecLiteral, BoolLiteral, EntityLiteral, ExtensionLiteral, StringLiteral, list_of_terms}
use Rattle.law_terms.specs.Types.{literal_type, type_eq, type_of}
use Rattle.law_terms.proofs.TermTotal.{types_decided}
use Rattle.law_lines.proofs.Making.{lookup_new}
use Rattle.law_terms.specs.Nodes.{ApplicationLabel, Meaning, TypeMeaning, FunctionMeaning, TermMeaning}
use Rattle.law_terms.specs.Parts.{field_terms, label_in, parts_in, term_label, term_parts, type_label, type_parts, types_in, attribute_names}
use Rattle.law_lines.specs.LineForms.{function_declaration, function_heading, variable_lines, none_body, set_body, some_body, application_body, extension_body, record_body, record_lines}
use Rattle.law_lines.specs.Lines.{Enums, Rendering, AsApplication, AsEqualsIntMin, AsFalse, Written, next_entity, next_function, next_record, next_term, declare_entity, declare_kind, declare_record, enter_function, enter_term, enter_type, encode_attributes, encode_fields, encode_function, encode_head, encode_type, encode_terms, encode_term, define, define_application, define_entity, application_rendering, behind, made_of, members_of, unless_named, ◌>>=◌}
use Rattle.law_lines.specs.NameTables.{Tables, name_of_term, name_of_type, text_of_name}
use Rattle.smt_spelling.specs.NodeLines.{encode_meaning, encode_meanings, has_entry, name_in}
use Rattle.smt_spelling.specs.NodeEntries.{Rendered, enter_by, head_at, heading, is_built, is_built_op, last_first, op_rendering, own_by, own_lines, rendering_in, written_parts}
use Rattle.smt_spelling.specs.Entries.{entity_entry}

-- ---- texts one after the other

one_part : (w : Written Expression) (k : List Expression → Tables → Written Expression) → (w >>= λ e u. made_of [] u >>= λ es v. made_of (e ∷ es) v) >>= k ≡ w >>= λ e u. k (e ∷ []) u
one_part w k = λ i. record { made = (k (w.made ∷ []) w.tables).made; lines = append-nil w.lines i ++ (k (w.made ∷ []) w.tables).lines; tables = (k (w.made ∷ []) w.tables).tables }

typed_parts : (w : Written Expression) (f : Tables → Written (List Expression)) (k : List Expression → Tables → Written Expression) → (w >>= λ e u. f u >>= λ es v. made_of (e ∷ es) v) >>= k ≡ w >>= λ e u. f u >>= λ es v. k (e ∷ es) v
typed_parts w f k =
    let v : Written (List Expression) = f w.tables in
    let x : Written Expression = k (w.made ∷ v.made) v.tables in
    let e : (w.lines ++ (v.lines ++ [])) ++ x.lines ≡ w.lines ++ (v.lines ++ x.lines) = ap (λ l. (w.lines ++ l) ++ x.lines) (append-nil v.lines) ∙ append_assoc w.lines v.lines x.lines in
    λ i. record { made = x.made; lines = e i; tables = x.tables }

-- terms in order
terms_in_order : (enums : Enums) (ts : PlainTerms) (s : Tables) → encode_meanings enums (map TermMeaning (list_of_terms ts)) s ≡ encode_terms enums ts s
terms_in_order enums no_terms s = refl
terms_in_order enums (one_term t ts) s = ap (λ (f : Tables → Written (List Expression)). encode_term enums t s >>= λ e u. f u >>= λ es v. made_of (e ∷ es) v) (λ i u. terms_in_order enums ts u i)

-- types of attributes, and terms of fields
types_in_order : (enums : Enums) (x : AttributeTypes) (s : Tables) → encode_meanings enums (types_in x) s ≡ encode_attributes enums x s
types_in_order enums no_attributes s = refl
types_in_order enums (attribute a t x) s = ap (λ (f : Tables → Written (List Expression)). encode_type enums t s >>= λ e u. f u >>= λ es v. made_of (e ∷ es) v) (λ i u. types_in_order enums x u i)

fields_in_order : (enums : Enums) (x : PlainFields) (s : Tables) → encode_meanings enums (field_terms x) s ≡ encode_fields enums x s
fields_in_order enums no_fields s = refl
fields_in_order enums (one_field a t x) s = ap (λ (f : Tables → Written (List Expression)). encode_term enums t s >>= λ e u. f u >>= λ es v. made_of (e ∷ es) v) (λ i u. fields_in_order enums x u i)

-- ---- applications

-- a function at arguments
abbrev pub is_call : PlainOp → Bool
is_call (UufOp f) = true
is_call o = false

pub call_or_not : (o : PlainOp) → ((f : PlainFunction) × (o ≡ UufOp f)) ⊎ (is_call o ≡ false)
call_or_not (UufOp f) = inl (f, refl)
call_or_not o = inr refl

pub label_of_application : (o : PlainOp) (ts : PlainTerms) (t : PlainType) → is_call o ≡ false → term_label (Application o ts t) ≡ ApplicationLabel o
label_of_application (UufOp f) ts t h = absurd (false≢true (sym h))
label_of_application o ts t h = refl

pub parts_of_application : (o : PlainOp) (ts : PlainTerms) (t : PlainType) → is_call o ≡ false → term_parts (Application o ts t) ≡ map TermMeaning (list_of_terms ts)
parts_of_application (UufOp f) ts t h = absurd (false≢true (sym h))
parts_of_application o ts t h = refl

pub rendering_of_application : (o : PlainOp) (ts : PlainTerms) (t : PlainType) → is_call o ≡ false → op_rendering o ts t ≡ Rendered (application_rendering o ts t)
rendering_of_application (UufOp f) ts t h = absurd (false≢true (sym h))
rendering_of_application o ts t h = refl

pub built_application : (o : PlainOp) (ts : PlainTerms) (t : PlainType) → is_call o ≡ false → is_built (term_label (Application o ts t)) ≡ true → is_built_op o ≡ true
built_application (UufOp f) ts t u h = absurd (false≢true (sym u))
built_application o ts t u h = refl

head_made : (enums : Enums) (o : PlainOp) (ts : PlainTerms) (s : Tables) → is_built_op o ≡ true → encode_head enums o ts s ≡ made_of (head_at o ts s) s
head_made enums (UufOp f) ts s h = absurd (false≢true h)
head_made enums o ts s h = refl

-- an application's own lines, behind its type
application_stated : (enums : Enums) (how : Rendering) (o : PlainOp) (ts : PlainTerms) (type : PlainType) (s : Tables) → is_built_op o ≡ true
    → encode_type enums type s >>= (λ sort v. define_application enums how o ts type (λ w. encode_terms enums ts w) sort v)
    ≡ encode_meanings enums (written_parts (Rendered how) (TypeMeaning type ∷ map TermMeaning (list_of_terms ts))) s >>= λ es u. own_by enums (ApplicationLabel o) (Rendered how) (TermMeaning (Application o ts type)) es u
application_stated enums AsApplication o ts type s h =
    let w : Written Expression = encode_type enums type s in
    let k : List Expression → Tables → Written Expression = λ es u. own_by enums (ApplicationLabel o) (Rendered AsApplication) (TermMeaning (Application o ts type)) es u in
    (λ i. w >>= λ sort v. encode_terms enums ts v >>= λ es u. head_made enums o ts u h i >>= λ head x. define (Application o ts type) sort (application_body head o es) x)
    ∙ sym (λ i. w >>= λ sort v. terms_in_order enums ts v i >>= λ es u. k (sort ∷ es) u)
    ∙ sym (typed_parts w (λ u. encode_meanings enums (map TermMeaning (list_of_terms ts)) u) k)
application_stated enums (AsEqualsIntMin width) o ts type s h =
    let w : Written Expression = encode_type enums type s in
    let k : List Expression → Tables → Written Expression = λ es u. own_by enums (ApplicationLabel o) (Rendered (AsEqualsIntMin width)) (TermMeaning (Application o ts type)) es u in
    sym (λ i. w >>= λ sort v. terms_in_order enums ts v i >>= λ es u. k (sort ∷ es) u)
    ∙ sym (typed_parts w (λ u. encode_meanings enums (map TermMeaning (list_of_terms ts)) u) k)
application_stated enums AsFalse o ts type s h =
    sym (one_part (encode_type enums type s) (λ es u. own_by enums (ApplicationLabel o) (Rendered AsFalse) (TermMeaning (Application o ts type)) es u))

-- ---- calls

-- several texts, and one behind them
one_behind : (enums : Enums) (ms : List Meaning) (m : Meaning) (s : Tables) (k : List Expression → Tables → Written Expression)
    → encode_meanings enums (ms ++ m ∷ []) s >>= k ≡ encode_meanings enums ms s >>= λ es u. encode_meaning enums m u >>= λ e v. k (es ++ e ∷ []) v
one_behind enums [] m s k = one_part (encode_meaning enums m s) k
one_behind enums (n ∷ ms) m s k =
    let w : Written Expression = encode_meaning enums n s in
    typed_parts w (λ u. encode_meanings enums (ms ++ m ∷ []) u) k
    ∙ (λ i. w >>= λ e u. one_behind enums ms m u (λ es v. k (e ∷ es) v) i)
    ∙ sym (typed_parts w (λ u. encode_meanings enums ms u) (λ es u. encode_meaning enums m u >>= λ e v. k (es ++ e ∷ []) v))

behind_all : {A : Type 0} (xs ys : List A) → drop (length xs) (xs ++ ys) ≡ ys
behind_all [] ys = refl
behind_all (x ∷ xs) ys = behind_all xs ys

before_all : {A : Type 0} (xs ys : List A) → take (length xs) (xs ++ ys) ≡ xs
before_all [] ys = refl
before_all (x ∷ xs) ys = ap (λ l. x ∷ l) (before_all xs ys)

pub last_is_first : {A : Type 0} (xs : List A) (x : A) → last_first (xs ++ x ∷ []) ≡ x ∷ xs
last_is_first xs x =
    let n : length (xs ++ x ∷ []) - 1 ≡ length xs = omega (arith, length-append xs (x ∷ [])) in
    ap (λ k. drop k (xs ++ x ∷ []) ++ take k (xs ++ x ∷ [])) n ∙ (λ i. behind_all xs (x ∷ []) i ++ before_all xs (x ∷ []) i)

-- a call's own lines, behind its type, its arguments and its function
call_stated : (enums : Enums) (f : PlainFunction) (ts : PlainTerms) (type : PlainType) (s : Tables)
    → encode_type enums type s >>= (λ sort v. define_application enums AsApplication (UufOp f) ts type (λ w. encode_terms enums ts w) sort v)
    ≡ encode_meanings enums (TypeMeaning type ∷ (map TermMeaning (list_of_terms ts) ++ FunctionMeaning f ∷ [])) s >>= λ es u. own_lines enums (TermMeaning (Application (UufOp f) ts type)) es u
call_stated enums f ts type s =
    let w : Written Expression = encode_type enums type s in
    let t : PlainTerm = Application (UufOp f) ts type in
    let k : List Expression → Tables → Written Expression = λ es u. own_lines enums (TermMeaning t) es u in
    (λ i. w >>= λ sort v. encode_terms enums ts v >>= λ es u. encode_function enums f u >>= λ head x. define t sort (group (sym (last_is_first es head) i)) x)
    ∙ sym (λ i. w >>= λ sort v. terms_in_order enums ts v i >>= λ es u. encode_function enums f u >>= λ head x. k (sort ∷ (es ++ head ∷ [])) x)
    ∙ sym (λ i. w >>= λ sort v. one_behind enums (map TermMeaning (list_of_terms ts)) (FunctionMeaning f) v (λ es u. k (sort ∷ es) u) i)
    ∙ sym (typed_parts w (λ u. encode_meanings enums (map TermMeaning (list_of_terms ts) ++ FunctionMeaning f ∷ []) u) k)

-- ---- entities

-- an entity's own lines, by the name of its sort
entity_own : (enums : Enums) (e i n : List ℕ) (s : Tables) → define_entity (members_of enums e) e i n s ≡ own_lines enums (TermMeaning (LiteralTerm (EntityLiteral e i))) (name n ∷ []) s
entity_own enums e i n s = go (members_of enums e)
  where
    go : (members : Option (List (List ℕ))) → define_entity members e i n s ≡ enter_by (entity_entry members i n) (LiteralTerm (EntityLiteral e i)) (name n) s
    go None = refl
    go (Some ms) = refl

-- behind the lines of its type
entity_stated : (enums : Enums) (e i : List ℕ) (s : Tables) (o : Option (List ℕ)) → name_of_type s (EntityType e) ≡ o
    → encode_type enums (EntityType e) s >>= (λ sort v. define_entity (members_of enums e) e i (text_of_name (name_of_type v (EntityType e))) v)
    ≡ encode_type enums (EntityType e) s >>= λ sort v. own_lines enums (TermMeaning (LiteralTerm (EntityLiteral e i))) (sort ∷ []) v
entity_stated enums e i s (Some n) is =
    let own : List ℕ → Tables → Written Expression = λ m v. own_lines enums (TermMeaning (LiteralTerm (EntityLiteral e i))) (name m ∷ []) v in
    ap (λ w. w >>= λ sort v. define_entity (members_of enums e) e i (text_of_name (name_of_type v (EntityType e))) v) (ap (λ o. unless_named o s (λ u. declare_entity enums e u)) is)
    ∙ ap (λ o. made_of (name n) s >>= λ sort v. define_entity (members_of enums e) e i (text_of_name o) s) is
    ∙ ap (λ w. made_of (name n) s >>= λ sort v. w) (entity_own enums e i n s)
    ∙ sym (ap (λ w. w >>= λ sort v. own_lines enums (TermMeaning (LiteralTerm (EntityLiteral e i))) (sort ∷ []) v) (ap (λ o. unless_named o s (λ u. declare_entity enums e u)) is))
entity_stated enums e i s None is =
    let d : Written Expression = declare_entity enums e s in
    let found : name_of_type d.tables (EntityType e) ≡ Some (next_entity s) = lookup_new (type_eq (EntityType e)) s.types (EntityType e) (next_entity s) ((types_decided (EntityType e) (EntityType e)).1 refl) is in
    ap (λ w. w >>= λ sort v. define_entity (members_of enums e) e i (text_of_name (name_of_type v (EntityType e))) v) (ap (λ o. unless_named o s (λ u. declare_entity enums e u)) is)
    ∙ ap (λ o. d >>= λ sort v. define_entity (members_of enums e) e i (text_of_name o) v) found
    ∙ ap (λ w. d >>= λ sort v. w) (entity_own enums e i (next_entity s) d.tables)
    ∙ sym (ap (λ w. w >>= λ sort v. own_lines enums (TermMeaning (LiteralTerm (EntityLiteral e i))) (sort ∷ []) v) (ap (λ o. unless_named o s (λ u. declare_entity enums e u)) is))

-- ---- a node that has no text yet

-- the lines of a node without a heading are those of its parts, and its own
pub stated : (enums : Enums) (m : Meaning) (s : Tables) → is_built (label_in m) ≡ true → heading (label_in m) ≡ [] → name_in s m ≡ None
    → encode_meaning enums m s ≡ encode_meanings enums (written_parts (rendering_in m) (parts_in m)) s >>= λ es u. own_lines enums m es u
stated enums (TypeMeaning (OptionType t)) s h u none = sym (one_part (encode_type enums t s) (λ es u. own_lines enums (TypeMeaning (OptionType t)) es u))
stated enums (TypeMeaning (BitVecType n)) s h u none = refl
stated enums (TypeMeaning BoolType) s h u none = refl
stated enums (TypeMeaning (EntityType e)) s h u none = ap (λ n. unless_named n s (λ u. declare_entity enums e u)) none
stated enums (TypeMeaning (ExtensionType k)) s h u none = ap (λ n. unless_named n s (λ u. declare_kind k u)) none
stated enums (TypeMeaning StringType) s h u none = refl
stated enums (TypeMeaning (RecordType x)) s h u none =
    ap (λ n. unless_named n s (λ u. encode_attributes enums x u >>= λ sorts v. declare_record x sorts v)) none
    ∙ sym (λ i. types_in_order enums x s i >>= λ es u. enter_type (RecordType x) (next_record u) (record_lines (attribute_names x) (next_record u) es) u)
stated enums (TypeMeaning (SetType t)) s h u none = sym (one_part (encode_type enums t s) (λ es u. own_lines enums (TypeMeaning (SetType t)) es u))
stated enums (FunctionMeaning f) s h u none = absurd (cc)
stated enums (TermMeaning (Application o ts t)) s h u none =
    ap (λ n. unless_named n s (λ u. encode_type enums t u >>= λ sort v. define_application enums (application_rendering o ts t) o ts t (λ w. encode_terms enums ts w) sort v)) none
    ∙ go (call_or_not o)
  where
    go : ((f : PlainFunction) × (o ≡ UufOp f)) ⊎ (is_call o ≡ false)
        → encode_type enums t s >>= (λ sort v. define_application enums (application_rendering o ts t) o ts t (λ w. encode_terms enums ts w) sort v)
        ≡ encode_meanings enums (written_parts (op_rendering o ts t) (parts_in (TermMeaning (Application o ts t)))) s >>= λ es u. own_lines enums (TermMeaning (Application o ts t)) es u
    go (inl (f, is)) =
        subst (λ (p : PlainOp). encode_type enums t s >>= (λ sort v. define_application enums (application_rendering p ts t) p ts t (λ w. encode_terms enums ts w) sort v)
        ≡ encode_meanings enums (written_parts (op_rendering p ts t) (parts_in (TermMeaning (Application p ts t)))) s >>= λ es u. own_lines enums (TermMeaning (Application p ts t)) es u) (sym is) (call_stated enums f ts t s)
    go (inr b) =
        application_stated enums (application_rendering o ts t) o ts t s (built_application o ts t b h)
        ∙ sym (λ i. encode_meanings enums (written_parts (rendering_of_application o ts t b i) (TypeMeaning t ∷ parts_of_application o ts t b i)) s >>= λ es u. own_by enums (label_of_application o ts t b i) (rendering_of_application o ts t b i) (TermMeaning (Application o ts t)) es u)
stated enums (TermMeaning (NoneTerm t)) s h u none =
    ap (λ n. unless_named n s (λ u. encode_type enums (OptionType t) u >>= λ sort v. define (NoneTerm t) sort (none_body sort) v)) none
    ∙ sym (one_part (encode_type enums (OptionType t) s) (λ es u. own_lines enums (TermMeaning (NoneTerm t)) es u))
stated enums (TermMeaning (LiteralTerm (BitVecLiteral w a))) s h u none = refl
stated enums (TermMeaning (LiteralTerm (BoolLiteral b))) s h u none = refl
stated enums (TermMeaning (LiteralTerm (EntityLiteral e i))) s h u none =
    ap (λ n. unless_named n s (λ u. encode_type enums (EntityType e) u >>= λ sort v. define_entity (members_of enums e) e i (text_of_name (name_of_type v (EntityType e))) v)) none
    ∙ entity_stated enums e i s (name_of_type s (EntityType e)) refl
    ∙ sym (one_part (encode_type enums (EntityType e) s) (λ es u. own_lines enums (TermMeaning (LiteralTerm (EntityLiteral e i))) es u))
stated enums (TermMeaning (LiteralTerm (StringLiteral x))) s h u none = refl
stated enums (TermMeaning (LiteralTerm (ExtensionLiteral x))) s h u none =
    ap (λ n. unless_named n s (λ u. encode_type enums (literal_type (ExtensionLiteral x)) u >>= λ sort v. define (LiteralTerm (ExtensionLiteral x)) sort (extension_body x) v)) none
    ∙ sym (one_part (encode_type enums (literal_type (ExtensionLiteral x)) s) (λ es u. own_lines enums (TermMeaning (LiteralTerm (ExtensionLiteral x))) es u))
stated enums (TermMeaning (RecordTerm fs)) s h u none =
    let w : Written Expression = encode_type enums (type_of (RecordTerm fs)) s in
    let k : List Expression → Tables → Written Expression = λ es u. own_lines enums (TermMeaning (RecordTerm fs)) es u in
    ap (λ n. unless_named n s (λ u. encode_type enums (type_of (RecordTerm fs)) u >>= λ sort v. encode_fields enums fs v >>= λ es x. define (RecordTerm fs) sort (record_body sort es) x)) none
    ∙ sym (λ i. w >>= λ sort v. fields_in_order enums fs v i >>= λ es u. k (sort ∷ es) u)
    ∙ sym (typed_parts w (λ u. encode_meanings enums (field_terms fs) u) k)
stated enums (TermMeaning (SetTerm t ts)) s h u none =
    let w : Written Expression = encode_type enums (SetType t) s in
    let k : List Expression → Tables → Written Expression = λ es u. own_lines enums (TermMeaning (SetTerm t ts)) es u in
    ap (λ n. unless_named n s (λ u. encode_type enums (SetType t) u >>= λ sort v. encode_terms enums ts v >>= λ es x. define (SetTerm t ts) sort (set_body sort es) x)) none
    ∙ sym (λ i. w >>= λ sort v. terms_in_order enums ts v i >>= λ es u. k (sort ∷ es) u)
    ∙ sym (typed_parts w (λ u. encode_meanings enums (map TermMeaning (list_of_terms ts)) u) k)
stated enums (TermMeaning (SomeTerm t)) s h u none =
    let w : Written Expression = encode_type enums (OptionType (type_of t)) s in
    let k : List Expression → Tables → Written Expression = λ es u. own_lines enums (TermMeaning (SomeTerm t)) es u in
    ap (λ n. unless_named n s (λ u. encode_type enums (OptionType (type_of t)) u >>= λ sort v. encode_term enums t v >>= λ e x. define (SomeTerm t) sort (some_body e) x)) none
    ∙ sym (λ i. w >>= λ sort v. one_part (encode_term enums t v) (λ es u. k (sort ∷ es) u) i)
    ∙ sym (typed_parts w (λ u. encode_meanings enums (TermMeaning t ∷ []) u) k)
stated enums (TermMeaning (VariableTerm id t)) s h u none =
    ap (λ n. unless_named n s (λ u. encode_type enums t u >>= λ sort v. enter_term (VariableTerm id t) (next_term v) (variable_lines id (next_term v) sort) v)) none
    ∙ sym (one_part (encode_type enums t s) (λ es u. own_lines enums (TermMeaning (VariableTerm id t)) es u))

-- types and terms have no heading
type_headless : (t : PlainType) → heading (type_label t) ≡ []
type_headless BoolType = refl
type_headless t = refl

term_headless : (t : PlainTerm) → heading (term_label t) ≡ []
term_headless (Application (UufOp f) ts t) = refl
term_headless (Application o ts t) = refl
term_headless t = refl

-- the lines of a node are its heading, those of its parts, and its own
pub all_stated : (enums : Enums) (m : Meaning) (s : Tables) → is_built (label_in m) ≡ true → name_in s m ≡ None
    → encode_meaning enums m s ≡ behind (heading (label_in m)) (encode_meanings enums (written_parts (rendering_in m) (parts_in m)) s >>= λ es u. own_lines enums m es u)
all_stated enums (TypeMeaning t) s h none =
    stated enums (TypeMeaning t) s h (type_headless t) none
    ∙ sym (ap (λ ls. behind ls (encode_meanings enums (type_parts t) s >>= λ es u. own_lines enums (TypeMeaning t) es u)) (type_headless t))
all_stated enums (TermMeaning t) s h none =
    stated enums (TermMeaning t) s h (term_headless t) none
    ∙ sym (ap (λ ls. behind ls (encode_meanings enums (written_parts (rendering_in (TermMeaning t)) (parts_in (TermMeaning t))) s >>= λ es u. own_lines enums (TermMeaning t) es u)) (term_headless t))
all_stated enums (FunctionMeaning f) s h none =
    let w : Written Expression = encode_type enums f.argument s in
    let k : List Expression → Tables → Written Expression = λ es u. own_lines enums (FunctionMeaning f) es u in
    ap (λ n. unless_named n s (λ u. behind (function_heading f.id) (encode_type enums f.argument u >>= λ argument v. encode_type enums f.output v >>= λ output x. enter_function f (next_function x) (function_declaration (next_function x) argument output) x))) none
    ∙ ap (behind (function_heading f.id))
    (sym (λ i. w >>= λ argument v. one_part (encode_type enums f.output v) (λ es u. k (argument ∷ es) u) i)
    ∙ sym (typed_parts w (λ u. encode_meanings enums (TypeMeaning f.output ∷ []) u) k))

-- ---- what has a name

term_named : (enums : Enums) (t : PlainTerm) (s : Tables) (n : List ℕ) → has_entry (TermMeaning t) ≡ true → name_of_term s t ≡ Some n → encode_term enums t s ≡ made_of (name n) s
term_named enums (Application op ts type) s n h there =
    ap (λ o. unless_named o s (λ u. encode_type enums type u >>= λ sort v. define_application enums (application_rendering op ts type) op ts type (λ w. encode_terms enums ts w) sort v)) there
term_named enums (NoneTerm type) s n h there =
    ap (λ o. unless_named o s (λ u. encode_type enums (OptionType type) u >>= λ sort v. define (NoneTerm type) sort (none_body sort) v)) there
term_named enums (LiteralTerm (EntityLiteral e i)) s n h there =
    ap (λ o. unless_named o s (λ u. encode_type enums (EntityType e) u >>= λ sort v. define_entity (members_of enums e) e i (text_of_name (name_of_type v (EntityType e))) v)) there
term_named enums (LiteralTerm (ExtensionLiteral x)) s n h there =
    ap (λ o. unless_named o s (λ u. encode_type enums (literal_type (ExtensionLiteral x)) u >>= λ sort v. define (LiteralTerm (ExtensionLiteral x)) sort (extension_body x) v)) there
term_named enums (LiteralTerm l) s n h there = absurd (false≢true h)
term_named enums (RecordTerm fs) s n h there =
    ap (λ o. unless_named o s (λ u. encode_type enums (type_of (RecordTerm fs)) u >>= λ sort v. encode_fields enums fs v >>= λ es w. define (RecordTerm fs) sort (record_body sort es) w)) there
term_named enums (SetTerm element ts) s n h there =
    ap (λ o. unless_named o s (λ u. encode_type enums (SetType element) u >>= λ sort v. encode_terms enums ts v >>= λ es w. define (SetTerm element ts) sort (set_body sort es) w)) there
term_named enums (SomeTerm t) s n h there =
    ap (λ o. unless_named o s (λ u. encode_type enums (OptionType (type_of t)) u >>= λ sort v. encode_term enums t v >>= λ e w. define (SomeTerm t) sort (some_body e) w)) there
term_named enums (VariableTerm id type) s n h there =
    ap (λ o. unless_named o s (λ u. encode_type enums type u >>= λ sort w. enter_term (VariableTerm id type) (next_term w) (variable_lines id (next_term w) sort) w)) there

type_named : (enums : Enums) (t : PlainType) (s : Tables) (n : List ℕ) → has_entry (TypeMeaning t) ≡ true → name_of_type s t ≡ Some n → encode_type enums t s ≡ made_of (name n) s
type_named enums (EntityType e) s n h there = ap (λ o. unless_named o s (λ u. declare_entity enums e u)) there
type_named enums (ExtensionType k) s n h there = ap (λ o. unless_named o s (λ u. declare_kind k u)) there
type_named enums (RecordType x) s n h there = ap (λ o. unless_named o s (λ u. encode_attributes enums x u >>= λ sorts v. declare_record x sorts v)) there
type_named enums t s n h there = absurd (false≢true h)

pub named_stated : (enums : Enums) (m : Meaning) (s : Tables) (n : List ℕ) → has_entry m ≡ true → name_in s m ≡ Some n → encode_meaning enums m s ≡ made_of (name n) s
named_stated enums (TypeMeaning t) s n h there = type_named enums t s n h there
named_stated enums (FunctionMeaning f) s n h there =
    ap (λ o. unless_named o s (λ u. behind (function_heading f.id) (encode_type enums f.argument u >>= λ argument v. encode_type enums f.output v >>= λ output w. enter_function f (next_function w) (function_declaration (next_function w) argument output) w))) there
named_stated enums (TermMeaning t) s n h there = term_named enums t s n h there
