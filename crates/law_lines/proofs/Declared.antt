-- What a state that fits declares.
use Rattle.std.proofs.Common.{◌≡◌, ℕ, List, [], ◌∷◌, refl, sym, ap, ◌∙◌, subst, Option, Some, None}
use Rattle.std.specs.Prelude.{IsSome, is_some}
use Rattle.std.proofs.lemmas.Bool.{false≢true}
use Rattle.law_terms.specs.Plain.{PlainType, OptionType, EntityType, RecordType, SetType, AttributeTypes, no_attributes, attribute, PlainOp, RecordGetOp, UufOp, BitVecLiteral, BoolLiteral, EntityLiteral, ExtensionLiteral, StringLiteral, PlainTerm, Application, NoneTerm, LiteralTerm, RecordTerm, SetTerm, SomeTerm, VariableTerm, PlainTerms, no_terms, one_term, PlainFields, no_fields, one_field}
use Rattle.law_terms.specs.TypeValues.{Enums, members_of}
use Rattle.law_terms.specs.Types.{type_eq, type_of}
use Rattle.law_terms.specs.TermOrder.{term_eq}
use Rattle.law_terms.specs.Interpretations.{function_eq}
use Rattle.law_terms.specs.Parts.{attribute_names}
use Rattle.law_terms.proofs.TermTotal.{types_decided, functions_decided, terms_decided}
use Rattle.law_texts.specs.Reading.{Expression}
use Rattle.law_scripts.specs.Script.{name}
use Rattle.law_lines.specs.Line.{Comment, DeclareFun, DefineFun}
use Rattle.law_lines.specs.LineForms.{extension_body, none_body, set_body, record_body, record_lines, application_body, least_body, some_body, variable_lines}
use Rattle.law_lines.specs.EntryNames.{attribute_name}
use Rattle.law_lines.specs.Lines.{attribute_place, Rendering, AsApplication, AsEqualsIntMin, AsFalse, application_rendering, first_type}
use Rattle.law_lines.specs.NameTables.{Tables, name_of_type, name_of_function, text_of_name}
use Rattle.law_lines.specs.Naming.{type_sort}
use Rattle.law_lines.specs.Entries.{TypeHasEntries, AttributesHaveEntries, HaveTexts, HaveFieldTexts, HasFunction, TypePartsHaveEntries, text_or_nothing, texts_of, texts_of_fields, attribute_sorts, application_head, term_lines, type_lines, function_lines, application_lines, entity_literal_lines}
use Rattle.law_lines.specs.TermTexts.{text_of}
use Rattle.law_lines.specs.TableGrowth.{Keeps}
use Rattle.law_lines.proofs.Stays.{texts_stay, sorts_stay}
use Rattle.law_lines.specs.Fit.{EachLine, LineIsDeclared, HasRecord, PartsHaveEntries, TypeEntry, FunctionEntry, TermEntry}
use Rattle.law_lines.specs.Scripts.{TermsAreDeclared, TypesAreDeclared, FunctionsAreDeclared}
use Rattle.law_lines.proofs.Known.{each_found}
use Rattle.law_lines.proofs.Enter.{has_stays}

kept_name : (o p : Option (List ℕ)) → ((n : List ℕ) → o ≡ Some n → p ≡ Some n) → IsSome o → (o ≡ p) × IsSome p
kept_name (Some n) p k h = (sym (k n refl), ap is_some (k n refl))
kept_name None p k h = absurd (false≢true h)

kept_text : (r s : Tables) → Keeps r s → (t : PlainTerm) (o : Option Expression) → text_of r t ≡ o → IsSome o → (text_of r t ≡ text_of s t) × IsSome (text_of s t)
kept_text r s k t (Some e) q h = let p = texts_stay r s t e k q in (q ∙ sym p, ap is_some p)
kept_text r s k t None q h = absurd (false≢true h)

kept_texts : (r s : Tables) → Keeps r s → (ts : PlainTerms) → HaveTexts r ts → (texts_of r ts ≡ texts_of s ts) × HaveTexts s ts
kept_texts r s k no_terms h = (refl, tt)
kept_texts r s k (one_term t ts) h =
    let x = kept_text r s k t (text_of r t) refl h.0 in let a = x.0 in
    let y = kept_texts r s k ts h.1 in let b = y.0 in
    (λ i. text_or_nothing (a i) ∷ b i, (x.1, y.1))

kept_fields : (r s : Tables) → Keeps r s → (x : PlainFields) → HaveFieldTexts r x → (texts_of_fields r x ≡ texts_of_fields s x) × HaveFieldTexts s x
kept_fields r s k no_fields h = (refl, tt)
kept_fields r s k (one_field c t x) h =
    let y = kept_text r s k t (text_of r t) refl h.0 in let a = y.0 in
    let z = kept_fields r s k x h.1 in let b = z.0 in
    (λ i. text_or_nothing (a i) ∷ b i, (y.1, z.1))

kept_sorts : (r s : Tables) → Keeps r s → (x : AttributeTypes) → AttributesHaveEntries r x → (attribute_sorts r x ≡ attribute_sorts s x) × AttributesHaveEntries s x
kept_sorts r s k no_attributes h = (refl, tt)
kept_sorts r s k (attribute c t x) h =
    let a = sorts_stay r s t k h.0 in
    let z = kept_sorts r s k x h.1 in let b = z.0 in
    (λ i. sym a i ∷ b i, (has_stays r s k.types t h.0, z.1))

kept_head : (enums : Enums) (r s : Tables) → Keeps r s → (op : PlainOp) (ts : PlainTerms) → HasFunction r op → HasRecord r op ts → (application_head enums r op ts ≡ application_head enums s op ts) × HasFunction s op × HasRecord s op ts
kept_head enums r s k (UufOp f) ts h g =
    let x = kept_name (name_of_function r f) (name_of_function s f) (k.functions f) h in (ap (λ o. name (text_of_name o)) x.0, x.1, tt)
kept_head enums r s k (RecordGetOp a) ts h g =
    let x = kept_name (name_of_type r (first_type ts)) (name_of_type s (first_type ts)) (k.types (first_type ts)) g in
    (ap (λ o. name (attribute_name (text_of_name o) (attribute_place a (first_type ts)))) x.0, tt, x.1)
kept_head enums r s k op ts h g = (refl, tt, tt)

kept_application : (enums : Enums) (r s : Tables) (m : Rendering) (op : PlainOp) (ts : PlainTerms) (type : PlainType) (n : List ℕ) → type_sort r type ≡ type_sort s type → texts_of r ts ≡ texts_of s ts → application_head enums r op ts ≡ application_head enums s op ts
    → application_lines enums r m op ts type n ≡ application_lines enums s m op ts type n
kept_application enums r s AsApplication op ts type n p q h = λ i. DefineFun n (p i) (application_body (h i) op (q i)) ∷ []
kept_application enums r s (AsEqualsIntMin width) op ts type n p q h = λ i. DefineFun n (p i) (least_body width (q i)) ∷ []
kept_application enums r s AsFalse op ts type n p q h = refl

kept_entity : (o : Option (List (List ℕ))) (a b id n : List ℕ) → a ≡ b → entity_literal_lines o a id n ≡ entity_literal_lines o b id n
kept_entity o a b id n e = ap (λ c. entity_literal_lines o c id n) e

kept_lines : (enums : Enums) (r s : Tables) → Keeps r s → (t : PlainTerm) (n : List ℕ) → PartsHaveEntries r t → TypeHasEntries r (type_of t) → (term_lines enums r t n ≡ term_lines enums s t n) × PartsHaveEntries s t
kept_lines enums r s k (Application op ts type) n p h =
    let x = kept_texts r s k ts p.0.0 in
    let y = kept_head enums r s k op ts p.0.1 p.1 in
    (kept_application enums r s (application_rendering op ts type) op ts type n (sym (sorts_stay r s type k h)) x.0 y.0, ((x.1, y.1), y.2))
kept_lines enums r s k (NoneTerm type) n p h = (ap (λ (e : Expression). DefineFun n e (none_body e) ∷ []) (sym (sorts_stay r s (OptionType type) k h)), (tt, tt))
kept_lines enums r s k (LiteralTerm (BitVecLiteral w m)) n p h = (refl, (tt, tt))
kept_lines enums r s k (LiteralTerm (BoolLiteral b)) n p h = (refl, (tt, tt))
kept_lines enums r s k (LiteralTerm (StringLiteral x)) n p h = (refl, (tt, tt))
kept_lines enums r s k (LiteralTerm (EntityLiteral type id)) n p h =
    let x = kept_name (name_of_type r (EntityType type)) (name_of_type s (EntityType type)) (k.types (EntityType type)) h in
    (kept_entity (members_of enums type) _ _ id n (ap text_of_name x.0), (tt, tt))
kept_lines enums r s k (LiteralTerm (ExtensionLiteral x)) n p h = (ap (λ (e : Expression). DefineFun n e (extension_body x) ∷ []) (sym (sorts_stay r s (type_of (LiteralTerm (ExtensionLiteral x))) k h)), (tt, tt))
kept_lines enums r s k (RecordTerm x) n p h =
    let a = sym (sorts_stay r s (type_of (RecordTerm x)) k h) in
    let y = kept_fields r s k x p.0 in let b = y.0 in
    (λ i. DefineFun n (a i) (record_body (a i) (b i)) ∷ [], (y.1, tt))
kept_lines enums r s k (SetTerm element ts) n p h =
    let a = sym (sorts_stay r s (SetType element) k h) in
    let y = kept_texts r s k ts p.0 in let b = y.0 in
    (λ i. DefineFun n (a i) (set_body (a i) (b i)) ∷ [], (y.1, tt))
kept_lines enums r s k (SomeTerm t) n p h =
    let a = sym (sorts_stay r s (type_of (SomeTerm t)) k h) in
    let y = kept_text r s k t (text_of r t) refl p.0 in let b = y.0 in
    (λ i. DefineFun n (a i) (some_body (text_or_nothing (b i))) ∷ [], (y.1, tt))
kept_lines enums r s k (VariableTerm id type) n p h = (ap (λ (e : Expression). variable_lines id n e) (sym (sorts_stay r s type k h)), (tt, tt))

pub terms_are_declared : TermsAreDeclared
terms_are_declared enums s state t n fit h =
    let e = each_found (TermEntry enums s state) (term_eq t) t (λ l q. (terms_decided t l).0 q) s.terms n h fit.term_entries in
    let x = kept_lines enums e.tables s e.keeps t n e.parts.0 e.parts.1 in
    (subst (λ ls. EachLine (LineIsDeclared state) ls) x.0 e.lines, x.1, has_stays e.tables s e.keeps.types (type_of t) e.parts.1)

kept_type : (enums : Enums) (r s : Tables) → Keeps r s → (t : PlainType) (n : List ℕ) → TypePartsHaveEntries r t → (type_lines enums r t n ≡ type_lines enums s t n) × TypePartsHaveEntries s t
kept_type enums r s k (RecordType x) n p = let y = kept_sorts r s k x p in (ap (λ (ss : List Expression). record_lines (attribute_names x) n ss) y.0, y.1)
kept_type enums r s k t n p = (refl, tt)

pub types_are_declared : TypesAreDeclared
types_are_declared enums s state t n fit h =
    let e = each_found (TypeEntry enums s state) (type_eq t) t (λ l q. (types_decided t l).0 q) s.types n h fit.type_entries in
    let x = kept_type enums e.tables s e.keeps t n e.parts in
    (subst (λ ls. EachLine (LineIsDeclared state) ls) x.0 e.lines, x.1)

pub functions_are_declared : FunctionsAreDeclared
functions_are_declared enums s state f n fit h =
    let e = each_found (FunctionEntry s state) (function_eq f) f (λ l q. (functions_decided f l).0 q) s.functions n h fit.function_entries in
    let a = sym (sorts_stay e.tables s f.argument e.keeps e.parts.0) in
    let b = sym (sorts_stay e.tables s f.output e.keeps e.parts.1) in
    let x : function_lines e.tables f n ≡ function_lines s f n = λ i. Comment f.id ∷ DeclareFun n (a i) (b i) ∷ [] in
    (subst (λ ls. EachLine (LineIsDeclared state) ls) x e.lines, has_stays e.tables s e.keeps.types f.argument e.parts.0, has_stays e.tables s e.keeps.types f.output e.parts.1)
