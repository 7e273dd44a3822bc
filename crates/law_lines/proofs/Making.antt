use Rattle.std.proofs.Common.{◌≡◌, ℕ, suc, ◌+◌, ◌<◌, Bool, true, false, cond, List, [], ◌∷◌, ◌++◌, Option, Some, None, refl, ap, ◌∙◌, arith}
use Rattle.std.specs.Map.{lookup}
use Rattle.law_terms.specs.Plain.{PlainType, OptionType, BitVecType, BoolType, EntityType, ExtensionType, StringType, RecordType, SetType, AttributeTypes, no_attributes, attribute, PlainFunction, PlainOp, UufOp, PlainLiteral, BitVecLiteral, BoolLiteral, EntityLiteral, ExtensionLiteral, StringLiteral, PlainTerm, Application, NoneTerm, LiteralTerm, RecordTerm, SetTerm, SomeTerm, VariableTerm, PlainTerms, no_terms, one_term, PlainFields, no_fields, one_field}
use Rattle.law_terms.specs.TypeValues.{Enums, members_of}
use Rattle.law_terms.specs.Types.{type_eq, kind_of, type_of, field_types}
use Rattle.law_terms.specs.Interpretations.{function_eq}
use Rattle.law_terms.specs.TermOrder.{term_eq}
use Rattle.law_terms.proofs.TermTotal.{types_decided, functions_decided, terms_decided}
use Rattle.law_texts.specs.Reading.{Expression}
use Rattle.law_scripts.specs.Script.{name}
use Rattle.law_scripts.specs.Sorts.{option_sort, set_sort}
use Rattle.law_lines.specs.Lines.{Written, unless_named, encode_type, encode_attributes, encode_function, encode_literal, encode_head, encode_term, encode_terms, encode_fields, define_application, define_entity, Rendering, AsApplication, AsEqualsIntMin, AsFalse, application_rendering}
use Rattle.law_lines.specs.NameTables.{Tables, name_of_term, name_of_type, name_of_function, text_of_name}
use Rattle.law_lines.specs.Naming.{type_name}
use Rattle.law_lines.specs.TermTexts.{text_of, named_text}
use Rattle.law_lines.specs.Made.{TypesAreMade, FunctionsAreMade, TermsAreMade}

-- ---- look-ups behind an entry

pub lookup_other : {K X : Type 0} (test : K → Bool) (es : List (K × X)) (k : K) (x : X) → test k ≡ false → lookup test (es ++ (k, x) ∷ []) ≡ lookup test es
lookup_other test [] k x h = rw h
lookup_other test (e ∷ es) k x h = ap (λ o. cond (test e.0) (Some e.1) o) (lookup_other test es k x h)

pub lookup_new : {K X : Type 0} (test : K → Bool) (es : List (K × X)) (k : K) (x : X) → test k ≡ true → lookup test es ≡ None → lookup test (es ++ (k, x) ∷ []) ≡ Some x
lookup_new test [] k x h none = rw h
lookup_new test (e ∷ es) k x h none = go (test e.0) (λ l. lookup_new test es k x h l) none
  where
    go : (b : Bool) → (lookup test es ≡ None → lookup test (es ++ (k, x) ∷ []) ≡ Some x)
        → cond b (Some e.1) (lookup test es) ≡ None → cond b (Some e.1) (lookup test (es ++ (k, x) ∷ [])) ≡ Some x
    go true again l = absurd (some_is l)
      where
        some_is : Some e.1 ≡ None → ⊥
        some_is l = cc
    go false again l = again l

-- ---- sizes

abbrev mutual
  pub size : PlainType → ℕ
  size (OptionType t) = suc (size t)
  size (BitVecType width) = 1
  size BoolType = 1
  size (EntityType type) = 1
  size (ExtensionType kind) = 1
  size StringType = 1
  size (RecordType x) = suc (sizes x)
  size (SetType t) = suc (size t)

  pub sizes : AttributeTypes → ℕ
  sizes no_attributes = 1
  sizes (attribute a t x) = size t + sizes x

abbrev mutual
  extent : PlainTerm → ℕ
  extent (Application op ts type) = suc (extents ts)
  extent (NoneTerm type) = 1
  extent (LiteralTerm p) = 1
  extent (RecordTerm fields) = suc (extents_of_fields fields)
  extent (SetTerm element ts) = suc (extents ts)
  extent (SomeTerm t) = suc (extent t)
  extent (VariableTerm id type) = 1

  extents : PlainTerms → ℕ
  extents no_terms = 1
  extents (one_term t ts) = extent t + extents ts

  extents_of_fields : PlainFields → ℕ
  extents_of_fields no_fields = 1
  extents_of_fields (one_field a t fields) = extent t + extents_of_fields fields

other_type : (k t : PlainType) → size t < size k → type_eq k t ≡ false
other_type k t h = go (type_eq k t) refl
  where
    go : (b : Bool) → type_eq k t ≡ b → b ≡ false
    go true e = let f = ap size ((types_decided k t).0 e) in absurd (omega arith)
    go false e = refl

other_term : (k t : PlainTerm) → extent t < extent k → term_eq k t ≡ false
other_term k t h = go (term_eq k t) refl
  where
    go : (b : Bool) → term_eq k t ≡ b → b ≡ false
    go true e = let f = ap extent ((terms_decided k t).0 e) in absurd (omega arith)
    go false e = refl

-- ---- types: a larger type keeps what it has

entered_type : (k t : PlainType) (n : List ℕ) (s : Tables) → size t < size k → lookup (type_eq k) (s.types ++ (t, n) ∷ []) ≡ name_of_type s k
entered_type k t n s h = lookup_other (type_eq k) s.types t n (other_type k t h)

unless_type : (k : PlainType) (o : Option (List ℕ)) (s : Tables) (f : Tables → Written Expression)
    → name_of_type (f s).tables k ≡ name_of_type s k → name_of_type (unless_named o s f).tables k ≡ name_of_type s k
unless_type k (Some n) s f h = refl
unless_type k None s f h = h

above : (m n k : ℕ) → m < n → n < k → m < k
above m n k h l = omega arith

mutual
  larger_type : (enums : Enums) (t : PlainType) (s : Tables) (k : PlainType) → size t < size k → name_of_type (encode_type enums t s).tables k ≡ name_of_type s k
  larger_type enums (OptionType t) s k h = larger_type enums t s k (omega arith)
  larger_type enums (BitVecType width) s k h = refl
  larger_type enums BoolType s k h = refl
  larger_type enums (EntityType type) s k h = unless_type k (name_of_type s (EntityType type)) s _ (entered_type k (EntityType type) _ s h)
  larger_type enums (ExtensionType kind) s k h = unless_type k (name_of_type s (ExtensionType kind)) s _ (entered_type k (ExtensionType kind) _ s h)
  larger_type enums StringType s k h = refl
  larger_type enums (RecordType x) s k h = unless_type k (name_of_type s (RecordType x)) s _
      (entered_type k (RecordType x) _ (encode_attributes enums x s).tables h ∙ larger_attributes enums x s k (omega arith))
  larger_type enums (SetType t) s k h = larger_type enums t s k (omega arith)

  pub larger_attributes : (enums : Enums) (x : AttributeTypes) (s : Tables) (k : PlainType) → sizes x < size k → name_of_type (encode_attributes enums x s).tables k ≡ name_of_type s k
  larger_attributes enums no_attributes s k h = refl
  larger_attributes enums (attribute a t x) s k h =
      larger_attributes enums x (encode_type enums t s).tables k (omega arith) ∙ larger_type enums t s k (omega arith)

-- a type that has no name yet has the new one
made_type : (t : PlainType) (s : Tables) (f : Tables → Written Expression) (o : Option (List ℕ)) → name_of_type s t ≡ o
    → (name_of_type s t ≡ None → name (type_name (f s).tables t) ≡ (f s).made)
    → name (type_name (unless_named o s f).tables t) ≡ (unless_named o s f).made
made_type t s f (Some n) e h = ap (λ o. name (text_of_name o)) e
made_type t s f None e h = h e

new_type : (t : PlainType) (n : List ℕ) (s : Tables) → name_of_type s t ≡ None → name (text_of_name (lookup (type_eq t) (s.types ++ (t, n) ∷ []))) ≡ name n
new_type t n s h = ap (λ o. name (text_of_name o)) (lookup_new (type_eq t) s.types t n ((types_decided t t).1 refl) h)

pub less : (x : AttributeTypes) → sizes x < size (RecordType x)
less x = omega arith

pub types_are_made : TypesAreMade
types_are_made enums (OptionType t) s = ap option_sort (types_are_made enums t s)
types_are_made enums (BitVecType width) s = refl
types_are_made enums BoolType s = refl
types_are_made enums (EntityType type) s = made_type (EntityType type) s _ (name_of_type s (EntityType type)) refl (new_type (EntityType type) _ s)
types_are_made enums (ExtensionType kind) s = made_type (ExtensionType kind) s _ (name_of_type s (ExtensionType kind)) refl (new_type (ExtensionType kind) _ s)
types_are_made enums StringType s = refl
types_are_made enums (RecordType x) s = made_type (RecordType x) s _ (name_of_type s (RecordType x)) refl
    (λ h. new_type (RecordType x) _ (encode_attributes enums x s).tables (larger_attributes enums x s (RecordType x) (less x) ∙ h))
types_are_made enums (SetType t) s = ap set_sort (types_are_made enums t s)

-- ---- types and functions leave the other tables

unless_terms : (o : Option (List ℕ)) (s : Tables) (f : Tables → Written Expression) → (f s).tables.terms ≡ s.terms → (unless_named o s f).tables.terms ≡ s.terms
unless_terms (Some n) s f h = refl
unless_terms None s f h = h

unless_functions : (o : Option (List ℕ)) (s : Tables) (f : Tables → Written Expression) → (f s).tables.functions ≡ s.functions → (unless_named o s f).tables.functions ≡ s.functions
unless_functions (Some n) s f h = refl
unless_functions None s f h = h

mutual
  type_terms : (enums : Enums) (t : PlainType) (s : Tables) → (encode_type enums t s).tables.terms ≡ s.terms
  type_terms enums (OptionType t) s = type_terms enums t s
  type_terms enums (BitVecType width) s = refl
  type_terms enums BoolType s = refl
  type_terms enums (EntityType type) s = unless_terms (name_of_type s (EntityType type)) s _ refl
  type_terms enums (ExtensionType kind) s = unless_terms (name_of_type s (ExtensionType kind)) s _ refl
  type_terms enums StringType s = refl
  type_terms enums (RecordType x) s = unless_terms (name_of_type s (RecordType x)) s _ (attribute_terms enums x s)
  type_terms enums (SetType t) s = type_terms enums t s

  attribute_terms : (enums : Enums) (x : AttributeTypes) (s : Tables) → (encode_attributes enums x s).tables.terms ≡ s.terms
  attribute_terms enums no_attributes s = refl
  attribute_terms enums (attribute a t x) s = attribute_terms enums x (encode_type enums t s).tables ∙ type_terms enums t s

mutual
  type_functions : (enums : Enums) (t : PlainType) (s : Tables) → (encode_type enums t s).tables.functions ≡ s.functions
  type_functions enums (OptionType t) s = type_functions enums t s
  type_functions enums (BitVecType width) s = refl
  type_functions enums BoolType s = refl
  type_functions enums (EntityType type) s = unless_functions (name_of_type s (EntityType type)) s _ refl
  type_functions enums (ExtensionType kind) s = unless_functions (name_of_type s (ExtensionType kind)) s _ refl
  type_functions enums StringType s = refl
  type_functions enums (RecordType x) s = unless_functions (name_of_type s (RecordType x)) s _ (attribute_functions enums x s)
  type_functions enums (SetType t) s = type_functions enums t s

  attribute_functions : (enums : Enums) (x : AttributeTypes) (s : Tables) → (encode_attributes enums x s).tables.functions ≡ s.functions
  attribute_functions enums no_attributes s = refl
  attribute_functions enums (attribute a t x) s = attribute_functions enums x (encode_type enums t s).tables ∙ type_functions enums t s

function_terms : (enums : Enums) (f : PlainFunction) (s : Tables) → (encode_function enums f s).tables.terms ≡ s.terms
function_terms enums f s = unless_terms (name_of_function s f) s _
    (type_terms enums f.output (encode_type enums f.argument s).tables ∙ type_terms enums f.argument s)

head_terms : (enums : Enums) (op : PlainOp) (ts : PlainTerms) (s : Tables) → (encode_head enums op ts s).tables.terms ≡ s.terms
head_terms enums (UufOp f) ts s = function_terms enums f s
head_terms enums op ts s = refl

-- ---- functions

made_function : (g : PlainFunction) (s : Tables) (f : Tables → Written Expression) (o : Option (List ℕ)) → name_of_function s g ≡ o
    → (name_of_function s g ≡ None → named_text (name_of_function (f s).tables g) ≡ Some (f s).made)
    → named_text (name_of_function (unless_named o s f).tables g) ≡ Some (unless_named o s f).made
made_function g s f (Some n) e h = ap named_text e
made_function g s f None e h = h e

pub functions_are_made : FunctionsAreMade
functions_are_made enums f s = made_function f s _ (name_of_function s f) refl
    (λ h. ap named_text (lookup_new (function_eq f) _ f _ ((functions_decided f f).1 refl)
    (ap (lookup (function_eq f)) (type_functions enums f.output (encode_type enums f.argument s).tables ∙ type_functions enums f.argument s) ∙ h)))

-- ---- terms: a larger term keeps what it has

entered_term : (k t : PlainTerm) (n : List ℕ) (es : List (PlainTerm × List ℕ)) → extent t < extent k → lookup (term_eq k) (es ++ (t, n) ∷ []) ≡ lookup (term_eq k) es
entered_term k t n es h = lookup_other (term_eq k) es t n (other_term k t h)

unless_term : (k : PlainTerm) (o : Option (List ℕ)) (s : Tables) (f : Tables → Written Expression)
    → name_of_term (f s).tables k ≡ name_of_term s k → name_of_term (unless_named o s f).tables k ≡ name_of_term s k
unless_term k (Some n) s f h = refl
unless_term k None s f h = h

-- the same terms, the same look-up
with_terms : (k : PlainTerm) {es fs : List (PlainTerm × List ℕ)} → es ≡ fs → lookup (term_eq k) es ≡ lookup (term_eq k) fs
with_terms k h = ap (lookup (term_eq k)) h

larger_application : (enums : Enums) (m : Rendering) (op : PlainOp) (ts : PlainTerms) (type : PlainType) (arguments : Tables → Written (List Expression)) (sort : Expression) (s : Tables) (k : PlainTerm)
    → extent (Application op ts type) < extent k → name_of_term (arguments s).tables k ≡ name_of_term s k
    → name_of_term (define_application enums m op ts type arguments sort s).tables k ≡ name_of_term s k
larger_application enums AsApplication op ts type arguments sort s k h a =
    entered_term k (Application op ts type) _ _ h
    ∙ with_terms k (head_terms enums op ts (arguments s).tables) ∙ a
larger_application enums (AsEqualsIntMin width) op ts type arguments sort s k h a = entered_term k (Application op ts type) _ _ h ∙ a
larger_application enums AsFalse op ts type arguments sort s k h a = entered_term k (Application op ts type) _ _ h

larger_entity : (o : Option (List (List ℕ))) (type id sort : List ℕ) (s : Tables) (k : PlainTerm)
    → extent (LiteralTerm (EntityLiteral type id)) < extent k → name_of_term (define_entity o type id sort s).tables k ≡ name_of_term s k
larger_entity None type id sort s k h = entered_term k (LiteralTerm (EntityLiteral type id)) _ _ h
larger_entity (Some members) type id sort s k h = entered_term k (LiteralTerm (EntityLiteral type id)) _ _ h

larger_literal : (enums : Enums) (p : PlainLiteral) (s : Tables) (k : PlainTerm) → extent (LiteralTerm p) < extent k → name_of_term (encode_literal enums p s).tables k ≡ name_of_term s k
larger_literal enums (BitVecLiteral width number) s k h = refl
larger_literal enums (BoolLiteral b) s k h = refl
larger_literal enums (EntityLiteral type id) s k h = unless_term k (name_of_term s (LiteralTerm (EntityLiteral type id))) s _
    (larger_entity (members_of enums type) type id _ (encode_type enums (EntityType type) s).tables k h ∙ with_terms k (type_terms enums (EntityType type) s))
larger_literal enums (ExtensionLiteral x) s k h = unless_term k (name_of_term s (LiteralTerm (ExtensionLiteral x))) s _
    (entered_term k (LiteralTerm (ExtensionLiteral x)) _ _ h ∙ with_terms k (type_terms enums (ExtensionType (kind_of x)) s))
larger_literal enums (StringLiteral text) s k h = refl

mutual
  larger_term : (enums : Enums) (t : PlainTerm) (s : Tables) (k : PlainTerm) → extent t < extent k → name_of_term (encode_term enums t s).tables k ≡ name_of_term s k
  larger_term enums (Application op ts type) s k h = unless_term k (name_of_term s (Application op ts type)) s _
      (larger_application enums (application_rendering op ts type) op ts type (λ w. encode_terms enums ts w) (encode_type enums type s).made (encode_type enums type s).tables k h (larger_terms enums ts (encode_type enums type s).tables k (omega arith))
      ∙ with_terms k (type_terms enums type s))
  larger_term enums (NoneTerm type) s k h = unless_term k (name_of_term s (NoneTerm type)) s _
      (entered_term k (NoneTerm type) _ _ h ∙ with_terms k (type_terms enums (OptionType type) s))
  larger_term enums (LiteralTerm p) s k h = larger_literal enums p s k h
  larger_term enums (RecordTerm fields) s k h = unless_term k (name_of_term s (RecordTerm fields)) s _
      (entered_term k (RecordTerm fields) _ _ h ∙ larger_fields enums fields (encode_type enums (RecordType (field_types fields)) s).tables k (omega arith) ∙ with_terms k (type_terms enums (RecordType (field_types fields)) s))
  larger_term enums (SetTerm element ts) s k h = unless_term k (name_of_term s (SetTerm element ts)) s _
      (entered_term k (SetTerm element ts) _ _ h ∙ larger_terms enums ts (encode_type enums (SetType element) s).tables k (omega arith) ∙ with_terms k (type_terms enums (SetType element) s))
  larger_term enums (SomeTerm t) s k h = unless_term k (name_of_term s (SomeTerm t)) s _
      (entered_term k (SomeTerm t) _ _ h ∙ larger_term enums t (encode_type enums (OptionType (type_of t)) s).tables k (omega arith) ∙ with_terms k (type_terms enums (OptionType (type_of t)) s))
  larger_term enums (VariableTerm id type) s k h = unless_term k (name_of_term s (VariableTerm id type)) s _
      (entered_term k (VariableTerm id type) _ _ h ∙ with_terms k (type_terms enums type s))

  larger_terms : (enums : Enums) (ts : PlainTerms) (s : Tables) (k : PlainTerm) → extents ts < extent k → name_of_term (encode_terms enums ts s).tables k ≡ name_of_term s k
  larger_terms enums no_terms s k h = refl
  larger_terms enums (one_term t ts) s k h = larger_terms enums ts (encode_term enums t s).tables k (omega arith) ∙ larger_term enums t s k (omega arith)

  larger_fields : (enums : Enums) (x : PlainFields) (s : Tables) (k : PlainTerm) → extents_of_fields x < extent k → name_of_term (encode_fields enums x s).tables k ≡ name_of_term s k
  larger_fields enums no_fields s k h = refl
  larger_fields enums (one_field a t x) s k h = larger_fields enums x (encode_term enums t s).tables k (omega arith) ∙ larger_term enums t s k (omega arith)

-- A type leaves the names of terms as they were.
pub types_leave : (enums : Enums) (type : PlainType) (s : Tables) (k : PlainTerm) → name_of_term (encode_type enums type s).tables k ≡ name_of_term s k
types_leave enums type s k = with_terms k (type_terms enums type s)

-- The arguments of an application leave its own entry as it was.
pub arguments_leave : (enums : Enums) (op : PlainOp) (ts : PlainTerms) (type : PlainType) (s : Tables) → name_of_term (encode_terms enums ts s).tables (Application op ts type) ≡ name_of_term s (Application op ts type)
arguments_leave enums op ts type s = larger_terms enums ts s (Application op ts type) (omega arith)

-- The elements of a set leave its own entry as it was.
pub elements_leave : (enums : Enums) (element : PlainType) (ts : PlainTerms) (s : Tables) → name_of_term (encode_terms enums ts s).tables (SetTerm element ts) ≡ name_of_term s (SetTerm element ts)
elements_leave enums element ts s = larger_terms enums ts s (SetTerm element ts) (omega arith)

-- What an option holds leaves its own entry as it was.
pub inner_leaves : (enums : Enums) (t : PlainTerm) (s : Tables) → name_of_term (encode_term enums t s).tables (SomeTerm t) ≡ name_of_term s (SomeTerm t)
inner_leaves enums t s = larger_term enums t s (SomeTerm t) (omega arith)

-- ---- terms have the names that were made

made_term : (t : PlainTerm) (s : Tables) (f : Tables → Written Expression) (o : Option (List ℕ)) → name_of_term s t ≡ o
    → (name_of_term s t ≡ None → named_text (name_of_term (f s).tables t) ≡ Some (f s).made)
    → named_text (name_of_term (unless_named o s f).tables t) ≡ Some (unless_named o s f).made
made_term t s f (Some n) e h = ap named_text e
made_term t s f None e h = h e

new_term : (t : PlainTerm) (n : List ℕ) (es : List (PlainTerm × List ℕ)) → lookup (term_eq t) es ≡ None → named_text (lookup (term_eq t) (es ++ (t, n) ∷ [])) ≡ Some (name n)
new_term t n es h = ap named_text (lookup_new (term_eq t) es t n ((terms_decided t t).1 refl) h)

made_application : (enums : Enums) (m : Rendering) (op : PlainOp) (ts : PlainTerms) (type : PlainType) (arguments : Tables → Written (List Expression)) (sort : Expression) (s : Tables)
    → name_of_term s (Application op ts type) ≡ None → name_of_term (arguments s).tables (Application op ts type) ≡ name_of_term s (Application op ts type)
    → named_text (name_of_term (define_application enums m op ts type arguments sort s).tables (Application op ts type)) ≡ Some (define_application enums m op ts type arguments sort s).made
made_application enums AsApplication op ts type arguments sort s n a =
    new_term (Application op ts type) _ (encode_head enums op ts (arguments s).tables).tables.terms
    (with_terms (Application op ts type) (head_terms enums op ts (arguments s).tables) ∙ a ∙ n)
made_application enums (AsEqualsIntMin width) op ts type arguments sort s n a = new_term (Application op ts type) _ (arguments s).tables.terms (a ∙ n)
made_application enums AsFalse op ts type arguments sort s n a = new_term (Application op ts type) _ s.terms n

made_entity : (o : Option (List (List ℕ))) (type id sort : List ℕ) (s : Tables) → name_of_term s (LiteralTerm (EntityLiteral type id)) ≡ None
    → named_text (name_of_term (define_entity o type id sort s).tables (LiteralTerm (EntityLiteral type id))) ≡ Some (define_entity o type id sort s).made
made_entity None type id sort s n = new_term (LiteralTerm (EntityLiteral type id)) _ s.terms n
made_entity (Some members) type id sort s n = new_term (LiteralTerm (EntityLiteral type id)) _ s.terms n

made_literal : (enums : Enums) (p : PlainLiteral) (s : Tables) → text_of (encode_literal enums p s).tables (LiteralTerm p) ≡ Some (encode_literal enums p s).made
made_literal enums (BitVecLiteral width number) s = refl
made_literal enums (BoolLiteral b) s = refl
made_literal enums (EntityLiteral type id) s = made_term (LiteralTerm (EntityLiteral type id)) s _ (name_of_term s (LiteralTerm (EntityLiteral type id))) refl
    (λ n. made_entity (members_of enums type) type id _ (encode_type enums (EntityType type) s).tables (with_terms (LiteralTerm (EntityLiteral type id)) (type_terms enums (EntityType type) s) ∙ n))
made_literal enums (ExtensionLiteral x) s = made_term (LiteralTerm (ExtensionLiteral x)) s _ (name_of_term s (LiteralTerm (ExtensionLiteral x))) refl
    (λ n. new_term (LiteralTerm (ExtensionLiteral x)) _ (encode_type enums (ExtensionType (kind_of x)) s).tables.terms (with_terms (LiteralTerm (ExtensionLiteral x)) (type_terms enums (ExtensionType (kind_of x)) s) ∙ n))
made_literal enums (StringLiteral text) s = refl

pub terms_are_made : TermsAreMade
terms_are_made enums (Application op ts type) s = made_term (Application op ts type) s _ (name_of_term s (Application op ts type)) refl
    (λ n. made_application enums (application_rendering op ts type) op ts type (λ w. encode_terms enums ts w) _ (encode_type enums type s).tables
    (with_terms (Application op ts type) (type_terms enums type s) ∙ n) (arguments_leave enums op ts type (encode_type enums type s).tables))
terms_are_made enums (NoneTerm type) s = made_term (NoneTerm type) s _ (name_of_term s (NoneTerm type)) refl
    (λ n. new_term (NoneTerm type) _ (encode_type enums (OptionType type) s).tables.terms (with_terms (NoneTerm type) (type_terms enums (OptionType type) s) ∙ n))
terms_are_made enums (LiteralTerm p) s = made_literal enums p s
terms_are_made enums (RecordTerm fields) s = made_term (RecordTerm fields) s _ (name_of_term s (RecordTerm fields)) refl
    (λ n. new_term (RecordTerm fields) _ (encode_fields enums fields (encode_type enums (RecordType (field_types fields)) s).tables).tables.terms (larger_fields enums fields (encode_type enums (RecordType (field_types fields)) s).tables (RecordTerm fields) (omega arith)
    ∙ with_terms (RecordTerm fields) (type_terms enums (RecordType (field_types fields)) s) ∙ n))
terms_are_made enums (SetTerm element ts) s = made_term (SetTerm element ts) s _ (name_of_term s (SetTerm element ts)) refl
    (λ n. new_term (SetTerm element ts) _ (encode_terms enums ts (encode_type enums (SetType element) s).tables).tables.terms (elements_leave enums element ts (encode_type enums (SetType element) s).tables
    ∙ with_terms (SetTerm element ts) (type_terms enums (SetType element) s) ∙ n))
terms_are_made enums (SomeTerm t) s = made_term (SomeTerm t) s _ (name_of_term s (SomeTerm t)) refl
    (λ n. new_term (SomeTerm t) _ (encode_term enums t (encode_type enums (OptionType (type_of t)) s).tables).tables.terms (inner_leaves enums t (encode_type enums (OptionType (type_of t)) s).tables
    ∙ with_terms (SomeTerm t) (type_terms enums (OptionType (type_of t)) s) ∙ n))
terms_are_made enums (VariableTerm id type) s = made_term (VariableTerm id type) s _ (name_of_term s (VariableTerm id type)) refl
    (λ n. new_term (VariableTerm id type) _ (encode_type enums type s).tables.terms (with_terms (VariableTerm id type) (type_terms enums type s) ∙ n))
