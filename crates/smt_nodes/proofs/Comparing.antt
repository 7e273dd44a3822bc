-- Types, functions and terms compare by their labels, and those of one label by the first difference of their parts.
use Rattle.std.proofs.Common.{◌≡◌, ℕ, ◌<◌, Bool, true, false, List, [], ◌∷◌, map, refl, sym, ap, ◌∙◌, subst}
use Rattle.std.proofs.lemmas.Bool.{false≢true}
use Rattle.std.specs.Cmp.{Equal-is, unsigned_Decides}
use Rattle.std.specs.Cmp.Lexicographic.{slice_cmp}
use Rattle.std.specs.List.{AllByRecursion}
use Rattle.std.specs.Ordering.{is_eq, match_ordering, nat_cmp, ordering_then}
use Rattle.std.specs.Prelude.{◌&&◌, IsTrue, Option, Some, eqb, option_and_then, option_map, slice_get}
use Rattle.std.specs.declared.cmp.Ordering.{Ordering}
use Rattle.std.specs.declared.cmp.Ordering.TheVariants.{Less, Equal, Greater}
use Rattle.law_terms.specs.Plain.{ExtensionKind, PlainFunction, PlainType, OptionType, BitVecType, BoolType, EntityType, ExtensionType, StringType, RecordType, SetType, AttributeTypes, PlainLiteral, PlainOp, UufOp, PlainTerm, Application, NoneTerm, LiteralTerm, RecordTerm, SetTerm, SomeTerm, VariableTerm, PlainFields, terms}
use Rattle.law_terms.specs.TermOrder.{function_cmp, literal_cmp, op_cmp, op_fields_cmp, op_place, term_cmp, terms_cmp}
use Rattle.law_terms.specs.Types.{extension_kind_place, field_types, literal_type, type_cmp, type_of}
use Rattle.law_terms.specs.ValueOrder.{ascends, text_cmp}
use Rattle.law_terms.proofs.SameTerm.{function_same, literal_same, op_same, term_same}
use Rattle.law_terms.proofs.TermTotal.{terms_decided, types_decided}
use Rattle.law_terms.proofs.TypeOrder.{type_same}
use Rattle.law_terms.specs.Fits.{applies_no_function}
use Rattle.law_terms.specs.Graphs.{IsGraph}
use Rattle.law_terms.specs.Meanings.{all_found, attributes_in, fields_in, found, meaning_at, meanings, stands_for, term_made, terms_in, typed_as}
use Rattle.law_terms.specs.Nodes.{PlainLabel, OptionLabel, BitVecLabel, BoolLabel, EntityLabel, ExtensionLabel, StringLabel, RecordLabel, SetLabel, FunctionLabel, ApplicationLabel, CallLabel, NoneLabel, LiteralLabel, RecordOfLabel, SetOfLabel, SomeLabel, VariableLabel, PlainNode, Meaning, TypeMeaning, FunctionMeaning, TermMeaning}
use Rattle.law_terms.proofs.Distinct.{Stands, node_stands, places_differ}
use Rattle.law_terms.proofs.Places.{map_back, only_back, some_same, test_back, then_back}
use Rattle.law_terms.proofs.Whole.{terms_back, typed_back, whole}
use Rattle.law_terms.specs.Parts.{field_names, field_terms, types_in, attribute_names}
use Rattle.smt_term.specs.View.{plain_literal, plain_op}
use Rattle.law_texts.specs.SharedTexts.{texts}
use Rattle.smt_nodes.proofs.ComparingRecords.{alike_lists, attributes_cmp, fields_alike, fields_by_attributes, types_alike, types_by_attributes}
use Rattle.smt_nodes.proofs.Levels.{op_itself}
use Rattle.smt_nodes.specs.Attributes.{attributes_of}
use Rattle.smt_nodes.specs.LabelOrder.{attributes_apart, difference_of, first_cmp, function_place, or_else, parts_apart}
use Rattle.smt_nodes.specs.Order.{are_alike, meaning_cmp}
use Rattle.smt_nodes.specs.View.{ids_of, place_of, places_of, plain_label, plain_node}
use Rattle.smt_nodes.specs.declared.id.NodeId.{NodeId}
use Rattle.smt_nodes.specs.declared.node.Label.{Label}
use Rattle.smt_nodes.specs.declared.node.Label.TheVariants.{TOption, TBitvec, TBool, TEntity, TExt, TString, TRecord, TSet, Fun, App, Call, NoneOf, Prim, RecordOf, SetOf, SomeOf, Var}
use Rattle.smt_nodes.specs.declared.node.Node.{Node}
use Rattle.smt_nodes.specs.declared.label_order.Difference.{Difference}
use Rattle.smt_nodes.specs.declared.label_order.Difference.TheVariants.{Nowhere, At, Length}

-- the labels of the program, what their parts stand for and what they stand for
pub data Shape : PlainLabel → List Meaning → Meaning → Type 0 where
  an_option : (t : PlainType) → Shape OptionLabel (TypeMeaning t ∷ []) (TypeMeaning (OptionType t))
  some_bits : (n : ℕ) → Shape (BitVecLabel n) [] (TypeMeaning (BitVecType n))
  a_truth : Shape BoolLabel [] (TypeMeaning BoolType)
  extensions : (k : ExtensionKind) → Shape (ExtensionLabel k) [] (TypeMeaning (ExtensionType k))
  entities : (e : List ℕ) → Shape (EntityLabel e) [] (TypeMeaning (EntityType e))
  a_text : Shape StringLabel [] (TypeMeaning StringType)
  a_record_type : (x : AttributeTypes) → Shape (RecordLabel (attribute_names x)) (types_in x) (TypeMeaning (RecordType x))
  a_set : (t : PlainType) → Shape SetLabel (TypeMeaning t ∷ []) (TypeMeaning (SetType t))
  a_function : (id : List ℕ) (t u : PlainType) → Shape (FunctionLabel id) (TypeMeaning t ∷ TypeMeaning u ∷ []) (FunctionMeaning (record { id = id; argument = t; output = u }))
  applied : (o : PlainOp) → applies_no_function (ApplicationLabel o) ≡ true → (t : PlainType) (ts : List PlainTerm) → Shape (ApplicationLabel o) (TypeMeaning t ∷ map TermMeaning ts) (TermMeaning (Application o (terms ts) t))
  called : (f : PlainFunction) (t : PlainType) (ts : List PlainTerm) → Shape CallLabel (TypeMeaning t ∷ FunctionMeaning f ∷ map TermMeaning ts) (TermMeaning (Application (UufOp f) (terms ts) t))
  holds_none : (t : PlainType) → Shape NoneLabel (TypeMeaning (OptionType t) ∷ []) (TermMeaning (NoneTerm t))
  a_literal : (l : PlainLiteral) → Shape (LiteralLabel l) (TypeMeaning (literal_type l) ∷ []) (TermMeaning (LiteralTerm l))
  a_record : (x : PlainFields) → Shape (RecordOfLabel (field_names x)) (TypeMeaning (RecordType (field_types x)) ∷ field_terms x) (TermMeaning (RecordTerm x))
  elements : (t : PlainType) (ts : List PlainTerm) → Shape SetOfLabel (TypeMeaning (SetType t) ∷ map TermMeaning ts) (TermMeaning (SetTerm t (terms ts)))
  holds_some : (u : PlainTerm) → Shape SomeLabel (TypeMeaning (OptionType (type_of u)) ∷ TermMeaning u ∷ []) (TermMeaning (SomeTerm u))
  a_variable : (id : List ℕ) (t : PlainType) → Shape (VariableLabel id) (TypeMeaning t ∷ []) (TermMeaning (VariableTerm id t))

-- a term's type stands first
placed : (l : PlainLabel) (t : PlainType) (ms : List Meaning) (m : Meaning) (u : PlainTerm) → type_of u ≡ t → TermMeaning u ≡ m → Shape l (TypeMeaning (type_of u) ∷ ms) (TermMeaning u) → Shape l (TypeMeaning t ∷ ms) m
placed l t ms m u e d s = subst (Shape l (TypeMeaning t ∷ ms)) d (subst (λ t. Shape l (TypeMeaning t ∷ ms) (TermMeaning u)) e s)

applied_shape : (o : PlainOp) (t : PlainType) (ms : List Meaning) (m : Meaning) → option_and_then (typed_as t) (term_made (ApplicationLabel o) t ms) ≡ Some m → Shape (ApplicationLabel o) (TypeMeaning t ∷ ms) m
applied_shape (UufOp f) t ms m h = absurd (cc)
applied_shape o t ms m h =
    let (u, e, s, k) = typed_back (ApplicationLabel o) t ms m h in
    let (ts, f, d) = map_back (λ ts. Application o (terms ts) t) (terms_in ms) u e in
    let S : List Meaning → Meaning → Type 0 = λ ms m. Shape (ApplicationLabel o) (TypeMeaning t ∷ ms) m in
    subst (S ms) (ap TermMeaning d ∙ k) (subst (λ ms. S ms (TermMeaning (Application o (terms ts) t))) (sym (terms_back ms ts f)) (applied o refl t ts))

call_shape : (f : PlainFunction) (t : PlainType) (ms : List Meaning) (m : Meaning) → option_and_then (typed_as t) (term_made CallLabel t (FunctionMeaning f ∷ ms)) ≡ Some m → Shape CallLabel (TypeMeaning t ∷ FunctionMeaning f ∷ ms) m
call_shape f t ms m h =
    let (u, e, s, k) = typed_back CallLabel t (FunctionMeaning f ∷ ms) m h in
    let (ts, g, d) = map_back (λ ts. Application (UufOp f) (terms ts) t) (terms_in ms) u e in
    let S : List Meaning → Meaning → Type 0 = λ ms m. Shape CallLabel (TypeMeaning t ∷ FunctionMeaning f ∷ ms) m in
    subst (S ms) (ap TermMeaning d ∙ k) (subst (λ ms. S ms (TermMeaning (Application (UufOp f) (terms ts) t))) (sym (terms_back ms ts g)) (called f t ts))

literal_shape : (l : PlainLiteral) (t : PlainType) (m : Meaning) → option_and_then (typed_as t) (Some (LiteralTerm l)) ≡ Some m → Shape (LiteralLabel l) (TypeMeaning t ∷ []) m
literal_shape l t m h = let (u, e, s, k) = typed_back (LiteralLabel l) t [] m h in
    let same : LiteralTerm l ≡ u = some_same (LiteralTerm l) u e in
    placed (LiteralLabel l) t [] m (LiteralTerm l) (ap type_of same ∙ s) (ap TermMeaning same ∙ k) (a_literal l)

some_shape : (v : PlainTerm) (t : PlainType) (m : Meaning) → option_and_then (typed_as t) (Some (SomeTerm v)) ≡ Some m → Shape SomeLabel (TypeMeaning t ∷ TermMeaning v ∷ []) m
some_shape v t m h = let (u, e, s, k) = typed_back SomeLabel t (TermMeaning v ∷ []) m h in
    let same : SomeTerm v ≡ u = some_same (SomeTerm v) u e in
    placed SomeLabel t (TermMeaning v ∷ []) m (SomeTerm v) (ap type_of same ∙ s) (ap TermMeaning same ∙ k) (holds_some v)

variable_shape : (id : List ℕ) (t : PlainType) (m : Meaning) → option_and_then (typed_as t) (Some (VariableTerm id t)) ≡ Some m → Shape (VariableLabel id) (TypeMeaning t ∷ []) m
variable_shape id t m h = let (u, e, s, k) = typed_back (VariableLabel id) t [] m h in
    subst (Shape (VariableLabel id) (TypeMeaning t ∷ [])) (ap TermMeaning (some_same (VariableTerm id t) u e) ∙ k) (a_variable id t)

none_shape : (t : PlainType) (m : Meaning) → option_and_then (typed_as (OptionType t)) (Some (NoneTerm t)) ≡ Some m → Shape NoneLabel (TypeMeaning (OptionType t) ∷ []) m
none_shape t m h = let (u, e, s, k) = typed_back NoneLabel (OptionType t) [] m h in
    subst (Shape NoneLabel (TypeMeaning (OptionType t) ∷ [])) (ap TermMeaning (some_same (NoneTerm t) u e) ∙ k) (holds_none t)

set_shape : (t : PlainType) (ms : List Meaning) (m : Meaning) → option_and_then (typed_as (SetType t)) (term_made SetOfLabel (SetType t) ms) ≡ Some m → Shape SetOfLabel (TypeMeaning (SetType t) ∷ ms) m
set_shape t ms m h =
    let (u, e, s, k) = typed_back SetOfLabel (SetType t) ms m h in
    let (ts, f, d) = then_back _ (terms_in ms) u e in
    let (b, c) = test_back _ (SetTerm t (terms ts)) u d in
    let S : List Meaning → Meaning → Type 0 = λ ms m. Shape SetOfLabel (TypeMeaning (SetType t) ∷ ms) m in
    subst (S ms) (ap TermMeaning c ∙ k) (subst (λ ms. S ms (TermMeaning (SetTerm t (terms ts)))) (sym (terms_back ms ts f)) (elements t ts))

-- its label and its parts are those of the record type or the record that it stands for
record_type_shape : (names : List (List ℕ)) (ms : List Meaning) (m : Meaning) → stands_for (RecordLabel names) ms ≡ Some m → Shape (RecordLabel names) ms m
record_type_shape names ms m h =
    let (b, k) = only_back (ascends text_cmp names) (option_map (λ x. TypeMeaning (RecordType x)) (attributes_in names ms)) m h in
    let (x, e, d) = map_back (λ x. TypeMeaning (RecordType x)) (attributes_in names ms) m k in
    let (p, q) = whole (RecordLabel names) ms (TypeMeaning (RecordType x)) (h ∙ ap Some (sym d)) in
    let S : PlainLabel → List Meaning → Type 0 = λ l ms. Shape l ms (TypeMeaning (RecordType x)) in
    subst (Shape (RecordLabel names) ms) d (subst (λ l. S l ms) (sym p) (subst (S (RecordLabel (attribute_names x))) (sym q) (a_record_type x)))

record_shape : (names : List (List ℕ)) (t : PlainType) (ms : List Meaning) (m : Meaning) → option_and_then (typed_as t) (term_made (RecordOfLabel names) t ms) ≡ Some m → Shape (RecordOfLabel names) (TypeMeaning t ∷ ms) m
record_shape names t ms m h =
    let (u, e, s, k) = typed_back (RecordOfLabel names) t ms m h in
    let (b, o) = only_back (ascends text_cmp names) (option_map RecordTerm (fields_in names ms)) u e in
    let (x, f, d) = map_back RecordTerm (fields_in names ms) u o in
    let same : TermMeaning (RecordTerm x) ≡ m = ap TermMeaning d ∙ k in
    let (p, q) = whole (RecordOfLabel names) (TypeMeaning t ∷ ms) (TermMeaning (RecordTerm x)) (h ∙ ap Some (sym same)) in
    let S : PlainLabel → List Meaning → Type 0 = λ l ms. Shape l ms (TermMeaning (RecordTerm x)) in
    subst (Shape (RecordOfLabel names) (TypeMeaning t ∷ ms)) same (subst (λ l. S l (TypeMeaning t ∷ ms)) (sym p) (subst (S (RecordOfLabel (field_names x))) (sym q) (a_record x)))

pub shape : (l : Label) (ps : List Meaning) (m : Meaning) → stands_for (plain_label l) ps ≡ Some m → Shape (plain_label l) ps m
shape TOption (TypeMeaning t ∷ []) m h = subst (Shape OptionLabel (TypeMeaning t ∷ [])) (some_same _ _ h) (an_option t)
shape (TBitvec n) [] m h = subst (Shape (plain_label (TBitvec n)) []) (some_same _ _ h) (some_bits _)
shape TBool [] m h = subst (Shape BoolLabel []) (some_same _ _ h) a_truth
shape (TEntity e) [] m h = subst (Shape (plain_label (TEntity e)) []) (some_same _ _ h) (entities _)
shape (TExt k) [] m h = subst (Shape (plain_label (TExt k)) []) (some_same _ _ h) (extensions _)
shape TString [] m h = subst (Shape StringLabel []) (some_same _ _ h) a_text
shape (TRecord names) ms m h = record_type_shape (texts (attributes_of names)) ms m h
shape TSet (TypeMeaning t ∷ []) m h = subst (Shape SetLabel (TypeMeaning t ∷ [])) (some_same _ _ h) (a_set t)
shape (Fun id) (TypeMeaning t ∷ TypeMeaning u ∷ []) m h = subst (Shape (plain_label (Fun id)) (TypeMeaning t ∷ TypeMeaning u ∷ [])) (some_same _ _ h) (a_function _ t u)
shape (App o) (TypeMeaning t ∷ ms) m h = applied_shape (plain_op o) t ms m h
shape Call (TypeMeaning t ∷ FunctionMeaning f ∷ ms) m h = call_shape f t ms m h
shape NoneOf (TypeMeaning (OptionType t) ∷ []) m h = none_shape t m h
shape NoneOf (TypeMeaning t ∷ []) m h = absurd (cc)
shape NoneOf (TypeMeaning t ∷ n ∷ ms) m h = absurd (cc)
shape (Prim l) (TypeMeaning t ∷ []) m h = literal_shape (plain_literal l) t m h
shape (RecordOf names) (TypeMeaning t ∷ ms) m h = record_shape (texts (attributes_of names)) t ms m h
shape SetOf (TypeMeaning (SetType t) ∷ ms) m h = set_shape t ms m h
shape SetOf (TypeMeaning t ∷ ms) m h = absurd (cc)
shape SomeOf (TypeMeaning t ∷ TermMeaning u ∷ []) m h = some_shape u t m h
shape (Var id) (TypeMeaning t ∷ []) m h = variable_shape _ t m h
shape l (TypeMeaning t ∷ ms) m h = absurd (cc)
shape l ms m h = absurd (cc)

-- ---- the order by labels and parts
-- two nodes whose labels leave them level, by their parts
abbrev pub parts_cmp : PlainLabel → PlainLabel → List Meaning → List Meaning → Ordering
parts_cmp (RecordLabel as') (RecordLabel bs) ps qs = attributes_cmp as' bs ps qs
parts_cmp (RecordOfLabel as') (RecordOfLabel bs) (t ∷ ps) (u ∷ qs) = attributes_cmp as' bs ps qs
parts_cmp (ApplicationLabel o) k (t ∷ ps) (u ∷ qs) = ordering_then (slice_cmp meaning_cmp ps qs) (slice_cmp meaning_cmp (t ∷ []) (u ∷ []))
parts_cmp CallLabel k (t ∷ ps) (u ∷ qs) = ordering_then (slice_cmp meaning_cmp ps qs) (slice_cmp meaning_cmp (t ∷ []) (u ∷ []))
parts_cmp SomeLabel k (t ∷ ps) (u ∷ qs) = ordering_then (slice_cmp meaning_cmp ps qs) (slice_cmp meaning_cmp (t ∷ []) (u ∷ []))
parts_cmp l k ps qs = slice_cmp meaning_cmp ps qs

then_level : (o : Ordering) → o ≡ ordering_then o Equal
then_level Less = refl
then_level Equal = refl
then_level Greater = refl

-- what is level where a first order is
then_none : (o p : Ordering) → (o ≡ Equal → p ≡ Equal) → o ≡ ordering_then o p
then_none Less p h = refl
then_none Equal p h = sym (h refl)
then_none Greater p h = refl

type_itself : (t : PlainType) → type_cmp t t ≡ Equal
type_itself t = (Equal-is (type_cmp t t)).0 ((types_decided t t).1 refl)

term_itself : (t : PlainTerm) → term_cmp t t ≡ Equal
term_itself t = (Equal-is (term_cmp t t)).0 ((terms_decided t t).1 refl)

type_level : (t u : PlainType) → t ≡ u → type_cmp t u ≡ Equal
type_level t u e = sym (ap (type_cmp t) e) ∙ type_itself t

terms_as_list : (ts us : List PlainTerm) → terms_cmp (terms ts) (terms us) ≡ slice_cmp meaning_cmp (map TermMeaning ts) (map TermMeaning us)
terms_as_list [] [] = refl
terms_as_list [] (u ∷ us) = refl
terms_as_list (t ∷ ts) [] = refl
terms_as_list (t ∷ ts) (u ∷ us) = ap (ordering_then (term_cmp t u)) (terms_as_list ts us)

then_joined : (o p q : Ordering) → ordering_then o (ordering_then p q) ≡ ordering_then (ordering_then o p) q
then_joined Less p q = refl
then_joined Equal p q = refl
then_joined Greater p q = refl

-- what comes behind an order that is not level says nothing
then_any : (o p q : Ordering) → ¬ (o ≡ Equal) → ordering_then o p ≡ ordering_then o q
then_any Less p q h = refl
then_any Equal p q h = absurd (h refl)
then_any Greater p q h = refl

-- ---- an operator beside a function: their places decide
fields_before : (o : PlainOp) (f : PlainFunction) → applies_no_function (ApplicationLabel o) ≡ true → op_fields_cmp o (UufOp f) ≡ Equal
fields_before (UufOp g) f h = absurd (cc)
fields_before o f h = refl

fields_behind : (o : PlainOp) (f : PlainFunction) → applies_no_function (ApplicationLabel o) ≡ true → op_fields_cmp (UufOp f) o ≡ Equal
fields_behind (UufOp g) f h = absurd (cc)
fields_behind o f h = refl

op_before : (o : PlainOp) (f : PlainFunction) → applies_no_function (ApplicationLabel o) ≡ true → op_cmp o (UufOp f) ≡ nat_cmp (op_place o) function_place
op_before o f h = ap (ordering_then (nat_cmp (op_place o) function_place)) (fields_before o f h) ∙ sym (then_level (nat_cmp (op_place o) function_place))

op_behind : (o : PlainOp) (f : PlainFunction) → applies_no_function (ApplicationLabel o) ≡ true → op_cmp (UufOp f) o ≡ nat_cmp function_place (op_place o)
op_behind o f h = ap (ordering_then (nat_cmp function_place (op_place o))) (fields_behind o f h) ∙ sym (then_level (nat_cmp function_place (op_place o)))

no_function_is : (o : PlainOp) (f : PlainFunction) → applies_no_function (ApplicationLabel o) ≡ true → ¬ (o ≡ UufOp f)
no_function_is o f h e = false≢true (sym (ap (λ o. applies_no_function (ApplicationLabel o)) e) ∙ h)

apart_before : (o : PlainOp) (f : PlainFunction) → applies_no_function (ApplicationLabel o) ≡ true → ¬ (nat_cmp (op_place o) function_place ≡ Equal)
apart_before o f h e = no_function_is o f h (op_same o (UufOp f) (op_before o f h ∙ e))

apart_behind : (o : PlainOp) (f : PlainFunction) → applies_no_function (ApplicationLabel o) ≡ true → ¬ (nat_cmp function_place (op_place o) ≡ Equal)
apart_behind o f h e = no_function_is o f h (sym (op_same (UufOp f) o (op_behind o f h ∙ e)))

pub by_parts : (l k : PlainLabel) (ps qs : List Meaning) (m n : Meaning) → Shape l ps m → Shape k qs n → are_alike m n ≡ true → meaning_cmp m n ≡ ordering_then (first_cmp l k) (parts_cmp l k ps qs)
by_parts _ _ _ _ _ _ (an_option t) (an_option u) h = then_level (type_cmp t u)
by_parts _ _ _ _ _ _ (some_bits i) (some_bits j) h = then_level (nat_cmp i j)
by_parts _ _ _ _ _ _ (entities e) (entities f) h = then_level (text_cmp e f)
by_parts _ _ _ _ _ _ (extensions k) (extensions l) h = then_level (nat_cmp (extension_kind_place k) (extension_kind_place l))
by_parts _ _ _ _ _ _ (a_record_type x) (a_record_type y) h = types_by_attributes x y
by_parts _ _ _ _ _ _ (a_set t) (a_set u) h = then_level (type_cmp t u)
by_parts _ _ _ _ _ _ (a_function a t u) (a_function b v w) h = ap (λ c. ordering_then (text_cmp a b) (ordering_then (type_cmp t v) c)) (then_level (type_cmp u w))
by_parts _ _ _ _ _ _ (applied o a t ts) (called f u us) h =
    ap (λ c. ordering_then c (ordering_then (terms_cmp (terms ts) (terms us)) (type_cmp t u))) (op_before o f a) ∙ then_any (nat_cmp (op_place o) function_place) _ _ (apart_before o f a)
by_parts _ _ _ _ _ _ (called f t ts) (applied o a u us) h =
    ap (λ c. ordering_then c (ordering_then (terms_cmp (terms ts) (terms us)) (type_cmp t u))) (op_behind o f a) ∙ then_any (nat_cmp function_place (op_place o)) _ _ (apart_behind o f a)
by_parts _ _ _ _ _ _ (called f t ts) (called g u us) h =
    then_joined (function_cmp f g) (terms_cmp (terms ts) (terms us)) (type_cmp t u) ∙ (ap (λ c. ordering_then (ordering_then (function_cmp f g) c) (type_cmp t u)) (terms_as_list ts us) ∙ ap (ordering_then (ordering_then (function_cmp f g) (slice_cmp meaning_cmp (map TermMeaning ts) (map TermMeaning us)))) (then_level (type_cmp t u)))
by_parts _ _ _ _ _ _ (applied o a t ts) (applied p b u us) h =
    ap (ordering_then (op_cmp o p)) (ap (λ c. ordering_then c (type_cmp t u)) (terms_as_list ts us) ∙ ap (ordering_then (slice_cmp meaning_cmp (map TermMeaning ts) (map TermMeaning us))) (then_level (type_cmp t u)))
by_parts _ _ _ _ _ _ (holds_none t) (holds_none u) h = then_level (type_cmp t u)
by_parts _ _ _ _ _ _ (a_literal a) (a_literal b) h =
    then_none (literal_cmp a b) (ordering_then (type_cmp (literal_type a) (literal_type b)) Equal) (λ e. sym (then_level (type_cmp (literal_type a) (literal_type b))) ∙ type_level (literal_type a) (literal_type b) (ap literal_type (literal_same a b e)))
by_parts _ _ _ _ _ _ (a_record x) (a_record y) h = fields_by_attributes x y
by_parts _ _ _ _ _ _ (elements t ts) (elements u us) h = ap (ordering_then (type_cmp t u)) (terms_as_list ts us)
by_parts _ _ _ _ _ _ (holds_some t) (holds_some u) h =
    then_none (term_cmp t u) (ordering_then (type_cmp (type_of t) (type_of u)) Equal) (λ e. sym (then_level (type_cmp (type_of t) (type_of u))) ∙ type_level (type_of t) (type_of u) (ap type_of (term_same t u e))) ∙ ap (λ c. ordering_then c (ordering_then (type_cmp (type_of t) (type_of u)) Equal)) (then_level (term_cmp t u))
by_parts _ _ _ _ _ _ (a_variable a t) (a_variable b u) h = ap (ordering_then (text_cmp a b)) (then_level (type_cmp t u))
by_parts _ _ _ _ _ _ a_truth a_truth h = refl
by_parts _ _ _ _ _ _ a_text a_text h = refl
by_parts _ _ _ _ _ _ s r h = cc

-- ---- the first difference of lists of numbers
-- what a difference says of an order
pub data Outcome (ms : List (Option Meaning)) : Difference → Ordering → Type 0 where
  level : Outcome ms Nowhere Equal
  differing : (x y : NodeId) (m n : Meaning) → found ms (place_of x) ≡ Some m → found ms (place_of y) ≡ Some n → are_alike m n ≡ true → (o : Ordering) → o ≡ meaning_cmp m n → ¬ (o ≡ Equal) → Outcome ms (At x y) o
  longer : (o : Ordering) → ¬ (o ≡ Equal) → Outcome ms (Length o) o

level_same : (m n : Meaning) → are_alike m n ≡ true → meaning_cmp m n ≡ Equal → m ≡ n
level_same (TypeMeaning t) (TypeMeaning u) a h = ap TypeMeaning (type_same t u h)
level_same (FunctionMeaning f) (FunctionMeaning g) a h = ap FunctionMeaning (function_same f g h)
level_same (TermMeaning t) (TermMeaning u) a h = ap TermMeaning (term_same t u h)
level_same m n a h = absurd (cc)

meaning_itself : (m : Meaning) → meaning_cmp m m ≡ Equal
meaning_itself (TypeMeaning t) = type_itself t
meaning_itself (FunctionMeaning f) = op_itself (UufOp f)
meaning_itself (TermMeaning t) = term_itself t

then_first : (o p : Ordering) → ¬ (o ≡ Equal) → o ≡ ordering_then o p
then_first Less p h = refl
then_first Equal p h = absurd (h refl)
then_first Greater p h = refl

both_true : (a b : Bool) → (a && b) ≡ true → (a ≡ true) × (b ≡ true)
both_true true b h = (refl, h)
both_true false b h = absurd (cc)

not_level : (o : Ordering) → is_eq o ≡ false → ¬ (o ≡ Equal)
not_level o h e = false≢true (sym h ∙ ap is_eq e)

pub head_found : (ms : List (Option Meaning)) (i : ℕ) (is : List ℕ) (ps : List Meaning) → all_found ms (i ∷ is) ≡ Some ps → (m : Meaning) × (rest : List Meaning) × (found ms i ≡ Some m) × (all_found ms is ≡ Some rest) × (m ∷ rest ≡ ps)
head_found ms i is ps h =
    let (m, e, f) = then_back (λ m. option_map (λ rest. m ∷ rest) (all_found ms is)) (found ms i) ps h in
    let (rest, a, b) = map_back (λ rest. m ∷ rest) (all_found ms is) ps f in
    (m, rest, e, a, b)

-- one step of the search, by whether the numbers are the same
one_step : (ns : List PlainNode) → IsGraph ns → (x y : NodeId) (d : Difference) (m n : Meaning) (o : Ordering) (b : Bool) → eqb (place_of x) (place_of y) ≡ b → meaning_at ns (place_of x) ≡ Some m → meaning_at ns (place_of y) ≡ Some n → are_alike m n ≡ true
    → Outcome (meanings ns) (d) o → Outcome (meanings ns) (elim b [ true ↦ d | false ↦ At x y ]) (ordering_then (meaning_cmp m n) o)
one_step ns g x y d m n o true e p q a s =
    let same : place_of x ≡ place_of y = (unsigned_Decides (place_of x) (place_of y)).0 e in
    let alike : m ≡ n = some_same m n (sym p ∙ (ap (meaning_at ns) same ∙ q)) in
    let lev : meaning_cmp m n ≡ Equal = sym (ap (meaning_cmp m) alike) ∙ meaning_itself m in
    let O : Ordering → Type 0 = Outcome (meanings ns) (d) in
    subst (λ c. O (ordering_then c o)) (sym lev) s
one_step ns g x y d m n o false e p q a s =
    let apart : ¬ (meaning_cmp m n ≡ Equal) = λ h. (let same : m ≡ n = level_same m n a h in
    let at : place_of x ≡ place_of y = places_differ ns g (place_of x) (place_of y) m p (q ∙ ap Some (sym same)) in
    false≢true (sym e ∙ (unsigned_Decides (place_of x) (place_of y)).1 at)) in
    let O : Ordering → Type 0 = Outcome (meanings ns) (At x y) in
    subst O (then_first (meaning_cmp m n) o apart) (differing x y m n p q a (meaning_cmp m n) refl apart)

pub outcome : (ns : List PlainNode) → IsGraph ns → (xs ys : List NodeId) (ps qs : List Meaning) → all_found (meanings ns) (places_of xs) ≡ Some ps → all_found (meanings ns) (places_of ys) ≡ Some qs → alike_lists ps qs ≡ true → Outcome (meanings ns) (difference_of xs ys) (slice_cmp meaning_cmp ps qs)
outcome ns g [] [] ps qs p q a =
    let O : List Meaning → List Meaning → Type 0 = λ ps qs. Outcome (meanings ns) Nowhere (slice_cmp meaning_cmp ps qs) in
    subst (λ ps. O ps qs) (some_same [] ps p) (subst (O []) (some_same [] qs q) level)
outcome ns g [] (y ∷ ys) ps qs p q a =
    let (n, rest, e, f, d) = head_found (meanings ns) (place_of y) (places_of ys) qs q in
    let O : List Meaning → List Meaning → Type 0 = λ ps qs. Outcome (meanings ns) (Length Less) (slice_cmp meaning_cmp ps qs) in
    subst (λ ps. O ps qs) (some_same [] ps p) (subst (O []) d (longer Less (λ h. cc)))
outcome ns g (x ∷ xs) [] ps qs p q a =
    let (m, rest, e, f, d) = head_found (meanings ns) (place_of x) (places_of xs) ps p in
    let O : List Meaning → List Meaning → Type 0 = λ ps qs. Outcome (meanings ns) (Length Greater) (slice_cmp meaning_cmp ps qs) in
    subst (O ps) (some_same [] qs q) (subst (λ ps. O ps []) d (longer Greater (λ h. cc)))
outcome ns g (x ∷ xs) (y ∷ ys) ps qs p q a =
    let (m, ms, e, f, d) = head_found (meanings ns) (place_of x) (places_of xs) ps p in
    let (n, ks, e', f', d') = head_found (meanings ns) (place_of y) (places_of ys) qs q in
    let alike : (are_alike m n && alike_lists ms ks) ≡ true = ap (λ ps. alike_lists ps (n ∷ ks)) d ∙ (ap (alike_lists ps) d' ∙ a) in
    let (here, later) = both_true (are_alike m n) (alike_lists ms ks) alike in
    let O : List Meaning → List Meaning → Type 0 = λ ps qs. Outcome (meanings ns) (difference_of (x ∷ xs) (y ∷ ys)) (slice_cmp meaning_cmp ps qs) in
    subst (λ ps. O ps qs) d (subst (O (m ∷ ms)) d' (one_step ns g x y (difference_of xs ys) m n (slice_cmp meaning_cmp ms ks) (eqb (place_of x) (place_of y)) refl e e' here (outcome ns g xs ys ms ks f f' later)))

-- ---- the same of lists of attributes with their parts
text_step : (ms : List (Option Meaning)) (d : Difference) (o c r : Ordering) → Outcome ms d (ordering_then c r) → Outcome ms (match_ordering o (Length Less) d (Length Greater)) (ordering_then (ordering_then o c) r)
text_step ms d Less c r s = longer Less (λ h. cc)
text_step ms d Equal c r s = s
text_step ms d Greater c r s = longer Greater (λ h. cc)

attributes_outcome : (ns : List PlainNode) → IsGraph ns → (as' bs : List (List ℕ)) (xs ys : List NodeId) (ps qs : List Meaning) → all_found (meanings ns) (places_of xs) ≡ Some ps → all_found (meanings ns) (places_of ys) ≡ Some qs → alike_lists ps qs ≡ true
    → Outcome (meanings ns) (attributes_apart as' bs xs ys) (attributes_cmp as' bs ps qs)
attributes_outcome ns g [] [] xs ys ps qs p q a = level
attributes_outcome ns g [] (e ∷ bs) xs ys ps qs p q a = longer Less (λ h. cc)
attributes_outcome ns g (c ∷ as') [] xs ys ps qs p q a = longer Greater (λ h. cc)
attributes_outcome ns g (c ∷ as') (e ∷ bs) [] ys ps qs p q a =
    let O : List Meaning → Type 0 = λ ps. Outcome (meanings ns) (difference_of [] ys) (attributes_cmp (c ∷ as') (e ∷ bs) ps qs) in
    subst O (some_same [] ps p) (outcome ns g [] ys [] qs refl q refl)
attributes_outcome ns g (c ∷ as') (e ∷ bs) (x ∷ xs) [] ps qs p q a =
    let (m, rest, i, j, d) = head_found (meanings ns) (place_of x) (places_of xs) ps p in
    let O : List Meaning → List Meaning → Type 0 = λ ps qs. Outcome (meanings ns) (difference_of (x ∷ xs) []) (attributes_cmp (c ∷ as') (e ∷ bs) ps qs) in
    subst (λ ps. O ps qs) d (subst (O (m ∷ rest)) (some_same [] qs q) (outcome ns g (x ∷ xs) [] (m ∷ rest) [] (p ∙ ap Some (sym d)) refl refl))
attributes_outcome ns g (c ∷ as') (e ∷ bs) (x ∷ xs) (y ∷ ys) ps qs p q a =
    let (m, ms, i, j, d) = head_found (meanings ns) (place_of x) (places_of xs) ps p in
    let (n, ks, i', j', d') = head_found (meanings ns) (place_of y) (places_of ys) qs q in
    let alike : (are_alike m n && alike_lists ms ks) ≡ true = ap (λ ps. alike_lists ps (n ∷ ks)) d ∙ (ap (alike_lists ps) d' ∙ a) in
    let (here, later) = both_true (are_alike m n) (alike_lists ms ks) alike in
    let rest : Outcome (meanings ns) (attributes_apart as' bs xs ys) (attributes_cmp as' bs ms ks) = attributes_outcome ns g as' bs xs ys ms ks j j' later in
    let O : List Meaning → List Meaning → Type 0 = λ ps qs. Outcome (meanings ns) (attributes_apart (c ∷ as') (e ∷ bs) (x ∷ xs) (y ∷ ys)) (attributes_cmp (c ∷ as') (e ∷ bs) ps qs) in
    subst (λ ps. O ps qs) d (subst (O (m ∷ ms)) d' (text_step (meanings ns) _ (text_cmp c e) (meaning_cmp m n) (attributes_cmp as' bs ms ks) (one_step ns g x y (attributes_apart as' bs xs ys) m n (attributes_cmp as' bs ms ks) (eqb (place_of x) (place_of y)) refl i i' here rest)))

or_outcome : (ms : List (Option Meaning)) (c d : Difference) (o p : Ordering) → Outcome ms c o → Outcome ms d p → Outcome ms (or_else c d) (ordering_then o p)
or_outcome ms _ d _ p level s = s
or_outcome ms _ d _ p (differing x y m n e f a o k h) s = subst (Outcome ms (At x y)) (then_first o p h) (differing x y m n e f a o k h)
or_outcome ms _ d _ p (longer o h) s = subst (Outcome ms (Length o)) (then_first o p h) (longer o h)

-- ---- what the first difference of the parts says
abbrev Parts : List PlainNode → PlainLabel → PlainLabel → List NodeId → List NodeId → List Meaning → List Meaning → Type 0
Parts ns l k xs ys ps qs = Outcome (meanings ns) (parts_apart l k xs ys) (parts_cmp l k ps qs)

type_last : (ns : List PlainNode) → IsGraph ns → (l k : PlainLabel) → ((xs ys : List NodeId) (t u : NodeId) → parts_apart l k (t ∷ xs) (u ∷ ys) ≡ or_else (difference_of xs ys) (difference_of (t ∷ []) (u ∷ [])))
    → (xs ys : List NodeId) (t u : Meaning) (ps qs : List Meaning) → all_found (meanings ns) (places_of xs) ≡ Some (t ∷ ps) → all_found (meanings ns) (places_of ys) ≡ Some (u ∷ qs) → are_alike t u ≡ true → alike_lists ps qs ≡ true
    → Outcome (meanings ns) (parts_apart l k xs ys) (ordering_then (slice_cmp meaning_cmp ps qs) (slice_cmp meaning_cmp (t ∷ []) (u ∷ [])))
type_last ns g l k r [] ys t u ps qs p q a b = absurd (cc)
type_last ns g l k r (x ∷ xs) [] t u ps qs p q a b = absurd (cc)
type_last ns g l k r (x ∷ xs) (y ∷ ys) t u ps qs p q a b =
    let (m, ms, e, f, d) = head_found (meanings ns) (place_of x) (places_of xs) (t ∷ ps) p in
    let (n, ks, e', f', d') = head_found (meanings ns) (place_of y) (places_of ys) (u ∷ qs) q in
    let mt : m ≡ t = cc in
    let nu : n ≡ u = cc in
    let rest : ms ≡ ps = cc in
    let rest' : ks ≡ qs = cc in
    let one : all_found (meanings ns) (places_of (x ∷ [])) ≡ Some (t ∷ []) = ap (option_and_then (λ m. Some (m ∷ []))) (e ∙ ap Some mt) in
    let two : all_found (meanings ns) (places_of (y ∷ [])) ≡ Some (u ∷ []) = ap (option_and_then (λ m. Some (m ∷ []))) (e' ∙ ap Some nu) in
    let whole : Outcome (meanings ns) (or_else (difference_of xs ys) (difference_of (x ∷ []) (y ∷ []))) (ordering_then (slice_cmp meaning_cmp ps qs) (slice_cmp meaning_cmp (t ∷ []) (u ∷ []))) =
    or_outcome (meanings ns) (difference_of xs ys) (difference_of (x ∷ []) (y ∷ [])) _ _ (outcome ns g xs ys ps qs (f ∙ ap Some rest) (f' ∙ ap Some rest') b) (outcome ns g (x ∷ []) (y ∷ []) (t ∷ []) (u ∷ []) one two (ap (λ b. b && true) a)) in
    subst (λ d. Outcome (meanings ns) d (ordering_then (slice_cmp meaning_cmp ps qs) (slice_cmp meaning_cmp (t ∷ []) (u ∷ [])))) (sym (r xs ys x y)) whole

all_alike : (ts us : List PlainTerm) → alike_lists (map TermMeaning ts) (map TermMeaning us) ≡ true
all_alike [] [] = refl
all_alike [] (u ∷ us) = refl
all_alike (t ∷ ts) [] = refl
all_alike (t ∷ ts) (u ∷ us) = all_alike ts us

-- the types of records go with their terms
record_outcome : (ns : List PlainNode) → IsGraph ns → (as' bs : List (List ℕ)) (xs ys : List NodeId) (t u : Meaning) (ps qs : List Meaning) → all_found (meanings ns) (places_of xs) ≡ Some (t ∷ ps) → all_found (meanings ns) (places_of ys) ≡ Some (u ∷ qs) → alike_lists ps qs ≡ true
    → Outcome (meanings ns) (parts_apart (RecordOfLabel as') (RecordOfLabel bs) xs ys) (attributes_cmp as' bs ps qs)
record_outcome ns g as' bs [] ys t u ps qs p q a = absurd (cc)
record_outcome ns g as' bs (x ∷ xs) [] t u ps qs p q a = absurd (cc)
record_outcome ns g as' bs (x ∷ xs) (y ∷ ys) t u ps qs p q a =
    let (m, ms, e, f, d) = head_found (meanings ns) (place_of x) (places_of xs) (t ∷ ps) p in
    let (n, ks, e', f', d') = head_found (meanings ns) (place_of y) (places_of ys) (u ∷ qs) q in
    let rest : ms ≡ ps = cc in
    let rest' : ks ≡ qs = cc in
    attributes_outcome ns g as' bs xs ys ps qs (f ∙ ap Some rest) (f' ∙ ap Some rest') a

-- where the labels leave the order open
pub parts_outcome : (ns : List PlainNode) → IsGraph ns → (l k : PlainLabel) (ps qs : List Meaning) (m n : Meaning) → Shape l ps m → Shape k qs n → first_cmp l k ≡ Equal → (xs ys : List NodeId) → all_found (meanings ns) (places_of xs) ≡ Some ps → all_found (meanings ns) (places_of ys) ≡ Some qs → Parts ns l k xs ys ps qs
parts_outcome ns g _ _ _ _ _ _ (an_option t) (an_option u) h xs ys p q = outcome ns g xs ys _ _ p q refl
parts_outcome ns g _ _ _ _ _ _ (some_bits i) (some_bits j) h xs ys p q = outcome ns g xs ys _ _ p q refl
parts_outcome ns g _ _ _ _ _ _ a_truth a_truth h xs ys p q = outcome ns g xs ys _ _ p q refl
parts_outcome ns g _ _ _ _ _ _ (entities e) (entities f) h xs ys p q = outcome ns g xs ys _ _ p q refl
parts_outcome ns g _ _ _ _ _ _ (extensions k) (extensions l) h xs ys p q = outcome ns g xs ys _ _ p q refl
parts_outcome ns g _ _ _ _ _ _ a_text a_text h xs ys p q = outcome ns g xs ys _ _ p q refl
parts_outcome ns g _ _ _ _ _ _ (a_record_type v) (a_record_type w) h xs ys p q = attributes_outcome ns g (attribute_names v) (attribute_names w) xs ys _ _ p q (types_alike v w)
parts_outcome ns g _ _ _ _ _ _ (a_set t) (a_set u) h xs ys p q = outcome ns g xs ys _ _ p q refl
parts_outcome ns g _ _ _ _ _ _ (applied o a t ts) (applied r b u us) h xs ys p q = type_last ns g (ApplicationLabel o) (ApplicationLabel r) (λ xs ys t u. refl) xs ys _ _ _ _ p q refl (all_alike ts us)
parts_outcome ns g _ _ _ _ _ _ (a_function a t u) (a_function b v w) h xs ys p q = outcome ns g xs ys _ _ p q refl
parts_outcome ns g _ _ _ _ _ _ (called f t ts) (called r u us) h xs ys p q = type_last ns g CallLabel CallLabel (λ xs ys t u. refl) xs ys _ _ _ _ p q refl (all_alike ts us)
parts_outcome ns g _ _ _ _ _ _ (holds_none t) (holds_none u) h xs ys p q = outcome ns g xs ys _ _ p q refl
parts_outcome ns g _ _ _ _ _ _ (a_literal a) (a_literal b) h xs ys p q = outcome ns g xs ys _ _ p q refl
parts_outcome ns g _ _ _ _ _ _ (a_record v) (a_record w) h xs ys p q = record_outcome ns g (field_names v) (field_names w) xs ys _ _ _ _ p q (fields_alike v w)
parts_outcome ns g _ _ _ _ _ _ (elements t ts) (elements u us) h xs ys p q = outcome ns g xs ys _ _ p q (all_alike ts us)
parts_outcome ns g _ _ _ _ _ _ (holds_some t) (holds_some u) h xs ys p q = type_last ns g SomeLabel SomeLabel (λ xs ys t u. refl) xs ys _ _ _ _ p q refl refl
parts_outcome ns g _ _ _ _ _ _ (a_variable a t) (a_variable b u) h xs ys p q = outcome ns g xs ys _ _ p q refl
parts_outcome ns g _ _ _ _ _ _ (applied o a t ts) (called f u us) h xs ys p q = absurd (apart_before o f a h)
parts_outcome ns g _ _ _ _ _ _ (called f t ts) (applied o a u us) h xs ys p q = absurd (apart_behind o f a h)
parts_outcome ns g _ _ _ _ _ _ s r h xs ys p q = absurd (cc)

-- ---- two nodes
pub record Compared (ns : List PlainNode) (first second : Node) (m n : Meaning) : Type 0 where
  pub apart : ¬ (first_cmp (plain_label first.label) (plain_label second.label) ≡ Equal) → first_cmp (plain_label first.label) (plain_label second.label) ≡ meaning_cmp m n
  pub same : first_cmp (plain_label first.label) (plain_label second.label) ≡ Equal → Outcome (meanings ns) (parts_apart (plain_label first.label) (plain_label second.label) (ids_of first.parts) (ids_of second.parts)) (meaning_cmp m n)

pub compared : (ns : List PlainNode) → IsGraph ns → (i j : ℕ) (first second : Node) → slice_get ns i ≡ Some (plain_node first) → slice_get ns j ≡ Some (plain_node second)
    → (m n : Meaning) → meaning_at ns i ≡ Some m → meaning_at ns j ≡ Some n → are_alike m n ≡ true → Compared ns first second m n
compared ns g i j first second a b m n e f h =
    let s : Stands ns i (plain_node first) = node_stands ns g i (plain_node first) a in
    let r : Stands ns j (plain_node second) = node_stands ns g j (plain_node second) b in
    let sm : s.meaning ≡ m = some_same s.meaning m (sym s.here ∙ e) in
    let rn : r.meaning ≡ n = some_same r.meaning n (sym r.here ∙ f) in
    let one : Shape (plain_label first.label) s.parts m = shape first.label s.parts m (s.label ∙ ap Some sm) in
    let two : Shape (plain_label second.label) r.parts n = shape second.label r.parts n (r.label ∙ ap Some rn) in
    let l : PlainLabel = plain_label first.label in
    let k : PlainLabel = plain_label second.label in
    let both : meaning_cmp m n ≡ ordering_then (first_cmp l k) (parts_cmp l k s.parts r.parts) = by_parts l k s.parts r.parts m n one two h in
    record {
      apart = λ d. then_first (first_cmp l k) (parts_cmp l k s.parts r.parts) d ∙ sym both;
      same = λ d.
          let O : Ordering → Type 0 = Outcome (meanings ns) (parts_apart l k (ids_of first.parts) (ids_of second.parts)) in
          let whole : meaning_cmp m n ≡ parts_cmp l k s.parts r.parts = both ∙ ap (λ c. ordering_then c (parts_cmp l k s.parts r.parts)) d in
          subst O (sym whole) (parts_outcome ns g l k s.parts r.parts m n one two d (ids_of first.parts) (ids_of second.parts) s.found_parts r.found_parts);
    }

pub at_nowhere : (ms : List (Option Meaning)) (d : Difference) (o : Ordering) → Outcome ms d o → Nowhere ≡ d → Equal ≡ o
at_nowhere ms _ _ level e = refl
at_nowhere ms _ _ (differing x y m n p q a o k h) e = absurd (cc)
at_nowhere ms _ _ (longer o h) e = absurd (cc)

pub at_length : (ms : List (Option Meaning)) (d : Difference) (o p : Ordering) → Outcome ms d o → Length p ≡ d → p ≡ o
at_length ms _ _ p level e = cc
at_length ms _ _ p (differing x y m n a b c o k h) e = cc
at_length ms _ _ p (longer o h) e = cc

pub at_pair : (ms : List (Option Meaning)) (d : Difference) (o : Ordering) (x y : NodeId) (r : Ordering) → Outcome ms d o → At x y ≡ d → ((m n : Meaning) → found ms (place_of x) ≡ Some m → found ms (place_of y) ≡ Some n → IsTrue (are_alike m n) → r ≡ meaning_cmp m n) → r ≡ o
at_pair ms _ _ x y r level e f = cc
at_pair ms _ _ x y r (differing u v m n a b c o k h) e f =
    let ux : x ≡ u = cc in
    let vy : y ≡ v = cc in
    f m n (ap (λ i. found ms (place_of i)) ux ∙ a) (ap (λ i. found ms (place_of i)) vy ∙ b) c ∙ sym k
at_pair ms _ _ x y r (longer o h) e f = cc

-- ---- what differs stands earlier
step_earlier : (x y u v : NodeId) (d : Difference) (i : ℕ) (b : Bool) → place_of x < i → (At u v ≡ d → place_of u < i) → At u v ≡ elim b [ true ↦ d | false ↦ At x y ] → place_of u < i
step_earlier x y u v d i true h f e = f e
step_earlier x y u v d i false h f e = let same : u ≡ x = cc in subst (λ w. place_of w < i) (sym same) h

earlier : (xs ys : List NodeId) (i : ℕ) → AllByRecursion (λ p. p < i) (places_of xs) → (u v : NodeId) → At u v ≡ difference_of xs ys → place_of u < i
earlier [] [] i h u v e = absurd (cc)
earlier [] (y ∷ ys) i h u v e = absurd (cc)
earlier (x ∷ xs) [] i h u v e = absurd (cc)
earlier (x ∷ xs) (y ∷ ys) i h u v e = step_earlier x y u v (difference_of xs ys) i (eqb (place_of x) (place_of y)) h.0 (earlier xs ys i h.1 u v) e

or_earlier : (c d : Difference) (u v : NodeId) (i : ℕ) → (At u v ≡ c → place_of u < i) → (At u v ≡ d → place_of u < i) → At u v ≡ or_else c d → place_of u < i
or_earlier Nowhere d u v i f g e = g e
or_earlier (At x y) d u v i f g e = f e
or_earlier (Length o) d u v i f g e = f e

last_earlier : (xs ys : List NodeId) (t w : NodeId) (i : ℕ) → place_of t < i → AllByRecursion (λ p. p < i) (places_of xs) → (u v : NodeId) → At u v ≡ or_else (difference_of xs ys) (difference_of (t ∷ []) (w ∷ [])) → place_of u < i
last_earlier xs ys t w i a h u v e = or_earlier (difference_of xs ys) (difference_of (t ∷ []) (w ∷ [])) u v i (earlier xs ys i h u v) (earlier (t ∷ []) (w ∷ []) i (a, tt) u v) e

app_earlier : (o : PlainOp) (k : PlainLabel) (xs ys : List NodeId) (i : ℕ) → AllByRecursion (λ p. p < i) (places_of xs) → (u v : NodeId) → At u v ≡ parts_apart (ApplicationLabel o) k xs ys → place_of u < i
app_earlier o k [] [] i h u v e = absurd (cc)
app_earlier o k [] (y ∷ ys) i h u v e = absurd (cc)
app_earlier o k (x ∷ xs) [] i h u v e = absurd (cc)
app_earlier o k (x ∷ xs) (y ∷ ys) i h u v e = last_earlier xs ys x y i h.0 h.1 u v e

call_earlier : (k : PlainLabel) (xs ys : List NodeId) (i : ℕ) → AllByRecursion (λ p. p < i) (places_of xs) → (u v : NodeId) → At u v ≡ parts_apart CallLabel k xs ys → place_of u < i
call_earlier k [] [] i h u v e = absurd (cc)
call_earlier k [] (y ∷ ys) i h u v e = absurd (cc)
call_earlier k (x ∷ xs) [] i h u v e = absurd (cc)
call_earlier k (x ∷ xs) (y ∷ ys) i h u v e = last_earlier xs ys x y i h.0 h.1 u v e

some_earlier : (k : PlainLabel) (xs ys : List NodeId) (i : ℕ) → AllByRecursion (λ p. p < i) (places_of xs) → (u v : NodeId) → At u v ≡ parts_apart SomeLabel k xs ys → place_of u < i
some_earlier k [] [] i h u v e = absurd (cc)
some_earlier k [] (y ∷ ys) i h u v e = absurd (cc)
some_earlier k (x ∷ xs) [] i h u v e = absurd (cc)
some_earlier k (x ∷ xs) (y ∷ ys) i h u v e = last_earlier xs ys x y i h.0 h.1 u v e

text_earlier : (o : Ordering) (d : Difference) (u v : NodeId) (i : ℕ) → (At u v ≡ d → place_of u < i) → At u v ≡ match_ordering o (Length Less) d (Length Greater) → place_of u < i
text_earlier Less d u v i f e = absurd (cc)
text_earlier Equal d u v i f e = f e
text_earlier Greater d u v i f e = absurd (cc)

attributes_earlier : (as' bs : List (List ℕ)) (xs ys : List NodeId) (i : ℕ) → AllByRecursion (λ p. p < i) (places_of xs) → (u v : NodeId) → At u v ≡ attributes_apart as' bs xs ys → place_of u < i
attributes_earlier [] [] xs ys i h u v e = absurd (cc)
attributes_earlier [] (b ∷ bs) xs ys i h u v e = absurd (cc)
attributes_earlier (a ∷ as') [] xs ys i h u v e = absurd (cc)
attributes_earlier (a ∷ as') (b ∷ bs) [] ys i h u v e = earlier [] ys i h u v e
attributes_earlier (a ∷ as') (b ∷ bs) (x ∷ xs) [] i h u v e = earlier (x ∷ xs) [] i h u v e
attributes_earlier (a ∷ as') (b ∷ bs) (x ∷ xs) (y ∷ ys) i h u v e =
    text_earlier (text_cmp a b) _ u v i (step_earlier x y u v (attributes_apart as' bs xs ys) i (eqb (place_of x) (place_of y)) h.0 (attributes_earlier as' bs xs ys i h.1 u v)) e

record_earlier : (as' bs : List (List ℕ)) (xs ys : List NodeId) (i : ℕ) → AllByRecursion (λ p. p < i) (places_of xs) → (u v : NodeId) → At u v ≡ parts_apart (RecordOfLabel as') (RecordOfLabel bs) xs ys → place_of u < i
record_earlier as' bs [] ys i h u v e = earlier [] ys i h u v e
record_earlier as' bs (x ∷ xs) [] i h u v e = earlier (x ∷ xs) [] i h u v e
record_earlier as' bs (x ∷ xs) (y ∷ ys) i h u v e = attributes_earlier as' bs xs ys i h.1 u v e

pub parts_earlier : (l k : Label) (xs ys : List NodeId) (i : ℕ) → AllByRecursion (λ p. p < i) (places_of xs) → (u v : NodeId) → At u v ≡ parts_apart (plain_label l) (plain_label k) xs ys → place_of u < i
parts_earlier (TRecord names) (TRecord others) xs ys i h u v e = attributes_earlier (texts (attributes_of names)) (texts (attributes_of others)) xs ys i h u v e
parts_earlier (RecordOf names) (RecordOf others) xs ys i h u v e = record_earlier (texts (attributes_of names)) (texts (attributes_of others)) xs ys i h u v e
parts_earlier (App o) k xs ys i h u v e = app_earlier (plain_op o) (plain_label k) xs ys i h u v e
parts_earlier Call k xs ys i h u v e = call_earlier (plain_label k) xs ys i h u v e
parts_earlier SomeOf k xs ys i h u v e = some_earlier (plain_label k) xs ys i h u v e
parts_earlier l k xs ys i h u v e = earlier xs ys i h u v e
