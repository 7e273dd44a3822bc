-- Selectors, by what nodes stand for.
use Rattle.std.proofs.Common.{◌≡◌, ◌<◌, ◌≤◌, ◌||◌, ℕ, Bool, true, false, List, [], ◌∷◌, get_or, length, map, Option, Some, None, Result, Ok, Err, arith, refl, sym, ap, subst, ◌∙◌}
use Rattle.std.specs.Prelude.{IfSome, IsTrue, bytes_eq, is_some, option_map}
use Rattle.std.specs.Result.{IsErrAnd}
use Rattle.std.specs.List.{list_any}
use Rattle.std.specs.Rc.{rc_str_bytes}
use Rattle.std.specs.declared.alloc.Global.{Global}
use Rattle.std.specs.declared.rc.RcStr.{RcStr}
use Rattle.std.proofs.lemmas.Bool.{false≢true}
use Rattle.law_terms.specs.Faults.{Fault, RecordMissingAttr, attribute_fault, record_get_fault}
use Rattle.law_terms.specs.Plain.{PlainType, BoolType, EntityType, ExtensionType, RecordType, AttributeTypes, attribute, no_attributes, PlainTerm, Application, RecordGetOp, UufOp, list_of_terms, terms}
use Rattle.law_terms.specs.Types.{attribute_in, type_of}
use Rattle.law_terms.specs.Meanings.{all_found, found, meanings}
use Rattle.law_terms.specs.Nodes.{Meaning, FunctionMeaning, TermMeaning, TypeMeaning, PlainLabel, ApplicationLabel, RecordLabel}
use Rattle.law_terms.specs.Parts.{label_in, parts_in, attribute_names}
use Rattle.law_terms.proofs.Places.{map_back, then_back}
use Rattle.law_lines.specs.Lines.{first_type}
use Rattle.law_lines.specs.Spelling.{spelled}
use Rattle.law_lines.specs.NameTables.{Tables, name_of_type, text_of_name}
use Rattle.smt_nodes.specs.Interned.{meaning_in, nodes_of}
use Rattle.smt_nodes.specs.View.{ids_of, place_of, places_of, plain_label}
use Rattle.smt_nodes.specs.declared.node.Node.{Node}
use Rattle.smt_nodes.specs.declared.id.NodeId.{NodeId}
use Rattle.smt_nodes.specs.declared.interner.Interner.{Interner}
use Rattle.smt_spelling.specs.NodeEntries.{head_in, selection_fault, selector}
use Rattle.smt_spelling.specs.LookUps.{selections}
use Rattle.smt_spelling.specs.Names.{AreTables}
use Rattle.smt_spelling.specs.NodeLines.{has_entry}
use Rattle.smt_spelling.specs.NodeTexts.{text_at, HasName, IsNodeOf}
use Rattle.smt_spelling.specs.Selections.{selected_by, IsHead}
use Rattle.smt_spelling.specs.SelectorFaults.{selector_fault}
use Rattle.smt_spelling.specs.declared.selector_error.SelectorError.{SelectorError}
use Rattle.smt_spelling.specs.declared.names.Names.{Names}
use Rattle.smt_spelling.specs.declared.node_names.NodeNames.{NodeNames}
use Rattle.smt_spelling.specs.TextFaults.{Finds}
use Rattle.smt_spelling.proofs.Built.{record_meant}
use Rattle.smt_spelling.proofs.Named.{named_at}
use Rattle.smt_spelling.proofs.Rendered.{first_found}
use Rattle.law_terms.proofs.Listed.{listed_again}

-- ---- labels that take an attribute, and others

-- what stands for an application that takes an attribute, and its parts
pub selected : (m : Meaning) (a : List ℕ) → selected_by (label_in m) ≡ Some a → (t : PlainType) × (ts : List PlainTerm) × (m ≡ TermMeaning (Application (RecordGetOp a) (terms ts) t)) × (parts_in m ≡ TypeMeaning t ∷ map TermMeaning ts)
selected (TermMeaning (Application (RecordGetOp b) ts t)) a h =
    let same : b ≡ a = cc in
    (t, list_of_terms ts, ap (λ x. TermMeaning (Application (RecordGetOp x) ts t)) same ∙ ap (λ l. TermMeaning (Application (RecordGetOp a) l t)) (sym (listed_again ts)), refl)
selected (TermMeaning (Application (UufOp f) ts t)) a h = absurd (cc)
selected (TermMeaning (Application o ts t)) a h = absurd (cc)
selected (TermMeaning t) a h = absurd (cc)
selected (TypeMeaning BoolType) a h = absurd (cc)
selected (TypeMeaning t) a h = absurd (cc)
selected (FunctionMeaning f) a h = absurd (cc)

pub unselected_head : (t : PlainTerm) (s : Tables) → selected_by (label_in (TermMeaning t)) ≡ None → IsHead (label_in (TermMeaning t)) None (head_in t s)
unselected_head (Application (RecordGetOp a) ts t) s h = absurd (cc)
unselected_head (Application (UufOp f) ts t) s h = tt
unselected_head (Application o ts t) s h = refl
unselected_head t s h = tt

pub unselected : (m : Meaning) → selected_by (label_in m) ≡ None → selection_fault m ≡ None
unselected (TermMeaning (Application (RecordGetOp a) ts t)) h = absurd (cc)
unselected (TermMeaning (Application o ts t)) h = refl
unselected (TermMeaning t) h = refl
unselected (TypeMeaning t) h = refl
unselected (FunctionMeaning f) h = refl

pub one_selection : (l : PlainLabel) (a : List ℕ) → selected_by l ≡ Some a → selections l ≡ 1
one_selection (ApplicationLabel (RecordGetOp b)) a h = refl
one_selection (ApplicationLabel o) a h = absurd (cc)
one_selection l a h = absurd (cc)

-- ---- operands

-- the first operand, which stands behind the claimed type
pub operand : (ms : List (Option Meaning)) (ids : List NodeId) (d : NodeId) (t : PlainType) (ts : List PlainTerm) → all_found ms (places_of ids) ≡ Some (TypeMeaning t ∷ map TermMeaning ts) → 1 < length ids
    → (u : PlainTerm) × (us : List PlainTerm) × (ts ≡ u ∷ us) × (found ms (place_of (get_or ids 1 d)) ≡ Some (TermMeaning u))
operand ms [] d t ts h more = absurd (omega (arith, more))
operand ms (i ∷ []) d t ts h more = absurd (omega (arith, more))
operand ms (i ∷ j ∷ ids) d t ts h more =
    let (n, e, g) = then_back (λ n. option_map (λ rest. n ∷ rest) (all_found ms (places_of (j ∷ ids)))) (found ms (place_of i)) (TypeMeaning t ∷ map TermMeaning ts) h in
    let (rest, f, same) = map_back (λ rest. n ∷ rest) (all_found ms (places_of (j ∷ ids))) (TypeMeaning t ∷ map TermMeaning ts) g in
    let others : rest ≡ map TermMeaning ts = cc in
    go ts rest others f
  where
    go : (ts : List PlainTerm) (rest : List Meaning) → rest ≡ map TermMeaning ts → all_found ms (places_of (j ∷ ids)) ≡ Some rest → (u : PlainTerm) × (us : List PlainTerm) × (ts ≡ u ∷ us) × (found ms (place_of j) ≡ Some (TermMeaning u))
    go [] rest e f =
        let (k, p, q) = then_back (λ k. option_map (λ more. k ∷ more) (all_found ms (places_of ids))) (found ms (place_of j)) rest f in
        let (more, v, same) = map_back (λ more. k ∷ more) (all_found ms (places_of ids)) rest q in
        absurd (cc)
    go (u ∷ us) rest e f = (u, us, refl, first_found ms (j ∷ ids) d (TermMeaning u) (map TermMeaning us) (f ∙ ap Some e))

pub no_operand : (ms : List (Option Meaning)) (ids : List NodeId) (t : PlainType) (ts : List PlainTerm) → all_found ms (places_of ids) ≡ Some (TypeMeaning t ∷ map TermMeaning ts) → length ids ≤ 1 → ts ≡ []
no_operand ms ids t [] h few = refl
no_operand ms [] t (u ∷ us) h few = absurd (cc)
no_operand ms (i ∷ []) t (u ∷ us) h few =
    let (n, e, g) = then_back (λ n. Some (n ∷ [])) (found ms (place_of i)) (TypeMeaning t ∷ map TermMeaning (u ∷ us)) h in
    absurd (cc)
no_operand ms (i ∷ j ∷ ids) t (u ∷ us) h few = absurd (omega (arith, few))

-- the first operand and the type with which its parts begin
pub record Behind (i : Interner) (ts : List PlainTerm) (xs : List NodeId) : Type 0 where
  pub first : PlainTerm
  pub others : List PlainTerm
  pub whole : ts ≡ first ∷ others
  pub some : 1 ≤ length xs
  pub type : (d : NodeId) → meaning_in i (get_or xs 0 d) ≡ Some (TypeMeaning (type_of first))

pub behind : (i j : Interner) (ids : List NodeId) (id : NodeId) (xs : List NodeId) (t : PlainType) (ts : List PlainTerm) → j ≡ i → all_found (meanings (nodes_of i)) (places_of ids) ≡ Some (TypeMeaning t ∷ map TermMeaning ts) → 1 < length ids → id ≡ get_or ids 1 id
    → IfSome (meaning_in j id) (λ m. all_found (meanings (nodes_of j)) (places_of xs) ≡ Some (parts_in m)) → Behind i ts xs
behind i j ids id xs t ts same all more at parts =
    let (u, us, is, there) = operand (meanings (nodes_of i)) ids id t ts all more in
    let meant : meaning_in i id ≡ Some (TermMeaning u) = ap (meaning_in i) at ∙ there in
    let here = subst (λ (k : Interner). IfSome (meaning_in k id) (λ m. all_found (meanings (nodes_of k)) (places_of xs) ≡ Some (parts_in m))) same parts in
    let own : all_found (meanings (nodes_of i)) (places_of xs) ≡ Some (parts_in (TermMeaning u)) = subst (λ (o : Option Meaning). IfSome o (λ m. all_found (meanings (nodes_of i)) (places_of xs) ≡ Some (parts_in m))) meant here in
    record { first = u; others = us; whole = is; some = filled u xs own; type = λ d. first_found (meanings (nodes_of i)) xs d (TypeMeaning (type_of u)) _ own }
  where
    filled : (u : PlainTerm) (xs : List NodeId) → all_found (meanings (nodes_of i)) (places_of xs) ≡ Some (parts_in (TermMeaning u)) → 1 ≤ length xs
    filled u [] e = absurd (cc)
    filled u (x ∷ xs) e = omega (arith)

-- ---- the node of an application that takes an attribute

pub taken : (i : Interner) (id : NodeId) (node : Node) (ids : List NodeId) (m : Meaning) (a : List ℕ) → IsNodeOf i id node → meaning_in i id ≡ Some m → ids ≡ ids_of node.parts → selected_by (plain_label node.label) ≡ Some a
    → (t : PlainType) × (ts : List PlainTerm) × (m ≡ TermMeaning (Application (RecordGetOp a) (terms ts) t)) × (all_found (meanings (nodes_of i)) (places_of ids) ≡ Some (TypeMeaning t ∷ map TermMeaning ts))
taken i id node ids m a is_node meant same takes =
    let (t, ts, is, parts) = selected m a (ap selected_by (sym (is_node.label m meant)) ∙ takes) in
    (t, ts, is, ap (λ l. all_found (meanings (nodes_of i)) (places_of l)) same ∙ is_node.parts m meant ∙ ap Some parts)

pub taken_head : (a : List ℕ) (t : PlainType) (ts : List PlainTerm) (u : PlainTerm) (s : Tables) (l : PlainLabel) (text : RcStr Global) → TermMeaning u ≡ TermMeaning (Application (RecordGetOp a) (terms ts) t) → l ≡ label_in (TermMeaning u)
    → rc_str_bytes text ≡ spelled (selector a (first_type (terms ts)) s) → IsHead l (Some text) (head_in u s)
taken_head a t ts u s l text is label spells =
    let one : u ≡ Application (RecordGetOp a) (terms ts) t = cc in
    subst (λ (k : PlainLabel). IsHead k (Some text) (head_in u s)) (sym label) (subst (λ (x : PlainTerm). IsHead (label_in (TermMeaning x)) (Some text) (head_in x s)) (sym one) spells)

-- ---- faults and names

-- the fault is that of the first operand's type
pub first_alone : (a : List ℕ) (t : PlainType) (ts : List PlainType) → record_get_fault a (t ∷ ts) ≡ record_get_fault a (t ∷ [])
first_alone a (RecordType x) ts = refl
first_alone a (EntityType e) ts = refl
first_alone a (ExtensionType k) ts = refl
first_alone a BoolType ts = refl
first_alone a t ts = refl

pub named_type : (n : Names) (s : Tables) (id : NodeId) (t : PlainType) → AreTables n s → meaning_in n.nodes id ≡ Some (TypeMeaning t) → IsTrue (has_entry (TypeMeaning t)) → text_at n.texts id ≡ name_of_type s t
named_type n s id t are meant has = named_at n.nodes n.texts (TypeMeaning t) (name_of_type s t) id (are.names (TypeMeaning t)) meant has

-- the text that a name's place has
pub name_there : {A : Type 0} (f : A → List ℕ) (o : Option A) (x : A) (n : Option (List ℕ)) → option_map f o ≡ n → o ≡ Some x → f x ≡ text_of_name n
name_there f o x n e is = ap text_of_name (ap (option_map f) (sym is) ∙ e)

pub name_missing : {A : Type 0} (f : A → List ℕ) (o : Option A) (n : Option (List ℕ)) → option_map f o ≡ n → o ≡ None → [] ≡ text_of_name n
name_missing f o n e is = ap text_of_name (ap (option_map f) (sym is) ∙ e)

-- ---- record types

pub has_attribute : (a : List ℕ) (x : AttributeTypes) → list_any (bytes_eq a) (attribute_names x) ≡ true → attribute_fault a (attribute_in a x) ≡ None
has_attribute a no_attributes h = absurd (false≢true h)
has_attribute a (attribute b t x) h = go (bytes_eq a b) h (has_attribute a x)
  where
    go : (c : Bool) → (c || list_any (bytes_eq a) (attribute_names x)) ≡ true → (list_any (bytes_eq a) (attribute_names x) ≡ true → attribute_fault a (attribute_in a x) ≡ None) → attribute_fault a (elim c [ true ↦ Some t | false ↦ attribute_in a x ]) ≡ None
    go true h k = refl
    go false h k = k h

pub lacks_attribute : (a : List ℕ) (x : AttributeTypes) → list_any (bytes_eq a) (attribute_names x) ≡ false → attribute_fault a (attribute_in a x) ≡ Some (RecordMissingAttr a)
lacks_attribute a no_attributes h = refl
lacks_attribute a (attribute b t x) h = go (bytes_eq a b) h (lacks_attribute a x)
  where
    go : (c : Bool) → (c || list_any (bytes_eq a) (attribute_names x)) ≡ false → (list_any (bytes_eq a) (attribute_names x) ≡ false → attribute_fault a (attribute_in a x) ≡ Some (RecordMissingAttr a)) → attribute_fault a (elim c [ true ↦ Some t | false ↦ attribute_in a x ]) ≡ Some (RecordMissingAttr a)
    go true h k = absurd (false≢true (sym h))
    go false h k = k h

-- what stands at a number with the label of a record type
pub labelled : {A : Type 0} (f : A → PlainLabel) (r : Option A) (x : A) (o : Option Meaning) (m : Meaning) → option_map f r ≡ option_map label_in o → r ≡ Some x → o ≡ Some m → label_in m ≡ f x
labelled f r x o m e is meant =
    let both : Some (label_in m) ≡ Some (f x) = ap (option_map label_in) (sym meant) ∙ (sym e ∙ ap (option_map f) is) in
    cc

record_type : (t : PlainType) (names : List (List ℕ)) → label_in (TypeMeaning t) ≡ RecordLabel names → (x : AttributeTypes) × (t ≡ RecordType x) × (names ≡ attribute_names x)
record_type t names label = let (x, is, same) = record_meant (TypeMeaning t) names label in (x, cc, same)

pub record_faultless : (a : List ℕ) (t : PlainType) (names : List (List ℕ)) → label_in (TypeMeaning t) ≡ RecordLabel names → true ≡ list_any (bytes_eq a) names → record_get_fault a (t ∷ []) ≡ None
record_faultless a t names label has =
    let (x, is, same) = record_type t names label in
    ap (λ u. record_get_fault a (u ∷ [])) is ∙ has_attribute a x (ap (list_any (bytes_eq a)) (sym same) ∙ sym has)

pub record_lacks : (a : List ℕ) (t : PlainType) (names : List (List ℕ)) → label_in (TypeMeaning t) ≡ RecordLabel names → false ≡ list_any (bytes_eq a) names → record_get_fault a (t ∷ []) ≡ Some (RecordMissingAttr a)
record_lacks a t names label lacks =
    let (x, is, same) = record_type t names label in
    ap (λ u. record_get_fault a (u ∷ [])) is ∙ lacks_attribute a x (ap (list_any (bytes_eq a)) (sym same) ∙ sym lacks)

-- ---- types that are looked up, and errors that are handed on

-- what no number stands for has no name
pub name_of_none : (i j : Interner) (names : NodeNames) (m : Meaning) (o : Option (List ℕ)) → j ≡ i → ((id : NodeId) → meaning_in j id ≡ Some m → ⊥) → HasName i names m o → None ≡ o
name_of_none i j names m None same none h = refl
name_of_none i j names m (Some x) same none (id, meant, entry, there) = absurd (none id (ap (λ k. meaning_in k id) same ∙ meant))

-- what is found is found under another view of it
pub same_finding : {A B : Type 0} (f : A → B) (r : Option A) (o : Option B) → option_map f r ≡ o → is_some r ≡ is_some o
same_finding f None o is = ap is_some is
same_finding f (Some x) o is = ap is_some is

-- an error of a selector, handed on, names the fault that it named
pub selector_handed : {T : Type 0} (fault : Option Fault) (e : SelectorError) (result : Result T SelectorError) → IsErrAnd result (λ y. y ≡ e) → ((f : Fault) → selector_fault e ≡ Some f → fault ≡ Some f) → Finds selector_fault fault result
selector_handed fault e (Ok x) same h = absurd same
selector_handed fault e (Err y) same h = λ f k. h f (ap selector_fault (sym same) ∙ k)
