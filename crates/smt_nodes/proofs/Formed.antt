-- What a node stands for is formed where its label is and what its parts stand for is.
use Rattle.std.proofs.Common.{◌≡◌, ℕ, ◌≤◌, List, [], ◌∷◌, map, Some, sym, ap, ◌∙◌, inl, inr, subst}
use Rattle.std.specs.List.{AllByRecursion}
use Rattle.std.specs.Prelude.{IsTrue, Option, option_map, ⊤}
use Rattle.law_terms.specs.Formed.{IsFormedHere, IsFormedLiteral, IsFormedType}
use Rattle.law_terms.specs.ValueOrder.{ascends, text_cmp}
use Rattle.law_terms.specs.Plain.{PlainType, OptionType, BitVecType, RecordType, SetType, AttributeTypes, no_attributes, attribute, UufOp, PlainTerm, Application, NoneTerm, LiteralTerm, RecordTerm, SetTerm, SomeTerm, VariableTerm, PlainTerms, no_terms, one_term, PlainFields, no_fields, one_field, list_of_terms}
use Rattle.law_terms.specs.Reached.{subterms, subterms_of_all, subterms_of_fields, types_within, types_within_attributes}
use Rattle.law_terms.proofs.Defaults.{all-join}
use Rattle.law_terms.proofs.Soundness.{all-front, all-last}
use Rattle.law_terms.specs.Graphs.{IsGraph}
use Rattle.law_terms.specs.Meanings.{all_found, attributes_in, found, meaning_at, meaning_of, meanings, stands_for}
use Rattle.law_terms.specs.Nodes.{PlainLabel, BitVecLabel, RecordLabel, LiteralLabel, PlainNode, Meaning, TypeMeaning, FunctionMeaning, TermMeaning}
use Rattle.law_terms.specs.Parts.{field_terms, label_in, parts_in, type_label, type_parts, types_in, attribute_names}
use Rattle.law_terms.proofs.Growth.{Graph, by_nodes, empty, grown}
use Rattle.law_terms.proofs.Places.{found_split, map_back, meanings_grow, only_back, some_same, then_back}
use Rattle.law_terms.proofs.Whole.{whole}
use Rattle.smt_term.proofs.FormedTerms.{IsFormedBoth, formed_literal}
use Rattle.smt_term.proofs.FormedTypes.{formed_option, formed_set}
use Rattle.smt_nodes.specs.View.{plain_label, plain_node}
use Rattle.smt_nodes.specs.declared.node.Label.{Label}
use Rattle.smt_nodes.specs.declared.node.Label.TheVariants.{TBitvec, Prim}
use Rattle.smt_nodes.specs.declared.node.Node.{Node}

-- a label as the program has it
abbrev IsFormedLabel : PlainLabel → Type 0
IsFormedLabel (BitVecLabel n) = (1 ≤ n) × (n ≤ 128)
IsFormedLabel (LiteralLabel l) = IsFormedLiteral l
IsFormedLabel l = ⊤

abbrev pub IsFormedMeaning : Meaning → Type 0
IsFormedMeaning (TypeMeaning t) = IsFormedType t
IsFormedMeaning (FunctionMeaning f) = ⊤
IsFormedMeaning (TermMeaning t) = AllByRecursion IsFormedBoth (subterms t)

abbrev AreFormed : List Meaning → Type 0
AreFormed ms = AllByRecursion IsFormedMeaning ms

-- ---- one step, from the parts to the whole
attributes_step : (x : AttributeTypes) → AreFormed (types_in x) → AllByRecursion IsFormedHere (types_within_attributes x)
attributes_step no_attributes h = tt
attributes_step (attribute a t x) h = all-join IsFormedHere (types_within t) (types_within_attributes x) h.0 (attributes_step x h.1)

-- the attributes of a record type that something stands for ascend
attributes_ascend : (x : AttributeTypes) → stands_for (RecordLabel (attribute_names x)) (types_in x) ≡ Some (TypeMeaning (RecordType x)) → IsTrue (ascends text_cmp (attribute_names x))
attributes_ascend x h =
    (only_back (ascends text_cmp (attribute_names x)) (option_map (λ x. TypeMeaning (RecordType x)) (attributes_in (attribute_names x) (types_in x))) (TypeMeaning (RecordType x)) h).0

type_step : (t : PlainType) → stands_for (type_label t) (type_parts t) ≡ Some (TypeMeaning t) → IsFormedLabel (type_label t) → AreFormed (type_parts t) → IsFormedType t
type_step (OptionType t) e l h = formed_option t h.0
type_step (BitVecType n) e l h = (l, tt)
type_step (RecordType x) e l h = all-join IsFormedHere (types_within_attributes x) _ (attributes_step x h) (attributes_ascend x e, tt)
type_step (SetType t) e l h = formed_set t h.0
type_step t e l h = (tt, tt)

terms_step : (ts : PlainTerms) → AreFormed (map TermMeaning (list_of_terms ts)) → AllByRecursion IsFormedBoth (subterms_of_all ts)
terms_step no_terms h = tt
terms_step (one_term t ts) h = all-join IsFormedBoth (subterms t) (subterms_of_all ts) h.0 (terms_step ts h.1)

fields_step : (x : PlainFields) → AreFormed (field_terms x) → AllByRecursion IsFormedBoth (subterms_of_fields x)
fields_step no_fields h = tt
fields_step (one_field a t x) h = all-join IsFormedBoth (subterms t) (subterms_of_fields x) h.0 (fields_step x h.1)

-- a term's first part is its type, so that is formed
term_step : (t : PlainTerm) → IsFormedLabel (label_in (TermMeaning t)) → AreFormed (parts_in (TermMeaning t)) → AllByRecursion IsFormedBoth (subterms t)
term_step (Application (UufOp f) ts t) l h = all-join IsFormedBoth (subterms_of_all ts) _ (terms_step ts h.1.1) ((tt, h.0), tt)
term_step (Application o ts t) l h = all-join IsFormedBoth (subterms_of_all ts) _ (terms_step ts h.1) ((tt, h.0), tt)
term_step (NoneTerm t) l h = ((tt, h.0), tt)
term_step (LiteralTerm x) l h = ((l, h.0), tt)
term_step (RecordTerm x) l h = all-join IsFormedBoth (subterms_of_fields x) _ (fields_step x h.1) ((tt, h.0), tt)
term_step (SetTerm t ts) l h = all-join IsFormedBoth (subterms_of_all ts) _ (terms_step ts h.1) ((tt, h.0), tt)
term_step (SomeTerm t) l h = all-join IsFormedBoth (subterms t) _ h.1.0 ((tt, h.0), tt)
term_step (VariableTerm id t) l h = ((tt, h.0), tt)

meaning_step : (m : Meaning) → stands_for (label_in m) (parts_in m) ≡ Some m → IsFormedLabel (label_in m) → AreFormed (parts_in m) → IsFormedMeaning m
meaning_step (TypeMeaning t) e l h = type_step t e l h
meaning_step (FunctionMeaning f) e l h = tt
meaning_step (TermMeaning t) e l h = term_step t l h

-- ---- all nodes, each by those before it
abbrev Formed : List (Option Meaning) → Type 0
Formed ms = (i : ℕ) (m : Meaning) → found ms i ≡ Some m → IsFormedMeaning m

all_formed : (ms : List (Option Meaning)) → Formed ms → (is : List ℕ) (ps : List Meaning) → all_found ms is ≡ Some ps → AreFormed ps
all_formed ms w [] ps h = subst AreFormed (some_same [] ps h) tt
all_formed ms w (i ∷ is) ps h =
    let (m, e, d) = then_back (λ m. option_map (λ rest. m ∷ rest) (all_found ms is)) (found ms i) ps h in
    let (rest, f, g) = map_back (λ rest. m ∷ rest) (all_found ms is) ps d in
    subst AreFormed g (w i m e, all_formed ms w is rest f)

abbrev HasFormedLabel : PlainNode → Type 0
HasFormedLabel n = IsFormedLabel n.label

node_formed : (ms : List (Option Meaning)) → Formed ms → (n : PlainNode) → HasFormedLabel n → (m : Meaning) → meaning_of ms n ≡ Some m → IsFormedMeaning m
node_formed ms w n l m h =
    let (ps, f, k) = then_back (stands_for n.label) (all_found ms n.parts) m h in
    let (same, parts) = whole n.label ps m k in
    let made : stands_for (label_in m) (parts_in m) ≡ Some m = sym (ap (λ l. stands_for l ps) same ∙ ap (stands_for (label_in m)) parts) ∙ k in
    meaning_step m made (subst IsFormedLabel same l) (subst AreFormed parts (all_formed ms w n.parts ps f))

graph_formed : (ns : List PlainNode) → Graph ns → AllByRecursion HasFormedLabel ns → Formed (meanings ns)
graph_formed _ empty l i m h = absurd (cc)
graph_formed _ (grown ns n g f new) l i m h =
    let older : Formed (meanings ns) = graph_formed ns g (all-front HasFormedLabel ns (n ∷ []) l) in
    elim (found_split (meanings ns) (meaning_of (meanings ns) n) i m (sym (ap (λ ms. found ms i) (meanings_grow ns n)) ∙ h)) [
      | inl e ↦ older i m e
      | inr e ↦ node_formed (meanings ns) older n (all-last HasFormedLabel ns n l) m e.1
    ]

-- ---- the program's labels
formed_label : (l : Label) → IsFormedLabel (plain_label l)
formed_label (TBitvec n) = (n.at_least_one, n.at_most_128)
formed_label (Prim literal) = (formed_literal literal).0
formed_label l = tt

formed_labels : (nodes : List Node) → AllByRecursion HasFormedLabel (map plain_node nodes)
formed_labels [] = tt
formed_labels (node ∷ nodes) = (formed_label node.label, formed_labels nodes)

-- what a node of the program stands for is formed
pub nodes_formed : (nodes : List Node) → IsGraph (map plain_node nodes) → (i : ℕ) (m : Meaning) → meaning_at (map plain_node nodes) i ≡ Some m → IsFormedMeaning m
nodes_formed nodes g i m h = graph_formed (map plain_node nodes) (by_nodes (map plain_node nodes) g) (formed_labels nodes) i m h
