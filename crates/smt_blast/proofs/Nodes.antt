-- Old nodes and their terms.
use Rattle.std.proofs.Common.{◌≡◌, ◌<◌, ◌≤◌, ℕ, false, true, List, [], ◌∷◌, Option, Some, None, get_or, length, map, suc, zero, refl, sym, ap, ◌∙◌, subst, arith}
use Rattle.std.proofs.lemmas.Bool.{false≢true}
use Rattle.std.specs.List.{AllByRecursion}
use Rattle.std.specs.Prelude.{Bool, IfSome, option_and_then, option_map}
use Rattle.law_blasting.specs.Blasted.{Variables, bits_in as bits_of_type, blasted, blasted_all}
use Rattle.law_blasting.specs.Passing.{Related, none, one}
use Rattle.law_blasting.specs.Refusals.{is_supported, operator_refusal, term_refusal, terms_refusal, type_refusal}
use Rattle.law_blasting.proofs.Faithful.{blasted_terms_are_typed}
use Rattle.law_blasting.proofs.Keeping.{none_second, supported}
use Rattle.law_terms.specs.Formed.{IsFormed, IsFormedType}
use Rattle.law_terms.specs.Meanings.{all_found, found, meanings}
use Rattle.law_terms.specs.Nodes.{Meaning, PlainLabel, ApplicationLabel, CallLabel, LiteralLabel, VariableLabel, FunctionMeaning, TermMeaning, TypeMeaning}
use Rattle.law_terms.specs.Parts.{label_in, parts_in, term_label, term_parts}
use Rattle.law_terms.specs.Plain.{PlainFunction, PlainLiteral, PlainOp, UufOp, PlainTerm, Application, NoneTerm, LiteralTerm, RecordTerm, SetTerm, SomeTerm, VariableTerm, PlainTerms, no_terms, one_term, PlainType, BitVecType, BoolType, OptionType, EntityType, ExtensionType, StringType, RecordType, SetType, list_of_terms}
use Rattle.law_terms.specs.Reached.{subterms, subterms_of_all, subterms_of_fields}
use Rattle.law_terms.specs.Types.{type_of}
use Rattle.law_blasting.specs.OperatorCircuits.{operator_circuit, term_gates}
use Rattle.law_terms.proofs.Distinct.{places_differ}
use Rattle.law_terms.proofs.Places.{as_many, found_within, some_same}
use Rattle.law_terms.proofs.Soundness.{all-back}
use Rattle.smt_nodes.proofs.Formed.{nodes_formed}
use Rattle.smt_nodes.specs.Interned.{meaning_in, nodes_of}
use Rattle.smt_nodes.specs.View.{place_of, places_of, plain_label}
use Rattle.smt_nodes.specs.declared.id.IdList.{IdList}
use Rattle.smt_nodes.specs.declared.id.NodeId.{NodeId}
use Rattle.smt_nodes.specs.declared.interner.Interner.{Interner}
use Rattle.smt_nodes.specs.declared.node.Label.{Label}
use Rattle.smt_nodes.specs.declared.node.Label.TheVariants.{App, Call, Prim, Var}
use Rattle.smt_term.proofs.FormedTerms.{both_formed}
use Rattle.smt_term.specs.declared.op.Op.{Op}
use Rattle.smt_term.specs.declared.term.TermPrim.{TermPrim}
use Rattle.std.specs.declared.alloc.Global.{Global}
use Rattle.std.specs.declared.rc.RcStr.{RcStr}
use Rattle.smt_blast.specs.Marks.{mark_in, HasMark, IsSeen}
use Rattle.smt_blast.specs.Tables.{HasBits, IsTable}
use Rattle.smt_blast.specs.declared.marks.Seen.{Seen}

-- ---- parts

both_found : (a : Option Meaning) (b : Option (List Meaning)) (m : Meaning) (ps : List Meaning) → option_and_then (λ x. option_map (λ (rest : List Meaning). x ∷ rest) b) a ≡ Some (m ∷ ps) → (a ≡ Some m) × (b ≡ Some ps)
both_found (Some x) (Some y) m ps h = (cc, cc)
both_found (Some x) None m ps h = absurd (cc)
both_found None b m ps h = absurd (cc)

none_found : (a : Option Meaning) (b : Option (List Meaning)) → option_and_then (λ x. option_map (λ (rest : List Meaning). x ∷ rest) b) a ≡ Some [] → ⊥
none_found (Some x) (Some y) h = cc
none_found (Some x) None h = cc
none_found None b h = cc

pub split_found : (ms : List (Option Meaning)) (i : ℕ) (is : List ℕ) (m : Meaning) (ps : List Meaning) → all_found ms (i ∷ is) ≡ Some (m ∷ ps) → (found ms i ≡ Some m) × (all_found ms is ≡ Some ps)
split_found ms i is m ps h = both_found (found ms i) (all_found ms is) m ps h

-- one number stands for a term
pub one_number : (old : Interner) (a b : NodeId) (m : Meaning) → meaning_in old a ≡ Some m → meaning_in old b ≡ Some m → place_of a ≡ place_of b
one_number old a b m e f = places_differ (nodes_of old) old.graph (place_of a) (place_of b) m e f

-- ---- the bits of arguments

pub arguments_have_bits : (old : Interner) (marks : List (Option Seen)) (vs : Variables) (i : Interner) (table : List IdList) (place : ℕ) → IsTable old marks vs i table → length table ≡ place → (ids : List NodeId) (ts : PlainTerms)
    → all_found (meanings (nodes_of old)) (places_of ids) ≡ Some (map TermMeaning (list_of_terms ts)) → AllByRecursion (λ p. p < place) (places_of ids) → AllByRecursion (HasMark old marks) (list_of_terms ts) → Related (HasBits i table) ids (blasted_all vs ts)
arguments_have_bits old marks vs i table place has n [] no_terms h b k = none
arguments_have_bits old marks vs i table place has n [] (one_term t ts) h b k = absurd (cc)
arguments_have_bits old marks vs i table place has n (x ∷ ids) no_terms h b k = absurd (none_found (found (meanings (nodes_of old)) (place_of x)) (all_found (meanings (nodes_of old)) (places_of ids)) h)
arguments_have_bits old marks vs i table place has n (x ∷ ids) (one_term t ts) h b k =
    let (here, there) = split_found (meanings (nodes_of old)) (place_of x) (places_of ids) (TermMeaning t) (map TermMeaning (list_of_terms ts)) h in
    let (y, means, (s, mark)) = k.0 in
    let below : place_of x < length table = omega (arith, b.0, n) in
    let marked : mark_in marks (place_of x) ≡ Some s = ap (mark_in marks) (one_number old x y (TermMeaning t) here means) ∙ mark in
    one (has x s t below marked here) (arguments_have_bits old marks vs i table place has n ids ts there b.1 k.1)

-- ---- which term a label is of

pub application_of : (o : PlainOp) (t : PlainTerm) → ApplicationLabel o ≡ term_label t → (ts : PlainTerms) × (ty : PlainType) × (t ≡ Application o ts ty) × (term_parts t ≡ map TermMeaning (list_of_terms ts))
application_of o (Application (UufOp f) ts ty) h = absurd (cc)
application_of o (Application p ts ty) h = (ts, ty, (cc), refl)
application_of o t h = absurd (cc)

pub literal_of : (l : PlainLiteral) (t : PlainTerm) → LiteralLabel l ≡ term_label t → t ≡ LiteralTerm l
literal_of l (LiteralTerm k) h = (cc)
literal_of l (Application (UufOp f) ts ty) h = absurd (cc)
literal_of l (Application p ts ty) h = absurd (cc)
literal_of l t h = absurd (cc)

pub variable_named : (id : List ℕ) (t : PlainTerm) → VariableLabel id ≡ term_label t → (ty : PlainType) × (t ≡ VariableTerm id ty)
variable_named id (VariableTerm name ty) h = (ty, (cc))
variable_named id (Application (UufOp f) ts ty) h = absurd (cc)
variable_named id (Application p ts ty) h = absurd (cc)
variable_named id t h = absurd (cc)

has_no_bits : PlainLabel → Bool
has_no_bits (ApplicationLabel o) = false
has_no_bits (LiteralLabel l) = false
has_no_bits (VariableLabel id) = false
has_no_bits l = true

other_label : (l : Label) → ((o : Op) → l ≡ App o → ⊥) → ((p : TermPrim) → l ≡ Prim p → ⊥) → ((id : RcStr Global) → l ≡ Var id → ⊥) → has_no_bits (plain_label l) ≡ true
unfolding has_no_bits
other_label (App o) f g h = absurd (f o refl)
other_label (Prim p) f g h = absurd (g p refl)
other_label (Var id) f g h = absurd (h id refl)
other_label l f g h = refl

no_bits : (vs : Variables) (t : PlainTerm) → has_no_bits (term_label t) ≡ true → blasted vs t ≡ []
unfolding has_no_bits
no_bits vs (Application (UufOp f) ts ty) h = refl
no_bits vs (Application o ts ty) h = absurd (false≢true h)
no_bits vs (LiteralTerm l) h = absurd (false≢true h)
no_bits vs (VariableTerm id ty) h = absurd (false≢true h)
no_bits vs (NoneTerm t) h = refl
no_bits vs (RecordTerm fs) h = refl
no_bits vs (SetTerm t ts) h = refl
no_bits vs (SomeTerm t) h = refl

pub other_has_no_bits : (vs : Variables) (l : Label) (t : PlainTerm) → plain_label l ≡ term_label t → ((o : Op) → l ≡ App o → ⊥) → ((p : TermPrim) → l ≡ Prim p → ⊥) → ((id : RcStr Global) → l ≡ Var id → ⊥) → blasted vs t ≡ []
other_has_no_bits vs l t e f g h = no_bits vs t (sym (ap has_no_bits e) ∙ other_label l f g h)

-- ---- what a term without refusal has

pub operator_taken : (o : PlainOp) (ts : PlainTerms) (ty : PlainType) → term_refusal (Application o ts ty) ≡ None → is_supported o ≡ true
operator_taken o ts ty h = supported o (is_supported o) (none_second (terms_refusal ts) (operator_refusal o) (none_second (type_refusal ty) _ h))

-- ---- few bits

own : (P : PlainTerm → Type 0) (t : PlainTerm) → AllByRecursion P (subterms t) → P t
own P (Application o ts ty) h = (all-back P (subterms_of_all ts) (Application o ts ty ∷ []) h).0
own P (NoneTerm t) h = h.0
own P (LiteralTerm l) h = h.0
own P (RecordTerm fs) h = (all-back P (subterms_of_fields fs) (RecordTerm fs ∷ []) h).0
own P (SetTerm t ts) h = (all-back P (subterms_of_all ts) (SetTerm t ts ∷ []) h).0
own P (SomeTerm t) h = (all-back P (subterms t) (SomeTerm t ∷ []) h).0
own P (VariableTerm id ty) h = h.0

type_few : (t : PlainType) → IsFormedType t → bits_of_type t ≤ 128
type_few BoolType h = omega arith
type_few (BitVecType n) h = h.0.1
type_few (OptionType t) h = omega arith
type_few (EntityType e) h = omega arith
type_few (ExtensionType k) h = omega arith
type_few StringType h = omega arith
type_few (RecordType x) h = omega arith
type_few (SetType t) h = omega arith

pub few_bits : (old : Interner) (marks : List (Option Seen)) (vs : Variables) (id : NodeId) (s : Seen) (k : IsSeen old marks vs id s) → length (blasted vs k.term) ≤ 128
few_bits old marks vs id s k =
    let formed : IsFormed k.term = both_formed k.term (nodes_formed old.table.nodes.items old.graph (place_of id) (TermMeaning k.term) k.means) in
    let count = (blasted_terms_are_typed vs k.term k.typed formed k.taken k.numbered).1 in
    let few = type_few (type_of k.term) (own (λ u. IsFormedType (type_of u)) k.term formed.types) in
    omega (arith, count, few)

-- ---- a node of an application

pub label_is : (old : Interner) (id : NodeId) (l : PlainLabel) (t : PlainTerm) → meaning_in old id ≡ Some (TermMeaning t) → Some l ≡ option_map label_in (meaning_in old id) → l ≡ term_label t
label_is old id l t e h = some_same l (term_label t) (h ∙ ap (option_map label_in) e)

pub parts_are : (old : Interner) (id : NodeId) (ids : List NodeId) (t : PlainTerm) → meaning_in old id ≡ Some (TermMeaning t) → IfSome (meaning_in old id) (λ m. all_found (meanings (nodes_of old)) (places_of ids) ≡ Some (parts_in m)) → all_found (meanings (nodes_of old)) (places_of ids) ≡ Some (TypeMeaning (type_of t) ∷ term_parts t)
parts_are old id ids t e h = subst (λ (o : Option Meaning). IfSome o (λ m. all_found (meanings (nodes_of old)) (places_of ids) ≡ Some (parts_in m))) e h

pub application_has_bits : (old : Interner) (marks : List (Option Seen)) (vs : Variables) (i : Interner) (table : List IdList) (seen : Seen) (s : IsSeen old marks vs seen.id seen) → IsTable old marks vs i table → length table ≡ place_of seen.id
    → (all ids : List NodeId) (ty : NodeId) → all ≡ ty ∷ ids → IfSome (meaning_in old seen.id) (λ m. all_found (meanings (nodes_of old)) (places_of all) ≡ Some (parts_in m)) → AllByRecursion (λ p. p < place_of seen.id) (places_of all)
    → (o : PlainOp) → Some (ApplicationLabel o) ≡ option_map label_in (meaning_in old seen.id)
    → (uss : List (List PlainTerm)) × (is_supported o ≡ true) × Related (HasBits i table) ids uss × (operator_circuit term_gates o uss ≡ blasted vs s.term)
application_has_bits old marks vs i table seen s has n all ids ty e parts below o l =
    let (ts, t, is, inner) = application_of o s.term (label_is old seen.id (ApplicationLabel o) s.term s.means l) in
    let found = subst (λ (xs : List NodeId). all_found (meanings (nodes_of old)) (places_of xs) ≡ Some (TypeMeaning (type_of s.term) ∷ term_parts s.term)) e (parts_are old seen.id all s.term s.means parts) in
    let rest = (split_found (meanings (nodes_of old)) (place_of ty) (places_of ids) (TypeMeaning (type_of s.term)) (term_parts s.term) found).1 ∙ ap Some inner in
    let earlier = (subst (λ (xs : List NodeId). AllByRecursion (λ p. p < place_of seen.id) (places_of xs)) e below).1 in (
      blasted_all vs ts,
      operator_taken o ts t (sym (ap term_refusal is) ∙ s.taken),
      arguments_have_bits old marks vs i table (place_of seen.id) has n ids ts rest earlier (s.parts o ts t is),
      sym (ap (blasted vs) is),
    )

pub call_of : (t : PlainTerm) → CallLabel ≡ term_label t → (f : PlainFunction) × (ts : PlainTerms) × (ty : PlainType) × (t ≡ Application (UufOp f) ts ty) × (term_parts t ≡ FunctionMeaning f ∷ map TermMeaning (list_of_terms ts))
call_of (Application (UufOp f) ts ty) h = (f, ts, ty, refl, refl)
call_of (Application p ts ty) h = absurd (cc)
call_of t h = absurd (cc)

is_leaf_label : PlainLabel → Bool
is_leaf_label (ApplicationLabel o) = false
is_leaf_label CallLabel = false
is_leaf_label (VariableLabel id) = false
is_leaf_label l = true

leaf_label : (l : Label) → ((o : Op) → l ≡ App o → ⊥) → (l ≡ Call → ⊥) → ((id : RcStr Global) → l ≡ Var id → ⊥) → is_leaf_label (plain_label l) ≡ true
unfolding is_leaf_label
leaf_label (App o) f g h = absurd (f o refl)
leaf_label Call f g h = absurd (g refl)
leaf_label (Var id) f g h = absurd (h id refl)
leaf_label l f g h = refl

leaf : (t : PlainTerm) → is_leaf_label (term_label t) ≡ true → type_refusal (type_of t) ≡ None → (l : PlainLiteral) × (t ≡ LiteralTerm l)
unfolding is_leaf_label
leaf (Application (UufOp f) ts ty) h k = absurd (false≢true h)
leaf (Application o ts ty) h k = absurd (false≢true h)
leaf (LiteralTerm l) h k = (l, refl)
leaf (VariableTerm id ty) h k = absurd (false≢true h)
leaf (NoneTerm t) h k = absurd (cc)
leaf (RecordTerm fs) h k = absurd (cc)
leaf (SetTerm t ts) h k = absurd (cc)
leaf (SomeTerm t) h k = absurd (cc)

pub other_is_literal : (l : Label) (t : PlainTerm) → plain_label l ≡ term_label t → ((o : Op) → l ≡ App o → ⊥) → (l ≡ Call → ⊥) → ((id : RcStr Global) → l ≡ Var id → ⊥) → type_refusal (type_of t) ≡ None → (k : PlainLiteral) × (t ≡ LiteralTerm k)
other_is_literal l t e f g h k = leaf t (sym (ap is_leaf_label e) ∙ leaf_label l f g h) k

-- a number that stands for something is one of the nodes
pub within : (old : Interner) (id : NodeId) (m : Meaning) → meaning_in old id ≡ Some m → place_of id < length (nodes_of old)
within old id m e = let k = found_within (meanings (nodes_of old)) (place_of id) m e in let n = as_many (nodes_of old) in omega (arith, k, n)

-- each of some earlier numbers is earlier
pub earlier_at : (before : ℕ) (ids : List NodeId) (i : ℕ) (d : NodeId) → AllByRecursion (λ p. p < before) (places_of ids) → i < length ids → place_of (get_or ids i d) < before
earlier_at before [] i d h k = absurd (omega arith)
earlier_at before (x ∷ ids) zero d h k = h.0
earlier_at before (x ∷ ids) (suc i) d h k = earlier_at before ids i d h.1 (omega arith)
