-- Operators at plain terms, which are applied without the factory.
use Rattle.std.proofs.Common.{◌≡◌, Bool, true, false, not, List, [], ◌∷◌, Option, Some, is_some, nat_eq, refl, sym, ap, ◌∙◌, subst}
use Rattle.std.specs.Bool.{then_some}
use Rattle.std.specs.Cmp.{unsigned_Decides}
use Rattle.std.specs.List.{list_all, list_any}
use Rattle.std.specs.Prelude.{◌&&◌, ◌||◌, IfNone}
use Rattle.std.proofs.lemmas.Bool.{and_parts, false≢true}
use Rattle.law_terms.specs.Meanings.{meaning_at}
use Rattle.law_terms.specs.Nodes.{TermMeaning, TypeMeaning}
use Rattle.law_terms.specs.Plain.{PlainOp, AndOp, EqOp, IteOp, OrOp, BitsOp, OverflowOp, TestOp, PlainTerm, Application, VariableTerm, PlainType, BoolType}
use Rattle.law_terms.specs.TermOrder.{term_eq}
use Rattle.law_terms.specs.Types.{is_bits, result_type, type_eq, type_of}
use Rattle.law_terms.proofs.Distinct.{places_differ}
use Rattle.law_terms.proofs.TermTotal.{terms_decided, types_decided}
use Rattle.smt_jobs.specs.Applied.{all_differ, is_plainly_applied, takes}
use Rattle.smt_jobs.specs.Labels.{is_binary, is_bits_negation, is_choice, is_connective, is_negation, is_open, is_plain, is_truth, is_unary}
use Rattle.smt_jobs.proofs.Looking.{false_by}
use Rattle.smt_nodes.specs.Interned.{meaning_in, nodes_of}
use Rattle.smt_nodes.specs.View.{place_of}
use Rattle.smt_nodes.specs.declared.id.NodeId.{NodeId}
use Rattle.smt_nodes.specs.declared.interner.Interner.{Interner}

-- ---- plain terms

pub plain_open : (t : PlainTerm) → is_plain t ≡ true → is_open t ≡ true
plain_open t h = (and_parts (is_open t) (not (is_negation t || is_bits_negation t)) h).0

pub plain_no_truth : (t : PlainTerm) → is_plain t ≡ true → is_truth t ≡ false
plain_no_truth (Application o ts ty) h = refl
plain_no_truth (VariableTerm id ty) h = refl
plain_no_truth t h = absurd (false≢true h)

pub one_open : (t u : PlainTerm) → is_plain t ≡ true → (is_open t || is_open u) ≡ true
one_open t u h = ap (λ b. b || is_open u) (plain_open t h)

same_term : (t u : PlainTerm) → Some (TermMeaning t) ≡ Some (TermMeaning u) → t ≡ u
same_term t u h = cc

-- one number stands for one term
pub terms_same : (i : Interner) (a b : NodeId) (t u : PlainTerm) → nat_eq (place_of a) (place_of b) ≡ true → meaning_in i a ≡ Some (TermMeaning t) → meaning_in i b ≡ Some (TermMeaning u) → term_eq t u ≡ true
terms_same i a b t u same h k = (terms_decided t u).1 (same_term t u (sym h ∙ ap (meaning_at (nodes_of i)) ((unsigned_Decides (place_of a) (place_of b)).0 same) ∙ k))

-- ---- types that an operator does not take

-- numbers that are not the same stand for different types
pub types_differ : (i : Interner) (a b : NodeId) (x y : PlainType) → nat_eq (place_of a) (place_of b) ≡ false → meaning_in i a ≡ Some (TypeMeaning x) → meaning_in i b ≡ Some (TypeMeaning y) → type_eq x y ≡ false
types_differ i a b x y apart h k = false_by (type_eq x y) (λ e. (
    let same : place_of a ≡ place_of b = places_differ (nodes_of i) i.graph (place_of a) (place_of b) (TypeMeaning x) h (k ∙ ap (λ v. Some (TypeMeaning v)) (sym ((types_decided x y).0 e))) in
    false≢true (sym apart ∙ (unsigned_Decides (place_of a) (place_of b)).1 same)
    ))

-- what holds where a test fails
pub none_given : {A : Type 0} (b : Bool) (x : A) (P : Type 0) (r : Option A) → r ≡ then_some b x → (b ≡ false → P) → IfNone r P
none_given true x P r e f = subst (λ (o : Option _). IfNone o P) (sym e) tt
none_given false x P r e f = subst (λ (o : Option _). IfNone o P) (sym e) (f refl)

pub untaken : {A : Type 0} (listed b : Bool) (x : A) → b ≡ false → (listed && is_some (then_some b x)) ≡ false
untaken true b x h = ap (λ c. is_some (then_some c x)) h
untaken false b x h = refl

both_bool : (x y : PlainType) → type_eq x y ≡ false → (type_eq x BoolType && type_eq y BoolType) ≡ false
both_bool x y h = false_by (type_eq x BoolType && type_eq y BoolType) (λ e. (
    let p = and_parts (type_eq x BoolType) (type_eq y BoolType) e in
    false≢true (sym h ∙ (types_decided x y).1 ((types_decided x BoolType).0 p.0 ∙ sym ((types_decided y BoolType).0 p.1)))
    ))

second_fails : (a b : Bool) → b ≡ false → (a && b) ≡ false
second_fails true b h = h
second_fails false b h = refl

-- two terms of different types
pub unequal_types : (o : PlainOp) (t u : PlainTerm) → type_eq (type_of t) (type_of u) ≡ false → takes o (t ∷ u ∷ []) ≡ false
unequal_types AndOp t u h = untaken true _ BoolType (both_bool (type_of t) (type_of u) h)
unequal_types OrOp t u h = untaken true _ BoolType (both_bool (type_of t) (type_of u) h)
unequal_types EqOp t u h = untaken true _ BoolType h
unequal_types (BitsOp o) t u h = untaken true _ (type_of t) (second_fails (is_bits (type_of t)) _ h)
unequal_types (TestOp o) t u h = untaken true _ BoolType (second_fails (is_bits (type_of t)) _ h)
unequal_types (OverflowOp o) t u h = untaken true _ BoolType (second_fails (is_bits (type_of t)) _ h)
unequal_types o t u h = refl

pub connective_untaken : (o : PlainOp) → is_connective o ≡ true → (t u : PlainTerm) → type_eq (type_of t) BoolType ≡ false → takes o (t ∷ u ∷ []) ≡ false
connective_untaken AndOp k t u h = untaken true _ BoolType (ap (λ b. b && type_eq (type_of u) BoolType) h)
connective_untaken OrOp k t u h = untaken true _ BoolType (ap (λ b. b && type_eq (type_of u) BoolType) h)
connective_untaken o k t u h = absurd (false≢true k)

-- a choice by what is no truth value, or between terms of different types
pub choice_untaken : (o : PlainOp) (g t u : PlainTerm) → (type_eq (type_of g) BoolType && type_eq (type_of t) (type_of u)) ≡ false → takes o (g ∷ t ∷ u ∷ []) ≡ false
choice_untaken IteOp g t u h = untaken true _ (type_of t) h
choice_untaken o g t u h = refl

pub no_choice : (o : PlainOp) (g t u : PlainTerm) → is_choice o ≡ false → takes o (g ∷ t ∷ u ∷ []) ≡ false
no_choice o g t u h = ap (λ b. b && is_some (result_type o (type_of g ∷ type_of t ∷ type_of u ∷ []))) h

pub first_differs : (x y z : PlainType) → type_eq x BoolType ≡ false → (type_eq x BoolType && type_eq y z) ≡ false
first_differs x y z h = ap (λ b. b && type_eq y z) h

pub others_differ : (x y z : PlainType) → type_eq y z ≡ false → (type_eq x BoolType && type_eq y z) ≡ false
others_differ x y z h = second_fails (type_eq x BoolType) (type_eq y z) h

-- ---- operators that are not applied

pub untaken_is_left : (o : PlainOp) (ts : List PlainTerm) → takes o ts ≡ false → is_plainly_applied o ts ≡ false
untaken_is_left o ts h = ap (λ b. b && (list_all is_plain ts && all_differ ts)) h

pub left_at_one : (o : PlainOp) (t : PlainTerm) → (is_unary o ≡ true → is_plain t ≡ true → ⊥) → is_plainly_applied o (t ∷ []) ≡ false
left_at_one o t none = false_by (is_plainly_applied o (t ∷ [])) (λ h. (
    let p = and_parts (takes o (t ∷ [])) _ h in
    let q = and_parts (list_all is_plain (t ∷ [])) _ p.1 in
    none (and_parts (is_unary o) _ p.0).0 (and_parts (is_plain t) true q.0).0
    ))

differ : (a : Bool) → not (a || false) ≡ true → a ≡ false
differ true h = absurd (false≢true h)
differ false h = refl

pub left_at_two : (o : PlainOp) (t u : PlainTerm) → (is_binary o ≡ true → is_plain t ≡ true → is_plain u ≡ true → term_eq t u ≡ false → ⊥) → is_plainly_applied o (t ∷ u ∷ []) ≡ false
left_at_two o t u none = false_by (is_plainly_applied o (t ∷ u ∷ [])) (λ h. (
    let p = and_parts (takes o (t ∷ u ∷ [])) _ h in
    let q = and_parts (list_all is_plain (t ∷ u ∷ [])) _ p.1 in
    let first = and_parts (is_plain t) _ q.0 in
    none (and_parts (is_binary o) _ p.0).0 first.0 (and_parts (is_plain u) true first.1).0 (differ (term_eq t u) (and_parts (not (list_any (term_eq t) (u ∷ []))) _ q.1).0)
    ))

pub left_at_three : (o : PlainOp) (g t u : PlainTerm) → (is_choice o ≡ true → is_plain g ≡ true → is_plain t ≡ true → is_plain u ≡ true → term_eq t u ≡ false → ⊥) → is_plainly_applied o (g ∷ t ∷ u ∷ []) ≡ false
left_at_three o g t u none = false_by (is_plainly_applied o (g ∷ t ∷ u ∷ [])) (λ h. (
    let p = and_parts (takes o (g ∷ t ∷ u ∷ [])) _ h in
    let q = and_parts (list_all is_plain (g ∷ t ∷ u ∷ [])) _ p.1 in
    let first = and_parts (is_plain g) _ q.0 in
    let second = and_parts (is_plain t) _ first.1 in
    let others = (and_parts (not (list_any (term_eq g) (t ∷ u ∷ []))) _ q.1).1 in
    none (and_parts (is_choice o) _ p.0).0 first.0 second.0 (and_parts (is_plain u) true second.1).0 (differ (term_eq t u) (and_parts (not (list_any (term_eq t) (u ∷ []))) _ others).0)
    ))
