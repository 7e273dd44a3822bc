-- What the tests of typing decide, in the words of the plain form.
use Rattle.std.proofs.Common.{◌≡◌, ℕ, ◌+◌, ◌<◌, ◌≤◌, Bool, true, false, ◌&&◌, List, [], ◌∷◌, Option, Some, None, length, get_or, map, drop, refl, sym, ap, ◌∙◌, arith}
use Rattle.std.proofs.lemmas.List.{at_drop_more, at_drop_all}
use Rattle.std.specs.Prelude.{◌≢◌, IsTrue, is_some}
use Rattle.std.specs.Bool.{then_some}
use Rattle.std.proofs.lemmas.Bool.{and_from, false≢true}
use Rattle.law_terms.specs.Plain.{PlainType, BoolType, PlainOp, BitsOp, TestOp, OverflowOp, NotOp, PlainTerm, Application, SetTerm, terms}
use Rattle.law_terms.specs.Types.{is_type, result_type, type_eq, type_of, types_of}
use Rattle.law_terms.specs.TermOrder.{term_cmp}
use Rattle.law_terms.specs.Typing.{typed, typed_all}
use Rattle.law_terms.specs.ValueOrder.{ascends, is_below}
use Rattle.std.specs.Ordering.{is_lt}
use Rattle.std.specs.List.{list_all}
use Rattle.law_terms.proofs.Listed.{listed}
use Rattle.smt_term.specs.View.{plain_elements, plain_items, plain_op, plain_term, plain_term-App, plain_term-Set, plain_type}
use Rattle.smt_term.specs.declared.op.Op.{Op}
use Rattle.smt_term.specs.OpClass.{class_of}
use Rattle.smt_term.specs.declared.op.Op.TheVariants.{And, Eq, Or, SetInter, SetMember, SetSubset}
use Rattle.smt_term.specs.declared.op.OpClass.{OpClass}
use Rattle.smt_term.specs.declared.op.OpClass.TheVariants.{Bits, Test, Other}
use Rattle.smt_term.specs.declared.term.Term.{Term, App, Set}
use Rattle.smt_term.specs.declared.term.TermSet.{TermSet}
use Rattle.smt_term.specs.declared.term.TermList.{TermList}
use Rattle.smt_term.specs.declared.types.TermType.{TermType}

types_listed : (ts : List PlainTerm) → types_of (terms ts) ≡ map type_of ts
types_listed [] = refl
types_listed (t ∷ ts) = ap (λ us. type_of t ∷ us) (types_listed ts)

-- no operator takes four arguments and more
too_many : (o : PlainOp) (a b c d : PlainType) (ts : List PlainType) → result_type o (a ∷ b ∷ c ∷ d ∷ ts) ≡ None
too_many NotOp a b c d ts = refl
too_many o a b c d ts = refl

pub not_taken : (o : PlainOp) (ts : List Term) → 4 ≤ length ts → is_some (result_type o (map type_of (map plain_term ts))) ≡ false
not_taken o (a ∷ b ∷ c ∷ d ∷ ts) l = ap is_some (too_many o _ _ _ _ _)
not_taken o [] l = absurd (omega (arith, l))
not_taken o (a ∷ []) l = absurd (omega (arith, l))
not_taken o (a ∷ b ∷ []) l = absurd (omega (arith, l))
not_taken o (a ∷ b ∷ c ∷ []) l = absurd (omega (arith, l))

pub not_given : (o : Option PlainType) (t : PlainType) → is_some o ≡ false → is_type o t ≡ false
not_given None t h = refl
not_given (Some u) t h = cc

-- whether all terms are typed, by one and the others
abbrev pub typed_list : List Term → Bool
typed_list ts = typed_all (terms (map plain_term ts))

pub typed_more : (ts : List Term) (i : ℕ) (t : Term) → i < length ts → t ≡ get_or ts i t → typed_list (drop i ts) ≡ (typed (plain_term t) && typed_list (drop (i + 1) ts))
typed_more ts i t l e = at_drop_more typed_list ts i t l ∙ ap (λ u. typed (plain_term u) && typed_list (drop (i + 1) ts)) (sym e)

pub typed_none : (ts : List Term) (i : ℕ) → length ts ≤ i → typed_list (drop i ts) ≡ true
typed_none ts i l = at_drop_all typed_list ts i l

-- an application is typed where its arguments are and its operator gives its type to them
pub application_typed : (t : Term) (op : Op) (args : TermList) (ty : TermType) (items : List Term) → t ≡ App op args ty → map plain_term items ≡ plain_items args
    → typed (plain_term t) ≡ (typed_list items && is_type (result_type (plain_op op) (map type_of (map plain_term items))) (plain_type ty))
application_typed t op args ty items is same =
    ap (λ u. typed (plain_term u)) is ∙ ap typed (plain_term-App op args ty) ∙ ap (λ ts. typed (Application (plain_op op) (terms ts) (plain_type ty))) (sym same)
    ∙ ap (λ ts. typed_list items && is_type (result_type (plain_op op) (map type_of ts)) (plain_type ty)) (listed (map plain_term items))

-- what an operator that gives a type only where a test holds gives
then_given : (b : Bool) (r ty : PlainType) → IsTrue (is_some (then_some b r)) → type_eq r ty ≡ is_type (then_some b r) ty
then_given true r ty h = refl
then_given false r ty h = absurd (false≢true h)

-- tests of a class, by which what is of another is refused
abbrev is_bits_class : OpClass → Bool
is_bits_class Bits = true
is_bits_class c = false

abbrev is_test_class : OpClass → Bool
is_test_class Test = true
is_test_class c = false

abbrev is_other_class : OpClass → Bool
is_other_class Other = true
is_other_class c = false

-- of two bitvectors an operator gives the type of the first, or a truth value
pub bits_given : (o : PlainOp) (t u ty : PlainType) → class_of o ≡ Bits → IsTrue (is_some (result_type o (t ∷ u ∷ []))) → type_eq t ty ≡ is_type (result_type o (t ∷ u ∷ [])) ty
bits_given (BitsOp o) t u ty c h = then_given _ t ty h
bits_given o t u ty c h = absurd (false≢true (ap is_bits_class c))

pub test_given : (o : PlainOp) (t u ty : PlainType) → class_of o ≡ Test → IsTrue (is_some (result_type o (t ∷ u ∷ []))) → type_eq BoolType ty ≡ is_type (result_type o (t ∷ u ∷ [])) ty
test_given (TestOp o) t u ty c h = then_given _ BoolType ty h
test_given (OverflowOp o) t u ty c h = then_given _ BoolType ty h
test_given o t u ty c h = absurd (false≢true (ap is_test_class c))

-- any other gives a truth value of two arguments, where it takes them, but for the intersection
pub truth_given : (o : Op) (t u ty : PlainType) → class_of (plain_op o) ≡ Other → o ≢ SetInter → IsTrue (is_some (result_type (plain_op o) (t ∷ u ∷ []))) → type_eq BoolType ty ≡ is_type (result_type (plain_op o) (t ∷ u ∷ [])) ty
truth_given And t u ty c n h = then_given _ BoolType ty h
truth_given Or t u ty c n h = then_given _ BoolType ty h
truth_given Eq t u ty c n h = then_given _ BoolType ty h
truth_given SetInter t u ty c n h = absurd (n refl)
truth_given SetMember t u ty c n h = then_given _ BoolType ty h
truth_given SetSubset t u ty c n h = then_given _ BoolType ty h
truth_given o t u ty c n h = absurd (false≢true (and_from _ _ (ap is_other_class c) h))

-- each term is of the type
abbrev pub are_all : TermType → List Term → Bool
are_all element items = list_all (type_eq (plain_type element)) (map type_of (map plain_term items))

-- a set is typed where its elements are, are of its type, and ascend
pub set_typed : (t : Term) (element : TermType) (elements : TermSet) (items : List Term) → t ≡ Set element elements → map plain_term items ≡ plain_elements elements
    → typed (plain_term t) ≡ (typed_list items && (are_all element items && ascends term_cmp (map plain_term items)))
set_typed t element elements items is same =
    ap (λ u. typed (plain_term u)) is ∙ ap typed (plain_term-Set element elements) ∙ ap (λ ts. typed (SetTerm (plain_type element) (terms ts))) (sym same)
    ∙ ap (λ ts. typed_list items && (list_all (type_eq (plain_type element)) (types_of (terms (map plain_term items))) && ascends term_cmp ts)) (listed (map plain_term items))
    ∙ ap (λ ts. typed_list items && (list_all (type_eq (plain_type element)) ts && ascends term_cmp (map plain_term items))) (types_listed (map plain_term items))

-- a term is below the first of a list
pub below_first : (t : Term) (ts : List Term) (x : Term) → 1 ≤ length ts → x ≡ get_or ts 0 x → is_lt (term_cmp (plain_term t) (plain_term x)) ≡ is_below term_cmp (plain_term t) (map plain_term ts)
below_first t [] x l e = absurd (omega (arith, l))
below_first t (y ∷ ys) x l e = ap (λ u. is_lt (term_cmp (plain_term t) (plain_term u))) e
