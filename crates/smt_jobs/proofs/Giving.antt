-- The types that operators give.
use Rattle.std.proofs.Common.{◌≡◌, Bool, true, false, not, [], ◌∷◌, Option, Some, nat_eq, refl, sym, ap, ◌∙◌, subst}
use Rattle.std.specs.Bool.{then_some}
use Rattle.std.specs.Cmp.{unsigned_Decides}
use Rattle.std.specs.Prelude.{◌&&◌, IfSome, IsTrue}
use Rattle.std.proofs.lemmas.Bool.{false≢true}
use Rattle.law_terms.specs.Fits.{applies_no_function}
use Rattle.law_terms.specs.Meanings.{meaning_at}
use Rattle.law_terms.specs.Nodes.{ApplicationLabel, TypeMeaning}
use Rattle.law_terms.specs.Plain.{PlainType, BoolType, PlainOp, AndOp, BvnegOp, BvnegoOp, EqOp, IteOp, OrOp, BitsOp, OverflowOp, TestOp}
use Rattle.law_terms.specs.Types.{is_bits, result_type, type_eq}
use Rattle.law_terms.proofs.TermTotal.{types_decided}
use Rattle.smt_nodes.specs.Interned.{meaning_in, nodes_of}
use Rattle.smt_nodes.specs.View.{place_of}
use Rattle.smt_nodes.specs.declared.id.NodeId.{NodeId}
use Rattle.smt_nodes.specs.declared.interner.Interner.{Interner}
use Rattle.smt_jobs.specs.Labels.{is_bits_operator, is_bits_test, is_choice, is_connective, is_equality}

pub type_same : (x y : PlainType) → Some (TypeMeaning x) ≡ Some (TypeMeaning y) → x ≡ y
type_same x y h = cc

equal : (x y : PlainType) → x ≡ y → type_eq x y ≡ true
equal x y e = (types_decided x y).1 e

both : (a b : Bool) → a ≡ true → b ≡ true → (a && b) ≡ true
both a b h k = ap (λ x. x && b) h ∙ k

chosen : {A : Type 0} (b : Bool) (x : A) → b ≡ true → then_some b x ≡ Some x
chosen b x h = ap (λ c. then_some c x) h

pub connective_given : (o : PlainOp) → is_connective o ≡ true → (x y : PlainType) → x ≡ BoolType → x ≡ y → result_type o (x ∷ y ∷ []) ≡ Some BoolType
connective_given AndOp k x y e f = chosen _ BoolType (both _ _ (equal x BoolType e) (equal y BoolType (sym f ∙ e)))
connective_given OrOp k x y e f = chosen _ BoolType (both _ _ (equal x BoolType e) (equal y BoolType (sym f ∙ e)))
connective_given o k x y e f = absurd (false≢true k)

pub equality_given : (o : PlainOp) → is_equality o ≡ true → (x y : PlainType) → x ≡ y → result_type o (x ∷ y ∷ []) ≡ Some BoolType
equality_given EqOp k x y f = chosen _ BoolType (equal x y f)
equality_given o k x y f = absurd (false≢true k)

pub bits_given : (o : PlainOp) → is_bits_operator o ≡ true → (x y : PlainType) → is_bits x ≡ true → x ≡ y → result_type o (x ∷ y ∷ []) ≡ Some x
bits_given (BitsOp o) k x y h f = chosen _ x (both _ _ h (equal x y f))
bits_given o k x y h f = absurd (false≢true k)

pub test_given : (o : PlainOp) → is_bits_test o ≡ true → (x y : PlainType) → is_bits x ≡ true → x ≡ y → result_type o (x ∷ y ∷ []) ≡ Some BoolType
test_given (TestOp o) k x y h f = chosen _ BoolType (both _ _ h (equal x y f))
test_given (OverflowOp o) k x y h f = chosen _ BoolType (both _ _ h (equal x y f))
test_given o k x y h f = absurd (false≢true k)

pub choice_given : (o : PlainOp) → is_choice o ≡ true → (g x y : PlainType) → g ≡ BoolType → x ≡ y → result_type o (g ∷ x ∷ y ∷ []) ≡ Some x
choice_given IteOp k g x y e f = chosen _ x (both _ _ (equal g BoolType e) (equal x y f))
choice_given o k g x y e f = absurd (false≢true k)

pub bvneg_given : (x : PlainType) → is_bits x ≡ true → result_type BvnegOp (x ∷ []) ≡ Some x
bvneg_given x h = chosen _ x h

pub bvnego_given : (x : PlainType) → is_bits x ≡ true → result_type BvnegoOp (x ∷ []) ≡ Some BoolType
bvnego_given x h = chosen _ BoolType h

-- what is given where a test holds
pub some_given : {A : Type 0} (b : Bool) (x : A) (P : A → Type 0) (r : Option A) → r ≡ then_some b x → (b ≡ true → P x) → IfSome r P
some_given true x P r e f = subst (λ (o : Option _). IfSome o P) (sym e) (f refl)
some_given false x P r e f = subst (λ (o : Option _). IfSome o P) (sym e) tt

-- one number stands for one type
pub types_same : (i : Interner) (a b : NodeId) (x y : PlainType) → nat_eq (place_of a) (place_of b) ≡ true → meaning_in i a ≡ Some (TypeMeaning x) → meaning_in i b ≡ Some (TypeMeaning y) → x ≡ y
types_same i a b x y same h k = type_same x y (sym h ∙ ap (meaning_at (nodes_of i)) ((unsigned_Decides (place_of a) (place_of b)).0 same) ∙ k)

not_not : (b : Bool) → false ≡ not b → b ≡ true
not_not true h = refl
not_not false h = absurd (false≢true h)

pub types_not_apart : (i : Interner) (a b : NodeId) (x y : PlainType) → false ≡ not (nat_eq (place_of a) (place_of b)) → meaning_in i a ≡ Some (TypeMeaning x) → meaning_in i b ≡ Some (TypeMeaning y) → x ≡ y
types_not_apart i a b x y same h k = types_same i a b x y (not_not (nat_eq (place_of a) (place_of b)) same) h k

-- ---- operators that are no functions

abbrev NoFunction : PlainOp → Type 0
NoFunction o = IsTrue (applies_no_function (ApplicationLabel o))

pub connective_no_function : (o : PlainOp) → is_connective o ≡ true → NoFunction o
connective_no_function AndOp k = refl
connective_no_function OrOp k = refl
connective_no_function o k = absurd (false≢true k)

pub equality_no_function : (o : PlainOp) → is_equality o ≡ true → NoFunction o
equality_no_function EqOp k = refl
equality_no_function o k = absurd (false≢true k)

pub bits_no_function : (o : PlainOp) → is_bits_operator o ≡ true → NoFunction o
bits_no_function (BitsOp o) k = refl
bits_no_function o k = absurd (false≢true k)

pub test_no_function : (o : PlainOp) → is_bits_test o ≡ true → NoFunction o
test_no_function (TestOp o) k = refl
test_no_function (OverflowOp o) k = refl
test_no_function o k = absurd (false≢true k)

pub choice_no_function : (o : PlainOp) → is_choice o ≡ true → NoFunction o
choice_no_function IteOp k = refl
choice_no_function o k = absurd (false≢true k)
