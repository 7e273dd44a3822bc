-- Laws of the program's terms, and of what terms are made of: what their code keeps, said of their plain form.
use Rattle.std.specs.Prelude.{◌≡◌, ◌↔◌, IsTrue}
use Rattle.std.specs.Cmp.Lexicographic.{slice_cmp}
use Rattle.law_terms.specs.Formed.{IsFormed}
use Rattle.law_terms.specs.TermOrder.{function_cmp, op_cmp, literal_cmp, term_cmp}
use Rattle.law_terms.specs.ValueOrder.{text_cmp}
use Rattle.smt_term.specs.Ordered.{AreOrdered, pair_cmp}
use Rattle.smt_term.specs.contracts.maps.TermMapOrd.TheImpl as map_order
use Rattle.smt_term.specs.contracts.maps.TermMapPartialEq.TheImpl as map_equality
use Rattle.smt_term.specs.View.{plain_elements, plain_fields, plain_function, plain_items, plain_literal, plain_op, plain_term}
use Rattle.smt_term.specs.View.{plain_variable}
use Rattle.smt_term.specs.contracts.function.UufOrd.TheImpl as function_order
use Rattle.smt_term.specs.contracts.function.UufPartialEq.TheImpl as function_equality
use Rattle.smt_term.specs.contracts.op.OpOrd.TheImpl as op_order
use Rattle.smt_term.specs.contracts.op.OpPartialEq.TheImpl as op_equality
use Rattle.smt_term.specs.contracts.term.TermOrd.TheImpl as term_order
use Rattle.smt_term.specs.contracts.term.TermPartialEq.TheImpl as term_equality
use Rattle.smt_term.specs.contracts.term.TermPrimOrd.TheImpl as literal_order
use Rattle.smt_term.specs.contracts.term.TermPrimPartialEq.TheImpl as literal_equality
use Rattle.smt_term.specs.contracts.term.TermVarOrd.TheImpl as variable_order
use Rattle.smt_term.specs.contracts.term.TermVarPartialEq.TheImpl as variable_equality
use Rattle.smt_term.specs.contracts.term.TermListOrd.TheImpl as list_order
use Rattle.smt_term.specs.contracts.term.TermListPartialEq.TheImpl as list_equality
use Rattle.smt_term.specs.contracts.term.TermSetOrd.TheImpl as set_order
use Rattle.smt_term.specs.contracts.term.TermSetPartialEq.TheImpl as set_equality
use Rattle.smt_term.specs.declared.function.Uuf.{Uuf}
use Rattle.smt_term.specs.declared.op.Op.{Op}
use Rattle.smt_term.specs.declared.term.Term.{Term}
use Rattle.smt_term.specs.declared.term.TermList.{TermList}
use Rattle.smt_term.specs.declared.term.TermPrim.{TermPrim}
use Rattle.smt_term.specs.declared.term.TermSet.{TermSet}
use Rattle.smt_term.specs.declared.term.TermVar.{TermVar}
pub use Rattle.smt_term.specs.ProgramTypes.{EqualTypesSayTheSame, TypesCompareAsPlain}

-- every term is formed
abbrev pub TermsAreFormed : Type 0
TermsAreFormed = (t : Term) → IsFormed (plain_term t)

-- terms compare as what they say
abbrev pub TermsCompareAsPlain : Type 0
TermsCompareAsPlain = (s t : Term) → term_order.ghosts.cmp s t ≡ term_cmp (plain_term s) (plain_term t)

-- uninterpreted functions compare as what they say
abbrev pub FunctionsCompareAsPlain : Type 0
FunctionsCompareAsPlain = (f g : Uuf) → function_order.ghosts.cmp f g ≡ function_cmp (plain_function f) (plain_function g)

-- operators compare as what they say
abbrev pub OperatorsCompareAsPlain : Type 0
OperatorsCompareAsPlain = (o p : Op) → op_order.ghosts.cmp o p ≡ op_cmp (plain_op o) (plain_op p)

-- literals compare as what they say
abbrev pub LiteralsCompareAsPlain : Type 0
LiteralsCompareAsPlain = (l m : TermPrim) → literal_order.ghosts.cmp l m ≡ literal_cmp (plain_literal l) (plain_literal m)

-- variables compare as what they say
abbrev pub VariablesCompareAsPlain : Type 0
VariablesCompareAsPlain = (v w : TermVar) → variable_order.ghosts.cmp v w ≡ term_cmp (plain_variable v) (plain_variable w)

-- lists of terms compare as lists of what their terms say, by the first difference
abbrev pub ListsCompareAsPlain : Type 0
ListsCompareAsPlain = (ts us : TermList) → list_order.ghosts.cmp ts us ≡ slice_cmp term_cmp (plain_items ts) (plain_items us)

-- sets of terms compare as lists of what their elements say, by the first difference
abbrev pub SetsCompareAsPlain : Type 0
SetsCompareAsPlain = (ts us : TermSet) → set_order.ghosts.cmp ts us ≡ slice_cmp term_cmp (plain_elements ts) (plain_elements us)

-- two terms are equal exactly where they say the same
abbrev pub EqualTermsSayTheSame : Type 0
EqualTermsSayTheSame = (s t : Term) → IsTrue (term_equality.ghosts.eq s t) ↔ (plain_term s ≡ plain_term t)

-- two uninterpreted functions are equal exactly where they say the same
abbrev pub EqualFunctionsSayTheSame : Type 0
EqualFunctionsSayTheSame = (f g : Uuf) → IsTrue (function_equality.ghosts.eq f g) ↔ (plain_function f ≡ plain_function g)

-- two operators are equal exactly where they say the same
abbrev pub EqualOperatorsSayTheSame : Type 0
EqualOperatorsSayTheSame = (o p : Op) → IsTrue (op_equality.ghosts.eq o p) ↔ (plain_op o ≡ plain_op p)

-- two literals are equal exactly where they say the same
abbrev pub EqualLiteralsSayTheSame : Type 0
EqualLiteralsSayTheSame = (l m : TermPrim) → IsTrue (literal_equality.ghosts.eq l m) ↔ (plain_literal l ≡ plain_literal m)

-- two variables are equal exactly where they say the same
abbrev pub EqualVariablesSayTheSame : Type 0
EqualVariablesSayTheSame = (v w : TermVar) → IsTrue (variable_equality.ghosts.eq v w) ↔ (plain_variable v ≡ plain_variable w)

-- two lists of terms are equal exactly where their terms say the same, in order
abbrev pub EqualListsSayTheSame : Type 0
EqualListsSayTheSame = (ts us : TermList) → IsTrue (list_equality.ghosts.eq ts us) ↔ (plain_items ts ≡ plain_items us)

-- two sets of terms are equal exactly where their elements say the same, in order
abbrev pub EqualSetsSayTheSame : Type 0
EqualSetsSayTheSame = (ts us : TermSet) → IsTrue (set_equality.ghosts.eq ts us) ↔ (plain_elements ts ≡ plain_elements us)

-- maps are ordered as lists of their attributes and terms, by the first difference, and are equal where they have the same
abbrev pub TermMapsAreOrdered : Type 0
TermMapsAreOrdered = AreOrdered map_order.ghosts.cmp map_equality.ghosts.eq plain_fields (slice_cmp (pair_cmp text_cmp term_cmp))
