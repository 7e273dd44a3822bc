-- Derived `==` of terms, and of what they are made of, holds exactly where they say the same.
use Rattle.std.proofs.Common.{◌≡◌, Bool, true, ap, ◌∙◌, sym}
use Rattle.std.specs.Cmp.{Equal-is, IsTotalOrder}
use Rattle.std.specs.Cmp.Lexicographic.{slice_cmp}
use Rattle.std.specs.FinMap.{slice_cmp-IsAntisymmetric}
use Rattle.std.specs.Ordering.{is_eq}
use Rattle.std.specs.declared.cmp.Ordering.{Ordering}
use Rattle.std.specs.declared.cmp.Ordering.TheVariants.{Equal}
use Rattle.std.proofs.lemmas.Cmp.{tied_itself}
use Rattle.smt_term.specs.Program.{EqualFunctionsSayTheSame, EqualListsSayTheSame, EqualLiteralsSayTheSame, EqualOperatorsSayTheSame, EqualSetsSayTheSame, EqualVariablesSayTheSame}
use Rattle.law_terms.specs.TermOrder.{function_cmp, op_cmp, literal_cmp, term_cmp}
use Rattle.smt_term.specs.View.{plain_elements, plain_function, plain_items, plain_literal, plain_op, plain_term, plain_variable}
use Rattle.smt_term.specs.declared.term.Term.{Term}
use Rattle.smt_term.specs.contracts.function.UufOrd.TheImpl as function_order
use Rattle.smt_term.specs.contracts.function.UufPartialEq.TheImpl as function_equality
use Rattle.smt_term.specs.contracts.op.OpOrd.TheImpl as op_order
use Rattle.smt_term.specs.contracts.op.OpPartialEq.TheImpl as op_equality
use Rattle.smt_term.specs.contracts.term.TermPrimOrd.TheImpl as literal_order
use Rattle.smt_term.specs.contracts.term.TermPrimPartialEq.TheImpl as literal_equality
use Rattle.smt_term.specs.contracts.term.TermVarOrd.TheImpl as variable_order
use Rattle.smt_term.specs.contracts.term.TermVarPartialEq.TheImpl as variable_equality
use Rattle.smt_term.specs.contracts.term.TermListOrd.TheImpl as list_order
use Rattle.smt_term.specs.contracts.term.TermListPartialEq.TheImpl as list_equality
use Rattle.smt_term.specs.contracts.term.TermSetOrd.TheImpl as set_order
use Rattle.smt_term.specs.contracts.term.TermSetPartialEq.TheImpl as set_equality
use Rattle.smt_term.specs.contracts.term.TermPartialEq.TheImpl as term_eq
use Rattle.smt_term.specs.contracts.function.UufOrd.TheImpl.Laws as function_laws
use Rattle.smt_term.specs.contracts.op.OpOrd.TheImpl.Laws as op_laws
use Rattle.smt_term.specs.contracts.term.TermPrimOrd.TheImpl.Laws as literal_laws
use Rattle.smt_term.specs.contracts.term.TermVarOrd.TheImpl.Laws as variable_laws
use Rattle.smt_term.specs.contracts.term.TermListOrd.TheImpl.Laws as list_laws
use Rattle.smt_term.specs.contracts.term.TermSetOrd.TheImpl.Laws as set_laws
use Rattle.smt_term.specs.contracts.term.TermOrd.TheImpl.Laws as term_laws
use Rattle.smt_term.proofs.DerivedOrder.{derived_term_cmp, function_cmp-is, list_cmp-is, literal_cmp-is, op_cmp-is, set_cmp-is, term_cmp-is, variable_cmp-is}
use Rattle.law_terms.proofs.SameTerm.{function_same, literal_same, op_same, term_same}

-- the order holds a term of the program equal to itself
pub term_itself : (a : Term) → term_cmp (plain_term a) (plain_term a) ≡ Equal
term_itself a = sym (term_cmp-is a a) ∙ tied_itself term_laws.total-law a

pub same_from_eq : (a b : Term) → term_eq.ghosts.eq a b ≡ true → plain_term a ≡ plain_term b
same_from_eq a b h =
    term_same (plain_term a) (plain_term b) (sym (term_cmp-is a b) ∙ (Equal-is (derived_term_cmp a b)).0 (sym (term_laws.matches_eq-law a b) ∙ h))

pub eq_from_same : (a b : Term) → plain_term a ≡ plain_term b → term_eq.ghosts.eq a b ≡ true
eq_from_same a b h =
    term_laws.matches_eq-law a b ∙ ap is_eq (term_cmp-is a b ∙ (ap (λ t. term_cmp (plain_term a) t) (sym h) ∙ term_itself a))

-- the derived test is the test on what they say
pub eq-is : (a b : Term) → term_eq.ghosts.eq a b ≡ is_eq (term_cmp (plain_term a) (plain_term b))
eq-is a b = term_laws.matches_eq-law a b ∙ ap is_eq (term_cmp-is a b)

-- where a derived order is the order of what is said, which holds only what is equal equal, derived `==` holds exactly
-- where both say the same
module _ {X P : Type 0} (eq : X → X → Bool) (cmp : X → X → Ordering) (plain : X → P) (plain_cmp : P → P → Ordering) (total : IsTotalOrder cmp) (matches : (a b : X) → eq a b ≡ is_eq (cmp a b)) (cmp-is : (a b : X) → cmp a b ≡ plain_cmp (plain a) (plain b)) (same : (p q : P) → plain_cmp p q ≡ Equal → p ≡ q) where
  -- the order of what is said holds it equal to itself
  itself : (a : X) → plain_cmp (plain a) (plain a) ≡ Equal
  itself a = sym (cmp-is a a) ∙ tied_itself total a

  from_eq : (a b : X) → eq a b ≡ true → plain a ≡ plain b
  from_eq a b h = same (plain a) (plain b) (sym (cmp-is a b) ∙ (Equal-is (cmp a b)).0 (sym (matches a b) ∙ h))

  to_eq : (a b : X) → plain a ≡ plain b → eq a b ≡ true
  to_eq a b h = matches a b ∙ ap is_eq (cmp-is a b ∙ (ap (λ p. plain_cmp (plain a) p) (sym h) ∙ itself a))

  say_the_same : (a b : X) → (eq a b ≡ true → plain a ≡ plain b) × (plain a ≡ plain b → eq a b ≡ true)
  say_the_same a b = (from_eq a b, to_eq a b)

pub equal_functions : EqualFunctionsSayTheSame
equal_functions = say_the_same function_equality.ghosts.eq function_order.ghosts.cmp plain_function function_cmp function_laws.total-law function_laws.matches_eq-law function_cmp-is function_same

pub equal_operators : EqualOperatorsSayTheSame
equal_operators = say_the_same op_equality.ghosts.eq op_order.ghosts.cmp plain_op op_cmp op_laws.total-law op_laws.matches_eq-law op_cmp-is op_same

pub equal_literals : EqualLiteralsSayTheSame
equal_literals = say_the_same literal_equality.ghosts.eq literal_order.ghosts.cmp plain_literal literal_cmp literal_laws.total-law literal_laws.matches_eq-law literal_cmp-is literal_same

pub equal_variables : EqualVariablesSayTheSame
equal_variables = say_the_same variable_equality.ghosts.eq variable_order.ghosts.cmp plain_variable term_cmp variable_laws.total-law variable_laws.matches_eq-law variable_cmp-is term_same

pub equal_lists : EqualListsSayTheSame
equal_lists = say_the_same list_equality.ghosts.eq list_order.ghosts.cmp plain_items (slice_cmp term_cmp) list_laws.total-law list_laws.matches_eq-law list_cmp-is (slice_cmp-IsAntisymmetric term_same)

pub equal_sets : EqualSetsSayTheSame
equal_sets = say_the_same set_equality.ghosts.eq set_order.ghosts.cmp plain_elements (slice_cmp term_cmp) set_laws.total-law set_laws.matches_eq-law set_cmp-is (slice_cmp-IsAntisymmetric term_same)
