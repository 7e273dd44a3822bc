-- The numbers of variables: in the order in which a walk over the terms first meets them.
use Rattle.std.specs.Prelude.{◌≡◌, ℕ, true, false, List, [], ◌∷◌, ◌++◌, Option, Some, None, Result, Ok, Err}
use Rattle.std.specs.List.{AllByRecursion}
use Rattle.law_terms.specs.Reached.{reached_variables}
use Rattle.law_terms.specs.Types.{literal_type, type_of}
use Rattle.law_terms.specs.Plain.{PlainType, PlainTerm, Application, LiteralTerm, VariableTerm, PlainTerms, no_terms, one_term}
use Rattle.law_blasting.specs.Blasted.{Variables, AreNumbered, blasted, is_among}
use Rattle.law_blasting.specs.Laws.{AreDistinct, AreSupported}
use Rattle.law_blasting.specs.Refusals.{Refusal, type_refusal, operator_refusal, term_refusal, first_refusal}

-- one more variable, at the end where it is not there yet
abbrev pub with_variable : Variables → (List ℕ × PlainType) → Variables
with_variable vs v = elim (is_among vs v) [ true ↦ vs | false ↦ vs ++ v ∷ [] ]

-- more variables, each at the end where it is not there yet
abbrev pub with_variables : Variables → Variables → Variables
with_variables vs [] = vs
with_variables vs (w ∷ ws) = with_variables (with_variable vs w) ws

-- the variables of terms, in their order
abbrev pub variables_of : List PlainTerm → Variables
variables_of ts = with_variables [] (reached_variables ts)

-- these variables, or else the refusal that there is
abbrev pub unless_refused : Option Refusal → Variables → Result Variables Refusal
unless_refused None vs = Ok vs
unless_refused (Some r) vs = Err r

abbrev mutual
  -- A walk over a term that goes on from some variables: a term's type, then its parts, then itself. It gives the variables met so far,
  -- or the first refusal.
  pub walked : Variables → PlainTerm → Result Variables Refusal
  walked vs (Application o ts t) =
      elim (type_refusal t)
      [ Some r ↦ Err r | None ↦ elim (walked_all vs ts) [ Ok ws ↦ unless_refused (operator_refusal o) ws | Err r ↦ Err r ] ]
  walked vs (LiteralTerm l) = unless_refused (type_refusal (literal_type l)) vs
  walked vs (VariableTerm id t) = unless_refused (type_refusal t) (with_variable vs (id, t))
  walked vs t = unless_refused (type_refusal (type_of t)) vs

  -- the same over the terms of a list, one after the other
  pub walked_all : Variables → PlainTerms → Result Variables Refusal
  walked_all vs no_terms = Ok vs
  walked_all vs (one_term t ts) = elim (walked vs t) [ Ok ws ↦ walked_all ws ts | Err r ↦ Err r ]

-- the same over a list of whole terms
abbrev pub walked_list : Variables → List PlainTerm → Result Variables Refusal
walked_list vs [] = Ok vs
walked_list vs (t ∷ ts) = elim (walked vs t) [ Ok ws ↦ walked_list ws ts | Err r ↦ Err r ]

-- the walk meets the variables in the order in which the term reaches them, and stops at the term's first refusal
abbrev pub WalksAreStated : Type 0
WalksAreStated =
    (vs : Variables) (t : PlainTerm) → walked vs t ≡ unless_refused (term_refusal t) (with_variables vs (reached_variables (t ∷ [])))

-- the same holds of a walk over terms one after the other
abbrev pub ListsAreWalked : Type 0
ListsAreWalked =
    (vs : Variables) (ts : List PlainTerm) →
    walked_list vs ts ≡ unless_refused (first_refusal ts) (with_variables vs (reached_variables ts))

-- where a walk comes to its end, the term has no refusal, and the variables that it reaches are among those that were met
abbrev pub WalksNumber : Type 0
WalksNumber = (vs ws : Variables) (t : PlainTerm) → walked vs t ≡ Ok ws → (term_refusal t ≡ None) × AreNumbered ws t

-- a term whose variables are there adds none
abbrev pub WalksAddNothing : Type 0
WalksAddNothing = (vs : Variables) (t : PlainTerm) → term_refusal t ≡ None → AreNumbered vs t → walked vs t ≡ Ok vs

-- a term stays numbered when more variables come behind, and its blasted terms are the same
abbrev pub NumbersStay : Type 0
NumbersStay =
    (vs ws : Variables) (t : PlainTerm) → AreNumbered vs t →
    AreNumbered (with_variables vs ws) t × (blasted (with_variables vs ws) t ≡ blasted vs t)

-- the variables of terms are all that each of them reaches
abbrev pub VariablesAreNumbered : Type 0
VariablesAreNumbered = (ts : List PlainTerm) → AllByRecursion (AreNumbered (variables_of ts)) ts

-- each of them stands once
abbrev pub VariablesAreDistinct : Type 0
VariablesAreDistinct = (ts : List PlainTerm) → AreDistinct (variables_of ts)

-- where there is no refusal, each is of a type that is blasted
abbrev pub VariablesAreSupported : Type 0
VariablesAreSupported = (ts : List PlainTerm) → first_refusal ts ≡ None → AreSupported (variables_of ts)
