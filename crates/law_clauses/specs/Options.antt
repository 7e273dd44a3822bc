-- Clauses of options, and of Booleans, which have two values.
use Rattle.std.specs.Prelude.{false, List, [], ◌∷◌}
use Rattle.law_terms.specs.Plain.{PlainType, BoolType, OptionType, PlainTerm, NoneTerm, SomeTerm}
use Rattle.law_terms.specs.TypeValues.{Enums}
use Rattle.law_clauses.specs.Applications.{bool_term, get_term}
use Rattle.law_clauses.specs.Sequents.{IsAlwaysValid, IsValid, Sequent, always, either, implies, ◌⊢◌}
use Rattle.law_clauses.specs.Shapes.{HasShape}
use Rattle.law_clauses.specs.Statements.{TruthOf, same_terms}

-- an option that holds something is not none
abbrev pub some_is_not_none : PlainTerm → PlainType → Sequent
some_is_not_none t ty = (same_terms (SomeTerm t) (NoneTerm ty) ∷ []) ⊢ []

-- options that are the same hold the same
abbrev pub what_some_holds : PlainTerm → PlainTerm → Sequent
what_some_holds t u = implies (same_terms (SomeTerm t) (SomeTerm u)) (same_terms t u)

-- `option.get` gives what an option holds
abbrev pub get_of_some : PlainType → PlainTerm → Sequent
get_of_some ty t = always (same_terms (get_term ty (SomeTerm t)) t)

-- an option is none, or holds what `option.get` gives
abbrev pub none_or_some : PlainType → PlainTerm → Sequent
none_or_some ty o = either (same_terms o (NoneTerm ty)) (same_terms o (SomeTerm (get_term ty o)))

-- a Boolean is true, or the same as false
abbrev pub true_or_false : PlainTerm → Sequent
true_or_false t = either (TruthOf t) (same_terms t (bool_term false))

-- all of these are valid, the last two of terms of a type
pub record OptionsAreValid : Type 0 where
  pub apart : (t : PlainTerm) (ty : PlainType) → IsAlwaysValid (some_is_not_none t ty)
  pub held : (t u : PlainTerm) → IsAlwaysValid (what_some_holds t u)
  pub got : (ty : PlainType) (t : PlainTerm) → IsAlwaysValid (get_of_some ty t)
  pub either :
      (enums : Enums) (roots : List PlainTerm) (ty : PlainType) (o : PlainTerm)
      → HasShape enums roots o (OptionType ty) → IsValid enums roots (none_or_some ty o)
  pub truths :
      (enums : Enums) (roots : List PlainTerm) (t : PlainTerm) → HasShape enums roots t BoolType → IsValid enums roots (true_or_false t)
