-- Names that a script leaves free.
use Rattle.law_terms.specs.Plain.{PlainOp, UufOp, PlainType, PlainTerm, Application, VariableTerm}
use Rattle.law_terms.specs.Reached.{reached_terms}
use Rattle.law_terms.specs.TypeValues.{Enums}
use Rattle.law_scripts.specs.Script.{State}
use Rattle.law_scripts.specs.Sorts.{entries}
use Rattle.law_lines.specs.NameTables.{Tables}
use Rattle.law_lines.specs.Fit.{Fit}
use Rattle.law_lines.proofs.Declared.{terms_are_declared, functions_are_declared}
use Rattle.law_theorem.specs.CarriedInterpretations.{variable_name, function_name, IsOpNamed, IsTermNamed}
use Rattle.law_theorem.specs.FittingStates.{IsOpOpen, IsOpen, ReachedAreOpen}
use Rattle.law_theorem.proofs.Open.{every}

module _ (enums : Enums) (s : Tables) (state : State) (fit : Fit enums s state) where
  op_open : (op : PlainOp) (t : PlainType) → IsOpNamed enums s (entries state) op t → IsOpOpen s (entries state) op
  op_open (UufOp f) t h =
      let d = functions_are_declared enums s state f (function_name s f) fit h.0 in
      d.0.1.0
  op_open op t h = tt

  term_open : (t : PlainTerm) → IsTermNamed enums s (entries state) t → IsOpen s (entries state) t
  term_open (VariableTerm id t) h =
      let d = terms_are_declared enums s state (VariableTerm id t) (variable_name s id t) fit h.0 in
      d.0.1.0
  term_open (Application op ts t) h = op_open op t h
  term_open t h = tt

pub reached_are_open : ReachedAreOpen
reached_are_open enums s state ts fit h = every (IsTermNamed enums s (entries state)) (IsOpen s (entries state)) (λ t k. term_open enums s state fit t k) (reached_terms ts) h.named
