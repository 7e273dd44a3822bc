-- The variables and the functions of a job, as they are declared one after the other.
use Rattle.std.proofs.Common.{◌≡◌, List}
use Rattle.law_terms.specs.Plain.{PlainFunction, PlainType}
use Rattle.smt_sexpr.specs.declared.expression.SExpr.{SExpr}
use Rattle.law_jobs.specs.Declarations.{Declarations, declared_function, declared_variable}
use Rattle.smt_job_terms.specs.DeclarationView.{HasFunctions, HasVariables, declarations, functions}
use Rattle.smt_job_terms.specs.declared.declaration.Functions.{Functions}
use Rattle.smt_job_terms.specs.declared.declaration.Variables.{Variables}
use Rattle.smt_job_terms.proofs.Declaring.{Declaring}

abbrev pub variables_in : Variables → Declarations PlainType
variables_in v = declarations v.vars

abbrev pub functions_in : Functions → Declarations PlainFunction
functions_in f = functions f.funs

pub variables_listed : (v : Variables) (vs : Declarations PlainType) → HasVariables v vs → variables_in v ≡ vs
variables_listed v vs h = h.listed

pub functions_listed : (f : Functions) (fs : Declarations PlainFunction) → HasFunctions f fs → functions_in f ≡ fs
functions_listed f fs h = h.listed

abbrev pub DeclaringVariables : Variables → (remaining all : List SExpr) → Type 0
DeclaringVariables = Declaring HasVariables variables_in variables_listed declared_variable

abbrev pub DeclaringFunctions : Functions → (remaining all : List SExpr) → Type 0
DeclaringFunctions = Declaring HasFunctions functions_in functions_listed declared_function
