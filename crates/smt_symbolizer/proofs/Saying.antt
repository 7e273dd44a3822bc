-- The program's symbolic environments say what is stored.
use Rattle.std.proofs.Common.{◌≡◌, IfOk, Ok, Err, Result}
use Rattle.smt_values.specs.Plain.{PlainRequestEnv}
use Rattle.smt_values.specs.View.{plain_env, plain_schema}
use Rattle.smt_values.specs.declared.request.Env.{Env}
use Rattle.smt_values.specs.declared.schema.Schema.{Schema}
use Rattle.law_cedar.proofs.Program.{program_schemas, program_stores}
use Rattle.law_cedar.proofs.Whole.{tables_say}
use Rattle.law_cedar.specs.Laws.{IsSymbolicOf}
use Rattle.law_cedar.specs.Symbolized.{symbolized}
use Rattle.smt_symbolizer.specs.View.{plain_environment}
use Rattle.smt_symbolizer.specs.declared.environment.SymEnv.{SymEnv}
use Rattle.smt_values.specs.declared.error.SymbolizeError.{SymbolizeError}

pub says_stored : (asked : PlainRequestEnv) (schema : Schema) (env : Env) (r : Result SymEnv SymbolizeError) → IfOk r (λ made. symbolized asked (plain_schema schema) (plain_env env) ≡ Ok (plain_environment made))
    → IfOk r (λ made. IsSymbolicOf asked (plain_schema schema) (plain_env env) (plain_environment made))
says_stored asked schema env (Ok made) h = tables_say asked (plain_schema schema) (plain_env env) (plain_environment made) (program_schemas schema) (program_stores env.entities) h
says_stored asked schema env (Err e) h = tt
