use Rattle.std.proofs.Common.{sym, ap}
use Rattle.smt_values.specs.View.{plain_env, plain_request_env, plain_schema}
use Rattle.smt_term.specs.Enums.{enums_of}
use Rattle.law_cedar.specs.Symbolized.{environment_with, listed_types}
use Rattle.smt_symbolizer.proofs.Given.{err_given, ok_given}
use Rattle.smt_symbolizer.proofs.SameDefaults.{same_defaults}
use Rattle.smt_symbolizer.proofs.Saying.{says_stored}
use Rattle.smt_symbolizer.specs.View.{plain_environment}
use Rattle.smt_values.proofs.Faults.{given_of}
use Rattle.smt_symbolizer.proofs.environment.SymEnv.from_concrete_env.Goals as goal

pub returns-clause-given : goal.returns-clause-given
returns-clause-given c =
    let schema = plain_schema c.args.schema.now in
    ok_given plain_environment c.environment_with.result _
    (given_of plain_environment c.environment_with.result _ _
    (ap (λ d. environment_with d (plain_request_env c.args.req_env.now) schema (plain_env c.args.env.now)) (sym (same_defaults (enums_of c.in_ok-enums.enums) (listed_types schema) c.in_ok-enums.ensures)))
    c.environment_with.ensures)

pub returns-clause-stored : goal.returns-clause-stored
returns-clause-stored c =
    says_stored (plain_request_env c.args.req_env.now) c.args.schema.now c.args.env.now c.environment_with.result (returns-clause-given c)

pub returns-clause-refused : goal.returns-clause-refused
returns-clause-refused c =
    let schema = plain_schema c.args.schema.now in
    err_given plain_environment c.environment_with.result _
    (given_of plain_environment c.environment_with.result _ _
    (ap (λ d. environment_with d (plain_request_env c.args.req_env.now) schema (plain_env c.args.env.now)) (sym (same_defaults (enums_of c.in_ok-enums.enums) (listed_types schema) c.in_ok-enums.ensures)))
    c.environment_with.ensures)
