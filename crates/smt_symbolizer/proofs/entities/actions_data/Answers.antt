use Rattle.std.proofs.Common.{◌≡◌, ℕ, List, IfOk, map, ap, ◌∙◌, subst}
use Rattle.smt_values.specs.View.{plain_action}
use Rattle.smt_term.specs.Entities.{bytes_of_type}
use Rattle.smt_term.specs.Enums.{enums_of}
use Rattle.law_cedar.specs.Plain.{PlainData}
use Rattle.smt_symbolizer.proofs.ActionTables.{data_of_kinds}
use Rattle.smt_symbolizer.specs.Named.{said}
use Rattle.smt_symbolizer.specs.EntityView.{plain_data}
use Rattle.smt_values.specs.DefaultTerm.{default_term}
use Rattle.smt_symbolizer.proofs.entities.actions_data.Goals as goal

pub returns : goal.returns
returns c =
    let kinds = c.as_slice.result.now in
    subst
    (λ (l : List (List ℕ × PlainData)). IfOk c.all_action_data.result (λ pairs. map (said plain_data) pairs.items ≡ l))
    (data_of_kinds (default_term (enums_of c.args.enums.now)) (map plain_action c.args.actions.now) (map bytes_of_type kinds) (ap (map bytes_of_type) c.as_slice.ensures.value ∙ c.in_ok-kinds.ensures))
    c.all_action_data.ensures
