use Rattle.std.proofs.Common.{ℕ, List, map}
use Rattle.smt_values.specs.View.{plain_action}
use Rattle.smt_term.specs.Entities.{bytes_of_type}
use Rattle.smt_term.specs.Enums.{enums_of}
use Rattle.law_cedar.specs.Plain.{PlainData}
use Rattle.law_cedar.specs.Symbolized.{actions_of}
use Rattle.smt_symbolizer.proofs.Walked.{made_more}
use Rattle.smt_symbolizer.specs.Named.{said}
use Rattle.smt_symbolizer.specs.Stored.{data_of_actions}
use Rattle.smt_symbolizer.specs.EntityView.{plain_data}
use Rattle.smt_values.specs.DefaultTerm.{default_term}
use Rattle.smt_symbolizer.proofs.entities.all_action_data.Goals as goal

pub loop-ety-preserved : goal.loop-ety-preserved
loop-ety-preserved c =
    let f : List ℕ → List ℕ × PlainData = λ type. (type, data_of_actions (default_term (enums_of c.args.enums.now)) type (map bytes_of_type c.args.kinds.now) (actions_of type (map plain_action c.args.actions.now))) in
    made_more f bytes_of_type (said plain_data) c.loop-ety.pairs.items c.args.kinds.now c.loop-ety.ety-index c.loop-ety.invariant c.ety-item.result c.loop-ety-test.true c.ety-item.is
    c.in_ok-action_data.field-0 c.push.new.self.items c.in_ok-action_data.ensures c.in_ok-push.ensures.items
