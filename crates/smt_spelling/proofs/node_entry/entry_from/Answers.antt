use Rattle.std.proofs.Common.{sym, subst}
use Rattle.smt_term.specs.Enums.{enums_of}
use Rattle.smt_nodes.specs.View.{plain_label}
use Rattle.smt_nodes.specs.declared.node.Label.{Label}
use Rattle.smt_spelling.specs.TextFaults.{text_fault, Finds}
use Rattle.smt_spelling.specs.NodeEntries.{entry_fault}
use Rattle.smt_spelling.specs.Renderings.{plain_rendering}
use Rattle.smt_spelling.proofs.node_entry.entry_from.Goals as goal

pub returns-in-App-clause-fault : goal.returns-in-App-clause-fault
returns-in-App-clause-fault c =
    subst (λ (l : Label). Finds text_fault (entry_fault (enums_of c.args.enums.now) (plain_label l) (plain_rendering c.args.shape.rendering)) c.application_entry.result) (sym c.in-App.is) (c.application_entry.ensures.fault (enums_of c.args.enums.now))
