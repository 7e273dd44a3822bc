use Rattle.std.proofs.Common.{ap, sym, ◌∙◌}
use Rattle.std.specs.Prelude.{is_some}
use Rattle.std.specs.Rc.{rc_str_bytes}
use Rattle.law_terms.specs.Types.{type_of}
use Rattle.smt_term.specs.View.{plain_term}
use Rattle.smt_term.proofs.RecordFields.{field_found}
use Rattle.smt_term.proofs.RecordTypes.{is_some-mapped}
use Rattle.smt_term.proofs.term.Term.has_attribute.Goals as goal

pub returns-in-Record : goal.returns-in-Record
returns-in-Record c =
    c.is_some.ensures ∙ (is_some-mapped (λ term. plain_term term.now) c.get.result ∙ (ap is_some c.get.ensures ∙ (is_some-mapped type_of _ ∙ ap is_some (sym (field_found (rc_str_bytes c.args.name.now) c.args.self.now c.in-Record.fields c.in-Record.is)))))
