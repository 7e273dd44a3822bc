use Rattle.std.proofs.Common.{ap, sym, ◌∙◌}
use Rattle.std.specs.Prelude.{is_some}
use Rattle.std.specs.Rc.{rc_str_bytes}
use Rattle.smt_term.specs.TypeView.{plain_type}
use Rattle.smt_term.proofs.RecordTypes.{attribute_found, is_some-mapped}
use Rattle.smt_term.proofs.types.TermType.has_attribute.Goals as goal

pub returns-in-Record : goal.returns-in-Record
returns-in-Record c =
    c.is_some.ensures ∙ (is_some-mapped (λ ty. plain_type ty.now) c.get.result ∙ ap is_some (c.get.ensures ∙ sym (attribute_found (rc_str_bytes c.args.name.now) c.args.self.now c.in-Record.rty c.in-Record.is)))
