use Rattle.std.proofs.Common.{sym, ap, ◌∙◌}
use Rattle.smt_ext.specs.ExtOrder.{plain_value}
use Rattle.law_terms.specs.Types.{kind_of}
use Rattle.smt_term.proofs.ExtensionOrder.{range_kind}
use Rattle.smt_term.proofs.extension.ExtType.of.Goals as goal

pub returns-in-Ipaddr : goal.returns-in-Ipaddr
returns-in-Ipaddr c = sym (ap (λ x. kind_of (plain_value x)) c.in-Ipaddr.is ∙ range_kind _)
