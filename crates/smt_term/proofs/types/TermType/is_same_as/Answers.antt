use Rattle.std.proofs.Common.{◌∙◌}
use Rattle.smt_term.proofs.SameType.{type_eq-is, type_eq-turned}
use Rattle.smt_term.specs.TypeView.{plain_type}
use Rattle.smt_term.proofs.types.TermType.is_same_as.Goals as goal

pub returns-clause-same : goal.returns-clause-same
returns-clause-same c = c.eq.ensures ∙ type_eq-is c.args.self.now c.args.other.now

pub returns-clause-turned : goal.returns-clause-turned
returns-clause-turned c =
    c.eq.ensures ∙ type_eq-is c.args.self.now c.args.other.now ∙ type_eq-turned (plain_type c.args.self.now) (plain_type c.args.other.now)
