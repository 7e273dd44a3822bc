use Rattle.std.proofs.Common.{option_map, ap, sym, ◌∙◌}
use Rattle.std.specs.Rc.{rc_str_bytes}
use Rattle.law_terms.specs.Types.{is_type}
use Rattle.smt_term.specs.TypeView.{plain_type}
use Rattle.smt_term.proofs.RecordTypes.{attribute_found}
use Rattle.smt_term.proofs.types.TermType.has_attribute_of.Goals as goal

pub returns-in-Some : goal.returns-in-Some
returns-in-Some c =
    c.is_same_as.ensures.same
    ∙ ap (λ o. is_type o (plain_type c.args.ty.now)) (sym (ap (option_map (λ ty. plain_type ty.now)) c.in-Some.is) ∙ (c.get.ensures ∙ sym (attribute_found (rc_str_bytes c.args.name.now) c.args.self.now c.in-Record.rty c.in-Record.is)))

pub returns-in-None : goal.returns-in-None
returns-in-None c =
    ap (λ o. is_type o (plain_type c.args.ty.now)) (sym (ap (option_map (λ ty. plain_type ty.now)) c.in-None.is) ∙ (c.get.ensures ∙ sym (attribute_found (rc_str_bytes c.args.name.now) c.args.self.now c.in-Record.rty c.in-Record.is)))
