use Rattle.std.proofs.Common.{option_map, ap, sym, ◌∙◌}
use Rattle.std.specs.Rc.{rc_str_bytes}
use Rattle.law_terms.specs.Types.{is_type, type_of}
use Rattle.smt_term.specs.View.{plain_term, plain_type}
use Rattle.smt_term.proofs.RecordFields.{field_found}
use Rattle.smt_term.proofs.term.Term.has_attribute_of.Goals as goal

pub returns-in-Some : goal.returns-in-Some
returns-in-Some c =
    c.is_of_type.ensures.same
    ∙ ap (λ o. is_type o (plain_type c.args.ty.now)) (ap (option_map type_of) (sym (ap (option_map (λ term. plain_term term.now)) c.in-Some.is) ∙ c.get.ensures) ∙ sym (field_found (rc_str_bytes c.args.name.now) c.args.self.now c.in-Record.fields c.in-Record.is))

pub returns-in-None-get : goal.returns-in-None-get
returns-in-None-get c =
    ap (λ o. is_type o (plain_type c.args.ty.now)) (ap (option_map type_of) (sym (ap (option_map (λ term. plain_term term.now)) c.in-None-get.is) ∙ c.get.ensures) ∙ sym (field_found (rc_str_bytes c.args.name.now) c.args.self.now c.in-Record.fields c.in-Record.is))
