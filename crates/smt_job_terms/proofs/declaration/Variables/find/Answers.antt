use Rattle.std.proofs.Common.{◌≡◌, Some, None, option_map, slice_get, refl, sym, ap, ◌∙◌, rules}
use Rattle.std.proofs.lemmas.Option.{slice_get-map, slice_get_past, slice_get_read}
use Rattle.smt_term.specs.View.{plain_type}
use Rattle.smt_job_terms.specs.DeclarationView.{plain_declaration}
use Rattle.smt_job_terms.proofs.Places.{counts, is_absent}
use Rattle.smt_job_terms.proofs.declaration.Variables.find.Goals as goal

pub returns-in_err-place-clause-found : goal.returns-in_err-place-clause-found
returns-in_err-place-clause-found c vs has =
    ap (option_map (λ x. plain_type x.1.now.ty)) c.from_residual.ensures
    ∙ sym (is_absent vs c.args.id.now None (c.in_err-place.ensures.value ∙ has.placed c.args.id.now) refl)

pub returns-in_err-get-clause-found : goal.returns-in_err-get-clause-found
returns-in_err-get-clause-found c vs has =
    let place = c.in_ok-place.field-0.now in
    let past : slice_get c.items.result.now place ≡ None = slice_get_past c.items.result.now place (search rules) in
    let nothing : slice_get vs place ≡ None = sym (ap (λ ds. slice_get ds place) (c.items.ensures ∙ has.listed)) ∙ slice_get-map plain_declaration c.items.result.now place ∙ ap (option_map plain_declaration) past in
    ap (option_map (λ x. plain_type x.1.now.ty)) c.from_residual-in_err-get.ensures ∙ sym (is_absent vs c.args.id.now (Some place) (c.in_ok-place.ensures.value ∙ has.placed c.args.id.now) nothing)

pub returns-clause-there : goal.returns-clause-there
returns-clause-there c =
    let place = c.in_ok-place.field-0.now in
    sym (ap (λ ds. slice_get ds place) c.items.ensures)
    ∙ slice_get-map plain_declaration c.items.result.now place
    ∙ ap (option_map plain_declaration) (slice_get_read c.items.result.now _ place c.in_ok-get.field-0.now refl (search rules) (search rules))

pub returns-clause-found : goal.returns-clause-found
returns-clause-found c vs has =
    let place = c.in_ok-place.field-0.now in
    (counts vs c.args.id.now place (plain_declaration c.in_ok-get.field-0.now) (c.in_ok-place.ensures.value ∙ has.placed c.args.id.now) (sym (ap (λ ds. slice_get ds place) has.listed) ∙ returns-clause-there c)).1

pub returns-clause-id : goal.returns-clause-id
returns-clause-id c vs has =
    let place = c.in_ok-place.field-0.now in
    (counts vs c.args.id.now place (plain_declaration c.in_ok-get.field-0.now) (c.in_ok-place.ensures.value ∙ has.placed c.args.id.now) (sym (ap (λ ds. slice_get ds place) has.listed) ∙ returns-clause-there c)).0
