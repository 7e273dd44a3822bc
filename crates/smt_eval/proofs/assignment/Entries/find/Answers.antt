use Rattle.std.proofs.Common.{Some, None, ◌∙◌, sym, ap, refl, option_map, rules}
use Rattle.std.proofs.lemmas.Option.{slice_get_past, slice_get_read}
use Rattle.smt_eval.proofs.FirstPlaces.{found_at}
use Rattle.smt_eval.proofs.assignment.Entries.find.Goals as goal

pub returns-in_err-place : goal.returns-in_err-place
returns-in_err-place g c =
    ap (option_map (λ value. value.now)) c.from_residual.ensures ∙ found_at _ c.args.self.now.items.items None (c.in_err-place.ensures.value ∙ c.args.self.now.placed c.args.key.now)

pub returns-in_err-value : goal.returns-in_err-value
returns-in_err-value g c =
    ap (option_map (λ value. value.now)) c.from_residual-in_err-value.ensures
    ∙ ap (option_map (λ e. e.1)) (sym (slice_get_past c.args.self.now.items.items c.in_ok-place.place.now (search rules)))
    ∙ found_at _ c.args.self.now.items.items (Some c.in_ok-place.place.now) (c.in_ok-place.ensures.value ∙ c.args.self.now.placed c.args.key.now)

pub returns : goal.returns
returns g c =
    ap (option_map (λ e. e.1)) (sym (slice_get_read c.args.self.now.items.items _ c.in_ok-place.place.now c.in_ok-value.field-0.now refl (search rules) (search rules)))
    ∙ found_at _ c.args.self.now.items.items (Some c.in_ok-place.place.now) (c.in_ok-place.ensures.value ∙ c.args.self.now.placed c.args.key.now)
