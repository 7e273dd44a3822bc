use Rattle.std.proofs.Common.{map, option_map, sym, ap, ◌∙◌}
use Rattle.smt_values.specs.View.{plain_entry, plain_stored, plain_types}
use Rattle.smt_values.specs.TypeView.{plain_cedar, plain_cedar_attributes}
use Rattle.smt_term.specs.Entities.{bytes_of_type}
use Rattle.smt_term.specs.Enums.{enums_of}
use Rattle.law_cedar.specs.Symbolized.{type_data}
use Rattle.smt_symbolizer.proofs.StoredTypes.{data_said}
use Rattle.smt_symbolizer.specs.Stored.{data_of}
use Rattle.smt_symbolizer.specs.EntityView.{plain_data}
use Rattle.smt_values.proofs.Faults.{given_of}
use Rattle.smt_values.specs.DefaultTerm.{default_term}
use Rattle.smt_symbolizer.proofs.entities.type_data.Goals as goal

pub returns-in_ok-stored-in-Standard : goal.returns-in_ok-stored-in-Standard
returns-in_ok-stored-in-Standard c =
    let default = default_term (enums_of c.args.enums.now) in
    let entities = map plain_stored c.args.entities.now in
    let type = bytes_of_type c.args.ety.now in
    let kinds = plain_types c.in-Standard.ancestors in
    let attributes = plain_cedar_attributes c.in-Standard.attrs in
    let tags = option_map plain_cedar c.in-Standard.tags in
    given_of plain_data c.standard_data.result _ _
    (ap (λ entry. type_data default entities type (plain_entry entry)) c.in-Standard.is
    ∙ data_said default type entities kinds attributes tags
    ∙ ap (data_of default type kinds attributes tags) (sym (ap (map (λ entity. plain_stored entity.now)) c.as_slice.ensures.value ∙ c.in_ok-stored-in-Standard.ensures)))
    c.standard_data.ensures
