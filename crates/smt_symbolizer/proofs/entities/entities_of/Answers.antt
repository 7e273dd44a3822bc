use Rattle.std.proofs.Common.{ℕ, List, map, sym, ap, ◌∙◌}
use Rattle.smt_values.specs.Plain.{PlainAction}
use Rattle.smt_values.specs.View.{entry_named, plain_schema, plain_stored}
use Rattle.smt_term.specs.Enums.{enums_of}
use Rattle.law_cedar.specs.Plain.{PlainData}
use Rattle.law_cedar.specs.Symbolized.{action_data, action_types, typed_data}
use Rattle.smt_symbolizer.proofs.StoredTypes.{all_types}
use Rattle.smt_symbolizer.specs.ByType.{pairs_held}
use Rattle.smt_values.specs.DefaultTerm.{default_term}
use Rattle.smt_values.specs.Outcomes.{each}
use Rattle.smt_symbolizer.proofs.entities.entities_of.Goals as goal

pub returns : goal.returns
returns c =
    let default = default_term (enums_of c.args.enums.now) in
    let f = typed_data default (map plain_stored c.args.entities.now) in
    let own = ap (map (λ p. entry_named p.now)) c.as_slice.ensures.value ∙ c.in_ok-own.ensures in
    let rows : List PlainAction → List (List ℕ × PlainData) = λ actions. map (λ type. (type, action_data default actions type)) (action_types actions) in
    all_types default (plain_schema c.args.schema.now) (map plain_stored c.args.entities.now) c.in_ok-pairs.pairs.items c.in_ok-others.others.items c.append.new.self.items (pairs_held c.in_ok-of_pairs.field-0)
    (ap (each f) (sym own) ∙ c.in_ok-pairs.ensures)
    (c.in_ok-others.ensures ∙ ap rows c.items.ensures.named)
    c.in_ok-append.ensures.items
    c.in_ok-of_pairs.ensures
