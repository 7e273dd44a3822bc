use Rattle.std.proofs.Common.{map, sym, ap, ◌∙◌}
use Rattle.smt_values.specs.ValueView.{known_field, named_field}
use Rattle.law_cedar.specs.Tables as stated
use Rattle.smt_symbolizer.proofs.Walked.{mapped_done, mapped_refused}
use Rattle.smt_values.proofs.Faults.{passes_on}
use Rattle.smt_values.specs.Outcomes.{each}
use Rattle.smt_symbolizer.proofs.values.known_pairs.Goals as goal

pub returns-in_err-known_pair : goal.returns-in_err-known_pair
returns-in_err-known_pair c =
    passes_on _ c.from_residual.result c.in_err-known_pair.field-0.0 _ _ c.from_residual.ensures.1 c.in_err-known_pair.ensures
    (λ fault h. ap (each stated.known_field) (sym c.items-name-items.ensures.named)
    ∙ mapped_refused stated.known_field known_field (map named_field c.loop-name.pairs.items) c.items-name-items.result.now c.loop-name.name-index c.loop-name.invariant c.loop-name-item.result c.loop-name-test.true c.loop-name-item.is fault h)

pub returns : goal.returns
returns c =
    ap (each stated.known_field) (sym c.items-name-items.ensures.named)
    ∙ mapped_done stated.known_field known_field (map named_field c.loop-name.pairs.items) c.items-name-items.result.now c.loop-name.name-index c.loop-name.invariant c.loop-name-test.false
