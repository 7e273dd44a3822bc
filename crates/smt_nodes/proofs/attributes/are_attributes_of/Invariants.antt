use Rattle.std.proofs.Common.{◌≡◌, ◌↔◌, length}
use Rattle.std.specs.Iterator.Adapters.{zip_first, zip_second}
use Rattle.std.specs.Slice.Iter.{iter_rest}
use Rattle.law_texts.specs.SharedTexts.{texts}
use Rattle.smt_term.specs.Pairs.{attributes_in}
use Rattle.smt_nodes.proofs.attributes.are_attributes_of.Given as goal

-- as many attributes as pairs are left, and whether these are the same decides it of all
abbrev pub invariant-loop-name : goal.invariant-loop-name
invariant-loop-name g l =
    let names = iter_rest (zip_first l.name-iterator) in
    let pairs = iter_rest (zip_second l.name-iterator) in
    (length names ≡ length pairs) × ((texts names ≡ attributes_in pairs) ↔ (texts l.names ≡ attributes_in l.pairs))
