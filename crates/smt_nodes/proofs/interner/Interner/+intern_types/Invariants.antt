use Rattle.std.proofs.Common.{◌≡◌, Some, take}
use Rattle.law_terms.specs.Meanings.{all_found, meanings}
use Rattle.smt_nodes.proofs.RecordParts.{types_meant}
use Rattle.smt_nodes.specs.Interned.{nodes_of, KeepsMeanings}
use Rattle.smt_nodes.specs.View.{places_of}
use Rattle.smt_nodes.proofs.interner.Interner.+intern_types.Given as goal

-- what was there means what it meant, and the types so far are found
abbrev pub invariant-intern_types-loop-ty : goal.invariant-intern_types-loop-ty
invariant-intern_types-loop-ty l =
    (all_found (meanings (nodes_of l.self)) (places_of l.parts.items) ≡ Some (types_meant (take l.ty-index l.attributes))) × KeepsMeanings l.fn.self l.self
