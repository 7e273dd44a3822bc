use Rattle.std.proofs.Common.{◌≡◌, ◌++◌, ◌∷◌, [], List, Some, map, take}
use Rattle.law_terms.specs.Meanings.{all_found, meanings}
use Rattle.law_terms.specs.Nodes.{Meaning, TermMeaning}
use Rattle.smt_term.specs.View.{plain_term}
use Rattle.smt_nodes.proofs.RecordParts.{fields_meant}
use Rattle.smt_nodes.specs.Interned.{meaning_in, nodes_of, KeepsMeanings}
use Rattle.smt_nodes.specs.View.{places_of}
use Rattle.smt_nodes.proofs.interner.Interner.+intern.Given as goal

-- what was there means what it meant, and the parts so far are found
abbrev pub invariant-intern_all-loop-term : goal.invariant-intern_all-loop-term
invariant-intern_all-loop-term l =
    ((ms : List Meaning) → all_found (meanings (nodes_of l.initial.self)) (places_of l.first) ≡ Some ms → all_found (meanings (nodes_of l.self)) (places_of l.parts.items) ≡ Some (ms ++ map TermMeaning (map plain_term (take l.term-index l.terms)))) × KeepsMeanings l.initial.self l.self

-- the same of the type and the terms of fields
abbrev pub invariant-intern_fields-loop-term : goal.invariant-intern_fields-loop-term
invariant-intern_fields-loop-term l =
    ((m : Meaning) → meaning_in l.fn.self l.fn.ty ≡ Some m → all_found (meanings (nodes_of l.self)) (places_of l.parts.items) ≡ Some (m ∷ [] ++ fields_meant (take l.term-index l.fields))) × KeepsMeanings l.fn.self l.self
