-- The pairs of an attribute and a value that a map of attributes holds.
use Rattle.std.specs.Prelude.{ℕ, List, map}
use Rattle.std.specs.declared.alloc.Global.{Global}
use Rattle.std.specs.declared.rc.RcStr.{RcStr}
use Rattle.smt_values.specs.Named.{named}
use Rattle.smt_values.specs.declared.attribute_map.AttributeMap.{AttributeMap}
use Rattle.smt_term.specs.Pairs.{attributes_in}

-- the pairs of an attribute and a value that a map holds, in the order of the map
abbrev pub pairs_of : {X : Type 0} → AttributeMap X → List (RcStr Global × X)
pairs_of held = held.items.items

-- the attributes of a map as bytes, in order
abbrev pub attributes_of : {X : Type 0} → AttributeMap X → List (List ℕ)
attributes_of held = attributes_in (pairs_of held)

-- the pairs that a map holds, in the order of the map, each attribute as its bytes
abbrev pub named_pairs : {X : Type 0} → AttributeMap X → List (List ℕ × X)
named_pairs held = map named (pairs_of held)
