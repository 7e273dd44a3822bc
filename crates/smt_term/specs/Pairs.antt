-- What pairs of attributes and values say.
use Rattle.std.specs.Prelude.{ℕ, List, map}
use Rattle.std.specs.Rc.{rc_str_bytes}
use Rattle.std.specs.declared.alloc.Global.{Global}
use Rattle.std.specs.declared.rc.RcStr.{RcStr}
use Rattle.smt_term.specs.declared.pairs.AttributePairs.{AttributePairs}

-- the attributes of pairs
abbrev pub attributes_in : {X : Type 0} → List (RcStr Global × X) → List (List ℕ)
attributes_in ps = map (λ p. rc_str_bytes p.0) ps

-- the pairs that are held, in order
abbrev pub pairs_of : {X : Type 0} → AttributePairs X → List (RcStr Global × X)
pairs_of held = held.items.value.items
