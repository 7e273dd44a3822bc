-- Pairs of an attribute and a value, by the bytes of the attribute.
use Rattle.std.specs.Prelude.{ℕ, List}
use Rattle.std.specs.Rc.{rc_str_bytes}
use Rattle.std.specs.declared.alloc.Global.{Global}
use Rattle.std.specs.declared.rc.RcStr.{RcStr}

-- a pair of an attribute and a value, the attribute as its bytes
abbrev pub named : {X : Type 0} → RcStr Global × X → List ℕ × X
named p = (rc_str_bytes p.0, p.1)
