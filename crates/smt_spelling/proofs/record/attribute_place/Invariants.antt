use Rattle.std.proofs.Common.{◌≡◌, drop, map}
use Rattle.std.specs.Rc.{rc_str_bytes}
use Rattle.smt_spelling.proofs.Places.{Left}
use Rattle.smt_spelling.proofs.record.attribute_place.Given as goal

-- no attribute so far is this one
abbrev pub invariant-loop-item : goal.invariant-loop-item
invariant-loop-item l = (l.place ≡ l.item-index) × Left (rc_str_bytes l.attribute) l.place (map rc_str_bytes l.attributes) (map rc_str_bytes (drop l.item-index l.attributes))
