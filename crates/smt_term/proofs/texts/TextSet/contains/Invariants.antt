use Rattle.std.proofs.Common.{◌≡◌, drop, map}
use Rattle.std.specs.List.{list_any}
use Rattle.std.specs.Prelude.{bytes_eq}
use Rattle.std.specs.Rc.{rc_str_bytes}
use Rattle.smt_term.proofs.texts.TextSet.contains.Given as goal

-- whether the text is among those that are left decides it of all
abbrev pub invariant-loop-item : goal.invariant-loop-item
invariant-loop-item l = list_any (bytes_eq (rc_str_bytes l.text)) (map rc_str_bytes (drop l.item-index l.item-items)) ≡ list_any (bytes_eq (rc_str_bytes l.text)) (map rc_str_bytes l.item-items)
