use Rattle.std.proofs.Common.{◌≡◌, ◌++◌, drop, map}
use Rattle.std.specs.Map.{keys_of}
use Rattle.smt_values.specs.ValueView.{known_field}
use Rattle.law_cedar.specs.Tables.{text_term}
use Rattle.smt_term.specs.View.{plain_term}
use Rattle.smt_symbolizer.proofs.entries.key_terms.Given as goal

-- what is made and what there is of those that are left is what there is of all
abbrev pub invariant-loop-name : goal.invariant-loop-name
invariant-loop-name l = map plain_term l.terms.items ++ map text_term (keys_of (map known_field (drop l.name-index l.name-items))) ≡ map text_term (keys_of (map known_field l.name-items))
