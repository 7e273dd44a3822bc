use Rattle.std.proofs.Common.{◌≡◌, ◌++◌, drop, map}
use Rattle.smt_term.specs.Enums.{enums_of}
use Rattle.smt_term.specs.View.{plain_attribute, plain_field}
use Rattle.law_terms.specs.Plain.{attribute_types}
use Rattle.smt_values.specs.DefaultTerm.{default_fields}
use Rattle.smt_values.proofs.defaults.+default_literal.Given as goal

-- what is made and the defaults of what is left are the defaults of all
abbrev pub invariant-default_pairs-loop-name : goal.invariant-default_pairs-loop-name
invariant-default_pairs-loop-name l =
    map plain_field l.pairs.items ++ default_fields (enums_of l.enums) (attribute_types (map plain_attribute (drop l.name-index l.name-items))) ≡ default_fields (enums_of l.enums) (attribute_types (map plain_attribute l.name-items))
