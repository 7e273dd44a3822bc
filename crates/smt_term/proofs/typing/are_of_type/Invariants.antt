use Rattle.std.proofs.Common.{◌≡◌, drop, map}
use Rattle.std.specs.List.{list_all}
use Rattle.law_terms.specs.Types.{type_eq, type_of}
use Rattle.smt_term.specs.View.{plain_term, plain_type}
use Rattle.smt_term.proofs.typing.are_of_type.Given as goal

-- whether what is left is of the type decides it of all
abbrev pub invariant-loop-term : goal.invariant-loop-term
invariant-loop-term l =
    list_all (type_eq (plain_type l.ty)) (map type_of (map plain_term (drop l.term-index l.terms))) ≡ list_all (type_eq (plain_type l.ty)) (map type_of (map plain_term l.terms))
