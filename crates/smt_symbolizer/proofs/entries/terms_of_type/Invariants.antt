use Rattle.std.proofs.Common.{◌≡◌, ◌++◌, drop, map}
use Rattle.std.specs.List.{filter}
use Rattle.std.specs.Prelude.{bytes_eq}
use Rattle.smt_term.specs.Entities.{bytes_of_type, texts_of_entity}
use Rattle.law_cedar.specs.Tables.{entity_term}
use Rattle.smt_term.specs.View.{plain_term}
use Rattle.smt_symbolizer.proofs.entries.terms_of_type.Given as goal

-- what is made and what there is of those that are left is what there is of all
abbrev pub invariant-loop-uid : goal.invariant-loop-uid
invariant-loop-uid l = map plain_term l.terms.items ++ map entity_term (filter (λ uid. bytes_eq uid.0 (bytes_of_type l.kind)) (map texts_of_entity (drop l.uid-index l.uids))) ≡ map entity_term (filter (λ uid. bytes_eq uid.0 (bytes_of_type l.kind)) (map texts_of_entity l.uids))
