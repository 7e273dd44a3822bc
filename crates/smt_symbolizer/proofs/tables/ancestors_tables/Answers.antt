use Rattle.std.proofs.Common.{ℕ, List, map, ap, ◌∙◌}
use Rattle.smt_values.specs.View.{plain_stored}
use Rattle.smt_values.specs.EntityTypes.{types_held}
use Rattle.smt_term.specs.Entities.{bytes_of_type}
use Rattle.smt_term.specs.Enums.{enums_of}
use Rattle.law_terms.specs.Functions.{PlainUnary}
use Rattle.smt_symbolizer.proofs.SortedTypes.{sorted_of}
use Rattle.smt_symbolizer.specs.Stored.{ancestors_of}
use Rattle.smt_term.specs.Functions.{plain_unary}
use Rattle.smt_values.specs.DefaultTerm.{default_term}
use Rattle.smt_symbolizer.proofs.tables.ancestors_tables.Goals as goal

pub returns : goal.returns
returns c =
    let f : List ℕ → List ℕ × PlainUnary = λ kind. (kind, ancestors_of (default_term (enums_of c.args.enums.now)) (bytes_of_type c.args.ety.now) kind (map (λ entity. plain_stored entity.now) c.args.stored.now)) in
    sorted_of plain_unary c.of_pairs.result c.in_ok-pairs.pairs.items (map f (map bytes_of_type (types_held c.args.kinds.now)))
    (c.in_ok-pairs.ensures ∙ ap (λ ks. map f (map bytes_of_type ks)) c.items.ensures.same) c.of_pairs.ensures
