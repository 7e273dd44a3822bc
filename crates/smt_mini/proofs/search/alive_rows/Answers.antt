use Rattle.std.proofs.Common.{ap, ap₂, ◌∙◌, ◌&&◌, map, Bool, List}
use Rattle.std.specs.List.{list_all}
use Rattle.law_verdicts.specs.TruthRows.{May}
use Rattle.smt_mini.specs.Search.{in_row, may_place}
use Rattle.smt_mini.proofs.search.alive_rows.Goals as goal

pub returns : goal.returns
returns c r l =
    c.rows_left.ensures r l
    ∙ ap₂ (λ (x y : Bool). x && y) (c.rows_of.ensures r l)
    (ap (λ ds. list_all (λ p. (may_place (map (in_row r) ds) p).holds) c.args.circuit.now.assertions.now) c.as_slice.ensures.value
    ∙ ap (λ (ms : List May). list_all (λ p. (may_place ms p).holds) c.args.circuit.now.assertions.now) (c.in_ok-done.ensures r l))
