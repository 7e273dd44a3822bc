use Rattle.std.proofs.Common.{◌≡◌, [], ◌+◌, subst, arith, List, Bool, ℕ}
use Rattle.smt_mini.proofs.Searching.{all_lanes, none_at_all}
use Rattle.smt_mini.specs.Search.{Searched, all_hold, lanes_of}
use Rattle.smt_mini.proofs.search.first_model.Goals as goal

pub returns-else-branch : goal.returns-else-branch
returns-else-branch c =
    let circuit = c.args.circuit.now in
    let holds = all_hold circuit.gates.now circuit.assertions.now in
    let all : c.saturating_sub-left.result + lanes_of circuit.total ≡ circuit.total = omega (arith, c.saturating_sub-left.ensures, all_lanes circuit.total) in
    none_at_all holds circuit.total c.search.new.chosen.items c.in_ok-search.field-0
    (subst (λ (n : ℕ). Searched holds n [] c.search.new.chosen.items c.in_ok-search.field-0) all
    (subst (λ (old : List Bool). Searched holds (c.saturating_sub-left.result + lanes_of circuit.total) old c.search.new.chosen.items c.in_ok-search.field-0) c.new-chosen.ensures.items c.in_ok-search.ensures)) c.if-branch.false
