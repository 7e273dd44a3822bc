use Rattle.std.proofs.Common.{◌≡◌, ◌<◌, ◌-◌, arith}
use Rattle.smt_mini.proofs.Searching.{at_end, chosen_row, dropped, first_before, second_before, seen_alive}
use Rattle.smt_mini.specs.Search.{all_hold, lanes_of}
use Rattle.smt_mini.proofs.search.+search.Goals as goal

pub search-returns-then-alive-eq0 : goal.search-returns-then-alive-eq0
search-returns-then-alive-eq0 t c =
    let circuit = c.args.circuit.now in
    dropped circuit.gates.now circuit.assertions.now circuit.total c.args.left c.in_ok-alive.alive c.args.chosen.now.items c.requires
    (seen_alive circuit.gates.now circuit.assertions.now circuit.total c.in_ok-alive.alive c.as_slice.result.now c.args.chosen.now.items c.as_slice.ensures.value c.in_ok-alive.ensures) c.if-alive-eq0.true

pub search-returns-then-left-eq0 : goal.search-returns-then-left-eq0
search-returns-then-left-eq0 t c =
    let circuit = c.args.circuit.now in
    let lanes : circuit.total - c.len.result ≡ lanes_of circuit.total = omega (arith, c.requires, c.len.ensures, c.if-left-eq0.true) in
    at_end circuit.gates.now circuit.assertions.now circuit.total c.args.left c.in_ok-alive.alive c.least.result c.args.chosen.now.items c.push_row.new.chosen.items c.requires
    (seen_alive circuit.gates.now circuit.assertions.now circuit.total c.in_ok-alive.alive c.as_slice.result.now c.args.chosen.now.items c.as_slice.ensures.value c.in_ok-alive.ensures)
    c.least.ensures.row c.least.ensures.among c.least.ensures.least c.if-left-eq0.true
    (chosen_row c.push_row.new.chosen.items c.args.chosen.now.items (circuit.total - c.len.result) (lanes_of circuit.total) c.least.result c.in_ok-push_row.ensures lanes)

pub search-returns-then-branch : goal.search-returns-then-branch
search-returns-then-branch t c =
    let circuit = c.args.circuit.now in
    let some : 0 < c.args.left = omega arith in
    first_before (all_hold circuit.gates.now circuit.assertions.now) c.args.left (lanes_of circuit.total) c.args.chosen.now.items c.search_with.new.chosen.items _ some c.in_ok-search_with.ensures c.if-branch.true

pub search-returns : goal.search-returns
search-returns t c =
    let circuit = c.args.circuit.now in
    let some : 0 < c.args.left = omega arith in
    second_before (all_hold circuit.gates.now circuit.assertions.now) c.args.left (lanes_of circuit.total) c.args.chosen.now.items c.search_with.new.chosen.items c.search_with-2.new.chosen.items _ c.search_with-2.result some c.in_ok-search_with.ensures c.if-branch.false c.search_with-2.ensures
