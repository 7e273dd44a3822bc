use Rattle.std.proofs.Common.{map, ◌∙◌, sym}
use Rattle.std.specs.Str.{chars}
use Rattle.smt_term.specs.PatternView.{plain_part}
use Rattle.smt_term.proofs.PatternSearch.{first_place, place_ends}
use Rattle.smt_term.proofs.pattern.first_place.Goals as goal

pub returns-in-Continues-clause-same : goal.returns-in-Continues-clause-same
returns-in-Continues-clause-same c =
    first_place (map plain_part c.args.elems.now) (chars c.starts.start.now) (map plain_part c.in-Continues.behind.now) (chars c.in-Continues.rest.now) c.in-Continues.ensures.0 ∙ c.starts.invariant.same

pub returns-in-Ends-clause-same : goal.returns-in-Ends-clause-same
returns-in-Ends-clause-same c = sym (place_ends (map plain_part c.args.elems.now) (chars c.starts.start.now) c.in-Ends.ensures) ∙ c.starts.invariant.same
