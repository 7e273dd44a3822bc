use Rattle.std.proofs.Common.{◌+◌, ◌*◌}
use Rattle.smt_mini.proofs.search.+search.Given as goal

abbrev pub decreases-search : goal.decreases-search
decreases-search l = 2 * l.left

abbrev pub decreases-search_with : goal.decreases-search_with
decreases-search_with l = 2 * l.left + 1
