use Rattle.std.proofs.Common.{◌≡◌, drop}
use Rattle.law_verdicts.specs.Fragment.{have_names_alone}
use Rattle.smt_sexpr.specs.View.{plain_list}
use Rattle.smt_mini.proofs.within.+names.Given as goal

abbrev pub invariant-have_names_alone-loop-item : goal.invariant-have_names_alone-loop-item
invariant-have_names_alone-loop-item l =
    have_names_alone (plain_list (drop l.item-index l.items)) ≡ have_names_alone (plain_list l.items)
