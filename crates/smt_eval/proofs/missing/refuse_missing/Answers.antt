use Rattle.std.proofs.Common.{Err, option_map, map, refl, sym, ap, ◌∙◌}
use Rattle.std.specs.List.{find}
use Rattle.std.specs.Rc.{rc_str_bytes}
use Rattle.law_assignments.specs.Covered.{asked}
use Rattle.law_assignments.specs.Inputs.{unless_missing}
use Rattle.law_assignments.specs.Outcomes.{MissingEntry}
use Rattle.smt_term.specs.View.{plain_term}
use Rattle.smt_eval.specs.AssignmentView.{plain_assignment}
use Rattle.smt_eval.proofs.Parts.{is_missing, reached_within}
use Rattle.smt_eval.proofs.missing.refuse_missing.Goals as goal

pub returns-in_ok-asked-in-Some : goal.returns-in_ok-asked-in-Some
returns-in_ok-asked-in-Some c =
    let h = rw c.in-Some.is at c.in_ok-term.ensures.missing in (
      MissingEntry (rc_str_bytes c.in_ok-asked-in-Some.field-0),
      refl,
      ap (λ o. unless_missing (option_map asked o)) (ap (find (is_missing (plain_assignment c.args.given.now))) (reached_within (map plain_term c.args.terms.now)) ∙ sym h)
          ∙ ap (λ n. Err (MissingEntry n)) (sym c.in_ok-asked-in-Some.ensures.asked),
    )

pub returns-in-None : goal.returns-in-None
returns-in-None c =
    let h = rw c.in-None.is at c.in_ok-term.ensures.missing in
    ap (λ o. unless_missing (option_map asked o)) (ap (find (is_missing (plain_assignment c.args.given.now))) (reached_within (map plain_term c.args.terms.now)) ∙ sym h)
