use Rattle.smt_term.specs.Enums.{enums_of}
use Rattle.smt_term.specs.View.{plain_term}
use Rattle.smt_solve.specs.Session.{session_link, state_by}
use Rattle.smt_solve.specs.Starter.{command_of}
use Rattle.smt_review.specs.Reviews.{WhyNothingFound}
use Rattle.smt_review.proofs.Once.{by_was, not_reviewed}
use Rattle.smt_review.proofs.question.review_once.Goals as goal

pub returns-in_err-answer-in-Ok-finish-clause-refused : goal.returns-in_err-answer-in-Ok-finish-clause-refused
returns-in_err-answer-in-Ok-finish-clause-refused g c =
    let state = g.P.L.Link.state in
    let enums = enums_of c.args.enums.now in
    let t = plain_term c.args.a in
    let u = plain_term c.args.b in
    let error = c.in_err-answer-in-Ok-finish.field-0.0 in
    not_reviewed state (g.P.Starter.state c.args.starter.now) (g.P.Starter.state c.from_command.new.starter) (g.P.Starter.state c.finish.new.self) (command_of c.args.solver.now) enums c.args.relation t u
    (session_link c.in-Ok.session) (session_link c.ask_and_reset-answer.new.session) c.into_link.result c.in-Ok.session c.in-Ok.ensures.starts c.into_link.ensures c.in-Ok-finish.ensures.finishes c.in-Ok.ensures.unused
    c.from_residual.result error c.from_residual.ensures.1
    (by_was (λ e. WhyNothingFound enums c.args.relation t u e (state_by state c.in-Ok.session) (state_by state c.ask_and_reset-answer.new.session)) c.ask_and_reset-answer.result error c.in_err-answer-in-Ok-finish.was c.ask_and_reset-answer.ensures.refused)
