use Rattle.std.proofs.Common.{map, ◌∙◌, ◌≡◌, List, subst}
use Rattle.std.specs.Prelude.{OnOk}
use Rattle.smt_solve.specs.Session.{session_link}
use Rattle.smt_solve.specs.Starter.{add_told}
use Rattle.smt_solve.specs.declared.session.LocalSolver.{LocalSolver}
use Rattle.smt_solve.specs.declared.starter.StartError.TheVariants.{Memory}
use Rattle.smt_pool.specs.Sessions.{add_all}
use Rattle.smt_pool.proofs.Starting.{allows_then, refused_more, returned_more}
use Rattle.smt_pool.proofs.sessions.finish_sessions.Goals as goal

pub loop-session-preserved : goal.loop-session-preserved
loop-session-preserved g c =
    let between = (g.P.Starter.state c.loop-session.starter).returned in
    let new = (g.P.Starter.state c.finish.new.self).returned in
    let whole = add_all (g.P.Starter.state c.args.starter.now).returned (map (session_link {L = g.row.P-L.Denot}) c.args.sessions.items) in
    let left = subst (λ (xs : List (LocalSolver g.row.P-L.Denot)). OnOk c.loop-session.done (add_all between (map (session_link {L = g.row.P-L.Denot}) xs) ≡ whole)) c.in-Some.ensures.items c.loop-session.invariant.returned in
    let came = subst (λ (x : g.row.P-L.Denot). OnOk c.finish.result (new ≡ add_told between x)) c.into_link.ensures c.finish.ensures.finishes.ok in
    record {
      returned = returned_more between new whole (session_link c.in-Some.session) (map (session_link {L = g.row.P-L.Denot}) c.pop_front.new.self.items) c.loop-session.done c.finish.result c.and-done.result c.and-done.ensures left came;
      refusal = refused_more c.loop-session.done c.finish.result c.and-done.result Memory c.and-done.ensures c.loop-session.invariant.refusal c.finish.ensures.finishes.refusal;
      same_commands = c.finish.ensures.finishes.same_commands ∙ c.loop-session.invariant.same_commands;
      same_failed_starts = c.finish.ensures.finishes.same_failed_starts ∙ c.loop-session.invariant.same_failed_starts;
      allows = allows_then (g.P.Starter.allows c.args.starter.now) (g.P.Starter.allows c.loop-session.starter) (g.P.Starter.allows c.finish.new.self) c.loop-session.invariant.allows c.finish.ensures.allows;
    }
