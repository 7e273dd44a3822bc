use Rattle.std.proofs.Common.{◌≡◌, map}
use Rattle.std.specs.Prelude.{IsOkUnless, OnOk}
use Rattle.std.specs.VecDeque.{deque_len}
use Rattle.smt_solve.specs.Link.{AllowsTheSame}
use Rattle.smt_solve.specs.Session.{session_link}
use Rattle.smt_solve.specs.declared.starter.StartError.TheVariants.{Memory}
use Rattle.smt_pool.specs.Sessions.{add_all}
use Rattle.smt_pool.proofs.sessions.finish_sessions.Given as goal

abbrev pub invariant-loop-session : goal.invariant-loop-session
invariant-loop-session g l = record {
  returned : OnOk l.done (add_all (g.P.Starter.state l.starter).returned (map session_link l.sessions.items) ≡ add_all (g.P.Starter.state l.initial.starter).returned (map session_link l.initial.sessions.items));
  refusal : IsOkUnless l.done Memory;
  same_commands : (g.P.Starter.state l.starter).commands ≡ (g.P.Starter.state l.initial.starter).commands;
  same_failed_starts : (g.P.Starter.state l.starter).failed_starts ≡ (g.P.Starter.state l.initial.starter).failed_starts;
  allows : AllowsTheSame (g.P.Starter.allows l.initial.starter) (g.P.Starter.allows l.starter);
}

abbrev pub decreases-loop-session : goal.decreases-loop-session
decreases-loop-session g l = deque_len l.sessions
