use Rattle.std.proofs.Common.{◌≡◌, ◌≤◌, ◌-◌, length}
use Rattle.std.specs.VecDeque.{deque_capacity, deque_len}
use Rattle.smt_solve.specs.Link.{AllowsTheSame}
use Rattle.smt_solve.specs.Starter.{command_of}
use Rattle.smt_pool.specs.Sessions.{AreHonest, AreUnused, IsAsked}
use Rattle.smt_pool.proofs.sessions.start_sessions.Given as goal

abbrev pub invariant-loop-alloc : goal.invariant-loop-alloc
invariant-loop-alloc g l = record {
  asked : IsAsked (g.P.Starter.state l.initial.starter) (g.P.Starter.state l.starter) (command_of l.command) (length l.sessions.items);
  unused : AreUnused g.P.L.Link.state l.sessions.items;
  honest : AreHonest g.P.L.Link.allows (g.P.Starter.allows l.initial.starter) l.sessions.items;
  allows : AllowsTheSame (g.P.Starter.allows l.initial.starter) (g.P.Starter.allows l.starter);
  capacity : deque_capacity l.sessions ≡ deque_capacity l.initial.sessions;
  length_is : length l.sessions.items ≡ deque_len l.sessions;
  within : deque_len l.sessions ≤ l.count;
}

abbrev pub decreases-loop-alloc : goal.decreases-loop-alloc
decreases-loop-alloc g l = l.count - deque_len l.sessions
