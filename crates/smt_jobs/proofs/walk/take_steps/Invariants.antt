use Rattle.std.proofs.Common.{◌≡◌, ◌+◌, ◌≤◌, List, [], length}
use Rattle.law_texts.specs.Lexicon.{Token}
use Rattle.law_texts.specs.Reading.{Expressions}
use Rattle.law_jobs.specs.Declarations.{Declared}
use Rattle.smt_job_terms.specs.DeclarationView.{HasDeclared}
use Rattle.smt_jobs.specs.Walk.{BeginsInside, ReadsSome}
use Rattle.smt_jobs.proofs.Walking.{Stepping}
use Rattle.smt_jobs.proofs.walk.take_steps.Given as goal

abbrev pub invariant-loop-after : goal.invariant-loop-after
invariant-loop-after g l = record {
  read : ReadsSome l.src 510 l.rest;
  stated : (ds : Declared) → HasDeclared l.declared ds → (es : Expressions) (end : List Token) → BeginsInside 510 es l.src end → Stepping ds es end l.rest l.levels (g.T.StepSink.taken l.initial.out) (g.T.StepSink.taken l.out);
  idle : g.T.StepSink.begun l.out ≡ [];
  few : l.levels + length l.rest ≤ length l.src;
}

abbrev pub decreases-loop-after : goal.decreases-loop-after
decreases-loop-after g l = length l.rest
