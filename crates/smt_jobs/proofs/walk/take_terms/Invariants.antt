use Rattle.std.proofs.Common.{◌≡◌, ◌≤◌, List, length}
use Rattle.law_texts.specs.Lexicon.{Token}
use Rattle.law_texts.specs.Reading.{Expressions}
use Rattle.law_jobs.specs.Declarations.{Declared}
use Rattle.smt_job_terms.specs.DeclarationView.{HasDeclared}
use Rattle.smt_jobs.specs.Walk.{BeginsInside, ReadsSome}
use Rattle.smt_jobs.proofs.Walking.{Taking}
use Rattle.smt_jobs.proofs.walk.take_terms.Given as goal

abbrev pub invariant-loop-after : goal.invariant-loop-after
invariant-loop-after g l = record {
  read : ReadsSome l.src l.depth l.rest;
  stated : (ds : Declared) → HasDeclared l.declared ds → (es : Expressions) (end : List Token) → BeginsInside l.depth es l.src end → Taking l.depth ds es end l.rest (g.T.StepSink.begun l.initial.out) (g.T.StepSink.begun l.out);
  taken : g.T.StepSink.taken l.out ≡ g.T.StepSink.taken l.initial.out;
  shorter : length l.rest ≤ length l.src;
}

abbrev pub decreases-loop-after : goal.decreases-loop-after
decreases-loop-after g l = length l.rest
