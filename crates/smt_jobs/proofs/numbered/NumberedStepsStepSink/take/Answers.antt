use Rattle.std.specs.Prelude.{is_ok}
use Rattle.smt_jobs.proofs.NumberedLemmas.{one_taken, or_stand, same_steps, steps_still_stand, still_stand}
use Rattle.smt_jobs.proofs.numbered.NumberedStepsStepSink.take.Goals as goal

pub invariant_of-self : goal.invariant_of-self
invariant_of-self c = record {
  stand = steps_still_stand c.args.self.now.nodes c.intern.new.self c.args.self.now.steps.items c.intern.ensures.kept c.args.self.now.stand;
  begun_stand = still_stand c.args.self.now.nodes c.intern.new.self c.args.self.now.begun.items c.intern.ensures.kept c.args.self.now.begun_stand;
}

pub invariant_of-self-2 : goal.invariant_of-self-2
invariant_of-self-2 c = record {
  stand = steps_still_stand c.args.self.now.nodes c.intern.new.self c.args.self.now.steps.items c.intern.ensures.kept c.args.self.now.stand;
  begun_stand = or_stand (is_ok c.push.result) c.args.self.now.nodes c.intern.new.self c.args.self.now.begun.items c.push.new.self.items c.in_ok-id.id _ c.intern.ensures.kept c.args.self.now.begun_stand c.push.ensures.items c.in_ok-id.ensures.meaning;
}

pub returns : goal.returns
returns c = record {
  begun = one_taken c.args.self.now.nodes c.intern.new.self c.args.self.now.begun.items c.push.new.self.items c.in_ok-id.id _ c.intern.ensures.kept c.args.self.now.begun_stand c.in_ok-push.ensures.items c.in_ok-id.ensures.meaning;
  taken = same_steps c.args.self.now.nodes c.intern.new.self c.args.self.now.steps.items c.intern.ensures.kept c.args.self.now.stand;
}
