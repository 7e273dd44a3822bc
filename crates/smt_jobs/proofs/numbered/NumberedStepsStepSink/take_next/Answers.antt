use Rattle.std.proofs.Common.{Bor, List, ℕ, Option, subst}
use Rattle.std.specs.Prelude.{IfSome, is_ok}
use Rattle.smt_nodes.specs.declared.id.NodeId.{NodeId}
use Rattle.smt_jobs.specs.Direct.{IsConditionNumbered, ReadsOf}
use Rattle.smt_jobs.proofs.NumberedLemmas.{one_taken, or_stand, same_steps, same_terms, steps_still_stand, still_stand}
use Rattle.smt_jobs.proofs.numbered.NumberedStepsStepSink.take_next.Goals as goal

pub invariant_of-self : goal.invariant_of-self
invariant_of-self c = record {
  stand = steps_still_stand c.args.self.now.nodes c.condition_at.new.nodes c.args.self.now.steps.items c.condition_at.ensures.kept c.args.self.now.stand;
  begun_stand = still_stand c.args.self.now.nodes c.condition_at.new.nodes c.args.self.now.begun.items c.condition_at.ensures.kept c.args.self.now.begun_stand;
}

pub invariant_of-self-in-Some : goal.invariant_of-self-in-Some
invariant_of-self-in-Some c =
    let one = subst (λ (o : Option (NodeId × Bor (List ℕ))). IfSome o (λ x. ReadsOf (IsConditionNumbered c.args.declared.now c.condition_at.new.nodes x.0) c.args.src.now c.args.depth x.1.now)) c.in-Some.is c.in_ok-id.ensures.read in
    record {
      stand = steps_still_stand c.args.self.now.nodes c.condition_at.new.nodes c.args.self.now.steps.items c.condition_at.ensures.kept c.args.self.now.stand;
      begun_stand = or_stand (is_ok c.push.result) c.args.self.now.nodes c.condition_at.new.nodes c.args.self.now.begun.items c.push.new.self.items c.in-Some.id one.is_so.0 c.condition_at.ensures.kept c.args.self.now.begun_stand c.push.ensures.items one.is_so.1;
    }

pub invariant_of-self-in-None : goal.invariant_of-self-in-None
invariant_of-self-in-None c = record {
  stand = steps_still_stand c.args.self.now.nodes c.condition_at.new.nodes c.args.self.now.steps.items c.condition_at.ensures.kept c.args.self.now.stand;
  begun_stand = still_stand c.args.self.now.nodes c.condition_at.new.nodes c.args.self.now.begun.items c.condition_at.ensures.kept c.args.self.now.begun_stand;
}

pub returns-in_ok-push-in-Some-clause-read : goal.returns-in_ok-push-in-Some-clause-read
returns-in_ok-push-in-Some-clause-read c =
    let one = subst (λ (o : Option (NodeId × Bor (List ℕ))). IfSome o (λ x. ReadsOf (IsConditionNumbered c.args.declared.now c.condition_at.new.nodes x.0) c.args.src.now c.args.depth x.1.now)) c.in-Some.is c.in_ok-id.ensures.read in
    record {
      read = one.read;
      span = one.span;
      shallow = one.shallow;
      is_so = (
        one.is_so.0,
        one_taken c.args.self.now.nodes c.condition_at.new.nodes c.args.self.now.begun.items c.push.new.self.items c.in-Some.id one.is_so.0 c.condition_at.ensures.kept c.args.self.now.begun_stand c.in_ok-push-in-Some.ensures.items one.is_so.1,
        one.is_so.2,
      );
    }

pub returns-in_ok-push-in-Some-clause-taken : goal.returns-in_ok-push-in-Some-clause-taken
returns-in_ok-push-in-Some-clause-taken c = same_steps c.args.self.now.nodes c.condition_at.new.nodes c.args.self.now.steps.items c.condition_at.ensures.kept c.args.self.now.stand

pub returns-in-None-clause-unread : goal.returns-in-None-clause-unread
returns-in-None-clause-unread c = same_terms c.args.self.now.nodes c.condition_at.new.nodes c.args.self.now.begun.items c.condition_at.ensures.kept c.args.self.now.begun_stand

pub returns-in-None-clause-taken : goal.returns-in-None-clause-taken
returns-in-None-clause-taken c = same_steps c.args.self.now.nodes c.condition_at.new.nodes c.args.self.now.steps.items c.condition_at.ensures.kept c.args.self.now.stand
