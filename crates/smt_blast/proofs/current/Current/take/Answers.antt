use Rattle.std.proofs.Common.{◌∷◌, ap, refl, subst}
use Rattle.smt_jobs.specs.Numbers.{step_by, terms_of}
use Rattle.smt_runs.proofs.StepCalls.{assertion_stands}
use Rattle.smt_blast.specs.Current.{LeadsTo}
use Rattle.smt_blast.specs.declared.current.Current.{Current}
use Rattle.smt_blast.proofs.Taking.{asserts}
use Rattle.smt_blast.proofs.current.Current.take.Goals as goal

pub returns-in_ok-extend_from_slice-in-Assert : goal.returns-in_ok-extend_from_slice-in-Assert
returns-in_ok-extend_from_slice-in-Assert c nodes rest ts stands h =
    let old = c.args.self.now in
    let new : Current = record { ids = c.extend_from_slice.new.self; counts = old.counts } in
    let us = terms_of nodes c.in-Assert.ids.items in
    asserts nodes old new rest ts c.as_slice.result.now us
    (assertion_stands nodes c.args.step.now c.in-Assert.ids c.as_slice.result.now c.in-Assert.is stands c.as_slice.ensures.value)
    c.in_ok-extend_from_slice-in-Assert.ensures.items refl
    (subst (λ s. LeadsTo nodes old (s ∷ rest) ts) (ap (step_by nodes) c.in-Assert.is) h)
