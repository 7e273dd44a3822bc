-- What a run does with an input.
use Rattle.std.proofs.Common.{◌≡◌, ◌∙◌, ℕ, List, Option, Bool, ap, subst, sym}
use Rattle.std.specs.Io.KnownBytes.{append_known}
use Rattle.std.specs.Prelude.{IfSome}
use Rattle.law_assignments.specs.InputLaws.{IsEvaluable}
use Rattle.law_assignments.specs.Inputs.{IsInput}
use Rattle.law_assignments.proofs.Inputs.{inputs_are_evaluable}
use Rattle.law_jobs.specs.Steps.{current}
use Rattle.law_jobs.proofs.Steps.{current_built}
use Rattle.smt_eval.specs.AssignmentView.{plain_assignment}
use Rattle.smt_eval.specs.declared.input.EvalInput.{EvalInput}
use Rattle.smt_jobs.specs.JobView.{plain_job}
use Rattle.smt_runs.proofs.Told.{of_told}
use Rattle.smt_eval.specs.Answers.{answer_text, current_terms, truths_in}
use Rattle.smt_runs.specs.Refusal.{sink_refusal}
use Rattle.smt_runs.specs.Runs.{Around}
use Rattle.smt_script.specs.declared.sink.SinkError.{SinkError}
use Rattle.smt_script.specs.declared.sink.SinkError.TheVariants.{Fault as SinkFault, Memory as SinkWant}
use Rattle.smt_eval.specs.Causes.{IsAnInput, WhyNotEvaluated}
use Rattle.smt_eval.specs.Run.{Evaluates, IsReadOf}
use Rattle.smt_eval.proofs.Meaning.{means_holds}

module _ (left : Option (List ℕ)) (input : EvalInput) (read : IsReadOf left input) where
  -- what was read can be evaluated
  pub read_evaluable : IsEvaluable (plain_job input.job) (plain_assignment input.given)
  read_evaluable = inputs_are_evaluable read.bytes (plain_job input.job) (plain_assignment input.given) read.is_built

  told_input : IfSome left (λ bytes. IsInput bytes read.is_built.written (plain_assignment input.given))
  told_input = of_told (λ told. told ≡ read.bytes) (λ bytes. IsInput bytes read.is_built.written (plain_assignment input.given)) left (λ bytes same. subst (λ (b : List ℕ). IsInput b read.is_built.written (plain_assignment input.given)) (sym same) read.is_built.is_input) read.told

  -- the terms that are current as the job was built are those that are current as it was written, built
  same_terms : current (plain_job input.job).steps ≡ current_terms read.is_built.written
  same_terms = ap (λ j. current j.steps) read.is_built.is_built ∙ current_built read.is_built.written.steps

  pub told_some : IfSome left IsAnInput
  told_some = of_told (λ bytes. IsInput bytes read.is_built.written (plain_assignment input.given)) IsAnInput left (λ bytes is. (read.is_built.written, plain_assignment input.given, is)) told_input

  -- the lines of the truths were put
  pub evaluates : (truths more : List Bool) (old new : Option (List ℕ)) → truths ≡ truths_in (plain_assignment input.given) (current (plain_job input.job).steps) → more ≡ truths → new ≡ append_known old (answer_text more) → IfSome left (Evaluates old new)
  evaluates truths more old new are same put =
      let printed : new ≡ append_known old (answer_text (truths_in (plain_assignment input.given) (current_terms read.is_built.written))) =
      put ∙ ap (λ bs. append_known old (answer_text bs)) (same ∙ are ∙ ap (truths_in (plain_assignment input.given)) same_terms) in
      of_told (λ bytes. IsInput bytes read.is_built.written (plain_assignment input.given)) (Evaluates old new) left (λ bytes is. record { job = read.is_built.written; given = plain_assignment input.given; is_input = is; printed = printed; means = means_holds bytes read.is_built.written (plain_assignment input.given) is }) told_input

-- what is known where the truths of an input were not put
pub unput_known : (before after : Around (Unit {0})) → IfSome before.left IsAnInput → (e : SinkError) → WhyNotEvaluated before after (sink_refusal e)
unput_known before after some SinkFault = some
unput_known before after some SinkWant = tt
