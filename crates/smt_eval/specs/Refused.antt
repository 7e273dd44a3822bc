-- Which refusal of a run an error becomes.
use Rattle.smt_script.specs.declared.input.InputError.{InputError}
use Rattle.smt_script.specs.declared.input.InputError.TheVariants.{Fault as SourceFault, TooLarge as LongInput, Memory as InputWant}
use Rattle.smt_runs.specs.declared.refusal.InputRefusal.TheVariants as input
use Rattle.smt_runs.specs.declared.refusal.Refusal.{Refusal}
use Rattle.smt_runs.specs.declared.refusal.Refusal.TheVariants.{Input, Source, Memory}
use Rattle.smt_eval.specs.declared.error.EvalError.{EvalError}
use Rattle.smt_eval.specs.declared.error.EvalError.TheVariants as eval

-- where the source was not read whole
abbrev pub unread_refusal : InputError → Refusal
unread_refusal LongInput = Input input.TooLarge
unread_refusal SourceFault = Source
unread_refusal InputWant = Memory

-- where what was read is no job with an assignment
abbrev pub eval_refusal : EvalError → Refusal
eval_refusal eval.TooLarge = Input input.TooLarge
eval_refusal (eval.Parse fault) = Input input.Parse
eval_refusal eval.TooDeep = Input input.TooDeep
eval_refusal eval.BadForm = Input input.BadForm
eval_refusal (eval.Job error) = Input input.Job
eval_refusal (eval.UnknownName name) = Input input.UnknownName
eval_refusal (eval.DuplicateName name) = Input input.DuplicateName
eval_refusal (eval.NotValue name) = Input input.NotValue
eval_refusal (eval.Missing name) = Input input.Missing
eval_refusal eval.Memory = Memory
