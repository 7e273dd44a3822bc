use Rattle.std.proofs.Common.{ap, refl, sym, ◌∙◌}
use Rattle.std.specs.Prelude.{option_map}
use Rattle.smt_stream.specs.Scanning.{plain_stop}
use Rattle.smt_stream.specs.declared.stream.Stage.TheVariants as stage
use Rattle.smt_stream.proofs.Talking.{stopped}
use Rattle.smt_stream.proofs.stream.Stream.go_on.Goals as goal

pub take_in-requires-clause-unbroken : goal.take_in-requires-clause-unbroken
take_in-requires-clause-unbroken c m = sym (c.breach.ensures m) ∙ ap (option_map plain_stop) c.in-None.is

pub returns-in-Some-clause-heard : goal.returns-in-Some-clause-heard
returns-in-Some-clause-heard c = stopped c.args.self.now (record c.args.self.now { stage = stage.Stopped }) c.args.byte c.in-Some.stop c.requires refl (λ m. sym (c.breach.ensures m) ∙ ap (option_map plain_stop) c.in-Some.is)
