use Rattle.smt_cli.proofs.Running.{ungenerated}
use Rattle.smt_cli.proofs.command.generation_of.Goals as goal

pub returns-in_default-as_str : goal.returns-in_default-as_str
returns-in_default-as_str c =
    ungenerated c.args.words.now c.word-item.result c.as_str.result.now c.in-len3.len_at_least c.in-len3.len_below c.word-item.is c.as_str.ensures.value c.in_default-as_str.not-gen
