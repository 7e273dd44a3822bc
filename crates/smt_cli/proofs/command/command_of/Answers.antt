use Rattle.smt_cli.proofs.Running.{unasked, unchecked}
use Rattle.smt_cli.proofs.command.command_of.Goals as goal

pub returns-in_default : goal.returns-in_default
returns-in_default c =
    unasked c.args.words.now c.word-item.result c.as_str.result.now c.in-len1.len_at_least c.in-len1.len_below c.word-item.is c.as_str.ensures.value c.in_default.not-script

pub returns-in_default-as_str : goal.returns-in_default-as_str
returns-in_default-as_str c =
    unchecked c.args.words.now c.word-item-2.result c.as_str-in-len2-up.result.now c.generate_of.result c.in-len2-up.len_at_least c.word-item-2.is c.as_str-in-len2-up.ensures.value c.in_default-as_str.not-check c.generate_of.ensures
