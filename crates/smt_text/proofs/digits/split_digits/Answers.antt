use Rattle.law_texts.specs.Characters.{is_digit}
use Rattle.law_texts.proofs.Runs.{run_at}
use Rattle.smt_text.proofs.digits.split_digits.Goals as goal

pub returns : goal.returns
returns c = run_at is_digit c.args.text.now c.split_at.result.0.now c.split_at.result.1.now c.digits_len.result c.digits_len.ensures c.split_at.ensures.front c.split_at.ensures.back
