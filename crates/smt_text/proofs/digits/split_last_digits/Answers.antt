use Rattle.law_texts.specs.Characters.{is_digit}
use Rattle.law_texts.proofs.Runs.{run_at_end}
use Rattle.smt_text.proofs.digits.split_last_digits.Goals as goal

pub returns : goal.returns
returns c = run_at_end is_digit c.args.text.now c.split_at.result.0.now c.split_at.result.1.now c.last_digits_len.result c.last_digits_len.ensures.value c.last_digits_len.ensures.within c.split_at.ensures.front c.split_at.ensures.back
