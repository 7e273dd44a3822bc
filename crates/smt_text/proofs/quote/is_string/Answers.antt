use Rattle.std.proofs.Common.{rules}
use borrow.Author.Tests.{tests}
use Rattle.std.proofs.lemmas.Iterator.{YieldsList-from_chars}
use Rattle.std.proofs.lemmas.Iterator.Search.{all_from_yields_List}
use Rattle.law_texts.specs.Characters.{is_code_point}
use Rattle.smt_text.proofs.quote.is_string.Goals as goal

pub returns : goal.returns
returns c = all_from_yields_List is_code_point _ _ _ c.all.ensures.ran (YieldsList-from_chars c.args.s.now c.utf8.s cc) (λ x b q k. search (rules, tests))
