use Rattle.std.proofs.Common.{◌∙◌, sym}
use Rattle.law_texts.proofs.Blanks.{some_from}
use Rattle.std.proofs.Math.Nat.{mod-eq_of_lt}
use Rattle.smt_sexpr.proofs.Digits.{literal_below}
use Rattle.smt_sexpr.proofs.number.literal.Goals as goal

pub returns-clause-found : goal.returns-clause-found
returns-clause-found c =
    let w = c.in-Some-width_of_digits.ensures in
    record {
      width = c.of_nat.ensures.width ∙ w.found;
      number = c.of_nat.ensures.value ∙ mod-eq_of_lt (literal_below c.args.base c.args.bits c.in-Some.value _ c.args.digits.now c.requires.base_is c.requires.below c.in-Some.ensures.1 w.found) ∙ c.in-Some.ensures.1;
      some = some_from c.args.digits.now (sym c.if-is_empty.ensures);
      held = w.held;
    }
