use Rattle.std.proofs.Common.{◌≡◌, ◌∙◌, ap, sym, arith}
use Rattle.law_texts.specs.Reading.{nesting}
use Rattle.smt_sexpr.specs.View.{lexeme_nesting, lists_in, plain}
use Rattle.smt_sexpr.proofs.TokenLists.{length_levels}
use Rattle.smt_sexpr.proofs.parse.step.Goals as goal

pub add-requires-clause-item_shallow : goal.add-requires-clause-item_shallow
add-requires-clause-item_shallow c =
    let flat : nesting (plain c.in-Atom.atom) ≡ 0 = ap lexeme_nesting (sym c.in-Atom.is) ∙ c.requires.atomic in
    let count = length_levels (lists_in c.args.lists.now.items) in
    let within = c.requires.shallow in
    omega arith
