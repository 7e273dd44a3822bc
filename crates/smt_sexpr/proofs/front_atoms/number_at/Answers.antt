use Rattle.std.proofs.Common.{sym, ◌∙◌}
use Rattle.std.proofs.lemmas.Option.{IfSome_then}
use Rattle.smt_sexpr.proofs.Fronts.{behind_blanks, where_none}
use Rattle.smt_sexpr.proofs.Missing.{no_numeral, no_small_numeral}
use Rattle.smt_sexpr.proofs.front_atoms.number_at.Goals as goal

pub returns-then-begins_numeral-clause-found : goal.returns-then-begins_numeral-clause-found
returns-then-begins_numeral-clause-found c =
    IfSome_then c.numeral.result c.numeral.ensures.found
    (λ x f. behind_blanks c.args.src.now c.without_blanks-text.result.now x.1.now _ c.without_blanks-text.ensures.blank f)

pub returns-then-begins_numeral-clause-none : goal.returns-then-begins_numeral-clause-none
returns-then-begins_numeral-clause-none c =
    where_none c.numeral.result c.numeral.ensures.none (λ fault number rest h. no_small_numeral c.args.src.now c.without_blanks-text.result.now number rest c.without_blanks-text.ensures.blank c.without_blanks-text.ensures.first h fault)

pub returns-else-begins_numeral-clause-none : goal.returns-else-begins_numeral-clause-none
returns-else-begins_numeral-clause-none c =
    λ number rest h. no_numeral c.args.src.now c.without_blanks-text.result.now number rest c.without_blanks-text.ensures.blank c.without_blanks-text.ensures.first h (sym c.begins_numeral.ensures ∙ c.if-begins_numeral.false)
