use Rattle.std.proofs.Common.{sym, ◌∙◌}
use Rattle.std.proofs.lemmas.Option.{IfSome_then}
use Rattle.smt_sexpr.proofs.Fronts.{behind_blanks, where_none}
use Rattle.smt_sexpr.proofs.Missing.{no_symbol, no_utf8}
use Rattle.smt_sexpr.proofs.front_atoms.name_at.Goals as goal

pub returns-then-begins_name-clause-found : goal.returns-then-begins_name-clause-found
returns-then-begins_name-clause-found c =
    IfSome_then c.symbol.result c.symbol.ensures.found
    (λ x f. behind_blanks c.args.src.now c.without_blanks-text.result.now x.1.now _ c.without_blanks-text.ensures.blank f)

pub returns-then-begins_name-clause-none : goal.returns-then-begins_name-clause-none
returns-then-begins_name-clause-none c =
    where_none c.symbol.result c.symbol.ensures.none (λ fault name rest h. no_utf8 c.args.src.now c.without_blanks-text.result.now name rest c.without_blanks-text.ensures.blank c.without_blanks-text.ensures.first h fault)

pub returns-else-begins_name-clause-none : goal.returns-else-begins_name-clause-none
returns-else-begins_name-clause-none c =
    λ name rest h. no_symbol c.args.src.now c.without_blanks-text.result.now name rest c.without_blanks-text.ensures.blank c.without_blanks-text.ensures.first h (sym c.begins_name.ensures ∙ c.if-begins_name.false)
