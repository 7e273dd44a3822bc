use Rattle.std.proofs.Common.{[], ◌∷◌, subst, sym}
use Rattle.std.proofs.lemmas.Option.{IfSome_then}
use Rattle.std.proofs.lemmas.Str.{encodes-IsAscii}
use Rattle.law_texts.specs.Lexicon.{Text, Word}
use Rattle.smt_sexpr.specs.Pieces.{StandsFor}
use Rattle.smt_sexpr.proofs.Fronts.{behind_blanks, where_any, where_none}
use Rattle.smt_sexpr.proofs.Missing.{no_plain_inside, no_quote_opens}
use Rattle.smt_sexpr.proofs.front_atoms.plain_text_at.Goals as goal

pub returns-clause-found : goal.returns-clause-found
returns-clause-found c =
    IfSome_then c.plain_text.result c.plain_text.ensures.found
    (λ x f. behind_blanks c.args.src.now c.without_blanks.result.now x.1.now (Word (Text x.0.now) ∷ []) c.without_blanks.ensures.blank
    (subst (λ v. StandsFor (Word (Text x.0.now) ∷ []) v x.1.now) (sym c.in_ok-behind.ensures.found) f))

pub returns-clause-encoded : goal.returns-clause-encoded
returns-clause-encoded c = IfSome_then c.plain_text.result c.plain_text.ensures.ascii (λ x h. encodes-IsAscii x.0.now h)

pub returns-in_err-behind-clause-none : goal.returns-in_err-behind-clause-none
returns-in_err-behind-clause-none c =
    where_any c.from_residual.result (λ text rest h. no_quote_opens c.args.src.now c.without_blanks.result.now text rest c.without_blanks.ensures.blank c.without_blanks.ensures.first h c.in_err-behind.ensures.none)

pub returns-clause-none : goal.returns-clause-none
returns-clause-none c =
    where_none c.plain_text.result c.plain_text.ensures.none
    (λ none text rest h. no_plain_inside c.args.src.now c.without_blanks.result.now text rest c.without_blanks.ensures.blank c.without_blanks.ensures.first h c.in_ok-behind.field-0.now c.in_ok-behind.ensures.found none)
