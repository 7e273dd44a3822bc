use Rattle.std.proofs.Common.{[], ◌∷◌, subst, sym}
use Rattle.law_texts.specs.Lexicon.{Name, Word}
use Rattle.smt_sexpr.specs.Pieces.{StandsFor}
use Rattle.smt_sexpr.specs.View.{plain-Symbol}
use Rattle.smt_sexpr.proofs.token.split_name.Goals as goal

pub returns-clause-found : goal.returns-clause-found
returns-clause-found c =
    rw plain-Symbol (subst (λ v. StandsFor (Word (Name v) ∷ []) c.args.src.now c.in-Some.rest.now) (sym c.in_ok-text.ensures.ok) c.in-Some.ensures.found)
