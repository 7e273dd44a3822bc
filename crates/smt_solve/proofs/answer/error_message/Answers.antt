use Rattle.std.proofs.Common.{Some}
use Rattle.std.specs.Prelude.{codes}
use Rattle.std.proofs.lemmas.Bool.Decides.{Decides-eqb}
use Rattle.std.proofs.lemmas.Slice.Eq.{strip_prefix_is, strip_suffix_is}
use Rattle.smt_solve.proofs.QuestionLemmas.{error_in}
use Rattle.smt_solve.proofs.answer.error_message.Goals as goal

pub returns-in-Some : goal.returns-in-Some
returns-in-Some c =
    error_in c.args.text.now c.in-Some.rest.now c.strip_suffix.result
    (strip_prefix_is Decides-eqb c.args.text.now (codes "(error \"") (Some c.in-Some.rest) c.in-Some.ensures.cases)
    (strip_suffix_is Decides-eqb c.in-Some.rest.now (codes "\")") c.strip_suffix.result c.strip_suffix.ensures.cases)
