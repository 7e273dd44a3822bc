use Rattle.std.proofs.Common.{◌++◌, ap, sym}
use Rattle.std.proofs.Output.{has_written_of_eq}
use Rattle.std.proofs.lemmas.Str.{encodes-chars}
use Rattle.std.specs.Prelude.{codes}
use Rattle.smt_sexpr.proofs.printed.put_string.Goals as goal

pub returns : goal.returns
returns g c plain ok =
    has_written_of_eq _ _ _ _ _ (ap (λ l. codes "\"" ++ (l ++ codes "\"")) (sym (encodes-chars c.args.text.now c.utf8.text))) (c.write.ensures.writes plain ok)
