use Rattle.std.proofs.Common.{◌∙◌, ap}
use Rattle.std.proofs.Math.Utf8.{scalars}
use Rattle.std.specs.Rc.{rc_str_bytes}
use Rattle.std.specs.Str.{chars}
use Rattle.law_texts.specs.Lexicon.{decoded}
use Rattle.smt_sexpr.specs.View.{plain-String}
use Rattle.smt_sexpr.proofs.Atoms.{string_stands}
use Rattle.smt_sexpr.proofs.token.split_string.Goals as goal

pub returns-clause-found : goal.returns-clause-found
returns-clause-found c =
    let q = rw c.in-Some.is at c.in_ok-text.ensures.found in
    let f = rw c.in-Some-2.is at c.in_ok-characters.ensures.found in
    let s = rw c.in-Some-2.is at c.in_ok-characters.ensures.held in
    rw plain-String (string_stands c.args.src.now c.in-Some.text.items c.in-Some.rest.now (chars (rc_str_bytes c.in_ok-characters-2.characters)) q
    (ap chars c.in_ok-characters-2.ensures.ok ∙ f ∙ ap (decoded 0) c.as_slice.ensures.value)
    (s ∙ ap (λ v. scalars (decoded 0 v)) c.as_slice.ensures.value))
