use Rattle.std.proofs.Common.{◌∙◌}
use Rattle.std.specs.Str.{chars}
use Rattle.std.proofs.lemmas.Str.{scalars-chars}
use Rattle.law_texts.specs.Lexicon.{Text}
use Rattle.law_texts.specs.Reading.{Leaf}
use Rattle.smt_sexpr.specs.View.{plain}
use Rattle.smt_sexpr.proofs.QuotedTexts.{quoted_read, quoted_same}
use Rattle.smt_sexpr.proofs.laws.quoted_and_read.Goals as goal

pub returns-in-Ok-clause-same : goal.returns-in-Ok-clause-same
returns-in-Ok-clause-same c =
    let found = rw c.in-Ok-Some.field-0-is at c.in-Ok-Some.ensures.found in
    let some = rw c.in-Ok-Some.field-0-is at c.in-Ok-Some.ensures.some in
    quoted_same (chars c.args.s.now) c.as_bytes.result.now (plain c.in-Ok.expression) (c.as_bytes.ensures.value ∙ c.as_str.ensures.value ∙ found) some (scalars-chars c.args.s.now c.utf8.s) c.in-Ok.ensures.found

pub returns-in-Ok-Some-clause-error : goal.returns-in-Ok-Some-clause-error
returns-in-Ok-Some-clause-error c =
    let found = rw c.in-Ok-Some.field-0-is at c.in-Ok-Some.ensures.found in
    let some = rw c.in-Ok-Some.field-0-is at c.in-Ok-Some.ensures.some in
    c.in-Err-parse_sexpr.ensures.complete (Leaf (Text (chars c.args.s.now))) (quoted_read (chars c.args.s.now) c.as_bytes.result.now (c.as_bytes.ensures.value ∙ c.as_str.ensures.value ∙ found) some (scalars-chars c.args.s.now c.utf8.s))
