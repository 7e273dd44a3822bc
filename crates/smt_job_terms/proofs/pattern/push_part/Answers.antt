use Rattle.std.proofs.Common.{List, ◌++◌, ◌≡◌, ℕ, map, subst}
use Rattle.std.specs.Prelude.{OnOk}
use Rattle.std.specs.Str.{chars}
use Rattle.smt_term.specs.PatternView.{plain_part}
use Rattle.law_terms.specs.Plain.{Character}
use Rattle.smt_job_terms.proofs.PatternsRead.{appended, string_parts}
use Rattle.smt_job_terms.proofs.pattern.push_part.Goals as goal

pub returns-in-String : goal.returns-in-String
returns-in-String c =
    appended c.args.elems.now c.push_characters.new.elems _ _ c.push_characters.result (string_parts c.args.expression.now c.in-String.text c.in-String.is)
    (subst (λ (text : List ℕ). OnOk c.push_characters.result (map plain_part c.push_characters.new.elems.items ≡ map plain_part c.args.elems.now.items ++ map Character (chars text))) c.as_str.ensures.value c.push_characters.ensures.pushed)
    c.push_characters.ensures.refusal
