use Rattle.std.proofs.Common.{ap, sym, ◌∙◌, map}
use Rattle.std.specs.Rc.{rc_str_bytes}
use Rattle.law_scripts.specs.Script.{group}
use Rattle.law_lines.specs.Spelling.{spelled}
use Rattle.smt_spelling.specs.NodeEntries.{last_first}
use Rattle.smt_spelling.proofs.Calls.{split_last}
use Rattle.smt_spelling.proofs.Stated.{last_is_first}
use Rattle.smt_spelling.proofs.node_entry.call_entry.Goals as goal

pub returns-clause-text : goal.returns-clause-text
returns-clause-text c es shown =
    let p = split_last es c.pop.new.self.items c.in-Some.function (sym (ap (map rc_str_bytes) c.in-Some.ensures.items) ∙ shown) in
    c.in_ok-body-in-Some.ensures p.function p.rest (c.as_str.ensures.value ∙ p.function_spelled) (ap (map rc_str_bytes) c.as_slice.ensures.value ∙ p.rest_spelled)
    ∙ ap (λ l. spelled (group l)) (sym (last_is_first p.rest p.function) ∙ ap last_first (sym p.whole))
