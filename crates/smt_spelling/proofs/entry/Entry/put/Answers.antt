use Rattle.std.proofs.Common.{◌++◌, [], sym, ap, ◌∙◌}
use Rattle.law_texts.specs.LineTexts.{comment_text, declare_const_text, define_fun_text}
use Rattle.smt_script.proofs.PutsLemmas.{along, exits, stops, then}
use Rattle.smt_spelling.specs.Entries.{entry_bytes}
use Rattle.smt_spelling.specs.declared.entry.Entry.{Entry}
use Rattle.smt_spelling.proofs.entry.Entry.put.Goals as goal

pub returns-in_err-comment-in-Constant : goal.returns-in_err-comment-in-Constant
returns-in_err-comment-in-Constant g c =
    let line = declare_const_text c.args.name.now c.args.sort.now in
    let same = ap (λ b. comment_text b ++ line) c.as_str.ensures.value ∙ ap (λ (e : Entry). entry_bytes e c.args.name.now c.args.sort.now) (sym c.in-Constant.is) in
    exits c.from_residual.ensures.1 (along same (stops line c.in_err-comment-in-Constant.ensures))

pub returns-in_ok-comment-in-Constant : goal.returns-in_ok-comment-in-Constant
returns-in_ok-comment-in-Constant g c =
    let line = declare_const_text c.args.name.now c.args.sort.now in
    let same = ap (λ b. comment_text b ++ line) c.as_str.ensures.value ∙ ap (λ (e : Entry). entry_bytes e c.args.name.now c.args.sort.now) (sym c.in-Constant.is) in
    along same (then line c.in_ok-comment-in-Constant.ensures c.declare_const.ensures)

pub returns-in-Body : goal.returns-in-Body
returns-in-Body g c =
    along (ap (λ b. define_fun_text c.args.name.now [] c.args.sort.now b) c.as_str-in-Body.ensures.value ∙ ap (λ (e : Entry). entry_bytes e c.args.name.now c.args.sort.now) (sym c.in-Body.is)) c.define_fun.ensures
