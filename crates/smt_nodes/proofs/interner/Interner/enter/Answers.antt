use Rattle.std.proofs.Common.{sym, ap, ◌∙◌}
use Rattle.std.proofs.lemmas.Result.{IfOk-weaker}
use Rattle.std.specs.Prelude.{option_and_then}
use Rattle.law_terms.specs.Meanings.{stands_for}
use Rattle.law_terms.proofs.Distinct.{fit_has}
use Rattle.smt_nodes.proofs.Labels.{found_means}
use Rattle.smt_nodes.specs.Index.{node_of}
use Rattle.smt_nodes.specs.Interned.{nodes_of}
use Rattle.smt_nodes.specs.View.{plain_label}
use Rattle.smt_nodes.proofs.interner.Interner.enter.Goals as goal

pub returns-in-Some-clause-meaning : goal.returns-in-Some-clause-meaning
returns-in-Some-clause-meaning c ps h =
    let s = c.args.self.now in
    let m = found_means (nodes_of s) s.graph (node_of c.args.label c.args.parts.now) c.in_ok-id.field-0 c.in-Some.id c.in-Some.is (c.in_ok-id.ensures.found c.args.label c.first_of-first.ensures.first) in
    m.1 ∙ (sym m.2 ∙ ap (option_and_then (stands_for (plain_label c.args.label))) h)

pub returns-in-Some-clause-meant : goal.returns-in-Some-clause-meant
returns-in-Some-clause-meant c =
    let s = c.args.self.now in
    let m = found_means (nodes_of s) s.graph (node_of c.args.label c.args.parts.now) c.in_ok-id.field-0 c.in-Some.id c.in-Some.is (c.in_ok-id.ensures.found c.args.label c.first_of-first.ensures.first) in
    (m.0, m.1)

pub returns-clause-meant : goal.returns-clause-meant
returns-clause-meant c =
    let m = fit_has (nodes_of c.args.self.now) _ (sym c.fits.ensures ∙ c.if-not-fits.false) in
    IfOk-weaker c.enter_new.result _ _ (λ id e. (m.0, e ∙ m.1)) c.enter_new.ensures.meaning
