use Rattle.std.proofs.Common.{◌∙◌, ap, sym}
use Rattle.law_terms.specs.Meanings.{all_found, meanings}
use Rattle.smt_nodes.specs.Interned.{nodes_of}
use Rattle.smt_nodes.specs.Kinds.{are_called_at}
use Rattle.smt_nodes.specs.View.{place_of, places_of}
use Rattle.smt_nodes.proofs.Fitting.{called_fits, rest_decides}
use Rattle.smt_nodes.proofs.interner.Interner.are_called.Goals as goal

pub returns-then-is_function : goal.returns-then-is_function
returns-then-is_function c =
    c.are_terms.ensures ∙ (rest_decides _ _ _ (sym c.is_function.ensures ∙ c.if-is_function.true) (called_fits (meanings (nodes_of c.args.self.now)) (place_of c.in-Some.function.now) (places_of c.in-Some.args.now)) ∙ sym (ap (λ ids. are_called_at (all_found (meanings (nodes_of c.args.self.now)) (places_of ids))) c.in-Some.ensures.cases.0))
