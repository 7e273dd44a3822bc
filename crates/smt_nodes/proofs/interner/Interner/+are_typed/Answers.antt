use Rattle.std.proofs.Common.{sym, ap, ◌∙◌}
use Rattle.law_terms.specs.Meanings.{all_found, meanings}
use Rattle.smt_nodes.proofs.RecordFitting.{typed_else, typed_longer, typed_none, typed_then, types_split}
use Rattle.smt_nodes.specs.Interned.{nodes_of}
use Rattle.smt_nodes.specs.View.{place_of, places_of}
use Rattle.smt_nodes.proofs.interner.Interner.+are_typed.Goals as goal

pub returns-then-is_typed : goal.returns-then-is_typed
returns-then-is_typed t c us h =
    let ms = meanings (nodes_of c.args.self.now) in
    let (u, rest, e, f, g) = types_split ms (place_of c.in-Some-split_first.ty.now) (places_of c.in-Some-split_first.types.now) us (sym (ap (λ l. all_found ms (places_of l)) c.in-Some-split_first.ensures.cases.0) ∙ h) in
    typed_then ms c.args.terms.now c.in-Some.terms.now c.in-Some.term.now us rest u c.is_typed.result c.are_typed.result c.in-Some.ensures.cases.0 e (c.is_typed.ensures u f) c.if-is_typed.true (c.are_typed.ensures rest g)

pub returns-else-is_typed : goal.returns-else-is_typed
returns-else-is_typed t c us h =
    let ms = meanings (nodes_of c.args.self.now) in
    let (u, rest, e, f, g) = types_split ms (place_of c.in-Some-split_first.ty.now) (places_of c.in-Some-split_first.types.now) us (sym (ap (λ l. all_found ms (places_of l)) c.in-Some-split_first.ensures.cases.0) ∙ h) in
    typed_else ms c.args.terms.now c.in-Some.terms.now c.in-Some.term.now us rest u c.is_typed.result c.in-Some.ensures.cases.0 e (c.is_typed.ensures u f) c.if-is_typed.false

pub returns-in-None-split_first : goal.returns-in-None-split_first
returns-in-None-split_first t c us h =
    typed_longer (meanings (nodes_of c.args.self.now)) c.args.terms.now c.in-Some.terms.now c.args.types.now c.in-Some.term.now us c.in-Some.ensures.cases.0 c.in-None-split_first.ensures.cases h

pub returns-in-None : goal.returns-in-None
returns-in-None t c us h =
    typed_none (meanings (nodes_of c.args.self.now)) c.args.terms.now c.args.types.now us c.is_empty.result c.in-None.ensures.cases h c.is_empty.ensures
