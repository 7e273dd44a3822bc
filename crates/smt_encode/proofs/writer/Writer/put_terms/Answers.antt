use Rattle.std.proofs.Common.{map, ap, refl, subst, sym, ◌∙◌}
use Rattle.law_terms.specs.Meanings.{all_found, meanings}
use Rattle.smt_nodes.specs.declared.interner.Interner.{Interner}
use Rattle.smt_nodes.specs.Interned.{nodes_of, KeepsMeanings}
use Rattle.smt_nodes.specs.View.{places_of}
use Rattle.smt_term.specs.View.{plain_term}
use Rattle.smt_spelling.specs.Names.{enums_under}
use Rattle.smt_spelling.specs.NodeTexts.{StandFor}
use Rattle.smt_encode.proofs.Cut.{script_unput, stopped_here}
use Rattle.smt_encode.proofs.OneCall.{if_err_is, levels_stay}
use Rattle.smt_encode.proofs.Scripted.{wrote_here}
use Rattle.smt_encode.proofs.Stopping.{never, none_of_it}
use Rattle.smt_encode.proofs.writer.Writer.put_terms.Goals as goal

pub returns-clause-lines : goal.returns-clause-lines
returns-clause-lines g c s has =
    let ts = map plain_term c.args.terms.now in
    let stand : StandFor c.intern.new.self.nodes c.as_slice.result.now ts = ap (λ l. all_found (meanings (nodes_of c.intern.new.self.nodes)) (places_of l)) c.as_slice.ensures.value ∙ c.in_ok-ids.ensures.meanings in
    wrote_here g.S.Sink.contents c.args.self.now _ c.put_uncounted.new.self c.args.begun ts s c.put_uncounted.result refl c.intern.ensures.enums (c.put_uncounted.ensures.lines ts stand s (c.intern.ensures.tables s has))

pub returns-clause-written : goal.returns-clause-written
returns-clause-written g c =
    let ts = map plain_term c.args.terms.now in
    let nodes = c.intern.new.self.nodes in
    let mine : StandFor nodes c.as_slice.result.now ts = ap (λ l. all_found (meanings (nodes_of nodes)) (places_of l)) c.as_slice.ensures.value ∙ c.in_ok-ids.ensures.meanings in
    c.put_uncounted.ensures.written ts mine

pub returns-in_err-ids-clause-stopped : goal.returns-in_err-ids-clause-stopped
returns-in_err-ids-clause-stopped g c s has =
    let ts = map plain_term c.args.terms.now in
    if_err_is _ c.from_residual.result _ c.from_residual.ensures.1
    (script_unput (enums_under c.args.self.now.names) c.args.begun s ts c.args.self.now _ _ s (none_of_it (g.S.Sink.contents c.args.self.now.script) _ _ refl) never (c.intern.ensures.tables s has))

pub returns-clause-stopped : goal.returns-clause-stopped
returns-clause-stopped g c s has =
    let ts = map plain_term c.args.terms.now in
    let stand : StandFor c.intern.new.self.nodes c.as_slice.result.now ts = ap (λ l. all_found (meanings (nodes_of c.intern.new.self.nodes)) (places_of l)) c.as_slice.ensures.value ∙ c.in_ok-ids.ensures.meanings in
    stopped_here g.S.Sink.contents c.args.begun s _ _ c.args.self.now _ c.put_uncounted.new.self ts c.put_uncounted.result refl c.intern.ensures.enums (c.put_uncounted.ensures.stopped ts s stand (c.intern.ensures.tables s has))

pub returns-clause-numbers : goal.returns-clause-numbers
returns-clause-numbers g c = subst (λ (i : Interner). KeepsMeanings c.args.self.now.names.nodes i) (sym c.put_uncounted.ensures.nodes) c.intern.ensures.kept

pub returns-clause-levels : goal.returns-clause-levels
returns-clause-levels g c below keep =
    levels_stay c.intern.new.self c.put_uncounted.new.self.names below c.put_uncounted.ensures.cause.held.enums c.put_uncounted.ensures.nodes c.put_uncounted.ensures.levels (c.intern.ensures.levels below keep)
