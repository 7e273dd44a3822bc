use Rattle.std.proofs.Common.{ℕ, List, None, ap, refl, subst, sym, ◌∙◌}
use Rattle.std.specs.Io.KnownBytes.{append_known}
use Rattle.std.specs.Rc.{rc_str_bytes}
use Rattle.law_texts.specs.Reading.{Expression}
use Rattle.law_lines.specs.LineForms.{function_declaration}
use Rattle.law_lines.specs.Lines.{next_function}
use Rattle.law_terms.specs.Nodes.{FunctionMeaning}
use Rattle.smt_spelling.specs.Spelled.{IsSpelled}
use Rattle.smt_spelling.specs.NodeEntries.{declare_function}
use Rattle.smt_spelling.specs.Names.{KeepTables}
use Rattle.smt_spelling.specs.NodeLines.{with_name}
use Rattle.smt_encode.specs.Steps.{Wrote}
use Rattle.smt_encode.specs.Stopped.{OwnStopped}
use Rattle.smt_encode.proofs.Declared.{declaration_spelled, two_spelled}
use Rattle.smt_spelling.proofs.Named.{names_alone}
use Rattle.smt_encode.proofs.Stopping.{all_of_it, own_part, own_stops, own_unput, part_along}
use Rattle.smt_encode.proofs.writer.Writer.declare_function.Goals as goal

pub returns-clause-lines : goal.returns-clause-lines
returns-clause-lines g c f es s meant shown has =
    let t = two_spelled es c.args.sorts.now c.requires.two shown in
    let named = c.in_ok-name.ensures s (names_alone c.args.self.now.names s has) in
    let got = c.in_ok-declare_fun.ensures.ok ∙ ap (append_known (g.S.Sink.contents c.args.self.now.script)) (declaration_spelled _ (next_function s) _ _ t.argument t.output (c.as_str.ensures.value ∙ named) t.front (c.as_str-2.ensures.value ∙ ap rc_str_bytes c.index-sorts-1.is ∙ t.last c.index-sorts-1.result)) in
    let names = subst (λ (n : List ℕ). KeepTables c.enter_function.new.self (with_name s (FunctionMeaning f) n)) (c.in_ok-clone.ensures.cases ∙ named) (c.enter_function.ensures.tables s f has meant) in
    subst (λ (l : List Expression). Wrote g.S.Sink.contents c.args.self.now (record c.args.self.now { names = c.enter_function.new.self; script = c.declare_fun.new.self }) (declare_function f l s).lines (declare_function f l s).tables × IsSpelled (declare_function f l s).made c.in_ok-name.name) (sym t.whole)
    (record { names = names; contents_are = got }, named)

pub returns-in_err-name-clause-lines : goal.returns-in_err-name-clause-lines
returns-in_err-name-clause-lines g c f es s meant shown has = own_stops (declare_function f es s) IsSpelled _ c.from_residual.result c.from_residual.ensures.1 (own_unput c.args.self.now c.args.self.now _ s refl has)

pub returns-in_err-declare_fun-clause-lines : goal.returns-in_err-declare_fun-clause-lines
returns-in_err-declare_fun-clause-lines g c f es s meant shown has =
    let t = two_spelled es c.args.sorts.now c.requires.two shown in
    let named = c.in_ok-name.ensures s (names_alone c.args.self.now.names s has) in
    let bytes = declaration_spelled _ (next_function s) _ _ t.argument t.output (c.as_str.ensures.value ∙ named) t.front (c.as_str-2.ensures.value ∙ ap rc_str_bytes c.index-sorts-1.is ∙ t.last c.index-sorts-1.result) in
    let new = record c.args.self.now { script = c.declare_fun.new.self } in
    own_stops (declare_function f es s) IsSpelled _ c.from_residual-in_err-declare_fun.result c.from_residual-in_err-declare_fun.ensures.1
    (subst (λ (l : List Expression). OwnStopped g.S.Sink.contents None c.args.self.now new (declare_function f l s).lines) (sym t.whole)
    (own_part c.args.self.now new (function_declaration (next_function s) t.argument t.output) s (part_along _ _ _ _ bytes c.in_err-declare_fun.ensures.err) has))

pub returns-in_err-clone-clause-lines : goal.returns-in_err-clone-clause-lines
returns-in_err-clone-clause-lines g c f es s meant shown has =
    let t = two_spelled es c.args.sorts.now c.requires.two shown in
    let named = c.in_ok-name.ensures s (names_alone c.args.self.now.names s has) in
    let got = c.in_ok-declare_fun.ensures.ok ∙ ap (append_known (g.S.Sink.contents c.args.self.now.script)) (declaration_spelled _ (next_function s) _ _ t.argument t.output (c.as_str.ensures.value ∙ named) t.front (c.as_str-2.ensures.value ∙ ap rc_str_bytes c.index-sorts-1.is ∙ t.last c.index-sorts-1.result)) in
    let new = record c.args.self.now { script = c.declare_fun.new.self } in
    own_stops (declare_function f es s) IsSpelled _ c.from_residual-in_err-clone.result c.from_residual-in_err-clone.ensures.1
    (subst (λ (l : List Expression). OwnStopped g.S.Sink.contents None c.args.self.now new (declare_function f l s).lines) (sym t.whole)
    (own_part c.args.self.now new (function_declaration (next_function s) t.argument t.output) s (all_of_it _ _ _ got) has))
