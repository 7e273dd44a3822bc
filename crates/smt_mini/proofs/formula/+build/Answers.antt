use Rattle.std.proofs.Common.{◌≡◌, ap, sym, ◌∙◌, suc, ◌+◌, ◌∷◌, [], ◌++◌, subst, drop, take, IfOk, map, arith}
use Rattle.std.specs.Rc.{rc_str_bytes}
use Rattle.std.proofs.Math.Seq.{take-suc}
use Rattle.std.proofs.lemmas.List.{drop_more}
use Rattle.law_texts.specs.Reading.{Node}
use Rattle.law_scripts.specs.Script.{knows}
use Rattle.law_verdicts.specs.Fragment as fragment
use Rattle.law_verdicts.specs.Fragment.{is_truth_name}
use Rattle.smt_sexpr.specs.View.{plain}
use Rattle.smt_mini.specs.Building.{Built, BuiltAll}
use Rattle.smt_mini.specs.Tables.{table_of}
use Rattle.smt_mini.specs.Gates.{value_at}
use Rattle.law_verdicts.specs.Truths.{connected}
use Rattle.smt_mini.proofs.Building.{Building, application_built, application_unknown, formula_parts, next_fits, next_is_formula, not_built, one_built}
use Rattle.smt_sexpr.proofs.Shapes.{bracketed, headed, nothing_listed}
use Rattle.smt_mini.proofs.formula.+build.Goals as goal

pub build-returns-in_default : goal.build-returns-in_default
build-returns-in_default t c s f h = ap (knows s) (bracketed _ c.in-App.inside _ c.in-App.is c.items-items.ensures ∙ ap Node (nothing_listed c.items-items.result.now c.in_default.len_below))

pub build-returns-in-Some : goal.build-returns-in-Some
build-returns-in-Some t c s f h =
    let shape = headed _ c.in-App.inside c.items-items.result.now c.head-item.result _ c.in-App.is c.items-items.ensures c.in-len1-up.len_at_least c.head-item.is c.in-Some.ensures in
    subst (λ e. IfOk c.build_connected.result (Built (table_of c.args.tables.now) (table_of c.build_connected.new.tables) s e)) (sym shape)
    (c.build_connected.ensures s f (sym (ap (fragment.is_formula (is_truth_name s)) shape) ∙ h))

pub build_all-returns-in_default : goal.build_all-returns-in_default
build_all-returns-in_default t c s f h =
    let es = c.args.operands.now in
    let i = c.loop-operand.operand-index in
    let e = c.operand-item.result in
    let next : drop i es ≡ e ∷ drop (i + 1) es = drop_more es i e c.loop-operand-test.true ∙ ap (λ x. x ∷ drop (i + 1) es) (sym c.operand-item.is) in
    let b = subst (λ xs. Building (table_of c.args.tables.now) (table_of c.loop-operand.tables) s (take i es) xs es c.loop-operand.parts.items) next (c.loop-operand.invariant s f h) in
    let g = next_is_formula (table_of c.args.tables.now) (table_of c.loop-operand.tables) s (take i es) (drop (i + 1) es) es e c.loop-operand.parts.items b in
    let u = next_fits (table_of c.args.tables.now) (table_of c.loop-operand.tables) s (take i es) (e ∷ drop (i + 1) es) es c.loop-operand.parts.items f b in
    not_built (table_of c.args.tables.now) (table_of c.loop-operand.tables) (table_of c.build.new.tables) s (take i es) (drop (i + 1) es) es e c.loop-operand.parts.items b
    (subst (Built (table_of c.loop-operand.tables) (table_of c.build.new.tables) s (plain e)) c.in_default.is (c.in_ok-part.ensures s u g))

pub build_all-loop-operand-preserved : goal.build_all-loop-operand-preserved
build_all-loop-operand-preserved t c s f h =
    let es = c.args.operands.now in
    let i = c.loop-operand.operand-index in
    let e = c.operand-item.result in
    let ps = c.loop-operand.parts.items in
    let next : drop i es ≡ e ∷ drop (i + 1) es = drop_more es i e c.loop-operand-test.true ∙ ap (λ x. x ∷ drop (i + 1) es) (sym c.operand-item.is) in
    let one : i + 1 ≡ suc i = omega arith in
    let more : take i es ++ e ∷ [] ≡ take (i + 1) es = sym (ap (λ k. take k es) one ∙ take-suc es i e c.loop-operand-test.true ∙ ap (λ x. take i es ++ x ∷ []) (sym c.operand-item.is)) in
    let b = subst (λ xs. Building (table_of c.args.tables.now) (table_of c.loop-operand.tables) s (take i es) xs es ps) next (c.loop-operand.invariant s f h) in
    let g = next_is_formula (table_of c.args.tables.now) (table_of c.loop-operand.tables) s (take i es) (drop (i + 1) es) es e ps b in
    let u = next_fits (table_of c.args.tables.now) (table_of c.loop-operand.tables) s (take i es) (e ∷ drop (i + 1) es) es ps f b in
    let k = subst (Built (table_of c.loop-operand.tables) (table_of c.build.new.tables) s (plain e)) c.in-Some.is (c.in_ok-part.ensures s u g) in
    let w = one_built (table_of c.args.tables.now) (table_of c.loop-operand.tables) (table_of c.build.new.tables) s (take i es) (drop (i + 1) es) es e ps c.in-Some.part b k in
    subst (λ qs. Building (table_of c.args.tables.now) (table_of c.build.new.tables) s (take (i + 1) es) (drop (i + 1) es) es qs) (sym c.in_ok-push.ensures.items)
    (subst (λ xs. Building (table_of c.args.tables.now) (table_of c.build.new.tables) s xs (drop (i + 1) es) es (ps ++ c.in-Some.part ∷ [])) more w)

pub build_connected-returns-in_default : goal.build_connected-returns-in_default
build_connected-returns-in_default t c s f h =
    application_unknown s (rc_str_bytes c.args.connective.now) c.args.operands.now h
    (subst (λ o. BuiltAll (table_of c.args.tables.now) (table_of c.build_all.new.tables) s (map plain c.args.operands.now) o) c.in_default.is (c.in_ok-parts.ensures s f (formula_parts (is_truth_name s) (rc_str_bytes c.args.connective.now) c.args.operands.now h).1))

pub build_connected-returns : goal.build_connected-returns
build_connected-returns t c s f h =
    application_built (table_of c.args.tables.now) (table_of c.build_all.new.tables) (table_of c.add_gate.new.self) s (rc_str_bytes c.args.connective.now) c.args.operands.now c.in-Some.parts.items c.gate_of-gate.result c.in_ok-add_gate.field-0 h
    (λ at done. c.gate_of-gate.ensures at done ∙ ap (λ n. connected n (map (value_at done) c.as_slice.result.now)) c.as_str.ensures.value ∙ ap (λ ps. connected (rc_str_bytes c.args.connective.now) (map (value_at done) ps)) c.as_slice.ensures.value)
    (subst (λ o. BuiltAll (table_of c.args.tables.now) (table_of c.build_all.new.tables) s (map plain c.args.operands.now) o) c.in-Some.is (c.in_ok-parts.ensures s f (formula_parts (is_truth_name s) (rc_str_bytes c.args.connective.now) c.args.operands.now h).1))
    c.in_ok-add_gate.ensures.0 c.in_ok-add_gate.ensures.1
