use Rattle.std.proofs.Common.{ap, sym, ◌∙◌, map, not, reverse}
use Rattle.law_scripts.specs.Script.{built_in_names, is_in, look_up}
use Rattle.smt_mini.proofs.Formulas.{is_truth_found, truth_name_by}
use Rattle.smt_mini.specs.Tables.{plain_name, table_of}
use Rattle.smt_mini.proofs.formula.is_truth_name.Goals as goal

pub returns-in-Some : goal.returns-in-Some
returns-in-Some c s f =
    c.is_some.ensures
    ∙ ap (λ o. is_truth_found o (is_in c.args.name.now built_in_names)) (c.in-Some.ensures ∙ ap (λ ns. look_up c.args.name.now (reverse (map plain_name ns))) c.as_slice.ensures.value)
    ∙ truth_name_by (table_of c.args.tables.now) s f c.args.name.now (sym c.is_name.ensures ∙ c.if-not-is_name.false) (sym c.eq.ensures ∙ c.if-eq.false) (sym c.eq-else-eq.ensures ∙ c.if-eq-2.false)

pub returns-in-None : goal.returns-in-None
returns-in-None c s f =
    ap not c.is_built_in.ensures
    ∙ ap (λ o. is_truth_found o (is_in c.args.name.now built_in_names)) (c.in-None.ensures ∙ ap (λ ns. look_up c.args.name.now (reverse (map plain_name ns))) c.as_slice.ensures.value)
    ∙ truth_name_by (table_of c.args.tables.now) s f c.args.name.now (sym c.is_name.ensures ∙ c.if-not-is_name.false) (sym c.eq.ensures ∙ c.if-eq.false) (sym c.eq-else-eq.ensures ∙ c.if-eq-2.false)
