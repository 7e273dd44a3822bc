use Rattle.std.proofs.Common.{ap, sym, ◌∙◌, ◌||◌, is_some, map, reverse}
use Rattle.law_scripts.specs.Script.{look_up}
use Rattle.smt_mini.proofs.Fitting.{name_by}
use Rattle.smt_mini.specs.Tables.{found_in, plain_name, table_of}
use Rattle.smt_mini.proofs.levels.has_name.Goals as goal

pub returns-else-is_built_in : goal.returns-else-is_built_in
returns-else-is_built_in c s f =
    c.is_some.ensures
    ∙ ap is_some (c.find.ensures ∙ ap (λ ns. look_up c.args.name.now (reverse (map plain_name ns))) c.as_slice.ensures.value)
    ∙ ap (λ b. b || is_some (found_in (table_of c.args.tables.now) c.args.name.now)) (sym c.if-is_built_in.false ∙ c.is_built_in.ensures)
    ∙ name_by (table_of c.args.tables.now) s c.args.name.now f
