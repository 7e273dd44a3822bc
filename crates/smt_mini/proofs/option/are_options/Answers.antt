use Rattle.std.proofs.Common.{sym, ap, ◌∙◌, Some, None, Bool, false, ◌&&◌, codes, Option}
use Rattle.law_texts.specs.Reading.{Expression}
use Rattle.law_scripts.specs.Script.{name}
use Rattle.law_scripts.specs.Sorts.{same_sort}
use Rattle.smt_mini.proofs.Shapes.{both_by}
use Rattle.smt_mini.specs.OptionLine.{body}
use Rattle.smt_sexpr.specs.View.{plain, plain_list}
use Rattle.smt_mini.proofs.option.are_options.Goals as goal

tested : Option (Expression × Expression) → Bool
tested o = elim o [ Some p ↦ same_sort p.0 (name (codes "Option")) && same_sort p.1 body | None ↦ false ]

pub returns-then-is_named : goal.returns-then-is_named
unfolding tested
returns-then-is_named c = c.is_body.ensures ∙ ap (λ b. b && same_sort (plain c.in-Some.body.now) body) (sym c.if-is_named.true ∙ c.is_named.ensures) ∙ ap tested c.in-Some.ensures ∙ sym (both_by (plain_list c.args.items.now) (name (codes "Option")) body)

pub returns-in-None : goal.returns-in-None
unfolding tested
returns-in-None c = ap tested c.in-None.ensures ∙ sym (both_by (plain_list c.args.items.now) (name (codes "Option")) body)
