use Rattle.std.proofs.Common.{ap, refl, ◌∙◌}
use Rattle.smt_spelling.specs.Entries.{entry_bytes}
use Rattle.smt_encode.proofs.Stopping.{none_of_it, on_error, part_along}
use Rattle.smt_encode.proofs.writer.Writer.put_entry.Goals as goal

pub returns-in_err-name-clause-part : goal.returns-in_err-name-clause-part
returns-in_err-name-clause-part g c s p has says = on_error c.from_residual.result (none_of_it _ _ _ refl)

pub returns-in_err-put-clause-part : goal.returns-in_err-put-clause-part
returns-in_err-put-clause-part g c s p has says =
    on_error c.from_residual-in_err-put.result
    (part_along _ _ _ _ (ap (λ n. entry_bytes c.args.entry.now n c.args.sort.now) (c.as_str.ensures.value ∙ c.in_ok-name.ensures s p has says)) c.in_err-put.ensures.err)
