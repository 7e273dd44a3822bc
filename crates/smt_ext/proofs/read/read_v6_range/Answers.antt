use Rattle.std.proofs.Common.{subst}
use Rattle.std.specs.Prelude.{option_copied}
use Rattle.smt_ext.specs.IpRanges.{Family, address_bits}
use Rattle.smt_ext.specs.IpText.{WritesPrefix}
use Rattle.smt_ext.proofs.read.read_v6_range.Goals as goal

pub returns-in_err-count-clause-none : goal.returns-in_err-count-clause-none
returns-in_err-count-clause-none c =
    rw c.from_residual-in_err-count.ensures
    (λ r e parts.
    let P : Family → Type 0 = λ f. WritesPrefix (address_bits f) (option_copied c.args.digits) r.prefix in
    c.in_err-count.ensures.none r.prefix (subst P e parts.1))
