use Rattle.std.proofs.Common.{sym, ◌∙◌, subst}
use Rattle.smt_bits.specs.BitVec.{number_of}
use Rattle.smt_ext.specs.IpView.{v4_bits}
use Rattle.smt_ext.specs.IpText.{IsDotted}
use Rattle.smt_ext.proofs.IpReads.{v4_none, v4_found}
use Rattle.smt_ext.proofs.read.read_v4.Goals as goal

pub returns-in_err-address-clause-none : goal.returns-in_err-address-clause-none
returns-in_err-address-clause-none c =
    rw c.from_residual.ensures
    (λ n h. v4_none c.as_bytes.result.now c.parse_ascii.result c.ok.result c.parse_ascii.ensures c.ok.ensures.value c.in_err-address.was n (subst (λ t. IsDotted t n) (sym c.as_bytes.ensures.value) h))

pub returns-clause-found : goal.returns-clause-found
returns-clause-found c =
    let found = v4_found c.as_bytes.result.now c.parse_ascii.result c.ok.result c.in_ok-address.address _ c.parse_ascii.ensures c.ok.ensures.value c.in_ok-address.was (c.of_number.ensures ∙ c.to_bits.ensures) in
    subst (λ t. IsDotted t (number_of (v4_bits c.of_number.result))) c.as_bytes.ensures.value found
