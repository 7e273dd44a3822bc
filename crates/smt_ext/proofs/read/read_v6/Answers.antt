use Rattle.std.proofs.Common.{◌≡◌, sym, ◌∙◌, subst, arith, rules, length, lit≤}
use Rattle.std.specs.Net.Addr.{ipv6_segments}
use Rattle.smt_ext.specs.IpReader.{HasNo}
use Rattle.smt_bits.specs.BitVec.{number_of}
use Rattle.smt_ext.specs.IpView.{v6_bits}
use Rattle.smt_ext.specs.IpText.{IsColonText}
use Rattle.smt_ext.proofs.IpGrammar.{HasNo-colon_text, HasNo-from_test, HasNo-fails_test}
use Rattle.smt_ext.proofs.IpReads.{v6_none, v6_found}
use Rattle.smt_ext.proofs.read.read_v6.Goals as goal

pub returns-then-contains-clause-none : goal.returns-then-contains-clause-none
returns-then-contains-clause-none c =
    λ n h.
    let no_dot = HasNo-colon_text 46 c.args.text.now n (lit≤ tt) (λ e. omega arith) h in
    HasNo-fails_test 46 c.as_bytes.result.now (subst (HasNo 46) (sym c.as_bytes.ensures.value) no_dot) (sym c.contains.ensures.value ∙ c.if-contains.true)

pub returns-in_err-address-clause-none : goal.returns-in_err-address-clause-none
returns-in_err-address-clause-none c =
    rw c.from_residual.ensures
    (λ n h. v6_none c.as_bytes-2.result.now c.parse_ascii.result c.ok.result c.parse_ascii.ensures c.ok.ensures.value c.in_err-address.was n (subst (λ t. IsColonText t n) (sym c.as_bytes-2.ensures.value) h))

pub returns-clause-found : goal.returns-clause-found
returns-clause-found c =
    let no_dot = HasNo-from_test 46 c.as_bytes.result.now (sym c.contains.ensures.value ∙ c.if-contains.false) in
    let no_dot_2 = subst (HasNo 46) (c.as_bytes.ensures.value ∙ sym c.as_bytes-2.ensures.value) no_dot in
    let eight : length (ipv6_segments c.in_ok-address.address) ≡ 8 = search rules in
    let found = v6_found c.as_bytes-2.result.now c.parse_ascii.result c.ok.result c.in_ok-address.address _ no_dot_2 eight c.parse_ascii.ensures c.ok.ensures.value c.in_ok-address.was (c.of_number.ensures ∙ c.to_bits.ensures) in
    subst (λ t. IsColonText t (number_of (v6_bits c.of_number.result))) c.as_bytes-2.ensures.value found
