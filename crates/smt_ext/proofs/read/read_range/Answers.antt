use Rattle.std.proofs.Common.{inl, inr}
use Rattle.std.specs.Prelude.{option_copied}
use Rattle.smt_ext.proofs.IpSplits.{split_writes, family_cases}
use Rattle.smt_ext.proofs.read.read_range.Goals as goal

pub returns-in-None-read_v6_range-clause-none : goal.returns-in-None-read_v6_range-clause-none
returns-in-None-read_v6_range-clause-none c =
    λ r h.
    let parts = split_writes c.args.text.now c.split_prefix.result.0.now (option_copied c.split_prefix.result.1) r c.split_prefix.ensures.whole c.split_prefix.ensures.first h in
    elim (family_cases r.family) [
      | inl four ↦ c.in-None.ensures.none r four parts
      | inr six ↦ c.in-None-read_v6_range.ensures.none r six parts
    ]
