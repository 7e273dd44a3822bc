use Rattle.std.proofs.Common.{lit<}
use Rattle.std.proofs.lemmas.Str.Pattern.{split_parts}
use Rattle.smt_ext.proofs.IpSplits.{HasNo-from_places}
use Rattle.smt_ext.proofs.read.split_prefix.Goals as goal

pub returns-in-Some-clause-first : goal.returns-in-Some-clause-first
returns-in-Some-clause-first c =
    let parts = rw c.in-Some.is at (split_parts 47 c.args.text.now c.split_once.result c.split_once.ensures.cases (lit< tt)) in
    HasNo-from_places 47 c.in-Some.address.now parts.1

pub returns-in-None-clause-first : goal.returns-in-None-clause-first
returns-in-None-clause-first c =
    let parts = rw c.in-None.is at (split_parts 47 c.args.text.now c.split_once.result c.split_once.ensures.cases (lit< tt)) in
    HasNo-from_places 47 c.args.text.now parts
