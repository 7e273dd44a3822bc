use Rattle.std.proofs.lemmas.Result.{IfOk-weaker}
use Rattle.smt_ext.specs.IpOrder.{plain_range}
use Rattle.smt_ext.specs.IpView.{range_of}
use Rattle.law_extensions.specs.ExtensionFunctions.{range_v4}
use Rattle.smt_factory.specs.Pairs.{plain_pair}
use Rattle.smt_factory.proofs.Rules.{block_folds}
use Rattle.smt_factory.proofs.containment.is_in_block_v4.Goals as goal
use Rattle.law_folding.specs.Builder.{folding}
use Rattle.law_folding.specs.FoldExtensions.{extension_literal}
use Rattle.smt_term.specs.View.{plain_term}

pub returns : goal.returns
returns c =
    IfOk-weaker c.lies_in.result _ _
    (λ r h. block_folds (range_v4 folding) (plain_term c.args.t.now) (plain_term c.ip_term.result) (extension_literal (plain_range (range_of c.args.block))) (plain_term r) (plain_pair c.in_ok-inner.inner) (plain_pair c.in_ok-range_v4.field-0)
    c.ip_term.ensures c.in_ok-inner.ensures c.in_ok-range_v4.ensures.folded h)
    c.lies_in.ensures
