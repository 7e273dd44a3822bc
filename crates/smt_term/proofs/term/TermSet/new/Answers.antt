use Rattle.std.proofs.Common.{ap, ◌∙◌, map}
use Rattle.smt_term.specs.View.{plain_term}
use Rattle.smt_term.proofs.InsertedTerms.{put_step}
use Rattle.law_terms.proofs.SortedSets.{put_all, put-sorted}
use Rattle.smt_term.proofs.term.TermSet.new.Goals as goal

pub loop-item-init : goal.loop-item-init
loop-item-init c =
    ap (λ ks. put_all (map plain_term ks) (map plain_term c.args.items.now)) c.new-found.ensures.empty ∙ put-sorted (map plain_term c.args.items.now)

pub loop-item-preserved : goal.loop-item-preserved
loop-item-preserved c =
    put_step _ _ _ _ _ _ _ c.loop-item-test.true c.item-item.is c.in_ok-share.ensures c.in_ok-insert.ensures.keys c.loop-item.invariant
