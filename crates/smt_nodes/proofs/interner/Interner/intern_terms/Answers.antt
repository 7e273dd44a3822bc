use Rattle.smt_nodes.specs.Interned.{nodes_of}
use Rattle.smt_nodes.proofs.InternedTerms.{one_pushed}
use Rattle.smt_nodes.proofs.Interning.{all_kept}
use Rattle.smt_nodes.proofs.interner.Interner.intern_terms.Goals as goal

pub loop-term-preserved : goal.loop-term-preserved
loop-term-preserved c = (
  one_pushed (nodes_of c.intern.new.self) c.loop-term.ids.items c.push.new.self.items c.in_ok-id.id c.args.terms.now c.loop-term.term-index c.term-item.result c.in_ok-push.ensures.items (all_kept (nodes_of c.loop-term.self) (nodes_of c.intern.new.self) c.intern.ensures.kept c.loop-term.ids.items _ c.loop-term.invariant.0) c.in_ok-id.ensures.meaning c.loop-term-test.true c.term-item.is,
  λ id m h. c.intern.ensures.kept id m (c.loop-term.invariant.1 id m h),
)
