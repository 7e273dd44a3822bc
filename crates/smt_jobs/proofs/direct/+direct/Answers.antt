use Rattle.std.proofs.Common.{[], ◌∷◌, ◌<◌, length, sym, subst, arith}
use Rattle.std.specs.Prelude.{IfSome}
use Rattle.law_texts.specs.Lexicon.{Begin, Name, Word}
use Rattle.law_texts.specs.Tokens.{Spans}
use Rattle.smt_term.specs.View.{plain_op}
use Rattle.smt_nodes.specs.Interned.{StandFor}
use Rattle.smt_jobs.specs.Direct.{IsNumbered, ReadsOf}
use Rattle.smt_jobs.proofs.DirectReads.{applied_read, headed_read, more_operands, no_operands}
use Rattle.smt_jobs.proofs.direct.+direct.Goals as goal

pub application_at-loop-after-init : goal.application_at-loop-after-init
application_at-loop-after-init t c = record {
  operands = no_operands c.args.declared.now c.args.nodes.now c.new-operands.result.items c.args.src.now c.args.depth c.new-operands.ensures.items;
  kept = λ id m h. h;
  shorter = omega arith;
}

pub application_at-returns-in-Some-clause-read : goal.application_at-returns-in-Some-clause-read
application_at-returns-in-Some-clause-read t c head named =
    applied_read c.args.declared.now c.loop-after.nodes c.applied.new.nodes (plain_op c.args.op.now) head c.loop-after.operands.items c.args.src.now c.loop-after.rest.now c.in-Some.after.now c.args.depth c.loop-after.invariant.operands c.in-Some.ensures.found named c.in_ok-found.found c.with_rest.result c.with_rest.ensures.number c.with_rest.ensures.rest
    (c.in_ok-found.ensures.built c.loop-after.invariant.operands.numbered.0 (subst (λ l. StandFor c.loop-after.nodes l c.loop-after.invariant.operands.numbered.0) (sym c.as_slice.ensures.value) c.loop-after.invariant.operands.numbered.1))

pub application_at-loop-after-preserved : goal.application_at-loop-after-preserved
application_at-loop-after-preserved t c = (let before = c.loop-after.invariant.shorter in let less = subst (λ o. IfSome o (λ x. length x.1.now < length c.loop-after.rest.now)) c.in-Some-2.is c.in_ok-id.ensures.shorter in record {
  operands = more_operands c.args.declared.now c.loop-after.nodes c.term_at.new.nodes c.loop-after.operands.items c.push.new.self.items c.in-Some-2.id c.args.src.now c.loop-after.rest.now c.in-Some-2.after.now c.args.depth c.loop-after.invariant.operands c.in_ok-id.ensures.kept
      (subst (λ o. IfSome o (λ x. ReadsOf (IsNumbered c.args.declared.now c.term_at.new.nodes x.0) c.loop-after.rest.now c.args.depth x.1.now)) c.in-Some-2.is c.in_ok-id.ensures.read) c.in_ok-push.ensures.items;
  kept = λ id m h. c.in_ok-id.ensures.kept id m (c.loop-after.invariant.kept id m h);
  shorter = omega arith;
})

pub term_at-returns-in-var-clause-read : goal.term_at-returns-in-var-clause-read
term_at-returns-in-var-clause-read t c =
    headed_read c.args.declared.now c.variable_at.new.nodes c.variable_at.result _ c.args.src.now c.in-Some.behind.now c.args.depth 0 (subst (λ h. Spans c.args.src.now (Begin ∷ Word (Name h) ∷ []) c.in-Some.behind.now) c.in-var.is c.in-Some.ensures.read) (let l = c.if-depth-eq0.false in omega (arith, l)) c.variable_at.ensures.read

pub term_at-returns-in-bv-clause-read : goal.term_at-returns-in-bv-clause-read
term_at-returns-in-bv-clause-read t c =
    headed_read c.args.declared.now c.bits_at.new.nodes c.bits_at.result _ c.args.src.now c.in-Some.behind.now c.args.depth 0 (subst (λ h. Spans c.args.src.now (Begin ∷ Word (Name h) ∷ []) c.in-Some.behind.now) c.in-bv.is c.in-Some.ensures.read) (let l = c.if-depth-eq0.false in omega (arith, l)) c.bits_at.ensures.read

pub term_at-returns-in-Some-operator_named-clause-read : goal.term_at-returns-in-Some-operator_named-clause-read
term_at-returns-in-Some-operator_named-clause-read t c =
    headed_read c.args.declared.now c.application_at.new.nodes c.application_at.result c.in-Some.head.now c.args.src.now c.in-Some.behind.now c.args.depth _ c.in-Some.ensures.read (let l = c.if-depth-eq0.false in omega (arith, l)) (c.application_at.ensures.read c.in-Some.head.now (sym c.in-Some-operator_named.ensures))
