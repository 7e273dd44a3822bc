use Rattle.std.proofs.Common.{arith, sym, length-take}
use Rattle.smt_script.proofs.ReadsLemmas.{none_read, reads_then, reads_wrong, reads_on, reads_all, reads_past, along, allowed, not_allowed, gave, unless_that}
use Rattle.smt_script.proofs.input.read_input.Goals as goal

pub loop-bytes-init : goal.loop-bytes-init
loop-bytes-init g c = record {
  some = search arith;
  short = omega (arith, c.new-bytes.ensures.len);
  so_far = along (sym c.new-bytes.ensures.items) (none_read c.args.source.now);
}

pub returns-in_err-count-clause-refusal : goal.returns-in_err-count-clause-refusal
returns-in_err-count-clause-refusal g c = λ h. gave c.loop-bytes.invariant.so_far c.in_err-count.ensures h

pub returns-in_err-count-clause-reads : goal.returns-in_err-count-clause-reads
returns-in_err-count-clause-reads g c = reads_on (reads_wrong c.loop-bytes.invariant.so_far c.in_err-count.ensures)

pub returns-then-count-eq0-clause-all : goal.returns-then-count-eq0-clause-all
returns-then-count-eq0-clause-all g c = reads_all c.if-count-eq0.true c.loop-bytes.invariant.so_far c.in_ok-count.ensures

pub returns-then-count-eq0-clause-refusal : goal.returns-then-count-eq0-clause-refusal
returns-then-count-eq0-clause-refusal g c = λ _. allowed _ _ _ tt

pub returns-then-count-eq0-clause-reads : goal.returns-then-count-eq0-clause-reads
returns-then-count-eq0-clause-reads g c = reads_on (reads_then c.loop-bytes.invariant.so_far c.in_ok-count.ensures)

pub returns-then-greatest-len-clause-too_large : goal.returns-then-greatest-len-clause-too_large
returns-then-greatest-len-clause-too_large g c = λ _. reads_past _ (omega (arith, c.len.ensures, c.if-greatest-len.true, c.loop-bytes.bytes.ok)) c.loop-bytes.invariant.so_far c.in_ok-count.ensures

pub returns-then-greatest-len-clause-refusal : goal.returns-then-greatest-len-clause-refusal
returns-then-greatest-len-clause-refusal g c = λ _. not_allowed _ _ _ (reads_past _ (omega (arith, c.len.ensures, c.if-greatest-len.true, c.loop-bytes.bytes.ok)) c.loop-bytes.invariant.so_far c.in_ok-count.ensures)

pub returns-then-greatest-len-clause-reads : goal.returns-then-greatest-len-clause-reads
returns-then-greatest-len-clause-reads g c = reads_on (reads_then c.loop-bytes.invariant.so_far c.in_ok-count.ensures)

pub loop-bytes-preserved : goal.loop-bytes-preserved
loop-bytes-preserved g c = record {
  some = omega (arith, c.loop-bytes.invariant.some, c.read.auto.buffer);
  short = omega (arith, c.in_ok-extend_from_slice.ensures.len, length-take c.in_ok-count.count c.read.new.buffer, c.len.ensures, c.if-greatest-len.false, c.loop-bytes.invariant.short);
  so_far = along (sym c.in_ok-extend_from_slice.ensures.items) (reads_then c.loop-bytes.invariant.so_far c.in_ok-count.ensures);
}

pub returns-in_err-extend_from_slice-clause-refusal : goal.returns-in_err-extend_from_slice-clause-refusal
returns-in_err-extend_from_slice-clause-refusal g c = λ _. allowed _ _ _ (unless_that _ _ c.from_residual-in_err-extend_from_slice.ensures.1)

pub returns-in_err-extend_from_slice-clause-reads : goal.returns-in_err-extend_from_slice-clause-reads
returns-in_err-extend_from_slice-clause-reads g c = reads_on (reads_then c.loop-bytes.invariant.so_far c.in_ok-count.ensures)
