use Rattle.std.proofs.Common.{◌∙◌, ◌<◌, length, ap, arith, length-take, Ok, refl, subst, take}
use Rattle.std.specs.Io.KnownBytes.{prepend_known}
use Rattle.smt_script.specs.Sink.{Rose}
use Rattle.smt_stream.proofs.Leading.{caused, ends, goes_on, grows, is_over, over, smaller, starts}
use Rattle.smt_stream.proofs.run.converse.Goals as goal

pub loop-stream-init : goal.loop-stream-init
loop-stream-init g c = record {
  some = search arith;
  so_far = starts (g.R.Source.remaining c.args.source.now) (g.W.Sink.contents c.args.out.now) c.new-stream.result c.new-stream.ensures;
  no_source_fault = refl;
  no_sink_fault = refl;
}

pub returns-then-count-eq0-clause-led : goal.returns-then-count-eq0-clause-led
returns-then-count-eq0-clause-led g c =
    ends (g.R.Source.remaining c.args.source.now) (g.R.Source.remaining c.loop-stream.source) (g.R.Source.remaining c.read.new.self) (g.W.Sink.contents c.args.out.now) (g.W.Sink.contents c.loop-stream.out)
    c.loop-stream.stream c.loop-stream.invariant.so_far
    (c.in_ok-count.ensures.bytes ∙ ap (λ n. prepend_known (take n c.read.new.buffer) (g.R.Source.remaining c.read.new.self)) c.if-count-eq0.true)
    (c.in_ok-count.ensures.end (ap Ok c.if-count-eq0.true))

pub returns-in-Err-clause-cause : goal.returns-in-Err-clause-cause
returns-in-Err-clause-cause g c =
    caused _ _ _ c.take_and_flush.result c.in-Err.refusal c.in-Err.is (subst (λ n. Rose n (g.W.Sink.faults c.take_and_flush.new.out)) c.loop-stream.invariant.no_sink_fault) c.take_and_flush.ensures.cause

pub loop-stream-preserved : goal.loop-stream-preserved
loop-stream-preserved g c = record {
  some = omega (arith, c.loop-stream.invariant.some, c.read.auto.buffer);
  so_far = goes_on (g.R.Source.remaining c.args.source.now) (g.R.Source.remaining c.loop-stream.source) (g.R.Source.remaining c.read.new.self) (g.W.Sink.contents c.args.out.now) (g.W.Sink.contents c.loop-stream.out) (g.W.Sink.contents c.take_and_flush.new.out)
      c.loop-stream.stream c.take_and_flush.new.stream (take c.in_ok-count.count c.read.new.buffer) c.loop-stream.invariant.so_far c.in_ok-count.ensures.bytes c.in-Ok.ensures.done c.in-Waiting.is;
  no_source_fault = c.in_ok-count.ensures.no_fault ∙ c.loop-stream.invariant.no_source_fault;
  no_sink_fault = c.in-Ok.ensures.same ∙ c.loop-stream.invariant.no_sink_fault;
}

pub loop-stream-smaller : goal.loop-stream-smaller
loop-stream-smaller g c =
    let bytes = take c.in_ok-count.count c.read.new.buffer in
    let n = grows (g.R.Source.remaining c.args.source.now) (g.R.Source.remaining c.loop-stream.source) (g.W.Sink.contents c.args.out.now) (g.W.Sink.contents c.loop-stream.out) (g.W.Sink.contents c.take_and_flush.new.out)
    c.loop-stream.stream c.take_and_flush.new.stream bytes c.loop-stream.invariant.so_far c.in-Ok.ensures.done c.in-Waiting.is in
    let some : 0 < length bytes = omega (arith, length-take c.in_ok-count.count c.read.new.buffer, c.in_ok-count.ensures.bound, c.if-count-eq0.false) in
    smaller c.loop-stream.stream c.take_and_flush.new.stream (length bytes) n.0 n.1 some

pub returns-in-Exited : goal.returns-in-Exited
returns-in-Exited g c = record {
  led = is_over (g.R.Source.remaining c.args.source.now) (g.R.Source.remaining c.loop-stream.source) (g.R.Source.remaining c.read.new.self) (g.W.Sink.contents c.args.out.now) (g.W.Sink.contents c.loop-stream.out) (g.W.Sink.contents c.take_and_flush.new.out)
      c.loop-stream.stream c.take_and_flush.new.stream (take c.in_ok-count.count c.read.new.buffer) c.loop-stream.invariant.so_far c.in_ok-count.ensures.bytes c.in-Ok.ensures.done
      (over c.take_and_flush.new.stream.stage c.in-Exited.is);
  same = c.in-Ok.ensures.same ∙ c.loop-stream.invariant.no_sink_fault;
  cause = tt;
}
