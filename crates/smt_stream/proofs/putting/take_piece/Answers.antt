use Rattle.std.proofs.Common.{◌∙◌, subst}
use Rattle.smt_stream.proofs.Saying.{GoesOn, goes_further}
use Rattle.smt_stream.proofs.putting.take_piece.Goals as goal

pub loop-byte-preserved : goal.loop-byte-preserved
loop-byte-preserved g c =
    let before = g.W.Sink.contents c.args.out.now in
    let now = g.W.Sink.contents c.loop-byte.out in (
      λ first h.
          let i = c.loop-byte.invariant.0 first h in
          let s = c.in_ok-take_byte.ensures.done i.0 i.1 in
          (s.0, s.2, goes_further first i.0 s.0 c.args.piece.now c.in-Some.more.now c.in-Some.byte.now before now (g.W.Sink.contents c.take_byte.new.out) (subst (λ bytes. GoesOn first i.0 c.args.piece.now bytes before now) c.in-Some.ensures.cases.0 i.2) s.1),
      c.in_ok-take_byte.ensures.same ∙ c.loop-byte.invariant.1,
    )
