use Rattle.std.proofs.Common.{Some, [], refl, sym, ap}
use mathlib.Core.Logic.{∥∥₁_map}
use Rattle.smt_stream.proofs.Linked.{led_broken, led_more, said_of, says_ok, within_more, within_same}
use Rattle.smt_stream.proofs.link.MiniLink.take.Goals as goal

pub invariant_of-self : goal.invariant_of-self
invariant_of-self c =
    let s = c.args.self.now in
    record { within = s.within; led = ∥∥₁_map s.led (led_broken s.stream c.take_piece.new.stream s.broken s.sent.items s.answers.items s.sent.items s.answers.items refl refl) }

pub invariant_of-self-then-append_both : goal.invariant_of-self-then-append_both
invariant_of-self-then-append_both c =
    let s = c.args.self.now in
    let both = c.append_both.ensures.done c.if-append_both.true in
    record {
      within = within_more s.at s.answers.items c.bytes.result.now c.append_both.new.second.items both.1 s.within;
      led = ∥∥₁_map s.led (λ l. led_more s.stream c.take_piece.new.stream s.broken s.sent.items s.answers.items c.args.bytes.now c.bytes.result.now c.append_both.new.first.items c.append_both.new.second.items c.requires.whole both.0 both.1 l (λ first h. said_of s.stream c.take_piece.new.stream first c.args.bytes.now [] c.bytes.result.now _ _ (ap Some c.new-put.ensures) (ap Some (sym c.bytes.ensures)) (says_ok c.take_piece.result c.if-is_err.ensures.value (c.take_piece.ensures.done first h))));
    }

pub invariant_of-self-2 : goal.invariant_of-self-2
invariant_of-self-2 c =
    let s = c.args.self.now in
    let none = c.append_both.ensures.undone c.if-append_both.false in
    record {
      within = within_same s.at s.answers.items c.append_both.new.second.items none.1 s.within;
      led = ∥∥₁_map s.led (led_broken s.stream c.take_piece.new.stream s.broken s.sent.items s.answers.items c.append_both.new.first.items c.append_both.new.second.items none.0 none.1);
    }
