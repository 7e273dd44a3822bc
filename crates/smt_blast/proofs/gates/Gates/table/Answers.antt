use Rattle.std.proofs.Common.{◌≡◌, ◌∙◌, ◌+◌, ◌∷◌, [], None, ap, arith, length, length-append, subst, sym}
use Rattle.smt_blast.specs.Marks.{mark_in}
use Rattle.smt_blast.specs.Tables.{IsTable}
use Rattle.smt_blast.proofs.Entries.{mark_is, next_is, table_more}
use Rattle.smt_blast.proofs.Standing.{grown_by, grown_twice}
use Rattle.smt_blast.proofs.gates.Gates.table.Goals as goal

pub loop-mark-preserved : goal.loop-mark-preserved
loop-mark-preserved c =
    let old = c.args.old.now in
    let marks = c.args.marks.now in
    let table = c.loop-mark.table.items in
    let place = c.loop-mark.mark-index in
    let more : length c.push.new.self.items ≡ length table + 1 = ap length c.in_ok-push.ensures.items ∙ length-append table (c.in_ok-bits.bits ∷ []) in
    record {
      count = omega (arith, c.loop-mark.invariant.count);
      entries = λ ids vs h.
          let so_far = c.loop-mark.invariant.entries ids vs h in
          let has = subst (λ l. IsTable old marks vs c.loop-mark.self.nodes l) (sym c.as_slice.ensures.value) so_far.0 in
          let mark = ap (mark_in marks) c.loop-mark.invariant.count ∙ mark_is marks place None c.loop-mark-test.true in
          let grows = c.in_ok-bits.ensures.grows marks vs has (next_is old marks ids vs c.as_slice.result.now _ h (ap (λ l. mark_in marks (length l)) c.as_slice.ensures.value ∙ mark)) in (
            table_more old marks ids vs c.loop-mark.self.nodes c.entry.new.self.nodes 2048 table c.push.new.self.items c.in_ok-bits.bits _ h so_far.0 grows c.in_ok-push.ensures.items mark
                (λ seen s e n. c.in_ok-bits.ensures.bits marks vs seen s e has (ap length c.as_slice.ensures.value ∙ n)),
            grown_by (omega arith) (grown_twice so_far.1 grows),
          );
    }

pub returns-clause-table : goal.returns-clause-table
returns-clause-table c ids vs h = record { entries = (c.loop-mark.invariant.entries ids vs h).0; whole = omega (arith, c.loop-mark.invariant.count) }
