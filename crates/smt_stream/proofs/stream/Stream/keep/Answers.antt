use Rattle.std.proofs.Common.{arith}
use Rattle.std.proofs.lemmas.Bool.{leb-false}
use Rattle.law_verdicts.specs.Machine.{new}
use Rattle.law_verdicts.specs.Streams.{most_bytes}
use Rattle.smt_stream.specs.Heard.{course_of}
use Rattle.smt_stream.proofs.Talking.{no_breach}
use Rattle.smt_stream.proofs.stream.Stream.keep.Goals as goal

pub taken-scanner-requires : goal.taken-scanner-requires
taken-scanner-requires c = (no_breach (course_of c.args.self.now new) c.args.byte (c.requires new)).1

pub overflow_add-total : goal.overflow_add-total
overflow_add-total c = omega (arith, leb-false most_bytes c.args.self.now.total (no_breach (course_of c.args.self.now new) c.args.byte (c.requires new)).0)
