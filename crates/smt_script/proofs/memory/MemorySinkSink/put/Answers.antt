-- Where the bytes pass the room, the part that fits is put.
use Rattle.std.proofs.Common.{arith, rules, ◌-◌, take, drop, refl}
use Rattle.std.proofs.lemmas.List.{take-append-drop}
use Rattle.smt_script.proofs.memory.MemorySinkSink.put.Goals as goal

pub returns-then-left-bytes-clause-puts : goal.returns-then-left-bytes-clause-puts
returns-then-left-bytes-clause-puts c = record {
  ok = tt;
  err = record {
    part = take (c.args.self.now.room - c.len.result) c.args.bytes.now;
    rest = drop (c.args.self.now.room - c.len.result) c.args.bytes.now;
    whole = take-append-drop _ _;
    appended = search rules;
  };
  later = omega arith;
  no_fault = tt;
  cause = λ _. omega arith;
  room = λ n t. absurd (omega (arith, t.1, c.if-left-bytes.true, c.len.ensures));
  same_place = refl;
}
