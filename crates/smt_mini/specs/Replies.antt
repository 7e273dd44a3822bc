-- What replies of the program say.
use Rattle.std.specs.Rc.{rc_str_bytes}
use Rattle.law_verdicts.specs.Machine as machine
use Rattle.law_verdicts.specs.Machine.{Reply as Replied}
use Rattle.smt_mini.specs.declared.reply.Reply.{Reply}
use Rattle.smt_mini.specs.declared.reply.Reply.TheVariants.{Nothing, Line, Model, Ended}

-- what a reply says, without where it lies in memory
abbrev pub plain_reply : Reply → Replied
plain_reply Nothing = machine.Nothing
plain_reply (Line text) = machine.Line (rc_str_bytes text)
plain_reply (Model text) = machine.Model (rc_str_bytes text)
plain_reply Ended = machine.Ended
