use Rattle.law_verdicts.proofs.StreamReplies as laws
use Rattle.law_verdicts.proofs.laws.streams_reply.Goals as goal

pub returns : goal.returns
returns c = laws.streams_reply
