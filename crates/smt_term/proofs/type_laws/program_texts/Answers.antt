use Rattle.smt_term.proofs.AscendingTexts.{members_ascend, text_sets_ascend}
use Rattle.smt_term.proofs.type_laws.program_texts.Goals as goal

pub returns : goal.returns
returns c = record {
  sets = text_sets_ascend;
  members = members_ascend;
}
