use Rattle.std.proofs.Common.{refl}
use Rattle.smt_term.proofs.type_laws.program_entities.Goals as goal

pub returns : goal.returns
returns c = record {
  type_order = λ a b. refl;
  id_order = λ a b. refl;
  order = λ a b. refl;
}
