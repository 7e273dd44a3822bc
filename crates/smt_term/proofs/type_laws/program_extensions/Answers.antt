use Rattle.smt_term.proofs.ExtensionOrder.{equal_extension_ops, equal_kinds, extension_op_cmp-is, kind_cmp-is}
use Rattle.smt_term.proofs.type_laws.program_extensions.Goals as goal

pub returns : goal.returns
returns c = record {
  type_order = kind_cmp-is;
  type_equality = equal_kinds;
  op_order = extension_op_cmp-is;
  op_equality = equal_extension_ops;
}
