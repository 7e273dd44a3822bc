use Rattle.std.proofs.Common.{refl}
use Rattle.law_terms.specs.Meanings.{meanings}
use Rattle.smt_nodes.specs.Interned.{nodes_of}
use Rattle.smt_nodes.proofs.Fitting.{alone_of_more, alone_of_none}
use Rattle.law_terms.specs.Nodes.{BitVecLabel, BoolLabel, EntityLabel, ExtensionLabel, StringLabel}
use Rattle.smt_nodes.proofs.interner.Interner.fits_alone.Goals as goal

pub returns-in-empty : goal.returns-in-empty
returns-in-empty c = record {
  bits = λ n. alone_of_none (BitVecLabel n) refl (meanings (nodes_of c.args.self.now)) c.args.parts.now c.in-empty.len_below;
  truths = alone_of_none BoolLabel refl (meanings (nodes_of c.args.self.now)) c.args.parts.now c.in-empty.len_below;
  entities = λ name. alone_of_none (EntityLabel name) refl (meanings (nodes_of c.args.self.now)) c.args.parts.now c.in-empty.len_below;
  extensions = λ kind. alone_of_none (ExtensionLabel kind) refl (meanings (nodes_of c.args.self.now)) c.args.parts.now c.in-empty.len_below;
  texts = alone_of_none StringLabel refl (meanings (nodes_of c.args.self.now)) c.args.parts.now c.in-empty.len_below;
}

pub returns-in-len1-up : goal.returns-in-len1-up
returns-in-len1-up c = record {
  bits = λ n. alone_of_more (BitVecLabel n) refl (meanings (nodes_of c.args.self.now)) c.args.parts.now c.in-len1-up.len_at_least;
  truths = alone_of_more BoolLabel refl (meanings (nodes_of c.args.self.now)) c.args.parts.now c.in-len1-up.len_at_least;
  entities = λ name. alone_of_more (EntityLabel name) refl (meanings (nodes_of c.args.self.now)) c.args.parts.now c.in-len1-up.len_at_least;
  extensions = λ kind. alone_of_more (ExtensionLabel kind) refl (meanings (nodes_of c.args.self.now)) c.args.parts.now c.in-len1-up.len_at_least;
  texts = alone_of_more StringLabel refl (meanings (nodes_of c.args.self.now)) c.args.parts.now c.in-len1-up.len_at_least;
}
