use Rattle.std.proofs.Common.{◌∷◌, [], refl}
use Rattle.std.specs.Rc.{rc_str_bytes}
use Rattle.law_blasting.specs.Blasted.{new_variable}
use Rattle.law_terms.specs.Meanings.{meanings}
use Rattle.law_terms.specs.Nodes.{TypeMeaning, VariableLabel}
use Rattle.law_terms.specs.Plain.{BoolType}
use Rattle.smt_nodes.specs.Interned.{nodes_of}
use Rattle.smt_nodes.specs.View.{place_of}
use Rattle.smt_blast.proofs.Gating.{entered, more_found}
use Rattle.smt_blast.proofs.gates.Gates.variable.Goals as goal

pub returns-clause-bit : goal.returns-clause-bit
returns-clause-bit c =
    let i = c.args.self.now.nodes in
    let ty = c.bool_type-ty.result in
    entered c.enter.result i c.enter.new.self.nodes (ty ∷ []) (TypeMeaning BoolType ∷ []) (VariableLabel (rc_str_bytes c.args.name)) (new_variable (rc_str_bytes c.args.name)) c.enter.ensures.meaning
    (more_found (meanings (nodes_of i)) (place_of ty) (TypeMeaning BoolType) [] [] c.bool_type-ty.ensures refl) refl
