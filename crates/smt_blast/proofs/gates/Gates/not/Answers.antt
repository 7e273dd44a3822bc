use Rattle.std.proofs.Common.{◌∷◌, [], refl}
use Rattle.law_blasting.specs.OperatorCircuits.{term_gates}
use Rattle.law_terms.specs.Nodes.{ApplicationLabel, TermMeaning, TypeMeaning}
use Rattle.law_terms.specs.Plain.{BoolType, NotOp}
use Rattle.smt_blast.proofs.Gating.{bit_found, entered, type_found}
use Rattle.smt_blast.proofs.gates.Gates.not.Goals as goal

pub returns-clause-bit : goal.returns-clause-bit
returns-clause-bit c u su =
    let g = c.args.self.now in
    let i = g.nodes in
    let parts = type_found i g.bool_type (c.args.a ∷ []) (TermMeaning u ∷ []) g.type_known (bit_found i c.args.a u ([]) ([]) su refl) in
    entered c.enter.result i c.enter.new.self.nodes (g.bool_type ∷ c.args.a ∷ []) (TypeMeaning BoolType ∷ TermMeaning u ∷ []) (ApplicationLabel NotOp) (term_gates.not u) c.enter.ensures.meaning parts refl
