use Rattle.std.proofs.Common.{◌∷◌, [], refl}
use Rattle.law_blasting.specs.OperatorCircuits.{term_gates}
use Rattle.law_terms.specs.Nodes.{ApplicationLabel, TermMeaning, TypeMeaning}
use Rattle.law_terms.specs.Plain.{BoolType, EqOp}
use Rattle.smt_blast.proofs.Gating.{bit_found, entered, type_found}
use Rattle.smt_blast.proofs.gates.Gates.eq.Goals as goal

pub returns-clause-bit : goal.returns-clause-bit
returns-clause-bit c u v su sv =
    let g = c.args.self.now in
    let i = g.nodes in
    let parts = type_found i g.bool_type (c.args.a ∷ c.args.b ∷ []) (TermMeaning u ∷ TermMeaning v ∷ []) g.type_known (bit_found i c.args.a u (c.args.b ∷ []) (TermMeaning v ∷ []) su (bit_found i c.args.b v ([]) ([]) sv refl)) in
    entered c.enter.result i c.enter.new.self.nodes (g.bool_type ∷ c.args.a ∷ c.args.b ∷ []) (TypeMeaning BoolType ∷ TermMeaning u ∷ TermMeaning v ∷ []) (ApplicationLabel EqOp) (term_gates.eq u v) c.enter.ensures.meaning parts refl
