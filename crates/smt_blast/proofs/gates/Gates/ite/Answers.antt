use Rattle.std.proofs.Common.{◌∷◌, [], refl}
use Rattle.law_blasting.specs.OperatorCircuits.{term_gates}
use Rattle.law_terms.specs.Nodes.{ApplicationLabel, TermMeaning, TypeMeaning}
use Rattle.law_terms.specs.Plain.{BoolType, IteOp}
use Rattle.smt_blast.proofs.Gating.{bit_found, entered, type_found}
use Rattle.smt_blast.proofs.gates.Gates.ite.Goals as goal

pub returns-clause-bit : goal.returns-clause-bit
returns-clause-bit c u v w su sv sw =
    let g = c.args.self.now in
    let i = g.nodes in
    let parts = type_found i g.bool_type (c.args.a ∷ c.args.b ∷ c.args.c ∷ []) (TermMeaning u ∷ TermMeaning v ∷ TermMeaning w ∷ []) g.type_known (bit_found i c.args.a u (c.args.b ∷ c.args.c ∷ []) (TermMeaning v ∷ TermMeaning w ∷ []) su (bit_found i c.args.b v (c.args.c ∷ []) (TermMeaning w ∷ []) sv (bit_found i c.args.c w ([]) ([]) sw refl))) in
    entered c.enter.result i c.enter.new.self.nodes (g.bool_type ∷ c.args.a ∷ c.args.b ∷ c.args.c ∷ []) (TypeMeaning BoolType ∷ TermMeaning u ∷ TermMeaning v ∷ TermMeaning w ∷ []) (ApplicationLabel IteOp) (term_gates.ite u v w) c.enter.ensures.meaning parts refl
