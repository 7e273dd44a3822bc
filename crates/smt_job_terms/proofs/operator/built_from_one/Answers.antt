use Rattle.std.proofs.Common.{ap}
use Rattle.law_terms.specs.Plain.{BvnegOp, BvnegoOp, NotOp, OptionGetOp}
use Rattle.smt_term.specs.View.{plain_op}
use Rattle.smt_job_terms.proofs.Operators.{from_one}
use Rattle.smt_job_terms.proofs.operator.built_from_one.Goals as goal

pub returns-in-Not : goal.returns-in-Not
returns-in-Not c ty typed = from_one _ NotOp _ _ _ ty _ _ (ap plain_op c.in-Not.is) c.in_ok-a.ensures c.not.ensures.folded c.some.ensures

pub returns-in-Bvneg : goal.returns-in-Bvneg
returns-in-Bvneg c ty typed = from_one _ BvnegOp _ _ _ ty _ _ (ap plain_op c.in-Bvneg.is) c.in_ok-a.ensures c.bvneg.ensures.folded c.some-in-Bvneg.ensures

pub returns-in-Bvnego : goal.returns-in-Bvnego
returns-in-Bvnego c ty typed = from_one _ BvnegoOp _ _ _ ty _ _ (ap plain_op c.in-Bvnego.is) c.in_ok-a.ensures c.bvnego.ensures.folded c.some-in-Bvnego.ensures

pub returns-in-OptionGet : goal.returns-in-OptionGet
returns-in-OptionGet c ty typed = from_one _ OptionGetOp _ _ _ ty _ _ (ap plain_op c.in-OptionGet.is) c.in_ok-a.ensures c.option_get.ensures.folded c.some-in-OptionGet.ensures
