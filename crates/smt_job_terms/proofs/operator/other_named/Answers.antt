use Rattle.std.proofs.Common.{ap, sym}
use Rattle.law_jobs.specs.Terms.{other_named}
use Rattle.smt_job_terms.proofs.operator.other_named.Goals as goal

pub returns-in-not : goal.returns-in-not
returns-in-not c = ap other_named (sym c.in-not.is)

pub returns-in-and : goal.returns-in-and
returns-in-and c = ap other_named (sym c.in-and.is)

pub returns-in-or : goal.returns-in-or
returns-in-or c = ap other_named (sym c.in-or.is)

pub returns-in-eq : goal.returns-in-eq
returns-in-eq c = ap other_named (sym c.in-eq.is)

pub returns-in-ite : goal.returns-in-ite
returns-in-ite c = ap other_named (sym c.in-ite.is)

pub returns-in-bvneg : goal.returns-in-bvneg
returns-in-bvneg c = ap other_named (sym c.in-bvneg.is)

pub returns-in-bvadd : goal.returns-in-bvadd
returns-in-bvadd c = ap other_named (sym c.in-bvadd.is)

pub returns-in-bvsub : goal.returns-in-bvsub
returns-in-bvsub c = ap other_named (sym c.in-bvsub.is)

pub returns-in-bvmul : goal.returns-in-bvmul
returns-in-bvmul c = ap other_named (sym c.in-bvmul.is)

pub returns-in-bvudiv : goal.returns-in-bvudiv
returns-in-bvudiv c = ap other_named (sym c.in-bvudiv.is)

pub returns-in-bvurem : goal.returns-in-bvurem
returns-in-bvurem c = ap other_named (sym c.in-bvurem.is)

pub returns-in-bvsdiv : goal.returns-in-bvsdiv
returns-in-bvsdiv c = ap other_named (sym c.in-bvsdiv.is)

pub returns-in-bvsrem : goal.returns-in-bvsrem
returns-in-bvsrem c = ap other_named (sym c.in-bvsrem.is)

pub returns-in-bvsmod : goal.returns-in-bvsmod
returns-in-bvsmod c = ap other_named (sym c.in-bvsmod.is)

pub returns-in-bvshl : goal.returns-in-bvshl
returns-in-bvshl c = ap other_named (sym c.in-bvshl.is)

pub returns-in-bvlshr : goal.returns-in-bvlshr
returns-in-bvlshr c = ap other_named (sym c.in-bvlshr.is)

pub returns-in-bvult : goal.returns-in-bvult
returns-in-bvult c = ap other_named (sym c.in-bvult.is)

pub returns-in-bvule : goal.returns-in-bvule
returns-in-bvule c = ap other_named (sym c.in-bvule.is)

pub returns-in-bvslt : goal.returns-in-bvslt
returns-in-bvslt c = ap other_named (sym c.in-bvslt.is)

pub returns-in-bvsle : goal.returns-in-bvsle
returns-in-bvsle c = ap other_named (sym c.in-bvsle.is)

pub returns-in-bvnego : goal.returns-in-bvnego
returns-in-bvnego c = ap other_named (sym c.in-bvnego.is)

pub returns-in-bvsaddo : goal.returns-in-bvsaddo
returns-in-bvsaddo c = ap other_named (sym c.in-bvsaddo.is)

pub returns-in-bvssubo : goal.returns-in-bvssubo
returns-in-bvssubo c = ap other_named (sym c.in-bvssubo.is)

pub returns-in-bvsmulo : goal.returns-in-bvsmulo
returns-in-bvsmulo c = ap other_named (sym c.in-bvsmulo.is)
