use Rattle.std.proofs.Common.{ap}
use Rattle.law_numbers.specs.BitOperators.{BvaddOp, BvlshrOp, BvmulOp, BvsaddoOp, BvsdivOp, BvshlOp, BvsleOp, BvsltOp, BvsmodOp, BvsmuloOp, BvsremOp, BvssuboOp, BvsubOp, BvudivOp, BvuleOp, BvultOp, BvuremOp}
use Rattle.law_terms.specs.Plain.{AndOp, BitsOp, EqOp, OrOp, OverflowOp, SetInterOp, SetMemberOp, SetSubsetOp, TestOp}
use Rattle.smt_term.specs.View.{plain_op}
use Rattle.smt_job_terms.proofs.Operators.{from_two}
use Rattle.smt_job_terms.proofs.operator.built_from_two.Goals as goal

pub returns-in-And : goal.returns-in-And
returns-in-And c ty = from_two _ AndOp _ _ _ _ _ ty _ _ (ap plain_op c.in-And.is) c.in_ok-a.ensures c.in_ok-b.ensures c.and.ensures.folded c.some.ensures

pub returns-in-Or : goal.returns-in-Or
returns-in-Or c ty = from_two _ OrOp _ _ _ _ _ ty _ _ (ap plain_op c.in-Or.is) c.in_ok-a.ensures c.in_ok-b.ensures c.or.ensures.folded c.some-in-Or.ensures

pub returns-in-Eq : goal.returns-in-Eq
returns-in-Eq c ty = from_two _ EqOp _ _ _ _ _ ty _ _ (ap plain_op c.in-Eq.is) c.in_ok-a.ensures c.in_ok-b.ensures c.eq.ensures.folded c.some-in-Eq.ensures

pub returns-in-Bvadd : goal.returns-in-Bvadd
returns-in-Bvadd c ty = from_two _ (BitsOp BvaddOp) _ _ _ _ _ ty _ _ (ap plain_op c.in-Bvadd.is) c.in_ok-a.ensures c.in_ok-b.ensures c.bvadd.ensures.folded c.some-in-Bvadd.ensures

pub returns-in-Bvsub : goal.returns-in-Bvsub
returns-in-Bvsub c ty = from_two _ (BitsOp BvsubOp) _ _ _ _ _ ty _ _ (ap plain_op c.in-Bvsub.is) c.in_ok-a.ensures c.in_ok-b.ensures c.bvsub.ensures.folded c.some-in-Bvsub.ensures

pub returns-in-Bvmul : goal.returns-in-Bvmul
returns-in-Bvmul c ty = from_two _ (BitsOp BvmulOp) _ _ _ _ _ ty _ _ (ap plain_op c.in-Bvmul.is) c.in_ok-a.ensures c.in_ok-b.ensures c.bvmul.ensures.folded c.some-in-Bvmul.ensures

pub returns-in-Bvudiv : goal.returns-in-Bvudiv
returns-in-Bvudiv c ty = from_two _ (BitsOp BvudivOp) _ _ _ _ _ ty _ _ (ap plain_op c.in-Bvudiv.is) c.in_ok-a.ensures c.in_ok-b.ensures c.bvudiv.ensures.folded c.some-in-Bvudiv.ensures

pub returns-in-Bvurem : goal.returns-in-Bvurem
returns-in-Bvurem c ty = from_two _ (BitsOp BvuremOp) _ _ _ _ _ ty _ _ (ap plain_op c.in-Bvurem.is) c.in_ok-a.ensures c.in_ok-b.ensures c.bvurem.ensures.folded c.some-in-Bvurem.ensures

pub returns-in-Bvsdiv : goal.returns-in-Bvsdiv
returns-in-Bvsdiv c ty = from_two _ (BitsOp BvsdivOp) _ _ _ _ _ ty _ _ (ap plain_op c.in-Bvsdiv.is) c.in_ok-a.ensures c.in_ok-b.ensures c.bvsdiv.ensures.folded c.some-in-Bvsdiv.ensures

pub returns-in-Bvsrem : goal.returns-in-Bvsrem
returns-in-Bvsrem c ty = from_two _ (BitsOp BvsremOp) _ _ _ _ _ ty _ _ (ap plain_op c.in-Bvsrem.is) c.in_ok-a.ensures c.in_ok-b.ensures c.bvsrem.ensures.folded c.some-in-Bvsrem.ensures

pub returns-in-Bvsmod : goal.returns-in-Bvsmod
returns-in-Bvsmod c ty = from_two _ (BitsOp BvsmodOp) _ _ _ _ _ ty _ _ (ap plain_op c.in-Bvsmod.is) c.in_ok-a.ensures c.in_ok-b.ensures c.bvsmod.ensures.folded c.some-in-Bvsmod.ensures

pub returns-in-Bvshl : goal.returns-in-Bvshl
returns-in-Bvshl c ty = from_two _ (BitsOp BvshlOp) _ _ _ _ _ ty _ _ (ap plain_op c.in-Bvshl.is) c.in_ok-a.ensures c.in_ok-b.ensures c.bvshl.ensures.folded c.some-in-Bvshl.ensures

pub returns-in-Bvlshr : goal.returns-in-Bvlshr
returns-in-Bvlshr c ty = from_two _ (BitsOp BvlshrOp) _ _ _ _ _ ty _ _ (ap plain_op c.in-Bvlshr.is) c.in_ok-a.ensures c.in_ok-b.ensures c.bvlshr.ensures.folded c.some-in-Bvlshr.ensures

pub returns-in-Bvult : goal.returns-in-Bvult
returns-in-Bvult c ty = from_two _ (TestOp BvultOp) _ _ _ _ _ ty _ _ (ap plain_op c.in-Bvult.is) c.in_ok-a.ensures c.in_ok-b.ensures c.bvult.ensures.folded c.some-in-Bvult.ensures

pub returns-in-Bvule : goal.returns-in-Bvule
returns-in-Bvule c ty = from_two _ (TestOp BvuleOp) _ _ _ _ _ ty _ _ (ap plain_op c.in-Bvule.is) c.in_ok-a.ensures c.in_ok-b.ensures c.bvule.ensures.folded c.some-in-Bvule.ensures

pub returns-in-Bvslt : goal.returns-in-Bvslt
returns-in-Bvslt c ty = from_two _ (TestOp BvsltOp) _ _ _ _ _ ty _ _ (ap plain_op c.in-Bvslt.is) c.in_ok-a.ensures c.in_ok-b.ensures c.bvslt.ensures.folded c.some-in-Bvslt.ensures

pub returns-in-Bvsle : goal.returns-in-Bvsle
returns-in-Bvsle c ty = from_two _ (TestOp BvsleOp) _ _ _ _ _ ty _ _ (ap plain_op c.in-Bvsle.is) c.in_ok-a.ensures c.in_ok-b.ensures c.bvsle.ensures.folded c.some-in-Bvsle.ensures

pub returns-in-Bvsaddo : goal.returns-in-Bvsaddo
returns-in-Bvsaddo c ty = from_two _ (OverflowOp BvsaddoOp) _ _ _ _ _ ty _ _ (ap plain_op c.in-Bvsaddo.is) c.in_ok-a.ensures c.in_ok-b.ensures c.bvsaddo.ensures.folded c.some-in-Bvsaddo.ensures

pub returns-in-Bvssubo : goal.returns-in-Bvssubo
returns-in-Bvssubo c ty = from_two _ (OverflowOp BvssuboOp) _ _ _ _ _ ty _ _ (ap plain_op c.in-Bvssubo.is) c.in_ok-a.ensures c.in_ok-b.ensures c.bvssubo.ensures.folded c.some-in-Bvssubo.ensures

pub returns-in-Bvsmulo : goal.returns-in-Bvsmulo
returns-in-Bvsmulo c ty = from_two _ (OverflowOp BvsmuloOp) _ _ _ _ _ ty _ _ (ap plain_op c.in-Bvsmulo.is) c.in_ok-a.ensures c.in_ok-b.ensures c.bvsmulo.ensures.folded c.some-in-Bvsmulo.ensures

pub returns-in-SetInter : goal.returns-in-SetInter
returns-in-SetInter c ty = from_two _ SetInterOp _ _ _ _ _ ty _ _ (ap plain_op c.in-SetInter.is) c.in_ok-a.ensures c.in_ok-b.ensures c.set_inter.ensures.folded c.some-in-SetInter.ensures

pub returns-in-SetMember : goal.returns-in-SetMember
returns-in-SetMember c ty = from_two _ SetMemberOp _ _ _ _ _ ty _ _ (ap plain_op c.in-SetMember.is) c.in_ok-a.ensures c.in_ok-b.ensures c.set_member.ensures.folded c.some-in-SetMember.ensures

pub returns-in-SetSubset : goal.returns-in-SetSubset
returns-in-SetSubset c ty = from_two _ SetSubsetOp _ _ _ _ _ ty _ _ (ap plain_op c.in-SetSubset.is) c.in_ok-a.ensures c.in_ok-b.ensures c.set_subset.ensures.folded c.some-in-SetSubset.ensures
