use Rattle.std.proofs.Common.{[], ◌∷◌, Ok, Err, Result, subst, sym}
use Rattle.std.specs.Prelude.{IfOk}
use Rattle.kembura.specs.Differences.{AreRelated}
use Rattle.kembura.specs.InHand.{AreNeverTrue}
use Rattle.kembura.specs.Plain.{BoolType, PlainTerm}
use Rattle.kembura.specs.TermView.{plain_term}
use Rattle.kembura.specs.TermEnums.{enums_of}
use Rattle.kembura.specs.Typing.{Typed}
use Rattle.kembura_uses.proofs.compare.compare.Goals as goal

-- what follows from what an answer says
so_says : {D E : Type 0} (unsat : D → Type 0) (N A : Type 0) → (N → A) → (result : Result D E) → IfOk result (λ decision. unsat decision → N) → IfOk result (λ decision. unsat decision → A)
so_says unsat N A follows (Ok decision) h = λ u. follows (h u)
so_says unsat N A follows (Err e) h = tt

pub returns : goal.returns
returns g c = record {
  believed = λ first second honest blank.
      let t = plain_term c.args.a in
      let u = plain_term c.args.b in
      let enums = enums_of c.args.enums.now in
      let same = c.in_ok-difference.ensures.folded in
      let typed = subst (λ (w : PlainTerm). Typed w BoolType) (sym same) (c.differences_tell.ensures.boolean c.args.relation t u first second) in
      so_says _ (AreNeverTrue enums (plain_term c.in_ok-difference.field-0 ∷ [])) (AreRelated enums c.args.relation t u)
      (λ never. c.differences_tell.ensures.told enums c.args.relation t u first second (c.program_terms.ensures.formed c.args.a) (c.program_terms.ensures.formed c.args.b) (subst (λ (w : PlainTerm). AreNeverTrue enums (w ∷ [])) same never))
      c.decide.result (c.decide.ensures.believed (typed, tt) honest blank);
}
