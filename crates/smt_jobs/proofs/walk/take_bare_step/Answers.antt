use Rattle.std.proofs.Common.{[], ◌∷◌, ◌++◌, refl, sym, ap, ◌∙◌}
use Rattle.law_jobs.specs.Steps.{levels_behind, nothing_more}
use Rattle.smt_jobs.specs.StepView.{plain_bare_step}
use Rattle.smt_jobs.specs.Walk.{named_in}
use Rattle.smt_jobs.proofs.Walking.{bare_built, bare_named, gives_passes, no_level, not_alone, read_none, unnamed}
use Rattle.smt_jobs.proofs.walk.take_bare_step.Goals as goal

pub returns-in_default-clause-stated : goal.returns-in_default-clause-stated
returns-in_default-clause-stated g c ds es end i = unnamed ds c.args.levels c.args.name.now es _ (c.in_default.ensures.none ds es c.requires.other)

pub returns-in_err-rest-clause-stated : goal.returns-in_err-rest-clause-stated
returns-in_err-rest-clause-stated g c ds es end i =
    gives_passes _ c.from_residual.result c.in_err-rest.field-0.0 (named_in ds c.args.levels c.args.name.now es) (nothing_more es) c.from_residual.ensures.1 (c.in_err-rest.ensures.stated 509 es end i)
    (not_alone ds c.args.levels c.args.name.now es (plain_bare_step c.in-Some.step) (c.in-Some.ensures.found ds es))

pub returns-in_err-levels-clause-stated : goal.returns-in_err-levels-clause-stated
returns-in_err-levels-clause-stated g c ds es end i =
    let closed = c.in_ok-rest.ensures.stated 509 es end i in
    gives_passes _ c.from_residual-in_err-levels.result c.in_err-levels.field-0.0 (named_in ds c.args.levels c.args.name.now es) (levels_behind c.args.levels (plain_bare_step c.in-Some.step)) c.from_residual-in_err-levels.ensures.1 c.in_err-levels.ensures.stated
    (no_level ds c.args.levels c.args.name.now es (plain_bare_step c.in-Some.step) (c.in-Some.ensures.found ds es) closed.1)

pub returns-clause-read : goal.returns-clause-read
returns-clause-read g c = (c.args.src.now, read_none c.args.src.now 509, c.in_ok-rest.ensures.read)

pub returns-clause-stated : goal.returns-clause-stated
returns-clause-stated g c ds es end i =
    let closed = c.in_ok-rest.ensures.stated 509 es end i in
    let s = plain_bare_step c.in-Some.step in (
      (s, c.in_ok-levels.levels),
      bare_named ds c.args.levels c.args.name.now es s (c.in-Some.ensures.found ds es) closed.1 c.in_ok-levels.levels c.in_ok-levels.ensures.stated,
      (refl, c.in_ok-take_bare.ensures.taken ∙ ap (λ x. g.T.StepSink.taken c.args.out.now ++ x ∷ []) (sym (bare_built c.in-Some.step)), closed.2),
    )
