use Rattle.std.proofs.Common.{ap, ◌∙◌, ◌∷◌, [], ◌++◌, refl}
use Rattle.smt_mini.proofs.Leveled.{pushed}
use Rattle.smt_mini.proofs.levels.Levels.push.Goals as goal

pub returns : goal.returns
returns c s h running inside =
    (running, pushed c.args.self.now (record { tables = c.args.self.now.tables; marks = c.push.new.self }) s h refl (c.in_ok-push.ensures.items ∙ ap (λ m. c.args.self.now.marks.items ++ m ∷ []) c.mark-mark.ensures))
