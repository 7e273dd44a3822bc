use Rattle.std.proofs.Common.{◌++◌, ◌∷◌, [], List, ap, ◌∙◌}
use Rattle.std.specs.Prelude.{Bool}
use Rattle.std.specs.List.{zip}
use Rattle.smt_clauses.specs.View.{plain_clauses}
use Rattle.smt_clauses.proofs.Steps.{zip-push}
use Rattle.smt_clauses.proofs.proof.Proof.push.Goals as goal

pub returns-in-Ok-clause-ok : goal.returns-in-Ok-clause-ok
returns-in-Ok-clause-ok c =
    ap (λ (bs : List Bool). zip bs (plain_clauses c.push-2.new.self)) c.in_ok-push.ensures.items
    ∙ (ap (zip (c.args.self.now.deletes.items ++ c.args.deletes ∷ [])) c.in-Ok.ensures.ok
    ∙ zip-push c.args.self.now.deletes.items (plain_clauses c.args.self.now.clauses) c.args.deletes c.args.clause.now c.args.self.now.paired)
