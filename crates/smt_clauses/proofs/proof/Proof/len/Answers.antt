use Rattle.std.proofs.Common.{◌≡◌, length, arith, ◌∙◌}
use Rattle.smt_clauses.specs.View.{plain_clauses}
use Rattle.smt_clauses.proofs.Steps.{zip-length}
use Rattle.smt_clauses.proofs.proof.Proof.len.Goals as goal

pub returns : goal.returns
returns c =
    let e : c.len.result ≡ length c.args.self.now.deletes.items = omega (arith, c.args.self.now.deletes.ok) in
    e ∙ zip-length c.args.self.now.deletes.items (plain_clauses c.args.self.now.clauses) c.args.self.now.paired
