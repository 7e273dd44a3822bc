use Rattle.std.proofs.Common.{subst, sym}
use Rattle.law_clauses.specs.Clauses.{Solves}
use Rattle.smt_clauses.specs.Allowed.{IsReady}
use Rattle.smt_clauses.specs.View.{plain_clauses}
use Rattle.smt_clauses.proofs.Chains.{solved_more}
use Rattle.smt_clauses.proofs.Clashes.{kept_of_marks, only_kept}
use Rattle.smt_clauses.proofs.checker.Checker.add.Goals as goal

pub returns : goal.returns
returns c v a t =
    let r : IsReady v c.attach.new.self = c.in_ok-attach.ensures v t (record {
      clauses = subst (Solves v) (sym c.in_ok-push.ensures.ok) (solved_more v (plain_clauses c.args.self.now.clauses) c.args.clause.now a.clauses t);
      marks = only_kept v c.args.self.now.marks c.forget.new.self c.forget.ensures.forgotten a.kept;
      left = a.left;
    }) in
    record { clauses = r.clauses; kept = kept_of_marks v c.attach.new.self.marks r.marks; left = r.left }
