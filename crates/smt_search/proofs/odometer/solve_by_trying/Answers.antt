use Rattle.std.proofs.Common.{◌≡◌, ◌∙◌, List, ap, subst, sym, ℕ}
use Rattle.std.proofs.lemmas.List.{length-replicate}
use Rattle.std.specs.Prelude.{Bool, false, length, replicate}
use Rattle.smt_clauses.specs.Variables.{AreBelow}
use Rattle.smt_clauses.specs.View.{plain_clauses}
use Rattle.smt_search.proofs.Counting.{number-replicate}
use Rattle.smt_search.specs.Counted.{number}
use Rattle.smt_search.proofs.odometer.solve_by_trying.Goals as goal

pub try_all-requires-clause-first : goal.try_all-requires-clause-first
try_all-requires-clause-first c =
    let e : c.in_ok-values.values.items ≡ replicate c.variables.result false = c.in_ok-values.ensures.items_if_clones_equal (λ y h. cc) in
    ap number (c.as_mut_slice.ensures.value ∙ e) ∙ number-replicate c.variables.result

pub try_all-requires-clause-below : goal.try_all-requires-clause-below
try_all-requires-clause-below c =
    let e : c.in_ok-values.values.items ≡ replicate c.variables.result false = c.in_ok-values.ensures.items_if_clones_equal (λ y h. cc) in
    let n : c.variables.result ≡ length c.as_mut_slice.result.now = sym (ap (λ (xs : List Bool). length xs) (c.as_mut_slice.ensures.value ∙ e) ∙ length-replicate c.variables.result false) in
    subst (λ (k : ℕ). AreBelow k (plain_clauses c.args.formula.now)) n c.variables.ensures.above
