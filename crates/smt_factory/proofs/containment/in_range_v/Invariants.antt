use Rattle.std.proofs.Common.{◌≡◌, drop}
use Rattle.smt_factory.specs.Closures.{GivesPairs, GivesTerms, StandsForPairs}
use Rattle.smt_factory_core.specs.AnyOf.{GivesRefinements}
use Rattle.smt_factory.proofs.Rules.{IsFormedBeside, Leads}
use Rattle.law_folding.specs.Builder.{applied, folding}
use Rattle.law_folding.specs.Refinement.{Refines}
use Rattle.law_terms.specs.Plain.{PlainTerm}
use Rattle.smt_term.specs.View.{plain_term}
use Rattle.smt_factory.proofs.containment.in_range_v.Given as goal

-- what has come so far, and what comes of the ranges left, is what comes of all: as it is given, as it is asked for, and formed
abbrev pub invariant-loop-x : goal.invariant-loop-x
invariant-loop-x g l =
    ((is_ip : PlainTerm → PlainTerm) (range : PlainTerm → (PlainTerm × PlainTerm)) → GivesTerms (λ x r. g.F.Fn.post l.rule.is_ip (x, tt) r) is_ip → GivesPairs (λ x r. g.G.Fn.post l.rule.range (x, tt) r) range
    → Leads folding (λ t u. t ≡ u) is_ip range (plain_term l.t) l.ts (drop l.x-index l.ts) (plain_term l.in_one))
    × ((is_ip : PlainTerm → PlainTerm) (range : PlainTerm → (PlainTerm × PlainTerm)) → GivesRefinements (λ x r. g.F.Fn.post l.rule.is_ip (x, tt) r) is_ip → StandsForPairs (λ x r. g.G.Fn.post l.rule.range (x, tt) r) range
    → Leads applied Refines is_ip range (plain_term l.t) l.ts (drop l.x-index l.ts) (plain_term l.in_one))
    × ((is_ip : PlainTerm → PlainTerm) (range : PlainTerm → (PlainTerm × PlainTerm)) → GivesTerms (λ x r. g.F.Fn.post l.rule.is_ip (x, tt) r) is_ip → GivesPairs (λ x r. g.G.Fn.post l.rule.range (x, tt) r) range
    → Leads applied IsFormedBeside is_ip range (plain_term l.t) l.ts (drop l.x-index l.ts) (plain_term l.in_one))
