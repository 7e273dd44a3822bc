-- What the foldings give for the calls that are made of other calls stands for the applications that these were asked for.
use Rattle.std.proofs.Common.{List}
use Rattle.std.specs.List.{AllZip}
use Rattle.law_folding.specs.Builder.{applied, folding}
use Rattle.law_folding.specs.Composites.{any_none, any_of, if_all_some, if_false, if_some, if_true, implies, is_some, set_intersects}
use Rattle.law_folding.specs.Refinement.{Refines}
use Rattle.law_folding.proofs.CompositesKeep.{each_itself, keeps_any, keeps_any_none, keeps_if_all_some, keeps_if_false, keeps_if_some, keeps_if_true, keeps_implies, keeps_is_some, keeps_set_intersects, same}
use Rattle.law_folding.proofs.FoldingsKeep.{related}
use Rattle.law_folding.proofs.Standing.{itself}
use Rattle.law_terms.specs.Plain.{PlainTerm}

pub stands_implies : (t u : PlainTerm) → Refines (implies folding t u) (implies applied t u)
stands_implies t u = keeps_implies folding applied related (itself t) (itself u)

pub stands_any : (ts us : List PlainTerm) → AllZip Refines ts us → Refines (any_of folding ts) (any_of applied us)
stands_any = keeps_any folding applied related

pub stands_set_intersects : (t u : PlainTerm) → Refines (set_intersects folding t u) (set_intersects applied t u)
stands_set_intersects t u = keeps_set_intersects folding applied related (itself t) (itself u)

pub stands_is_some : (t : PlainTerm) → Refines (is_some folding t) (is_some applied t)
stands_is_some t = keeps_is_some folding applied related (itself t)

pub stands_if_false : (g t : PlainTerm) → Refines (if_false folding g t) (if_false applied g t)
stands_if_false g t = keeps_if_false folding applied related (itself g) (same t)

pub stands_if_true : (g t : PlainTerm) → Refines (if_true folding g t) (if_true applied g t)
stands_if_true g t = keeps_if_true folding applied related (itself g) (same t)

pub stands_if_some : (g t : PlainTerm) → Refines (if_some folding g t) (if_some applied g t)
stands_if_some g t = keeps_if_some folding applied related (itself g) (same t)

pub stands_any_none : (gs : List PlainTerm) → Refines (any_none folding gs) (any_none applied gs)
stands_any_none gs = keeps_any_none folding applied related gs gs (each_itself gs)

pub stands_if_all_some : (gs : List PlainTerm) (t : PlainTerm) → Refines (if_all_some folding gs t) (if_all_some applied gs t)
stands_if_all_some gs t = keeps_if_all_some folding applied related gs gs (each_itself gs) (same t)
