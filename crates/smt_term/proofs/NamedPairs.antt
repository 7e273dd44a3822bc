-- The order of pairs of attributes and values is that of the bytes of their attributes beside their values.
use Rattle.std.proofs.Common.{◌≡◌, ℕ, List, [], ◌∷◌, map, refl, ap}
use Rattle.std.specs.List.{zip}
use Rattle.std.specs.Rc.{rc_str_bytes}
use Rattle.std.specs.Ordering.{ordering_then}
use Rattle.std.specs.Cmp.Lexicographic.{slice_cmp}
use Rattle.std.specs.declared.alloc.Global.{Global}
use Rattle.std.specs.declared.rc.RcStr.{RcStr}
use Rattle.std.specs.declared.cmp.Ordering.{Ordering}
use Rattle.law_terms.specs.ValueOrder.{text_cmp}
use Rattle.smt_term.specs.Pairs.{attributes_in}

-- pairs by their attributes, and of one attribute by their values
abbrev pub by_pairs : {X : Type 0} → (X → X → Ordering) → RcStr Global × X → RcStr Global × X → Ordering
by_pairs cmp p q = ordering_then (text_cmp (rc_str_bytes p.0) (rc_str_bytes q.0)) (cmp p.1 q.1)

abbrev pub by_names : {X : Type 0} → (X → X → Ordering) → List ℕ × X → List ℕ × X → Ordering
by_names cmp p q = ordering_then (text_cmp p.0 q.0) (cmp p.1 q.1)

abbrev pub values : {X : Type 0} → List (RcStr Global × X) → List X
values ps = map (λ p. p.1) ps

pub pairs-zipped : {X : Type 0} (cmp : X → X → Ordering) (ps qs : List (RcStr Global × X)) → slice_cmp (by_pairs cmp) ps qs ≡ slice_cmp (by_names cmp) (zip (attributes_in ps) (values ps)) (zip (attributes_in qs) (values qs))
pairs-zipped cmp [] [] = refl
pairs-zipped cmp [] (q ∷ qs) = refl
pairs-zipped cmp (p ∷ ps) [] = refl
pairs-zipped cmp (p ∷ ps) (q ∷ qs) = ap (λ o. ordering_then (by_pairs cmp p q) o) (pairs-zipped cmp ps qs)
