use Rattle.std.proofs.Common.{◌≡◌, ℕ, ◌<◌, List, [], refl, true, false, arith}
use Rattle.std.specs.Prelude.{Contains, codes}
use Rattle.std.proofs.lemmas.List.Elements.{Contains-push}
use Rattle.law_folding.specs.Applications.{true_term, false_term, and_of}
use Rattle.law_folding.specs.FoldRows.{b, byte}
use Rattle.law_folding.specs.Refinement.{Refines}
use Rattle.law_folding.proofs.laws.refinement_tells_apart.Goals as goal
use Rattle.law_terms.specs.Defaults.{default_interpretation}
use Rattle.law_terms.specs.Typing.{Typed}
use Rattle.law_terms.specs.Plain.{PlainType, BitVecType, BoolType}
use Rattle.law_terms.specs.Values.{BoolValue}

another_value : Refines true_term b → ⊥
another_value s = let e : BoolValue true ≡ BoolValue false = s.value BoolType [] (default_interpretation []) (record { literals = (tt, tt); types = ((tt, tt), tt) }) (record { parts = refl; type = refl }) (tt, tt) in cc

another_type : Refines (byte 1) true_term → ⊥
another_type s = let y : Typed (byte 1) BoolType = s.type BoolType (record { parts = refl; type = refl }) in let e : BitVecType 8 ≡ BoolType = y.type in cc

none_inside : (x : List ℕ × PlainType) → Contains [] x → ⊥
none_inside x m = let h : m.0 < 0 = m.1 in absurd (omega arith)

one_more : Refines (and_of b false_term) false_term → ⊥
one_more s = none_inside (codes "b", BoolType) (s.variables (codes "b", BoolType) (Contains-push [] (codes "b", BoolType)))

pub returns : goal.returns
returns c = record { values = another_value; types = another_type; reached = one_more }
