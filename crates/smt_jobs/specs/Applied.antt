-- An operator at numbered terms.
use Rattle.std.specs.Prelude.{◌≡◌, ◌&&◌, [], ◌∷◌, Bool, List, Some, false, is_some, map, not, true}
use Rattle.std.specs.List.{list_all, list_any}
use Rattle.law_folding.specs.Built.{folded}
use Rattle.law_terms.specs.Meanings.{all_found, meanings}
use Rattle.law_terms.specs.Nodes.{TermMeaning, TypeMeaning}
use Rattle.law_terms.specs.Plain.{PlainOp, PlainTerm, Application, PlainType, terms}
use Rattle.law_terms.specs.Types.{result_type, type_of}
use Rattle.smt_jobs.specs.Labels.{is_binary, is_choice, is_plain, is_truth, is_unary}
use Rattle.law_terms.specs.TermOrder.{term_eq}
use Rattle.smt_nodes.specs.Interned.{meaning_in, nodes_of, StandFor}
use Rattle.smt_nodes.specs.View.{places_of}
use Rattle.smt_nodes.specs.declared.id.NodeId.{NodeId}
use Rattle.smt_nodes.specs.declared.interner.Interner.{Interner}

-- The operator takes the terms, and the number stands for what the factory builds of it at them.
abbrev pub IsBuilt : Interner → PlainOp → List PlainTerm → NodeId → Type 0
IsBuilt i o ts id = (ty : PlainType) × (result_type o (map type_of ts) ≡ Some ty) × (meaning_in i id ≡ Some (TermMeaning (folded o ts ty)))

-- These numbers stand for some terms, one for each.
abbrev pub StandForTerms : Interner → List NodeId → Type 0
StandForTerms i ids = (ts : List PlainTerm) × StandFor i ids ts

-- The operator takes the terms, and the number stands for the type that it gives.
abbrev pub IsGiven : Interner → PlainOp → List PlainTerm → NodeId → Type 0
IsGiven i o ts id = (ty : PlainType) × (result_type o (map type_of ts) ≡ Some ty) × (meaning_in i id ≡ Some (TypeMeaning ty))

-- What the factory builds of the operator at these terms, where it takes them, is the application itself.
abbrev pub Stays : PlainOp → List PlainTerm → Type 0
Stays o ts = (ty : PlainType) → result_type o (map type_of ts) ≡ Some ty → folded o ts ty ≡ Application o (terms ts) ty

-- The terms differ, and none of them is true or false.
pub record AreApart (t u : PlainTerm) : Type 0 where
  pub differ : term_eq t u ≡ false
  pub first : is_truth t ≡ false
  pub second : is_truth u ≡ false

-- These parts are this type, and then these terms.
abbrev pub ArePartsOf : Interner → List NodeId → PlainType → List PlainTerm → Type 0
ArePartsOf i parts ty ts = all_found (meanings (nodes_of i)) (places_of parts) ≡ Some (TypeMeaning ty ∷ map TermMeaning ts)

-- an operator that is applied to so many operands without the factory
abbrev pub is_listed : PlainOp → List PlainTerm → Bool
is_listed o (t ∷ []) = is_unary o
is_listed o (t ∷ u ∷ []) = is_binary o
is_listed o (g ∷ t ∷ u ∷ []) = is_choice o
is_listed o ts = false

-- no two of the terms are equal
abbrev pub all_differ : List PlainTerm → Bool
all_differ [] = true
all_differ (t ∷ ts) = not (list_any (term_eq t) ts) && all_differ ts

-- the operator is one of these, and takes the terms
abbrev pub takes : PlainOp → List PlainTerm → Bool
takes o ts = is_listed o ts && is_some (result_type o (map type_of ts))

-- The operator is one of these and takes the terms, which are different variables and applications without negations: then nothing
-- is folded, and that is seen at their nodes.
abbrev pub is_plainly_applied : PlainOp → List PlainTerm → Bool
is_plainly_applied o ts = takes o ts && (list_all is_plain ts && all_differ ts)
