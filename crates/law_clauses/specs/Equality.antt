-- Clauses of equality, and those of congruence: equal parts make equal wholes.
use Rattle.std.specs.Prelude.{ℕ, List, [], ◌∷◌, map}
use Rattle.law_terms.specs.Plain.{PlainType, PlainOp, PlainTerm, Application, RecordTerm, SetTerm, SomeTerm, record_fields, terms}
use Rattle.law_clauses.specs.Sequents.{IsAlwaysValid, Sequent, always, implies, ◌⊢◌}
use Rattle.law_clauses.specs.Statements.{Atom, Element, Same, same_terms}

-- an element is the same as itself
abbrev pub reflexive : Element → Sequent
reflexive a = always (Same a a)

-- what is the same one way is so the other way
abbrev pub symmetric : Element → Element → Sequent
symmetric a b = implies (Same a b) (Same b a)

-- two elements that are the same as a third are the same
abbrev pub transitive : Element → Element → Element → Sequent
transitive a b c = (Same a b ∷ Same b c ∷ []) ⊢ (Same a c ∷ [])

-- all of these are valid
pub record EqualityIsValid : Type 0 where
  pub itself : (a : Element) → IsAlwaysValid (reflexive a)
  pub turned : (a b : Element) → IsAlwaysValid (symmetric a b)
  pub through : (a b c : Element) → IsAlwaysValid (transitive a b c)

-- ---- congruence

-- the two terms of each pair are the same
abbrev pub same_pairs : List (PlainTerm × PlainTerm) → List Atom
same_pairs ps = map (λ p. same_terms p.0 p.1) ps

-- the first terms of pairs
abbrev pub first_terms : List (PlainTerm × PlainTerm) → List PlainTerm
first_terms ps = map (λ p. p.0) ps

-- the second terms of pairs
abbrev pub second_terms : List (PlainTerm × PlainTerm) → List PlainTerm
second_terms ps = map (λ p. p.1) ps

-- the value of an operator depends on the values of its arguments: of a function, a selector, `option.get`, a match, all of them
abbrev pub congruent : PlainOp → PlainType → List (PlainTerm × PlainTerm) → Sequent
congruent o ty ps =
    same_pairs ps ⊢ (same_terms (Application o (terms (first_terms ps)) ty) (Application o (terms (second_terms ps)) ty) ∷ [])

-- so does a set on its elements
abbrev pub congruent_set : PlainType → List (PlainTerm × PlainTerm) → Sequent
congruent_set ty ps = same_pairs ps ⊢ (same_terms (SetTerm ty (terms (first_terms ps))) (SetTerm ty (terms (second_terms ps))) ∷ [])

-- an option on what it holds
abbrev pub congruent_some : PlainTerm → PlainTerm → Sequent
congruent_some t u = implies (same_terms t u) (same_terms (SomeTerm t) (SomeTerm u))

-- an attribute with two terms
abbrev pub FieldPair : Type 0
FieldPair = List ℕ × (PlainTerm × PlainTerm)

-- the record of the first terms
abbrev pub first_record : List FieldPair → PlainTerm
first_record fs = RecordTerm (record_fields (map (λ f. (f.0, f.1.0)) fs))

-- the record of the second terms
abbrev pub second_record : List FieldPair → PlainTerm
second_record fs = RecordTerm (record_fields (map (λ f. (f.0, f.1.1)) fs))

-- and a record on its fields
abbrev pub congruent_record : List FieldPair → Sequent
congruent_record fs = same_pairs (map (λ f. f.1) fs) ⊢ (same_terms (first_record fs) (second_record fs) ∷ [])

-- all of these are valid
pub record CongruenceIsValid : Type 0 where
  pub operators : (o : PlainOp) (ty : PlainType) (ps : List (PlainTerm × PlainTerm)) → IsAlwaysValid (congruent o ty ps)
  pub sets : (ty : PlainType) (ps : List (PlainTerm × PlainTerm)) → IsAlwaysValid (congruent_set ty ps)
  pub options : (t u : PlainTerm) → IsAlwaysValid (congruent_some t u)
  pub records : (fs : List FieldPair) → IsAlwaysValid (congruent_record fs)
