-- Single gates.
use Rattle.std.proofs.Common.{◌≡◌, ◌≤◌, ◌==◌, ℕ, Bool, true, false, List, [], ◌∷◌, Option, Some, length, refl, ap, ◌∙◌, arith}
use Rattle.std.specs.Prelude.{IfOk, Result, Ok, Err, option_and_then, option_map}
use Rattle.std.proofs.lemmas.Bool.{false≢true}
use Rattle.std.proofs.lemmas.Bool.Decides.{nat_tests}
use Rattle.law_blasting.specs.Circuits.{with_top}
use Rattle.law_terms.specs.Meanings.{all_found, found, meanings, stands_for}
use Rattle.law_terms.specs.Nodes.{Meaning, PlainLabel, TermMeaning, TypeMeaning}
use Rattle.law_terms.specs.Plain.{BoolLiteral, BoolType, LiteralTerm, PlainTerm}
use Rattle.smt_nodes.proofs.Growing.{bool_there}
use Rattle.smt_nodes.specs.Interned.{meaning_in, nodes_of}
use Rattle.smt_nodes.specs.Kinds.{is_bool_at}
use Rattle.smt_nodes.specs.View.{place_of, places_of}
use Rattle.smt_nodes.specs.declared.id.NodeId.{NodeId}
use Rattle.smt_nodes.specs.declared.interner.Interner.{Interner}
use Rattle.smt_blast.specs.Standing.{is_truth_at, Stands}

-- what is tested to be a Boolean literal is one
pub truth_there : (b : Bool) (o : Option Meaning) → is_truth_at b o ≡ true → o ≡ Some (TermMeaning (LiteralTerm (BoolLiteral b)))
truth_there true (Some (TermMeaning (LiteralTerm (BoolLiteral true)))) h = refl
truth_there false (Some (TermMeaning (LiteralTerm (BoolLiteral false)))) h = refl
truth_there true (Some (TermMeaning (LiteralTerm (BoolLiteral false)))) h = absurd (false≢true h)
truth_there false (Some (TermMeaning (LiteralTerm (BoolLiteral true)))) h = absurd (false≢true h)
truth_there b o h = absurd (cc)

-- one more part is found
pub more_found : (ms : List (Option Meaning)) (i : ℕ) (m : Meaning) (is : List ℕ) (ps : List Meaning) → found ms i ≡ Some m → all_found ms is ≡ Some ps → all_found ms (i ∷ is) ≡ Some (m ∷ ps)
more_found ms i m is ps e f = ap (option_and_then (λ x. option_map (λ (rest : List Meaning). x ∷ rest) (all_found ms is))) e ∙ ap (option_map (λ (rest : List Meaning). m ∷ rest)) f

-- the Boolean type and bits are found
pub type_found : (i : Interner) (ty : NodeId) (ids : List NodeId) (ps : List Meaning) → is_bool_at (meaning_in i ty) ≡ true → all_found (meanings (nodes_of i)) (places_of ids) ≡ Some ps
    → all_found (meanings (nodes_of i)) (places_of (ty ∷ ids)) ≡ Some (TypeMeaning BoolType ∷ ps)
type_found i ty ids ps h e = more_found (meanings (nodes_of i)) (place_of ty) (TypeMeaning BoolType) (places_of ids) ps (bool_there (meaning_in i ty) h) e

pub bit_found : (i : Interner) (id : NodeId) (u : PlainTerm) (ids : List NodeId) (ps : List Meaning) → Stands i id u → all_found (meanings (nodes_of i)) (places_of ids) ≡ Some ps
    → all_found (meanings (nodes_of i)) (places_of (id ∷ ids)) ≡ Some (TermMeaning u ∷ ps)
bit_found i id u ids ps s e = more_found (meanings (nodes_of i)) (place_of id) (TermMeaning u) (places_of ids) ps s.means e

-- a node that is entered stands for what its label makes of its parts
pub entered : {E : Type 0} (r : Result NodeId E) (i j : Interner) (parts : List NodeId) (ps : List Meaning) (l : PlainLabel) (u : PlainTerm)
    → ((ms : List Meaning) → all_found (meanings (nodes_of i)) (places_of parts) ≡ Some ms → IfOk r (λ id. meaning_in j id ≡ stands_for l ms)) → all_found (meanings (nodes_of i)) (places_of parts) ≡ Some ps → stands_for l ps ≡ Some (TermMeaning u) → IfOk r (λ id. Stands j id u)
entered (Ok id) i j parts ps l u h e k = record { means = h ps e ∙ k }
entered (Err x) i j parts ps l u h e k = tt

-- ---- lists

without : {X : Type 0} (ys : List X) → length ys ≡ 0 → ys ≡ []
without [] e = refl
without (y ∷ ys) e = absurd (omega arith)

pub is_empty : {X : Type 0} (xs : List X) → (length xs == 0) ≡ true → xs ≡ []
is_empty xs h = without xs (grind (arith, nat_tests))

pub is_not_empty : {X : Type 0} (xs : List X) → (length xs == 0) ≡ false → ¬ (xs ≡ [])
is_not_empty xs h = λ e. let k : length xs ≡ 0 = ap length e in absurd (grind (arith, nat_tests))

pub with_top_length : {X : Type 0} (xs ys : List X) → length (with_top xs ys) ≤ length xs
with_top_length [] ys = omega arith
with_top_length (x ∷ xs) [] = omega arith
with_top_length (x ∷ []) (y ∷ ys) = omega arith
with_top_length (x ∷ (z ∷ xs)) (y ∷ ys) = omega (arith, with_top_length (z ∷ xs) ys)
