-- Worked examples of statements and of clauses, in a small interpretation.
use Rattle.std.specs.Prelude.{◌≡◌, ℕ, Bool, true, false, codes, List, [], ◌∷◌, map, zero, suc}
use Rattle.law_numbers.specs.BitOperators.{BvaddOp}
use Rattle.law_terms.specs.Meaning.{meaning}
use Rattle.law_terms.specs.Plain.{BitVecType, BoolType, DatetimeOfBitVecOp, DatetimeValOp, BitsOp, UufOp, PatternPart, Character, Wildcard}
use Rattle.law_terms.specs.Plain.{PlainTerm, NoneTerm, one_field, no_fields, terms}
use Rattle.law_terms.specs.Values.{Value, BitVecValue, BoolValue}
use Rattle.law_clauses.specs.Applications.{bool_term, get_term, not_term, number_term}
use Rattle.law_clauses.specs.Bits.{bits_from, circuit_clauses}
use Rattle.law_clauses.specs.Entities.{one_of_members}
use Rattle.law_clauses.specs.Equality.{congruent, congruent_record, congruent_set, congruent_some, reflexive, symmetric, transitive}
use Rattle.law_clauses.specs.Example.{a_datetime, a_function, a_range, a_record, a_string, an_entity, empty, full, one_attribute}
use Rattle.law_clauses.specs.Example.{other_range, p, q, s, small, t, x, y, z}
use Rattle.law_clauses.specs.Extensions.{of_and_back, same_bits, same_v4, same_v6}
use Rattle.law_clauses.specs.GateClauses.{and_clauses, not_clauses, or_clauses}
use Rattle.law_clauses.specs.Known.{blank, is_known_atom}
use Rattle.law_clauses.specs.Options.{get_of_some, none_or_some, some_is_not_none, true_or_false, what_some_holds}
use Rattle.law_clauses.specs.PatternTests.{may_meet, takes_all}
use Rattle.law_clauses.specs.ProductOverflows.{overflow_of_product, product_overflows}
use Rattle.law_clauses.specs.Products.{product_clauses}
use Rattle.law_clauses.specs.Quotients.{quotient_clauses}
use Rattle.law_clauses.specs.Records.{attribute_of_record, record_of_attributes}
use Rattle.law_clauses.specs.Sequents.{Numbered, Refute, Sequent, literals, refutation, stated, ◌⊢◌}
use Rattle.law_clauses.specs.Sets.{each_in, inter_clauses, member_clauses, one_of, same_elements, same_sets, subset_clauses}
use Rattle.law_clauses.specs.Sets.{subsets_are_same}
use Rattle.law_clauses.specs.SignedQuotients.{signed_clauses, signed_modulus, signed_quotient, signed_remainder}
use Rattle.law_clauses.specs.Statements.{Apart, Atom, Choice, Conjunction, Constant, Disjunction, Equality, Negation, Same, TruthOf}
use Rattle.law_clauses.specs.Statements.{Value_of, Within, atom_truth, same_terms}
use Rattle.law_clauses.specs.Strings.{like_anything, like_apart, like_literal, like_within}
use Rattle.law_clauses.specs.Structure.{eq_clauses, ite_clauses, truth_clauses}

-- the truths of statements in the small interpretation
abbrev pub truths : List Atom → List Bool
truths xs = map (atom_truth small) xs

-- each kind of statement, where it is true and where it is not
pub record StatementRows : Type 0 where
  pub terms : truths (TruthOf p ∷ TruthOf q ∷ TruthOf x ∷ []) ≡ true ∷ false ∷ false ∷ []
  pub bits : truths (bits_from y 0 3) ≡ false ∷ true ∷ false ∷ []
  pub same : truths (same_terms x z ∷ same_terms x y ∷ same_terms x p ∷ []) ≡ true ∷ false ∷ false ∷ []
  pub within : truths (Within (Value_of x) s ∷ Within (Value_of x) t ∷ []) ≡ true ∷ false ∷ []
  pub apart : truths (Same (Apart s t) (Value_of x) ∷ Within (Apart s t) s ∷ Within (Apart s t) t ∷ []) ≡ true ∷ true ∷ false ∷ []
  pub none_apart : truths (Same (Apart t s) (Value_of (bool_term false)) ∷ []) ≡ true ∷ []
  pub constants : truths (Constant true ∷ Constant false ∷ []) ≡ true ∷ false ∷ []
  pub negations : truths (Negation (TruthOf p) ∷ Negation (TruthOf q) ∷ []) ≡ false ∷ true ∷ []
  pub conjunctions : truths (Conjunction (TruthOf p) (TruthOf q) ∷ Conjunction (TruthOf p) (TruthOf p) ∷ []) ≡ false ∷ true ∷ []
  pub disjunctions : truths (Disjunction (TruthOf q) (TruthOf q) ∷ Disjunction (TruthOf q) (TruthOf p) ∷ []) ≡ false ∷ true ∷ []
  pub equalities : truths (Equality (TruthOf p) (TruthOf q) ∷ Equality (TruthOf q) (TruthOf q) ∷ []) ≡ false ∷ true ∷ []
  pub choices : truths (Choice (TruthOf p) (TruthOf q) (TruthOf p) ∷ Choice (TruthOf q) (TruthOf q) (TruthOf p) ∷ []) ≡ false ∷ true ∷ []

-- the truths of a clause's premises, and of its conclusions
abbrev pub ClauseTruths : Type 0
ClauseTruths = List Bool × List Bool

-- those of a clause in the small interpretation
abbrev pub of_clause : Sequent → ClauseTruths
of_clause c = (truths c.premises, truths c.conclusions)

-- those of clauses
abbrev pub of_clauses : List Sequent → List ClauseTruths
of_clauses cs = map of_clause cs

-- one premise and one conclusion, both true
abbrev pub both_true : ClauseTruths
both_true = (true ∷ [], true ∷ [])

-- one premise and one conclusion, none true
abbrev pub none_true : ClauseTruths
none_true = (false ∷ [], false ∷ [])

-- one conclusion, which is true
abbrev pub told : ClauseTruths
told = ([], true ∷ [])

-- two conclusions, of which the first is true
abbrev pub first_true : ClauseTruths
first_true = ([], true ∷ false ∷ [])

-- two conclusions, of which the second is true
abbrev pub second_true : ClauseTruths
second_true = ([], false ∷ true ∷ [])

-- clauses of gates and of Boolean structure, of equality and of what is known
pub record EqualityRows : Type 0 where
  pub negation : of_clauses (not_clauses (TruthOf (not_term p)) (TruthOf p)) ≡ (false ∷ true ∷ [], []) ∷ second_true ∷ []
  pub conjunction :
      of_clauses (and_clauses (Conjunction (TruthOf p) (TruthOf q)) (TruthOf p) (TruthOf q))
      ≡ (false ∷ [], true ∷ []) ∷ none_true ∷ (true ∷ false ∷ [], false ∷ []) ∷ []
  pub disjunction :
      of_clauses (or_clauses (Disjunction (TruthOf p) (TruthOf q)) (TruthOf p) (TruthOf q))
      ≡ both_true ∷ (false ∷ [], true ∷ []) ∷ (true ∷ [], true ∷ false ∷ []) ∷ []
  pub same : of_clauses (eq_clauses x z) ≡ both_true ∷ both_true ∷ []
  pub differ : of_clauses (eq_clauses x y) ≡ none_true ∷ none_true ∷ []
  pub chosen : of_clauses (ite_clauses (BitVecType 2) p x y) ≡ both_true ∷ first_true ∷ []
  pub other_chosen : of_clauses (ite_clauses (BitVecType 2) q x y) ≡ none_true ∷ second_true ∷ []
  pub booleans : of_clauses (truth_clauses p (bool_term true)) ≡ (true ∷ true ∷ [], true ∷ []) ∷ (true ∷ true ∷ [], true ∷ []) ∷ []
  pub itself : of_clause (reflexive (Value_of x)) ≡ told
  pub turned : of_clause (symmetric (Value_of x) (Value_of z)) ≡ both_true
  pub through : of_clause (transitive (Value_of x) (Value_of z) (Value_of y)) ≡ (true ∷ false ∷ [], false ∷ [])
  pub function_of_same : of_clause (congruent (UufOp a_function) BoolType ((x, z) ∷ [])) ≡ both_true
  pub function_of_others : of_clause (congruent (UufOp a_function) BoolType ((x, y) ∷ [])) ≡ none_true
  pub sets_of_same : of_clause (congruent_set (BitVecType 2) ((x, z) ∷ (y, y) ∷ [])) ≡ (true ∷ true ∷ [], true ∷ [])
  pub options_of_same : of_clause (congruent_some x z) ≡ both_true
  pub records_of_others : of_clause (congruent_record ((codes "a", (x, y)) ∷ [])) ≡ none_true
  pub known : map is_known_atom (same_terms (number_term 2 1) (number_term 2 2) ∷ same_terms x x ∷ []) ≡ true ∷ false ∷ []
  pub not_known : is_known_atom (same_terms (get_term (BitVecType 2) (NoneTerm (BitVecType 2))) (number_term 2 0)) ≡ false
  pub known_to_differ : atom_truth blank (same_terms (number_term 2 1) (number_term 2 2)) ≡ false

-- clauses of options, sets, records, entities, strings and values of extension types
pub record ValueRows : Type 0 where
  pub not_none : of_clause (some_is_not_none x (BitVecType 2)) ≡ (false ∷ [], [])
  pub held : of_clause (what_some_holds x z) ≡ both_true
  pub got : of_clause (get_of_some (BitVecType 2) x) ≡ told
  pub some : of_clause (none_or_some (BitVecType 2) full) ≡ second_true
  pub none : of_clause (none_or_some (BitVecType 2) empty) ≡ first_true
  pub is_false : of_clause (true_or_false q) ≡ second_true
  pub elements : of_clause (same_elements (Value_of x) (Value_of z) s) ≡ (true ∷ true ∷ [], true ∷ [])
  pub sets : of_clause (same_sets (Value_of x) s t) ≡ (false ∷ true ∷ [], false ∷ [])
  pub member : of_clauses (member_clauses x t) ≡ none_true ∷ none_true ∷ []
  pub listed : of_clause (one_of (Value_of z) (BitVecType 2) (y ∷ x ∷ [])) ≡ (true ∷ [], false ∷ true ∷ [])
  pub each : of_clauses (each_in (BitVecType 2) (y ∷ x ∷ [])) ≡ told ∷ told ∷ []
  pub in_both :
      of_clauses (inter_clauses (Value_of x) (BitVecType 2) s t)
      ≡ (false ∷ [], true ∷ []) ∷ none_true ∷ (true ∷ false ∷ [], false ∷ []) ∷ []
  pub no_subset : of_clauses (subset_clauses (Value_of x) s t) ≡ (false ∷ true ∷ [], false ∷ []) ∷ second_true ∷ none_true ∷ []
  pub subset : of_clauses (subset_clauses (Value_of y) t s) ≡ (true ∷ true ∷ [], true ∷ []) ∷ first_true ∷ (false ∷ [], true ∷ []) ∷ []
  pub subsets : of_clause (subsets_are_same s t) ≡ (false ∷ true ∷ [], false ∷ [])
  pub attribute : of_clause (attribute_of_record (BitVecType 2) (codes "a") (one_field (codes "a") x no_fields) x) ≡ told
  pub attributes : of_clause (record_of_attributes one_attribute a_record) ≡ told
  pub members : of_clause (one_of_members (codes "E") (codes "a" ∷ codes "b" ∷ []) an_entity) ≡ second_true
  pub anything : of_clause (like_anything a_string) ≡ told
  pub literal : of_clause (like_literal (codes "ab") a_string) ≡ both_true
  pub within : of_clause (like_within (Character 97 ∷ Wildcard ∷ []) (Wildcard ∷ []) a_string) ≡ both_true
  pub apart : of_clause (like_apart (Character 97 ∷ Wildcard ∷ []) (Character 98 ∷ Wildcard ∷ []) a_string) ≡ (true ∷ false ∷ [], [])
  pub datetimes : of_clause (same_bits DatetimeValOp a_datetime a_datetime) ≡ both_true
  pub bits_again : of_clause (of_and_back DatetimeOfBitVecOp DatetimeValOp (number_term 64 7)) ≡ told
  pub v4 : of_clause (same_v4 a_range a_range) ≡ (true ∷ true ∷ true ∷ true ∷ [], true ∷ [])
  pub v6 : of_clause (same_v6 other_range a_range) ≡ (false ∷ false ∷ [], false ∷ true ∷ false ∷ [])

-- the patterns a, b, a*, *a, *b and a*b
abbrev pub patterns : List (List PatternPart)
patterns =
    (Character 97 ∷ []) ∷
    (Character 98 ∷ []) ∷
    (Character 97 ∷ Wildcard ∷ []) ∷
    (Wildcard ∷ Character 97 ∷ []) ∷
    (Wildcard ∷ Character 98 ∷ []) ∷
    (Character 97 ∷ Wildcard ∷ Character 98 ∷ []) ∷ []

-- which of these patterns some patterns take all of, and which they may meet
pub record PatternRows : Type 0 where
  pub from_a : map (takes_all (Character 97 ∷ Wildcard ∷ [])) patterns ≡ true ∷ false ∷ true ∷ false ∷ false ∷ true ∷ []
  pub to_b : map (takes_all (Wildcard ∷ Character 98 ∷ [])) patterns ≡ false ∷ true ∷ false ∷ false ∷ true ∷ true ∷ []
  pub all : map (takes_all (Wildcard ∷ [])) ([] ∷ patterns) ≡ true ∷ true ∷ true ∷ true ∷ true ∷ true ∷ true ∷ []
  pub nothing : map (takes_all []) ([] ∷ patterns) ≡ true ∷ false ∷ false ∷ false ∷ false ∷ false ∷ false ∷ []
  pub meet_a : map (may_meet (Character 97 ∷ Wildcard ∷ [])) patterns ≡ true ∷ false ∷ true ∷ true ∷ true ∷ true ∷ []
  pub meet_b : map (may_meet (Wildcard ∷ Character 98 ∷ [])) patterns ≡ false ∷ true ∷ true ∷ false ∷ true ∷ true ∷ []
  pub meet_all :
      map (may_meet (Character 97 ∷ Character 98 ∷ [])) ((Wildcard ∷ []) ∷ patterns)
      ≡ true ∷ false ∷ false ∷ true ∷ false ∷ true ∷ true ∷ []
  pub meet_nothing : map (may_meet []) ((Wildcard ∷ []) ∷ patterns) ≡ true ∷ false ∷ false ∷ false ∷ false ∷ false ∷ false ∷ []

-- the value of a term of two numbers of four bits
abbrev pub of_four : (ℕ → PlainTerm → PlainTerm → PlainTerm) → ℕ → ℕ → Value
of_four f a b = meaning small (f 4 (number_term 4 a) (number_term 4 b))

-- the values of such terms at pairs of numbers
abbrev pub at_four : (ℕ → PlainTerm → PlainTerm → PlainTerm) → List (ℕ × ℕ) → List Value
at_four f ps = map (λ n. of_four f n.0 n.1) ps

-- Clauses of bits: the sum of 3 and 2 is 1 in two bits, their product 2, and the quotient and remainder are 1. Then signed terms in
-- four bits, where 9 is -7, 13 is -3, 14 is -2, 15 is -1 and 8 is -8.
pub record BitRows : Type 0 where
  pub sum :
      of_clauses (circuit_clauses (BitsOp BvaddOp) (terms (x ∷ y ∷ [])) (BitVecType 2)) ≡ both_true ∷ both_true ∷ none_true ∷ none_true ∷ []
  pub product : of_clauses (product_clauses 2 x y) ≡ none_true ∷ none_true ∷ both_true ∷ both_true ∷ []
  pub quotient : of_clauses (quotient_clauses 2 x y) ≡ none_true ∷ none_true ∷ second_true ∷ second_true ∷ []
  pub by_zero : of_clauses (quotient_clauses 2 x (number_term 2 0)) ≡ both_true ∷ both_true ∷ ([], true ∷ true ∷ []) ∷ first_true ∷ []
  pub signed : of_clauses (signed_clauses 2 x y) ≡ told ∷ told ∷ told ∷ []
  pub quotients : at_four signed_quotient ((9, 2) ∷ (7, 14) ∷ (9, 14) ∷ []) ≡ map (BitVecValue 4) (13 ∷ 13 ∷ 3 ∷ [])
  pub remainders : at_four signed_remainder ((9, 2) ∷ (7, 14) ∷ (9, 14) ∷ []) ≡ map (BitVecValue 4) (15 ∷ 1 ∷ 15 ∷ [])
  pub moduli : at_four signed_modulus ((9, 3) ∷ (7, 13) ∷ (9, 13) ∷ (7, 3) ∷ (14, 2) ∷ []) ≡ map (BitVecValue 4) (2 ∷ 14 ∷ 15 ∷ 1 ∷ 0 ∷ [])
  pub overflow : of_clause (overflow_of_product 2 x y) ≡ told
  pub overflows :
      at_four product_overflows ((4, 2) ∷ (4, 14) ∷ (3, 3) ∷ (13, 3) ∷ (8, 15) ∷ (8, 1) ∷ [])
      ≡ map BoolValue (true ∷ false ∷ true ∷ true ∷ true ∷ false ∷ [])

-- the statement 0 is that p is true, and all others that p is not
abbrev pub p_or_not : ℕ → Atom
p_or_not zero = TruthOf p
p_or_not (suc k) = TruthOf (not_term p)

-- not both 0 and 1
abbrev pub not_both : Numbered
not_both = record { premises = 0 ∷ 1 ∷ []; conclusions = [] }

-- Clauses as lists of literals, and one clause that refutes p together with its negation.
pub record RefutationRows : Type 0 where
  pub by_literals : literals (record { premises = 0 ∷ 1 ∷ []; conclusions = 2 ∷ [] }) ≡ 1 ∷ 3 ∷ 4 ∷ []
  pub by_statements : stated p_or_not not_both ≡ ((TruthOf p ∷ TruthOf (not_term p) ∷ []) ⊢ [])
  pub with_roots : refutation (not_both ∷ []) (0 ∷ 1 ∷ []) ≡ (1 ∷ 3 ∷ []) ∷ (0 ∷ []) ∷ (2 ∷ []) ∷ []
  pub contradiction : Refute [] (p ∷ not_term p ∷ []) p_or_not (not_both ∷ []) (0 ∷ 1 ∷ [])
