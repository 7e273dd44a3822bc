-- What tables of terms say: their pairs in order.
use Rattle.std.specs.Prelude.{List, IsTrue, map}
use Rattle.std.specs.Map.{keys_of}
use Rattle.smt_term.specs.declared.table.TermTable.{TermTable}
use Rattle.smt_term.specs.SortedPairs.{AreLastPairs, sorted_pairs}
use Rattle.law_terms.specs.Plain.{PlainTerm}
use Rattle.law_terms.specs.TermOrder.{term_cmp, term_eq}
use Rattle.law_terms.specs.ValueOrder.{ascends}
use Rattle.smt_term.specs.View.{plain_term}
use Rattle.smt_term.specs.declared.term.Term.{Term}

-- in order, pairs of terms are the last pairs of those that were given
abbrev pub TermPairsAreSorted : Type 0
TermPairsAreSorted = (ps : List (PlainTerm × PlainTerm)) → AreLastPairs term_cmp term_eq ps (sorted_pairs term_cmp ps)

-- what a term and the one beside it say
abbrev pub plain_entry : Term × Term → PlainTerm × PlainTerm
plain_entry p = (plain_term p.0, plain_term p.1)

-- what the pairs of a table say, in order
abbrev pub plain_entries : TermTable → List (PlainTerm × PlainTerm)
plain_entries m = map plain_entry m.items.value.items

-- the keys of each table ascend
abbrev pub TermTablesAscend : Type 0
TermTablesAscend = (table : TermTable) → IsTrue (ascends term_cmp (keys_of (plain_entries table)))
