-- What the words of a formula say ("Satisfiability: Suggested Format", section CNF): a problem line, and the numbers behind it.
use Rattle.std.specs.Prelude.{ℕ, ◌+◌, ◌-◌, ◌*◌, ◌&&◌, nat_lt, bytes_eq, codes, if◌then◌else◌, map, Option, Some, None, List, [], ◌∷◌, ◌++◌}
use Rattle.law_texts.specs.Digits.{decimal_number, is_numeral}
use Rattle.law_texts.specs.Front.{byte_at}

-- how many variables and clauses a problem line says that there are: p cnf VARIABLES CLAUSES
abbrev pub counts_of : List (List ℕ) → Option (ℕ × ℕ)
counts_of (p ∷ format ∷ variables ∷ clauses ∷ []) =
    if bytes_eq p (codes "p") && bytes_eq format (codes "cnf") && is_numeral variables && is_numeral clauses
    then Some (decimal_number variables, decimal_number clauses) else None
counts_of words = None

-- A number behind the problem line is the end of a clause, or a literal. Variables are numbered from 1 in the text, and from 0 in literals.
pub data Entry : Type 0 where
  End : Entry
  Of : (literal : ℕ) → Entry

-- what digits say: 0 ends a clause, and n is the variable n
abbrev pub plain_entry : List ℕ → Option Entry
plain_entry digits =
    if is_numeral digits
    then Some (if nat_lt 0 (decimal_number digits) then Of (2 * (decimal_number digits - 1)) else End) else None

-- what digits behind a minus say: the negation of the variable n
abbrev pub negated_entry : List ℕ → Option Entry
negated_entry digits =
    if is_numeral digits && nat_lt 0 (decimal_number digits) then Some (Of (2 * (decimal_number digits - 1) + 1)) else None

-- what a word says, where this stands in it behind a minus
abbrev pub signed_entry : (behind_minus : Option (List ℕ)) → List ℕ → Option Entry
signed_entry (Some digits) word = negated_entry digits
signed_entry None word = plain_entry word

-- what a word says; 45 is the minus
abbrev pub entry_of : List ℕ → Option Entry
entry_of word = signed_entry (byte_at 45 word) word

-- the entries of a clause, which ends with 0
abbrev pub clause_entries : List ℕ → List Entry
clause_entries clause = map Of clause ++ End ∷ []
