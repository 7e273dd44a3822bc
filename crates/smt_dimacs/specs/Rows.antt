-- Worked examples of lines, words and formulas.
use Rattle.std.specs.Prelude.{◌≡◌, codes, Some, None, [], ◌∷◌}
use Rattle.smt_dimacs.specs.Entries.{End, Of, counts_of, entry_of}
use Rattle.smt_dimacs.specs.Formulas.{IsFormula}
use Rattle.smt_dimacs.specs.Words.{lines_of, words_of, worded}

-- Comments have no words, wherever they stand; white space of all kinds parts words; a line without words is left out
pub record LineRows : Type 0 where
  pub no_text : worded (lines_of []) ≡ []
  pub empty_lines : worded (lines_of (codes "\n\n  \n")) ≡ []
  pub comment : words_of (codes "c p cnf 1 1") ≡ []
  pub only_a_c : words_of (codes "c") ≡ []
  pub c_behind_a_space : words_of (codes " c 1") ≡ codes "c" ∷ codes "1" ∷ []
  pub spaces : words_of (codes "  1 \t-2\r") ≡ codes "1" ∷ codes "-2" ∷ []
  pub two_lines :
      worded (lines_of (codes "p cnf 1 1\nc\n1 0\n"))
      ≡ (codes "p" ∷ codes "cnf" ∷ codes "1" ∷ codes "1" ∷ []) ∷ (codes "1" ∷ codes "0" ∷ []) ∷ []
  pub no_line_feed : worded (lines_of (codes "1\n2")) ≡ (codes "1" ∷ []) ∷ (codes "2" ∷ []) ∷ []

-- Ends, literals of both signs, leading zeros; what is no number; problem lines
pub record EntryRows : Type 0 where
  pub end : entry_of (codes "0") ≡ Some End
  pub zeros : entry_of (codes "00") ≡ Some End
  pub first : entry_of (codes "1") ≡ Some (Of 0)
  pub first_negated : entry_of (codes "-1") ≡ Some (Of 1)
  pub third : entry_of (codes "3") ≡ Some (Of 4)
  pub third_negated : entry_of (codes "-3") ≡ Some (Of 5)
  pub leading_zero : entry_of (codes "-012") ≡ Some (Of 23)
  pub minus_zero : entry_of (codes "-0") ≡ None
  pub minus : entry_of (codes "-") ≡ None
  pub plus : entry_of (codes "+1") ≡ None
  pub two_minus : entry_of (codes "--1") ≡ None
  pub letter : entry_of (codes "1a") ≡ None
  pub percent : entry_of (codes "%") ≡ None
  pub problem : counts_of (codes "p" ∷ codes "cnf" ∷ codes "3" ∷ codes "02" ∷ []) ≡ Some (3, 2)
  pub other_format : counts_of (codes "p" ∷ codes "sat" ∷ codes "3" ∷ codes "2" ∷ []) ≡ None
  pub three_words : counts_of (codes "p" ∷ codes "cnf" ∷ codes "3" ∷ []) ≡ None
  pub five_words : counts_of (codes "p" ∷ codes "cnf" ∷ codes "3" ∷ codes "2" ∷ codes "1" ∷ []) ≡ None
  pub negative_count : counts_of (codes "p" ∷ codes "cnf" ∷ codes "-3" ∷ codes "2" ∷ []) ≡ None

-- Two clauses, also with comments, over several lines and on one; no variables and no clauses; the empty clause
pub record FormulaRows : Type 0 where
  pub two : IsFormula (codes "p cnf 3 2\n1 -3 0\n2 3 -1 0\n") 3 ((0 ∷ 5 ∷ []) ∷ (2 ∷ 4 ∷ 1 ∷ []) ∷ [])
  pub spread : IsFormula (codes "c one\np cnf 3 2\n1\nc two\n-3 0 2 3\n-1 0") 3 ((0 ∷ 5 ∷ []) ∷ (2 ∷ 4 ∷ 1 ∷ []) ∷ [])
  pub nothing : IsFormula (codes "p cnf 0 0\n") 0 []
  pub empty_clause : IsFormula (codes "p cnf 0 1\n0\n") 0 ([] ∷ [])
  pub twice : IsFormula (codes "p cnf 1 2\r\n1 0\r\n1 0\r\n") 1 ((0 ∷ []) ∷ (0 ∷ []) ∷ [])
