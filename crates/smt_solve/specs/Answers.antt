-- The lines by which a solver answers.
use Rattle.std.specs.Prelude.{ℕ, ◌-◌, ◌<◌, ◌≡◌, ◌≢◌, ◌==◌, ◌||◌, Bool, IsTrue, List, ◌++◌, All, codes, length, nat_eq, slice_index_or}
use Rattle.std.specs.List.{starts_with}
use Rattle.std.specs.Fmt.{signed_decimal}
use Rattle.smt_solve.specs.declared.link.Ended.{Ended}
use Rattle.smt_solve.specs.declared.link.Ended.TheVariants.{Running, Code, Killed}
use Rattle.smt_solve.specs.declared.answer.Decision.{Decision}
use Rattle.smt_solve.specs.declared.answer.Decision.TheVariants.{Sat, Unsat, Unknown}

-- whether a byte is a space, a tab, a line feed or a carriage return: the white space of SMT-LIB 2.7, section 3.1
abbrev pub is_blank : ℕ → Bool
is_blank b = (b == 32) || (b == 9) || (b == 10) || (b == 13)

-- All of these bytes are blank.
abbrev pub AllBlank : List ℕ → Type 0
AllBlank bytes = All (λ b. IsTrue (is_blank b)) bytes

-- Neither the first nor the last byte is blank.
pub record HasSharpEnds (text : List ℕ) : Type 0 where
  pub first : 0 < length text → ¬ IsTrue (is_blank (slice_index_or text 0 0))
  pub last : 0 < length text → ¬ IsTrue (is_blank (slice_index_or text (length text - 1) 0))

-- The text is the line without the blanks at its ends.
pub record StripsTo (line text : List ℕ) : Type 0 where
  pub front : List ℕ
  pub back : List ℕ
  pub whole : line ≡ front ++ (text ++ back)
  pub blank_front : AllBlank front
  pub blank_back : AllBlank back
  pub sharp : HasSharpEnds text

-- the word by which a solver answers `(check-sat)` with this decision (SMT-LIB 2.7, chapter 4)
abbrev pub decision_word : Decision → List ℕ
decision_word Sat = codes "sat"
decision_word Unsat = codes "unsat"
decision_word Unknown = codes "unknown"

-- The text is the word of no decision.
abbrev pub IsNoDecision : List ℕ → Type 0
IsNoDecision text = (d : Decision) → text ≢ decision_word d

-- the line by which a solver tells of an error with this message, `(error "..")` (SMT-LIB 2.7, chapter 4)
abbrev pub error_line : List ℕ → List ℕ
error_line message = codes "(error \"" ++ (message ++ codes "\")")

-- The text tells of no error.
abbrev pub IsNoError : List ℕ → Type 0
IsNoError text = (message : List ℕ) → text ≢ error_line message

-- whether the message of an error says, in cvc5's words, that the solver could not read what it was sent
abbrev pub is_parse_error : List ℕ → Bool
is_parse_error message = starts_with nat_eq message (codes "Parse Error: ")

-- how a solver ended, as a text: `Some(..)` with its code, `None` without a code, and `Running` where it has not ended
abbrev pub status_text : Ended → List ℕ
status_text Running = codes "Running"
status_text (Code code) = codes "Some(" ++ (signed_decimal code ++ codes ")")
status_text Killed = codes "None"

-- the message of the error that tells that a solver has ended, and how
abbrev pub end_message : Ended → List ℕ
end_message ended = codes "Solver process terminated unexpectedly with status: " ++ status_text ended

-- how many bytes of a line are read at most
abbrev pub line_limit : ℕ
line_limit = 65536

-- how many bytes a model has at most
abbrev pub model_limit : ℕ
model_limit = 16777216

-- the text of the first line of a model, without the blanks at its ends
abbrev pub opening : List ℕ
opening = codes "("

-- the text of the last line of a model, without the blanks at its ends
abbrev pub closing : List ℕ
closing = codes ")"
