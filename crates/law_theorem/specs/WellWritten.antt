-- That the scripts of calls are well sorted, define each term once and flat, and have no more commands than what the terms reach asks for.
use Rattle.std.specs.Prelude.{ℕ, ◌+◌, ◌≤◌, Bool, true, false, length, filter, List, [], ◌∷◌, ◌++◌}
use Rattle.std.specs.List.{sum_by}
use Rattle.std.specs.Set.{distinct_count}
use Rattle.law_terms.specs.Interpretations.{function_eq}
use Rattle.law_terms.specs.Plain.{PlainType, EntityType, ExtensionType, RecordType, PlainTerm}
use Rattle.law_terms.specs.Reached.{reached_terms, reached_functions, reached_types}
use Rattle.law_terms.specs.TermOrder.{term_eq}
use Rattle.law_terms.specs.Types.{type_eq}
use Rattle.law_terms.specs.TypeValues.{Enums, AreEnums}
use Rattle.law_scripts.specs.CommandLines.{IsSortedCommand, SortedScript}
use Rattle.law_scripts.specs.Script.{Command, State, HasWholeLines}
use Rattle.law_scripts.specs.Written.{IsLine}
use Rattle.law_lines.specs.Line.{spelled_lines}
use Rattle.law_lines.specs.Lines.{Call, PushCall, PopCall, EncodeCall, fresh, beginning, lines_of_call}
use Rattle.law_lines.specs.NameTables.{Tables}
use Rattle.law_lines.specs.Text.{text_of_calls, text, names}
use Rattle.law_theorem.specs.Conditions.{AreConditions, IsCallOfConditions, AreCallsOfConditions}
use Rattle.law_theorem.specs.Fits.{Stages, Fits, IsIdle, new_stages, encoding_of, stages_after, stages_after_calls}
use Rattle.law_theorem.specs.FlatScripts.{IsFlatState}

-- Whether a type's sort is a datatype that a script declares for it (`declare-datatype`, SMT-LIB 2.7, chapter 4): those of
-- entities, extension values and records.
abbrev pub is_named_type : PlainType → Bool
is_named_type (EntityType type) = true
is_named_type (ExtensionType kind) = true
is_named_type (RecordType x) = true
is_named_type t = false

-- For terms: one command for each named sort, function and subterm that they reach, where those that are equal count once,
-- and one assertion for each term.
abbrev pub most_for_terms : List PlainTerm → ℕ
most_for_terms ts =
    distinct_count type_eq (filter is_named_type (reached_types ts))
    + (distinct_count function_eq (reached_functions ts) + (distinct_count term_eq (reached_terms ts) + length ts))

-- for a call: a push and a pop are one command each
abbrev pub most_for_call : Call → ℕ
most_for_call PushCall = 1
most_for_call PopCall = 1
most_for_call (EncodeCall ts) = most_for_terms ts

-- The text is a well-sorted script (SMT-LIB 2.7, chapter 3, Scripts and Terms and Formulas) of at most so many commands, comments
-- not counted. What it defines are terms that are reached, each under one name and with a flat body.
pub record IsWellWritten (enums : Enums) (bytes : List ℕ) (ts : List PlainTerm) (s : Tables) (most : ℕ) : Type 0 where
  pub state : State
  pub sorted : SortedScript bytes state
  pub flat : IsFlatState enums ts s state
  pub short : length sorted.script.commands ≤ most

-- Such is the text of a list of conditions. The one command more declares `Option`.
abbrev pub TextsAreWellWritten : Type 0
TextsAreWellWritten =
    (enums : Enums) (ts : List PlainTerm) → AreEnums enums → AreConditions enums ts →
    IsWellWritten enums (text enums ts) ts (names enums ts) (1 + most_for_terms ts)

-- So is that of a list of calls, for the terms of the open levels.
abbrev pub CallsAreWellWritten : Type 0
CallsAreWellWritten = (enums : Enums) (cs : List Call) → AreEnums enums → AreCallsOfConditions enums cs fresh
    → IsWellWritten enums (text_of_calls enums cs) (stages_after_calls enums cs new_stages).now.terms
    (stages_after_calls enums cs new_stages).now.tables (1 + sum_by most_for_call cs)

-- A call's lines keep it, wherever a text and stages fit. Where nothing is written yet, they begin with one command more.
abbrev pub CallsKeepWellWritten : Type 0
CallsKeepWellWritten =
    (enums : Enums) (bytes : List ℕ) (x : Stages) (c : Call) (most : ℕ) → Fits enums bytes x → IsCallOfConditions enums c (encoding_of x) →
    IsWellWritten enums bytes x.now.terms x.now.tables most
    → IsWellWritten enums (bytes ++ spelled_lines (lines_of_call enums c (encoding_of x))) (stages_after enums c x).now.terms
    (stages_after enums c x).now.tables (most + (length (beginning x.begun) + most_for_call c))

-- So does a line of a command that leaves each state as it is, and defines and asserts nothing, as `(check-sat)`.
abbrev pub IdleLinesKeepWellWritten : Type 0
IdleLinesKeepWellWritten =
    (enums : Enums) (bytes line : List ℕ) (ts : List PlainTerm) (s : Tables) (c : Command) (most : ℕ) → HasWholeLines bytes →
    IsWellWritten enums bytes ts s most
    → IsIdle c → ((u : State) → IsSortedCommand u c) → IsLine line (c ∷ []) → IsWellWritten enums (bytes ++ line) ts s (most + 1)
