-- The lines of a script, and their bytes.
use Rattle.std.specs.Prelude.{ℕ, map, List, []}
use Rattle.std.specs.List.{flat_map}
use Rattle.law_texts.specs.LineTexts.{comment_text, bare_constructor_text, constructor_text, declare_datatype_text, declare_const_text}
use Rattle.law_texts.specs.LineTexts.{declare_fun_text, define_fun_text, assert_text, push_text, pop_text}
use Rattle.law_texts.specs.Reading.{Expression}
use Rattle.law_lines.specs.Spelling.{spelled}

-- a constructor of a datatype, as a line has it
pub data Constructor : Type 0 where
  -- without fields
  Bare : (name : List ℕ) → Constructor
  -- with its selectors and their sorts
  Fielded : (name : List ℕ) → List (List ℕ × Expression) → Constructor

-- A line of a script: a comment, or one of the commands that an encoder writes (SMT-LIB 2.7, chapter 4, "Commands").
pub data Line : Type 0 where
  Comment : (text : List ℕ) → Line
  DeclareDatatype : (name : List ℕ) → (parameters : List (List ℕ)) → List Constructor → Line
  DeclareConst : (name : List ℕ) → (sort : Expression) → Line
  DeclareFun : (name : List ℕ) → (argument sort : Expression) → Line
  DefineFun : (name : List ℕ) → (sort body : Expression) → Line
  Assert : Expression → Line
  Push : Line
  Pop : Line

-- ---- their bytes

-- a selector, and how its sort is spelled
abbrev pub spelled_selector : (List ℕ × Expression) → (List ℕ × List ℕ)
spelled_selector x = (x.0, spelled x.1)

-- the bytes of a constructor
abbrev pub spelled_constructor : Constructor → List ℕ
spelled_constructor (Bare name) = bare_constructor_text name
spelled_constructor (Fielded name selectors) = constructor_text name (map spelled_selector selectors)

-- The bytes of a line, which ends with LF (SMT-LIB 2.7, chapter 3, "Scripts"). In a comment CR and LF become spaces.
abbrev pub spelled_line : Line → List ℕ
spelled_line (Comment text) = comment_text text
spelled_line (DeclareDatatype name parameters constructors) = declare_datatype_text name parameters (map spelled_constructor constructors)
spelled_line (DeclareConst name sort) = declare_const_text name (spelled sort)
spelled_line (DeclareFun name argument sort) = declare_fun_text name (spelled argument) (spelled sort)
spelled_line (DefineFun name sort body) = define_fun_text name [] (spelled sort) (spelled body)
spelled_line (Assert e) = assert_text (spelled e)
spelled_line Push = push_text
spelled_line Pop = pop_text

-- the bytes of lines, one after the other
abbrev pub spelled_lines : List Line → List ℕ
spelled_lines ls = flat_map spelled_line ls
