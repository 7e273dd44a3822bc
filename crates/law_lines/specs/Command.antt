-- The commands of lines, and lines that are read as they are written.
use Rattle.std.specs.Prelude.{Bool, true, false, ◌&&◌, List, [], ◌∷◌}
use Rattle.std.specs.List.{flat_map, list_all}
use Rattle.law_texts.specs.Lexicon.{Atom, Bits, Number, Text, Name}
use Rattle.law_texts.specs.Reading.{Expression, Leaf, Node, Expressions, Nil, Cons}
use Rattle.law_scripts.specs.Script as script
use Rattle.law_scripts.specs.Script.{Command}
use Rattle.law_scripts.specs.Written.{is_name}
use Rattle.law_lines.specs.Line.{Constructor, Bare, Fielded, Line, Comment, DeclareDatatype, DeclareConst, DeclareFun, DefineFun, Assert}
use Rattle.law_lines.specs.Line.{Push, Pop}
use Rattle.law_terms.specs.TypeValues.{is_code_point}

-- a constructor, as the meaning of scripts has it
abbrev pub built : Constructor → script.Constructor
built (Bare n) = record { name = n; selectors = [] }
built (Fielded n xs) = record { name = n; selectors = xs }

-- the constructors of a datatype, as the meaning of scripts has them
abbrev pub all_built : List Constructor → List script.Constructor
all_built [] = []
all_built (c ∷ cs) = built c ∷ all_built cs

-- the command that a line is; a comment is none (SMT-LIB 2.7, chapter 4, "Commands")
abbrev pub commands_of : Line → List Command
commands_of (Comment text) = []
commands_of (DeclareDatatype n ps cs) = script.DeclareDatatype n ps (all_built cs) ∷ []
commands_of (DeclareConst n sort) = script.DeclareConst n sort ∷ []
commands_of (DeclareFun n argument sort) = script.DeclareFun n argument sort ∷ []
commands_of (DefineFun n sort body) = script.DefineFun n sort body ∷ []
commands_of (Assert e) = script.Assert e ∷ []
commands_of Push = script.Push ∷ []
commands_of Pop = script.Pop ∷ []

-- the commands of lines, in order
abbrev pub commands : List Line → List Command
commands ls = flat_map commands_of ls

-- ---- what is read as it is written

-- an atom that is read as it is spelled: a numeral, a string of characters up to 196607, or a plain symbol
abbrev pub is_written_atom : Atom → Bool
is_written_atom (Bits width n) = false
is_written_atom (Number n) = true
is_written_atom (Text characters) = list_all is_code_point characters
is_written_atom (Name n) = is_name n

abbrev mutual
  -- an expression that is read as it is spelled
  pub is_written : Expression → Bool
  is_written (Leaf a) = is_written_atom a
  is_written (Node es) = are_written es

  -- each of the expressions is read as it is spelled
  pub are_written : Expressions → Bool
  are_written Nil = true
  are_written (Cons e es) = is_written e && are_written es

-- a constructor whose names, and the sorts of its selectors, are read as they are spelled
abbrev pub is_written_constructor : Constructor → Bool
is_written_constructor (Bare n) = is_name n
is_written_constructor (Fielded n xs) = is_name n && list_all (λ x. is_name x.0 && is_written x.1) xs

-- a line that is read as it is spelled
abbrev pub is_written_line : Line → Bool
is_written_line (Comment text) = true
is_written_line (DeclareDatatype n [] cs) = is_name n && list_all is_written_constructor cs
-- only the first line, which has its own law
is_written_line (DeclareDatatype n (p ∷ ps) cs) = false
is_written_line (DeclareConst n sort) = is_name n && is_written sort
is_written_line (DeclareFun n argument sort) = is_name n && is_written argument && is_written sort
is_written_line (DefineFun n sort body) = is_name n && is_written sort && is_written body
is_written_line (Assert e) = is_written e
is_written_line Push = true
is_written_line Pop = true
