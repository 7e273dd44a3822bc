-- What the words of a command line are, and what they ask for.
use Rattle.std.specs.Prelude.{◌≡◌, ◌∷◌, [], if◌then◌else◌, bytes_eq, codes, drop, map, option_map, ℕ}
use Rattle.std.specs.Prelude.{Err, List, Ok, Option, Some, Result}
use Rattle.std.specs.String.{string_bytes}
use Rattle.std.specs.Iterator.{Drains}
use Rattle.std.specs.Vec.Iter.{into_iter_steps}
use Rattle.std.specs.declared.alloc.Global.{Global}
use Rattle.std.specs.declared.io.Error.{Error}
use Rattle.std.specs.declared.io.ErrorKind.TheVariants.{InvalidData}
use Rattle.std.specs.declared.rc.RcStr.{RcStr}
use Rattle.std.specs.declared.string.String.{String}
use Rattle.std.specs.declared.vec.IntoIter.{IntoIter}
use Rattle.std.specs.declared.vec.Vec.{Vec}
use Rattle.std.specs.IoError.{error_kind}
use Rattle.law_texts.specs.SharedTexts.{texts}
use Rattle.smt_program.specs.declared.words.Asked.{Asked}
use Rattle.smt_program.specs.declared.words.Asked.TheVariants.{Own, Help, Version}
use Rattle.smt_program.specs.declared.words.WordsError.{WordsError}
use Rattle.smt_program.specs.declared.words.WordsError.TheVariants.{NotText, Memory}

-- the arguments are these
abbrev pub AreArguments : IntoIter (String Global) Global → List (String Global) → Type 0
AreArguments arguments xs = Drains into_iter_steps arguments xs

-- The system answered arguments, or an error, which is of the kind InvalidData where an argument is not UTF-8. The words are the
-- arguments behind the first one, which is the program's name; that no argument is text is told, and nothing else is told so.
abbrev pub Reads : Result (IntoIter (String Global) Global) Error → Result (Vec (RcStr Global) Global) WordsError → Type 0
Reads (Ok arguments) (Ok words) =
    (xs : List (String Global)) × AreArguments arguments xs × (texts words.items ≡ drop 1 (map string_bytes xs))
Reads (Ok arguments) (Err NotText) = ⊥
Reads (Ok arguments) (Err Memory) = Unit {0}
Reads (Err error) (Ok words) = ⊥
Reads (Err error) (Err NotText) = error_kind error ≡ InvalidData
Reads (Err error) (Err Memory) = error_kind error ≡ InvalidData → ⊥

-- the words are read of what the system answered
abbrev pub IsAnswered : Result (Vec (RcStr Global) Global) WordsError → Type 0
IsAnswered result = (arguments : Result (IntoIter (String Global) Global) Error) × Reads arguments result

-- the words ask for the version
abbrev pub AskVersion : List (List ℕ) → Type 0
AskVersion words = words ≡ codes "--version" ∷ []

-- what words ask for, where they name `own` to the program; None where they are no command
abbrev pub asked : {C : Type 0} → (own : Option C) → (words : List (List ℕ)) → Option (Asked C)
asked own (w ∷ []) =
    if bytes_eq w (codes "--help") then Some Help
    else (if bytes_eq w (codes "--version") then Some Version else option_map Own own)
asked own words = option_map Own own
