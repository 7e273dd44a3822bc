-- That what carrying asks of a script can be met, and is met by what its declarations leave.
use Rattle.std.specs.Prelude.{◌≡◌, ℕ, true, codes, length, List, [], ◌∷◌, Some, unwrap_or, ⊤}
use Rattle.std.specs.List.{AllByRecursion}
use Rattle.law_terms.specs.Plain.{OptionType, EntityType}
use Rattle.law_terms.specs.TypeValues.{AreEnums}
use Rattle.law_scripts.specs.Script.{Constructor, DeclareDatatype, Entry, Builds, State, start, run, look_up, names_of, with_sort}
use Rattle.law_scripts.specs.Meanings.{constructors_named, with_names, names_in, are_new}
use Rattle.law_scripts.specs.Sorts.{entries}
use Rattle.law_scripts.specs.DeclarationLines.{Constructors, shown, at_place, Declares}
use Rattle.law_lines.specs.Command.{all_built}
use Rattle.law_lines.specs.Lines.{option_constructors}
use Rattle.law_lines.specs.NameTables.{Tables}
use Rattle.law_theorem.specs.CarriedSorts.{IsDatatype, DeclaresOption, TypeIsDeclared}
use Rattle.law_lines.specs.Rows.{colors}

-- ---- datatypes from declarations

-- an entry builds values of the datatype as its declaration says, or not at all
abbrev pub BuildsRightly : List ℕ → List (List ℕ) → Constructors → List ℕ → Entry → Type 0
BuildsRightly d ps cs c (Builds e qs place fields) = e ≡ d → (qs ≡ ps) × (at_place cs place ≡ Some (c, fields))
BuildsRightly d ps cs c x = ⊤

-- Where the constructors are declared, and nothing else builds values of the datatype, it is declared as carrying asks.
abbrev pub DatatypesAreDeclared : Type 0
DatatypesAreDeclared =
    (d : List ℕ) (ps : List (List ℕ)) (cs : List Constructor) (names : List (List ℕ × Entry)) → Declares (λ c. look_up c names) d ps 0 cs
    → AllByRecursion (λ p. BuildsRightly d ps (shown cs) p.0 p.1) names → IsDatatype (λ c. look_up c names) d ps (shown cs)

-- no entry builds values of the datatype
abbrev pub BuildsOther : List ℕ → Entry → Type 0
BuildsOther d (Builds e qs place fields) = e ≡ d → ⊥
BuildsOther d x = ⊤

-- So it is of a datatype whose line is obeyed where nothing built its values before.
abbrev pub NewDatatypesAreDeclared : Type 0
NewDatatypesAreDeclared = (d : List ℕ) (ps : List (List ℕ)) (cs : List Constructor) (s : State) → are_new s (names_in cs) ≡ true
    → AllByRecursion (λ p. BuildsOther d p.1) (names_of s) →
    IsDatatype (entries (with_sort d (length ps) (with_names (constructors_named d ps 0 cs s.last.names) s))) d ps (shown cs)

-- ---- an example: options and an enum type

-- tables in which that enum type has the name E0
abbrev pub color_tables : Tables
color_tables = record { terms = []; types = (EntityType (codes "Color"), codes "E0") ∷ []; functions = [] }

-- the constructors of options, as their declaration has them
abbrev pub option_declared : List Constructor
option_declared = all_built option_constructors

-- the constructors of the enum type, as its declaration has them
abbrev pub color_declared : List Constructor
color_declared = record { name = codes "E0_m0"; selectors = [] } ∷ record { name = codes "E0_m1"; selectors = [] } ∷ []

-- the state that these two declarations come to
abbrev pub color_state : State
color_state =
    unwrap_or
    (run (DeclareDatatype (codes "Option") (codes "X" ∷ []) option_declared ∷ DeclareDatatype (codes "E0") [] color_declared ∷ []) start)
    start

-- That state declares options of this enum type as carrying asks.
abbrev pub ColorsAreDeclared : Type 0
ColorsAreDeclared =
    AreEnums colors × DeclaresOption (entries color_state)
    × TypeIsDeclared colors color_tables (entries color_state) (OptionType (EntityType (codes "Color")))
