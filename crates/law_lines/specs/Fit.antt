-- When tables and the state of a script belong together, as far as the next line needs it: what entries name is declared,
-- and nothing is declared that a later entry is named.
use Rattle.std.specs.Prelude.{◌≡◌, ℕ, Bool, true, false, ◌&&◌, ◌||◌, if◌then◌else◌, ◌==◌, nat_lt, bytes_eq, is_some, IsSome, codes, length}
use Rattle.std.specs.Prelude.{map, List, [], ◌∷◌, Some}
use Rattle.std.specs.List.{list_all, list_any, flat_map, take_while}
use Rattle.law_terms.specs.Plain.{ExtensionKind, IpAddrKind, DecimalKind, DatetimeKind, DurationKind, PlainType, ExtensionType}
use Rattle.law_terms.specs.Plain.{PlainFunction, PlainOp, RecordGetOp, PlainTerm, Application, PlainTerms}
use Rattle.law_terms.specs.TypeValues.{Enums}
use Rattle.law_terms.specs.Types.{type_of}
use Rattle.law_texts.specs.Lexicon.{is_digit, number_in}
use Rattle.law_texts.specs.Reading.{Expression}
use Rattle.law_scripts.specs.Script.{Constructor, Entry, Constant, Function, Defined, Builds, State, is_in, names_of, declared_sorts}
use Rattle.law_scripts.specs.Script.{has_name, has_sort, run}
use Rattle.law_scripts.specs.Meanings.{names_in}
use Rattle.law_scripts.specs.Written.{is_name}
use Rattle.law_lines.specs.Line.{Line, DeclareDatatype, DeclareConst, DeclareFun, DefineFun}
use Rattle.law_scripts.specs.Sorts.{Entries, entries}
use Rattle.law_scripts.specs.DeclarationLines.{shown, at_place, Declares}
use Rattle.law_lines.specs.LineForms.{kind_constructors}
use Rattle.law_lines.specs.EntryNames.{kind_name}
use Rattle.law_lines.specs.Lines.{Written, option_line, first_type}
use Rattle.law_lines.specs.NameTables.{Tables, no_names, name_of_type}
use Rattle.law_lines.specs.Entries.{EachEntry, TypeHasEntries, type_lines, function_lines, term_lines, TypePartsHaveEntries}
use Rattle.law_lines.specs.Entries.{TermPartsHaveEntries}
use Rattle.law_lines.specs.TableGrowth.{Keeps}
use Rattle.law_lines.specs.Command.{all_built, commands, is_written_line}

-- ---- the names that a type's entry declares

-- the constructors and selectors of the datatype that a line declares
abbrev pub names_of_line : Line → List (List ℕ)
names_of_line (DeclareDatatype n ps cs) = names_in (all_built cs)
names_of_line l = []

-- The names that the lines of a type's entry declare. Empty tables do, since the sorts of fields are no part of their names.
abbrev pub names_of_type : Enums → PlainType → List ℕ → List (List ℕ)
names_of_type enums t n = flat_map names_of_line (type_lines enums no_names t n)

-- the constructors and selectors of an extension type
abbrev pub kind_names : ExtensionKind → List (List ℕ)
kind_names kind = names_in (all_built (kind_constructors kind))

-- the constructors and the selector of options
abbrev pub option_names : List (List ℕ)
option_names = names_of_line option_line

-- ---- names of entries that are there: drawn before the next, or those of a kind that has an entry

-- the first byte of a name, which is the letter of a drawn one
abbrev pub first : List ℕ → ℕ
first [] = 0
first (c ∷ cs) = c

-- what stands behind the first byte
abbrev pub behind_first : List ℕ → List ℕ
behind_first [] = []
behind_first (c ∷ cs) = cs

-- the number that the digits behind the letter stand for
abbrev pub drawn_number : List ℕ → ℕ
drawn_number n = number_in 10 (take_while is_digit (behind_first n))

-- the extension type has an entry
abbrev pub has_kind : Tables → ExtensionKind → Bool
has_kind s kind = is_some (name_of_type s (ExtensionType kind))

-- a kind that passes a test has an entry
abbrev pub of_kinds : (test kinds : ExtensionKind → Bool) → Bool
of_kinds test kinds =
    (test IpAddrKind && kinds IpAddrKind)
    || ((test DecimalKind && kinds DecimalKind)
    || ((test DatetimeKind && kinds DatetimeKind) || (test DurationKind && kinds DurationKind)))

-- A name that is not drawn any more, by these numbers of entries: one whose number is below that of the entries of its letter, one
-- of options, or one of a kind that has an entry.
abbrev pub is_old : (terms functions types : ℕ) → (ExtensionKind → Bool) → List ℕ → Bool
is_old terms functions types kinds n =
    if first n == 116 then nat_lt (drawn_number n) terms
    else (if first n == 102 then nat_lt (drawn_number n) functions
    else (if (first n == 69) || (first n == 82) then nat_lt (drawn_number n) types
    else (is_in n option_names || of_kinds (λ k. is_in n (kind_names k)) kinds)))

-- the name of a datatype that is not drawn any more: with a number below that of the types' entries, `Option`, or such a kind
abbrev pub is_old_sort : (types : ℕ) → (ExtensionKind → Bool) → List ℕ → Bool
is_old_sort types kinds n =
    if (first n == 69) || (first n == 82) then nat_lt (drawn_number n) types
    else (bytes_eq n (codes "Option") || of_kinds (λ k. bytes_eq n (kind_name k)) kinds)

-- a name that no later entry of these tables is given
abbrev pub is_old_name_in : Tables → List ℕ → Bool
is_old_name_in s n = is_old (length s.terms) (length s.functions) (length s.types) (has_kind s) n

-- the name of a datatype that no later entry of these tables is given
abbrev pub is_old_sort_in : Tables → List ℕ → Bool
is_old_sort_in s n = is_old_sort (length s.types) (has_kind s) n

-- ---- names of entries, exactly

-- a type's entry whose lines declare the name
abbrev pub declares_by_entry : Enums → List ℕ → PlainType × List ℕ → Bool
declares_by_entry enums n e = is_in n (names_of_type enums e.0 e.1)

-- an entry of the name
abbrev pub has_entry_name : {K : Type 0} → List ℕ → K × List ℕ → Bool
has_entry_name {K} n e = bytes_eq n e.1

-- a constructor or selector of options or of a type's entry, or the name of a function's entry or a term's
abbrev pub is_name_of_entry : Enums → Tables → List ℕ → Bool
is_name_of_entry enums s n =
    is_in n option_names
    || (list_any (declares_by_entry enums n) s.types || (list_any (has_entry_name n) s.functions || list_any (has_entry_name n) s.terms))

-- the datatype of options or of a type's entry
abbrev pub is_sort_of_entry : Tables → List ℕ → Bool
is_sort_of_entry s n = bytes_eq n (codes "Option") || list_any (has_entry_name n) s.types

-- ---- the facts

-- the state declares the name, at any level
abbrev pub declares : State → List ℕ → Bool
declares state n = is_in n (map (λ p. p.0) (names_of state))

-- an extension type has the name of its kind
abbrev pub IsKindNamed : PlainType → List ℕ → Type 0
IsKindNamed (ExtensionType kind) n = n ≡ kind_name kind
IsKindNamed t n = Unit {0}

-- a type's entry in a state: its datatype is there, and all names that its lines declare
pub record TypeEntryIsDeclared (enums : Enums) (state : State) (t : PlainType) (n : List ℕ) : Type 0 where
  pub sort : has_sort state n 0 ≡ true
  pub name : is_name n ≡ true
  pub declared : list_all (declares state) (names_of_type enums t n) ≡ true
  pub names : list_all is_name (names_of_type enums t n) ≡ true
  pub kind : IsKindNamed t n

-- a function's entry in a state: its name is declared
pub record FunctionEntryIsDeclared (state : State) (f : PlainFunction) (n : List ℕ) : Type 0 where
  pub declared : declares state n ≡ true
  pub name : is_name n ≡ true

-- a term's entry in a state: its name is there, and its type has the entries that it needs
pub record TermEntryIsDeclared (s : Tables) (state : State) (t : PlainTerm) (n : List ℕ) : Type 0 where
  pub declared : has_name state n ≡ true
  pub name : is_name n ≡ true
  pub sort : TypeHasEntries s (type_of t)

-- the state declares a datatype of this name, at any level
abbrev pub declares_sort : State → List ℕ → Bool
declares_sort state d = is_in d (map (λ p. p.0) (declared_sorts state))

-- What builds values of a datatype is one of these constructors, at its place.
abbrev pub BuildsOnly : Entries → List ℕ → List (List ℕ) → List Constructor → Type 0
BuildsOnly here d ps cs =
    (place : ℕ) (c : List ℕ) (fields : List Expression) (qs : List (List ℕ)) → here c ≡ Some (Builds d qs place fields) →
    (qs ≡ ps) × (at_place (shown cs) place ≡ Some (c, fields))

-- What builds values builds them of a datatype that is declared.
abbrev pub IsRooted : State → Type 0
IsRooted state =
    (d c : List ℕ) (qs : List (List ℕ)) (place : ℕ) (fields : List Expression) → entries state c ≡ Some (Builds d qs place fields) →
    declares_sort state d ≡ true

-- What a line declares is there, with all that the line says of it; and of a datatype nothing else.
abbrev pub LineIsDeclared : State → Line → Type 0
LineIsDeclared state (DeclareDatatype n ps cs) =
    (has_sort state n (length ps) ≡ true) × Declares (entries state) n ps 0 (all_built cs) × (declares_sort state n ≡ true)
    × BuildsOnly (entries state) n ps (all_built cs)
LineIsDeclared state (DeclareConst n sort) = entries state n ≡ Some (Constant sort)
LineIsDeclared state (DeclareFun n argument sort) = entries state n ≡ Some (Function argument sort)
LineIsDeclared state (DefineFun n sort body) = entries state n ≡ Some (Defined sort body)
LineIsDeclared state l = Unit {0}

-- P holds of each line
abbrev pub EachLine : (Line → Type 0) → List Line → Type 0
EachLine P [] = Unit {0}
EachLine P (l ∷ ls) = P l × EachLine P ls

-- What an entry's own lines declare is there, as these lines were when the entry was made, and the names of its parts are the same since.
pub record EntryOf (lines_of : Tables → List Line) (Parts : Tables → Type 0) (s : Tables) (state : State) : Type 0 where
  pub tables : Tables
  pub keeps : Keeps tables s
  pub parts : Parts tables
  pub lines : EachLine (LineIsDeclared state) (lines_of tables)

-- What the own lines of a type's entry declare is in the state.
abbrev pub TypeEntry : Enums → Tables → State → PlainType → List ℕ → Type 0
TypeEntry enums s state t n = EntryOf (λ r. type_lines enums r t n) (λ r. TypePartsHaveEntries r t) s state

-- What the own lines of a function's entry declare is in the state.
abbrev pub FunctionEntry : Tables → State → PlainFunction → List ℕ → Type 0
FunctionEntry s state f n = EntryOf (λ r. function_lines r f n) (λ r. TypeHasEntries r f.argument × TypeHasEntries r f.output) s state

-- the record type whose selector an application is written with has an entry
abbrev pub HasRecord : Tables → PlainOp → PlainTerms → Type 0
HasRecord s (RecordGetOp a) ts = IsSome (name_of_type s (first_type ts))
HasRecord s op ts = Unit {0}

-- the record type of which a term takes an attribute has an entry
abbrev pub RecordHasEntry : Tables → PlainTerm → Type 0
RecordHasEntry s (Application op ts type) = HasRecord s op ts
RecordHasEntry s t = Unit {0}

-- the parts of a term have names, and so has its type
abbrev pub PartsHaveEntries : Tables → PlainTerm → Type 0
PartsHaveEntries s t = TermPartsHaveEntries s t × RecordHasEntry s t

-- What the own lines of a term's entry declare is in the state.
abbrev pub TermEntry : Enums → Tables → State → PlainTerm → List ℕ → Type 0
TermEntry enums s state t n = EntryOf (λ r. term_lines enums r t n) (λ r. PartsHaveEntries r t × TypeHasEntries r (type_of t)) s state

-- Tables and a state belong together: what the entries name is declared as their lines say, what is declared is of an entry or of
-- options, and none of it is a name that a later entry is given.
pub record Fit (enums : Enums) (s : Tables) (state : State) : Type 0 where
  pub running : state.ended ≡ false
  pub option : has_sort state (codes "Option") 1 ≡ true
  pub builds : list_all (declares state) option_names ≡ true
  pub types : EachEntry (TypeEntryIsDeclared enums state) s.types
  pub functions : EachEntry (FunctionEntryIsDeclared state) s.functions
  pub terms : EachEntry (TermEntryIsDeclared s state) s.terms
  pub type_entries : EachEntry (TypeEntry enums s state) s.types
  pub function_entries : EachEntry (FunctionEntry s state) s.functions
  pub term_entries : EachEntry (TermEntry enums s state) s.terms
  pub option_is_declared : LineIsDeclared state option_line
  pub rooted : IsRooted state
  -- What is declared is no name that a later entry is given.
  pub old : list_all (λ p. is_old_name_in s p.0) (names_of state) ≡ true
  pub old_sorts : list_all (λ p. is_old_sort_in s p.0) (declared_sorts state) ≡ true
  -- Nothing else is declared.
  pub only_names : list_all (λ p. is_name_of_entry enums s p.0) (names_of state) ≡ true
  pub only_sorts : list_all (λ p. is_sort_of_entry s p.0) (declared_sorts state) ≡ true

-- What is declared stays, and of a datatype that is declared nothing more is built.
pub record Kept (state after : State) : Type 0 where
  pub entry : (n : List ℕ) (x : Entry) → entries state n ≡ Some x → entries after n ≡ Some x
  pub sort : (n : List ℕ) (k : ℕ) → has_sort state n k ≡ true → has_sort after n k ≡ true
  pub declared : (d : List ℕ) → declares_sort state d ≡ true → declares_sort after d ≡ true
  pub built : (d c : List ℕ) (qs : List (List ℕ)) (place : ℕ) (fields : List Expression) → declares_sort state d ≡ true →
      entries after c ≡ Some (Builds d qs place fields) → entries state c ≡ Some (Builds d qs place fields)

-- What lines leave: a state that fits the tables then, and the assertions that were there.
pub record Reach (enums : Enums) (state : State) (ls : List Line) (u : Tables) : Type 0 where
  pub after : State
  pub runs : run (commands ls) state ≡ Some after
  pub fits : Fit enums u after
  pub written : list_all is_written_line ls ≡ true
  pub kept : Kept state after
  pub lines_are_declared : EachLine (LineIsDeclared after) ls
  pub same_below : after.below ≡ state.below
  pub same_assertions : after.last.assertions ≡ state.last.assertions

-- Lines that were written from tables s, and left the tables u, can be obeyed wherever s fits.
abbrev pub AreObeyable : Enums → Tables → List Line → Tables → Type 0
AreObeyable enums s ls u = (state : State) → Fit enums s state → Reach enums state ls u

-- The lines of what was written can be obeyed wherever the tables before fit, and those after fit then.
abbrev pub IsObeyable : {A : Type 0} → Enums → Tables → Written A → Type 0
IsObeyable {A} enums s w = AreObeyable enums s w.lines w.tables
