-- What writing adds to the tables: entries behind those that are there, each with the name of its place, and lines as many.
use Rattle.std.specs.Prelude.{◌≡◌, ℕ, suc, ◌≤◌, Bool, true, length, List, [], ◌∷◌, ◌++◌, Some, is_none}
use Rattle.law_terms.specs.Plain.{PlainType, PlainFunction, PlainTerm, PlainTerms}
use Rattle.law_terms.specs.TypeValues.{Enums}
use Rattle.law_lines.specs.EntryNames.{stated_term_name, stated_type_name, stated_function_name}
use Rattle.law_lines.specs.Naming.{HasEntry, HasDistinctNames}
use Rattle.law_lines.specs.Line.{Line, DeclareDatatype, DeclareConst, DeclareFun, DefineFun}
use Rattle.law_lines.specs.Lines.{Written, encode_type, encode_function, encode_term, encode_terms}
use Rattle.law_lines.specs.NameTables.{Tables, no_names, name_of_term, name_of_type, name_of_function}
use Rattle.law_lines.specs.Entries.{AreNumbered, undrawn_name}

-- how many datatypes lines declare
abbrev pub datatypes : List Line → ℕ
datatypes [] = 0
datatypes (DeclareDatatype n ps cs ∷ ls) = suc (datatypes ls)
datatypes (l ∷ ls) = datatypes ls

-- how many functions lines declare
abbrev pub declared_functions : List Line → ℕ
declared_functions [] = 0
declared_functions (DeclareFun n argument sort ∷ ls) = suc (declared_functions ls)
declared_functions (l ∷ ls) = declared_functions ls

-- how many constants and definitions lines have
abbrev pub definitions : List Line → ℕ
definitions [] = 0
definitions (DeclareConst n sort ∷ ls) = suc (definitions ls)
definitions (DefineFun n sort body ∷ ls) = suc (definitions ls)
definitions (l ∷ ls) = definitions ls

-- whether the name of a term's entry is drawn from its place
abbrev pub is_drawn : Enums → PlainTerm → Bool
is_drawn enums t = is_none (undrawn_name enums no_names t)

-- each entry that draws its name has the name of its place, from a place on
abbrev pub AreDrawn : Enums → ℕ → List (PlainTerm × List ℕ) → Type 0
AreDrawn enums place [] = Unit {0}
AreDrawn enums place (e ∷ es) = (is_drawn enums e.0 ≡ true → e.1 ≡ stated_term_name place) × AreDrawn enums (suc place) es

-- The tables u have entries behind those of s, for which these lines were written.
pub record Extends (enums : Enums) (s : Tables) (ls : List Line) (u : Tables) : Type 0 where
  pub new_types : List (PlainType × List ℕ)
  pub types : u.types ≡ s.types ++ new_types
  pub type_names : AreNumbered stated_type_name (length s.types) new_types
  pub type_lines : datatypes ls ≡ length new_types
  pub new_functions : List (PlainFunction × List ℕ)
  pub functions : u.functions ≡ s.functions ++ new_functions
  pub function_names : AreNumbered (λ f place. stated_function_name place) (length s.functions) new_functions
  pub function_lines : declared_functions ls ≡ length new_functions
  pub new_terms : List (PlainTerm × List ℕ)
  pub terms : u.terms ≡ s.terms ++ new_terms
  pub term_names : AreDrawn enums (length s.terms) new_terms
  pub term_lines : definitions ls ≤ length new_terms

-- the tables of what was written have entries behind those of s, for which its lines were written
abbrev pub Grown : {A : Type 0} → Enums → Tables → Written A → Type 0
Grown {A} enums s w = Extends enums s w.lines w.tables

-- writing a type adds entries
abbrev pub TypesGrow : Type 0
TypesGrow = (enums : Enums) (t : PlainType) (s : Tables) → Grown enums s (encode_type enums t s)

-- writing a function adds entries
abbrev pub FunctionsGrow : Type 0
FunctionsGrow = (enums : Enums) (f : PlainFunction) (s : Tables) → Grown enums s (encode_function enums f s)

-- writing a term adds entries
abbrev pub TermsGrow : Type 0
TermsGrow = (enums : Enums) (t : PlainTerm) (s : Tables) → Grown enums s (encode_term enums t s)

-- writing terms adds entries
abbrev pub TermListsGrow : Type 0
TermListsGrow = (enums : Enums) (ts : PlainTerms) (s : Tables) → Grown enums s (encode_terms enums ts s)

-- A name that was given stays.
pub record Keeps (s u : Tables) : Type 0 where
  pub terms : (t : PlainTerm) (n : List ℕ) → name_of_term s t ≡ Some n → name_of_term u t ≡ Some n
  pub types : (t : PlainType) (n : List ℕ) → name_of_type s t ≡ Some n → name_of_type u t ≡ Some n
  pub functions : (f : PlainFunction) (n : List ℕ) → name_of_function s f ≡ Some n → name_of_function u f ≡ Some n

-- where entries are added, every name that was given stays
abbrev pub NamesStay : Type 0
NamesStay = (enums : Enums) (s : Tables) (ls : List Line) (u : Tables) → Extends enums s ls u → Keeps s u

-- ---- names of entries

-- Functions that have one name are one.
abbrev pub FunctionNamesDiffer : Type 0
FunctionNamesDiffer = (es : List (PlainFunction × List ℕ)) → AreNumbered (λ f place. stated_function_name place) 0 es → HasDistinctNames es

-- Types that have one name are one.
abbrev pub TypeNamesDiffer : Type 0
TypeNamesDiffer = (es : List (PlainType × List ℕ)) → AreNumbered stated_type_name 0 es → HasDistinctNames es

-- Two entries with one drawn name are one entry.
abbrev pub TermNamesDiffer : Type 0
TermNamesDiffer = (enums : Enums) (es : List (PlainTerm × List ℕ)) → AreDrawn enums 0 es → (n : List ℕ) (t u : PlainTerm)
    → is_drawn enums t ≡ true → is_drawn enums u ≡ true → HasEntry es t n → HasEntry es u n → t ≡ u
