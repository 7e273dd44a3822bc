-- What the lines of declarations leave of an open script.
use Rattle.std.specs.Prelude.{◌≡◌, ℕ, zero, suc, true, not, ◌&&◌, IsTrue, codes, length, map, List, [], ◌∷◌, ◌++◌, Option, Some, None}
use Rattle.std.specs.List.{list_all}
use Rattle.law_texts.specs.Reading.{Expression}
use Rattle.law_scripts.specs.Script.{Constructor, Constant, Function, Builds, Selects, State, has_sort, is_sort, is_taken, is_new_datatype}
use Rattle.law_scripts.specs.Script.{with_name, with_sort}
use Rattle.law_scripts.specs.Sorts.{Entries, entries}
use Rattle.law_scripts.specs.Written.{ReadsAs, IsName, IsOpenScript}
use Rattle.law_scripts.specs.CommandLines.{ConstructorPart, AreConstructors, constructor_lines}
use Rattle.law_scripts.specs.Meanings.{constructors_named, with_names, names_in, are_new, are_fields}

-- A line `(declare-const n S)`, of a name that is not taken and a sort that is there, leaves an open script with that constant.
abbrev pub ConstantsExtend : Type 0
ConstantsExtend =
    (text n sort : List ℕ) (s : State) (x : Expression) → IsOpenScript text s → IsName n → ReadsAs sort x → IsTrue (not (is_taken s n)) →
    IsTrue (is_sort (has_sort s) x)
    → IsOpenScript (text ++ (codes "(declare-const " ++ n ++ codes " " ++ sort ++ codes ")\n")) (with_name n (Constant x) s)

-- A line `(declare-fun f (A) S)`, of a name that is not taken and sorts that are there, leaves an open script with it.
abbrev pub FunctionsExtend : Type 0
FunctionsExtend =
    (text f argument sort : List ℕ) (s : State) (a x : Expression) → IsOpenScript text s → IsName f → ReadsAs argument a → ReadsAs sort x
    → IsTrue (not (is_taken s f)) → IsTrue (is_sort (has_sort s) a && is_sort (has_sort s) x)
    → IsOpenScript (text ++ (codes "(declare-fun " ++ (f ++ (codes " (" ++ (argument ++ (codes ") " ++ (sort ++ codes ")\n")))))))
    (with_name f (Function a x) s)

-- what a datatype without parameters leaves
abbrev pub with_datatype : List ℕ → List Constructor → State → State
with_datatype d cs s = with_sort d 0 (with_names (constructors_named d [] 0 cs s.last.names) s)

-- A line `(declare-datatype d (C ..))`, of new names and with fields of sorts that are there, leaves an open script with it.
abbrev pub DatatypesExtend : Type 0
DatatypesExtend = (text d : List ℕ) (cs : List ConstructorPart) (s : State) → IsOpenScript text s → IsName d → AreConstructors cs
    → IsTrue (is_new_datatype s d [] (map (λ c. c.built) cs)) → IsTrue (are_new s (names_in (map (λ c. c.built) cs))) →
    IsTrue (list_all (λ c. are_fields s [] c.selectors) (map (λ c. c.built) cs))
    → IsOpenScript (text ++ (codes "(declare-datatype " ++ (d ++ (codes " (" ++ constructor_lines cs (codes "))\n")))))
    (with_datatype d (map (λ c. c.built) cs) s)

-- constructors, each with the sorts of its fields
abbrev pub Constructors : Type 0
Constructors = List (List ℕ × List Expression)

-- the names of constructors, each with the sorts of its fields
abbrev pub shown : List Constructor → Constructors
shown cs = map (λ c. (c.name, map (λ x. x.1) c.selectors)) cs

-- the constructor at a place, if there is one
abbrev pub at_place : Constructors → ℕ → Option (List ℕ × List Expression)
at_place [] place = None
at_place (c ∷ cs) zero = Some c
at_place (c ∷ cs) (suc place) = at_place cs place

-- each selector of a constructor is declared with its place there, from a place on
abbrev pub DeclaresSelectors : Entries → List ℕ → List (List ℕ) → List ℕ → ℕ → List (List ℕ × Expression) → Type 0
DeclaresSelectors here d ps c place [] = Unit {0}
DeclaresSelectors here d ps c place (x ∷ xs) = (here x.0 ≡ Some (Selects d ps c place x.1)) × DeclaresSelectors here d ps c (suc place) xs

-- each constructor of a datatype is declared with its place, from a place on, and so are its selectors
abbrev pub Declares : Entries → List ℕ → List (List ℕ) → ℕ → List Constructor → Type 0
Declares here d ps place [] = Unit {0}
Declares here d ps place (c ∷ cs) =
    (here c.name ≡ Some (Builds d ps place (map (λ x. x.1) c.selectors))) × DeclaresSelectors here d ps c.name 0 c.selectors
    × Declares here d ps (suc place) cs

-- A datatype of new names, once declared, has each of its constructors and selectors declared at its place.
abbrev pub DatatypesDeclare : Type 0
DatatypesDeclare = (d : List ℕ) (ps : List (List ℕ)) (cs : List Constructor) (s : State) → are_new s (names_in cs) ≡ true
    → Declares (entries (with_sort d (length ps) (with_names (constructors_named d ps 0 cs s.last.names) s))) d ps 0 cs
