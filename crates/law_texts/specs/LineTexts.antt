-- The bytes of the lines of a script, from the texts of their parts, as SMT-LIB 2.7 spells commands (chapter 3, Scripts)
-- and comments (chapter 3, Lexicon). Every line ends with LF.
use Rattle.std.specs.Prelude.{ℕ, if◌then◌else◌, codes, map, List, [], ◌∷◌, ◌++◌}
use Rattle.std.specs.List.{join_by}
use Rattle.law_texts.specs.Characters.{is_line_end}

-- ---- comments

-- Line ends in a comment become spaces.
abbrev pub in_comment : ℕ → ℕ
in_comment b = if is_line_end b then 32 else b

-- `; TEXT`
abbrev pub comment_text : (text : List ℕ) → List ℕ
comment_text text = codes "; " ++ (map in_comment text ++ codes "\n")

-- ---- parts of lines

-- a space between each two texts
abbrev pub spaced : List (List ℕ) → List ℕ
spaced texts = join_by (λ x. x) (codes " ") texts

-- a comma and a space between each two texts
abbrev pub comma_separated : List (List ℕ) → List ℕ
comma_separated texts = join_by (λ x. x) (codes ", ") texts

-- `(NAME SORT)`, a name with its sort: a variable, or a selector
abbrev pub sorted_name : (List ℕ × List ℕ) → List ℕ
sorted_name x = codes "(" ++ (x.0 ++ (codes " " ++ (x.1 ++ codes ")")))

-- names with their sorts, a space between each two
abbrev pub sorted_names : List (List ℕ × List ℕ) → List ℕ
sorted_names xs = join_by sorted_name (codes " ") xs

-- `(NAME)`, a constructor by its name alone
abbrev pub bare_constructor_text : (name : List ℕ) → List ℕ
bare_constructor_text name = codes "(" ++ (name ++ codes ")")

-- `(NAME (SELECTOR SORT) ..)`, a constructor and its selectors
abbrev pub constructor_text : (name : List ℕ) → (selectors : List (List ℕ × List ℕ)) → List ℕ
constructor_text name selectors = codes "(" ++ (name ++ (codes " " ++ (sorted_names selectors ++ codes ")")))

-- Each constructor stands on a line of its own behind two spaces, and one such start of a line stands also where there is none.
abbrev pub constructor_lines : (constructors : List (List ℕ)) → List ℕ
constructor_lines constructors = codes "\n  " ++ join_by (λ x. x) (codes "\n  ") constructors

-- `(C)`, or `(par (P) (C))` where the parameters' text P is not empty
abbrev pub datatype_body : (parameters constructors : List ℕ) → List ℕ
datatype_body [] c = codes "(" ++ (c ++ codes ")")
datatype_body (b ∷ p) c = codes "(par (" ++ ((b ∷ p) ++ (codes ") (" ++ (c ++ codes "))")))

-- ---- commands

-- `(assert TERM)`
abbrev pub assert_text : (term : List ℕ) → List ℕ
assert_text term = codes "(assert " ++ (term ++ codes ")\n")

-- `(declare-const NAME SORT)`
abbrev pub declare_const_text : (name sort : List ℕ) → List ℕ
declare_const_text name sort = codes "(declare-const " ++ (name ++ (codes " " ++ (sort ++ codes ")\n")))

-- `(declare-fun NAME (ARGUMENT) SORT)`, a function of one argument
abbrev pub declare_fun_text : (name argument sort : List ℕ) → List ℕ
declare_fun_text name argument sort =
    codes "(declare-fun " ++ (name ++ (codes " (" ++ (argument ++ (codes ") " ++ (sort ++ codes ")\n")))))

-- `(define-fun NAME (VARIABLES) SORT TERM)`
abbrev pub define_fun_text : (name : List ℕ) → (variables : List (List ℕ × List ℕ)) → (sort term : List ℕ) → List ℕ
define_fun_text name variables sort term =
    codes "(define-fun " ++ (name ++ (codes " (" ++ (sorted_names variables
    ++ (codes ") " ++ (sort ++ (codes " " ++ (term ++ codes ")\n")))))))

-- `(declare-datatype NAME BODY)`, a space between each two parameters
abbrev pub declare_datatype_text : (name : List ℕ) → (parameters constructors : List (List ℕ)) → List ℕ
declare_datatype_text name parameters constructors =
    codes "(declare-datatype " ++ (name ++ (codes " "
    ++ (datatype_body (spaced parameters) (constructor_lines constructors) ++ codes ")\n")))

-- `(push 1)`
abbrev pub push_text : List ℕ
push_text = codes "(push 1)\n"

-- `(pop 1)`
abbrev pub pop_text : List ℕ
pop_text = codes "(pop 1)\n"
