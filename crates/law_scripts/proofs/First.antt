-- The lines of the first commands, each from its brackets.
use Rattle.std.proofs.Common.{◌≡◌, ℕ, List, [], ◌∷◌, ◌++◌, refl, subst, append_assoc}
use Rattle.std.specs.Prelude.{codes}
use Rattle.law_texts.specs.Reading.{Expression}
use Rattle.law_scripts.specs.Script.{Command, DeclareConst, DefineFun, Assert, group, name, stated}
use Rattle.law_scripts.specs.Written.{ReadsAs, Item, bracketed, listed, IsLine, DeclareConstLine, DefineFunLine, AssertLine, AppliedText, OptionLines, option_lines, option_command}
use Rattle.law_scripts.proofs.Lines.{brackets_write, names_write, commands_are_lines}

-- behind nothing, a space, or a line feed and two spaces
abbrev pub first : List ℕ → Expression → Item
first t e = record { gap = []; text = t; expr = e }

abbrev pub next : List ℕ → Expression → Item
next t e = record { gap = codes " "; text = t; expr = e }

abbrev pub below : List ℕ → Expression → Item
below t e = record { gap = codes "\n  "; text = t; expr = e }

-- a line is cut where its text ends
pub line_of : (line text : List ℕ) (c : Command) → ReadsAs text (stated c) → text ++ codes "\n" ≡ line → IsLine line (c ∷ [])
line_of line text c w e = subst (λ (l : List ℕ). IsLine l (c ∷ [])) e (commands_are_lines text c w)

pub assert_line : AssertLine
assert_line e x w =
    line_of _ (bracketed (first (codes "assert") (name (codes "assert")) ∷ next e x ∷ []) []) (Assert x)
    (brackets_write (first (codes "assert") (name (codes "assert")) ∷ next e x ∷ []) [] (refl, names_write (codes "assert") refl, (refl, w, tt)) refl)
    (simp append_assoc)

pub declare_const_line : DeclareConstLine
declare_const_line n sort s h w =
    let items = first (codes "declare-const") (name (codes "declare-const")) ∷ next n (name n) ∷ next sort s ∷ [] in
    line_of _ (bracketed items []) (DeclareConst n s)
    (brackets_write items [] (refl, names_write (codes "declare-const") refl, (refl, names_write n h, (refl, w, tt))) refl)
    (simp append_assoc)

pub define_fun_line : DefineFunLine
define_fun_line n sort body s b h w v =
    let items = first (codes "define-fun") (name (codes "define-fun")) ∷ next n (name n) ∷ next (codes "()") (group []) ∷ next sort s ∷ next body b ∷ [] in
    line_of _ (bracketed items []) (DefineFun n s b)
    (brackets_write items [] (refl, names_write (codes "define-fun") refl, (refl, names_write n h, (refl, brackets_write [] [] tt refl, (refl, w, (refl, v, tt))))) refl)
    (simp append_assoc)

pub applied_text : AppliedText
applied_text f x e h w =
    let items = first f (name f) ∷ next x e ∷ [] in
    let texts : bracketed items [] ≡ codes "(" ++ f ++ codes " " ++ x ++ codes ")" = simp append_assoc in
    subst (λ (t : List ℕ). ReadsAs t (group (name f ∷ e ∷ []))) texts (brackets_write items [] (refl, names_write f h, (refl, w, tt)) refl)

pub option_is_line : OptionLines
option_is_line =
    line_of option_lines (bracketed items []) option_command
    (brackets_write items [] (refl, names_write (codes "declare-datatype") refl, (refl, names_write (codes "Option") refl, (refl, par, tt))) refl)
    refl
  where
    selector : ReadsAs (codes "(val X)") (group (name (codes "val") ∷ name (codes "X") ∷ []))
    selector = brackets_write (first (codes "val") (name (codes "val")) ∷ next (codes "X") (name (codes "X")) ∷ []) [] (refl, names_write (codes "val") refl, (refl, names_write (codes "X") refl, tt)) refl

    none-text : ReadsAs (codes "(none)") (group (name (codes "none") ∷ []))
    none-text = brackets_write (first (codes "none") (name (codes "none")) ∷ []) [] (refl, names_write (codes "none") refl, tt) refl

    some-text : ReadsAs (codes "(some (val X))") (group (name (codes "some") ∷ group (name (codes "val") ∷ name (codes "X") ∷ []) ∷ []))
    some-text = brackets_write (first (codes "some") (name (codes "some")) ∷ next (codes "(val X)") (group (name (codes "val") ∷ name (codes "X") ∷ [])) ∷ []) [] (refl, names_write (codes "some") refl, (refl, selector, tt)) refl

    constructors : List Item
    constructors = below (codes "(none)") (group (name (codes "none") ∷ [])) ∷ below (codes "(some (val X))") (group (name (codes "some") ∷ group (name (codes "val") ∷ name (codes "X") ∷ []) ∷ [])) ∷ []

    two : ReadsAs (bracketed constructors []) (listed constructors)
    two = brackets_write constructors [] (refl, none-text, (refl, some-text, tt)) refl

    par : ReadsAs (bracketed (first (codes "par") (name (codes "par")) ∷ next (codes "(X)") (group (name (codes "X") ∷ [])) ∷ next (bracketed constructors []) (listed constructors) ∷ []) []) (group (name (codes "par") ∷ group (name (codes "X") ∷ []) ∷ listed constructors ∷ []))
    par = brackets_write (first (codes "par") (name (codes "par")) ∷ next (codes "(X)") (group (name (codes "X") ∷ [])) ∷ next (bracketed constructors []) (listed constructors) ∷ []) [] (refl, names_write (codes "par") refl, (refl, brackets_write (first (codes "X") (name (codes "X")) ∷ []) [] (refl, names_write (codes "X") refl, tt) refl, (refl, two, tt))) refl

    par-text : List ℕ
    par-text = bracketed (first (codes "par") (name (codes "par")) ∷ next (codes "(X)") (group (name (codes "X") ∷ [])) ∷ next (bracketed constructors []) (listed constructors) ∷ []) []

    items : List Item
    items = first (codes "declare-datatype") (name (codes "declare-datatype")) ∷ next (codes "Option") (name (codes "Option")) ∷ next par-text (group (name (codes "par") ∷ group (name (codes "X") ∷ []) ∷ listed constructors ∷ [])) ∷ []
