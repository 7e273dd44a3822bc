-- The texts of sorts and expressions, and the lines of all commands, each from its brackets.
use Rattle.std.proofs.Common.{◌≡◌, ℕ, List, [], ◌∷◌, ◌++◌, map, refl, sym, ap, ◌∙◌, subst, append_assoc, Option, Some, None}
use Rattle.std.specs.Prelude.{codes}
use Rattle.std.proofs.lemmas.Bool.{not-true}
use Rattle.law_texts.specs.Lexicon.{Number}
use Rattle.law_texts.specs.Reading.{Expression, Leaf}
use Rattle.law_scripts.specs.Numerals.{numbered, numeral}
use Rattle.law_scripts.specs.Script.{Command, DeclareDatatype, DeclareFun, SetLogic, SetOption, CheckSat, GetModel, Reset, Exit, Push, Pop, constructor, group, name, State, HasWholeLines, Holds, start, step, run}
use Rattle.law_scripts.specs.Written.{ReadsAs, Item, laid, AreSpread, bracketed, listed, IsName}
use Rattle.law_scripts.specs.CommandLines.{Part, AreWritten, GroupsWrite, BitsWrite, BitSortsWrite, BitsHaveValues, ConstructorPart, AreConstructors, below_each, constructor_lines, DatatypeLine, SelectorsWrite, DeclareFunLine, SetLogicLine, SetOptionLine, PlainLines, CommandsExtend, AreSorted, OnState, SortedScript, SortedLinesAdd, SortedCommentsAdd, spaced_parts}
use Rattle.law_scripts.proofs.CommandInduction.{steps_to, run_keeps}
use Rattle.law_scripts.proofs.Append.{holds_append, runs_then}
use Rattle.law_scripts.proofs.Lines.{brackets_write, names_write, numerals_write, lines_add}
use Rattle.law_scripts.proofs.First.{first, next, below, line_of}
use Rattle.law_scripts.proofs.Numbers.{bv_name, numeral_digits, numeral_number}

-- ---- any number of arguments

abbrev spread : List Part → List Item
spread ps = map (λ p. next p.text p.expr) ps

are_spread : (ps : List Part) → AreWritten ps → AreSpread (spread ps)
are_spread [] h = tt
are_spread (p ∷ ps) h = (refl, h.0, are_spread ps h.1)

laid_spread : (ps : List Part) (end : List ℕ) → laid (spread ps) end ≡ spaced_parts ps end
laid_spread [] end = refl
laid_spread (p ∷ ps) end = ap (λ (t : List ℕ). codes " " ++ (p.text ++ t)) (laid_spread ps end)

spread_exprs : (ps : List Part) → map (λ i. i.expr) (spread ps) ≡ map (λ p. p.expr) ps
spread_exprs [] = refl
spread_exprs (p ∷ ps) = ap (λ (es : List Expression). p.expr ∷ es) (spread_exprs ps)

pub groups_write : GroupsWrite
groups_write head h ps gap w v g =
    let items = first head h ∷ spread ps in
    let e : bracketed items gap ≡ codes "(" ++ (head ++ spaced_parts ps (gap ++ codes ")")) = ap (λ (t : List ℕ). codes "(" ++ (head ++ t)) (laid_spread ps (gap ++ codes ")")) in
    let f : listed items ≡ group (h ∷ map (λ p. p.expr) ps) = ap (λ (es : List Expression). group (h ∷ es)) (spread_exprs ps) in
    subst (λ (t : List ℕ). ReadsAs t (group (h ∷ map (λ p. p.expr) ps))) e
    (subst (λ (x : Expression). ReadsAs (bracketed items gap) x) f (brackets_write items gap (refl, w, are_spread ps v) g))

-- ---- numbers

pub number_writes : (n : ℕ) → ReadsAs (numeral n) (Leaf (Number n))
number_writes n = subst (λ (m : ℕ). ReadsAs (numeral n) (Leaf (Number m))) (numeral_number n) (numerals_write (numeral n) (numeral_digits n))

abbrev part : List ℕ → Expression → Part
part t e = record { text = t; expr = e }

pub bits_write : BitsWrite
bits_write width number =
    groups_write (codes "_") (name (codes "_")) (part (numbered (codes "bv") number) (name (numbered (codes "bv") number)) ∷ part (numeral width) (Leaf (Number width)) ∷ []) []
    (names_write (codes "_") refl) (names_write (numbered (codes "bv") number) (bv_name number), (number_writes width, tt)) refl

pub bit_sorts_write : BitSortsWrite
bit_sorts_write width =
    groups_write (codes "_") (name (codes "_")) (part (codes "BitVec") (name (codes "BitVec")) ∷ part (numeral width) (Leaf (Number width)) ∷ []) []
    (names_write (codes "_") refl) (names_write (codes "BitVec") refl, (number_writes width, tt)) refl

pub bits_have_values : BitsHaveValues
bits_have_values here env width number h = rw (numeral_digits number, numeral_number number, h) refl

-- ---- lines

abbrev below_parts : List ConstructorPart → List Item
below_parts cs = map (λ c. below c.text (constructor c.built)) cs

below_spread : (cs : List ConstructorPart) → AreConstructors cs → AreSpread (below_parts cs)
below_spread [] h = tt
below_spread (c ∷ cs) h = (refl, h.0, below_spread cs h.1)

laid_below : (cs : List ConstructorPart) (end : List ℕ) → laid (below_parts cs) end ≡ below_each cs end
laid_below [] end = refl
laid_below (c ∷ cs) end = ap (λ (t : List ℕ). codes "\n  " ++ (c.text ++ t)) (laid_below cs end)

below_exprs : (cs : List ConstructorPart) → map (λ i. i.expr) (below_parts cs) ≡ map constructor (map (λ c. c.built) cs)
below_exprs [] = refl
below_exprs (c ∷ cs) = ap (λ (es : List Expression). constructor c.built ∷ es) (below_exprs cs)

below_append : (cs : List ConstructorPart) (a b : List ℕ) → below_each cs a ++ b ≡ below_each cs (a ++ b)
below_append [] a b = refl
below_append (c ∷ cs) a b = ap (λ (t : List ℕ). codes "\n  " ++ t) (append_assoc c.text (below_each cs a) b ∙ ap (λ (t : List ℕ). c.text ++ t) (below_append cs a b))

lines_append : (cs : List ConstructorPart) (a b : List ℕ) → constructor_lines cs a ++ b ≡ constructor_lines cs (a ++ b)
lines_append [] a b = refl
lines_append (c ∷ cs) a b = below_append (c ∷ cs) a b

constructors_write : (cs : List ConstructorPart) → AreConstructors cs → ReadsAs (codes "(" ++ constructor_lines cs (codes ")")) (group (map constructor (map (λ c. c.built) cs)))
constructors_write [] h = brackets_write [] (codes "\n  ") tt refl
constructors_write (c ∷ cs) h =
    subst (λ (t : List ℕ). ReadsAs t (group (map constructor (map (λ x. x.built) (c ∷ cs))))) (ap (λ (t : List ℕ). codes "(" ++ t) (laid_below (c ∷ cs) (codes ")")))
    (subst (λ (es : List Expression). ReadsAs (bracketed (below_parts (c ∷ cs)) []) (group es)) (below_exprs (c ∷ cs))
    (brackets_write (below_parts (c ∷ cs)) [] (refl, h.0, below_spread cs h.1) refl))

pub datatype_line : DatatypeLine
datatype_line d cs h k =
    let w = groups_write (codes "declare-datatype") (name (codes "declare-datatype")) (part d (name d) ∷ part (codes "(" ++ constructor_lines cs (codes ")")) (group (map constructor (map (λ c. c.built) cs))) ∷ []) []
    (names_write (codes "declare-datatype") refl) (names_write d h, (constructors_write cs k, tt)) refl in
    let inner = constructor_lines cs (codes ")") in
    line_of _ _ (DeclareDatatype d [] (map (λ c. c.built) cs)) w
    (ap (λ (t : List ℕ). codes "(declare-datatype " ++ t)
    (append_assoc d (codes " (" ++ (inner ++ codes ")")) (codes "\n")
    ∙ ap (λ (t : List ℕ). d ++ (codes " (" ++ t)) (append_assoc inner (codes ")") (codes "\n") ∙ lines_append cs (codes ")") (codes ")\n"))))

pub selectors_write : SelectorsWrite
selectors_write c ps gap h w g e =
    subst (λ (es : List Expression). ReadsAs (codes "(" ++ (c.name ++ spaced_parts ps (gap ++ codes ")"))) (group (name c.name ∷ es))) e (groups_write c.name (name c.name) ps gap (names_write c.name h) w g)

pub declare_fun_line : DeclareFunLine
declare_fun_line f argument sort a s h w v =
    let arguments = brackets_write (first argument a ∷ []) [] (refl, w, tt) refl in
    let all = groups_write (codes "declare-fun") (name (codes "declare-fun")) (part f (name f) ∷ part (bracketed (first argument a ∷ []) []) (group (a ∷ [])) ∷ part sort s ∷ []) []
    (names_write (codes "declare-fun") refl) (names_write f h, (arguments, (v, tt))) refl in
    let end = codes " " ++ (sort ++ codes ")") in
    line_of _ _ (DeclareFun f a s) all
    (ap (λ (t : List ℕ). codes "(declare-fun " ++ t)
    (append_assoc f (codes " (" ++ ((argument ++ codes ")") ++ end)) (codes "\n")
    ∙ ap (λ (t : List ℕ). f ++ (codes " (" ++ t)) (append_assoc (argument ++ codes ")") end (codes "\n") ∙ append_assoc argument (codes ")") (end ++ codes "\n") ∙ ap (λ (t : List ℕ). argument ++ (codes ") " ++ t)) (append_assoc sort (codes ")") (codes "\n")))))

pub set_logic_line : SetLogicLine
set_logic_line l h = line_of _ _ (SetLogic l) (groups_write (codes "set-logic") (name (codes "set-logic")) (part l (name l) ∷ []) [] (names_write (codes "set-logic") refl) (names_write l h, tt) refl) (simp append_assoc)

pub set_option_line : SetOptionLine
set_option_line o v e h w = line_of _ _ (SetOption o e) (groups_write (codes "set-option") (name (codes "set-option")) (part (codes ":" ++ o) (name (codes ":" ++ o)) ∷ part v e ∷ []) [] (names_write (codes "set-option") refl) (names_write (codes ":" ++ o) h, (w, tt)) refl) (simp append_assoc)

alone : (word : List ℕ) → IsName word → ReadsAs (codes "(" ++ (word ++ codes ")")) (group (name word ∷ []))
alone word h = groups_write word (name word) [] [] (names_write word h) tt refl

by_one : (word : List ℕ) → IsName word → ReadsAs (codes "(" ++ (word ++ codes " 1)")) (group (name word ∷ Leaf (Number 1) ∷ []))
by_one word h = groups_write word (name word) (part (codes "1") (Leaf (Number 1)) ∷ []) [] (names_write word h) (numerals_write (codes "1") refl, tt) refl

pub plain_lines : PlainLines
plain_lines = (
  line_of _ _ CheckSat (alone (codes "check-sat") refl) refl,
  line_of _ _ GetModel (alone (codes "get-model") refl) refl,
  line_of _ _ Reset (alone (codes "reset") refl) refl,
  line_of _ _ Exit (alone (codes "exit") refl) refl,
  line_of _ _ Push (by_one (codes "push") refl) refl,
  line_of _ _ Pop (by_one (codes "pop") refl) refl,
)

pub commands_extend : CommandsExtend
commands_extend text line c s t stands is-line obeys goes-on =
    let after = (lines_add text line c s t stands.whole stands.script is-line).0 (steps_to c s t (not-true s.ended stands.running) obeys) in
    record { whole = after.1; script = after.0; running = goes-on }

-- ---- well-sorted scripts

pub more_sorted : (cs ds : List Command) (s t : State) → AreSorted cs s → run cs s ≡ Some t → AreSorted ds t → AreSorted (cs ++ ds) s
more_sorted cs ds s t h e k = (run_keeps (λ bs u. AreSorted bs u × (AreSorted (bs ++ ds) u → AreSorted (cs ++ ds) s)) one cs s t e (h, λ all. all)).1 k
  where
    one : (c : Command) (bs : List Command) (u v : State) → step c u ≡ Some v → AreSorted (c ∷ bs) u × (AreSorted (c ∷ bs ++ ds) u → AreSorted (cs ++ ds) s) → AreSorted bs v × (AreSorted (bs ++ ds) v → AreSorted (cs ++ ds) s)
    one c bs u v f p = (subst (OnState (AreSorted bs)) f p.0.1, λ all. p.1 (p.0.0, subst (OnState (AreSorted (bs ++ ds))) (sym f) all))

pub sorted_from : (o : Option State) (t : State) → o ≡ Some t → OnState (AreSorted []) o
sorted_from None t h = absurd cc
sorted_from (Some s) t h = tt

sorted_append : (text line : List ℕ) (s : State) (ds : List Command) (t : State) → HasWholeLines text → SortedScript text s → Holds line ds → run ds s ≡ Some t → AreSorted ds s → SortedScript (text ++ line) t
sorted_append text line s ds t whole sorted holds runs are-sorted = record {
  script = record {
    commands = sorted.script.commands ++ ds;
    holds = holds_append text line sorted.script.commands ds whole sorted.script.holds holds;
    runs = runs_then sorted.script.commands ds start s t sorted.script.runs runs;
  };
  sorted = more_sorted sorted.script.commands ds start s sorted.sorted sorted.script.runs are-sorted;
}

pub sorted_lines_add : SortedLinesAdd
sorted_lines_add text line c s t whole sorted is-line steps is-sorted = sorted_append text line s (c ∷ []) t whole sorted is-line.holds (rw steps refl) (is-sorted, sorted_from (step c s) t steps)

pub sorted_comments_add : SortedCommentsAdd
sorted_comments_add text line s whole sorted is-line = sorted_append text line s [] s whole sorted is-line.holds refl tt
