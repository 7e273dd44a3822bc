-- What is spelled is read as it was.
use Rattle.std.proofs.Common.{◌≡◌, ℕ, Bool, true, false, not, ◌&&◌, cond, List, [], ◌∷◌, ◌++◌, map, refl, sym, ap, ◌∙◌, subst, append_assoc}
use Rattle.std.specs.Prelude.{codes}
use Rattle.std.specs.List.{list_all, flat_map}
use Rattle.std.proofs.lemmas.Bool.{and_parts, and_from, false≢true}
use Rattle.law_texts.specs.Characters.{is_line_end}
use Rattle.law_texts.specs.LineTexts as texts
use Rattle.law_texts.specs.LineTexts.{in_comment, sorted_name}
use Rattle.law_texts.specs.Lexicon.{Bits, Number, Text, Name}
use Rattle.law_texts.specs.Reading.{Expression, Leaf, Node, Expressions, Nil, Cons, expressions}
use Rattle.law_scripts.specs.Script as script
use Rattle.law_scripts.specs.Script.{Command, Holds, HasWholeLines, name, group, constructor}
use Rattle.law_scripts.specs.Written.{ReadsAs, IsLine, is_name}
use Rattle.law_scripts.specs.CommandLines.{Part, AreWritten, ConstructorPart, AreConstructors, constructor_lines, below_each, spaced_parts}
use Rattle.law_scripts.proofs.Append.{holds_append, whole_append}
use Rattle.law_scripts.proofs.Lines.{names_write, brackets_write, comments_are_lines}
use Rattle.law_scripts.proofs.First.{assert_line, declare_const_line, define_fun_line, applied_text}
use Rattle.law_scripts.proofs.Laid.{groups_write, selectors_write, datatype_line, declare_fun_line, plain_lines, number_writes}
use Rattle.law_scripts.proofs.Quotes.{texts_write}
use Rattle.law_lines.specs.Spelling.{spelled, spelled_others}
use Rattle.law_lines.specs.Line.{Constructor, Bare, Fielded, Comment, DeclareDatatype, DeclareConst, DeclareFun, DefineFun, Assert, Push, Pop, spelled_selector, spelled_constructor, spelled_line, spelled_lines}
use Rattle.law_lines.specs.Command.{built, all_built, commands_of, commands, is_written, are_written, is_written_constructor, is_written_line}
use Rattle.law_lines.specs.Scripts.{LinesAreLines, LinesHold}

-- ---- expressions

abbrev parts : Expressions → List Part
parts Nil = []
parts (Cons e es) = record { text = spelled e; expr = e } ∷ parts es

others_are : (es : Expressions) (end : List ℕ) → spelled_others es ++ end ≡ spaced_parts (parts es) end
others_are Nil end = refl
others_are (Cons e es) end = ap (λ (t : List ℕ). codes " " ++ t) (append_assoc (spelled e) (spelled_others es) end ∙ ap (λ (t : List ℕ). spelled e ++ t) (others_are es end))

parts_are : (es : Expressions) → expressions (map (λ p. p.expr) (parts es)) ≡ es
parts_are Nil = refl
parts_are (Cons e es) = ap (Cons e) (parts_are es)

node : (e : Expression) (es : Expressions) → ReadsAs (spelled e) e → AreWritten (parts es) → ReadsAs (spelled (Node (Cons e es))) (Node (Cons e es))
node e Nil w v = subst (λ (t : List ℕ). ReadsAs (codes "(" ++ t) (Node (Cons e Nil))) (sym (append_assoc (spelled e) (codes " ") (codes ")"))) (groups_write (spelled e) e [] (codes " ") w tt refl)
node e (Cons f es) w v =
    let texts : spaced_parts (parts (Cons f es)) (codes ")") ≡ codes " " ++ (spelled f ++ spelled_others es) ++ codes ")" =
    ap (λ (t : List ℕ). codes " " ++ t) (sym (append_assoc (spelled f) (spelled_others es) (codes ")") ∙ ap (λ (t : List ℕ). spelled f ++ t) (others_are es (codes ")")))) in
    subst (λ (t : List ℕ). ReadsAs (codes "(" ++ t) (Node (Cons e (Cons f es)))) (ap (λ (t : List ℕ). spelled e ++ t) texts ∙ sym (append_assoc (spelled e) (codes " " ++ (spelled f ++ spelled_others es)) (codes ")")))
    (subst (λ (x : Expressions). ReadsAs (codes "(" ++ (spelled e ++ spaced_parts (parts (Cons f es)) (codes ")"))) (Node (Cons e x))) (parts_are (Cons f es))
    (groups_write (spelled e) e (parts (Cons f es)) [] w v refl))

mutual
  pub expressions_write : (e : Expression) → is_written e ≡ true → ReadsAs (spelled e) e
  expressions_write (Leaf (Bits width n)) h = absurd (false≢true h)
  expressions_write (Leaf (Number n)) h = number_writes n
  expressions_write (Leaf (Text cs)) h = texts_write cs h
  expressions_write (Leaf (Name n)) h = names_write n h
  expressions_write (Node Nil) h = brackets_write [] [] tt refl
  expressions_write (Node (Cons e es)) h = let q = and_parts (is_written e) (are_written es) h in node e es (expressions_write e q.0) (all_write es q.1)

  all_write : (es : Expressions) → are_written es ≡ true → AreWritten (parts es)
  all_write Nil h = tt
  all_write (Cons e es) h = let q = and_parts (is_written e) (are_written es) h in (expressions_write e q.0, all_write es q.1)

-- ---- constructors

selector_writes : (x : List ℕ × Expression) → (is_name x.0 && is_written x.1) ≡ true → ReadsAs (sorted_name (spelled_selector x)) (group (name x.0 ∷ x.1 ∷ []))
selector_writes x h = let q = and_parts (is_name x.0) (is_written x.1) h in
    let texts : codes "(" ++ x.0 ++ codes " " ++ spelled x.1 ++ codes ")" ≡ sorted_name (spelled_selector x) = simp append_assoc in
    subst (λ (t : List ℕ). ReadsAs t (group (name x.0 ∷ x.1 ∷ []))) texts (applied_text x.0 (spelled x.1) x.1 q.0 (expressions_write x.1 q.1))

abbrev selector_parts : List (List ℕ × Expression) → List Part
selector_parts [] = []
selector_parts (x ∷ xs) = record { text = sorted_name (spelled_selector x); expr = group (name x.0 ∷ x.1 ∷ []) } ∷ selector_parts xs

selector_parts_are : (xs : List (List ℕ × Expression)) → map (λ p. p.expr) (selector_parts xs) ≡ map (λ s. group (name s.0 ∷ s.1 ∷ [])) xs
selector_parts_are [] = refl
selector_parts_are (x ∷ xs) = ap (λ (t : List Expression). group (name x.0 ∷ x.1 ∷ []) ∷ t) (selector_parts_are xs)

selectors_written : (xs : List (List ℕ × Expression)) → list_all (λ x. is_name x.0 && is_written x.1) xs ≡ true → AreWritten (selector_parts xs)
selectors_written [] h = tt
selectors_written (x ∷ xs) h = let q = and_parts (is_name x.0 && is_written x.1) _ h in (selector_writes x q.0, selectors_written xs q.1)

spaced_selectors : (xs : List (List ℕ × Expression)) (end : List ℕ) → flat_map (λ y. codes " " ++ sorted_name y) (map spelled_selector xs) ++ end ≡ spaced_parts (selector_parts xs) end
spaced_selectors [] end = refl
spaced_selectors (x ∷ xs) end =
    let rest = flat_map (λ y. codes " " ++ sorted_name y) (map spelled_selector xs) in
    ap (λ (t : List ℕ). codes " " ++ t) (append_assoc (sorted_name (spelled_selector x)) rest end ∙ ap (λ (t : List ℕ). sorted_name (spelled_selector x) ++ t) (spaced_selectors xs end))

constructor_writes : (c : Constructor) → is_written_constructor c ≡ true → ReadsAs (spelled_constructor c) (constructor (built c))
constructor_writes (Bare n) h = selectors_write (record { name = n; selectors = [] }) [] [] h tt refl refl
constructor_writes (Fielded n []) h = selectors_write (record { name = n; selectors = [] }) [] (codes " ") (and_parts (is_name n) true h).0 tt refl refl
constructor_writes (Fielded n (x ∷ xs)) h =
    let q = and_parts (is_name n) (list_all (λ x. is_name x.0 && is_written x.1) (x ∷ xs)) h in
    let rest = flat_map (λ y. codes " " ++ sorted_name y) (map spelled_selector xs) in
    subst (λ (t : List ℕ). ReadsAs (codes "(" ++ (n ++ (codes " " ++ t))) (constructor (built (Fielded n (x ∷ xs)))))
    (ap (λ (t : List ℕ). sorted_name (spelled_selector x) ++ t) (sym (spaced_selectors xs (codes ")"))) ∙ sym (append_assoc (sorted_name (spelled_selector x)) rest (codes ")")))
    (selectors_write (record { name = n; selectors = x ∷ xs }) (selector_parts (x ∷ xs)) [] q.0 (selectors_written (x ∷ xs) q.1) refl (selector_parts_are (x ∷ xs)))

abbrev constructor_parts : List Constructor → List ConstructorPart
constructor_parts [] = []
constructor_parts (c ∷ cs) = record { text = spelled_constructor c; built = built c } ∷ constructor_parts cs

constructor_parts_are : (cs : List Constructor) → map (λ c. c.built) (constructor_parts cs) ≡ all_built cs
constructor_parts_are [] = refl
constructor_parts_are (c ∷ cs) = ap (λ (t : List script.Constructor). built c ∷ t) (constructor_parts_are cs)

constructors_written : (cs : List Constructor) → list_all is_written_constructor cs ≡ true → AreConstructors (constructor_parts cs)
constructors_written [] h = tt
constructors_written (c ∷ cs) h = let q = and_parts (is_written_constructor c) _ h in (constructor_writes c q.0, constructors_written cs q.1)

below_are : (cs : List Constructor) (end : List ℕ) → flat_map (λ y. codes "\n  " ++ y) (map spelled_constructor cs) ++ end ≡ below_each (constructor_parts cs) end
below_are [] end = refl
below_are (c ∷ cs) end =
    let rest = flat_map (λ y. codes "\n  " ++ y) (map spelled_constructor cs) in
    ap (λ (t : List ℕ). codes "\n  " ++ t) (append_assoc (spelled_constructor c) rest end ∙ ap (λ (t : List ℕ). spelled_constructor c ++ t) (below_are cs end))

constructors_are : (cs : List Constructor) (end : List ℕ) → texts.constructor_lines (map spelled_constructor cs) ++ end ≡ constructor_lines (constructor_parts cs) end
constructors_are [] end = refl
constructors_are (c ∷ cs) end = below_are (c ∷ cs) end

-- ---- lines

datatype_is_line : (n : List ℕ) (cs : List Constructor) → is_name n ≡ true → list_all is_written_constructor cs ≡ true → IsLine (spelled_line (DeclareDatatype n [] cs)) (script.DeclareDatatype n [] (all_built cs) ∷ [])
datatype_is_line n cs h k =
    let inner = texts.constructor_lines (map spelled_constructor cs) in
    let bytes : constructor_lines (constructor_parts cs) (codes "))\n") ≡ (inner ++ codes ")") ++ codes ")\n" =
    sym (constructors_are cs (codes "))\n")) ∙ sym (append_assoc inner (codes ")") (codes ")\n")) in
    subst (λ (t : List ℕ). IsLine (codes "(declare-datatype " ++ (n ++ (codes " (" ++ t))) (script.DeclareDatatype n [] (all_built cs) ∷ [])) bytes
    (subst (λ (t : List script.Constructor). IsLine (codes "(declare-datatype " ++ (n ++ (codes " (" ++ constructor_lines (constructor_parts cs) (codes "))\n")))) (script.DeclareDatatype n [] t ∷ [])) (constructor_parts_are cs)
    (datatype_line n (constructor_parts cs) h (constructors_written cs k)))

no_line_ends : (text : List ℕ) → list_all (λ b. not (is_line_end b)) (map in_comment text) ≡ true
no_line_ends [] = refl
no_line_ends (b ∷ bs) = and_from (not (is_line_end (in_comment b))) _ (one b) (no_line_ends bs)
  where
    one : (b : ℕ) → not (is_line_end (in_comment b)) ≡ true
    one b = go (is_line_end b) refl
      where
        go : (x : Bool) → is_line_end b ≡ x → not (is_line_end (cond x 32 b)) ≡ true
        go true e = refl
        go false e = rw e refl

pub lines_are_lines : LinesAreLines
lines_are_lines (Comment text) h = comments_are_lines (codes " " ++ map in_comment text) (no_line_ends text)
lines_are_lines (DeclareDatatype n [] cs) h = let q = and_parts (is_name n) (list_all is_written_constructor cs) h in datatype_is_line n cs q.0 q.1
lines_are_lines (DeclareDatatype n (p ∷ ps) cs) h = absurd (false≢true h)
lines_are_lines (DeclareConst n sort) h = let q = and_parts (is_name n) (is_written sort) h in
    let texts : codes "(declare-const " ++ n ++ codes " " ++ spelled sort ++ codes ")\n" ≡ spelled_line (DeclareConst n sort) = simp append_assoc in
    subst (λ (t : List ℕ). IsLine t (script.DeclareConst n sort ∷ [])) texts (declare_const_line n (spelled sort) sort q.0 (expressions_write sort q.1))
lines_are_lines (DeclareFun n argument sort) h =
    let q = and_parts (is_name n && is_written argument) (is_written sort) h in
    let r = and_parts (is_name n) (is_written argument) q.0 in
    declare_fun_line n (spelled argument) (spelled sort) argument sort r.0 (expressions_write argument r.1) (expressions_write sort q.1)
lines_are_lines (DefineFun n sort body) h =
    let q = and_parts (is_name n && is_written sort) (is_written body) h in
    let r = and_parts (is_name n) (is_written sort) q.0 in
    let texts : codes "(define-fun " ++ n ++ codes " () " ++ spelled sort ++ codes " " ++ spelled body ++ codes ")\n" ≡ spelled_line (DefineFun n sort body) = simp append_assoc in
    subst (λ (t : List ℕ). IsLine t (script.DefineFun n sort body ∷ [])) texts (define_fun_line n (spelled sort) (spelled body) sort body r.0 (expressions_write sort r.1) (expressions_write body q.1))
lines_are_lines (Assert e) h =
    let texts : codes "(assert " ++ spelled e ++ codes ")\n" ≡ spelled_line (Assert e) = simp append_assoc in
    subst (λ (t : List ℕ). IsLine t (script.Assert e ∷ [])) texts (assert_line (spelled e) e (expressions_write e h))
lines_are_lines Push h = plain_lines.4
lines_are_lines Pop h = plain_lines.5

pub whole_line : (line : List ℕ) (cs : List Command) → IsLine line cs → HasWholeLines line
whole_line line cs h = subst HasWholeLines (sym h.ends.1) (whole h.ends.0)
  where
    whole : (front : List ℕ) → HasWholeLines (front ++ codes "\n")
    whole [] = ([], refl)
    whole (b ∷ front) = (b ∷ front, refl)

pub one_holds : (line rest : List ℕ) (cs ds : List Command) → IsLine line cs → Holds rest ds × HasWholeLines rest → Holds (line ++ rest) (cs ++ ds) × HasWholeLines (line ++ rest)
one_holds line rest cs ds l r = let w = whole_line line cs l in (holds_append line rest cs ds w l.holds r.0, whole_append line rest w r.1)

pub lines_hold : LinesHold
lines_hold [] h = (record { reads = record { pieces = []; cut = record { spelled = refl; longest = refl }; tokens_are = refl }; plain = refl }, tt)
lines_hold (l ∷ ls) h =
    let q = and_parts (is_written_line l) (list_all is_written_line ls) h in
    one_holds (spelled_line l) (spelled_lines ls) (commands_of l) (commands ls) (lines_are_lines l q.0) (lines_hold ls q.1)
