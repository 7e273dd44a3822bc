-- Samples of texts that are no scripts, each beside one that is.
use Rattle.std.proofs.Common.{◌≡◌, ℕ, List, [], ◌∷◌, ◌++◌, refl, sym, ap, ◌∙◌, map, Some, None}
use Rattle.std.specs.Prelude.{codes}
use Rattle.std.specs.List.{flat_map}
use Rattle.std.proofs.lemmas.Bool.{eq-eqb, false≢true}
use Rattle.std.specs.Str.{is_utf8, chars}
use Rattle.std.specs.Char.{encode_utf8}
use Rattle.law_texts.specs.Lexicon.{Comment, Open, Close, Quoted, Space, Symbol, Text, Token, Begin, End, tokens}
use Rattle.law_texts.specs.Reading.{Expression, Leaf, Node, Reads, brackets, inside}
use Rattle.law_scripts.specs.Script.{State, Command, DeclareDatatype, DeclareConst, SetOption, constructor, start, step, name, group, stated, keyword, operands, is_keyword}
use Rattle.law_scripts.specs.Written.{IsLine, ReadsAs}
use Rattle.law_scripts.specs.CommandLines.{ConstructorPart}
use Rattle.law_scripts.specs.NoScripts.{IsNoScript, IsScript, NoScripts, NoCommands, WholeTexts, bare}
use Rattle.law_texts.proofs.Trees.{one_reading}
use Rattle.law_texts.proofs.Unique.{one_cut}
use Rattle.law_scripts.proofs.Commands.{group_is, number, number_from, number_is}
use Rattle.law_scripts.proofs.Lines.{lines_add, names_write, commands_are_lines}
use Rattle.law_scripts.proofs.First.{declare_const_line, assert_line}
use Rattle.law_scripts.proofs.Going.{part, begins}
use Rattle.law_scripts.proofs.Laid.{groups_write, selectors_write, datatype_line, set_logic_line, set_option_line}

none_is : (t : State) → None ≡ Some t → ⊥
none_is t e = cc

-- one line, by what its command leaves
refused : (line : List ℕ) (c : Command) → IsLine line (c ∷ []) → step c start ≡ None → IsNoScript line
refused line c l e s h = none_is s (sym e ∙ (lines_add [] line c start s tt begins.sorted.script l).1 h)

obeyed : (line : List ℕ) (c : Command) (t : State) → IsLine line (c ∷ []) → step c start ≡ Some t → IsScript line
obeyed line c t l e = (t, ((lines_add [] line c start t tt begins.sorted.script l).0 e).0)

-- two lines, of which the first is obeyed
refused_then : (line next : List ℕ) (c d : Command) (t : State) → IsLine line (c ∷ []) → step c start ≡ Some t → IsLine next (d ∷ []) → step d t ≡ None → IsNoScript (line ++ next)
refused_then line next c d t l e m f s h =
    let p = (lines_add [] line c start t tt begins.sorted.script l).0 e in
    none_is s (sym f ∙ (lines_add line next d t s p.1 p.0 m).1 h)

obeyed_then : (line next : List ℕ) (c d : Command) (t u : State) → IsLine line (c ∷ []) → step c start ≡ Some t → IsLine next (d ∷ []) → step d t ≡ Some u → IsScript (line ++ next)
obeyed_then line next c d t u l e m f =
    let p = (lines_add [] line c start t tt begins.sorted.script l).0 e in
    (u, ((lines_add line next d t u p.1 p.0 m).0 f).0)

-- ---- lines

t0_line : IsLine (codes "(declare-const t0 Bool)\n") (DeclareConst (codes "t0") (name (codes "Bool")) ∷ [])
t0_line = declare_const_line (codes "t0") (codes "Bool") (name (codes "Bool")) refl (names_write (codes "Bool") refl)

in_brackets : ReadsAs (codes "(t0)") (group (name (codes "t0") ∷ []))
in_brackets = groups_write (codes "t0") (name (codes "t0")) [] [] (names_write (codes "t0") refl) tt refl

abbrev empty : Expression
empty = group (name (codes "as") ∷ name (codes "set.empty") ∷ group (name (codes "Set") ∷ name (codes "Bool") ∷ []) ∷ [])

empty_text : ReadsAs (codes "(as set.empty (Set Bool))") empty
empty_text = groups_write (codes "as") (name (codes "as")) (part (codes "set.empty") (name (codes "set.empty")) ∷ part (codes "(Set Bool)") (group (name (codes "Set") ∷ name (codes "Bool") ∷ [])) ∷ []) [] (names_write (codes "as") refl)
    (names_write (codes "set.empty") refl, (groups_write (codes "Set") (name (codes "Set")) (part (codes "Bool") (name (codes "Bool")) ∷ []) [] (names_write (codes "Set") refl) (names_write (codes "Bool") refl, tt) refl, tt)) refl

abbrev inserting : List Expression → Expression
inserting es = group (name (codes "set.insert") ∷ es)

abbrev member : Expression → Expression
member set = group (name (codes "set.member") ∷ name (codes "true") ∷ set ∷ [])

member_text : (text : List ℕ) (set : Expression) → ReadsAs text set → ReadsAs (codes "(set.member true " ++ (text ++ codes ")")) (member set)
member_text text set w = groups_write (codes "set.member") (name (codes "set.member")) (part (codes "true") (name (codes "true")) ∷ part text set ∷ []) [] (names_write (codes "set.member") refl) (names_write (codes "true") refl, (w, tt)) refl

alone_text : ReadsAs (codes "(set.insert (as set.empty (Set Bool)))") (inserting (empty ∷ []))
alone_text = groups_write (codes "set.insert") (name (codes "set.insert")) (part (codes "(as set.empty (Set Bool))") empty ∷ []) [] (names_write (codes "set.insert") refl) (empty_text, tt) refl

into_text : ReadsAs (codes "(set.insert true (as set.empty (Set Bool)))") (inserting (name (codes "true") ∷ empty ∷ []))
into_text = groups_write (codes "set.insert") (name (codes "set.insert")) (part (codes "true") (name (codes "true")) ∷ part (codes "(as set.empty (Set Bool))") empty ∷ []) [] (names_write (codes "set.insert") refl) (names_write (codes "true") refl, (empty_text, tt)) refl

c_part : ConstructorPart
c_part = record { text = codes "(c)"; built = bare (codes "c") }

c_text : ReadsAs (codes "(c)") (constructor (bare (codes "c")))
c_text = selectors_write (bare (codes "c")) [] [] refl tt refl refl

abbrev of_two : List ℕ → List ℕ → Command
of_two p q = DeclareDatatype (codes "d") (p ∷ q ∷ []) (bare (codes "c") ∷ [])

abbrev two_text : List ℕ → List ℕ → List ℕ
two_text p q = codes "(" ++ (p ++ (codes " " ++ (q ++ codes ")")))

abbrev par_text : List ℕ → List ℕ → List ℕ
par_text p q = codes "(par " ++ (two_text p q ++ codes " ((c)))")

parameters_line : (p q : List ℕ) → ReadsAs p (name p) → ReadsAs q (name q) → IsLine ((codes "(declare-datatype d " ++ (par_text p q ++ codes ")")) ++ codes "\n") (of_two p q ∷ [])
parameters_line p q v w = commands_are_lines (codes "(declare-datatype d " ++ (par_text p q ++ codes ")")) (of_two p q)
    (groups_write (codes "declare-datatype") (name (codes "declare-datatype")) (part (codes "d") (name (codes "d")) ∷ part (par_text p q) par_expression ∷ []) [] (names_write (codes "declare-datatype") refl) (names_write (codes "d") refl, (par, tt)) refl)
  where
    both : Expression
    both = group (name p ∷ name q ∷ [])

    constructors : Expression
    constructors = group (constructor (bare (codes "c")) ∷ [])

    par_expression : Expression
    par_expression = group (name (codes "par") ∷ both ∷ constructors ∷ [])

    par : ReadsAs (par_text p q) par_expression
    par = groups_write (codes "par") (name (codes "par")) (part (two_text p q) both ∷ part (codes "((c))") constructors ∷ []) [] (names_write (codes "par") refl)
        (groups_write p (name p) (part q (name q) ∷ []) [] v (w, tt) refl, (groups_write (codes "(c)") (constructor (bare (codes "c"))) [] [] c_text tt refl, tt)) refl

-- ---- an option that is no keyword: the text is no command

abbrev set_no_option : Expression
set_no_option = group (name (codes "set-option") ∷ name (codes "produce-models") ∷ name (codes "true") ∷ [])

head_of_option : (c : Command) → stated c ≡ set_no_option → number c ≡ 6
head_of_option c h = sym (number_is c) ∙ ap number_from (group_is (keyword c) (codes "set-option") (operands c) (name (codes "produce-models") ∷ name (codes "true") ∷ []) h).0

no_option : (c : Command) → stated c ≡ set_no_option → ⊥
no_option (SetOption o v) h = let e : codes ":" ++ o ≡ codes "produce-models" = cc in false≢true (sym (ap is_keyword e))
no_option c h = false≢true (eq-eqb (number c) 6 (head_of_option c h))

option_reads : Reads (codes "(set-option produce-models true)\n") (set_no_option ∷ [])
unfolding is_utf8 chars encode_utf8
option_reads = record {
  pieces = Open ∷ Symbol (codes "set-option") ∷ Space 32 ∷ Symbol (codes "produce-models") ∷ Space 32 ∷ Symbol (codes "true") ∷ Close ∷ Space 10 ∷ [];
  cut = record { spelled = refl; longest = refl };
  tokens_are = refl;
}

option_is_no_command : IsNoScript (codes "(set-option produce-models true)\n")
option_is_no_command s h = first h.commands (one_reading (codes "(set-option produce-models true)\n") (map stated h.commands) (set_no_option ∷ []) h.holds.reads option_reads)
  where
    first : (cs : List Command) → map stated cs ≡ set_no_option ∷ [] → ⊥
    first [] e = cc
    first (c ∷ cs) e = no_option c cc

-- ---- all samples

pub no_scripts : NoScripts
unfolding c_part
no_scripts = record {
  operand = (
    refused_then _ (codes "(assert (t0))\n") _ _ _ t0_line refl (assert_line (codes "(t0)") (group (name (codes "t0") ∷ [])) in_brackets) refl,
    obeyed_then _ (codes "(assert t0)\n") _ _ _ _ t0_line refl (assert_line (codes "t0") (name (codes "t0")) (names_write (codes "t0") refl)) refl,
  );
  inserted = (
    refused _ _ (assert_line (codes "(set.member true (set.insert (as set.empty (Set Bool))))") (member (inserting (empty ∷ []))) (member_text _ _ alone_text)) refl,
    obeyed _ _ _ (assert_line (codes "(set.member true (set.insert true (as set.empty (Set Bool))))") (member (inserting (name (codes "true") ∷ empty ∷ []))) (member_text _ _ into_text)) refl,
  );
  constructors = (refused _ _ (datatype_line (codes "d") [] refl tt) refl, obeyed _ _ _ (datatype_line (codes "d") (c_part ∷ []) refl (c_text, tt)) refl);
  parameters = (
    refused _ _ (parameters_line (codes "X") (codes "X") (names_write (codes "X") refl) (names_write (codes "X") refl)) refl,
    obeyed _ _ _ (parameters_line (codes "X") (codes "Y") (names_write (codes "X") refl) (names_write (codes "Y") refl)) refl,
  );
  word = (
    refused _ _ (declare_const_line (codes "assert") (codes "Bool") (name (codes "Bool")) refl (names_write (codes "Bool") refl)) refl,
    obeyed _ _ _ (declare_const_line (codes "asserted") (codes "Bool") (name (codes "Bool")) refl (names_write (codes "Bool") refl)) refl,
  );
  solver = (
    refused _ _ (declare_const_line (codes "@x") (codes "Bool") (name (codes "Bool")) refl (names_write (codes "Bool") refl)) refl,
    obeyed _ _ _ (declare_const_line (codes "x@") (codes "Bool") (name (codes "Bool")) refl (names_write (codes "Bool") refl)) refl,
  );
  logic = (refused _ _ (set_logic_line (codes "par") refl) refl, obeyed _ _ _ (set_logic_line (codes "QF_BV") refl) refl);
  option = (option_is_no_command, obeyed _ _ _ (set_option_line (codes "produce-models") (codes "true") (name (codes "true")) refl (names_write (codes "true") refl)) refl);
  colon_alone = refused _ _ (set_option_line [] (codes "true") (name (codes "true")) refl (names_write (codes "true") refl)) refl;
}

pub no_commands : NoCommands
no_commands = record { heads = refl; records = refl; insertions = refl; datatypes = refl; count = (refl, refl); words = refl; solvers = refl; others = refl; logics = refl; options = refl; option_values = refl }

-- ---- whole texts

no_line_feed : (front : List ℕ) → codes "(a)" ≡ front ++ 10 ∷ [] → ⊥
no_line_feed [] e = cc
no_line_feed (a ∷ []) e = cc
no_line_feed (a ∷ b ∷ []) e = cc
no_line_feed (a ∷ b ∷ c ∷ front) e = no_more front cc
  where
    no_more : (front : List ℕ) → [] ≡ front ++ 10 ∷ [] → ⊥
    no_more [] e = cc
    no_more (a ∷ front) e = cc

-- no expressions have an opening bracket alone
not_open : (es : List Expression) → Begin ∷ [] ≡ flat_map brackets es → ⊥
not_open [] e = cc
not_open (Leaf a ∷ es) e = cc
not_open (Node fs ∷ es) e = closes (inside fs) cc
  where
    closes : (ts : List Token) → [] ≡ (ts ++ End ∷ []) ++ flat_map brackets es → ⊥
    closes [] e = cc
    closes (t ∷ ts) e = cc

pub whole_texts : WholeTexts
unfolding is_utf8 chars encode_utf8
whole_texts = record {
  lines = record {
    expressions_in = group (name (codes "a") ∷ Leaf (Text (codes "b")) ∷ []) ∷ [];
    reads = record { pieces = Comment (codes " x") ∷ Space 10 ∷ Open ∷ Symbol (codes "a") ∷ Space 32 ∷ Quoted (codes "b") ∷ Close ∷ Space 10 ∷ []; cut = record { spelled = refl; longest = refl }; tokens_are = refl };
    lines = (codes "; x\n(a \"b\")", refl);
  };
  nothing = record { expressions_in = []; reads = record { pieces = []; cut = record { spelled = refl; longest = refl }; tokens_are = refl }; lines = tt };
  cut_short = λ h. no_line_feed h.lines.0 h.lines.1;
  unclosed = λ h. not_open h.expressions_in
      (ap tokens (one_cut (Open ∷ Space 10 ∷ []) h.reads.pieces refl h.reads.cut.longest h.reads.cut.spelled) ∙ h.reads.tokens_are);
}
