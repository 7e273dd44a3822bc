-- Samples of selectors.
use Rattle.std.proofs.Common.{◌≡◌, ℕ, true, false, List, [], ◌∷◌, refl, Some}
use Rattle.std.specs.Prelude.{codes, IsTrue}
use Rattle.std.proofs.lemmas.List.Elements.{All-from_recursion}
use Rattle.law_texts.specs.Lexicon.{Text}
use Rattle.law_texts.specs.Reading.{Expression, Leaf}
use Rattle.law_scripts.specs.ScriptValues.{TruthOf}
use Rattle.law_scripts.specs.Script.{Constructor, constructor, Constant, Builds, Selects, State, DeclareDatatype, DeclareConst, start, name, group, names_of, assertions_of}
use Rattle.law_scripts.specs.Sorts.{entries}
use Rattle.law_scripts.specs.Value.{ScriptInterpretation, IsScriptInterpretation, IsModel, expression_value, is_entry_given, is_selector_given, applied_selectors}
use Rattle.law_scripts.specs.Written.{IsLine, ReadsAs}
use Rattle.law_scripts.specs.SelectorRows.{PairSampleIsScript, EitherIsClosed, OpenSelectorRows, the_pair}
use Rattle.law_scripts.proofs.Lines.{names_write, strings_write, commands_are_lines}
use Rattle.law_scripts.proofs.First.{declare_const_line, assert_line, applied_text}
use Rattle.law_scripts.proofs.Going.{part, goes, begins}
use Rattle.law_scripts.proofs.Laid.{groups_write, selectors_write}

abbrev pair_constructor : Constructor
pair_constructor = record { name = codes "pair"; selectors = (codes "first", name (codes "X")) ∷ (codes "second", name (codes "Y")) ∷ [] }

abbrev pair_of : List Expression → Expression
pair_of es = group (name (codes "Pair") ∷ es)

pair_line : IsLine (codes "(declare-datatype Pair (par (X Y) ((pair (first X) (second Y)))))\n") (DeclareDatatype (codes "Pair") (codes "X" ∷ codes "Y" ∷ []) (pair_constructor ∷ []) ∷ [])
pair_line = commands_are_lines (codes "(declare-datatype Pair (par (X Y) ((pair (first X) (second Y)))))") (DeclareDatatype (codes "Pair") (codes "X" ∷ codes "Y" ∷ []) (pair_constructor ∷ []))
    (groups_write (codes "declare-datatype") (name (codes "declare-datatype")) (part (codes "Pair") (name (codes "Pair")) ∷ part (codes "(par (X Y) ((pair (first X) (second Y))))") par_expression ∷ []) []
    (names_write (codes "declare-datatype") refl) (names_write (codes "Pair") refl, (par, tt)) refl)
  where
    parameters : Expression
    parameters = group (name (codes "X") ∷ name (codes "Y") ∷ [])

    par_expression : Expression
    par_expression = group (name (codes "par") ∷ parameters ∷ group (constructor pair_constructor ∷ []) ∷ [])

    written : ReadsAs (codes "(pair (first X) (second Y))") (constructor pair_constructor)
    written = selectors_write pair_constructor (part (codes "(first X)") (group (name (codes "first") ∷ name (codes "X") ∷ [])) ∷ part (codes "(second Y)") (group (name (codes "second") ∷ name (codes "Y") ∷ [])) ∷ []) [] refl
        (applied_text (codes "first") (codes "X") (name (codes "X")) refl (names_write (codes "X") refl), (applied_text (codes "second") (codes "Y") (name (codes "Y")) refl (names_write (codes "Y") refl), tt)) refl refl

    par : ReadsAs (codes "(par (X Y) ((pair (first X) (second Y))))") par_expression
    par = groups_write (codes "par") (name (codes "par")) (part (codes "(X Y)") parameters ∷ part (codes "((pair (first X) (second Y)))") (group (constructor pair_constructor ∷ [])) ∷ []) [] (names_write (codes "par") refl) (
      groups_write (codes "X") (name (codes "X")) (part (codes "Y") (name (codes "Y")) ∷ []) [] (names_write (codes "X") refl) (names_write (codes "Y") refl, tt) refl,
      (groups_write (codes "(pair (first X) (second Y))") (constructor pair_constructor) [] [] written tt refl, tt),
    ) refl

abbrev sort : Expression
sort = pair_of (name (codes "Bool") ∷ name (codes "String") ∷ [])

constant_line : IsLine (codes "(declare-const t0 (Pair Bool String))\n") (DeclareConst (codes "t0") sort ∷ [])
constant_line = declare_const_line (codes "t0") (codes "(Pair Bool String)") sort refl
    (groups_write (codes "Pair") (name (codes "Pair")) (part (codes "Bool") (name (codes "Bool")) ∷ part (codes "String") (name (codes "String")) ∷ []) [] (names_write (codes "Pair") refl) (names_write (codes "Bool") refl, (names_write (codes "String") refl, tt)) refl)

abbrev of_pair : List ℕ → Expression
of_pair f = group (name f ∷ name (codes "t0") ∷ [])

abbrev first_is : Expression
first_is = of_pair (codes "first")

abbrev second_is : Expression
second_is = group (name (codes "=") ∷ of_pair (codes "second") ∷ Leaf (Text (codes "a")) ∷ [])

second_text : ReadsAs (codes "(= (second t0) \"a\")") second_is
second_text = groups_write (codes "=") (name (codes "=")) (part (codes "(second t0)") (of_pair (codes "second")) ∷ part (codes "\"a\"") (Leaf (Text (codes "a"))) ∷ []) [] (names_write (codes "=") refl)
    (applied_text (codes "second") (codes "t0") (name (codes "t0")) refl (names_write (codes "t0") refl), (strings_write (codes "a") refl, tt)) refl

pair_state : State
pair_state = record {
  last = record {
    sorts = (codes "Pair", 2) ∷ [];
    names = (codes "t0", Constant sort) ∷ (codes "second", Selects (codes "Pair") (codes "X" ∷ codes "Y" ∷ []) (codes "pair") 1 (name (codes "Y")))
        ∷ (codes "first", Selects (codes "Pair") (codes "X" ∷ codes "Y" ∷ []) (codes "pair") 0 (name (codes "X")))
        ∷ (codes "pair", Builds (codes "Pair") (codes "X" ∷ codes "Y" ∷ []) 0 (name (codes "X") ∷ name (codes "Y") ∷ [])) ∷ [];
    assertions = first_is ∷ second_is ∷ [];
  };
  below = [];
  ended = false;
}

given : (j : ScriptInterpretation) → j.constants (codes "t0") ≡ the_pair → IsScriptInterpretation j pair_state × IsModel j pair_state
unfolding pair_state
given j h = (
  record {
    declared = All-from_recursion (λ p. IsTrue (is_entry_given j (entries pair_state) p.0 p.1)) (names_of pair_state) (rw h refl, (refl, (refl, (refl, tt))));
    selected = All-from_recursion (λ p. IsTrue (is_selector_given j (entries pair_state) p.selector p.sort p.entry)) (applied_selectors pair_state) tt;
  },
  All-from_recursion (λ e. expression_value j pair_state e ≡ Some (TruthOf true)) (assertions_of pair_state) (rw h refl, (rw h refl, tt)),
)

-- the pair for every constant; the other parts are for what the script has not
one_model : ScriptInterpretation
one_model = record { constants = λ n. the_pair; functions = λ n. record { pairs = []; default = the_pair }; options = λ s. the_pair; selectors = λ n. record { pairs = []; default = the_pair } }

pub pair_sample_is_script : PairSampleIsScript
unfolding pair_state one_model
pair_sample_is_script =
    let a = goes [] (codes "(declare-datatype Pair (par (X Y) ((pair (first X) (second Y)))))\n") _ start _ begins pair_line refl tt in
    let b = goes _ (codes "(declare-const t0 (Pair Bool String))\n") _ _ _ a constant_line refl tt in
    let c = goes _ (codes "(assert (first t0))\n") _ _ _ b (assert_line (codes "(first t0)") first_is (applied_text (codes "first") (codes "t0") (name (codes "t0")) refl (names_write (codes "t0") refl))) refl refl in
    let d = goes _ (codes "(assert (= (second t0) \"a\"))\n") _ _ _ c (assert_line (codes "(= (second t0) \"a\")") second_is second_text) refl refl in
    let m = given one_model refl in
    (pair_state, d.sorted, refl, λ j h. given j h, (one_model, m.0, m.1))

pub either_is_closed : EitherIsClosed
either_is_closed = (_, refl, refl, λ j h. rw h refl, λ j h. rw h refl)

pub open_selector_rows : OpenSelectorRows
open_selector_rows = record { inside = refl; ranges = refl; others = refl }
