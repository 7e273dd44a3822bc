-- What is a script, and what is none.
use Rattle.std.proofs.Common.{◌≡◌, ℕ, eqb, cond, Bool, true, false, List, [], ◌∷◌, ◌++◌, refl, sym, ap, ap₂, ◌∙◌, subst, Option, Some, None, inl, inr}
use Rattle.std.specs.Prelude.{codes, IsTrue, bytes_eq, unwrap_or}
use Rattle.std.proofs.lemmas.Bool.{cases_Bool, cond-true, cond-false, false≢true, eqb-true}
use Rattle.std.proofs.lemmas.Slice.Eq.{bytes_eq-Decides}
use Rattle.std.proofs.lemmas.List.Elements.{All-from_recursion, recursion_from_All}
use Rattle.std.specs.Str.{is_utf8, chars}
use Rattle.std.specs.Char.{encode_utf8}
use Rattle.law_scripts.specs.ScriptValues.{ScriptValue, TruthOf, ConstructorOf, ScriptValues, no_script_values, one_script_value}
use Rattle.law_texts.specs.Lexicon.{Piece, Space, Open, Close, Quoted, Numeral, Symbol, Text}
use Rattle.law_texts.specs.Reading.{Expression, Leaf}
use Rattle.law_scripts.specs.Script.{Entry, Constant, Defined, Builds, Selects, State, Script, Holds, Command, DeclareDatatype, DeclareConst, DefineFun, Assert, Push, Pop, start, run, name, group, names_of, assertions_of, look_up}
use Rattle.law_scripts.specs.Sorts.{bool_sort, string_sort, same_sort, has_sort_in, have_sorts_in, constructor_fields, entries}
use Rattle.law_scripts.specs.ScriptOrder.{same}
use Rattle.law_scripts.specs.Value.{ScriptInterpretation, IsScriptInterpretation, IsModel, expression_value, is_entry_given, is_selector_given, applied_selectors}
use Rattle.law_scripts.specs.Written.{is_name, option_lines, option_command, IsLine, ReadsAs}
use Rattle.law_scripts.specs.CommandLines.{AreSorted, SortedScript}
use Rattle.law_scripts.specs.Rows.{SampleIsScript, EnumSampleIsScript, RecordSampleIsScript, LevelSampleIsScript, SortedSamples, gone_sample, body_sample, UseBeforeDeclarationIsNone, TwiceDeclaredIsNone, BuiltInDeclaredIsNone, EscapesDecode, OperatorsGive, SelectorsSampled}
use Rattle.law_scripts.proofs.Commands.{one_list_of_commands}
use Rattle.law_scripts.proofs.Lines.{lines_add, comments_add, names_write, comments_are_lines}
use Rattle.law_scripts.proofs.First.{declare_const_line, define_fun_line, assert_line, applied_text, option_is_line}
use Rattle.law_scripts.proofs.Going.{goes, comment_goes, begins}
use Rattle.law_scripts.proofs.Laid.{groups_write, selectors_write, datatype_line, plain_lines}
use Rattle.law_scripts.proofs.Ranks.{same_is_equal}

nothing : Script [] start
nothing = record { commands = []; holds = record { reads = record { pieces = []; cut = record { spelled = refl; longest = refl }; tokens_are = refl }; plain = refl }; runs = refl }

t0 : List ℕ
t0 = codes "t0"

const_line : IsLine (codes "(declare-const t0 Bool)\n") (DeclareConst (codes "t0") (name (codes "Bool")) ∷ [])
const_line = declare_const_line (codes "t0") (codes "Bool") (name (codes "Bool")) refl (names_write (codes "Bool") refl)

pub use_before_declaration : UseBeforeDeclarationIsNone
use_before_declaration s h = none_is s ((lines_add [] (codes "(assert t0)\n") (Assert (name (codes "t0"))) start s tt nothing (assert_line (codes "t0") (name (codes "t0")) (names_write (codes "t0") refl))).1 h)
  where
    none_is : (t : State) → None ≡ Some t → ⊥
    none_is t e = cc

after_one : State
after_one = record { last = record { sorts = []; names = (codes "t0", Constant (name (codes "Bool"))) ∷ []; assertions = [] }; below = []; ended = false }

pub twice_declared : TwiceDeclaredIsNone
unfolding after_one
twice_declared s h =
    let one = (lines_add [] (codes "(declare-const t0 Bool)\n") (DeclareConst (codes "t0") (name (codes "Bool"))) start after_one tt nothing const_line).0 refl in
    none_is s ((lines_add (codes "(declare-const t0 Bool)\n") (codes "(declare-const t0 Bool)\n") (DeclareConst (codes "t0") (name (codes "Bool"))) after_one s one.1 one.0 const_line).1 h)
  where
    none_is : (t : State) → None ≡ Some t → ⊥
    none_is t e = cc

pub escapes_decode : EscapesDecode
unfolding is_utf8 chars encode_utf8
escapes_decode = (refl, refl, record { spaces = refl; digits = refl; hexadecimal = refl; symbols = refl; utf8 = refl; no_pieces = refl; spelled = refl; longest = refl; cut_short = refl; tokens_of = refl; last_escape = refl; in_scripts = refl; in_no_script = refl })

last_state : State
last_state = record {
  last = record {
    sorts = (codes "Option", 1) ∷ [];
    names = (codes "t1", Defined (name (codes "Bool")) (group (name (codes "not") ∷ name (codes "t0") ∷ []))) ∷ (codes "t0", Constant (name (codes "Bool")))
        ∷ (codes "val", Selects (codes "Option") (codes "X" ∷ []) (codes "some") 0 (name (codes "X"))) ∷ (codes "some", Builds (codes "Option") (codes "X" ∷ []) 1 (name (codes "X") ∷ [])) ∷ (codes "none", Builds (codes "Option") (codes "X" ∷ []) 0 []) ∷ [];
    assertions = name (codes "t1") ∷ [];
  };
  below = [];
  ended = false;
}

pub sample_is_script : SampleIsScript
unfolding last_state
sample_is_script =
    let a = (lines_add [] option_lines option_command start _ tt nothing option_is_line).0 refl in
    let b = comments_add option_lines (codes "; \"b\"\n") _ a.1 a.0 (comments_are_lines (codes " \"b\"") refl) in
    let c = (lines_add (option_lines ++ codes "; \"b\"\n") (codes "(declare-const t0 Bool)\n") (DeclareConst (codes "t0") (name (codes "Bool"))) _ _ b.1 b.0 const_line).0 refl in
    let d = (lines_add ((option_lines ++ codes "; \"b\"\n") ++ codes "(declare-const t0 Bool)\n") (codes "(define-fun t1 () Bool (not t0))\n") (DefineFun (codes "t1") (name (codes "Bool")) (group (name (codes "not") ∷ name (codes "t0") ∷ []))) _ _ c.1 c.0
    (define_fun_line (codes "t1") (codes "Bool") (codes "(not t0)") (name (codes "Bool")) (group (name (codes "not") ∷ name (codes "t0") ∷ [])) refl (names_write (codes "Bool") refl) (applied_text (codes "not") (codes "t0") (name (codes "t0")) refl (names_write (codes "t0") refl)))).0 refl in
    let e = (lines_add _ (codes "(assert t1)\n") (Assert (name (codes "t1"))) _ _ d.1 d.0 (assert_line (codes "t1") (name (codes "t1")) (names_write (codes "t1") refl))).0 refl in
    (last_state, e.0, refl, λ j h. All-from_recursion (λ x. expression_value j last_state x ≡ Some (TruthOf true)) last_state.last.assertions (rw h refl, tt), λ j h. rw h refl)

-- ---- more samples

none_is : (t : State) → None ≡ Some t → ⊥
none_is t e = cc

named : (n : List ℕ) → IsTrue (is_name n) → ReadsAs n (name n)
named n h = names_write n h

equation : (a b : List ℕ) → IsTrue (is_name a) → IsTrue (is_name b) → ReadsAs (codes "(" ++ (codes "=" ++ (codes " " ++ (a ++ (codes " " ++ (b ++ codes ")")))))) (group (name (codes "=") ∷ name a ∷ name b ∷ []))
equation a b h k = groups_write (codes "=") (name (codes "=")) (record { text = a; expr = name a } ∷ record { text = b; expr = name b } ∷ []) [] (names_write (codes "=") refl) (names_write a h, (names_write b k, tt)) refl

enum_line : IsLine (codes "(declare-datatype E0 (\n  (E0_m0)\n  (E0_m1)))\n") (DeclareDatatype (codes "E0") [] (record { name = codes "E0_m0"; selectors = [] } ∷ record { name = codes "E0_m1"; selectors = [] } ∷ []) ∷ [])
enum_line = datatype_line (codes "E0") (record { text = codes "(E0_m0)"; built = record { name = codes "E0_m0"; selectors = [] } } ∷ record { text = codes "(E0_m1)"; built = record { name = codes "E0_m1"; selectors = [] } } ∷ []) refl
    (selectors_write (record { name = codes "E0_m0"; selectors = [] }) [] [] refl tt refl refl, (selectors_write (record { name = codes "E0_m1"; selectors = [] }) [] [] refl tt refl refl, tt))

abbrev option_names : List (List ℕ × Entry)
option_names = (codes "val", Selects (codes "Option") (codes "X" ∷ []) (codes "some") 0 (name (codes "X"))) ∷ (codes "some", Builds (codes "Option") (codes "X" ∷ []) 1 (name (codes "X") ∷ [])) ∷ (codes "none", Builds (codes "Option") (codes "X" ∷ []) 0 []) ∷ []

truth_is : (b : Bool) → Some (TruthOf b) ≡ Some (TruthOf true) → b ≡ true
truth_is b h = cc

abbrev equal : List ℕ → List ℕ → Expression
equal a b = group (name (codes "=") ∷ name a ∷ name b ∷ [])

enum_state : State
enum_state = record {
  last = record {
    sorts = (codes "E0", 0) ∷ (codes "Option", 1) ∷ [];
    names = (codes "t2", Defined (name (codes "Bool")) (equal (codes "t0") (codes "E0_m1"))) ∷ (codes "t0", Constant (name (codes "E0"))) ∷ (codes "E0_m1", Builds (codes "E0") [] 1 []) ∷ (codes "E0_m0", Builds (codes "E0") [] 0 []) ∷ option_names;
    assertions = name (codes "t2") ∷ [];
  };
  below = [];
  ended = false;
}

second : ScriptValue
second = ConstructorOf 1 (codes "E0_m1") no_script_values

pub enum_sample_is_script : EnumSampleIsScript
unfolding enum_state second
enum_sample_is_script =
    let a = goes [] option_lines option_command start _ begins option_is_line refl tt in
    let b = comment_goes _ (codes " Color::[a, b]") _ a refl in
    let c = goes _ (codes "(declare-datatype E0 (\n  (E0_m0)\n  (E0_m1)))\n") _ _ _ b enum_line refl tt in
    let d = comment_goes _ (codes " \"c\"") _ c refl in
    let e = goes _ (codes "(declare-const t0 E0)\n") _ _ _ d (declare_const_line (codes "t0") (codes "E0") (name (codes "E0")) refl (names_write (codes "E0") refl)) refl tt in
    let f = goes _ (codes "(define-fun t2 () Bool (= t0 E0_m1))\n") _ _ _ e (define_fun_line (codes "t2") (codes "Bool") (codes "(= t0 E0_m1)") (name (codes "Bool")) _ refl (names_write (codes "Bool") refl) (equation (codes "t0") (codes "E0_m1") refl refl)) refl refl in
    let g = goes _ (codes "(assert t2)\n") _ _ _ f (assert_line (codes "t2") (name (codes "t2")) (names_write (codes "t2") refl)) refl refl in
    (enum_state, g.sorted, refl, λ j h. only j h, λ j h. (interprets j h, All-from_recursion (λ x. expression_value j enum_state x ≡ Some (TruthOf true)) (assertions_of enum_state) (rw h refl, tt)))
  where
    only : (j : ScriptInterpretation) → IsModel j enum_state → j.constants (codes "t0") ≡ second
    only j h = (same_is_equal (j.constants (codes "t0")) second).0 (truth_is (same (j.constants (codes "t0")) second) (recursion_from_All (λ x. expression_value j enum_state x ≡ Some (TruthOf true)) (assertions_of enum_state) h).0)

    interprets : (j : ScriptInterpretation) → j.constants (codes "t0") ≡ second → IsScriptInterpretation j enum_state
    interprets j h = record {
      declared = All-from_recursion (λ p. IsTrue (is_entry_given j (entries enum_state) p.0 p.1)) (names_of enum_state) (refl, (rw h refl, (refl, (refl, (refl, (refl, (refl, tt)))))));
      selected = All-from_recursion (λ p. IsTrue (is_selector_given j (entries enum_state) p.selector p.sort p.entry)) (applied_selectors enum_state) tt;
    }

record_line : IsLine (codes "(declare-datatype R0 (\n  (R0 )))\n") (DeclareDatatype (codes "R0") [] (record { name = codes "R0"; selectors = [] } ∷ []) ∷ [])
record_line = datatype_line (codes "R0") (record { text = codes "(R0 )"; built = record { name = codes "R0"; selectors = [] } } ∷ []) refl (selectors_write (record { name = codes "R0"; selectors = [] }) [] (codes " ") refl tt refl refl, tt)

record_state : State
record_state = record {
  last = record {
    sorts = (codes "R0", 0) ∷ (codes "Option", 1) ∷ [];
    names = (codes "t2", Defined (name (codes "Bool")) (equal (codes "t0") (codes "t1"))) ∷ (codes "t1", Defined (name (codes "R0")) (name (codes "R0"))) ∷ (codes "t0", Constant (name (codes "R0"))) ∷ (codes "R0", Builds (codes "R0") [] 0 []) ∷ option_names;
    assertions = name (codes "t2") ∷ [];
  };
  below = [];
  ended = false;
}

the_record : ScriptValue
the_record = ConstructorOf 0 (codes "R0") no_script_values

-- what every name that a list has fulfils
abbrev Each : (List ℕ → Entry → Type 0) → List (List ℕ × Entry) → Type 0
Each P [] = Unit {0}
Each P (d ∷ ds) = P d.0 d.1 × Each P ds

found : (P : List ℕ → Entry → Type 0) (ds : List (List ℕ × Entry)) → Each P ds → (n : List ℕ) (x : Entry) → look_up n ds ≡ Some x → P n x
found P [] h n x e = absurd cc
found P (d ∷ ds) h n x e = elim (cases_Bool (bytes_eq n d.0)) [
  | inl t ↦ (let y : d.1 ≡ x = some_entry d.1 x (sym (cond-true (bytes_eq n d.0) (Some d.1) (look_up n ds) t) ∙ e) in subst (λ (m : List ℕ). P m x) (sym ((bytes_eq-Decides n d.0).0 t)) (subst (λ (z : Entry). P d.0 z) y h.0))
  | inr f ↦ found P ds h.1 n x (sym (cond-false (bytes_eq n d.0) (Some d.1) (look_up n ds) f) ∙ e)
]
  where
    some_entry : (a b : Entry) → Some a ≡ Some b → a ≡ b
    some_entry a b h = cc

-- a value of the empty record's sort
abbrev IsRecordBuilder : List ℕ → Entry → Type 0
IsRecordBuilder n x = (place : ℕ) (vs : ScriptValues) → (elim (constructor_fields (Some x) place (name (codes "R0"))) [ Some fields ↦ have_sorts_in (entries record_state) fields vs | None ↦ false ]) ≡ true → ConstructorOf place n vs ≡ the_record

one_record : (v : ScriptValue) → has_sort_in (entries record_state) (name (codes "R0")) v ≡ true → v ≡ the_record
unfolding record_state the_record
one_record (ConstructorOf place c vs) h = built (entries record_state c) refl h
  where
    vacuous : (f : List ℕ) (e : Entry) → ((p : ℕ) → constructor_fields (Some e) p (name (codes "R0")) ≡ None) → IsRecordBuilder f e
    vacuous f e none p ws k = absurd (false≢true (subst (λ (o : Option (List Expression)). (elim o [ Some fields ↦ have_sorts_in (entries record_state) fields ws | None ↦ false ]) ≡ true) (none p) k))

    no_fields : (ws : ScriptValues) → have_sorts_in (entries record_state) [] ws ≡ true → ws ≡ no_script_values
    no_fields no_script_values k = refl
    no_fields (one_script_value w ws) k = absurd (false≢true k)

    the_builder : IsRecordBuilder (codes "R0") (Builds (codes "R0") [] 0 [])
    the_builder p ws k = elim (cases_Bool (eqb 0 p)) [
      | inl e ↦ ap₂ (λ (q : ℕ) (us : ScriptValues). ConstructorOf q (codes "R0") us) (sym (eqb-true 0 p e)) (no_fields ws (subst (λ (o : Option (List Expression)). (elim o [ Some fields ↦ have_sorts_in (entries record_state) fields ws | None ↦ false ]) ≡ true) (cond-true (eqb 0 p) (Some []) None e) k))
      | inr e ↦ absurd (false≢true (subst (λ (o : Option (List Expression)). (elim o [ Some fields ↦ have_sorts_in (entries record_state) fields ws | None ↦ false ]) ≡ true) (cond-false (eqb 0 p) (Some []) None e) k))
    ]

    neither : (b : Bool) → cond {A = Option (List Expression)} b None None ≡ None
    neither true = refl
    neither false = refl

    all : Each IsRecordBuilder (names_of record_state)
    all = (
      vacuous (codes "t2") (Defined (name (codes "Bool")) (equal (codes "t0") (codes "t1"))) (λ p. refl),
      (
        vacuous (codes "t1") (Defined (name (codes "R0")) (name (codes "R0"))) (λ p. refl),
        (
          vacuous (codes "t0") (Constant (name (codes "R0"))) (λ p. refl),
          (
            the_builder,
            (
              vacuous (codes "val") (Selects (codes "Option") (codes "X" ∷ []) (codes "some") 0 (name (codes "X"))) (λ p. refl),
              (
                vacuous (codes "some") (Builds (codes "Option") (codes "X" ∷ []) 1 (name (codes "X") ∷ [])) (λ p. neither (eqb 1 p)),
                (vacuous (codes "none") (Builds (codes "Option") (codes "X" ∷ []) 0 []) (λ p. neither (eqb 0 p)), tt),
              ),
            ),
          ),
        ),
      ),
    )

    built : (o : Option Entry) → entries record_state c ≡ o → (elim (constructor_fields o place (name (codes "R0"))) [ Some fields ↦ have_sorts_in (entries record_state) fields vs | None ↦ false ]) ≡ true → ConstructorOf place c vs ≡ the_record
    built None e k = absurd (false≢true k)
    built (Some x) e k = found IsRecordBuilder (names_of record_state) all c x e place vs k
one_record v h = absurd (false≢true h)

pub record_sample_is_script : RecordSampleIsScript
unfolding record_state the_record
record_sample_is_script =
    let a = goes [] option_lines option_command start _ begins option_is_line refl tt in
    let b = comment_goes _ (codes " {}") _ a refl in
    let c = goes _ (codes "(declare-datatype R0 (\n  (R0 )))\n") _ _ _ b record_line refl tt in
    let d = comment_goes _ (codes " \"r\"") _ c refl in
    let e = goes _ (codes "(declare-const t0 R0)\n") _ _ _ d (declare_const_line (codes "t0") (codes "R0") (name (codes "R0")) refl (names_write (codes "R0") refl)) refl tt in
    let f = goes _ (codes "(define-fun t1 () R0 R0)\n") _ _ _ e (define_fun_line (codes "t1") (codes "R0") (codes "R0") (name (codes "R0")) _ refl (names_write (codes "R0") refl) (names_write (codes "R0") refl)) refl refl in
    let g = goes _ (codes "(define-fun t2 () Bool (= t0 t1))\n") _ _ _ f (define_fun_line (codes "t2") (codes "Bool") (codes "(= t0 t1)") (name (codes "Bool")) _ refl (names_write (codes "Bool") refl) (equation (codes "t0") (codes "t1") refl refl)) refl refl in
    let i = goes _ (codes "(assert t2)\n") _ _ _ g (assert_line (codes "t2") (name (codes "t2")) (names_write (codes "t2") refl)) refl refl in
    (record_state, i.sorted, refl, λ j h. interprets j h, λ j h. every j h)
  where
    interprets : (j : ScriptInterpretation) → j.constants (codes "t0") ≡ the_record → IsScriptInterpretation j record_state
    interprets j h = record {
      declared = All-from_recursion (λ p. IsTrue (is_entry_given j (entries record_state) p.0 p.1)) (names_of record_state) (refl, (refl, (rw h refl, (refl, (refl, (refl, (refl, tt)))))));
      selected = All-from_recursion (λ p. IsTrue (is_selector_given j (entries record_state) p.selector p.sort p.entry)) (applied_selectors record_state) tt;
    }

    every : (j : ScriptInterpretation) → IsScriptInterpretation j record_state → (j.constants (codes "t0") ≡ the_record) × IsModel j record_state
    every j h =
        let v = one_record (j.constants (codes "t0")) (recursion_from_All (λ p. IsTrue (is_entry_given j (entries record_state) p.0 p.1)) (names_of record_state) h.declared).1.1.0 in
        (v, All-from_recursion (λ x. expression_value j record_state x ≡ Some (TruthOf true)) (assertions_of record_state) (rw v refl, tt))

level_state : State
level_state = record {
  last = record {
    sorts = (codes "Option", 1) ∷ [];
    names = (codes "t1", Constant (name (codes "Bool"))) ∷ (codes "t0", Constant (name (codes "Bool"))) ∷ option_names;
    assertions = name (codes "t0") ∷ name (codes "t1") ∷ [];
  };
  below = [];
  ended = false;
}

pub level_sample_is_script : LevelSampleIsScript
unfolding level_state
level_sample_is_script =
    let a = goes [] option_lines option_command start _ begins option_is_line refl tt in
    let b = comment_goes _ (codes " \"b\"") _ a refl in
    let c = goes _ (codes "(declare-const t0 Bool)\n") _ _ _ b (declare_const_line (codes "t0") (codes "Bool") (name (codes "Bool")) refl (names_write (codes "Bool") refl)) refl tt in
    let d = goes _ (codes "(assert t0)\n") _ _ _ c (assert_line (codes "t0") (name (codes "t0")) (names_write (codes "t0") refl)) refl refl in
    let e = goes _ (codes "(push 1)\n") _ _ _ d plain_lines.4 refl tt in
    let f = goes _ (codes "(define-fun t1 () Bool (not t0))\n") _ _ _ e (define_fun_line (codes "t1") (codes "Bool") (codes "(not t0)") (name (codes "Bool")) _ refl (names_write (codes "Bool") refl) (applied_text (codes "not") (codes "t0") (name (codes "t0")) refl (names_write (codes "t0") refl))) refl refl in
    let g = goes _ (codes "(assert t1)\n") _ _ _ f (assert_line (codes "t1") (name (codes "t1")) (names_write (codes "t1") refl)) refl refl in
    let h = goes _ (codes "(pop 1)\n") _ _ _ g plain_lines.5 refl tt in
    let i = comment_goes _ (codes " \"c\"") _ h refl in
    let k = goes _ (codes "(declare-const t1 Bool)\n") _ _ _ i (declare_const_line (codes "t1") (codes "Bool") (name (codes "Bool")) refl (names_write (codes "Bool") refl)) refl tt in
    let l = goes _ (codes "(assert t1)\n") _ _ _ k (assert_line (codes "t1") (name (codes "t1")) (names_write (codes "t1") refl)) refl refl in
    (level_state, l.sorted, refl, λ t p. none_is t ((lines_add _ (codes "(pop 1)\n") Pop level_state t l.whole l.sorted.script plain_lines.5).1 p))

abbrev gone_pieces : List ℕ → List Piece
gone_pieces sort =
    Open ∷ Symbol (codes "push") ∷ Space 32 ∷ Numeral (codes "1") ∷ Close ∷ Space 10
    ∷ Open ∷ Symbol (codes "declare-const") ∷ Space 32 ∷ Symbol (codes "t0") ∷ Space 32 ∷ Symbol sort ∷ Close ∷ Space 10
    ∷ Open ∷ Symbol (codes "assert") ∷ Space 32 ∷ Symbol (codes "t0") ∷ Close ∷ Space 10
    ∷ Open ∷ Symbol (codes "pop") ∷ Space 32 ∷ Numeral (codes "1") ∷ Close ∷ Space 10 ∷ []

abbrev gone_commands : List ℕ → List Command
gone_commands sort = Push ∷ DeclareConst (codes "t0") (name sort) ∷ Assert (name (codes "t0")) ∷ Pop ∷ []

truths_hold : Holds (gone_sample (codes "Bool")) (gone_commands (codes "Bool"))
unfolding is_utf8 chars encode_utf8
truths_hold = record { reads = record { pieces = gone_pieces (codes "Bool"); cut = record { spelled = refl; longest = refl }; tokens_are = refl }; plain = refl }

texts_hold : Holds (gone_sample (codes "String")) (gone_commands (codes "String"))
unfolding is_utf8 chars encode_utf8
texts_hold = record { reads = record { pieces = gone_pieces (codes "String"); cut = record { spelled = refl; longest = refl }; tokens_are = refl }; plain = refl }

abbrev body_command : Command
body_command = DefineFun (codes "t0") bool_sort (Leaf (Text []))

body_holds : Holds body_sample (body_command ∷ [])
unfolding is_utf8 chars encode_utf8
body_holds = record {
  reads = record {
    pieces = Open ∷ Symbol (codes "define-fun") ∷ Space 32 ∷ Symbol (codes "t0") ∷ Space 32 ∷ Open ∷ Close ∷ Space 32 ∷ Symbol (codes "Bool") ∷ Space 32 ∷ Quoted [] ∷ Close ∷ Space 10 ∷ [];
    cut = record { spelled = refl; longest = refl };
    tokens_are = refl;
  };
  plain = refl;
}

pub sorted_samples : SortedSamples
sorted_samples = record {
  sorted = record { script = record { commands = gone_commands (codes "Bool"); holds = truths_hold; runs = refl }; sorted = (tt, (tt, (refl, (tt, tt)))) };
  ill_sorted = (
    record { commands = gone_commands (codes "String"); holds = texts_hold; runs = refl },
    λ s h. text_is_truth (are_sorted (gone_sample (codes "String")) (gone_commands (codes "String")) s texts_hold h).1.1.0,
  );
  body = (_, (record { commands = body_command ∷ []; holds = body_holds; runs = refl }, λ s h. text_is_truth (are_sorted body_sample (body_command ∷ []) s body_holds h).0));
}
  where
    -- a text has one list of commands
    are_sorted : (text : List ℕ) (cs : List Command) (s : State) → Holds text cs → SortedScript text s → AreSorted cs start
    are_sorted text cs s p h = subst (λ (ds : List Command). AreSorted ds start) (one_list_of_commands text h.script.commands cs h.script.holds p) h.sorted

    text_is_truth : Some string_sort ≡ Some bool_sort → ⊥
    text_is_truth e = false≢true (ap (λ (o : Option Expression). elim o [ Some sort ↦ same_sort sort bool_sort | None ↦ false ]) e)

asserted : (s : State) → run (Assert (name (codes "true")) ∷ Push ∷ Assert (name (codes "false")) ∷ Push ∷ Assert (name (codes "true")) ∷ []) start ≡ Some s
    → assertions_of s ≡ name (codes "true") ∷ name (codes "false") ∷ name (codes "true") ∷ []
asserted s h = subst (λ (o : Option State). assertions_of (unwrap_or o start) ≡ name (codes "true") ∷ name (codes "false") ∷ name (codes "true") ∷ []) h refl

pub built_in_declared : BuiltInDeclaredIsNone
built_in_declared = (
  λ s h. none_is s ((lines_add [] (codes "(declare-const bvadd Bool)\n") _ start s tt nothing (declare_const_line (codes "bvadd") (codes "Bool") (name (codes "Bool")) refl (names_write (codes "Bool") refl))).1 h),
  λ s h. none_is s ((lines_add [] (codes "(declare-datatype String (\n  (a)))\n") _ start s tt nothing
      (datatype_line (codes "String") (record { text = codes "(a)"; built = record { name = codes "a"; selectors = [] } } ∷ []) refl (selectors_write (record { name = codes "a"; selectors = [] }) [] [] refl tt refl refl, tt))).1 h),
  record { obeyed = refl; twice = refl; absent = refl; reserved = refl; built_in = refl; built_in_sort = refl; widths = refl; exit = refl; reset = refl; asserted = λ s h. asserted s h },
)

pub operators_give : OperatorsGive
operators_give = (refl, refl, refl, refl, refl, refl, refl, refl, refl, refl, refl, refl, refl, refl, refl, refl, refl, refl, refl, refl, refl, refl, refl, refl, refl, refl, refl, refl, refl, refl, refl, refl, refl, refl, record { negated = refl; both = refl; either = refl; equal = refl; chosen = refl; equal_bits = refl; signed_bits = refl; members = refl; subsets = refl; common = refl; nothing = refl; looked_up = refl }, record { sorted = refl; ill_sorted = refl; of_bits = refl; of_text = refl; of_set = refl; of_datatype = refl; of_no_datatype = refl; tables = refl; no_default = refl; others = refl })

pub selectors_sampled : SelectorsSampled
selectors_sampled = (_, refl, (tt, (tt, (tt, (refl, (refl, (refl, (refl, (refl, tt)))))))), refl, refl, λ j a h. (rw h refl, rw h refl, rw h refl), λ j a h. rw h refl, λ j a h. (rw h refl, rw h refl))
