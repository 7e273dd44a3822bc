-- What stated lines leave of a stage that fits.
use Rattle.std.proofs.Common.{◌≡◌, ℕ, suc, ◌+◌, List, [], ◌∷◌, ◌++◌, length, refl, sym, ap, ◌∙◌, subst, append_assoc, Option, Some, None, arith}
use Rattle.std.specs.List.{AllByRecursion}
use Rattle.std.specs.Option.{option_or}
use Rattle.std.proofs.lemmas.List.{append-nil}
use Rattle.law_terms.specs.Faults.{Fault, first_fault, term_fault}
use Rattle.law_terms.specs.Formed.{IsFormed}
use Rattle.law_terms.specs.Typing.{Typed}
use Rattle.law_terms.specs.Plain.{BoolType, UufOp, PlainTerm, Application, VariableTerm, terms}
use Rattle.law_terms.specs.Reached.{reached_terms}
use Rattle.law_terms.specs.TypeValues.{Enums}
use Rattle.law_texts.specs.Reading.{Expression}
use Rattle.law_scripts.specs.Script.{Entry, Constant, Function, Defined, Builds, Selects, Level, State, names_of, assertions_of, assertions_below, with_level}
use Rattle.law_lines.specs.EntryNames.{stated_type_name, stated_function_name}
use Rattle.law_lines.specs.Calls.{back_at}
use Rattle.law_lines.specs.Command.{commands}
use Rattle.law_lines.specs.Entries.{EachEntry, AreNumbered}
use Rattle.law_lines.specs.Fit.{EachLine}
use Rattle.law_lines.specs.TableGrowth.{Extends, Keeps, AreDrawn}
use Rattle.law_lines.specs.Line.{Line, Comment, DeclareDatatype, DeclareConst, DeclareFun, DefineFun, Assert, Push, Pop}
use Rattle.law_lines.specs.Lines.{encode, encode_terms}
use Rattle.law_lines.specs.NameTables.{Tables}
use Rattle.law_lines.proofs.Grow.{terms_grow, names_stay}
use Rattle.law_lines.proofs.Known.{TextsAre, each_map}
use Rattle.law_lines.proofs.Levels.{EncodeRuns, level_fits, back_fits}
use Rattle.law_lines.proofs.OfTerms.{texts_are}
use Rattle.law_lines.proofs.Stays.{texts_stay}
use Rattle.law_lines.proofs.Whole.{begun, begun_fits}
use Rattle.law_theorem.specs.Conditions.{AreConditions}
use Rattle.law_theorem.specs.Headline.{AreTexts}
use Rattle.law_theorem.specs.Fits.{VariableOrigin, FunctionOrigin, Stage, no_stage, FitsAt, NamesAreDrawn, IsNamedRightly, BelongsToAnEntry}
use Rattle.law_theorem.proofs.FineTerms.{conditions_are_fine}
use Rattle.law_theorem.proofs.EntryKeys.{Good, each}
use Rattle.law_terms.proofs.Defaults.{all-join}
use Rattle.law_theorem.proofs.Origins.{OriginOf, line_stays, lines_origins}
use Rattle.law_theorem.proofs.Reached.{T, F, Y, keys, parts_occur, terms_last, terms_new, functions_last, types_last}
use Rattle.law_theorem.proofs.Runs.{Declares, run_each}

-- ---- conditions

no_faults : (enums : Enums) (ts more : List PlainTerm) → first_fault enums ts ≡ None → first_fault enums more ≡ None → first_fault enums (ts ++ more) ≡ None
no_faults enums [] more h k = k
no_faults enums (t ∷ ts) more h k = by (term_fault enums t) h (no_faults enums ts more)
  where
    by : (o : Option Fault) → option_or o (first_fault enums ts) ≡ None → (first_fault enums ts ≡ None → first_fault enums more ≡ None → first_fault enums (ts ++ more) ≡ None) → option_or o (first_fault enums (ts ++ more)) ≡ None
    by None e again = again e k
    by (Some f) e again = absurd cc

pub conditions_join : (enums : Enums) (ts more : List PlainTerm) → AreConditions enums ts → AreConditions enums more → AreConditions enums (ts ++ more)
conditions_join enums ts more a b = record {
  are_typed = all-join (λ t. Typed t BoolType) ts more a.are_typed b.are_typed;
  are_formed = all-join IsFormed ts more a.are_formed b.are_formed;
  have_no_fault = no_faults enums ts more a.have_no_fault b.have_no_fault;
}

-- ---- texts

texts_last : (s u : Tables) → Keeps s u → (ts : List PlainTerm) (es : List Expression) → AreTexts s ts es → AreTexts u ts es
texts_last s u k [] [] h = tt
texts_last s u k [] (e ∷ es) h = absurd h
texts_last s u k (t ∷ ts) [] h = absurd h
texts_last s u k (t ∷ ts) (e ∷ es) h = (texts_stay s u t e k h.0, texts_last s u k ts es h.1)

texts_join : (s : Tables) (ts more : List PlainTerm) (es fs : List Expression) → AreTexts s ts es → AreTexts s more fs → AreTexts s (ts ++ more) (es ++ fs)
texts_join s [] more [] fs h k = k
texts_join s [] more (e ∷ es) fs h k = absurd h
texts_join s (t ∷ ts) more [] fs h k = absurd h
texts_join s (t ∷ ts) more (e ∷ es) fs h k = (h.0, texts_join s ts more es fs h.1 k)

made_texts : (s : Tables) (ts : List PlainTerm) (es : List Expression) → TextsAre s (terms ts) es → AreTexts s ts es
made_texts s [] [] h = tt
made_texts s [] (e ∷ es) h = absurd h
made_texts s (t ∷ ts) [] h = absurd h
made_texts s (t ∷ ts) (e ∷ es) h = (h.0, made_texts s ts es h.1)

-- ---- names

numbered_on : {K : Type 0} (f : K → ℕ → List ℕ) (start : ℕ) (xs ys : List (K × List ℕ)) → AreNumbered f start xs → AreNumbered f (start + length xs) ys → AreNumbered f start (xs ++ ys)
numbered_on {K} f start [] ys h k = let e : start + 0 ≡ start = omega arith in subst (λ n. AreNumbered f n ys) e k
numbered_on {K} f start (x ∷ xs) ys h k =
    let e : start + suc (length xs) ≡ suc start + length xs = omega arith in
    (h.0, numbered_on f (suc start) xs ys h.1 (subst (λ n. AreNumbered f n ys) e k))

drawn_on : (enums : Enums) (start : ℕ) (xs ys : List (PlainTerm × List ℕ)) → AreDrawn enums start xs → AreDrawn enums (start + length xs) ys → AreDrawn enums start (xs ++ ys)
drawn_on enums start [] ys h k = let e : start + 0 ≡ start = omega arith in subst (λ n. AreDrawn enums n ys) e k
drawn_on enums start (x ∷ xs) ys h k =
    let e : start + suc (length xs) ≡ suc start + length xs = omega arith in
    (h.0, drawn_on enums (suc start) xs ys h.1 (subst (λ n. AreDrawn enums n ys) e k))

from_zero : (n : ℕ) → n ≡ 0 + n
from_zero n = omega arith

names_drawn : (enums : Enums) (s : Tables) (ls : List Line) (u : Tables) → NamesAreDrawn enums s → Extends enums s ls u → EachEntry (IsNamedRightly enums u) u.terms → NamesAreDrawn enums u
names_drawn enums s ls u d g m = record {
  types = subst (AreNumbered stated_type_name 0) (sym g.types) (numbered_on stated_type_name 0 s.types g.new_types d.types (subst (λ n. AreNumbered stated_type_name n g.new_types) (from_zero (length s.types)) g.type_names));
  functions = subst (AreNumbered (λ f place. stated_function_name place) 0) (sym g.functions)
      (numbered_on (λ f place. stated_function_name place) 0 s.functions g.new_functions d.functions (subst (λ n. AreNumbered (λ f place. stated_function_name place) n g.new_functions) (from_zero (length s.functions)) g.function_names));
  terms = subst (AreDrawn enums 0) (sym g.terms) (drawn_on enums 0 s.terms g.new_terms d.terms (subst (λ n. AreDrawn enums n g.new_terms) (from_zero (length s.terms)) g.term_names));
  members = m;
}

-- ---- what is declared

commands_declare : (enums : Enums) (us : List PlainTerm) (s : Tables) (ls : List Line) → EachLine (OriginOf enums us s) ls → AllByRecursion (Declares (BelongsToAnEntry enums us s)) (commands ls)
commands_declare enums us s [] h = tt
commands_declare enums us s (Comment x ∷ ls) h = commands_declare enums us s ls h.1
commands_declare enums us s (DeclareDatatype n ps cs ∷ ls) h = (λ state. (λ u n place fields. tt, λ u n c place field. tt, λ u. tt), commands_declare enums us s ls h.1)
commands_declare enums us s (DeclareConst n sort ∷ ls) h = (λ state. h.0, commands_declare enums us s ls h.1)
commands_declare enums us s (DeclareFun n a sort ∷ ls) h = (λ state. h.0, commands_declare enums us s ls h.1)
commands_declare enums us s (DefineFun n sort body ∷ ls) h = (λ state. h.0, commands_declare enums us s ls h.1)
commands_declare enums us s (Assert e ∷ ls) h = (λ state. tt, commands_declare enums us s ls h.1)
commands_declare enums us s (Push ∷ ls) h = absurd h.0
commands_declare enums us s (Pop ∷ ls) h = absurd h.0

module _ (enums : Enums) (ts more : List PlainTerm) (s u : Tables) (k : Keeps s u) where
  abbrev now : List PlainTerm
  now = reached_terms (ts ++ more)

  variable_last : (n : List ℕ) (sort : Expression) → VariableOrigin (reached_terms ts) s n sort → VariableOrigin now u n sort
  variable_last n sort h = line_stays enums now s u k (DeclareConst n sort) (record {
    id = h.id;
    type = h.type;
    reached = terms_last ts more (VariableTerm h.id h.type) h.reached;
    named = h.named;
    has = h.has;
    sorted = h.sorted;
  })

  function_last : (n : List ℕ) (a sort : Expression) → FunctionOrigin (reached_terms ts) s n a sort → FunctionOrigin now u n a sort
  function_last n a sort h = line_stays enums now s u k (DeclareFun n a sort) (record {
    function = h.function;
    arguments = h.arguments;
    type = h.type;
    reached = terms_last ts more (Application (UufOp h.function) h.arguments h.type) h.reached;
    named = h.named;
    has = h.has;
    argument_sorted = h.argument_sorted;
    sorted = h.sorted;
  })

  entry_last : (n : List ℕ) (x : Entry) → BelongsToAnEntry enums (reached_terms ts) s n x → BelongsToAnEntry enums now u n x
  entry_last n (Constant sort) h = variable_last n sort h
  entry_last n (Function a sort) h = function_last n a sort h
  entry_last n (Defined sort body) h = record { term = h.term; reached = terms_last ts more h.term h.reached; named = k.terms h.term n h.named; defined = h.defined }
  entry_last n (Builds d ps place fields) h = tt
  entry_last n (Selects d ps c place field) h = tt

  entries_last : (ds : List (List ℕ × Entry)) → AllByRecursion (λ p. BelongsToAnEntry enums (reached_terms ts) s p.0 p.1) ds → AllByRecursion (λ p. BelongsToAnEntry enums now u p.0 p.1) ds
  entries_last [] h = tt
  entries_last (d ∷ ds) h = (entry_last d.0 d.1 h.0, entries_last ds h.1)

split : (enums : Enums) (s : Tables) (T : PlainTerm → Type 0) (es : List (PlainTerm × List ℕ)) → EachEntry (λ t n. IsNamedRightly enums s t n × T t) es → EachEntry (IsNamedRightly enums s) es × EachEntry (λ t n. T t) es
split enums s T [] h = (tt, tt)
split enums s T (e ∷ es) h = let r = split enums s T es h.1 in ((h.0.0, r.0), (h.0.1, r.1))

join : (enums : Enums) (s : Tables) (T : PlainTerm → Type 0) (es : List (PlainTerm × List ℕ)) → EachEntry (IsNamedRightly enums s) es → EachEntry (λ t n. T t) es → EachEntry (λ t n. IsNamedRightly enums s t n × T t) es
join enums s T [] h k = tt
join enums s T (e ∷ es) h k = ((h.0, k.0), join enums s T es h.1 k.1)

-- ---- a list of terms

-- What the lines of conditions leave fits the stage with these terms.
pub encode_fits : (enums : Enums) (x : Stage) (state : State) (ts : List PlainTerm) → FitsAt enums x state → AreConditions enums ts → (r : EncodeRuns enums ts x.tables state)
    → FitsAt enums (record { tables = (encode enums ts x.tables).tables; terms = x.terms ++ ts }) r.after
encode_fits enums x state ts f conditions r =
    let made = encode_terms enums (terms ts) x.tables in
    let u : Tables = made.tables in
    let all : List PlainTerm = x.terms ++ ts in
    let fine = conditions_are_fine enums ts conditions in
    let grown = terms_grow enums (terms ts) x.tables in
    let k : Keeps x.tables u = names_stay enums x.tables made.lines u grown in
    let old : Good enums (T enums all) (F enums all) (Y enums all) x.tables = record {
      terms = join enums x.tables (T enums all) x.tables.terms f.drawn.members (each_map _ _ (λ t n h. terms_last x.terms ts t h) x.tables.terms f.reached.terms);
      functions = each_map _ _ (λ g n h. functions_last x.terms ts g h) x.tables.functions f.reached.functions;
      types = each_map _ _ (λ y n h. types_last x.terms ts y h) x.tables.types f.reached.types;
    } in
    let good = each enums (T enums all) (F enums all) (Y enums all) (terms ts) fine (keys enums all ts (terms_new x.terms ts)) x.tables old in
    let parts = split enums u (T enums all) u.terms good.terms in
    let lines = lines_origins enums (reached_terms all) ts (parts_occur enums all ts (terms_new x.terms ts)) x.tables in
    record {
      conditions = conditions_join enums x.terms ts f.conditions conditions;
      assertions = subst (AreTexts u all) (sym (asserted r.after r.same_below r.asserts)) (texts_join u x.terms ts (assertions_of state) made.made (texts_last x.tables u k x.terms (assertions_of state) f.assertions) (made_texts u ts made.made (texts_are enums (terms ts) x.tables)));
      reached = record { terms = parts.1; functions = good.functions; types = good.types };
      drawn = names_drawn enums x.tables made.lines u f.drawn grown parts.0;
      declared = r.fits;
      only = run_each (BelongsToAnEntry enums (reached_terms all) u) (commands (encode enums ts x.tables).lines)
          (commands_declare enums (reached_terms all) u (encode enums ts x.tables).lines lines) state r.after (entries_last enums x.terms ts x.tables u k (names_of state) f.only) r.runs;
    }
  where
    asserted : (after : State) → after.below ≡ state.below → after.last.assertions ≡ state.last.assertions ++ (encode enums ts x.tables).made → assertions_of after ≡ assertions_of state ++ (encode enums ts x.tables).made
    asserted after b a =
        let es : List Expression = (encode enums ts x.tables).made in
        ap (λ (l : List Level). assertions_below l ++ after.last.assertions) b ∙ ap (λ (l : List Expression). assertions_below state.below ++ l) a ∙ sym (append_assoc (assertions_below state.below) state.last.assertions es)

-- ---- levels

-- A stage fits a level that is opened above it.
pub level_fits_stage : (enums : Enums) (x : Stage) (state : State) → FitsAt enums x state → FitsAt enums x (with_level state)
level_fits_stage enums x state f = record {
  conditions = f.conditions;
  assertions = subst (AreTexts x.tables x.terms) (sym (append-nil (assertions_of state))) f.assertions;
  reached = f.reached;
  drawn = f.drawn;
  declared = level_fits enums x.tables state f.declared;
  only = f.only;
}

-- It fits what a pop gives back.
pub back_fits_stage : (enums : Enums) (x : Stage) (state : State) → FitsAt enums x state → FitsAt enums x (back_at state.last state.below)
back_fits_stage enums x state f = record {
  conditions = f.conditions;
  assertions = f.assertions;
  reached = f.reached;
  drawn = f.drawn;
  declared = back_fits enums x.tables state f.declared;
  only = f.only;
}

-- Nothing fits what the first line leaves.
pub begun_fits_stage : (enums : Enums) → FitsAt enums no_stage begun
begun_fits_stage enums = record {
  conditions = record { are_typed = tt; are_formed = tt; have_no_fault = refl };
  assertions = tt;
  reached = record { terms = tt; functions = tt; types = tt };
  drawn = record { types = tt; functions = tt; terms = tt; members = tt };
  declared = begun_fits enums;
  only = (tt, (tt, (tt, tt)));
}
