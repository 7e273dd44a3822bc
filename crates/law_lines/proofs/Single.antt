-- AreObeyable one after the other, and the steps of one line.
use Rattle.std.proofs.Common.{◌≡◌, ℕ, true, false, ◌&&◌, List, [], ◌∷◌, ◌++◌, length, refl, sym, ap, ◌∙◌, subst, Option, Some, None, arith}
use Rattle.std.specs.Prelude.{bytes_eq}
use Rattle.std.specs.List.{list_all}
use Rattle.std.proofs.lemmas.Bool.{and_from, cond-true}
use Rattle.std.proofs.lemmas.List.{append-nil, append_assoc, length-append}
use Rattle.std.proofs.lemmas.List.Folds.{list_all-append}
use Rattle.std.proofs.lemmas.Slice.Eq.{bytes_eq-Decides}
use Rattle.law_terms.specs.Plain.{PlainFunction, PlainTerm}
use Rattle.law_terms.specs.TypeValues.{Enums}
use Rattle.law_terms.specs.Types.{type_of}
use Rattle.law_terms.specs.TermOrder.{term_eq}
use Rattle.law_terms.specs.Interpretations.{function_eq}
use Rattle.law_texts.specs.Reading.{Expression}
use Rattle.law_scripts.specs.Script as script
use Rattle.law_scripts.specs.Script.{Command, State, Entry, Constant, Function, Defined, names_of, has_sort, is_sort, knows, declare, with_name, obey, run, is_in, built_in_names}
use Rattle.law_texts.specs.Options.{◌>>=◌}
use Rattle.law_scripts.specs.Written.{is_name}
use Rattle.law_scripts.proofs.Append.{runs_then}
use Rattle.law_lines.specs.Spelling.{numeral}
use Rattle.law_lines.specs.Line.{Line, Comment, DeclareConst, DeclareFun, DefineFun}
use Rattle.law_lines.specs.Lines.{Written, next_term, next_function, define, enter_term, enter_function, unless_named}
use Rattle.law_lines.specs.NameTables.{Tables}
use Rattle.law_lines.specs.Entries.{TypeHasEntries, term_lines, function_lines}
use Rattle.law_lines.specs.Command.{commands, is_written, is_written_line}
use Rattle.law_lines.proofs.Kept.{BuildsNone, itself_kept, kept_then, name_kept, name_there, lines_stay, lines_append}
use Rattle.law_lines.specs.Naming.{type_sort}
use Rattle.law_lines.specs.TableGrowth.{Keeps}
use Rattle.law_lines.proofs.Grow.{lookup_append}
use Rattle.law_lines.specs.Fit.{PartsHaveEntries, EachLine, LineIsDeclared, Fit, AreObeyable, IsObeyable, TermEntryIsDeclared, is_old_name_in, is_name_of_entry}
use Rattle.law_lines.proofs.Basic.{t_name, f_name, leads_alone}
use Rattle.law_lines.proofs.Known.{GoodSort, GoodText}
use Rattle.law_lines.proofs.OnlyEntries.{as_is, name_stays, term_is_entrys, function_is_entrys}
use Rattle.law_lines.proofs.Enter.{More, fit_grows, with_name_grows, all_grow, old_stays, old_sort_stays, fresh_term, fresh_function, sort_stays, in_longer}
use Rattle.law_scripts.proofs.CommandInduction.{steps_to}
use Rattle.law_scripts.proofs.Results.{or_left, or_right, declares}
use Rattle.law_scripts.proofs.Numbers.{numeral_suits}

-- ---- steps one after the other

pub commands_append : (ls ms : List Line) → commands (ls ++ ms) ≡ commands ls ++ commands ms
commands_append [] ms = refl
commands_append (l ∷ ls) ms = rw (commands_append ls ms, append_assoc)

pub run_then : (ls ms : List Line) (s t u : State) → run (commands ls) s ≡ Some t → run (commands ms) t ≡ Some u → run (commands (ls ++ ms)) s ≡ Some u
run_then ls ms s t u a b = ap (λ (cs : List Command). run cs s) (commands_append ls ms) ∙ runs_then (commands ls) (commands ms) s t u a b

pub no_step : (enums : Enums) (s : Tables) → AreObeyable enums s [] s
no_step enums s state fit = record { after = state; runs = refl; fits = fit; written = refl; kept = itself_kept state; lines_are_declared = tt; same_below = refl; same_assertions = refl }

pub steps_then : (enums : Enums) {s : Tables} {ls : List Line} {u : Tables} {ms : List Line} {v : Tables} → AreObeyable enums s ls u → AreObeyable enums u ms v → AreObeyable enums s (ls ++ ms) v
steps_then enums {s} {ls} {u} {ms} {v} a b state fit =
    let x = a state fit in
    let y = b x.after x.fits in
    record {
      after = y.after;
      runs = run_then ls ms state x.after y.after x.runs y.runs;
      fits = y.fits;
      written = list_all-append is_written_line ls ms ∙ and_from (list_all is_written_line ls) (list_all is_written_line ms) x.written y.written;
      kept = kept_then state x.after y.after x.kept y.kept;
      lines_are_declared = lines_append (LineIsDeclared y.after) ls ms (lines_stay x.after y.after y.kept ls x.lines_are_declared) y.lines_are_declared;
      same_below = y.same_below ∙ x.same_below;
      same_assertions = y.same_assertions ∙ x.same_assertions;
    }

pub comment_first : (enums : Enums) (text : List ℕ) (s : Tables) (ls : List Line) (u : Tables) → AreObeyable enums s ls u → AreObeyable enums s (Comment text ∷ ls) u
comment_first enums text s ls u a state fit =
    let x = a state fit in
    record { after = x.after; runs = x.runs; fits = x.fits; written = x.written; kept = x.kept; lines_are_declared = (tt, x.lines_are_declared); same_below = x.same_below; same_assertions = x.same_assertions }

pub unless_steps : (enums : Enums) (o : Option (List ℕ)) (s : Tables) (f : Tables → Written Expression) → IsObeyable enums s (f s) → IsObeyable enums s (unless_named o s f)
unless_steps enums (Some n) s f h = no_step enums s
unless_steps enums None s f h = h

-- ---- one line

pub step_runs : (c : Command) (s t : State) → s.ended ≡ false → obey c s ≡ Some t → run (c ∷ []) s ≡ Some t
step_runs c s t e o = ap (λ (x : Option State). x >>= run []) (steps_to c s t e o)

-- tables with one more term
abbrev pub with_term : PlainTerm → List ℕ → Tables → Tables
with_term t n s = record s { terms = s.terms ++ (t, n) ∷ [] }

abbrev pub with_function : PlainFunction → List ℕ → Tables → Tables
with_function f n s = record s { functions = s.functions ++ (f, n) ∷ [] }

more_term : (s : Tables) (t : PlainTerm) (n : List ℕ) → More s (with_term t n s)
more_term s t n = record {
  terms = let a = length-append s.terms ((t, n) ∷ []) in omega arith;
  functions = omega arith;
  types = omega arith;
  names = λ u m h. h;
}

pub keeps_term : (s : Tables) (t : PlainTerm) (n : List ℕ) → Keeps s (with_term t n s)
keeps_term s t n = record {
  terms = λ u m h. lookup_append (term_eq u) s.terms ((t, n) ∷ []) m h;
  types = λ u m h. h;
  functions = λ f m h. h;
}

pub keeps_function : (s : Tables) (f : PlainFunction) (n : List ℕ) → Keeps s (with_function f n s)
keeps_function s f n = record {
  terms = λ u m h. h;
  types = λ u m h. h;
  functions = λ g m h. lookup_append (function_eq g) s.functions ((f, n) ∷ []) m h;
}

-- a term whose name is there already
pub known_term : (enums : Enums) (s : Tables) (state : State) → Fit enums s state → (t : PlainTerm) (n : List ℕ) → TermEntryIsDeclared s state t n → PartsHaveEntries s t → EachLine (LineIsDeclared state) (term_lines enums s t n) → Fit enums (with_term t n s) state
known_term enums s state fit t n h parts own =
    let m = more_term s t n in
    fit_grows enums s (with_term t n s) state state fit (record { ended = refl; kept = itself_kept state; names = λ x k. k; sorts = λ x k r. r; rooted = λ r. r })
    (record {
      new_types = [];
      types_are = rw append-nil;
      types = tt;
      type_entries = tt;
      new_functions = [];
      functions_are = rw append-nil;
      functions = tt;
      function_entries = tt;
      new_terms = (t, n) ∷ [];
      terms_are = refl;
      terms = (record { declared = h.declared; name = h.name; sort = sort_stays s (with_term t n s) m (type_of t) h.sort }, tt);
      term_entries = (record { tables = s; keeps = keeps_term s t n; parts = (parts, h.sort); lines = own }, tt);
    })
    (all_grow _ _ (λ x. old_stays s (with_term t n s) m x.0) (names_of state) fit.old)
    (all_grow _ _ (λ x. old_sort_stays s (with_term t n s) m x.0) (script.declared_sorts state) fit.old_sorts)
    (all_grow _ _ (λ x. name_stays enums s (with_term t n s) (as_is s.types) (as_is s.functions) ((t, n) ∷ [], refl) x.0) (names_of state) fit.only_names) fit.only_sorts

pub fit_term : (enums : Enums) (s : Tables) (state : State) → Fit enums s state → (t : PlainTerm) (entry : Entry) → BuildsNone entry → TypeHasEntries s (type_of t) → PartsHaveEntries s t → EachLine (LineIsDeclared (with_name (next_term s) entry state)) (term_lines enums s t (next_term s)) → Fit enums (with_term t (next_term s) s) (with_name (next_term s) entry state)
fit_term enums s state fit t entry none sort parts own =
    let n = next_term s in
    let u = with_term t n s in
    let m = more_term s t n in
    fit_grows enums s u state (with_name n entry state) fit (with_name_grows state n entry none (fresh_term enums s state fit))
    (record {
      new_types = [];
      types_are = rw append-nil;
      types = tt;
      type_entries = tt;
      new_functions = [];
      functions_are = rw append-nil;
      functions = tt;
      function_entries = tt;
      new_terms = (t, n) ∷ [];
      terms_are = refl;
      terms = (
        record {
          declared = or_right (is_in n built_in_names) _ (or_left (bytes_eq n n) _ ((bytes_eq-Decides n n).1 refl));
          name = t_name (numeral (length s.terms)) (numeral_suits (length s.terms));
          sort = sort_stays s u m (type_of t) sort;
        },
        tt,
      );
      term_entries = (record { tables = s; keeps = keeps_term s t n; parts = (parts, sort); lines = own }, tt);
    })
    (and_from (is_old_name_in u n) _ (in_longer s.terms (t, n) _ (leads_alone (length s.terms))) (all_grow _ _ (λ x. old_stays s u m x.0) (names_of state) fit.old))
    (all_grow _ _ (λ x. old_sort_stays s u m x.0) (script.declared_sorts state) fit.old_sorts)
    (and_from (is_name_of_entry enums u n) _ (term_is_entrys enums s t n) (all_grow _ _ (λ x. name_stays enums s u (as_is s.types) (as_is s.functions) ((t, n) ∷ [], refl) x.0) (names_of state) fit.only_names)) fit.only_sorts

pub fit_function : (enums : Enums) (s : Tables) (state : State) → Fit enums s state → (f : PlainFunction) (entry : Entry) → BuildsNone entry → TypeHasEntries s f.argument × TypeHasEntries s f.output → EachLine (LineIsDeclared (with_name (next_function s) entry state)) (function_lines s f (next_function s)) → Fit enums (with_function f (next_function s) s) (with_name (next_function s) entry state)
fit_function enums s state fit f entry none parts own =
    let n = next_function s in
    let u = with_function f n s in
    let m : More s u = record {
      terms = omega arith;
      functions = let a = length-append s.functions ((f, n) ∷ []) in omega arith;
      types = omega arith;
      names = λ u m h. h;
    } in
    fit_grows enums s u state (with_name n entry state) fit (with_name_grows state n entry none (fresh_function enums s state fit))
    (record {
      new_types = [];
      types_are = rw append-nil;
      types = tt;
      type_entries = tt;
      new_functions = (f, n) ∷ [];
      functions_are = refl;
      functions = (
        record {
          declared = or_left (bytes_eq n n) _ ((bytes_eq-Decides n n).1 refl);
          name = f_name (numeral (length s.functions)) (numeral_suits (length s.functions));
        },
        tt,
      );
      function_entries = (record { tables = s; keeps = keeps_function s f n; parts = parts; lines = own }, tt);
      new_terms = [];
      terms_are = rw append-nil;
      terms = tt;
      term_entries = tt;
    })
    (and_from (is_old_name_in u n) _ (in_longer s.functions (f, n) _ (leads_alone (length s.functions))) (all_grow _ _ (λ x. old_stays s u m x.0) (names_of state) fit.old))
    (all_grow _ _ (λ x. old_sort_stays s u m x.0) (script.declared_sorts state) fit.old_sorts)
    (and_from (is_name_of_entry enums u n) _ (function_is_entrys enums s f n) (all_grow _ _ (λ x. name_stays enums s u (as_is s.types) ((f, n) ∷ [], refl) (as_is s.terms) x.0) (names_of state) fit.only_names)) fit.only_sorts

-- ---- the lines of definitions, constants and functions

pub define_steps : (enums : Enums) (t : PlainTerm) (sort body : Expression) (s : Tables)
    → ((state : State) → Fit enums s state → GoodSort state sort × GoodText state body × TypeHasEntries s (type_of t)) → ((state : State) → Fit enums s state → PartsHaveEntries s t) → term_lines enums s t (next_term s) ≡ DefineFun (next_term s) sort body ∷ [] → IsObeyable enums s (define t sort body s)
define_steps enums t sort body s good parts own state fit =
    let n = next_term s in
    let g = good state fit in
    let next = with_name n (Defined sort body) state in
    let known = and_from (is_sort (has_sort state) sort) (knows state body) g.0.0 g.1.0 in
    record {
      after = next;
      runs = step_runs (script.DefineFun n sort body) state next fit.running (cond-true (is_sort (has_sort state) sort && knows state body) (declare n (Defined sort body) state) None known ∙ declares n (Defined sort body) state (fresh_term enums s state fit));
      fits = fit_term enums s state fit t (Defined sort body) (λ d qs place fields e. cc) g.2 (parts state fit) (subst (λ ls. EachLine (LineIsDeclared next) ls) (sym own) (name_there state n (Defined sort body), tt));
      written = and_from (is_name n && is_written sort && is_written body) true (and_from (is_name n && is_written sort) (is_written body) (and_from (is_name n) (is_written sort) (t_name (numeral (length s.terms)) (numeral_suits (length s.terms))) g.0.1) g.1.1) refl;
      kept = name_kept state n (Defined sort body) (λ d qs place fields e. cc) (fresh_term enums s state fit);
      lines_are_declared = (name_there state n (Defined sort body), tt);
      same_below = refl;
      same_assertions = refl;
    }

pub constant_steps : (enums : Enums) (t : PlainTerm) (text : List ℕ) (sort : Expression) (s : Tables)
    → ((state : State) → Fit enums s state → GoodSort state sort × TypeHasEntries s (type_of t)) → ((state : State) → Fit enums s state → PartsHaveEntries s t) → term_lines enums s t (next_term s) ≡ Comment text ∷ DeclareConst (next_term s) sort ∷ [] → IsObeyable enums s (enter_term t (next_term s) (Comment text ∷ DeclareConst (next_term s) sort ∷ []) s)
constant_steps enums t text sort s good parts own state fit =
    let n = next_term s in
    let g = good state fit in
    let next = with_name n (Constant sort) state in
    record {
      after = next;
      runs = step_runs (script.DeclareConst n sort) state next fit.running (cond-true (is_sort (has_sort state) sort) (declare n (Constant sort) state) None g.0.0 ∙ declares n (Constant sort) state (fresh_term enums s state fit));
      fits = fit_term enums s state fit t (Constant sort) (λ d qs place fields e. cc) g.1 (parts state fit) (subst (λ ls. EachLine (LineIsDeclared next) ls) (sym own) (tt, (name_there state n (Constant sort), tt)));
      written = and_from (is_name n && is_written sort) true (and_from (is_name n) (is_written sort) (t_name (numeral (length s.terms)) (numeral_suits (length s.terms))) g.0.1) refl;
      kept = name_kept state n (Constant sort) (λ d qs place fields e. cc) (fresh_term enums s state fit);
      lines_are_declared = (tt, (name_there state n (Constant sort), tt));
      same_below = refl;
      same_assertions = refl;
    }

pub function_steps : (enums : Enums) (f : PlainFunction) (argument sort : Expression) (s : Tables)
    → ((state : State) → Fit enums s state → GoodSort state argument × GoodSort state sort) → TypeHasEntries s f.argument × (type_sort s f.argument ≡ argument) → TypeHasEntries s f.output × (type_sort s f.output ≡ sort) → IsObeyable enums s (enter_function f (next_function s) (DeclareFun (next_function s) argument sort ∷ []) s)
function_steps enums f argument sort s good a b state fit =
    let n = next_function s in
    let g = good state fit in
    let next = with_name n (Function argument sort) state in
    let known = and_from (is_sort (has_sort state) argument) (is_sort (has_sort state) sort) g.0.0 g.1.0 in
    record {
      after = next;
      runs = step_runs (script.DeclareFun n argument sort) state next fit.running (cond-true (is_sort (has_sort state) argument && is_sort (has_sort state) sort) (declare n (Function argument sort) state) None known ∙ declares n (Function argument sort) state (fresh_function enums s state fit));
      fits = fit_function enums s state fit f (Function argument sort) (λ d qs place fields e. cc) (a.0, b.0) (tt, (name_there state n (Function argument sort) ∙ (λ i. Some (Function (sym a.1 i) (sym b.1 i))), tt));
      written = and_from (is_name n && is_written argument && is_written sort) true (and_from (is_name n && is_written argument) (is_written sort) (and_from (is_name n) (is_written argument) (f_name (numeral (length s.functions)) (numeral_suits (length s.functions))) g.0.1) g.1.1) refl;
      kept = name_kept state n (Function argument sort) (λ d qs place fields e. cc) (fresh_function enums s state fit);
      lines_are_declared = (name_there state n (Function argument sort), tt);
      same_below = refl;
      same_assertions = refl;
    }
