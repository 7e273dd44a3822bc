-- What levels and the lines of terms leave of a state that fits.
use Rattle.std.proofs.Common.{◌≡◌, ℕ, true, List, [], ◌++◌, map, refl, sym, ap, ◌∙◌, subst, Some}
use Rattle.std.specs.List.{list_all}
use Rattle.std.proofs.lemmas.Bool.{and_from}
use Rattle.std.proofs.lemmas.List.{append-nil}
use Rattle.std.proofs.lemmas.List.Folds.{list_all-append}
use Rattle.law_terms.specs.Plain.{PlainTerm, terms}
use Rattle.law_terms.specs.TypeValues.{Enums}
use Rattle.law_texts.specs.Reading.{Expression}
use Rattle.law_scripts.specs.Script.{Command, State, HasWholeLines, Holds, run, with_level}
use Rattle.law_lines.specs.Line.{Line, Assert, spelled_lines}
use Rattle.law_lines.specs.Lines.{encode, encode_terms}
use Rattle.law_lines.specs.NameTables.{Tables}
use Rattle.law_lines.specs.Command.{commands, is_written_line}
use Rattle.law_lines.specs.Calls.{back_at}
use Rattle.law_lines.specs.Encodable.{AreEncodable}
use Rattle.law_lines.specs.Fit.{Fit}
use Rattle.law_lines.proofs.Known.{texts_good}
use Rattle.law_lines.proofs.Enter.{Behind, fit_grows}
use Rattle.law_scripts.proofs.Append.{holds_append, whole_append}
use Rattle.law_lines.proofs.Joined.{lines_join}
use Rattle.law_lines.proofs.Single.{commands_append, run_then}
use Rattle.law_lines.proofs.OfTerms.{each_step, texts_are}
use Rattle.law_lines.proofs.Spelled.{lines_hold}
use Rattle.law_lines.proofs.Whole.{with_assertions, asserts_run, asserts_fit, asserts_written}

nothing_behind : (enums : Enums) (s : Tables) (after : State) → Behind enums s s after
nothing_behind enums s after = record {
  new_types = [];
  types_are = rw append-nil;
  types = tt;
  type_entries = tt;
  new_functions = [];
  functions_are = rw append-nil;
  functions = tt;
  function_entries = tt;
  new_terms = [];
  terms_are = rw append-nil;
  terms = tt;
  term_entries = tt;
}

pub level_fits : (enums : Enums) (s : Tables) (state : State) → Fit enums s state → Fit enums s (with_level state)
level_fits enums s state fit = fit_grows enums s s state (with_level state) fit (record { ended = refl; kept = record { entry = λ n x h. h; sort = λ n k h. h; declared = λ d h. h; built = λ d c qs place fields h e. e }; names = λ n h. h; sorts = λ n k h. h; rooted = λ r. r }) (nothing_behind enums s (with_level state)) fit.old fit.old_sorts fit.only_names fit.only_sorts

pub back_fits : (enums : Enums) (s : Tables) (state : State) → Fit enums s state → Fit enums s (back_at state.last state.below)
back_fits enums s state fit =
    fit_grows enums s s state (back_at state.last state.below) fit (record { ended = sym fit.running; kept = record { entry = λ n x h. h; sort = λ n k h. h; declared = λ d h. h; built = λ d c qs place fields h e. e }; names = λ n h. h; sorts = λ n k h. h; rooted = λ r. r }) (nothing_behind enums s (back_at state.last state.below)) fit.old fit.old_sorts fit.only_names fit.only_sorts

abbrev pub HoldsWhole : List Line → Type 0
HoldsWhole ls = Holds (spelled_lines ls) (commands ls) × HasWholeLines (spelled_lines ls)

pub holds_then : (ls ms : List Line) → HoldsWhole ls → HoldsWhole ms → HoldsWhole (ls ++ ms)
holds_then ls ms a b =
    let bytes = lines_join ls ms in
    let cs = commands_append ls ms in (
      subst (λ (x : List ℕ). Holds x (commands (ls ++ ms))) (sym bytes)
          (subst (λ (y : List Command). Holds (spelled_lines ls ++ spelled_lines ms) y) (sym cs) (holds_append (spelled_lines ls) (spelled_lines ms) (commands ls) (commands ms) a.1 a.0 b.0)),
      subst HasWholeLines (sym bytes) (whole_append (spelled_lines ls) (spelled_lines ms) a.1 b.1),
    )

-- ---- a list of terms

-- What the lines of terms leave: a state that fits the tables then, with one assertion more for each term.
pub record EncodeRuns (enums : Enums) (ts : List PlainTerm) (s : Tables) (state : State) : Type 0 where
  pub after : State
  pub runs : run (commands (encode enums ts s).lines) state ≡ Some after
  pub fits : Fit enums (encode enums ts s).tables after
  pub same_below : after.below ≡ state.below
  pub asserts : after.last.assertions ≡ state.last.assertions ++ (encode enums ts s).made
  pub holds : HoldsWhole (encode enums ts s).lines

pub terms_run : (enums : Enums) (ts : List PlainTerm) (s : Tables) (state : State) → AreEncodable enums (terms ts) → Fit enums s state → EncodeRuns enums ts s state
terms_run enums ts s state f fit =
    let made = encode_terms enums (terms ts) s in
    let u : Tables = made.tables in
    let es : List Expression = made.made in
    let x = each_step enums (terms ts) s f state fit in
    let good = texts_good enums u x.after x.fits (terms ts) f es (texts_are enums (terms ts) s) in
    let after = with_assertions es x.after in
    let ls : List Line = made.lines ++ map Assert es in
    let written : list_all is_written_line ls ≡ true =
    list_all-append is_written_line made.lines (map Assert es) ∙ and_from (list_all is_written_line made.lines) (list_all is_written_line (map Assert es)) x.written (asserts_written es good.1) in
    record {
      after = after;
      runs = run_then made.lines (map Assert es) state x.after after x.runs (asserts_run es x.after x.fits.running good.0);
      fits = asserts_fit enums u x.after x.fits es;
      same_below = x.same_below;
      asserts = ap (λ (t : List Expression). t ++ es) x.same_assertions;
      holds = lines_hold ls written;
    }
