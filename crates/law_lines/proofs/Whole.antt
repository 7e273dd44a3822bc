-- The stated text is a script.
use Rattle.std.proofs.Common.{◌≡◌, true, false, List, [], ◌∷◌, ◌++◌, map, refl, sym, ap, ◌∙◌, Option, Some, None, append_assoc}
use Rattle.std.specs.Prelude.{bytes_eq, codes}
use Rattle.std.specs.List.{list_all}
use Rattle.std.proofs.lemmas.Bool.{and_parts, and_from, cond-true}
use Rattle.std.proofs.lemmas.List.{append-nil}
use Rattle.law_terms.specs.TypeValues.{Enums}
use Rattle.law_texts.specs.Reading.{Expression, expressions}
use Rattle.law_scripts.specs.Script as script
use Rattle.law_scripts.specs.Script.{State, Builds, Selects, name, has_name, has_sort, knows, are_all, each_stated, with_assertion, start, run}
use Rattle.law_texts.specs.Options.{◌>>=◌}
use Rattle.law_scripts.specs.Sorts.{entries}
use Rattle.law_scripts.specs.Written.{IsLine}
use Rattle.law_scripts.proofs.CommandInduction.{steps_to}
use Rattle.law_scripts.proofs.First.{option_is_line}
use Rattle.law_lines.specs.Line.{Assert, spelled_line}
use Rattle.law_lines.specs.Lines.{option_line, option_constructors}
use Rattle.law_lines.specs.NameTables.{Tables, no_names}
use Rattle.law_lines.specs.Command.{commands, commands_of, are_written, is_written, is_written_line, all_built}
use Rattle.law_lines.specs.Fit.{BuildsOnly, IsRooted, Fit, LineIsDeclared}
use Rattle.law_lines.proofs.Kept.{first_only, first_rooted}
use Rattle.law_lines.proofs.Enter.{fit_grows}
use Rattle.law_scripts.proofs.Results.{or_left}

-- ---- the first line

abbrev pub begun : State
begun = record {
  last = record {
    sorts = (codes "Option", 1) ∷ [];
    names = (codes "val", Selects (codes "Option") (codes "X" ∷ []) (codes "some") 0 (name (codes "X")))
        ∷ (codes "some", Builds (codes "Option") (codes "X" ∷ []) 1 (name (codes "X") ∷ []))
        ∷ (codes "none", Builds (codes "Option") (codes "X" ∷ []) 0 []) ∷ [];
    assertions = [];
  };
  below = [];
  ended = false;
}

pub first_runs : run (commands (option_line ∷ [])) start ≡ Some begun
first_runs = refl

abbrev option_built : List script.Constructor
option_built = all_built option_constructors

begun_only : BuildsOnly (entries begun) (codes "Option") (codes "X" ∷ []) option_built
begun_only = first_only (codes "Option") (codes "X" ∷ []) option_built

begun_rooted : IsRooted begun
begun_rooted d c qs place fields e = or_left (bytes_eq d (codes "Option")) false (first_rooted (codes "Option") (codes "X" ∷ []) option_built d c qs place fields e)

begun_stands : LineIsDeclared begun option_line
begun_stands = (refl, (refl, tt, (refl, (refl, tt), tt)), refl, begun_only)

pub begun_fits : (enums : Enums) → Fit enums no_names begun
begun_fits enums = record { running = refl; option = refl; builds = refl; types = tt; functions = tt; terms = tt; type_entries = tt; function_entries = tt; term_entries = tt; option_is_declared = begun_stands; rooted = begun_rooted; old = refl; old_sorts = refl; only_names = refl; only_sorts = refl }

pub first_is_line : IsLine (spelled_line option_line) (commands_of option_line)
first_is_line = option_is_line

-- ---- assertions

abbrev pub with_assertions : List Expression → State → State
with_assertions es s = record s { last = record s.last { assertions = s.last.assertions ++ es } }

pub asserts_run : (es : List Expression) (s : State) → s.ended ≡ false → are_all (each_stated (has_sort s) (has_name s) (expressions es)) ≡ true → run (commands (map Assert es)) s ≡ Some (with_assertions es s)
asserts_run [] s e h = ap (λ (t : List Expression). Some (record s { last = record s.last { assertions = t } })) (sym (append-nil s.last.assertions))
asserts_run (x ∷ es) s e h =
    let q = and_parts (knows s x) (are_all (each_stated (has_sort s) (has_name s) (expressions es))) h in
    let steps = steps_to (script.Assert x) s (with_assertion x s) e (cond-true (knows s x) (Some (with_assertion x s)) None q.0) in
    ap (λ (o : Option State). o >>= run (commands (map Assert es))) steps ∙ asserts_run es (with_assertion x s) e q.1
    ∙ ap (λ (t : List Expression). Some (record s { last = record s.last { assertions = t } })) (append_assoc s.last.assertions (x ∷ []) es)

pub asserts_fit : (enums : Enums) (s : Tables) (state : State) → Fit enums s state → (es : List Expression) → Fit enums s (with_assertions es state)
asserts_fit enums s state fit es =
    fit_grows enums s s state (with_assertions es state) fit (record { ended = refl; kept = record { entry = λ n x h. h; sort = λ n k h. h; declared = λ d h. h; built = λ d c qs place fields h e. e }; names = λ n h. h; sorts = λ n k h. h; rooted = λ r. r })
    (record {
      new_types = [];
      types_are = rw append-nil;
      types = tt;
      type_entries = tt;
      new_functions = [];
      functions_are = rw append-nil;
      functions = tt;
      function_entries = tt;
      new_terms = [];
      terms_are = rw append-nil;
      terms = tt;
      term_entries = tt;
    }) fit.old fit.old_sorts fit.only_names fit.only_sorts

pub asserts_written : (es : List Expression) → are_written (expressions es) ≡ true → list_all is_written_line (map Assert es) ≡ true
asserts_written [] h = refl
asserts_written (e ∷ es) h = let q = and_parts (is_written e) (are_written (expressions es)) h in and_from (is_written e) _ q.0 (asserts_written es q.1)
