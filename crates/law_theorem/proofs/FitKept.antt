-- Texts that fit represent their terms, and stated lines keep this.
use Rattle.std.proofs.Common.{◌≡◌, ℕ, Bool, true, false, not, List, [], ◌∷◌, ◌++◌, map, refl, sym, ap, ◌∙◌, subst, append_assoc, Option, Some, cond}
use Rattle.std.specs.Option.{option_and_then}
use Rattle.std.proofs.lemmas.List.{append-nil}
use Rattle.std.proofs.lemmas.List.Elements.{All-from_recursion}
use Rattle.law_terms.specs.Plain.{PlainTerm, terms}
use Rattle.law_terms.specs.TypeValues.{Enums, AreEnums}
use Rattle.law_terms.proofs.Defaults.{interpreted}
use Rattle.law_scripts.specs.Script as script
use Rattle.law_scripts.specs.Script.{Command, Level, State, Script, start, step, run, obey, with_level, without_level}
use Rattle.law_scripts.specs.Written.{IsLine, IsOpenScript}
use Rattle.law_scripts.proofs.Append.{script_append, whole_append}
use Rattle.law_lines.specs.Calls.{HasBelow, back_at}
use Rattle.law_lines.specs.Command.{commands}
use Rattle.law_lines.specs.Line.{Line, Push, Pop, spelled_lines}
use Rattle.law_lines.specs.Lines.{Call, PushCall, PopCall, EncodeCall, Encoding, after_call, beginning, encode, lines_of_call, lines_of_calls, option_line}
use Rattle.law_lines.specs.NameTables.{no_names}
use Rattle.law_lines.specs.Text.{text}
use Rattle.law_lines.proofs.Grow.{terms_grow}
use Rattle.law_lines.proofs.Joined.{lines_join}
use Rattle.law_lines.proofs.Levels.{HoldsWhole, terms_run}
use Rattle.law_lines.proofs.Single.{step_runs}
use Rattle.law_lines.proofs.Spelled.{lines_hold, one_holds, whole_line}
use Rattle.law_lines.proofs.Whole.{begun, first_runs, first_is_line}
use Rattle.law_theorem.specs.Conditions.{AreConditions, AreCallsOfConditions}
use Rattle.law_theorem.specs.Fits.{Stage, Stages, new_stages, encoding_of, stages_after, stages_after_calls, FitsAt, FitBelow, FitsNow, GoesOn, IsAbove, AreAbove, Fits, FittingTextsRepresent, EmptyTextFits, CallsKeepFit, CallListsKeepFit, IdleLinesKeepFit, CommentsKeepFit, TheseAreIdle}
use Rattle.law_theorem.specs.Headline.{Represents}
use Rattle.law_theorem.specs.Stated.{ConditionsAreTheirScripts, StatedCallsFit}
use Rattle.law_theorem.proofs.FineTerms.{conditions_are_fine, parts_typed}
use Rattle.law_theorem.proofs.Models.{represents}
use Rattle.law_theorem.proofs.SelectionsGiven.{interpretations_give_reached}
use Rattle.law_theorem.proofs.SelectionsOpen.{selectors_are_open}
use Rattle.law_theorem.proofs.Steps.{encode_fits, level_fits_stage, back_fits_stage, begun_fits_stage}

-- ---- the law

-- before the first line
nothing_represents : (enums : Enums) → Represents enums no_names [] start
nothing_represents enums = record {
  assertions = tt;
  one_to_one = record { terms = λ n k l p q. absurd p; types = λ n k l p q. absurd p; functions = λ n k l p q. absurd p };
  free = λ n. (λ h. h, λ h. h);
  carried = λ I g. record { declared = All-from_recursion _ [] tt; selected = All-from_recursion _ [] tt };
  values = λ I g. tt;
  back = λ J h. tt;
  again = λ J h. record { declared = All-from_recursion _ [] tt; selected = All-from_recursion _ [] tt };
  models = λ J h. (λ k. tt, λ k. All-from_recursion _ [] tt);
  true_in = λ I g. (λ k. All-from_recursion _ [] tt, λ k. tt);
}

stage_represents : (enums : Enums) (text : List ℕ) (x : Stage) (state : State) → AreEnums enums → FitsAt enums x state → Script text state → Represents enums x.tables x.terms state
stage_represents enums text x state good f s =
    represents enums text x state good f s (selectors_are_open enums text x state f s) (interpretations_give_reached enums text x state good f s)

pub fitting_texts_represent : FittingTextsRepresent
fitting_texts_represent enums text x f = by x.begun f.now
  where
    by : (b : Bool) → FitsNow enums b x.now f.state → Represents enums x.now.tables x.now.terms f.state
    by true g = stage_represents enums text x.now f.state f.enum_types g f.script.script
    by false g =
        subst (λ (y : Stage). Represents enums y.tables y.terms f.state) (sym g.0) (subst (λ (s : State). Represents enums no_names [] s) (sym g.1) (nothing_represents enums))

-- ---- stages above one another

goes_on : {A : Type 0} (xs : List A) → GoesOn xs xs
goes_on xs = ([], sym (append-nil xs))

goes_further : {A : Type 0} (xs ys zs : List A) → GoesOn xs ys → GoesOn ys zs → GoesOn xs zs
goes_further {A} xs ys zs a b = (a.0 ++ b.0, b.1 ∙ ap (λ (l : List A). l ++ b.0) a.1 ∙ append_assoc xs a.0 b.0)

-- a stage is above itself
is_above : (x : Stage) → IsAbove x x
is_above x = record { terms = goes_on x.terms; named_terms = goes_on x.tables.terms; named_types = goes_on x.tables.types; named_functions = goes_on x.tables.functions }

-- what is encoded goes on above the stages below
encoded_above : (enums : Enums) (ts : List PlainTerm) (x : Stage) (below : List Stage) → AreAbove x below → AreAbove (record { tables = (encode enums ts x.tables).tables; terms = x.terms ++ ts }) below
encoded_above enums ts x [] h = tt
encoded_above enums ts x (y ∷ ys) h =
    let g = terms_grow enums (terms ts) x.tables in
    let u = (encode enums ts x.tables).tables in (
      record {
        terms = goes_further y.terms x.terms (x.terms ++ ts) h.0.terms (ts, refl);
        named_terms = goes_further y.tables.terms x.tables.terms u.terms h.0.named_terms (g.new_terms, g.terms);
        named_types = goes_further y.tables.types x.tables.types u.types h.0.named_types (g.new_types, g.types);
        named_functions = goes_further y.tables.functions x.tables.functions u.functions h.0.named_functions (g.new_functions, g.functions);
      },
      h.1,
    )

-- ---- texts that go on

stands_then : (text : List ℕ) (state : State) (ls : List Line) (after : State) → IsOpenScript text state → HoldsWhole ls → run (commands ls) state ≡ Some after → not after.ended ≡ true → IsOpenScript (text ++ spelled_lines ls) after
stands_then text state ls after s h r e = record {
  whole = whole_append text (spelled_lines ls) s.whole h.1;
  script = script_append text (spelled_lines ls) state (commands ls) after s.whole s.script h.0 r;
  running = e;
}

pub is_running : (b : Bool) → not b ≡ true → b ≡ false
is_running true h = absurd cc
is_running false h = refl

-- ---- the first line

begins : (enums : Enums) (text : List ℕ) (now : Stage) (below : List Stage) (b : Bool) → Fits enums text (record { now = now; below = below; begun = b })
    → Fits enums (text ++ spelled_lines (beginning b)) (record { now = now; below = below; begun = true })
begins enums text now below true f = subst (λ (bytes : List ℕ). Fits enums bytes (record { now = now; below = below; begun = true })) (sym (append-nil text)) f
begins enums text now below false f = record {
  state = begun;
  script = stands_then text start (option_line ∷ []) begun (subst (IsOpenScript text) f.now.1 f.script) (one_holds _ [] _ [] first_is_line (lines_hold [] refl)) first_runs refl;
  enum_types = f.enum_types;
  levels = f.levels;
  now = subst (λ (y : Stage). FitsAt enums y begun) (sym f.now.0) (begun_fits_stage enums);
  below = subst (λ (s : State). FitBelow enums below s.below) f.now.1 f.below;
}

-- ---- one call

push_fits : (enums : Enums) (text : List ℕ) (now : Stage) (below : List Stage) → Fits enums text (record { now = now; below = below; begun = true })
    → Fits enums (text ++ spelled_lines (Push ∷ [])) (record { now = now; below = now ∷ below; begun = true })
push_fits enums text now below f =
    let running = is_running f.state.ended f.script.running in
    record {
      state = with_level f.state;
      script = stands_then text f.state (Push ∷ []) (with_level f.state) f.script (lines_hold (Push ∷ []) refl) (step_runs script.Push f.state (with_level f.state) running refl) f.script.running;
      enum_types = f.enum_types;
      levels = (is_above now, f.levels);
      now = level_fits_stage enums now f.state f.now;
      below = (back_fits_stage enums now f.state f.now, f.below);
    }

pop_fits : (enums : Enums) (text : List ℕ) (now y : Stage) (below : List Stage) → Fits enums text (record { now = now; below = y ∷ below; begun = true })
    → Fits enums (text ++ spelled_lines (Pop ∷ [])) (record { now = y; below = below; begun = true })
pop_fits enums text now y below f = go f.state.below refl f.below
  where
    go : (ls : List Level) → f.state.below ≡ ls → FitBelow enums (y ∷ below) ls → Fits enums (text ++ spelled_lines (Pop ∷ [])) (record { now = y; below = below; begun = true })
    go [] q k = absurd k
    go (l ∷ ls) q k =
        let running = is_running f.state.ended f.script.running in
        let gives : obey script.Pop f.state ≡ Some (back_at l ls) = ap (λ (x : List Level). without_level f.state x) q ∙ ap (λ (x : Bool). Some (record { last = l; below = ls; ended = x })) running in
        record {
          state = back_at l ls;
          script = stands_then text f.state (Pop ∷ []) (back_at l ls) f.script (lines_hold (Pop ∷ []) refl) (step_runs script.Pop f.state (back_at l ls) running gives) refl;
          enum_types = f.enum_types;
          levels = f.levels.1;
          now = k.0;
          below = k.1;
        }

terms_fit : (enums : Enums) (text : List ℕ) (now : Stage) (below : List Stage) (ts : List PlainTerm) → Fits enums text (record { now = now; below = below; begun = true }) → AreConditions enums ts
    → Fits enums (text ++ spelled_lines (encode enums ts now.tables).lines) (record { now = record { tables = (encode enums ts now.tables).tables; terms = now.terms ++ ts }; below = below; begun = true })
terms_fit enums text now below ts f c =
    let r = terms_run enums ts now.tables f.state (conditions_are_fine enums ts c) f.now.declared in
    record {
      state = r.after;
      script = stands_then text f.state (encode enums ts now.tables).lines r.after f.script r.holds r.runs (ap not r.fits.running);
      enum_types = f.enum_types;
      levels = encoded_above enums ts now below f.levels;
      now = encode_fits enums now f.state ts f.now c r;
      below = subst (FitBelow enums below) (sym r.same_below) f.below;
    }

-- two lists of lines, one after the other
behind : (enums : Enums) (text : List ℕ) (ls ms : List Line) (x : Stages) → Fits enums ((text ++ spelled_lines ls) ++ spelled_lines ms) x → Fits enums (text ++ spelled_lines (ls ++ ms)) x
behind enums text ls ms x f = subst (λ (bytes : List ℕ). Fits enums bytes x) (append_assoc text (spelled_lines ls) (spelled_lines ms) ∙ ap (λ (bytes : List ℕ). text ++ bytes) (sym (lines_join ls ms))) f

popped : (enums : Enums) (text : List ℕ) (now : Stage) (below : List Stage) (b : Bool) → Fits enums text (record { now = now; below = below; begun = b }) → HasBelow (map (λ y. y.tables) below)
    → Fits enums (text ++ spelled_lines (Pop ∷ [])) (stages_after enums PopCall (record { now = now; below = below; begun = b }))
popped enums text now [] b f h = absurd h
popped enums text now (y ∷ below) true f h = pop_fits enums text now y below f
popped enums text now (y ∷ below) false f h = absurd (subst (λ (s : State). FitBelow enums (y ∷ below) s.below) f.now.1 f.below)

pub calls_keep_fit : CallsKeepFit
calls_keep_fit enums text x PushCall f c =
    behind enums text (beginning x.begun) (Push ∷ []) (stages_after enums PushCall x)
    (push_fits enums (text ++ spelled_lines (beginning x.begun)) x.now x.below (begins enums text x.now x.below x.begun f))
calls_keep_fit enums text x PopCall f c = popped enums text x.now x.below x.begun f c
calls_keep_fit enums text x (EncodeCall ts) f c =
    behind enums text (beginning x.begun) (encode enums ts x.now.tables).lines (stages_after enums (EncodeCall ts) x)
    (terms_fit enums (text ++ spelled_lines (beginning x.begun)) x.now x.below ts (begins enums text x.now x.below x.begun f) c)

pub empty_text_fits : EmptyTextFits
empty_text_fits enums good = record {
  state = start;
  script = record { whole = tt; script = record { commands = []; holds = (lines_hold [] refl).0; runs = refl }; running = refl };
  enum_types = good;
  levels = tt;
  now = (refl, refl);
  below = tt;
}

-- ---- lists of calls

-- what a call leaves of the names is what it leaves of the stages
pub encodings_agree : (enums : Enums) (c : Call) (x : Stages) → encoding_of (stages_after enums c x) ≡ after_call enums c (encoding_of x)
encodings_agree enums PushCall x = refl
encodings_agree enums PopCall x = by x.below
  where
    by : (ys : List Stage) → encoding_of (stages_after enums PopCall (record x { below = ys })) ≡ after_call enums PopCall (encoding_of (record x { below = ys }))
    by [] = refl
    by (y ∷ ys) = refl
encodings_agree enums (EncodeCall ts) x = refl

pub call_lists_keep_fit : CallListsKeepFit
call_lists_keep_fit enums text x [] f c = subst (λ (bytes : List ℕ). Fits enums bytes x) (sym (append-nil text)) f
call_lists_keep_fit enums text x (call ∷ cs) f c =
    let y = stages_after enums call x in
    let e = encodings_agree enums call x in
    let one = calls_keep_fit enums text x call f c.0 in
    let rest = call_lists_keep_fit enums (text ++ spelled_lines (lines_of_call enums call (encoding_of x))) y cs one (subst (AreCallsOfConditions enums cs) (sym e) c.1) in
    behind enums text (lines_of_call enums call (encoding_of x)) (lines_of_calls enums cs (after_call enums call (encoding_of x))) (stages_after_calls enums cs y)
    (subst (λ (s : Encoding). Fits enums ((text ++ spelled_lines (lines_of_call enums call (encoding_of x))) ++ spelled_lines (lines_of_calls enums cs s)) (stages_after_calls enums cs y)) e rest)

pub stated_calls_fit : StatedCallsFit
stated_calls_fit enums cs good c = call_lists_keep_fit enums [] new_stages cs (empty_text_fits enums good) c

-- ---- idle lines

stays_so : (text line : List ℕ) (s t : State) (c : Command) → s ≡ t → IsOpenScript text s → IsLine line (c ∷ []) → step c s ≡ Some t → IsOpenScript (text ++ line) s
stays_so text line s t c e h l g = record {
  whole = whole_append text line h.whole (whole_line line (c ∷ []) l);
  script = script_append text line s (c ∷ []) s h.whole h.script l.holds (ap (λ (o : Option State). option_and_then (run []) o) g ∙ ap (λ (u : State). Some u) (sym e));
  running = h.running;
}

pub idle_lines_keep_fit : IdleLinesKeepFit
idle_lines_keep_fit enums text line x c f i l = record {
  state = f.state;
  script = stays_so text line f.state f.state c refl f.script l (i f.state);
  enum_types = f.enum_types;
  levels = f.levels;
  now = f.now;
  below = f.below;
}

pub comments_keep_fit : CommentsKeepFit
comments_keep_fit enums text line x f l = record {
  state = f.state;
  script = record {
    whole = whole_append text line f.script.whole (whole_line line [] l);
    script = script_append text line f.state [] f.state f.script.whole f.script.script l.holds refl;
    running = f.script.running;
  };
  enum_types = f.enum_types;
  levels = f.levels;
  now = f.now;
  below = f.below;
}

same_after : (b : Bool) (s : State) → cond b (Some s) (Some s) ≡ Some s
same_after true s = refl
same_after false s = refl

pub these_are_idle : TheseAreIdle
these_are_idle = (λ s. same_after s.ended s, λ s. same_after s.ended s, λ s. same_after s.ended s)

-- ---- the main theorem

pub conditions_are_their_scripts : ConditionsAreTheirScripts
conditions_are_their_scripts enums ts good c =
    let f = stated_calls_fit enums (EncodeCall ts ∷ []) good (c, tt) in
    record {
      state = f.state;
      script = f.script;
      represents = fitting_texts_represent enums (text enums ts) (stages_after_calls enums (EncodeCall ts ∷ []) new_stages) f;
      interpreted = interpreted enums ts (parts_typed ts c.are_typed) c.have_no_fault;
    }
