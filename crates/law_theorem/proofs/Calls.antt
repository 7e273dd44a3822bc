-- The scripts of calls are well written: each call's lines are well where those before it fit.
use Rattle.std.proofs.Common.{◌≡◌, ℕ, ◌+◌, ◌≤◌, List, [], ◌∷◌, ◌++◌, length, map, refl, sym, subst, Option, Some, arith, ap}
use Rattle.std.specs.List.{sum_by}
use Rattle.std.proofs.lemmas.List.{length-append}
use Rattle.std.proofs.lemmas.List.Sums.{sum_by-cons}
use Rattle.law_terms.specs.Plain.{PlainTerm}
use Rattle.law_terms.specs.TypeValues.{Enums}
use Rattle.law_scripts.specs.Script as script
use Rattle.law_scripts.specs.Script.{Command, Holds, HasWholeLines, Level, State, Script, start, step, run, with_level, without_level}
use Rattle.law_texts.specs.Options.{◌>>=◌}
use Rattle.law_scripts.specs.CommandLines.{AreSorted}
use Rattle.law_scripts.proofs.Append.{holds_append, runs_then, script_append, whole_append}
use Rattle.law_scripts.proofs.CommandInduction.{steps_to}
use Rattle.law_scripts.proofs.Commands.{one_state}
use Rattle.law_scripts.proofs.Laid.{more_sorted, sorted_from}
use Rattle.law_lines.specs.Calls.{HasBelow}
use Rattle.law_lines.specs.Command.{commands}
use Rattle.law_lines.specs.Line.{Line, Push, Pop, spelled_lines}
use Rattle.law_lines.specs.Lines.{Call, PushCall, PopCall, EncodeCall, Encoding, after_call, beginning, encode, lines_of_call, lines_of_calls, fresh}
use Rattle.law_lines.specs.NameTables.{Tables}
use Rattle.law_lines.specs.Text.{text_of_calls, text, names}
use Rattle.law_lines.proofs.Spelled.{lines_hold}
use Rattle.law_theorem.specs.Conditions.{IsCallOfConditions, AreCallsOfConditions}
use Rattle.law_theorem.specs.Fits.{Stage, Stages, new_stages, encoding_of, stages_after, stages_after_calls, FitBelow, FitsNow, Fits}
use Rattle.law_theorem.proofs.FitKept.{calls_keep_fit, empty_text_fits, encodings_agree, is_running, stated_calls_fit}
use Rattle.law_theorem.specs.FlatScripts.{IsFlatState}
use Rattle.law_theorem.specs.WellWritten.{most_for_terms, most_for_call, IsWellWritten, CallsAreWellWritten, CallsKeepWellWritten, IdleLinesKeepWellWritten, TextsAreWellWritten}
use Rattle.law_theorem.proofs.Flat.{now_flat}
use Rattle.law_theorem.proofs.Well.{AreWell, well_then, no_more, none_well, one_well, begins_well, terms_well}

-- ---- one call

-- what was pushed can be popped
pops : (enums : Enums) (s : State) (ys : List Stage) (ls : List Level) → HasBelow (map (λ y. y.tables) ys) → FitBelow enums ys ls → (u : State) × (without_level s ls ≡ Some u)
pops enums s [] ls k h = absurd k
pops enums s (y ∷ ys) [] k h = absurd h
pops enums s (y ∷ ys) (l ∷ ls) k h = (record s { last = l; below = ls }, refl)

-- A call's lines are well, and are few with what is still to begin.
record CallIsWell (enums : Enums) (x : Stages) (c : Call) (s : State) : Type 0 where
  most : ℕ
  lines : AreWell s (lines_of_call enums c (encoding_of x)) most
  few : most + length (beginning (stages_after enums c x).begun) ≤ length (beginning x.begun) + most_for_call c

call_is_well : (enums : Enums) (text : List ℕ) (x : Stages) (c : Call) (f : Fits enums text x) → IsCallOfConditions enums c (encoding_of x) → CallIsWell enums x c f.state
call_is_well enums text x PushCall f k =
    let a = begins_well enums x.begun x.now f.state f.now in
    let s : State = a.0.after in
    record {
      most = length (beginning x.begun) + 1;
      lines = well_then f.state (beginning x.begun) (Push ∷ []) (length (beginning x.begun)) 1 a.0 (one_well s (with_level s) (Push ∷ []) script.Push refl (lines_hold (Push ∷ []) refl) tt (steps_to script.Push s (with_level s) a.1.declared.running refl));
      few = omega arith;
    }
call_is_well enums text x PopCall f k =
    let u = pops enums f.state x.below f.state.below k f.below in
    record {
      most = 1;
      lines = one_well f.state u.0 (Pop ∷ []) script.Pop refl (lines_hold (Pop ∷ []) refl) tt (steps_to script.Pop f.state u.0 (is_running f.state.ended f.script.running) u.1);
      few = same x.below;
    }
  where
    same : (ys : List Stage) → 1 + length (beginning (stages_after enums PopCall (record x { below = ys })).begun) ≤ length (beginning x.begun) + 1
    same [] = omega arith
    same (y ∷ ys) = omega arith
call_is_well enums text x (EncodeCall ts) f k =
    let a = begins_well enums x.begun x.now f.state f.now in
    let ls = beginning x.begun in
    let later = script_append text (spelled_lines ls) f.state (commands ls) a.0.after f.script.whole f.script.script a.0.holds.0 a.0.runs in
    record {
      most = length (beginning x.begun) + most_for_terms ts;
      lines = well_then f.state ls (encode enums ts x.now.tables).lines (length (beginning x.begun)) (most_for_terms ts) a.0
          (terms_well enums (text ++ spelled_lines ls) x.now a.0.after ts f.enum_types a.1 k (whole_append text (spelled_lines ls) f.script.whole a.0.holds.1) later);
      few = no_rest (length (beginning x.begun) + most_for_terms ts);
    }
  where
    no_rest : (n : ℕ) → n + 0 ≤ n
    no_rest n = omega arith

-- ---- lists of calls

-- the lines of one call before those of others
joined : (s t : State) (ls ms : List Line) (before between m n j : ℕ) (a : AreWell s ls j) → j + between ≤ before + m → t ≡ a.after → AreWell t ms (between + n) → AreWell s (ls ++ ms) (before + (m + n))
joined s t ls ms before between m n j a h e b = no_more s (ls ++ ms) (j + (between + n)) (before + (m + n)) (omega arith) (well_then s ls ms j (between + n) a (subst (λ (u : State). AreWell u ms (between + n)) e b))

calls_are_well : (enums : Enums) (text : List ℕ) (x : Stages) (cs : List Call) (f : Fits enums text x) → AreCallsOfConditions enums cs (encoding_of x) → AreWell f.state (lines_of_calls enums cs (encoding_of x)) (length (beginning x.begun) + sum_by most_for_call cs)
calls_are_well enums text x [] f k = no_more f.state [] 0 (length (beginning x.begun) + 0) (omega arith) (none_well f.state)
calls_are_well enums text x (c ∷ cs) f k =
    let y = stages_after enums c x in
    let e = encodings_agree enums c x in
    let ls = lines_of_call enums c (encoding_of x) in
    let one = call_is_well enums text x c f k.0 in
    let g = calls_keep_fit enums text x c f k.0 in
    let same = one_state (text ++ spelled_lines ls) g.state one.lines.after g.script.script (script_append text (spelled_lines ls) f.state (commands ls) one.lines.after f.script.whole f.script.script one.lines.holds.0 one.lines.runs) in
    let rest = calls_are_well enums (text ++ spelled_lines ls) y cs g (subst (AreCallsOfConditions enums cs) (sym e) k.1) in
    subst (λ (n : ℕ). AreWell f.state (ls ++ lines_of_calls enums cs (after_call enums c (encoding_of x))) (length (beginning x.begun) + n)) (sym (sum_by-cons most_for_call c cs))
    (joined f.state g.state ls (lines_of_calls enums cs (after_call enums c (encoding_of x))) (length (beginning x.begun)) (length (beginning y.begun)) (most_for_call c) (sum_by most_for_call cs) one.most one.lines one.few same
    (subst (λ (s : Encoding). AreWell g.state (lines_of_calls enums cs s) (length (beginning y.begun) + sum_by most_for_call cs)) e rest))

-- ---- behind a well-written text

-- commands that are obeyed there and are well sorted
extended : (enums : Enums) (bytes more : List ℕ) (ts us : List PlainTerm) (s u : Tables) (most j : ℕ) (cs : List Command) (after : State) → HasWholeLines bytes → (w : IsWellWritten enums bytes ts s most)
    → Holds more cs → run cs w.state ≡ Some after → AreSorted cs w.state → IsFlatState enums us u after → length cs ≤ j → IsWellWritten enums (bytes ++ more) us u (most + j)
extended enums bytes more ts us s u most j cs after whole w holds runs sorted flat few =
    let before = w.sorted.script.commands in
    record {
      state = after;
      sorted = record {
        script = record {
          commands = before ++ cs;
          holds = holds_append bytes more before cs whole w.sorted.script.holds holds;
          runs = runs_then before cs start w.state after w.sorted.script.runs runs;
        };
        sorted = more_sorted before cs start w.state w.sorted.sorted w.sorted.script.runs sorted;
      };
      flat = flat;
      short = sums (length (before ++ cs)) (length before) (length cs) (length-append before cs) w.short few;
    }
  where
    sums : (all b d : ℕ) → all ≡ b + d → b ≤ most → d ≤ j → all ≤ most + j
    sums all b d h1 h2 h3 = omega arith

pub calls_keep_well_written : CallsKeepWellWritten
calls_keep_well_written enums bytes x c most f k w =
    let y = stages_after enums c x in
    let ls = lines_of_call enums c (encoding_of x) in
    let one = call_is_well enums bytes x c f k in
    let same = one_state bytes f.state w.state f.script.script w.sorted.script in
    let a = subst (λ (s : State). AreWell s ls one.most) same one.lines in
    let g = calls_keep_fit enums bytes x c f k in
    let later = script_append bytes (spelled_lines ls) w.state (commands ls) a.after f.script.whole w.sorted.script a.holds.0 a.runs in
    extended enums bytes (spelled_lines ls) x.now.terms y.now.terms x.now.tables y.now.tables most (length (beginning x.begun) + most_for_call c) (commands ls) a.after f.script.whole w a.holds.0 a.runs a.sorted
    (now_flat enums y.begun y.now a.after (subst (FitsNow enums y.begun y.now) (one_state (bytes ++ spelled_lines ls) g.state a.after g.script.script later) g.now))
    (bound (length (commands ls)) one.most (length (beginning x.begun)) (length (beginning y.begun)) (most_for_call c) a.few one.few)
  where
    bound : (d j u v m : ℕ) → d ≤ j → j + v ≤ u + m → d ≤ u + m
    bound d j u v m h1 h2 = omega arith

pub idle_lines_keep_well_written : IdleLinesKeepWellWritten
idle_lines_keep_well_written enums bytes line ts s c most whole w idle sorted is-line =
    let steps = idle w.state in
    extended enums bytes line ts ts s s most 1 (c ∷ []) w.state whole w is-line.holds (ap (λ (o : Option State). o >>= run []) steps) (sorted w.state, sorted_from (step c w.state) w.state steps) w.flat (omega arith)

pub calls_are_well_written : CallsAreWellWritten
calls_are_well_written enums cs good k =
    let x : Stages = stages_after_calls enums cs new_stages in
    let empty = empty_text_fits enums good in
    let w = subst (λ (s : State). AreWell s (lines_of_calls enums cs fresh) (1 + sum_by most_for_call cs)) empty.now.1 (calls_are_well enums [] new_stages cs empty k) in
    let source : Script (text_of_calls enums cs) w.after = record { commands = commands (lines_of_calls enums cs fresh); holds = w.holds.0; runs = w.runs } in
    let f = stated_calls_fit enums cs good k in
    record {
      state = w.after;
      sorted = record { script = source; sorted = w.sorted };
      flat = now_flat enums x.begun x.now w.after (subst (FitsNow enums x.begun x.now) (one_state (text_of_calls enums cs) f.state w.after f.script.script source) f.now);
      short = w.few;
    }

pub texts_are_well_written : TextsAreWellWritten
texts_are_well_written enums ts good k =
    let one : 1 + sum_by most_for_call (EncodeCall ts ∷ []) ≡ 1 + most_for_terms ts = omega arith in
    subst (IsWellWritten enums (text enums ts) ts (names enums ts)) one (calls_are_well_written enums (EncodeCall ts ∷ []) good (k, tt))
