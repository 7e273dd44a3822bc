-- What a sink got of the script of terms, where the writer stopped.
use Rattle.std.proofs.Common.{◌≡◌, ◌⊎◌, inl, inr, ℕ, zero, suc, ◌+◌, Bool, true, false, List, [], ◌∷◌, ◌++◌, drop, map, take, refl, sym, ap, subst, ◌∙◌, append_assoc, append-nil, Option, Some, None, Result, Ok, Err}
use Rattle.std.specs.Prelude.{IfErr, OnErr, not}
use Rattle.std.specs.List.{AllByRecursion}
use Rattle.std.specs.Io.KnownBytes.{append_known}
use Rattle.std.proofs.lemmas.Bool.{false≢true}
use Rattle.std.proofs.lemmas.List.{map-append}
use Rattle.law_terms.specs.Faults.{Fault, first_fault}
use Rattle.law_terms.specs.Formed.{IsFormed}
use Rattle.law_terms.specs.Nodes.{TermMeaning}
use Rattle.law_terms.specs.Plain.{PlainTerm, terms}
use Rattle.law_terms.specs.Typing.{AreTyped}
use Rattle.law_texts.specs.Reading.{Expression}
use Rattle.law_texts.specs.LineTexts.{assert_text}
use Rattle.law_scripts.specs.Script.{State}
use Rattle.law_scripts.specs.Written.{IsOpenScript}
use Rattle.law_scripts.proofs.Append.{script_append, whole_append}
use Rattle.law_lines.specs.Command.{commands}
use Rattle.law_lines.specs.Encodable.{AreEncodable}
use Rattle.law_lines.specs.Fit.{Fit, AreObeyable}
use Rattle.law_lines.specs.Line.{Line, Assert, spelled_line, spelled_lines}
use Rattle.law_lines.specs.Lines.{EncodeCall, Enums, beginning, encode, encode_terms, lines_of_call}
use Rattle.law_lines.specs.NameTables.{Tables}
use Rattle.law_lines.specs.Spelling.{spelled}
use Rattle.law_lines.proofs.Levels.{terms_run}
use Rattle.law_lines.proofs.Single.{no_step}
use Rattle.law_lines.proofs.Spelled.{lines_hold}
use Rattle.law_theorem.specs.Conditions.{AreConditions}
use Rattle.law_theorem.specs.Fits.{Stages, Fits, encoding_of, stages_after}
use Rattle.law_theorem.proofs.FineTerms.{typed_lists_are_fine}
use Rattle.law_theorem.proofs.FitKept.{calls_keep_fit}
use Rattle.smt_script.specs.Sink.{AppendsPart}
use Rattle.smt_script.proofs.PutsLemmas.{appends_then, part-of-first, part-then}
use Rattle.smt_encode.specs.Complete.{AreTypedMeanings}
use Rattle.smt_encode.specs.Encoded.{enums_in, has_begun, sink_of, FitsEncoder}
use Rattle.smt_encode.specs.Errors.{encode_error}
use Rattle.smt_encode.specs.Interrupted.{may_cut, Interrupted}
use Rattle.smt_encode.specs.Refusals.{write_fault}
use Rattle.smt_encode.specs.Steps.{HasTables}
use Rattle.smt_encode.specs.Stopped.{AreObeyed, Obeyed, ScriptStopped, Stopped}
use Rattle.smt_encode.specs.declared.encoder.Encoder.{Encoder}
use Rattle.smt_encode.specs.declared.error.EncodeError.{EncodeError}
use Rattle.smt_encode.specs.declared.error.WriteError.{WriteError}
use Rattle.smt_encode.specs.declared.writer.Writer.{Writer}
use Rattle.smt_encode.proofs.Completing.{terms_are_typed}
use Rattle.smt_encode.proofs.OneCall.{cut_or_fault}
use Rattle.smt_encode.proofs.Lines.{lines_append}
use Rattle.smt_encode.proofs.Stopping.{part_along}

-- what is so on an error, where there is one
pub on_err : {T E P : Type 0} (result : Result T E) (e : E) → result ≡ Err e → OnErr result P → P
on_err {T} {E} {P} result e is h = subst (λ (r : Result T E). OnErr r P) is h

-- what is so of the error of an outcome
pub err_of : {T E : Type 0} (P : E → Type 0) (outcome : Result T E) (e : E) → outcome ≡ Err e → IfErr outcome P → P e
err_of {T} {E} P outcome e is h = subst (λ (r : Result T E). IfErr r P) is h

-- ---- lines that are obeyed

pub steps_obeyed : (enums : Enums) (s left : Tables) (lines : List Line) → AreObeyable enums s lines left → (state : State) → Fit enums s state → Obeyed lines state
steps_obeyed enums s left lines steps state fit =
    let r = steps state fit in
    let h = lines_hold lines r.written in
    record { after = r.after; runs = r.runs; holds = h.0; whole = h.1; running = r.fits.running }

all_obeyed : (enums : Enums) (ts : List PlainTerm) (s : Tables) → AreEncodable enums (terms ts) → (state : State) → Fit enums s state → Obeyed (encode enums ts s).lines state
all_obeyed enums ts s fine state fit =
    let r = terms_run enums ts s state fine fit in
    record { after = r.after; runs = r.runs; holds = r.holds.0; whole = r.holds.1; running = r.fits.running }

-- ---- assertions

split_at : {A : Type 0} (n : ℕ) (xs : List A) → take n xs ++ drop n xs ≡ xs
split_at zero [] = refl
split_at zero (x ∷ xs) = refl
split_at (suc n) [] = refl
split_at (suc n) (x ∷ xs) = ap (λ l. x ∷ l) (split_at n xs)

-- a part of one assertion, behind those before it, is a part of all
pub assertion_cut : (a b c : Option (List ℕ)) (es : List Expression) (i : ℕ) (e : Expression) (text : List ℕ) → take (i + 1) es ≡ take i es ++ e ∷ [] → text ≡ assert_text (spelled e) → b ≡ append_known a (spelled_lines (map Assert (take i es))) → AppendsPart b c text
    → AppendsPart a c (spelled_lines (map Assert es))
assertion_cut a b c es i e text behind is put part =
    let front = spelled_lines (map Assert (take i es)) in
    let rest = spelled_lines (map Assert (drop (i + 1) es)) in
    part_along a c ((front ++ text) ++ rest) (spelled_lines (map Assert es)) (ap (λ l. l ++ rest) one ∙ both) (part-of-first a c (front ++ text) rest (part-then a b c front text put part))
  where
    one : spelled_lines (map Assert (take i es)) ++ text ≡ spelled_lines (map Assert (take (i + 1) es))
    one =
        ap (λ t. spelled_lines (map Assert (take i es)) ++ t) (is ∙ sym (append-nil (spelled_line (Assert e))))
        ∙ sym (lines_append (map Assert (take i es)) (Assert e ∷ []))
        ∙ ap spelled_lines (sym (ap (map Assert) behind ∙ map-append Assert (take i es) (e ∷ [])))

    both : spelled_lines (map Assert (take (i + 1) es)) ++ spelled_lines (map Assert (drop (i + 1) es)) ≡ spelled_lines (map Assert es)
    both =
        sym (lines_append (map Assert (take (i + 1) es)) (map Assert (drop (i + 1) es)))
        ∙ ap spelled_lines (sym (map-append Assert (take (i + 1) es) (drop (i + 1) es)) ∙ ap (map Assert) (split_at (i + 1) es))

-- ---- a script

module _ {S : Type 0} {contents : S → Option (List ℕ)} (enums : Enums) (begun : Bool) (s : Tables) (ts : List PlainTerm) where
  -- before the first line of the terms
  pub script_unput : (old new : Writer S) (e : WriteError) (t : Tables) → AppendsPart (contents old.script) (contents new.script) (spelled_lines (beginning begun)) → ((f : Fault) → write_fault e ≡ Some f → ⊥) → HasTables new t
      → ScriptStopped contents enums begun s old new ts e
  script_unput old new e t part none has = record {
    lines = [];
    rest = (encode enums ts s).lines;
    first = refl;
    obeyed = λ typed state fit. steps_obeyed enums s s [] (no_step enums s) state fit;
    part = part_along (contents old.script) (contents new.script) _ _ (ap spelled_lines (sym (append-nil (beginning begun)))) part;
    all = λ f h. absurd (none f h);
    named = t;
    names = has;
  }

  -- inside the lines of the terms
  pub script_in_terms : (old mid new : Writer S) (e : WriteError) → contents mid.script ≡ append_known (contents old.script) (spelled_lines (beginning begun))
      → Stopped contents (AreObeyed enums (AreTypedMeanings (map TermMeaning ts)) s) mid new (encode_terms enums (terms ts) s).lines e → ScriptStopped contents enums begun s old new ts e
  script_in_terms old mid new e got st =
      let made = encode_terms enums (terms ts) s in
      let along = sym (lines_append (beginning begun) st.lines) in
      record {
        lines = st.lines;
        rest = st.rest ++ map Assert made.made;
        first = sym (append_assoc st.lines st.rest (map Assert made.made)) ∙ ap (λ l. l ++ map Assert made.made) st.first;
        obeyed = λ typed state fit. let o = st.obeyed (terms_are_typed ts typed) in steps_obeyed enums s o.0 st.lines o.1 state fit;
        part = part_along (contents old.script) (contents new.script) _ _ along (part-then (contents old.script) (contents mid.script) (contents new.script) (spelled_lines (beginning begun)) (spelled_lines st.lines) got st.part);
        all = λ f h. appends_then (contents old.script) (contents mid.script) (contents new.script) (spelled_lines (beginning begun)) (spelled_lines st.lines) got (st.all f h) ∙ ap (append_known (contents old.script)) along;
        named = st.named;
        names = st.names;
      }

  -- inside the assertions
  pub script_in_assertions : (old mid new : Writer S) (e : WriteError) (t : Tables) → AllByRecursion IsFormed ts → first_fault enums ts ≡ None → contents mid.script ≡ append_known (contents old.script) (spelled_lines (beginning begun ++ (encode_terms enums (terms ts) s).lines))
      → AppendsPart (contents mid.script) (contents new.script) (spelled_lines (map Assert (encode_terms enums (terms ts) s).made)) → ((f : Fault) → write_fault e ≡ Some f → ⊥) → HasTables new t → ScriptStopped contents enums begun s old new ts e
  script_in_assertions old mid new e t formed faultless got part none has =
      let made = encode_terms enums (terms ts) s in
      let front = beginning begun ++ made.lines in
      let along : spelled_lines front ++ spelled_lines (map Assert made.made) ≡ spelled_lines (beginning begun ++ (encode enums ts s).lines) =
      sym (lines_append front (map Assert made.made)) ∙ ap spelled_lines (append_assoc (beginning begun) made.lines (map Assert made.made)) in
      record {
        lines = (encode enums ts s).lines;
        rest = [];
        first = append-nil (encode enums ts s).lines;
        obeyed = λ typed state fit. all_obeyed enums ts s (typed_lists_are_fine enums ts typed formed faultless) state fit;
        part = part_along (contents old.script) (contents new.script) _ _ along (part-then (contents old.script) (contents mid.script) (contents new.script) (spelled_lines front) (spelled_lines (map Assert made.made)) got part);
        all = λ f h. absurd (none f h);
        named = t;
        names = has;
      }

-- what stopped in a writer that has the same sink, and the same enum types
pub stopped_here : {S T : Type 0} (contents : S → Option (List ℕ)) (begun : Bool) (s : Tables) (e f : Enums) (old mid new : Writer S) (ts : List PlainTerm) (result : Result T WriteError) → mid.script ≡ old.script → e ≡ f
    → IfErr result (ScriptStopped contents e begun s mid new ts) → IfErr result (ScriptStopped contents f begun s old new ts)
stopped_here contents begun s e f old mid new ts (Ok x) same enums h = tt
stopped_here contents begun s e f old mid new ts (Err r) same enums h =
    subst (λ (g : Enums). ScriptStopped contents g begun s old new ts r) enums (record {
      lines = h.lines;
      rest = h.rest;
      first = h.first;
      obeyed = h.obeyed;
      part = record { part = h.part.part; rest = h.part.rest; whole = h.part.whole; appended = h.part.appended ∙ ap (λ k. append_known (contents k) h.part.part) same };
      all = λ g k. h.all g k ∙ ap (λ k. append_known (contents k) (spelled_lines (beginning begun ++ h.lines))) same;
      named = h.named;
      names = h.names;
    })

-- ---- the encoder

nothing_asked : (enums : Enums) → AreConditions enums []
nothing_asked enums = record { are_typed = tt; are_formed = tt; have_no_fault = refl }

-- A call that encodes terms was interrupted behind a text that fits.
pub interrupted : {S : Type 0} (contents : S → Option (List ℕ)) (old new : Encoder S) (ts : List PlainTerm) (e : WriteError) (r : EncodeError) (text : List ℕ) (x : Stages) → FitsEncoder old text x → AreTyped ts → r ≡ encode_error e
    → ScriptStopped contents (enums_in old) (has_begun old) x.now.tables old.writer new.writer ts e → Interrupted contents old new text (lines_of_call (enums_in old) (EncodeCall ts) (encoding_of x)) r
interrupted contents old new ts e r text x f typed is st = record {
  lines = front ++ st.lines;
  rest = st.rest;
  first = append_assoc front st.lines st.rest ∙ ap (λ l. front ++ l) st.first;
  state = ob.after;
  script = subst (λ (bytes : List ℕ). IsOpenScript bytes ob.after) bytes_are (record {
    whole = whole_append before (spelled_lines st.lines) g.script.whole ob.whole;
    script = script_append before (spelled_lines st.lines) g.state (commands st.lines) ob.after g.script.whole g.script.script ob.holds ob.runs;
    running = ap not ob.running;
  });
  part = subst (λ (b : Bool). AppendsPart (contents (sink_of old)) (contents (sink_of new)) (spelled_lines (beginning b ++ st.lines))) f.stands.begun st.part;
  whole = λ h. by (cut_or_fault e) h;
}
  where
    front : List Line
    front = beginning x.begun

    before : List ℕ
    before = text ++ spelled_lines (front ++ [])

    g : Fits (enums_in old) before (stages_after (enums_in old) (EncodeCall []) x)
    g = calls_keep_fit (enums_in old) text x (EncodeCall []) f.fits (nothing_asked (enums_in old))

    ob : Obeyed st.lines g.state
    ob = st.obeyed typed g.state g.now.declared

    bytes_are : before ++ spelled_lines st.lines ≡ text ++ spelled_lines (front ++ st.lines)
    bytes_are =
        append_assoc text (spelled_lines (front ++ [])) (spelled_lines st.lines)
        ∙ ap (λ l. text ++ l) (ap (λ l. spelled_lines l ++ spelled_lines st.lines) (append-nil front) ∙ sym (lines_append front st.lines))

    by : (may_cut (encode_error e) ≡ true) ⊎ ((k : Fault) × (write_fault e ≡ Some k)) → may_cut r ≡ false → contents (sink_of new) ≡ append_known (contents (sink_of old)) (spelled_lines (front ++ st.lines))
    by (inl cut) h = absurd (false≢true (sym h ∙ ap may_cut is ∙ cut))
    by (inr (k, names)) h = st.all k names ∙ ap (λ (b : Bool). append_known (contents (sink_of old)) (spelled_lines (beginning b ++ st.lines))) f.stands.begun
