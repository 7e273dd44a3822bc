-- Calls that stopped, and what their sinks got.
use Rattle.std.proofs.Common.{◌≡◌, ℕ, List, [], ◌++◌, refl, sym, ap, ◌∙◌, subst, append_assoc, append-nil, Option, Some, None, Result, Ok, Err}
use Rattle.std.specs.Prelude.{IfErr, OnErr}
use Rattle.std.specs.Io.KnownBytes.{append_known}
use Rattle.std.specs.Result.{IsErrAnd}
use Rattle.law_terms.specs.Faults.{Fault}
use Rattle.law_texts.specs.Reading.{Expression}
use Rattle.law_lines.specs.Fit.{AreObeyable}
use Rattle.law_lines.specs.Line.{Line, spelled_lines}
use Rattle.law_lines.specs.Lines.{Enums, Written, behind, ◌>>=◌}
use Rattle.law_lines.specs.NameTables.{Tables}
use Rattle.law_lines.proofs.Single.{no_step, steps_then}
use Rattle.smt_script.specs.Sink.{AppendsPart}
use Rattle.smt_script.proofs.PutsLemmas.{appends_nothing, appends_then, part-then}
use Rattle.smt_spelling.specs.TextFaults.{Finds}
use Rattle.smt_encode.specs.Refusals.{write_fault}
use Rattle.smt_encode.specs.Steps.{HasTables, WritesHere, Wrote}
use Rattle.smt_encode.specs.Stopped.{AreObeyed, OwnStopped, Stopped, WritesOrStopsHere, WritesOwn}
use Rattle.smt_encode.specs.declared.error.WriteError.{WriteError}
use Rattle.smt_encode.specs.declared.writer.Writer.{Writer}
use Rattle.smt_encode.proofs.Lines.{binds, lines_append}

-- ---- first parts of bytes

-- all of them
pub all_of_it : (a c : Option (List ℕ)) (xs : List ℕ) → c ≡ append_known a xs → AppendsPart a c xs
all_of_it a c xs p = record { part = xs; rest = []; whole = append-nil xs; appended = p }

-- none of them
pub none_of_it : (a c : Option (List ℕ)) (xs : List ℕ) → c ≡ a → AppendsPart a c xs
none_of_it a c xs same = record { part = []; rest = xs; whole = refl; appended = same ∙ appends_nothing a }

-- the same bytes, said in another way
pub part_along : (a c : Option (List ℕ)) (xs ys : List ℕ) → xs ≡ ys → AppendsPart a c xs → AppendsPart a c ys
part_along a c xs ys e p = record { part = p.part; rest = p.rest; whole = p.whole ∙ e; appended = p.appended }

-- what is so is so on an error
pub on_error : {T E P : Type 0} (result : Result T E) → P → OnErr result P
on_error (Ok x) p = tt
on_error (Err e) p = p

-- no fault is none that is named
pub never : (f : Fault) → None ≡ Some f → ⊥
never f h = cc

-- ---- a node's own lines

module _ {S : Type 0} {contents : S → Option (List ℕ)} where
  -- what stopped with an error that was handed on
  pub own_stops : {A T E : Type 0} {fault : Option Fault} {old new : Writer S} (w : Written A) (Shows : A → T → Type 0) (P : E → Type 0) (result : Result T E) → IsErrAnd result P → OwnStopped contents fault old new w.lines → WritesOwn contents fault old new w Shows result
  own_stops w Shows P (Ok x) h st = absurd h
  own_stops w Shows P (Err e) h st = st

  -- before the first line
  pub own_unput : {fault : Option Fault} (old new : Writer S) (lines : List Line) (s : Tables) → new.script ≡ old.script → HasTables new s → OwnStopped contents fault old new lines
  own_unput old new lines s same has = record { part = none_of_it (contents old.script) (contents new.script) (spelled_lines lines) (ap contents same); nothing_put = λ some. same; named = s; names = has }

  -- inside them, or behind them
  pub own_part : (old new : Writer S) (lines : List Line) (s : Tables) → AppendsPart (contents old.script) (contents new.script) (spelled_lines lines) → HasTables new s → OwnStopped contents None old new lines
  own_part old new lines s part has = record { part = part; nothing_put = λ some. absurd (cc); named = s; names = has }

-- what was written, or stopped, where there is no fault
pub own_faultless : {S A T E : Type 0} (contents : S → Option (List ℕ)) (fault : Option Fault) (old new : Writer S) (w : Written A) (Shows : A → T → Type 0) (result : Result T E) → fault ≡ None → WritesOwn contents None old new w Shows result → WritesOwn contents fault old new w Shows result
own_faultless contents fault old new w Shows result none h = subst (λ (f : Option Fault). WritesOwn contents f old new w Shows result) (sym none) h

-- ---- what stopped

module _ {S : Type 0} {contents : S → Option (List ℕ)} {enums : Enums} {Typed : Type 0} {s : Tables} where
  -- with an error that was handed on
  pub stops_with : {A T : Type 0} {old new : Writer S} (w : Written A) (Shows : A → T → Type 0) (e : WriteError) (result : Result T WriteError) → IsErrAnd result (λ y. y ≡ e) → Stopped contents (AreObeyed enums Typed s) old new w.lines e → WritesOrStopsHere contents enums Typed s old new w Shows result
  stops_with w Shows e (Ok x) h st = absurd h
  stops_with {old = old} {new} w Shows e (Err y) h st = subst (λ (x : WriteError). Stopped contents (AreObeyed enums Typed s) old new w.lines x) (sym h) st

  -- before the first line
  pub unput : (old new : Writer S) (stated : List Line) (e : WriteError) → new.script ≡ old.script → HasTables new s → Stopped contents (AreObeyed enums Typed s) old new stated e
  unput old new stated e same has = record {
    lines = [];
    rest = stated;
    first = refl;
    obeyed = λ typed. (s, no_step enums s);
    part = none_of_it (contents old.script) (contents new.script) [] (ap contents same);
    all = λ f h. ap contents same ∙ appends_nothing (contents old.script);
    named = s;
    names = has;
  }

  -- behind whole lines
  pub after_lines : (old new : Writer S) (lines rest stated : List Line) (left named : Tables) (e : WriteError) → lines ++ rest ≡ stated → contents new.script ≡ append_known (contents old.script) (spelled_lines lines) → HasTables new named → (Typed → AreObeyable enums s lines left) → Stopped contents (AreObeyed enums Typed s) old new stated e
  after_lines old new lines rest stated left named e first put has steps = record {
    lines = lines;
    rest = rest;
    first = first;
    obeyed = λ typed. (left, steps typed);
    part = all_of_it (contents old.script) (contents new.script) (spelled_lines lines) put;
    all = λ f h. put;
    named = named;
    names = has;
  }

  -- inside lines, by an error that names no fault
  pub inside_lines : (old new : Writer S) (lines rest stated : List Line) (left named : Tables) (e : WriteError) → lines ++ rest ≡ stated → write_fault e ≡ None → AppendsPart (contents old.script) (contents new.script) (spelled_lines lines) → HasTables new named → (Typed → AreObeyable enums s lines left) → Stopped contents (AreObeyed enums Typed s) old new stated e
  inside_lines old new lines rest stated left named e first none part has steps = record {
    lines = lines;
    rest = rest;
    first = first;
    obeyed = λ typed. (left, steps typed);
    part = part;
    all = λ f h. absurd (never f (sym none ∙ h));
    named = named;
    names = has;
  }

  -- behind lines that were put
  pub stopped_behind : {Inner : Type 0} (old mid new : Writer S) (lines stated rest whole : List Line) (t : Tables) (e : WriteError) → lines ++ (stated ++ rest) ≡ whole → contents mid.script ≡ append_known (contents old.script) (spelled_lines lines) → (Typed → AreObeyable enums s lines t) → (Typed → Inner)
      → Stopped contents (AreObeyed enums Inner t) mid new stated e → Stopped contents (AreObeyed enums Typed s) old new whole e
  stopped_behind old mid new lines stated rest whole t e is put steps inner st = record {
    lines = lines ++ st.lines;
    rest = st.rest ++ rest;
    first = append_assoc lines st.lines (st.rest ++ rest) ∙ ap (λ l. lines ++ l) (sym (append_assoc st.lines st.rest rest) ∙ ap (λ l. l ++ rest) st.first) ∙ is;
    obeyed = λ typed. let (left, more) = st.obeyed (inner typed) in (left, steps_then enums (steps typed) more);
    part = part_along (contents old.script) (contents new.script) (spelled_lines lines ++ spelled_lines st.lines) (spelled_lines (lines ++ st.lines)) (sym (lines_append lines st.lines))
        (part-then (contents old.script) (contents mid.script) (contents new.script) (spelled_lines lines) (spelled_lines st.lines) put st.part);
    all = λ f h. appends_then (contents old.script) (contents mid.script) (contents new.script) (spelled_lines lines) (spelled_lines st.lines) put (st.all f h) ∙ ap (append_known (contents old.script)) (sym (lines_append lines st.lines));
    named = st.named;
    names = st.names;
  }

  -- ---- a node: its heading, the lines of its parts, and its own

  -- all is put but its own lines, and of these a first part
  own_stopped : (old mid new : Writer S) (front own : List Line) (t u : Tables) (fault : Option Fault) (e : WriteError) → contents mid.script ≡ append_known (contents old.script) (spelled_lines front) → OwnStopped contents fault mid new own
      → ((f : Fault) → write_fault e ≡ Some f → fault ≡ Some f) → (Typed → AreObeyable enums s front t) → (Typed → fault ≡ None → AreObeyable enums s (front ++ own) u) → Stopped contents (AreObeyed enums Typed s) old new (front ++ own) e
  own_stopped old mid new front own t u None e put st finds steps whole = record {
    lines = front ++ own;
    rest = [];
    first = append-nil (front ++ own);
    obeyed = λ typed. (u, whole typed refl);
    part = part_along (contents old.script) (contents new.script) (spelled_lines front ++ spelled_lines own) (spelled_lines (front ++ own)) (sym (lines_append front own))
        (part-then (contents old.script) (contents mid.script) (contents new.script) (spelled_lines front) (spelled_lines own) put st.part);
    all = λ f h. absurd (never f (finds f h));
    named = st.named;
    names = st.names;
  }
  own_stopped old mid new front own t u (Some fault) e put st finds steps whole =
      after_lines old new front own (front ++ own) t st.named e refl (ap contents (st.nothing_put refl) ∙ put) st.names steps

  -- what is stated of a node is written, or stops
  pub node_written : {A T : Type 0} (old mid after new : Writer S) (ls : List Line) (w : Written (List Expression)) (own : List Expression → Tables → Written A) (Shows : A → T → Type 0) (fault : Option Fault) (result : Result T WriteError)
      → contents mid.script ≡ append_known (contents old.script) (spelled_lines ls) → Wrote contents mid after w.lines w.tables → WritesOwn contents fault after new (own w.made w.tables) Shows result → Finds write_fault fault result
      → (Typed → AreObeyable enums s (ls ++ w.lines) w.tables) → (Typed → fault ≡ None → AreObeyable enums s (ls ++ (w.lines ++ (own w.made w.tables).lines)) (own w.made w.tables).tables)
      → WritesOrStopsHere contents enums Typed s old new (behind ls (w >>= own)) Shows result
  node_written old mid after new ls w own Shows fault (Ok x) put wrote writes finds steps whole =
      let both = binds w own wrote writes.0 in (
        record {
          names = both.names;
          contents_are = appends_then (contents old.script) (contents mid.script) (contents new.script) (spelled_lines ls) (spelled_lines (w >>= own).lines) put both.contents_are ∙ ap (append_known (contents old.script)) (sym (lines_append ls (w >>= own).lines));
        },
        writes.1,
      )
  node_written old mid after new ls w own Shows fault (Err e) put wrote writes finds steps whole =
      let o = own w.made w.tables in
      let same : (ls ++ w.lines) ++ o.lines ≡ ls ++ (w.lines ++ o.lines) = append_assoc ls w.lines o.lines in
      let front : contents after.script ≡ append_known (contents old.script) (spelled_lines (ls ++ w.lines)) =
      appends_then (contents old.script) (contents mid.script) (contents after.script) (spelled_lines ls) (spelled_lines w.lines) put wrote.contents_are ∙ ap (append_known (contents old.script)) (sym (lines_append ls w.lines)) in
      subst (λ (l : List Line). Stopped contents (AreObeyed enums Typed s) old new l e) same
      (own_stopped old after new (ls ++ w.lines) o.lines w.tables o.tables fault e front writes finds steps (λ typed none. subst (λ (l : List Line). AreObeyable enums s l o.tables) (sym same) (whole typed none)))

-- what stopped in a writer that has the same sink
pub stopped_here : {S : Type 0} (contents : S → Option (List ℕ)) (CanBeObeyed : List Line → Type 0) (old mid new : Writer S) (stated : List Line) (e : WriteError) → mid.script ≡ old.script → Stopped contents CanBeObeyed mid new stated e → Stopped contents CanBeObeyed old new stated e
stopped_here contents CanBeObeyed old mid new stated e same st = record {
  lines = st.lines;
  rest = st.rest;
  first = st.first;
  obeyed = st.obeyed;
  part = record { part = st.part.part; rest = st.part.rest; whole = st.part.whole; appended = st.part.appended ∙ ap (λ k. append_known (contents k) st.part.part) same };
  all = λ f h. st.all f h ∙ ap (λ k. append_known (contents k) (spelled_lines st.lines)) same;
  named = st.named;
  names = st.names;
}

pub stopped_if_here : {S T : Type 0} (contents : S → Option (List ℕ)) (CanBeObeyed : List Line → Type 0) (old mid new : Writer S) (stated : List Line) (result : Result T WriteError) → mid.script ≡ old.script → IfErr result (λ e. Stopped contents CanBeObeyed mid new stated e)
    → IfErr result (λ e. Stopped contents CanBeObeyed old new stated e)
stopped_if_here contents CanBeObeyed old mid new stated (Ok x) same st = tt
stopped_if_here contents CanBeObeyed old mid new stated (Err e) same st = stopped_here contents CanBeObeyed old mid new stated e same st

-- what holds of each error holds where there is one
pub of_errors : {T E : Type 0} (P : E → Type 0) (result : Result T E) → ((e : E) → P e) → IfErr result P
of_errors P (Ok x) h = tt
of_errors P (Err e) h = h e

pub stopped_if_err : {S A T : Type 0} (contents : S → Option (List ℕ)) (enums : Enums) (Typed : Type 0) (s : Tables) (old new : Writer S) (w : Written A) (Shows : A → T → Type 0) (result : Result T WriteError) → WritesOrStopsHere contents enums Typed s old new w Shows result
    → IfErr result (λ e. Stopped contents (AreObeyed enums Typed s) old new w.lines e)
stopped_if_err contents enums Typed s old new w Shows (Ok x) h = tt
stopped_if_err contents enums Typed s old new w Shows (Err e) h = h

-- what was written or stopped was written, where the answer is Ok
pub written_if_ok : {S A T : Type 0} (contents : S → Option (List ℕ)) (enums : Enums) (Typed : Type 0) (s : Tables) (old new : Writer S) (w : Written A) (Shows : A → T → Type 0) (result : Result T WriteError) → WritesOrStopsHere contents enums Typed s old new w Shows result → WritesHere contents old new w Shows result
written_if_ok contents enums Typed s old new w Shows (Ok x) h = h
written_if_ok contents enums Typed s old new w Shows (Err e) h = tt

-- whether it wrote or stopped, the writer has the names of some tables
pub named_after : {S A T : Type 0} (contents : S → Option (List ℕ)) (enums : Enums) (Typed : Type 0) (s : Tables) (old new : Writer S) (w : Written A) (Shows : A → T → Type 0) (result : Result T WriteError) → WritesHere contents old new w Shows result
    → IfErr result (λ e. Stopped contents (AreObeyed enums Typed s) old new w.lines e) → (t : Tables) × HasTables new t
named_after contents enums Typed s old new w Shows (Ok x) wrote stopped = (w.tables, wrote.0.names)
named_after contents enums Typed s old new w Shows (Err e) wrote stopped = (stopped.named, stopped.names)
