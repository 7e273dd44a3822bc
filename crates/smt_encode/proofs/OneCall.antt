-- What a call put is a step of the main theorem.
use Rattle.std.proofs.Common.{◌≡◌, ◌⊎◌, inl, inr, ◌+◌, ℕ, Bool, true, false, List, [], ◌∷◌, ◌++◌, length, refl, sym, ap, subst, ◌∙◌, append-nil, Option, Some, None, Result, Ok, Err}
use Rattle.std.specs.Prelude.{IfErr, unwrap_or}
use Rattle.std.specs.Result.{IsErrAnd}
use Rattle.std.proofs.lemmas.Bool.{false≢true}
use Rattle.std.specs.Io.KnownBytes.{append_known}
use Rattle.smt_term.specs.Enums.{enums_of}
use Rattle.smt_term.specs.declared.enums.EnumTable.{EnumTable}
use Rattle.smt_term.proofs.AscendingTexts.{members_ascend}
use Rattle.law_terms.specs.TypeValues.{Enums}
use Rattle.law_lines.specs.Calls.{HasBelow}
use Rattle.law_lines.specs.Line.{Line, Pop, spelled_lines}
use Rattle.law_lines.specs.Lines.{Call, Encoding, PopCall, beginning, lines_of_call, popped}
use Rattle.law_lines.specs.NameTables.{Tables}
use Rattle.law_theorem.specs.Conditions.{IsCallOfConditions}
use Rattle.law_theorem.specs.Fits.{Stages, Fits, encoding_of, new_stages, stages_after}
use Rattle.law_theorem.specs.WellWritten.{IsWellWritten, most_for_call}
use Rattle.law_theorem.proofs.Calls.{calls_keep_well_written}
use Rattle.law_theorem.proofs.FitKept.{calls_keep_fit, empty_text_fits, encodings_agree}
use Rattle.std.specs.List.{AllZip}
use Rattle.smt_nodes.specs.declared.interner.Interner.{Interner}
use Rattle.smt_spelling.specs.NodeTexts.{kept_below, Kept}
use Rattle.smt_spelling.specs.Names.{enums_under, levels_under, nodes_under, texts_under, AreKept, KeepLevels}
use Rattle.smt_spelling.specs.declared.names.Names.{Names}
use Rattle.smt_spelling.proofs.LevelTables.{levels_counted}
use Rattle.smt_encode.specs.Encoded.{enums_in, has_begun, levels_of, sink_of, FitsEncoder, HasEncoding, OfReceived, PutCall}
use Rattle.smt_encode.specs.Errors.{encode_error}
use Rattle.smt_encode.specs.Interrupted.{may_cut, Interrupted}
use Rattle.smt_encode.specs.Refusals.{write_fault}
use Rattle.smt_encode.specs.Steps.{Wrote}
use Rattle.smt_encode.specs.declared.error.EncodeError.{EncodeError}
use Rattle.smt_encode.specs.declared.error.WriteError.{WriteError}
use Rattle.smt_encode.specs.declared.error.WriteError.TheVariants.{Selector, Sink, Text}
use Rattle.smt_script.proofs.PutsLemmas.{appends_nothing}
use Rattle.smt_script.specs.Sink.{AppendsPart}
use Rattle.smt_script.specs.declared.sink.SinkError.TheVariants.{Fault as Failed, Memory as NoRoom}
use Rattle.smt_spelling.specs.declared.error.TextError.TheVariants.{MissingMember, StringFailed, PatternFailed, EmptyEnum as NoMembers, Memory as NoMemory}
use Rattle.smt_spelling.specs.declared.selector_error.SelectorError.TheVariants.{Lacks, NoOperand, NoRecord, Unnamed, Memory as NoSpace}
use Rattle.law_scripts.specs.Written.{IsOpenScript}
use Rattle.law_terms.specs.Faults.{Fault}
use Rattle.smt_spelling.specs.TextFaults.{Finds}
use Rattle.smt_encode.specs.declared.encoder.Encoder.{Encoder}
use Rattle.smt_encode.specs.declared.writer.Writer.{Writer}

-- ---- the beginning

-- what was written where the script is begun or not
pub begun_wrote : {S : Type 0} {contents : S → Option (List ℕ)} {old new : Writer S} {s : Tables} (a b : Bool) (ls : List Line) → a ≡ b → Wrote contents old new (beginning a ++ ls) s → Wrote contents old new (beginning b ++ ls) s
begun_wrote {contents = contents} {old} {new} {s} a b ls same w = subst (λ (c : Bool). Wrote contents old new (beginning c ++ ls) s) same w

-- ---- an encoder that has written nothing

pub empty_fits : {S : Type 0} (e : Encoder S) (table : EnumTable) → enums_in e ≡ enums_of table → HasEncoding e (encoding_of new_stages) → FitsEncoder e [] new_stages
empty_fits e table is stands = record { fits = subst (λ (x : Enums). Fits x [] new_stages) (sym is) (empty_text_fits (enums_of table) (members_ascend table)); stands = stands }

-- ---- one call more

known : (o n bytes : List ℕ) (before after : Option (List ℕ)) → before ≡ Some o → after ≡ Some n → after ≡ append_known before bytes → n ≡ o ++ bytes
known o n bytes before after was is put =
    let e : ◌≡◌ {A = Option (List ℕ)} (Some n) (Some (o ++ bytes)) = sym is ∙ put ∙ ap (λ (x : Option (List ℕ)). append_known x bytes) was in
    ap (λ (x : Option (List ℕ)). unwrap_or x n) e

module _ {S : Type 0} (contents : S → Option (List ℕ)) (old new : Encoder S) (c : Call) (enums : enums_in new ≡ enums_in old) (text : List ℕ) (x : Stages)
    (f : FitsEncoder old text x) (good : IsCallOfConditions (enums_in old) c (encoding_of x)) (put : PutCall contents old new c (encoding_of x)) where
  abbrev written : List ℕ
  written = spelled_lines (lines_of_call (enums_in old) c (encoding_of x))

  pub keeps_fit : OfReceived (contents (sink_of old)) (contents (sink_of new)) (λ bytes. FitsEncoder new (text ++ bytes) (stages_after (enums_in old) c x))
  keeps_fit o n was is = (
    written,
    known o n written (contents (sink_of old)) (contents (sink_of new)) was is put.got,
    record {
      fits = subst (λ (e : Enums). Fits e (text ++ written) (stages_after (enums_in old) c x)) (sym enums) (calls_keep_fit (enums_in old) text x c f.fits good);
      stands = subst (λ (y : Encoding). HasEncoding new y) (sym (encodings_agree (enums_in old) c x)) put.stands;
    },
  )

  pub keeps_well_written : (most : ℕ) → IsWellWritten (enums_in old) text x.now.terms x.now.tables most
      → OfReceived (contents (sink_of old)) (contents (sink_of new)) (λ bytes. IsWellWritten (enums_in old) (text ++ bytes) (stages_after (enums_in old) c x).now.terms (stages_after (enums_in old) c x).now.tables (most + (length (beginning x.begun) + most_for_call c)))
  keeps_well_written most w o n was is = (
    written,
    known o n written (contents (sink_of old)) (contents (sink_of new)) was is put.got,
    calls_keep_well_written (enums_in old) text x c most f.fits good w,
  )

-- ---- levels

-- what the names were at the moment of each open push stays where this stays
pub levels_stay : (old new : Names) (below : List Tables) → enums_under new ≡ enums_under old → nodes_under new ≡ nodes_under old → kept_below (texts_under new) ≡ kept_below (texts_under old) → KeepLevels old below → KeepLevels new below
levels_stay old new below enums nodes kept h =
    subst (λ (e : Enums). AllZip (AreKept e (nodes_under new)) (kept_below (texts_under new)) below) (sym enums)
    (subst (λ (i : Interner). AllZip (AreKept (enums_under old) i) (kept_below (texts_under new)) below) (sym nodes)
    (subst (λ (ks : List Kept). AllZip (AreKept (enums_under old) (nodes_under old)) ks below) (sym kept) h))

-- where a level is open there are names below
pub has_below : (n : Names) (below : List Tables) → KeepLevels n below → ¬ (levels_under n ≡ 0) → HasBelow below
has_below n [] keep some = absurd (some (levels_counted n [] keep))
has_below n (s ∷ below) keep some = tt

-- What a pop put, and the names that were those of the moment of its push.
pub popped_stands : {S : Type 0} (contents : S → Option (List ℕ)) (old new : Encoder S) (x : Encoding) → HasEncoding old x → ¬ (levels_of old ≡ 0) → has_begun new ≡ has_begun old
    → ((s : Tables) (below : List Tables) → KeepLevels old.writer.names (s ∷ below) → Wrote contents old.writer new.writer (Pop ∷ []) s × KeepLevels new.writer.names below) → PutCall contents old new PopCall x
popped_stands contents old new x has some begun wrote = by x.below refl
  where
    by : (below : List Tables) → x.below ≡ below → PutCall contents old new PopCall x
    by [] is = absurd (some (levels_counted old.writer.names x.below has.below ∙ ap length is))
    by (s ∷ below) is =
        let w = wrote s below (subst (λ (b : List Tables). KeepLevels old.writer.names b) is has.below) in
        record {
          got = w.0.contents_are;
          stands = subst (λ (b : List Tables). HasEncoding new (popped b x)) (sym is) (record { tables = w.0.names; below = w.1; begun = begun ∙ has.begun });
        }

-- ---- an error of a level

-- an error names a fault of the terms, or may cut a line
pub cut_or_fault : (e : WriteError) → (may_cut (encode_error e) ≡ true) ⊎ ((f : Fault) × (write_fault e ≡ Some f))
cut_or_fault (Sink Failed) = inl refl
cut_or_fault (Sink NoRoom) = inl refl
cut_or_fault (Text (StringFailed s)) = inr (_, refl)
cut_or_fault (Text (PatternFailed p)) = inr (_, refl)
cut_or_fault (Text (MissingMember y)) = inr (_, refl)
cut_or_fault (Text (NoMembers y)) = inr (_, refl)
cut_or_fault (Text NoMemory) = inl refl
cut_or_fault (Selector NoOperand) = inr (_, refl)
cut_or_fault (Selector (Unnamed y)) = inr (_, refl)
cut_or_fault (Selector (NoRecord y)) = inr (_, refl)
cut_or_fault (Selector (Lacks y)) = inr (_, refl)
cut_or_fault (Selector NoSpace) = inl refl

-- where nothing was put
pub not_put : {S : Type 0} (contents : S → Option (List ℕ)) (old new : Encoder S) (text : List ℕ) (x : Stages) (stated : List Line) (e : EncodeError) → FitsEncoder old text x → sink_of new ≡ sink_of old → Interrupted contents old new text stated e
not_put contents old new text x stated e f same = record {
  lines = [];
  rest = stated;
  first = refl;
  state = f.fits.state;
  script = subst (λ (bytes : List ℕ). IsOpenScript bytes f.fits.state) (sym (append-nil text)) f.fits.script;
  part = record { part = []; rest = []; whole = refl; appended = nothing };
  whole = λ h. nothing;
}
  where
    nothing : contents (sink_of new) ≡ append_known (contents (sink_of old)) []
    nothing = ap contents same ∙ appends_nothing (contents (sink_of old))

-- A call of which all lines make a script put a first part of them.
pub all_cut : {S : Type 0} (contents : S → Option (List ℕ)) (old new : Encoder S) (c : Call) (text : List ℕ) (x : Stages) (e : WriteError) (r : EncodeError) → FitsEncoder old text x → IsCallOfConditions (enums_in old) c (encoding_of x) → r ≡ encode_error e → ((f : Fault) → write_fault e ≡ Some f → ⊥)
    → AppendsPart (contents (sink_of old)) (contents (sink_of new)) (spelled_lines (lines_of_call (enums_in old) c (encoding_of x))) → Interrupted contents old new text (lines_of_call (enums_in old) c (encoding_of x)) r
all_cut contents old new c text x e r f good is none part =
    let g = calls_keep_fit (enums_in old) text x c f.fits good in
    record {
      lines = lines_of_call (enums_in old) c (encoding_of x);
      rest = [];
      first = append-nil (lines_of_call (enums_in old) c (encoding_of x));
      state = g.state;
      script = g.script;
      part = part;
      whole = λ h. absurd (no_whole (cut_or_fault e) h);
    }
  where
    no_whole : (may_cut (encode_error e) ≡ true) ⊎ ((f : Fault) × (write_fault e ≡ Some f)) → may_cut r ≡ false → ⊥
    no_whole (inl cut) h = false≢true (sym h ∙ ap may_cut is ∙ cut)
    no_whole (inr (fault, names)) h = none fault names

-- an error that is handed on
pub if_err_is : {T E : Type 0} (P : E → Type 0) (result : Result T E) (e : E) → IsErrAnd result (λ y. y ≡ e) → P e → IfErr result P
if_err_is P (Ok x) e h p = absurd h
if_err_is P (Err y) e h p = subst P (sym h) p

-- where there is no fault, an error names none
pub names_none : {T : Type 0} (outcome : Result T WriteError) (e : WriteError) → outcome ≡ Err e → Finds write_fault None outcome → (f : Fault) → write_fault e ≡ Some f → ◌≡◌ {A = Option Fault} None (Some f)
names_none {T} outcome e is finds = subst (λ (r : Result T WriteError). Finds write_fault None r) is finds
