-- Lines that are put, and the lines that are stated.
use Rattle.std.proofs.Common.{◌≡◌, ℕ, List, [], ◌∷◌, ◌++◌, refl, sym, ap, ◌∙◌, subst, append-nil, Option, Result, Ok, Err}
use Rattle.std.proofs.lemmas.Grind.{flat_map-append}
use Rattle.std.specs.Io.KnownBytes.{append_known}
use Rattle.std.specs.Prelude.{codes}
use Rattle.law_lines.specs.Line.{Line, spelled_line, spelled_lines}
use Rattle.law_lines.specs.Lines.{Written, option_line, ◌>>=◌}
use Rattle.law_lines.specs.NameTables.{Tables}
use Rattle.law_texts.specs.LineTexts.{declare_datatype_text}
use Rattle.smt_script.proofs.PutsLemmas.{appends_then, appends_nothing}
use Rattle.smt_encode.specs.Steps.{HasTables, PutsLine, WritesHere, Wrote}
use Rattle.smt_spelling.specs.Names.{KeepTables}
use Rattle.smt_encode.specs.declared.writer.Writer.{Writer}
use Rattle.smt_spelling.specs.declared.names.Names.{Names}

-- the line that declares `Option`
pub option_bytes : (parameter nothing something : List ℕ) → parameter ≡ codes "X" → nothing ≡ codes "(none)" → something ≡ codes "(some (val X))"
    → declare_datatype_text (codes "Option") (parameter ∷ []) (nothing ∷ something ∷ []) ≡ spelled_line option_line
option_bytes parameter nothing something p q r = rw (p, q, r) refl

-- lines one behind the other
pub lines_append : (ls ms : List Line) → spelled_lines (ls ++ ms) ≡ spelled_lines ls ++ spelled_lines ms
lines_append ls ms = flat_map-append spelled_line ls ms

-- what was written by a writer that has the same sink
pub written_here : {S A T E : Type 0} (contents : S → Option (List ℕ)) (old mid new : Writer S) (w : Written A) (Shows : A → T → Type 0) (result : Result T E) → mid.script ≡ old.script → WritesHere contents mid new w Shows result → WritesHere contents old new w Shows result
written_here contents old mid new w Shows (Ok x) same h = (record { names = h.0.names; contents_are = h.0.contents_are ∙ ap (λ k. append_known (contents k) (spelled_lines w.lines)) same }, h.1)
written_here contents old mid new w Shows (Err e) same h = tt

module _ {S : Type 0} {contents : S → Option (List ℕ)} where
  -- nothing was written
  pub nothing_written : (e : Writer S) (s : Tables) → HasTables e s → Wrote contents e e [] s
  nothing_written e s has = record { names = has; contents_are = appends_nothing (contents e.script) }

  -- lines, and then more lines
  pub wrote_then : {old mid new : Writer S} {ls ms : List Line} {s t : Tables} → Wrote contents old mid ls s → Wrote contents mid new ms t → Wrote contents old new (ls ++ ms) t
  wrote_then {old} {mid} {new} {ls} {ms} {s} {t} p q = record {
    names = q.names;
    contents_are = appends_then (contents old.script) (contents mid.script) (contents new.script) (spelled_lines ls) (spelled_lines ms) p.contents_are q.contents_are ∙ ap (append_known (contents old.script)) (sym (lines_append ls ms));
  }

  -- what is stated in two steps is written in two steps
  pub binds : {A B : Type 0} {old mid new : Writer S} (w : Written A) (f : A → Tables → Written B) → Wrote contents old mid w.lines w.tables → Wrote contents mid new (f w.made w.tables).lines (f w.made w.tables).tables
      → Wrote contents old new (w >>= f).lines (w >>= f).tables
  binds w f p q = wrote_then p q

  -- one line that was put
  pub put : {T E : Type 0} {u : T} {old new : Writer S} {bytes : List ℕ} (line : Line) (s : Tables) → PutsLine {T = T} {E = E} contents old new bytes (Ok u) → bytes ≡ spelled_line line → HasTables old s → Wrote contents old new (line ∷ []) s
  put {old = old} {new} line s p e has = record {
    names = subst (λ (n : Names). KeepTables n s) (sym p.same_names) has;
    contents_are = p.got ∙ ap (append_known (contents old.script)) (e ∙ sym (append-nil (spelled_line line)));
  }
