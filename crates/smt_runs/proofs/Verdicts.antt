-- One check of a dialogue, and the word of its answer.
use Rattle.std.proofs.Common.{◌≡◌, ℕ, List, [], ◌++◌, Option, Ok, Err, Result, refl, sym, ap, ◌∙◌, subst, inl, inr, append-nil}
use Rattle.std.specs.Io.KnownBytes.{append_known}
use Rattle.std.specs.Prelude.{IfErr, IsErrAnd, IsErrOf, OnErr}
use Rattle.smt_script.specs.CommandTexts.{check_sat_text}
use Rattle.smt_script.specs.Sink.{AppendsPart, Rose}
use Rattle.smt_script.specs.declared.sink.SinkError.{SinkError}
use Rattle.smt_script.specs.declared.sink.SinkError.TheVariants.{Fault as SinkFault, Memory as SinkWant}
use Rattle.smt_solve.specs.Link.{LinkState}
use Rattle.smt_solve.specs.Question.{BeginsExchange}
use Rattle.smt_solve.specs.declared.answer.Decision.{Decision}
use Rattle.smt_pool.specs.Dialogue.{AnswersNext, RefusesNext}
use Rattle.smt_pool.specs.declared.check_error.CheckError.{CheckError}
use Rattle.smt_pool.specs.declared.check_error.CheckError.TheVariants.{Start as NoStart, Session as NoSession, Memory as CheckWant}
use Rattle.smt_runs.specs.Asking.{verdict_line}
use Rattle.smt_runs.specs.Refusal.{check_refusal, sink_refusal}
use Rattle.smt_runs.specs.Speaking.{SpeaksInPart, SpeaksNext, StopsSpeaking}

-- what holds of the refusal that an error became
pub by_refusal : {T R : Type 0} (P : R → Type 0) (result : Result T R) (r : R) → IsErrAnd result (λ x. x ≡ r) → P r → IfErr result P
by_refusal P (Ok y) r e h = tt
by_refusal P (Err x) r e h = subst P (sym e) h

module _ (allows : List ℕ → List ℕ → List ℕ → Type 0) (old new : LinkState) (held : Option (List ℕ)) (failed : Type 0) (lines : List ℕ) (begun : BeginsExchange old new (lines ++ check_sat_text)) where
  pub not_answered : (e : CheckError) → RefusesNext old new lines e → StopsSpeaking allows old new held held failed lines (check_refusal e)
  not_answered NoStart h = h
  not_answered (NoSession kind) h = (h, begun, refl)
  not_answered CheckWant h = inl (begun, refl)

module _ (old new : LinkState) (allows : List ℕ → List ℕ → List ℕ → Type 0) (lines : List ℕ) (d : Decision) (answered : AnswersNext allows old new lines d) where
  put_in_part : (held now : Option (List ℕ)) → AppendsPart held now (verdict_line d) → SpeaksInPart allows old new held now lines
  put_in_part held now part checks rest has gave = (let a = answered checks rest has gave in (a.0, d, a.1, a.2, part))

  -- the word was not put, or not handed on
  pub not_put : (held now : Option (List ℕ)) (before after : ℕ) (e : SinkError) → (e ≡ SinkFault → Rose before after) → AppendsPart held now (verdict_line d) → StopsSpeaking allows old new held now (Rose before after) lines (sink_refusal e)
  not_put held now before after SinkFault rose part = (rose refl, put_in_part held now part)
  not_put held now before after SinkWant rose part = inr (put_in_part held now part)

  pub put_whole : (held now : Option (List ℕ)) → now ≡ append_known held (verdict_line d) → SpeaksNext allows old new held now lines
  put_whole held now put checks rest has gave = (let a = answered checks rest has gave in (a.0, d, a.1, a.2, put))

-- all of a text is a first part of it
pub whole_part : (held now : Option (List ℕ)) (text : List ℕ) → now ≡ append_known held text → AppendsPart held now text
whole_part held now text put = record { part = text; rest = []; whole = append-nil text; appended = put }

-- a fault of a sink is one of its error
pub fault_is : {T : Type 0} (r : Result T SinkError) (e : SinkError) → r ≡ Err e → e ≡ SinkFault → IsErrOf r SinkFault
fault_is r e was is = was ∙ ap (λ (x : SinkError). Err x) is

-- an error put a first part
pub part_put : {T : Type 0} (held now : Option (List ℕ)) (text line : List ℕ) (r : Result T SinkError) (e : SinkError) → r ≡ Err e → line ≡ text → OnErr r (AppendsPart held now line) → AppendsPart held now text
part_put {T} held now text line r e was is h = subst (AppendsPart held now) is (subst (λ (o : Result T SinkError). OnErr o (AppendsPart held now line)) was h)
