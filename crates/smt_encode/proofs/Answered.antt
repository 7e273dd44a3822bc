-- What an encoder answers of the outcome of a writer that put the lines of one name.
use Rattle.std.proofs.Common.{◌≡◌, ℕ, Bool, List, refl, sym, subst, Option, Ok, Err, Result}
use Rattle.std.specs.Prelude.{IfOk, IsErrOf}
use Rattle.std.specs.declared.alloc.Global.{Global}
use Rattle.std.specs.declared.rc.RcStr.{RcStr}
use Rattle.law_texts.specs.Reading.{Expression}
use Rattle.law_lines.specs.Lines.{Written}
use Rattle.law_terms.specs.Faults.{Fault}
use Rattle.smt_script.specs.Sink.{Rose}
use Rattle.smt_script.specs.declared.sink.SinkError.TheVariants.{Fault as Failed}
use Rattle.smt_spelling.specs.TextFaults.{Finds}
use Rattle.smt_encode.specs.Alone.{encoded, PutsAlone}
use Rattle.smt_encode.specs.Encoded.{PutStated}
use Rattle.smt_encode.specs.Errors.{encode_error}
use Rattle.smt_encode.specs.Steps.{FaultCounted, WritesHere}
use Rattle.smt_spelling.specs.Spelled.{IsSpelled}
use Rattle.smt_encode.specs.declared.encoder.Encoder.{Encoder}
use Rattle.smt_encode.specs.Refusals.{write_fault, IsComplete}
use Rattle.smt_encode.specs.declared.error.EncodeError.{EncodeError}
use Rattle.smt_encode.specs.declared.error.WriteError.{WriteError}
use Rattle.smt_encode.specs.declared.error.WriteError.TheVariants.{Sink}
use Rattle.smt_encode.specs.declared.writer.Writer.{Writer}
use Rattle.smt_encode.proofs.Faulted.{is_complete}

of_outcome : {T : Type 0} {before after : ℕ} (spent : Bool) (fault : Option Fault) (outcome : Result T WriteError) → Finds write_fault fault outcome → (IsErrOf outcome (Sink Failed) → Rose before after) → IsComplete spent before after fault (encoded outcome)
of_outcome spent fault (Ok x) finds rose = record { faultless = finds; answered = λ unspent none quiet. tt }
of_outcome spent fault (Err e) finds rose = is_complete fault (Err e) e refl finds rose (Err (encode_error e)) refl

-- each answer has its cause
pub settled : {S T : Type 0} {faults : S → ℕ} {place : S → List ℕ} {fault : Option Fault} {old new : Writer S} {outcome : Result T WriteError} → FaultCounted faults place (Sink Failed) old new outcome → Finds write_fault fault outcome
    → {result : Result T EncodeError} → result ≡ encoded outcome → (spent : Bool) → IsComplete spent (faults old.script) (faults new.script) fault result
settled {S} {T} {faults} {place} {fault} {old} {new} {outcome} counted finds is spent =
    subst (λ (r : Result T EncodeError). IsComplete spent (faults old.script) (faults new.script) fault r) (sym is) (of_outcome spent fault outcome finds counted.cause)

pub complete : {S T : Type 0} {faults : S → ℕ} {place : S → List ℕ} {fault : Option Fault} {old new : Writer S} {outcome : Result T WriteError} → PutsAlone faults place fault old new outcome
    → {result : Result T EncodeError} → result ≡ encoded outcome → (spent : Bool) → IsComplete spent (faults old.script) (faults new.script) fault result
complete {S} {T} {faults} {place} {fault} {old} {new} {outcome} alone is spent = settled {faults = faults} {place = place} {old = old} {new = new} alone.counted alone.finds is spent

-- what a writer wrote, an encoder over it put
pub put_stated : {S : Type 0} (contents : S → Option (List ℕ)) (old new : Encoder S) (w : Written Expression) (outcome : Result (RcStr Global) WriteError) → WritesHere contents old.writer new.writer w IsSpelled outcome
    → {result : Result (RcStr Global) EncodeError} → result ≡ encoded outcome → IfOk result (PutStated contents old new w)
put_stated contents old new w (Ok x) wrote is =
    subst (λ (r : Result (RcStr Global) EncodeError). IfOk r (PutStated contents old new w)) (sym is) (record { got = wrote.0.contents_are; made = wrote.1; names = wrote.0.names })
put_stated contents old new w (Err e) wrote is =
    subst (λ (r : Result (RcStr Global) EncodeError). IfOk r (PutStated contents old new w)) (sym is) tt
