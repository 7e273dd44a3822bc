-- Why a script was not printed.
use Rattle.std.proofs.Common.{◌≡◌, ℕ, Option, Err, Result, refl, subst, sym, arith}
use Rattle.std.specs.Rc.{rc_str_bytes}
use Rattle.law_terms.specs.Faults.{Fault}
use Rattle.smt_script.specs.Sink.{Rose}
use Rattle.smt_term.specs.View.{plain_type}
use Rattle.smt_term.specs.Entities.{bytes_of_id, bytes_of_type}
use Rattle.smt_term.specs.PatternView.{plain_ord_pattern}
use Rattle.smt_encode.specs.Refusals.{HasCause}
use Rattle.smt_encode.specs.declared.error.EncodeError.{EncodeError}
use Rattle.smt_encode.specs.declared.error.EncodeError.TheVariants.{Io as SinkFails, Memory as EncodeWant, NoScope as NoLevel, Spent as IsSpent, EmptyEnum as EnumRefused, EncodeStringFailed as StringRefused, EncodePatternFailed as PatternRefused, EnumMissingMember as EntityRefused, ExpectRecord as NoRecordRefused, MalformedRecordGet as NoOperandRefused, MissingTypeEncoding as TypeRefused, RecordMissingAttr as AttributeRefused, BitVecError as BitsRefused}
use Rattle.smt_runs.specs.Jobs.{HasPrintCause}
use Rattle.smt_runs.specs.Refusal.{refusal_of}
use Rattle.smt_runs.specs.Runs.{Fails}
use Rattle.smt_runs.specs.declared.refusal.Refusal.{Refusal}
use Rattle.smt_runs.specs.declared.refusal.Refusal.TheVariants.{Encode, Sink, Memory}

-- The refusal of a script has its cause, where the encoder's error has.
pub print_cause : {T : Type 0} (before after : ℕ) (fault : Option Fault) (e : EncodeError) → HasCause {T = T} before after fault (Err e) → HasPrintCause fault (Rose before after) (refusal_of e)
print_cause before after fault SinkFails h = h.io refl
print_cause before after fault (EntityRefused e) h = (bytes_of_type e.ety, bytes_of_id e.id, h.member e refl)
print_cause before after fault (StringRefused text) h = (rc_str_bytes text, h.string text refl)
print_cause before after fault (PatternRefused p) h = (plain_ord_pattern p, h.pattern p refl)
print_cause before after fault (EnumRefused ety) h = (bytes_of_type ety, h.empty ety refl)
print_cause before after fault NoOperandRefused h = h.no_operand refl
print_cause before after fault (TypeRefused ty) h = (plain_type ty, h.type ty refl)
print_cause before after fault (NoRecordRefused ty) h = (plain_type ty, h.no_record ty refl)
print_cause before after fault (AttributeRefused name) h = (rc_str_bytes name, h.attribute name refl)
print_cause before after fault EncodeWant h = tt
print_cause before after fault IsSpent h = tt
print_cause before after fault NoLevel h = tt
print_cause before after fault (BitsRefused why) h = tt

-- a script in memory is refused for want of memory or a fault alone
pub memory_cause : {T : Type 0} (before after : ℕ) (fault : Option Fault) (r : Result T EncodeError) (e : EncodeError) (refusal : Refusal) → before ≡ 0 → after ≡ 0 → r ≡ Err e → refusal ≡ refusal_of e → HasCause before after fault r → HasPrintCause fault ⊥ refusal
memory_cause {T} before after fault r e refusal first last is same h =
    subst (λ (p : Refusal). HasPrintCause fault ⊥ p) (sym same)
    (no_sink (refusal_of e) (print_cause before after fault e (subst (λ (o : Result T EncodeError). HasCause before after fault o) is h)))
  where
    no_sink : (p : Refusal) → HasPrintCause fault (Rose before after) p → HasPrintCause fault ⊥ p
    no_sink (Encode kind) k = k
    no_sink Sink k = absurd (omega (arith, k, first, last))
    no_sink Memory k = tt
    no_sink p k = absurd k

-- what failed where no script was put
pub unprinted_failed : (fault : Option Fault) (source_failed failed : Type 0) (r : Refusal) → HasPrintCause fault failed r → Fails source_failed failed r
unprinted_failed fault source_failed failed (Encode kind) h = tt
unprinted_failed fault source_failed failed Sink h = h
unprinted_failed fault source_failed failed Memory h = tt
unprinted_failed fault source_failed failed r h = absurd h
