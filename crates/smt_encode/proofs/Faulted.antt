-- Errors inside and the faults that they name, in the answer of a whole walk or of a call that writes lines alone.
use Rattle.std.proofs.Common.{◌≡◌, ℕ, Bool, refl, sym, ap, ◌∙◌, subst, Option, None, Some, Ok, Err, Result}
use Rattle.std.specs.Prelude.{IsErrOf, OnOk}
use Rattle.std.specs.Result.{IsErrAnd}
use Rattle.std.specs.Rc.{rc_str_bytes}
use Rattle.law_terms.specs.Faults.{Fault, EmptyEnum, EncodeStringFailed, EncodePatternFailed, EnumMissingMember, ExpectRecord, MalformedRecordGet, MissingTypeEncoding, RecordMissingAttr}
use Rattle.smt_script.specs.Sink.{Rose}
use Rattle.smt_script.specs.declared.sink.SinkError.TheVariants.{Fault as Failed, Memory as NoRoom}
use Rattle.smt_term.specs.Entities.{bytes_of_id, bytes_of_type}
use Rattle.smt_term.specs.PatternView.{plain_ord_pattern}
use Rattle.smt_encode.specs.Errors.{encode_error}
use Rattle.smt_encode.specs.Refusals.{write_fault, HasCause, IsComplete}
use Rattle.smt_spelling.specs.TextFaults.{Finds}
use Rattle.smt_bits.specs.declared.error.BitVecError.{BitVecError}
use Rattle.smt_encode.specs.declared.error.EncodeError.{EncodeError}
use Rattle.smt_encode.specs.declared.error.EncodeError.TheVariants.{Io, Spent, Memory, NoScope, EmptyEnum as EnumRefused, EncodeStringFailed as StringRefused, EncodePatternFailed as PatternRefused, EnumMissingMember as EntityRefused, ExpectRecord as NoRecordRefused, MalformedRecordGet as NoOperandRefused, MissingTypeEncoding as TypeRefused, RecordMissingAttr as AttributeRefused, BitVecError as BitsRefused}
use Rattle.smt_spelling.specs.declared.error.TextError.TheVariants.{MissingMember, StringFailed, PatternFailed, EmptyEnum as NoMembers, Memory as NoMemory}
use Rattle.smt_encode.specs.declared.error.WriteError.{WriteError}
use Rattle.smt_encode.specs.declared.error.WriteError.TheVariants.{Selector, Sink, Text}
use Rattle.smt_spelling.specs.declared.selector_error.SelectorError.TheVariants.{Lacks, NoOperand, NoRecord, Unnamed, Memory as NoSpace}
use Rattle.smt_term.specs.View.{plain_type}

-- ---- errors

-- what Ok says, where the answer is Ok
pub at_ok : {T E P : Type 0} (r : Result T E) (x : T) → r ≡ Ok x → OnOk r P → P
at_ok {T} {E} {P} r x is h = subst (λ (q : Result T E). OnOk q P) is h

-- the sink's fault alone is `Io`
pub failed_is_io : (e : WriteError) → encode_error e ≡ Io → e ≡ Sink Failed
failed_is_io (Sink Failed) is = refl
failed_is_io (Sink NoRoom) is = absurd (cc)
failed_is_io (Text (StringFailed s)) is = absurd (cc)
failed_is_io (Text (PatternFailed p)) is = absurd (cc)
failed_is_io (Text (MissingMember x)) is = absurd (cc)
failed_is_io (Text (NoMembers x)) is = absurd (cc)
failed_is_io (Text NoMemory) is = absurd (cc)
failed_is_io (Selector NoOperand) is = absurd (cc)
failed_is_io (Selector (Unnamed x)) is = absurd (cc)
failed_is_io (Selector (NoRecord x)) is = absurd (cc)
failed_is_io (Selector (Lacks x)) is = absurd (cc)
failed_is_io (Selector NoSpace) is = absurd (cc)

-- what was begun does not say that it was spent
pub never_spent : (e : WriteError) → encode_error e ≡ Spent → ⊥
never_spent (Sink Failed) is = cc
never_spent (Sink NoRoom) is = cc
never_spent (Text (StringFailed s)) is = cc
never_spent (Text (PatternFailed p)) is = cc
never_spent (Text (MissingMember x)) is = cc
never_spent (Text (NoMembers x)) is = cc
never_spent (Text NoMemory) is = cc
never_spent (Selector NoOperand) is = cc
never_spent (Selector (Unnamed x)) is = cc
never_spent (Selector (NoRecord x)) is = cc
never_spent (Selector (Lacks x)) is = cc
never_spent (Selector NoSpace) is = cc

-- the fault that an answer names
abbrev answered_fault : EncodeError → Option Fault
answered_fault (StringRefused text) = Some (EncodeStringFailed (rc_str_bytes text))
answered_fault (PatternRefused p) = Some (EncodePatternFailed (plain_ord_pattern p))
answered_fault (EnumRefused ety) = Some (EmptyEnum (bytes_of_type ety))
answered_fault (EntityRefused x) = Some (EnumMissingMember (bytes_of_type x.ety) (bytes_of_id x.id))
answered_fault NoOperandRefused = Some MalformedRecordGet
answered_fault (TypeRefused ty) = Some (MissingTypeEncoding (plain_type ty))
answered_fault (NoRecordRefused ty) = Some (ExpectRecord (plain_type ty))
answered_fault (AttributeRefused name) = Some (RecordMissingAttr (rc_str_bytes name))
answered_fault e = None

-- is that of the error inside
same_fault : (e : WriteError) → write_fault e ≡ answered_fault (encode_error e)
same_fault (Sink Failed) = refl
same_fault (Sink NoRoom) = refl
same_fault (Text (StringFailed s)) = refl
same_fault (Text (PatternFailed p)) = refl
same_fault (Text (MissingMember x)) = refl
same_fault (Text (NoMembers x)) = refl
same_fault (Text NoMemory) = refl
same_fault (Selector NoOperand) = refl
same_fault (Selector (Unnamed x)) = refl
same_fault (Selector (NoRecord x)) = refl
same_fault (Selector (Lacks x)) = refl
same_fault (Selector NoSpace) = refl

-- no error of a walk is one of bitvectors
no_bits : (e : WriteError) (x : BitVecError) → encode_error e ≡ BitsRefused x → ⊥
no_bits (Sink Failed) x is = cc
no_bits (Sink NoRoom) x is = cc
no_bits (Text (StringFailed s)) x is = cc
no_bits (Text (PatternFailed p)) x is = cc
no_bits (Text (MissingMember y)) x is = cc
no_bits (Text (NoMembers y)) x is = cc
no_bits (Text NoMemory) x is = cc
no_bits (Selector NoOperand) x is = cc
no_bits (Selector (Unnamed y)) x is = cc
no_bits (Selector (NoRecord y)) x is = cc
no_bits (Selector (Lacks y)) x is = cc
no_bits (Selector NoSpace) x is = cc

-- nor one of a level
no_scope : (e : WriteError) → encode_error e ≡ NoScope → ⊥
no_scope (Sink Failed) is = cc
no_scope (Sink NoRoom) is = cc
no_scope (Text (StringFailed s)) is = cc
no_scope (Text (PatternFailed p)) is = cc
no_scope (Text (MissingMember y)) is = cc
no_scope (Text (NoMembers y)) is = cc
no_scope (Text NoMemory) is = cc
no_scope (Selector NoOperand) is = cc
no_scope (Selector (Unnamed y)) is = cc
no_scope (Selector (NoRecord y)) is = cc
no_scope (Selector (Lacks y)) is = cc
no_scope (Selector NoSpace) is = cc

module _ (fault : Option Fault) where
  -- ---- answers of a whole walk

  -- on Ok there is no fault
  pub ok_without_fault : {T : Type 0} (walk : Result T WriteError) (x : T) → walk ≡ Ok x → Finds write_fault fault walk → fault ≡ None
  ok_without_fault {T} walk x is walked = subst (λ (r : Result T WriteError). Finds write_fault fault r) is walked

  -- a refusal names the first fault
  is_first : (e : WriteError) (r : EncodeError) (f : Fault) → answered_fault r ≡ Some f → ((f : Fault) → write_fault e ≡ Some f → fault ≡ Some f) → encode_error e ≡ r → fault ≡ Some f
  is_first e r f k h is = h f (same_fault e ∙ (ap answered_fault is ∙ k))

  -- without a fault of the terms or the sink there is one refusal
  pub only_memory : {P : Type 0} (e : WriteError) → ((f : Fault) → write_fault e ≡ Some f → fault ≡ Some f) → fault ≡ None → (e ≡ Sink Failed → P) → (P → ⊥) → encode_error e ≡ Memory
  only_memory (Sink Failed) h none failed quiet = absurd (quiet (failed refl))
  only_memory (Sink NoRoom) h none failed quiet = refl
  only_memory (Text (StringFailed s)) h none failed quiet = let f = sym none ∙ h _ refl in absurd (cc)
  only_memory (Text (PatternFailed p)) h none failed quiet = let f = sym none ∙ h _ refl in absurd (cc)
  only_memory (Text (MissingMember x)) h none failed quiet = let f = sym none ∙ h _ refl in absurd (cc)
  only_memory (Text (NoMembers x)) h none failed quiet = let f = sym none ∙ h _ refl in absurd (cc)
  only_memory (Text NoMemory) h none failed quiet = refl
  only_memory (Selector NoOperand) h none failed quiet = let f = sym none ∙ h _ refl in absurd (cc)
  only_memory (Selector (Unnamed x)) h none failed quiet = let f = sym none ∙ h _ refl in absurd (cc)
  only_memory (Selector (NoRecord x)) h none failed quiet = let f = sym none ∙ h _ refl in absurd (cc)
  only_memory (Selector (Lacks x)) h none failed quiet = let f = sym none ∙ h _ refl in absurd (cc)
  only_memory (Selector NoSpace) h none failed quiet = refl

  -- ---- an error of the walk, handed on

  names_first : {T : Type 0} (walk : Result T WriteError) (e : WriteError) → walk ≡ Err e → Finds write_fault fault walk
      → (f : Fault) → write_fault e ≡ Some f → fault ≡ Some f
  names_first {T} walk e is walked = subst (λ (r : Result T WriteError). Finds write_fault fault r) is walked

  module _ {T U : Type 0} {before after : ℕ} (walk : Result T WriteError) (e : WriteError) (is : walk ≡ Err e)
      (walked : Finds write_fault fault walk) (rose : IsErrOf walk (Sink Failed) → Rose before after) where
    pub has_cause : (result : Result U EncodeError) → IsErrAnd result (λ y. y ≡ encode_error e) → HasCause before after fault result
    has_cause (Ok x) same = absurd same
    has_cause (Err y) same = record {
      io = λ i. rose (is ∙ ap Err (failed_is_io e (sym same ∙ cc)));
      string = λ text i. is_first e (StringRefused text) _ refl (names_first walk e is walked) (sym same ∙ cc);
      pattern = λ p i. is_first e (PatternRefused p) _ refl (names_first walk e is walked) (sym same ∙ cc);
      empty = λ ety i. is_first e (EnumRefused ety) _ refl (names_first walk e is walked) (sym same ∙ cc);
      member = λ x i. is_first e (EntityRefused x) _ refl (names_first walk e is walked) (sym same ∙ cc);
      no_operand = λ i. is_first e NoOperandRefused _ refl (names_first walk e is walked) (sym same ∙ cc);
      type = λ ty i. is_first e (TypeRefused ty) _ refl (names_first walk e is walked) (sym same ∙ cc);
      no_record = λ ty i. is_first e (NoRecordRefused ty) _ refl (names_first walk e is walked) (sym same ∙ cc);
      attribute = λ name i. is_first e (AttributeRefused name) _ refl (names_first walk e is walked) (sym same ∙ cc);
      bits = λ x i. no_bits e x (sym same ∙ cc);
      scope = λ i. no_scope e (sym same ∙ cc);
    }

    pub is_complete : {spent : Bool} (result : Result U EncodeError) → IsErrAnd result (λ y. y ≡ encode_error e) → IsComplete spent before after fault result
    is_complete (Ok x) same = absurd same
    is_complete (Err y) same = record { faultless = tt; answered = λ unspent none quiet. same ∙ only_memory e (names_first walk e is walked) none (λ f. rose (is ∙ ap Err f)) quiet }
