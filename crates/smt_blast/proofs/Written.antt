-- What is put of new terms.
use Rattle.std.proofs.Common.{◌≡◌, ◌∙◌, [], false, List, None, Ok, Err, Option, Result, Some, ap, refl, subst, sym, ℕ}
use Rattle.std.specs.Io.KnownBytes.{append_known}
use Rattle.std.specs.Prelude.{IfErr, OnOk}
use Rattle.std.proofs.lemmas.Bool.{false≢true}
use Rattle.law_lines.specs.Text.{text}
use Rattle.law_terms.specs.Plain.{PlainTerm}
use Rattle.law_terms.specs.TypeValues.{Enums}
use Rattle.smt_nodes.specs.Interned.{StandFor}
use Rattle.smt_nodes.specs.declared.id.NodeId.{NodeId}
use Rattle.smt_nodes.specs.declared.interner.Interner.{Interner}
use Rattle.smt_encode.specs.Encoded.{enums_in, sink_of, WroteText}
use Rattle.smt_encode.specs.Encoded.{is_spent, Spends}
use Rattle.smt_encode.specs.Refusals.{HasCause}
use Rattle.smt_encode.specs.declared.encoder.Encoder.{Encoder}
use Rattle.smt_encode.specs.declared.error.EncodeError.{EncodeError}
use Rattle.smt_encode.specs.declared.error.EncodeError.TheVariants.{Io, Memory, NoScope, Spent, EmptyEnum as EnumRefused, EncodeStringFailed as StringRefused, EncodePatternFailed as PatternRefused, EnumMissingMember as EntityRefused, ExpectRecord as NoRecordRefused, MalformedRecordGet as NoOperandRefused, MissingTypeEncoding as TypeRefused, RecordMissingAttr as AttributeRefused, BitVecError as BitsRefused}
use Rattle.smt_script.specs.Sink.{Rose}
use Rattle.smt_blast.specs.Causes.{HasEncodeCause}
use Rattle.law_terms.specs.Faults.{Fault, first_fault}

-- what was put of a fresh encoder without enum types, where it began with what was held
pub written : {S T E : Type 0} (contents : S → Option (List ℕ)) (old new : Encoder S) (result : Result T E) (ts : List PlainTerm) (held last : Option (List ℕ)) → enums_in old ≡ [] → contents (sink_of old) ≡ held → last ≡ contents (sink_of new)
    → OnOk result (WroteText contents old new ts) → OnOk result (last ≡ append_known held (text [] ts))
written contents old new (Ok x) ts held last enums began ends w = ends ∙ w.text ∙ ap (λ (h : Option (List ℕ)). append_known h (text (enums_in old) ts)) began ∙ ap (λ (types : Enums). append_known held (text types ts)) enums
written contents old new (Err x) ts held last enums began ends w = tt

-- the numbers stand in the same nodes under another name
pub stand_there : (i j : Interner) (ids more : List NodeId) (ts : List PlainTerm) → j ≡ i → more ≡ ids → StandFor i ids ts → StandFor j more ts
stand_there i j ids more ts same handed h = subst (λ (k : Interner). StandFor k more ts) (sym same) (subst (λ (l : List NodeId). StandFor i l ts) (sym handed) h)

-- Of an encoder that is not spent, and terms without a fault, only two errors come.
some_fault : (fault : Option Fault) → fault ≡ None → (f : Fault) → fault ≡ Some f → ⊥
some_fault fault none f e = let no : None ≡ Some f = sym none ∙ e in absurd (cc)

module _ {S T : Type 0} (old new : Encoder S) (before after : ℕ) (fault : Option Fault) (none : fault ≡ None) (unspent : is_spent old ≡ false) where
  error_caused : (e : EncodeError) → HasCause {T = T} before after fault (Err e) → Spends {T = T} old new (Err e) → HasEncodeCause (Rose before after) e
  error_caused Io h s = h.io refl
  error_caused Memory h s = tt
  error_caused (EntityRefused e) h s = absurd (some_fault fault none _ (h.member e refl))
  error_caused (StringRefused t) h s = absurd (some_fault fault none _ (h.string t refl))
  error_caused (PatternRefused p) h s = absurd (some_fault fault none _ (h.pattern p refl))
  error_caused (EnumRefused ety) h s = absurd (some_fault fault none _ (h.empty ety refl))
  error_caused NoOperandRefused h s = absurd (some_fault fault none _ (h.no_operand refl))
  error_caused (TypeRefused ty) h s = absurd (some_fault fault none _ (h.type ty refl))
  error_caused (NoRecordRefused ty) h s = absurd (some_fault fault none _ (h.no_record ty refl))
  error_caused (AttributeRefused name) h s = absurd (some_fault fault none _ (h.attribute name refl))
  error_caused Spent h s = absurd (false≢true (sym unspent ∙ s.answer.0 refl))
  error_caused NoScope h s = absurd (h.scope refl)
  error_caused (BitsRefused why) h s = absurd (h.bits why refl)

  encode_caused : (result : Result T EncodeError) → HasCause before after fault result → Spends old new result → IfErr result (HasEncodeCause (Rose before after))
  encode_caused (Ok x) h s = tt
  encode_caused (Err e) h s = error_caused e h s

-- the same where the sink is held under another name
pub encode_refused : {S T : Type 0} (faults : S → ℕ) (old new : Encoder S) (result : Result T EncodeError) (ts : List PlainTerm) (before after : ℕ) → enums_in old ≡ [] → faults (sink_of old) ≡ before → after ≡ faults (sink_of new) → first_fault [] ts ≡ None → is_spent old ≡ false
    → HasCause (faults (sink_of old)) (faults (sink_of new)) (first_fault (enums_in old) ts) result → Spends old new result → IfErr result (HasEncodeCause (Rose before after))
encode_refused faults old new result ts before after enums began ends none unspent h s =
    subst (λ (n : ℕ). IfErr result (HasEncodeCause (Rose n after))) began (subst (λ (n : ℕ). IfErr result (HasEncodeCause (Rose (faults (sink_of old)) n))) (sym ends)
    (encode_caused old new (faults (sink_of old)) (faults (sink_of new)) (first_fault (enums_in old) ts) (ap (λ (types : Enums). first_fault types ts) enums ∙ none) unspent result h s))
