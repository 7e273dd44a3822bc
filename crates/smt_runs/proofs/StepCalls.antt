-- What a step's call leaves of an encoder, in the words of a job's steps.
use Rattle.std.proofs.Common.{◌≡◌, ℕ, zero, suc, List, [], ◌∷◌, Option, Ok, Err, Result, sym, ap, ◌∙◌, subst, append-nil}
use Rattle.std.specs.Io.KnownBytes.{append_known}
use Rattle.std.specs.Prelude.{IsTrue, OnOk}
use Rattle.std.specs.declared.alloc.Global.{Global}
use Rattle.std.specs.declared.vec.Vec.{Vec}
use Rattle.law_terms.specs.Faults.{first_fault}
use Rattle.law_terms.specs.Plain.{PlainTerm}
use Rattle.law_terms.specs.TypeValues.{Enums}
use Rattle.law_lines.specs.Line.{spelled_lines}
use Rattle.law_lines.specs.Lines.{Call, EncodeCall, PopCall, PushCall, after_call, lines_of_call}
use Rattle.law_theorem.specs.Fits.{Stages, encoding_of}
use Rattle.law_theorem.proofs.FitKept.{encodings_agree}
use Rattle.law_jobs.specs.Steps.{PlainStep, AreBalanced, AssertStep, PopStep, PushStep, asserted}
use Rattle.smt_runs.specs.JobTexts.{stages_of_step, text_of_step}
use Rattle.smt_nodes.specs.Interned.{StandFor}
use Rattle.smt_nodes.specs.declared.id.NodeId.{NodeId}
use Rattle.smt_nodes.specs.declared.interner.Interner.{Interner}
use Rattle.smt_encode.specs.Encoded.{enums_in, sink_of, HasEncoding, PutCall}
use Rattle.smt_encode.specs.declared.encoder.Encoder.{Encoder}
use Rattle.smt_jobs.specs.Numbers.{step_stands, terms_of}
use Rattle.smt_jobs.specs.declared.numbered.NumberedStep.{NumberedStep}
use Rattle.smt_jobs.specs.declared.numbered.NumberedStep.TheVariants.{Assert}
use Rattle.smt_jobs.proofs.NumberedLemmas.{all_stood}

-- the call by which a step is written that is no check
abbrev IsCallOf : Call → PlainStep → Type 0
IsCallOf (EncodeCall ts) s = s ≡ AssertStep ts
IsCallOf PushCall s = s ≡ PushStep
IsCallOf PopCall s = s ≡ PopStep

text_is : (enums : Enums) (c : Call) (s : PlainStep) (x : Stages) → IsCallOf c s → spelled_lines (lines_of_call enums c (encoding_of x)) ≡ text_of_step enums s x
text_is enums (EncodeCall ts) s x is = ap (λ (t : PlainStep). text_of_step enums t x) (sym is)
text_is enums PushCall s x is = ap (λ (t : PlainStep). text_of_step enums t x) (sym is)
text_is enums PopCall s x is = ap (λ (t : PlainStep). text_of_step enums t x) (sym is)

stages_are : (enums : Enums) (c : Call) (s : PlainStep) (x : Stages) → IsCallOf c s → after_call enums c (encoding_of x) ≡ encoding_of (stages_of_step enums s x)
stages_are enums (EncodeCall ts) s x is = sym (encodings_agree enums (EncodeCall ts) x) ∙ ap (λ (t : PlainStep). encoding_of (stages_of_step enums t x)) (sym is)
stages_are enums PushCall s x is = sym (encodings_agree enums PushCall x) ∙ ap (λ (t : PlainStep). encoding_of (stages_of_step enums t x)) (sym is)
stages_are enums PopCall s x is = sym (encodings_agree enums PopCall x) ∙ ap (λ (t : PlainStep). encoding_of (stages_of_step enums t x)) (sym is)

module _ {S T E : Type 0} (contents : S → Option (List ℕ)) (old new : Encoder S) (result : Result T E) (c : Call) (s : PlainStep) (x : Stages) (is : IsCallOf c s) (put : OnOk result (PutCall contents old new c (encoding_of x))) where
  pub step_got : OnOk result (contents (sink_of new) ≡ append_known (contents (sink_of old)) (text_of_step (enums_in old) s x))
  step_got = by result put
    where
      by : (r : Result T E) → OnOk r (PutCall contents old new c (encoding_of x)) → OnOk r (contents (sink_of new) ≡ append_known (contents (sink_of old)) (text_of_step (enums_in old) s x))
      by (Ok v) p = p.got ∙ ap (append_known (contents (sink_of old))) (text_is (enums_in old) c s x is)
      by (Err e) p = tt

  pub step_stands_then : OnOk result (HasEncoding new (encoding_of (stages_of_step (enums_in old) s x)))
  step_stands_then = by result put
    where
      by : (r : Result T E) → OnOk r (PutCall contents old new c (encoding_of x)) → OnOk r (HasEncoding new (encoding_of (stages_of_step (enums_in old) s x)))
      by (Ok v) p = subst (HasEncoding new) (stages_are (enums_in old) c s x is) p.stands
      by (Err e) p = tt

-- the numbers of an assertion stand for its terms
pub assertion_stands : (nodes : Interner) (step : NumberedStep) (v : Vec NodeId Global) (slice : List NodeId) → step ≡ Assert v → IsTrue (step_stands nodes step) → slice ≡ v.items → StandFor nodes slice (terms_of nodes v.items)
assertion_stands nodes step v slice is stands same =
    subst (λ (l : List NodeId). StandFor nodes l (terms_of nodes v.items)) (sym same) (all_stood nodes v.items (subst (λ (s : NumberedStep). IsTrue (step_stands nodes s)) is stands))

-- ---- refusals

-- the terms of one assertion alone
asserted_alone : (ts : List PlainTerm) → asserted (AssertStep ts ∷ []) ≡ ts
asserted_alone ts = append-nil ts

pub fault_alone : (enums : Enums) (s : PlainStep) (ts : List PlainTerm) → s ≡ AssertStep ts → first_fault enums (asserted (s ∷ [])) ≡ first_fault enums ts
fault_alone enums s ts is = ap (λ (t : PlainStep). first_fault enums (asserted (t ∷ []))) is ∙ ap (first_fault enums) (asserted_alone ts)

-- a step that is balanced behind levels closes one that is open
pub level_open : (k : ℕ) (s : PlainStep) → s ≡ PopStep → AreBalanced k (s ∷ []) → k ≡ zero → ⊥
level_open zero s is b e = subst (λ (t : PlainStep). AreBalanced zero (t ∷ [])) is b
level_open (suc k) s is b e = cc
