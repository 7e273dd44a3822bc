-- What a run is asked for and does.
use Rattle.std.proofs.Common.{◌≡◌, ℕ, ◌<◌, ◌≤◌, List, [], ◌∷◌, Option, Some, None, codes, length, get_or, refl, sym, ap, ◌∙◌, subst, arith}
use Rattle.std.specs.Io.KnownBytes.{append_known}
use Rattle.std.specs.Prelude.{IfSome}
use Rattle.std.specs.Rc.{rc_str_bytes}
use Rattle.std.specs.declared.alloc.Global.{Global}
use Rattle.std.specs.declared.rc.RcStr.{RcStr}
use Rattle.law_texts.specs.SharedTexts.{texts}
use Rattle.law_terms.specs.Faults.{first_fault}
use Rattle.law_terms.specs.Plain.{PlainTerm}
use Rattle.law_jobs.specs.Jobs.{IsBuiltFrom, PlainJob, fault_of}
use Rattle.law_jobs.specs.Steps.{Section, asserted}
use Rattle.law_jobs.proofs.Steps.{asserted_built}
use Rattle.smt_runs.specs.JobTexts.{text_of_job}
use Rattle.smt_runs.proofs.Meaning.{jobs_are_writable, writable_steps_mean}
use Rattle.law_texts.proofs.SameTexts.{other_text}
use Rattle.smt_runs.specs.Jobs.{HasFaultOf, HasPrintCause, HasReadCause, IsAJob, IsFaultOf}
use Rattle.smt_runs.specs.Pieces.{PutsSteps}
use Rattle.smt_runs.specs.declared.refusal.EncodeRefusal.{EncodeRefusal}
use Rattle.smt_runs.specs.declared.refusal.Refusal.{Refusal}
use Rattle.smt_runs.specs.declared.refusal.Refusal.TheVariants.{Job, Encode, Source, Sink, Memory}
use Rattle.smt_cli.specs.Causes.{WhyNotPrinted}
use Rattle.smt_cli.specs.Run.{Prints}
use Rattle.smt_cli.specs.Words.{commanded, generate_by, generation_named}
use Rattle.smt_cli.specs.declared.command.Command.{Command}
use Rattle.smt_cli.proofs.Asking.{faultless_read}

-- a word that is no command
pub unasked : (words : List (RcStr Global)) (word : RcStr Global) (w : List ℕ) → 1 ≤ length words → length words < 2 → word ≡ get_or words 0 word → w ≡ rc_str_bytes word → (w ≡ codes "script" → ⊥) → None ≡ commanded (texts words)
unasked (x ∷ []) word w l m p q a =
    let e : rc_str_bytes x ≡ w = sym (q ∙ ap (λ (t : RcStr Global). rc_str_bytes t) p) in
    rw (e, other_text w (codes "script") a) refl
unasked [] word w l m p q a = absurd (omega (arith, l))
unasked (x ∷ y ∷ words) word w l m p q a = absurd (omega (arith, m))

-- words that begin with another than `check`
pub unchecked : (words : List (RcStr Global)) (word : RcStr Global) (w : List ℕ) (asked : Option Command) → 2 ≤ length words → word ≡ get_or words 0 word → w ≡ rc_str_bytes word → (w ≡ codes "check" → ⊥)
    → asked ≡ generate_by (generation_named (texts words)) → asked ≡ commanded (texts words)
unchecked (x ∷ y ∷ words) word w asked l p q other e = e ∙ sym (rw (sym (q ∙ ap (λ (t : RcStr Global). rc_str_bytes t) p), other_text w (codes "check") other) refl)
unchecked [] word w asked l p q other e = absurd (omega (arith, l))
unchecked (x ∷ []) word w asked l p q other e = absurd (omega (arith, l))

-- three words that begin with another than `gen`
pub ungenerated : (words : List (RcStr Global)) (word : RcStr Global) (w : List ℕ) → 3 ≤ length words → length words < 4 → word ≡ get_or words 0 word → w ≡ rc_str_bytes word → (w ≡ codes "gen" → ⊥) → None ≡ generation_named (texts words)
ungenerated (x ∷ y ∷ z ∷ []) word w l m p q other = sym (rw (sym (q ∙ ap (λ (t : RcStr Global). rc_str_bytes t) p), other_text w (codes "gen") other) refl)
ungenerated [] word w l m p q other = absurd (omega (arith, l))
ungenerated (x ∷ []) word w l m p q other = absurd (omega (arith, l))
ungenerated (x ∷ y ∷ []) word w l m p q other = absurd (omega (arith, l))
ungenerated (x ∷ y ∷ z ∷ t ∷ words) word w l m p q other = absurd (omega (arith, m))

-- what was read whole is a job whose script was put
pub prints : (remaining : Option (List ℕ)) (section : Section) (job : PlainJob) (old new : Option (List ℕ)) → IfSome remaining (λ bytes. IsBuiltFrom bytes section job) → PutsSteps job.enums old new job.steps → IfSome remaining (Prints old new)
prints None section job old new is put = tt
prints (Some bytes) section job old new is put =
    let none : fault_of is.written ≡ None = faultless_read job is.written is.is_built put.faultless in
    record {
      job = is.written;
      is_job = is.is_job;
      faultless = none;
      printed = put.got ∙ ap (λ (j : PlainJob). append_known old (text_of_job j.enums j.steps)) is.is_built;
      means = writable_steps_mean is.written.enums is.written.steps (jobs_are_writable.of_job bytes is.written is.is_job none);
    }

-- a fault of what is built is one of the job
fault_in : (left : Option (List ℕ)) (section : Section) (job : PlainJob) (kind : EncodeRefusal) → IfSome left (λ bytes. IsBuiltFrom bytes section job) → IsFaultOf kind (first_fault job.enums (asserted job.steps)) → IfSome left (HasFaultOf kind)
fault_in None section job kind is h = tt
fault_in (Some bytes) section job kind is h =
    (is.written, is.is_job, subst (λ (ts : List PlainTerm). IsFaultOf kind (first_fault is.written.enums ts)) (asserted_built is.written.steps) (subst (λ (j : PlainJob). IsFaultOf kind (first_fault j.enums (asserted j.steps))) is.is_built h))

some_job : (left : Option (List ℕ)) (section : Section) (job : PlainJob) → IfSome left (λ bytes. IsBuiltFrom bytes section job) → IfSome left IsAJob
some_job None section job is = tt
some_job (Some bytes) section job is = (is.written, is.is_job)

-- why a job's script was not put
pub unprinted_known : (left old new : Option (List ℕ)) (failed : Type 0) (section : Section) (job : PlainJob) (r : Refusal) → IfSome left (λ bytes. IsBuiltFrom bytes section job) → HasPrintCause (first_fault job.enums (asserted job.steps)) failed r → WhyNotPrinted left old new r
unprinted_known left old new failed section job (Encode kind) is h = fault_in left section job kind is h
unprinted_known left old new failed section job Sink is h = some_job left section job is
unprinted_known left old new failed section job Memory is h = tt
unprinted_known left old new failed section job r is h = absurd h

-- why no script was put of what is no job
pub unread_known : (left old new : Option (List ℕ)) (failed : Type 0) (r : Refusal) → new ≡ old → HasReadCause left failed r → WhyNotPrinted left old new r
unread_known left old new failed (Job kind) same h = (h, same)
unread_known left old new failed Source same h = same
unread_known left old new failed Memory same h = tt
unread_known left old new failed r same h = absurd h
