-- Why a run is refused.
use Rattle.std.specs.Prelude.{ℕ, ◌≡◌, ⊤, is_some, map, IfSome, IsTrue, List, Option, Some, None}
use Rattle.law_folding.specs.Built.{built}
use Rattle.law_terms.specs.Plain.{PlainOp, PlainTerm, PlainType}
use Rattle.law_blasting.specs.Refusals.{Refusal as TermRefusal, UnsupportedOperator, UnsupportedType as TypeRefusal, first_refusal}
use Rattle.law_jobs.specs.Jobs.{IsJob, PlainJob}
use Rattle.law_jobs.specs.Steps.{current}
use Rattle.smt_encode.specs.declared.error.EncodeError.{EncodeError}
use Rattle.smt_encode.specs.declared.error.EncodeError.TheVariants.{Io, Memory as EncodeWant}
use Rattle.smt_runs.specs.Jobs.{IsRefusedAs}
use Rattle.smt_runs.specs.Runs.{Around}
use Rattle.smt_runs.specs.declared.refusal.BlastRefusal.{BlastRefusal}
use Rattle.smt_runs.specs.declared.refusal.BlastRefusal.TheVariants.{Unsupported, UnsupportedType}
use Rattle.smt_runs.specs.declared.refusal.Refusal.{Refusal}
use Rattle.smt_runs.specs.declared.refusal.Refusal.TheVariants.{Job, Blast, Source, Sink, Memory}

-- ---- jobs

-- the terms that are current behind all steps of a job, as they are built
abbrev pub current_terms : PlainJob → List PlainTerm
current_terms job = map built (current job.steps)

-- the first refusal of these terms, by the walk over each of them
abbrev pub refusal_in : PlainJob → Option TermRefusal
refusal_in job = first_refusal (current_terms job)

-- there is a refusal, and it is of this kind
abbrev pub IsRefusalOf : BlastRefusal → Option TermRefusal → Type 0
IsRefusalOf Unsupported refusal = (o : PlainOp) × (refusal ≡ Some (UnsupportedOperator o))
IsRefusalOf UnsupportedType refusal = (t : PlainType) × (refusal ≡ Some (TypeRefusal t))

-- a job has these bytes, and the first refusal of its current terms is of this kind
abbrev pub HasRefusalOf : BlastRefusal → List ℕ → Type 0
HasRefusalOf kind bytes = (job : PlainJob) × IsJob bytes job × IsRefusalOf kind (refusal_in job)

-- a job has these bytes, and its current terms have no refusal
abbrev pub IsTakenJob : List ℕ → Type 0
IsTakenJob bytes = (job : PlainJob) × IsJob bytes job × (refusal_in job ≡ None)

-- a job has these bytes, and its current terms have a refusal
abbrev pub IsUntakenJob : List ℕ → Type 0
IsUntakenJob bytes = (job : PlainJob) × IsJob bytes job × IsTrue (is_some (refusal_in job))

-- ---- causes: `failed` is the fact that a count of faults rose

-- why no blasted terms were read of a source
abbrev pub HasReadingCause : (left : Option (List ℕ)) → (failed : Type 0) → Refusal → Type 0
HasReadingCause left failed (Job kind) = IfSome left (IsRefusedAs kind)
HasReadingCause left failed (Blast kind) = IfSome left (HasRefusalOf kind)
HasReadingCause left failed Source = failed
HasReadingCause left failed Memory = ⊤
HasReadingCause left failed refusal = ⊥

-- why terms without a fault were not encoded: of an encoder's errors only two come
abbrev pub HasEncodeCause : (failed : Type 0) → EncodeError → Type 0
HasEncodeCause failed Io = failed
HasEncodeCause failed EncodeWant = ⊤
HasEncodeCause failed error = ⊥

-- why a script was not put
abbrev pub HasPutCause : (failed : Type 0) → Refusal → Type 0
HasPutCause failed Sink = failed
HasPutCause failed Memory = ⊤
HasPutCause failed refusal = ⊥

-- What is known where the script of a job was not put, besides what failed. One is put only of a job whose terms have no refusal.
abbrev pub WhyNotBlasted : (before after : Around (Unit {0})) → Refusal → Type 0
WhyNotBlasted before after (Job kind) = IfSome before.left (IsRefusedAs kind) × (after.held ≡ before.held)
WhyNotBlasted before after (Blast kind) = IfSome before.left (HasRefusalOf kind) × (after.held ≡ before.held)
WhyNotBlasted before after Source = after.held ≡ before.held
WhyNotBlasted before after Sink = IfSome before.left IsTakenJob
WhyNotBlasted before after Memory = ⊤
WhyNotBlasted before after refusal = ⊥
